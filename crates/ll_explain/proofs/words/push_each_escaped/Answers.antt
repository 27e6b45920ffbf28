use Rattle.std.proofs.Common.{◌∙◌, ap, sym}
use Rattle.std.proofs.lemmas.List.{nil_from_length}
use Rattle.json.specs.Print.{escape, escape_byte}
use Rattle.ll_explain.specs.Buffers.{adding}
use Rattle.ll_explain.proofs.Buffering.{adding_nothing, goes_on}
use Rattle.ll_explain.proofs.words.push_each_escaped.Goals as goal

pub loop-byte-preserved : goal.loop-byte-preserved
loop-byte-preserved c =
    goes_on c.loop-byte.text _ _ (escape_byte c.in-Some.byte) (escape c.next.new.self.rest.now)
    (ap (λ rest. adding c.loop-byte.text (escape rest)) (sym c.in-Some.ensures.steps) ∙ c.loop-byte.invariant) c.push_escaped_byte.ensures

pub returns : goal.returns
returns c =
    adding_nothing c.loop-byte.text ∙ ap (λ rest. adding c.loop-byte.text (escape rest)) (sym (nil_from_length _ c.in-None.ensures.steps.0))
    ∙ c.loop-byte.invariant
