use Rattle.std.proofs.Common.{◌∙◌, ap, decimal}
use Rattle.ll_explain.specs.Buffers.{adding}
use Rattle.ll_explain.specs.Lines.{head_of}
use Rattle.ll_explain.proofs.Appending.{appended_3}
use Rattle.ll_explain.proofs.objections.push_head.Goals as goal

pub returns : goal.returns
unfolding head_of
returns c =
    appended_3 c.args.text.now _ _ _ _ _ _ c.push_numbered.ensures
    (c.push_number.ensures ∙ ap (λ n. adding c.push_numbered.new.text (decimal n)) c.line_made.ensures) c.push_words.ensures
