use Rattle.std.proofs.Common.{◌≡◌}
use Rattle.json.specs.Print.{escape}
use Rattle.ll_explain.specs.Buffers.{adding}
use Rattle.ll_explain.proofs.words.push_each_escaped.Given as goal

-- what is written and what is left make the whole
abbrev pub invariant-loop-byte : goal.invariant-loop-byte
invariant-loop-byte l = adding l.text (escape l.byte-iterator.rest.now) ≡ adding l.fn.text (escape l.path)
