use Rattle.std.proofs.Common.{◌≡◌, drop}
use Rattle.ll_explain.specs.Buffers.{adding}
use Rattle.ll_explain.specs.Lines.{lines_from}
use Rattle.ll_explain.proofs.objections.push_lines.Given as goal

-- what is said and what is left make the whole
abbrev pub invariant-loop-one : goal.invariant-loop-one
invariant-loop-one l =
    adding l.text (lines_from l.tree l.records l.before (drop l.one-index l.all)) ≡ adding l.fn.text (lines_from l.tree l.records 0 l.all)
