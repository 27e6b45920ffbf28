use Rattle.std.proofs.Common.{◌≡◌, drop}
use Rattle.ll_json.specs.Writing.{writing}
use Rattle.ll_json.specs.Layering.{objections_from}
use Rattle.ll_json.proofs.objections.write_each.Given as goal

-- what is written and what is left make the whole
abbrev pub invariant-loop-one : goal.invariant-loop-one
invariant-loop-one l =
    let left = objections_from l.here.tree.now l.here.records.now in
    writing l.out (left l.before (drop l.one-index l.all)) ≡ writing l.fn.out (left 0 l.all)
