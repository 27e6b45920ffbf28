use Rattle.std.proofs.Common.{map, take, Ok}
use Rattle.std.specs.List.{AllZip}
use Rattle.std.specs.Fn.{FnReturnsAtPair}
use Rattle.ll_rights.specs.CodeRights.{fs_right}
use Rattle.ll_policy.specs.Found.{said}
use Rattle.ll_policy.specs.Policies.{rules_of}
use Rattle.ll_policy.proofs.comparing.found_of_each.Given as goal

-- what is found of the rights so far
abbrev pub invariant-loop-right : goal.invariant-loop-right
invariant-loop-right g l =
    AllZip
    (λ right told. FnReturnsAtPair g.F.Fn l.compare (said l.asked (fs_right right) (map rules_of l.old))
    (said l.asked (fs_right right) (map rules_of l.new)) (Ok told))
    (take l.right-index l.right-items) l.found.items
