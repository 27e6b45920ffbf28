use Rattle.std.proofs.Common.{◌≡◌, ◌++◌, drop}
use Rattle.std.specs.Prelude.{map}
use Rattle.ll_rights.specs.CodeRights.{fs_right}
use Rattle.ll_policy.specs.Policies.{rules_of}
use Rattle.ll_policy.proofs.MovesInRegions.{said_of}
use Rattle.ll_policy.proofs.moving.gained_in_regions.Given as goal

-- what is said of the rights so far, and of those that are left, is what is said of all
abbrev pub invariant-loop-right : goal.invariant-loop-right
invariant-loop-right l =
    map (λ layers. layers.items) l.made.items ++ said_of l.parents l.kind (map rules_of l.layers) (map fs_right (drop l.right-index l.right-items))
    ≡ said_of l.parents l.kind (map rules_of l.layers) (map fs_right l.right-items)
