use Rattle.std.proofs.Common.{◌≡◌, ℕ, ◌||◌, drop}
use Rattle.std.specs.List.{list_all}
use Rattle.ll_policy.specs.Chains.{is_among, is_file_in, places_from, places_of}
use Rattle.ll_policy.proofs.deciding.are_held.Given as goal

-- what is left is held exactly if all is
abbrev pub invariant-loop-object : goal.invariant-loop-object
invariant-loop-object l =
    list_all (λ (object : ℕ). is_file_in l.files object || is_among object l.old.grants) (places_from l.object (drop l.object l.on))
    ≡ list_all (λ (object : ℕ). is_file_in l.files object || is_among object l.old.grants) (places_of l.on)
