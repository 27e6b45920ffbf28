-- The worked policies let the same chains pass.
use Rattle.std.proofs.Common.{◌≡◌, ℕ, Bool, true, false, ◌&&◌, List, [], ◌∷◌, refl, sym, ◌∙◌}
use Rattle.std.proofs.lemmas.Bool.{and_parts, and_from, false≢true}
use Rattle.ll_rights.specs.Rights.{execute}
use Rattle.ll_policy.specs.Chains.{lets, some_among, passes}
use Rattle.ll_policy.specs.Granted.{granting, NothingMoreOnObjects}
use Rattle.ll_policy.specs.WorkedPolicies.{in_b, nowhere, both, stricter}

none_among : (chain : List ℕ) → some_among chain [] ≡ false
unfolding some_among Rattle.ll_policy.specs.Chains.is_among
none_among [] = refl
none_among (object ∷ chain) = none_among chain

pub stricter_lets_more_nowhere : (is_file : ℕ → Bool) → NothingMoreOnObjects is_file both stricter
unfolding passes lets Rattle.ll_rules.specs.WorkedRules.checking
stricter_lets_more_nowhere is_file execute chain is begins passing =
    absurd (false≢true (sym (none_among chain) ∙ (and_parts (lets chain (granting execute nowhere)) true passing).0))
stricter_lets_more_nowhere is_file right chain is begins passing =
    let first = (and_parts (lets chain (granting right nowhere)) true passing).0 in
    and_from (lets chain (granting right in_b)) (lets chain (granting right nowhere) && true) first passing

pub both_let_more_nowhere : (is_file : ℕ → Bool) → NothingMoreOnObjects is_file stricter both
unfolding passes
both_let_more_nowhere is_file right chain is begins passing =
    (and_parts (lets chain (granting right in_b)) (lets chain (granting right nowhere) && true) passing).1
