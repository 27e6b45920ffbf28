-- A fork that was copied before it is changed has what it had.
use Rattle.std.proofs.Common.{◌≡◌, ◌≢◌, ℕ, ◌/◌, ◌^◌, ◌==◌, ◌⊎◌, inl, inr, Option, Some, None, true, Ok, Err, if◌then◌else◌, OnErr, arith, refl, sym, ap, ◌∙◌}
use Rattle.std.specs.declared.result.Result.{Result}
use Rattle.std.proofs.lemmas.Bool.Decides.{nat_tests}
use Rattle.std.proofs.lemmas.Result.{IfErr-at_err}
use Rattle.ll_shared.specs.declared.node.Four.{Four}
use Rattle.ll_shared.specs.Levels.{agree}
use Rattle.ll_shared.specs.Nodes.{behind, found_in, SameFour}
use Rattle.ll_shared.proofs.Behind.{behind_key, behind_put, behind_same}

pub on_err : {T E P : Type 0} (result : Result T E) → P → OnErr result P
on_err (Ok x) is = tt
on_err (Err e) is = is

found_in_copy : {V : Type 0} (old copy : Four V) → (copy ≡ old) ⊎ SameFour old copy → (q : ℕ) → found_in copy q ≡ found_in old q
found_in_copy old copy (inl same) q = ap (λ f. found_in f q) same
found_in_copy old copy (inr is) q = rw (is.zero.found, is.one.found, is.two.found, is.three.found) refl

module _ {V : Type 0} (old copy : Four V) (levels low : ℕ) where
  -- where there is no copy, nothing changes
  pub uncopied : {T E S D : Type 0} (made : Result T E) (returned : Result S D) (error : E) → made ≡ Err error → OnErr made ((copy ≡ old) ⊎ SameFour old copy)
      → OnErr returned ((q : ℕ) → behind levels low (found_in copy) q ≡ behind levels low (found_in old) q)
  uncopied made returned error was is =
      on_err returned (behind_same levels low (found_in old) (found_in copy)
      (found_in_copy old copy (IfErr-at_err (λ _. (copy ≡ old) ⊎ SameFour old copy) was is)))

  -- and where the copy is given nothing, nothing changes
  pub kept : {T E : Type 0} (returned : Result T E) (held new : Four V) → held ≡ new → (copy ≡ old) ⊎ SameFour old copy
      → ((q : ℕ) → found_in new q ≡ found_in copy q)
      → OnErr returned ((q : ℕ) → behind levels low (found_in held) q ≡ behind levels low (found_in old) q)
  kept returned held new same is told =
      on_err returned (behind_same levels low (found_in old) (found_in held)
      (λ q. ap (λ f. found_in f q) same ∙ told q ∙ found_in_copy old copy is q))

  -- what the copy has for the rest of a key, the fork has for the key
  pub known : (key rest : ℕ) (answer : Option V) → (agree levels key low ≡ true) × (rest ≡ key / 4 ^ levels) → (copy ≡ old) ⊎ SameFour old copy
      → answer ≡ found_in copy rest → answer ≡ behind levels low (found_in old) key
  known key rest answer seen is told =
      told ∙ (found_in_copy old copy is rest ∙ (ap (found_in old) seen.1 ∙ sym (behind_key levels low (found_in old) key seen.0)))

  -- what the copy is then given for the rest of a key, the fork that has it is given for the key
  pub given : (held new : Four V) (key rest : ℕ) (value : Option V) → (agree levels key low ≡ true) × (rest ≡ key / 4 ^ levels)
      → held ≡ new → (copy ≡ old) ⊎ SameFour old copy
      → ((q : ℕ) → found_in new q ≡ (if q == rest then value else found_in copy q))
      → (q : ℕ) → behind levels low (found_in held) q ≡ (if q == key then value else behind levels low (found_in old) q)
  given held new key rest value seen same is told =
      behind_put levels low (found_in old) (found_in held) key value seen.0
      (λ q. ap (λ f. found_in f q) same ∙ (told q ∙ (ap (λ o. if q == rest then value else o) (found_in_copy old copy is q)
      ∙ ap (λ k. if q == k then value else found_in old q) seen.1)))

-- a leaf holds the value of its key
pub held : {V : Type 0} (old : V) (known key : ℕ) → known ≡ key → Some old ≡ (if key == known then Some old else None)
held old known key same = grind (arith, nat_tests)

pub not_held : {V : Type 0} (old : V) (known key : ℕ) → known ≢ key → None ≡ (if key == known then Some old else None)
not_held old known key other = grind (arith, nat_tests)
