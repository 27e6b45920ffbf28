-- A layer that passes no test is not among the numbers of those that do.
use Rattle.std.proofs.Common.{◌≡◌, ◌≢◌, ℕ, zero, suc, ◌+◌, ◌<◌, Bool, true, false, List, [], ◌∷◌, ◌++◌, nat_eq, slice_set, refl, arith, if◌then◌else◌}
use Rattle.std.specs.List.{list_any}
use Rattle.std.proofs.lemmas.Bool.{ne_eqb}
use Rattle.ll_rules.specs.Checks.{numbers_from, numbers_where}

one_apart : (b : Bool) (i n : ℕ) (rest : List ℕ) → i ≢ n → list_any (nat_eq i) rest ≡ false → list_any (nat_eq i) ((if b then n ∷ [] else []) ++ rest) ≡ false
one_apart true i n rest other none = rw (ne_eqb i n other) none
one_apart false i n rest other none = none

module _ {L : Type 0} (test : L → Bool) where
  none_below : (i n : ℕ) (layers : List L) → i < n → list_any (nat_eq i) (numbers_from test n layers) ≡ false
  unfolding numbers_from
  none_below i n [] less = refl
  none_below i n (layer ∷ layers) less =
      one_apart (test layer) i n (numbers_from test (n + 1) layers) (λ same. omega (arith, same)) (none_below i (n + 1) layers (omega arith))

  none_there : (n k i : ℕ) (layers : List L) (layer : L) → i ≡ n + k → test layer ≡ false
      → list_any (nat_eq i) (numbers_from test n (slice_set layers k layer)) ≡ false
  unfolding numbers_from
  none_there n k i [] layer is fails = refl
  none_there n zero i (x ∷ layers) layer is fails = rw fails (none_below i (n + 1) layers (omega arith))
  none_there n (suc k) i (x ∷ layers) layer is fails =
      one_apart (test x) i n (numbers_from test (n + 1) (slice_set layers k layer)) (λ same. omega (arith, same, is))
      (none_there (n + 1) k i layers layer (omega arith) fails)

  pub not_refusing : (layers : List L) (k : ℕ) (layer : L) → test layer ≡ false
      → list_any (nat_eq (k + 1)) (numbers_where test (slice_set layers k layer)) ≡ false
  not_refusing layers k layer fails = none_there 1 k (k + 1) layers layer (omega arith) fails
