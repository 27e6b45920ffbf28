-- The indices of a process's own records, one after another.
use Rattle.std.proofs.Common.{◌≡◌, ◌≢◌, ℕ, zero, suc, ◌+◌, ◌<◌, ◌≤◌, List, [], ◌∷◌, length, Some, refl, sym, ap, ◌∙◌, inl, inr, arith}
use Rattle.std.specs.Prelude.{slice_get}
use Rattle.std.proofs.lemmas.Bool.{cases_eq, cases_lt, eq-eqb, ne_eqb}
use Rattle.std.proofs.lemmas.Option.{none-some, same_Some}
use Rattle.ll_trace.specs.declared.op.Record.{Record}
use Rattle.ll_trace.specs.Processes.{own_from, own_records}

-- where a list has an index, something is there
pub stands_at : {A : Type 0} (xs : List A) (k : ℕ) → k < length xs → (x : A) × (slice_get xs k ≡ Some x)
stands_at [] k within = absurd (omega arith)
stands_at (x ∷ xs) zero within = (x, refl)
stands_at (x ∷ xs) (suc k) within = stands_at xs k (omega arith)

pub own_from-yes : (p b : ℕ) (r : Record) (rs : List Record) → r.process.0 ≡ p → own_from p b (r ∷ rs) ≡ b ∷ own_from p (b + 1) rs
unfolding own_from
own_from-yes p b r rs own = rw (eq-eqb r.process.0 p own) refl

pub own_from-no : (p b : ℕ) (r : Record) (rs : List Record) → r.process.0 ≢ p → own_from p b (r ∷ rs) ≡ own_from p (b + 1) rs
unfolding own_from
own_from-no p b r rs other = rw (ne_eqb r.process.0 p other) refl

pub own_from-nil : (p b : ℕ) → own_from p b [] ≡ []
unfolding own_from
own_from-nil p b = refl

not_in_none : (p b j i : ℕ) → slice_get (own_from p b []) j ≡ Some i → ⊥
unfolding own_from
not_in_none p b j i eq = none-some i eq

-- an index among the own records is that of an own record
pub record OwnAt (p b : ℕ) (rs : List Record) (i : ℕ) : Type 0 where
  pub ahead : ℕ
  pub index : i ≡ b + ahead
  pub of : Record
  pub at : slice_get rs ahead ≡ Some of
  pub own : of.process.0 ≡ p

later : (p b : ℕ) (r : Record) (rs : List Record) (i : ℕ) → OwnAt p (b + 1) rs i → OwnAt p b (r ∷ rs) i
later p b r rs i one = record { ahead = suc one.ahead; index = omega (arith, one.index); of = one.of; at = one.at; own = one.own }

pub own_at : (p b : ℕ) (rs : List Record) (j i : ℕ) → slice_get (own_from p b rs) j ≡ Some i → OwnAt p b rs i
own_at p b [] j i eq = absurd (not_in_none p b j i eq)
own_at p b (r ∷ rs) zero i eq = elim (cases_eq r.process.0 p) [
  | inl own ↦ record { ahead = 0; index = omega (arith, same_Some b i (rw (own_from-yes p b r rs own) at eq)); of = r; at = refl; own = own }
  | inr other ↦ later p b r rs i (own_at p (b + 1) rs zero i (rw (own_from-no p b r rs other) at eq))
]
own_at p b (r ∷ rs) (suc j) i eq = elim (cases_eq r.process.0 p) [
  | inl own ↦ later p b r rs i (own_at p (b + 1) rs j i (rw (own_from-yes p b r rs own) at eq))
  | inr other ↦ later p b r rs i (own_at p (b + 1) rs (suc j) i (rw (own_from-no p b r rs other) at eq))
]

-- the indices rise
rising : (p b : ℕ) (rs : List Record) (j l i k : ℕ) → slice_get (own_from p b rs) j ≡ Some i → slice_get (own_from p b rs) l ≡ Some k → j < l → i < k
rising p b [] j l i k eq there less = absurd (not_in_none p b j i eq)
rising p b rs j zero i k eq there less = absurd (omega arith)
rising p b (r ∷ rs) zero (suc l) i k eq there less = elim (cases_eq r.process.0 p) [
  | inl own ↦ omega (arith, same_Some b i (rw (own_from-yes p b r rs own) at eq), (own_at p (b + 1) rs l k (rw (own_from-yes p b r rs own) at there)).index)
  | inr other ↦ rising p (b + 1) rs zero (suc l) i k (rw (own_from-no p b r rs other) at eq) (rw (own_from-no p b r rs other) at there) less
]
rising p b (r ∷ rs) (suc j) (suc l) i k eq there less = elim (cases_eq r.process.0 p) [
  | inl own ↦ rising p (b + 1) rs j l i k (rw (own_from-yes p b r rs own) at eq) (rw (own_from-yes p b r rs own) at there) (omega arith)
  | inr other ↦ rising p (b + 1) rs (suc j) (suc l) i k (rw (own_from-no p b r rs other) at eq) (rw (own_from-no p b r rs other) at there) less
]

-- each own record has its index
has_index : (p b : ℕ) (rs : List Record) (m : ℕ) (r : Record) → slice_get rs m ≡ Some r → r.process.0 ≡ p
    → (j : ℕ) × (slice_get (own_from p b rs) j ≡ Some (b + m))
has_index p b [] m r eq own = absurd (none-some r eq)
has_index p b (x ∷ rs) zero r eq own =
    let here : x.process.0 ≡ p = ap (λ (y : Record). y.process.0) (same_Some x r eq) ∙ own in
    let same : b ≡ b + 0 = omega arith in
    (0, rw (own_from-yes p b x rs here) (ap (λ (n : ℕ). Some n) same))
has_index p b (x ∷ rs) (suc m) r eq own =
    let (j, there) = has_index p (b + 1) rs m r eq own in
    let same : b + 1 + m ≡ b + suc m = omega arith in
    elim (cases_eq x.process.0 p) [
      | inl here ↦ (suc j, rw (own_from-yes p b x rs here) (there ∙ ap (λ (n : ℕ). Some n) same))
      | inr other ↦ (j, rw (own_from-no p b x rs other) (there ∙ ap (λ (n : ℕ). Some n) same))
    ]

module _ (records : List Record) (p : ℕ) where
  -- the record at an index among a process's own records
  pub own_record : (j i : ℕ) → slice_get (own_records records p) j ≡ Some i → (r : Record) × (slice_get records i ≡ Some r) × (r.process.0 ≡ p)
  unfolding own_records
  own_record j i eq =
      let one : OwnAt p 0 records i = own_at p 0 records j i eq in
      (one.of, ap (λ n. slice_get records n) (let here : i ≡ one.ahead = omega (arith, one.index) in here) ∙ one.at, one.own)

  pub own_index : (m : ℕ) (r : Record) → slice_get records m ≡ Some r → r.process.0 ≡ p → (j : ℕ) × (slice_get (own_records records p) j ≡ Some m)
  unfolding own_records
  own_index m r eq own =
      let (j, there) = has_index p 0 records m r eq own in
      (j, there ∙ (let same : 0 + m ≡ m = omega arith in ap (λ (n : ℕ). Some n) same))

  pub own_rising : (j l i k : ℕ) → slice_get (own_records records p) j ≡ Some i → slice_get (own_records records p) l ≡ Some k → j < l → i < k
  unfolding own_records
  own_rising j l i k eq there less = rising p 0 records j l i k eq there less

  -- no own record is before the first index, and none between one index and the next
  pub first_own : (i m : ℕ) (r : Record) → slice_get (own_records records p) 0 ≡ Some i → slice_get records m ≡ Some r → r.process.0 ≡ p → i ≤ m
  first_own i m r first eq own = by_index (own_index m r eq own)
    where
      by_index : (j : ℕ) × (slice_get (own_records records p) j ≡ Some m) → i ≤ m
      by_index (zero, there) = omega (arith, same_Some i m (sym first ∙ there))
      by_index (suc j, there) = omega (arith, own_rising 0 (suc j) i m first there (omega arith))

  pub next_own : (j i k m : ℕ) (r : Record) → slice_get (own_records records p) j ≡ Some i → slice_get (own_records records p) (suc j) ≡ Some k
      → slice_get records m ≡ Some r → r.process.0 ≡ p → i < m → k ≤ m
  next_own j i k m r here next eq own past =
      let (l, there) = own_index m r eq own in
      elim (cases_lt l (suc j)) [
        | inl before ↦ elim (cases_lt l j) [
          | inl less ↦ absurd (omega (arith, own_rising l j m i there here less))
          | inr same ↦ absurd (let is : l ≡ j = omega arith in omega (arith, same_Some m i (sym there ∙ ap (slice_get (own_records records p)) is ∙ here)))
        ]
        | inr after ↦ elim (cases_lt (suc j) l) [
          | inl less ↦ omega (arith, own_rising (suc j) l k m next there less)
          | inr same ↦ (let is : l ≡ suc j = omega arith in omega (arith, same_Some m k (sym there ∙ ap (slice_get (own_records records p)) is ∙ next)))
        ]
      ]
