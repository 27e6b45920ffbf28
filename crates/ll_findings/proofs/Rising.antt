-- Indices in rising order, and where one of them is.
use Rattle.std.proofs.Common.{◌≡◌, ◌≢◌, ◌∙◌, ◌<◌, ◌≤◌, ◌+◌, ◌++◌, ℕ, zero, suc, List, []}
use Rattle.std.proofs.Common.{◌∷◌, length, get_or, Some, None, refl, sym, ap, subst, inl, inr, arith}
use Rattle.std.specs.Prelude.{option_map, slice_get}
use Rattle.std.specs.List.{All}
use Rattle.std.proofs.lemmas.Bool.{cases_lt, eq-eqb, ne_eqb}
use Rattle.std.proofs.lemmas.List.Elements.{All-head, All-tail}
use Rattle.std.proofs.lemmas.Option.{get_or_from_slice_get, none-some, same_Some, slice_get_read}
use Rattle.ll_findings.specs.Overlays.{Rise, where_in}

-- ---- what rises

pub rises_weaker : (bound lower : ℕ) (indices : List ℕ) → lower ≤ bound → Rise bound indices → Rise lower indices
unfolding Rise
rises_weaker bound lower [] below rise = tt
rises_weaker bound lower (first ∷ indices) below rise = (omega (arith, below, rise.0), rise.1)

-- an index that is behind all others
pub rises_on : (from middle : ℕ) (indices more : List ℕ) → from ≤ middle → Rise from indices → All (λ index. index < middle) indices → Rise middle more
    → Rise from (indices ++ more)
unfolding Rise
rises_on from middle [] more below rise before behind = rises_weaker middle from more below behind
rises_on from middle (first ∷ indices) more below rise before behind =
    let lower : first < middle = All-head (λ index. index < middle) first indices before in
    (rise.0, rises_on (suc first) middle indices more (omega (arith, lower)) rise.1 (All-tail (λ index. index < middle) first indices before) behind)

-- each is at least the bound
rises_at : (bound position index : ℕ) (indices : List ℕ) → Rise bound indices → slice_get indices position ≡ Some index → bound ≤ index
unfolding Rise
rises_at bound position index [] rise is = absurd (none-some index is)
rises_at bound zero index (first ∷ indices) rise is = subst (λ (n : ℕ). bound ≤ n) (same_Some first index is) rise.0
rises_at bound (suc position) index (first ∷ indices) rise is =
    let above : suc first ≤ index = rises_at (suc first) position index indices rise.1 is in omega (arith, above, rise.0)

-- all before a position are below what is there
pub below_there : (bound position index : ℕ) (indices : List ℕ) → Rise bound indices → slice_get indices position ≡ Some index
    → (at : ℕ) → at < position → get_or indices at 0 < index
unfolding Rise
below_there bound position index [] rise is at before = absurd (none-some index is)
below_there bound zero index (first ∷ indices) rise is at before = absurd (omega (arith, before))
below_there bound (suc position) index (first ∷ indices) rise is zero before = rises_at (suc first) position index indices rise.1 is
below_there bound (suc position) index (first ∷ indices) rise is (suc at) before =
    below_there (suc first) position index indices rise.1 is at (omega (arith, before))

-- ---- where an index is

pub skipped : (index first : ℕ) (indices : List ℕ) → first ≢ index → where_in index (first ∷ indices) ≡ option_map suc (where_in index indices)
unfolding where_in
skipped index first indices other = rw (ne_eqb first index other) refl

pub none_from : (index bound : ℕ) (indices : List ℕ) → Rise bound indices → index < bound → where_in index indices ≡ None
unfolding Rise where_in
none_from index bound [] rise below = refl
none_from index bound (first ∷ indices) rise below =
    skipped index first indices (λ same. omega (arith, same, below, rise.0))
    ∙ ap (option_map suc) (none_from index (suc first) indices rise.1 (omega (arith, below, rise.0)))

pub found_there : (index bound position : ℕ) (indices : List ℕ) → Rise bound indices → slice_get indices position ≡ Some index
    → Some position ≡ where_in index indices
unfolding Rise where_in
found_there index bound position [] rise is = absurd (none-some index is)
found_there index bound zero (first ∷ indices) rise is = rw (eq-eqb first index (same_Some first index is)) refl
found_there index bound (suc position) (first ∷ indices) rise is =
    let above : suc first ≤ index = rises_at (suc first) position index indices rise.1 is in
    ap (option_map suc) (found_there index (suc first) position indices rise.1 is)
    ∙ sym (skipped index first indices (λ same. omega (arith, same, above)))

pub passed : (index bound position at : ℕ) (indices : List ℕ) → Rise bound indices → slice_get indices position ≡ Some at → index < at
    → ((i : ℕ) → i < position → get_or indices i 0 < index) → None ≡ where_in index indices
unfolding Rise where_in
passed index bound position at [] rise is above before = absurd (none-some at is)
passed index bound zero at (first ∷ indices) rise is above before =
    sym (none_from index at (first ∷ indices) (subst (λ (n : ℕ). n ≤ first) (same_Some first at is) (omega arith), rise.1) above)
passed index bound (suc position) at (first ∷ indices) rise is above before =
    let below : first < index = before 0 (omega arith) in
    ap (option_map suc) (passed index (suc first) position at indices rise.1 is above (λ i within. before (suc i) (omega (arith, within))))
    ∙ sym (skipped index first indices (λ same. omega (arith, same, below)))

pub all_passed : (index : ℕ) (indices : List ℕ) → ((i : ℕ) → i < length indices → get_or indices i 0 < index) → None ≡ where_in index indices
unfolding where_in
all_passed index [] before = refl
all_passed index (first ∷ indices) before =
    let below : first < index = before 0 (omega arith) in
    ap (option_map suc) (all_passed index indices (λ i within. before (suc i) (omega (arith, within))))
    ∙ sym (skipped index first indices (λ same. omega (arith, same, below)))

-- all up to a position are below an index that is above what is there
pub all_before : (indices : List ℕ) (last position index there : ℕ) → Rise 0 indices → position ≡ last + 1 → last < length indices
    → there ≡ get_or indices last there → there < index → (at : ℕ) → at < position → get_or indices at 0 < index
all_before indices last position index there rise next within is below at before =
    let read : slice_get indices last ≡ Some there = slice_get_read indices (length indices) last there refl within is in
    elim (cases_lt at last) [
      | inl lower ↦ let under = below_there 0 last there indices rise read at lower in omega (arith, under, below)
      | inr higher ↦
          let same : last ≡ at = omega (arith, higher, before, next) in
          subst (λ (n : ℕ). get_or indices n 0 < index) same
          (subst (λ (n : ℕ). n < index) (sym (get_or_from_slice_get indices last there 0 read)) below)
    ]

-- ---- where all indices from a bound to an end are among others

no_more : (bound end : ℕ) (indices : List ℕ) → bound ≤ end → Rise bound indices → All (λ index. index < end) indices → bound + length indices ≤ end
unfolding Rise
no_more bound end [] below rise under = omega (arith, below)
no_more bound end (first ∷ indices) below rise under =
    let lower : first < end = All-head (λ index. index < end) first indices under in
    let rest : suc first + length indices ≤ end =
    no_more (suc first) end indices (omega (arith, lower)) rise.1 (All-tail (λ index. index < end) first indices under) in
    omega (arith, rest, rise.0)

behind_first : (bound first position : ℕ) (indices : List ℕ) → first ≡ bound
    → ((later : ℕ) → suc later ≡ position → where_in (bound + position) indices ≡ Some later) → where_in (bound + position) (first ∷ indices) ≡ Some position
unfolding where_in
behind_first bound first zero indices same others = rw (eq-eqb first (bound + 0) (omega (arith, same))) refl
behind_first bound first (suc later) indices same others =
    skipped (bound + suc later) first indices (λ is. omega (arith, is, same)) ∙ ap (option_map suc) (others later refl)

pub each_there : (bound end position : ℕ) (indices : List ℕ) → Rise bound indices → All (λ index. index < end) indices → bound + length indices ≡ end
    → position < length indices → where_in (bound + position) indices ≡ Some position
unfolding Rise where_in
each_there bound end position [] rise under all within = absurd (omega (arith, within))
each_there bound end position (first ∷ indices) rise under all within =
    let lower : first < end = All-head (λ index. index < end) first indices under in
    let others : All (λ index. index < end) indices = All-tail (λ index. index < end) first indices under in
    let rest : suc first + length indices ≤ end = no_more (suc first) end indices (omega (arith, lower)) rise.1 others in
    let same : first ≡ bound = omega (arith, rest, all, rise.0) in
    behind_first bound first position indices same
    (λ later is. subst (λ (n : ℕ). where_in n indices ≡ Some later) (omega (arith, same, is))
    (each_there (suc first) end later indices rise.1 others (omega (arith, rest, all, rise.0)) (omega (arith, within, is))))
