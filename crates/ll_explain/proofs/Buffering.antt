-- What a buffer holds after texts were added to it, one after another.
use Rattle.std.proofs.Common.{◌≡◌, ◌∙◌, ℕ, suc, ◌+◌, ◌-◌, ◌<◌, ◌≤◌, List, [], ◌∷◌, ◌++◌, length, take}
use Rattle.std.proofs.Common.{drop, min, refl, sym, ap, ap₂, arith, inl, inr, append_assoc}
use Rattle.std.proofs.Math.Nat.{le_of_lt, min-eq_left, min-eq_right}
use Rattle.std.proofs.Math.Seq.{take-append-add, take-length}
use Rattle.std.specs.Prelude.{◌⊎◌, if◌then◌else◌}
use Rattle.std.proofs.lemmas.Bool.{cases_lt, le-ltb, lt-ltb}
use Rattle.std.proofs.lemmas.List.{append-nil, length-take, length-take-le, take-append-le, take_all, drop_all}
use Rattle.std.proofs.lemmas.List.Sums.{fold-append}
use Rattle.ll_explain.specs.Buffers.{Buffered, adding, blank, from_byte, most_counted, with_byte}

pub adding_nothing : (buffer : Buffered) → buffer ≡ adding buffer []
unfolding adding
adding_nothing buffer = refl

pub adding_both : (buffer : Buffered) (a b : List ℕ) → adding (adding buffer a) b ≡ adding buffer (a ++ b)
unfolding adding
adding_both buffer a b = sym (fold-append with_byte buffer a b)

-- a buffer of these fields
abbrev pub filled : ℕ → ℕ → ℕ → List ℕ → Buffered
filled room skip count held = record { room = room; skip = skip; count = count; held = held }

capped : (count more : ℕ) → min (min (count + 1) most_counted + more) most_counted ≡ min (count + suc more) most_counted
capped count more = grind arith

whole : (count : ℕ) → count ≤ most_counted → count ≡ min (count + 0) most_counted
whole count few = grind (arith, few)

take_again : (room : ℕ) (text more : List ℕ) → take room (take room text ++ more) ≡ take room (text ++ more)
take_again room text more = elim (cases_lt room (length text)) [
  | inl longer ↦
      let short : length (take room text) ≡ room = length-take-le room text (le_of_lt longer) in
      take-append-le room (take room text) more (omega (arith, short)) ∙ take_all room (take room text) (omega (arith, short))
      ∙ sym (take-append-le room text more (le_of_lt longer))
  | inr fits ↦ ap (λ t. take room (t ++ more)) (take_all room text fits)
]

-- a byte that is left out, and one that is not
left_out : (room skip count : ℕ) (held : List ℕ) (byte : ℕ) → count < skip →
    with_byte (filled room skip count held) byte ≡ filled room skip (min (count + 1) most_counted) held
unfolding with_byte
left_out room skip count held byte before =
    ap (λ b. filled room skip (min (count + 1) most_counted) (if b then held else take room (held ++ byte ∷ []))) (lt-ltb count skip before)

taken_in : (room skip count : ℕ) (held : List ℕ) (byte : ℕ) → skip ≤ count →
    with_byte (filled room skip count held) byte ≡ filled room skip (min (count + 1) most_counted) (take room (held ++ byte ∷ []))
unfolding with_byte
taken_in room skip count held byte past =
    ap (λ b. filled room skip (min (count + 1) most_counted) (if b then held else take room (held ++ byte ∷ []))) (le-ltb count skip past)

next_left_out : (skip count byte : ℕ) (bytes : List ℕ) → count < skip → skip ≤ most_counted →
    drop (skip - min (count + 1) most_counted) bytes ≡ drop (skip - count) (byte ∷ bytes)
next_left_out skip count byte bytes before few =
    let more : skip - count ≡ suc (skip - min (count + 1) most_counted) = grind (arith, before, few) in
    sym (ap (λ n. drop n (byte ∷ bytes)) more)

next_taken_in : (skip count : ℕ) (bytes : List ℕ) → skip ≤ count → drop (skip - count) bytes ≡ bytes
next_taken_in skip count bytes past =
    let none : skip - count ≡ 0 = omega (arith, past) in
    ap (λ n. drop n bytes) none

-- bytes that are not left out are held as far as there is room
pub added : (room skip count : ℕ) (held bytes : List ℕ) → length held ≤ room → count ≤ most_counted → skip ≤ most_counted →
    adding (filled room skip count held) bytes
    ≡ filled room skip (min (count + length bytes) most_counted) (take room (held ++ drop (skip - count) bytes))
unfolding adding
added room skip count held [] fits few low =
    ap₂ (filled room skip) (whole count few)
    (sym (ap (λ l. take room (held ++ l)) (drop_all (skip - count) [] (omega arith)) ∙ ap (take room) (append-nil held) ∙ take_all room held fits))
added room skip count held (byte ∷ bytes) fits few low = elim (cases_lt count skip) [
  | inl before ↦
      ap (λ b. adding b bytes) (left_out room skip count held byte before)
      ∙ added room skip (min (count + 1) most_counted) held bytes fits (grind arith) low
      ∙ ap₂ (filled room skip) (capped count (length bytes)) (ap (λ l. take room (held ++ l)) (next_left_out skip count byte bytes before low))
  | inr past ↦
      ap (λ b. adding b bytes) (taken_in room skip count held byte past)
      ∙ added room skip (min (count + 1) most_counted) (take room (held ++ byte ∷ [])) bytes
      (omega (arith, length-take room (held ++ byte ∷ []))) (grind arith) low
      ∙ ap₂ (filled room skip) (capped count (length bytes))
      (ap (λ l. take room (take room (held ++ byte ∷ []) ++ l)) (next_taken_in skip (min (count + 1) most_counted) bytes (grind (arith, past, low)))
      ∙ take_again room (held ++ byte ∷ []) bytes ∙ ap (take room) (append_assoc held (byte ∷ []) bytes)
      ∙ sym (ap (λ l. take room (held ++ l)) (next_taken_in skip count (byte ∷ bytes) past)))
]

-- the part of some bytes for which there is room
pub part_held : (room : ℕ) (held bytes : List ℕ) → length held ≤ room →
    held ++ take (min (length bytes) (room - length held)) bytes ≡ take room (held ++ bytes)
part_held room held bytes fits =
    let more = room - length held in
    let room_is : length held + more ≡ room = omega (arith, fits) in
    ap (λ part. held ++ part) (part_is more (cases_lt more (length bytes)))
    ∙ sym (ap (λ n. take n (held ++ bytes)) (sym room_is) ∙ take-append-add held bytes more) where
      part_is : (more : ℕ) → (more < length bytes) ⊎ (length bytes ≤ more) → take (min (length bytes) more) bytes ≡ take more bytes
      part_is more (inl longer) = ap (λ n. take n bytes) (min-eq_right (le_of_lt longer))
      part_is more (inr fits) = ap (λ n. take n bytes) (min-eq_left fits) ∙ take-length bytes ∙ sym (take_all more bytes fits)

-- what is left of some bytes without so many of them, or without all
pub wanted : (out : ℕ) (bytes : List ℕ) → drop (min out (length bytes)) bytes ≡ drop out bytes
wanted out bytes = elim (cases_lt out (length bytes)) [
  | inl within ↦ ap (λ n. drop n bytes) (min-eq_left (le_of_lt within))
  | inr past ↦ drop_all (min out (length bytes)) bytes (grind (arith, past)) ∙ sym (drop_all out bytes past)
]

-- a loop adds the next text, and then the rest
pub goes_on : (before after whole : Buffered) (next rest : List ℕ) → adding before (next ++ rest) ≡ whole → after ≡ adding before next
    → adding after rest ≡ whole
goes_on before after whole next rest so_far added = ap (λ b. adding b rest) added ∙ adding_both before next rest ∙ so_far

-- what a buffer counts of a text that is added to an empty one, and what it holds
pub counted : (room skip : ℕ) (bytes : List ℕ) → skip ≤ most_counted → (adding (from_byte skip room) bytes).count ≡ min (0 + length bytes) most_counted
counted room skip bytes low = ap (λ (b : Buffered). b.count) (added room skip 0 [] bytes (omega arith) (omega arith) low)

pub window : (room skip : ℕ) (bytes : List ℕ) → skip ≤ most_counted → (adding (from_byte skip room) bytes).held ≡ take room (drop skip bytes)
window room skip bytes low =
    let all : skip - 0 ≡ skip = omega arith in
    ap (λ (b : Buffered). b.held) (added room skip 0 [] bytes (omega arith) (omega arith) low) ∙ ap (λ n. take room (drop n bytes)) all

-- a text that is counted by a buffer without room, and then added to one with as much room, is held whole
pub held_whole : (bytes : List ℕ) → (adding (blank 0) bytes).count < most_counted →
    (adding (blank (adding (blank 0) bytes).count) bytes).held ≡ bytes
held_whole bytes few =
    let room = (adding (blank 0) bytes).count in
    window room 0 bytes (omega arith) ∙ take_all room bytes (omega (arith, counted 0 0 bytes (omega arith), few))

-- the same, of buffers that were found to be so
pub held_as_counted : (bytes : List ℕ) (counter text : Buffered) (room : ℕ) → counter ≡ adding (blank 0) bytes → room ≡ counter.count → room < most_counted
    → text ≡ adding (blank room) bytes → text.held ≡ bytes
held_as_counted bytes counter text room is_counter is_room few is_text =
    let counted : room ≡ (adding (blank 0) bytes).count = is_room ∙ ap (λ (b : Buffered). b.count) is_counter in
    ap (λ (b : Buffered). b.held) is_text ∙ ap (λ (n : ℕ). (adding (blank n) bytes).held) counted ∙ held_whole bytes (omega (arith, counted, few))
