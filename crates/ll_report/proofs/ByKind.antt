-- The text of rows by kind is that of the kinds.
use Rattle.std.proofs.Common.{◌≡◌, ◌++◌, ℕ, Bool, true, false, cond, List, [], ◌∷◌, refl, ap, length}
use Rattle.std.specs.Prelude.{filter, if◌then◌else◌, map}
use Rattle.std.specs.List.{flat_map, range_with_len}
use Rattle.ll_report.specs.Counted.{by_kind, grouped}
use Rattle.ll_report.specs.Kinds.{is_first, kind_from, kind_text, kinds_text}
use Rattle.ll_report.specs.Made.{Made, text_of}

-- texts of those that pass a test, where others have none
module _ {X : Type 0} (text : X → List ℕ) (h : ℕ → X) (p : ℕ → Bool) where
  texts_filtered : (xs : List ℕ) → flat_map (λ (t : List ℕ). t) (map (λ x. if p x then text (h x) else []) xs) ≡ flat_map text (map h (filter p xs))
  texts_filtered [] = refl
  texts_filtered (x ∷ xs) = go (p x) (texts_filtered xs)
    where
      go : (b : Bool) → flat_map (λ (t : List ℕ). t) (map (λ y. if p y then text (h y) else []) xs) ≡ flat_map text (map h (filter p xs))
          → (if b then text (h x) else []) ++ flat_map (λ (t : List ℕ). t) (map (λ y. if p y then text (h y) else []) xs)
          ≡ flat_map text (map h (cond b (x ∷ filter p xs) (filter p xs)))
      go true rest = ap (λ (t : List ℕ). text (h x) ++ t) rest
      go false rest = rest

pub text_by_kind : (head : ℕ → ℕ → List ℕ) (made : Made) → text_of (by_kind head made) ≡ kinds_text head made.lines made.shown ++ made.last
text_by_kind head made =
    ap (λ (rows : List ℕ). rows ++ made.last)
    (texts_filtered (kind_text head made.lines made.shown) (kind_from made.shown) (is_first made.shown) (range_with_len 0 (length made.shown)))

-- the text is that of the rows as they are, or of the kinds
pub text_grouped : (head : ℕ → ℕ → List ℕ) (kinds : Bool) (made : Made) → text_of (grouped head kinds made)
    ≡ (if kinds then kinds_text head made.lines made.shown else flat_map (λ row. row) made.shown) ++ made.last
text_grouped head true made = text_by_kind head made
text_grouped head false made = refl
