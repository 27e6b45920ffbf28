-- A file is found by its name.
use Rattle.std.proofs.Common.{◌≡◌, ◌∙◌, ℕ, cond, Bool, true, false, List, [], ◌∷◌, Some, option_map, find, map, refl, sym}
use Rattle.std.specs.Borrow.{Bor}
use Rattle.std.specs.Ordering.{nat_cmp}
use Rattle.std.specs.Cmp.Lexicographic.{slice_cmp}
use Rattle.std.specs.FinMap as finite
use Rattle.std.specs.Str.{bytes_eq}
use Rattle.std.proofs.lemmas.Map.Text.{is_eq-slice_cmp}
use Rattle.std.proofs.lemmas.Slice.Eq.{bytes_eq-Decides}

bytes_eq-flip : (a b : List ℕ) → bytes_eq a b ≡ bytes_eq b a
bytes_eq-flip a b = by_tests (bytes_eq a b) (bytes_eq b a) refl refl
  where
    by_tests : (s t : Bool) → bytes_eq a b ≡ s → bytes_eq b a ≡ t → s ≡ t
    by_tests true true is back = refl
    by_tests false false is back = refl
    by_tests true false is back =
        let same : a ≡ b = (bytes_eq-Decides a b).0 is in
        sym ((bytes_eq-Decides b a).1 (sym same)) ∙ back
    by_tests false true is back =
        let same : b ≡ a = (bytes_eq-Decides b a).0 back in
        sym is ∙ (bytes_eq-Decides a b).1 (sym same)

pub found : (files : List (Bor (List ℕ) × Bor (List ℕ))) (name : List ℕ)
    → option_map (λ file. file.1.now) (find (λ file. bytes_eq file.0.now name) files)
    ≡ finite.find (slice_cmp nat_cmp) name (map (λ file. (file.0.now, file.1.now)) files)
found [] name = refl
found (file ∷ files) name =
    rw (is_eq-slice_cmp name file.0.now ∙ bytes_eq-flip name file.0.now)
    (by_test (bytes_eq file.0.now name) (found files name))
  where
    by_test : (b : Bool)
        → option_map (λ f. f.1.now) (find (λ f. bytes_eq f.0.now name) files)
        ≡ finite.find (slice_cmp nat_cmp) name (map (λ f. (f.0.now, f.1.now)) files)
        → option_map (λ f. f.1.now) (cond b (Some file) (find (λ f. bytes_eq f.0.now name) files))
        ≡ cond b (Some file.1.now) (finite.find (slice_cmp nat_cmp) name (map (λ f. (f.0.now, f.1.now)) files))
    by_test true rest = refl
    by_test false rest = rest
