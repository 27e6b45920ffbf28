-- The path that a text spells, and the one above it.
use Rattle.std.proofs.Common.{◌≡◌, ℕ, suc, ◌+◌, ◌<◌, ◌≤◌, Bool, true, false, List, []}
use Rattle.std.proofs.Common.{◌∷◌, ◌++◌, length, eqb, cond, Option, Some, None, refl, sym, ap, ◌∙◌, arith}
use Rattle.std.specs.Prelude.{IsTrue, is_some, ◌≢◌}
use Rattle.ll_lines.specs.Paths.{Path, front, path_of, after_slash, names_in, text_of, is_path}
use Rattle.ll_lines.specs.Paths.{is_name}
use Rattle.std.specs.List.{list_all}
use Rattle.std.specs.List.{join_with_byte}
use Rattle.std.proofs.lemmas.List.{length-append}
use Rattle.ll_lines.specs.declared.path.TheConstants.{LONGEST_PATH}
use Rattle.ll_lines.proofs.PathLaws.{text_of-path_of, path_of-short, is_path-path_of}
use Rattle.std.specs.Prelude.{◌&&◌}
use Rattle.std.proofs.lemmas.Bool.{leb-true, false≢true}
use Rattle.ll_reasons.specs.Reasons.{path_or_root, spelt}

read_as : (read : Option Path) → IsTrue (is_some read) → read ≡ Some (path_or_root read)
read_as None some = cc
read_as (Some path) some = refl

pub spelt_read : (text : List ℕ) → IsTrue (is_some (path_of text)) → path_of text ≡ Some (spelt text)
spelt_read text some = read_as (path_of text) some

-- the root's text spells a path
pub root_shape : IsTrue (is_some (path_of (47 ∷ [])))
unfolding after_slash names_in
root_shape = rw (path_of-short (47 ∷ []) (omega arith)) refl

-- ---- the path above

pub front_shape : (text above : List ℕ) → IsTrue (is_some (path_of text)) → ((path : Path) → path_of text ≡ Some path → path_of above ≡ Some (front path))
    → IsTrue (is_some (path_of above))
front_shape text above some step = rw (step (spelt text) (spelt_read text some)) refl

pub front_spelt : (text above : List ℕ) → IsTrue (is_some (path_of text)) → ((path : Path) → path_of text ≡ Some path → path_of above ≡ Some (front path))
    → spelt above ≡ front (spelt text)
front_spelt text above some step = ap path_or_root (step (spelt text) (spelt_read text some))

alone : (b : Bool) → path_or_root (cond b (names_in []) None) ≡ []
unfolding names_in
alone true = refl
alone false = refl

-- a text of one byte spells the root
pub short_root : (text : List ℕ) → IsTrue (is_some (path_of text)) → length text ≤ 1 → spelt text ≡ []
unfolding after_slash path_of
short_root [] some short = refl
short_root (byte ∷ []) some short = ap path_or_root (path_of-short (byte ∷ []) (omega arith)) ∙ alone (eqb byte 47)
short_root (byte ∷ next ∷ bytes) some short = absurd (omega arith)

root_text : (text : List ℕ) → path_of text ≡ Some [] → length text ≡ 1
unfolding text_of
root_text text is = ap length (sym (text_of-path_of text [] is))

-- a longer one doesn't
pub long_path : (text : List ℕ) → IsTrue (is_some (path_of text)) → 1 < length text → spelt text ≢ []
long_path text some long root =
    let one : length text ≡ 1 = root_text text (spelt_read text some ∙ ap (λ (p : Path). Some p) root) in
    absurd (omega (arith, one, long))

-- ---- how many names a path has

names_joined : (path : Path) → length path ≤ suc (length (join_with_byte 47 path))
names_joined [] = omega arith
names_joined (name ∷ []) = omega arith
names_joined (name ∷ next ∷ names) =
    let rest = join_with_byte 47 (next ∷ names) in
    let fewer : length (next ∷ names) ≤ suc (length rest) = names_joined (next ∷ names) in
    let whole : length (name ++ 47 ∷ rest) ≡ length name + suc (length rest) = length-append name (47 ∷ rest) in
    omega (arith, fewer, whole)

right_of : (a b : Bool) → (a && b) ≡ true → b ≡ true
right_of true b is = is
right_of false b is = absurd (false≢true is)

names_read : (text : List ℕ) (read : Option Path) → path_of text ≡ read → length (path_or_root read) ≤ LONGEST_PATH
unfolding text_of is_path
names_read text None is = omega arith
names_read text (Some path) is =
    let whole : suc (length (join_with_byte 47 path)) ≤ LONGEST_PATH
    = leb-true (suc (length (join_with_byte 47 path))) LONGEST_PATH (right_of (list_all is_name path) _ (is_path-path_of text path is)) in
    omega (arith, whole, names_joined path)

-- it has no more names than its text may have bytes
pub few_names : (text : List ℕ) → 0 + length (spelt text) ≤ LONGEST_PATH
few_names text =
    let few : length (spelt text) ≤ LONGEST_PATH = names_read text (path_of text) refl in
    omega (arith, few)
