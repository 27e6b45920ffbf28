-- A path and its text give each other back, and the text of the path without its last name ends before the last
-- slash.
use Rattle.std.proofs.Common.{◌≡◌, ℕ, ◌≤◌, ◌∷◌, [], List, true, false, length, Some, None, cond, eqb, refl, ap, ◌∙◌, arith, ◌&&◌, leb, sym, subst, get_or, suc}
use Rattle.std.proofs.Common.{◌<◌, ◌+◌, ◌-◌, ◌++◌, ⊎_elim, take}
use Rattle.std.specs.Prelude.{◌≢◌, is_some, not, codes}
use Rattle.std.specs.List.{list_all, slice_split, All, join_with_byte}
use Rattle.std.proofs.lemmas.Bool.{le-leb, leb-true, false≢true, and_parts, cases_lt}
use Rattle.std.proofs.lemmas.Bool.Decides.{nat_tests, Decides-like, same_from_decides}
use Rattle.ll_lines.specs.declared.path.TheConstants.{LONGEST_PATH}
use Rattle.ll_lines.specs.Paths.{is_slash, is_name, names_in, after_slash, path_of, Path, Name, is_name_byte, path_eq, front, is_path, text_of}
use Rattle.std.specs.Str.{bytes_eq}
use Rattle.std.specs.Bool.{Decides}
use Rattle.std.proofs.lemmas.Slice.Eq.{slice_eq-Decides, bytes_eq-Decides}
use Rattle.std.proofs.lemmas.Option.{cond_some, none-some, same_Some}
use Rattle.std.proofs.lemmas.List.Splits.{join_with_byte-slice_split, slice_split_none, slice_split_at}
use Rattle.std.proofs.lemmas.List.Sums.{AllPass-from_list_all}
use Rattle.std.proofs.lemmas.List.{append_assoc, length-append, get_or_at, get_or-append_right, take_at}

-- ---- what `path_of` answers, by the first byte of the text and its names

-- a text of at most 4,096 bytes
pub path_of-short : (text : List ℕ) → length text ≤ LONGEST_PATH → path_of text ≡ after_slash text
unfolding path_of
path_of-short text fits = rw (le-leb (length text) LONGEST_PATH fits) refl

-- a text that doesn't begin with a slash is no path
pub path_of-other : (text : List ℕ) → length text ≤ LONGEST_PATH → ((rest : List ℕ) → text ≢ 47 ∷ rest) → path_of text ≡ None
unfolding after_slash
path_of-other [] fits other = path_of-short [] fits
path_of-other (byte ∷ bytes) fits other =
    let differs : byte ≢ 47 = λ same. other bytes (ap (λ b. b ∷ bytes) same) in
    let test : eqb byte 47 ≡ false = grind (arith, nat_tests) in
    path_of-short (byte ∷ bytes) fits ∙ rw test refl

-- a text of at most 4,096 bytes that begins with a slash
pub path_of-slash : (text names : List ℕ) → length text ≤ LONGEST_PATH → text ≡ 47 ∷ names → path_of text ≡ names_in names
unfolding after_slash
path_of-slash text names fits is = path_of-short text fits ∙ rw is refl

-- the slash alone is the root
pub path_of-root : (text names : List ℕ) → length text ≤ LONGEST_PATH → text ≡ 47 ∷ names → names ≡ [] → path_of text ≡ Some []
unfolding names_in
path_of-root text names fits is empty = path_of-slash text names fits is ∙ ap names_in empty

-- names that aren't empty are read where each is a name
pub is_some-names_in : (names : List ℕ) → names ≢ [] → is_some (names_in names) ≡ list_all is_name (slice_split is_slash names)
unfolding names_in
is_some-names_in [] some = absurd (some refl)
is_some-names_in (byte ∷ bytes) some =
    elim (list_all is_name (slice_split is_slash (byte ∷ bytes))) as
    (λ b. is_some (cond b (Some (slice_split is_slash (byte ∷ bytes))) None) ≡ b) [ true ↦ refl | false ↦ refl ]

-- ---- texts and paths

-- what is read of a text, and that it is short
read_parts : (text : List ℕ) (path : Path) → path_of text ≡ Some path → (length text ≤ LONGEST_PATH) × (after_slash text ≡ Some path)
unfolding path_of
read_parts text path is =
    elim (leb (length text) LONGEST_PATH) as (λ b. leb (length text) LONGEST_PATH ≡ b → cond b (after_slash text) None ≡ Some path
    → (length text ≤ LONGEST_PATH) × (after_slash text ≡ Some path))
    [ true ↦ λ short read. (leb-true (length text) LONGEST_PATH short, read) | false ↦ λ long read. absurd (none-some path read) ] refl is

-- the names that are read, joined by slashes, are the text; and each is a name
joined : (names : List ℕ) (path : Path) → names_in names ≡ Some path → (join_with_byte 47 path ≡ names) × (list_all is_name path ≡ true)
unfolding names_in
joined [] path is = subst (λ (p : Path). (join_with_byte 47 p ≡ []) × (list_all is_name p ≡ true)) (same_Some [] path is) (refl, refl)
joined (byte ∷ bytes) path is =
    let parts = slice_split is_slash (byte ∷ bytes) in
    let found = cond_some (list_all is_name parts) parts path is in
    subst (λ (p : Path). (join_with_byte 47 p ≡ byte ∷ bytes) × (list_all is_name p ≡ true)) found.1 (join_with_byte-slice_split 47 (byte ∷ bytes), found.0)

from_slash : (text : List ℕ) (path : Path) → after_slash text ≡ Some path → (text_of path ≡ text) × (list_all is_name path ≡ true)
unfolding after_slash text_of
from_slash [] path is = absurd (none-some path is)
from_slash (byte ∷ bytes) path is =
    elim (eqb byte 47) as (λ b. eqb byte 47 ≡ b → cond b (names_in bytes) None ≡ Some path
    → (47 ∷ join_with_byte 47 path ≡ byte ∷ bytes) × (list_all is_name path ≡ true)) [
      | true ↦ λ slash read. (let same : byte ≡ 47 = grind (arith, nat_tests) in let rest = (joined bytes path read).0 in cc, (joined bytes path read).1)
      | false ↦ λ other read. absurd (none-some path read)
    ] refl is

-- a text that is read is the text of what is read
pub text_of-path_of : (text : List ℕ) (path : Path) → path_of text ≡ Some path → text_of path ≡ text
text_of-path_of text path is = (from_slash text path (read_parts text path is).1).0

-- what is read is a path
pub is_path-path_of : (text : List ℕ) (path : Path) → path_of text ≡ Some path → is_path path ≡ true
unfolding is_path
is_path-path_of text path is =
    let parts = read_parts text path is in
    let short : leb (length (text_of path)) LONGEST_PATH ≡ true = rw (text_of-path_of text path is) (le-leb (length text) LONGEST_PATH parts.0) in
    rw ((from_slash text path parts.1).1, short) refl

pub not_slash : (byte : ℕ) → is_name_byte byte ≡ true → is_slash byte ≡ false
not_slash byte is = elim (is_slash byte) as (λ b. (not b && not (eqb byte 0)) ≡ true → b ≡ false) [ true ↦ λ h. absurd (false≢true h) | false ↦ λ h. refl ] is

not_empty : (name : Name) → not (eqb (length name) 0) ≡ true → name ≢ []
not_empty [] is = absurd (false≢true is)
not_empty (byte ∷ bytes) is = λ e. cc

-- a name isn't empty, and holds no slash
pub name_parts : (name : Name) → is_name name ≡ true → (name ≢ []) × All (λ byte. is_slash byte ≡ false) name
unfolding is_name
name_parts name is =
    let first = not (eqb (length name) 0) in
    let second = not (bytes_eq name (codes ".")) in
    let third = not (bytes_eq name (codes "..")) in
    let all = and_parts (first && second && third) (list_all is_name_byte name) is in
    let rest = and_parts first second (and_parts (first && second) third all.0).0 in
    (not_empty name rest.0, λ k d within. not_slash (get_or name k d) (AllPass-from_list_all is_name_byte name all.1 k d within))

-- names are cut apart again after they were joined
cut_again : (name : Name) (names : Path) → list_all is_name (name ∷ names) ≡ true → slice_split is_slash (join_with_byte 47 (name ∷ names)) ≡ name ∷ names
cut_again name [] is = slice_split_none is_slash name (name_parts name (and_parts (is_name name) true is).0).1
cut_again name (next ∷ names) is =
    let parts = and_parts (is_name name) (list_all is_name (next ∷ names)) is in
    slice_split_at is_slash name 47 (join_with_byte 47 (next ∷ names)) (name_parts name parts.0).1 refl
    ∙ ap (λ (rest : Path). name ∷ rest) (cut_again next names parts.1)

-- names that aren't empty are read where each is a name
some_names : (bytes : List ℕ) → bytes ≢ [] → list_all is_name (slice_split is_slash bytes) ≡ true → names_in bytes ≡ Some (slice_split is_slash bytes)
unfolding names_in
some_names [] some are = absurd (some refl)
some_names (byte ∷ bytes) some are = rw are refl

joined_some : (name : Name) (names : Path) → name ≢ [] → join_with_byte 47 (name ∷ names) ≢ []
joined_some [] names some = absurd (some refl)
joined_some (byte ∷ bytes) [] some = λ e. cc
joined_some (byte ∷ bytes) (next ∷ names) some = λ e. cc

names_in-joined : (path : Path) → list_all is_name path ≡ true → names_in (join_with_byte 47 path) ≡ Some path
unfolding names_in
names_in-joined [] are = refl
names_in-joined (name ∷ names) are =
    let cut = cut_again name names are in
    let some = joined_some name names (name_parts name (and_parts (is_name name) (list_all is_name names) are).0).0 in
    some_names (join_with_byte 47 (name ∷ names)) some (ap (list_all is_name) cut ∙ are) ∙ ap (λ (p : Path). Some p) cut

-- a path is read back from its text
pub path_of-text_of : (path : Path) → is_path path ≡ true → path_of (text_of path) ≡ Some path
unfolding is_path text_of
path_of-text_of path is =
    let parts = and_parts (list_all is_name path) (leb (length (text_of path)) LONGEST_PATH) is in
    path_of-slash (text_of path) (join_with_byte 47 path) (leb-true (length (text_of path)) LONGEST_PATH parts.1) refl ∙ names_in-joined path parts.0

-- paths are the same exactly where their texts are
pub bytes_eq-text_of : (a b : Path) → is_path a ≡ true → is_path b ≡ true → bytes_eq (text_of a) (text_of b) ≡ path_eq a b
unfolding path_eq
bytes_eq-text_of a b a_is b_is =
    let by_text : Decides (bytes_eq (text_of a) (text_of b)) (a ≡ b) = Decides-like (bytes_eq (text_of a) (text_of b))
    (λ same. same_Some a b (sym (path_of-text_of a a_is) ∙ ap path_of same ∙ path_of-text_of b b_is))
    (λ same. ap text_of same)
    (bytes_eq-Decides (text_of a) (text_of b)) in
    same_from_decides (bytes_eq (text_of a) (text_of b)) (path_eq a b) by_text (slice_eq-Decides bytes_eq-Decides a b (path_eq a b) refl)

-- each way back
pub ruleset texts_and_paths = (text_of-path_of, is_path-path_of, path_of-text_of)

-- ---- the text without the last name

last_name : Path → Name
last_name [] = []
last_name (name ∷ []) = name
last_name (name ∷ next ∷ names) = last_name (next ∷ names)

-- the names before the last one, and the last one after a slash
join_last : (name next : Name) (names : Path)
    → join_with_byte 47 (name ∷ next ∷ names) ≡ join_with_byte 47 (front (name ∷ next ∷ names)) ++ 47 ∷ last_name (next ∷ names)
unfolding front last_name
join_last name next [] = refl
join_last name next (third ∷ names) = ap (λ rest. name ++ 47 ∷ rest) (join_last next third names)
    ∙ sym (append_assoc name (47 ∷ join_with_byte 47 (front (next ∷ third ∷ names))) (47 ∷ last_name (third ∷ names)))

last_is_name : (name : Name) (names : Path) → list_all is_name (name ∷ names) ≡ true → is_name (last_name (name ∷ names)) ≡ true
unfolding last_name
last_is_name name [] are = (and_parts (is_name name) true are).0
last_is_name name (next ∷ names) are = last_is_name next names (and_parts (is_name name) (list_all is_name (next ∷ names)) are).1

-- the names before the last one are names
front_names : (path : Path) → list_all is_name path ≡ true → list_all is_name (front path) ≡ true
unfolding front
front_names [] are = refl
front_names (name ∷ []) are = refl
front_names (name ∷ next ∷ names) are =
    let parts = and_parts (is_name name) (list_all is_name (next ∷ names)) are in
    rw parts.0 (front_names (next ∷ names) parts.1)

-- a list in which 47 is last at an index, and is followed by no other 47
last_slash : (text fore rest : List ℕ) (index : ℕ) → text ≡ fore ++ 47 ∷ rest → All (λ byte. is_slash byte ≡ false) rest → index < length text
    → get_or text index 0 ≡ 47 → ((i : ℕ) → index < i → i < length text → get_or text i 0 ≢ 47) → index ≡ length fore
last_slash text fore rest index is clear within slash after =
    let size : length text ≡ length fore + suc (length rest) = ap length is ∙ length-append fore (47 ∷ rest) in
    let there : get_or text (length fore) 0 ≡ 47 = ap (λ t. get_or t (length fore) 0) is ∙ get_or_at fore 47 rest 0 (length fore) refl in
    ⊎_elim
    (λ (before : index < length fore). absurd (after (length fore) before (omega arith) there))
    (λ (later : length fore ≤ index). ⊎_elim
    (λ (behind : length fore < index).
    let byte = index - suc (length fore) in
    let eq : index - length fore ≡ suc byte = omega arith in
    let found : get_or rest byte 0 ≡ 47 =
    sym (ap (λ t. get_or t index 0) is ∙ get_or-append_right fore (47 ∷ rest) (length fore) index 0 refl later ∙ ap (λ n. get_or (47 ∷ rest) n 0) eq)
    ∙ slash in
    let other : is_slash (get_or rest byte 0) ≡ false = clear byte 0 (omega arith) in
    absurd (false≢true (sym other ∙ rw found refl)))
    (λ (same : index ≤ length fore). omega arith)
    (cases_lt (length fore) index))
    (cases_lt index (length fore))

-- The last slash of a path's text is first, and there is at most one name, or it is after the text of the
-- names before the last one.
pub front_read : (text : List ℕ) (path : Path) (index : ℕ) → path_of text ≡ Some path → index < length text → get_or text index 0 ≡ 47
    → ((i : ℕ) → index < i → i < length text → get_or text i 0 ≢ 47)
    → (index ≡ 0 → path_of (codes "/") ≡ Some (front path)) × (0 < index → path_of (take index text) ≡ Some (front path))
unfolding front text_of path_of after_slash names_in is_path
front_read text [] index read within slash after =
    let is : 47 ∷ [] ≡ text = text_of-path_of text [] read in
    let one : length text ≡ 1 = ap length (sym is) in
    (λ _. refl, λ later. absurd (omega arith))
front_read text (name ∷ []) index read within slash after =
    let is : 47 ∷ name ≡ text = text_of-path_of text (name ∷ []) read in
    let are = and_parts (list_all is_name (name ∷ [])) (leb (length (text_of (name ∷ []))) LONGEST_PATH) (is_path-path_of text (name ∷ []) read) in
    let first : index ≡ 0 = last_slash text [] name index (sym is) (name_parts name (and_parts (is_name name) true are.0).0).1 within slash after in
    (λ _. refl, λ later. absurd (omega arith))
front_read text (name ∷ next ∷ names) index read within slash after =
    let path : Path = name ∷ next ∷ names in
    let last = last_name (next ∷ names) in
    let is : text ≡ text_of (front path) ++ 47 ∷ last = sym (text_of-path_of text path read) ∙ ap (λ rest. 47 ∷ rest) (join_last name next names) in
    let are = and_parts (list_all is_name path) (leb (length (text_of path)) LONGEST_PATH) (is_path-path_of text path read) in
    let others = and_parts (is_name name) (list_all is_name (next ∷ names)) are.0 in
    let end : index ≡ length (text_of (front path)) =
    last_slash text (text_of (front path)) last index is (name_parts last (last_is_name next names others.1)).1 within slash after in
    let size : length text ≡ length (text_of (front path)) + suc (length last) = ap length is ∙ length-append (text_of (front path)) (47 ∷ last) in
    let fits : length (text_of path) ≤ LONGEST_PATH = leb-true (length (text_of path)) LONGEST_PATH are.1 in
    let whole : length (text_of path) ≡ length text = ap length (text_of-path_of text path read) in
    let short : leb (length (text_of (front path))) LONGEST_PATH ≡ true = le-leb (length (text_of (front path))) LONGEST_PATH (omega arith) in
    let taken : take index text ≡ text_of (front path) = ap (take index) is ∙ take_at (text_of (front path)) (47 ∷ last) index (sym end) in
    let named : is_path (front path) ≡ true = rw (front_names path are.0, short) refl in
    (λ first. absurd (omega arith), λ later. ap path_of taken ∙ path_of-text_of (front path) named)

-- a text without a slash is no path
pub no_slash_no_path : (text : List ℕ) (path : Path) → path_of text ≡ Some path → ((i : ℕ) → i < length text → get_or text i 0 ≢ 47) → ⊥
unfolding text_of
no_slash_no_path text path read none =
    let is : 47 ∷ join_with_byte 47 path ≡ text = text_of-path_of text path read in
    let some : 0 < length text = subst (λ t. 0 < length t) is (omega arith) in
    none 0 some (ap (λ t. get_or t 0 0) (sym is))
