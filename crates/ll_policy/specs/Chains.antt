-- Layers for one right, the chains of objects that they let pass, and when new layers let nothing more pass than old ones.
-- Source: the kernel's userspace document on Landlock, "Layers of file path access rights".
use Rattle.std.specs.Prelude.{◌≡◌, ℕ, ◌+◌, Bool, true, false, not, ◌||◌, ◌==◌, List, [], ◌∷◌, ◌++◌, All, Option, MatchOption, Vec, if◌then◌else◌, slice_index_or}
use Rattle.std.specs.Global.{Global}
use Rattle.std.specs.List.{list_any, list_all, Contains}

-- What a layer says of one right: whether it handles it, and the objects on which a rule grants it. Objects have numbers.
pub record Granting : Type 0 where
  pub handles : Bool
  pub grants : List ℕ

unfoldable pub is_among : ℕ → List ℕ → Bool
is_among object objects = list_any (λ own. object == own) objects

-- which objects are files; those that aren't listed count as files
abbrev pub is_file_in : List Bool → ℕ → Bool
is_file_in files object = slice_index_or files object true

-- the numbers of the marks that are set, where the first has a given number
unfoldable pub places_from : ℕ → List Bool → List ℕ
places_from number [] = []
places_from number (mark ∷ marks) = (if mark then number ∷ [] else []) ++ places_from (number + 1) marks

abbrev pub places_of : List Bool → List ℕ
places_of marks = places_from 0 marks

-- ---- what passes

-- some object is among others
unfoldable pub some_among : List ℕ → List ℕ → Bool
some_among objects others = list_any (λ object. is_among object others) objects

-- a layer lets a chain of objects pass if it doesn't handle the right, or grants it on some object of the chain
unfoldable pub lets : List ℕ → Granting → Bool
lets chain layer = not layer.handles || some_among chain layer.grants

-- layers let a chain pass if each of them does
unfoldable pub passes : List Granting → List ℕ → Bool
passes layers chain = list_all (lets chain) layers

-- ---- nothing more

-- no object is a file
abbrev pub AreDirectories : (ℕ → Bool) → List ℕ → Type 0
AreDirectories is_file objects = All (λ object. is_file object ≡ false) objects

-- A chain is an object with the directories that it is in, in any tree, now or after moves: at most one of them is a file.
abbrev pub IsChain : (ℕ → Bool) → List ℕ → Type 0
IsChain is_file chain =
    (one other : ℕ) → Contains chain one → Contains chain other → is_file one ≡ true → is_file other ≡ true → one ≡ other

-- each chain that has some objects on it and that the new layers let pass, the old layers let pass
abbrev pub NothingMore : (ℕ → Bool) → List ℕ → List Granting → List Granting → Type 0
NothingMore is_file always old new =
    (chain : List ℕ) → IsChain is_file chain → All (Contains chain) always → passes new chain ≡ true → passes old chain ≡ true

-- the same of one old layer
abbrev pub NothingMoreThan : (ℕ → Bool) → List ℕ → Granting → List Granting → Type 0
NothingMoreThan is_file always old new =
    (chain : List ℕ) → IsChain is_file chain → All (Contains chain) always → passes new chain ≡ true → lets chain old ≡ true

-- a chain that has some objects on it, and that the new layers let pass and the old one doesn't
pub record IsExcess (is_file : ℕ → Bool) (always : List ℕ) (old : Granting) (new : List Granting) (chain : List ℕ) : Type 0 where
  pub is_chain : IsChain is_file chain
  pub begins : All (Contains chain) always
  pub passes_new : passes new chain ≡ true
  pub kept_by_old : lets chain old ≡ false

-- What is found of an old layer: nothing, if the new layers let nothing more pass than it does, else a chain of which they do.
abbrev pub Tells : (ℕ → Bool) → List ℕ → List Granting → Granting → Option (Vec ℕ Global) → Type 0
Tells is_file always new old found = MatchOption found (NothingMoreThan is_file always old new) (λ chain. IsExcess is_file always old new chain.items)
