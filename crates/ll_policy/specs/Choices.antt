-- How it is decided whether new layers let more pass than an old one: which of them are narrow beside it, and which file
-- they leave open.
-- Source: the kernel's userspace document on Landlock, "Layers of file path access rights".
use Rattle.std.specs.Prelude.{ℕ, Bool, not, ◌&&◌, ◌||◌, ◌==◌, List, [], ◌∷◌, Option, Some, None, filter, find, All, ◌<◌, ◌≡◌, ◌++◌}
use Rattle.std.specs.List.{list_any, list_all, range_with_len}
use Rattle.ll_policy.specs.Chains.{Granting, is_among, lets, passes}

-- the directories among some objects are among others
unfoldable pub are_within : (ℕ → Bool) → List ℕ → List ℕ → Bool
are_within is_file objects others = list_all (λ object. is_file object || is_among object others) objects

-- a new layer is narrow beside an old one if it handles the right and grants it on no other directory
unfoldable pub is_narrow : (ℕ → Bool) → Granting → Granting → Bool
is_narrow is_file old new = new.handles && are_within is_file new.grants old.grants

-- the new layers that are narrow
unfoldable pub narrow_ones : (ℕ → Bool) → Granting → List Granting → List Granting
narrow_ones is_file old new = filter (is_narrow is_file old) new

-- some layer grants on an object
unfoldable pub some_grants : List Granting → ℕ → Bool
some_grants layers object = list_any (λ layer. is_among object layer.grants) layers

-- each layer grants on an object
unfoldable pub all_grant : List Granting → ℕ → Bool
all_grant layers object = list_all (λ layer. is_among object layer.grants) layers

-- a file that all narrow layers grant on, and the old one doesn't
unfoldable pub is_open : (ℕ → Bool) → Granting → List Granting → ℕ → Bool
is_open is_file old narrow object = is_file object && (not (is_among object old.grants) && all_grant narrow object)

-- the first such file
unfoldable pub open_file : (ℕ → Bool) → Granting → List Granting → Option ℕ
open_file is_file old [] = None
open_file is_file old (first ∷ others) = find (is_open is_file old (first ∷ others)) first.grants

-- ---- the chain

-- an object that may be on a chain with this file, or with none: a directory, or the file
abbrev pub counts : (ℕ → Bool) → Option ℕ → ℕ → Bool
counts is_file None object = not (is_file object)
counts is_file (Some file) object = not (is_file object) || file == object

-- of what counts, what new layers grant on and the old one doesn't
unfoldable pub is_extra : (ℕ → Bool) → Option ℕ → Granting → List Granting → ℕ → Bool
is_extra is_file file old new object = counts is_file file object && (not (is_among object old.grants) && some_grants new object)

-- no layer grants on an object from a number on
unfoldable pub AreBelow : ℕ → List Granting → Type 0
AreBelow bound layers = All (λ layer. All (λ object. object < bound) layer.grants) layers

-- what is extra and none of some objects
unfoldable pub is_further : (ℕ → Bool) → List ℕ → Option ℕ → Granting → List Granting → ℕ → Bool
is_further is_file always file old new object = is_extra is_file file old new object && not (is_among object always)

-- a chain of some objects and of all else that is extra, by their rising numbers
pub record IsChainOfExtra (is_file : ℕ → Bool) (always : List ℕ) (file : Option ℕ) (old : Granting) (new : List Granting) (chain : List ℕ) : Type 0 where
  pub bound : ℕ
  pub below : AreBelow bound new
  pub objects : chain ≡ always ++ filter (is_further is_file always file old new) (range_with_len 0 bound)

-- ---- single objects

-- new layers let the right pass by the rules on an object and on the root, and the old one doesn't
unfoldable pub is_enough : Granting → List Granting → ℕ → Bool
is_enough old new object = not (lets (0 ∷ object ∷ []) old) && passes new (0 ∷ object ∷ [])

-- of so many objects those that are enough
unfoldable pub enough_of : ℕ → Granting → List Granting → List ℕ
enough_of count old new = filter (is_enough old new) (range_with_len 0 count)
