-- Regions: objects with rules and what each is in, and where a right passes under two policies.
-- Source: landlock(7), "Landlock rules"; the kernel's userspace document on Landlock, "Layers of file path access rights".
use Rattle.std.specs.Prelude.{◌≡◌, ℕ, ◌+◌, Bool, true, false, not, ◌&&◌, List, [], ◌∷◌, ◌++◌, length, map, filter, slice_index_or, if◌then◌else◌}
use Rattle.std.specs.List.{range_with_len}
use Rattle.ll_rights.specs.declared.fs.Fs.{Fs}
use Rattle.ll_rights.specs.Rights.{FsRight, has}
use Rattle.ll_rights.specs.NetRights.{NetRight}
use Rattle.ll_rules.specs.Layers.{RulesOn}
use Rattle.ll_policy.specs.declared.regions.Passing.{Passing}
use Rattle.ll_policy.specs.Chains.{Granting, some_among, passes, places_of}
use Rattle.ll_policy.specs.Granted.{granting, granting_on_ports}

-- ---- chains

-- The chain of each object, after those of the objects before it: the object, and the chain of what it is in.
unfoldable pub chains_from : List (List ℕ) → List ℕ → List (List ℕ)
chains_from chains [] = chains
chains_from chains (parent ∷ parents) = chains_from (chains ++ (length chains ∷ slice_index_or chains parent []) ∷ []) parents

-- The first object is the root. Each other one is in one that comes before it; the parents are these, by their numbers.
unfoldable pub chains_of : List ℕ → List (List ℕ)
chains_of parents = chains_from ((0 ∷ []) ∷ []) parents

-- the objects with rules on the way up from all that is in the region of an object, which is on it or beneath it and
-- beneath no further one
abbrev pub region : List ℕ → ℕ → List ℕ
region parents object = slice_index_or (chains_of parents) object []

-- what a call about a port names
abbrev pub single : ℕ → List ℕ
single port = port ∷ []

-- what a layer grants on the objects, each with those that it is in
unfoldable pub spread : List ℕ → Granting → Granting
spread parents layer =
    record { handles = layer.handles; grants = places_of (map (λ chain. some_among chain layer.grants) (chains_of parents)) }

-- ---- where a right passes

-- a chain passes under one policy, and under the other too or not, as is asked
unfoldable pub passes_with : Bool → List Granting → List Granting → List ℕ → Bool
passes_with too one other chain = passes one chain && (if too then passes other chain else not (passes other chain))

-- of so many numbers, each of a chain, those with a chain that passes a test
unfoldable pub numbers_of : (ℕ → List ℕ) → ℕ → (List ℕ → Bool) → List ℕ
numbers_of chain_of count test = filter (λ number. test (chain_of number)) (range_with_len 0 count)

-- where a right passes under both policies, and where under the new one or the old one alone
pub record TellsPassing (chain_of : ℕ → List ℕ) (count : ℕ) (before after : List Granting) (found : Passing) : Type 0 where
  pub both : found.both.items ≡ numbers_of chain_of count (passes_with true before after)
  pub new : found.new.items ≡ numbers_of chain_of count (passes_with false after before)
  pub old : found.old.items ≡ numbers_of chain_of count (passes_with false before after)

-- in how many regions a right is looked for: in all, if it is among the rights that are asked about
abbrev pub regions_asked : Fs → FsRight → List ℕ → ℕ
regions_asked asked right parents = if has asked right then length parents + 1 else 0

-- in which regions of objects a right for files passes
abbrev pub TellsRegions : Fs → List ℕ → List (RulesOn ℕ) → List (RulesOn ℕ) → FsRight → Passing → Type 0
TellsRegions asked parents old new right found =
    TellsPassing (region parents) (regions_asked asked right parents) (map (granting right) old) (map (granting right) new) found

-- on which of so many ports a right for ports passes
abbrev pub TellsPorts : ℕ → List (RulesOn ℕ) → List (RulesOn ℕ) → NetRight → Passing → Type 0
TellsPorts count old new right found = TellsPassing single count (map (granting_on_ports right) old) (map (granting_on_ports right) new) found
