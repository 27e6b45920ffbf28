-- When new layers let no move pass that old ones refuse: what an object gains in an old layer, it gains in some new one too.
-- Source: landlock(7), "Filesystem actions", the right to move files between directories.
use Rattle.std.specs.Prelude.{◌≡◌, ℕ, Bool, false, List, map, filter, All, Option, MatchOption}
use Rattle.std.specs.List.{Contains}
use Rattle.ll_rights.specs.Rights.{FsRight}
use Rattle.ll_rules.specs.Layers.{RulesOn}
use Rattle.ll_policy.specs.Chains.{Granting, is_among, NothingMoreThan, IsExcess}
use Rattle.ll_policy.specs.declared.gaining.Gain.{Gain}
use Rattle.ll_policy.specs.Granted.{granting, root}

-- the layers that grant on a directory
unfoldable pub granting_there : ℕ → List Granting → List Granting
granting_there directory layers = filter (λ layer. is_among directory layer.grants) layers

-- Whatever gains the right in the old layer by going into a directory that this grants on, gains it in some new layer: the new
-- layers that grant there let no object pass that the old layer doesn't.
abbrev pub KeepsGainsInto : (ℕ → Bool) → List Granting → Granting → ℕ → Type 0
KeepsGainsInto is_file new old directory =
    Contains old.grants directory → is_file directory ≡ false → NothingMoreThan is_file root old (granting_there directory new)

-- the same of each directory
abbrev pub KeepsGains : (ℕ → Bool) → List Granting → Granting → Type 0
KeepsGains is_file new old = (directory : ℕ) → KeepsGainsInto is_file new old directory

-- the same of each right and each old layer
abbrev pub AllKeepGains : (ℕ → Bool) → List (RulesOn ℕ) → List (RulesOn ℕ) → Type 0
AllKeepGains is_file old new = (right : FsRight) → All (KeepsGains is_file (map (granting right) new)) (map (granting right) old)

-- a directory that an old layer grants on, and a chain that new layers which grant there let pass and the old one doesn't
pub record IsGain (is_file : ℕ → Bool) (new : List Granting) (old : Granting) (gain : Gain) : Type 0 where
  pub granted : Contains old.grants gain.directory
  pub directory : is_file gain.directory ≡ false
  pub excess : IsExcess is_file root old (granting_there gain.directory new) gain.chain.items

-- what is found of an old layer: nothing if gains are kept, else what shows that they aren't
abbrev pub TellsGain : (ℕ → Bool) → List Granting → Granting → Option Gain → Type 0
TellsGain is_file new old found = MatchOption found (KeepsGains is_file new old) (IsGain is_file new old)
