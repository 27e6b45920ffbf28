-- What the rules of a layer say of one right: on which objects they grant it, and on which ports.
-- Source: landlock(7), "Landlock rules"; the kernel's userspace document on Landlock, "Network flags".
use Rattle.std.specs.Prelude.{ℕ, Bool, List, [], ◌∷◌, map, filter}
use Rattle.ll_rights.specs.Rights.{FsRight}
use Rattle.ll_rights.specs.Rights as files
use Rattle.ll_rights.specs.NetRights.{NetRight}
use Rattle.ll_rights.specs.NetRights as network
use Rattle.ll_rules.specs.Layers.{RulesOn, handles}
use Rattle.ll_policy.specs.Chains.{Granting, NothingMore}

-- what a layer with rules on objects says of a right for files
abbrev pub granting : FsRight → RulesOn ℕ → Granting
granting right rules =
    record { handles = handles rules right; grants = map (λ rule. rule.0) (filter (λ rule. files.has rule.1 right) rules.file_rules) }

-- what a layer says of a right for ports
abbrev pub granting_on_ports : NetRight → RulesOn ℕ → Granting
granting_on_ports right rules =
    record { handles = network.has rules.handled_network right; grants = map (λ rule. rule.0) (filter (λ rule. network.has rule.1 right) rules.port_rules) }

-- the root is on each chain of objects
abbrev pub root : List ℕ
root = 0 ∷ []

-- with each right for files, new layers let no more pass than old ones
abbrev pub NothingMoreOnObjects : (ℕ → Bool) → List (RulesOn ℕ) → List (RulesOn ℕ) → Type 0
NothingMoreOnObjects is_file old new = (right : FsRight) → NothingMore is_file root (map (granting right) old) (map (granting right) new)
