-- Layers as they are kept: in one list, of whose indices a domain names some, and with one set of rights for all rules on a node or port.
-- Source: landlock(7), "Landlock rules"; the kernel's userspace document on Landlock, "Ruleset layers".
use Rattle.std.specs.Prelude.{◌≡◌, ℕ, ◌<◌, Bool, ◌&&◌, ◌||◌, ◌==◌, List, map, length, All, slice_index_or}
use Rattle.std.specs.List.{list_any}
use Rattle.ll_rights.specs.declared.fs.Fs.{Fs}
use Rattle.ll_rights.specs.declared.net.Net.{Net}
use Rattle.ll_rights.specs.Rights.{FsRight}
use Rattle.ll_rights.specs.Rights as files
use Rattle.ll_rights.specs.NetRights as network
use Rattle.ll_tree.specs.declared.place.NodeId.{NodeId}
use Rattle.ll_lines.specs.Paths.{Path, path_eq}
use Rattle.ll_rules.specs.Layers.{RulesOn, with_port_rule, granted_on_port, without_rules}
use Rattle.ll_rules.specs.declared.domain.LayerId.{LayerId}

-- The new rules are the old ones with one rule for a port more. The rules on one port are kept as one.
pub record GrantsOnPort {P : Type 0} (old new : RulesOn P) (port : ℕ) (set : Net) : Type 0 where
  pub kept_files : new.handled_files ≡ old.handled_files
  pub kept_network : new.handled_network ≡ old.handled_network
  pub kept_rules : new.file_rules ≡ old.file_rules
  pub grants : (other : ℕ) (right : network.NetRight) → granted_on_port new other right ≡ granted_on_port (with_port_rule old port set) other right

-- whether some rule on just this path grants a right
unfoldable pub granted_on : RulesOn Path → Path → FsRight → Bool
granted_on rules path right = list_any (λ rule. path_eq rule.0 path && files.has rule.1 right) rules.file_rules

-- Two are the same if they handle the same, and their rules together grant the same on each path and port.
pub record SameRules (a b : RulesOn Path) : Type 0 where
  pub same_files : a.handled_files ≡ b.handled_files
  pub same_network : a.handled_network ≡ b.handled_network
  pub same_on : (path : Path) (right : FsRight) → granted_on a path right ≡ granted_on b path right
  pub same_on_port : (port : ℕ) (right : network.NetRight) → granted_on_port a port right ≡ granted_on_port b port right

-- whether some rule on just this node grants a right
unfoldable pub granted_on_node : RulesOn ℕ → NodeId → FsRight → Bool
granted_on_node rules here right = list_any (λ rule. here.0 == rule.0 && files.has rule.1 right) rules.file_rules

-- The new rules grant a set on one node beside what the old ones grant, and nothing else has changed: not what
-- they grant on any nodes that a test picks, nor which nodes they are on.
pub record GrantsOn (old new : RulesOn ℕ) (here : NodeId) (set : Fs) : Type 0 where
  pub kept_files : new.handled_files ≡ old.handled_files
  pub kept_network : new.handled_network ≡ old.handled_network
  pub kept_ports : new.port_rules ≡ old.port_rules
  pub grants : (picks : ℕ → Bool) (right : FsRight) → list_any (λ rule. picks rule.0 && files.has rule.1 right) new.file_rules ≡ ((picks here.0 && files.has set right) || list_any (λ rule. picks rule.0 && files.has rule.1 right) old.file_rules)
  pub places : (picks : ℕ → Bool) → list_any (λ rule. picks rule.0) new.file_rules ≡ (picks here.0 || list_any (λ rule. picks rule.0) old.file_rules)

-- the layer at an index of a list
abbrev pub layer_at : {P : Type 0} → List (RulesOn P) → LayerId → RulesOn P
layer_at layers id = slice_index_or layers id.0 (without_rules files.no_right network.no_right)

-- the layers that a domain stacks, the oldest first
abbrev pub domain_of : {P : Type 0} → List (RulesOn P) → List LayerId → List (RulesOn P)
domain_of layers ids = map (layer_at layers) ids

-- the domain names indices of the list
abbrev pub IsDomainOf : {P : Type 0} → List (RulesOn P) → List LayerId → Type 0
IsDomainOf layers ids = All (λ id. id.0 < length layers) ids
