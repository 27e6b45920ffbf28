-- Layers: the rights that they handle, the rules that grant some of these, and when two layers are the same.
-- Source: landlock(7), "Landlock rules"; the kernel's userspace document on Landlock, "Defining and enforcing a security policy".
use Rattle.std.specs.Prelude.{ℕ, Bool, not, ◌&&◌, ◌==◌, List, [], ◌∷◌}
use Rattle.std.specs.List.{list_any}
use Rattle.ll_rights.specs.declared.fs.Fs.{Fs}
use Rattle.ll_rights.specs.declared.net.Net.{Net}
use Rattle.ll_rights.specs.Rights.{FsRight, refer}
use Rattle.ll_rights.specs.Rights as files
use Rattle.ll_rights.specs.NetRights as network
use Rattle.ll_lines.specs.Paths.{Path, is_prefix}

-- A ruleset, or the layer that it became: what it handles, and its rules. A rule for files is a place and
-- the rights that it grants there; places are paths, or the numbers of the nodes that stand for paths.
pub record RulesOn (P : Type 0) : Type 0 where
  pub handled_files : Fs
  pub handled_network : Net
  pub file_rules : List (P × Fs)
  pub port_rules : List (ℕ × Net)

module _ {P : Type 0} where
  -- handles two sets of rights and has no rule
  abbrev pub without_rules : Fs → Net → RulesOn P
  without_rules handled_files handled_network = record { handled_files = handled_files; handled_network = handled_network; file_rules = []; port_rules = [] }

  -- one rule for files more
  abbrev pub with_file_rule : RulesOn P → P → Fs → RulesOn P
  with_file_rule rules place granted = record rules { file_rules = (place, granted) ∷ rules.file_rules }

  -- one rule for a port more
  abbrev pub with_port_rule : RulesOn P → ℕ → Net → RulesOn P
  with_port_rule rules port granted = record rules { port_rules = (port, granted) ∷ rules.port_rules }

  -- whether no right is handled
  abbrev pub handles_nothing : RulesOn P → Bool
  handles_nothing rules = files.is_empty rules.handled_files && network.is_empty rules.handled_network

  -- Whether a right for files is handled: moving files between directories is, wherever any right is.
  abbrev pub handles : RulesOn P → FsRight → Bool
  handles rules refer = not (files.is_empty rules.handled_files)
  handles rules right = files.has rules.handled_files right

  -- whether some rule on just this port grants a right
  unfoldable pub granted_on_port : RulesOn P → ℕ → network.NetRight → Bool
  granted_on_port rules port right = list_any (λ rule. port == rule.0 && network.has rule.1 right) rules.port_rules

-- ---- rules on paths

-- whether some rule on a path, or on a directory that it is under, grants a right
unfoldable pub granted : RulesOn Path → Path → FsRight → Bool
granted rules path right = list_any (λ rule. is_prefix rule.0 path && files.has rule.1 right) rules.file_rules
