-- The layers of a policy as the program has them, and what is lost of them in another policy.
-- Source: landlock_create_ruleset(2); the kernel's userspace document on Landlock, "Ruleset layers" and "Current limitations".
use Rattle.std.specs.Prelude.{ℕ, Bool, not, List, Option, None, position, if◌then◌else◌}
use Rattle.std.specs.List.{list_any, enumerate_from}
use Rattle.ll_rights.specs.Rights as files
use Rattle.ll_rules.specs.Layers.{RulesOn}
use Rattle.ll_policy.specs.declared.layer.Layer.{Layer}
use Rattle.ll_policy.specs.declared.layer.Restriction.{Restriction}
use Rattle.ll_policy.specs.declared.layer.Restriction.TheVariants.{Mounts, AbstractUnixSocket, Signal}

-- the rules of a layer, on objects and on ports by their numbers
abbrev pub rules_of : Layer → RulesOn ℕ
rules_of layer = record {
  handled_files = layer.files;
  handled_network = layer.network;
  file_rules = enumerate_from 0 layer.on_objects.items;
  port_rules = enumerate_from 0 layer.on_ports.items;
}

-- a layer that handles a right for files refuses all changes of mounts; scopes are what it was made with
abbrev pub restricts : Restriction → Layer → Bool
restricts Mounts layer = not (files.is_empty layer.files)
restricts AbstractUnixSocket layer = layer.abstract_unix_socket
restricts Signal layer = layer.signal

-- the index of the first old layer with a restriction that no new layer has
unfoldable pub lost : Restriction → List Layer → List Layer → Option ℕ
lost restriction old new = if list_any (restricts restriction) new then None else position (restricts restriction) old
