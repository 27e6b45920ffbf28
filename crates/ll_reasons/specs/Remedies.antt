-- What a layer would be with rules that grant what it objects to.
-- Source: landlock(7), "Landlock rules"; the kernel's userspace document on Landlock, "Filesystem flags" (LANDLOCK_ACCESS_FS_REFER).
use Rattle.std.specs.Prelude.{List, [], ◌∷◌}
use Rattle.ll_rights.specs.declared.fs.Fs.{Fs}
use Rattle.ll_rights.specs.declared.net.Net.{Net}
use Rattle.ll_rights.specs.Rights as files
use Rattle.ll_rights.specs.NetRights as network
use Rattle.ll_rules.specs.Layers.{with_file_rule, with_port_rule}
use Rattle.ll_semantics.specs.States.{Layer}
use Rattle.ll_reasons.specs.Objections.{Objection, missing, closed, gained, mounting, kept}

-- the set of the rights of a list
unfoldable pub set_of : List files.FsRight → Fs
set_of [] = files.no_right
set_of (right ∷ rights) = files.united (files.only right) (set_of rights)

unfoldable pub port_set_of : List network.NetRight → Net
port_set_of [] = network.no_right
port_set_of (right ∷ rights) = network.united (network.only right) (port_set_of rights)

-- A layer with one rule more, which grants what an objection names: where it is missing, and what an object would
-- gain on the object itself. No rule helps a mount, or a descriptor that is open by now.
unfoldable pub satisfied : Layer → Objection → Layer
satisfied layer (missing rights path) = with_file_rule layer path (set_of rights)
satisfied layer (closed rights port) = with_port_rule layer port (port_set_of rights)
satisfied layer (gained object rights directory) = with_file_rule layer object (set_of rights)
satisfied layer mounting = layer
satisfied layer (kept right index) = layer

-- with a rule for each of some objections
unfoldable pub all_satisfied : Layer → List Objection → Layer
all_satisfied layer [] = layer
all_satisfied layer (objection ∷ objections) = satisfied (all_satisfied layer objections) objection
