-- The names that a call gives: of paths, of a descriptor and of a ruleset.
-- Source: docs/FORMATS.md, "The trace file".
use Rattle.std.specs.Prelude.{ℕ, Bool, List, Option, Some, None, map}
use Rattle.std.specs.List.{list_any}
use Rattle.ll_lines.specs.Paths.{Path, is_prefix, path_eq}
use Rattle.ll_trace.specs.declared.op.Op.{Op}
use Rattle.ll_trace.specs.declared.op.Op.TheVariants as calls
unfoldable pub use Rattle.ll_trace.specs.Operations.{paths_of}
use Rattle.ll_reasons.specs.Reasons.{spelt}

-- the paths that a call names
abbrev pub named_paths : Op → List Path
named_paths op = map spelt (paths_of op)

-- a path that a call names
abbrev pub is_named : Op → Path → Bool
is_named op path = list_any (path_eq path) (named_paths op)

-- a path that a call names, or that of a directory on the way to it
abbrev pub is_on_the_way : Op → Path → Bool
is_on_the_way op path = list_any (is_prefix path) (named_paths op)

-- the number of the descriptor that a call takes; the one that `open` and `adopt` bring
unfoldable pub descriptor_of : Op → Option ℕ
descriptor_of (calls.OpenFile path fd mode create trunc) = Some fd
descriptor_of (calls.Adopt fd kind) = Some fd
descriptor_of (calls.Dup fd to) = Some fd
descriptor_of (calls.Close fd) = Some fd
descriptor_of (calls.Ftruncate fd) = Some fd
descriptor_of (calls.Ioctl fd driver) = Some fd
descriptor_of op = None

-- the number of the ruleset that a call takes or makes
unfoldable pub ruleset_number : Op → Option ℕ
ruleset_number (calls.Create rs fs net) = Some rs
ruleset_number (calls.CreateEmpty rs) = Some rs
ruleset_number (calls.AddPath rs path fs) = Some rs
ruleset_number (calls.AddPort rs port net) = Some rs
ruleset_number (calls.CloseRs rs) = Some rs
ruleset_number (calls.Restrict rs) = Some rs
ruleset_number op = None

-- the port that a rule is for
unfoldable pub port_of : Op → Option ℕ
port_of (calls.AddPort rs port net) = Some port
port_of op = None
