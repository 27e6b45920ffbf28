-- What a call names: paths or a port, as the trace has them.
-- Source: docs/FORMATS.md, "The trace file" and "Kinds".
use Rattle.std.specs.Prelude.{◌++◌, ℕ, List, [], ◌∷◌, Option, None, Some, codes, decimal}
use Rattle.std.specs.List.{flat_map}
use Rattle.json.specs.Print.{escape}
use Rattle.ll_trace.specs.declared.op.Op.{Op}
use Rattle.ll_trace.specs.declared.op.Op.TheVariants.{AddPort, Bind, Connect}
use Rattle.ll_trace.specs.Operations.{op_name, paths_of}
use Rattle.ll_report.specs.declared.calls.Named.{Named}
use Rattle.ll_report.specs.declared.calls.Named.TheVariants.{Nothing, Path, Paths, Port}

-- the port that a call names
unfoldable pub port_of : Op → Option ℕ
port_of (AddPort rs port net) = Some port
port_of (Bind port) = Some port
port_of (Connect port) = Some port
port_of op = None

-- the paths and the port of what a call names
abbrev pub paths_in : Named → List (List ℕ)
paths_in Nothing = []
paths_in (Path path) = path.now ∷ []
paths_in (Paths from to) = from.now ∷ to.now ∷ []
paths_in (Port port) = []

abbrev pub port_in : Named → Option ℕ
port_in Nothing = None
port_in (Path path) = None
port_in (Paths from to) = None
port_in (Port port) = Some port

-- how the report tells of a path and of a port; paths are escaped as they are in explanations
abbrev pub path_text : List ℕ → List ℕ
path_text path = codes " " ++ escape path

abbrev pub port_text : Option ℕ → List ℕ
port_text None = []
port_text (Some port) = codes " " ++ decimal port

-- how the report tells of a call
abbrev pub call_text : Op → List ℕ
call_text op = op_name op ++ (flat_map path_text (paths_of op) ++ port_text (port_of op))
