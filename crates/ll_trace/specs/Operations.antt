-- The operation of a record's line: its name and its members. A missing or misshapen member is Field, and only then are its paths looked at.
-- Source: docs/FORMATS.md, "The trace file".
use Rattle.std.specs.Prelude.{ℕ, List, [], ◌∷◌, is_some, Bool, codes, Result, Ok, Err, if◌then◌else◌}
use Rattle.std.specs.List.{list_all}
use Rattle.serde_json.specs.Data.{Data}
use Rattle.ll_lines.specs.declared.fault.Cause.{Cause}
use Rattle.ll_lines.specs.declared.fault.Cause.TheVariants.{BadPath}
use Rattle.ll_lines.specs.Members.{text_at, number_at, truth_at, flag_at, ◌>>=◌}
use Rattle.ll_lines.specs.Paths.{path_of}
use Rattle.ll_trace.specs.declared.op.Op.{Op}
use Rattle.ll_trace.specs.declared.op.Op.TheVariants.{Start, Fork, Exit, Nnp, Create, AddPath, AddPort, CloseRs, Restrict, OpenFile, Adopt, Dup, Close, Ftruncate, Truncate, Exec, Mknod, Mkdir, Symlink, Unlink, Rmdir, Rename, Link, Mount, Bind, Connect, Ioctl, CreateEmpty, LeaveOutPath, LeaveOutPort}
use Rattle.ll_members.specs.Rights.{fs_at, net_at}
use Rattle.ll_trace.specs.Members.{path_at, mode_at, sort_at, made_kind_at, port_at}
use Rattle.ll_trace.specs.Forms.{meaning, of_one, of_two, of_three, of_five}

-- the name of an operation, as the trace and the report spell it
unfoldable pub op_name : Op → List ℕ
op_name (Start nnp admin) = codes "start"
op_name (Fork child) = codes "fork"
op_name Exit = codes "exit"
op_name Nnp = codes "nnp"
op_name (Create rs fs net) = codes "create"
op_name (CreateEmpty rs) = codes "create"
op_name (AddPath rs path fs) = codes "add_path"
op_name (LeaveOutPath path) = codes "add_path"
op_name (AddPort rs port net) = codes "add_port"
op_name LeaveOutPort = codes "add_port"
op_name (CloseRs rs) = codes "close_rs"
op_name (Restrict rs) = codes "restrict"
op_name (OpenFile path fd mode create trunc) = codes "open"
op_name (Adopt fd kind) = codes "adopt"
op_name (Dup fd to) = codes "dup"
op_name (Close fd) = codes "close"
op_name (Ftruncate fd) = codes "ftruncate"
op_name (Truncate path) = codes "truncate"
op_name (Exec path) = codes "exec"
op_name (Mknod path kind) = codes "mknod"
op_name (Mkdir path) = codes "mkdir"
op_name (Symlink path) = codes "symlink"
op_name (Unlink path) = codes "unlink"
op_name (Rmdir path) = codes "rmdir"
op_name (Rename from to exchange) = codes "rename"
op_name (Link from to) = codes "link"
op_name Mount = codes "mount"
op_name (Bind port) = codes "bind"
op_name (Connect port) = codes "connect"
op_name (Ioctl fd driver) = codes "ioctl"

-- the texts of the paths that a call names
unfoldable pub paths_of : Op → List (List ℕ)
paths_of (AddPath rs path fs) = path ∷ []
paths_of (LeaveOutPath path) = path ∷ []
paths_of (OpenFile path fd mode create trunc) = path ∷ []
paths_of (Truncate path) = path ∷ []
paths_of (Exec path) = path ∷ []
paths_of (Mknod path kind) = path ∷ []
paths_of (Mkdir path) = path ∷ []
paths_of (Symlink path) = path ∷ []
paths_of (Unlink path) = path ∷ []
paths_of (Rmdir path) = path ∷ []
paths_of (Rename from to exchange) = from ∷ to ∷ []
paths_of (Link from to) = from ∷ to ∷ []
paths_of op = []

-- each of them spells a path
unfoldable pub are_spelt : Op → Bool
are_spelt op = list_all (λ text. is_some (path_of text)) (paths_of op)

abbrev pub spelt : Op → Result Op Cause
spelt op = if are_spelt op then Ok op else Err BadPath

-- what the members of a line read as, for the name of each call on a path
unfoldable pub path_operations : Data → List (List ℕ × Result Op Cause)
path_operations value =
    (codes "truncate", of_one Truncate (path_at value))
    ∷ (codes "exec", of_one Exec (path_at value))
    ∷ (
      codes "open",
      of_five OpenFile (text_at (codes "path") value) (number_at (codes "fd") value) (mode_at value) (flag_at (codes "create") value)
          (flag_at (codes "trunc") value) >>= spelt,
    )
    ∷ (codes "mknod", of_two Mknod (text_at (codes "path") value) (made_kind_at value) >>= spelt)
    ∷ (codes "mkdir", of_one Mkdir (path_at value))
    ∷ (codes "symlink", of_one Symlink (path_at value))
    ∷ (codes "unlink", of_one Unlink (path_at value))
    ∷ (codes "rmdir", of_one Rmdir (path_at value))
    ∷ (codes "rename", of_three Rename (text_at (codes "from") value) (text_at (codes "to") value) (flag_at (codes "exchange") value) >>= spelt)
    ∷ (codes "link", of_two Link (text_at (codes "from") value) (text_at (codes "to") value) >>= spelt)
    ∷ []

-- of each call on a descriptor, a port or a path
unfoldable pub descriptor_operations : Data → List (List ℕ × Result Op Cause)
descriptor_operations value =
    (codes "adopt", of_two Adopt (number_at (codes "fd") value) (sort_at value))
    ∷ (codes "dup", of_two Dup (number_at (codes "fd") value) (number_at (codes "to") value))
    ∷ (codes "close", of_one Close (number_at (codes "fd") value))
    ∷ (codes "ftruncate", of_one Ftruncate (number_at (codes "fd") value))
    ∷ (codes "ioctl", of_two Ioctl (number_at (codes "fd") value) (truth_at (codes "driver") value))
    ∷ (codes "bind", of_one Bind (port_at value))
    ∷ (codes "connect", of_one Connect (port_at value))
    ∷ path_operations value

-- of each operation
unfoldable pub operations : Data → List (List ℕ × Result Op Cause)
operations value =
    (codes "start", of_two Start (flag_at (codes "nnp") value) (flag_at (codes "admin") value))
    ∷ (codes "fork", of_one Fork (number_at (codes "child") value))
    ∷ (codes "exit", Ok Exit)
    ∷ (codes "nnp", Ok Nnp)
    ∷ (codes "create", of_three Create (number_at (codes "rs") value) (fs_at value) (net_at value))
    ∷ (codes "add_path", of_three AddPath (number_at (codes "rs") value) (text_at (codes "path") value) (fs_at value) >>= spelt)
    ∷ (codes "add_port", of_three AddPort (number_at (codes "rs") value) (number_at (codes "port") value) (net_at value))
    ∷ (codes "close_rs", of_one CloseRs (number_at (codes "rs") value))
    ∷ (codes "restrict", of_one Restrict (number_at (codes "rs") value))
    ∷ (codes "mount", Ok Mount)
    ∷ descriptor_operations value

-- the operation of a name, among some
abbrev pub named_in : List (List ℕ × Result Op Cause) → List ℕ → Result Op Cause
named_in rows name = meaning rows name >>= λ reading. reading

-- the operation of a name
unfoldable pub operation_named : List ℕ → Data → Result Op Cause
operation_named name value = named_in (operations value) name

-- the operation that an object says
unfoldable pub operation_at : Data → Result Op Cause
operation_at value = text_at (codes "op") value >>= λ name. operation_named name value
