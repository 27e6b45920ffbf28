-- The members of a record's line: paths, modes, kinds and ports.
-- Source: docs/FORMATS.md, "The trace file".
use Rattle.std.specs.Prelude.{ℕ, List, [], ◌∷◌, is_some, nat_le, codes, Result, Ok, Err, if◌then◌else◌}
use Rattle.serde_json.specs.Data.{Data}
use Rattle.ll_rights.specs.declared.net.TheConstants.{LARGEST_PORT}
use Rattle.ll_rights.specs.declared.kind.Kind.{Kind}
use Rattle.ll_rights.specs.declared.kind.Kind.TheVariants.{Reg, Char, Block, Fifo, Sock}
use Rattle.ll_lines.specs.declared.fault.Cause.{Cause}
use Rattle.ll_lines.specs.declared.fault.Cause.TheVariants.{Field, BadPath}
use Rattle.ll_lines.specs.Members.{text_at, number_at, ◌>>=◌}
use Rattle.ll_lines.specs.Paths.{path_of}
use Rattle.ll_trace.specs.Forms.{word_at}
use Rattle.ll_trace.specs.declared.op.Mode.{Mode}
use Rattle.ll_trace.specs.declared.op.Mode.TheVariants.{Read, Write, Both}
use Rattle.ll_trace.specs.declared.op.Sort.{Sort}
use Rattle.ll_trace.specs.declared.op.Sort.TheVariants as sort

-- a text that has the shape of a path
unfoldable pub path_in : List ℕ → Result (List ℕ) Cause
path_in text = if is_some (path_of text) then Ok text else Err BadPath

-- the path that is an operation's one member
unfoldable pub path_at : Data → Result (List ℕ) Cause
path_at value = do
  text ← text_at (codes "path") value
  path_in text

unfoldable pub mode_at : Data → Result Mode Cause
mode_at value = word_at (codes "mode") ((codes "r", Read) ∷ (codes "w", Write) ∷ (codes "rw", Both) ∷ []) value

unfoldable pub sort_at : Data → Result Sort Cause
sort_at value = word_at (codes "kind") ((codes "reg", sort.Regular) ∷ (codes "device", sort.Device) ∷ (codes "other", sort.Other) ∷ []) value

-- the kinds that mknod makes
unfoldable pub made_kind_at : Data → Result Kind Cause
made_kind_at value =
    word_at (codes "kind") ((codes "reg", Reg) ∷ (codes "char", Char) ∷ (codes "block", Block) ∷ (codes "fifo", Fifo) ∷ (codes "sock", Sock) ∷ []) value

-- a TCP port
unfoldable pub port_at : Data → Result ℕ Cause
port_at value = do
  port ← number_at (codes "port") value
  if nat_le port LARGEST_PORT then Ok port else Err Field
