-- What each call wants at a path, and what that asks of the file tree: a set of rights on one node, or nothing where the tree decides the call.
-- Source: landlock(7), "Filesystem actions"; the kernel's userspace document on Landlock, "Filesystem flags".
use Rattle.std.specs.Prelude.{ℕ, List, Bool, if◌then◌else◌, Option, Some, None, option_and_then}
use Rattle.ll_rights.specs.declared.fs.Fs.{Fs}
use Rattle.ll_rights.specs.declared.kind.Kind.{Kind}
use Rattle.ll_rights.specs.declared.kind.Kind.TheVariants.{Dir, Reg, Char, Block, Fifo}
use Rattle.ll_rights.specs.Rights.{execute, write_file, read_file, read_dir, make_dir, make_reg, make_sym, truncate, only, united}
use Rattle.ll_rights.specs.Kinds.{make_right_of, remove_right_of}
use Rattle.ll_tree.specs.declared.place.NodeId.{NodeId}
use Rattle.ll_tree.specs.declared.place.Place.{Place}
use Rattle.ll_tree.specs.declared.place.Place.TheVariants.{Node, Gap}
use Rattle.ll_tree.specs.Trees.{Entry, kind_at, parent_at, is_dir, place}
use Rattle.ll_trace.specs.declared.op.Op.{Op}
use Rattle.ll_trace.specs.declared.op.Op.TheVariants as calls
use Rattle.ll_trace.specs.declared.op.Mode.{Mode}
use Rattle.ll_trace.specs.declared.op.Mode.TheVariants.{Read, Write, Both}
use Rattle.ll_semantics.specs.declared.request.Request.{Request}
use Rattle.ll_semantics.specs.declared.request.Wanted.{Wanted}
use Rattle.ll_semantics.specs.declared.request.Wanted.TheVariants.{Open, OnFile, Make, Unlink, Rmdir}

-- what a call wants at the place of its path
unfoldable pub wanted : Op → Option (List ℕ × Wanted)
wanted (calls.OpenFile path fd mode create trunc) = Some (path, Open mode create trunc)
wanted (calls.Truncate path) = Some (path, OnFile (only truncate))
wanted (calls.Exec path) = Some (path, OnFile (only execute))
wanted (calls.Mknod path kind) = Some (path, Make (only (make_right_of kind)))
wanted (calls.Mkdir path) = Some (path, Make (only make_dir))
wanted (calls.Symlink path) = Some (path, Make (only make_sym))
wanted (calls.Unlink path) = Some (path, Unlink)
wanted (calls.Rmdir path) = Some (path, Rmdir)
wanted op = None

abbrev pub ask : NodeId → Fs → Option Request
ask node rights = Some (record { node = node; rights = rights })

-- the rights to open a file for reading, writing or both
abbrev pub rights_of_mode : Mode → Fs
rights_of_mode Read = only read_file
rights_of_mode Write = only write_file
rights_of_mode Both = united (only read_file) (only write_file)

-- the rights to open a regular file, and to truncate it by that
abbrev pub file_rights : Mode → Bool → Fs
file_rights mode trunc = if trunc then united (rights_of_mode mode) (only truncate) else rights_of_mode mode

-- the rights to make a file and open it, which ask nothing for truncating it
abbrev pub new_file_rights : Mode → Fs
new_file_rights mode = united (only make_reg) (rights_of_mode mode)

-- opening an object that is there
unfoldable pub open_kind : Kind → NodeId → Mode → Bool → Bool → Option Request
open_kind Dir node Read create trunc = if create then None else (if trunc then None else ask node (only read_dir))
open_kind Reg node mode create trunc = ask node (file_rights mode trunc)
open_kind Char node mode create trunc = ask node (rights_of_mode mode)
open_kind Block node mode create trunc = ask node (rights_of_mode mode)
open_kind Fifo node mode create trunc = ask node (rights_of_mode mode)
open_kind kind node mode create trunc = None

-- rights that are asked on a regular file itself
unfoldable pub regular_kind : Kind → NodeId → Fs → Option Request
regular_kind Reg node rights = ask node rights
regular_kind kind node rights = None

-- removing an object of a kind from the directory that it is in, which the root hasn't
unfoldable pub remove_from : Kind → Option NodeId → Option Request
remove_from kind None = None
remove_from kind (Some directory) = ask directory (only (remove_right_of kind))

-- What is wanted at a place asks rights on the object there, or on the directory of an object that is made or removed.
unfoldable pub asks : List Entry → Place → Wanted → Option Request
asks tree (Node node) (Open mode create trunc) = open_kind (kind_at tree node) node mode create trunc
asks tree (Node node) (OnFile rights) = regular_kind (kind_at tree node) node rights
asks tree (Node node) Unlink = if is_dir (kind_at tree node) then None else remove_from (kind_at tree node) (parent_at tree node)
asks tree (Node node) Rmdir = if is_dir (kind_at tree node) then remove_from (kind_at tree node) (parent_at tree node) else None
asks tree (Gap directory) (Open mode create trunc) = if create then ask directory (new_file_rights mode) else None
asks tree (Gap directory) (Make rights) = ask directory rights
asks tree place wanted = None

-- what a call asks that wants something at a path
abbrev pub request : List Entry → Option (List ℕ × Wanted) → Option Request
request tree want = option_and_then (λ wanted. asks tree (place tree wanted.0) wanted.1) want
