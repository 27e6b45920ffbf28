-- What an audit is given: the files that a source has, by their names, the bytes of its two files, and the forks at
-- which its work is cut.
-- Source: docs/FORMATS.md, "The command line", "The tree file" and "The trace file".
use Rattle.std.specs.Prelude.{◌≡◌, ℕ, Bool, List, map, nat_le, IfSome, None, Option, Some, length}
use Rattle.std.specs.Borrow.{Bor}
use Rattle.std.specs.Ordering.{nat_cmp}
use Rattle.std.specs.Cmp.Lexicographic.{slice_cmp}
use Rattle.std.specs.FinMap as finite
use Rattle.std.specs.List.{range_with_len}
use Rattle.ll_trace.specs.declared.op.Record.{Record}
use Rattle.ll_trace.specs.Processes.{own_records, process_count}
use Rattle.ll_audit.specs.declared.inputs.Inputs.{Inputs}
use Rattle.ll_audit.specs.declared.inputs.Inputs.TheVariants as inputs
use Rattle.ll_audit.specs.declared.cut.Cut.{Cut}
use Rattle.ll_audit.specs.declared.cut.Cut.TheVariants.{Grain, List as Listed}

-- ---- the files of a source

-- a finite map from names to bytes
abbrev pub Files : Type 0
Files = finite.FinMap (slice_cmp nat_cmp) (List ℕ)

-- the bytes of a name
abbrev pub bytes_of : Files → List ℕ → Option (List ℕ)
bytes_of files name = finite.get files name

-- these are the bytes of the file of a name, where the files are known
abbrev pub AreBytesOf : Option Files → List ℕ → List ℕ → Type 0
AreBytesOf files name bytes = IfSome files (λ known. bytes_of known name ≡ Some bytes)

-- a name has a file, and another one has none, where the files are known
abbrev pub HasFile : Option Files → List ℕ → Type 0
HasFile files name = (bytes : List ℕ) × AreBytesOf files name bytes

abbrev pub HasNoFile : Option Files → List ℕ → Type 0
HasNoFile files name = IfSome files (λ known. bytes_of known name ≡ None)

-- the files of a list; where a name is there twice the first counts
abbrev pub files_of : List (Bor (List ℕ) × Bor (List ℕ)) → Files
files_of listed = finite.from_entries (map (λ file. (file.0.now, file.1.now)) listed)

-- ---- the bytes of the two files of an audit

-- those of the tree file
abbrev pub tree_bytes : Inputs → List ℕ
tree_bytes (inputs.Lent tree trace) = tree.now
tree_bytes (inputs.Read tree trace) = tree.items

-- those of the trace file
abbrev pub trace_bytes : Inputs → List ℕ
trace_bytes (inputs.Lent tree trace) = trace.now
trace_bytes (inputs.Read tree trace) = trace

-- ---- at which forks the work is cut: which children may be judged by another thread than their parent

-- the process has at least this many records
abbrev pub is_long : List Record → ℕ → ℕ → Bool
is_long records grain process = nat_le grain (length (own_records records process))

-- for each process whether it may be judged by another thread: by its number of records, or as a list says
abbrev pub cuts_by : List Record → Cut → List Bool
cuts_by records (Grain grain) = map (is_long records grain) (range_with_len 0 (process_count records))
cuts_by records (Listed cuts) = cuts.items
