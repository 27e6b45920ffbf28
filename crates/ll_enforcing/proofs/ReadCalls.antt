-- No line of a trace file says a call that only best effort makes.
use Rattle.std.proofs.Common.{◌≡◌, ℕ, Bool, true, false, cond, List, [], ◌∷◌, map, Result, Ok, Err, refl, sym, subst, rules, All, arith}
use Rattle.std.specs.Prelude.{codes, bytes_eq}
use Rattle.std.specs.List.{cons_option}
use Rattle.std.specs.Result.{result_ok}
use Rattle.std.proofs.lemmas.List.Elements.{All-nil, All-head, All-tail, All-cons}
use Rattle.serde_json.specs.Data.{Data}
use Rattle.ll_lines.specs.declared.fault.Cause.{Cause}
use Rattle.ll_lines.specs.declared.fault.Cause.TheVariants.{BadPath}
use Rattle.ll_lines.specs.Members.{number_at, text_at, value_at, ◌>>=◌}
use Rattle.ll_lines.specs.Lines.{Line, filled_lines}
use Rattle.ll_lines.specs.Reading.{entries_of}
use Rattle.ll_trace.specs.declared.op.Op.{Op}
use Rattle.ll_trace.specs.declared.op.Op.TheVariants as calls
use Rattle.ll_trace.specs.declared.op.Record.{Record}
use Rattle.ll_trace.specs.Entries.{Entry, entry_at, trace_file}
use Rattle.ll_trace.specs.Records.{IsTrace, entry_of}
use Rattle.ll_trace.specs.Forms.{meaning}
use Rattle.ll_trace.specs.Operations.{are_spelt, spelt, path_operations, descriptor_operations, operations, operation_at, operation_named}

-- a call that creates a ruleset which handles nothing
unfoldable pub is_empty_creation : Op → Bool
is_empty_creation (calls.CreateEmpty rs) = true
is_empty_creation op = false

abbrev pub IsMade : Op → Type 0
IsMade op = is_empty_creation op ≡ false

-- what is read, if anything, is no such call
unfoldable Reads : Result Op Cause → Type 0
Reads (Ok op) = is_empty_creation op ≡ false
Reads (Err cause) = Unit {0}

unfoldable AllRead : List (List ℕ × Result Op Cause) → Type 0
AllRead [] = Unit {0}
AllRead (row ∷ rows) = Reads row.1 × AllRead rows

after : {A : Type 0} (a : Result A Cause) (f : A → Result Op Cause) → ((x : A) → Reads (f x)) → Reads (a >>= f)
unfolding Reads
after (Ok x) f reads = reads x
after (Err cause) f reads = tt

spelt-reads : (op : Op) → is_empty_creation op ≡ false → Reads (spelt op)
unfolding Reads
spelt-reads op made = go (are_spelt op)
  where
    go : (b : Bool) → Reads (cond b (Ok op) (Err BadPath))
    go true = made
    go false = tt

all_read : (value : Data) → AllRead (operations value)
unfolding AllRead Reads path_operations descriptor_operations operations is_empty_creation
all_read value = search (rules, after, spelt-reads)

found : (name : List ℕ) (rows : List (List ℕ × Result Op Cause)) → AllRead rows → Reads (meaning rows name >>= λ reading. reading)
unfolding Reads AllRead
found name [] reads = tt
found name (row ∷ rows) reads = go (bytes_eq name row.0) (found name rows reads.1)
  where
    go : (b : Bool) → Reads (meaning rows name >>= λ reading. reading) → Reads (cond b (Ok row.1) (meaning rows name) >>= λ reading. reading)
    go false later = later
    go true later = reads.0

operation_made : (value : Data) → Reads (operation_at value)
unfolding operation_at operation_named
operation_made value = after (text_at (codes "op") value) (λ name. operation_named name value) (λ name. found name (operations value) (all_read value))

-- what reads in steps has read in each
steps : {A B : Type 0} (a : Result A Cause) (f : A → Result B Cause) (y : B) → (a >>= f) ≡ Ok y → (x : A) × (a ≡ Ok x) × (f x ≡ Ok y)
steps (Ok x) f y reads = (x, refl, reads)
steps (Err cause) f y reads = cc

entry_made : (line : Line) (entry : Entry) → entry_at line ≡ Ok entry → IsMade entry.op
unfolding entry_at Reads
entry_made line entry reads =
    let value = steps (value_at line.bytes) _ entry reads in
    let pid = steps (number_at (codes "pid") value.0) _ entry value.2 in
    let op = steps (operation_at value.0) _ entry pid.2 in
    let same : op.0 ≡ entry.op = cc in
    subst IsMade same (subst Reads op.1 (operation_made value.0))

-- ---- all entries, and all records

entries_made : (lines : List Line) → All (λ (entry : Entry). IsMade entry.op) (entries_of trace_file lines)
entries_made [] = All-nil (λ (entry : Entry). IsMade entry.op)
entries_made (line ∷ lines) = go (entry_at line) refl (entries_made lines)
  where
    go : (read : Result Entry Cause) → entry_at line ≡ read → All (λ (entry : Entry). IsMade entry.op) (entries_of trace_file lines)
        → All (λ (entry : Entry). IsMade entry.op) (cons_option (result_ok read) (entries_of trace_file lines))
    go (Ok entry) is rest = All-cons (λ (e : Entry). IsMade e.op) entry (entries_of trace_file lines) (entry_made line entry is) rest
    go (Err cause) is rest = rest

records_made : (records : List Record) → All (λ (entry : Entry). IsMade entry.op) (map entry_of records) → All (λ (r : Record). IsMade r.op) records
records_made [] all = All-nil (λ (r : Record). IsMade r.op)
records_made (r ∷ records) all =
    All-cons (λ (one : Record). IsMade one.op) r records (All-head (λ (entry : Entry). IsMade entry.op) (entry_of r) (map entry_of records) all)
    (records_made records (All-tail (λ (entry : Entry). IsMade entry.op) (entry_of r) (map entry_of records) all))

pub all_made : (bytes : List ℕ) (records : List Record) → IsTrace bytes records → All (λ (r : Record). IsMade r.op) records
all_made bytes records reads =
    records_made records (subst (λ (entries : List Entry). All (λ (entry : Entry). IsMade entry.op) entries) (sym reads.reads.all)
    (entries_made (filled_lines bytes)))
