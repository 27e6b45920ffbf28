-- What best effort leaves of the records of a trace: their lines, pids and processes, and which of them start or end a process.
use Rattle.std.proofs.Common.{◌≡◌, ℕ, zero, suc, ◌+◌, Bool, true, false, not, ◌&&◌, List, [], ◌∷◌, map, take, Option, Some}
use Rattle.std.proofs.Common.{None, cond, refl, sym, ap, ◌∙◌, if◌then◌else◌}
use Rattle.std.specs.Prelude.{slice_get}
use Rattle.std.proofs.lemmas.List.{length-map, take-map}
use Rattle.std.specs.Option.{option_map_or}
use Rattle.ll_rights.specs.declared.abi.Abi.{Abi}
use Rattle.ll_rights.specs.Supported.{supported_fs, supported_net}
use Rattle.ll_rights.specs.Rights as files
use Rattle.ll_rights.specs.NetRights as network
use Rattle.ll_tree.specs.Trees as trees
use Rattle.ll_trace.specs.declared.op.Op.{Op}
use Rattle.ll_trace.specs.declared.op.Op.TheVariants as calls
use Rattle.ll_trace.specs.declared.op.ProcessId.{ProcessId}
use Rattle.ll_trace.specs.declared.op.Record.{Record}
use Rattle.ll_trace.specs.Entries.{Entry, is_start, is_exit, pid_started, is_live, process_named, entry_fault}
use Rattle.ll_trace.specs.Entries as entries
use Rattle.ll_trace.specs.Records.{entry_of, record_of, records_after, process_of}
use Rattle.ll_trace.specs.Traces.{AreFaultless, AreRecords}
use Rattle.ll_trace.specs.Processes.{is_fork, is_starting, process_count, number_if, forked_at, own_from, forked_by, parents}
use Rattle.ll_trace.specs.FirstPlaces.{first_place, first_places, place_of_first, paths_of}
use Rattle.ll_trace.specs.Operations.{op_name}
use Rattle.ll_trace.specs.BestEffort.{at_best_effort, record_at_best_effort, records_at_best_effort}
use Rattle.ll_trace.proofs.Numbering.{are_numbered}
use Rattle.ll_trace.proofs.Numbers.{process_count-cons}

-- ---- one call

-- what is so of both of two calls
of_both : {X : Type 0} (says : Op → X) (b : Bool) (x y : Op) (what : X) → says x ≡ what → says y ≡ what → says (if b then x else y) ≡ what
of_both says true x y what first second = first
of_both says false x y what first second = second

-- what a call is to the processes of a trace, its name and its paths
record Role : Type 0 where
  start : Bool
  fork : Bool
  exit : Bool
  started : ℕ → Option ℕ
  starting : Bool
  forked : ProcessId → Option ProcessId
  name : List ℕ
  paths : List (List ℕ)

role : Op → Role
role op = record {
  start = is_start op;
  fork = is_fork op;
  exit = is_exit op;
  started = pid_started op;
  starting = is_starting op;
  forked = forked_by op;
  name = op_name op;
  paths = paths_of op;
}

module _ (abi : Abi) where
  -- All calls whose rights best effort takes out, and what it makes of them, have one role.
  role-kept : (op : Op) → role (at_best_effort abi op) ≡ role op
  unfolding at_best_effort role is_start is_fork is_exit pid_started is_starting forked_by op_name paths_of
  role-kept (calls.Create rs fs net) =
      of_both role (files.is_empty (supported_fs abi fs) && network.is_empty (supported_net abi net) && not (files.is_empty fs && network.is_empty net))
      _ _ _ refl refl
  role-kept (calls.AddPath rs path fs) = of_both role (files.is_empty (supported_fs abi fs) && not (files.is_empty fs)) _ _ _ refl refl
  role-kept (calls.AddPort rs port net) = of_both role (network.is_empty (supported_net abi net) && not (network.is_empty net)) _ _ _ refl refl
  role-kept op = refl

  pub is_start-kept : (op : Op) → is_start (at_best_effort abi op) ≡ is_start op
  unfolding role
  is_start-kept op = ap (λ does. does.start) (role-kept op)

  pub paths-kept : (op : Op) → paths_of (at_best_effort abi op) ≡ paths_of op
  unfolding role
  paths-kept op = ap (λ does. does.paths) (role-kept op)

  pid_started-kept : (op : Op) (pid : ℕ) → pid_started (at_best_effort abi op) pid ≡ pid_started op pid
  unfolding role
  pid_started-kept op pid = ap (λ does. does.started pid) (role-kept op)

  is_starting-kept : (op : Op) → is_starting (at_best_effort abi op) ≡ is_starting op
  unfolding role
  is_starting-kept op = ap (λ does. does.starting) (role-kept op)

  is_fork-kept : (op : Op) → is_fork (at_best_effort abi op) ≡ is_fork op
  unfolding role
  is_fork-kept op = ap (λ does. does.fork) (role-kept op)

  -- ---- entries

  entry_kept : Entry → Entry
  entry_kept entry = record entry { op = at_best_effort abi entry.op }

  is_live-kept : (past : List Entry) (pid : ℕ) → is_live (map entry_kept past) pid ≡ is_live past pid
  unfolding entry_kept role
  is_live-kept [] pid = refl
  is_live-kept (entry ∷ past) pid = rw (pid_started-kept entry.op entry.pid, ap (λ does. does.exit) (role-kept entry.op), is_live-kept past pid) refl

  count-kept : (past : List Entry) → entries.process_count (map entry_kept past) ≡ entries.process_count past
  unfolding entry_kept
  count-kept [] = refl
  count-kept (entry ∷ past) = rw (pid_started-kept entry.op entry.pid, count-kept past) refl

  named-kept : (past : List Entry) (pid : ℕ) → process_named (map entry_kept past) pid ≡ process_named past pid
  unfolding entry_kept
  named-kept [] pid = refl
  named-kept (entry ∷ past) pid = rw (pid_started-kept entry.op entry.pid, named-kept past pid, count-kept past) refl

  twice-kept : (past : List Entry) (started : Option ℕ)
      → option_map_or (is_live (map entry_kept past)) started false ≡ option_map_or (is_live past) started false
  twice-kept past None = refl
  twice-kept past (Some pid) = is_live-kept past pid

  entry_fault-kept : (past : List Entry) (entry : Entry) → entry_fault (map entry_kept past) (entry_kept entry) ≡ entry_fault past entry
  unfolding entry_kept
  entry_fault-kept past entry = rw (
    is_start-kept entry.op,
    pid_started-kept entry.op entry.pid,
    is_live-kept past entry.pid,
    twice-kept past (pid_started entry.op entry.pid),
    count-kept past,
    length-map past entry_kept,
  ) refl

  faultless-kept : (past es : List Entry) → AreFaultless past es → AreFaultless (map entry_kept past) (map entry_kept es)
  faultless-kept past [] faultless = tt
  faultless-kept past (entry ∷ es) faultless = (entry_fault-kept past entry ∙ faultless.0, faultless-kept (entry ∷ past) es faultless.1)

  -- ---- records

  process-kept : (past : List Entry) (entry : Entry) → process_of (map entry_kept past) (entry_kept entry) ≡ process_of past entry
  unfolding entry_kept
  process-kept past entry = rw (is_start-kept entry.op, count-kept past, named-kept past entry.pid) refl

  record-kept : (past : List Entry) (entry : Entry) → record_of (map entry_kept past) (entry_kept entry) ≡ record_at_best_effort abi (record_of past entry)
  unfolding entry_kept
  record-kept past entry =
      ap (λ (process : ℕ). record { line = entry.line; process = record { 0 = process }; pid = entry.pid; op = at_best_effort abi entry.op })
      (process-kept past entry)

  records-kept : (past es : List Entry) → records_after (map entry_kept past) (map entry_kept es) ≡ records_at_best_effort abi (records_after past es)
  records-kept past [] = refl
  records-kept past (entry ∷ es) =
      ap (λ (r : Record). r ∷ records_after (map entry_kept (entry ∷ past)) (map entry_kept es)) (record-kept past entry)
      ∙ ap (λ (rs : List Record). record_at_best_effort abi (record_of past entry) ∷ rs) (records-kept (entry ∷ past) es)

  pub first_places-kept : (tree : List trees.Entry) (records : List Record)
      → first_places tree (records_at_best_effort abi records) ≡ first_places tree records
  unfolding first_place
  first_places-kept tree [] = refl
  first_places-kept tree (r ∷ rs) = rw (ap (place_of_first tree) (paths-kept r.op), first_places-kept tree rs) refl

  entries-kept : (records : List Record) → map entry_of (records_at_best_effort abi records) ≡ map entry_kept (map entry_of records)
  unfolding entry_kept
  entries-kept [] = refl
  entries-kept (r ∷ rs) = ap (λ (es : List Entry). entry_kept (entry_of r) ∷ es) (entries-kept rs)

  pub are_records-kept : (records : List Record) → AreRecords records → AreRecords (records_at_best_effort abi records)
  are_records-kept records are =
      let faultless : AreFaultless [] (map entry_of (records_at_best_effort abi records)) =
      rw (entries-kept records) (faultless-kept [] (map entry_of records) are.faultless) in
      let processes : records_at_best_effort abi records ≡ records_after [] (map entry_of (records_at_best_effort abi records)) =
      ap (records_at_best_effort abi) are.processes ∙ sym (records-kept [] (map entry_of records)) ∙ ap (records_after []) (sym (entries-kept records)) in
      record { faultless = faultless; processes = processes; numbered = are_numbered (records_at_best_effort abi records) faultless processes }

  -- ---- tables

  pub parents-kept : (records : List Record) → parents (records_at_best_effort abi records) ≡ parents records
  unfolding parents role
  parents-kept [] = refl
  parents-kept (r ∷ rs) = rw (is_starting-kept r.op, ap (λ does. does.forked r.process) (role-kept r.op), parents-kept rs) refl

  pub starting-kept : (records : List Record) → process_count (records_at_best_effort abi records) ≡ process_count records
  starting-kept [] = refl
  starting-kept (r ∷ rs) =
      process_count-cons (record_at_best_effort abi r) (records_at_best_effort abi rs)
      ∙ ap (λ (b : Bool). cond b 1 0 + process_count (records_at_best_effort abi rs)) (is_starting-kept r.op)
      ∙ ap (λ (n : ℕ). cond (is_starting r.op) 1 0 + n) (starting-kept rs)
      ∙ sym (process_count-cons r rs)

  pub own-kept : (process k : ℕ) (records : List Record) → own_from process k (records_at_best_effort abi records) ≡ own_from process k records
  unfolding own_from
  own-kept process k [] = refl
  own-kept process k (r ∷ rs) = rw (own-kept process (k + 1) rs) refl

  pub kept_there : Option Record → Option Record
  kept_there None = None
  kept_there (Some r) = Some (record_at_best_effort abi r)

  number-kept : (records : List Record) (k : ℕ) (r : Option Record)
      → number_if is_fork (records_at_best_effort abi records) k (kept_there r) ≡ number_if is_fork records k r
  unfolding number_if kept_there
  number-kept records k None = refl
  number-kept records k (Some r) = rw (is_fork-kept r.op, take-map (record_at_best_effort abi) k records, starting-kept (take k records)) refl

  pub there-kept : (records : List Record) (k : ℕ) → slice_get (records_at_best_effort abi records) k ≡ kept_there (slice_get records k)
  unfolding kept_there
  there-kept [] k = refl
  there-kept (r ∷ rs) zero = refl
  there-kept (r ∷ rs) (suc k) = there-kept rs k

  pub forked-kept : (records : List Record) (k : ℕ) → forked_at (records_at_best_effort abi records) k ≡ forked_at records k
  unfolding forked_at
  forked-kept records k =
      ap (number_if is_fork (records_at_best_effort abi records) k) (there-kept records k) ∙ number-kept records k (slice_get records k)
