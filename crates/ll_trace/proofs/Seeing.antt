-- What is the same of the records of a trace under every kernel.
use Rattle.std.proofs.Common.{◌≡◌, ◌<◌, ◌∙◌, ℕ, Bool, false, List, get_or, length, refl, sym, ap, Some}
use Rattle.std.specs.Prelude.{slice_get, option_map}
use Rattle.std.proofs.lemmas.List.{length-map}
use Rattle.std.proofs.lemmas.Option.{slice_get-map, slice_get_read, same_Some}
use Rattle.ll_rights.specs.declared.abi.Abi.{Abi}
use Rattle.ll_trace.specs.declared.op.Op.{Op}
use Rattle.ll_trace.specs.declared.op.Op.TheVariants.{Start}
use Rattle.ll_trace.specs.declared.op.Op.TheVariants as calls
use Rattle.ll_trace.specs.declared.op.Record.{Record}
use Rattle.ll_trace.specs.declared.trace.Effort.{Effort}
use Rattle.ll_trace.specs.declared.trace.Effort.TheVariants.{AsRecorded, Best}
use Rattle.ll_trace.specs.Borrowed.{is_of_rights}
use Rattle.ll_trace.specs.BestEffort.{at_best_effort, record_at_best_effort}
use Rattle.ll_trace.specs.Processes.{is_start, process_count, parents, own_records, forked_at}
use Rattle.ll_tree.specs.Trees.{Entry}
use Rattle.ll_trace.specs.FirstPlaces.{first_places}
use Rattle.ll_trace.specs.Taken.{by_effort, records_by}
use Rattle.ll_trace.specs.Traces.{AreRecords}
use Rattle.ll_trace.proofs.BestEffort.{are_records-kept, first_places-kept, forked-kept, is_start-kept, own-kept, parents-kept, starting-kept}

module _ (effort : Effort) (abi : Abi) where
  -- a start stays one, and no other call becomes one
  pub start_seen : (op : Op) (nnp admin : Bool) → op ≡ Start nnp admin → by_effort effort abi op ≡ Start nnp admin
  unfolding by_effort at_best_effort
  start_seen op nnp admin is = ap (by_effort effort abi) is ∙ go effort where
    go : (e : Effort) → by_effort e abi (Start nnp admin) ≡ Start nnp admin
    go AsRecorded = refl
    go Best = refl

  pub no_start_seen : (op : Op) → is_start op ≡ false → is_start (by_effort effort abi op) ≡ false
  unfolding by_effort
  no_start_seen op is = go effort ∙ is where
    go : (e : Effort) → is_start (by_effort e abi op) ≡ is_start op
    go AsRecorded = refl
    go Best = is_start-kept abi op

  -- a call that names no rights is seen as it was recorded
  pub same_seen : (op : Op) → is_of_rights op ≡ false → by_effort effort abi op ≡ op
  unfolding by_effort at_best_effort is_of_rights
  same_seen op other = go effort op other where
    best : (one : Op) → is_of_rights one ≡ false → at_best_effort abi one ≡ one
    best (calls.Create rs fs net) is = absurd cc
    best (calls.AddPath rs path fs) is = absurd cc
    best (calls.AddPort rs port net) is = absurd cc
    best one is = refl

    go : (e : Effort) (one : Op) → is_of_rights one ≡ false → by_effort e abi one ≡ one
    go AsRecorded one is = refl
    go Best one is = best one is

module _ (effort : Effort) (abi : Abi) (records : List Record) where
  pub as_many : length (records_by effort abi records) ≡ length records
  as_many = go effort where
    go : (e : Effort) → length (records_by e abi records) ≡ length records
    go AsRecorded = refl
    go Best = length-map records (record_at_best_effort abi)

  pub still_records : AreRecords records → AreRecords (records_by effort abi records)
  still_records are = go effort where
    go : (e : Effort) → AreRecords (records_by e abi records)
    go AsRecorded = are
    go Best = are_records-kept abi records are

  pub count_seen : process_count (records_by effort abi records) ≡ process_count records
  count_seen = go effort where
    go : (e : Effort) → process_count (records_by e abi records) ≡ process_count records
    go AsRecorded = refl
    go Best = starting-kept abi records

  pub parents_seen : parents (records_by effort abi records) ≡ parents records
  parents_seen = go effort where
    go : (e : Effort) → parents (records_by e abi records) ≡ parents records
    go AsRecorded = refl
    go Best = parents-kept abi records

  pub own_seen : (process : ℕ) → own_records (records_by effort abi records) process ≡ own_records records process
  unfolding own_records
  own_seen process = go effort where
    go : (e : Effort) → own_records (records_by e abi records) process ≡ own_records records process
    go AsRecorded = refl
    go Best = own-kept abi process 0 records

  pub forked_seen : (k : ℕ) → forked_at (records_by effort abi records) k ≡ forked_at records k
  forked_seen k = go effort where
    go : (e : Effort) → forked_at (records_by e abi records) k ≡ forked_at records k
    go AsRecorded = refl
    go Best = forked-kept abi records k

  pub record_seen : (k : ℕ) (r : Record) → slice_get records k ≡ Some r
      → slice_get (records_by effort abi records) k ≡ Some (record r { op = by_effort effort abi r.op })
  unfolding by_effort
  record_seen k r here = go effort where
    go : (e : Effort) → slice_get (records_by e abi records) k ≡ Some (record r { op = by_effort e abi r.op })
    go AsRecorded = here
    go Best = slice_get-map (record_at_best_effort abi) records k ∙ ap (option_map (record_at_best_effort abi)) here

  -- the record that is read at an index
  pub item_at : (k : ℕ) (item : Record) (held seen : List Record) → held ≡ records → records_by effort abi records ≡ seen → k < length seen
      → item ≡ get_or held k item → slice_get records k ≡ Some item
  item_at k item held seen same is within read = slice_get_read records (length records) k item refl (rw (← as_many, is) within) (rw same at read)

  -- it is seen as it was recorded, but for its call
  pub seen_at : (k : ℕ) (item r : Record) (held seen : List Record) → held ≡ records → records_by effort abi records ≡ seen → k < length seen
      → item ≡ get_or held k item → slice_get seen k ≡ Some r → r ≡ record item { op = by_effort effort abi item.op }
  seen_at k item r held seen same is within read there =
      same_Some r _ (sym there ∙ ap (λ rs. slice_get rs k) (sym is) ∙ record_seen k item (item_at k item held seen same is within read))

  pub first_places_seen : (tree : List Entry) → first_places tree (records_by effort abi records) ≡ first_places tree records
  first_places_seen tree = go effort where
    go : (e : Effort) → first_places tree (records_by e abi records) ≡ first_places tree records
    go AsRecorded = refl
    go Best = first_places-kept abi tree records
