-- The records of a trace, and what a kernel takes them for.
use Rattle.std.proofs.Common.{◌≡◌, ℕ, zero, suc, Bool, true, false, cond, List, [], ◌∷◌, Some, refl, sym, subst}
use Rattle.std.specs.Prelude.{◌&&◌, not, slice_get}
use Rattle.std.proofs.lemmas.Bool.{true≢false}
use Rattle.std.proofs.lemmas.Option.{none-some, same_Some}
use Rattle.ll_rights.specs.declared.abi.Abi.{Abi}
use Rattle.ll_rights.specs.declared.fs.Fs.{Fs}
use Rattle.ll_rights.specs.declared.net.Net.{Net}
use Rattle.ll_rights.specs.Supported.{supported_fs, supported_net}
use Rattle.ll_rights.specs.Rights as files
use Rattle.ll_rights.specs.NetRights as network
use Rattle.ll_trace.specs.declared.op.Op.{Op}
use Rattle.ll_trace.specs.declared.op.Op.TheVariants as calls
use Rattle.ll_trace.specs.declared.op.Record.{Record}
use Rattle.ll_trace.specs.declared.trace.Effort.{Effort}
use Rattle.ll_trace.specs.declared.trace.Effort.TheVariants.{AsRecorded, Best}
use Rattle.ll_trace.specs.BestEffort.{at_best_effort, record_at_best_effort, records_at_best_effort}
use Rattle.ll_trace.specs.Borrowed.{is_of_rights}
use Rattle.ll_trace.specs.Taken.{records_by}
use Rattle.ll_trace.proofs.BestEffort.{paths-kept}
use Rattle.ll_findings.specs.TakenRecords.{AreTaken, IsTaken}

-- ---- one record

created : (b : Bool) (rs : ℕ) (fs : Fs) (net : Net) → is_of_rights (cond b (calls.CreateEmpty rs) (calls.Create rs fs net)) ≡ true
unfolding is_of_rights
created true rs fs net = refl
created false rs fs net = refl

path_added : (b : Bool) (rs : ℕ) (path : List ℕ) (fs : Fs) → is_of_rights (cond b (calls.LeaveOutPath path) (calls.AddPath rs path fs)) ≡ true
unfolding is_of_rights
path_added true rs path fs = refl
path_added false rs path fs = refl

port_added : (b : Bool) (rs port : ℕ) (net : Net) → is_of_rights (cond b calls.LeaveOutPort (calls.AddPort rs port net)) ≡ true
unfolding is_of_rights
port_added true rs port net = refl
port_added false rs port net = refl

still_of_rights : (abi : Abi) (op : Op) → is_of_rights op ≡ true → is_of_rights (at_best_effort abi op) ≡ true
unfolding is_of_rights at_best_effort
still_of_rights abi (calls.Create rs fs net) rights =
    let none : Bool = files.is_empty (supported_fs abi fs) && network.is_empty (supported_net abi net) && not (files.is_empty fs && network.is_empty net) in
    created none rs (supported_fs abi fs) (supported_net abi net)
still_of_rights abi (calls.AddPath rs path fs) rights =
    path_added (files.is_empty (supported_fs abi fs) && not (files.is_empty fs)) rs path (supported_fs abi fs)
still_of_rights abi (calls.AddPort rs port net) rights =
    port_added (network.is_empty (supported_net abi net) && not (network.is_empty net)) rs port (supported_net abi net)
still_of_rights abi op rights = rights

op_stays : (abi : Abi) (op : Op) → is_of_rights op ≡ false → op ≡ at_best_effort abi op
unfolding at_best_effort is_of_rights
op_stays abi (calls.Create rs fs net) other = absurd (true≢false other)
op_stays abi (calls.AddPath rs path fs) other = absurd (true≢false other)
op_stays abi (calls.AddPort rs port net) other = absurd (true≢false other)
op_stays abi op other = refl

at_best : (abi : Abi) (r : Record) → IsTaken r (record_at_best_effort abi r)
at_best abi r = record {
  line = refl;
  process = refl;
  pid = refl;
  paths = sym (paths-kept abi r.op);
  same = op_stays abi r.op;
  other = still_of_rights abi r.op;
}

-- ---- all records

all_as_recorded : (records : List Record) → AreTaken records records
all_as_recorded [] = tt
all_as_recorded (r ∷ rs) =
    (record { line = refl; process = refl; pid = refl; paths = refl; same = λ _. refl; other = λ rights. rights }, all_as_recorded rs)

all_at_best : (abi : Abi) (records : List Record) → AreTaken records (records_at_best_effort abi records)
all_at_best abi [] = tt
all_at_best abi (r ∷ rs) = (at_best abi r, all_at_best abi rs)

pub all_taken : (effort : Effort) (abi : Abi) (records : List Record) → AreTaken records (records_by effort abi records)
all_taken AsRecorded abi records = all_as_recorded records
all_taken Best abi records = all_at_best abi records

-- the record of the trace at an index
pub read_there : (trace records : List Record) → AreTaken trace records → (index : ℕ) (r : Record) → slice_get records index ≡ Some r
    → (l : Record) × (slice_get trace index ≡ Some l) × IsTaken l r
read_there [] [] are index r is = absurd (none-some r is)
read_there [] (x ∷ xs) are index r is = absurd are
read_there (l ∷ ls) [] are index r is = absurd are
read_there (l ∷ ls) (x ∷ xs) are zero r is = (l, refl, subst (IsTaken l) (same_Some x r is) are.0)
read_there (l ∷ ls) (x ∷ xs) are (suc index) r is = read_there ls xs are.1 index r is
