-- What the reader keeps says which pids are live, and which process each names.
use Rattle.std.proofs.Common.{◌≡◌, ℕ, ◌+◌, Bool, true, false, List, [], ◌∷◌, Option, Some, None, cond, eqb, refl, ap, ◌∙◌}
use Rattle.std.specs.FinMap.{FinMap, empty, get, get-empty}
use Rattle.std.specs.Ordering.{nat_cmp}
use Rattle.ll_trace.specs.declared.op.Op.{Op}
use Rattle.ll_trace.specs.declared.op.Op.TheVariants.{Exit}
use Rattle.ll_trace.specs.declared.owners.Owner.{Owner}
use Rattle.ll_trace.specs.declared.reader.Reader.{Reader}
use Rattle.ll_trace.specs.Entries.{Entry, is_exit, pid_started, started_pid, is_start_of, is_end_of, is_live, process_named, process_count}
use Rattle.ll_trace.specs.Kept.{number, owner_of, past, runs, stopped, IsKept, IsNoted, Begins, Stops}

runs-stopped : (owner : Option Owner) → runs (stopped owner) ≡ false
runs-stopped None = refl
runs-stopped (Some owner) = refl

runs-cases : (a b : Bool) (new : Owner) (old : Option Owner) (live : Bool) → new.running ≡ true → runs old ≡ live
    → runs (cond a (Some new) (cond b (stopped old) old)) ≡ cond a true (cond b false live)
runs-cases true b new old live starts same = starts
runs-cases false true new old live starts same = runs-stopped old
runs-cases false false new old live starts same = same

-- the latest process of a pid is the one kept
pub owner_kept : (reader : Reader) (pid : ℕ) → IsKept reader → get reader.owners pid ≡ owner_of (past reader) pid
owner_kept reader pid kept = kept.follows.owners pid

pub is_running : (past : List Entry) (pid : ℕ) → runs (owner_of past pid) ≡ is_live past pid
is_running [] pid = refl
is_running (entry ∷ past) pid =
    runs-cases (is_start_of pid entry) (is_end_of pid entry) (record { process = record { 0 = process_count past }; running = true }) (owner_of past pid)
    (is_live past pid) refl (is_running past pid)

number-stopped : (owner : Option Owner) → number (stopped owner) ≡ number owner
number-stopped None = refl
number-stopped (Some owner) = refl

number-cases : (a b : Bool) (new : Owner) (old : Option Owner) (named : Option ℕ) → number old ≡ named
    → number (cond a (Some new) (cond b (stopped old) old)) ≡ cond a (Some new.process.0) named
number-cases true b new old named same = refl
number-cases false true new old named same = rw number-stopped same
number-cases false false new old named same = same

pub is_named : (past : List Entry) (pid : ℕ) → number (owner_of past pid) ≡ process_named past pid
is_named [] pid = refl
is_named (entry ∷ past) pid =
    number-cases (is_start_of pid entry) (is_end_of pid entry) (record { process = record { 0 = process_count past }; running = true }) (owner_of past pid)
    (process_named past pid) (is_named past pid)

-- what starts a process is no exit
pub started_not_exit : (op : Op) (pid started : ℕ) → pid_started op pid ≡ Some started → is_exit op ≡ false
unfolding pid_started is_exit
started_not_exit Exit pid started e = absurd (cc)
started_not_exit _ pid started e = refl

owner-begins : (entry : Entry) (past : List Entry) (pid q : ℕ) (old : Option Owner) → started_pid entry ≡ Some pid → old ≡ owner_of past q
    → cond (eqb pid q) (Some (record { process = record { 0 = process_count past }; running = true })) old ≡ owner_of (entry ∷ past) q
owner-begins entry past pid q old starts is =
    let stays : is_exit entry.op ≡ false = started_not_exit entry.op entry.pid pid starts in
    rw (starts, stays, is) refl

owner-stops : (entry : Entry) (past : List Entry) (q : ℕ) (old : Option Owner) → started_pid entry ≡ None → is_exit entry.op ≡ true → old ≡ owner_of past q
    → cond (eqb entry.pid q) (stopped old) old ≡ owner_of (entry ∷ past) q
owner-stops entry past q old starts exits is = rw (starts, exits, is) refl

owner-stays : (entry : Entry) (past : List Entry) (q : ℕ) (old : Option Owner) → started_pid entry ≡ None → is_exit entry.op ≡ false → old ≡ owner_of past q
    → old ≡ owner_of (entry ∷ past) q
owner-stays entry past q old starts stays is = rw (starts, stays) is

pub noted_begin : (old new : Reader) (entry : Entry) (pid : ℕ) → IsKept old → started_pid entry ≡ Some pid → Begins old new pid → IsNoted old new entry
noted_begin old new entry pid kept starts begins = record {
  follows = record {
    count = begins.count ∙ rw starts (ap (λ n. n + 1) kept.follows.count);
    owners = λ q. begins.owners q ∙ (rw kept.follows.count (owner-begins entry (past old) pid q _ starts (kept.follows.owners q)));
  };
  records = begins.records;
}

pub noted_stop : (old new : Reader) (entry : Entry) → IsKept old → started_pid entry ≡ None → is_exit entry.op ≡ true
    → Stops old new entry.pid → IsNoted old new entry
noted_stop old new entry kept starts exits stops = record {
  follows = record {
    count = stops.count ∙ rw starts kept.follows.count;
    owners = λ q. stops.owners q ∙ owner-stops entry (past old) q _ starts exits (kept.follows.owners q);
  };
  records = stops.records;
}

pub noted_same : (old : Reader) (entry : Entry) → IsKept old → started_pid entry ≡ None → is_exit entry.op ≡ false → IsNoted old old entry
noted_same old entry kept starts stays = record {
  follows = record {
    count = rw starts kept.follows.count;
    owners = λ q. owner-stays entry (past old) q _ starts stays (kept.follows.owners q);
  };
  records = refl;
}

-- no pid has a process before the first entry
pub nobody : (owners : FinMap nat_cmp Owner) (pid : ℕ) → owners ≡ empty → get owners pid ≡ None
nobody owners pid none = rw none (get-empty nat_cmp pid)
