-- The processes of a trace that was read are numbered in the order of the records that start them.
use Rattle.std.proofs.Common.{◌≡◌, ℕ, zero, suc, ◌+◌, ◌<◌, ◌≤◌, Bool, true, false, not, ◌&&◌, cond, List, [], ◌∷◌, take, map, Option, Some, None, refl, sym, ap}
use Rattle.std.proofs.Common.{◌∙◌, subst, inl, inr, arith, if◌then◌else◌, ◌||◌, length, lit≤}
use Rattle.std.specs.Prelude.{◌==◌, slice_get, is_some, unwrap_or, nat_le}
use Rattle.std.proofs.lemmas.Bool.{cases_Bool, leb-false}
use Rattle.std.proofs.lemmas.Option.{none-some, same_Some}
use Rattle.std.specs.Option.{option_map_or}
use Rattle.ll_lines.specs.declared.fault.Cause.{Cause}
use Rattle.ll_lines.specs.declared.fault.Cause.TheVariants.{UnknownProcess, Twice, TooMany}
use Rattle.ll_trace.specs.declared.reader.TheConstants.{MOST_PROCESSES, MOST_RECORDS}
use Rattle.ll_trace.specs.declared.op.Record.{Record}
use Rattle.ll_trace.specs.Entries as entries
use Rattle.ll_trace.specs.Entries.{Entry, started_pid, is_start_of, is_end_of, is_live, process_named, entry_fault, is_unknown, is_twice, is_too_many}
use Rattle.ll_trace.specs.Records.{entry_of, record_of, records_after, process_of}
use Rattle.ll_trace.specs.Traces.{AreFaultless, AreRecords}
use Rattle.ll_trace.specs.Processes.{is_start, process_count, IsNumbered}
use Rattle.ll_trace.proofs.Numbers.{starting-op, process_count-cons, no_count}
use Rattle.std.proofs.lemmas.List.{length-map}

-- ---- a live pid names a process that was started

holds-some : (test : ℕ → Bool) (o : Option ℕ) → option_map_or test o false ≡ true → is_some o ≡ true
holds-some test None holds = holds
holds-some test (Some p) holds = refl

counted-if : (b : Bool) (n : ℕ) → (if b then n + 1 else n) ≡ cond b 1 0 + n
counted-if true n = omega arith
counted-if false n = omega arith

pub count-cons : (entry : Entry) (past : List Entry)
    → entries.process_count (entry ∷ past) ≡ cond (is_some (started_pid entry)) 1 0 + entries.process_count past
count-cons entry past = counted-if (is_some (started_pid entry)) (entries.process_count past)

one_more : (b : Bool) → b ≡ true → (n : ℕ) → n < cond b 1 0 + n
one_more true holds n = omega arith
one_more false holds n = cc

no_less : (b : Bool) (n : ℕ) → n ≤ cond b 1 0 + n
no_less true n = omega arith
no_less false n = omega arith

live_named : (past : List Entry) (pid : ℕ) → is_live past pid ≡ true → unwrap_or (process_named past pid) 0 < entries.process_count past
live_named [] pid live = cc
live_named (entry ∷ past) pid live = elim (cases_Bool (is_start_of pid entry)) [
  | inl starts ↦
      subst (λ (b : Bool). unwrap_or (if b then Some (entries.process_count past) else process_named past pid) 0
      < entries.process_count (entry ∷ past)) (sym starts)
      (omega (
        arith,
        count-cons entry past,
        one_more (is_some (started_pid entry)) (holds-some (λ started. started == pid) (started_pid entry) starts) (entries.process_count past),
      ))
  | inr goes ↦
      (let still : (if is_end_of pid entry then false else is_live past pid)
      ≡ true = subst (λ (b : Bool). (if b then true else (if is_end_of pid entry then false else is_live past pid)) ≡ true) goes live in
      let before : is_live past pid ≡ true = not_ended (is_end_of pid entry) (is_live past pid) still in
      subst (λ (b : Bool). unwrap_or (if b then Some (entries.process_count past) else process_named past pid) 0
      < entries.process_count (entry ∷ past)) (sym goes)
      (omega (arith, count-cons entry past, no_less (is_some (started_pid entry)) (entries.process_count past), live_named past pid before)))
]
  where
    not_ended : (e l : Bool) → (if e then false else l) ≡ true → l ≡ true
    not_ended true l holds = cc
    not_ended false l holds = holds

-- ---- one record

not_unknown : (s l : Bool) (rest : Option Cause) → (if not s && not l then Some UnknownProcess else rest) ≡ None → s ≡ false → l ≡ true
not_unknown true l rest faultless goes = cc
not_unknown false true rest faultless goes = refl
not_unknown false false rest faultless goes = cc

faultless_live : (past : List Entry) (entry : Entry) → entry_fault past entry ≡ None → is_start entry.op ≡ false → is_live past entry.pid ≡ true
faultless_live past entry faultless goes = not_unknown (is_start entry.op) (is_live past entry.pid) _ faultless goes

-- the process of a record after the past
own_process : (past : List Entry) (entry : Entry) → is_start entry.op ≡ true → process_of past entry ≡ entries.process_count past
own_process past entry starts =
    subst (λ (b : Bool). (if b then entries.process_count past else unwrap_or (process_named past entry.pid) 0) ≡ entries.process_count past) (sym starts) refl

named_process : (past : List Entry) (entry : Entry) → entry_fault past entry ≡ None → is_start entry.op ≡ false
    → process_of past entry < entries.process_count past
named_process past entry faultless goes =
    subst (λ (b : Bool). (if b then entries.process_count past else unwrap_or (process_named past entry.pid) 0) < entries.process_count past) (sym goes)
    (live_named past entry.pid (faultless_live past entry faultless goes))

-- ---- all records

same_head : (x y : Record) (xs ys : List Record) → x ∷ xs ≡ y ∷ ys → x ≡ y
same_head x y xs ys same = cc

same_tail : (x y : Record) (xs ys : List Record) → x ∷ xs ≡ y ∷ ys → xs ≡ ys
same_tail x y xs ys same = cc

-- a record more counts as its entry does
pub count-record : (past : List Entry) (x : Record) (rs : List Record)
    → entries.process_count (entry_of x ∷ past) + process_count rs ≡ entries.process_count past + process_count (x ∷ rs)
count-record past x rs = omega (arith, count-cons (entry_of x) past, process_count-cons x rs, ap (λ b. (let n : ℕ = cond b 1 0 in n)) (starting-op x.op x.pid))

numbered_start : (past : List Entry) (rs : List Record) (k : ℕ) (r : Record) → rs ≡ records_after past (map entry_of rs) → slice_get rs k ≡ Some r
    → is_start r.op ≡ true → r.process.0 ≡ entries.process_count past + process_count (take k rs)
numbered_start past [] k r same eq starts = absurd (none-some r eq)
numbered_start past (x ∷ xs) zero r same eq starts =
    let here : x ≡ r = same_Some x r eq in
    let own : x ≡ record_of past (entry_of x) = same_head x (record_of past (entry_of x)) xs (records_after (entry_of x ∷ past) (map entry_of xs)) same in
    let start : is_start x.op ≡ true = ap (λ (y : Record). is_start y.op) here ∙ starts in
    omega (arith, no_count (x ∷ xs), ap (λ (y : Record). y.process.0) (sym here), ap (λ (y : Record). y.process.0) own, own_process past (entry_of x) start)
numbered_start past (x ∷ xs) (suc k) r same eq starts =
    numbered_start (entry_of x ∷ past) xs k r
    (same_tail x (record_of past (entry_of x)) xs (records_after (entry_of x ∷ past) (map entry_of xs)) same) eq starts
    ∙ count-record past x (take k xs)

numbered_other : (past : List Entry) (rs : List Record) (k : ℕ) (r : Record) → rs ≡ records_after past (map entry_of rs) → AreFaultless past (map entry_of rs)
    → slice_get rs k ≡ Some r → is_start r.op ≡ false → r.process.0 < entries.process_count past + process_count (take k rs)
numbered_other past [] k r same faultless eq goes = absurd (none-some r eq)
numbered_other past (x ∷ xs) zero r same faultless eq goes =
    let here : x ≡ r = same_Some x r eq in
    let own : x ≡ record_of past (entry_of x) = same_head x (record_of past (entry_of x)) xs (records_after (entry_of x ∷ past) (map entry_of xs)) same in
    let other : is_start x.op ≡ false = ap (λ (y : Record). is_start y.op) here ∙ goes in
    omega (
      arith,
      no_count (x ∷ xs),
      ap (λ (y : Record). y.process.0) (sym here),
      ap (λ (y : Record). y.process.0) own,
      named_process past (entry_of x) faultless.0 other,
    )
numbered_other past (x ∷ xs) (suc k) r same faultless eq goes = omega (
  arith,
  count-record past x (take k xs),
  numbered_other (entry_of x ∷ past) xs k r (same_tail x (record_of past (entry_of x)) xs (records_after (entry_of x ∷ past) (map entry_of xs)) same)
      faultless.1 eq goes,
)

pub are_numbered : (records : List Record) → AreFaultless [] (map entry_of records) → records ≡ records_after [] (map entry_of records) → IsNumbered records
are_numbered records faultless same = record {
  begins = λ k r eq starts. omega (arith, numbered_start [] records k r same eq starts);
  goes_on = λ k r eq goes. omega (arith, numbered_other [] records k r same faultless eq goes);
}

-- ---- no more records and processes than a trace may have

-- what is faultless is not too many
fits : (a b c : Bool) → cond a (Some UnknownProcess) (cond b (Some Twice) (cond c (Some TooMany) None)) ≡ None → c ≡ false
fits true b c e = absurd (cc)
fits false true c e = absurd (cc)
fits false false true e = absurd (cc)
fits false false false e = refl

room : (a starts c : Bool) → (a || (starts && c)) ≡ false → (a ≡ false) × (starts ≡ true → c ≡ false)
room true starts c e = absurd (cc)
room false true c e = (refl, λ _. e)
room false false c e = (refl, λ no. absurd (cc))

has_room : (past : List Entry) (entry : Entry) → entry_fault past entry ≡ None
    → (nat_le MOST_RECORDS (length past) ≡ false) × (is_some (started_pid entry) ≡ true → nat_le MOST_PROCESSES (entries.process_count past) ≡ false)
has_room past entry none = room (nat_le MOST_RECORDS (length past)) (is_some (started_pid entry)) (nat_le MOST_PROCESSES (entries.process_count past))
    (fits (is_unknown past entry) (is_twice past entry) (is_too_many past entry) none)

few : (past es : List Entry) → AreFaultless past es → length past ≤ MOST_RECORDS → length past + length es ≤ MOST_RECORDS
few past [] faultless le = omega arith
few past (entry ∷ es) faultless le =
    let below : length past < MOST_RECORDS = leb-false MOST_RECORDS (length past) (has_room past entry faultless.0).0 in
    omega (arith, few (entry ∷ past) es faultless.1 below)

pub few_records : (records : List Record) → AreRecords records → length records ≤ MOST_RECORDS
few_records records are = omega (arith, few [] (map entry_of records) are.faultless (lit≤ tt), length-map records entry_of)

count_next : (b : Bool) (count : ℕ) → count ≤ MOST_PROCESSES → (b ≡ true → count < MOST_PROCESSES) → cond b 1 0 + count ≤ MOST_PROCESSES
count_next true count le lt = let below : count < MOST_PROCESSES = lt refl in omega arith
count_next false count le lt = omega arith

few_started : (past es : List Entry) → AreFaultless past es → entries.process_count past ≤ MOST_PROCESSES
    → entries.process_count past + process_count (records_after past es) ≤ MOST_PROCESSES
few_started past [] faultless le = omega (arith, no_count [])
few_started past (entry ∷ es) faultless le =
    let here : cond (is_some (started_pid entry)) 1 0 + entries.process_count past ≤ MOST_PROCESSES =
    count_next (is_some (started_pid entry)) (entries.process_count past) le
    (λ starts. leb-false MOST_PROCESSES (entries.process_count past) ((has_room past entry faultless.0).1 starts)) in
    let more : entries.process_count (entry ∷ past) ≤ MOST_PROCESSES = omega (arith, here, count-cons entry past) in
    omega (arith, few_started (entry ∷ past) es faultless.1 more, count-record past (record_of past entry) (records_after (entry ∷ past) es))

pub few_processes : (records : List Record) → AreRecords records → process_count records ≤ MOST_PROCESSES
few_processes records are =
    let all : 0 + process_count (records_after [] (map entry_of records)) ≤ MOST_PROCESSES = few_started [] (map entry_of records) are.faultless (lit≤ tt) in
    rw are.processes (omega (arith, all))
