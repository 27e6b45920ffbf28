-- Laws of reading traces.
use Rattle.std.proofs.Common.{◌≡◌, ℕ, ◌||◌, Bool, true, false, List, [], ◌∷◌, map, reverse, Option, Some, None, Result, Ok, Err, cond, refl, sym, ap}
use Rattle.std.specs.Option.{option_map_or}
use Rattle.ll_lines.specs.declared.fault.Cause.{Cause}
use Rattle.ll_lines.specs.declared.fault.Cause.TheVariants.{Twice, TooMany, UnknownProcess}
use Rattle.ll_lines.specs.Reading.{first_fault, entries_of, IsGood}
use Rattle.ll_lines.specs.LineByLine.{ReadsInOneWay}
use Rattle.ll_lines.proofs.ReadingLemmas.{in_one_way as format_in_one_way}
use Rattle.ll_trace.specs.declared.op.Record.{Record}
use Rattle.ll_trace.specs.Entries.{Entry, entry_at, is_start_of, is_end_of, is_live, is_unknown, is_twice, is_too_many, entry_fault, started_pid}
use Rattle.ll_trace.specs.Entries.{trace_file}
use Rattle.ll_trace.specs.Records.{entry_of, records_after, IsTrace}
use Rattle.ll_trace.specs.SingleUse.{is_used, is_used_again, strict_entry_fault, strict_file}

-- a live pid was used
used-cases : (a b live used : Bool) → cond a true (cond b false live) ≡ true → (live ≡ true → used ≡ true) → (a || used) ≡ true
used-cases true b live used e later = refl
used-cases false true live used e later = absurd (cc)
used-cases false false live used e later = later e

live_is_used : (past : List Entry) (pid : ℕ) → is_live past pid ≡ true → is_used past pid ≡ true
live_is_used [] pid e = absurd (cc)
live_is_used (entry ∷ past) pid e = used-cases (is_start_of pid entry) (is_end_of pid entry) (is_live past pid) (is_used past pid) e (live_is_used past pid)

-- what was not used before is not live
unused : (live used : Bool) → (live ≡ true → used ≡ true) → used ≡ false → live ≡ false
unused true used later e = absurd (let u : used ≡ true = later refl in cc)
unused false used later e = refl

unused_pid : (past : List Entry) (started : Option ℕ) → option_map_or (is_used past) started false ≡ false → option_map_or (is_live past) started false ≡ false
unused_pid past None e = refl
unused_pid past (Some pid) e = unused (is_live past pid) (is_used past pid) (live_is_used past pid) e

weaker : (a b c d : Bool) → cond a (Some UnknownProcess) (cond b (Some Twice) (cond c (Some TooMany) None)) ≡ None → (b ≡ false → d ≡ false)
    → cond a (Some UnknownProcess) (cond d (Some Twice) (cond c (Some TooMany) None)) ≡ None
weaker true b c d e later = absurd (cc)
weaker false true c d e later = absurd (cc)
weaker false false true d e later = absurd (cc)
weaker false false false d e later = rw (later refl) refl

-- an entry that is not at fault under the stricter rule is not at fault
pub faultless_by_strict : (past : List Entry) (entry : Entry) → strict_entry_fault past entry ≡ None → entry_fault past entry ≡ None
faultless_by_strict past entry none =
    weaker (is_unknown past entry) (is_used_again past entry) (is_too_many past entry) (is_twice past entry) none (unused_pid past (started_pid entry))

faultless_line : (earlier : List Entry) (read : Result Entry Cause) → first_fault read (λ entry. strict_entry_fault (reverse earlier) entry) ≡ None
    → first_fault read (λ entry. entry_fault (reverse earlier) entry) ≡ None
faultless_line earlier (Err cause) e = e
faultless_line earlier (Ok entry) e = faultless_by_strict (reverse earlier) entry e

pub strict_is_good : (bytes : List ℕ) (entries : List Entry) → IsGood strict_file bytes entries → IsGood trace_file bytes entries
strict_is_good bytes entries good = record {
  faultless = λ before after line cut. faultless_line (entries_of trace_file before) (entry_at line) (good.faultless before after line cut);
  all = good.all;
}

-- the records of entries were read from just these
entries_kept : (past entries : List Entry) → map entry_of (records_after past entries) ≡ entries
entries_kept past [] = refl
entries_kept past (entry ∷ entries) = ap (λ others. entry ∷ others) (entries_kept (entry ∷ past) entries)

trace_of_entries : (bytes : List ℕ) (entries : List Entry) → IsGood trace_file bytes entries → IsTrace bytes (records_after [] entries)
trace_of_entries bytes entries good =
    let kept : map entry_of (records_after [] entries) ≡ entries = entries_kept [] entries in
    record { reads = rw kept good; processes = ap (records_after []) (sym kept) }

-- a trace file is read in one way
pub in_one_way : ReadsInOneWay trace_file IsTrace
in_one_way = format_in_one_way trace_file IsTrace (records_after []) trace_of_entries
    (λ bytes records trace. record { entries = map entry_of records; good = trace.reads; is = trace.processes })

pub one_trace : (bytes : List ℕ) (a b : List Record) → IsTrace bytes a → IsTrace bytes b → a ≡ b
one_trace = in_one_way.one
