-- One record more.
use Rattle.std.proofs.Common.{◌≡◌, None, List, [], ◌∷◌, ◌++◌, map, reverse, refl, sym, ap, ◌∙◌, append_assoc}
use Rattle.std.proofs.lemmas.List.{reverse-append, map-append, append-nil}
use Rattle.std.specs.FinMap.{get}
use Rattle.ll_trace.specs.declared.op.Record.{Record}
use Rattle.ll_trace.specs.declared.reader.Reader.{Reader}
use Rattle.ll_trace.specs.Entries.{Entry, entry_fault, process_count}
use Rattle.ll_trace.specs.Records.{entry_of, record_of, records_after}
use Rattle.ll_trace.specs.Traces.{AreFaultless, AreRecords}
use Rattle.ll_trace.proofs.Numbering.{are_numbered}
use Rattle.ll_trace.specs.Kept.{entries, past, owner_of, IsKept, IsNoted}

pub records_after-append : (past entries : List Entry) (entry : Entry)
    → records_after past (entries ++ entry ∷ []) ≡ records_after past entries ++ record_of (reverse entries ++ past) entry ∷ []
records_after-append past [] entry = refl
records_after-append past (first ∷ entries) entry =
    let turned : reverse (first ∷ entries) ++ past ≡ reverse entries ++ first ∷ past =
    ap (λ es. es ++ past) (reverse-append (first ∷ []) entries) ∙ append_assoc (reverse entries) (first ∷ []) past in
    rw turned (ap (λ rs. record_of past first ∷ rs) (records_after-append (first ∷ past) entries entry))

AreFaultless-append : (past entries : List Entry) (entry : Entry) → AreFaultless past entries → entry_fault (reverse entries ++ past) entry ≡ None
    → AreFaultless past (entries ++ entry ∷ [])
AreFaultless-append past [] entry faultless here = (here, tt)
AreFaultless-append past (first ∷ entries) entry faultless here =
    let turned : reverse (first ∷ entries) ++ past ≡ reverse entries ++ first ∷ past =
    ap (λ es. es ++ past) (reverse-append (first ∷ []) entries) ∙ append_assoc (reverse entries) (first ∷ []) past in
    (faultless.0, AreFaultless-append (first ∷ past) entries entry faultless.1 (ap (λ (p : List Entry). entry_fault p entry) (sym turned) ∙ here))

-- a list of records, and one more
pub AreRecords-append : (records : List Record) (entry : Entry) (r : Record) → AreRecords records → entry_fault (reverse (map entry_of records)) entry ≡ None
    → r ≡ record_of (reverse (map entry_of records)) entry → AreRecords (records ++ r ∷ [])
AreRecords-append records entry r are here is =
    let past : List Entry = reverse (map entry_of records) in
    let entries : map entry_of (records ++ r ∷ []) ≡ map entry_of records ++ entry ∷ [] =
    map-append entry_of records (r ∷ []) ∙ ap (λ (x : Record). map entry_of records ++ entry_of x ∷ []) is in
    let same : past ++ [] ≡ past = append-nil past in
    let numbered : records_after [] (map entry_of records ++ entry ∷ []) ≡ records_after [] (map entry_of records) ++ record_of past entry ∷ [] =
    records_after-append [] (map entry_of records) entry ∙ ap (λ (p : List Entry). records_after [] (map entry_of records) ++ record_of p entry ∷ []) same in
    let faultless : AreFaultless [] (map entry_of (records ++ r ∷ [])) =
    rw entries (AreFaultless-append [] (map entry_of records) entry are.faultless (ap (λ (p : List Entry). entry_fault p entry) same ∙ here)) in
    let processes : records ++ r ∷ [] ≡ records_after [] (map entry_of (records ++ r ∷ [])) = ap (λ rs. rs ++ r ∷ []) are.processes
    ∙ (ap (λ x. records_after [] (map entry_of records) ++ x ∷ []) is ∙ (sym numbered ∙ ap (records_after []) (sym entries))) in
    record { faultless = faultless; processes = processes; numbered = are_numbered (records ++ r ∷ []) faultless processes }

pub kept_admitted : (old noted new : Reader) (entry : Entry) (r : Record) → IsKept old → entry_fault (past old) entry ≡ None → IsNoted old noted entry
    → new.records.items ≡ noted.records.items ++ r ∷ []
    → new.owners ≡ noted.owners → new.processes ≡ noted.processes → r ≡ record_of (past old) entry → IsKept new
kept_admitted old noted new entry r kept here is_noted pushed same_owners same_count is =
    let items : new.records.items ≡ old.records.items ++ r ∷ [] = pushed ∙ ap (λ rs. rs ++ r ∷ []) is_noted.records in
    let read : entries new ≡ entries old ++ entry ∷ [] =
    ap (map entry_of) items ∙ (map-append entry_of old.records.items (r ∷ []) ∙ ap (λ (x : Record). entries old ++ entry_of x ∷ []) is) in
    let turned : past new ≡ entry ∷ past old = ap reverse read ∙ reverse-append (entries old) (entry ∷ []) in
    record {
      follows = record {
        count = same_count ∙ (is_noted.follows.count ∙ ap process_count (sym turned));
        owners = λ q. ap (λ o. get o q) same_owners ∙ (is_noted.follows.owners q ∙ ap (λ p. owner_of p q) (sym turned));
      };
      records = rw items (AreRecords-append old.records.items entry r kept.records here is);
    }
