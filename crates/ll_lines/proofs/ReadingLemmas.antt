-- Reading line after line answers the entries of a good file, and the first fault of a bad one.
use Rattle.std.proofs.Common.{◌≡◌, ◌≢◌, ◌↔◌, ℕ, ◌⊎◌, inl, inr, List, [], ◌∷◌, ◌++◌, Option, Some, None, Result, Ok, Err, refl, sym, ap, ◌∙◌, append_assoc}
use Rattle.std.proofs.Common.{subst}
use Rattle.std.proofs.lemmas.List.{append-nil}
use Rattle.ll_lines.specs.declared.fault.Cause.{Cause}
use Rattle.ll_lines.specs.declared.fault.ReadFault.{ReadFault}
use Rattle.ll_lines.specs.declared.fault.Cause.TheVariants.{Memory}
use Rattle.ll_lines.specs.Readers.{Fails}
use Rattle.ll_lines.specs.Lines.{Line, filled_lines}
use Rattle.ll_lines.specs.Reading.{Format, entries_of, first_fault, IsGood, IsBad}
use Rattle.ll_lines.specs.LineByLine.{with_line, read_lines, reading, MeetsFault, ReadsInOneWay}
use Rattle.ll_lines.proofs.MemoryLemmas.{unless-map, unless-other}

-- the same, where these entries are before the lines
abbrev pub fault_from : {Entry : Type 0} → Format Entry → List Entry → List Line → Line → Option Cause
fault_from format earlier before line = first_fault (format.entry_of_line line) (format.fault_after (earlier ++ entries_of format before))

abbrev pub FaultlessFrom : {Entry : Type 0} → Format Entry → List Entry → List Line → Type 0
FaultlessFrom format earlier lines = (before after : List Line) (line : Line) → lines ≡ before ++ line ∷ after → fault_from format earlier before line ≡ None

-- the lines up to the first fault
record Stop {Entry : Type 0} (format : Format Entry) (earlier : List Entry) (lines : List Line) : Type 0 where
  pub before : List Line
  pub line : Line
  pub after : List Line
  pub cause : Cause
  pub cut : lines ≡ before ++ line ∷ after
  pub faultless : FaultlessFrom format earlier before
  pub is : fault_from format earlier before line ≡ Some cause

-- no list of lines is empty and has a line
not_nil : {L : Type 0} (before after : List L) (line : L) → [] ≡ before ++ line ∷ after → ⊥
not_nil [] after line e = cc
not_nil (x ∷ before) after line e = cc

-- what a line without a fault is
record Reads {Entry : Type 0} (format : Format Entry) (earlier : List Entry) (line : Line) : Type 0 where
  entry : Entry
  reads : format.entry_of_line line ≡ Ok entry
  fits : format.fault_after earlier entry ≡ None

module _ {Entry : Type 0} (format : Format Entry) where
  faultless-nil : (earlier : List Entry) → FaultlessFrom format earlier []
  faultless-nil earlier before after line e = absurd (not_nil before after line e)

  -- the entry of a line is before the lines after it
  fault_from-cons : (earlier : List Entry) (line : Line) (entry : Entry) (before : List Line) (next : Line) → format.entry_of_line line ≡ Ok entry
      → fault_from format earlier (line ∷ before) next ≡ fault_from format (earlier ++ entry ∷ []) before next
  fault_from-cons earlier line entry before next reads =
      rw reads (ap (λ es. first_fault (format.entry_of_line next) (format.fault_after es)) (sym (append_assoc earlier (entry ∷ []) (entries_of format before))))

  fault_from-nil : (earlier : List Entry) (line : Line)
      → fault_from format earlier [] line ≡ first_fault (format.entry_of_line line) (format.fault_after earlier)
  fault_from-nil earlier line = ap (λ es. first_fault (format.entry_of_line line) (format.fault_after es)) (append-nil earlier)

  -- a line without a fault, and others after it
  faultless-cons : (earlier : List Entry) (line : Line) (entry : Entry) (others : List Line) → format.entry_of_line line ≡ Ok entry
      → format.fault_after earlier entry ≡ None → FaultlessFrom format (earlier ++ entry ∷ []) others → FaultlessFrom format earlier (line ∷ others)
  faultless-cons earlier line entry others reads fits later [] after next e =
      let same : next ≡ line = cc in
      rw same (fault_from-nil earlier line ∙ rw reads fits)
  faultless-cons earlier line entry others reads fits later (first ∷ before) after next e =
      let same : first ≡ line = cc in
      let rest : others ≡ before ++ next ∷ after = cc in
      rw same (fault_from-cons earlier line entry before next reads ∙ later before after next rest)

  faultless-rest : (earlier : List Entry) (line : Line) (entry : Entry) (others : List Line) → format.entry_of_line line ≡ Ok entry
      → FaultlessFrom format earlier (line ∷ others) → FaultlessFrom format (earlier ++ entry ∷ []) others
  faultless-rest earlier line entry others reads faultless before after next e =
      sym (fault_from-cons earlier line entry before next reads) ∙ faultless (line ∷ before) after next (ap (λ ls. line ∷ ls) e)

  reads_by : (earlier : List Entry) (line : Line) (r : Result Entry Cause) → format.entry_of_line line ≡ r → first_fault r (format.fault_after earlier) ≡ None
      → Reads format earlier line
  reads_by earlier line (Ok entry) is none = record { entry = entry; reads = is; fits = none }
  reads_by earlier line (Err cause) is none = absurd (cc)

  reads_first : (earlier : List Entry) (line : Line) (others : List Line) → FaultlessFrom format earlier (line ∷ others) → Reads format earlier line
  reads_first earlier line others faultless =
      reads_by earlier line (format.entry_of_line line) refl (sym (fault_from-nil earlier line) ∙ faultless [] others line refl)

  -- lines without a fault are read past
  read_lines-append : (earlier : List Entry) (before rest : List Line) → FaultlessFrom format earlier before
      → read_lines format earlier (before ++ rest) ≡ read_lines format (earlier ++ entries_of format before) rest
  unfolding read_lines
  read_lines-append earlier [] rest faultless = ap (λ es. read_lines format es rest) (sym (append-nil earlier))
  read_lines-append earlier (line ∷ before) rest faultless =
      let first = reads_first earlier line before faultless in
      let more = faultless-rest earlier line first.entry before first.reads faultless in
      let step : read_lines format earlier ((line ∷ before) ++ rest) ≡ read_lines format (earlier ++ first.entry ∷ []) (before ++ rest) =
      rw (first.reads, first.fits) refl in
      let all : (earlier ++ first.entry ∷ []) ++ entries_of format before ≡ earlier ++ entries_of format (line ∷ before) =
      rw first.reads (append_assoc earlier (first.entry ∷ []) (entries_of format before)) in
      step ∙ (read_lines-append (earlier ++ first.entry ∷ []) before rest more ∙ ap (λ es. read_lines format es rest) all)

  -- a list of lines has no fault or a first one
  stop_at : (earlier : List Entry) (line : Line) (others : List Line) (cause : Cause) → fault_from format earlier [] line ≡ Some cause
      → Stop format earlier (line ∷ others)
  stop_at earlier line others cause is =
      record { before = []; line = line; after = others; cause = cause; cut = refl; faultless = faultless-nil earlier; is = is }

  stop_later : (earlier : List Entry) (line : Line) (entry : Entry) (others : List Line) → format.entry_of_line line ≡ Ok entry
      → format.fault_after earlier entry ≡ None → Stop format (earlier ++ entry ∷ []) others → Stop format earlier (line ∷ others)
  stop_later earlier line entry others reads fits stop = record {
    before = line ∷ stop.before;
    line = stop.line;
    after = stop.after;
    cause = stop.cause;
    cut = ap (λ ls. line ∷ ls) stop.cut;
    faultless = faultless-cons earlier line entry stop.before reads fits stop.faultless;
    is = fault_from-cons earlier line entry stop.before stop.line reads ∙ stop.is;
  }

  by_fault : (earlier : List Entry) (line : Line) (entry : Entry) (others : List Line) (fault : Option Cause) → format.entry_of_line line ≡ Ok entry
      → format.fault_after earlier entry ≡ fault → FaultlessFrom format (earlier ++ entry ∷ []) others ⊎ Stop format (earlier ++ entry ∷ []) others
      → FaultlessFrom format earlier (line ∷ others) ⊎ Stop format earlier (line ∷ others)
  by_fault earlier line entry others (Some cause) reads fits later =
      inr (stop_at earlier line others cause (fault_from-nil earlier line ∙ rw (reads, fits) refl))
  by_fault earlier line entry others None reads fits later = elim later [
    | inl faultless ↦ inl (faultless-cons earlier line entry others reads fits faultless)
    | inr stop ↦ inr (stop_later earlier line entry others reads fits stop)
  ]

  by_entry : (earlier : List Entry) (line : Line) (others : List Line) (r : Result Entry Cause) → format.entry_of_line line ≡ r
      → ((entry : Entry) → FaultlessFrom format (earlier ++ entry ∷ []) others ⊎ Stop format (earlier ++ entry ∷ []) others)
      → FaultlessFrom format earlier (line ∷ others) ⊎ Stop format earlier (line ∷ others)
  by_entry earlier line others (Err cause) reads later = inr (stop_at earlier line others cause (rw reads refl))
  by_entry earlier line others (Ok entry) reads later = by_fault earlier line entry others (format.fault_after earlier entry) reads refl (later entry)

  faultless_or_stop : (earlier : List Entry) (lines : List Line) → FaultlessFrom format earlier lines ⊎ Stop format earlier lines
  faultless_or_stop earlier [] = inl (faultless-nil earlier)
  faultless_or_stop earlier (line ∷ others) =
      by_entry earlier line others (format.entry_of_line line) refl (λ entry. faultless_or_stop (earlier ++ entry ∷ []) others)

  -- reading line after line meets the entries, or the first fault
  read_lines_faultless : (lines : List Line) → FaultlessFrom format [] lines → read_lines format [] lines ≡ Ok (entries_of format lines)
  unfolding read_lines
  read_lines_faultless lines faultless = ap (λ ls. read_lines format [] ls) (sym (append-nil lines)) ∙ read_lines-append [] lines [] faultless

  read_at_fault : (earlier : List Entry) (line : Line) (others : List Line) (cause : Cause) (r : Result Entry Cause) → format.entry_of_line line ≡ r
      → first_fault r (format.fault_after earlier) ≡ Some cause → read_lines format earlier (line ∷ others) ≡ Err (record { line = line.number; cause = cause })
  unfolding read_lines
  read_at_fault earlier line others cause (Err other) is fault = let same : other ≡ cause = cc in rw (is, same) refl
  read_at_fault earlier line others cause (Ok entry) is fault = rw (is, fault) refl

  read_lines-stop : (lines : List Line) (stop : Stop format [] lines)
      → read_lines format [] lines ≡ Err (record { line = stop.line.number; cause = stop.cause })
  read_lines-stop lines stop =
      ap (λ ls. read_lines format [] ls) stop.cut ∙ (read_lines-append [] stop.before (stop.line ∷ stop.after) stop.faultless
      ∙ read_at_fault (entries_of format stop.before) stop.line stop.after stop.cause (format.entry_of_line stop.line) refl stop.is)

  -- the generic law, in both directions and for both outcomes
  pub reading-good : (bytes : List ℕ) (entries : List Entry) → IsGood format bytes entries → reading format bytes ≡ Ok entries
  reading-good bytes entries good = read_lines_faultless (filled_lines bytes) good.faultless ∙ ap Ok (sym good.all)

  pub reading-bad : (bytes : List ℕ) (fault : ReadFault) → IsBad format bytes fault → reading format bytes ≡ Err fault
  reading-bad bytes fault bad =
      let stop : Stop format [] (filled_lines bytes) =
      record { before = bad.before; line = bad.line; after = bad.after; cause = fault.cause; cut = bad.cut; faultless = bad.earlier; is = bad.cause } in
      read_lines-stop (filled_lines bytes) stop ∙ ap (λ n. Err (record { line = n; cause = fault.cause })) bad.number

  pub good_from_reading : (bytes : List ℕ) (entries : List Entry) → reading format bytes ≡ Ok entries → IsGood format bytes entries
  good_from_reading bytes entries reads = elim (faultless_or_stop [] (filled_lines bytes)) [
    | inl faultless ↦ record { faultless = faultless; all = (let e = sym reads ∙ read_lines_faultless (filled_lines bytes) faultless in cc) }
    | inr stop ↦ absurd (let e = sym reads ∙ read_lines-stop (filled_lines bytes) stop in cc)
  ]

  pub bad_from_reading : (bytes : List ℕ) (fault : ReadFault) → reading format bytes ≡ Err fault → IsBad format bytes fault
  bad_from_reading bytes fault reads = elim (faultless_or_stop [] (filled_lines bytes)) [
    | inl faultless ↦ absurd (let e = sym reads ∙ read_lines_faultless (filled_lines bytes) faultless in cc)
    | inr stop ↦ (let e = sym reads ∙ read_lines-stop (filled_lines bytes) stop in
        let why = stop.is ∙ ap Some (let same : stop.cause ≡ fault.cause = cc in same) in
        record { before = stop.before; line = stop.line; after = stop.after; cut = stop.cut; earlier = stop.faultless; number = (cc); cause = why })
  ]

  -- no file is both good and bad
  pub good_or_bad : (bytes : List ℕ) (entries : List Entry) (fault : ReadFault) → IsGood format bytes entries → IsBad format bytes fault → ⊥
  good_or_bad bytes entries fault good bad = let e = sym (reading-good bytes entries good) ∙ reading-bad bytes fault bad in cc

  -- every file is one of the two
  by_reading : (bytes : List ℕ) (read : Result (List Entry) ReadFault) → reading format bytes ≡ read
      → ((entries : List Entry) × IsGood format bytes entries) ⊎ ((fault : ReadFault) × IsBad format bytes fault)
  by_reading bytes (Ok entries) is = inl (entries, good_from_reading bytes entries is)
  by_reading bytes (Err fault) is = inr (fault, bad_from_reading bytes fault is)

  pub good_or_else_bad : (bytes : List ℕ) → ((entries : List Entry) × IsGood format bytes entries) ⊎ ((fault : ReadFault) × IsBad format bytes fault)
  good_or_else_bad bytes = by_reading bytes (reading format bytes) refl

  -- no file has two first faults
  pub one_fault : (bytes : List ℕ) (fault other : ReadFault) → IsBad format bytes fault → IsBad format bytes other → fault ≡ other
  one_fault bytes fault other first second = let same = sym (reading-bad bytes fault first) ∙ reading-bad bytes other second in cc

  -- a loop over the lines: what is read so far and the lines that are left
  pub read_lines_next : (earlier entries : List Entry) (line : Line) (others : List Line) → with_line format earlier line ≡ Ok entries
      → read_lines format earlier (line ∷ others) ≡ read_lines format entries others
  unfolding read_lines
  read_lines_next earlier entries line others reads = rw reads refl

  pub read_lines_fault : (earlier : List Entry) (line : Line) (others : List Line) (cause : Cause) → Fails cause (with_line format earlier line)
      → MeetsFault line.number cause (read_lines format earlier (line ∷ others))
  unfolding read_lines
  read_lines_fault earlier line others cause fails =
      unless-map cause (with_line format earlier line) (Err cause) (read_lines format earlier (line ∷ others))
      (Err (record { line = line.number; cause = cause })) (λ fault. rw fault refl) fails

  pub meets_fault : (earlier : List Entry) (lines : List Line) (line : Line) (others : List Line) (cause : Cause) (whole : Result (List Entry) ReadFault)
      → lines ≡ line ∷ others → read_lines format earlier lines ≡ whole → Fails cause (with_line format earlier line) → MeetsFault line.number cause whole
  meets_fault earlier lines line others cause whole cut reads fails =
      subst (MeetsFault line.number cause) (sym (ap (read_lines format earlier) cut) ∙ reads) (read_lines_fault earlier line others cause fails)

  pub read_lines_end : (earlier : List Entry) → read_lines format earlier [] ≡ Ok earlier
  unfolding read_lines
  read_lines_end earlier = refl

  -- what a reader answers is what the file is
  pub bad_from_fault : (bytes : List ℕ) (fault : ReadFault) → MeetsFault fault.line fault.cause (reading format bytes) → fault.cause ≢ Memory
      → IsBad format bytes fault
  bad_from_fault bytes fault meets other = bad_from_reading bytes fault (unless-other fault.cause (reading format bytes) (Err fault) other meets)

  pub good_iff_reading : (bytes : List ℕ) (entries : List Entry) → IsGood format bytes entries ↔ (reading format bytes ≡ Ok entries)
  good_iff_reading bytes entries = (reading-good bytes entries, good_from_reading bytes entries)

  pub bad_iff_reading : (bytes : List ℕ) (fault : ReadFault) → IsBad format bytes fault ↔ (reading format bytes ≡ Err fault)
  bad_iff_reading bytes fault = (reading-bad bytes fault, bad_from_reading bytes fault)

-- ---- files of a format are read in one way, whatever is made of the entries of a good one

-- what is made of the entries of a good file
pub record Made {Entry X : Type 0} (format : Format Entry) (make : List Entry → X) (bytes : List ℕ) (x : X) : Type 0 where
  pub entries : List Entry
  pub good : IsGood format bytes entries
  pub is : x ≡ make entries

pub in_one_way : {Entry X : Type 0} (format : Format Entry) (Is : List ℕ → X → Type 0) (make : List Entry → X)
    → ((bytes : List ℕ) (entries : List Entry) → IsGood format bytes entries → Is bytes (make entries))
    → ((bytes : List ℕ) (x : X) → Is bytes x → Made format make bytes x) → ReadsInOneWay format Is
in_one_way format Is make makes made = record {
  either = λ bytes. elim (good_or_else_bad format bytes) [ inl good ↦ inl (make good.0, makes bytes good.0 good.1) | inr bad ↦ inr bad ];
  not_both = λ bytes x fault is bad. let it = made bytes x is in good_or_bad format bytes it.entries fault it.good bad;
  one = λ bytes x other first second.
      let a = made bytes x first in
      let b = made bytes other second in
      let reads = sym (reading-good format bytes a.entries a.good) ∙ reading-good format bytes b.entries b.good in
      let same : a.entries ≡ b.entries = cc in
      a.is ∙ ap make same ∙ sym b.is;
  one_fault = one_fault format;
}
