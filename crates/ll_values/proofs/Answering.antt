-- A loop that answers line after line.
use Rattle.std.proofs.Common.{◌≡◌, ℕ, List, [], ◌∷◌, ◌++◌, Result, Ok, Err, refl, sym, ap, subst, ◌∙◌, append_assoc}
use Rattle.std.specs.Prelude.{◌≢◌}
use Rattle.std.specs.List.{AllZip}
use Rattle.std.proofs.lemmas.List.{append-nil}
use Rattle.std.proofs.lemmas.Slice.Zip.{all_zipped_more}
use Rattle.ll_lines.specs.declared.fault.Cause.{Cause}
use Rattle.ll_lines.specs.declared.fault.Cause.TheVariants.{Memory}
use Rattle.ll_lines.specs.Lines.{Line, filled_lines}
use Rattle.ll_lines.specs.LineByLine.{with_line, read_lines, reading}
use Rattle.ll_lines.specs.Readers.{Fails}
use Rattle.ll_lines.specs.Reading.{IsBad}
use Rattle.ll_lines.proofs.MemoryLemmas.{unless-map}
use Rattle.ll_lines.proofs.ReadingLemmas.{read_lines_next, bad_from_fault, meets_fault}
use Rattle.ll_values.specs.Answers.{by_line}

-- ---- the lines before those that are left read as entries

pub reads_next : {Entry : Type 0} (read : List ℕ → Result Entry Cause) (bytes : List ℕ) (lines : List Line) (line : Line) (others : List Line)
    (entries : List Entry) (entry : Entry) → lines ≡ line ∷ others → read_lines (by_line read) entries lines ≡ reading (by_line read) bytes
    → read line.bytes ≡ Ok entry → read_lines (by_line read) (entries ++ entry ∷ []) others ≡ reading (by_line read) bytes
reads_next read bytes lines line others entries entry first so_far is_entry =
    sym (read_lines_next (by_line read) entries (entries ++ entry ∷ []) line others (rw is_entry refl))
    ∙ ap (read_lines (by_line read) entries) (sym first) ∙ so_far

pub fault_met : {Entry : Type 0} (read : List ℕ → Result Entry Cause) (bytes : List ℕ) (lines : List Line) (line : Line) (others : List Line)
    (entries : List Entry) (cause : Cause) → lines ≡ line ∷ others → read_lines (by_line read) entries lines ≡ reading (by_line read) bytes
    → Fails cause (read line.bytes) → cause ≢ Memory → IsBad (by_line read) bytes (record { line = line.number; cause = cause })
fault_met read bytes lines line others entries cause first so_far fails other =
    let fails_here : Fails cause (with_line (by_line read) entries line) =
    unless-map cause (read line.bytes) (Err cause) (with_line (by_line read) entries line) (Err cause) (λ is. rw is refl) fails in
    bad_from_fault (by_line read) bytes (record { line = line.number; cause = cause })
    (meets_fault (by_line read) entries lines line others cause (reading (by_line read) bytes) first so_far fails_here) other

-- ---- and have answers

pub record AreAnsweredTo {Entry X : Type 0} (read : List ℕ → Result Entry Cause) (IsAnswer : Line → X → Type 0)
    (bytes : List ℕ) (left : List Line) (answers : List X) : Type 0 where
  pub before : List Line
  pub entries : List Entry
  pub cut : filled_lines bytes ≡ before ++ left
  pub reads : read_lines (by_line read) entries left ≡ reading (by_line read) bytes
  pub each : AllZip IsAnswer before answers

pub answered_none : {Entry X : Type 0} (read : List ℕ → Result Entry Cause) (IsAnswer : Line → X → Type 0) (bytes : List ℕ)
    → AreAnsweredTo read IsAnswer bytes (filled_lines bytes) []
answered_none read IsAnswer bytes = record { before = []; entries = []; cut = refl; reads = refl; each = tt }

pub answered_next : {Entry X : Type 0} (read : List ℕ → Result Entry Cause) (IsAnswer : Line → X → Type 0) (bytes : List ℕ)
    (lines : List Line) (line : Line) (others : List Line) (answers : List X) (entry : Entry) (answer : X)
    → lines ≡ line ∷ others → AreAnsweredTo read IsAnswer bytes lines answers → read line.bytes ≡ Ok entry → IsAnswer line answer
    → AreAnsweredTo read IsAnswer bytes others (answers ++ answer ∷ [])
answered_next read IsAnswer bytes lines line others answers entry answer first so_far is_entry is_answer =
    record {
      before = so_far.before ++ line ∷ [];
      entries = so_far.entries ++ entry ∷ [];
      cut = so_far.cut ∙ ap (λ ls. so_far.before ++ ls) first ∙ sym (append_assoc so_far.before (line ∷ []) others);
      reads = reads_next read bytes lines line others so_far.entries entry first so_far.reads is_entry;
      each = all_zipped_more IsAnswer so_far.before answers line answer so_far.each is_answer;
    }

pub answered_all : {Entry X : Type 0} (read : List ℕ → Result Entry Cause) (IsAnswer : Line → X → Type 0) (bytes : List ℕ) (lines : List Line)
    (answers : List X) → lines ≡ [] → AreAnsweredTo read IsAnswer bytes lines answers → AllZip IsAnswer (filled_lines bytes) answers
answered_all read IsAnswer bytes lines answers none so_far =
    let all : filled_lines bytes ≡ so_far.before = so_far.cut ∙ ap (λ ls. so_far.before ++ ls) none ∙ append-nil so_far.before in
    subst (λ ls. AllZip IsAnswer ls answers) (sym all) so_far.each
