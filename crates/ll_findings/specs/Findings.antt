-- What is found of the records of a trace under one version: the answers, and the explanations as values, if they are
-- kept.
-- Source: docs/FORMATS.md, "Explanations" and "Several versions"; the layout of a finding is the code's own.
use Rattle.std.specs.Prelude.{◌≡◌, ◌⊎◌, ◌++◌, ◌∷◌, [], ℕ, Bool, List, Option, Some, None, if◌then◌else◌, length, slice_get, unwrap_or}
use Rattle.ll_rights.specs.declared.abi.Abi.{Abi}
use Rattle.ll_tree.specs.Trees.{Entry}
use Rattle.ll_trace.specs.declared.op.Record.{Record}
use Rattle.ll_trace.specs.declared.op.Op.{Op}
use Rattle.ll_semantics.specs.declared.answer.Answer.{Answer}
use Rattle.ll_semantics.specs.declared.answer.Answer.TheVariants.{Moot}
use Rattle.ll_semantics.specs.Worlds.{judged}
use Rattle.ll_process.specs.Cases.{CaseValue}
use Rattle.ll_explanations.specs.Explained.{IsExplanationOf}
use Rattle.ll_explanations.specs.Meanings.{explanation_in}
use Rattle.ll_findings.specs.Kept.{if_said, kept_of}
use Rattle.ll_findings.specs.Overlays.{change_at, overlay}
use Rattle.ll_explanations.specs.declared.explanation.Explanation.{Explanation}

-- What contracts see of a finding: the answers to all records, and what is kept of the explanation of each, if
-- explanations are kept.
pub record FindingValue : Type 0 where
  pub answers : List Answer
  pub explanations : List (Option Explanation)

-- What is found otherwise than in a base: the indices of these records, in rising order, and what is found of each.
pub record ChangesValue : Type 0 where
  pub indices : List ℕ
  pub found : FindingValue

-- what is found, where only the changes to a base are kept
abbrev pub with_changes : FindingValue → List ℕ → FindingValue → FindingValue
with_changes base indices changes = record {
  answers = overlay base.answers indices changes.answers;
  explanations = overlay base.explanations indices changes.explanations;
}

-- what is found of some records, and of others behind them
abbrev pub both_found : FindingValue → FindingValue → FindingValue
both_found one other = record {
  answers = one.answers ++ other.answers;
  explanations = one.explanations ++ other.explanations;
}

abbrev pub both_changed : ChangesValue → ChangesValue → ChangesValue
both_changed one other = record {
  indices = one.indices ++ other.indices;
  found = both_found one.found other.found;
}

-- what is found of one record
abbrev pub found_once : Answer → Option Explanation → FindingValue
found_once answer kept = record { answers = answer ∷ []; explanations = kept ∷ [] }

abbrev pub changed_once : ℕ → Answer → Option Explanation → ChangesValue
changed_once index answer kept = record { indices = index ∷ []; found = found_once answer kept }

-- this is found of the record at an index
abbrev pub IsFoundAt : FindingValue → ℕ → Answer → Option Explanation → Type 0
IsFoundAt finding index answer kept = (slice_get finding.answers index ≡ Some answer) × (slice_get finding.explanations index ≡ Some kept)

-- what is found of a record is added to the changes, unless the base has the same
abbrev pub Notes : FindingValue → ℕ → Answer → Option Explanation → ChangesValue → ChangesValue → Type 0
Notes base index answer kept before after =
    (IsFoundAt base index answer kept × (after ≡ before)) ⊎ (after ≡ both_changed before (changed_once index answer kept))

-- so many records are answered and explained
pub record IsAboutAll (count : ℕ) (finding : FindingValue) : Type 0 where
  pub answers : length finding.answers ≡ count
  pub explanations : length finding.explanations ≡ count

-- the answer to the record at an index
abbrev pub answer_in : FindingValue → ℕ → Answer
answer_in finding index = unwrap_or (slice_get finding.answers index) Moot

-- what is kept of the explanation of the record at an index
abbrev pub kept_at : FindingValue → ℕ → Option Explanation
kept_at finding index = unwrap_or (slice_get finding.explanations index) None

-- the call of a record with its explanation
abbrev pub said_by : Option Record → Option Explanation → Option (Op × Explanation)
said_by (Some r) (Some e) = Some (r.op, e)
said_by (Some r) None = None
said_by None kept = None

-- the same, by a base and the changes to it
abbrev pub answer_over : FindingValue → ChangesValue → ℕ → Answer
answer_over base changes index = unwrap_or (change_at index changes.indices changes.found.answers) (answer_in base index)

abbrev pub kept_over : FindingValue → ChangesValue → ℕ → Option Explanation
kept_over base changes index = unwrap_or (change_at index changes.indices changes.found.explanations) (kept_at base index)

-- the call and the explanation of the record at an index, by all records
abbrev pub said_in : List Record → FindingValue → ℕ → Option (Op × Explanation)
said_in records finding index = said_by (slice_get records index) (kept_at finding index)

-- ---- what a finding has to do with a tree, a version and the records of a trace

-- what is kept is the explanation of the record at an index, which is answered so
abbrev pub IsKept : List Entry → Abi → List Record → ℕ → Answer → Option Explanation → Type 0
IsKept tree abi records index answer kept =
    (r : Record) → slice_get records index ≡ Some r → (e : Explanation) × (kept ≡ kept_of e) × IsExplanationOf tree abi records index answer r e

-- each of these is
abbrev pub AreKept : List Entry → Abi → List Record → List (Option Explanation) → Type 0
AreKept tree abi records all =
    (index : ℕ) (answer : Answer) (kept : Option Explanation) → slice_get (judged tree abi records) index ≡ Some answer → slice_get all index ≡ Some kept
    → IsKept tree abi records index answer kept

-- what is found of these records: the answers are those of one fold over all, and each record's explanation is kept, if explanations are kept
pub record Finds (explains : Bool) (tree : List Entry) (abi : Abi) (records : List Record) (finding : FindingValue) : Type 0 where
  pub answers : finding.answers ≡ judged tree abi records
  pub as_many : length finding.explanations ≡ (if explains then length records else 0)
  pub each : AreKept tree abi records finding.explanations

-- what is found of records under a version stands in front of what was found under newer ones
abbrev pub StandsInFront : Bool → List Entry → Abi → List Record → List FindingValue → List FindingValue → Type 0
StandsInFront explains tree abi records newer all =
    (finding : FindingValue) × (all ≡ finding ∷ newer) × Finds explains tree abi records finding

-- the same of the records of a case, and the answers to them
abbrev pub AddsFinding : Bool → CaseValue → List FindingValue → List FindingValue → Type 0
AddsFinding explains case newer all = StandsInFront explains case.tree case.abi case.records newer all

abbrev pub judged_in : CaseValue → List Answer
judged_in case = judged case.tree case.abi case.records

-- what is said of the record at an index, which is answered so: a call and its explanation, which means of this call what it
-- means of the record's, if there is anything to explain
abbrev pub Tells : List Entry → Abi → List Record → ℕ → Answer → Record → Option (Op × Explanation) → Type 0
Tells tree abi records index answer r said =
    (e : Explanation) × (op : Op) × (said ≡ if_said e (op, e)) × (explanation_in tree op e ≡ explanation_in tree r.op e)
    × IsExplanationOf tree abi records index answer r e
