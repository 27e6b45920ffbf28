-- The report over versions as JSON: a line for each record that is shown, or for each kind of these, and one with the totals of each
-- version. One version is a range of one.
-- Source: docs/FORMATS.md, "The report as JSON" and "Kinds"; RFC 8259.
use Rattle.std.specs.Prelude.{◌≡◌, ◌+◌, ℕ, Bool, List, [], ◌∷◌, ◌++◌, None, Option, Some, codes, if◌then◌else◌, length, map, slice_get}
use Rattle.std.specs.List.{AllZip, flat_map}
use Rattle.json.specs.Json.{Json, string}
use Rattle.ll_tree.specs.Trees.{Entry}
use Rattle.ll_trace.specs.declared.op.Record.{Record}
use Rattle.ll_findings.specs.Findings.{FindingValue, Finds}
use Rattle.ll_findings.specs.TakenRecords.{AreTaken}
use Rattle.ll_report.specs.declared.options.Shown.{Shown}
use Rattle.ll_report.specs.Found.{Found, found_under}
use Rattle.ll_report.specs.Kinds.{Kind, kinds_of}
use Rattle.ll_report.specs.Made.{Told, rows_of}
use Rattle.ll_report.specs.Report.{is_allowed, is_moot, is_refused}
use Rattle.ll_report.specs.Rows.{count_under, is_row_left_out, refused_under_some}
use Rattle.ll_json.specs.Parts.{Named, array_of, line_text, object_of, whole}
use Rattle.ll_json.specs.Records.{Version, answers_json, kind_json, members_at, members_text, record_json, said_members}

-- ---- what is found under versions

-- what a finding has is found under a version, of what its kernel takes the records of the trace for
pub record IsFound (explains : Bool) (tree : List Entry) (trace : List Record) (version : Version) (finding : FindingValue) : Type 0 where
  pub finds : Finds explains tree version.abi version.records finding
  pub taken : AreTaken trace version.records

-- of each version there is what is found
abbrev pub AreFound : Bool → List Entry → List Record → List Version → List FindingValue → Type 0
AreFound explains tree trace = AllZip (IsFound explains tree trace)

-- ---- the lines of records

-- what each version answers to the record at an index, with its explanation where these are shown
abbrev pub said_under : Shown → List Entry → List Version → ℕ → List (List Named)
said_under shown tree versions index = map (λ version. members_at shown.explanations tree version index) versions

-- what is found under each version
abbrev pub found_of : Shown → List Entry → List Version → List Found
found_of shown tree versions = map (λ version. found_under shown tree version.records version.abi) versions

-- the value of the record at an index
abbrev pub row_json : Shown → List Entry → ℕ → List Version → ℕ → Record → Json
row_json shown tree oldest versions index r = record_json r (answers_json oldest (said_under shown tree versions index))

-- its line; those records are left out that the report's text leaves out
abbrev pub row_line : Shown → List Entry → ℕ → List Version → ℕ → Record → List ℕ
row_line shown tree oldest versions index r =
    if is_row_left_out shown (found_of shown tree versions) index then []
    else line_text (row_json shown tree oldest versions index r)

-- ---- the lines of kinds

-- what is said of the record at an index: the end of its line, from its operation on, or nothing of one that is left out
abbrev pub said_line : Shown → List Entry → ℕ → List Version → ℕ → Record → List ℕ
said_line shown tree oldest versions index r =
    if is_row_left_out shown (found_of shown tree versions) index then []
    else members_text (said_members r (answers_json oldest (said_under shown tree versions index))) ++ codes "\n"

abbrev pub said_lines : Shown → List Entry → ℕ → List Version → List Record → List (List ℕ)
said_lines shown tree oldest versions records = rows_of (said_line shown tree oldest versions) 0 records

-- the value of a kind of so many records, the first of which is at an index
abbrev pub kind_at : Shown → List Entry → ℕ → List Version → ℕ → ℕ → Record → Json
kind_at shown tree oldest versions index records r = kind_json records r (answers_json oldest (said_under shown tree versions index))

-- its line, where the first record is one of these
abbrev pub kind_line : Shown → List Entry → ℕ → List Version → List Record → Kind → List ℕ
kind_line shown tree oldest versions records kind = of_first (slice_get records kind.first)
  where
    of_first : Option Record → List ℕ
    of_first None = []
    of_first (Some r) = line_text (kind_at shown tree oldest versions kind.first kind.records r)

abbrev pub kind_lines : Shown → List Entry → ℕ → List Version → List Record → List ℕ
kind_lines shown tree oldest versions records =
    flat_map (kind_line shown tree oldest versions records) (kinds_of (said_lines shown tree oldest versions records))

-- ---- the totals

-- how many records a version answers in each way
abbrev pub total_with : ℕ → ℕ → ℕ → ℕ → ℕ → Json
total_with abi all allowed refused moot =
    object_of ((codes "abi", whole abi) ∷ (codes "records", whole all) ∷ (codes "allowed", whole allowed) ∷ (codes "refused", whole refused) ∷ (codes "moot", whole moot) ∷ [])

abbrev pub total_json : ℕ → Found → Json
total_json abi found =
    total_with abi (length found.answers) (count_under is_allowed found) (count_under is_refused found) (count_under is_moot found)

-- one a version, of which the first has this number
unfoldable pub totals_from : ℕ → List Found → List Json
totals_from abi [] = []
totals_from abi (found ∷ others) = total_json abi found ∷ totals_from (abi + 1) others

-- the totals of each version, and the version of the program that wrote them
abbrev pub totals_json : List Json → List ℕ → Json
totals_json totals program = object_of ((codes "totals", array_of totals) ∷ (codes "version", string program) ∷ [])

-- the value of the last line
abbrev pub last_json : Shown → List Entry → ℕ → List Version → List ℕ → Json
last_json shown tree oldest versions program = totals_json (totals_from oldest (found_of shown tree versions)) program

-- ---- the report

-- the lines of records, or of their kinds
abbrev pub shown_lines : Shown → List Entry → ℕ → List Version → List Record → List ℕ
shown_lines shown tree oldest versions records =
    if shown.kinds then kind_lines shown tree oldest versions records
    else flat_map (λ row. row) (rows_of (row_line shown tree oldest versions) 0 records)

-- over versions, of which the oldest has this number, on records whose calls meet this tree
pub record IsJsonReport (shown : Shown) (tree : List Entry) (oldest : ℕ) (versions : List Version) (records : List Record) (program : List ℕ) (report : Told) : Type 0 where
  pub text : report.text
      ≡ shown_lines shown tree oldest versions records ++ line_text (last_json shown tree oldest versions program)
  pub refused : report.refused ≡ refused_under_some (found_of shown tree versions) records
