-- The text of the report: a line for each record, and the totals; and the status with it.
-- Source: docs/FORMATS.md, "The report" and "Statuses".
use Rattle.std.specs.Prelude.{◌==◌, ℕ, Bool, true, false, List, [], ◌∷◌, ◌++◌, length, codes, count_by, decimal, if◌then◌else◌}
use Rattle.std.specs.List.{flat_map}

-- how a record was answered: a refusal has the error's name and the numbers of the layers, rising
pub data Verdict : Type 0 where
  allowed : Verdict
  moot : Verdict
  refused : List ℕ → List ℕ → Verdict

-- what the report says of a record
pub record ReportLine : Type 0 where
  pub line : ℕ
  pub pid : ℕ
  pub op : List ℕ
  pub verdict : Verdict

-- a layer after the first
abbrev pub next_layer_text : ℕ → List ℕ
next_layer_text layer = codes "," ++ decimal layer

-- layers, separated by commas
abbrev pub listed_layers : List ℕ → List ℕ
listed_layers [] = []
listed_layers (first ∷ more) = decimal first ++ flat_map next_layer_text more

-- layers, or a hyphen where there are none
abbrev pub layers_text : List ℕ → List ℕ
layers_text [] = codes "-"
layers_text (first ∷ more) = listed_layers (first ∷ more)

abbrev pub verdict_text : Verdict → List ℕ
verdict_text allowed = codes "allowed"
verdict_text moot = codes "moot"
verdict_text (refused error layers) = codes "refused " ++ error ++ codes " " ++ layers_text layers

-- which record a line is about
abbrev pub record_text : ℕ → ℕ → List ℕ → List ℕ
record_text line pid op = decimal line ++ codes " " ++ decimal pid ++ codes " " ++ op

-- a record's line
abbrev pub line_text : ReportLine → List ℕ
line_text said = (record_text said.line said.pid said.op ++ codes " ") ++ verdict_text said.verdict ++ codes "\n"

abbrev pub is_allowed : Verdict → Bool
is_allowed allowed = true
is_allowed _ = false

abbrev pub is_refused : Verdict → Bool
is_refused (refused error layers) = true
is_refused _ = false

abbrev pub is_moot : Verdict → Bool
is_moot moot = true
is_moot _ = false

-- how many records a test of their verdicts holds for
abbrev pub count_of : (Verdict → Bool) → List ReportLine → ℕ
count_of test lines = count_by (λ (line : ReportLine). test line.verdict) lines

-- how many records are answered in each way
abbrev pub counts_text : ℕ → ℕ → ℕ → List ℕ
counts_text passed denied idle = codes " allowed " ++ decimal passed ++ codes " refused " ++ decimal denied ++ codes " moot " ++ decimal idle ++ codes "\n"

-- the last line
abbrev pub total_text : ℕ → ℕ → ℕ → ℕ → List ℕ
total_text records passed denied idle = codes "total " ++ decimal records ++ counts_text passed denied idle

-- the report
unfoldable pub report_text : List ReportLine → List ℕ
report_text lines =
    flat_map line_text lines
    ++ total_text (length lines) (count_of is_allowed lines) (count_of is_refused lines) (count_of is_moot lines)

-- the status with a report: 0 where no record is refused, else 1
abbrev pub report_status : ℕ → ℕ
report_status denied = if denied == 0 then 0 else 1
