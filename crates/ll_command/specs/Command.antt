-- The command line: `landaudit --abi N[-M] [--workers N] [--grain N] [--best-effort] [--refused] [--differs] [--explain] [--kinds] [--json] TREE TRACE`, and what it asks for.
-- Source: docs/FORMATS.md, "The command line".
use Rattle.std.specs.Prelude.{◌≡◌, ◌≢◌, ◌⊎◌, ◌+◌, ◌-◌, ◌≤◌, ◌==◌, ◌&&◌, ◌||◌, ⊤, is_none, nat_le, nat_lt, ℕ, Bool, true, false, List, [], ◌∷◌, Option, Some, None, codes, fold, length, if◌then◌else◌, option_and_then}
use Rattle.std.specs.Str.{bytes_eq}
use Rattle.std.specs.Str.Parse.{digits_value, without_leading_plus}
use Rattle.clap.specs.declared.builder.action.ArgAction.{ArgAction}
use Rattle.clap.specs.declared.builder.action.ArgAction.TheVariants.{Set, SetTrue}
use Rattle.clap.specs.declared.builder.value_parser.ValueParser.TheVariants.{Unsigned}
use Rattle.clap.specs.declared.error.kind.ErrorKind.TheVariants.{DisplayHelp, DisplayVersion, ValueValidation}
use Rattle.clap.specs.declared.error.kind.ErrorKind.{ErrorKind}
pub use Rattle.clap.specs.Words.{Text}
use Rattle.clap.specs.Words.{App, IsAmong, Kinds, Row, Rule, fault_of, first_of, matches_of, new_app, new_rule, one_of, with_rule}
use Rattle.clap.specs.Simple.{on_top}
use Rattle.clap.specs.ValueTests.{is_unsigned_in}
use Rattle.ll_rights.specs.declared.abi.Abi.{Abi}
use Rattle.ll_rights.specs.Abis.{all_versions, version_of}
use Rattle.ll_report.specs.declared.options.Format.{Format}
use Rattle.ll_report.specs.declared.options.Format.TheVariants.{Json, Text as Plain}
use Rattle.ll_report.specs.declared.options.Shown.{Shown}
use Rattle.ll_report.specs.declared.options.TheConstants.{ALL_LINES}
use Rattle.ll_rights.specs.AbiRanges.{Range, range_from}
use Rattle.ll_command.specs.declared.command.Run.{Run}
use Rattle.ll_trace.specs.declared.trace.Effort.{Effort}
use Rattle.ll_trace.specs.declared.trace.Effort.TheVariants.{AsRecorded, Best}
use Rattle.ll_report.specs.declared.options.Options.{Options}
use Rattle.ll_command.specs.declared.command.Plan.{Plan}
use Rattle.ll_command.specs.declared.command.Plan.TheVariants as plan

-- an argument, and what is done with its values
abbrev pub argument : Text → ArgAction → Rule
argument name action = record (new_rule name) { action = Some action }

-- `--name`
abbrev pub option : Text → ArgAction → Rule
option name action = record (argument name action) { long = Some name }

-- `--name N[-M]`
abbrev pub text_option : Text → Rule
text_option name = record (option name Set) { value_names = 1 }

-- `--name N`, a number from `least` to `most`
abbrev pub number_option : Text → ℕ → ℕ → Rule
number_option name least most = record (text_option name) { parser = Some (Unsigned least most) }

-- `--name`, which has no value
abbrev pub flag : Text → Rule
flag name = option name SetTrue

-- an option that has to be given, and one that has a value where it is not
abbrev pub required : Rule → Rule
required rule = record rule { required = true }

abbrev pub with_default : Text → Rule → Rule
with_default value rule = record rule { defaults = value ∷ [] }

-- a file's name
abbrev pub file_argument : Text → Rule
file_argument name = required (argument name Set)

-- `-V` and `--version` ask for the version
abbrev pub with_version : App → App
with_version app = on_top (λ shape. record shape { has_version = true }) app

-- the arguments: options that have a value, flags, and the names of the files
abbrev pub arguments : List Rule
arguments =
    required (text_option (codes "abi"))
    ∷ with_default (codes "1") (number_option (codes "workers") 1 64)
    ∷ with_default (codes "64") (number_option (codes "grain") 0 18446744073709551615)
    ∷ flag (codes "best-effort")
    ∷ flag (codes "refused")
    ∷ flag (codes "differs")
    ∷ flag (codes "explain")
    ∷ flag (codes "kinds")
    ∷ flag (codes "json")
    ∷ file_argument (codes "TREE")
    ∷ file_argument (codes "TRACE")
    ∷ []

unfoldable pub command : App
command = fold with_rule (with_version (new_app (codes "landaudit"))) arguments

-- what a run is asked to do
pub record Request : Type 0 where
  pub options : Options
  pub workers : ℕ
  pub grain : ℕ
  pub tree : Text
  pub trace : Text

-- an audit under one version, with all lines of the report as text
abbrev pub plainly : Effort → Abi → Options
plainly effort abi = record { abis = record { oldest = abi; newest = abi }; effort = effort; shown = ALL_LINES; format = Plain }

-- such an audit by this many workers, with this grain
abbrev pub plain_request : Abi → ℕ → ℕ → Text → Text → Request
plain_request abi workers grain tree trace =
    record { options = plainly AsRecorded abi; workers = workers; grain = grain; tree = tree; trace = trace }

-- the version whose number a digit is
abbrev pub version_at : ℕ → Option Abi
version_at digit = if nat_le 48 digit then version_of (digit - 48) else None

-- the digit behind that of the newest version
abbrev pub newer_digit : ℕ
newer_digit = 49 + length all_versions

-- the range from a version to one that isn't older
abbrev pub range_between : Option Abi → Option Abi → Option Range
range_between (Some oldest) (Some newest) = range_from oldest newest
range_between _ _ = None

-- the range that a text names: a version, or two with a hyphen between them
abbrev pub range_in : Text → Option Range
range_in (digit ∷ []) = range_between (version_at digit) (version_at digit)
range_in (oldest ∷ byte ∷ newest ∷ []) = if byte == 45 then range_between (version_at oldest) (version_at newest) else None
range_in _ = None

-- the number of workers, which is 1 to 64
abbrev pub worker_count : ℕ → Option ℕ
worker_count number = if nat_lt 0 number && nat_lt number 65 then Some number else None

-- the number of 64 bits that a text spells
abbrev pub number_in : Text → Option ℕ
number_in text = if is_unsigned_in 0 18446744073709551615 text then Some (digits_value 10 (without_leading_plus text)) else None

-- the number that the matches give an option
abbrev pub number_at : Text → List Row → Option ℕ
number_at name rows = option_and_then number_in (one_of name rows)

-- whether a text is there, and is this one
abbrev pub is_text : Text → Option Text → Bool
is_text wanted (Some text) = bytes_eq text wanted
is_text wanted None = false

-- whether the matches have a flag, whose value is then `true`, and else `false`
abbrev pub flag_at : Text → List Row → Bool
flag_at name rows = is_text (codes "true") (first_of name rows)

-- what the matches ask to show
abbrev pub shown_in : List Row → Shown
shown_in rows = record {
  explanations = flag_at (codes "explain") rows;
  refused_alone = flag_at (codes "refused") rows;
  differing_alone = flag_at (codes "differs") rows;
  kinds = flag_at (codes "kinds") rows;
}

-- how the matches ask to take rulesets
abbrev pub effort_in : List Row → Effort
effort_in rows = if flag_at (codes "best-effort") rows then Best else AsRecorded

-- in which form the matches ask for the report
abbrev pub format_in : List Row → Format
format_in rows = if flag_at (codes "json") rows then Json else Plain

-- what the matches ask of an audit under some versions
abbrev pub options_in : Range → List Row → Options
options_in abis rows = record { abis = abis; effort = effort_in rows; shown = shown_in rows; format = format_in rows }

infixl 10 ◌>>=◌
abbrev pub ◌>>=◌ : {A B : Type 0} → Option A → (A → Option B) → Option B
found >>= next = option_and_then next found

-- what the matches ask for
unfoldable pub request_in : List Row → Option Request
request_in rows = do
  versions ← first_of (codes "abi") rows
  abis ← range_in versions
  count ← number_at (codes "workers") rows
  workers ← worker_count count
  grain ← number_at (codes "grain") rows
  tree ← first_of (codes "TREE") rows
  trace ← first_of (codes "TRACE") rows
  Some (record { options = options_in abis rows; workers = workers; grain = grain; tree = tree; trace = trace })

-- matches that are each as their rule has it, and are still wrong: no range of versions is named, or both files
-- are standard input
abbrev pub is_misuse : List Row → Bool
is_misuse rows =
    is_none (option_and_then range_in (first_of (codes "abi") rows))
    || (is_text (codes "-") (first_of (codes "TREE") rows) && is_text (codes "-") (first_of (codes "TRACE") rows))

-- the faults of the words: none, help or the version that is asked for, or what is wrong with them
abbrev pub with_misuse : Kinds → Bool → Kinds
with_misuse [] true = ValueValidation ∷ []
with_misuse kinds misused = kinds

unfoldable pub faults : List Text → Kinds
faults words = with_misuse (fault_of command words) (is_misuse (matches_of command words))

-- what the words ask for, where nothing is wrong with them
abbrev pub request_if : Kinds → List Row → Option Request
request_if [] rows = request_in rows
request_if (kind ∷ kinds) rows = None

unfoldable pub request_of : List Text → Option Request
request_of words = request_if (faults words) (matches_of command words)

-- the words ask for help or the version
abbrev pub AskForText : List Text → Type 0
AskForText words = IsAmong DisplayHelp (faults words) ⊎ IsAmong DisplayVersion (faults words)

-- the words have a fault that is no call for help or the version
abbrev pub AreWrong : List Text → Type 0
AreWrong words = (kind : ErrorKind) × IsAmong kind (faults words) × (kind ≢ DisplayHelp) × (kind ≢ DisplayVersion)

-- a run, as it was asked for
abbrev pub request_by : Run → Request
request_by run =
    record { options = run.options; workers = run.workers; grain = run.grain; tree = run.tree.now; trace = run.trace.now }

-- what a plan says of the words that it was made from
abbrev pub IsPlanFor : List Text → Plan → Type 0
IsPlanFor words (plan.Run run) = (request_of words ≡ Some (request_by run)) × (1 ≤ run.workers) × (run.workers ≤ 64)
IsPlanFor words (plan.Text error) = AskForText words
IsPlanFor words (plan.Usage error) = AreWrong words
IsPlanFor words (plan.Misuse why) = AreWrong words
IsPlanFor words plan.Memory = ⊤
