use Rattle.std.proofs.Common.{◌≡◌, ◌∙◌, true, List, [], Result, Ok, Err, MatchResult, ap, subst}
use Rattle.std.specs.Prelude.{IfOk}
use Rattle.std.proofs.lemmas.Result.{IfOk-weaker}
use Rattle.clap.specs.declared.error.Error.{Error}
use Rattle.clap.specs.declared.parser.matches.ArgMatches.{ArgMatches}
use Rattle.clap.specs.Words.{App, FailsBy, HasKind, HasMatchesOf, Text, fault_of, found_of, is_simple, is_simple_and_free, matches_of, rows_of}
use Rattle.ll_command.specs.Command.{command, faults}
use Rattle.ll_command.proofs.CommandLine.{is_simple-command, is_free-command, has_kind}
use Rattle.ll_command.proofs.command.parse.Goals as goal

-- a parse of the command answers by the words alone
parse_by_words : (app : App) (words : List Text) (parsed : Result ArgMatches Error) → app ≡ command
    → (is_simple_and_free app ≡ true → FailsBy (fault_of app words) parsed) → IfOk parsed (HasMatchesOf app words)
    → MatchResult parsed (λ m. (fault_of command words ≡ []) × (rows_of (found_of m) ≡ matches_of command words)) (HasKind (faults words))
parse_by_words app words (Ok m) same kinds found = (
  kinds_of (ap is_simple_and_free same ∙ is_free-command),
  (matches (ap is_simple same ∙ is_simple-command)).0,
)
  where
    kinds_of : is_simple_and_free app ≡ true → fault_of command words ≡ []
    kinds_of free = subst (λ (a : App). fault_of a words ≡ []) same (kinds free)

    matches : is_simple app ≡ true → (rows_of (found_of m) ≡ matches_of command words) × (Unit {0})
    matches simple = (subst (λ (a : App). rows_of (found_of m) ≡ matches_of a words) same (found simple).0, tt)
parse_by_words app words (Err e) same kinds found =
    has_kind words e (subst (λ (a : App). HasKind (fault_of a words) e) same (kinds (ap is_simple_and_free same ∙ is_free-command)))

pub returns : goal.returns
returns c =
    let parse = c.try_get_matches_from_mut in
    parse_by_words _ _ parse.result c.in_ok-command.ensures parse.ensures.kinds (IfOk-weaker parse.result _ _ (λ m h. h.2) parse.ensures.ok)
