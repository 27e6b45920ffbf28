use Rattle.std.proofs.Common.{◌≡◌, ◌∙◌, ◌∷◌, [], List, false, ap, codes, fold, map, sym}
use Rattle.std.specs.List.{list_any}
use Rattle.std.proofs.lemmas.Result.{IfOk-weaker}
use Rattle.std.proofs.lemmas.Bool.{or_parts}
use Rattle.clap.specs.declared.builder.arg.Arg.{Arg}
use Rattle.clap.specs.declared.builder.command.Command.{Command}
use Rattle.clap.specs.Simple.{app_of_fields}
use Rattle.clap.specs.Words.{AddsArg, AddsInTurn, app_of, new_app, rule_of, with_rule}
use Rattle.ll_command.specs.Command as spec
use Rattle.ll_command.proofs.command.command.Goals as goal

-- arguments that are added in turn add their rules
added : (xs : List Arg) (old new : Command) → AddsInTurn AddsArg old xs new → list_any (λ a. a.global) xs ≡ false
    → app_of new ≡ fold with_rule (app_of old) (map rule_of xs)
added [] old new adds local = ap app_of (sym adds)
added (x ∷ xs) old new (middle, first, others) local =
    let both = or_parts x.global (list_any (λ a. a.global) xs) local in
    added xs middle new others both.1 ∙ ap (λ app. fold with_rule app (map rule_of xs)) (first.shape both.0)

pub returns : goal.returns
unfolding spec.command
returns c =
    let start : app_of c.after_long_help.result ≡ spec.with_version (new_app (codes "landaudit")) =
    ap app_of_fields c.after_long_help.ensures ∙ (ap app_of_fields c.about.ensures
    ∙ (ap app_of_fields c.version.ensures ∙ ap spec.with_version c.new.ensures.app)) in
    let arguments = c.in_ok-arguments in
    IfOk-weaker c.args-2.result _ _
    (λ made adds. added arguments.field-0.items _ made adds arguments.ensures.local
    ∙ (ap (λ app. fold with_rule app (map rule_of arguments.field-0.items)) start ∙ ap (fold with_rule _) arguments.ensures.rules))
    c.args-2.ensures
