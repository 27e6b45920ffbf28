use Rattle.std.proofs.Common.{rules, ◌≡◌, refl, Err}
use Rattle.serde_json.specs.View.{view}
use Rattle.ll_comparison.specs.Comparisons.{scopes_in}
use Rattle.ll_comparison.proofs.comparison.scopes_of.Goals as goal

pub returns-in_err-signals : goal.returns-in_err-signals
unfolding scopes_in
returns-in_err-signals c =
    let fails : scopes_in (view c.args.value.now) ≡ Err c.in_err-signals.field-0.0 = rw (c.in_ok-sockets.ensures, c.in_err-signals.ensures) refl in
    search rules

pub returns : goal.returns
unfolding scopes_in
returns c = rw (c.in_ok-sockets.ensures, c.in_ok-signals.ensures) refl
