-- The answers, and the layer that an allowed call adds.
use Rattle.std.proofs.Common.{◌≡◌, ◌≤◌, ℕ, List, length, Option, Some, refl, sym, ap, ◌∙◌, subst, arith}
use Rattle.std.specs.Prelude.{◌≢◌}
use Rattle.std.proofs.lemmas.Bool.{false≢true}
use Rattle.ll_rules.specs.declared.domain.TheConstants.{MOST_LAYERS}
use Rattle.ll_rules.specs.declared.domain.LayerId.{LayerId}
use Rattle.ll_rules.specs.declared.errno.Errno.TheVariants.{Perm, TooBig}
use Rattle.ll_rules.specs.Layers.{RulesOn}
use Rattle.ll_semantics.specs.Effects.{with_layer}
use Rattle.ll_semantics.specs.RulesetOutcomes.{IsFrozen}
use Rattle.ll_state.specs.Agreement.{fails_by_layer}
use Rattle.ll_state.proofs.SameLayers.{kept_may, restrict_denied, failing_keeps, restrict_unheld, restrict_full}
use Rattle.ll_state.proofs.SameLayers.{restrict_allowed, length-domain, Agrees-with_layer}
use Rattle.ll_state.proofs.own_state.OwnState.restrict.Goals as goal

pub returns-then-not-may_restrict : goal.returns-then-not-may_restrict
returns-then-not-may_restrict c = λ ctx same agrees rules frozen.
    let may = kept_may ctx c.args.self.now ctx.state agrees ∙ sym c.may_restrict.ensures ∙ c.if-not-may_restrict.true in (
      c.fails_by.ensures ∙ ap (λ (layers : List (RulesOn ℕ)). fails_by_layer layers c.args.layer Perm) (sym same)
          ∙ restrict_denied ctx c.args.layer ctx.state rules may frozen,
      rw (c.fails_by.ensures, failing_keeps c.args.layers.now c.args.layer Perm (with_layer ctx.state rules) ctx.state) agrees,
    )

pub returns-in_default : goal.returns-in_default
returns-in_default c = λ ctx same agrees rules frozen.
    let may = kept_may ctx c.args.self.now ctx.state agrees ∙ sym c.may_restrict.ensures ∙ c.if-not-may_restrict.false in
    let none = subst (λ (layer : Option LayerId). IsFrozen ctx layer rules) c.in_default.is frozen in
    (c.fails.ensures ∙ restrict_unheld ctx ctx.state rules may none, rw c.fails.ensures agrees)

pub returns-in-Ok : goal.returns-in-Ok
returns-in-Ok c = λ ctx same agrees rules frozen.
    let may = kept_may ctx c.args.self.now ctx.state agrees ∙ sym c.may_restrict.ensures ∙ c.if-not-may_restrict.false in
    let long = length-domain ctx c.args.self.now ctx.state agrees in
    let most : length ctx.state.domain ≤ MOST_LAYERS = subst (λ n. n ≤ MOST_LAYERS) long c.layers.ensures.at_most_sixteen in
    let other : length ctx.state.domain ≢ MOST_LAYERS = λ full. false≢true (c.in-Ok.ensures.full.1 (long ∙ full)) in
    let one = subst (λ (layer : Option LayerId). IsFrozen ctx layer rules) c.in-Some.is frozen in (
      restrict_allowed ctx c.in-Some.layer ctx.state rules may most other one,
      Agrees-with_layer ctx c.args.self.now ctx.state c.in-Some.layer rules c.push.new.self agrees one c.in-Ok.ensures.ok,
    )

pub returns-in-Err : goal.returns-in-Err
returns-in-Err c = λ ctx same agrees rules frozen.
    let may = kept_may ctx c.args.self.now ctx.state agrees ∙ sym c.may_restrict.ensures ∙ c.if-not-may_restrict.false in
    let full : length ctx.state.domain ≡ MOST_LAYERS = sym (length-domain ctx c.args.self.now ctx.state agrees) ∙ c.in-Err.ensures.full.0 refl in
    let one = subst (λ (layer : Option LayerId). IsFrozen ctx layer rules) c.in-Some.is frozen in (
      c.fails_by-in-Err.ensures ∙ ap (λ (layers : List (RulesOn ℕ)). fails_by_layer layers (Some c.in-Some.layer) TooBig) (sym same)
          ∙ restrict_full ctx c.in-Some.layer ctx.state rules may (omega (arith, full)) one,
      rw (
        c.fails_by-in-Err.ensures,
        failing_keeps c.args.layers.now (Some c.in-Some.layer) TooBig (with_layer ctx.state rules) ctx.state,
        c.in-Err.ensures.err,
      ) agrees,
    )
