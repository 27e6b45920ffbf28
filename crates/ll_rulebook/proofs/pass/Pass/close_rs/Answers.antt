use Rattle.std.proofs.Common.{None, refl, sym, ◌∙◌}
use Rattle.ll_trace.specs.declared.op.Op.TheVariants as calls
use Rattle.ll_semantics.specs.declared.answer.Answer.TheVariants.{Allowed, Moot}
use Rattle.ll_semantics.specs.declared.answer.RulesetOutcome.TheVariants.{Answered}
use Rattle.ll_semantics.specs.Answers.{answer}
use Rattle.ll_semantics.specs.Effects.{effect, with_held}
use Rattle.ll_semantics.specs.CallContexts.{answer_to}
use Rattle.ll_semantics.specs.RulesetOutcomes.{OutcomeFits, is_on_rulesets}
use Rattle.ll_rulebook.specs.Stores.{held_by}
use Rattle.ll_rulebook.proofs.Settling.{settles_refused, settles_tables, renamed, held_there}
use Rattle.ll_rulebook.proofs.pass.Pass.close_rs.Goals as goal

pub returns-in_default : goal.returns-in_default
unfolding is_on_rulesets answer
returns-in_default c =
    settles_refused c.args.process (calls.CloseRs c.args.rs) c.args.self.now c.requires.sound Moot refl (λ is. cc)
    (λ w agrees. sym (rw (sym (agrees.held c.args.process c.args.rs) ∙ sym c.in_default.ensures) refl))

pub returns : goal.returns
unfolding is_on_rulesets answer effect OutcomeFits answer_to
returns c =
    settles_tables c.args.process (calls.CloseRs c.args.rs) c.args.self.now c.requires.sound c.hold.new.self _ _ _ (Answered Allowed) c.in_ok-hold.ensures
    (λ q index is. held_there c.args.rs _ q index None (held_by c.args.self.now.tables.held.items c.args.process) is (λ none. cc)
    (c.requires.sound.indices c.args.process q index))
    (λ w agrees. (refl, sym (rw (sym (agrees.held c.args.process c.args.rs) ∙ sym c.in-Some.ensures) refl)))
    (λ w agrees. rw (sym (agrees.held c.args.process c.args.rs) ∙ sym c.in-Some.ensures) refl)
    (λ w agrees. (
      with_held (w.processes c.args.process) c.args.rs None,
      w.count,
      c.args.process,
      agrees.count,
      refl,
      λ q. renamed (held_by c.args.self.now.tables.held.items c.args.process) (w.processes c.args.process).held c.args.rs q None None
          (agrees.held c.args.process q) refl,
      refl,
    ))
