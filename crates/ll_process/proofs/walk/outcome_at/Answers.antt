use Rattle.std.proofs.Common.{◌≡◌, subst}
use Rattle.ll_trace.specs.Borrowed.{meant}
use Rattle.ll_trace.specs.declared.op.Op.{Op}
use Rattle.ll_semantics.specs.RulesetOutcomes.{OutcomeFits}
use Rattle.ll_process.proofs.walk.outcome_at.Goals as goal

pub returns-in-Other : goal.returns-in-Other
unfolding meant
returns-in-Other c = λ ctx says.
    let same : c.in-Other.op.now ≡ c.args.seen.now = c.in-Other.ensures.call in
    subst (λ (op : Op). OutcomeFits ctx op c.outcome_of_other.result) same
    (c.outcome_of_other.ensures ctx (λ outcome there. rw same (says outcome there)))
