-- The first process waits alone, one progress is judged on, and in the end none waits.
use Rattle.std.proofs.Common.{◌≡◌, [], refl, arith}
use Rattle.std.proofs.lemmas.Grind.{common_steps}
use Rattle.std.proofs.lemmas.List.Elements.{All-nil, All-push}
use Rattle.ll_process.specs.declared.progress.Progress.{Progress}
use Rattle.ll_process.proofs.Descents.{keeps_on, keeps_same, descended_none, popped_of, shares_out}
use Rattle.ll_process.proofs.descend.judge.Goals as goal

pub loop-next-init : goal.loop-next-init
loop-next-init g c = record {
  descended = rw (c.in_ok-push.ensures.items, c.new-stack.ensures.items)
      (descended_none c.args.job.case.now c.args.job.process c.none-done.result (g.H.Hand.kept c.args.hand.now) c.in_ok-begin.field-0
      c.none-done.ensures.processes
      c.in_ok-begin.ensures.process c.in_ok-begin.ensures.at);
  its = c.none-done.ensures.case;
  of_case = rw (c.in_ok-push.ensures.items, c.new-stack.ensures.items)
      (All-push (λ (p : Progress). p.case.now ≡ c.args.job.case.now) [] c.in_ok-begin.field-0 (All-nil (λ (p : Progress). p.case.now ≡ c.args.job.case.now))
      c.in_ok-begin.ensures.case);
  keeps = keeps_same c.args.job.case.now.records (g.H.Hand.kept c.args.hand.now) (g.H.Hand.kept c.args.hand.now) refl;
  suits = c.requires;
  stays = λ before same. same;
}

pub judge_on-requires : goal.judge_on-requires
judge_on-requires g c κs =
    let both =
    popped_of c.args.job.case.now c.loop-next.stack.items c.pop.new.self.items c.in-Some.next c.in-Some.ensures.items c.loop-next.invariant.of_case in
    ((refl, tt), (c.loop-next.invariant.suits, ((both.1, c.loop-next.invariant.its), both.0)))

pub returns-in_err-done-clause-keeps : goal.returns-in_err-done-clause-keeps
returns-in_err-done-clause-keeps g c =
    keeps_on c.args.job.case.now.records (g.H.Hand.kept c.args.hand.now) (g.H.Hand.kept c.loop-next.hand)
    (g.H.Hand.kept c.judge_on.new.hand) c.loop-next.invariant.keeps c.judge_on.ensures.keeps

pub loop-next-smaller : goal.loop-next-smaller
loop-next-smaller g c = rw c.in-Some.ensures.items c.in_ok-done.ensures.less

pub loop-next-preserved : goal.loop-next-preserved
loop-next-preserved g c = record {
  descended = c.in_ok-done.ensures.descended (g.H.Hand.kept c.args.hand.now) (rw c.in-Some.ensures.items at c.loop-next.invariant.descended);
  its = c.in_ok-done.ensures.case;
  of_case = c.in_ok-done.ensures.of_case;
  keeps = keeps_on c.args.job.case.now.records (g.H.Hand.kept c.args.hand.now) (g.H.Hand.kept c.loop-next.hand)
      (g.H.Hand.kept c.judge_on.new.hand) c.loop-next.invariant.keeps c.judge_on.ensures.keeps;
  suits = c.judge_on.ensures.suits;
  stays = λ before same. c.judge_on.ensures.stays before (c.loop-next.invariant.stays before same);
}

pub returns-clause-shares_out : goal.returns-clause-shares_out
returns-clause-shares_out g c =
    let none : c.loop-next.stack.items ≡ [] = grind (arith, common_steps) in
    shares_out c.args.job.case.now c.args.job.process c.loop-next.done (g.H.Hand.kept c.args.hand.now)
    (g.H.Hand.kept c.loop-next.hand) c.loop-next.stack.items c.loop-next.invariant.descended none
