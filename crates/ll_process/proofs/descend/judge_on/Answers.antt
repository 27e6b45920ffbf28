-- A child came back, and waits like what is left of its parent; or the process is done.
use Rattle.std.proofs.Common.{◌∙◌, ap, arith}
use Rattle.ll_process.proofs.Descents.{descended_forked, less_forked, descended_done, less_done, put_of}
use Rattle.ll_process.proofs.Going.{no_more_children}
use Rattle.ll_process.proofs.descend.judge_on.Goals as goal

pub returns-in_ok-put_both-in-Some-clause-descended : goal.returns-in_ok-put_both-in-Some-clause-descended
returns-in_ok-put_both-in-Some-clause-descended g c kept so_far =
    descended_forked c.args.case.now c.args.next c.in_ok-progress.progress (g.H.Hand.kept c.args.hand.now) (g.H.Hand.kept c.go_on.new.hand)
    c.in_ok-progress.ensures.process c.in-Some.job.process.0 c.in_ok-begin-in-Some.field-0
    (ap (λ p. p.0) c.in_ok-begin-in-Some.ensures.process) c.in_ok-begin-in-Some.ensures.at
    c.args.stack.now.items c.put_both.new.stack.items c.in_ok-put_both-in-Some.ensures
    (rw c.requires.its.0 at (rw c.in-Some.is at c.in_ok-progress.ensures.handed)) c.args.first c.args.done kept so_far

pub returns-in_ok-put_both-in-Some-clause-of_case : goal.returns-in_ok-put_both-in-Some-clause-of_case
returns-in_ok-put_both-in-Some-clause-of_case g c =
    put_of c.args.case.now c.args.stack.now.items c.put_both.new.stack.items c.in_ok-progress.progress c.in_ok-begin-in-Some.field-0
    c.in_ok-put_both-in-Some.ensures c.requires.of_case (c.in_ok-progress.ensures.case ∙ c.requires.its.0)
    (c.in_ok-begin-in-Some.ensures.case ∙ (rw c.in-Some.is at c.in_ok-progress.ensures.of_case) ∙ c.requires.its.0)

pub returns-in_ok-put_both-in-Some-clause-less : goal.returns-in_ok-put_both-in-Some-clause-less
returns-in_ok-put_both-in-Some-clause-less g c =
    let its = (rw c.in-Some.is at c.in_ok-progress.ensures.of_case) ∙ c.requires.its.0 in
    less_forked c.args.case.now c.args.next c.in_ok-progress.progress (g.H.Hand.kept c.args.hand.now) (g.H.Hand.kept c.go_on.new.hand)
    c.in_ok-progress.ensures.process c.in-Some.job.process.0 c.in_ok-begin-in-Some.field-0
    (ap (λ p. p.0) c.in_ok-begin-in-Some.ensures.process) c.in_ok-begin-in-Some.ensures.at
    c.args.stack.now.items c.put_both.new.stack.items c.in_ok-put_both-in-Some.ensures
    (rw c.requires.its.0 at (rw c.in-Some.is at c.in_ok-progress.ensures.handed))
    (rw its at c.begin.ensures.is_case) (rw c.requires.its.0 at c.in_ok-progress.ensures.keeps)

pub returns-in_ok-finished-in-None-clause-descended : goal.returns-in_ok-finished-in-None-clause-descended
returns-in_ok-finished-in-None-clause-descended g c kept so_far =
    let over = rw c.requires.its.0 at (c.in_ok-progress.ensures.over c.in-None.is) in
    descended_done c.args.case.now c.args.next c.in_ok-progress.progress (g.H.Hand.kept c.args.hand.now) (g.H.Hand.kept c.go_on.new.hand)
    c.in_ok-progress.ensures.process c.args.stack.now.items c.args.done c.in_ok-finished-in-None.finished c.args.first
    c.in_ok-finished-in-None.ensures.processes (rw c.requires.its.0 at (rw c.in-None.is at c.in_ok-progress.ensures.handed))
    (no_more_children c.args.case.now c.args.next.process.0 c.in_ok-progress.progress.at (omega (arith, over))) kept so_far

pub returns-in_ok-finished-in-None-clause-less : goal.returns-in_ok-finished-in-None-clause-less
returns-in_ok-finished-in-None-clause-less g c = less_done c.args.case.now c.args.stack.now.items c.args.next
