-- Each start record gives one job more.
use Rattle.std.proofs.Common.{◌≡◌, ◌<◌, ◌≤◌, ◌+◌, ℕ, List, Option, length, sym, ap, ◌∙◌, subst}
use Rattle.std.specs.Prelude.{IfSome}
use Rattle.std.specs.Option.{option_map}
use Rattle.ll_trace.specs.declared.op.Record.{Record}
use Rattle.ll_process.specs.declared.job.Job.{Job}
use Rattle.ll_process.proofs.Roots.{Rooted, rooted_none, rooted_other, rooted_more, rooted_all}
use Rattle.ll_process.proofs.case.Case.roots.Goals as goal
use Rattle.ll_process.proofs.case.Case.roots.Goals.{in-Some+in_ok-push, in_default}

pub loop-index-init : goal.loop-index-init
loop-index-init c = rooted_none c.args.self.now c.new-jobs.result.items c.new-jobs.ensures.items

pub loop-index-preserved : goal.loop-index-preserved
loop-index-preserved c =
    let records : c.count-index-end.result ≡ length c.args.self.now.records =
    c.count-index-end.ensures.count ∙ ap (λ (rs : List Record). length rs) c.trace.ensures.records in
    let within : c.loop-index.index < length c.args.self.now.records =
    subst (λ (n : ℕ). c.loop-index.index < n) records c.loop-index-test.true in
    elim c.match-root_job.branch [
      | in-Some+in_ok-push w ↦
          subst (λ jobs. Rooted c.args.self.now (c.loop-index.index + 1) jobs.items) (sym w.jobs-is)
          (rooted_more c.args.self.now c.loop-index.index c.loop-index.jobs.items w.push.new.self.items w.in-Some.job within
          (sym (ap (λ (o : Option Job). option_map (λ (j : Job). j.process.0) o) w.in-Some.is) ∙ c.root_job.ensures.root)
          (subst (λ (o : Option Job). IfSome o (λ (j : Job). j.case.now ≡ c.args.self.now)) w.in-Some.is c.root_job.ensures.of_case)
          w.in_ok-push.ensures.items
          c.loop-index.invariant)
      | in_default w ↦
          subst (λ jobs. Rooted c.args.self.now (c.loop-index.index + 1) jobs.items) (sym w.jobs-is)
          (rooted_other c.args.self.now c.loop-index.index c.loop-index.jobs.items within
          (sym (ap (λ (o : Option Job). option_map (λ (j : Job). j.process.0) o) w.in_default.is) ∙ c.root_job.ensures.root)
          c.loop-index.invariant)
    ]

pub returns-clause-roots : goal.returns-clause-roots
returns-clause-roots c =
    let records : c.count-index-end.result ≡ length c.args.self.now.records =
    c.count-index-end.ensures.count ∙ ap (λ (rs : List Record). length rs) c.trace.ensures.records in
    rooted_all c.args.self.now c.loop-index.index c.loop-index.jobs.items
    (subst (λ (n : ℕ). n ≤ c.loop-index.index) records c.loop-index-test.false) c.loop-index.invariant

pub returns-clause-numbered : goal.returns-clause-numbered
returns-clause-numbered c = c.trace.ensures.case.numbered
