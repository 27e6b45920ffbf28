-- One record more is judged, up to a child that comes back or to the last record.
use Rattle.std.proofs.Common.{rules, ◌≡◌, ◌+◌, ◌∙◌, ℕ, List, ap, arith, get_or, length, option_to_list, refl}
use Rattle.ll_tree.specs.declared.place.Place.{Place}
use Rattle.std.specs.Prelude.{false, sum_by}
use Rattle.std.specs.Option.{is_some, option_map}
use Rattle.ll_process.specs.declared.job.Job.{Job}
use Rattle.ll_process.specs.Progresses.{children_from}
use Rattle.ll_process.proofs.Descents.{keeps_on}
use Rattle.std.proofs.lemmas.Option.{slice_get_within}
use Rattle.ll_process.proofs.Placing.{placed_at}
use Rattle.ll_process.proofs.Going.{index_now, own_now, meets_next, answered_next, shared_next, meets_end, answered_end, handed_from, nothing_back}
use Rattle.ll_process.proofs.progress.Progress.go_on.Goals as goal

pub judge_record-requires : goal.judge_record-requires
judge_record-requires g c κs =
    let now =
    index_now c.args.self.case.now c.args.self.process.0 c.loop-next.next c.own_records-indices.result.now c.own_records-indices.ensures.indices
    c.loop-next-test.true in (
      (refl, tt),
      (
        own_now c.args.self.case.now c.args.self.process.0 c.loop-next.next c.own_records-indices.result.now c.own_records-indices.ensures.indices
            c.loop-next-test.true,
        (
          λ r here.
              let item = c.index-places-next in
              c.place.ensures
              ∙ item.is
              ∙ ap (λ (all : List Place). get_or all c.loop-next.next item.result) c.own_places-places.ensures
              ∙ placed_at c.args.self.case.now c.args.self.process.0 c.loop-next.next _ (slice_get_within _ c.loop-next.next _ now) now item.result r here,
          (
            c.loop-next.invariant.going.meets _ now,
            (
              λ calm. rw (← c.loop-next.invariant.ahead) (c.may_fork-forks.ensures.known calm _ (rw c.loop-next.invariant.its now)),
              c.loop-next.invariant.suits,
            ),
          ),
        ),
      ),
    )

pub returns-in_err-back-clause-keeps : goal.returns-in_err-back-clause-keeps
returns-in_err-back-clause-keeps g c =
    keeps_on c.args.self.case.now.records (g.H.Hand.kept c.args.hand.now) (g.H.Hand.kept c.loop-next.hand)
    (g.H.Hand.kept c.judge_record.new.hand) c.loop-next.invariant.keeps c.judge_record.ensures.keeps

pub invariant_of-progress : goal.invariant_of-progress
invariant_of-progress g c = record {
  there = c.args.self.there;
  ahead_of = c.may_fork-forks.ensures.case ∙ c.loop-next.invariant.ahead;
  indices = c.may_fork-forks.ensures.indices ∙ c.loop-next.invariant.its;
  within = omega (arith, c.loop-next-test.true, ap (λ (xs : List ℕ). length xs) c.own_records-indices.ensures.indices);
  meets = meets_next c.args.self.case.now c.args.self.process.0 c.loop-next.next c.own_records-indices.result.now c.own_records-indices.ensures.indices
      c.judge_record.new.own c.own_records-indices.ensures.case c.loop-next-test.true c.in_ok-back.ensures.leaves;
  answered = rw c.in_ok-back.ensures.answered
      (answered_next c.args.self.case.now c.args.self.process.0 c.loop-next.next c.own_records-indices.result.now c.own_records-indices.ensures.indices
      c.loop-next.answers.items c.loop-next-test.true c.loop-next.invariant.going.answered);
}

pub returns-then-is_some-clause-handed : goal.returns-then-is_some-clause-handed
returns-then-is_some-clause-handed g c =
    let back : List ℕ = option_to_list (option_map (λ (job : Job). job.process.0) c.in_ok-back.back) in
    handed_from (children_from c.args.self.case.now.records c.args.self.process.0 c.args.self.at)
    (g.H.Hand.kept c.args.hand.now) (g.H.Hand.kept c.judge_record.new.hand) back
    (children_from c.args.self.case.now.records c.args.self.process.0 (c.loop-next.next + 1))
    (shared_next c.args.self.case.now c.args.self.process.0 c.loop-next.next c.own_records-indices.result.now c.own_records-indices.ensures.indices
    (g.H.Hand.kept c.args.hand.now) (g.H.Hand.kept c.loop-next.hand)
    (children_from c.args.self.case.now.records c.args.self.process.0 c.args.self.at) (g.H.Hand.kept c.judge_record.new.hand) back
    c.loop-next-test.true c.loop-next.invariant.going.shared c.in_ok-back.ensures.handed)

pub returns-then-is_some-clause-keeps : goal.returns-then-is_some-clause-keeps
returns-then-is_some-clause-keeps g c =
    keeps_on c.args.self.case.now.records (g.H.Hand.kept c.args.hand.now) (g.H.Hand.kept c.loop-next.hand)
    (g.H.Hand.kept c.judge_record.new.hand) c.loop-next.invariant.keeps c.judge_record.ensures.keeps

pub loop-next-preserved : goal.loop-next-preserved
loop-next-preserved g c =
    let none : is_some c.in_ok-back.back ≡ false = search rules in
    let back : List ℕ = option_to_list (option_map (λ (job : Job). job.process.0) c.in_ok-back.back) in
    record {
      going = record {
        meets = meets_next c.args.self.case.now c.args.self.process.0 c.loop-next.next c.own_records-indices.result.now
            c.own_records-indices.ensures.indices
            c.judge_record.new.own c.own_records-indices.ensures.case c.loop-next-test.true c.in_ok-back.ensures.leaves;
        answered = rw c.in_ok-back.ensures.answered
            (answered_next c.args.self.case.now c.args.self.process.0 c.loop-next.next c.own_records-indices.result.now
            c.own_records-indices.ensures.indices
            c.loop-next.answers.items c.loop-next-test.true c.loop-next.invariant.going.answered);
        shared = λ w. omega (
          arith,
          shared_next c.args.self.case.now c.args.self.process.0 c.loop-next.next c.own_records-indices.result.now c.own_records-indices.ensures.indices
              (g.H.Hand.kept c.args.hand.now) (g.H.Hand.kept c.loop-next.hand)
              (children_from c.args.self.case.now.records c.args.self.process.0 c.args.self.at) (g.H.Hand.kept c.judge_record.new.hand) back
              c.loop-next-test.true c.loop-next.invariant.going.shared c.in_ok-back.ensures.handed w,
          ap (λ (xs : List ℕ). sum_by w xs) (nothing_back (λ (job : Job). job.process.0) c.in_ok-back.back none),
        );
      };
      keeps = keeps_on c.args.self.case.now.records (g.H.Hand.kept c.args.hand.now) (g.H.Hand.kept c.loop-next.hand)
          (g.H.Hand.kept c.judge_record.new.hand) c.loop-next.invariant.keeps c.judge_record.ensures.keeps;
      suits = c.judge_record.ensures.suits;
      ahead = c.may_fork-forks.ensures.case ∙ c.loop-next.invariant.ahead;
      its = c.may_fork-forks.ensures.indices ∙ c.loop-next.invariant.its;
      stays = λ before same. c.judge_record.ensures.stays before (c.loop-next.invariant.stays before same);
    }

pub invariant_of-progress-2 : goal.invariant_of-progress-2
invariant_of-progress-2 g c =
    let all = ap (λ (xs : List ℕ). length xs) c.own_records-indices.ensures.indices in
    record {
      there = c.args.self.there;
      ahead_of = c.loop-next.invariant.ahead;
      indices = c.loop-next.invariant.its;
      within = omega (arith, all);
      meets = meets_end c.args.self.case.now c.args.self.process.0 c.loop-next.own _ (omega (arith, all));
      answered = rw all (answered_end c.args.self.case.now c.args.self.process.0 c.loop-next.next c.loop-next.answers.items
          (omega (arith, all, c.loop-next-test.false)) c.loop-next.invariant.going.answered);
    }
