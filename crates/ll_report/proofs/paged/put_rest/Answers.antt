use Rattle.std.proofs.Common.{◌≡◌, ◌∙◌, ◌+◌, ◌≤◌, ◌<◌, ◌^◌, List, ℕ, length, drop, take, sym, ap, arith, subst}
use Rattle.std.proofs.lemmas.Bool.{OnFalse_at}
use Rattle.ll_report.specs.Made.{Made, part_at}
use Rattle.ll_report.proofs.Paging.{IsMidway, cut_midway, goes_on, stopped, wholly_sent}
use Rattle.ll_report.proofs.paged.put_rest.Goals as goal

pub returns-in_err-whole-clause-beginning : goal.returns-in_err-whole-clause-beginning
returns-in_err-whole-clause-beginning g c =
    let part : List ℕ = part_at (g.R.Rows.made_of c.args.rows.now) c.args.index in
    let so_far = c.loop-whole.invariant.2 in
    wholly_sent _ _ (drop c.args.skip part) (drop c.loop-whole.written part) (so_far.sent, so_far.appended, so_far.split)

pub returns-then-whole-clause-beginning : goal.returns-then-whole-clause-beginning
returns-then-whole-clause-beginning g c =
    let part : List ℕ = part_at (g.R.Rows.made_of c.args.rows.now) c.args.index in
    let so_far = c.loop-whole.invariant.2 in
    wholly_sent _ _ (drop c.args.skip part) (drop c.loop-whole.written part) (so_far.sent, so_far.appended, so_far.split)

pub returns-in_err-write_bytes-clause-beginning : goal.returns-in_err-write_bytes-clause-beginning
returns-in_err-write_bytes-clause-beginning g c =
    let part : List ℕ = part_at (g.R.Rows.made_of c.args.rows.now) c.args.index in
    let same = ap (λ (m : Made). part_at m c.args.index) c.loop-whole.invariant.0 in
    let held = c.held.ensures.bytes ∙ c.in_ok-whole.ensures.page.held ∙ ap (λ (p : List ℕ). take c.loop-whole.page.room (drop c.loop-whole.written p)) same in
    cut_midway _ _ _ part c.args.skip c.loop-whole.written c.loop-whole.page.room c.held.result.now c.loop-whole.invariant.2 held
    c.in_err-write_bytes.ensures.beginning

pub returns-in_default-clause-beginning : goal.returns-in_default-clause-beginning
returns-in_default-clause-beginning g c =
    let part : List ℕ = part_at (g.R.Rows.made_of c.args.rows.now) c.args.index in
    let same = ap (λ (m : Made). part_at m c.args.index) c.loop-whole.invariant.0 in
    let held = c.held.ensures.bytes ∙ c.in_ok-whole.ensures.page.held ∙ ap (λ (p : List ℕ). take c.loop-whole.page.room (drop c.loop-whole.written p)) same in
    stopped _ _ _ part c.args.skip c.loop-whole.written c.loop-whole.page.room c.held.result.now c.loop-whole.invariant.2 held c.in_ok-write_bytes.ensures.whole

pub loop-whole-preserved : goal.loop-whole-preserved
loop-whole-preserved g c =
    let part : List ℕ = part_at (g.R.Rows.made_of c.args.rows.now) c.args.index in
    let same = ap (λ (m : Made). part_at m c.args.index) c.loop-whole.invariant.0 in
    let page = c.in_ok-whole.ensures.page in
    let held = c.held.ensures.bytes ∙ page.held ∙ ap (λ (p : List ℕ). take c.loop-whole.page.room (drop c.loop-whole.written p)) same in
    let room : c.room.result ≡ c.loop-whole.page.room = c.room.ensures.room ∙ page.same in
    let sum : (c.loop-whole.written + c.room.result < 2 ^ 64) × (c.in-Some.next ≡ c.loop-whole.written + c.room.result) = c.in-Some.ensures in
    let next : c.in-Some.next ≡ c.loop-whole.written + c.loop-whole.page.room = omega (arith, room, sum.1) in
    let more : c.loop-whole.written + c.loop-whole.page.room ≤ length part =
    subst (λ (p : List ℕ). c.loop-whole.written + c.loop-whole.page.room ≤ length p) same
    (OnFalse_at c.if-whole.false page.more (omega (arith, room, sum.0))) in (
      c.holds_rest.ensures.made ∙ c.loop-whole.invariant.0,
      omega (arith, page.same, c.loop-whole.invariant.1),
      subst (IsMidway _ _ part c.args.skip) (sym next)
          (goes_on _ _ _ part c.args.skip c.loop-whole.written c.loop-whole.page.room c.held.result.now c.loop-whole.invariant.2 held
          c.in_ok-write_bytes.ensures.whole more),
    )
