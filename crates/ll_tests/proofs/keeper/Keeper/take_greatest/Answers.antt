use Rattle.std.proofs.Common.{◌≡◌, ◌<◌, ◌≤◌, List, All, length, slice_index_or, subst, sym, ◌∙◌, ap}
use Rattle.std.proofs.lemmas.List.Sorted.{IsPermutation-swap_remove}
use Rattle.ll_process.specs.declared.job.Job.{Job}
use Rattle.ll_tests.proofs.keeper.Keeper.take_greatest.Goals as goal

pub returns-clause-taken : goal.returns-clause-taken
returns-clause-taken c =
    let there : c.in_ok-index.index < length c.args.self.now.jobs.items =
    subst (λ (jobs : List Job). c.in_ok-index.index < length jobs) c.deref.ensures.value c.in_ok-index.ensures.there in
    rw c.swap_remove.ensures.items
    (IsPermutation-swap_remove c.args.self.now.jobs.items c.in_ok-index.index c.swap_remove.result there c.swap_remove.ensures.value)

pub returns-clause-greatest : goal.returns-clause-greatest
returns-clause-greatest c =
    let same : slice_index_or c.deref.result.now c.in_ok-index.index c.swap_remove.result ≡ c.swap_remove.result =
    ap (λ (jobs : List Job). slice_index_or jobs c.in_ok-index.index c.swap_remove.result) c.deref.ensures.value ∙ sym c.swap_remove.ensures.value in
    subst (λ (jobs : List Job). All (λ (other : Job). other.process.0 ≤ c.swap_remove.result.process.0) jobs) c.deref.ensures.value
    (subst (λ (job : Job). All (λ (other : Job). other.process.0 ≤ job.process.0) c.deref.result.now) same
    (c.in_ok-index.ensures.greatest c.swap_remove.result))
