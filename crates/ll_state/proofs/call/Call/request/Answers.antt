-- The place of the call's first path is that at which it wants something.
use Rattle.std.proofs.Common.{◌∙◌, ap, sym, subst}
use Rattle.ll_tree.specs.TreeFacts.{IsPlace}
use Rattle.ll_trace.proofs.Places.{first_place_inside}
use Rattle.ll_semantics.specs.Requests.{asks}
use Rattle.ll_state.proofs.Judging.{request_wanted}
use Rattle.ll_state.proofs.call.Call.request.Goals as goal

pub asks-requires : goal.asks-requires
asks-requires c =
    let call = c.args.self.now in
    subst (IsPlace call.tree.now) (sym call.first) (first_place_inside call.tree.now call.op.now)

pub returns-clause-exact : goal.returns-clause-exact
returns-clause-exact c =
    let call = c.args.self.now in
    c.asks.ensures.exact
    ∙ ap (λ spot. asks call.tree.now spot c.in_ok-wanted.wanted) call.first
    ∙ request_wanted call.tree.now call.op.now (c.in_ok-wanted.field-0-0.now, c.in_ok-wanted.wanted) c.in_ok-wanted.ensures
