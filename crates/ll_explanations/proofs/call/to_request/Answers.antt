-- What is asked is asked at the place of the call's first path.
use Rattle.std.proofs.Common.{◌≡◌, ◌∙◌, ℕ, List, Option, Some, ap, sym}
use Rattle.std.proofs.lemmas.Result.{IfOk-weaker}
use Rattle.std.proofs.lemmas.List.Elements.{All-nil}
use Rattle.ll_tree.specs.Trees.{Entry}
use Rattle.ll_tree.specs.declared.place.Place.{Place}
use Rattle.ll_trace.specs.declared.op.Op.{Op}
use Rattle.ll_trace.specs.FirstPlaces.{first_place}
use Rattle.ll_semantics.specs.declared.request.Request.{Request}
use Rattle.ll_semantics.specs.declared.request.Wanted.{Wanted}
use Rattle.ll_semantics.specs.Requests.{asks, request, wanted}
use Rattle.ll_reasons.specs.Objections.{to_request}
use Rattle.ll_explanations.specs.Asking.{requesting}
use Rattle.ll_explanations.specs.Confined.{stacked}
use Rattle.ll_explanations.specs.InTree.{IsNoted}
use Rattle.ll_explanations.specs.Meanings.{by_layer}
use Rattle.ll_state.proofs.Judging.{request_wanted}
use Rattle.ll_explanations.proofs.call.to_request.Goals as goal

requested : (tree : List Entry) (op : Op) (path : List ℕ) (want : Wanted) (spot : Place) (asked : Option Request) → Some (path, want) ≡ wanted op
    → spot ≡ first_place tree op → asked ≡ asks tree spot want → asked ≡ request tree (wanted op)
requested tree op path want spot asked is first exact = exact ∙ ap (λ s. asks tree s want) first ∙ request_wanted tree op (path, want) is

pub returns-in-None : goal.returns-in-None
unfolding requesting
returns-in-None c =
    let tree = c.args.ctx.now.tree.now in record {
      said = ap (by_layer tree) c.new-in-None.ensures.items
          ∙ ap (to_request tree (stacked c.args.ctx.now)) (sym c.in-None.is
          ∙ requested tree c.args.op.now c.in-Some.field-0-0.now c.in-Some.wanted c.args.spot c.asks.result c.in-Some.ensures c.requires c.asks.ensures.exact);
      noted = rw c.new-in-None.ensures.items (All-nil (IsNoted tree c.args.ctx.now.trail.now.layers.items));
    }

pub returns-in-Some-asks : goal.returns-in-Some-asks
unfolding requesting
returns-in-Some-asks c =
    let tree = c.args.ctx.now.tree.now in
    IfOk-weaker c.objections_of.result _ _ (λ all are. record {
      said = are.said
          ∙ ap (to_request tree (stacked c.args.ctx.now)) (sym c.in-Some-asks.is
          ∙ requested tree c.args.op.now c.in-Some.field-0-0.now c.in-Some.wanted c.args.spot c.asks.result c.in-Some.ensures c.requires c.asks.ensures.exact);
      noted = are.noted;
    })
    c.objections_of.ensures
