use Rattle.std.proofs.Common.{◌∙◌, ℕ, List, sym, ap, subst}
use Rattle.std.specs.Prelude.{All}
use Rattle.std.proofs.lemmas.List.Elements.{All-weaker}
use Rattle.ll_tree.specs.Trees.{Entry}
use Rattle.ll_rules.specs.declared.domain.LayerId.{LayerId}
use Rattle.ll_rules.specs.Layers.{RulesOn}
use Rattle.ll_rules.specs.InTree.{AreInTree, all_in_tree}
use Rattle.ll_rules.specs.KeptLayers.{IsDomainOf, domain_of}
use Rattle.ll_trace.specs.declared.op.Op.{Op}
use Rattle.ll_trace.specs.declared.op.Record.{Record}
use Rattle.ll_process.specs.Cases.{CaseValue}
use Rattle.ll_reasons.specs.Explanations.{domain_at, objections, objections_to, origins_at}
use Rattle.ll_reasons.specs.Objections.{Objection}
use Rattle.ll_reasons.specs.Origins.{Origins}
use Rattle.ll_origins.proofs.SameObjections.{same_layers_object_to_the_same}
use Rattle.ll_origins.specs.CaseTrails.{IsDomainAt}
use Rattle.ll_explanations.specs.InTree.{AreObjectionsIn, IsNoted, IsObjectionIn}
use Rattle.ll_explanations.specs.Meanings.{IsMade, by_layer, explanation_in}
use Rattle.ll_explanations.specs.declared.objection.LayerObjection.{LayerObjection}
use Rattle.ll_explanations.proofs.Explaining.{explains, place_there, refusing}
use Rattle.ll_explanations.proofs.Following.{objected}
use Rattle.ll_explanations.proofs.explanation.refused.Goals as goal

pub invariant_of-ctx-clause-inside : goal.invariant_of-ctx-clause-inside
invariant_of-ctx-clause-inside c =
    let found = c.found_at-seen.ensures.found in
    let is : IsDomainAt c.args.case.now c.args.index found.r.process.0 c.in_ok-domain.domain.items =
    c.in_ok-domain.ensures c.args.index found.r.process.0 found.follows in
    subst (λ (ids : List LayerId). IsDomainOf c.layers.result.now ids) (sym c.deref.ensures.value)
    (subst (λ layers. IsDomainOf layers c.in_ok-domain.domain.items) (sym c.layers.ensures) is.indices)

pub invariant_of-ctx-clause-rules : goal.invariant_of-ctx-clause-rules
invariant_of-ctx-clause-rules c =
    subst (λ (tree : List Entry). All (AreInTree tree) c.layers.result.now) (sym c.tree.ensures)
    (subst (λ (layers : List (RulesOn ℕ)). All (AreInTree c.args.case.now.tree) layers) (sym c.layers.ensures) c.found_at-seen.ensures.case.settled.inside)

pub objections_to-requires : goal.objections_to-requires
objections_to-requires c =
    place_there c.args.case.now c.args.index c.tree.result.now c.found_at-seen.result.0 c.found_at-seen.result.1.now c.found_at-seen.ensures.found
    c.first_place-spot.result c.tree.ensures c.first_place-spot.ensures

pub returns : goal.returns
unfolding explanation_in
returns c =
    let cv : CaseValue = c.args.case.now in
    let found = c.found_at-seen.ensures.found in
    let r : Record = found.r in
    let call : Op = c.found_at-seen.result.0 in
    let o : Origins = origins_at cv.tree cv.abi cv.records c.args.index r.process.0 in
    let ids : List LayerId = c.in_ok-domain.domain.items in
    let all = c.in_ok-all.all.items in
    let layers : List ℕ = c.found_at-seen.result.1.now.layers.items in
    let tree : List Entry = c.tree.result.now in
    let noted : All (IsNoted tree layers) all = c.in_ok-all.ensures.noted in
    let is : IsDomainAt c.args.case.now c.args.index r.process.0 ids = c.in_ok-domain.ensures c.args.index r.process.0 found.follows in
    let said : List Entry → List (RulesOn ℕ) → List LayerId
    → List (ℕ × List Objection) = λ tree layers domain. objections_to tree (all_in_tree tree (domain_of layers domain)) o call c.args.error c.args.numbers in
    explains cv c.args.index _ r _ found.there (record {
      means =
          ap (λ (tree : List Entry). objections (by_layer tree all)) (sym c.tree.ensures)
          ∙ ap objections (c.in_ok-all.ensures.said
          ∙ objected c.tree.result.now (all_in_tree c.tree.result.now (domain_of c.layers.result.now c.deref.result.now)) c.found_at-seen.result.1.now o
          found.follows c.args.error c.args.numbers call
          ∙ ap (λ (tree : List Entry). said tree c.layers.result.now c.deref.result.now) c.tree.ensures
          ∙ ap (λ (layers : List (RulesOn ℕ)). said cv.tree layers c.deref.result.now) c.layers.ensures
          ∙ ap (λ (domain : List LayerId). said cv.tree cv.layers domain) c.deref.ensures.value
          ∙ same_layers_object_to_the_same cv.tree (all_in_tree cv.tree (domain_of cv.layers ids))
          (domain_at cv.tree cv.abi cv.records c.args.index r.process.0) is.same o call c.args.error c.args.numbers
          ∙ ap (λ (op : Op). objections_to cv.tree (domain_at cv.tree cv.abi cv.records c.args.index r.process.0) o op c.args.error c.args.numbers) found.call)
          ∙ refusing cv.tree cv.abi cv.records c.args.index r c.args.error c.args.numbers c.requires.some;
      made = subst (λ (layers : List ℕ). All (IsMade layers) all) found.follows.layers
          (All-weaker (IsNoted tree layers) (IsMade layers) (λ one is. is.0) all noted);
      inside = subst (λ (tree : List Entry). AreObjectionsIn tree all) c.tree.ensures
          (All-weaker (IsNoted tree layers) (λ (one : LayerObjection). IsObjectionIn tree one.objection) (λ one is. is.1) all noted);
    })
