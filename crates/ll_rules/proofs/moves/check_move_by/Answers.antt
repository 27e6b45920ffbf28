use Rattle.std.proofs.Common.{◌≡◌, ◌∙◌, ◌≤◌, ◌+◌, ◌*◌, ap, sym, arith, not, List, length}
use Rattle.std.proofs.lemmas.Bool.{false≢true}
use Rattle.ll_tree.proofs.Positions.{path_eq-nodes}
use Rattle.ll_rules.specs.declared.domain.TheConstants.{MOST_LAYERS}
use Rattle.ll_rules.specs.declared.domain.LayerId.{LayerId}
use Rattle.ll_rules.specs.KeptLayers.{domain_of}
use Rattle.ll_rules.specs.InTree.{all_in_tree}
use Rattle.ll_rules.specs.Checks.{numbers_where}
use Rattle.ll_rules.specs.Moves.{denies, holds_back}
use Rattle.ll_rules.proofs.MoveLanes.{denied_numbers, move_look_ups}
use Rattle.ll_rules.proofs.Verdicts.{denied_verdict, within_verdict, apart_verdict}
use Rattle.ll_rules.proofs.moves.check_move_by.Goals.{then-eq, else-eq, then-not-is_empty, else-not-is_empty}
use Rattle.ll_rules.proofs.moves.check_move_by.Goals as goal

pub returns-clause-answer : goal.returns-clause-answer
returns-clause-answer c =
    let tree = c.args.known.now.tree.now in
    let few : length c.layers.result.now ≤ MOST_LAYERS = rw c.layers.ensures.value c.layers.ensures.at_most_sixteen in
    let denied_is =
    c.filled-denied.ensures ∙ denied_numbers tree c.args.attempt.now c.args.known.now.layers.now c.layers.result.now few c.denied.result _ _
    c.lacking_of-look_ups.result.0.source c.lacking_of-look_ups.result.0.destination c.leaving-from.result.rights c.entering-to.result.rights
    c.leaving-from.ensures.path c.entering-to.ensures.path c.lacking_of-look_ups.ensures.source c.lacking_of-look_ups.ensures.destination
    c.leaving-from.ensures.rights c.entering-to.ensures.rights c.denied.ensures
    ∙ ap (λ (ids : List LayerId). numbers_where (denies tree c.args.attempt.now) (all_in_tree tree (domain_of c.args.known.now.layers.now ids)))
    c.layers.ensures.value in
    let by_paths =
    path_eq-nodes tree c.leaving-from.result.directory c.entering-to.result.directory c.leaving-from.ensures.tree c.leaving-from.ensures.inside
    c.entering-to.ensures.inside in
    c.verdict_of.ensures ∙ elim c.if-eq.branch [
      | then-eq w ↦ rw (w.held_back-is, w.new.ensures) (elim c.if-not-is_empty.branch [
        | then-not-is_empty v ↦
            denied_verdict _ _ _ _ denied_is _ _ c.leaving-from.ensures.path c.entering-to.ensures.path (sym c.is_empty.ensures.empty ∙ v.if-not-is_empty.true)
        | else-not-is_empty v ↦ within_verdict _ _ _ _ denied_is _ _ c.leaving-from.ensures.path c.entering-to.ensures.path
            (sym by_paths ∙ sym v.eq.ensures ∙ sym v.value-is ∙ w.if-eq.true)
      ])
      | else-eq w ↦ rw w.held_back-is (elim c.if-not-is_empty.branch [
        | then-not-is_empty v ↦ absurd (false≢true (sym w.if-eq.false ∙ v.value-is ∙ ap not v.if-not-is_empty.true))
        | else-not-is_empty v ↦
            apart_verdict _ _ _ _ denied_is _ _ c.leaving-from.ensures.path c.entering-to.ensures.path
            (sym by_paths ∙ sym v.eq.ensures ∙ sym v.value-is ∙ w.if-eq.false) _
            (w.held_back.ensures.held ∙ ap (λ (ids : List LayerId).
            numbers_where (holds_back tree c.args.attempt.now) (all_in_tree tree (domain_of c.args.known.now.layers.now ids))) c.layers.ensures.value)
      ])
    ]

pub returns-clause-look_ups : goal.returns-clause-look_ups
returns-clause-look_ups c =
    let same : length c.layers.result.now ≡ length c.args.domain.now = ap length c.layers.ensures.value in
    let more : c.if-eq.held_back.1 ≤ length c.layers.result.now * 2 = elim c.if-eq.branch [
      | then-eq w ↦ rw w.held_back-is (omega arith)
      | else-eq w ↦ rw w.held_back-is w.held_back.ensures.count
    ] in
    rw (← same) (move_look_ups c.args.known.now.tree.now c.leaving-from.result.directory c.entering-to.result.directory _ _ (length c.layers.result.now)
    c.lacking_of-look_ups.result.1 (c.lacking_of-look_ups.result.1 + c.if-eq.held_back.1) c.leaving-from.ensures.path c.entering-to.ensures.path
    c.lacking_of-look_ups.ensures.count (omega (arith, more)))
