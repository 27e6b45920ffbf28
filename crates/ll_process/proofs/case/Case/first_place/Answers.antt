-- The places are those that the records name first, under every kernel.
use Rattle.std.proofs.Common.{◌≡◌, ◌∙◌, ℕ, List, Some, ap, get_or, sym, subst}
use Rattle.std.specs.Prelude.{option_map, slice_get}
use Rattle.std.proofs.lemmas.Option.{get_or_from_slice_get, slice_get-map}
use Rattle.ll_tree.specs.Trees.{Entry}
use Rattle.ll_tree.specs.declared.place.Place.{Place}
use Rattle.ll_trace.specs.declared.op.Record.{Record}
use Rattle.ll_trace.specs.FirstPlaces.{first_place, first_places}
use Rattle.ll_trace.proofs.Seeing.{first_places_seen}
use Rattle.ll_process.specs.Cases.{CaseValue}
use Rattle.ll_process.proofs.case.Case.first_place.Goals as goal

placed : (tree : List Entry) (records : List Record) (index : ℕ) (place : Place) (r : Record) → slice_get records index ≡ Some r
    → place ≡ get_or (first_places tree records) index place → place ≡ first_place tree r.op
placed tree records index place r there read =
    read ∙ get_or_from_slice_get (first_places tree records) index (first_place tree r.op) place
    (slice_get-map (λ r. first_place tree r.op) records index ∙ ap (option_map (λ r. first_place tree r.op)) there)

pub returns : goal.returns
returns c r there =
    let located = c.self.inside.located.now in
    let kernel = c.self.inside.settled.now.kernel in
    let places : located.places.items ≡ first_places c.args.self.now.tree c.args.self.now.records =
    subst (λ (case : CaseValue). located.places.items ≡ first_places case.tree case.records) c.self.view_is
    (located.are_first ∙ sym (first_places_seen kernel.effort kernel.abi located.trace located.tree)) in
    c.place.ensures
    ∙ placed c.args.self.now.tree c.args.self.now.records c.args.index c.index.result.now r there
    (subst (λ (all : List Place). c.index.result.now ≡ get_or all c.args.index c.index.result.now) places c.index.ensures)
