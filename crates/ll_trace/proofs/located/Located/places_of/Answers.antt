-- The process's places stand at its number.
use Rattle.std.proofs.Common.{◌≡◌, ◌∙◌, [], ap, arith, get_or, length, sym}
use Rattle.std.proofs.lemmas.List.{get_or-map, length-map}
use Rattle.std.proofs.lemmas.List.FromFn.{get_or-map-range_with_len, length-map-range_with_len}
use Rattle.ll_trace.specs.declared.located.Located.{Located}
use Rattle.ll_trace.specs.FirstPlaces.{first_places, own_of}
use Rattle.ll_trace.specs.Processes.{process_count}
use Rattle.ll_trace.proofs.located.Located.places_of.Goals as goal

as_many : (located : Located) → length located.own.items ≡ process_count located.trace
as_many located =
    sym (length-map located.own.items (λ own. own.items)) ∙ ap length located.are_own
    ∙ length-map-range_with_len (own_of (first_places located.tree located.trace) located.trace) 0 (process_count located.trace)

pub index-own-requires : goal.index-own-requires
index-own-requires c = omega (arith, c.requires, as_many c.args.self.now)

pub returns : goal.returns
returns c =
    let located = c.args.self.now in
    let p = c.args.process.0 in
    let own = c.index-own.result.now in
    c.as_slice.ensures.value ∙ ap (λ own. own.items) c.index-own.ensures
    ∙ sym (get_or-map (λ own. own.items) located.own.items p own [] (omega (arith, c.requires, as_many located)))
    ∙ ap (λ all. get_or all p []) located.are_own
    ∙ get_or-map-range_with_len (own_of (first_places located.tree located.trace) located.trace) 0 (process_count located.trace) p p [] c.requires (omega arith)
