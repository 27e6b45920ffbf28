-- What stands at a position of a process's places.
use Rattle.std.proofs.Common.{◌≡◌, ◌<◌, ◌∙◌, ℕ, Some, ap, get_or, length}
use Rattle.std.specs.Prelude.{option_map, slice_get}
use Rattle.std.proofs.lemmas.List.{get_or-map}
use Rattle.std.proofs.lemmas.Option.{get_or_from_slice_get, slice_get-map}
use Rattle.ll_tree.specs.declared.place.Place.{Place}
use Rattle.ll_tree.specs.declared.place.Place.TheVariants.{Nowhere}
use Rattle.ll_trace.specs.FirstPlaces.{first_place, first_places, own_of}
use Rattle.ll_trace.specs.Processes.{own_records}
use Rattle.ll_process.specs.Cases.{CaseValue}
use Rattle.ll_process.specs.Own.{IsFirstPlace}

module _ (cv : CaseValue) (process : ℕ) where
  -- the place at a position is that of the record there
  pub placed_at : (at index : ℕ) → at < length (own_records cv.records process) → slice_get (own_records cv.records process) at ≡ Some index
      → (d : Place) → IsFirstPlace cv index (get_or (own_of (first_places cv.tree cv.records) cv.records process) at d)
  placed_at at index within there d r here =
      get_or-map (λ index. get_or (first_places cv.tree cv.records) index Nowhere) (own_records cv.records process) at index d within
      ∙ ap (λ i. get_or (first_places cv.tree cv.records) i Nowhere) (get_or_from_slice_get (own_records cv.records process) at index index there)
      ∙ get_or_from_slice_get (first_places cv.tree cv.records) index (first_place cv.tree r.op) Nowhere
      (slice_get-map (λ r. first_place cv.tree r.op) cv.records index ∙ ap (option_map (λ r. first_place cv.tree r.op)) here)
