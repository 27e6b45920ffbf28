-- Where the path leads that a call names, or the first of its two.
-- Source: docs/FORMATS.md, "The trace file".
use Rattle.std.specs.Prelude.{List, ℕ, [], ◌∷◌, get_or, map}
use Rattle.std.specs.List.{range_with_len}
use Rattle.ll_tree.specs.declared.place.Place.{Place}
use Rattle.ll_tree.specs.declared.place.Place.TheVariants.{Nowhere}
use Rattle.ll_tree.specs.Trees.{Entry, place}
use Rattle.ll_trace.specs.declared.op.Op.{Op}
use Rattle.ll_trace.specs.declared.op.Record.{Record}
unfoldable pub use Rattle.ll_trace.specs.Operations.{paths_of}
use Rattle.ll_trace.specs.Processes.{own_records, process_count}

abbrev pub place_of_first : List Entry → List (List ℕ) → Place
place_of_first tree [] = Nowhere
place_of_first tree (path ∷ others) = place tree path

unfoldable pub first_place : List Entry → Op → Place
first_place tree op = place_of_first tree (paths_of op)

-- the same of each record
abbrev pub first_places : List Entry → List Record → List Place
first_places tree records = map (λ r. first_place tree r.op) records

-- of the places of all records, those of a process's own records, in their order
abbrev pub own_of : List Place → List Record → ℕ → List Place
own_of places records process = map (λ index. get_or places index Nowhere) (own_records records process)

-- those of each process, by its number
abbrev pub by_process : List Record → List Place → List (List Place)
by_process records places = map (own_of places records) (range_with_len 0 (process_count records))
