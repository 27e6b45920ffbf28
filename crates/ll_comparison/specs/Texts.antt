-- What is found of two policies, as JSON.
-- Source: landaudit-rules(1).
use Rattle.std.specs.Prelude.{ℕ, List, [], ◌∷◌, codes, Vec}
use Rattle.std.specs.Borrow.{Bor}
use Rattle.std.specs.Global.{Global}
use Rattle.json.specs.Json.{Json}
use Rattle.ll_policy.specs.declared.gaining.Gain.{Gain}
use Rattle.ll_policy.specs.declared.moving.MovedTo.{MovedTo}
use Rattle.ll_policy.specs.declared.moving.Movers.{Movers}
use Rattle.ll_policy.specs.declared.regions.Passing.{Passing}
use Rattle.ll_values.specs.Texts.{object_of, whole_json, option_json, list_json}
use Rattle.ll_comparison.specs.declared.found.Found.{Found}
use Rattle.ll_comparison.specs.declared.found.Lost.{Lost}

-- a member, by what its value is as JSON
abbrev pub named : {X : Type 0} → (X → Json) → Bor (List ℕ) × Bor X → List ℕ × Json
named of member = (member.0.now, of member.1.now)

-- objects or ports by their numbers
abbrev pub numbers_json : Vec ℕ Global → Json
numbers_json = list_json whole_json

abbrev pub gain_json : Gain → Json
gain_json gain = object_of ((codes "directory", whole_json gain.directory) ∷ (codes "chain", numbers_json gain.chain) ∷ [])

-- what is moved: directories beneath which objects are, and objects themselves
abbrev pub movers_json : Movers → Json
movers_json movers = object_of ((codes "beneath", numbers_json movers.beneath) ∷ (codes "themselves", numbers_json movers.themselves) ∷ [])

-- what each policy alone lets be moved to a region
abbrev pub moved_to_json : MovedTo → Json
moved_to_json moved = object_of ((codes "new", movers_json moved.new) ∷ (codes "old", movers_json moved.old) ∷ [])

-- the regions or ports under both policies, under the new one alone, and under the old one alone
abbrev pub passing_json : Passing → Json
passing_json found = object_of ((codes "both", numbers_json found.both) ∷ (codes "new", numbers_json found.new) ∷ (codes "old", numbers_json found.old) ∷ [])

-- the old layers with a restriction that is lost
abbrev pub lost_json : Lost → Json
lost_json lost = object_of (
    (codes "mounts", option_json whole_json lost.mounts)
    ∷ (codes "abstract_unix_socket", option_json whole_json lost.abstract_unix_socket)
    ∷ (codes "signal", option_json whole_json lost.signal)
    ∷ [])

-- of each right, what is found of each old layer; of each kind of objects, what is moved to each region
abbrev pub found_json : Found → Json
found_json found = object_of (
    (codes "regions", list_json passing_json found.regions)
    ∷ (codes "objects", list_json (list_json (option_json numbers_json)) found.objects)
    ∷ (codes "single", list_json (list_json numbers_json) found.single)
    ∷ (codes "gains", list_json (list_json (option_json gain_json)) found.gains)
    ∷ (codes "moves", list_json (list_json (option_json moved_to_json)) found.moves)
    ∷ (codes "ports", list_json passing_json found.ports)
    ∷ (codes "lost", lost_json found.lost)
    ∷ (codes "spare_layers", whole_json found.spare_layers)
    ∷ [])
