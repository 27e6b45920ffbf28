-- JSON values by what is in them.
-- Source: RFC 8259, sections 4 and 5.
use Rattle.std.specs.Prelude.{ℕ, List, [], ◌∷◌, ◌++◌, map, decimal, Option, Some, None, Vec}
use Rattle.std.specs.Global.{Global}
use Rattle.json.specs.Json.{Json, null, number, array, object, Items, no_items, item, Members, no_members, member}
use Rattle.json.specs.Print.{print}
use Rattle.json.specs.Tree.{json_tokens}

abbrev pub items_of : List Json → Items
items_of [] = no_items
items_of (value ∷ others) = item value (items_of others)

abbrev pub members_of : List (List ℕ × Json) → Members
members_of [] = no_members
members_of (named ∷ others) = member named.0 named.1 (members_of others)

abbrev pub object_of : List (List ℕ × Json) → Json
object_of members = object (members_of members)

abbrev pub whole_json : ℕ → Json
whole_json n = number (decimal n)

-- null where there is nothing
abbrev pub option_json : {X : Type 0} → (X → Json) → Option X → Json
option_json of None = null
option_json of (Some x) = of x

abbrev pub list_json : {X : Type 0} → (X → Json) → Vec X Global → Json
list_json of list = array (items_of (map of list.items))

-- a line: a value, and a line feed
abbrev pub line_of : Json → List ℕ
line_of value = print (json_tokens value) ++ 10 ∷ []
