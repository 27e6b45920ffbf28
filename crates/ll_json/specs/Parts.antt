-- JSON values by lists of what is in them.
-- Source: RFC 8259, sections 4 and 5.
use Rattle.std.specs.Prelude.{ℕ, List, [], ◌∷◌, ◌++◌, codes, decimal}
use Rattle.json.specs.Json.{Json, number, array, object, Items, no_items, item, Members, no_members, member}
use Rattle.json.specs.Token as token
use Rattle.json.specs.Token.{Token}
use Rattle.json.specs.Print.{print}
use Rattle.json.specs.Tree.{json_tokens}

-- a member's name and its value
abbrev pub Named : Type 0
Named = List ℕ × Json

abbrev pub items_of : List Json → Items
items_of [] = no_items
items_of (value ∷ more) = item value (items_of more)

abbrev pub members_of : List Named → Members
members_of [] = no_members
members_of (named ∷ more) = member named.0 named.1 (members_of more)

-- an array of these values
abbrev pub array_of : List Json → Json
array_of values = array (items_of values)

-- an object of these members
abbrev pub object_of : List Named → Json
object_of members = object (members_of members)

-- a whole number
abbrev pub whole : ℕ → Json
whole n = number (decimal n)

-- ---- the tokens of values, and of members, without the brackets round them

abbrev pub values_tokens : List Json → List Token
values_tokens [] = []
values_tokens (value ∷ more) = json_tokens value ++ values_tokens more

abbrev pub named_tokens : List Named → List Token
named_tokens [] = []
named_tokens (named ∷ more) = token.key named.0 ∷ (json_tokens named.1 ++ named_tokens more)

-- ---- a line: a value, and a line feed

abbrev pub line_text : Json → List ℕ
line_text value = print (json_tokens value) ++ codes "\n"
