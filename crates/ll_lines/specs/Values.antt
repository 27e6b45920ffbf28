-- The data of serde_json that a value of json is. A number out of range has none, and counts as null here.
use Rattle.std.specs.Prelude.{ℕ, ◌^◌, ◌&&◌, List, Bool, true, false, nat_lt, nat_le, Option, Some, None, option_and_then, is_some}
use Rattle.fast_float.specs.Text.{Parts, digits_of}
use Rattle.json.specs.Json as json
use Rattle.json.specs.Lex.{tokens}
use Rattle.serde_json.specs.Data.{Num, Data, null, boolean, number, string, array, object, Items, no_items, item, Members, no_members, put}
use Rattle.serde_json.specs.Read.{is_integer, number_of, max_depth}

abbrev pub number_or_null : Option Num → Data
number_or_null None = null
number_or_null (Some n) = number n

abbrev mutual
  pub data_of : json.Json → Data
  data_of json.null = null
  data_of (json.boolean b) = boolean b
  data_of (json.number text) = number_or_null (number_of text)
  data_of (json.string text) = string text
  data_of (json.array values) = array (data_of_items values)
  data_of (json.object entries) = object (data_of_members entries no_members)

  pub data_of_items : json.Items → Items
  data_of_items json.no_items = no_items
  data_of_items (json.item value others) = item (data_of value) (data_of_items others)

  -- the members go in one after another, so the last value of a name stays
  pub data_of_members : json.Members → Members → Members
  data_of_members json.no_members earlier = earlier
  data_of_members (json.member name value others) earlier = data_of_members others (put name (data_of value) earlier)

-- what is written is a whole number of 64 bits, below 0 where it has a minus
abbrev pub is_whole : Bool → Parts → Bool
is_whole false p = is_integer p && nat_lt (digits_of p) (2 ^ 64)
is_whole true p = is_integer p && nat_lt 0 (digits_of p) && nat_le (digits_of p) (2 ^ 63)

-- every number has a value
abbrev mutual
  pub is_in_range : json.Json → Bool
  is_in_range json.null = true
  is_in_range (json.boolean b) = true
  is_in_range (json.number text) = is_some (number_of text)
  is_in_range (json.string text) = true
  is_in_range (json.array values) = are_in_range values
  is_in_range (json.object entries) = have_range entries

  pub are_in_range : json.Items → Bool
  are_in_range json.no_items = true
  are_in_range (json.item value others) = is_in_range value && are_in_range others

  pub have_range : json.Members → Bool
  have_range json.no_members = true
  have_range (json.member name value others) = is_in_range value && have_range others

-- the one value that a text is, nested as deep as serde_json reads
abbrev pub parsed : List ℕ → Option json.Json
parsed text = option_and_then (λ p. json.if_last p.0 p.1) (json.value max_depth (tokens text))
