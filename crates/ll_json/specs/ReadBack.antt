-- When the text of a JSON value is read as that value again.
-- Source: RFC 8259; what is read is what `serde_json` reads.
use Rattle.std.specs.Prelude.{◌≡◌, ◌<◌, ◌≤◌, ◌^◌, ℕ, List, [], ◌∷◌, Some, decimal, ⊤}
use Rattle.json.specs.Json.{Json, null, boolean, number, string, array, object, Items, no_items, item, Members, no_members, member}
use Rattle.json.specs.Print.{print}
use Rattle.json.specs.Tree.{json_tokens}
use Rattle.serde_json.specs.Data.{Data}
use Rattle.serde_json.specs.Read.{of_json, read}

-- each number in a value is whole, and fits 64 bits
abbrev mutual
  pub FitsWords : Json → Type 0
  FitsWords null = ⊤
  FitsWords (boolean b) = ⊤
  FitsWords (number text) = (n : ℕ) × (n < 2 ^ 64) × (text ≡ decimal n)
  FitsWords (string s) = ⊤
  FitsWords (array js) = ItemsFitWords js
  FitsWords (object ms) = MembersFitWords ms

  pub ItemsFitWords : Items → Type 0
  ItemsFitWords no_items = ⊤
  ItemsFitWords (item j js) = FitsWords j × ItemsFitWords js

  pub MembersFitWords : Members → Type 0
  MembersFitWords no_members = ⊤
  MembersFitWords (member k j ms) = FitsWords j × MembersFitWords ms

-- no control character is in a text, so no end of a line
abbrev pub IsVisible : List ℕ → Type 0
IsVisible [] = ⊤
IsVisible (byte ∷ more) = (32 ≤ byte) × IsVisible more

-- what is printed of a value is read as what the value stands for, and is on one line
pub record ReadsBack (value : Json) : Type 0 where
  pub seen : Data
  pub meant : of_json value ≡ Some seen
  pub read_as : read (print (json_tokens value)) ≡ Some seen
  pub visible : IsVisible (print (json_tokens value))
