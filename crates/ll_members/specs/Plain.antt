-- A line that is spelt plainly: its parts are the printed forms of JSON values, and what stands behind each is its rest.
use Rattle.std.specs.Prelude.{◌≡◌, ◌≤◌, ◌==◌, ◌&&◌, ℕ, nat_le, not, Bool, List, [], ◌∷◌, ◌++◌, true, false, Some, fold, option_and_then, ⊤}
use Rattle.std.specs.List.{list_all}
use Rattle.json.specs.Json as json
use Rattle.json.specs.Print as printed
use Rattle.json.specs.Print.{print, print_from, quoted}
use Rattle.json.specs.Tree.{json_tokens, items_tokens, depth, HasNumbers}
use Rattle.serde_json.specs.Find.{as_u64}
use Rattle.serde_json.specs.Read.{number_of}
use Rattle.ll_lines.specs.Values.{is_in_range}
use Rattle.ll_members.specs.Slots.{Shows, ShowMembers, ShowOneMore, no_rights, with_rights}
use Rattle.ll_members.specs.declared.rights.Rights.{Rights}
use Rattle.ll_members.specs.declared.row.Members.{Members}
use Rattle.ll_members.specs.declared.row.Slot.{Slot}

-- a byte that is neither a control character nor a backslash, so that a text has to escape it only if it is a quote
-- Source: RFC 8259, section 7.
abbrev pub is_unescaped : ℕ → Bool
is_unescaped byte = nat_le 32 byte && not (byte == 92)

abbrev pub IsUnescaped : List ℕ → Type 0
IsUnescaped line = list_all is_unescaped line ≡ true

-- digits that are a number
pub record BeginsWithNumber (line : List ℕ) (number : ℕ) (rest : List ℕ) : Type 0 where
  pub digits : List ℕ
  pub is : line ≡ digits ++ rest
  pub valid : printed.IsNumber digits
  pub value : Some number ≡ option_and_then as_u64 (number_of digits)

-- the values of a list of texts
abbrev pub items_of : List (List ℕ) → json.Items
items_of [] = json.no_items
items_of (text ∷ texts) = json.item (json.string text) (items_of texts)

-- a list of texts behind its first bracket, and the rights that the texts stand for as names
pub record BeginsWithTexts (line : List ℕ) (rights : Rights) (rest : List ℕ) : Type 0 where
  pub texts : List (List ℕ)
  pub are : line ≡ print_from false (items_tokens (items_of texts)) ++ rest
  pub named : rights ≡ fold with_rights no_rights texts

-- a value that reads back from its printed form, wherever it stands in an object of a line
pub record ReadsBack (value : json.Json) : Type 0 where
  pub shallow : depth value ≤ 1
  pub numbers : HasNumbers value
  pub fits : is_in_range value ≡ true

abbrev pub ReadBack : json.Members → Type 0
ReadBack json.no_members = ⊤
ReadBack (json.member key value others) = ReadsBack value × ReadBack others

-- a value that a slot shows
pub record BeginsWithValue (line : List ℕ) (slot : Slot) (rest : List ℕ) : Type 0 where
  pub value : json.Json
  pub is : line ≡ print (json_tokens value) ++ rest
  pub back : ReadsBack value
  pub shows : Shows slot (Some value)

-- a member, which shows in the slot of its name
pub record BeginsWithMember (line : List ℕ) (before after : Members) (rest : List ℕ) : Type 0 where
  pub key : List ℕ
  pub value : json.Json
  pub is : line ≡ quoted key ++ (58 ∷ (print (json_tokens value) ++ rest))
  pub back : ReadsBack value
  pub shown : ShowOneMore key value before after

-- an object, whose members show in their slots
pub record IsObject (line : List ℕ) (members : Members) : Type 0 where
  pub entries : json.Members
  pub is : line ≡ print (json_tokens (json.object entries))
  pub back : ReadBack entries
  pub shown : ShowMembers members entries
