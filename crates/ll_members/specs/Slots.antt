-- The members of a line's value, each in the slot of its name: the rights that a list of names stands for, what is left
-- behind a value that is passed over, and what the slots show.
-- Source: docs/FORMATS.md, "The tree file" and "The trace file"; the slots are the code's own.
use Rattle.std.specs.Prelude.{◌≡◌, ℕ, List, [], ◌∷◌, Bool, true, Option, Some, None, codes, get_or, length, option_and_then, ok_or, false, Result, Ok, Err, if◌then◌else◌}
use Rattle.std.specs.List.{find, position_or_len}
use Rattle.std.specs.Str.{bytes_eq}
use Rattle.json.specs.Token.{Token}
use Rattle.json.specs.Json as json
use Rattle.json.specs.Find.{later_or, get, get_member, as_str, as_number, as_bool, as_array}
use Rattle.serde_json.specs.Data.{Data}
use Rattle.serde_json.specs.Read.{number_of}
use Rattle.serde_json.specs.Find.{as_u64}
use Rattle.ll_rights.specs.Rights as files
use Rattle.ll_rights.specs.NetRights as network
use Rattle.ll_lines.specs.Members.{value_at}
use Rattle.ll_lines.specs.Values.{data_of, is_in_range, are_in_range, have_range}
use Rattle.ll_lines.specs.declared.fault.Cause.{Cause}
use Rattle.ll_lines.specs.declared.fault.Cause.TheVariants.{Field}
use Rattle.ll_members.specs.declared.rights.Rights.{Rights}
use Rattle.ll_members.specs.declared.first.First.{First}
use Rattle.ll_members.specs.declared.first.First.TheVariants.{Whole, Array, Object}
use Rattle.ll_members.specs.declared.row.Name.{Name}
use Rattle.ll_members.specs.declared.row.Name.TheVariants.{Op, Pid, Child, Rs, Fs, Net, Path, From, To, Port, Fd, Mode, Create, Trunc, Kind, Exchange, Nnp, Admin, Driver}
use Rattle.ll_members.specs.declared.row.Slot.{Slot}
use Rattle.ll_members.specs.declared.row.Slot.TheVariants.{Missing, Text, Number, Truth, Names, Other}
use Rattle.ll_members.specs.declared.row.Members.{Members}
use Rattle.ll_members.specs.Rights.{with_fs, with_net}

-- ---- the rights for files and those for the network, which the name of a list tells apart later

-- both sets with the right that a name stands for
abbrev pub with_rights : Rights → List ℕ → Rights
with_rights rights name = record { fs = with_fs rights.fs name; net = with_net rights.net name }

-- no right
abbrev pub no_rights : Rights
no_rights = record { fs = files.no_right; net = network.no_right }

-- ---- passing over values: what is left behind a value, where every number in it is in range

-- what is left behind what was parsed, where it passes a test
abbrev pub behind : {A : Type 0} → (A → Bool) → Option (A × List Token) → Option (List Token)
behind test None = None
behind test (Some p) = if test p.0 then Some p.1 else None

abbrev pub behind_value : ℕ → List Token → Option (List Token)
behind_value depth ts = behind is_in_range (json.value depth ts)

abbrev pub behind_items : ℕ → List Token → Option (List Token)
behind_items depth ts = behind are_in_range (json.items (json.value depth) (length ts) ts)

abbrev pub behind_members : ℕ → List Token → Option (List Token)
behind_members depth ts = behind have_range (json.members (json.value depth) (length ts) ts)

-- ---- the slots

-- how a name is spelt
unfoldable pub spelt : Name → List ℕ
spelt Op = codes "op"
spelt Pid = codes "pid"
spelt Path = codes "path"
spelt Fd = codes "fd"
spelt Mode = codes "mode"
spelt Rs = codes "rs"
spelt Fs = codes "fs"
spelt Net = codes "net"
spelt Port = codes "port"
spelt Child = codes "child"
spelt From = codes "from"
spelt To = codes "to"
spelt Create = codes "create"
spelt Trunc = codes "trunc"
spelt Kind = codes "kind"
spelt Exchange = codes "exchange"
spelt Nnp = codes "nnp"
spelt Admin = codes "admin"
spelt Driver = codes "driver"

-- the names, in the order of their slots
unfoldable pub names : List Name
names =
    Op ∷ Pid ∷ Path ∷ Fd ∷ Mode ∷ Rs ∷ Fs ∷ Net ∷ Port ∷ Child ∷ From ∷ To ∷ Create ∷ Trunc ∷ Kind ∷ Exchange ∷ Nnp ∷ Admin ∷ Driver ∷ []

-- the name that a key is
unfoldable pub named : List ℕ → Option Name
named key = find (λ name. bytes_eq key (spelt name)) names

-- the number of a name's slot
unfoldable pub slot_of : Name → ℕ
slot_of name = position_or_len (λ other. bytes_eq (spelt other) (spelt name)) names

abbrev pub slot_at : Members → Name → Slot
slot_at members name = get_or members.slots (slot_of name) Missing

-- rights, and what one more value of a list stands for, by what its text is
abbrev pub with_text : Option Rights → Result (List ℕ) Cause → Option Rights
with_text None text = None
with_text (Some rights) (Err cause) = None
with_text (Some rights) (Ok name) = Some (with_rights rights name)

-- rights, and what the values of a list stand for
abbrev pub rights_of : Option Rights → json.Items → Option Rights
rights_of rights json.no_items = rights
rights_of rights (json.item value others) = rights_of (with_text rights (ok_or (as_str value) Field)) others

-- the same of a list that was parsed, and what is left behind it, where every number in it is in range
abbrev pub folded : Option Rights → Option (json.Items × List Token) → Option (Option Rights × List Token)
folded rights None = None
folded rights (Some p) = if are_in_range p.0 then Some (rights_of rights p.0, p.1) else None

-- a value that is no text, no number, neither true nor false, and no list
pub record IsOther (value : json.Json) : Type 0 where
  pub no_text : as_str value ≡ None
  pub no_number : as_number value ≡ None
  pub no_truth : as_bool value ≡ None
  pub no_list : as_array value ≡ None

-- a slot shows what there is of a member
abbrev pub Shows : Slot → Option json.Json → Type 0
Shows Missing r = r ≡ None
Shows (Text text) r = r ≡ Some (json.string text.now)
Shows (Number n) r = (text : List ℕ) × (r ≡ Some (json.number text)) × (n ≡ option_and_then as_u64 (number_of text))
Shows (Truth b) r = r ≡ Some (json.boolean b)
Shows (Names rights) r = (items : json.Items) × (r ≡ Some (json.array items)) × (rights ≡ rights_of (Some no_rights) items)
Shows Other r = (value : json.Json) × (r ≡ Some value) × IsOther value

-- what a slot was read from: the next value of the tokens
pub record IsReadFrom (depth : ℕ) (old new : List Token) (slot : Slot) : Type 0 where
  pub value : json.Json
  pub is : json.value depth old ≡ Some (value, new)
  pub fits : is_in_range value ≡ true
  pub shows : Shows slot (Some value)

-- the tokens begin with this: with a value of one token, which a slot shows, or with a bracket
pub record IsWhole (old new : List Token) (slot : Slot) : Type 0 where
  pub value : json.Json
  pub is : (depth : ℕ) → json.value depth old ≡ Some (value, new)
  pub fits : is_in_range value ≡ true
  pub shows : Shows slot (Some value)
  pub no_members : (name : List ℕ) → get name value ≡ None

abbrev pub Begin : First → List Token → List Token → Type 0
Begin (Whole slot) old new = IsWhole old new slot
Begin Array old new = old ≡ Token.begin_array ∷ new
Begin Object old new = old ≡ Token.begin_object ∷ new

-- no value comes next, however deep it may nest
pub record BeginNoValue (tokens : List Token) : Type 0 where
  pub none : (depth : ℕ) → behind_value depth tokens ≡ None

-- a member more shows in the slot of its name
abbrev pub ShowOneMore : List ℕ → json.Json → Members → Members → Type 0
ShowOneMore key value before after = (name : Name) (r : Option json.Json) → Shows (slot_at before name) r
    → Shows (slot_at after name) (later_or (if bytes_eq key (spelt name) then Some value else None) r)

-- whatever value the slot shows, it is a member more under this key
pub record Keeps (key : List ℕ) (slot : Slot) (before after : Members) : Type 0 where
  pub shows : (value : json.Json) → Shows slot (Some value) → ShowOneMore key value before after

-- each slot shows the last member of its name
abbrev pub ShowMembers : Members → json.Members → Type 0
ShowMembers members entries = (name : Name) → Shows (slot_at members name) (get_member (spelt name) entries)

pub record AreReadFrom (depth : ℕ) (old new : List Token) (members : Members) : Type 0 where
  pub entries : json.Members
  pub are : json.members (json.value depth) (length old) old ≡ Some (entries, new)
  pub fit : have_range entries ≡ true
  pub shown : ShowMembers members entries

abbrev pub AreMissing : Members → Type 0
AreMissing members = (name : Name) → slot_at members name ≡ Missing

-- each slot shows the member of a value that has its name
abbrev pub Stands : Members → json.Json → Type 0
Stands members value = (name : Name) → Shows (slot_at members name) (get (spelt name) value)

-- the next value of the tokens, whose members show
pub record IsValue (old new : List Token) (members : Members) : Type 0 where
  pub value : json.Json
  pub is : json.value 127 old ≡ Some (value, new)
  pub fits : is_in_range value ≡ true
  pub stands : Stands members value

-- the slots hold the members of this value
pub record Hold (members : Members) (value : Data) : Type 0 where
  pub read : json.Json
  pub is : value ≡ data_of read
  pub stands : Stands members read

-- what is read of the slots, and of any value whose members they hold
abbrev pub ReadsOf : {A : Type 0} → Members → (Result A Cause → Type 0) → (Data → Result A Cause) → Type 0
ReadsOf members Is at = (value : Data) → Hold members value → Is (at value)

-- the value of a line, whose members the slots hold
pub record IsLine (line : List ℕ) (members : Members) : Type 0 where
  pub value : Data
  pub is : value_at line ≡ Ok value
  pub hold : Hold members value

-- what a slot reads as: a text, a number, true or false, a flag, rights

abbrev pub text_from : Slot → Result (List ℕ) Cause
text_from (Text text) = Ok text.now
text_from slot = Err Field

abbrev pub number_from : Slot → Result ℕ Cause
number_from (Number n) = ok_or n Field
number_from slot = Err Field

abbrev pub truth_from : Slot → Result Bool Cause
truth_from (Truth b) = Ok b
truth_from slot = Err Field

abbrev pub flag_from : Slot → Result Bool Cause
flag_from Missing = Ok false
flag_from slot = truth_from slot

abbrev pub rights_from : Slot → Result Rights Cause
rights_from Missing = Ok no_rights
rights_from (Names rights) = ok_or rights Field
rights_from slot = Err Field

-- the rights for files alone, or those for the network
abbrev pub part_of : {Set : Type 0} → (Rights → Set) → Result Rights Cause → Result Set Cause
part_of part (Ok rights) = Ok (part rights)
part_of part (Err cause) = Err cause
