-- The value of a line, and the members of an object: each is there in its form, or the line is at fault. What a reader
-- answers is the value that is there, or the first cause of a fault.
-- Source: docs/FORMATS.md, "Lines" and "What does not read".
use Rattle.std.specs.Prelude.{ℕ, Bool, false, List, Option, Some, None, ok_or, option_and_then, Result, Ok, Err, if◌then◌else◌}
use Rattle.std.specs.Str.{is_utf8}
use Rattle.serde_json.specs.Data.{Data, Items, no_items, item}
use Rattle.serde_json.specs.Read.{read}
use Rattle.serde_json.specs.Find.{get, as_str, as_number, as_u64, as_bool, as_array}
use Rattle.ll_lines.specs.declared.fault.Cause.{Cause}
use Rattle.ll_lines.specs.declared.fault.Cause.TheVariants.{Json, Field}

-- the next step of a reading, where no earlier one has a fault
infixl 10 ◌>>=◌
abbrev pub ◌>>=◌ : {A B : Type 0} → Result A Cause → (A → Result B Cause) → Result B Cause
(Ok x) >>= f = f x
(Err cause) >>= f = Err cause

-- the one JSON value that the bytes are
abbrev pub value_of : List ℕ → Option Data
value_of line = if is_utf8 line then read line else None

unfoldable pub value_at : List ℕ → Result Data Cause
value_at line = ok_or (value_of line) Json

-- a text
unfoldable pub text_at : List ℕ → Data → Result (List ℕ) Cause
text_at name value = ok_or (option_and_then as_str (get name value)) Field

-- a whole number below 2 ^ 64
unfoldable pub number_at : List ℕ → Data → Result ℕ Cause
number_at name value = ok_or (option_and_then as_u64 (option_and_then as_number (get name value))) Field

-- true or false
unfoldable pub truth_at : List ℕ → Data → Result Bool Cause
truth_at name value = ok_or (option_and_then as_bool (get name value)) Field

-- true or false, and false where the member is missing
abbrev pub flag_in : Option Data → Result Bool Cause
flag_in None = Ok false
flag_in (Some value) = ok_or (as_bool value) Field

unfoldable pub flag_at : List ℕ → Data → Result Bool Cause
flag_at name value = flag_in (get name value)

-- the values of a list, and none where the member is missing
abbrev pub items_in : Option Data → Result Items Cause
items_in None = Ok no_items
items_in (Some value) = ok_or (as_array value) Field

unfoldable pub items_at : List ℕ → Data → Result Items Cause
items_at name value = items_in (get name value)

-- a text in a list
unfoldable pub text_in : Data → Result (List ℕ) Cause
text_in value = ok_or (as_str value) Field

-- the texts of a list, put together one after another
unfoldable pub fold_texts : {Whole : Type 0} → (Whole → List ℕ → Whole) → Whole → Items → Result Whole Cause
fold_texts add whole no_items = Ok whole
fold_texts add whole (item value others) = do
  text ← text_in value
  fold_texts add (add whole text) others
