-- The values of a list, read one after another.
-- Source: docs/FORMATS.md, "Lines" and "What does not read".
use Rattle.std.specs.Prelude.{ℕ, ◌<◌, ◌^◌, Bool, nat_lt, List, [], ◌∷◌, ◌++◌, length, option_and_then, ok_or, Result, Ok, Err, if◌then◌else◌}
use Rattle.std.specs.Fn.{Shared, AnyResult}
use denote.Ref.{Bor}
use Rattle.serde_json.specs.Data.{Data, Items, no_items, item}
use Rattle.serde_json.specs.View.{view}
use Rattle.serde_json.specs.declared.value.Value.{Value}
use Rattle.serde_json.specs.Find.{as_bool, as_number, as_u64}
use Rattle.ll_lines.specs.declared.fault.Cause.{Cause}
use Rattle.ll_lines.specs.declared.fault.Cause.TheVariants.{Field}
use Rattle.ll_lines.specs.Readers.{Gives}
use Rattle.ll_lines.specs.Members.{items_at, ◌>>=◌}

-- each value taken in after those before it
unfoldable pub fold_items : {Whole : Type 0} → (Whole → Data → Result Whole Cause) → Whole → Items → Result Whole Cause
fold_items add whole no_items = Ok whole
fold_items add whole (item value others) = do
  more ← add whole value
  fold_items add more others

-- one more behind so many before it
unfoldable pub one_more : {X : Type 0} → (ℕ → Data → Result X Cause) → List X → Data → Result (List X) Cause
one_more read earlier value = do
  x ← read (length earlier) value
  Ok (earlier ++ x ∷ [])

-- the values of a member that is a list, each read behind so many
abbrev pub list_at : {X : Type 0} → List ℕ → (ℕ → Data → Result X Cause) → Data → Result (List X) Cause
list_at name read value = do
  items ← items_at name value
  fold_items (one_more read) [] items

-- a number in a list, below a bound
unfoldable pub place_in : ℕ → Data → Result ℕ Cause
place_in bound value = do
  number ← ok_or (option_and_then as_u64 (as_number value)) Field
  if nat_lt number bound then Ok number else Err Field

-- true or false in a list
unfoldable pub truth_in : Data → Result Bool Cause
truth_in value = ok_or (as_bool value) Field

-- a closure reads a value behind others as a function says: what it read, seen by view, is what is read, unless memory ran out
abbrev pub ReadsAs : {F T Seen : Type 0} → Shared F (Bor (List T) × (Bor Value × Unit {0})) (Result T Cause) → F → (T → Seen) → (ℕ → Data → Result Seen Cause) → Type 0
ReadsAs {F} {T} g read seen reads =
    (others : Bor (List T)) → length others.now < 2 ^ 64 → (value : Bor Value)
    → AnyResult g read (others, (value, tt)) (λ result. Gives seen result (reads (length others.now) (view value.now)))
