-- A line by its value.
use Rattle.std.proofs.Common.{◌≡◌, ℕ, List, [], ◌∷◌, Option, Some, None, Ok, Err, refl}
use Rattle.std.specs.Prelude.{ok_or, IsUtf8}
use Rattle.json.specs.Token.{Token}
use Rattle.json.specs.Json as json
use Rattle.json.specs.Lex.{tokens}
use Rattle.ll_lines.specs.declared.fault.Cause.TheVariants.{Json}
use Rattle.ll_lines.specs.Members.{value_at}
use Rattle.ll_lines.specs.Values.{parsed, data_of, is_in_range}
use Rattle.ll_members.specs.Slots.{IsValue, IsLine, behind, behind_value}
use Rattle.ll_members.specs.declared.row.Members.{Members}
use Rattle.ll_lines.proofs.Values.{in_range, out_of_range, parse_fails}
use Rattle.ll_members.proofs.WalkLemmas.{is_unfit}
use Rattle.ll_members.proofs.FirstLemmas.{no_value, no_array, no_object, whole_stands, array_stands, object_stands}

-- the value of a line, by the token that it begins with
pub ruleset values_taken = (no_value, no_array, no_object, whole_stands, array_stands, object_stands)

pub line_read : (line : List ℕ) (members : Members) → IsUtf8 line → IsValue (tokens line) [] members → IsLine line members
line_read line members utf8 read =
    let parses : ok_or (parsed line) Json ≡ Ok read.value = rw read.is refl in
    record {
      value = data_of read.value;
      is = in_range line read.value utf8 parses read.fits;
      hold = record { read = read.value; is = refl; stands = read.stands };
    }

pub line_goes_on : (line : List ℕ) (t : Token) (new : List Token) (members : Members) → IsUtf8 line → IsValue (tokens line) (t ∷ new) members → value_at line ≡
    Err Json
line_goes_on line t new members utf8 read =
    let parses : ok_or (parsed line) Json ≡ Err Json = rw read.is refl in
    parse_fails line Json utf8 parses

fails_if : (line : List ℕ) (r : Option (json.Json × List Token)) → IsUtf8 line → json.value 127 (tokens line) ≡ r → behind is_in_range r ≡ None → value_at line
    ≡ Err Json
fails_if line None utf8 is none =
    let parses : ok_or (parsed line) Json ≡ Err Json = rw is refl in
    parse_fails line Json utf8 parses
fails_if line (Some (j, [])) utf8 is none =
    let parses : ok_or (parsed line) Json ≡ Ok j = rw is refl in
    out_of_range line j utf8 parses (is_unfit is_in_range (j, []) none)
fails_if line (Some (j, t ∷ rest)) utf8 is none =
    let parses : ok_or (parsed line) Json ≡ Err Json = rw is refl in
    parse_fails line Json utf8 parses

pub line_fails : (line : List ℕ) → IsUtf8 line → behind_value 127 (tokens line) ≡ None → value_at line ≡ Err Json
line_fails line utf8 none = fails_if line (json.value 127 (tokens line)) utf8 refl none
