-- Forms that many lines share: a member that is one of some words, and a call made of its members.
-- Source: docs/FORMATS.md, "The trace file".
use Rattle.std.specs.Prelude.{ℕ, List, [], ◌∷◌, bytes_eq, Result, Ok, Err, if◌then◌else◌}
use Rattle.serde_json.specs.Data.{Data}
use Rattle.ll_lines.specs.declared.fault.Cause.{Cause}
use Rattle.ll_lines.specs.declared.fault.Cause.TheVariants.{Field}
use Rattle.ll_lines.specs.Members.{text_at, ◌>>=◌}

-- what a word stands for, among words that each stand for something
abbrev pub meaning : {A : Type 0} → List (List ℕ × A) → List ℕ → Result A Cause
meaning [] text = Err Field
meaning (one ∷ others) text = if bytes_eq text one.0 then Ok one.1 else meaning others text

-- what a member's text stands for
abbrev pub word_at : {A : Type 0} → List ℕ → List (List ℕ × A) → Data → Result A Cause
word_at name words value = do
  text ← text_at name value
  meaning words text

-- what is made of one, two, three or five members, if they read
abbrev pub of_one : {A T : Type 0} → (A → T) → Result A Cause → Result T Cause
of_one make a = a >>= λ x. Ok (make x)

abbrev pub of_two : {A B T : Type 0} → (A → B → T) → Result A Cause → Result B Cause → Result T Cause
of_two make a b = a >>= λ x. of_one (make x) b

abbrev pub of_three : {A B C T : Type 0} → (A → B → C → T) → Result A Cause → Result B Cause → Result C Cause → Result T Cause
of_three make a b c = a >>= λ x. of_two (make x) b c

abbrev pub of_five : {A B C D E T : Type 0} → (A → B → C → D → E → T) → Result A Cause → Result B Cause → Result C Cause → Result D Cause → Result E Cause → Result T Cause
of_five make a b c d e = a >>= λ x. b >>= λ y. of_three (make x y) c d e
