-- The calls for the policies on the lines of a file.
-- Source: landaudit-rules(1), "Calls".
use Rattle.std.specs.Prelude.{◌≡◌, ℕ, Bool, ◌||◌, List, ◌++◌, flat_map, Option, Ok}
use Rattle.std.specs.Io.KnownBytes.{Appends}
use Rattle.std.specs.List.{list_any}
use Rattle.ll_rights.specs.declared.abi.Abi.{Abi}
use Rattle.ll_lines.specs.Lines.{Line}
use Rattle.ll_lines.specs.Reading.{IsGood}
use Rattle.ll_calling.specs.PolicyLines.{LayerSeen, policy_on, policy_format}
use Rattle.ll_calling.specs.Texts.{lines_at, is_refused_at}

-- the calls for the policy on a line are behind a text, and whether the kernel refuses a rule is known of it too
pub record IsTaken (abi : Abi) (line : Line) (old : List ℕ) (was : Bool) (new : List ℕ) (refused : Bool) : Type 0 where
  pub policy : List LayerSeen
  pub read : policy_on line.bytes ≡ Ok policy
  pub text : new ≡ old ++ lines_at abi policy
  pub is_refused : refused ≡ (was || is_refused_at abi policy)

-- The file reads as policies; the text has the calls of each, one policy after another.
pub record AreCalls (abi : Abi) (bytes : List ℕ) (text : List ℕ) (refused : Bool) : Type 0 where
  pub policies : List (List LayerSeen)
  pub good : IsGood policy_format bytes policies
  pub is_text : text ≡ flat_map (lines_at abi) policies
  pub is_refused : refused ≡ list_any (is_refused_at abi) policies

-- such calls are written, and the kernel refuses a rule or doesn't
abbrev pub WritesCalls : Abi → List ℕ → Bool → Option (List ℕ) → Option (List ℕ) → Type 0
WritesCalls abi bytes refused old new = (text : List ℕ) × AreCalls abi bytes text refused × Appends old new text
