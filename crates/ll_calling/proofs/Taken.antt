-- A loop that takes in the policies of a file, line after line.
use Rattle.std.proofs.Common.{◌≡◌, ℕ, Bool, true, false, ◌||◌, List, [], ◌∷◌, ◌++◌, flat_map, refl, sym, ap, ◌∙◌}
use Rattle.std.specs.List.{list_any}
use Rattle.std.proofs.lemmas.List.{append-nil}
use Rattle.std.proofs.lemmas.List.Folds.{list_any-append}
use Rattle.std.proofs.lemmas.Grind.{flat_map-append}
use Rattle.ll_rights.specs.declared.abi.Abi.{Abi}
use Rattle.ll_lines.specs.Lines.{Line, filled_lines}
use Rattle.ll_lines.specs.LineByLine.{read_lines, reading}
use Rattle.ll_lines.proofs.ReadingLemmas.{read_lines_end, good_from_reading}
use Rattle.ll_values.proofs.Answering.{reads_next}
use Rattle.ll_calling.specs.PolicyLines.{LayerSeen, policy_on, policy_format}
use Rattle.ll_calling.specs.Answers.{AreCalls, IsTaken}
use Rattle.ll_calling.specs.Texts.{lines_at, is_refused_at}

-- the policies of the lines before those that are left have been taken in
pub record AreTaken (abi : Abi) (bytes : List ℕ) (left : List Line) (text : List ℕ) (refused : Bool) : Type 0 where
  pub policies : List (List LayerSeen)
  pub reads : read_lines policy_format policies left ≡ reading policy_format bytes
  pub is_text : text ≡ flat_map (lines_at abi) policies
  pub is_refused : refused ≡ list_any (is_refused_at abi) policies

pub taken_none : (abi : Abi) (bytes : List ℕ) → AreTaken abi bytes (filled_lines bytes) [] false
taken_none abi bytes = record { policies = []; reads = refl; is_text = refl; is_refused = refl }

any_push : {X : Type 0} (test : X → Bool) (xs : List X) (x : X) → list_any test (xs ++ x ∷ []) ≡ (list_any test xs || test x)
any_push test xs x = list_any-append test xs (x ∷ []) ∙ ap (λ b. list_any test xs || b) (or_false (test x))
  where
    or_false : (b : Bool) → (b || false) ≡ b
    or_false true = refl
    or_false false = refl

pub taken_next : (abi : Abi) (bytes : List ℕ) (lines : List Line) (line : Line) (others : List Line) (text more : List ℕ) (was refused : Bool)
    → lines ≡ line ∷ others → AreTaken abi bytes lines text was → IsTaken abi line text was more refused → AreTaken abi bytes others more refused
taken_next abi bytes lines line others text more was refused first so_far taken =
    record {
      policies = so_far.policies ++ taken.policy ∷ [];
      reads = reads_next policy_on bytes lines line others so_far.policies taken.policy first so_far.reads taken.read;
      is_text = taken.text
          ∙ rw (so_far.is_text, flat_map-append (lines_at abi) so_far.policies (taken.policy ∷ []), append-nil (lines_at abi taken.policy)) refl;
      is_refused = taken.is_refused ∙ rw so_far.is_refused (sym (any_push (is_refused_at abi) so_far.policies taken.policy));
    }

pub taken_all : (abi : Abi) (bytes : List ℕ) (lines : List Line) (text : List ℕ) (refused : Bool) → lines ≡ [] → AreTaken abi bytes lines text refused
    → AreCalls abi bytes text refused
taken_all abi bytes lines text refused none so_far =
    record {
      policies = so_far.policies;
      good = good_from_reading policy_format bytes so_far.policies
          (sym so_far.reads ∙ ap (read_lines policy_format so_far.policies) none ∙ read_lines_end policy_format so_far.policies);
      is_text = so_far.is_text;
      is_refused = so_far.is_refused;
    }
