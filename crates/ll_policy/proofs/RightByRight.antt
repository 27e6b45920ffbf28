-- A layer refuses a set of rights exactly where it refuses some right of the set.
use Rattle.std.proofs.Common.{◌≡◌, ℕ, ◌+◌, Bool, true, false, not, ◌&&◌, ◌||◌, ◌==◌, List, [], ◌∷◌, refl, sym, ap, ◌∙◌}
use Rattle.std.specs.Prelude.{if◌then◌else◌}
use Rattle.std.proofs.lemmas.List.Folds.{list_any-append}
use Rattle.ll_rights.specs.declared.fs.Fs.{Fs}
use Rattle.ll_rights.specs.Rights.{FsRight, has, only, some_right, all_rights, named_rights}
use Rattle.ll_lines.specs.Paths.{Path}
use Rattle.ll_rules.specs.LayerNumbers.{is_among}
use Rattle.ll_rules.specs.Layers.{RulesOn, handles, granted}
use Rattle.ll_rules.specs.Checks.{numbers_from, lacks, refusing}
use Rattle.ll_rules.proofs.AskedRights.{some_agree}
use Rattle.ll_policy.proofs.Bridge.{and_assoc, lacks-only}
use Rattle.ll_policy.proofs.RuledAlike.{numbers-within}
use Rattle.ll_rules.proofs.Booleans.{or_false, and_none, and_true, list_any-or}

-- a layer lacks a set where it lacks one of its rights
lacks-some : (layer : RulesOn Path) (path : Path) (wanted : Fs)
    → lacks layer path wanted ≡ some_right (λ right. has wanted right && lacks layer path (only right))
lacks-some layer path wanted =
    some_agree (λ right. has wanted right && handles layer right && not (granted layer path right)) (λ right. has wanted right && lacks layer path (only right))
    (λ right.
    and_assoc (has wanted right) (handles layer right) (not (granted layer path right))
    ∙ ap (λ (b : Bool). has wanted right && b) (sym (lacks-only layer path right)))

-- ---- numbers

none_some : (want : FsRight → Bool) → some_right (λ right. want right && false) ≡ false
unfolding some_right all_rights named_rights
none_some want = some_agree (λ right. want right && false) (λ right. false) (λ right. and_none (want right))

some_and : (f : FsRight → Bool) (e : Bool) → some_right (λ right. f right && e) ≡ (some_right f && e)
some_and f true = some_agree (λ right. f right && true) f (λ right. and_true (f right)) ∙ sym (and_true (some_right f))
some_and f false = none_some f ∙ sym (and_none (some_right f))

pub some_or : (f g : FsRight → Bool) → some_right (λ right. f right || g right) ≡ (some_right f || some_right g)
unfolding some_right
some_or f g = list_any-or f g all_rights

spread : (want test here above : Bool) → (want && ((test && here) || above)) ≡ (((want && test) && here) || (want && above))
spread true test here above = refl
spread false test here above = refl

among_one : (b : Bool) (one number : ℕ) → is_among one (if b then number ∷ [] else []) ≡ (b && (number == one))
among_one true one number = or_false (number == one)
among_one false one number = refl

module _ {L : Type 0} (one : ℕ) where
  among_next : (test : L → Bool) (number : ℕ) (layer : L) (layers : List L)
      → is_among one (numbers_from test number (layer ∷ layers)) ≡ ((test layer && (number == one)) || is_among one (numbers_from test (number + 1) layers))
  unfolding numbers_from
  among_next test number layer layers =
      list_any-append (λ own. own == one) (if test layer then number ∷ [] else []) (numbers_from test (number + 1) layers)
      ∙ ap (λ (b : Bool). b || is_among one (numbers_from test (number + 1) layers)) (among_one (test layer) one number)

module _ {L : Type 0} (one : ℕ) (want : FsRight → Bool) (tests : FsRight → L → Bool) where
  among_some : (number : ℕ) (layers : List L)
      → is_among one (numbers_from (λ layer. some_right (λ right. want right && tests right layer)) number layers)
      ≡ some_right (λ right. want right && is_among one (numbers_from (tests right) number layers))
  unfolding numbers_from
  among_some number [] = sym (none_some want)
  among_some number (layer ∷ layers) =
      let rest = λ (right : FsRight). is_among one (numbers_from (tests right) (number + 1) layers) in
      among_next one (λ own. some_right (λ right. want right && tests right own)) number layer layers
      ∙ ap (λ (b : Bool). (some_right (λ right. want right && tests right layer) && (number == one)) || b) (among_some (number + 1) layers)
      ∙ ap (λ (b : Bool). b || some_right (λ right. want right && rest right)) (sym (some_and (λ right. want right && tests right layer) (number == one)))
      ∙ sym (some_or (λ right. (want right && tests right layer) && (number == one)) (λ right. want right && rest right))
      ∙ some_agree (λ right. ((want right && tests right layer) && (number == one)) || (want right && rest right))
      (λ right. want right && is_among one (numbers_from (tests right) number (layer ∷ layers)))
      (λ right. sym (spread (want right) (tests right layer) (number == one) (rest right))
      ∙ ap (λ (b : Bool). want right && b) (sym (among_next one (tests right) number layer layers)))

pub right_by_right : (domain : List (RulesOn Path)) (path : Path) (wanted : Fs) (number : ℕ)
    → is_among number (refusing domain path wanted) ≡ some_right (λ right. has wanted right && is_among number (refusing domain path (only right)))
right_by_right domain path wanted number =
    ap (is_among number) (numbers-within (λ layer. Unit {0}) (λ layer. lacks layer path wanted)
    (λ layer. some_right (λ right. has wanted right && lacks layer path (only right))) (λ layer any. lacks-some layer path wanted) domain (λ k d within. tt))
    ∙ among_some number (has wanted) (λ right layer. lacks layer path (only right)) 1 domain
