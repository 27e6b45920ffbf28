-- What a layer lacks, right by right.
use Rattle.std.proofs.Common.{◌≡◌, ◌∙◌, ℕ, ◌+◌, ◌<◌, ◌≤◌, Bool, true, false, [], ◌∷◌, length, refl, sym, ap, arith, inl, inr, lit<}
use Rattle.std.specs.Prelude.{not, ◌==◌, ◌&&◌, ◌||◌, if◌then◌else◌}
use Rattle.std.proofs.lemmas.Bool.{cases_Bool, cases_eq, eq-eqb, ne_eqb}
use Rattle.ll_rights.specs.declared.fs.Fs.{Fs}
use Rattle.ll_rights.specs.Rights as files
use Rattle.ll_rights.proofs.Sets.{fs_has-only, fs_has-united}
use Rattle.ll_lines.specs.Paths.{Path}
use Rattle.ll_rules.specs.Layers.{RulesOn, handles, granted}
use Rattle.ll_rules.specs.Checks.{lacks, numbers_from, numbers_where}
use Rattle.ll_rules.proofs.Booleans.{or_false, list_any-agree}
use Rattle.ll_reasons.proofs.Named.{same_right}
use Rattle.ll_explanations.specs.Lacked.{lacked}

pub below : (right : files.FsRight) → files.bit_of right < length files.all_rights
unfolding files.all_rights files.named_rights
below files.other = lit< tt
below right = lit< tt

-- ---- one right alone

-- a test that one right alone can pass
only_one : (one : files.FsRight) (test : files.FsRight → Bool) → files.some_right (λ right. files.is_right right one && test right) ≡ test one
unfolding files.some_right files.all_rights files.named_rights
only_one files.other test = or_false (test files.other)
only_one one test = or_false (test one)

pub lacks-only : (layer : RulesOn Path) (path : Path) (one : files.FsRight)
    → lacks layer path (files.only one) ≡ (handles layer one && not (granted layer path one))
unfolding files.some_right
lacks-only layer path one =
    list_any-agree (λ right. files.has (files.only one) right && handles layer right && not (granted layer path right))
    (λ right. files.is_right right one && (handles layer right && not (granted layer path right)))
    (λ right. ap (λ b. b && handles layer right && not (granted layer path right)) (fs_has-only right one)
    ∙ and_assoc (files.is_right right one) (handles layer right) (not (granted layer path right))) files.all_rights
    ∙ only_one one (λ right. handles layer right && not (granted layer path right)) where
      and_assoc : (a b c : Bool) → (a && b && c) ≡ (a && (b && c))
      and_assoc true b c = refl
      and_assoc false b c = refl

-- the test of a right, by its own set
pub lacked-by : (layer : RulesOn Path) (path : Path) (asked : Fs) (one : files.FsRight) (b l : Bool) → files.has asked one ≡ b
    → l ≡ lacks layer path (files.only one) → (if b then l else false) ≡ lacked layer path asked one
unfolding lacked
lacked-by layer path asked one true l has is = is ∙ lacks-only layer path one ∙ ap (λ b. b && handles layer one && not (granted layer path one)) (sym has)
lacked-by layer path asked one false l has is = ap (λ b. b && handles layer one && not (granted layer path one)) (sym has)

-- of one layer alone a number is found just where it passes
pub numbers-alone : {L : Type 0} (test : L → Bool) (layer : L) → not (length (numbers_where test (layer ∷ [])) == 0) ≡ test layer
unfolding numbers_from
numbers-alone test layer = elim (cases_Bool (test layer)) [
  | inl holds ↦ rw holds refl
  | inr fails ↦ rw fails refl
]

-- ---- right by right

-- the rights before an index are those that pass a test, and none is behind
pub record AreBefore (test : files.FsRight → Bool) (set : Fs) (index : ℕ) : Type 0 where
  pub before : (right : files.FsRight) → files.bit_of right < index → files.has set right ≡ test right
  pub behind : (right : files.FsRight) → index ≤ files.bit_of right → files.has set right ≡ false

pub none : (right : files.FsRight) → files.has (record { 0 = 0 }) right ≡ false
unfolding files.has
none files.other = refl
none right = refl

pub none_before : (test : files.FsRight → Bool) (set : Fs) → ((right : files.FsRight) → files.has set right ≡ false) → AreBefore test set 0
none_before test set none = record { before = λ right there. absurd (omega arith); behind = λ right there. none right }

pub one_more : (test : files.FsRight → Bool) (set : Fs) (index : ℕ) (one : files.FsRight) → files.bit_of one ≡ index → test one ≡ true
    → AreBefore test set index → AreBefore test (files.united set (files.only one)) (index + 1)
one_more test set index one eq passes are = record {
  before = λ right there. fs_has-united set (files.only one) right ∙ ap (λ b. files.has set right || b) (fs_has-only right one)
      ∙ elim (cases_eq (files.bit_of right) (files.bit_of one)) [
        | inl same ↦
            let is : files.is_right right one ≡ true = eq-eqb (files.bit_of right) (files.bit_of one) same in
            let it : right ≡ one = same_right right one is in
            rw (is, it, passes) (or_true (files.has set one))
        | inr other ↦
            rw (ne_eqb (files.bit_of right) (files.bit_of one) other) (or_false (files.has set right) ∙ are.before right (omega (arith, eq, there, other)))
      ];
  behind = λ right there.
      let other : files.bit_of right ≡ files.bit_of one → ⊥ = λ same. absurd (omega (arith, eq, there, same)) in
      fs_has-united set (files.only one) right
      ∙ ap (λ b. files.has set right || b) (fs_has-only right one ∙ ne_eqb (files.bit_of right) (files.bit_of one) other)
      ∙ or_false (files.has set right) ∙ are.behind right (omega (arith, there));
} where
  or_true : (b : Bool) → (b || true) ≡ true
  or_true true = refl
  or_true false = refl

pub none_more : (test : files.FsRight → Bool) (set : Fs) (index : ℕ) (one : files.FsRight) → files.bit_of one ≡ index → test one ≡ false
    → AreBefore test set index → AreBefore test set (index + 1)
none_more test set index one eq fails are = record {
  before = λ right there. elim (cases_eq (files.bit_of right) (files.bit_of one)) [
    | inl same ↦
        let it : right ≡ one = same_right right one (eq-eqb (files.bit_of right) (files.bit_of one) same) in
        are.behind right (omega (arith, eq, same)) ∙ rw (it, fails) refl
    | inr other ↦ are.before right (omega (arith, eq, there, other))
  ];
  behind = λ right there. are.behind right (omega (arith, there));
}

pub all_before : (test : files.FsRight → Bool) (set : Fs) (index : ℕ) → length files.all_rights ≤ index → AreBefore test set index → (right : files.FsRight)
    → files.has set right ≡ test right
all_before test set index end are right = are.before right (omega (arith, below right, end))
