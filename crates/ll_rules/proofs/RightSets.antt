-- Sets of rights that are within known ones.
use Rattle.std.proofs.Common.{◌≡◌, ℕ, lit<, Bool, true, false, not, ◌||◌, [], ◌∷◌, refl, sym, ap, ◌∙◌}
use Rattle.std.specs.List.{list_any, list_all}
use Rattle.std.proofs.lemmas.Bool.{and_parts, or_right, false_from_ne_true, false≢true, not-true}
use Rattle.std.proofs.lemmas.List.Folds.{list_all-append, list_any_at}
use Rattle.ll_rights.specs.declared.fs.Fs.{Fs}
use Rattle.ll_rights.specs.declared.fs.TheConstants.Fs.{FILE}
use Rattle.ll_rights.specs.declared.net.Net.{Net}
use Rattle.ll_rights.specs.Rights as files
use Rattle.ll_rights.specs.NetRights as network
use Rattle.ll_rights.proofs.Sets.{fs_has-only, fs_has-united}
use Rattle.ll_rules.specs.Layers.{RulesOn, handles}
use Rattle.ll_rules.specs.Rulesets.{are_file_rights}
use Rattle.ll_rules.proofs.Booleans.{or_false, list_all-agree}

none_from_implied : (x y : Bool) → (not x || y) ≡ true → y ≡ false → x ≡ false
none_from_implied true true e none = absurd cc
none_from_implied true false e none = absurd cc
none_from_implied false y e none = refl

-- a set within known rights has no unknown one
pub fs_within_known : (set whole : Fs) → files.is_within set whole ≡ true → files.has whole files.other ≡ false → files.has set files.other ≡ false
unfolding files.every_right files.all_rights
fs_within_known set whole within none =
    let test : files.FsRight → Bool = λ right. not (files.has set right) || files.has whole right in
    let last : list_all test (files.other ∷ []) ≡ true =
    (and_parts (list_all test files.named_rights) (list_all test (files.other ∷ []))
    (sym (list_all-append test files.named_rights (files.other ∷ [])) ∙ within)).1 in
    none_from_implied (files.has set files.other) (files.has whole files.other) (and_parts (test files.other) true last).0 none

pub net_within_known : (set whole : Net) → network.is_within set whole ≡ true → network.has whole network.other ≡ false → network.has set network.other ≡ false
unfolding network.every_right network.all_rights
net_within_known set whole within none =
    let test : network.NetRight → Bool = λ right. not (network.has set right) || network.has whole right in
    let first = (and_parts (test network.bind_tcp) (list_all test (network.connect_tcp ∷ network.other ∷ [])) within).1 in
    let second = (and_parts (test network.connect_tcp) (list_all test (network.other ∷ [])) first).1 in
    none_from_implied (network.has set network.other) (network.has whole network.other) (and_parts (test network.other) true second).0 none

-- ---- what a layer handles

empty_refer : (set : Fs) → files.is_empty set ≡ true → files.has set files.refer ≡ false
unfolding files.some_right files.all_rights files.named_rights
empty_refer set empty =
    false_from_ne_true (files.has set files.refer)
    (λ there. false≢true (sym (not-true (list_any (files.has set) files.all_rights) empty)
    ∙ list_any_at (files.has set) files.all_rights (files.bit_of files.refer) files.other (lit< tt) there))

-- a layer without any right for files handles none
pub handled_none : (rules : RulesOn ℕ) (set : Fs) → set ≡ rules.handled_files → files.is_empty set ≡ true → (right : files.FsRight)
    → files.has set right ≡ handles rules right
handled_none rules set same empty right = ap (λ (own : Fs). files.has own right) same ∙ as_handled right where
  none : files.is_empty rules.handled_files ≡ true
  none = sym (ap (λ (own : Fs). files.is_empty own) same) ∙ empty

  as_handled : (right : files.FsRight) → files.has rules.handled_files right ≡ handles rules right
  as_handled files.refer = rw (empty_refer rules.handled_files none, none) refl
  as_handled right = refl

-- one with any handles moves beside its own
pub handled_some : (rules : RulesOn ℕ) (set handled : Fs) → set ≡ rules.handled_files → files.is_empty set ≡ false
    → handled ≡ files.united set (files.only files.refer)
    → (right : files.FsRight) → files.has handled right ≡ handles rules right
handled_some rules set handled same some is right =
    ap (λ (own : Fs). files.has own right) (is ∙ ap (λ (own : Fs). files.united own (files.only files.refer)) same)
    ∙ fs_has-united rules.handled_files (files.only files.refer) right
    ∙ ap (λ (b : Bool). files.has rules.handled_files right || b) (fs_has-only right files.refer)
    ∙ beside right
  where
    filled : files.is_empty rules.handled_files ≡ false
    filled = sym (ap (λ (own : Fs). files.is_empty own) same) ∙ some

    beside : (right : files.FsRight) → (files.has rules.handled_files right || files.is_right right files.refer) ≡ handles rules right
    beside files.refer = or_right (files.has rules.handled_files files.refer) true refl ∙ ap not (sym filled)
    beside right = or_false (files.has rules.handled_files right)

pub refer_known : (set : Fs) → files.has set files.other ≡ false → files.has (files.united set (files.only files.refer)) files.other ≡ false
refer_known set known = fs_has-united set (files.only files.refer) files.other ∙ rw (known, fs_has-only files.other files.refer) refl

-- no right
pub has_nothing : (right : files.FsRight) → files.has files.no_right right ≡ false
unfolding files.has
has_nothing files.other = refl
has_nothing right = refl

-- ---- the rights that apply to what isn't a directory

pub file_known : files.has FILE files.other ≡ false
unfolding files.has
file_known = refl

pub has_file : (right : files.FsRight) → files.has FILE right ≡ files.is_file_right right
unfolding files.has
has_file files.other = refl
has_file right = refl

every_agree : (f g : files.FsRight → Bool) → ((right : files.FsRight) → f right ≡ g right) → files.every_right f ≡ files.every_right g
unfolding files.every_right
every_agree f g same = list_all-agree f g same files.all_rights

pub file_rights_by_test : (set : Fs) → files.is_within set FILE ≡ are_file_rights set
file_rights_by_test set =
    every_agree (λ right. not (files.has set right) || files.has FILE right) (λ right. not (files.has set right) || files.is_file_right right)
    (λ right. ap (λ (b : Bool). not (files.has set right) || b) (has_file right))
