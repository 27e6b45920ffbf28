-- What holds of sets of rights, for files and for ports alike.
use Rattle.std.proofs.Common.{◌≡◌, ℕ, Bool, true, false, not, ◌&&◌, ◌||◌, refl, sym, ap, ◌∙◌, inl, inr, ◌⊎◌}
use Rattle.std.specs.Prelude.{bit_and}
use Rattle.std.specs.List.{list_all}
use Rattle.ll_rights.specs.declared.abi.Abi.{Abi}
use Rattle.ll_rights.specs.Families.{Family, for_files, for_network, knows, common, is_within}
use Rattle.ll_rights.specs.Rights as files
use Rattle.ll_rights.specs.NetRights as network
use Rattle.ll_rights.specs.Sets.{are_same, holds}
use Rattle.ll_rights.proofs.Sets.{fs_has-united, net_has-united}
use Rattle.ll_rights.proofs.Supported.{fs_has-supported, net_has-supported}
use Rattle.ll_rights.proofs.Bitwise.{known_below, has_bit-and, all_each}
use Rattle.ll_fitting.specs.declared.written.Access.{Access}
use Rattle.ll_fitting.specs.Written.{listed, lists}
use Rattle.ll_fitting.specs.Fitting.{left_of, is_left}

-- a right is the one without a name, or another
abbrev pub IsOtherOrNot : {S R : Type 0} → Family S R → R → Type 0
IsOtherOrNot family right = (right ≡ family.other) ⊎ (are_same family.row right family.other ≡ false)

-- sets are words of bits, and what a union and a supported set have
pub record AreSets {S R : Type 0} (family : Family S R) : Type 0 where
  pub has : (set : S) (right : R) → family.has set right ≡ holds family.row family.other (family.word set) right
  pub word : (bits : ℕ) → family.word (family.set bits) ≡ bits
  pub every : (test : R → Bool) → family.every_right test ≡ list_all test family.all_rights
  pub united : (a b : S) (right : R) → family.has (family.united a b) right ≡ (family.has a right || family.has b right)
  pub supported : (abi : Abi) (set : S) (right : R)
      → family.has (family.supported abi set) right ≡ (family.has set right && (knows family abi right || are_same family.row right family.other))
  pub other : (right : R) → IsOtherOrNot family right

file_other : (right : files.FsRight) → IsOtherOrNot for_files right
file_other files.other = inl refl
file_other right = inr refl

port_other : (right : network.NetRight) → IsOtherOrNot for_network right
port_other network.other = inl refl
port_other right = inr refl

pub file_sets : AreSets for_files
unfolding files.has files.every_right
file_sets =
    record { has = λ set right. refl; word = λ bits. refl; every = λ test. refl; united = fs_has-united; supported = fs_has-supported; other = file_other }

pub port_sets : AreSets for_network
unfolding network.has network.every_right
port_sets =
    record { has = λ set right. refl; word = λ bits. refl; every = λ test. refl; united = net_has-united; supported = net_has-supported; other = port_other }

kept_within : (a b k : Bool) → (not ((a && b) && k) || (b && k)) ≡ true
kept_within true true true = refl
kept_within true true false = refl
kept_within true false k = refl
kept_within false b k = refl

-- a right with a name is supported only where the version knows it
known_or : (has knows is_other : Bool) → is_other ≡ false → (not (has && (knows || is_other)) || knows) ≡ true
known_or true true other is = refl
known_or false true other is = refl
known_or true false false is = refl
known_or false false other is = refl
known_or true false true is = absurd (cc)

not_there : (has knows known : Bool) → has ≡ false → (not (has && knows) || known) ≡ true
not_there false knows known is = refl
not_there true knows known is = absurd (cc)

-- a set without unnamed rights keeps what the version knows
kept : (set knows is_other : Bool) → is_other ≡ false → (set && (knows || is_other)) ≡ (set && knows)
kept set true false is = refl
kept set false false is = refl
kept set knows true is = absurd (cc)

without : (a b k l : Bool) → b ≡ false → ((a && b) && k) ≡ (a && (b && l))
without true false k l is = refl
without false false k l is = refl
without a true k l is = absurd (cc)

grouped : (a b k : Bool) → ((a && b) && k) ≡ (a && (b && k))
grouped true b k = refl
grouped false b k = refl

module _ {S R : Type 0} {family : Family S R} (sets : AreSets family) where
  abbrev is_other : R → Bool
  is_other right = are_same family.row right family.other

  pub each : (test : R → Bool) → ((right : R) → test right ≡ true) → family.every_right test ≡ true
  each test passes = sets.every test ∙ all_each test passes family.all_rights

  -- an intersection with known rights
  pub both : (a b : S) (right : R) → family.has b family.other ≡ false → family.has (common family a b) right ≡ (family.has a right && family.has b right)
  both a b right known =
      let last = (family.row family.other).bit in
      sets.has (common family a b) right
      ∙ ap (λ (bits : ℕ). holds family.row family.other bits right) (sets.word (bit_and (family.word a) (family.word b)))
      ∙ has_bit-and last (family.word a) (family.word b) (family.row right).bit (known_below last (family.word b) (sym (sets.has b family.other) ∙ known))
      ∙ rw (sets.has a right, sets.has b right) refl

  pub within : (abi : Abi) (a b : S) → family.has b family.other ≡ false
      → is_within family (family.supported abi (common family a b)) (family.supported abi b) ≡ true
  within abi a b known =
      each (λ right. not (family.has (family.supported abi (common family a b)) right) || family.has (family.supported abi b) right)
      (λ right. rw (sets.supported abi (common family a b) right, sets.supported abi b right, both a b right known)
      (kept_within (family.has a right) (family.has b right) (knows family abi right || is_other right)))

  pub knows_supported : (abi : Abi) (set : S) → family.has set family.other ≡ false
      → family.every_right (λ right. not (family.has (family.supported abi set) right) || knows family abi right) ≡ true
  knows_supported abi set known =
      each (λ right. not (family.has (family.supported abi set) right) || knows family abi right)
      (λ right. rw (sets.supported abi set right) (elim (sets.other right) [
        | inl is ↦ not_there (family.has set right) (knows family abi right || is_other right) (knows family abi right)
            (ap (family.has set) is ∙ known)
        | inr is ↦ known_or (family.has set right) (knows family abi right) (is_other right) is
      ]))

  pub left_by_right : (abi : Abi) (handled : Access S) (rights : S) (right : R) → family.has (listed family handled) family.other ≡ false
      → family.has (left_of family abi handled rights) right ≡ (family.has rights right && is_left family abi handled right)
  unfolding left_of
  left_by_right abi handled rights right known =
      let all : S = listed family handled in
      sets.supported abi (common family rights all) right
      ∙ ap (λ (b : Bool). b && (knows family abi right || is_other right)) (both rights all right known)
      ∙ elim (sets.other right) [
        | inl is ↦ without (family.has rights right) (family.has all right) _ (knows family abi right) (ap (family.has all) is ∙ known)
        | inr is ↦ kept (family.has rights right && family.has all right) (knows family abi right) (is_other right) is
            ∙ grouped (family.has rights right) (family.has all right) (knows family abi right)
      ]
      ∙ ap (λ (b : Bool). family.has rights right && (b && knows family abi right)) (sets.united handled.named handled.grouped right)

  pub listed_by_right : (abi : Abi) (handled allowed : Access S) (right : R) → family.has (listed family handled) family.other ≡ false
      → family.has (left_of family abi handled (listed family allowed)) right ≡ (lists family allowed right && is_left family abi handled right)
  listed_by_right abi handled allowed right known =
      left_by_right abi handled (listed family allowed) right known
      ∙ ap (λ (b : Bool). b && is_left family abi handled right) (sets.united allowed.named allowed.grouped right)
