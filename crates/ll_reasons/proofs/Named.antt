-- The rights that a layer's objection names are those that its test finds.
use Rattle.std.proofs.Common.{◌≡◌, ℕ, Bool, true, ◌&&◌, List, [], ◌∷◌, filter, get_or, refl, sym, ap, ◌∙◌, inl, inr}
use Rattle.std.specs.List.{list_any}
use Rattle.std.proofs.lemmas.Bool.{cases_Bool, eqb-true}
use Rattle.ll_rights.specs.Rights as files
use Rattle.ll_rights.specs.NetRights as network
use Rattle.ll_rules.proofs.Booleans.{and_none}

-- ---- a right has its index in the table

right_at : (right : files.FsRight) → get_or files.all_rights (files.bit_of right) files.other ≡ right
unfolding files.all_rights files.named_rights
right_at files.other = refl
right_at right = refl

port_right_at : (right : network.NetRight) → get_or network.all_rights (network.bit_of right) network.other ≡ right
unfolding network.all_rights
port_right_at network.other = refl
port_right_at right = refl

pub same_right : (a b : files.FsRight) → files.is_right a b ≡ true → a ≡ b
same_right a b is = sym (right_at a) ∙ ap (λ (n : ℕ). get_or files.all_rights n files.other) (eqb-true (files.bit_of a) (files.bit_of b) is) ∙ right_at b

same_port_right : (a b : network.NetRight) → network.is_right a b ≡ true → a ≡ b
same_port_right a b is =
    sym (port_right_at a) ∙ ap (λ (n : ℕ). get_or network.all_rights n network.other) (eqb-true (network.bit_of a) (network.bit_of b) is) ∙ port_right_at b

listed : (right : files.FsRight) → list_any (files.is_right right) files.all_rights ≡ true
unfolding files.all_rights files.named_rights
listed files.other = refl
listed right = refl

port_listed : (right : network.NetRight) → list_any (network.is_right right) network.all_rights ≡ true
unfolding network.all_rights
port_listed network.other = refl
port_listed right = refl

-- ---- what a filter names

module _ {R : Type 0} (is : R → R → Bool) (same : (a b : R) → is a b ≡ true → a ≡ b) (test : R → Bool) (right : R) where
  pub any-filter : (xs : List R) → list_any (is right) (filter test xs) ≡ (list_any (is right) xs && test right)
  any-filter [] = refl
  any-filter (x ∷ xs) = elim (cases_Bool (is right x)) [
    | inl here ↦
        (let as_there : test x ≡ test right = ap test (sym (same right x here)) in
        elim (cases_Bool (test x)) [
          | inl passes ↦ rw (passes, here) (sym (sym as_there ∙ passes))
          | inr fails ↦ rw (fails, here) (any-filter xs ∙ rw (sym as_there ∙ fails) (and_none (list_any (is right) xs)))
        ])
    | inr other ↦ elim (cases_Bool (test x)) [
      | inl passes ↦ rw (passes, other) (any-filter xs)
      | inr fails ↦ rw (fails, other) (any-filter xs)
    ]
  ]

pub rights_named : (test : files.FsRight → Bool) (right : files.FsRight) → list_any (files.is_right right) (filter test files.all_rights) ≡ test right
rights_named test right = any-filter files.is_right same_right test right files.all_rights ∙ ap (λ (b : Bool). b && test right) (listed right)

pub port_rights_named : (test : network.NetRight → Bool) (right : network.NetRight)
    → list_any (network.is_right right) (filter test network.all_rights) ≡ test right
port_rights_named test right =
    any-filter network.is_right same_port_right test right network.all_rights ∙ ap (λ (b : Bool). b && test right) (port_listed right)
