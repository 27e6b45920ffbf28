-- The rights at fault, as the set that was worked out.
use Rattle.std.proofs.Common.{◌≡◌, ◌∙◌, Bool, true, false, cond, List, [], ◌∷◌, refl, sym, ap, arith}
use Rattle.std.specs.Prelude.{filter, not, ◌&&◌, ◌||◌, if◌then◌else◌}
use Rattle.std.specs.List.{list_all, list_any}
use Rattle.std.proofs.lemmas.List.Elements.{filter_agree}
use Rattle.ll_rights.specs.declared.net.Net.{Net}
use Rattle.ll_rights.specs.NetRights as network
use Rattle.ll_rights.proofs.Sets.{net_has-only, net_has-united}
use Rattle.ll_rules.proofs.Booleans.{and_none, and_true, or_false}

-- a set has what one set has and another hasn't
module _ {S R : Type 0} (has : S → R → Bool) (set rights whole : S) (same : (right : R) → has set right ≡ (has rights right && not (has whole right))) where
  pub beyond_is : (all : List R) → filter (has set) all ≡ filter (λ right. has rights right && not (has whole right)) all
  beyond_is all = filter_agree (has set) (λ right. has rights right && not (has whole right)) same all

  one_by_one : (a b some all : Bool) → not some ≡ all → not ((a && not b) || some) ≡ ((not a || b) && all)
  one_by_one a b some all is = grind arith

  within_is : (all : List R) → not (list_any (has set) all) ≡ list_all (λ right. not (has rights right) || has whole right) all
  within_is [] = refl
  within_is (right ∷ all) =
      ap (λ b. not (b || list_any (has set) all)) (same right)
      ∙ one_by_one (has rights right) (has whole right) (list_any (has set) all) (list_all (λ one. not (has rights one) || has whole one) all) (within_is all)

  -- it is empty, by the test of the code, just where each right of the one is in the other
  module _ {C : Type 0} (all : List R) (within : C) (beyond : List R → C) {empty : Bool} (is : empty ≡ not (list_any (has set) all)) where
    abbrev either : C
    either =
        if list_all (λ right. not (has rights right) || has whole right) all then within
        else beyond (filter (λ right. has rights right && not (has whole right)) all)

    pub all_within : empty ≡ true → within ≡ either
    all_within test = rw (sym (within_is all) ∙ sym is ∙ test) refl

    pub some_beyond : empty ≡ false → beyond (filter (has set) all) ≡ either
    some_beyond test = rw (sym (within_is all) ∙ sym is ∙ test) (ap beyond (beyond_is all))

-- ---- for ports

no_port_right : (right : network.NetRight) → network.has network.no_right right ≡ false
unfolding network.has
no_port_right network.other = refl
no_port_right right = refl

alone : (b : Bool) (one right : network.NetRight) → network.has (cond b (network.only one) network.no_right) right ≡ (network.is_right right one && b)
alone true one right = net_has-only right one ∙ sym (and_true (network.is_right right one))
alone false one right = no_port_right right ∙ sym (and_none (network.is_right right one))

module _ (rights whole : Net) where
  abbrev beyond : network.NetRight → Bool
  beyond one = network.has rights one && not (network.has whole one)

  abbrev if_beyond : network.NetRight → Net
  if_beyond one = cond (beyond one) (network.only one) network.no_right

  one_of_three : (right : network.NetRight)
      → ((network.is_right right network.bind_tcp && beyond network.bind_tcp || network.is_right right network.connect_tcp && beyond network.connect_tcp)
      || network.is_right right network.other && beyond network.other) ≡ beyond right
  one_of_three network.bind_tcp = or_false (beyond network.bind_tcp || false) ∙ or_false (beyond network.bind_tcp)
  one_of_three network.connect_tcp = or_false (beyond network.connect_tcp)
  one_of_three network.other = refl

  pub ports_beyond : (right : network.NetRight)
      → network.has (network.united (network.united (if_beyond network.bind_tcp) (if_beyond network.connect_tcp)) (if_beyond network.other)) right
      ≡ (network.has rights right && not (network.has whole right))
  ports_beyond right =
      net_has-united (network.united (if_beyond network.bind_tcp) (if_beyond network.connect_tcp)) (if_beyond network.other) right
      ∙ ap (λ b. b || network.has (if_beyond network.other) right) (net_has-united (if_beyond network.bind_tcp) (if_beyond network.connect_tcp) right)
      ∙ rw (
        alone (beyond network.bind_tcp) network.bind_tcp right,
        alone (beyond network.connect_tcp) network.connect_tcp right,
        alone (beyond network.other) network.other right,
      ) (one_of_three right)
