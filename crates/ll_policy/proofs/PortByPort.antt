-- A right passes on a port where no layer refuses it.
use Rattle.std.proofs.Common.{◌≡◌, ℕ, ◌+◌, Bool, true, false, not, ◌&&◌, ◌||◌, ◌==◌, List}
use Rattle.std.proofs.Common.{[], ◌∷◌, ◌++◌, map, refl, sym, ap, ◌∙◌, subst}
use Rattle.std.specs.Prelude.{◌↔◌, if◌then◌else◌}
use Rattle.std.specs.List.{filter}
use Rattle.std.proofs.lemmas.Bool.{and_parts, and_from, eqb-true, not-true, not_from_false}
use Rattle.ll_rights.specs.declared.net.Net.{Net}
use Rattle.ll_rights.specs.NetRights.{NetRight, has, only, is_right, some_right, all_rights, bind_tcp}
use Rattle.ll_rights.proofs.Sets.{net_has-only}
use Rattle.ll_rules.specs.Layers.{RulesOn, granted_on_port}
use Rattle.ll_rules.specs.Checks.{numbers_from, lacks_on_port, refusing_port}
use Rattle.ll_rules.proofs.Booleans.{or_false, list_any-agree}
use Rattle.ll_policy.specs.Chains.{is_among, lets, some_among, passes}
use Rattle.ll_policy.specs.Granted.{granting_on_ports}
use Rattle.ll_policy.proofs.Lists.{some_passes, that_passes, filtered, filter_test, kept_within}
use Rattle.ll_policy.proofs.Exactly.{among-contains, contains-among, number-refl}
use Rattle.ll_policy.proofs.Bridge.{mapped_from, mapped_to, equal_tests, lets_or_lacks, and_assoc, no_numbers}

-- ---- one right on one port

agree : (f g : NetRight → Bool) → ((right : NetRight) → f right ≡ g right) → some_right f ≡ some_right g
unfolding some_right
agree f g same = list_any-agree f g same all_rights

picked : (test : NetRight → Bool) (right : NetRight) → some_right (λ own. is_right own right && test own) ≡ test right
unfolding some_right all_rights
picked test bind_tcp = or_false (test bind_tcp)
picked test right = or_false (test right)

module _ (port : ℕ) (right : NetRight) (layer : RulesOn ℕ) where
  lacks-only : lacks_on_port layer port (only right) ≡ (has layer.handled_network right && not (granted_on_port layer port right))
  lacks-only =
      agree (λ own. has (only right) own && has layer.handled_network own && not (granted_on_port layer port own))
      (λ own. is_right own right && (has layer.handled_network own && not (granted_on_port layer port own)))
      (λ own.
      and_assoc (has (only right) own) (has layer.handled_network own) (not (granted_on_port layer port own))
      ∙ ap (λ (b : Bool). b && (has layer.handled_network own && not (granted_on_port layer port own))) (net_has-only own right))
      ∙ picked (λ own. has layer.handled_network own && not (granted_on_port layer port own)) right

  by_rule : some_among (port ∷ []) (granting_on_ports right layer).grants ≡ granted_on_port layer port right
  unfolding some_among granted_on_port
  by_rule =
      let gives = λ (rule : ℕ × Net). has rule.1 right in
      let number_of = λ (rule : ℕ × Net). rule.0 in
      or_false (is_among port (granting_on_ports right layer).grants)
      ∙ equal_tests (is_among port (granting_on_ports right layer).grants) (granted_on_port layer port right)
      (λ among.
      let rule = mapped_from number_of (filter gives layer.port_rules) port (among-contains port (granting_on_ports right layer).grants among) in
      some_passes (λ (own : ℕ × Net). port == own.0 && has own.1 right) layer.port_rules rule.0 (kept_within gives layer.port_rules rule.0 rule.1)
      (and_from (port == rule.0.0) (has rule.0.1 right) (subst (λ (n : ℕ). (port == n) ≡ true) (sym rule.2) (number-refl port))
      (filter_test gives layer.port_rules rule.0 rule.1)))
      (λ granted.
      let found = that_passes (λ (own : ℕ × Net). port == own.0 && has own.1 right) layer.port_rules granted in
      let parts = and_parts (port == found.0.0) (has found.0.1 right) found.2 in
      subst (λ (n : ℕ). is_among n (granting_on_ports right layer).grants ≡ true) (sym (eqb-true port found.0.0 parts.0))
      (contains-among found.0.0 (granting_on_ports right layer).grants
      (mapped_to number_of (filter gives layer.port_rules) found.0 (filtered gives layer.port_rules found.0 found.1 parts.1))))

  lets_where_nothing_lacks : lets (port ∷ []) (granting_on_ports right layer) ≡ not (lacks_on_port layer port (only right))
  unfolding lets
  lets_where_nothing_lacks =
      ap (λ (b : Bool). not (has layer.handled_network right) || b) by_rule
      ∙ lets_or_lacks (has layer.handled_network right) (granted_on_port layer port right)
      ∙ ap not (sym lacks-only)

-- no layer refuses a port where each lets it pass
refuses_none : (port : ℕ) (right : NetRight) (number : ℕ) (layers : List (RulesOn ℕ))
    → (passes (map (granting_on_ports right) layers) (port ∷ []) ≡ true)
    ↔ (numbers_from (λ layer. lacks_on_port layer port (only right)) number layers ≡ [])
unfolding passes numbers_from
refuses_none port right number [] = (λ all. refl, λ none. refl)
refuses_none port right number (layer ∷ layers) =
    let rest = refuses_none port right (number + 1) layers in
    let first = lets_where_nothing_lacks port right layer in (
      λ all.
          let parts = and_parts (lets (port ∷ []) (granting_on_ports right layer)) (passes (map (granting_on_ports right) layers) (port ∷ [])) all in
          let lacking : lacks_on_port layer port (only right) ≡ false = not-true (lacks_on_port layer port (only right)) (sym first ∙ parts.0) in
          ap (λ (b : Bool). (if b then number ∷ [] else []) ++ numbers_from (λ own. lacks_on_port own port (only right)) (number + 1) layers) lacking
          ∙ rest.0 parts.1,
      λ none.
          let parts = no_numbers (lacks_on_port layer port (only right)) number
          (numbers_from (λ own. lacks_on_port own port (only right)) (number + 1) layers) none in
          and_from (lets (port ∷ []) (granting_on_ports right layer)) (passes (map (granting_on_ports right) layers) (port ∷ []))
          (first ∙ not_from_false (lacks_on_port layer port (only right)) parts.0) (rest.1 parts.1),
    )

pub refused_on_port : (layers : List (RulesOn ℕ)) (right : NetRight) (port : ℕ)
    → (passes (map (granting_on_ports right) layers) (port ∷ []) ≡ true) ↔ (refusing_port layers port (only right) ≡ [])
refused_on_port layers right port = refuses_none port right 1 layers
