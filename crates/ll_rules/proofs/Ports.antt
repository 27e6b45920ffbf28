-- Rules on ports.
use Rattle.std.proofs.Common.{◌≡◌, ℕ, Bool, false, ◌&&◌, ◌||◌, eqb, List, refl, sym, ap, ◌∙◌}
use Rattle.std.specs.Prelude.{Option, Some, None}
use Rattle.std.specs.List.{list_any}
use Rattle.std.specs.Ordering.{nat_cmp}
use Rattle.std.specs.Option.{option_map_or, unwrap_or}
use Rattle.std.specs.FinMap.{FinMap, entries, get, insert}
use Rattle.ll_rights.specs.declared.net.Net.{Net}
use Rattle.ll_rights.specs.NetRights.{NetRight, bind_tcp, has, united, no_right}
use Rattle.ll_rights.proofs.Sets.{net_has-united}
use Rattle.ll_rules.specs.Layers.{RulesOn, granted_on_port}
use Rattle.ll_rules.specs.KeptLayers.{GrantsOnPort}
use Rattle.ll_rules.proofs.Lookups.{any_at-get, any-insert}

-- a look-up finds all that is granted on a port
granted_by_get : {P : Type 0} (rules : RulesOn P) (kept : FinMap nat_cmp Net) (port : ℕ) (right : NetRight) → entries kept ≡ rules.port_rules
    → granted_on_port rules port right ≡ option_map_or (λ set. has set right) (get kept port) false
unfolding granted_on_port
granted_by_get rules kept port right same =
    ap (λ (es : List (ℕ × Net)). list_any (λ rule. eqb port rule.0 && has rule.1 right) es) (sym same)
    ∙ any_at-get kept port (λ set. has set right)

has_nothing : (right : NetRight) → has no_right right ≡ false
unfolding has
has_nothing bind_tcp = refl
has_nothing right = refl

by_option : (rule : Option Net) (right : NetRight) → has (unwrap_or rule no_right) right ≡ option_map_or (λ set. has set right) rule false
by_option None right = has_nothing right
by_option (Some rule) right = refl

pub port_rule_found : {P : Type 0} (rules : RulesOn P) (kept : FinMap nat_cmp Net) (port : ℕ) (found : Net) → entries kept ≡ rules.port_rules
    → found ≡ unwrap_or (get kept port) no_right
    → (right : NetRight) → has found right ≡ granted_on_port rules port right
port_rule_found rules kept port found same is right =
    ap (λ (set : Net). has set right) is
    ∙ by_option (get kept port) right
    ∙ sym (granted_by_get rules kept port right same)

-- the rule of a port grants more
pub port_rule_put : {P : Type 0} (old new : RulesOn P) (kept : FinMap nat_cmp Net) (port : ℕ) (set had now : Net) → entries kept ≡ old.port_rules
    → new ≡ record old { port_rules = entries (insert kept port now) }
    → ((right : NetRight) → has had right ≡ granted_on_port old port right) → now ≡ united had set → GrantsOnPort old new port set
unfolding granted_on_port
port_rule_put {P} old new kept port set had now kept_old is was joined = record {
  kept_files = ap (λ (rules : RulesOn P). rules.handled_files) is;
  kept_network = ap (λ (rules : RulesOn P). rules.handled_network) is;
  kept_rules = ap (λ (rules : RulesOn P). rules.file_rules) is;
  grants = λ other right.
      ap (λ (rules : RulesOn P). list_any (λ rule. eqb other rule.0 && has rule.1 right) rules.port_rules) is
      ∙ any-insert port now (λ number. eqb other number) (λ rule. has rule right) (has set right) kept (passes right)
      ∙ ap (λ (es : List (ℕ × Net)). (eqb other port && has set right) || list_any (λ rule. eqb other rule.0 && has rule.1 right) es) kept_old;
}
  where
    passes : (right : NetRight) → has now right ≡ (option_map_or (λ rule. has rule right) (get kept port) false || has set right)
    passes right = ap (λ (rule : Net). has rule right) joined ∙ net_has-united had set right
        ∙ ap (λ (b : Bool). b || has set right) (was right ∙ granted_by_get old kept port right kept_old)
