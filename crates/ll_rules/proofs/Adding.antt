-- What rules grant once one more is there. The rules on one node, or one port, are kept as one.
use Rattle.std.proofs.Common.{◌≡◌, ℕ, ◌<◌, Bool, true, false, not, ◌&&◌, ◌||◌, eqb, ltb, List, [], ◌∷◌, map, length, refl, sym, ap, ◌∙◌}
use Rattle.std.specs.Prelude.{All}
use Rattle.std.specs.Option.{option_map_or}
use Rattle.std.specs.Ordering.{nat_cmp}
use Rattle.std.specs.List.{list_any}
use Rattle.std.specs.FinMap.{FinMap, entries, get, insert}
use Rattle.std.proofs.lemmas.Bool.{ltb-true, lt-ltb, or_right, or_parts, not-false}
use Rattle.std.proofs.lemmas.List.Elements.{All-head, All-tail, All-nil, All-cons}
use Rattle.ll_rights.specs.declared.fs.Fs.{Fs}
use Rattle.ll_rights.specs.declared.net.Net.{Net}
use Rattle.ll_rights.specs.Rights.{FsRight, has, united}
use Rattle.ll_rights.proofs.Sets.{fs_has-united}
use Rattle.ll_tree.specs.declared.place.NodeId.{NodeId}
use Rattle.ll_lines.specs.Paths.{Path, path_eq}
use Rattle.ll_tree.specs.declared.place.Place.{Place}
use Rattle.ll_tree.specs.declared.place.Place.TheVariants.{Node, Gap, Nowhere}
use Rattle.ll_tree.specs.Trees.{Entry, IsNode, path_at}
use Rattle.ll_tree.specs.TreeFacts.{IsPlace}
use Rattle.ll_rules.specs.Layers.{RulesOn, with_file_rule, granted_on_port, without_rules}
use Rattle.ll_rules.specs.KeptLayers.{SameRules, granted_on, granted_on_node, GrantsOn}
use Rattle.ll_rules.specs.InTree.{in_tree, rule_on_path, node, AreInTree, IsOfTree}
use Rattle.ll_rules.proofs.Lookups.{any_at-get, any-insert}
use Rattle.ll_rules.proofs.Booleans.{list_any-agree, list_any-map, and_true}

-- the rule of a node grants more
pub rule_put : (old new : RulesOn ℕ) (kept : FinMap nat_cmp Fs) (here : NodeId) (set had now : Fs) → entries kept ≡ old.file_rules
    → new ≡ record old { file_rules = entries (insert kept here.0 now) }
    → ((right : FsRight) → has had right ≡ granted_on_node old here right) → now ≡ united had set → GrantsOn old new here set
unfolding granted_on_node
rule_put old new kept here set had now kept_old is was joined = record {
  kept_files = ap (λ (rules : RulesOn ℕ). rules.handled_files) is;
  kept_network = ap (λ (rules : RulesOn ℕ). rules.handled_network) is;
  kept_ports = ap (λ (rules : RulesOn ℕ). rules.port_rules) is;
  grants = λ picks right.
      more picks (λ rule. has rule right) (has set right)
      (ap (λ (rule : Fs). has rule right) joined ∙ fs_has-united had set right ∙ ap (λ (b : Bool). b || has set right)
      (was right ∙ ap (λ (es : List (ℕ × Fs)). list_any (λ rule. eqb here.0 rule.0 && has rule.1 right) es) (sym kept_old)
      ∙ any_at-get kept here.0 (λ rule. has rule right)));
  places = λ picks.
      list_any-agree (λ rule. picks rule.0) (λ rule. picks rule.0 && true) (λ rule. sym (and_true (picks rule.0))) new.file_rules
      ∙ more picks (λ _. true) true (sym (or_right (option_map_or (λ _. true) (get kept here.0) false) true refl))
      ∙ ap (λ (b : Bool). b || list_any (λ rule. picks rule.0 && true) old.file_rules) (and_true (picks here.0))
      ∙ ap (λ (b : Bool). picks here.0 || b)
      (list_any-agree (λ rule. picks rule.0 && true) (λ rule. picks rule.0) (λ rule. and_true (picks rule.0)) old.file_rules);
}
  where
    more : (picks : ℕ → Bool) (p : Fs → Bool) (q : Bool) → p now ≡ (option_map_or p (get kept here.0) false || q)
        → list_any (λ rule. picks rule.0 && p rule.1) new.file_rules ≡ ((picks here.0 && q) || list_any (λ rule. picks rule.0 && p rule.1) old.file_rules)
    more picks p q passes =
        ap (λ (rules : RulesOn ℕ). list_any (λ rule. picks rule.0 && p rule.1) rules.file_rules) is
        ∙ any-insert here.0 now picks p q kept passes
        ∙ ap (λ (es : List (ℕ × Fs)). (picks here.0 && q) || list_any (λ rule. picks rule.0 && p rule.1) es) kept_old

-- ---- in a tree

granted_by_nodes : (tree : List Entry) (rules : RulesOn ℕ) (path : Path) (right : FsRight)
    → granted_on (in_tree tree rules) path right ≡ list_any (λ rule. path_eq (path_at tree (node rule.0)) path && has rule.1 right) rules.file_rules
unfolding granted_on
granted_by_nodes tree rules path right = list_any-map (λ rule. path_eq rule.0 path && has rule.1 right) (rule_on_path tree) rules.file_rules

pub one_rule_more : (tree : List Entry) (old new : RulesOn ℕ) (here : NodeId) (set : Fs) → GrantsOn old new here set
    → SameRules (in_tree tree new) (with_file_rule (in_tree tree old) (path_at tree here) set)
unfolding granted_on granted_on_port
one_rule_more tree old new here set more = record {
  same_files = more.kept_files;
  same_network = more.kept_network;
  same_on = λ path right.
      granted_by_nodes tree new path right
      ∙ more.grants (λ number. path_eq (path_at tree (node number)) path) right
      ∙ ap (λ (b : Bool). (path_eq (path_at tree here) path && has set right) || b) (sym (granted_by_nodes tree old path right));
  same_on_port = λ port right. rw more.kept_ports refl;
}

outside : List Entry → ℕ → Bool
outside tree number = not (ltb number (length tree))

none_outside : (tree : List Entry) (rules : List (ℕ × Fs)) → All (λ number. number < length tree) (map (λ rule. rule.0) rules)
    → list_any (λ rule. outside tree rule.0) rules ≡ false
unfolding outside
none_outside tree [] within = refl
none_outside tree (rule ∷ rules) within =
    rw (lt-ltb rule.0 (length tree) (All-head (λ (number : ℕ). number < length tree) rule.0 (map (λ other. other.0) rules) within))
    (none_outside tree rules (All-tail (λ (number : ℕ). number < length tree) rule.0 (map (λ other. other.0) rules) within))

all_within : (tree : List Entry) (rules : List (ℕ × Fs)) → list_any (λ rule. outside tree rule.0) rules ≡ false
    → All (λ number. number < length tree) (map (λ rule. rule.0) rules)
unfolding outside
all_within tree [] none = All-nil (λ (number : ℕ). number < length tree)
all_within tree (rule ∷ rules) none =
    let parts = or_parts (outside tree rule.0) (list_any (λ other. outside tree other.0) rules) none in
    All-cons (λ (number : ℕ). number < length tree) rule.0 (map (λ other. other.0) rules)
    (ltb-true rule.0 (length tree) (not-false (ltb rule.0 (length tree)) parts.0)) (all_within tree rules parts.1)

-- the rules are on nodes of the tree still
pub still_in_tree : (tree : List Entry) (old new : RulesOn ℕ) (here : NodeId) (set : Fs) → IsNode tree here → GrantsOn old new here set
    → AreInTree tree old → AreInTree tree new
unfolding outside
still_in_tree tree old new here set inside more within =
    all_within tree new.file_rules (more.places (outside tree) ∙ rw (lt-ltb here.0 (length tree) inside) (none_outside tree old.file_rules within))

-- what a text names is of the tree
pub place_of_tree : (tree : List Entry) (place : Place) → IsPlace tree place → IsOfTree tree place
place_of_tree tree (Node here) within = within
place_of_tree tree (Gap here) within = within.0
place_of_tree tree Nowhere within = tt

-- no rules are in every tree
pub no_rules_in_tree : (tree : List Entry) (files : Fs) (net : Net) → AreInTree tree (without_rules files net)
no_rules_in_tree tree files net = All-nil (λ (number : ℕ). number < length tree)
