-- Which calls create a ruleset or add a rule, and what is the same of both forms of a ruleset after it.
use Rattle.std.proofs.Common.{◌≡◌, ℕ, List, None, rules}
use Rattle.ll_rights.specs.declared.abi.Abi.{Abi}
use Rattle.ll_rights.specs.declared.fs.Fs.{Fs}
use Rattle.ll_rights.specs.declared.net.Net.{Net}
use Rattle.ll_rights.specs.Rights as files
use Rattle.ll_rights.specs.NetRights as network
use Rattle.ll_lines.specs.Paths.{Path}
use Rattle.ll_tree.specs.Trees.{Entry, path_at, place}
use Rattle.ll_tree.specs.declared.place.Place.{Place}
use Rattle.ll_tree.specs.declared.place.Place.TheVariants.{Node, Gap, Nowhere}
use Rattle.ll_rules.specs.Layers.{RulesOn, with_port_rule}
use Rattle.ll_rules.specs.KeptLayers.{SameRules, GrantsOnPort}
use Rattle.ll_rules.specs.InTree.{in_tree, AreInTree}
use Rattle.ll_rules.specs.Rulesets.{create_fault, add_path_refusal, add_port_refusal, with_rule_at}
use Rattle.ll_rules.proofs.SameLayers.{SameRules-trans, SameRules-with_file_rule, SameRules-with_port_rule, SameRules-from_port}
use Rattle.ll_trace.specs.declared.op.Op.TheVariants as calls
use Rattle.ll_semantics.specs.Answers.{answer, create_answer, add_path_answer, add_port_answer}
use Rattle.ll_semantics.specs.Effects.{effect}
use Rattle.ll_semantics.specs.RulesetOutcomes.{is_on_rulesets}
use Rattle.ll_semantics.specs.States.{Layer}
use Rattle.ll_rulebook.specs.Stores.{IsPathAdded}
use Rattle.ll_rulebook.specs.Passes.{IsSame, Creates}
use Rattle.ll_rulebook.proofs.Settling.{AddsTo}

module _ (tree : List Entry) (abi : Abi) (rs : ℕ) where
  pub create_creates : (fs : Fs) (net : Net) → create_fault abi fs net ≡ None → Creates tree abi rs fs net (calls.Create rs fs net)
  unfolding is_on_rulesets answer create_answer effect
  create_creates fs net no_fault = search rules

  pub create_empty_creates : Creates tree abi rs files.no_right network.no_right (calls.CreateEmpty rs)
  unfolding is_on_rulesets answer effect
  create_empty_creates = search rules

  pub path_adds : (path : List ℕ) (fs : Fs) → AddsTo tree abi (calls.AddPath rs path fs) rs (λ one. add_path_refusal tree one (place tree path) fs)
      (λ other. with_rule_at tree other (place tree path) fs)
  unfolding is_on_rulesets answer add_path_answer effect
  path_adds path fs = search rules

  pub port_adds : (port : ℕ) (net : Net)
      → AddsTo tree abi (calls.AddPort rs port net) rs (λ one. add_port_refusal abi one port net) (λ other. with_port_rule other port net)
  unfolding is_on_rulesets answer add_port_answer effect
  port_adds port net = search rules

same_with_rule_at : (tree : List Entry) (a b : RulesOn Path) (spot : Place) (rights : Fs) → SameRules a b
    → SameRules (with_rule_at tree a spot rights) (with_rule_at tree b spot rights)
same_with_rule_at tree a b (Node node) rights same = SameRules-with_file_rule a b (path_at tree node) rights same
same_with_rule_at tree a b (Gap node) rights same = same
same_with_rule_at tree a b Nowhere rights same = same

module _ (tree : List Entry) (one next : RulesOn ℕ) where
  pub path_stays : (spot : Place) (fs : Fs) → IsPathAdded tree spot fs one next
      → AreInTree tree next × ((other : Layer) → IsSame tree one other → IsSame tree next (with_rule_at tree other spot fs))
  path_stays spot fs added = (
    added.1,
    λ other same. SameRules-trans (in_tree tree next) (with_rule_at tree (in_tree tree one) spot fs) (with_rule_at tree other spot fs) added.0
        (same_with_rule_at tree (in_tree tree one) other spot fs same),
  )

  pub port_stays : (port : ℕ) (net : Net) → GrantsOnPort one next port net → AreInTree tree one
      → AreInTree tree next × ((other : Layer) → IsSame tree one other → IsSame tree next (with_port_rule other port net))
  port_stays port net added inside = (
    rw added.kept_rules inside,
    λ other same.
        SameRules-trans (in_tree tree next) (with_port_rule (in_tree tree one) port net) (with_port_rule other port net)
        (SameRules-from_port tree one next port net added) (SameRules-with_port_rule (in_tree tree one) other port net same),
  )
