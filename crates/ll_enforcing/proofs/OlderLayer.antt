-- What the calls do for a layer that was left at a newer version and is made at best effort at an older one.
use Rattle.std.proofs.Common.{◌≡◌, ℕ, ◌≤◌, Bool, true, false, not, ◌&&◌, ◌||◌, List, [], ◌∷◌, ◌++◌, map, length, Option, Some, None, refl, sym, ap, ◌∙◌}
use Rattle.std.proofs.Common.{if◌then◌else◌, subst, All, nat_le}
use Rattle.std.specs.List.{flat_map, enumerate_from}
use Rattle.std.proofs.lemmas.Bool.{true≢false, eq-eqb, and_parts}
use Rattle.std.proofs.lemmas.List.{map-append}
use Rattle.std.proofs.lemmas.List.Concat.{flat_map-append}
use Rattle.std.proofs.lemmas.List.Elements.{All-head, All-tail}
use Rattle.std.proofs.lemmas.List.Folds.{list_any-append}
use Rattle.ll_rights.specs.declared.abi.Abi.{Abi}
use Rattle.ll_rights.specs.declared.fs.Fs.{Fs}
use Rattle.ll_rights.specs.declared.net.Net.{Net}
use Rattle.ll_rights.specs.Abis.{number_of}
use Rattle.ll_rights.specs.Supported.{supported_fs, supported_net}
use Rattle.ll_rights.specs.Rights as files
use Rattle.ll_rights.specs.NetRights as network
use Rattle.ll_rights.proofs.Supported.{fs_supported-older, net_supported-older}
use Rattle.ll_tree.specs.Trees.{Entry, place}
use Rattle.ll_tree.specs.TreeFacts.{IsTree}
use Rattle.ll_rules.proofs.Booleans.{or_false}
use Rattle.ll_rules.specs.declared.domain.TheConstants.{MOST_LAYERS}
use Rattle.ll_rules.specs.InTree.{in_tree}
use Rattle.ll_rules.specs.Layers.{without_rules}
use Rattle.ll_trace.specs.declared.op.Op.{Op}
use Rattle.ll_trace.specs.declared.op.Op.TheVariants.{Create, CreateEmpty, Restrict, CloseRs}
use Rattle.ll_trace.specs.BestEffort.{at_best_effort}
use Rattle.ll_semantics.specs.declared.answer.Answer.TheVariants.{Allowed}
use Rattle.ll_semantics.specs.States.{State, Layer}
use Rattle.ll_semantics.specs.Answers.{answer, if_free}
use Rattle.ll_semantics.specs.Effects.{effect, with_held, with_layer}
use Rattle.ll_semantics.specs.CallContexts.{change, rules, state_by, rulesets_by}
use Rattle.ll_fitting.specs.declared.written.PathRule.{PathRule}
use Rattle.ll_fitting.specs.declared.written.PortRule.{PortRule}
use Rattle.ll_fitting.specs.declared.written.Parent.{Parent}
use Rattle.ll_fitting.specs.declared.fitting.FittedPathRule.{FittedPathRule}
use Rattle.ll_fitting.specs.declared.fitting.FittedPortRule.{FittedPortRule}
use Rattle.ll_rights.specs.Families.{for_files, for_network, common}
use Rattle.ll_fitting.specs.Written as policies
use Rattle.ll_fitting.specs.Written.{listed}
use Rattle.ll_fitting.specs.Fitting.{left_of, rights_at, rights_on_port, fitted_path_rule, fitted_port_rule, fitted_path_rules, fitted_port_rules}
use Rattle.ll_fitting.specs.Fitting.{handled_at, handled_files, handled_network, fitted_layer}
use Rattle.ll_fitting.specs.Taken.{is_refused, granted_by, rules_of}
use Rattle.ll_fitting.proofs.Left.{on_within, port_valid, AreFit, IsAskedOnPort, created}
use Rattle.ll_enforcing.specs.declared.calls.Call.{Call}
use Rattle.ll_enforcing.specs.Calls.{operation_of, calls_of_layer}
use Rattle.ll_enforcing.specs.Answered.{IsListed, IsNoObject}
use Rattle.ll_enforcing.proofs.Runs.{leads_allowed}
use Rattle.ll_enforcing.proofs.OneLayer.{with_granted, with_granted-append, handles_same, network_same, with_ports, IsAskedOfPort, leads_create}
use Rattle.ll_enforcing.proofs.OneLayer.{leads_restrict, leads_close}
use Rattle.ll_enforcing.proofs.AllLayers.{filled, filled_is, mapped, after_layer}
use Rattle.ll_enforcing.proofs.OlderRights.{older_rights, net_supported_nothing, is_zero, net_is_zero}
use Rattle.ll_enforcing.proofs.OlderRules.{Goes, goes_none, goes_one, goes_on, all_left, all_right, any_refused, best_path, best_port, IsSame}
use Rattle.ll_enforcing.proofs.OlderRules.{goes_rule, goes_port_by}

-- ---- a rule that is left, or isn't

listed_of : (tree : List Entry) (b : Bool) (index : ℕ) (parent : Parent) (rights : Fs)
    → All (λ (rule : FittedPathRule). IsListed tree rule.parent) (if b then [] else record { rule = index; parent = parent; rights = rights } ∷ [])
    → b ≡ false → IsListed tree parent
listed_of tree true index parent rights all some = absurd (true≢false some)
listed_of tree false index parent rights all some =
    All-head (λ (rule : FittedPathRule). IsListed tree rule.parent) (record { rule = index; parent = parent; rights = rights }) [] all

asked_of : (tree : List Entry) (abi : Abi) (missing : List ℕ) (rs : ℕ) (layer : policies.Layer)
    (known : network.has (listed for_network layer.handled_network) network.other ≡ false) (b : Bool) (index port : ℕ) (rights : Net)
    → All (IsAskedOnPort abi layer known) (if b then [] else record { rule = index; port = port; rights = rights } ∷ []) → b ≡ false
    → IsAskedOfPort tree abi missing rs (handled_network abi layer) (record { rule = index; port = port; rights = rights })
asked_of tree abi missing rs layer known true index port rights all some = absurd (true≢false some)
asked_of tree abi missing rs layer known false index port rights all some =
    let fits = All-head (IsAskedOnPort abi layer known) (record { rule = index; port = port; rights = rights }) [] all in
    record { known = fits.0; some = fits.1; within = fits.2; small = fits.3 }

with_ports-append : (layer : Layer) (a b : List FittedPortRule) → with_ports (with_ports layer a) b ≡ with_ports layer (a ++ b)
with_ports-append layer [] b = refl
with_ports-append layer (rule ∷ a) b = with_ports-append _ a b

ports_network : (layer : Layer) (asked : List FittedPortRule) → (with_ports layer asked).handled_network ≡ layer.handled_network
ports_network layer [] = refl
ports_network layer (rule ∷ others) = ports_network _ others

module _ (tree : List Entry) (older newer : Abi) (le : number_of older ≤ number_of newer) (missing : List ℕ) (rs : ℕ) (layer : policies.Layer) where
  -- ---- all rules for files

  same_rule : (known : files.has (listed for_files layer.handled_files) files.other ≡ false)
      (own : Layer) (numbered : ℕ × PathRule) → own.handled_files ≡ handled_files older layer →
      All (λ (rule : FittedPathRule). IsListed tree rule.parent) (fitted_path_rule newer layer numbered)
      → IsSame tree older missing rs own numbered.1.parent (rights_at newer layer numbered.1 numbered.1.parent)
      (rights_at older layer numbered.1 numbered.1.parent)
  unfolding fitted_path_rule
  same_rule known own numbered handles listed =
      let rule : PathRule = numbered.1 in
      record {
        keeps = older_rights older newer le layer rule rule.parent;
        listed = listed_of tree (files.is_empty (rights_at newer layer rule rule.parent)) numbered.0 rule.parent
            (rights_at newer layer rule rule.parent) listed;
        within = ap (λ (handled : Fs). files.is_within (rights_at older layer rule rule.parent) handled) handles
            ∙ on_within older layer known rule rule.parent;
      }

  goes_paths : (known : files.has (listed for_files layer.handled_files) files.other ≡ false)
      (before : List Layer) (own : Layer) (s : State) (xs : List (ℕ × PathRule)) → IsTree tree → IsNoObject (place tree missing) →
      s.held rs ≡ Some (length before) → own.handled_files ≡ handled_files older layer →
      All (λ (rule : FittedPathRule). IsListed tree rule.parent) (flat_map (fitted_path_rule newer layer) xs)
      → Goes tree older (any_refused (flat_map (fitted_path_rule older layer) xs)) (before ++ own ∷ []) s
      (map (best_path tree older missing rs) (flat_map (fitted_path_rule newer layer) xs))
      (before ++ with_granted tree own (flat_map granted_by (flat_map (fitted_path_rule older layer) xs)) ∷ []) s
  unfolding fitted_path_rule
  goes_paths known before own s [] is_tree not_listed held handles listed = goes_none tree older (before ++ own ∷ []) s
  goes_paths known before own s (numbered ∷ xs) is_tree not_listed held handles listed =
      let newest : List FittedPathRule = fitted_path_rule newer layer numbered in
      let here : List FittedPathRule = fitted_path_rule older layer numbered in
      let later : List FittedPathRule = flat_map (fitted_path_rule newer layer) xs in
      let others : List FittedPathRule = flat_map (fitted_path_rule older layer) xs in
      let next : Layer = with_granted tree own (flat_map granted_by here) in
      let first = goes_rule tree older missing rs before own s numbered.0 numbered.1.parent (rights_at newer layer numbered.1 numbered.1.parent)
      (rights_at older layer numbered.1 numbered.1.parent)
      is_tree not_listed held (same_rule known own numbered handles (all_left (λ (rule : FittedPathRule). IsListed tree rule.parent) newest later listed)) in
      let last = goes_paths known before next s xs is_tree not_listed held (handles_same tree older missing rs own (flat_map granted_by here) ∙ handles)
      (all_right (λ (rule : FittedPathRule). IsListed tree rule.parent) newest later listed) in
      subst (λ (b : Bool). Goes tree older b (before ++ own ∷ []) s
      (map (best_path tree older missing rs) (newest ++ later)) (before ++ with_granted tree own (flat_map granted_by (here ++ others)) ∷ []) s)
      (sym (list_any-append is_refused here others))
      (subst (λ (ops : List Op). Goes tree older (any_refused here || any_refused others) (before ++ own ∷ []) s ops
      (before ++ with_granted tree own (flat_map granted_by (here ++ others)) ∷ []) s)
      (sym (map-append (best_path tree older missing rs) newest later))
      (subst (λ (after : Layer). Goes tree older (any_refused here || any_refused others) (before ++ own ∷ []) s
      (map (best_path tree older missing rs) newest ++ map (best_path tree older missing rs) later)
      (before ++ after ∷ []) s)
      (with_granted-append tree own (flat_map granted_by here) (flat_map granted_by others)
      ∙ ap (with_granted tree own) (sym (flat_map-append granted_by here others)))
      (goes_on tree older _ _ _ _ _ s s s (map (best_path tree older missing rs) newest) (map (best_path tree older missing rs) later) first last)))

  -- ---- all rules for ports

  goes_port : (known : network.has (listed for_network layer.handled_network) network.other ≡ false)
      (before : List Layer) (own : Layer) (s : State) (numbered : ℕ × PortRule) → s.held rs ≡ Some (length before) →
      own.handled_network ≡ handled_network older layer → AreFit older layer known numbered
      → Goes tree older false (before ++ own ∷ []) s (map (best_port tree older missing rs) (fitted_port_rule newer layer numbered))
      (before ++ with_ports own (fitted_port_rule older layer numbered) ∷ []) s
  unfolding fitted_port_rule rights_on_port left_of
  goes_port known before own s numbered held handles fits =
      let rule : PortRule = numbered.1 in
      let both : Net = common for_network (listed for_network rule.allowed) (listed for_network layer.handled_network) in
      let same : supported_net older (supported_net newer both) ≡ supported_net older both = net_supported-older older newer both le in
      goes_port_by tree older missing rs _ _ before own s numbered.0 rule.port (supported_net newer both) (supported_net older both) held same
      (λ some. subst (λ (handled : Net). IsAskedOfPort tree older missing rs handled
      (record { rule = numbered.0; port = rule.port; rights = supported_net older both }))
      (sym handles) (asked_of tree older missing rs layer known _ numbered.0 rule.port (supported_net older both)
      (port_valid older layer known numbered fits) some))
      refl refl (λ empty. ap network.is_empty (sym same) ∙ net_supported_nothing older (supported_net newer both) empty)

  goes_ports : (known : network.has (listed for_network layer.handled_network) network.other ≡ false)
      (before : List Layer) (own : Layer) (s : State) (xs : List (ℕ × PortRule)) → s.held rs ≡ Some (length before) →
      own.handled_network ≡ handled_network older layer → All (AreFit older layer known) xs
      → Goes tree older false (before ++ own ∷ []) s (map (best_port tree older missing rs) (flat_map (fitted_port_rule newer layer) xs))
      (before ++ with_ports own (flat_map (fitted_port_rule older layer) xs) ∷ []) s
  goes_ports known before own s [] held handles fits = goes_none tree older (before ++ own ∷ []) s
  goes_ports known before own s (numbered ∷ xs) held handles fits =
      let newest : List FittedPortRule = fitted_port_rule newer layer numbered in
      let here : List FittedPortRule = fitted_port_rule older layer numbered in
      let later : List FittedPortRule = flat_map (fitted_port_rule newer layer) xs in
      let others : List FittedPortRule = flat_map (fitted_port_rule older layer) xs in
      let next : Layer = with_ports own here in
      let first = goes_port known before own s numbered held handles (All-head (AreFit older layer known) numbered xs fits) in
      let last = goes_ports known before next s xs held (ports_network own here ∙ handles) (All-tail (AreFit older layer known) numbered xs fits) in
      subst (λ (ops : List Op). Goes tree older false (before ++ own ∷ []) s ops (before ++ with_ports own (here ++ others) ∷ []) s)
      (sym (map-append (best_port tree older missing rs) newest later))
      (subst (λ (after : Layer). Goes tree older false (before ++ own ∷ []) s
      (map (best_port tree older missing rs) newest ++ map (best_port tree older missing rs) later)
      (before ++ after ∷ []) s) (with_ports-append own here others)
      (goes_on tree older _ _ _ _ _ s s s (map (best_port tree older missing rs) newest) (map (best_port tree older missing rs) later) first last))

  -- ---- the ruleset, which handles nothing where the older version knows nothing that the layer handles

  abbrev best_create : Op
  best_create = at_best_effort older (Create rs (handled_files newer layer) (handled_network newer layer))

  created_empty : (a b c : Bool) (x y : Op) → (a && b) ≡ true → c ≡ false → (if a && b && not c then x else y) ≡ x
  created_empty true true false x y is some = refl
  created_empty true true true x y is some = absurd (cc)
  created_empty true false c x y is some = absurd (cc)
  created_empty false b c x y is some = absurd (cc)

  created_some : (a b c : Bool) (x y : Op) → (a && b) ≡ false → (if a && b && not c then x else y) ≡ y
  created_some true true c x y is = absurd (cc)
  created_some true false c x y is = refl
  created_some false b c x y is = refl

  files_left : supported_fs older (handled_files newer layer) ≡ handled_files older layer
  unfolding handled_at
  files_left = fs_supported-older older newer (listed for_files layer.handled_files) le

  network_left : supported_net older (handled_network newer layer) ≡ handled_network older layer
  unfolding handled_at
  network_left = net_supported-older older newer (listed for_network layer.handled_network) le

  empty_op : (files.is_empty (handled_files older layer) && network.is_empty (handled_network older layer)) ≡ true
      → (files.is_empty (handled_files newer layer) && network.is_empty (handled_network newer layer)) ≡ false → best_create ≡ CreateEmpty rs
  unfolding at_best_effort
  empty_op none some =
      created_empty (files.is_empty (supported_fs older (handled_files newer layer))) (network.is_empty (supported_net older (handled_network newer layer)))
      (files.is_empty (handled_files newer layer) && network.is_empty (handled_network newer layer)) (CreateEmpty rs)
      (Create rs (supported_fs older (handled_files newer layer)) (supported_net older (handled_network newer layer)))
      (ap (λ (set : Fs). files.is_empty set && network.is_empty (supported_net older (handled_network newer layer))) files_left
      ∙ ap (λ (set : Net). files.is_empty (handled_files older layer) && network.is_empty set) network_left ∙ none) some

  some_op : (files.is_empty (handled_files older layer) && network.is_empty (handled_network older layer)) ≡ false
      → best_create ≡ Create rs (handled_files older layer) (handled_network older layer)
  unfolding at_best_effort
  some_op some =
      created_some (files.is_empty (supported_fs older (handled_files newer layer))) (network.is_empty (supported_net older (handled_network newer layer)))
      (files.is_empty (handled_files newer layer) && network.is_empty (handled_network newer layer)) (CreateEmpty rs)
      (Create rs (supported_fs older (handled_files newer layer)) (supported_net older (handled_network newer layer)))
      (ap (λ (set : Fs). files.is_empty set && network.is_empty (supported_net older (handled_network newer layer))) files_left
      ∙ ap (λ (set : Net). files.is_empty (handled_files older layer) && network.is_empty set) network_left ∙ some)
      ∙ ap (λ (set : Fs). Create rs set (supported_net older (handled_network newer layer))) files_left
      ∙ ap (λ (set : Net). Create rs (handled_files older layer) set) network_left

  goes_create_empty : (r : List Layer) (s : State) → s.held rs ≡ None
      → Goes tree older false r s (CreateEmpty rs ∷ []) (r ++ without_rules files.no_right network.no_right ∷ []) (with_held s rs (Some (length r)))
  unfolding answer rules change effect state_by rulesets_by
  goes_create_empty r s free =
      goes_one tree older r _ s _ (CreateEmpty rs) Allowed
      (leads_allowed tree older r _ s _ (CreateEmpty rs) (ap (λ (held : Option ℕ). if_free held Allowed) free) refl refl)

  goes_create : (none : Bool) (r : List Layer) (s : State) → s.held rs ≡ None → files.has (listed for_files layer.handled_files) files.other ≡ false →
      network.has (listed for_network layer.handled_network) network.other ≡ false →
      (files.is_empty (handled_files newer layer) && network.is_empty (handled_network newer layer)) ≡ false →
      (files.is_empty (handled_files older layer) && network.is_empty (handled_network older layer)) ≡ none
      → Goes tree older false r s (best_create ∷ []) (r ++ without_rules (handled_files older layer) (handled_network older layer) ∷ [])
      (with_held s rs (Some (length r)))
  goes_create true r s free known known_on_ports some none =
      let parts = and_parts (files.is_empty (handled_files older layer)) (network.is_empty (handled_network older layer)) none in
      subst (λ (op : Op). Goes tree older false r s (op ∷ []) (r ++ without_rules (handled_files older layer) (handled_network older layer) ∷ [])
      (with_held s rs (Some (length r))))
      (sym (empty_op none some))
      (subst (λ (own : Layer). Goes tree older false r s (CreateEmpty rs ∷ []) (r ++ own ∷ []) (with_held s rs (Some (length r))))
      (ap (λ (n : ℕ). without_rules (record { 0 = n }) network.no_right) (sym (is_zero (handled_files older layer) parts.0))
      ∙ ap (λ (n : ℕ). without_rules (handled_files older layer) (record { 0 = n })) (sym (net_is_zero (handled_network older layer) parts.1)))
      (goes_create_empty r s free))
  goes_create false r s free known known_on_ports some none =
      subst (λ (op : Op). Goes tree older false r s (op ∷ []) (r ++ without_rules (handled_files older layer) (handled_network older layer) ∷ [])
      (with_held s rs (Some (length r))))
      (sym (some_op none))
      (goes_one tree older r _ s _ (Create rs (handled_files older layer) (handled_network older layer)) Allowed
      (leads_create tree older missing rs r s (handled_files older layer) (handled_network older layer) free
      (created older layer known known_on_ports none)))

  -- ---- the whole layer

  abbrev pub best : Call → Op
  best call = at_best_effort older (operation_of tree missing rs call)

  pub goes_layer : (r : List Layer) (s : State) (index : ℕ) → (known : files.has (listed for_files layer.handled_files) files.other ≡ false) →
      (known_on_ports : network.has (listed for_network layer.handled_network) network.other ≡ false) →
      All (AreFit older layer known_on_ports) (enumerate_from 0 layer.port_rules) → IsTree tree → IsNoObject (place tree missing) →
      All (λ (rule : FittedPathRule). IsListed tree rule.parent) (fitted_path_rules newer layer) →
      (files.is_empty (handled_files newer layer) && network.is_empty (handled_network newer layer)) ≡ false →
      s.held rs ≡ None → s.no_new_privs ≡ true → nat_le MOST_LAYERS (length s.domain) ≡ false
      → Goes tree older (any_refused (fitted_path_rules older layer)) r s (map best (calls_of_layer (fitted_layer newer index layer)))
      (r ++ in_tree tree (rules_of (fitted_layer older index layer)) ∷ [])
      (after_layer tree older missing rs s (length r) (in_tree tree (rules_of (fitted_layer older index layer))))
  unfolding operation_of fitted_path_rules fitted_port_rules at_best_effort
  goes_layer r s index known known_on_ports fits is_tree not_listed listed some free unprivileged room =
      let empty : Layer = without_rules (handled_files older layer) (handled_network older layer) in
      let granted : Layer = with_granted tree empty (flat_map granted_by (fitted_path_rules older layer)) in
      let full : Layer = filled tree (fitted_layer older index layer) in
      let holding : State = with_held s rs (Some (length r)) in
      let held : holding.held rs ≡ Some (length r) = rw (eq-eqb rs rs refl) refl in
      let path_ops : List Op = map (best_path tree older missing rs) (fitted_path_rules newer layer) in
      let port_ops : List Op = map (best_port tree older missing rs) (fitted_port_rules newer layer) in
      let refused : Bool = any_refused (fitted_path_rules older layer) in
      let whole : Goes tree older ((refused || false) || false) r s (best_create ∷ (path_ops ++ port_ops ++ Restrict rs ∷ CloseRs rs ∷ [])) (r ++ full ∷ [])
      (after_layer tree older missing rs s (length r) full) =
      goes_on tree older _ _ _ _ _ s holding _ (best_create ∷ []) (path_ops ++ port_ops ++ Restrict rs ∷ CloseRs rs ∷ [])
      (goes_create _ r s free known known_on_ports some refl)
      (goes_on tree older _ _ _ _ _ holding holding _ (path_ops ++ port_ops) (Restrict rs ∷ CloseRs rs ∷ [])
      (goes_on tree older _ _ _ _ _ holding holding holding path_ops port_ops
      (goes_paths known r empty holding (enumerate_from 0 layer.path_rules) is_tree not_listed held refl listed)
      (goes_ports known_on_ports r granted holding (enumerate_from 0 layer.port_rules) held
      (network_same tree older missing rs empty (flat_map granted_by (fitted_path_rules older layer))) fits))
      (goes_on tree older _ _ _ _ _ holding (with_layer holding (Some full)) _ (Restrict rs ∷ []) (CloseRs rs ∷ [])
      (goes_one tree older _ _ holding _ (Restrict rs) Allowed (leads_restrict tree older missing rs r full holding held unprivileged room))
      (goes_one tree older _ _ _ _ (CloseRs rs) Allowed
      (leads_close tree older missing rs (r ++ full ∷ []) (with_layer holding (Some full)) (length r) held)))) in
      subst (λ (b : Bool). Goes tree older b r s (map best (calls_of_layer (fitted_layer newer index layer)))
      (r ++ in_tree tree (rules_of (fitted_layer older index layer)) ∷ [])
      (after_layer tree older missing rs s (length r) (in_tree tree (rules_of (fitted_layer older index layer)))))
      (or_false (refused || false) ∙ or_false refused)
      (subst (λ (own : Layer). Goes tree older ((refused || false) || false) r s (map best (calls_of_layer (fitted_layer newer index layer))) (r ++ own ∷ [])
      (after_layer tree older missing rs s (length r) own)) (filled_is tree (fitted_layer older index layer))
      (subst (λ (ops : List Op). Goes tree older ((refused || false) || false) r s ops (r ++ full ∷ []) (after_layer tree older missing rs s (length r) full))
      (sym (mapped best (fitted_layer newer index layer))) whole))
