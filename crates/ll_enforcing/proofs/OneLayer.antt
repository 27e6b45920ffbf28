-- What the calls for one layer do.
use Rattle.std.proofs.Common.{◌≡◌, ℕ, Bool, true, false, not, ◌&&◌, List, [], ◌∷◌, ◌++◌, map, length, Option, Some, None, refl, sym, ap, ◌∙◌}
use Rattle.std.proofs.Common.{if◌then◌else◌, nat_le, nat_lt, All, subst}
use Rattle.std.specs.Prelude.{slice_set, unwrap_or, option_map}
use Rattle.std.specs.List.{flat_map}
use Rattle.std.proofs.lemmas.List.{set_at}
use Rattle.std.proofs.lemmas.Bool.{eq-eqb, or_left}
use Rattle.ll_rights.specs.declared.abi.Abi.{Abi}
use Rattle.ll_rights.specs.declared.fs.Fs.{Fs}
use Rattle.ll_rights.specs.declared.net.Net.{Net}
use Rattle.ll_rights.specs.declared.net.TheConstants.{LARGEST_PORT}
use Rattle.ll_rights.specs.Rights as files
use Rattle.ll_rights.specs.NetRights as network
use Rattle.ll_rights.specs.declared.kind.Kind.{Kind}
use Rattle.ll_lines.specs.Paths.{text_of}
use Rattle.ll_lines.proofs.PathLaws.{path_of-text_of}
use Rattle.ll_tree.specs.Trees.{Entry, IsNode, path_at, is_dir, place, place_of, place_or_gap}
use Rattle.ll_tree.specs.TreeFacts.{IsTree}
use Rattle.ll_tree.proofs.Positions.{guessed_is}
use Rattle.std.proofs.lemmas.List.Elements.{All-head, All-tail}
use Rattle.ll_tree.specs.declared.place.NodeId.{NodeId}
use Rattle.ll_tree.specs.declared.place.Place.{Place}
use Rattle.ll_tree.specs.declared.place.Place.TheVariants as places
use Rattle.ll_rules.specs.declared.errno.Errno.TheVariants.{Inval, NoMsg, TooBig, Perm}
use Rattle.ll_rules.specs.declared.domain.TheConstants.{MOST_LAYERS}
use Rattle.ll_rules.specs.InTree.{node}
use Rattle.ll_rules.specs.Layers.{without_rules, with_file_rule, with_port_rule}
use Rattle.ll_rules.specs.Rulesets.{RuleRefusal, with_error, without_object, create_fault, are_file_rights, place_refusal, with_rule_at, has_ports}
use Rattle.ll_trace.specs.declared.op.Op.{Op}
use Rattle.ll_trace.specs.declared.op.Op.TheVariants.{Create, AddPath, AddPort, Restrict, CloseRs}
use Rattle.ll_trace.proofs.Numbers.{slice_get-push}
use Rattle.ll_semantics.specs.declared.answer.Answer.{Answer}
use Rattle.ll_semantics.specs.declared.answer.Answer.TheVariants.{Allowed}
use Rattle.ll_semantics.specs.States.{State, Layer}
use Rattle.ll_semantics.specs.Answers.{answer, named, unless, of_rule_refusal, create_answer, add_path_answer, add_port_answer, restrict_answer, if_there}
use Rattle.ll_semantics.specs.Answers.{fails, fails_by, may_restrict}
use Rattle.ll_semantics.specs.Effects.{effect, changed_at, with_held, with_layer}
use Rattle.ll_semantics.specs.CallContexts.{change, rules, state_by, rulesets_by}
use Rattle.ll_fitting.specs.declared.written.Parent.{Parent}
use Rattle.ll_fitting.specs.declared.written.Parent.TheVariants.{There, Missing}
use Rattle.ll_fitting.specs.declared.fitting.FittedPathRule.{FittedPathRule}
use Rattle.ll_fitting.specs.declared.fitting.FittedPortRule.{FittedPortRule}
use Rattle.ll_fitting.specs.Fitting.{Fitted}
use Rattle.ll_fitting.specs.Taken.{is_refused_on, granted_on, granted_by}
use Rattle.ll_enforcing.specs.Calls.{path_to}
use Rattle.ll_enforcing.specs.Answered.{answer_on, IsListed, IsNoObject}
use Rattle.ll_enforcing.proofs.Runs.{Leads, leads_none, leads_on, leads_allowed, leads_moot, leads_refused}

-- ---- the ruleset that is at the end of all

last_is : (before : List Layer) (layer : Layer) (held : Option ℕ) → held ≡ Some (length before) → named (before ++ layer ∷ []) held ≡ Some layer
last_is before layer held is = ap (named (before ++ layer ∷ [])) is ∙ slice_get-push before (length before) layer
    ∙ rw (eq-eqb (length before) (length before) refl) refl

last_changed : (before : List Layer) (layer : Layer) (held : Option ℕ) (f : Layer → Layer) → held ≡ Some (length before)
    → changed_at (before ++ layer ∷ []) held f ≡ before ++ f layer ∷ []
last_changed before layer held f is =
    ap (λ (h : Option ℕ). changed_at (before ++ layer ∷ []) h f) is
    ∙ ap (λ (one : Option Layer). unwrap_or (option_map (λ old. slice_set (before ++ layer ∷ []) (length before) (f old)) one) (before ++ layer ∷ []))
    (last_is before layer (Some (length before)) refl)
    ∙ set_at before layer [] (f layer) (length before) refl

-- ---- rules that are added, one after another

-- rules on objects that a layer gets, the newest first
abbrev pub with_granted : List Entry → Layer → List (ℕ × Fs) → Layer
with_granted tree layer [] = layer
with_granted tree layer (rule ∷ others) = with_granted tree (with_file_rule layer (path_at tree (node rule.0)) rule.1) others

abbrev pub with_ports : Layer → List FittedPortRule → Layer
with_ports layer [] = layer
with_ports layer (rule ∷ others) = with_ports (with_port_rule layer rule.port rule.rights) others

pub with_granted-append : (tree : List Entry) (layer : Layer) (a b : List (ℕ × Fs))
    → with_granted tree (with_granted tree layer a) b ≡ with_granted tree layer (a ++ b)
with_granted-append tree layer [] b = refl
with_granted-append tree layer (rule ∷ a) b = with_granted-append tree (with_file_rule layer (path_at tree (node rule.0)) rule.1) a b

-- the text of a node's path names the node
placed : (tree : List Entry) (here : NodeId) → IsTree tree → IsNode tree here → place tree (text_of (path_at tree here)) ≡ places.Node here
unfolding place place_of place_or_gap
placed tree here is_tree listed =
    ap (place_of tree) (path_of-text_of (path_at tree here) (is_tree.paths here listed))
    ∙ ap (place_or_gap tree (path_at tree here)) (sym (guessed_is tree (path_at tree here) here is_tree listed refl))

module _ (tree : List Entry) (abi : Abi) (missing : List ℕ) (rs : ℕ) where
  -- ---- a ruleset is created

  pub leads_create : (r : List Layer) (s : State) (handled_files : Fs) (handled_network : Net) → s.held rs ≡ None →
      create_fault abi handled_files handled_network ≡ None
      → Leads tree abi r s (Create rs handled_files handled_network ∷ []) (Allowed ∷ []) (r ++ without_rules handled_files handled_network ∷ [])
      (with_held s rs (Some (length r)))
  unfolding answer create_answer rules change effect state_by rulesets_by
  leads_create r s handled_files handled_network free faultless =
      leads_allowed tree abi r _ s _ (Create rs handled_files handled_network)
      (ap (create_answer abi handled_files handled_network) free ∙ ap unless faultless) refl refl

  -- ---- a rule on an object

  refusal_of_place : (empty within : Bool) (at_place : Option RuleRefusal) → empty ≡ false → within ≡ true
      → (if empty then Some (with_error NoMsg) else (if not within then Some (with_error Inval) else at_place)) ≡ at_place
  refusal_of_place true within at_place some all = absurd (cc)
  refusal_of_place false true at_place some all = refl
  refusal_of_place false false at_place some all = absurd (cc)

  at_no_object : (there : Place) (rights : Fs) → IsNoObject there → place_refusal tree there rights ≡ Some without_object
  at_no_object (places.Node here) rights none = absurd none
  at_no_object (places.Gap directory) rights none = refl
  at_no_object places.Nowhere rights none = refl

  by_test : (b : Bool) → of_rule_refusal (if b then Some (with_error Inval) else None) ≡ (if b then fails Inval else Allowed)
  by_test true = refl
  by_test false = refl

  -- what leads on, whether the kernel refuses the rule or not
  leads_tested : (b : Bool) (before : List Layer) (layer : Layer) (s : State) (path : List ℕ) (object : ℕ) (rights : Fs) → s.held rs ≡ Some (length before) →
      place tree path ≡ places.Node (node object) →
      answer tree abi (before ++ layer ∷ []) (AddPath rs path rights) s ≡ (if b then fails Inval else Allowed)
      → Leads tree abi (before ++ layer ∷ []) s (AddPath rs path rights ∷ []) ((if b then fails Inval else Allowed) ∷ [])
      (before ++ with_granted tree layer (if b then [] else (object, rights) ∷ []) ∷ []) s
  unfolding rules change effect state_by rulesets_by
  leads_tested true before layer s path object rights held is answered =
      leads_refused tree abi (before ++ layer ∷ []) s (AddPath rs path rights) Inval [] answered
  leads_tested false before layer s path object rights held is answered =
      leads_allowed tree abi (before ++ layer ∷ []) _ s s (AddPath rs path rights) answered
      (last_changed before layer (s.held rs) (λ old. with_rule_at tree old (place tree path) rights) held
      ∙ ap (λ (there : Place). before ++ with_rule_at tree layer there rights ∷ []) is) refl

  -- the answer where the ruleset handles all rights of the rule
  answered_by : (before : List Layer) (layer : Layer) (s : State) (path : List ℕ) (rights : Fs) → s.held rs ≡ Some (length before) →
      files.is_empty rights ≡ false → files.is_within rights layer.handled_files ≡ true
      → answer tree abi (before ++ layer ∷ []) (AddPath rs path rights) s ≡ of_rule_refusal (place_refusal tree (place tree path) rights)
  unfolding answer add_path_answer
  answered_by before layer s path rights held some within =
      ap (add_path_answer tree path rights) (last_is before layer (s.held rs) held)
      ∙ ap of_rule_refusal (refusal_of_place (files.is_empty rights) (files.is_within rights layer.handled_files)
      (place_refusal tree (place tree path) rights) some within)

  pub leads_path : (before : List Layer) (layer : Layer) (s : State) (parent : Parent) (rights : Fs) → IsTree tree → IsNoObject (place tree missing) →
      s.held rs ≡ Some (length before) → files.is_empty rights ≡ false → files.is_within rights layer.handled_files ≡ true → IsListed tree parent
      → Leads tree abi (before ++ layer ∷ []) s (AddPath rs (path_to tree missing parent) rights ∷ []) (answer_on parent rights ∷ [])
      (before ++ with_granted tree layer (granted_on parent rights) ∷ []) s
  leads_path before layer s (There object kind) rights is_tree not_listed held some within listed =
      let path : List ℕ = text_of (path_at tree (node object)) in
      let is : place tree path ≡ places.Node (node object) = placed tree (node object) is_tree listed.0 in
      leads_tested (is_refused_on (There object kind) rights) before layer s path object rights held is
      (answered_by before layer s path rights held some within
      ∙ ap (λ (there : Place). of_rule_refusal (place_refusal tree there rights)) is
      ∙ ap (λ (k : Kind). of_rule_refusal (if not (is_dir k) && not (are_file_rights rights) then Some (with_error Inval) else None)) listed.1
      ∙ by_test (is_refused_on (There object kind) rights))
  leads_path before layer s Missing rights is_tree not_listed held some within listed =
      leads_moot tree abi (before ++ layer ∷ []) s (AddPath rs missing rights)
      (answered_by before layer s missing rights held some within ∙ ap of_rule_refusal (at_no_object (place tree missing) rights not_listed))

  -- ---- all rules on objects

  -- a rule that asks for something, all of which is handled, on an object that is listed
  pub record IsAskedOf (handled : Fs) (rule : FittedPathRule) : Type 0 where
    pub some : files.is_empty rule.rights ≡ false
    pub within : files.is_within rule.rights handled ≡ true
    pub listed : IsListed tree rule.parent

  abbrev pub path_operation : FittedPathRule → Op
  path_operation rule = AddPath rs (path_to tree missing rule.parent) rule.rights

  pub handles_same : (layer : Layer) (granted : List (ℕ × Fs)) → (with_granted tree layer granted).handled_files ≡ layer.handled_files
  handles_same layer [] = refl
  handles_same layer (rule ∷ others) = handles_same (with_file_rule layer (path_at tree (node rule.0)) rule.1) others

  pub network_same : (layer : Layer) (granted : List (ℕ × Fs)) → (with_granted tree layer granted).handled_network ≡ layer.handled_network
  network_same layer [] = refl
  network_same layer (rule ∷ others) = network_same (with_file_rule layer (path_at tree (node rule.0)) rule.1) others

  pub leads_paths : (before : List Layer) (layer : Layer) (s : State) (asked : List FittedPathRule) → IsTree tree → IsNoObject (place tree missing) →
      s.held rs ≡ Some (length before) → All (IsAskedOf layer.handled_files) asked
      → Leads tree abi (before ++ layer ∷ []) s (map path_operation asked) (map (λ rule. answer_on rule.parent rule.rights) asked)
      (before ++ with_granted tree layer (flat_map granted_by asked) ∷ []) s
  unfolding granted_by
  leads_paths before layer s [] is_tree not_listed held all = leads_none tree abi (before ++ layer ∷ []) s
  leads_paths before layer s (rule ∷ others) is_tree not_listed held all =
      let first : IsAskedOf layer.handled_files rule = All-head (IsAskedOf layer.handled_files) rule others all in
      let granted : List (ℕ × Fs) = granted_on rule.parent rule.rights in
      let next : Layer = with_granted tree layer granted in
      let left : All (IsAskedOf next.handled_files) others =
      subst (λ (handled : Fs). All (IsAskedOf handled) others) (sym (handles_same layer granted)) (All-tail (IsAskedOf layer.handled_files) rule others all) in
      subst (λ (after : Layer). Leads tree abi (before ++ layer ∷ []) s (map path_operation (rule ∷ others))
      (map (λ rule. answer_on rule.parent rule.rights) (rule ∷ others)) (before ++ after ∷ []) s)
      (with_granted-append tree layer granted (flat_map granted_by others))
      (leads_on tree abi _ _ _ s s s (path_operation rule ∷ []) (map path_operation others) (answer_on rule.parent rule.rights ∷ [])
      (map (λ rule. answer_on rule.parent rule.rights) others)
      (leads_path before layer s rule.parent rule.rights is_tree not_listed held first.some first.within first.listed)
      (leads_paths before next s others is_tree not_listed held left))

  -- ---- rules for ports

  -- a rule that asks for something, all of which is handled, at a version that has rules for ports
  pub record IsAskedOfPort (handled : Net) (rule : FittedPortRule) : Type 0 where
    pub known : has_ports abi ≡ true
    pub some : network.is_empty rule.rights ≡ false
    pub within : network.is_within rule.rights handled ≡ true
    pub small : nat_lt LARGEST_PORT rule.port ≡ false

  abbrev pub port_operation : FittedPortRule → Op
  port_operation rule = AddPort rs rule.port rule.rights

  taken : (known empty within large : Bool) → known ≡ true → empty ≡ false → within ≡ true → large ≡ false
      → (if not known then Some (with_error Inval)
      else (if empty then Some (with_error NoMsg)
      else (if not within then Some (with_error Inval)
      else (if large then Some (with_error Inval) else None)))) ≡ None
  taken true false true false a b c d = refl
  taken true false true true a b c d = absurd (cc)
  taken true false false large a b c d = absurd (cc)
  taken true true within large a b c d = absurd (cc)
  taken false empty within large a b c d = absurd (cc)

  pub leads_port : (before : List Layer) (layer : Layer) (s : State) (rule : FittedPortRule) → s.held rs ≡ Some (length before) →
      IsAskedOfPort layer.handled_network rule
      → Leads tree abi (before ++ layer ∷ []) s (port_operation rule ∷ []) (Allowed ∷ []) (before ++ with_port_rule layer rule.port rule.rights ∷ []) s
  unfolding answer add_port_answer rules change effect state_by rulesets_by
  leads_port before layer s rule held asked =
      leads_allowed tree abi (before ++ layer ∷ []) _ s s (AddPort rs rule.port rule.rights)
      (ap (add_port_answer abi rule.port rule.rights) (last_is before layer (s.held rs) held)
      ∙ ap of_rule_refusal (taken (has_ports abi) (network.is_empty rule.rights) (network.is_within rule.rights layer.handled_network)
      (nat_lt LARGEST_PORT rule.port) asked.known asked.some asked.within asked.small))
      (last_changed before layer (s.held rs) (λ old. with_port_rule old rule.port rule.rights) held) refl

  pub leads_ports : (before : List Layer) (layer : Layer) (s : State) (asked : List FittedPortRule) → s.held rs ≡ Some (length before) →
      All (IsAskedOfPort layer.handled_network) asked
      → Leads tree abi (before ++ layer ∷ []) s (map port_operation asked) (map (λ rule. Allowed) asked) (before ++ with_ports layer asked ∷ []) s
  leads_ports before layer s [] held all = leads_none tree abi (before ++ layer ∷ []) s
  leads_ports before layer s (rule ∷ others) held all =
      leads_on tree abi _ _ _ s s s (port_operation rule ∷ []) (map port_operation others) (Allowed ∷ []) (map (λ rule. Allowed) others)
      (leads_port before layer s rule held (All-head (IsAskedOfPort layer.handled_network) rule others all))
      (leads_ports before (with_port_rule layer rule.port rule.rights) s others held (All-tail (IsAskedOfPort layer.handled_network) rule others all))

  -- ---- the ruleset becomes a layer

  restricted : (may full : Bool) (no_room no_leave : Answer) → may ≡ true → full ≡ false
      → (if may then (if full then no_room else Allowed) else no_leave) ≡ Allowed
  restricted true false no_room no_leave a b = refl
  restricted true true no_room no_leave a b = absurd (cc)
  restricted false full no_room no_leave a b = absurd (cc)

  -- one that can't gain privileges may restrict itself
  pub leads_restrict : (before : List Layer) (layer : Layer) (s : State) → s.held rs ≡ Some (length before) → s.no_new_privs ≡ true →
      nat_le MOST_LAYERS (length s.domain) ≡ false
      → Leads tree abi (before ++ layer ∷ []) s (Restrict rs ∷ []) (Allowed ∷ []) (before ++ layer ∷ []) (with_layer s (Some layer))
  unfolding answer restrict_answer rules change effect state_by rulesets_by
  leads_restrict before layer s held unprivileged room =
      leads_allowed tree abi (before ++ layer ∷ []) _ s _ (Restrict rs)
      (ap (restrict_answer s) (last_is before layer (s.held rs) held)
      ∙ restricted (may_restrict s) (nat_le MOST_LAYERS (length s.domain)) (fails_by layer TooBig) (fails_by layer Perm)
      (or_left s.no_new_privs s.admin unprivileged) room)
      refl (ap (with_layer s) (last_is before layer (s.held rs) held))

  pub leads_close : (r : List Layer) (s : State) (index : ℕ) → s.held rs ≡ Some index
      → Leads tree abi r s (CloseRs rs ∷ []) (Allowed ∷ []) r (with_held s rs None)
  unfolding answer rules change effect state_by rulesets_by
  leads_close r s index held = leads_allowed tree abi r r s _ (CloseRs rs) (ap (λ (h : Option ℕ). if_there h) held) refl refl

  -- ---- all calls of a layer

  -- what a version leaves of a layer is what the kernel takes
  pub record IsSound (left : Fitted) : Type 0 where
    pub faultless : create_fault abi left.files left.network ≡ None
    pub paths : All (IsAskedOf left.files) left.path_rules
    pub ports : All (IsAskedOfPort left.network) left.port_rules
