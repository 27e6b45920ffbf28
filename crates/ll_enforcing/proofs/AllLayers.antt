-- What the calls for all layers do.
use Rattle.std.proofs.Common.{◌≡◌, ℕ, ◌+◌, ◌<◌, ◌≤◌, true, false, List, [], ◌∷◌, ◌++◌, map, reverse, length, Option, Some, None, refl, sym, ap, ◌∙◌, arith}
use Rattle.std.proofs.Common.{nat_le, nat_eq, All, subst, inl, inr}
use Rattle.std.specs.Map.{update}
use Rattle.std.specs.List.{flat_map}
use Rattle.std.proofs.lemmas.List.{append_assoc, append-nil, length-append, map-append, reverse-append}
use Rattle.std.proofs.lemmas.Simd.{map-map}
use Rattle.std.proofs.lemmas.Bool.{eq-eqb, ne_eqb, cases_eq}
use Rattle.std.proofs.lemmas.Bool.Decides.{nat_tests}
use Rattle.std.proofs.lemmas.List.Elements.{All-head, All-tail}
use Rattle.ll_rights.specs.declared.abi.Abi.{Abi}
use Rattle.ll_rights.specs.declared.fs.Fs.{Fs}
use Rattle.ll_rights.specs.declared.net.Net.{Net}
use Rattle.ll_tree.specs.Trees.{Entry, path_at, place}
use Rattle.ll_tree.specs.TreeFacts.{IsTree}
use Rattle.ll_rules.specs.declared.domain.TheConstants.{MOST_LAYERS}
use Rattle.ll_rules.specs.InTree.{node, rule_on_path, in_tree, all_in_tree}
use Rattle.ll_rules.specs.Layers.{without_rules, with_file_rule, with_port_rule}
use Rattle.ll_trace.specs.declared.op.Op.{Op}
use Rattle.ll_trace.specs.declared.op.Op.TheVariants.{Nnp, Create, Restrict, CloseRs}
use Rattle.ll_trace.specs.Processes.{is_starting}
use Rattle.ll_semantics.specs.declared.answer.Answer.{Answer}
use Rattle.ll_semantics.specs.declared.answer.Answer.TheVariants.{Allowed}
use Rattle.ll_semantics.specs.States.{State, Layer}
use Rattle.ll_semantics.specs.Answers.{answer}
use Rattle.ll_semantics.specs.Effects.{effect, with_held, with_layer}
use Rattle.ll_semantics.specs.CallContexts.{change, rules, state_by, rulesets_by}
use Rattle.ll_semantics.specs.Worlds.{World}
use Rattle.ll_fitting.specs.declared.fitting.FittedPortRule.{FittedPortRule}
use Rattle.ll_fitting.specs.Fitting.{Fitted}
use Rattle.ll_fitting.specs.Taken.{granted_by, rules_of}
use Rattle.ll_enforcing.specs.declared.calls.Call.{Call}
use Rattle.ll_enforcing.specs.declared.calls.Call.TheVariants as calls
use Rattle.ll_enforcing.specs.Calls.{calls_of_layer, calls_of, operation_of}
use Rattle.ll_enforcing.specs.Answered.{answer_of, answer_on, IsNoObject, HasGained, MayEnforce, IsEnforced}
use Rattle.ll_enforcing.proofs.Runs.{Leads, leads_none, leads_on, leads_allowed, answers_on, state_on, NoneStarts, judged_on, state_then_on, others_kept}
use Rattle.ll_enforcing.proofs.OneLayer.{with_granted, with_ports, IsSound, IsAskedOfPort, network_same, leads_create, leads_paths, leads_ports}
use Rattle.ll_enforcing.proofs.OneLayer.{leads_restrict, leads_close, path_operation, port_operation}

-- ---- a layer's rules, all at once

abbrev with_rules : Layer → List (List (List ℕ) × Fs) → List (ℕ × Net) → Layer
with_rules layer on_paths on_ports = record layer { file_rules = on_paths; port_rules = on_ports }

reversed : {X Y : Type 0} (f : X → Y) (x : X) (xs : List X) (ys : List Y) → map f (reverse xs) ++ f x ∷ ys ≡ map f (reverse (x ∷ xs)) ++ ys
reversed f x xs ys =
    sym (append_assoc (map f (reverse xs)) (f x ∷ []) ys) ∙ ap (λ zs. zs ++ ys) (sym (map-append f (reverse xs) (x ∷ [])))
    ∙ ap (λ zs. map f zs ++ ys) (sym (reverse-append (x ∷ []) xs))

granted_is : (tree : List Entry) (layer : Layer) (granted : List (ℕ × Fs))
    → with_granted tree layer granted ≡ with_rules layer (map (rule_on_path tree) (reverse granted) ++ layer.file_rules) layer.port_rules
granted_is tree layer [] = refl
granted_is tree layer (rule ∷ others) =
    granted_is tree (with_file_rule layer (path_at tree (node rule.0)) rule.1) others
    ∙ ap (λ on_paths. with_rules layer on_paths layer.port_rules) (reversed (rule_on_path tree) rule others layer.file_rules)

abbrev on_port : FittedPortRule → (ℕ × Net)
on_port rule = (rule.port, rule.rights)

ports_are : (layer : Layer) (asked : List FittedPortRule)
    → with_ports layer asked ≡ with_rules layer layer.file_rules (reverse (map on_port asked) ++ layer.port_rules)
ports_are layer [] = refl
ports_are layer (rule ∷ others) =
    ports_are (with_port_rule layer rule.port rule.rights) others
    ∙ ap (λ on_ports. with_rules layer layer.file_rules on_ports)
    (sym (append_assoc (reverse (map on_port others)) (on_port rule ∷ []) layer.port_rules)
    ∙ ap (λ zs. zs ++ layer.port_rules) (sym (reverse-append (on_port rule ∷ []) (map on_port others))))

-- the layer that a ruleset becomes with all its rules
abbrev pub filled : List Entry → Fitted → Layer
filled tree left = with_ports (with_granted tree (without_rules left.files left.network) (flat_map granted_by left.path_rules)) left.port_rules

pub filled_is : (tree : List Entry) (left : Fitted) → filled tree left ≡ in_tree tree (rules_of left)
unfolding rules_of
filled_is tree left =
    let empty : Layer = without_rules left.files left.network in
    let granted : List (ℕ × Fs) = flat_map granted_by left.path_rules in
    ap (λ (l : Layer). with_ports l left.port_rules) (granted_is tree empty granted)
    ∙ ports_are (with_rules empty (map (rule_on_path tree) (reverse granted) ++ []) []) left.port_rules
    ∙ ap (λ on_paths. with_rules empty on_paths (reverse (map on_port left.port_rules) ++ [])) (append-nil (map (rule_on_path tree) (reverse granted)))
    ∙ ap (λ on_ports. with_rules empty (map (rule_on_path tree) (reverse granted)) on_ports) (append-nil (reverse (map on_port left.port_rules)))

-- ---- one layer

-- what is made of the calls of a layer, one after another
pub mapped : {Z : Type 0} (f : Call → Z) (left : Fitted) → map f (calls_of_layer left)
    ≡ f (calls.CreateRuleset left.layer left.files left.network) ∷ (map (λ rule. f (calls.AddPath left.layer rule)) left.path_rules
    ++ map (λ rule. f (calls.AddPort left.layer rule)) left.port_rules ++ f (calls.RestrictSelf left.layer) ∷ f (calls.CloseRuleset left.layer) ∷ [])
unfolding calls_of_layer
mapped f left =
    let on_paths : List Call = map (λ rule. calls.AddPath left.layer rule) left.path_rules in
    let on_ports : List Call = map (λ rule. calls.AddPort left.layer rule) left.port_rules in
    let last : List Call = calls.RestrictSelf left.layer ∷ calls.CloseRuleset left.layer ∷ [] in
    ap (λ zs. f (calls.CreateRuleset left.layer left.files left.network) ∷ zs)
    (map-append f (on_paths ++ on_ports) last
    ∙ ap (λ zs. zs ++ map f last)
    (map-append f on_paths on_ports
    ∙ ap (λ zs. zs ++ map f on_ports) (map-map f (λ rule. calls.AddPath left.layer rule) left.path_rules)
    ∙ ap (λ zs. map (λ rule. f (calls.AddPath left.layer rule)) left.path_rules ++ zs) (map-map f (λ rule. calls.AddPort left.layer rule) left.port_rules)))

module _ (tree : List Entry) (abi : Abi) (missing : List ℕ) (rs : ℕ) where
  -- the state of a process that has a layer more
  abbrev pub after_layer : State → ℕ → Layer → State
  after_layer s index layer = with_held (with_layer (with_held s rs (Some index)) (Some layer)) rs None

  leads_layer : (r : List Layer) (s : State) (left : Fitted) → IsTree tree → IsNoObject (place tree missing) → IsSound tree abi missing rs left →
      s.held rs ≡ None → s.no_new_privs ≡ true → nat_le MOST_LAYERS (length s.domain) ≡ false
      → Leads tree abi r s (map (operation_of tree missing rs) (calls_of_layer left)) (map answer_of (calls_of_layer left))
      (r ++ in_tree tree (rules_of left) ∷ [])
      (after_layer s (length r) (in_tree tree (rules_of left)))
  unfolding operation_of answer_of
  leads_layer r s left is_tree not_listed sound free unprivileged room =
      let empty : Layer = without_rules left.files left.network in
      let granted : Layer = with_granted tree empty (flat_map granted_by left.path_rules) in
      let full : Layer = filled tree left in
      let holding : State = with_held s rs (Some (length r)) in
      let held : holding.held rs ≡ Some (length r) = rw (eq-eqb rs rs refl) refl in
      let path_ops : List Op = map (path_operation tree abi missing rs) left.path_rules in
      let port_ops : List Op = map (port_operation tree abi missing rs) left.port_rules in
      let path_answers : List Answer = map (λ rule. answer_on rule.parent rule.rights) left.path_rules in
      let port_answers : List Answer = map (λ rule. Allowed) left.port_rules in
      let ports : All (IsAskedOfPort tree abi missing rs granted.handled_network) left.port_rules =
      subst (λ (handled : Net). All (IsAskedOfPort tree abi missing rs handled) left.port_rules)
      (sym (network_same tree abi missing rs empty (flat_map granted_by left.path_rules))) sound.ports in
      let whole : Leads tree abi r s (Create rs left.files left.network ∷ (path_ops ++ port_ops ++ Restrict rs ∷ CloseRs rs ∷ []))
      (Allowed ∷ (path_answers ++ port_answers ++ Allowed ∷ Allowed ∷ [])) (r ++ full ∷ []) (after_layer s (length r) full) =
      leads_on tree abi _ _ _ s holding _ (Create rs left.files left.network ∷ []) (path_ops ++ port_ops ++ Restrict rs ∷ CloseRs rs ∷ []) (Allowed ∷ [])
      (path_answers ++ port_answers ++ Allowed ∷ Allowed ∷ []) (leads_create tree abi missing rs r s left.files left.network free sound.faultless)
      (leads_on tree abi _ _ _ holding holding _ (path_ops ++ port_ops) (Restrict rs ∷ CloseRs rs ∷ []) (path_answers ++ port_answers) (Allowed ∷ Allowed ∷ [])
      (leads_on tree abi _ _ _ holding holding holding path_ops port_ops path_answers port_answers
      (leads_paths tree abi missing rs r empty holding left.path_rules is_tree not_listed held sound.paths)
      (leads_ports tree abi missing rs r granted holding left.port_rules held ports))
      (leads_on tree abi _ _ _ holding (with_layer holding (Some full)) _ (Restrict rs ∷ []) (CloseRs rs ∷ []) (Allowed ∷ []) (Allowed ∷ [])
      (leads_restrict tree abi missing rs r full holding held unprivileged room)
      (leads_close tree abi missing rs (r ++ full ∷ []) (with_layer holding (Some full)) (length r) held))) in
      subst (λ (layer : Layer). Leads tree abi r s (map (operation_of tree missing rs) (calls_of_layer left)) (map answer_of (calls_of_layer left))
      (r ++ layer ∷ []) (after_layer s (length r) layer)) (filled_is tree left)
      (subst (λ (ops : List Op). Leads tree abi r s ops (map answer_of (calls_of_layer left)) (r ++ full ∷ []) (after_layer s (length r) full))
      (sym (mapped (operation_of tree missing rs) left))
      (subst (λ (answers : List Answer). Leads tree abi r s
      (Create rs left.files left.network ∷ (path_ops ++ port_ops ++ Restrict rs ∷ CloseRs rs ∷ [])) answers
      (r ++ full ∷ []) (after_layer s (length r) full)) (sym (mapped answer_of left)) whole))

  -- ---- all layers

  -- a number that is held and then closed is free again
  freed : (held : ℕ → Option ℕ) (index q : ℕ) → held rs ≡ None → update nat_eq (update nat_eq held rs (Some index)) rs None q ≡ held q
  freed held index q free = elim (cases_eq rs q) [
    | inl same ↦ rw (eq-eqb rs q same) (sym free ∙ ap held same)
    | inr other ↦ rw (ne_eqb rs q other) refl
  ]

  pub gained_more : (before s : State) (added : List Layer) (index : ℕ) (layer : Layer) → HasGained added before s → before.held rs ≡ None
      → HasGained (added ++ layer ∷ []) before (after_layer s index layer)
  gained_more before s added index layer gained free = record {
    domain = ap (λ (d : List Layer). d ++ layer ∷ []) gained.domain ∙ append_assoc before.domain added (layer ∷ []);
    no_new_privs = gained.no_new_privs;
    admin = gained.admin;
    held = λ q. freed s.held index q (gained.held rs ∙ free) ∙ gained.held q;
    descriptors = gained.descriptors;
  }

  pub has_room : (domain most : ℕ) → domain < most → nat_le most domain ≡ false
  has_room domain most less = grind (arith, nat_tests)

  abbrev LeadsToAll : List Layer → State → State → List Layer → List Fitted → State → Type 0
  LeadsToAll r before s added layers end =
      Leads tree abi r s (map (operation_of tree missing rs) (flat_map calls_of_layer layers)) (map answer_of (flat_map calls_of_layer layers))
      (r ++ all_in_tree tree (map rules_of layers)) end × HasGained (added ++ all_in_tree tree (map rules_of layers)) before end

  leads_layers : (r : List Layer) (before s : State) (added : List Layer) (layers : List Fitted) → IsTree tree → IsNoObject (place tree missing) →
      before.held rs ≡ None → HasGained added before s → length before.domain + length added + length layers ≤ MOST_LAYERS →
      All (IsSound tree abi missing rs) layers → (end : State) × LeadsToAll r before s added layers end
  leads_layers r before s added [] is_tree not_listed free gained room sound = (
    s,
    (
      subst (λ (x : List Layer). Leads tree abi r s [] [] x s) (sym (append-nil r)) (leads_none tree abi r s),
      subst (λ (x : List Layer). HasGained x before s) (sym (append-nil added)) gained,
    ),
  )
  leads_layers r before s added (left ∷ others) is_tree not_listed free gained room sound =
      let layer : Layer = in_tree tree (rules_of left) in
      let long : length s.domain ≡ length before.domain + length added = ap length gained.domain ∙ length-append before.domain added in
      let more : length (added ++ layer ∷ []) ≡ length added + 1 = length-append added (layer ∷ []) in
      let next : State = after_layer s (length r) layer in
      let first = leads_layer r s left is_tree not_listed (All-head (IsSound tree abi missing rs) left others sound) (gained.held rs ∙ free)
      gained.no_new_privs (has_room (length s.domain) MOST_LAYERS (omega arith)) in
      let last = leads_layers (r ++ layer ∷ []) before next (added ++ layer ∷ []) others is_tree not_listed free
      (gained_more before s added (length r) layer gained free) (omega arith) (All-tail (IsSound tree abi missing rs) left others sound) in
      let operation = operation_of tree missing rs in
      let ops : List Op = map operation (flat_map calls_of_layer others) in
      let answers : List Answer = map answer_of (flat_map calls_of_layer others) in
      let above : List Layer = all_in_tree tree (map rules_of others) in
      let whole = leads_on tree abi _ _ _ s next _ (map operation (calls_of_layer left)) ops (map answer_of (calls_of_layer left)) answers first last.1.0 in (
        last.0,
        (
          subst (λ (xs : List Layer). Leads tree abi r s (map operation (calls_of_layer left ++ flat_map calls_of_layer others))
              (map answer_of (calls_of_layer left ++ flat_map calls_of_layer others)) xs last.0) (append_assoc r (layer ∷ []) above)
              (subst (λ (xs : List Op). Leads tree abi r s xs (map answer_of (calls_of_layer left ++ flat_map calls_of_layer others))
              ((r ++ layer ∷ []) ++ above) last.0) (sym (map-append operation (calls_of_layer left) (flat_map calls_of_layer others)))
              (subst (λ (xs : List Answer). Leads tree abi r s (map operation (calls_of_layer left) ++ ops) xs ((r ++ layer ∷ []) ++ above) last.0)
              (sym (map-append answer_of (calls_of_layer left) (flat_map calls_of_layer others))) whole)),
          subst (λ (xs : List Layer). HasGained xs before last.0) (append_assoc added (layer ∷ []) above) last.1.1,
        ),
      )

  -- ---- the whole policy

  starts_none : (made : List Call) → NoneStarts tree abi (map (operation_of tree missing rs) made)
  unfolding operation_of is_starting
  starts_none [] = tt
  starts_none (calls.NoNewPrivs ∷ made) = (refl, starts_none made)
  starts_none (calls.CreateRuleset layer handled_files handled_network ∷ made) = (refl, starts_none made)
  starts_none (calls.AddPath layer rule ∷ made) = (refl, starts_none made)
  starts_none (calls.AddPort layer rule ∷ made) = (refl, starts_none made)
  starts_none (calls.RestrictSelf layer ∷ made) = (refl, starts_none made)
  starts_none (calls.CloseRuleset layer ∷ made) = (refl, starts_none made)

  pub ends : (r r' : List Layer) (s s' : State) (ops : List Op) (answers : List Answer) → Leads tree abi r s ops answers r' s'
      → (answers_on tree abi r s ops ≡ answers) × (state_on tree abi r s ops ≡ s')
  ends r r' s s' ops answers leads = (
    ap (answers_on tree abi r s) (sym (append-nil ops)) ∙ leads.answered [] ∙ append-nil answers,
    ap (state_on tree abi r s) (sym (append-nil ops)) ∙ leads.leaves_state [],
  )

  abbrev pub unprivileged : State → State
  unprivileged s = record s { no_new_privs = true }

  pub leads_nnp : (r : List Layer) (s : State) → Leads tree abi r s (Nnp ∷ []) (Allowed ∷ []) r (unprivileged s)
  unfolding answer rules change effect state_by rulesets_by
  leads_nnp r s = leads_allowed tree abi r r s _ Nnp refl refl refl

  pub enforced : (process : ℕ) (layers : List Fitted) (w : World) → MayEnforce tree missing rs process layers w → All (IsSound tree abi missing rs) layers
      → IsEnforced tree missing rs abi process layers w
  unfolding calls_of operation_of answer_of
  enforced process layers w may sound =
      let s : State = w.processes process in
      let gained : HasGained [] s (unprivileged s) =
      record { domain = sym (append-nil s.domain); no_new_privs = refl; admin = refl; held = λ q. refl; descriptors = refl } in
      let all = leads_layers w.rulesets s (unprivileged s) [] layers may.is_tree may.not_listed may.free gained
      (let room : length s.domain + length layers ≤ MOST_LAYERS = may.room in omega arith) sound in
      let made : List Call = calls.NoNewPrivs ∷ flat_map calls_of_layer layers in
      let ops : List Op = map (operation_of tree missing rs) made in
      let whole : Leads tree abi w.rulesets s ops (map answer_of made) _ all.0 =
      leads_on tree abi _ _ _ s (unprivileged s) _ (Nnp ∷ []) (map (operation_of tree missing rs) (flat_map calls_of_layer layers)) (Allowed ∷ [])
      (map answer_of (flat_map calls_of_layer layers)) (leads_nnp w.rulesets s) all.1.0 in
      let end = ends _ _ s all.0 ops (map answer_of made) whole in
      record {
        answers = judged_on tree abi w process ops may.started (starts_none made) ∙ end.0;
        own = subst (λ (t : State). HasGained (all_in_tree tree (map rules_of layers)) s t)
            (sym (state_then_on tree abi w process ops may.started (starts_none made) ∙ end.1)) all.1.1;
        others = λ other started differs. others_kept tree abi w process other ops started differs (starts_none made);
      }
