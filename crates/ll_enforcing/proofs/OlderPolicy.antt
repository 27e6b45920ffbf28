-- A policy's calls for a newer version, made at best effort at an older one, give the layers of the older version.
use Rattle.std.specs.Prelude.{option_map, get_or, find, nat_lt, ◌==◌}
use Rattle.std.proofs.Common.{◌≡◌, ℕ, ◌+◌, ◌≤◌, Bool, true, false, not, ◌&&◌, ◌||◌, List, []}
use Rattle.std.proofs.Common.{◌∷◌, ◌++◌, map, filter, length, Option, None, Some, refl, sym, ap, ◌∙◌}
use Rattle.std.proofs.Common.{arith, if◌then◌else◌, subst, inl, inr, All}
use Rattle.std.specs.List.{flat_map, enumerate_from, list_any}
use Rattle.std.specs.Option.{is_some, option_or}
use Rattle.std.proofs.lemmas.List.Folds.{list_any-append, list_any_none}
use Rattle.std.proofs.lemmas.Simd.{map-map}
use Rattle.std.proofs.lemmas.Bool.{cases_Bool, true≢false, false≢true, and_parts, and_from, and_left}
use Rattle.std.proofs.lemmas.List.{append-nil, append_assoc, map-append, length-append}
use Rattle.std.proofs.lemmas.List.Concat.{flat_map-append}
use Rattle.std.proofs.lemmas.List.Elements.{All-head, All-tail, filter-append}
use Rattle.ll_rights.specs.declared.abi.Abi.{Abi}
use Rattle.ll_rights.specs.Abis.{number_of}
use Rattle.ll_rights.specs.Supported.{supported_fs, supported_net}
use Rattle.ll_rights.specs.Rights as files
use Rattle.ll_rights.specs.NetRights as network
use Rattle.ll_rights.proofs.Supported.{fs_has-supported, fs_supported-older, net_supported-older}
use Rattle.ll_tree.specs.Trees.{Entry, place}
use Rattle.ll_tree.specs.TreeFacts.{IsTree}
use Rattle.ll_rules.proofs.Booleans.{or_false}
use Rattle.ll_rules.specs.declared.domain.TheConstants.{MOST_LAYERS}
use Rattle.ll_rules.specs.InTree.{in_tree, all_in_tree}
use Rattle.ll_rules.specs.Layers.{handles_nothing}
use Rattle.ll_trace.specs.declared.op.Op.{Op}
use Rattle.ll_trace.specs.declared.op.Op.TheVariants.{Nnp, Create, CreateEmpty, AddPath, AddPort, LeaveOutPath, LeaveOutPort}
use Rattle.ll_trace.specs.BestEffort.{at_best_effort}
use Rattle.ll_trace.specs.Processes.{is_starting}
use Rattle.ll_semantics.specs.declared.answer.Answer.TheVariants.{Allowed}
use Rattle.ll_semantics.specs.States.{State, Layer}
use Rattle.ll_semantics.specs.Worlds.{World, judged_from}
use Rattle.ll_semantics.specs.CallContexts.{world_after}
use Rattle.ll_fitting.specs.declared.fitting.FittedPathRule.{FittedPathRule}
use Rattle.ll_fitting.specs.declared.policy.TheConstants.{MOST_LAYERS as MOST_OF_POLICY}
use Rattle.ll_fitting.specs.declared.policy.Misfit.{Misfit}
use Rattle.ll_fitting.specs.declared.policy.Misfit.TheVariants as wrong
use Rattle.ll_rights.specs.Families.{for_files, for_network}
use Rattle.ll_fitting.specs.Written as policies
use Rattle.ll_fitting.specs.Written.{listed}
use Rattle.ll_fitting.specs.Misfits as misfits
use Rattle.ll_fitting.specs.Fitting.{Fitted, fitted, fitted_if_any, fitted_layer, fitted_path_rules, fitted_path_rule, rights_at, handled_files}
use Rattle.ll_fitting.specs.Fitting.{handled_at, handled_network}
use Rattle.ll_fitting.specs.Taken.{is_refused, rules_of, layers_of, first_refused}
use Rattle.ll_fitting.proofs.Left.{all_if, all_flat, none_or, none_told, told_none, fits_if, fits_in, named_alone, on_within, AreFit}
use Rattle.ll_enforcing.specs.declared.calls.Call.{Call}
use Rattle.ll_enforcing.specs.declared.calls.Call.TheVariants as calls
use Rattle.ll_enforcing.specs.Calls.{path_to, operation_of, calls_of_layer, calls_of}
use Rattle.ll_enforcing.specs.Answered.{is_refusal, IsListed, IsNoObject, HasGained, IsTheSame, MayEnforce, records_of, taken_at}
use Rattle.ll_enforcing.proofs.Runs.{NoneStarts, judged_on, state_then_on}
use Rattle.ll_enforcing.proofs.AllLayers.{after_layer, unprivileged, gained_more, has_room, ends, leads_nnp}
use Rattle.ll_enforcing.proofs.OlderRights.{within_nothing, supported_nothing, net_supported_nothing}
use Rattle.ll_enforcing.proofs.OlderRules.{Goes, goes_none, goes_one, goes_on, all_left, all_right, any_refused}
use Rattle.ll_enforcing.proofs.OlderLayer.{goes_layer}

-- ---- a layer of which an older version knows nothing has no rule there

abbrev Unrefused : FittedPathRule → Type 0
Unrefused rule = is_refused rule ≡ false

none_left : (P : FittedPathRule → Type 0) (abi : Abi) (layer : policies.Layer) → files.has (listed for_files layer.handled_files) files.other ≡ false →
    files.is_empty (handled_files abi layer) ≡ true → All P (fitted_path_rules abi layer)
unfolding fitted_path_rules fitted_path_rule handled_at
none_left P abi layer known empty =
    all_flat (λ numbered. Unit {0}) P (fitted_path_rule abi layer)
    (λ numbered there. all_if P (files.is_empty (rights_at abi layer numbered.1 numbered.1.parent)) _
    (λ some. absurd (true≢false (sym (within_nothing (rights_at abi layer numbered.1 numbered.1.parent)
    (supported_fs abi (listed for_files layer.handled_files))
    (fs_has-supported abi (listed for_files layer.handled_files) files.other ∙ and_left (files.has (listed for_files layer.handled_files) files.other) _ known)
    (on_within abi layer known numbered.1 numbered.1.parent) empty) ∙ some))))
    (enumerate_from 0 layer.path_rules) (λ k d less. tt)

module _ (tree : List Entry) (older newer : Abi) (le : number_of older ≤ number_of newer) (missing : List ℕ) (rs : ℕ) where
  -- what a program calls at best effort
  abbrev best_call : Call → Op
  best_call call = at_best_effort older (operation_of tree missing rs call)

  abbrev is_nothing : Abi → policies.Layer → Bool
  is_nothing abi layer = files.is_empty (handled_files abi layer) && network.is_empty (handled_network abi layer)

  -- the layers that were left at the newer version, as they are at the older one
  unfoldable kept_if : ℕ × policies.Layer → List Fitted
  kept_if numbered = if is_nothing newer numbered.1 then [] else fitted_layer older numbered.0 numbered.1 ∷ []

  abbrev Fit : ℕ × policies.Layer → Type 0
  Fit numbered = misfits.layer_misfit numbered ≡ None

  abbrev ListedIn : Fitted → Type 0
  ListedIn left = All (λ (rule : FittedPathRule). IsListed tree rule.parent) left.path_rules

  abbrev refuses_in : Fitted → Bool
  refuses_in left = any_refused left.path_rules

  -- what the calls for one layer do, if it was left
  goes_if : (none : Bool) (r : List Layer) (before s : State) (added : List Layer) (numbered : ℕ × policies.Layer) → IsTree tree
      → IsNoObject (place tree missing) →
      before.held rs ≡ None → HasGained added before s → is_nothing newer numbered.1 ≡ none →
      length before.domain + length added + length (if none then [] else fitted_layer newer numbered.0 numbered.1 ∷ []) ≤ MOST_LAYERS → Fit numbered →
      All ListedIn (if none then [] else fitted_layer newer numbered.0 numbered.1 ∷ [])
      → (end : State) × (Goes tree older (list_any refuses_in (if none then [] else fitted_layer older numbered.0 numbered.1 ∷ [])) r s
      (map (best_call) (flat_map calls_of_layer (if none then [] else fitted_layer newer numbered.0 numbered.1 ∷ [])))
      (r ++ all_in_tree tree (map rules_of (if none then [] else fitted_layer older numbered.0 numbered.1 ∷ []))) end
      × HasGained (added ++ all_in_tree tree (map rules_of (if none then [] else fitted_layer older numbered.0 numbered.1 ∷ []))) before end)
  unfolding misfits.layer_misfit fitted_if_any
  goes_if true r before s added numbered is_tree not_listed free gained is room fit there = (
    s,
    (
      subst (λ (x : List Layer). Goes tree older false r s [] x s) (sym (append-nil r)) (goes_none tree older r s),
      subst (λ (x : List Layer). HasGained x before s) (sym (append-nil added)) gained,
    ),
  )
  goes_if false r before s added numbered is_tree not_listed free gained is room fit there =
      let index : ℕ = numbered.0 in
      let layer : policies.Layer = numbered.1 in
      let own : Layer = in_tree tree (rules_of (fitted_layer older index layer)) in
      let parts = fits_if (misfits.knows_all layer) (misfits.handles_nothing layer) (wrong.UnknownRight index) (wrong.HandlesNothing index) _ fit in
      let names = named_alone (files.has (listed for_files layer.handled_files) files.other)
      (network.has (listed for_network layer.handled_network) network.other) parts.0 in
      let tell : ℕ × Rattle.ll_fitting.specs.declared.written.PortRule.PortRule → Option Misfit =
      λ one. option_map (λ misfit. wrong.PortRule index one.0 misfit) (misfits.port_rule_misfit layer one.1) in
      let rules = none_or (misfits.misfit_on_paths index layer) (misfits.misfit_on_ports index layer) parts.1 in
      let told = none_told tell (enumerate_from 0 layer.port_rules) rules.1 in
      let fits : All (AreFit older layer names.1) (enumerate_from 0 layer.port_rules) =
      λ k d less. told_none (λ misfit. wrong.PortRule index (get_or (enumerate_from 0 layer.port_rules) k d).0 misfit) _ (told k d less) in
      let long : length s.domain ≡ length before.domain + length added = ap length gained.domain ∙ length-append before.domain added in
      let goes = goes_layer tree older newer le missing rs layer r s index names.0 names.1 fits is_tree not_listed
      (All-head ListedIn (fitted_layer newer index layer) [] there) is (gained.held rs ∙ free) gained.no_new_privs
      (has_room tree older missing rs (length s.domain) MOST_LAYERS (omega arith)) in (
        after_layer tree older missing rs s (length r) own,
        (
          subst (λ (cs : List Call). Goes tree older (refuses_in (fitted_layer older index layer) || false) r s (map (best_call) cs) (r ++ own ∷ [])
              (after_layer tree older missing rs s (length r) own))
              (sym (append-nil (calls_of_layer (fitted_layer newer index layer))))
              (subst (λ (b : Bool). Goes tree older b r s (map (best_call) (calls_of_layer (fitted_layer newer index layer))) (r ++ own ∷ [])
              (after_layer tree older missing rs s (length r) own)) (sym (or_false (refuses_in (fitted_layer older index layer)))) goes),
          gained_more tree older missing rs before s added (length r) own gained free,
        ),
      )

  -- ---- all layers

  abbrev kept : List (ℕ × policies.Layer) → List Fitted
  kept xs = flat_map kept_if xs

  goes_head : (r : List Layer) (before s : State) (added : List Layer) (numbered : ℕ × policies.Layer) → IsTree tree → IsNoObject (place tree missing) →
      before.held rs ≡ None → HasGained added before s →
      length before.domain + length added + length (fitted_if_any newer numbered) ≤ MOST_LAYERS → Fit numbered →
      All ListedIn (fitted_if_any newer numbered)
      → (end : State) × (Goes tree older (list_any refuses_in (kept_if numbered)) r s (map best_call (flat_map calls_of_layer (fitted_if_any newer numbered)))
      (r ++ all_in_tree tree (map rules_of (kept_if numbered))) end
      × HasGained (added ++ all_in_tree tree (map rules_of (kept_if numbered))) before end)
  unfolding fitted_if_any kept_if
  goes_head r before s added numbered is_tree not_listed free gained room fit there =
      goes_if (is_nothing newer numbered.1) r before s added numbered is_tree not_listed free gained refl room fit there

  length-kept : (numbered : ℕ × policies.Layer) → length (all_in_tree tree (map rules_of (kept_if numbered))) ≡ length (fitted_if_any newer numbered)
  unfolding kept_if fitted_if_any
  length-kept numbered = by (is_nothing newer numbered.1)
    where
      by : (b : Bool) → length (all_in_tree tree (map rules_of (if b then [] else fitted_layer older numbered.0 numbered.1 ∷ [])))
          ≡ length (if b then [] else fitted_layer newer numbered.0 numbered.1 ∷ [])
      by true = refl
      by false = refl

  goes_layers : (r : List Layer) (before s : State) (added : List Layer) (xs : List (ℕ × policies.Layer)) → IsTree tree → IsNoObject (place tree missing) →
      before.held rs ≡ None → HasGained added before s →
      length before.domain + length added + length (flat_map (fitted_if_any newer) xs) ≤ MOST_LAYERS → All Fit xs →
      All ListedIn (flat_map (fitted_if_any newer) xs)
      → (end : State) × (Goes tree older (list_any refuses_in (kept xs)) r s (map best_call (flat_map calls_of_layer (flat_map (fitted_if_any newer) xs)))
      (r ++ all_in_tree tree (map rules_of (kept xs))) end
      × HasGained (added ++ all_in_tree tree (map rules_of (kept xs))) before end)
  goes_layers r before s added [] is_tree not_listed free gained room fit there = (
    s,
    (
      subst (λ (x : List Layer). Goes tree older false r s [] x s) (sym (append-nil r)) (goes_none tree older r s),
      subst (λ (x : List Layer). HasGained x before s) (sym (append-nil added)) gained,
    ),
  )
  goes_layers r before s added (numbered ∷ xs) is_tree not_listed free gained room fit there =
      let newest : List Fitted = fitted_if_any newer numbered in
      let later : List Fitted = flat_map (fitted_if_any newer) xs in
      let here : List Layer = all_in_tree tree (map rules_of (kept_if numbered)) in
      let above : List Layer = all_in_tree tree (map rules_of (kept xs)) in
      let size : length (newest ++ later) ≡ length newest + length later = length-append newest later in
      let own_size : length here ≡ length newest = length-kept numbered in
      let more : length (added ++ here) ≡ length added + length here = length-append added here in
      let first = goes_head r before s added numbered is_tree not_listed free gained (omega arith) (All-head Fit numbered xs fit)
      (all_left ListedIn newest later there) in
      let last = goes_layers (r ++ here) before first.0 (added ++ here) xs is_tree not_listed free first.1.1 (omega arith) (All-tail Fit numbered xs fit)
      (all_right ListedIn newest later there) in
      let refused : list_any refuses_in (kept_if numbered) || list_any refuses_in (kept xs) ≡ list_any refuses_in (kept_if numbered ++ kept xs) =
      sym (list_any-append refuses_in (kept_if numbered) (kept xs)) in
      let whole = goes_on tree older _ _ _ _ _ s first.0 last.0 (map best_call (flat_map calls_of_layer newest))
      (map best_call (flat_map calls_of_layer later)) first.1.0 last.1.0 in
      let joined : here ++ above ≡ all_in_tree tree (map rules_of (kept_if numbered ++ kept xs)) =
      sym (ap (all_in_tree tree) (map-append rules_of (kept_if numbered) (kept xs))
      ∙ map-append (in_tree tree) (map rules_of (kept_if numbered)) (map rules_of (kept xs))) in (
        last.0,
        (
          subst (λ (ops : List Op). Goes tree older (list_any refuses_in (kept_if numbered ++ kept xs)) r s ops
              (r ++ all_in_tree tree (map rules_of (kept_if numbered ++ kept xs))) last.0)
              (sym (ap (map best_call) (flat_map-append calls_of_layer newest later)
              ∙ map-append best_call (flat_map calls_of_layer newest) (flat_map calls_of_layer later)))
              (subst (λ (x : List Layer). Goes tree older (list_any refuses_in (kept_if numbered ++ kept xs)) r s
              (map best_call (flat_map calls_of_layer newest) ++ map best_call (flat_map calls_of_layer later)) x last.0)
              (append_assoc r here above ∙ ap (λ (x : List Layer). r ++ x) joined)
              (subst (λ (b : Bool). Goes tree older b r s
              (map best_call (flat_map calls_of_layer newest) ++ map best_call (flat_map calls_of_layer later)) ((r ++ here) ++ above) last.0) refused whole)),
          subst (λ (x : List Layer). HasGained x before last.0) (append_assoc added here above ∙ ap (λ (x : List Layer). added ++ x) joined) last.1.1,
        ),
      )

  -- ---- the layers that handle something

  abbrev handles_some : Layer → Bool
  handles_some layer = not (handles_nothing layer)

  filter_one : (none_newer none : Bool) (left : Fitted) → (none_newer ≡ true → none ≡ true) → handles_nothing (in_tree tree (rules_of left)) ≡ none
      → filter handles_some (all_in_tree tree (map rules_of (if none_newer then [] else left ∷ []))) ≡ all_in_tree tree
      (map rules_of (if none then [] else left ∷ []))
  filter_one true true left older_too is = refl
  filter_one true false left older_too is = absurd (false≢true (older_too refl))
  filter_one false true left older_too is = rw is refl
  filter_one false false left older_too is = rw is refl

  nothing_older : (layer : policies.Layer) → is_nothing newer layer ≡ true → is_nothing older layer ≡ true
  unfolding handled_at
  nothing_older layer none =
      let parts = and_parts _ _ none in
      and_from (files.is_empty (supported_fs older (listed for_files layer.handled_files)))
      (network.is_empty (supported_net older (listed for_network layer.handled_network)))
      (ap files.is_empty (sym (fs_supported-older older newer (listed for_files layer.handled_files) le))
      ∙ supported_nothing older (supported_fs newer (listed for_files layer.handled_files)) parts.0)
      (ap network.is_empty (sym (net_supported-older older newer (listed for_network layer.handled_network) le))
      ∙ net_supported_nothing older (supported_net newer (listed for_network layer.handled_network)) parts.1)

  filter_head : (numbered : ℕ × policies.Layer)
      → filter handles_some (all_in_tree tree (map rules_of (kept_if numbered))) ≡ all_in_tree tree (map rules_of (fitted_if_any older numbered))
  unfolding kept_if fitted_if_any rules_of
  filter_head numbered =
      filter_one (is_nothing newer numbered.1) (is_nothing older numbered.1) (fitted_layer older numbered.0 numbered.1) (nothing_older numbered.1) refl

  mapped_append : (a b : List Fitted) → all_in_tree tree (map rules_of (a ++ b)) ≡ all_in_tree tree (map rules_of a) ++ all_in_tree tree (map rules_of b)
  mapped_append a b = ap (all_in_tree tree) (map-append rules_of a b) ∙ map-append (in_tree tree) (map rules_of a) (map rules_of b)

  filter_all : (xs : List (ℕ × policies.Layer))
      → filter handles_some (all_in_tree tree (map rules_of (kept xs))) ≡ all_in_tree tree (map rules_of (flat_map (fitted_if_any older) xs))
  filter_all [] = refl
  filter_all (numbered ∷ xs) =
      ap (filter handles_some) (mapped_append (kept_if numbered) (kept xs))
      ∙ filter-append handles_some (all_in_tree tree (map rules_of (kept_if numbered))) (all_in_tree tree (map rules_of (kept xs)))
      ∙ ap (λ (zs : List Layer). zs ++ filter handles_some (all_in_tree tree (map rules_of (kept xs)))) (filter_head numbered)
      ∙ ap (λ (zs : List Layer). all_in_tree tree (map rules_of (fitted_if_any older numbered)) ++ zs) (filter_all xs)
      ∙ sym (mapped_append (fitted_if_any older numbered) (flat_map (fitted_if_any older) xs))

  -- ---- whether some is refused

  -- a layer of which the older version knows nothing has no rule there
  refused_one : (none_newer none : Bool) (index : ℕ) (layer : policies.Layer) → files.has (listed for_files layer.handled_files) files.other ≡ false →
      (none_newer ≡ true → none ≡ true) → is_nothing older layer ≡ none
      → list_any refuses_in (if none_newer then [] else fitted_layer older index layer ∷ [])
      ≡ list_any refuses_in (if none then [] else fitted_layer older index layer ∷ [])
  refused_one true true index layer known older_too is = refl
  refused_one true false index layer known older_too is = absurd (false≢true (older_too refl))
  refused_one false false index layer known older_too is = refl
  refused_one false true index layer known older_too is =
      or_false (any_refused (fitted_path_rules older layer))
      ∙ list_any_none is_refused (fitted_path_rules older layer) (none_left Unrefused older layer known (and_parts _ _ is).0)

  refused_head : (numbered : ℕ × policies.Layer) → Fit numbered → list_any refuses_in (kept_if numbered) ≡ list_any refuses_in (fitted_if_any older numbered)
  unfolding kept_if fitted_if_any misfits.layer_misfit
  refused_head numbered fit =
      let layer : policies.Layer = numbered.1 in
      let parts = fits_if (misfits.knows_all layer) (misfits.handles_nothing layer) (wrong.UnknownRight numbered.0) (wrong.HandlesNothing numbered.0) _ fit in
      let names = named_alone (files.has (listed for_files layer.handled_files) files.other)
      (network.has (listed for_network layer.handled_network) network.other) parts.0 in
      refused_one (is_nothing newer layer) (is_nothing older layer) numbered.0 layer names.0 (nothing_older layer) refl

  refused_all : (xs : List (ℕ × policies.Layer)) → All Fit xs → list_any refuses_in (kept xs) ≡ list_any refuses_in (flat_map (fitted_if_any older) xs)
  refused_all [] fit = refl
  refused_all (numbered ∷ xs) fit =
      list_any-append refuses_in (kept_if numbered) (kept xs)
      ∙ ap (λ (b : Bool). b || list_any refuses_in (kept xs)) (refused_head numbered (All-head Fit numbered xs fit))
      ∙ ap (λ (b : Bool). list_any refuses_in (fitted_if_any older numbered) || b) (refused_all xs (All-tail Fit numbered xs fit))
      ∙ sym (list_any-append refuses_in (fitted_if_any older numbered) (flat_map (fitted_if_any older) xs))

  some_found : (rules : List FittedPathRule) → is_some (find is_refused rules) ≡ any_refused rules
  some_found [] = refl
  some_found (rule ∷ others) = elim (cases_Bool (is_refused rule)) [
    | inl is ↦ rw is refl
    | inr not ↦ rw not (some_found others)
  ]

  some_of : {X Y : Type 0} (f : X → Y) (a : Option X) (b : Option Y) → is_some (option_or (option_map f a) b) ≡ (is_some a || is_some b)
  some_of f None b = refl
  some_of f (Some x) b = refl

  some_refused : (layers : List Fitted) → is_some (first_refused layers) ≡ list_any refuses_in layers
  unfolding misfits.first_of
  some_refused [] = refl
  some_refused (left ∷ others) =
      some_of _ (find is_refused left.path_rules) (first_refused others)
      ∙ ap (λ (b : Bool). b || is_some (first_refused others)) (some_found left.path_rules)
      ∙ ap (λ (b : Bool). any_refused left.path_rules || b) (some_refused others)

  one_of : (b : Bool) (x y : Op) → is_starting x ≡ false → is_starting y ≡ false → is_starting (if b then x else y) ≡ false
  one_of true x y first second = first
  one_of false x y first second = second

  starts_none : (made : List Call) → NoneStarts tree older (map best_call made)
  unfolding operation_of is_starting at_best_effort
  starts_none [] = tt
  starts_none (calls.NoNewPrivs ∷ made) = (refl, starts_none made)
  starts_none (calls.CreateRuleset layer handled on_ports ∷ made) =
      (one_of _ (CreateEmpty rs) (Create rs (supported_fs older handled) (supported_net older on_ports)) refl refl, starts_none made)
  starts_none (calls.AddPath layer rule ∷ made) = (
    one_of _ (LeaveOutPath (path_to tree missing rule.parent))
        (AddPath rs (path_to tree missing rule.parent) (supported_fs older rule.rights)) refl refl,
    starts_none made,
  )
  starts_none (calls.AddPort layer rule ∷ made) = (one_of _ LeaveOutPort (AddPort rs rule.port (supported_net older rule.rights)) refl refl, starts_none made)
  starts_none (calls.RestrictSelf layer ∷ made) = (refl, starts_none made)
  starts_none (calls.CloseRuleset layer ∷ made) = (refl, starts_none made)

  pub the_same : (policy : List policies.Layer) (process : ℕ) (w : World) → misfits.misfit policy ≡ None →
      MayEnforce tree missing rs process (fitted newer policy) w → IsTheSame tree missing rs older newer process policy w
  unfolding fitted misfits.misfit calls_of operation_of at_best_effort layers_of
  the_same policy process w fits may =
      let s : State = w.processes process in
      let numbered : List (ℕ × policies.Layer) = enumerate_from 0 policy in
      let fit : All Fit numbered =
      none_told misfits.layer_misfit numbered (fits_in (length policy == 0) (nat_lt MOST_OF_POLICY (length policy)) wrong.NoLayer wrong.TooManyLayers _ fits) in
      let gained : HasGained [] s (unprivileged tree older missing rs s) =
      record { domain = sym (append-nil s.domain); no_new_privs = refl; admin = refl; held = λ q. refl; descriptors = refl } in
      let all = goes_layers w.rulesets s (unprivileged tree older missing rs s) [] numbered may.is_tree may.not_listed may.free gained
      (let room : length s.domain + length (fitted newer policy) ≤ MOST_LAYERS = may.room in omega arith) fit may.listed in
      let made : List Call = calls.NoNewPrivs ∷ flat_map calls_of_layer (fitted newer policy) in
      let ops : List Op = map best_call made in
      let whole : Goes tree older (list_any refuses_in (kept numbered)) w.rulesets s ops _ all.0 =
      goes_on tree older _ _ _ _ _ s (unprivileged tree older missing rs s) all.0 (Nnp ∷ []) (map best_call (flat_map calls_of_layer (fitted newer policy)))
      (goes_one tree older _ _ s _ Nnp Allowed (leads_nnp tree older missing rs w.rulesets s)) all.1.0 in
      let end = ends tree older missing rs _ _ s all.0 ops whole.answers whole.leads in
      let same : ops ≡ taken_at tree missing rs older newer policy = sym (map-map (at_best_effort older) (operation_of tree missing rs) made) in
      record {
        layers = all_in_tree tree (map rules_of (kept numbered));
        handling = filter_all numbered;
        own = subst (λ (xs : List Op). HasGained (all_in_tree tree (map rules_of (kept numbered))) s
            ((world_after tree older w (records_of process xs)).processes process)) same
            (subst (λ (t : State). HasGained (all_in_tree tree (map rules_of (kept numbered))) s t)
            (sym (state_then_on tree older w process ops may.started (starts_none made) ∙ end.1)) all.1.1);
        refused = subst (λ (xs : List Op). list_any is_refusal (judged_from tree older w (records_of process xs))
            ≡ is_some (first_refused (fitted older policy))) same
            (ap (list_any is_refusal) (judged_on tree older w process ops may.started (starts_none made) ∙ end.0)
            ∙ whole.refuses ∙ refused_all numbered fit ∙ sym (some_refused (fitted older policy)));
      }
