-- The layers of a case by which records restrict their processes: what the outcomes say of them, and that those of some records are one by one
-- what these enforce.
use Rattle.std.proofs.Common.{◌≡◌, ℕ, ◌+◌, ◌<◌, ◌≤◌, true, List, [], ◌∷◌, ◌++◌, length, take, get_or, filter_map, option_to_list, Option, Some, None, refl, ap}
use Rattle.std.proofs.Common.{◌∙◌, subst, arith, append-nil, add-one, inl, inr}
use Rattle.std.specs.Prelude.{slice_get}
use Rattle.std.specs.List.{AllZip, cons_option}
use Rattle.std.proofs.Math.Seq.{take-suc}
use Rattle.std.proofs.lemmas.Option.{slice_get_cases, slice_get_past}
use Rattle.std.proofs.lemmas.List.{map-append, take_all}
use Rattle.std.proofs.lemmas.List.Elements.{All-push, AllZip-push, filter_map-append}
use Rattle.ll_rules.specs.declared.domain.LayerId.{LayerId}
use Rattle.ll_rules.specs.InTree.{in_tree, all_in_tree}
use Rattle.ll_rules.specs.KeptLayers.{SameRules, IsDomainOf, domain_of, layer_at}
use Rattle.ll_trace.specs.declared.op.Record.{Record}
use Rattle.ll_trace.specs.declared.op.Op.{Op}
use Rattle.ll_trace.specs.declared.op.Op.TheVariants.{Restrict}
use Rattle.ll_semantics.specs.declared.answer.RulesetOutcome.{RulesetOutcome}
use Rattle.ll_semantics.specs.declared.answer.RulesetOutcome.TheVariants.{Answered, Frozen, ByState}
use Rattle.ll_semantics.specs.States.{State, Layer}
use Rattle.ll_semantics.specs.Worlds.{World}
use Rattle.ll_semantics.specs.CallContexts.{CallContext, world_at}
use Rattle.ll_semantics.specs.RulesetOutcomes.{is_on_rulesets, enforced, IsFrozen, OutcomeFits}
use Rattle.ll_rulebook.specs.Settled.{met_by}
use Rattle.ll_process.specs.Cases.{CaseValue, IsCase}
use Rattle.ll_reasons.specs.Made.{enforced_by, enforced_at}
use Rattle.ll_reasons.specs.Explanations.{origins_at}
use Rattle.ll_reasons.proofs.LayersMade.{layers_made}
use Rattle.ll_origins.specs.declared.trail.ProcessOrigins.{ProcessOrigins}
use Rattle.ll_origins.specs.CaseTrails.{IsDomainAt}
use Rattle.ll_origins.specs.TraceOrigins.{Follows}

-- ---- what an outcome says

-- the layer that an outcome names
unfoldable pub layer_in : RulesetOutcome → Option LayerId
layer_in (Answered answer) = None
layer_in (Frozen id) = Some id
layer_in ByState = None

-- a call on rulesets restricts no process
enforces_none : (rulesets : List Layer) (op : Op) (s : State) → is_on_rulesets op ≡ true → enforced rulesets op s ≡ None
unfolding is_on_rulesets enforced
enforces_none rulesets (Restrict rs) s is = cc
enforces_none rulesets op s is = refl

without_layer : (ctx : CallContext) (rules : Option Layer) → rules ≡ None → IsFrozen ctx None rules
unfolding IsFrozen
without_layer ctx rules none = rw none tt

-- a layer is what a ruleset was frozen to, whatever process meets it
of_any : (cv : CaseValue) (world : World) (p q : ℕ) (found : Option LayerId) (rules : Option Layer)
    → IsFrozen (met_by cv.tree cv.abi cv.layers world p) found rules → IsFrozen (met_by cv.tree cv.abi cv.layers world q) found rules
unfolding IsFrozen
of_any cv world p q (Some id) (Some rules) is = is
of_any cv world p q (Some id) None is = is
of_any cv world p q None (Some rules) is = is
of_any cv world p q None None is = is

noted : (ctx : CallContext) (op : Op) (outcome : RulesetOutcome) → OutcomeFits ctx op outcome
    → IsFrozen ctx (layer_in outcome) (enforced ctx.rulesets op ctx.state)
unfolding OutcomeFits layer_in
noted ctx op (Answered answer) fits = without_layer ctx (enforced ctx.rulesets op ctx.state) (enforces_none ctx.rulesets op ctx.state fits.0)
noted ctx op (Frozen id) fits = fits
noted ctx op ByState fits = without_layer ctx (enforced ctx.rulesets op ctx.state) fits.1

-- the outcome at an index names the layer that the record there enforces
pub noted_at : (cv : CaseValue) (k process : ℕ) (outcome : RulesetOutcome) → IsCase cv → k < length cv.records → slice_get cv.outcomes k ≡ Some outcome
    → IsFrozen (met_by cv.tree cv.abi cv.layers (world_at cv.tree cv.abi cv.records k) process) (layer_in outcome) (enforced_at cv.tree cv.abi cv.records k)
unfolding enforced_at enforced_by
noted_at cv k process outcome case within says = elim ((slice_get_cases cv.records k).1) [
  | inl there ↦
      let r : Record = there.0 in
      let world : World = world_at cv.tree cv.abi cv.records k in
      let fits : OutcomeFits (met_by cv.tree cv.abi cv.layers world r.process.0) r.op outcome = case.settled.fits k r outcome there.2 says in
      rw (there.2) (of_any cv world r.process.0 process (layer_in outcome) (enforced world.rulesets r.op (world.processes r.process.0))
      (noted (met_by cv.tree cv.abi cv.layers world r.process.0) r.op outcome fits))
  | inr past ↦ absurd (omega (arith, within, past.0))
]

-- no record past the last enforces any
pub none_past : (cv : CaseValue) (k process : ℕ) → length cv.records ≤ k
    → IsFrozen (met_by cv.tree cv.abi cv.layers (world_at cv.tree cv.abi cv.records k) process) None (enforced_at cv.tree cv.abi cv.records k)
unfolding enforced_at enforced_by
none_past cv k process past =
    let here : slice_get cv.records k ≡ None = slice_get_past cv.records k past in
    without_layer _ _ (ap (λ (x : Option Record). enforced_by (world_at cv.tree cv.abi cv.records k) x) here)

-- ---- the layers of some records, in order

module _ (cv : CaseValue) where
  -- one by one the same as the rulesets that the records at some indices enforce
  pub record AreOf (indices : List ℕ) (ids : List LayerId) : Type 0 where
    pub inside : IsDomainOf cv.layers ids
    pub same : AllZip SameRules (all_in_tree cv.tree (domain_of cv.layers ids)) (filter_map (enforced_at cv.tree cv.abi cv.records) indices)

  -- one record more, which enforces nothing
  made_none : (indices : List ℕ) (k : ℕ) → enforced_at cv.tree cv.abi cv.records k ≡ None
      → filter_map (enforced_at cv.tree cv.abi cv.records) (indices ++ k ∷ []) ≡ filter_map (enforced_at cv.tree cv.abi cv.records) indices
  made_none indices k makes =
      let made : ℕ → Option Layer = enforced_at cv.tree cv.abi cv.records in
      filter_map-append made indices (k ∷ []) ∙ ap (λ (x : Option Layer). filter_map made indices ++ cons_option x []) makes
      ∙ append-nil (filter_map made indices)

  -- one record more, which enforces a ruleset
  made_some : (indices : List ℕ) (k : ℕ) (rules : Layer) → enforced_at cv.tree cv.abi cv.records k ≡ Some rules
      → filter_map (enforced_at cv.tree cv.abi cv.records) (indices ++ k ∷ []) ≡ filter_map (enforced_at cv.tree cv.abi cv.records) indices ++ rules ∷ []
  made_some indices k rules makes =
      let made : ℕ → Option Layer = enforced_at cv.tree cv.abi cv.records in
      filter_map-append made indices (k ∷ []) ∙ ap (λ (x : Option Layer). filter_map made indices ++ cons_option x []) makes

  kept_of : (ctx : CallContext) (indices : List ℕ) (k : ℕ) (ids : List LayerId) (rules : Option Layer) → enforced_at cv.tree cv.abi cv.records k ≡ rules
      → IsFrozen ctx None rules → AreOf indices ids → AreOf (indices ++ k ∷ []) ids
  unfolding IsFrozen
  kept_of ctx indices k ids None makes frozen are = record { inside = are.inside; same = rw (made_none indices k makes) (are.same) }
  kept_of ctx indices k ids (Some rules) makes frozen are = absurd frozen

  more_of : (ctx : CallContext) (indices : List ℕ) (k : ℕ) (ids : List LayerId) (id : LayerId) (rules : Option Layer) → ctx.tree ≡ cv.tree
      → ctx.layers ≡ cv.layers → enforced_at cv.tree cv.abi cv.records k ≡ rules
      → IsFrozen ctx (Some id) rules → AreOf indices ids → AreOf (indices ++ k ∷ []) (ids ++ id ∷ [])
  unfolding IsFrozen
  more_of ctx indices k ids id None tree layers makes frozen are = absurd frozen
  more_of ctx indices k ids id (Some rules) tree layers makes frozen are =
      let in_order = map-append (in_tree cv.tree) (domain_of cv.layers ids) (layer_at cv.layers id ∷ []) in
      let made : ℕ → Option Layer = enforced_at cv.tree cv.abi cv.records in
      record {
        inside = All-push (λ (other : LayerId). other.0 < length cv.layers) ids id are.inside (rw (← layers) (frozen.0));
        same = rw (made_some indices k rules makes, map-append (layer_at cv.layers) ids (id ∷ []), in_order)
            (AllZip-push SameRules (all_in_tree cv.tree (domain_of cv.layers ids)) (filter_map made indices)
            (in_tree cv.tree (layer_at cv.layers id)) rules are.same (rw (← layers, ← tree) (frozen.1)));
      }

  one_more : (ctx : CallContext) (indices : List ℕ) (k : ℕ) (ids : List LayerId) (found : Option LayerId) → ctx.tree ≡ cv.tree → ctx.layers ≡ cv.layers
      → IsFrozen ctx found (enforced_at cv.tree cv.abi cv.records k) → AreOf indices ids → AreOf (indices ++ k ∷ []) (ids ++ option_to_list found)
  one_more ctx indices k ids None tree layers frozen are =
      rw (append-nil ids) (kept_of ctx indices k ids (enforced_at cv.tree cv.abi cv.records k) refl frozen are)
  one_more ctx indices k ids (Some id) tree layers frozen are =
      more_of ctx indices k ids id (enforced_at cv.tree cv.abi cv.records k) tree layers refl frozen are

  -- the next of some indices that are read
  pub next_of : (indices read : List ℕ) (n : ℕ) (ids next : List LayerId) (found : Option LayerId) → read ≡ indices → n < length read
      → ((process : ℕ) → IsFrozen (met_by cv.tree cv.abi cv.layers (world_at cv.tree cv.abi cv.records (get_or read n 0)) process) found
      (enforced_at cv.tree cv.abi cv.records (get_or read n 0)))
      → next ≡ ids ++ option_to_list found → AreOf (take n indices) ids → AreOf (take (n + 1) indices) next
  next_of indices read n ids next found same within frozen is are =
      let k : ℕ = get_or read n 0 in
      let taken : take (n + 1) read ≡ take n read ++ k ∷ [] = rw add-one (take-suc read n 0 within) in
      rw (is, ← same, taken)
      (one_more (met_by cv.tree cv.abi cv.layers (world_at cv.tree cv.abi cv.records k) 0) (take n read) k ids found refl refl (frozen 0) (rw same are))

  -- all of them
  pub all_of : (indices read : List ℕ) (n : ℕ) (ids : List LayerId) → read ≡ indices → length read ≤ n → AreOf (take n indices) ids → AreOf indices ids
  all_of indices read n ids same within are =
      let taken : take n indices ≡ indices = take_all n indices (omega (arith, within, ap (λ (xs : List ℕ). length xs) same)) in
      subst (λ (xs : List ℕ). AreOf xs ids) taken are

  -- the layers of the records that a process's origins name are those of the process
  pub domain_is : (trail : ProcessOrigins) (ids : List LayerId) (index process : ℕ) → AreOf trail.layers.items ids
      → Follows trail (origins_at cv.tree cv.abi cv.records index process) → IsDomainAt cv index process ids
  domain_is trail ids index process are follows = record {
    indices = are.inside;
    same = rw (layers_made cv.tree cv.abi cv.records index process, ← follows.layers) (are.same);
  }
