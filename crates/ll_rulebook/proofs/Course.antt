-- The pass over all records, after one more.
use Rattle.std.proofs.Common.{◌≡◌, ℕ, ◌+◌, ◌<◌, List, [], ◌∷◌, ◌++◌, length, false, Option, Some, None, get_or, refl, sym, ◌∙◌, ap, arith, inl, inr}
use Rattle.std.proofs.Common.{length-append}
use Rattle.std.specs.List.{slice_get}
use Rattle.std.proofs.lemmas.Bool.{cases_eq, eq-eqb, ne_eqb}
use Rattle.std.proofs.lemmas.List.{get_or_append_left}
use Rattle.ll_rights.specs.declared.abi.Abi.{Abi}
use Rattle.ll_rights.specs.Rights as files
use Rattle.ll_rights.specs.NetRights as network
use Rattle.ll_tree.specs.Trees.{Entry}
use Rattle.ll_rules.specs.declared.domain.LayerId.{LayerId}
use Rattle.ll_rules.specs.Layers.{RulesOn, without_rules}
use Rattle.ll_rules.specs.KeptLayers.{layer_at}
use Rattle.ll_trace.specs.declared.op.Record.{Record}
use Rattle.ll_trace.specs.declared.op.Op.{Op}
use Rattle.ll_trace.specs.Entries.{is_start}
use Rattle.ll_trace.specs.Traces.{AreRecords}
use Rattle.ll_semantics.specs.declared.answer.RulesetOutcome.{RulesetOutcome}
use Rattle.ll_semantics.specs.declared.answer.RulesetOutcome.TheVariants.{Answered, Frozen, ByState}
use Rattle.ll_semantics.specs.States.{Layer}
use Rattle.ll_semantics.specs.CallContexts.{answer_to, world_at}
use Rattle.ll_semantics.specs.RulesetOutcomes.{OutcomeFits, IsFrozen, enforced}
use Rattle.ll_semantics.specs.Worlds.{World, step}
use Rattle.ll_rulebook.specs.declared.pass.Pass.{Pass}
use Rattle.ll_rulebook.specs.Stores.{Extends}
use Rattle.ll_rulebook.specs.Settled.{met_by}
use Rattle.ll_rulebook.specs.Passes.{Settles, HasSettled}
use Rattle.ll_trace.proofs.Numbers.{slice_get-push}
use Rattle.ll_semantics.proofs.Steps.{count-world_at, world_at-more}

frozen_stays : (tree : List Entry) (abi : Abi) (old new : List (RulesOn ℕ)) (world : World) (process : ℕ) (id : LayerId) (rules : Option Layer)
    → Extends old new →
    IsFrozen (met_by tree abi old world process) (Some id) rules → IsFrozen (met_by tree abi new world process) (Some id) rules
unfolding IsFrozen
frozen_stays tree abi old new world process id None extends frozen = frozen
frozen_stays tree abi old new world process id (Some rules) extends frozen =
    let none : RulesOn ℕ = without_rules files.no_right network.no_right in
    let longer : length new ≡ length old + length extends.more = rw extends.is_more (simp length-append) in
    let same : layer_at new id ≡ layer_at old id =
    ap (λ (xs : List (RulesOn ℕ)). get_or xs id.0 none) extends.is_more ∙ get_or_append_left old extends.more none id.0 frozen.0 in
    (omega (arith, longer, frozen.0), rw same frozen.1)

-- an outcome still fits when layers were appended
outcome_stays : (tree : List Entry) (abi : Abi) (old new : List (RulesOn ℕ)) (world : World) (process : ℕ) (op : Op) (outcome : RulesetOutcome)
    → Extends old new → OutcomeFits (met_by tree abi old world process) op outcome → OutcomeFits (met_by tree abi new world process) op outcome
unfolding OutcomeFits answer_to
outcome_stays tree abi old new world process op (Answered a) extends fits = fits
outcome_stays tree abi old new world process op (Frozen id) extends fits =
    frozen_stays tree abi old new world process id (enforced world.rulesets op (world.processes process)) extends fits
outcome_stays tree abi old new world process op ByState extends fits = fits

-- after one record more
pub settled_next : (tree : List Entry) (abi : Abi) (records : List Record) (k : ℕ) (r : Record) (old new : Pass) (outcomes : List RulesetOutcome)
    (outcome : RulesetOutcome) → slice_get records k ≡ Some r → HasSettled tree abi records k old outcomes → Settles r.process.0 r.op old new outcome →
    HasSettled tree abi records (k + 1) new (outcomes ++ outcome ∷ [])
settled_next tree abi records k r old new outcomes outcome eq so_far settles =
    let next : world_at tree abi records (k + 1) ≡ step tree abi (world_at tree abi records k) r.process.0 r.op = world_at-more tree abi records k r eq in
    let agrees = rw (so_far.of_tree, so_far.of_abi) at (settles.agrees (world_at tree abi records k) so_far.agrees) in
    let fits = rw (so_far.of_tree, so_far.of_abi) at (settles.fits (world_at tree abi records k) so_far.agrees) in
    record {
      of_tree = rw settles.same_tree so_far.of_tree;
      of_abi = rw settles.same_abi so_far.of_abi;
      sound = settles.sound;
      agrees = rw next agrees;
      few =
          let longer : length new.store.layers ≡ length old.store.layers + length settles.layers.more = rw settles.layers.is_more (simp length-append) in
          omega (arith, longer, settles.layers.one, so_far.few);
      counted = simp length-append (omega (arith, so_far.counted));
      fits = λ j s other at_s noted. elim (cases_eq j (length outcomes)) [
        | inl last ↦
            let here : slice_get (outcomes ++ outcome ∷ []) j ≡ Some outcome = rw (slice_get-push outcomes j outcome, eq-eqb j (length outcomes) last) refl in
            let it : outcome ≡ other = cc in
            let index : j ≡ k = last ∙ so_far.counted in
            let own : slice_get records j ≡ Some r = rw index eq in
            let same : r ≡ s = cc in
            rw (← it, ← same, index) fits
        | inr earlier ↦
            let before : slice_get (outcomes ++ outcome ∷ []) j ≡ slice_get outcomes j =
            rw (slice_get-push outcomes j outcome, ne_eqb j (length outcomes) earlier) refl in
            outcome_stays tree abi old.store.layers new.store.layers (world_at tree abi records j) s.process.0 s.op other settles.layers
            (so_far.fits j s other at_s (sym before ∙ noted))
      ];
    }

-- a record that is no start is of a process that has a table
pub has_table : (tree : List Entry) (abi : Abi) (records : List Record) (k : ℕ) (r : Record) (pass : Pass) (outcomes : List RulesetOutcome)
    → AreRecords records →
    slice_get records k ≡ Some r → HasSettled tree abi records k pass outcomes → is_start r.op ≡ false → r.process.0 < length pass.tables.held.items
has_table tree abi records k r pass outcomes are eq so_far other =
    omega (arith, so_far.agrees.count, count-world_at tree abi records k, are.numbered.goes_on k r eq other)
