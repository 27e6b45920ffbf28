-- How the pass goes on agreeing with the world, whatever a call does.
use Rattle.std.proofs.Common.{◌≡◌, ℕ, ◌+◌, ◌<◌, ◌≤◌, List, [], ◌∷◌, ◌++◌, length, Bool, true, false, Option, Some, None, Result, Ok, Err, cond, eqb, refl, sym}
use Rattle.std.proofs.Common.{◌∙◌, ap, arith, inl, inr, All, subst, get_or, length-append, length-set}
use Rattle.std.specs.Prelude.{nat_eq}
use Rattle.std.specs.List.{slice_get, AllZip}
use Rattle.std.specs.Map.{update}
use Rattle.std.specs.Option.{MatchOption, option_map}
use Rattle.std.specs.Result.{IsOkUnless}
use Rattle.std.proofs.lemmas.Bool.{cases_cond}
use Rattle.std.proofs.lemmas.List.Elements.{All-push, All-set}
use Rattle.std.proofs.lemmas.Option.{slice_get_within, slice_get-get_or, get_or_from_slice_get}
use Rattle.std.proofs.lemmas.Slice.Zip.{AllZip-long}
use Rattle.ll_rights.specs.declared.abi.Abi.{Abi}
use Rattle.ll_rights.specs.declared.fs.Fs.{Fs}
use Rattle.ll_rights.specs.declared.net.Net.{Net}
use Rattle.ll_rights.specs.Rights as files
use Rattle.ll_rights.specs.NetRights as network
use Rattle.ll_tree.specs.Trees.{Entry}
use Rattle.ll_rules.specs.declared.domain.LayerId.{LayerId}
use Rattle.ll_rules.specs.declared.errno.Errno.TheVariants.{BadFd}
use Rattle.ll_rules.specs.declared.errno.RuleFault.{RuleFault}
use Rattle.ll_rules.specs.declared.errno.RuleFault.TheVariants as faults
use Rattle.ll_rules.specs.Layers.{RulesOn, without_rules}
use Rattle.ll_rules.specs.InTree.{AreInTree}
use Rattle.ll_rules.specs.RuleFaults.{fault_of}
use Rattle.ll_rules.specs.Rulesets.{RuleRefusal, with_error, without_object}
use Rattle.ll_rules.proofs.SameLayers.{SameRules-refl}
use Rattle.ll_trace.specs.declared.op.Op.{Op}
use Rattle.ll_semantics.specs.declared.answer.Answer.{Answer}
use Rattle.ll_semantics.specs.declared.answer.Answer.TheVariants.{Allowed, Moot, Refused}
use Rattle.ll_semantics.specs.declared.answer.RulesetOutcome.{RulesetOutcome}
use Rattle.ll_semantics.specs.declared.answer.RulesetOutcome.TheVariants.{Answered, Frozen}
use Rattle.ll_semantics.specs.States.{State, Layer}
use Rattle.ll_semantics.specs.Answers.{answer, named, fails, of_rule_refusal}
use Rattle.ll_semantics.specs.Effects.{Effect, nothing, leaves, leaves_rulesets, begins, effect, changed_at}
use Rattle.ll_semantics.specs.CallContexts.{answer_to}
use Rattle.ll_semantics.specs.RulesetOutcomes.{OutcomeFits, IsFrozen, is_on_rulesets, enforced}
use Rattle.ll_semantics.specs.Worlds.{World, with_state, affected, answer_in, step, if_allowed}
use Rattle.ll_semantics.proofs.Steps.{world_kept}
use Rattle.ll_rulebook.specs.declared.pass.Pass.{Pass}
use Rattle.ll_rulebook.specs.declared.tables.Tables.{Tables}
use Rattle.ll_rulebook.specs.Stores.{held_by, NowHolds, HoldsUnder, Stock, with_created, with_changed, Becomes, AddsRule, Extends, Freezes, IsAnswerTo}
use Rattle.ll_rulebook.specs.Settled.{met_by}
use Rattle.ll_rulebook.specs.Passes.{IsSame, IsSound, HasRulesetsOf, Creates, Settles}
use Rattle.ll_rulebook.proofs.Frozen.{extends_same, holds_same, zip_push, zip_set, zip_at}

-- a call that adds a rule to a ruleset that its process holds under a number, if nothing refuses it
pub record AddsTo (tree : List Entry) (abi : Abi) (op : Op) (rs : ℕ) (refusal : RulesOn ℕ → Option RuleRefusal) (f : Layer → Layer) : Type 0 where
  pub on_rulesets : is_on_rulesets op ≡ true
  pub unheld : (rulesets : List Layer) (s : State) → s.held rs ≡ None → answer tree abi rulesets op s ≡ fails BadFd
  pub answers : (rulesets : List Layer) (s : State) (one : RulesOn ℕ) (other : Layer) → named rulesets (s.held rs) ≡ Some other → IsSame tree one other
      → answer tree abi rulesets op s ≡ of_rule_refusal (refusal one)
  pub adds : (rulesets : List Layer) (s : State) → effect tree rulesets op s ≡ leaves_rulesets (changed_at rulesets (s.held rs) f) s

-- the outcome of a call that adds a rule tells what refuses it
answer_told : (refusal : Option RuleRefusal) (attempt : Result (Unit {0}) RuleFault) (outcome : RulesetOutcome)
    → MatchOption (option_map fault_of refusal) (IsOkUnless attempt faults.Memory) (λ f. attempt ≡ Err f) →
    IsAnswerTo attempt outcome → outcome ≡ Answered (of_rule_refusal refusal)
answer_told None (Ok done) outcome told is = is
answer_told None (Err (faults.Errno error)) outcome told is = absurd (cc)
answer_told None (Err faults.Moot) outcome told is = absurd (cc)
answer_told refusal (Err faults.Memory) outcome told is = absurd is
answer_told (Some refusal) (Ok done) outcome told is = absurd (cc)
answer_told (Some (with_error error)) (Err (faults.Errno other)) outcome told is = cc
answer_told (Some (with_error error)) (Err faults.Moot) outcome told is = absurd (cc)
answer_told (Some without_object) (Err (faults.Errno error)) outcome told is = absurd (cc)
answer_told (Some without_object) (Err faults.Moot) outcome told is = is

refused_told : (attempt : RuleFault) (outcome : RulesetOutcome) → IsAnswerTo (Err attempt) outcome → outcome ≡ Answered Allowed → ⊥
refused_told (faults.Errno error) outcome is allowed = cc
refused_told faults.Moot outcome is allowed = cc
refused_told faults.Memory outcome is allowed = is

-- an effect leaves the rulesets and what its process holds of them
abbrev pub IsQuiet : State → Effect → Type 0
IsQuiet s nothing = Unit {0}
IsQuiet s (leaves next) = next.held ≡ s.held
IsQuiet s (leaves_rulesets rulesets next) = ⊥
IsQuiet s (begins child) = ⊥

-- ---- one process holds other rulesets than before, or begins

chosen : (b : Bool) (x y : Option ℕ) (s t : State) (q : ℕ) → x ≡ s.held q → y ≡ t.held q → cond b x y ≡ (cond b s t).held q
chosen true x y s t q now before = now
chosen false x y s t q now before = before

-- a number that is held or closed, here and in the world
pub renamed : (f g : ℕ → Option ℕ) (rs q : ℕ) (v w : Option ℕ) → f q ≡ g q → v ≡ w → update nat_eq f rs v q ≡ update nat_eq g rs w q
renamed f g rs q v w same index = ap (λ (x : Option ℕ). cond (eqb rs q) x (f q)) index ∙ ap (λ (x : Option ℕ). cond (eqb rs q) w x) same

pub held_there : (rs n q index : ℕ) (v : Option ℕ) (f : ℕ → Option ℕ) → update nat_eq f rs v q ≡ Some index → (v ≡ Some index → index < n)
    → (f q ≡ Some index → index < n) → index < n
held_there rs n q index v f is now before =
    elim (cases_cond (eqb rs q) v (f q) (Some index) (sym is)) [ inl here ↦ now (sym here) | inr there ↦ before (sym there) ]

module _ (process : ℕ) (op : Op) (old : Pass) (sound : IsSound old) where
  abbrev after : Stock → Tables → Pass
  after s t = record old { store = s; tables = t }

  abbrev fit : Pass → RulesetOutcome → Type 0
  fit new outcome = (w : World) → HasRulesetsOf old w → OutcomeFits (met_by old.tree.now old.abi new.store.layers w process) op outcome

  sound_after : (s : Stock) (t : Tables) (count ix : ℕ) (held : ℕ → Option ℕ) → NowHolds old.tables.held.items t.held.items count ix held →
      ((q index : ℕ) → held q ≡ Some index → index < length s.rulesets) → length old.store.rulesets ≤ length s.rulesets →
      All (AreInTree old.tree.now) s.rulesets → All (AreInTree old.tree.now) s.layers → IsSound (after s t)
  sound_after s t count ix held holds there more rulesets layers = record {
    indices = λ p q index is. elim (cases_cond (eqb p ix) (held q) (held_by old.tables.held.items p q) (Some index) (sym is ∙ holds.holds p q)) [
      | inl now ↦ there q index (sym now)
      | inr before ↦ let earlier : index < length old.store.rulesets = sound.indices p q index (sym before) in omega arith
    ];
    rulesets = rulesets;
    layers = layers;
  }

  agrees_after : (s : Stock) (t : Tables) (w : World) (rulesets : List Layer) (count total ix number : ℕ) (held : ℕ → Option ℕ) (state : State) →
      HasRulesetsOf old w →
      AllZip (IsSame old.tree.now) s.rulesets rulesets → NowHolds old.tables.held.items t.held.items count ix held → count ≡ total → ix ≡ number
      → ((q : ℕ) → held q ≡ state.held q) →
      HasRulesetsOf (after s t) (record { rulesets = rulesets; count = total; processes = with_state w.processes number state })
  agrees_after s t w rulesets count total ix number held state agrees same holds all own held_is = record {
    rulesets = same;
    count = holds.counted ∙ all;
    held = λ p q. holds.holds p q
        ∙ rw own (chosen (eqb p number) (held q) (held_by old.tables.held.items p q) state (w.processes p) q (held_is q) (agrees.held p q));
  }

  -- what an allowed call makes of the world
  step_is : (w : World) (e : Effect) → answer old.tree.now old.abi w.rulesets op (w.processes process) ≡ Allowed
      → effect old.tree.now w.rulesets op (w.processes process) ≡ e →
      step old.tree.now old.abi w process op ≡ affected w process e
  unfolding step answer_in
  step_is w e allowed is = rw (allowed, is) refl

  -- ---- a call that changes nothing of what the pass keeps

  -- it isn't allowed
  pub settles_refused : (a : Answer) → is_on_rulesets op ≡ true → (a ≡ Allowed → ⊥)
      → ((w : World) → HasRulesetsOf old w → a ≡ answer old.tree.now old.abi w.rulesets op (w.processes process)) →
      Settles process op old old (Answered a)
  unfolding OutcomeFits answer_to answer_in
  settles_refused a on refused is = record {
    same_tree = refl;
    same_abi = refl;
    sound = sound;
    layers = extends_same old.store.layers;
    agrees = λ w agrees. rw (world_kept old.tree.now old.abi w process op (λ allowed. refused (is w agrees ∙ allowed))) agrees;
    fits = λ w agrees. (on, is w agrees);
  }

  -- it leaves the rulesets, and which of them are held
  agrees_quiet : (layers : List (RulesOn ℕ)) (w : World) (a : Answer) (e : Effect) → HasRulesetsOf old w → IsQuiet (w.processes process) e →
      HasRulesetsOf (after (record old.store { layers = layers }) old.tables) (if_allowed a (affected w process e) w)
  agrees_quiet layers w Allowed (leaves next) agrees quiet =
      agrees_after (record old.store { layers = layers }) old.tables w w.rulesets _ w.count process process _ next agrees agrees.rulesets
      (holds_same old.tables.held.items process) agrees.count refl
      (λ q. agrees.held process q ∙ ap (λ (h : ℕ → Option ℕ). h q) (sym quiet))
  agrees_quiet layers w Allowed (leaves_rulesets rulesets next) agrees quiet = absurd quiet
  agrees_quiet layers w Allowed (begins child) agrees quiet = absurd quiet
  agrees_quiet layers w Allowed nothing agrees quiet = record { rulesets = agrees.rulesets; count = agrees.count; held = agrees.held }
  agrees_quiet layers w Moot e agrees quiet = record { rulesets = agrees.rulesets; count = agrees.count; held = agrees.held }
  agrees_quiet layers w (Refused error numbers) e agrees quiet = record { rulesets = agrees.rulesets; count = agrees.count; held = agrees.held }

  pub settles_quiet : (layers : List (RulesOn ℕ)) (outcome : RulesetOutcome)
      → ((rulesets : List Layer) (s : State) → IsQuiet s (effect old.tree.now rulesets op s)) →
      Extends old.store.layers layers → All (AreInTree old.tree.now) layers → fit (after (record old.store { layers = layers }) old.tables) outcome →
      Settles process op old (after (record old.store { layers = layers }) old.tables) outcome
  unfolding step answer_in
  settles_quiet layers outcome quiet extends inside fits = record {
    same_tree = refl;
    same_abi = refl;
    sound = record { indices = sound.indices; rulesets = sound.rulesets; layers = inside };
    layers = extends;
    agrees = λ w agrees. agrees_quiet layers w (answer old.tree.now old.abi w.rulesets op (w.processes process))
        (effect old.tree.now w.rulesets op (w.processes process)) agrees (quiet w.rulesets (w.processes process));
    fits = fits;
  }

  pub settles_frozen : (s : Stock) (ix : ℕ) (id : LayerId) → ((rulesets : List Layer) (s : State) → IsQuiet s (effect old.tree.now rulesets op s))
      → ix < length old.store.rulesets → Freezes old.store s ix id →
      ((w : World) → HasRulesetsOf old w → enforced w.rulesets op (w.processes process) ≡ slice_get w.rulesets ix)
      → Settles process op old (after s old.tables) (Frozen id)
  unfolding OutcomeFits IsFrozen
  settles_frozen s ix id quiet within freezes enforces =
      let none : RulesOn ℕ = without_rules files.no_right network.no_right in
      let stands = slice_get-get_or old.store.rulesets ix none within in
      let frozen : slice_get s.layers id.0 ≡ Some (get_or old.store.rulesets ix none) = freezes.layer ∙ stands in
      subst (λ (rulesets : List (RulesOn ℕ)). Settles process op old (after (record s { rulesets = rulesets }) old.tables) (Frozen id)) (sym freezes.rulesets)
      (settles_quiet s.layers (Frozen id) quiet freezes.layers (freezes.inside old.tree.now sound.rulesets sound.layers) (λ w agrees.
      let (other, there, same) = zip_at (IsSame old.tree.now) old.store.rulesets w.rulesets ix (get_or old.store.rulesets ix none) agrees.rulesets stands in
      rw (enforces w agrees, there) (slice_get_within s.layers id.0 _ frozen, rw (get_or_from_slice_get s.layers id.0 _ none frozen) same)))

  -- ---- a ruleset is created, and held under a free number

  pub settles_created : (t : Tables) (rs : ℕ) (fs : Fs) (net : Net) (ix : ℕ) → Creates old.tree.now old.abi rs fs net op
      → held_by old.tables.held.items process rs ≡ None →
      ix ≡ length old.store.rulesets → HoldsUnder old.tables.held.items t.held.items process rs (Some ix) →
      Settles process op old (after (with_created old.store (without_rules fs net)) t) (Answered Allowed)
  unfolding OutcomeFits answer_to
  settles_created t rs fs net ix creates free last holds =
      let one : RulesOn ℕ = without_rules fs net in
      let longer : length (old.store.rulesets ++ one ∷ []) ≡ length old.store.rulesets + 1 = simp length-append in
      let allowed = λ (w : World) (agrees : HasRulesetsOf old w). creates.allowed w.rulesets (w.processes process) (sym (agrees.held process rs) ∙ free) in
      record {
        same_tree = refl;
        same_abi = refl;
        sound = sound_after (with_created old.store one) t _ process _ holds
            (λ q index is. held_there rs _ q index (Some ix) (held_by old.tables.held.items process) is (λ same. let it : ix ≡ index = cc in omega arith)
            (λ held. let earlier : index < length old.store.rulesets = sound.indices process q index held in omega arith))
            (omega arith) (All-push (AreInTree old.tree.now) old.store.rulesets one sound.rulesets (λ k default within. absurd (omega arith))) sound.layers;
        layers = extends_same old.store.layers;
        agrees = λ w agrees. rw (step_is w _ (allowed w agrees) (creates.creates w.rulesets (w.processes process)))
            (agrees_after (with_created old.store one) t w _ _ w.count process process _ _ agrees
            (zip_push (IsSame old.tree.now) old.store.rulesets w.rulesets one (without_rules fs net) agrees.rulesets (SameRules-refl (without_rules fs net)))
            holds agrees.count refl
            (λ q. renamed (held_by old.tables.held.items process) (w.processes process).held rs q _ _ (agrees.held process q)
            (ap (λ (n : ℕ). Some n) (last ∙ sym (AllZip-long (IsSame old.tree.now) old.store.rulesets w.rulesets agrees.rulesets)))));
        fits = λ w agrees. (creates.on_rulesets, sym (allowed w agrees));
      }

  -- ---- a number is closed, or a process begins

  pub settles_tables : (t : Tables) (count ix : ℕ) (held : ℕ → Option ℕ) (outcome : RulesetOutcome)
      → NowHolds old.tables.held.items t.held.items count ix held →
      ((q index : ℕ) → held q ≡ Some index → index < length old.store.rulesets) → fit (after old.store t) outcome →
      ((w : World) → HasRulesetsOf old w → answer old.tree.now old.abi w.rulesets op (w.processes process) ≡ Allowed) →
      ((w : World) → HasRulesetsOf old w → (state : State) × (total number : ℕ) × (count ≡ total) × (ix ≡ number) × ((q : ℕ) → held q ≡ state.held q)
      × (affected w process (effect old.tree.now w.rulesets op (w.processes process))
      ≡ record { rulesets = w.rulesets; count = total; processes = with_state w.processes number state })) →
      Settles process op old (after old.store t) outcome
  settles_tables t count ix held outcome holds there fits allowed does = record {
    same_tree = refl;
    same_abi = refl;
    sound = sound_after old.store t count ix held holds there (omega arith) sound.rulesets sound.layers;
    layers = extends_same old.store.layers;
    agrees = λ w agrees.
        let (state, total, number, all, own, held_is, next) = does w agrees in
        rw (step_is w _ (allowed w agrees) refl, next)
        (agrees_after old.store t w w.rulesets count total ix number held state agrees agrees.rulesets holds all own held_is);
    fits = fits;
  }

  -- ---- a rule is added to a ruleset that the process holds

  module _ (rs : ℕ) (refusal : RulesOn ℕ → Option RuleRefusal) (f : Layer → Layer) (call : AddsTo old.tree.now old.abi op rs refusal f) where
    pub settles_unheld : held_by old.tables.held.items process rs ≡ None → Settles process op old old (Answered (fails BadFd))
    settles_unheld none = settles_refused (fails BadFd) call.on_rulesets (λ is. cc)
        (λ w agrees. sym (call.unheld w.rulesets (w.processes process) (sym (agrees.held process rs) ∙ none)))

    module _ (ix : ℕ) (held : held_by old.tables.held.items process rs ≡ Some ix) where
      -- what the ruleset is in the world
      met : (one : RulesOn ℕ) → slice_get old.store.rulesets ix ≡ Some one → (w : World) → HasRulesetsOf old w →
          (other : Layer) × (slice_get w.rulesets ix ≡ Some other) × IsSame old.tree.now one other × ((w.processes process).held rs ≡ Some ix)
      met one was w agrees = let (other, stands, same) = zip_at (IsSame old.tree.now) old.store.rulesets w.rulesets ix one agrees.rulesets was in
          (other, stands, same, sym (agrees.held process rs) ∙ held)

      answer_is : (one : RulesOn ℕ) → slice_get old.store.rulesets ix ≡ Some one → (w : World) → HasRulesetsOf old w
          → of_rule_refusal (refusal one) ≡ answer old.tree.now old.abi w.rulesets op (w.processes process)
      answer_is one was w agrees = let (other, stands, same, it) = met one was w agrees in
          sym (call.answers w.rulesets (w.processes process) one other (rw it stands) same)

      settles_added : (s : Stock) (one : RulesOn ℕ) (IsNow : RulesOn ℕ → Type 0) → slice_get old.store.rulesets ix ≡ Some one
          → of_rule_refusal (refusal one) ≡ Allowed → Becomes old.store s ix IsNow →
          ((next : RulesOn ℕ) → IsNow next → AreInTree old.tree.now next
          × ((other : Layer) → IsSame old.tree.now one other → IsSame old.tree.now next (f other))) →
          Settles process op old (after s old.tables) (Answered Allowed)
      unfolding OutcomeFits answer_to
      settles_added s one IsNow was none now stays = rw now.changed record {
        same_tree = refl;
        same_abi = refl;
        sound = record {
          indices = λ p q index is. rw length-set (sound.indices p q index is);
          rulesets = All-set (AreInTree old.tree.now) old.store.rulesets ix now.after (stays now.after now.is_now).0 sound.rulesets;
          layers = sound.layers;
        };
        layers = extends_same old.store.layers;
        agrees = λ w agrees.
            let (other, stands, same, it) = met one was w agrees in
            rw (step_is w _ (sym (answer_is one was w agrees) ∙ none) (call.adds w.rulesets (w.processes process)), it, stands)
            (agrees_after (with_changed old.store ix now.after) old.tables w _ _ w.count process process _ _ agrees
            (zip_set (IsSame old.tree.now) old.store.rulesets w.rulesets ix now.after (f other) agrees.rulesets ((stays now.after now.is_now).1 other same))
            (holds_same old.tables.held.items process) agrees.count refl (agrees.held process));
        fits = λ w agrees. (call.on_rulesets, sym none ∙ answer_is one was w agrees);
      }

      pub settles_rule : (s : Stock) (IsAdded : RulesOn ℕ → RulesOn ℕ → Type 0) (attempt : Result (Unit {0}) RuleFault) (outcome : RulesetOutcome) →
          AddsRule (λ one. option_map fault_of (refusal one)) IsAdded attempt ix old.store s → IsAnswerTo attempt outcome →
          ((one next : RulesOn ℕ) → slice_get old.store.rulesets ix ≡ Some one → IsAdded one next
          → AreInTree old.tree.now next × ((other : Layer) → IsSame old.tree.now one other → IsSame old.tree.now next (f other))) →
          Settles process op old (after s old.tables) outcome
      settles_rule s IsAdded (Ok done) outcome adds is stays =
          let told : outcome ≡ Answered (of_rule_refusal (refusal adds.before)) = answer_told (refusal adds.before) (Ok done) outcome adds.told is in
          let none : of_rule_refusal (refusal adds.before) ≡ Allowed = cc in
          rw is (settles_added s adds.before (IsAdded adds.before) adds.was none adds.added (λ next. stays adds.before next adds.was))
      settles_rule s IsAdded (Err fault) outcome adds is stays =
          let told : outcome ≡ Answered (of_rule_refusal (refusal adds.before)) = answer_told (refusal adds.before) (Err fault) outcome adds.told is in
          rw (adds.refused, told) (settles_refused (of_rule_refusal (refusal adds.before)) call.on_rulesets
          (λ allowed. refused_told fault outcome is (told ∙ ap Answered allowed)) (answer_is adds.before adds.was))
