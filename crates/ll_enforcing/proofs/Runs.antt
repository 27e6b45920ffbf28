-- What operations of one process make of the rulesets and of its own state, one after another.
use Rattle.std.proofs.Common.{◌≡◌, ◌≢◌, ℕ, ◌<◌, false, List, [], ◌∷◌, ◌++◌, refl, sym, ap, ◌∙◌, arith}
use Rattle.std.proofs.lemmas.List.{append_assoc}
use Rattle.ll_rights.specs.declared.abi.Abi.{Abi}
use Rattle.ll_tree.specs.Trees.{Entry}
use Rattle.ll_rules.specs.declared.errno.Errno.{Errno}
use Rattle.ll_trace.specs.declared.op.Op.{Op}
use Rattle.ll_trace.specs.Processes.{is_starting}
use Rattle.ll_semantics.specs.declared.answer.Answer.{Answer}
use Rattle.ll_semantics.specs.declared.answer.Answer.TheVariants.{Allowed, Moot, Refused}
use Rattle.ll_semantics.specs.States.{State, Layer}
use Rattle.ll_semantics.specs.Answers.{answer}
use Rattle.ll_semantics.specs.CallContexts.{change, rules, state_after, rulesets_after, world_after}
use Rattle.ll_semantics.specs.Worlds.{World, if_allowed, answer_in, step, judged_from}
use Rattle.ll_semantics.proofs.Steps.{step-own, step-other, step-rulesets, count-step}
use Rattle.ll_enforcing.specs.Answered.{records_of}

module _ (tree : List Entry) (abi : Abi) where
  -- the answers to operations, from rulesets and a state on, and what is left of both
  abbrev pub answers_on : List Layer → State → List Op → List Answer
  answers_on rulesets s [] = []
  answers_on rulesets s (op ∷ ops) = answer tree abi rulesets op s ∷ answers_on (rulesets_after tree abi rulesets op s) (state_after tree abi rulesets op s) ops

  abbrev pub rulesets_on : List Layer → State → List Op → List Layer
  rulesets_on rulesets s [] = rulesets
  rulesets_on rulesets s (op ∷ ops) = rulesets_on (rulesets_after tree abi rulesets op s) (state_after tree abi rulesets op s) ops

  abbrev pub state_on : List Layer → State → List Op → State
  state_on rulesets s [] = s
  state_on rulesets s (op ∷ ops) = state_on (rulesets_after tree abi rulesets op s) (state_after tree abi rulesets op s) ops

  -- some operations are answered so, and lead from rulesets and a state to others
  pub record Leads (rulesets : List Layer) (s : State) (ops : List Op) (answers : List Answer) (rulesets_then : List Layer) (s_then : State) : Type 0 where
    pub answered : (rest : List Op) → answers_on rulesets s (ops ++ rest) ≡ answers ++ answers_on rulesets_then s_then rest
    pub leaves_rulesets : (rest : List Op) → rulesets_on rulesets s (ops ++ rest) ≡ rulesets_on rulesets_then s_then rest
    pub leaves_state : (rest : List Op) → state_on rulesets s (ops ++ rest) ≡ state_on rulesets_then s_then rest

  pub leads_none : (rulesets : List Layer) (s : State) → Leads rulesets s [] [] rulesets s
  leads_none rulesets s = record { answered = λ rest. refl; leaves_rulesets = λ rest. refl; leaves_state = λ rest. refl }

  pub leads_on : (r₀ r₁ r₂ : List Layer) (s₀ s₁ s₂ : State) (a b : List Op) (xs ys : List Answer) → Leads r₀ s₀ a xs r₁ s₁ → Leads r₁ s₁ b ys r₂ s₂
      → Leads r₀ s₀ (a ++ b) (xs ++ ys) r₂ s₂
  leads_on r₀ r₁ r₂ s₀ s₁ s₂ a b xs ys first second = record {
    answered = λ rest. ap (answers_on r₀ s₀) (append_assoc a b rest) ∙ first.answered (b ++ rest)
        ∙ ap (λ (zs : List Answer). xs ++ zs) (second.answered rest) ∙ sym (append_assoc xs ys (answers_on r₂ s₂ rest));
    leaves_rulesets = λ rest. ap (rulesets_on r₀ s₀) (append_assoc a b rest) ∙ first.leaves_rulesets (b ++ rest) ∙ second.leaves_rulesets rest;
    leaves_state = λ rest. ap (state_on r₀ s₀) (append_assoc a b rest) ∙ first.leaves_state (b ++ rest) ∙ second.leaves_state rest;
  }

  pub leads_one : (r r' : List Layer) (s s' : State) (op : Op) (a : Answer) → answer tree abi r op s ≡ a → rulesets_after tree abi r op s ≡ r'
      → state_after tree abi r op s ≡ s' → Leads r s (op ∷ []) (a ∷ []) r' s'
  leads_one r r' s s' op a answers rulesets state = record {
    answered = λ rest. ap (λ (x : Answer). x ∷ answers_on (rulesets_after tree abi r op s) (state_after tree abi r op s) rest) answers
        ∙ ap (λ (x : List Layer). a ∷ answers_on x (state_after tree abi r op s) rest) rulesets
        ∙ ap (λ (x : State). a ∷ answers_on r' x rest) state;
    leaves_rulesets = λ rest. ap (λ (x : List Layer). rulesets_on x (state_after tree abi r op s) rest) rulesets
        ∙ ap (λ (x : State). rulesets_on r' x rest) state;
    leaves_state = λ rest. ap (λ (x : List Layer). state_on x (state_after tree abi r op s) rest) rulesets ∙ ap (λ (x : State). state_on r' x rest) state;
  }

  -- an allowed call does what it does
  pub leads_allowed : (r r' : List Layer) (s s' : State) (op : Op) → answer tree abi r op s ≡ Allowed → rules tree r op s ≡ r'
      → change tree r op s ≡ s' → Leads r s (op ∷ []) (Allowed ∷ []) r' s'
  unfolding rulesets_after state_after
  leads_allowed r r' s s' op allowed rulesets state =
      leads_one r r' s s' op Allowed allowed (ap (λ (x : Answer). if_allowed x (rules tree r op s) r) allowed ∙ rulesets)
      (ap (λ (x : Answer). if_allowed x (change tree r op s) s) allowed ∙ state)

  -- any other does nothing
  pub leads_moot : (r : List Layer) (s : State) (op : Op) → answer tree abi r op s ≡ Moot → Leads r s (op ∷ []) (Moot ∷ []) r s
  unfolding rulesets_after state_after
  leads_moot r s op is =
      leads_one r r s s op Moot is (ap (λ (x : Answer). if_allowed x (rules tree r op s) r) is) (ap (λ (x : Answer). if_allowed x (change tree r op s) s) is)

  pub leads_refused : (r : List Layer) (s : State) (op : Op) (error : Errno) (numbers : List ℕ) → answer tree abi r op s ≡ Refused error numbers
      → Leads r s (op ∷ []) (Refused error numbers ∷ []) r s
  unfolding rulesets_after state_after
  leads_refused r s op error numbers is =
      leads_one r r s s op (Refused error numbers) is (ap (λ (x : Answer). if_allowed x (rules tree r op s) r) is)
      (ap (λ (x : Answer). if_allowed x (change tree r op s) s) is)

  -- ---- the same of a world

  abbrev pub NoneStarts : List Op → Type 0
  NoneStarts [] = Unit {0}
  NoneStarts (op ∷ ops) = (is_starting op ≡ false) × NoneStarts ops

  counted : (w : World) (process : ℕ) (op : Op) → is_starting op ≡ false → (step tree abi w process op).count ≡ w.count
  counted w process op quiet = count-step tree abi w process op ∙ rw quiet (omega arith)

  pub judged_on : (w : World) (process : ℕ) (ops : List Op) → process < w.count → NoneStarts ops
      → judged_from tree abi w (records_of process ops) ≡ answers_on w.rulesets (w.processes process) ops
  unfolding judged_from answer_in
  judged_on w process [] started quiet = refl
  judged_on w process (op ∷ ops) started quiet =
      let next : World = step tree abi w process op in
      let differs : process ≢ w.count = omega arith in
      let there : process < next.count = rw (counted w process op quiet.0) started in
      ap (λ (xs : List Answer). answer tree abi w.rulesets op (w.processes process) ∷ xs)
      (judged_on next process ops there quiet.1
      ∙ ap (λ (x : List Layer). answers_on x (next.processes process) ops) (step-rulesets tree abi w process op)
      ∙ ap (λ (x : State). answers_on (rulesets_after tree abi w.rulesets op (w.processes process)) x ops) (step-own tree abi w process op differs))

  pub state_then_on : (w : World) (process : ℕ) (ops : List Op) → process < w.count → NoneStarts ops
      → (world_after tree abi w (records_of process ops)).processes process ≡ state_on w.rulesets (w.processes process) ops
  unfolding world_after
  state_then_on w process [] started quiet = refl
  state_then_on w process (op ∷ ops) started quiet =
      let next : World = step tree abi w process op in
      let differs : process ≢ w.count = omega arith in
      let there : process < next.count = rw (counted w process op quiet.0) started in
      state_then_on next process ops there quiet.1
      ∙ ap (λ (x : List Layer). state_on x (next.processes process) ops) (step-rulesets tree abi w process op)
      ∙ ap (λ (x : State). state_on (rulesets_after tree abi w.rulesets op (w.processes process)) x ops) (step-own tree abi w process op differs)

  pub others_kept : (w : World) (process other : ℕ) (ops : List Op) → other < w.count → other ≢ process → NoneStarts ops
      → (world_after tree abi w (records_of process ops)).processes other ≡ w.processes other
  unfolding world_after
  others_kept w process other [] started differs quiet = refl
  others_kept w process other (op ∷ ops) started differs quiet =
      let next : World = step tree abi w process op in
      let there : other < next.count = rw (counted w process op quiet.0) started in
      let older : other ≢ w.count = omega arith in
      others_kept next process other ops there differs quiet.1 ∙ step-other tree abi w process op other differs older
