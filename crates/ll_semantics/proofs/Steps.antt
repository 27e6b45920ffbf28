-- What one call does to a world: to the state of its own process, to the one it starts, and to all others.
use Rattle.std.proofs.Common.{◌≡◌, ◌≢◌, ℕ, ◌+◌, true, false, cond, List, [], ◌∷◌, take, Some, None, refl, sym, ap, ◌∙◌, inl, inr, arith, zero, suc, length}
use Rattle.std.proofs.Common.{add-one}
use Rattle.std.proofs.lemmas.Bool.{cases_eq, eq-eqb, ne_eqb}
use Rattle.ll_rights.specs.declared.abi.Abi.{Abi}
use Rattle.ll_tree.specs.Trees.{Entry}
use Rattle.ll_trace.specs.declared.op.Record.{Record}
use Rattle.ll_trace.specs.declared.op.Op.{Op}
use Rattle.ll_trace.specs.declared.op.Op.TheVariants.{Start, Fork}
use Rattle.ll_semantics.specs.declared.answer.Answer.{Answer}
use Rattle.ll_semantics.specs.declared.answer.Answer.TheVariants.{Allowed, Moot, Refused}
use Rattle.ll_semantics.specs.States.{State, Layer}
use Rattle.ll_semantics.specs.Answers.{answer}
use Rattle.ll_semantics.specs.Effects.{Effect, nothing, leaves, leaves_rulesets, begins, effect}
use Rattle.ll_semantics.specs.CallContexts.{state_by, rulesets_by, begun_by, change, rules, started, state_after, rulesets_after, world_after, world_at}
use Rattle.ll_semantics.specs.Worlds.{World, if_allowed, with_state, affected, answer_in, step, empty_world, judged_from, judged}
use Rattle.ll_trace.specs.Processes.{is_start, is_fork, is_starting, process_count}
use Rattle.ll_trace.proofs.Numbers.{process_count-cons}
use Rattle.std.specs.Prelude.{slice_get}

-- ---- one state is set

pub with_state-own : (f : ℕ → State) (p : ℕ) (s : State) → with_state f p s p ≡ s
with_state-own f p s = rw (eq-eqb p p refl) refl

pub with_state-other : (f : ℕ → State) (p q : ℕ) (s : State) → q ≢ p → with_state f p s q ≡ f q
with_state-other f p q s other = rw (ne_eqb q p other) refl

pub with_state-same : (f : ℕ → State) (p q : ℕ) → with_state f p (f p) q ≡ f q
with_state-same f p q = elim (cases_eq q p) [
  | inl same ↦ rw (eq-eqb q p same, same) refl
  | inr other ↦ rw (ne_eqb q p other) refl
]

-- ---- what an effect does to a world

affected-own : (w : World) (process : ℕ) (e : Effect) → process ≢ w.count → (affected w process e).processes process ≡ state_by e (w.processes process)
unfolding state_by
affected-own w process nothing older = refl
affected-own w process (leaves s) older = with_state-own w.processes process s
affected-own w process (leaves_rulesets rulesets s) older = with_state-own w.processes process s
affected-own w process (begins s) older = with_state-other w.processes w.count process s older

affected-other : (w : World) (process p : ℕ) (e : Effect) → p ≢ process → p ≢ w.count → (affected w process e).processes p ≡ w.processes p
affected-other w process p nothing other older = refl
affected-other w process p (leaves s) other older = with_state-other w.processes process p s other
affected-other w process p (leaves_rulesets rulesets s) other older = with_state-other w.processes process p s other
affected-other w process p (begins s) other older = with_state-other w.processes w.count p s older

-- where no process begins, only the own one's state can change
affected-unbegun : (w : World) (process p : ℕ) (e : Effect) → begun_by e ≡ None
    → (affected w process e).processes p ≡ with_state w.processes process (state_by e (w.processes process)) p
unfolding begun_by state_by
affected-unbegun w process p nothing none = sym (with_state-same w.processes process p)
affected-unbegun w process p (leaves s) none = refl
affected-unbegun w process p (leaves_rulesets rulesets s) none = refl
affected-unbegun w process p (begins child) none = absurd (cc)

-- where one begins, it has the next number, and the others are as they were
affected-begun : (w : World) (process p : ℕ) (e : Effect) (child : State) → begun_by e ≡ Some child
    → (affected w process e).processes p ≡ with_state w.processes w.count child p
unfolding begun_by
affected-begun w process p nothing child is = absurd (cc)
affected-begun w process p (leaves after) child is = absurd (cc)
affected-begun w process p (leaves_rulesets rulesets after) child is = absurd (cc)
affected-begun w process p (begins s) child is = (let same : s ≡ child = cc in ap (λ (t : State). with_state w.processes w.count t p) same)

affected-rulesets : (w : World) (process : ℕ) (e : Effect) → (affected w process e).rulesets ≡ rulesets_by e w.rulesets
unfolding rulesets_by
affected-rulesets w process nothing = refl
affected-rulesets w process (leaves s) = refl
affected-rulesets w process (leaves_rulesets rulesets s) = refl
affected-rulesets w process (begins s) = refl

-- ---- what is left where the call isn't allowed

pub if_allowed-map : {A B : Type 0} (f : A → B) (a : Answer) (after before : A) → f (if_allowed a after before) ≡ if_allowed a (f after) (f before)
if_allowed-map f Allowed after before = refl
if_allowed-map f Moot after before = refl
if_allowed-map f (Refused error numbers) after before = refl

pub if_allowed-same : {A : Type 0} (a : Answer) (x : A) → if_allowed a x x ≡ x
if_allowed-same Allowed x = refl
if_allowed-same Moot x = refl
if_allowed-same (Refused error numbers) x = refl

-- ---- one step

module _ (tree : List Entry) (abi : Abi) where
  pub step-own : (w : World) (process : ℕ) (op : Op) → process ≢ w.count
      → (step tree abi w process op).processes process ≡ state_after tree abi w.rulesets op (w.processes process)
  unfolding step answer_in state_after change
  step-own w process op older =
      let asked : Answer = answer tree abi w.rulesets op (w.processes process) in
      let does : Effect = effect tree w.rulesets op (w.processes process) in
      if_allowed-map (λ (v : World). v.processes process) asked (affected w process does) w
      ∙ ap (λ (s : State). if_allowed asked s (w.processes process)) (affected-own w process does older)

  pub step-other : (w : World) (process : ℕ) (op : Op) (p : ℕ) → p ≢ process → p ≢ w.count → (step tree abi w process op).processes p ≡ w.processes p
  unfolding step answer_in
  step-other w process op p other older =
      let asked : Answer = answer tree abi w.rulesets op (w.processes process) in
      let does : Effect = effect tree w.rulesets op (w.processes process) in
      if_allowed-map (λ (v : World). v.processes p) asked (affected w process does) w
      ∙ ap (λ (s : State). if_allowed asked s (w.processes p)) (affected-other w process p does other older)
      ∙ if_allowed-same asked (w.processes p)

  pub step-rulesets : (w : World) (process : ℕ) (op : Op) → (step tree abi w process op).rulesets ≡ rulesets_after tree abi w.rulesets op (w.processes process)
  unfolding step answer_in rulesets_after rules
  step-rulesets w process op =
      let asked : Answer = answer tree abi w.rulesets op (w.processes process) in
      let does : Effect = effect tree w.rulesets op (w.processes process) in
      if_allowed-map (λ (v : World). v.rulesets) asked (affected w process does) w
      ∙ ap (λ (rulesets : List Layer). if_allowed asked rulesets w.rulesets) (affected-rulesets w process does)

  -- ---- what starts a process

  -- only a start and a fork begin a process, and both are allowed
  pub begun_is_allowed : (rulesets : List Layer) (op : Op) (s child : State) → started tree rulesets op s ≡ Some child → answer tree abi rulesets op s ≡ Allowed
  unfolding started begun_by effect answer
  begun_is_allowed rulesets (Start nnp admin) s child is = refl
  begun_is_allowed rulesets (Fork c) s child is = refl
  begun_is_allowed rulesets op s child is = absurd (cc)

  pub step-begun : (w : World) (process : ℕ) (op : Op) (p : ℕ) (child : State) → started tree w.rulesets op (w.processes process) ≡ Some child
      → (step tree abi w process op).processes p ≡ with_state w.processes w.count child p
  unfolding step answer_in started
  step-begun w process op p child is =
      let does : Effect = effect tree w.rulesets op (w.processes process) in
      ap (λ (a : Answer). (if_allowed a (affected w process does) w).processes p) (begun_is_allowed w.rulesets op (w.processes process) child is)
      ∙ affected-begun w process p does child is

  pub step-new : (w : World) (process : ℕ) (op : Op) (child : State) → started tree w.rulesets op (w.processes process) ≡ Some child
      → (step tree abi w process op).processes w.count ≡ child
  step-new w process op child is = step-begun w process op w.count child is ∙ with_state-own w.processes w.count child

  pub step-unbegun : (w : World) (process : ℕ) (op : Op) (p : ℕ) → started tree w.rulesets op (w.processes process) ≡ None
      → (step tree abi w process op).processes p ≡ with_state w.processes process (state_after tree abi w.rulesets op (w.processes process)) p
  unfolding step answer_in started state_after change
  step-unbegun w process op p none =
      let asked : Answer = answer tree abi w.rulesets op (w.processes process) in
      let does : Effect = effect tree w.rulesets op (w.processes process) in
      let after : State = state_by does (w.processes process) in
      if_allowed-map (λ (v : World). v.processes p) asked (affected w process does) w
      ∙ ap (λ (s : State). if_allowed asked s (w.processes p)) (affected-unbegun w process p does none)
      ∙ ap (λ (s : State). if_allowed asked (with_state w.processes process after p) s) (sym (with_state-same w.processes process p))
      ∙ sym (if_allowed-map (λ (s : State). with_state w.processes process s p) asked after (w.processes process))

-- ---- how many processes there are

count_kept : (a : Answer) (v w : World) → v.count ≡ w.count → (if_allowed a v w).count ≡ w.count + 0
count_kept a v w same = if_allowed-map (λ (x : World). x.count) a v w ∙ ap (λ (n : ℕ). if_allowed a n w.count) same ∙ if_allowed-same a w.count ∙ omega arith

pub count-step : (tree : List Entry) (abi : Abi) (w : World) (process : ℕ) (op : Op) → (step tree abi w process op).count ≡ w.count + cond (is_starting op) 1 0
unfolding step answer_in answer effect is_starting
count-step tree abi w process (Start nnp admin) = refl
count-step tree abi w process (Fork child) = refl
count-step tree abi w process op =
    count_kept (answer tree abi w.rulesets op (w.processes process)) (affected w process (effect tree w.rulesets op (w.processes process))) w refl

count-world_after : (tree : List Entry) (abi : Abi) (w : World) (rs : List Record) → (world_after tree abi w rs).count ≡ w.count + process_count rs
unfolding world_after process_count
count-world_after tree abi w [] = omega arith
count-world_after tree abi w (r ∷ rs) =
    omega (arith, count-world_after tree abi (step tree abi w r.process.0 r.op) rs, count-step tree abi w r.process.0 r.op, process_count-cons r rs)

pub count-world_at : (tree : List Entry) (abi : Abi) (records : List Record) (k : ℕ) → (world_at tree abi records k).count ≡ process_count (take k records)
unfolding world_at
count-world_at tree abi records k = omega (arith, count-world_after tree abi empty_world (take k records))

-- ---- what the operations have in common

pub started-none : (tree : List Entry) (rulesets : List Layer) (op : Op) (s : State) → is_starting op ≡ false → started tree rulesets op s ≡ None
unfolding started begun_by effect is_starting
started-none tree rulesets (Start nnp admin) s fails = cc
started-none tree rulesets (Fork child) s fails = cc
started-none tree rulesets op s fails = refl

-- a start is allowed, and leaves the state that it meets
pub answer-start : (tree : List Entry) (abi : Abi) (rulesets : List Layer) (op : Op) (s : State) → is_start op ≡ true → answer tree abi rulesets op s ≡ Allowed
unfolding answer is_start
answer-start tree abi rulesets (Start nnp admin) s holds = refl
answer-start tree abi rulesets op s holds = cc

pub state_after-start : (tree : List Entry) (abi : Abi) (rulesets : List Layer) (op : Op) (s : State) → is_start op ≡ true
    → state_after tree abi rulesets op s ≡ s
unfolding state_after answer change state_by effect is_start
state_after-start tree abi rulesets (Start nnp admin) s holds = refl
state_after-start tree abi rulesets op s holds = cc

-- a fork leaves its process as it was, and the child begins with the same state
pub state_after-fork : (tree : List Entry) (abi : Abi) (rulesets : List Layer) (op : Op) (s : State) → is_fork op ≡ true
    → state_after tree abi rulesets op s ≡ s
unfolding state_after answer change state_by effect is_fork
state_after-fork tree abi rulesets (Fork child) s holds = refl
state_after-fork tree abi rulesets op s holds = cc

pub started-fork : (tree : List Entry) (rulesets : List Layer) (op : Op) (s : State) → is_fork op ≡ true → started tree rulesets op s ≡ Some s
unfolding started begun_by effect is_fork
started-fork tree rulesets (Fork child) s holds = refl
started-fork tree rulesets op s holds = cc

-- ---- a call that isn't answered allowed

kept_unless : {A : Type 0} (a : Answer) (after before : A) → a ≢ Allowed → if_allowed a after before ≡ before
kept_unless Allowed after before other = absurd (other refl)
kept_unless Moot after before other = refl
kept_unless (Refused error numbers) after before other = refl

module _ (tree : List Entry) (abi : Abi) where
  pub world_kept : (w : World) (process : ℕ) (op : Op) → answer_in tree abi w process op ≢ Allowed → step tree abi w process op ≡ w
  unfolding step
  world_kept w process op other = kept_unless (answer_in tree abi w process op) (affected w process (effect tree w.rulesets op (w.processes process))) w other

  pub begins_allowed : (w : World) (process : ℕ) (op : Op) (child : State) → effect tree w.rulesets op (w.processes process) ≡ begins child
      → answer_in tree abi w process op ≡ Allowed
  unfolding answer_in started begun_by
  begins_allowed w process op child is = begun_is_allowed tree abi w.rulesets op (w.processes process) child (ap (λ (e : Effect). begun_by e) is)

  -- ---- the fold, record by record

  pub length-judged_from : (w : World) (rs : List Record) → length (judged_from tree abi w rs) ≡ length rs
  unfolding judged_from
  length-judged_from w [] = refl
  length-judged_from w (r ∷ rs) = ap suc (length-judged_from (step tree abi w r.process.0 r.op) rs)

  pub judged_from-at : (w : World) (rs : List Record) (k : ℕ) (r : Record) → slice_get rs k ≡ Some r
      → slice_get (judged_from tree abi w rs) k ≡ Some (answer_in tree abi (world_after tree abi w (take k rs)) r.process.0 r.op)
  unfolding judged_from world_after
  judged_from-at w [] k r eq = cc
  judged_from-at w (x ∷ rs) zero r eq = cc
  judged_from-at w (x ∷ rs) (suc k) r eq = judged_from-at (step tree abi w x.process.0 x.op) rs k r eq

  pub world_after-more : (w : World) (rs : List Record) (k : ℕ) (r : Record) → slice_get rs k ≡ Some r
      → world_after tree abi w (take (suc k) rs) ≡ step tree abi (world_after tree abi w (take k rs)) r.process.0 r.op
  unfolding world_after
  world_after-more w [] k r eq = cc
  world_after-more w (x ∷ rs) zero r eq = cc
  world_after-more w (x ∷ rs) (suc k) r eq = world_after-more (step tree abi w x.process.0 x.op) rs k r eq

  pub world_at-more : (records : List Record) (k : ℕ) (r : Record) → slice_get records k ≡ Some r
      → world_at tree abi records (k + 1) ≡ step tree abi (world_at tree abi records k) r.process.0 r.op
  unfolding world_at
  world_at-more records k r eq = rw add-one (world_after-more empty_world records k r eq)

  -- each answer of a trace is that of the world before its record
  pub judged-at : (records : List Record) (k : ℕ) (r : Record) → slice_get records k ≡ Some r
      → slice_get (judged tree abi records) k ≡ Some (answer_in tree abi (world_at tree abi records k) r.process.0 r.op)
  unfolding judged world_at
  judged-at records k r eq = judged_from-at empty_world records k r eq

  pub length-judged : (records : List Record) → length (judged tree abi records) ≡ length records
  unfolding judged
  length-judged records = length-judged_from empty_world records
