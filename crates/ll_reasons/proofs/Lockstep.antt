-- The origins of processes go with the world: what is said of each process's state and origins holds at every index, if each record keeps it.
use Rattle.std.proofs.Common.{◌≡◌, ℕ, zero, suc, ◌+◌, ◌==◌, Bool, true, false, cond, List, [], ◌∷◌, take, Option, Some, None, refl, sym, ap, ◌∙◌, subst, arith}
use Rattle.std.specs.Prelude.{slice_get}
use Rattle.std.proofs.lemmas.Option.{none-some, same_Some}
use Rattle.ll_rights.specs.declared.abi.Abi.{Abi}
use Rattle.ll_tree.specs.Trees.{Entry}
use Rattle.ll_trace.specs.declared.op.Record.{Record}
use Rattle.ll_trace.specs.declared.op.Op.{Op}
use Rattle.ll_trace.specs.declared.op.Op.TheVariants.{Start, Fork}
use Rattle.ll_semantics.specs.declared.answer.Answer.{Answer}
use Rattle.ll_semantics.specs.declared.answer.Answer.TheVariants.{Allowed, Moot, Refused}
use Rattle.ll_semantics.specs.States.{State, fresh}
use Rattle.ll_semantics.specs.Answers.{answer}
use Rattle.ll_semantics.specs.Effects.{effect}
use Rattle.ll_semantics.specs.Worlds.{World, if_allowed, with_state, answer_in, step, judged, empty_world}
use Rattle.ll_semantics.specs.CallContexts.{change, state_after, world_after, world_at}
use Rattle.ll_trace.specs.Processes.{is_starting}
use Rattle.ll_semantics.proofs.Steps.{with_state-same, step-unbegun, started-none, count-step, judged-at, world_after-more}
use Rattle.ll_reasons.specs.Origins.{Origins, no_origins, traced, Sources, no_sources, with_origins, sources_by, sources_after, sources_at}
use Rattle.ll_reasons.specs.Explanations.{origins_at}

-- ---- the origins, record by record

pub sources_after-more : (i : ℕ) (s : Sources) (rs : List Record) (answers : List Answer) (k : ℕ) (r : Record) (a : Answer) → slice_get rs k ≡ Some r
    → slice_get answers k ≡ Some a
    → sources_after i s (take (suc k) rs) answers ≡ sources_by (i + k) r.op r.process.0 a (sources_after i s (take k rs) answers)
unfolding sources_after
sources_after-more i s [] answers k r a eq asked = absurd (none-some r eq)
sources_after-more i s (x ∷ rs) [] k r a eq asked = absurd (none-some a asked)
sources_after-more i s (x ∷ rs) (y ∷ answers) zero r a eq asked =
    rw (sym (same_Some x r eq), sym (same_Some y a asked), (let none : i + 0 ≡ i = omega arith in none)) refl
sources_after-more i s (x ∷ rs) (y ∷ answers) (suc k) r a eq asked =
    sources_after-more (i + 1) (sources_by i x.op x.process.0 y s) rs answers k r a eq asked
    ∙ ap (λ (n : ℕ). sources_by n r.op r.process.0 a (sources_after (i + 1) (sources_by i x.op x.process.0 y s) (take k rs) answers))
    (let more : i + 1 + k ≡ i + suc k = omega arith in more)

pub sources_at-more : (tree : List Entry) (abi : Abi) (records : List Record) (k : ℕ) (r : Record) → slice_get records k ≡ Some r
    → sources_at tree abi records (suc k)
    ≡ sources_by k r.op r.process.0 (answer_in tree abi (world_at tree abi records k) r.process.0 r.op) (sources_at tree abi records k)
unfolding sources_at
sources_at-more tree abi records k r eq =
    sources_after-more 0 no_sources records (judged tree abi records) k r (answer_in tree abi (world_at tree abi records k) r.process.0 r.op)
    eq (judged-at tree abi records k r eq)
    ∙ ap (λ (n : ℕ). sources_by n r.op r.process.0 (answer_in tree abi (world_at tree abi records k) r.process.0 r.op)
    (sources_after 0 no_sources (take k records) (judged tree abi records))) (let same : 0 + k ≡ k = omega arith in same)

pub world_at-more : (tree : List Entry) (abi : Abi) (records : List Record) (k : ℕ) (r : Record) → slice_get records k ≡ Some r
    → world_at tree abi records (suc k) ≡ step tree abi (world_at tree abi records k) r.process.0 r.op
unfolding world_at
world_at-more tree abi records k r eq = world_after-more tree abi empty_world records k r eq

-- ---- past the end

take_past : (rs : List Record) (k : ℕ) → slice_get rs k ≡ None → take (suc k) rs ≡ take k rs
take_past [] zero past = refl
take_past [] (suc k) past = refl
take_past (x ∷ rs) zero past = absurd (none-some x (sym past))
take_past (x ∷ rs) (suc k) past = ap (λ (ys : List Record). x ∷ ys) (take_past rs k past)

pub world_at-past : (tree : List Entry) (abi : Abi) (records : List Record) (k : ℕ) → slice_get records k ≡ None
    → world_at tree abi records (suc k) ≡ world_at tree abi records k
unfolding world_at
world_at-past tree abi records k past = ap (λ (rs : List Record). world_after tree abi empty_world rs) (take_past records k past)

sources_at-past : (tree : List Entry) (abi : Abi) (records : List Record) (k : ℕ) → slice_get records k ≡ None
    → sources_at tree abi records (suc k) ≡ sources_at tree abi records k
unfolding sources_at
sources_at-past tree abi records k past = ap (λ (rs : List Record). sources_after 0 no_sources rs (judged tree abi records)) (take_past records k past)

-- ---- how many processes there are

counts_kept : (a : Answer) (s : Sources) (processes : ℕ → Origins) → (if_allowed a (record s { processes = processes }) s).count ≡ s.count
counts_kept Allowed s processes = refl
counts_kept Moot s processes = refl
counts_kept (Refused error numbers) s processes = refl

pub count-sources_by : (k : ℕ) (op : Op) (p : ℕ) (a : Answer) (s : Sources) → (sources_by k op p a s).count ≡ s.count + cond (is_starting op) 1 0
unfolding sources_by is_starting
count-sources_by k (Start nnp admin) p a s = refl
count-sources_by k (Fork child) p a s = refl
count-sources_by k op p a s = counts_kept a s (with_origins s.processes p (traced k op (s.processes p))) ∙ omega arith

-- ---- what is said of each process

-- what is said of an index, a state and its origins
pub record Keeps (tree : List Entry) (abi : Abi) (records : List Record) (Fits : ℕ → State → Origins → Type 0) : Type 0 where
  -- it holds of a process that a trace begins with
  pub begins : (k : ℕ) (nnp admin : Bool) → Fits k (fresh nnp admin) no_origins
  -- whatever happens to other processes
  pub stays : (k : ℕ) (s : State) (o : Origins) → Fits k s o → Fits (suc k) s o
  -- and by what an allowed record changes
  pub changes : (k : ℕ) (r : Record) (o : Origins) → slice_get records k ≡ Some r → answer_in tree abi (world_at tree abi records k) r.process.0 r.op ≡ Allowed
      → slice_get (judged tree abi records) k ≡ Some Allowed → Fits k ((world_at tree abi records k).processes r.process.0) o
      → Fits (suc k) (change tree (world_at tree abi records k).rulesets r.op ((world_at tree abi records k).processes r.process.0)) (traced k r.op o)

module _ (tree : List Entry) (abi : Abi) (records : List Record) (Fits : ℕ → State → Origins → Type 0) (keeps : Keeps tree abi records Fits) where
  either : (k : ℕ) (b : Bool) (s t : State) (o u : Origins) → Fits k s o → Fits k t u → Fits k (cond b s t) (cond b o u)
  either k true s t o u this that = this
  either k false s t o u this that = that

  by_answer : (k : ℕ) (w : World) (p q : ℕ) (s : State) (sources : Sources) (o : Origins) (a : Answer) → Fits k (w.processes q) (sources.processes q)
      → (a ≡ Allowed → Fits (suc k) s o)
      → Fits (suc k) (with_state w.processes p (if_allowed a s (w.processes p)) q)
      ((if_allowed a (record sources { processes = with_origins sources.processes p o }) sources).processes q)
  by_answer k w p q s sources o Allowed fits then =
      either (suc k) (q == p) s (w.processes q) o (sources.processes q) (then refl) (keeps.stays k (w.processes q) (sources.processes q) fits)
  by_answer k w p q s sources o Moot fits then =
      subst (λ (v : State). Fits (suc k) v (sources.processes q)) (sym (with_state-same w.processes p q))
      (keeps.stays k (w.processes q) (sources.processes q) fits)
  by_answer k w p q s sources o (Refused error numbers) fits then =
      subst (λ (v : State). Fits (suc k) v (sources.processes q)) (sym (with_state-same w.processes p q))
      (keeps.stays k (w.processes q) (sources.processes q) fits)

  -- one record
  by_record : (k : ℕ) (op : Op) (p q : ℕ) (w : World) (sources : Sources) → w.count ≡ sources.count → ((q : ℕ) → Fits k (w.processes q) (sources.processes q))
      → (answer_in tree abi w p op ≡ Allowed → Fits (suc k) (change tree w.rulesets op (w.processes p)) (traced k op (sources.processes p)))
      → Fits (suc k) ((step tree abi w p op).processes q) ((sources_by k op p (answer_in tree abi w p op) sources).processes q)
  unfolding step answer_in answer effect sources_by state_after is_starting
  by_record k (Start nnp admin) p q w sources counted fits then =
      subst (λ (n : ℕ). Fits (suc k) (cond (q == w.count) (fresh nnp admin) (w.processes q)) (cond (q == n) no_origins (sources.processes q))) counted
      (either (suc k) (q == w.count) (fresh nnp admin) (w.processes q) no_origins (sources.processes q) (keeps.begins (suc k) nnp admin)
      (keeps.stays k (w.processes q) (sources.processes q) (fits q)))
  by_record k (Fork child) p q w sources counted fits then =
      subst (λ (n : ℕ). Fits (suc k) (cond (q == w.count) (w.processes p) (w.processes q)) (cond (q == n) (sources.processes p) (sources.processes q))) counted
      (either (suc k) (q == w.count) (w.processes p) (w.processes q) (sources.processes p) (sources.processes q)
      (keeps.stays k (w.processes p) (sources.processes p) (fits p)) (keeps.stays k (w.processes q) (sources.processes q) (fits q)))
  by_record k op p q w sources counted fits then =
      subst (λ (s : State). Fits (suc k) s ((sources_by k op p (answer_in tree abi w p op) sources).processes q))
      (sym (step-unbegun tree abi w p op q (started-none tree w.rulesets op (w.processes p) refl)))
      (by_answer k w p q (change tree w.rulesets op (w.processes p)) sources (traced k op (sources.processes p))
      (answer tree abi w.rulesets op (w.processes p)) (fits q) then)

  AllFit : ℕ → Type 0
  AllFit k = ((world_at tree abi records k).count ≡ (sources_at tree abi records k).count)
      × ((q : ℕ) → Fits k ((world_at tree abi records k).processes q) ((sources_at tree abi records k).processes q))

  next : (k : ℕ) (x : Option Record) → slice_get records k ≡ x → AllFit k → AllFit (suc k)
  unfolding AllFit
  next k None past before =
      rw (world_at-past tree abi records k past, sources_at-past tree abi records k past)
      (before.0, λ q. keeps.stays k ((world_at tree abi records k).processes q) ((sources_at tree abi records k).processes q) (before.1 q))
  next k (Some r) eq before =
      let w : World = world_at tree abi records k in
      let sources : Sources = sources_at tree abi records k in
      rw (world_at-more tree abi records k r eq, sources_at-more tree abi records k r eq) (
        count-step tree abi w r.process.0 r.op ∙ ap (λ (n : ℕ). n + cond (is_starting r.op) 1 0) before.0
            ∙ sym (count-sources_by k r.op r.process.0 (answer_in tree abi w r.process.0 r.op) sources),
        λ q. by_record k r.op r.process.0 q w sources before.0 before.1 (λ allowed.
            keeps.changes k r (sources.processes r.process.0) eq allowed (judged-at tree abi records k r eq ∙ ap Some allowed) (before.1 r.process.0)),
      )

  all_fit : (k : ℕ) → AllFit k
  unfolding AllFit world_at world_after sources_at sources_after
  all_fit zero = first records
    where
      first : (rs : List Record)
          → ((world_after tree abi empty_world (take 0 rs)).count ≡ (sources_after 0 no_sources (take 0 rs) (judged tree abi records)).count)
          × ((q : ℕ) → Fits 0 ((world_after tree abi empty_world (take 0 rs)).processes q)
          ((sources_after 0 no_sources (take 0 rs) (judged tree abi records)).processes q))
      first [] = (refl, λ q. keeps.begins 0 false false)
      first (r ∷ rs) = (refl, λ q. keeps.begins 0 false false)
  all_fit (suc k) = next k (slice_get records k) refl (all_fit k)

  pub holds_at : (index process : ℕ) → Fits index ((world_at tree abi records index).processes process) (origins_at tree abi records index process)
  unfolding origins_at AllFit
  holds_at index process = (all_fit index).1 process
