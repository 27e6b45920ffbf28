-- The processes that a trace begins with, and what they begin with.
use Rattle.std.proofs.Common.{◌≡◌, ℕ, suc, ◌+◌, ◌<◌, ◌≤◌, Bool, true, false, cond, List, [], ◌∷◌, ◌++◌, length, take, map, Option, Some, None, refl, sym, ap}
use Rattle.std.proofs.Common.{◌∙◌, subst, arith}
use Rattle.std.specs.Prelude.{slice_get, filter}
use Rattle.std.specs.List.{cons_option}
use Rattle.std.proofs.lemmas.List.{map-append, take_more, append-nil, take_all}
use Rattle.std.proofs.lemmas.List.Elements.{filter-append, All-push, All-same}
use Rattle.std.proofs.lemmas.Option.{slice_get_within, get_or_from_slice_get}
use Rattle.ll_tree.specs.Trees.{Entry}
use Rattle.ll_trace.specs.declared.op.Op.{Op}
use Rattle.ll_trace.specs.declared.op.Op.TheVariants.{Start}
use Rattle.ll_trace.specs.declared.op.Record.{Record}
use Rattle.ll_state.specs.declared.own_state.OwnState.{OwnState}
use Rattle.ll_semantics.specs.States.{State, Layer, fresh}
use Rattle.ll_semantics.specs.Effects.{effect}
use Rattle.ll_semantics.specs.CallContexts.{started, begun_by, world_at}
use Rattle.ll_semantics.specs.Worlds.{step}
use Rattle.ll_process.specs.declared.job.Job.{Job}
use Rattle.ll_trace.specs.Processes.{is_start, process_count, root_of, root_at, roots}
use Rattle.ll_process.specs.Judging.{state_left}
use Rattle.ll_process.specs.Cases.{CaseValue, IsCase, BeginsAs, AgreesIn}
use Rattle.ll_process.specs.Jobs.{processes_of, AreJobsOf}
use Rattle.ll_semantics.proofs.Steps.{world_at-more, step-new, count-world_at}
use Rattle.ll_trace.proofs.OwnRecords.{stands_at}
use Rattle.ll_trace.proofs.Numbers.{start-starts, is_start-from, StartedAt, started_at-is, started_once, numbered_below, count-all}

-- ---- one start record

pub root_there : (cv : CaseValue) (index : ℕ) (r : Record) → IsCase cv → slice_get cv.records index ≡ Some r → r.process.0 < process_count cv.records
root_there cv index r case eq = omega (arith, numbered_below cv.records index r case.numbered eq, count-all cv.records (suc index))

started-start : (tree : List Entry) (rulesets : List Layer) (op : Op) (nnp admin : Bool) (s : State) → op ≡ Start nnp admin
    → started tree rulesets op s ≡ Some (fresh nnp admin)
unfolding started begun_by effect
started-start tree rulesets op nnp admin s is = ap (λ o. started tree rulesets o s) is

root_left : (cv : CaseValue) (index : ℕ) (r : Record) (nnp admin : Bool) → IsCase cv → slice_get cv.records index ≡ Some r → r.op ≡ Start nnp admin
    → state_left cv.tree cv.abi cv.records index r.process.0 ≡ fresh nnp admin
unfolding state_left
root_left cv index r nnp admin case eq is =
    ap (λ w. w.processes r.process.0) (world_at-more cv.tree cv.abi cv.records index r eq)
    ∙ ap (λ p. (step cv.tree cv.abi (world_at cv.tree cv.abi cv.records index) r.process.0 r.op).processes p)
    (case.numbered.begins index r eq (is_start-from r.op nnp admin is) ∙ sym (count-world_at cv.tree cv.abi cv.records index))
    ∙ step-new cv.tree cv.abi (world_at cv.tree cv.abi cv.records index) r.process.0 r.op (fresh nnp admin)
    (started-start cv.tree (world_at cv.tree cv.abi cv.records index).rulesets r.op nnp admin
    ((world_at cv.tree cv.abi cv.records index).processes r.process.0) is)

pub root_begins : (cv : CaseValue) (index : ℕ) (r : Record) (nnp admin : Bool) (own : OwnState) → IsCase cv → slice_get cv.records index ≡ Some r
    → r.op ≡ Start nnp admin → AgreesIn cv own (fresh nnp admin) → BeginsAs cv r.process.0 own
root_begins cv index r nnp admin own case eq is agrees k starts =
    let start : is_start r.op ≡ true = is_start-from r.op nnp admin is in
    let here : StartedAt cv.records index r.process.0 =
    record { of = r; at = eq; kind = start-starts r.op start; number = case.numbered.begins index r eq start } in
    let same : index ≡ k = started_once cv.records index k r.process.0 here (started_at-is cv.records k r.process.0 starts) in
    subst (λ (i : ℕ). AgreesIn cv own (state_left cv.tree cv.abi cv.records i r.process.0)) same
    (subst (λ (s : State). AgreesIn cv own s) (sym (root_left cv index r nnp admin case eq is)) agrees)

pub root_at-start : (records : List Record) (index : ℕ) (r : Record) → slice_get records index ≡ Some r → is_start r.op ≡ true
    → root_at records index ≡ Some r.process.0
unfolding root_of
root_at-start records index r eq starts = rw (eq, starts) refl

pub root_at-other : (records : List Record) (index : ℕ) (r : Record) → slice_get records index ≡ Some r → is_start r.op ≡ false → root_at records index ≡ None
unfolding root_of
root_at-other records index r eq goes = rw (eq, goes) refl

-- ---- one record more

roots-one : (r : Record) → map (λ (x : Record). x.process.0) (filter (λ (x : Record). is_start x.op) (r ∷ [])) ≡ cons_option (root_of (Some r)) []
unfolding root_of
roots-one r = by_start (is_start r.op)
  where
    by_start : (b : Bool) → map (λ (x : Record). x.process.0) (cond b (r ∷ []) []) ≡ cons_option (cond b (Some r.process.0) None) []
    by_start true = refl
    by_start false = refl

pub roots_more : (records : List Record) (k : ℕ) (r : Record) → slice_get records k ≡ Some r
    → roots (take (k + 1) records) ≡ roots (take k records) ++ cons_option (root_at records k) []
unfolding roots
roots_more records k r eq =
    ap (λ (xs : List Record). map (λ (x : Record). x.process.0) (filter (λ (x : Record). is_start x.op) xs))
    (take_more records k r (slice_get_within records k r eq) ∙ ap (λ (x : Record). take k records ++ x ∷ []) (get_or_from_slice_get records k r r eq))
    ∙ ap (λ (xs : List Record). map (λ (x : Record). x.process.0) xs) (filter-append (λ (x : Record). is_start x.op) (take k records) (r ∷ []))
    ∙ map-append (λ (x : Record). x.process.0) (filter (λ (x : Record). is_start x.op) (take k records)) (filter (λ (x : Record). is_start x.op) (r ∷ []))
    ∙ ap (λ xs. map (λ (x : Record). x.process.0) (filter (λ (x : Record). is_start x.op) (take k records)) ++ xs)
    (roots-one r ∙ ap (λ (o : Option Record). cons_option (root_of o) []) (sym eq))

pub roots_none : (records : List Record) → [] ≡ roots (take 0 records)
unfolding roots
roots_none records = refl

-- ---- the jobs so far

pub record Rooted (cv : CaseValue) (k : ℕ) (jobs : List Job) : Type 0 where
  pub roots : processes_of jobs ≡ roots (take k cv.records)
  pub of_case : AreJobsOf cv jobs

roots_next : (cv : CaseValue) (k : ℕ) → k < length cv.records
    → roots (take (k + 1) cv.records) ≡ roots (take k cv.records) ++ cons_option (root_at cv.records k) []
roots_next cv k within =
    (let found : (r : Record) × (slice_get cv.records k ≡ Some r) = stands_at cv.records k within in roots_more cv.records k found.0 found.1)

pub rooted_none : (cv : CaseValue) (jobs : List Job) → jobs ≡ [] → Rooted cv 0 jobs
rooted_none cv jobs none = record {
  roots = ap (λ (xs : List Job). processes_of xs) none ∙ roots_none cv.records;
  of_case = All-same (λ (j : Job). j.case.now ≡ cv) jobs [] none (λ k d within. absurd (omega arith));
}

pub rooted_other : (cv : CaseValue) (k : ℕ) (jobs : List Job) → k < length cv.records → None ≡ root_at cv.records k → Rooted cv k jobs → Rooted cv (k + 1) jobs
rooted_other cv k jobs within none so_far = record {
  roots = so_far.roots
      ∙ sym (roots_next cv k within ∙ ap (λ (o : Option ℕ). roots (take k cv.records) ++ cons_option o []) (sym none) ∙ append-nil (roots (take k cv.records)));
  of_case = so_far.of_case;
}

pub rooted_more : (cv : CaseValue) (k : ℕ) (jobs jobs_after : List Job) (job : Job) → k < length cv.records → Some job.process.0 ≡ root_at cv.records k
    → job.case.now ≡ cv → jobs_after ≡ jobs ++ job ∷ [] → Rooted cv k jobs → Rooted cv (k + 1) jobs_after
rooted_more cv k jobs jobs_after job within is its pushed so_far = record {
  roots = ap (λ (xs : List Job). processes_of xs) pushed
      ∙ map-append (λ (j : Job). j.process.0) jobs (job ∷ [])
      ∙ ap (λ xs. xs ++ job.process.0 ∷ []) so_far.roots
      ∙ sym (roots_next cv k within ∙ ap (λ (o : Option ℕ). roots (take k cv.records) ++ cons_option o []) (sym is));
  of_case = All-same (λ (j : Job). j.case.now ≡ cv) jobs_after (jobs ++ job ∷ []) pushed (All-push (λ (j : Job). j.case.now ≡ cv) jobs job so_far.of_case its);
}

pub rooted_all : (cv : CaseValue) (k : ℕ) (jobs : List Job) → length cv.records ≤ k → Rooted cv k jobs → processes_of jobs ≡ roots cv.records
rooted_all cv k jobs all so_far = so_far.roots ∙ ap (λ (xs : List Record). roots xs) (take_all k cv.records all)
