-- The trails of processes after one record more.
use Rattle.std.proofs.Common.{◌≡◌, ℕ, ◌+◌, ◌<◌, List, [], ◌∷◌, ◌++◌, length, true, false, Some, refl, sym, ap, subst, ◌∙◌, inl, inr, length-append, length-set}
use Rattle.std.proofs.Math.ListN.{set}
use Rattle.std.specs.List.{slice_get}
use Rattle.std.proofs.lemmas.Bool.{cases_eq, eq-eqb, ne_eqb, true≢false}
use Rattle.std.proofs.lemmas.Option.{same_Some}
use Rattle.ll_trace.proofs.Numbers.{slice_get-push}
use Rattle.ll_trace.specs.declared.op.Op.{Op}
use Rattle.ll_trace.specs.declared.op.Op.TheVariants as calls
use Rattle.ll_trace.specs.Entries.{is_start}
use Rattle.ll_trace.specs.Processes.{is_fork}
use Rattle.ll_semantics.specs.declared.answer.Answer.{Answer}
use Rattle.ll_semantics.specs.Worlds.{if_allowed}
use Rattle.ll_rulebook.proofs.Frozen.{slice_get-set}
use Rattle.ll_reasons.specs.Origins.{Origins, Sources, no_origins, with_next, with_origins, traced, sources_by}
use Rattle.ll_origins.specs.declared.trail.ProcessOrigins.{ProcessOrigins}
use Rattle.ll_origins.specs.TraceOrigins.{Follows, AreTrails}

-- another trail of one process
pub trails_changed : (trails : List ProcessOrigins) (process : ℕ) (trail : ProcessOrigins) (sources : Sources) (o : Origins) → process < length trails
    → AreTrails trails sources → Follows trail o →
    AreTrails (set trails process trail) (record sources { processes = with_origins sources.processes process o })
trails_changed trails process trail sources o there are follows = record {
  count = length-set trails process trail ∙ are.count;
  each = λ other one eq. elim (cases_eq other process) [
    | inl same ↦
        let here : slice_get (set trails process trail) other ≡ Some trail =
        rw (slice_get-set trails process other trail there, eq-eqb other process same) refl in
        let it : trail ≡ one = cc in
        rw (← it, eq-eqb other process same) follows
    | inr differs ↦
        let before : slice_get (set trails process trail) other ≡ slice_get trails other =
        rw (slice_get-set trails process other trail there, ne_eqb other process differs) refl in
        rw (ne_eqb other process differs) (are.each other one (sym before ∙ eq))
  ];
}

-- each of some trails follows what the one at its index among others does
pub record FollowAlike (trails others : List ProcessOrigins) (count : ℕ) : Type 0 where
  pub as_many : length others ≡ count
  pub each : (process : ℕ) (other : ProcessOrigins) → slice_get others process ≡ Some other → (trail : ProcessOrigins)
      × (slice_get trails process ≡ Some trail) × ((o : Origins) → Follows trail o → Follows other o)

pub trail_alike : (trails others new : List ProcessOrigins) (count : ℕ) (trail other : ProcessOrigins) → FollowAlike trails others count
    → new ≡ others ++ other ∷ [] → slice_get trails count ≡ Some trail → ((o : Origins) → Follows trail o → Follows other o)
    → FollowAlike trails new (count + 1)
trail_alike trails others new count trail other alike pushed there follows = record {
  as_many = ap length pushed ∙ length-append others (other ∷ []) ∙ ap (λ n. n + 1) alike.as_many;
  each = λ process one eq. elim (cases_eq process (length others)) [
    | inl last ↦
        let here : slice_get (others ++ other ∷ []) process ≡ Some other = rw (slice_get-push others process other, eq-eqb process (length others) last) refl in
        let it : other ≡ one = same_Some other one (sym here ∙ sym (ap (λ all. slice_get all process) pushed) ∙ eq) in
        (trail, ap (slice_get trails) (last ∙ alike.as_many) ∙ there, λ o own. subst (λ t. Follows t o) it (follows o own))
    | inr earlier ↦
        let before : slice_get (others ++ other ∷ []) process ≡ slice_get others process =
        rw (slice_get-push others process other, ne_eqb process (length others) earlier) refl in
        alike.each process one (sym before ∙ sym (ap (λ all. slice_get all process) pushed) ∙ eq)
  ];
}

pub all_alike : (trails others : List ProcessOrigins) (sources : Sources) → FollowAlike trails others (length trails) → AreTrails trails sources
    → AreTrails others sources
all_alike trails others sources alike are = record {
  count = alike.as_many ∙ are.count;
  each = λ process other eq.
      let one = alike.each process other eq in
      one.2 (sources.processes process) (are.each process one.0 one.1);
}

-- a call that starts no process
pub sources_by_start : (index : ℕ) (op : Op) (process : ℕ) (answer : Answer) (sources : Sources) → is_start op ≡ true
    → sources_by index op process answer sources ≡ with_next sources no_origins
unfolding sources_by is_start
sources_by_start index (calls.Start nnp admin) process answer sources is = refl
sources_by_start index op process answer sources is = absurd (true≢false (sym is))

pub sources_by_fork : (index : ℕ) (op : Op) (process : ℕ) (answer : Answer) (sources : Sources) → is_fork op ≡ true
    → sources_by index op process answer sources ≡ with_next sources (sources.processes process)
unfolding sources_by is_fork
sources_by_fork index (calls.Fork child) process answer sources is = refl
sources_by_fork index op process answer sources is = absurd (true≢false (sym is))

pub sources_by_other : (index : ℕ) (op : Op) (process : ℕ) (answer : Answer) (sources : Sources) → is_start op ≡ false → is_fork op ≡ false
    → sources_by index op process answer sources
    ≡ if_allowed answer (record sources { processes = with_origins sources.processes process (traced index op (sources.processes process)) }) sources
unfolding sources_by is_start is_fork
sources_by_other index (calls.Start nnp admin) process answer sources not_start not_fork = absurd (true≢false not_start)
sources_by_other index (calls.Fork child) process answer sources not_start not_fork = absurd (true≢false not_fork)
sources_by_other index op process answer sources not_start not_fork = refl
