-- The walk over a process's own records: its beginning, one record more, and its end.
use Rattle.std.proofs.Common.{◌≡◌, ℕ, suc, ◌+◌, ◌<◌, ◌≤◌, List, [], ◌∷◌, ◌++◌, length, drop, map, get_or, Option, Some, None, refl, sym, ap, ◌∙◌, subst, arith}
use Rattle.std.proofs.Common.{append_assoc, option_to_list}
use Rattle.std.specs.Prelude.{false, slice_get, sum_by}
use Rattle.std.specs.Option.{is_some}
use Rattle.std.proofs.lemmas.Bool.{false≢true}
use Rattle.std.specs.List.{filter_map, cons_option}
use Rattle.std.proofs.lemmas.List.{drop_more, drop_all, append-nil}
use Rattle.std.proofs.lemmas.List.Sums.{sum_by-append, sum_by-cons}
use Rattle.std.specs.Option.{option_map}
use Rattle.std.proofs.lemmas.Option.{slice_get-get_or, slice_get_within}
use Rattle.ll_semantics.specs.declared.answer.Answer.{Answer}
use Rattle.ll_state.specs.declared.own_state.OwnState.{OwnState}
use Rattle.ll_semantics.specs.States.{State}
use Rattle.ll_trace.specs.Processes.{own_records, forked_at, process_count, started_at}
use Rattle.ll_process.specs.Judging.{answer_at, answers_of}
use Rattle.ll_process.specs.Cases.{CaseValue, IsCase, BeginsAs, AgreesIn, own_answers}
use Rattle.ll_process.specs.Own.{IsOwn, Leaves}
use Rattle.ll_process.specs.Jobs.{HandedOut}
use Rattle.ll_process.specs.Progresses.{answers_from, children_from, MeetsFrom}
use Rattle.ll_trace.proofs.Numbers.{start_of, started_at-from}
use Rattle.ll_trace.proofs.OwnRecords.{own_record}
use Rattle.ll_process.proofs.Walks.{met_first, met_next}

module _ (cv : CaseValue) (process : ℕ) where
  -- The own records before position j were judged: what there is now with what the rest answers and forks is what is due.
  pub record Going (j : ℕ) (own : OwnState) (answers : List (ℕ × Answer)) (kept_before kept due : List ℕ) : Type 0 where
    pub meets : MeetsFrom cv process j own
    pub answered : answers ++ answers_from cv process j ≡ own_answers cv process
    pub shared : (weight : ℕ → ℕ) → sum_by weight kept + sum_by weight (children_from cv.records process j) ≡ sum_by weight kept_before + sum_by weight due

  -- ---- the beginning

  pub begins_so : (own : OwnState) → IsCase cv → process < process_count cv.records → BeginsAs cv process own → MeetsFrom cv process 0 own
  begins_so own case there begins i first =
      let (k, one) = start_of cv.records process there in
      let starts : started_at cv.records k ≡ Some process = started_at-from cv.records k one.of one.at one.kind ∙ ap (λ (n : ℕ). Some n) (sym one.number) in
      subst (λ (s : State). AgreesIn cv own s) (sym (met_first cv.tree cv.abi cv.records process k i case.numbered one first)) (begins k starts)

  pub all_from : answers_from cv process 0 ≡ own_answers cv process
  unfolding answers_from answers_of
  all_from = refl

  -- ---- the end

  pub none_from : (j : ℕ) → length (own_records cv.records process) ≤ j → answers_from cv process j ≡ []
  unfolding answers_from
  none_from j past = ap (λ (xs : List ℕ). map (λ k. (k, answer_at cv.tree cv.abi cv.records k)) xs) (drop_all j (own_records cv.records process) past)

  pub no_more_children : (j : ℕ) → length (own_records cv.records process) ≤ j → children_from cv.records process j ≡ []
  unfolding children_from
  no_more_children j past = ap (λ (xs : List ℕ). filter_map (forked_at cv.records) xs) (drop_all j (own_records cv.records process) past)

  pub all_answered : (j : ℕ) (answers : List (ℕ × Answer)) → length (own_records cv.records process) ≤ j
      → answers ++ answers_from cv process j ≡ own_answers cv process → answers ≡ own_answers cv process
  all_answered j answers past answered = sym (append-nil answers) ∙ ap (λ xs. answers ++ xs) (sym (none_from j past)) ∙ answered

  pub answered_end : (j : ℕ) (answers : List (ℕ × Answer)) → length (own_records cv.records process) ≤ j
      → answers ++ answers_from cv process j ≡ own_answers cv process
      → answers ++ answers_from cv process (length (own_records cv.records process)) ≡ own_answers cv process
  answered_end j answers past answered =
      ap (λ xs. answers ++ xs) (none_from (length (own_records cv.records process)) (omega arith)) ∙ append-nil answers ∙ all_answered j answers past answered

  pub meets_end : (own : OwnState) (j : ℕ) → length (own_records cv.records process) ≤ j → MeetsFrom cv process j own
  meets_end own j past i there = absurd (omega (arith, slice_get_within (own_records cv.records process) j i there))

  -- ---- one record more

  module _ (j : ℕ) (items : List ℕ) (is : items ≡ own_records cv.records process) where
    -- the record that the walk is at
    pub index_now : j < length items → slice_get (own_records cv.records process) j ≡ Some (get_or items j 0)
    index_now within = rw (← is) (slice_get-get_or items j 0 within)

    pub own_now : j < length items → IsOwn cv (get_or items j 0) process
    own_now within = own_record cv.records process j (get_or items j 0) (index_now within)

    rest_is : j < length items → drop j (own_records cv.records process) ≡ get_or items j 0 ∷ drop (j + 1) (own_records cv.records process)
    rest_is within = rw (← is) (drop_more items j 0 within)

    pub meets_next : (own : OwnState) → IsCase cv → j < length items → Leaves cv (get_or items j 0) process own → MeetsFrom cv process (j + 1) own
    meets_next own case within leaves k next = rw (met_next cv.tree cv.abi cv.records process j (get_or items j 0) k case.numbered (index_now within)
        (let more : suc j ≡ j + 1 = omega arith in rw more next)) leaves

    pub answered_next : (answers : List (ℕ × Answer)) → j < length items → answers ++ answers_from cv process j ≡ own_answers cv process
        → (answers ++ (get_or items j 0, answer_at cv.tree cv.abi cv.records (get_or items j 0)) ∷ []) ++ answers_from cv process (j + 1)
        ≡ own_answers cv process
    unfolding answers_from
    answered_next answers within answered = rw append_assoc (rw (rest_is within) at answered)

    pub shared_next : (kept_before kept due kept_after back : List ℕ) → j < length items →
        ((weight : ℕ → ℕ) → sum_by weight kept + sum_by weight (children_from cv.records process j) ≡ sum_by weight kept_before + sum_by weight due) →
        HandedOut (option_to_list (forked_at cv.records (get_or items j 0))) (record { kept = kept; todo = [] }) (record { kept = kept_after; todo = back }) →
        (weight : ℕ → ℕ) → sum_by weight kept_after + sum_by weight back + sum_by weight (children_from cv.records process (j + 1))
        ≡ sum_by weight kept_before + sum_by weight due
    unfolding children_from
    shared_next kept_before kept due kept_after back within shared handed weight = omega (
      arith,
      handed.shared weight,
      shared weight,
      ap (λ xs. sum_by weight (filter_map (forked_at cv.records) xs)) (rest_is within),
      sum_option weight (forked_at cv.records (get_or items j 0)) (filter_map (forked_at cv.records) (drop (j + 1) (own_records cv.records process))),
    )
      where
        sum_option : (w : ℕ → ℕ) (o : Option ℕ) (xs : List ℕ) → sum_by w (cons_option o xs) ≡ sum_by w (option_to_list o) + sum_by w xs
        sum_option w None xs = omega arith
        sum_option w (Some x) xs = omega (arith, sum_by-cons w x xs, sum_by-cons w x [])

-- what is handed out of what is due: what comes back, and what is left
pub handed_from : (due kept_before kept back rest : List ℕ)
    → ((weight : ℕ → ℕ) → sum_by weight kept + sum_by weight back + sum_by weight rest ≡ sum_by weight kept_before + sum_by weight due)
    → HandedOut due (record { kept = kept_before; todo = [] }) (record { kept = kept; todo = back ++ rest })
handed_from due kept_before kept back rest shared = record { shared = λ weight. omega (arith, shared weight, sum_by-append weight back rest) }

-- nothing came back
pub nothing_back : {X : Type 0} (f : X → ℕ) (back : Option X) → is_some back ≡ false → option_to_list (option_map f back) ≡ []
nothing_back f None none = refl
nothing_back f (Some x) none = absurd (false≢true (sym none))
