-- How far the judging of a process and its descendants has come.
use Rattle.std.proofs.Common.{◌≡◌, ℕ, ◌+◌, ◌≤◌, Bool, cond, eqb, List, ◌∷◌, ◌++◌, arith, ◌<◌, [], sym, ap, ◌∙◌, append_assoc}
use Rattle.std.proofs.Common.{◌⊎◌, zero, suc, Some, refl, subst, inl}
use Rattle.std.proofs.Common.{inr}
use Rattle.std.specs.Prelude.{sum_by, slice_get}
use Rattle.std.proofs.lemmas.Bool.{cases_Bool, eqb-true, eq-eqb}
use Rattle.std.proofs.lemmas.List.Sums.{sum_by-append, sum_by-cons, sum_by_push}
use Rattle.ll_trace.specs.declared.op.Record.{Record}
use Rattle.ll_trace.specs.Processes.{kids, times, process_count, children, numbers}
use Rattle.ll_trace.proofs.EachOnce.{equal_weights, times-append}
use Rattle.ll_process.specs.Jobs.{SharesOut, KeepsMore, HandedOut, weight, weight_of}
use Rattle.ll_process.specs.Progresses.{children_from}
use Rattle.ll_process.specs.Descending.{AreOf, ArePut, Descended, waiting, forking, is_first, with_done, work, work_of}
use Rattle.ll_process.specs.declared.piece.Piece.{Piece}
use Rattle.ll_process.specs.declared.progress.Progress.{Progress}
use Rattle.ll_process.proofs.Weighing.{weight_of-children}
use Rattle.std.proofs.lemmas.List.{append-nil, map-append}
use Rattle.std.proofs.lemmas.List.Elements.{All-append, All-nil, All-push, All-pop}
use Rattle.std.specs.List.{flat_map}
use Rattle.std.proofs.lemmas.Grind.{flat_map-append}
use Rattle.std.proofs.lemmas.Option.{none-some, same_Some}
use Rattle.ll_trace.specs.declared.op.ProcessId.{ProcessId}
use Rattle.ll_semantics.specs.declared.answer.Answer.{Answer}
use Rattle.ll_process.specs.Cases.{CaseValue, IsCase, own_answers}

-- ---- what is shared out, by counts and by weights

pub counted : (records : List Record) (first : ℕ) (judged before after : List ℕ)
    → ((weight : ℕ → ℕ) → sum_by weight judged + sum_by weight after ≡ sum_by weight (first ∷ kids records judged) + sum_by weight before)
    → SharesOut records first judged before after
unfolding times
counted records first judged before after weighs = record { shared = λ p. weighs (λ other. cond (eqb other p) 1 0) }

pub weighed : (records : List Record) (first : ℕ) (judged before after : List ℕ) → SharesOut records first judged before after
    → (weight : ℕ → ℕ) → sum_by weight judged + sum_by weight after ≡ sum_by weight (first ∷ kids records judged) + sum_by weight before
weighed records first judged before after shares weight = omega (
  arith,
  equal_weights (judged ++ after) ((first ∷ kids records judged) ++ before)
      (λ p. omega (arith, shares.shared p, times-append p judged after, times-append p (first ∷ kids records judged) before)) weight,
  sum_by-append weight judged after,
  sum_by-append weight (first ∷ kids records judged) before,
)

-- ---- lists of processes that only grow

module _ (records : List Record) where
  pub keeps_same : (before after : List ℕ) → after ≡ before → KeepsMore records before after
  keeps_same before after same = record {
    newly = [];
    grown = same ∙ sym (append-nil before);
    there = All-nil (λ (p : ℕ). p < process_count records);
  }

  pub keeps_on : (before kept after : List ℕ) → KeepsMore records before kept → KeepsMore records kept after → KeepsMore records before after
  keeps_on before kept after one two = record {
    newly = one.newly ++ two.newly;
    grown = two.grown ∙ ap (λ xs. xs ++ two.newly) one.grown ∙ append_assoc before one.newly two.newly;
    there = All-append (λ (p : ℕ). p < process_count records) one.newly two.newly one.there two.there;
  }

-- all children of a process
pub all_children : (records : List Record) (process : ℕ) → children_from records process 0 ≡ children records process
unfolding children_from children
all_children records process = refl

-- ---- how far it has come

module _ (cv : CaseValue) where
  -- all processes of a list are processes of the case
  abbrev pub AllThere : List ProcessId → Type 0
  AllThere processes = (k : ℕ) (process : ProcessId) → slice_get processes k ≡ Some process → process.0 < process_count cv.records

  pub there_push : (processes : List ProcessId) (next : ProcessId) → AllThere processes → next.0 < process_count cv.records → AllThere (processes ++ next ∷ [])
  there_push [] next all there zero process eq = subst (λ (p : ProcessId). p.0 < process_count cv.records) (same_Some next process eq) there
  there_push [] next all there (suc k) process eq = absurd (none-some process eq)
  there_push (p ∷ ps) next all there zero process eq = all 0 process eq
  there_push (p ∷ ps) next all there (suc k) process eq = there_push ps next (λ m q is. all (suc m) q is) there k process eq

  pub kids-push : (judged : List ℕ) (p : ℕ) → kids cv.records (judged ++ p ∷ []) ≡ kids cv.records judged ++ children cv.records p
  unfolding kids
  kids-push judged p =
      flat_map-append (children cv.records) judged (p ∷ []) ∙ ap (λ xs. flat_map (children cv.records) judged ++ xs) (append-nil (children cv.records p))

  -- ---- one process more is done

  pub answered_push : (processes : List ProcessId) (answers more : List (ℕ × Answer)) (next : ProcessId)
      → answers ≡ flat_map (own_answers cv) (numbers processes)
      → more ≡ own_answers cv next.0 → answers ++ more ≡ flat_map (own_answers cv) (numbers (processes ++ next ∷ []))
  answered_push processes answers more next so_far its =
      rw (
        map-append (λ (p : ProcessId). p.0) processes (next ∷ []),
        flat_map-append (own_answers cv) (numbers processes) (next.0 ∷ []),
        append-nil (own_answers cv next.0),
        its,
      ) (ap (λ xs. xs ++ own_answers cv next.0) so_far)

  pub answered_front : (processes : List ProcessId) (answers more : List (ℕ × Answer)) (next : ProcessId)
      → answers ≡ flat_map (own_answers cv) (numbers processes)
      → more ≡ own_answers cv next.0 → more ++ answers ≡ flat_map (own_answers cv) (numbers (next ∷ processes))
  answered_front processes answers more next so_far its = rw (its, so_far) refl

  pub there_front : (processes : List ProcessId) (next : ProcessId) → AllThere processes → next.0 < process_count cv.records → AllThere (next ∷ processes)
  there_front processes next all there zero process eq = subst (λ (p : ProcessId). p.0 < process_count cv.records) (same_Some next process eq) there
  there_front processes next all there (suc k) process eq = all k process eq

  -- ---- what waits on the stack

  module _ (f : Progress → ℕ) where
    two_more : (stack : List Progress) (one other : Progress) → sum_by f (stack ++ one ∷ other ∷ []) ≡ sum_by f stack + f one + f other
    two_more stack one other = omega (arith, sum_by-append f stack (one ∷ other ∷ []), sum_by-cons f one (other ∷ []), sum_by-cons f other [])

    put_sum : (stack after : List Progress) (one other : Progress) → ArePut stack one other after → sum_by f after ≡ sum_by f stack + f one + f other
    put_sum stack after one other (inl put) = ap (λ (xs : List Progress). sum_by f xs) put ∙ two_more stack one other
    put_sum stack after one other (inr put) = omega (arith, ap (λ (xs : List Progress). sum_by f xs) put, two_more stack other one)

  pub put_of : (stack after : List Progress) (one other : Progress) → ArePut stack one other after → AreOf cv stack → one.case.now ≡ cv
      → other.case.now ≡ cv → AreOf cv after
  put_of stack after one other put all its others = elim put [
    | inl is ↦ subst (λ (xs : List Progress). AreOf cv xs) (sym is) (both one other its others)
    | inr is ↦ subst (λ (xs : List Progress). AreOf cv xs) (sym is) (both other one others its)
  ]
    where
      both : (one other : Progress) → one.case.now ≡ cv → other.case.now ≡ cv → AreOf cv (stack ++ one ∷ other ∷ [])
      both one other its others =
          All-append (λ (p : Progress). p.case.now ≡ cv) stack (one ∷ other ∷ []) all (All-push (λ (p : Progress). p.case.now ≡ cv) (one ∷ []) other
          (All-push (λ (p : Progress). p.case.now ≡ cv) [] one (All-nil (λ (p : Progress). p.case.now ≡ cv)) its) others)

  pub popped_of : (stack rest : List Progress) (next : Progress) → stack ≡ rest ++ next ∷ [] → AreOf cv stack → AreOf cv rest × (next.case.now ≡ cv)
  popped_of stack rest next popped all = All-pop (λ (p : Progress). p.case.now ≡ cv) stack rest (Some next) popped all

  module _ (next progress : Progress) (kept kept_after : List ℕ) (same : progress.process ≡ next.process) where
    -- a child came back
    module _ (number : ℕ) (child : Progress) (its : child.process.0 ≡ number) (begun : child.at ≡ 0) (stack after : List Progress)
        (put : ArePut stack progress child after)
        (handed : HandedOut (children_from cv.records next.process.0 next.at) (record { kept = kept; todo = [] })
        (record { kept = kept_after; todo = number ∷ children_from cv.records next.process.0 progress.at })) where
      pub descended_forked : (first : ProcessId) (done : Piece) (kept_before : List ℕ) → Descended cv first done kept_before kept (stack ++ next ∷ [])
          → Descended cv first done kept_before kept_after after
      unfolding waiting forking is_first
      descended_forked first done kept_before so_far = record {
        shared = λ w. omega (
          arith,
          so_far.shared w,
          handed.shared w,
          put_sum (waiting cv.records w) stack after progress child put,
          put_sum (forking cv.records w) stack after progress child put,
          sum_by_push (waiting cv.records w) stack next,
          sum_by_push (forking cv.records w) stack next,
          sum_by-cons w number (children_from cv.records next.process.0 progress.at),
          ap w its,
          ap (λ (p : ProcessId). w p.0) same,
          ap (λ (p : ProcessId). sum_by w (children_from cv.records p.0 progress.at)) same,
          ap (λ (p : ProcessId). sum_by w (children cv.records p.0)) same,
          ap (λ (n : ℕ). sum_by w (children_from cv.records child.process.0 n)) begun,
          ap (λ xs. sum_by w xs) (all_children cv.records child.process.0),
        );
        in_front = elim so_far.in_front [
          | inl there ↦ inl there
          | inr waits ↦ inr (omega (
            arith,
            waits,
            put_sum (is_first first) stack after progress child put,
            sum_by_push (is_first first) stack next,
            ap {B = ℕ} (λ (p : ProcessId). cond (eqb p.0 first.0) 1 0) same,
          ))
        ];
      }

      pub less_forked : IsCase cv → KeepsMore cv.records kept kept_after → work_of cv.records after < work_of cv.records (stack ++ next ∷ [])
      unfolding work_of work weight_of
      less_forked case keeps =
          let w = weight (process_count cv.records) in
          omega (
            arith,
            handed.shared w,
            put_sum (work cv.records) stack after progress child put,
            sum_by_push (work cv.records) stack next,
            weight_of-children cv.records child.process.0 (process_count cv.records) case.numbered (omega arith),
            sum_by-cons w number (children_from cv.records next.process.0 progress.at),
            ap w its,
            ap (λ xs. sum_by w xs) keeps.grown,
            sum_by-append w kept keeps.newly,
            ap (λ (p : ProcessId). sum_by w (children_from cv.records p.0 progress.at)) same,
            ap (λ (n : ℕ). sum_by w (children_from cv.records child.process.0 n)) begun,
            ap (λ xs. sum_by w xs) (all_children cv.records child.process.0),
          )

    -- a process is done
    module _ (stack : List Progress) (done after : Piece) (first : ProcessId)
        (added : after.processes.items ≡ with_done first done.processes.items progress.process)
        (handed : HandedOut (children_from cv.records next.process.0 next.at) (record { kept = kept; todo = [] })
        (record { kept = kept_after; todo = children_from cv.records next.process.0 progress.at }))
        (over : children_from cv.records next.process.0 progress.at ≡ []) where
      done_sum : (w : ℕ → ℕ) (done : List ProcessId)
          → sum_by w (numbers (with_done first done progress.process)) ≡ sum_by w (numbers done) + w progress.process.0
      done_sum w done = elim (cases_Bool (eqb progress.process.0 first.0)) [
        | inl is ↦ rw is (omega (arith, sum_by-cons w progress.process.0 (numbers done)))
        | inr other ↦ rw other (rw (map-append (λ (p : ProcessId). p.0) done (progress.process ∷ [])) (sum_by_push w (numbers done) progress.process.0))
      ]

      kids_sum : (w : ℕ → ℕ) (done : List ProcessId) → sum_by w (kids cv.records (numbers (with_done first done progress.process)))
          ≡ sum_by w (kids cv.records (numbers done)) + sum_by w (children cv.records progress.process.0)
      unfolding kids
      kids_sum w done = elim (cases_Bool (eqb progress.process.0 first.0)) [
        | inl is ↦ rw is (omega (arith, sum_by-append w (children cv.records progress.process.0) (kids cv.records (numbers done))))
        | inr other ↦
            rw other (rw (map-append (λ (p : ProcessId). p.0) done (progress.process ∷ []), kids-push (numbers done) progress.process.0)
            (sum_by-append w (kids cv.records (numbers done)) (children cv.records progress.process.0)))
      ]

      front_is : (slice_get done.processes.items 0 ≡ Some first) ⊎ (1 ≤ sum_by (is_first first) (stack ++ next ∷ []))
          → (slice_get (with_done first done.processes.items progress.process) 0 ≡ Some first) ⊎ (1 ≤ sum_by (is_first first) stack)
      unfolding is_first
      front_is was = elim (cases_Bool (eqb progress.process.0 first.0)) [
        | inl is ↦
            (let it : progress.process ≡ first = ap {B = ProcessId} (λ (n : ℕ). record { 0 = n }) (eqb-true progress.process.0 first.0 is) in
            inl (rw is (ap (λ (p : ProcessId). Some p) it)))
        | inr other ↦ elim was [
          | inl there ↦ inl (rw other (front_stays done.processes.items there))
          | inr waits ↦ inr (omega (
            arith,
            waits,
            sum_by_push (is_first first) stack next,
            ap {B = ℕ} (λ (p : ProcessId). cond (eqb p.0 first.0) 1 0) same,
            ap {B = ℕ} (λ (b : Bool). cond b 1 0) other,
          ))
        ]
      ]
        where
          front_stays : (done : List ProcessId) → slice_get done 0 ≡ Some first → slice_get (done ++ progress.process ∷ []) 0 ≡ Some first
          front_stays [] there = absurd (none-some first there)
          front_stays (p ∷ ps) there = there

      pub descended_done : (kept_before : List ℕ) → Descended cv first done kept_before kept (stack ++ next ∷ [])
          → Descended cv first after kept_before kept_after stack
      unfolding waiting forking
      descended_done kept_before so_far = record {
        shared = λ w. omega (
          arith,
          so_far.shared w,
          handed.shared w,
          ap (λ xs. sum_by w xs) over,
          ap (λ (xs : List ProcessId). sum_by w (numbers xs)) added,
          ap (λ (xs : List ProcessId). sum_by w (kids cv.records (numbers xs))) added,
          done_sum w done.processes.items,
          kids_sum w done.processes.items,
          sum_by_push (waiting cv.records w) stack next,
          sum_by_push (forking cv.records w) stack next,
          ap (λ (p : ProcessId). w p.0) same,
          ap (λ (p : ProcessId). sum_by w (children cv.records p.0)) same,
        );
        in_front = rw added (front_is so_far.in_front);
      }

  pub less_done : (stack : List Progress) (next : Progress) → work_of cv.records stack < work_of cv.records (stack ++ next ∷ [])
  unfolding work_of work
  less_done stack next = omega (arith, sum_by_push (work cv.records) stack next)

  -- ---- the beginning and the end

  pub descended_none : (first : ProcessId) (done : Piece) (kept : List ℕ) (begun : Progress) → done.processes.items ≡ [] → begun.process ≡ first → begun.at ≡ 0
      → Descended cv first done kept kept (begun ∷ [])
  unfolding waiting forking is_first kids
  descended_none first done kept begun none its start = record {
    shared = λ w. omega (
      arith,
      ap (λ (xs : List ProcessId). sum_by w (numbers xs)) none,
      ap (λ (xs : List ProcessId). sum_by w (kids cv.records (numbers xs))) none,
      sum_by-cons (waiting cv.records w) begun [],
      sum_by-cons (forking cv.records w) begun [],
      ap (λ (p : ProcessId). w p.0) its,
      ap (λ (n : ℕ). sum_by w (children_from cv.records begun.process.0 n)) start,
      ap (λ xs. sum_by w xs) (all_children cv.records begun.process.0),
    );
    in_front = inr (omega (
      arith,
      sum_by-cons (is_first first) begun [],
      ap {B = ℕ} (λ (p : ProcessId). cond (eqb p.0 first.0) 1 0) its,
      ap {B = ℕ} (λ (b : Bool). cond b 1 0) (eq-eqb first.0 first.0 refl),
    ));
  }

  module _ (first : ProcessId) (done : Piece) (kept_before kept : List ℕ) (stack : List Progress) (all : Descended cv first done kept_before kept stack)
      (none : stack ≡ []) where
    pub shares_out : SharesOut cv.records first.0 (numbers done.processes.items) kept_before kept
    shares_out = counted cv.records first.0 (numbers done.processes.items) kept_before kept
        (λ w. omega (
          arith,
          all.shared w,
          ap (λ (xs : List Progress). sum_by (waiting cv.records w) xs) none,
          ap (λ (xs : List Progress). sum_by (forking cv.records w) xs) none,
          sum_by-cons w first.0 (kids cv.records (numbers done.processes.items)),
        ))
