-- What a caller has judged so far and the jobs that it still holds, with all that the judged processes have forked.
use Rattle.std.proofs.Common.{◌≡◌, ℕ, ◌+◌, ◌<◌, ◌≤◌, List, [], ◌∷◌, ◌++◌, length, Some, refl, sym, ap, ◌∙◌, subst, arith}
use Rattle.std.specs.Prelude.{sum_by, slice_get}
use Rattle.std.specs.List.Sorted.{IsPermutation}
use Rattle.std.proofs.lemmas.List.Sums.{sum_by-append, sum_by-cons}
use Rattle.std.proofs.lemmas.List.Sorted.{All-permutation, sum_by_popped}
use Rattle.std.proofs.lemmas.List.Elements.{All-push, All-head, All-tail, All-nil, All-cons}
use Rattle.std.proofs.lemmas.Option.{none-some}
use Rattle.ll_trace.specs.declared.op.Record.{Record}
use Rattle.ll_trace.specs.declared.op.ProcessId.{ProcessId}
use Rattle.ll_process.specs.declared.job.Job.{Job}
use Rattle.ll_process.specs.declared.piece.Piece.{Piece}
use Rattle.ll_trace.specs.Processes.{IsNumbered, process_count, children, kids, numbers, times}
use Rattle.ll_process.specs.Jobs.{weight, weight_of, processes_of, AreJobsOf, SharesOut}
use Rattle.ll_process.specs.Cases.{CaseValue}
use Rattle.ll_process.proofs.Weighing.{weight_of-children}
use Rattle.ll_process.proofs.Descents.{weighed}
use Rattle.ll_trace.proofs.EachOnce.{each_once_weighed}
use Rattle.ll_pool.specs.Gathered.{processes_in}
use Rattle.ll_pool.proofs.Sharing.{AreShared, no_kids, processes_in-push, kids-append}
use Rattle.std.specs.List.{All}

without_last : {X : Type 0} (P : X → Type 0) (xs : List X) (last : X) → All P (xs ++ last ∷ []) → All P xs × P last
without_last P [] last all = (All-nil P, All-head P last [] all)
without_last P (x ∷ xs) last all =
    let others = without_last P xs last (All-tail P x (xs ++ last ∷ []) all) in
    (All-cons P x xs (All-head P x (xs ++ last ∷ []) all) others.0, others.1)

pub left_of_case : (cv : CaseValue) (before left : List Job) (job : Job) → before ≡ left ++ job ∷ [] → AreJobsOf cv before → AreJobsOf job.case.now left
left_of_case cv before left job is all =
    let both = without_last (λ (one : Job). one.case.now ≡ cv) left job (subst (λ (xs : List Job). AreJobsOf cv xs) is all) in
    subst (λ (its : CaseValue). AreJobsOf its left) (sym both.1) both.0

kids-cons : (records : List Record) (x : ℕ) (xs : List ℕ) → kids records (x ∷ xs) ≡ children records x ++ kids records xs
unfolding kids
kids-cons records x xs = refl

sum_by-processes : (weight : ℕ → ℕ) (held : List Job) → sum_by weight (processes_of held) ≡ sum_by (λ (one : Job). weight one.process.0) held
sum_by-processes weight [] = refl
sum_by-processes weight (job ∷ rest) =
    sum_by-cons weight job.process.0 (processes_of rest)
    ∙ ap (λ (n : ℕ). weight job.process.0 + n) (sum_by-processes weight rest)
    ∙ sym (sum_by-cons (λ (one : Job). weight one.process.0) job rest)

-- what a job taken out adds to what is left
held_weighs : (weight : ℕ → ℕ) (before rest : List Job) (job : Job) → IsPermutation before (job ∷ rest)
    → sum_by weight (processes_of rest) + weight job.process.0 ≡ sum_by weight (processes_of before)
held_weighs weight before rest job taken = omega (
  arith,
  sum_by_popped (λ (one : Job). weight one.process.0) job before rest taken,
  sum_by-processes weight rest,
  sum_by-processes weight before,
)

pub record TakenOut (cv : CaseValue) (rest : List Job) (job : Job) : Type 0 where
  pub its_case : job.case.now ≡ cv
  pub rest_of : AreJobsOf cv rest

pub taken_out : (cv : CaseValue) (before rest : List Job) (job : Job) → IsPermutation before (job ∷ rest) → AreJobsOf cv before → TakenOut cv rest job
taken_out cv before rest job taken all =
    let both : AreJobsOf cv (job ∷ rest) = All-permutation (λ (one : Job). one.case.now ≡ cv) before (job ∷ rest) taken all in
    record {
      its_case = All-head (λ (one : Job). one.case.now ≡ cv) job rest both;
      rest_of = All-tail (λ (one : Job). one.case.now ≡ cv) job rest both;
    }

pub judged_more : (cv : CaseValue) (before rest after : List Job) (job : Job) (pieces : List Piece) (piece : Piece) → IsPermutation before (job ∷ rest)
    → piece.case.now ≡ job.case.now → AreJobsOf job.case.now after
    → SharesOut job.case.now.records job.process.0 (numbers piece.processes.items) (processes_of rest) (processes_of after) → AreShared cv before pieces
    → AreShared cv after (pieces ++ piece ∷ [])
judged_more cv before rest after job pieces piece taken same all shares so_far =
    let of_case : job.case.now ≡ cv = (taken_out cv before rest job taken so_far.jobs_of).its_case in
    record {
      jobs_of = subst (λ (case : CaseValue). AreJobsOf case after) of_case all;
      pieces_of = All-push (λ (one : Piece). one.case.now ≡ cv) pieces piece so_far.pieces_of (same ∙ of_case);
      shared = λ weight.
          let here =
          subst (λ (case : CaseValue). SharesOut case.records job.process.0 (numbers piece.processes.items) (processes_of rest) (processes_of after))
          of_case shares in
          rw (processes_in-push pieces piece, kids-append cv.records (processes_in pieces) (numbers piece.processes.items))
          (omega (
            arith,
            so_far.shared weight,
            weighed cv.records job.process.0 (numbers piece.processes.items) (processes_of rest) (processes_of after) here weight,
            held_weighs weight before rest job taken,
            sum_by-append weight (processes_in pieces) (numbers piece.processes.items),
            sum_by-append weight (kids cv.records (processes_in pieces)) (kids cv.records (numbers piece.processes.items)),
            sum_by-cons weight job.process.0 (kids cv.records (numbers piece.processes.items)),
          ));
    }

-- all is judged
pub judged_all : (cv : CaseValue) (held : List Job) (pieces : List Piece) → IsNumbered cv.records → held ≡ [] → AreShared cv held pieces
    → (process : ℕ) → process < process_count cv.records → times process (processes_in pieces) ≡ 1
judged_all cv held pieces numbered none all process there =
    each_once_weighed cv.records (processes_in pieces) numbered
    (λ weight. omega (arith, all.shared weight, ap (λ (xs : List Job). sum_by weight (processes_of xs)) none)) process there

-- the children of processes weigh at most what these weigh
kids_weigh : (records : List Record) (n : ℕ) (processes : List ℕ) → IsNumbered records → process_count records ≤ n
    → sum_by (weight n) (kids records processes) + length processes ≤ sum_by (weight n) processes
unfolding weight_of
kids_weigh records n [] numbered all = rw (no_kids records) (omega arith)
kids_weigh records n (p ∷ ps) numbered all =
    rw (kids-cons records p ps)
    (omega (
      arith,
      kids_weigh records n ps numbered all,
      weight_of-children records p n numbered all,
      sum_by-append (weight n) (children records p) (kids records ps),
      sum_by-cons (weight n) p ps,
    ))

some_stands : (processes : List ProcessId) (first : ProcessId) → slice_get processes 0 ≡ Some first → 0 < length (numbers processes)
some_stands [] first eq = absurd (none-some first eq)
some_stands (p ∷ ps) first eq = omega arith

pub weighs_less : (cv : CaseValue) (before rest after : List Job) (job : Job) (piece : Piece) → IsNumbered cv.records
    → IsPermutation before (job ∷ rest) → AreJobsOf cv before
    → slice_get piece.processes.items 0 ≡ Some job.process
    → SharesOut job.case.now.records job.process.0 (numbers piece.processes.items) (processes_of rest) (processes_of after)
    → weight_of (process_count cv.records) (processes_of after) < weight_of (process_count cv.records) (processes_of before)
unfolding weight_of
weighs_less cv before rest after job piece numbered taken all first shares =
    let n : ℕ = process_count cv.records in
    let here = subst (λ (case : CaseValue). SharesOut case.records job.process.0 (numbers piece.processes.items) (processes_of rest) (processes_of after))
    (taken_out cv before rest job taken all).its_case shares in
    omega (
      arith,
      weighed cv.records job.process.0 (numbers piece.processes.items) (processes_of rest) (processes_of after) here (weight n),
      held_weighs (weight n) before rest job taken,
      kids_weigh cv.records n (numbers piece.processes.items) numbered (omega arith),
      some_stands piece.processes.items job.process first,
      sum_by-cons (weight n) job.process.0 (kids cv.records (numbers piece.processes.items)),
    )
