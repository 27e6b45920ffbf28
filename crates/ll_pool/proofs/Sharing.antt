-- The pieces of roots that were judged so far, and the roots still to do, with all that the pieces have forked.
use Rattle.std.proofs.Common.{◌≡◌, ℕ, ◌+◌, List, [], ◌∷◌, ◌++◌, Some, refl, ap, ◌∙◌, subst, arith}
use Rattle.std.specs.Prelude.{sum_by}
use Rattle.std.proofs.lemmas.List.{append-nil, map-append}
use Rattle.std.proofs.lemmas.List.Sums.{sum_by-append, sum_by-cons}
use Rattle.std.proofs.lemmas.List.Elements.{All-pop, All-push, All-nil}
use Rattle.std.proofs.lemmas.Grind.{flat_map-append}
use Rattle.ll_trace.specs.declared.op.Record.{Record}
use Rattle.ll_process.specs.declared.job.Job.{Job}
use Rattle.ll_process.specs.declared.piece.Piece.{Piece}
use Rattle.ll_trace.specs.Processes.{children, kids, roots, numbers}
use Rattle.ll_process.specs.Cases.{CaseValue}
use Rattle.ll_process.specs.Jobs.{processes_of, AreJobsOf, SharesOut}
use Rattle.ll_process.proofs.Descents.{weighed}
use Rattle.ll_pool.specs.Gathered.{ArePiecesOf, processes_in}

pub record AreShared (cv : CaseValue) (jobs : List Job) (pieces : List Piece) : Type 0 where
  pub jobs_of : AreJobsOf cv jobs
  pub pieces_of : ArePiecesOf cv pieces
  pub shared : (weight : ℕ → ℕ) → sum_by weight (processes_in pieces) + sum_by weight (processes_of jobs)
      ≡ sum_by weight (roots cv.records) + sum_by weight (kids cv.records (processes_in pieces))

pub no_processes : processes_in [] ≡ []
unfolding processes_in
no_processes = refl

pub no_kids : (records : List Record) → kids records [] ≡ []
unfolding kids
no_kids records = refl

pub shared_first : (cv : CaseValue) (jobs : List Job) → AreJobsOf cv jobs → processes_of jobs ≡ roots cv.records → AreShared cv jobs []
shared_first cv jobs all are = record {
  jobs_of = all;
  pieces_of = All-nil (λ (piece : Piece). piece.case.now ≡ cv);
  shared = λ weight. rw (no_processes, no_kids cv.records, are) (omega arith);
}

pub processes_in-push : (pieces : List Piece) (piece : Piece) → processes_in (pieces ++ piece ∷ []) ≡ processes_in pieces ++ numbers piece.processes.items
unfolding processes_in
processes_in-push pieces piece =
    flat_map-append (λ (one : Piece). numbers one.processes.items) pieces (piece ∷ [])
    ∙ ap (λ (xs : List ℕ). processes_in pieces ++ xs) (append-nil (numbers piece.processes.items))

pub kids-append : (records : List Record) (xs ys : List ℕ) → kids records (xs ++ ys) ≡ kids records xs ++ kids records ys
unfolding kids
kids-append records xs ys = flat_map-append (children records) xs ys

pub shared_more : (cv : CaseValue) (before jobs : List Job) (job : Job) (pieces : List Piece) (piece : Piece) → before ≡ jobs ++ job ∷ []
    → piece.case.now ≡ job.case.now
    → SharesOut job.case.now.records job.process.0 (numbers piece.processes.items) [] [] → AreShared cv before pieces → AreShared cv jobs (pieces ++ piece ∷ [])
shared_more cv before jobs job pieces piece popped same shares so_far =
    let parts = All-pop (λ (one : Job). one.case.now ≡ cv) before jobs (Some job) popped so_far.jobs_of in
    let of_case : job.case.now ≡ cv = parts.1 in
    record {
      jobs_of = parts.0;
      pieces_of = All-push (λ (one : Piece). one.case.now ≡ cv) pieces piece so_far.pieces_of (same ∙ of_case);
      shared = λ weight.
          let here = subst (λ (case : CaseValue). SharesOut case.records job.process.0 (numbers piece.processes.items) [] []) of_case shares in
          let left : processes_of before ≡ processes_of jobs ++ job.process.0 ∷ [] =
          ap (λ (xs : List Job). processes_of xs) popped ∙ map-append (λ (one : Job). one.process.0) jobs (job ∷ []) in
          let total = so_far.shared weight in
          rw (processes_in-push pieces piece, kids-append cv.records (processes_in pieces) (numbers piece.processes.items))
          (omega (
            arith,
            total,
            weighed cv.records job.process.0 (numbers piece.processes.items) [] [] here weight,
            ap (λ (xs : List ℕ). sum_by weight xs) left,
            sum_by-append weight (processes_of jobs) (job.process.0 ∷ []),
            sum_by-append weight (processes_in pieces) (numbers piece.processes.items),
            sum_by-append weight (kids cv.records (processes_in pieces)) (kids cv.records (numbers piece.processes.items)),
            sum_by-cons weight job.process.0 (kids cv.records (numbers piece.processes.items)),
          ));
    }

-- all is judged
pub shared_all : (cv : CaseValue) (jobs : List Job) (pieces : List Piece) → jobs ≡ [] → AreShared cv jobs pieces
    → (weight : ℕ → ℕ) → sum_by weight (processes_in pieces) ≡ sum_by weight (roots cv.records) + sum_by weight (kids cv.records (processes_in pieces))
shared_all cv jobs pieces done shares weight =
    omega (arith, shares.shared weight, ap (λ (xs : List Job). sum_by weight (processes_of xs)) done)
