-- At the end every process is in one piece, once.
use Rattle.std.proofs.Common.{◌≡◌, ℕ, ◌<◌, List, ◌++◌, take, drop, sym, ap, ◌∙◌, subst, arith}
use Rattle.std.specs.Prelude.{sum_by}
use Rattle.std.proofs.lemmas.List.{map-append, take-append-drop}
use Rattle.std.proofs.lemmas.List.Elements.{All-same, All-take, All-drop}
use Rattle.ll_process.specs.declared.job.Job.{Job}
use Rattle.ll_process.specs.declared.piece.Piece.{Piece}
use Rattle.ll_trace.specs.Processes.{IsNumbered, process_count, roots, times}
use Rattle.ll_process.specs.Cases.{CaseValue}
use Rattle.ll_process.specs.Jobs.{processes_of, AreJobsOf}
use Rattle.ll_trace.proofs.EachOnce.{each_once_weighed}
use Rattle.ll_pool.specs.declared.queue.Ledger.{Ledger}
use Rattle.ll_pool.specs.Gathered.{processes_in}
use Rattle.ll_pool.specs.Rule.{IsBalanced}
use Rattle.ll_pool.specs.Accounts.{IsAccount}
use Rattle.ll_pool.proofs.Accounting.{account_balanced}

-- the jobs before a cut, and those after it, are of the case
pub before_cut : (cv named : CaseValue) (cut : ℕ) (jobs first : List Job) → cv ≡ named → first ≡ take cut jobs → AreJobsOf cv jobs → AreJobsOf named first
before_cut cv named cut jobs first same is all =
    subst (λ (m : CaseValue). AreJobsOf m first) same
    (All-same (λ (job : Job). job.case.now ≡ cv) first (take cut jobs) is (All-take (λ (job : Job). job.case.now ≡ cv) cut jobs all))

pub after_cut : (cv named : CaseValue) (cut : ℕ) (jobs rest : List Job) → cv ≡ named → rest ≡ drop cut jobs → AreJobsOf cv jobs → AreJobsOf named rest
after_cut cv named cut jobs rest same is all =
    subst (λ (m : CaseValue). AreJobsOf m rest) same
    (All-same (λ (job : Job). job.case.now ≡ cv) rest (drop cut jobs) is (All-drop (λ (job : Job). job.case.now ≡ cv) cut jobs all))

-- the processes of jobs that were cut into two lists
pub cut_processes : (cut : ℕ) (jobs first rest : List Job) → first ≡ take cut jobs → rest ≡ drop cut jobs
    → processes_of first ++ processes_of rest ≡ processes_of jobs
cut_processes cut jobs first rest one two =
    sym (map-append (λ (job : Job). job.process.0) first rest)
    ∙ ap (λ (xs : List Job). processes_of xs) (ap (λ (xs : List Job). xs ++ rest) one ∙ ap (λ (xs : List Job). take cut jobs ++ xs) two
    ∙ take-append-drop cut jobs)

pub all_once : (cv : CaseValue) (cut : ℕ) (jobs first rest : List Job) (v : Ledger) (pieces : List Piece) → IsNumbered cv.records → first ≡ take cut jobs
    → rest ≡ drop cut jobs → processes_of jobs ≡ roots cv.records
    → IsBalanced v → IsAccount cv (processes_of first ++ processes_of rest) v pieces → (process : ℕ) → process < process_count cv.records
    → times process (processes_in pieces) ≡ 1
all_once cv cut jobs first rest v pieces numbered one two are balanced account process below =
    each_once_weighed cv.records (processes_in pieces) numbered
    (λ weight.
    omega (
      arith,
      account_balanced cv (processes_of first ++ processes_of rest) v pieces balanced account weight,
      ap (λ (xs : List ℕ). sum_by weight xs) (cut_processes cut jobs first rest one two ∙ are),
    ))
    process below
