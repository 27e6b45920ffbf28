-- The rule of the queue of jobs: what was given to it is what was taken from it and what it holds.
-- Source: none; the queue of this program alone.
use Rattle.std.specs.Prelude.{◌≡◌, ◌≢◌, ℕ, ◌+◌, List, [], ◌∷◌, ◌++◌, sum_by}
use mathlib.Core.Option.{some}
use lib.ListN.{get_elem?}
use Rattle.ll_rights.specs.declared.abi.Abi.TheVariants.{V1}
use Rattle.ll_process.specs.declared.job.Job.{Job}
use Rattle.ll_process.specs.Cases.{CaseValue}
use Rattle.ll_process.specs.Jobs.{processes_of, AreJobsOf}
use Rattle.ll_pool.specs.declared.queue.TheConstants.{PARTS}
use Rattle.ll_pool.specs.declared.queue.Ledger.{Ledger}

-- a pass to the queue of a case's jobs, with its parts, and the processes whose jobs it has given and taken
abbrev pub ledger : CaseValue → ℕ → List ℕ → List ℕ → Ledger
ledger case parts given taken = record { case = case; parts = parts; given = given; taken = taken }

-- a case with no record
abbrev pub no_case : CaseValue
no_case = record { tree = []; records = []; abi = V1; layers = []; grants = []; outcomes = [] }

-- a pass that gave one job more, or took one more
abbrev pub after_giving : Ledger → ℕ → Ledger
after_giving v process = ledger v.case v.parts (v.given ++ process ∷ []) v.taken

abbrev pub after_taking : Ledger → ℕ → Ledger
after_taking v process = ledger v.case v.parts v.given (v.taken ++ process ∷ [])

-- a pass without a part has given and taken nothing, and any other is to the queue of this case
pub record Fits (case : CaseValue) (v : Ledger) : Type 0 where
  pub idle : v.parts ≡ 0 → (v.given ≡ []) × (v.taken ≡ [])
  pub its_case : v.parts ≢ 0 → v.case ≡ case

-- All passes together have all parts. What all passes gave is what they took with what is queued, each process as
-- often: whatever number is given to each process, both sides add up to the same. Every job is of the case.
pub record IsFair (case : CaseValue) (jobs : List Job) (views : List Ledger) : Type 0 where
  pub parts : sum_by (λ v. v.parts) views ≡ PARTS
  pub law : (weight : ℕ → ℕ) → sum_by (λ v. sum_by weight v.given) views ≡ sum_by (λ v. sum_by weight v.taken) views + sum_by weight (processes_of jobs)
  pub fits : (port : ℕ) (v : Ledger) → get_elem? views port ≡ some v → Fits case v
  pub jobs_of : AreJobsOf case jobs

-- a pass with all parts knows that what it gave is what it took with what is queued
abbrev pub KnowsAll : Ledger → List Job → Type 0
KnowsAll v jobs = v.parts ≡ PARTS → (weight : ℕ → ℕ) → sum_by weight v.given ≡ sum_by weight v.taken + sum_by weight (processes_of jobs)

-- what was given is what was taken, each process as often
abbrev pub IsBalanced : Ledger → Type 0
IsBalanced v = (weight : ℕ → ℕ) → sum_by weight v.given ≡ sum_by weight v.taken
