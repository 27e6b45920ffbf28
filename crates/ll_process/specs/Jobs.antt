-- What was judged, what a hand kept and what is still to do, by processes.
-- Source: the kernel's userspace document on Landlock, "Inheritance": each child begins with what its parent has.
use Rattle.std.specs.Prelude.{◌≡◌, ℕ, ◌+◌, ◌<◌, ◌∷◌, ◌++◌, List, map, sum_by, All, ◌-◌, ◌^◌}
use Rattle.ll_trace.specs.declared.op.Record.{Record}
use Rattle.ll_process.specs.declared.job.Job.{Job}
use Rattle.ll_process.specs.Cases.{CaseValue}
use Rattle.ll_trace.specs.Processes.{kids, process_count, times}

-- the processes of jobs
abbrev pub processes_of : List Job → List ℕ
processes_of jobs = map (λ job. job.process.0) jobs

-- each job is of this case
abbrev pub AreJobsOf : CaseValue → List Job → Type 0
AreJobsOf case jobs = All (λ job. job.case.now ≡ case) jobs

-- processes that wait to be judged: those that a hand keeps, and those that are still to do here
pub record Waiting : Type 0 where
  pub kept : List ℕ
  pub todo : List ℕ

-- what all that wait weigh together
abbrev pub weight_waiting : (ℕ → ℕ) → Waiting → ℕ
weight_waiting weight waiting = sum_by weight waiting.kept + sum_by weight waiting.todo

-- Children were handed out: besides those that waited before, they wait now, each as often. While a process is judged
-- "each as often" is said by weights: whatever number is given to each process, both sides add up to the same.
pub record HandedOut (children : List ℕ) (before after : Waiting) : Type 0 where
  pub shared : (weight : ℕ → ℕ) → weight_waiting weight after ≡ weight_waiting weight before + sum_by weight children

-- The processes judged, together with those newly kept, are the first process together with the children of all that
-- were judged, each as often.
pub record SharesOut (records : List Record) (first : ℕ) (judged kept_before kept_after : List ℕ) : Type 0 where
  pub shared : (process : ℕ) → times process judged + times process kept_after ≡ times process (first ∷ kids records judged) + times process kept_before

-- What was kept stays, and what is kept besides are processes of the trace.
pub record KeepsMore (records : List Record) (kept_before kept_after : List ℕ) : Type 0 where
  pub newly : List ℕ
  pub grown : kept_after ≡ kept_before ++ newly
  pub there : All (λ process. process < process_count records) newly

-- what is still to do, as a number: a process weighs more than all that its descendants weigh together, with n in all
abbrev pub weight : ℕ → ℕ → ℕ
weight n process = 2 ^ (n - process)

unfoldable pub weight_of : ℕ → List ℕ → ℕ
weight_of n processes = sum_by (weight n) processes
