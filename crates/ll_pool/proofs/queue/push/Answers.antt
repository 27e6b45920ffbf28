use Rattle.std.proofs.Common.{◌≡◌, ℕ, ◌<◌, List, [], ◌∷◌, ◌++◌, refl, ap, arith}
use Rattle.std.specs.Prelude.{sum_by}
use Rattle.std.proofs.lemmas.List.{map-append}
use Rattle.std.proofs.lemmas.List.Sums.{sum_by_push}
use Rattle.std.proofs.lemmas.List.Elements.{All-push}
use Rattle.crossbeam_queue.specs.Fifo.{Pushes}
use Rattle.ll_process.specs.declared.job.Job.{Job}
use Rattle.ll_process.specs.Cases.{CaseValue}
use Rattle.ll_process.specs.Jobs.{processes_of}
use Rattle.ll_pool.specs.declared.queue.Ledger.{Ledger}
use Rattle.ll_pool.specs.Rule.{after_giving, IsFair}
use Rattle.ll_pool.proofs.RuleSteps.{sum_set, law_set, fits_set, fits_here, case_of}
use Rattle.ll_pool.proofs.queue.push.Goals as goal

gives : (cv : CaseValue) (n port : ℕ) (v : Ledger) (job : Job) → 0 < v.parts → job.case.now ≡ cv
    → Pushes (IsFair cv) n port v job (λ w. w ≡ after_giving v job.process.0)
gives cv n port v job some_part its jobs views room fair eq =
    let w : Ledger = after_giving v job.process.0 in (
      w,
      record {
        parts = omega (arith, sum_set (λ (u : Ledger). u.parts) views port v w eq, fair.parts);
        law = λ weight.
            law_set weight views port v w (sum_by weight (processes_of jobs)) (sum_by weight (processes_of (jobs ++ job ∷ []))) eq (fair.law weight)
            (omega (
              arith,
              sum_by_push weight v.given job.process.0,
              ap (λ (xs : List ℕ). sum_by weight xs) (map-append (λ (j : Job). j.process.0) jobs (job ∷ [])),
              sum_by_push weight (processes_of jobs) job.process.0,
            ));
        fits = fits_set cv views port w (fits_here cv w some_part (case_of cv views port v fair.fits eq some_part)) fair.fits;
        jobs_of = All-push (λ (j : Job). j.case.now ≡ cv) jobs job fair.jobs_of its;
      },
      refl,
    )

pub push_as-requires-clause-rule : goal.push_as-requires-clause-rule
push_as-requires-clause-rule g c = (gives g.N.Naming.case _ _ _ _ c.requires.parts c.requires.of_case, λ _ _ _ _. tt)
