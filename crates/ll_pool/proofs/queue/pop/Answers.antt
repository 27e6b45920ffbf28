-- What a pop does to the rule, and what it tells of the pass.
use Rattle.std.proofs.Common.{◌≡◌, ℕ, ◌<◌, List, ◌∷◌, Option, None, Some, sym, refl, ap, ◌∙◌, arith}
use Rattle.std.specs.Prelude.{sum_by, MatchOption, IfSome, IfNone}
use Rattle.std.proofs.lemmas.List.Sums.{sum_by-cons, sum_by_push}
use Rattle.std.proofs.lemmas.List.Elements.{All-head, All-tail}
use Rattle.crossbeam_queue.specs.Fifo.{Pops, Learns, Held}
use Rattle.crossbeam_queue.specs.Passes.{view}
use Rattle.ll_process.specs.declared.job.Job.{Job}
use Rattle.ll_process.specs.Cases.{CaseValue}
use Rattle.ll_process.specs.Jobs.{processes_of}
use Rattle.ll_pool.specs.declared.queue.TheConstants.{PARTS}
use Rattle.ll_pool.specs.declared.queue.Ledger.{Ledger}
use Rattle.ll_pool.specs.Rule.{after_taking, IsFair, IsBalanced, KnowsAll}
use Rattle.ll_pool.proofs.Accounting.{nothing_left}
use Rattle.ll_pool.proofs.RuleSteps.{sum_set, law_set, fits_set, fits_here, case_of, whole}
use Rattle.ll_pool.proofs.queue.pop.Goals as goal

takes : (cv : CaseValue) (port : ℕ) (v : Ledger) → 0 < v.parts
    → Pops (IsFair cv) port v (λ job w. (job.case.now ≡ v.case) × (w ≡ after_taking v job.process.0))
takes cv port v some_part job jobs views fair eq =
    let w : Ledger = after_taking v job.process.0 in
    let mine : v.case ≡ cv = case_of cv views port v fair.fits eq some_part in (
      w,
      record {
        parts = omega (arith, sum_set (λ (u : Ledger). u.parts) views port v w eq, fair.parts);
        law = λ weight.
            law_set weight views port v w (sum_by weight (processes_of (job ∷ jobs))) (sum_by weight (processes_of jobs)) eq (fair.law weight)
            (omega (arith, sum_by_push weight v.taken job.process.0, sum_by-cons weight job.process.0 (processes_of jobs)));
        fits = fits_set cv views port w (fits_here cv w some_part mine) fair.fits;
        jobs_of = All-tail (λ (j : Job). j.case.now ≡ cv) job jobs fair.jobs_of;
      },
      (All-head (λ (j : Job). j.case.now ≡ cv) job jobs fair.jobs_of ∙ sym mine, refl),
    )

learns : (cv : CaseValue) (port : ℕ) (v : Ledger) → Learns (IsFair cv) port v (KnowsAll v)
learns cv port v jobs views fair eq all weight =
    let parts : sum_by (λ (u : Ledger). u.parts) views ≡ v.parts = fair.parts ∙ sym all in
    omega (
      arith,
      fair.law weight,
      whole cv (λ (u : Ledger). sum_by weight u.given) views port v
          (λ u fit none. ap (λ (xs : List ℕ). sum_by weight xs) ((fit.idle none).0)) fair.fits eq parts,
      whole cv (λ (u : Ledger). sum_by weight u.taken) views port v
          (λ u fit none. ap (λ (xs : List ℕ). sum_by weight xs) ((fit.idle none).1)) fair.fits eq parts,
    )

-- what a pop tells of the pass: it found nothing, or took this job
abbrev Told : Ledger → Ledger → Option Job → Type 0
Told v w found = MatchOption found ((w ≡ v) × Held 0 (KnowsAll v)) (λ job. (job.case.now ≡ v.case) × (w ≡ after_taking v job.process.0))

told_takes : (v w : Ledger) (found : Option Job) → Told v w found → IfSome found (λ job. (job.case.now ≡ v.case) × (w ≡ after_taking v job.process.0))
told_takes v w None told = tt
told_takes v w (Some job) told = told

told_same : (v w : Ledger) (found : Option Job) → Told v w found → IfNone found (w ≡ v)
told_same v w None told = told.0
told_same v w (Some job) told = tt

told_balanced : (v w : Ledger) (found : Option Job) → Told v w found → IfNone found (v.parts ≡ PARTS → IsBalanced v)
told_balanced v w None told = λ all weight.
    omega (arith, told.1.2 all weight, ap (λ (jobs : List Job). sum_by weight (processes_of jobs)) (nothing_left told.1.0 told.1.1))
told_balanced v w (Some job) told = tt

pub pop_as-requires-clause-rule : goal.pop_as-requires-clause-rule
pop_as-requires-clause-rule g c = (takes g.N.Naming.case _ _ c.requires.parts, learns g.N.Naming.case _ _)

pub returns-clause-takes : goal.returns-clause-takes
returns-clause-takes g c = told_takes (view c.args.pass.now) (view c.pop_as.new.pass) c.pop_as.result c.pop_as.ensures.rule

pub returns-clause-same : goal.returns-clause-same
returns-clause-same g c = told_same (view c.args.pass.now) (view c.pop_as.new.pass) c.pop_as.result c.pop_as.ensures.rule

pub returns-clause-balanced : goal.returns-clause-balanced
returns-clause-balanced g c = told_balanced (view c.args.pass.now) (view c.pop_as.new.pass) c.pop_as.result c.pop_as.ensures.rule
