use Rattle.std.proofs.Common.{◌≡◌, ℕ, ◌-◌, ◌<◌, List, [], set, subst, ⊎_elim, arith}
use Rattle.std.specs.Prelude.{sum_by}
use Rattle.std.proofs.lemmas.List.Sums.{sum_by_push}
use mathlib.Core.Option.{some}
use lib.ListN.{get_elem?}
use Rattle.crossbeam_queue.specs.Fifo.{Forks}
use Rattle.crossbeam_queue.proofs.Lists.{at_snoc}
use Rattle.ll_process.specs.Cases.{CaseValue}
use Rattle.ll_process.specs.Jobs.{processes_of}
use Rattle.ll_pool.specs.declared.queue.Ledger.{Ledger}
use Rattle.ll_pool.specs.Rule.{ledger, Fits, IsFair}
use Rattle.ll_pool.proofs.RuleSteps.{sum_set, law_set, AllFit, fits_set, fits_here, case_of}
use Rattle.ll_pool.proofs.queue.split.Goals as goal

parts_with : (cv : CaseValue) (port : ℕ) (v : Ledger) → 1 < v.parts
    → Forks (IsFair cv) port v (ledger v.case (v.parts - 1) v.given v.taken) (ledger v.case 1 [] [])
parts_with cv port v more jobs views fair eq =
    let left : Ledger = ledger v.case (v.parts - 1) v.given v.taken in
    let right : Ledger = ledger v.case 1 [] [] in
    let rest : List Ledger = set views port left in
    let mine : v.case ≡ cv = case_of cv views port v fair.fits eq (omega arith) in
    let fits : AllFit cv rest = fits_set cv views port left (fits_here cv left (omega arith) mine) fair.fits in
    record {
      parts = omega (arith, sum_set (λ (u : Ledger). u.parts) views port v left eq, fair.parts, sum_by_push (λ (u : Ledger). u.parts) rest right);
      law = λ weight.
          let law =
          law_set weight views port v left (sum_by weight (processes_of jobs)) (sum_by weight (processes_of jobs)) eq (fair.law weight) (omega arith) in
          omega (arith, law, sum_by_push (λ (u : Ledger). sum_by weight u.given) rest right, sum_by_push (λ (u : Ledger). sum_by weight u.taken) rest right);
      fits = λ j u e. ⊎_elim (λ (x : get_elem? rest j ≡ some u). fits j u x)
          (λ (is : right ≡ u). subst (λ (y : Ledger). Fits cv y) is (fits_here cv right (omega arith) mine)) (at_snoc rest right u j e);
      jobs_of = fair.jobs_of;
    }

pub another-requires-clause-rule : goal.another-requires-clause-rule
another-requires-clause-rule g c = parts_with g.N.Naming.case _ _ c.requires.parts
