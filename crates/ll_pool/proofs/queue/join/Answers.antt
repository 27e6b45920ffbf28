use Rattle.std.proofs.Common.{◌≡◌, ℕ, ◌+◌, ◌<◌, List, [], ◌++◌, set, arith}
use Rattle.std.specs.Prelude.{sum_by}
use Rattle.std.proofs.lemmas.List.Sums.{sum_by-append}
use Rattle.crossbeam_queue.specs.Fifo.{Merges}
use Rattle.ll_process.specs.Cases.{CaseValue}
use Rattle.ll_pool.specs.declared.queue.Ledger.{Ledger}
use Rattle.ll_pool.specs.Rule.{ledger, IsFair}
use Rattle.ll_pool.proofs.RuleSteps.{sum_set, AllFit, fits_set, fits_here, spent_fits, case_of}
use Rattle.ll_pool.proofs.queue.join.Goals as goal

joins : (cv : CaseValue) (port : ℕ) (v : Ledger) (other : ℕ) (w : Ledger) → 0 < v.parts
    → Merges (IsFair cv) port v other w (ledger v.case (v.parts + w.parts) (v.given ++ w.given) (v.taken ++ w.taken)) (ledger cv 0 [] [])
joins cv port v other w some_part jobs views fair eq apart at_other =
    let both : Ledger = ledger v.case (v.parts + w.parts) (v.given ++ w.given) (v.taken ++ w.taken) in
    let spent : Ledger = ledger cv 0 [] [] in
    let rest : List Ledger = set views port both in
    let mine : v.case ≡ cv = case_of cv views port v fair.fits eq some_part in
    let fits : AllFit cv rest = fits_set cv views port both (fits_here cv both (omega arith) mine) fair.fits in
    record {
      parts = omega (arith, sum_set (λ (u : Ledger). u.parts) views port v both eq, sum_set (λ (u : Ledger). u.parts) rest other w spent at_other, fair.parts);
      law = λ weight.
          let given = λ (u : Ledger). sum_by weight u.given in
          let taken = λ (u : Ledger). sum_by weight u.taken in
          omega (
            arith,
            sum_set given views port v both eq,
            sum_set given rest other w spent at_other,
            sum_set taken views port v both eq,
            sum_set taken rest other w spent at_other,
            sum_by-append weight v.given w.given,
            sum_by-append weight v.taken w.taken,
            fair.law weight,
          );
      fits = fits_set cv rest other spent (spent_fits cv) fits;
      jobs_of = fair.jobs_of;
    }

pub absorb-requires-clause-rule : goal.absorb-requires-clause-rule
absorb-requires-clause-rule g c = joins g.N.Naming.case _ _ _ _ c.requires.parts
