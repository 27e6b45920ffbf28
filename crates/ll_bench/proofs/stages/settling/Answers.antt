-- What was settled is of the tree and the trace.
use Rattle.std.proofs.Common.{◌≡◌, ◌∙◌, Ok, Err, Result, Some, sym}
use Rattle.std.specs.Prelude.{IfOk}
use Rattle.std.specs.Result.{result_ok}
use Rattle.ll_process.specs.Cases.{IsCase, case_of}
use Rattle.ll_process.specs.declared.settled.Settled.{Settled}
use Rattle.ll_bench.proofs.stages.settling.Goals as goal

held : {T E : Type 0} (P : T → Type 0) (r : Result T E) (x : T) → result_ok r ≡ Some x → IfOk r P → P x
held P (Ok y) x is fact =
    let same : y ≡ x = cc in
    rw (← same) fact
held P (Err e) x is fact = absurd cc

pub of-case-requires : goal.of-case-requires
of-case-requires g c =
    held (λ (settled : Settled). IsCase (case_of c.args.located.now settled)) c.of.result c.in_ok-settled.settled
    (sym c.ok.ensures.value ∙ c.in_ok-settled.ensures) c.of.ensures.case
