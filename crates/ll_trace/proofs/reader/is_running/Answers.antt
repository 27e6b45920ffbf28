-- The process runs that is the latest of its pid, if there is one.
use Rattle.std.proofs.Common.{◌≡◌, sym, ap}
use Rattle.std.specs.Prelude.{Some}
use Rattle.ll_trace.specs.Kept.{runs}
use Rattle.ll_trace.proofs.reader.is_running.Goals as goal

pub returns-in-Some : goal.returns-in-Some
returns-in-Some c =
    let kept : runs c.args.owner ≡ runs (Some c.in-Some.owner) = ap runs c.in-Some.is in
    sym kept
