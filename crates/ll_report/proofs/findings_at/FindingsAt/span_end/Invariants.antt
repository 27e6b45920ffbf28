-- the versions so far say what the first of the span says
use Rattle.std.proofs.Common.{◌≡◌, ◌<◌, ◌≤◌, ℕ, [], get_or}
use Rattle.ll_report.specs.Printed.{texts_of}
use Rattle.ll_report.proofs.findings_at.FindingsAt.span_end.Given as goal

abbrev pub invariant-loop-version : goal.invariant-loop-version
invariant-loop-version g l =
    let texts = texts_of g.P.Printer.printed l.self in
    (l.from < l.version) × ((k : ℕ) → l.from ≤ k → k < l.version → get_or texts l.from [] ≡ get_or texts k [])
