-- The totals that are written, with those of the versions that are left, are the whole.
use Rattle.std.proofs.Common.{◌≡◌, ◌+◌, drop}
use Rattle.ll_report.specs.Versions.{answers_in}
use Rattle.ll_json.specs.Parts.{values_tokens}
use Rattle.ll_json.specs.Reports.{totals_from}
use Rattle.ll_json.specs.Writing.{writing}
use Rattle.ll_json.proofs.totals.write_totals_from.Given as goal

abbrev pub invariant-loop-finding : goal.invariant-loop-finding
invariant-loop-finding l =
    (l.abi ≡ l.oldest + l.finding-index)
    × (writing l.out (values_tokens (totals_from l.abi (answers_in (drop l.finding-index l.findings))))
    ≡ writing l.fn.out (values_tokens (totals_from l.oldest (answers_in l.findings))))
