-- what is written, with the totals of the versions that are left, is the whole
use Rattle.std.proofs.Common.{◌≡◌, ◌+◌, drop}
use Rattle.ll_explain.specs.Buffers.{adding}
use Rattle.ll_report.specs.Rows.{totals_from}
use Rattle.ll_report.specs.Versions.{answers_in}
use Rattle.ll_report.proofs.version_rows.push_totals_from.Given as goal

abbrev pub invariant-loop-finding : goal.invariant-loop-finding
invariant-loop-finding l =
    (adding l.text (totals_from l.are_of_several l.abi (answers_in (drop l.finding-index l.findings)))
    ≡ adding l.fn.text (totals_from l.are_of_several l.oldest (answers_in l.findings)))
    × (l.abi ≡ l.oldest + l.finding-index)
