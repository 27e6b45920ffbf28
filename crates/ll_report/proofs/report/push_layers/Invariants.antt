use Rattle.std.proofs.Common.{◌≡◌, ◌-◌}
use Rattle.ll_explain.specs.Buffers.{adding}
use Rattle.ll_report.specs.Report.{listed_layers}
use Rattle.ll_report.proofs.LayerText.{is_none_yet, layers_upto}
use Rattle.ll_report.proofs.report.push_layers.Given as goal

-- the layers below the number are written
abbrev pub invariant-loop-number : goal.invariant-loop-number
invariant-loop-number l =
    (l.text ≡ adding l.fn.text (listed_layers (layers_upto l.layers (l.number - 1))))
    × (l.is_first ≡ is_none_yet (layers_upto l.layers (l.number - 1)))
