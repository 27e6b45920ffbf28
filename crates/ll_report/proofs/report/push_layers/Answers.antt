use Rattle.std.proofs.Common.{◌≡◌, ◌-◌, ◌<◌, ◌∙◌, ap, sym, refl, arith, false}
use Rattle.ll_explain.specs.Buffers.{adding}
use Rattle.ll_explain.proofs.Buffering.{adding_nothing}
use Rattle.ll_rules.specs.declared.domain.TheConstants.{MOST_LAYERS}
use Rattle.ll_report.specs.Report.{listed_layers}
use Rattle.ll_report.proofs.LayerText.{is_none_yet, is_none_yet-length, layers_text-some, layers_upto, layers_upto-all, layers_upto-none, layers_upto-not_among}
use Rattle.ll_report.proofs.LayerText.{written_among}
use Rattle.ll_report.proofs.report.push_layers.Goals as goal
use Rattle.ll_report.proofs.report.push_layers.Goals.{then-has, else-has}

pub loop-number-init : goal.loop-number-init
loop-number-init c = rw (layers_upto-none c.args.layers) (adding_nothing c.args.text.now, refl)

pub loop-number-preserved : goal.loop-number-preserved
loop-number-preserved c =
    let number = c.loop-number.number in
    let pos : 0 < number = omega arith in
    elim c.if-has.branch [
      | then-has w ↦ rw (w.text-is, w.is_first-is) (written_among c.args.layers number c.args.text.now
          c.loop-number.text _ c.loop-number.is_first pos (sym c.has.ensures ∙ w.if-has.true)
          c.loop-number.invariant.0 c.loop-number.invariant.1 w.push_layer.ensures)
      | else-has w ↦
          let same = layers_upto-not_among c.args.layers number pos (sym c.has.ensures ∙ w.if-has.false) in
          rw (w.text-is, w.is_first-is, same) c.loop-number.invariant
    ]

pub returns : goal.returns
returns c =
    let layers = c.args.layers in
    let last : c.loop-number.number - 1 ≡ MOST_LAYERS = omega arith in
    let some : is_none_yet layers ≡ false = is_none_yet-length layers ∙ (sym c.is_empty.ensures.empty ∙ c.if-is_empty.false) in
    c.loop-number.invariant.0
    ∙ ap (adding c.args.text.now)
    (ap (λ n. listed_layers (layers_upto layers n)) last ∙ (ap listed_layers (layers_upto-all layers c.is_empty.ensures.rising)
    ∙ sym (layers_text-some layers some)))
