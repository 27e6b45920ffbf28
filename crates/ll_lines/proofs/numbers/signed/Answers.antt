-- What stands behind a minus, or the whole text where there is none, is the numeral.
use Rattle.std.proofs.Common.{◌≡◌, drop, get_or, true, false, ◌==◌, sym, ap, ◌∙◌, arith, take_all, length-drop}
use Rattle.fast_float.specs.Text.{scan}
use Rattle.serde_json.specs.Read.{number_of, number_from}
use Rattle.ll_lines.proofs.numbers.signed.Goals as goal

pub returns-then-has_minus : goal.returns-then-has_minus
unfolding number_of
returns-then-has_minus c =
    let bytes = c.as_bytes-bytes.result.now in
    let minus : (get_or bytes 0 0 == 45) ≡ true = sym c.if-has_minus.ensures.minus in
    let numeral : c.scan.result ≡ scan (drop 1 bytes) = c.scan.ensures.parts ∙ ap scan (take_all _ (drop 1 bytes) (omega (arith, length-drop 1 bytes))) in
    let whole : number_of bytes ≡ number_from true (scan (drop 1 bytes)) = rw minus in
    ap number_of (sym c.as_bytes-bytes.ensures.value) ∙ whole ∙ ap (number_from true) (sym numeral)

pub returns-else-has_minus : goal.returns-else-has_minus
unfolding number_of
returns-else-has_minus c =
    let bytes = c.as_bytes-bytes.result.now in
    let plain : (get_or bytes 0 0 == 45) ≡ false = sym c.if-has_minus.ensures.minus in
    let whole : number_of bytes ≡ number_from false (scan bytes) = rw plain in
    ap number_of (sym c.as_bytes-bytes.ensures.value) ∙ whole ∙ ap (number_from false) (sym c.scan-else-has_minus.ensures.parts)
