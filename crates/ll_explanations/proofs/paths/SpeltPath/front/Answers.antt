use Rattle.std.proofs.Common.{◌∙◌, ap, sym, arith}
use Rattle.ll_lines.specs.Paths.{front}
use Rattle.ll_explanations.proofs.SpeltTexts.{front_shape, front_spelt, long_path, short_root}
use Rattle.ll_explanations.proofs.paths.SpeltPath.front.Goals as goal

pub returns-then-text-le1-clause-none : goal.returns-then-text-le1-clause-none
returns-then-text-le1-clause-none c =
    sym c.as_str-text.ensures.path ∙ short_root c.as_str-text.result.now c.as_str-text.ensures.shape (omega (arith, c.if-text-le1.true))

pub invariant_of-result : goal.invariant_of-result
invariant_of-result c = front_shape c.as_str-text.result.now c.front_text.result.now c.as_str-text.ensures.shape c.front_text.ensures

pub returns-clause-some : goal.returns-clause-some
returns-clause-some c =
    let text = c.as_str-text.result.now in (
      front_spelt text c.front_text.result.now c.as_str-text.ensures.shape c.front_text.ensures ∙ ap front (c.as_str-text.ensures.path),
      λ root. long_path text c.as_str-text.ensures.shape (omega (arith, c.if-text-le1.false)) (c.as_str-text.ensures.path ∙ root),
    )
