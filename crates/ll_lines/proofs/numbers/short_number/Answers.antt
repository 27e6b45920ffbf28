-- Eighteen digits fit, and each more is worth what it is.
use Rattle.std.proofs.Common.{length, arith, sym, ◌∙◌}
use Rattle.std.proofs.lemmas.Bool.{eqb-false}
use Rattle.ll_lines.proofs.NumberLemmas.{room, more, all_read}
use Rattle.ll_lines.proofs.numbers.short_number.Goals as goal

pub overflow_mul-number : goal.overflow_mul-number
overflow_mul-number c =
    omega (
      arith,
      room c.args.digits.now c.loop-digit.digit-index c.loop-digit.number c.loop-digit-test.true c.if-digits-gt-MOST_DIGITS.false
          c.loop-digit.invariant (sym c.is_ascii_digit.ensures.value ∙ c.if-not-is_ascii_digit.false),
    )

pub overflow_add-number : goal.overflow_add-number
overflow_add-number c =
    omega (
      arith,
      c.from.ensures,
      room c.args.digits.now c.loop-digit.digit-index c.loop-digit.number c.loop-digit-test.true c.if-digits-gt-MOST_DIGITS.false
          c.loop-digit.invariant (sym c.is_ascii_digit.ensures.value ∙ c.if-not-is_ascii_digit.false),
    )

pub loop-digit-preserved : goal.loop-digit-preserved
loop-digit-preserved c =
    rw c.from.ensures (more c.args.digits.now c.loop-digit.digit-index c.loop-digit.number c.loop-digit-test.true c.if-digits-gt-MOST_DIGITS.false
    c.loop-digit.invariant (sym c.is_ascii_digit.ensures.value ∙ c.if-not-is_ascii_digit.false))

pub returns : goal.returns
returns c =
    all_read c.args.digits.now c.loop-digit.digit-index c.loop-digit.number
    (let some = eqb-false (length c.args.digits.now) 0 (sym c.is_empty.ensures ∙ c.if-is_empty.false) in omega (arith, some))
    c.if-digits-gt-MOST_DIGITS.false c.loop-digit-test.false c.loop-digit.invariant
