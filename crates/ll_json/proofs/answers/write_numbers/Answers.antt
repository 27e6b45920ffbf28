use Rattle.std.proofs.Common.{◌≡◌, ◌-◌, ◌<◌, ◌∙◌, refl, sym, arith}
use Rattle.ll_rules.specs.declared.domain.TheConstants.{MOST_LAYERS}
use Rattle.ll_json.specs.Writing.{writing}
use Rattle.ll_json.proofs.NumbersTold.{no_layer, upto-none, upto_all, upto_more}
use Rattle.ll_json.proofs.answers.write_numbers.Goals as goal

pub returns-then-is_empty : goal.returns-then-is_empty
returns-then-is_empty c = no_layer c.args.numbers c.args.out.now (sym c.is_empty.ensures.empty ∙ c.if-is_empty.true)

pub loop-number-init : goal.loop-number-init
unfolding writing
loop-number-init c = rw (upto-none c.args.numbers) refl

pub loop-number-preserved : goal.loop-number-preserved
loop-number-preserved c =
    let positive : 0 < c.loop-number.number = omega arith in
    upto_more c.args.numbers c.loop-number.number c.args.out.now c.loop-number.out _ positive c.loop-number.invariant c.write_if_among.ensures

pub returns : goal.returns
returns c =
    let last : c.loop-number.number - 1 ≡ MOST_LAYERS = omega arith in
    upto_all c.args.numbers (c.loop-number.number - 1) MOST_LAYERS c.args.out.now _ last c.is_empty.ensures.rising c.loop-number.invariant
