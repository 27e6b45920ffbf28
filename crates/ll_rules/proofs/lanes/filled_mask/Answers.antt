use Rattle.std.proofs.Common.{◌∙◌, ℕ, ap, eqb, sym, subst, ◌<◌, ◌^◌}
use Rattle.std.specs.Int.{bit_at}
use Rattle.ll_rules.proofs.LaneSets.{mask_is, mask_small, mask_bits}
use Rattle.ll_rules.proofs.lanes.filled_mask.Goals as goal

pub overflow_cast-result : goal.overflow_cast-result
overflow_cast-result c = record {
  fits = subst (λ (n : ℕ). n < 2 ^ 16) (sym (mask_is c.args.lanes c.named_bits.result c.fits-lanes.0 c.named_bits.ensures))
      (mask_small c.args.lanes c.fits-lanes.0);
}

pub returns : goal.returns
returns c = λ index inside. ap (λ (n : ℕ). eqb (bit_at n index) 1) (mask_is c.args.lanes c.named_bits.result c.fits-lanes.0 c.named_bits.ensures)
    ∙ mask_bits c.args.lanes index c.fits-lanes.0 inside
