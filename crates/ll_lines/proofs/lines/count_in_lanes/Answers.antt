-- A bit of the mask for each lane that is a line feed.
use Rattle.std.proofs.Common.{◌==◌, eqb, ap, ◌∙◌, arith, w8}
use Rattle.std.specs.Prelude.{count_ones}
use Rattle.std.proofs.lemmas.Simd.{bitmask_splat, ones-mask_l}
use Rattle.ll_lines.proofs.lines.count_in_lanes.Goals as goal

pub returns : goal.returns
returns c = ap count_ones (bitmask_splat w8 eqb c.args.lanes 32 10 c.requires (omega arith)) ∙ ones-mask_l (λ byte. byte == 10) c.args.lanes
