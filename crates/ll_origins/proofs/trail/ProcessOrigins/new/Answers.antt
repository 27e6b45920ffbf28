use Rattle.std.specs.FinMap.{get-empty}
use Rattle.std.specs.Ordering.{nat_cmp}
use Rattle.ll_origins.proofs.trail.ProcessOrigins.new.Goals as goal

pub returns : goal.returns
unfolding Rattle.ll_reasons.specs.Origins.no_origins
returns c = record {
  layers = c.new.ensures.items;
  openings = c.new-2.ensures;
  rulesets = λ rs. rw c.new-3.ensures (get-empty nat_cmp rs);
}
