use Rattle.std.proofs.Common.{rules}
use Rattle.ll_comparison.proofs.found.compare.Goals as goal

pub returns : goal.returns
returns c =
    record {
      regions = search rules;
      objects = rw (← c.deref-4.ensures.value, ← c.deref-5.ensures.value, ← c.deref-6.ensures.value) c.in_ok-objects.ensures;
      single = rw (← c.deref-4.ensures.value, ← c.deref-5.ensures.value, ← c.deref-6.ensures.value) c.in_ok-single.ensures;
      gains = rw (← c.deref-4.ensures.value, ← c.deref-5.ensures.value, ← c.deref-6.ensures.value) c.in_ok-gains.ensures;
      moves = search rules;
      ports = search rules;
      lost = search rules;
      spare_layers = search rules;
    }
