use Rattle.std.proofs.Common.{◌≡◌, length}
use Rattle.ll_rules.specs.Grants.{AreGrants}
use Rattle.ll_rules.proofs.grants.grants_of.Given as goal

-- what the layers so far grant is there
abbrev pub invariant-loop-layer : goal.invariant-loop-layer
invariant-loop-layer l = record {
  count : length l.all.items ≡ l.layer-index;
  known : AreGrants l.tree l.layers l.all.items;
}
