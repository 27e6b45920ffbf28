use Rattle.std.proofs.Common.{◌≡◌, length}
use Rattle.ll_rules.specs.Grants.{AreGrantsOf}
use Rattle.ll_rules.proofs.grants.Grants.of.Given as goal

-- what the layer grants on each node so far is there
abbrev pub invariant-loop-number : goal.invariant-loop-number
invariant-loop-number l = record {
  count : length l.sets.items ≡ l.number;
  known : AreGrantsOf l.tree l.layer l.sets.items;
}
