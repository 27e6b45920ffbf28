use Rattle.std.proofs.Common.{◌≡◌, ◌≤◌, eqb, not, take}
use Rattle.std.specs.Prelude.{count_by}
use Rattle.ll_rules.proofs.domain.Stack.count_filled.Given as goal

-- so many of the lanes so far hold anything
abbrev pub invariant-loop-index : goal.invariant-loop-index
invariant-loop-index l = record {
  exact : l.filled ≡ count_by (λ bits. not (eqb bits 0)) (take l.index l.lanes);
  few : l.filled ≤ l.index;
}
