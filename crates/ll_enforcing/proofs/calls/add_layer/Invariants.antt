use Rattle.std.proofs.Common.{◌≡◌, ◌++◌, drop, map}
use Rattle.ll_enforcing.specs.declared.calls.Call.TheVariants.{AddPath, AddPort}
use Rattle.ll_enforcing.proofs.calls.add_layer.Given as goal

-- the calls so far, and those for the other rules, are all
abbrev pub invariant-loop-rule : goal.invariant-loop-rule
invariant-loop-rule l =
    l.calls.items ++ map (λ rule. AddPath l.layer rule) (drop l.rule-index l.rule-items)
    ≡ l.initial.calls.items ++ map (λ rule. AddPath l.layer rule) l.rule-items

abbrev pub invariant-loop-rule-2 : goal.invariant-loop-rule-2
invariant-loop-rule-2 l =
    l.calls.items ++ map (λ rule. AddPort l.layer rule) (drop l.rule-index l.rule-items)
    ≡ l.initial.calls.items ++ map (λ rule. AddPort l.layer rule) l.rule-items
