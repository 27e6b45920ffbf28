use Rattle.std.proofs.Common.{◌≡◌, ◌++◌, drop, map}
use Rattle.ll_calling.proofs.policy.path_rules_of.Given as goal

-- the rules so far, and the others, are all
abbrev pub invariant-loop-rule : goal.invariant-loop-rule
invariant-loop-rule l = l.bare.items ++ map (λ seen. seen.rule) (drop l.rule-index l.rules) ≡ map (λ seen. seen.rule) l.rules
