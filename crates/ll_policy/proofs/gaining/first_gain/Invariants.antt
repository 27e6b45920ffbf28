use Rattle.std.proofs.Common.{ℕ, ◌<◌}
use Rattle.ll_policy.specs.Gains.{KeepsGainsInto}
use Rattle.ll_policy.specs.Chains.{is_file_in}
use Rattle.ll_policy.proofs.gaining.first_gain.Given as goal

-- gains are kept in the directories so far
abbrev pub invariant-loop-directory : goal.invariant-loop-directory
invariant-loop-directory l = (number : ℕ) → number < l.directory → KeepsGainsInto (is_file_in l.files) l.new l.old number
