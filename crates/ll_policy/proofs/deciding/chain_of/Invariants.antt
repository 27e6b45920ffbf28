use Rattle.std.proofs.Common.{◌≡◌, ◌++◌}
use Rattle.std.specs.Prelude.{filter}
use Rattle.std.specs.List.{range_with_len}
use Rattle.ll_policy.specs.Chains.{is_file_in}
use Rattle.ll_policy.specs.Choices.{is_further}
use Rattle.ll_policy.proofs.deciding.chain_of.Given as goal

-- what is extra so far
abbrev pub invariant-loop-object : goal.invariant-loop-object
invariant-loop-object l = l.chain.items ≡ l.always ++ filter (is_further (is_file_in l.files) l.always l.file l.old l.new) (range_with_len 0 l.object)
