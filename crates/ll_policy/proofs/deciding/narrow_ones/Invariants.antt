use Rattle.std.proofs.Common.{◌≡◌, ◌++◌, drop}
use Rattle.std.specs.Prelude.{filter}
use Rattle.ll_policy.specs.Chains.{is_file_in}
use Rattle.ll_policy.specs.Choices.{is_narrow}
use Rattle.ll_policy.proofs.deciding.narrow_ones.Given as goal

-- the narrow ones so far, and those of what is left, are all
abbrev pub invariant-loop-layer : goal.invariant-loop-layer
invariant-loop-layer l =
    l.narrow.items ++ filter (is_narrow (is_file_in l.files) l.old) (drop l.layer-index l.new) ≡ filter (is_narrow (is_file_in l.files) l.old) l.new
