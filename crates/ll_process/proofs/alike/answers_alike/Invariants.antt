-- The answers so far are those of the other case, and both cases meet the next record alike.
use Rattle.std.proofs.Common.{◌≡◌}
use Rattle.std.specs.Prelude.{take}
use Rattle.ll_semantics.specs.Worlds.{judged}
use Rattle.ll_process.specs.Alike.{MeetsAlike}
use Rattle.ll_process.specs.Cases.{case_of}
use Rattle.ll_process.proofs.alike.answers_alike.Given as goal

abbrev pub invariant-loop-index : goal.invariant-loop-index
invariant-loop-index l =
    MeetsAlike (case_of l.located l.one) (case_of l.located l.other) l.index
    × (l.others.items ≡ take l.index (judged l.located.tree l.other.kernel.abi (case_of l.located l.other).records))
