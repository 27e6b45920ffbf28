use Rattle.std.proofs.Common.{◌≡◌, ◌++◌, drop}
use Rattle.std.specs.List.{flat_map, enumerate_from}
use Rattle.std.specs.Option.{option_to_list}
use Rattle.ll_fitting.specs.Told.{TellsAs}
use Rattle.ll_fitting.proofs.told.all_told.Given as goal

-- what is told so far, and what is told of the others, are all
abbrev pub invariant-loop-index : goal.invariant-loop-index
invariant-loop-index g l =
    (gives : _) → TellsAs g.F.Fn l.tell option_to_list gives →
    l.all.items ++ flat_map gives (enumerate_from l.index (drop l.index l.things)) ≡ flat_map gives (enumerate_from 0 l.things)
