use Rattle.std.proofs.Common.{◌≡◌, drop}
use Rattle.std.specs.List.{enumerate_from}
use Rattle.ll_fitting.specs.Told.{TellsAs}
use Rattle.ll_fitting.specs.Misfits.{first_of}
use Rattle.ll_fitting.proofs.told.first_told.Given as goal

-- nothing is told so far
abbrev pub invariant-loop-index : goal.invariant-loop-index
invariant-loop-index g l =
    (gives : _) → TellsAs g.F.Fn l.tell (λ told. told) gives →
    first_of gives (enumerate_from l.index (drop l.index l.things)) ≡ first_of gives (enumerate_from 0 l.things)
