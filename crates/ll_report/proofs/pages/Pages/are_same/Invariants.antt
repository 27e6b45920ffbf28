-- The texts are the same up to the page.
use Rattle.std.proofs.Common.{◌≡◌, ◌-◌, ◌^◌, [], get_or, take}
use Rattle.ll_report.specs.Printed.{texts_of}
use Rattle.ll_report.proofs.pages.Pages.are_same.Given as goal

abbrev pub invariant-loop-first : goal.invariant-loop-first
invariant-loop-first g l =
    let texts = texts_of g.P.Printer.printed l.row in record {
      first : l.first.room ≡ l.room;
      second : l.second.room ≡ l.room;
      same : take l.skip (get_or texts l.one []) ≡ take l.skip (get_or texts l.other []);
    }

abbrev pub decreases-loop-first : goal.decreases-loop-first
decreases-loop-first g l = 2 ^ 64 - l.skip
