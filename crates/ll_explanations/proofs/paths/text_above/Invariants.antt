-- The path is so many names above.
use Rattle.std.proofs.Common.{◌≡◌}
use Rattle.ll_explanations.specs.Meant.{above_by, path_named}
use Rattle.ll_explanations.proofs.paths.text_above.Given as goal

abbrev pub invariant-loop : goal.invariant-loop
invariant-loop l = l.path ≡ above_by l.counter (path_named l.op l.fn.named.which)
