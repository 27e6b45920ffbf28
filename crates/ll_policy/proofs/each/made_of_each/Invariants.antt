use Rattle.std.proofs.Common.{take, Ok}
use Rattle.std.specs.Fn.{FnReturnsAt}
use Rattle.std.specs.List.{AllZip}
use Rattle.ll_policy.proofs.each.made_of_each.Given as goal

-- what is made of the things so far
abbrev pub invariant-loop-thing : goal.invariant-loop-thing
invariant-loop-thing g l = AllZip (λ thing told. FnReturnsAt g.F.Fn l.make thing (Ok told)) (take l.thing-index l.things) l.made.items
