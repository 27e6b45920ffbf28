use Rattle.std.proofs.Common.{refl}
use Rattle.ll_explanations.proofs.Moving.{other_new, other_none, other_over}
use Rattle.ll_explanations.specs.Confined.{rules_of}
use Rattle.ll_explanations.proofs.moved.gained_other.Goals as goal

pub returns-in-Over-clause-said : goal.returns-in-Over-clause-said
returns-in-Over-clause-said c =
    let move = c.args.request.now.attempt in
    other_over c.args.layer.now.ctx.tree.now move (rules_of c.args.layer.now) _ move.how move.target c.in-Over.there _ c.in-Exchange.is c.in-Over.is
    c.requires.from
    c.gained.ensures.said

pub returns-in-New-clause-said : goal.returns-in-New-clause-said
returns-in-New-clause-said c =
    let move = c.args.request.now.attempt in
    other_new c.args.layer.now.ctx.tree.now move (rules_of c.args.layer.now) _ move.how move.target c.in-New.field-0 c.in-Exchange.is c.in-New.is refl

pub returns-in-Rename-clause-said : goal.returns-in-Rename-clause-said
returns-in-Rename-clause-said c =
    let move = c.args.request.now.attempt in
    other_none c.args.layer.now.ctx.tree.now move (rules_of c.args.layer.now) _ move.how move.target c.in-Rename.is refl
