use Rattle.ll_rules.specs.InTree.{in_tree}
use Rattle.ll_rules.specs.Lanes.{lane, stacked}
use Rattle.ll_rules.proofs.DomainLanes.{stacked-within}
use Rattle.ll_rules.proofs.MoveLanes.{other_some, other_none, other_still}
use Rattle.ll_rules.proofs.cross_directory.CrossDirectoryMove.other_gained.Goals as goal

pub returns-in-Over-clause-gained : goal.returns-in-Over-clause-gained
returns-in-Over-clause-gained c = λ index.
    let crossing = c.args.self.now in
    other_some crossing.stack.tree.now crossing.attempt (stacked crossing.stack index) c.in-Over.there (lane c.gained.result.0 index)
    (lane crossing.lacking.source index) (lane crossing.lacking.destination index)
    c.in-Exchange.is c.in-Over.is crossing.tree crossing.target (stacked-within crossing.stack index) (crossing.at_source index) (crossing.at_destination index)
    (c.gained.ensures.gained index)

pub returns-in-New-clause-gained : goal.returns-in-New-clause-gained
returns-in-New-clause-gained c = λ index.
    let crossing = c.args.self.now in
    other_none crossing.stack.tree.now crossing.attempt (in_tree crossing.stack.tree.now (stacked crossing.stack index))
    (lane c.no_rights.result index) c.in-New.field-0 c.in-Exchange.is c.in-New.is (c.no_rights.ensures index)

pub returns-in-Rename-clause-gained : goal.returns-in-Rename-clause-gained
returns-in-Rename-clause-gained c = λ index.
    let crossing = c.args.self.now in
    other_still crossing.stack.tree.now crossing.attempt (in_tree crossing.stack.tree.now (stacked crossing.stack index))
    (lane c.no_rights-in-Rename.result index) c.in-Rename.is (c.no_rights-in-Rename.ensures index)
