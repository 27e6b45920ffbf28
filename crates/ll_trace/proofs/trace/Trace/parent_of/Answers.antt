use Rattle.ll_trace.proofs.TableLemmas.{parent_read, parents_read}
use Rattle.ll_trace.proofs.trace.Trace.parent_of.Goals as goal

pub index-requires : goal.index-requires
index-requires c = parents_read c.self.inside.tables c.self.inside.records.items c.args.process.0 c.self.invariant.tables (rw c.self.view_is c.requires)

pub returns-clause-value : goal.returns-clause-value
returns-clause-value c =
    rw (← c.self.view_is) (parent_read c.self.inside.tables c.self.inside.records.items c.args.process.0 c.index.result.now c.self.invariant.records.numbered
    c.self.invariant.tables (rw c.self.view_is c.requires) c.index.ensures).0

pub returns-clause-below : goal.returns-clause-below
returns-clause-below c =
    (parent_read c.self.inside.tables c.self.inside.records.items c.args.process.0 c.index.result.now c.self.invariant.records.numbered c.self.invariant.tables
    (rw c.self.view_is c.requires) c.index.ensures).1
