-- The job of a start record keeps its type's own facts.
use Rattle.std.proofs.Common.{◌≡◌, sym}
use Rattle.ll_trace.specs.declared.op.Op.TheVariants.{Start}
use Rattle.ll_trace.specs.SeenRecords.{record_of}
use Rattle.ll_trace.proofs.Numbers.{is_start-from}
use Rattle.ll_trace.proofs.OwnRecords.{stands_at}
use Rattle.ll_process.proofs.Roots.{root_there, root_begins, root_at-start, root_at-other}
use Rattle.ll_process.proofs.starting.root_job.Goals as goal

pub invariant_of-result : goal.invariant_of-result
invariant_of-result c = record {
  there = root_there c.args.case.now c.args.index (record_of c.record.result) c.record.ensures.case c.record.ensures.at;
  begins = root_begins c.args.case.now c.args.index (record_of c.record.result) c.in-Some.nnp c.in-Some.admin c.fresh.result c.record.ensures.case
      c.record.ensures.at (c.in-Some.ensures.some (record_of c.record.result) (rw c.trace.ensures.records c.record.ensures.at))
      (c.fresh.ensures c.args.case.now.tree c.args.case.now.layers);
}

pub returns-in-Some-clause-root : goal.returns-in-Some-clause-root
returns-in-Some-clause-root c =
    let starts : (record_of c.record.result).op ≡ Start c.in-Some.nnp c.in-Some.admin =
    c.in-Some.ensures.some (record_of c.record.result) (rw c.trace.ensures.records c.record.ensures.at) in
    sym (root_at-start c.args.case.now.records c.args.index (record_of c.record.result) c.record.ensures.at (is_start-from _ _ _ starts))

pub returns-in-None-clause-root : goal.returns-in-None-clause-root
returns-in-None-clause-root c =
    let there = stands_at c.args.case.now.records c.args.index c.requires in
    sym (root_at-other c.args.case.now.records c.args.index there.0 there.1
    (c.in-None.ensures.none there.0 (rw c.trace.ensures.records there.1)))
