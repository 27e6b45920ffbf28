use Rattle.std.proofs.Common.{arith}
use Rattle.ll_trace.proofs.Numbering.{few_records}
use Rattle.ll_trace.proofs.TableLemmas.{indexes_one_more, known_at}
use Rattle.ll_trace.proofs.tables.index.Goals as goal

pub overflow_cast-index : goal.overflow_cast-index
overflow_cast-index c = omega (arith, few_records c.args.records.now c.requires)

pub add-requires : goal.add-requires
add-requires c =
    known_at c.loop-index.tables c.args.records.now c.loop-index.index c.index-records-index.result c.requires.numbered c.loop-index-test.true
    c.index-records-index.is c.loop-index.invariant

pub loop-index-preserved : goal.loop-index-preserved
loop-index-preserved c =
    indexes_one_more c.loop-index.tables c.add.new.self c.args.records.now c.loop-index.index c.index-records-index.result c.loop-index-test.true
    c.index-records-index.is c.loop-index.invariant c.in_ok-add.ensures
