-- No record is judged yet.
use Rattle.std.proofs.Common.{◌∙◌, arith}
use Rattle.ll_process.proofs.Going.{begins_so, all_from}
use Rattle.ll_process.proofs.progress.Progress.begin.Goals as goal

pub invariant_of-result : goal.invariant_of-result
invariant_of-result c = record {
  there = c.args.job.there;
  ahead_of = c.new.ensures.case;
  indices = c.new.ensures.indices ∙ c.own_records-indices.ensures.indices;
  within = omega arith;
  meets = begins_so c.args.job.case.now c.args.job.process.0 c.args.job.own c.own_records-indices.ensures.case c.args.job.there c.args.job.begins;
  answered = rw c.in_ok-with_capacity.ensures.items (all_from c.args.job.case.now c.args.job.process.0);
}
