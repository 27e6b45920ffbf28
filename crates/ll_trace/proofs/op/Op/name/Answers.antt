-- The name of a call is the word for its kind.
use Rattle.std.proofs.Common.{◌≡◌, ap, sym}
use Rattle.ll_trace.specs.declared.op.Op.TheVariants.{Truncate}
use Rattle.ll_trace.specs.Operations.{op_name}
use Rattle.ll_trace.proofs.op.Op.name.Goals as goal

pub returns-in-Truncate : goal.returns-in-Truncate
unfolding op_name
returns-in-Truncate c =
    let word : op_name c.args.self.now ≡ op_name (Truncate c.in-Truncate.path) = ap op_name c.in-Truncate.is in
    sym word
