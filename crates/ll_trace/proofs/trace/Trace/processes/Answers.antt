-- There are as many processes as there are lists of records,
-- since each process has its list.
use Rattle.std.proofs.Common.{◌≡◌, ◌∙◌, length, arith}
use Rattle.ll_trace.proofs.trace.Trace.processes.Goals as goal

pub returns-clause-count : goal.returns-clause-count
returns-clause-count c =
    let lists : c.len.result ≡ length c.self.inside.tables.own.items = omega (arith, c.len.ensures, c.self.inside.tables.own.ok) in
    let all = c.self.invariant.tables.size in
    rw (← c.self.view_is) (lists ∙ all)
