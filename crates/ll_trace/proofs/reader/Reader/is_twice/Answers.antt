-- A process starts under a pid that is live.
use Rattle.std.proofs.Common.{◌≡◌, Some, sym, ◌∙◌}
use Rattle.ll_trace.specs.Entries.{is_live, pid_started}
use Rattle.ll_trace.specs.Kept.{past}
use Rattle.ll_trace.proofs.reader.Reader.is_twice.Goals as goal

pub returns-in-Some : goal.returns-in-Some
returns-in-Some c =
    let started : pid_started c.args.entry.now.op c.args.entry.now.pid ≡ Some c.in-Some.pid = sym c.started_pid.ensures ∙ c.in-Some.is in
    let live : c.is_live.result ≡ is_live (past c.args.self.now) c.in-Some.pid = c.is_live.ensures in
    rw started live
