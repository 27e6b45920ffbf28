use Rattle.std.proofs.Common.{◌≡◌, rules, false, refl, ap, ◌∙◌}
use Rattle.ll_trace.specs.Entries.{is_live, is_start}
use Rattle.ll_trace.specs.Kept.{runs}
use Rattle.ll_trace.proofs.KeptLemmas.{is_running}
use Rattle.ll_trace.proofs.reader.is_unknown.Goals as goal

pub returns-then-not-is_start : goal.returns-then-not-is_start
returns-then-not-is_start c = λ past is.
    let other : is_start c.args.entry.now.op ≡ false = search rules in
    let live : c.is_running.result ≡ is_live past c.args.entry.now.pid = c.is_running.ensures ∙ (ap runs is ∙ is_running past c.args.entry.now.pid) in
    rw (other, live) refl
