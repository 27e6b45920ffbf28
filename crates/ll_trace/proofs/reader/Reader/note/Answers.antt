use Rattle.std.proofs.Common.{sym, ◌∙◌}
use Rattle.std.proofs.lemmas.Result.{on_ok_weaker}
use Rattle.ll_trace.proofs.KeptLemmas.{noted_begin}
use Rattle.ll_trace.proofs.reader.Reader.note.Goals as goal

pub returns-in-Some-clause-ok : goal.returns-in-Some-clause-ok
returns-in-Some-clause-ok c =
    on_ok_weaker c.begin.result (λ begins. noted_begin _ _ _ c.in-Some.pid c.requires.kept (sym c.started_pid.ensures ∙ c.in-Some.is) begins) c.begin.ensures.ok
