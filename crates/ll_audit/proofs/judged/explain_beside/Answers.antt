use denote.Param.Send.{AllSend, IsSend, sendable, param_send, arg_send, recorded_send, struct_send}
use denote.Exit.{no}
use denote.RattleType.{RattleType}
use denote.Struct.Declared.{shape}
use denote.Struct.Tuple.{TupleAt, field_at, type_at}
use mathlib.Core.List.{List}
use mir.Syntax.{Sym}
use Rattle.std.proofs.Crossing.{crosses}
use Rattle.ll_semantics.proofs.answer.Answer.TheSendSync as answer
use Rattle.ll_trace.proofs.located.Located.TheSendSync as located
use Rattle.ll_process.proofs.Crossing.{settled_sync}
use Rattle.ll_findings.proofs.findings.Findings.TheSendSync as findings
use Rattle.ll_audit.proofs.judged.explain_beside.Lts as lts
use Rattle.ll_audit.proofs.judged.explain_beside.Goals as goal

captures_send : (name : Sym) (Ts : List RattleType) → AllSend (shape (type_at name Ts)).fields → IsSend (TupleAt name Ts)
captures_send name Ts all = recorded_send (field_at name Ts).row _ _ (type_at name Ts).to_one (struct_send (shape (type_at name Ts)) all)

-- what a closure captures goes to another thread with it, part by part; here what explains
pub join-findings-requires-send-F : goal.join-findings-requires-send-F
join-findings-requires-send-F g c κs within =
    let name = lts.name-9 g.row.R g.row.G g.R.laws g.G.laws g.R.Threads-dict g.R.Wait-dict g.G.Gate-dict in
    let Ts : List RattleType = lts.of-24 g.row.R g.row.G g.R.laws g.G.laws g.R.Threads-dict g.R.Wait-dict g.G.Gate-dict _ _ _ in
    let all : AllSend (shape (type_at name Ts)).fields = (
      search (c.type_bounds.sync-R, sendable) depth 20,
      (
        search sendable depth 20,
        (
          search (located.the_sync, crosses, sendable) depth 40,
          (
            search (settled_sync, sendable) depth 20,
            (
              search (answer.the_send, crosses, sendable) depth 40,
              (search sendable depth 20, (search (findings.the_send, crosses, sendable) depth 40, (search sendable depth 20, tt))),
            ),
          ),
        ),
      ),
    ) in
    param_send _ _ (arg_send _ no _ (captures_send name Ts all))
