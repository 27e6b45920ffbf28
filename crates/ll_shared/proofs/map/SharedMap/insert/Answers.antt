use Rattle.std.proofs.Common.{Some}
use Rattle.std.proofs.lemmas.Result.{on_ok_weaker, on_err_weaker}
use Rattle.ll_shared.proofs.Entries.{same, each, old_value, inserted}
use Rattle.ll_shared.proofs.map.SharedMap.insert.Goals as goal

pub returns-clause-ok : goal.returns-clause-ok
returns-clause-ok g c =
    rw (← c.self.view_is) (on_ok_weaker c.put.result (inserted c.self.inside.root c.put.new.self c.args.key c.args.value) c.put.ensures.ok)

pub returns-clause-each : goal.returns-clause-each
returns-clause-each g c =
    rw (← c.self.view_is) (on_ok_weaker c.put.result (each c.self.inside.root c.put.new.self c.args.key (Some c.args.value)) c.put.ensures.ok)

pub returns-clause-err : goal.returns-clause-err
returns-clause-err g c =
    rw (← c.self.view_is) (on_err_weaker c.put.result (same c.put.new.self c.self.inside.root) c.put.ensures.err)

pub returns-clause-old : goal.returns-clause-old
returns-clause-old g c = rw (← c.self.view_is) (old_value c.put.result c.self.inside.root c.args.key c.put.ensures.old)
