use Rattle.std.proofs.Common.{sym, None}
use Rattle.std.proofs.lemmas.Result.{on_ok_weaker, on_err_weaker}
use Rattle.ll_shared.proofs.Entries.{same, each, old_value, nothing_there, absent_each, absent_removed, removed}
use Rattle.ll_shared.proofs.map.SharedMap.remove.Goals as goal

pub returns-clause-ok : goal.returns-clause-ok
returns-clause-ok g c =
    rw (← c.self.view_is) (on_ok_weaker c.put.result (removed c.self.inside.root c.put.new.self c.args.key) c.put.ensures.ok)

pub returns-clause-each : goal.returns-clause-each
returns-clause-each g c =
    rw (← c.self.view_is) (on_ok_weaker c.put.result (each c.self.inside.root c.put.new.self c.args.key None) c.put.ensures.ok)

pub returns-clause-err : goal.returns-clause-err
returns-clause-err g c =
    rw (← c.self.view_is) (on_err_weaker c.put.result (same c.put.new.self c.self.inside.root) c.put.ensures.err)

pub returns-clause-old : goal.returns-clause-old
returns-clause-old g c = rw (← c.self.view_is) (old_value c.put.result c.self.inside.root c.args.key c.put.ensures.old)

pub returns-then-is_none-clause-old : goal.returns-then-is_none-clause-old
returns-then-is_none-clause-old g c =
    sym (nothing_there c.get.result c.self.inside.root _ c.args.key c.if-is_none.ensures c.get.ensures c.self.view_is)

pub returns-then-is_none-clause-ok : goal.returns-then-is_none-clause-ok
returns-then-is_none-clause-ok g c =
    absent_removed _ c.args.key (nothing_there c.get.result c.self.inside.root _ c.args.key c.if-is_none.ensures c.get.ensures c.self.view_is)

pub returns-then-is_none-clause-each : goal.returns-then-is_none-clause-each
returns-then-is_none-clause-each g c =
    absent_each _ c.args.key (nothing_there c.get.result c.self.inside.root _ c.args.key c.if-is_none.ensures c.get.ensures c.self.view_is)
