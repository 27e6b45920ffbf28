-- The map of the process changes at one number, and no other map.
use Rattle.std.proofs.Common.{Some, None, cond, eqb, ap, ◌∙◌}
use Rattle.ll_rulebook.proofs.Frozen.{holds_after, index_is}
use Rattle.ll_rulebook.proofs.tables.Tables.hold.Goals as goal

pub returns-in_ok-insert-in-Some : goal.returns-in_ok-insert-in-Some
returns-in_ok-insert-in-Some c = rw c.in-Some.is (holds_after c.args.self.now.held.items c.args.process c.insert.new.self _ c.requires (λ q.
    c.in_ok-insert-in-Some.ensures.each q
    ∙ ap (cond (eqb c.args.number q) (Some c.in-Some.index))
    (index_is c.args.self.now.held.items c.args.process q c.index_mut-held.result.now c.requires c.index_mut-held.ensures.value)))

pub returns-in_ok-remove-in-None : goal.returns-in_ok-remove-in-None
returns-in_ok-remove-in-None c = rw c.in-None.is (holds_after c.args.self.now.held.items c.args.process c.remove.new.self _ c.requires (λ q.
    c.in_ok-remove-in-None.ensures.each q
    ∙ ap (cond (eqb c.args.number q) None)
    (index_is c.args.self.now.held.items c.args.process q c.index_mut-held.result.now c.requires c.index_mut-held.ensures.value)))
