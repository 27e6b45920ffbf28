use Rattle.std.proofs.Common.{ℕ, ◌∙◌, ap, nat_cmp}
use Rattle.std.specs.FinMap.{FinMap, get}
use Rattle.ll_rulebook.specs.Stores.{held_by}
use Rattle.ll_rulebook.proofs.Frozen.{begins_after, index_is}
use Rattle.ll_rulebook.proofs.tables.Tables.fork.Goals as goal

pub returns : goal.returns
returns c =
    rw c.in_ok-push.ensures.items (begins_after c.args.self.now.held.items c.in_ok-held.held (held_by c.args.self.now.held.items c.args.parent) (λ q.
    ap (λ (held : FinMap nat_cmp ℕ). get held q) c.in_ok-held.ensures.cases
    ∙ index_is c.args.self.now.held.items c.args.parent q c.index.result.now c.requires c.index.ensures))
