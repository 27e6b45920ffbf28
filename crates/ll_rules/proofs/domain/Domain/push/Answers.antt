-- The layer that is stacked comes behind those that were there.
use Rattle.std.proofs.Common.{◌≡◌, ◌++◌, ◌∷◌, [], List}
use Rattle.ll_rules.specs.declared.domain.LayerId.{LayerId}
use Rattle.ll_rules.proofs.domain.Domain.push.Goals as goal

pub returns-clause-ok : goal.returns-clause-ok
returns-clause-ok c =
    let before : List LayerId = c.self.inside.ids.items in
    let one_more : c.push.new.self.items ≡ before ++ c.args.layer ∷ [] = c.push.ensures.items in
    rw (← c.self.view_is) one_more
