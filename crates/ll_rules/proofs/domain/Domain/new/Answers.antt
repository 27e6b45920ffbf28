-- A new domain has no layer.
use Rattle.std.proofs.Common.{◌≡◌, [], List}
use Rattle.ll_rules.specs.declared.domain.LayerId.{LayerId}
use Rattle.ll_rules.proofs.domain.Domain.new.Goals as goal

pub returns : goal.returns
returns c =
    let none : List LayerId = [] in
    let empty : c.new-ids.result.items ≡ none = c.new-ids.ensures in
    empty
