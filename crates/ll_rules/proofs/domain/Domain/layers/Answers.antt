-- The layers that are handed out are those that are kept.
use Rattle.std.proofs.Common.{◌≡◌, ◌∙◌, List}
use Rattle.ll_rules.specs.declared.domain.LayerId.{LayerId}
use Rattle.ll_rules.proofs.domain.Domain.layers.Goals as goal

pub returns-clause-value : goal.returns-clause-value
returns-clause-value c =
    let kept : List LayerId = c.self.inside.ids.items in
    let all : c.as_slice.result.now ≡ kept = c.as_slice.ensures.value in
    all ∙ c.self.view_is
