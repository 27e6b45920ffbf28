use Rattle.std.proofs.Common.{ap, ◌∙◌}
use Rattle.ll_shared.proofs.Entries.{same}
use Rattle.ll_shared.proofs.map.SharedMapClone.clone.Goals as goal

pub returns : goal.returns
returns g c = record { cases = same c.in_ok-again.field-0 c.self.inside.root (λ q. ap (λ f. f q) c.in_ok-again.ensures.found) ∙ c.self.view_is }
