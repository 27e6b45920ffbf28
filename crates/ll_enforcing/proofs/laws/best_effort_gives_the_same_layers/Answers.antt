use Rattle.ll_enforcing.proofs.OlderPolicy.{the_same}
use Rattle.ll_enforcing.proofs.laws.best_effort_gives_the_same_layers.Goals as goal

pub returns : goal.returns
returns c =
    λ older newer le policy fits tree missing rs process world may. the_same tree older newer le missing rs policy process world fits may
