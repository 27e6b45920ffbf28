use Rattle.std.proofs.Common.{refl}
use Rattle.ll_shared.proofs.Digits.{four_pow}
use Rattle.ll_shared.proofs.levels.Levels.above.Goals as goal

pub returns : goal.returns
returns c = rw (c.from.ensures, four_pow) refl
