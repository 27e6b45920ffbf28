use Rattle.std.proofs.Common.{◌*◌, ◌∙◌, arith}
use Rattle.std.proofs.lemmas.Nat.{one_shl}
use Rattle.ll_shared.proofs.Digits.{four_pow}
use Rattle.ll_shared.proofs.levels.Levels.size.Goals as goal

pub returns : goal.returns
returns c = one_shl (2 * c.from.result) 64 (omega (arith, c.from.ensures, c.args.self.few)) ∙ rw c.from.ensures (four_pow c.args.self.count)
