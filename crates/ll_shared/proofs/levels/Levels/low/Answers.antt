use Rattle.std.proofs.Common.{◌*◌, arith}
use Rattle.std.proofs.lemmas.Nat.{and_mask}
use Rattle.ll_shared.proofs.Digits.{four_pow, size_pos}
use Rattle.ll_shared.proofs.levels.Levels.low.Goals as goal

pub overflow_sub-result : goal.overflow_sub-result
overflow_sub-result c = omega (arith, c.size.ensures, size_pos c.args.self.count)

pub returns : goal.returns
returns c = rw (c.size.ensures, ← four_pow c.args.self.count) (and_mask c.args.key (2 * c.args.self.count))
