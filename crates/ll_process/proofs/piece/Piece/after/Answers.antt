-- The process is of the case, and all of its records are answered.
use Rattle.std.proofs.Common.{arith}
use Rattle.ll_process.proofs.Descents.{there_front, answered_front}
use Rattle.ll_process.proofs.Going.{all_answered}
use Rattle.ll_process.proofs.piece.Piece.after.Goals as goal

pub invariant_of-result : goal.invariant_of-result
invariant_of-result c = record {
  there = rw (c.in_ok-append.ensures.items, c.in_ok-push.ensures.items, c.new-processes.ensures.items)
      (there_front c.args.self.case.now c.args.self.processes.items c.args.judged.process c.args.self.there (rw c.requires.its at c.args.judged.there));
  answered =
      let all = all_answered c.args.judged.case.now c.args.judged.process.0 c.args.judged.at c.args.judged.answers.items (omega (arith, c.requires.over))
      c.args.judged.answered in
      rw (
        c.in_ok-append.ensures.items,
        c.in_ok-append-2.ensures.items,
        c.reserve_exact.ensures.items,
        c.in_ok-push.ensures.items,
        c.new-processes.ensures.items,
      )
      (answered_front c.args.self.case.now c.args.self.processes.items c.args.self.answers.items c.args.judged.answers.items c.args.judged.process
      c.args.self.answered (rw c.requires.its at all));
}
