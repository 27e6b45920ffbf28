use Rattle.std.proofs.Common.{◌≡◌, length}
use Rattle.std.specs.Vec.Iter.{into_iter_items}
use Rattle.ll_pool.specs.Gathered.{ArePiecesOf, put_all, answers_of_pieces}
use Rattle.ll_pool.proofs.gather.assemble.Given as goal

-- the answers of the pieces that are left, put in their places, give what those of all pieces give
abbrev pub invariant-loop-piece : goal.invariant-loop-piece
invariant-loop-piece l = record {
  len : length l.answers.items ≡ length l.case.records;
  same : length l.initial.answers.items ≡ length l.case.records;
  of_case : ArePiecesOf l.case (into_iter_items l.piece-iterator);
  left : put_all (answers_of_pieces (into_iter_items l.piece-iterator)) l.answers.items
      ≡ put_all (answers_of_pieces l.fn.pieces.items) l.initial.answers.items;
}
