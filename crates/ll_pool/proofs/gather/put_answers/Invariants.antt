use Rattle.std.proofs.Common.{◌≡◌, length, drop}
use Rattle.ll_pool.specs.Gathered.{put_all}
use Rattle.ll_pool.proofs.gather.put_answers.Given as goal

-- the parts that are left, put in their places, give what all parts give
abbrev pub invariant-loop-part : goal.invariant-loop-part
invariant-loop-part l = record {
  len : length l.answers.items ≡ length l.initial.answers.items;
  rest : put_all (drop l.part-index l.parts) l.answers.items ≡ put_all l.parts l.initial.answers.items;
}
