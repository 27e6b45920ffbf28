use Rattle.std.proofs.Common.{arith, rules}
use Rattle.std.proofs.lemmas.Grind.{common_steps}
use Rattle.ll_json.specs.Writing.{writing}
use Rattle.ll_json.proofs.objections.write_gained.Goals as goal

pub begin_object-requires : goal.begin_object-requires
unfolding writing
begin_object-requires c = search rules

pub write_rights_as-requires : goal.write_rights_as-requires
unfolding writing
write_rights_as-requires c κs = search rules

pub returns : goal.returns
unfolding writing
returns c = grind (arith, common_steps)
