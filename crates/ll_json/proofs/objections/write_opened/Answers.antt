use Rattle.std.proofs.Common.{rules}
use Rattle.ll_json.specs.Writing.{writing}
use Rattle.ll_json.proofs.objections.write_opened.Goals as goal

pub path_opened-requires : goal.path_opened-requires
unfolding writing
path_opened-requires c = search rules

pub write_text-requires : goal.write_text-requires
unfolding writing
write_text-requires c = search rules

pub returns : goal.returns
unfolding writing
returns c = search rules
