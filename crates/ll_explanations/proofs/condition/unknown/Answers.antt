use Rattle.std.proofs.Common.{◌∙◌, ap}
use Rattle.ll_rights.specs.Rights as files
use Rattle.ll_reasons.specs.Conditions.{unknown}
use Rattle.ll_explanations.specs.Meanings.{condition_in, rights_in}
use Rattle.ll_explanations.proofs.Beyond.{beyond_is}
use Rattle.ll_explanations.proofs.RightIndices.{unknown_beyond}
use Rattle.ll_explanations.proofs.condition.unknown.Goals as goal

pub returns : goal.returns
unfolding condition_in rights_in
returns c op = ap (unknown c.args.abi) (beyond_is files.has c.beyond.result c.args.fs c.fs.result c.beyond.ensures files.all_rights
    ∙ unknown_beyond c.args.abi c.args.fs c.fs.result c.fs.ensures)
