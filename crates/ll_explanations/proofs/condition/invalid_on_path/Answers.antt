use Rattle.std.proofs.Common.{◌≡◌, ◌∙◌, ap}
use Rattle.ll_rights.specs.declared.fs.TheConstants.Fs.{FILE}
use Rattle.ll_rights.specs.Rights as files
use Rattle.ll_reasons.specs.Conditions.{only_for_directories, unhandled, directory_rights}
use Rattle.ll_explanations.specs.Meant.{text_named}
use Rattle.ll_explanations.specs.declared.why.Which.TheVariants.{First}
use Rattle.ll_explanations.specs.Meanings.{condition_in, rights_in}
use Rattle.ll_explanations.proofs.Beyond.{all_within, beyond_is, some_beyond}
use Rattle.ll_explanations.proofs.RightIndices.{is_file, directory_beyond}
use Rattle.ll_explanations.proofs.condition.invalid_on_path.Goals as goal

pub returns-then-is_empty : goal.returns-then-is_empty
unfolding condition_in rights_in files.some_right files.every_right
returns-then-is_empty c op =
    let fs = c.args.fs in
    let rights : rights_in c.beyond.result ≡ directory_rights fs =
    beyond_is files.has c.beyond.result fs FILE c.beyond.ensures files.all_rights ∙ directory_beyond fs FILE is_file in
    ap (λ rs. only_for_directories rs (text_named op First)) rights
    ∙ all_within files.has c.beyond-unhandled.result fs c.args.whole c.beyond-unhandled.ensures files.all_rights
    (only_for_directories (directory_rights fs) (text_named op First)) unhandled c.is_empty.ensures c.if-is_empty.true

pub returns-else-is_empty : goal.returns-else-is_empty
unfolding condition_in rights_in files.some_right files.every_right
returns-else-is_empty c op =
    some_beyond files.has c.beyond-unhandled.result c.args.fs c.args.whole c.beyond-unhandled.ensures files.all_rights
    (only_for_directories (directory_rights c.args.fs) (text_named op First)) unhandled c.is_empty.ensures c.if-is_empty.false
