use Rattle.std.proofs.Common.{rules}
use Rattle.ll_explanations.specs.Meanings.{explanation_in}
use Rattle.ll_json.specs.Records.{why_members}
use Rattle.ll_json.specs.Writing.{writing}
use Rattle.ll_json.proofs.answers.write_why.Goals as goal

pub returns : goal.returns
unfolding writing why_members explanation_in
returns c = search rules

pub returns-in-Mootness-Some : goal.returns-in-Mootness-Some
unfolding writing why_members explanation_in
returns-in-Mootness-Some c = search rules

pub returns-in-Failure : goal.returns-in-Failure
unfolding writing why_members explanation_in
returns-in-Failure c = search rules
