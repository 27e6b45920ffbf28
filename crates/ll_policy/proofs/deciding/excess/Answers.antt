use Rattle.std.proofs.Common.{rules}
use Rattle.ll_policy.specs.Chains.{is_file_in}
use Rattle.ll_policy.proofs.Exactly.{always_lets, holds, exceeds}
use Rattle.ll_policy.proofs.deciding.excess.Goals as goal

pub returns-then-lets : goal.returns-then-lets
returns-then-lets c = always_lets (is_file_in c.args.files.now) c.args.always.now c.args.old.now c.args.new.now (search rules)

pub returns-then-is_closed : goal.returns-then-is_closed
returns-then-is_closed c = holds (is_file_in c.args.files.now) c.args.always.now c.args.old.now c.args.new.now (search rules) (search rules)

pub returns : goal.returns
returns c =
    exceeds (is_file_in c.args.files.now) c.args.always.now c.open_file-file.result c.args.old.now c.args.new.now c.in_ok-chain.chain.items
    c.requires (search rules) (search rules) (search rules) (search rules)
