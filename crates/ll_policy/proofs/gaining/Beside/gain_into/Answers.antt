use Rattle.std.proofs.Common.{rules}
use Rattle.ll_policy.specs.Chains.{is_file_in}
use Rattle.ll_policy.proofs.GainLemmas.{not_asked, asked, is_gain}
use Rattle.ll_policy.proofs.gaining.Beside.gain_into.Goals as goal

pub returns-then-not-is_asked : goal.returns-then-not-is_asked
returns-then-not-is_asked c = not_asked (is_file_in c.args.self.now.files.now) c.args.self.now.old.now c.args.self.now.new.now c.args.directory (search rules)

pub returns-in-Some : goal.returns-in-Some
returns-in-Some c =
    is_gain (is_file_in c.args.self.now.files.now) c.args.self.now.new.now c.args.self.now.old.now c.args.directory c.in_ok-gain_at.field-0 c.in-Some.chain
    (asked (is_file_in c.args.self.now.files.now) c.args.self.now.old.now c.args.directory (search rules)) c.in_ok-gain_at.ensures c.in-Some.is
