use Rattle.std.proofs.Common.{rules}
use Rattle.ll_policy.specs.Chains.{is_file_in}
use Rattle.ll_policy.proofs.GainLemmas.{closed_there}
use Rattle.ll_policy.proofs.gaining.Beside.gain_at.Goals as goal

pub returns-then-is_closed : goal.returns-then-is_closed
returns-then-is_closed c =
    let s = c.args.self.now in
    closed_there (is_file_in s.files.now) s.old.now s.new.now s.narrow.now c.in_ok-narrow_there.narrow_there.items c.args.directory
    c.open_file-file.result s.are_narrow c.in_ok-narrow_there.ensures (search rules) (search rules)
