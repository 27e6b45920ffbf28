use Rattle.std.proofs.Common.{◌≡◌, length, arith}
use Rattle.ll_rules.proofs.Marks.{marked_this, marked_still}
use Rattle.ll_rules.proofs.filter.Filter.mark.Goals as goal

pub returns-clause-marked : goal.returns-clause-marked
returns-clause-marked c =
    let whole : length c.args.self.now.words ≡ 64 = omega arith in
    marked_this c.args.self.now.words c.args.number whole

pub returns-clause-kept : goal.returns-clause-kept
returns-clause-kept c =
    let whole : length c.args.self.now.words ≡ 64 = omega arith in
    marked_still c.args.self.now.words c.args.number whole
