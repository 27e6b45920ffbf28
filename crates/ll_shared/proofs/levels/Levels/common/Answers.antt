use Rattle.ll_shared.proofs.Digits.{first_few, first_agree, first_differ}
use Rattle.ll_shared.proofs.levels.Levels.common.Goals as goal

pub invariant_of-result : goal.invariant_of-result
invariant_of-result c = record { few = first_few c.args.a c.args.b c.requires c.ranges.a.fits c.ranges.b.fits }

pub returns-clause-agree : goal.returns-clause-agree
returns-clause-agree c = first_agree c.args.a c.args.b c.requires c.ranges.a.fits c.ranges.b.fits

pub returns-clause-differ : goal.returns-clause-differ
returns-clause-differ c = first_differ c.args.a c.args.b c.requires c.ranges.a.fits c.ranges.b.fits
