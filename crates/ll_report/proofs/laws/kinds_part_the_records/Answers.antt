use Rattle.ll_report.proofs.KindsParted.{parted}
use Rattle.ll_report.proofs.laws.kinds_part_the_records.Goals as goal

pub returns : goal.returns
returns c = parted
