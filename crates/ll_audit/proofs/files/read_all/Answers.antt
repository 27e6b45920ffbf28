use Rattle.std.proofs.Common.{rules}
use Rattle.ll_audit.proofs.files.read_all.Goals as goal

pub returns-in_err-read_to_end : goal.returns-in_err-read_to_end
returns-in_err-read_to_end g c = search rules

pub returns-then-len-gt-LARGEST_FILE : goal.returns-then-len-gt-LARGEST_FILE
returns-then-len-gt-LARGEST_FILE g c = search rules

pub returns : goal.returns
returns g c = search rules
