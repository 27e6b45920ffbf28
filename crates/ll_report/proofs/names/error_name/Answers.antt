use Rattle.std.proofs.Common.{rules}
use Rattle.ll_report.proofs.names.error_name.Goals as goal

pub returns-in-Perm : goal.returns-in-Perm
returns-in-Perm c = search rules

pub returns-in-BadFd : goal.returns-in-BadFd
returns-in-BadFd c = search rules

pub returns-in-Acces : goal.returns-in-Acces
returns-in-Acces c = search rules
