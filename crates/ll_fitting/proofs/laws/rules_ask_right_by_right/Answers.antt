use Rattle.ll_fitting.proofs.RightByRight.{on_directories, on_files, on_files_whole, on_nothing, on_ports}
use Rattle.ll_fitting.proofs.laws.rules_ask_right_by_right.Goals as goal

pub returns-clause-directory : goal.returns-clause-directory
returns-clause-directory c = on_directories

pub returns-clause-file : goal.returns-clause-file
returns-clause-file c = on_files

pub returns-clause-whole : goal.returns-clause-whole
returns-clause-whole c = on_files_whole

pub returns-clause-missing : goal.returns-clause-missing
returns-clause-missing c = on_nothing

pub returns-clause-port : goal.returns-clause-port
returns-clause-port c = on_ports
