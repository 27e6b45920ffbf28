use Rattle.std.proofs.Common.{rules}
use Rattle.ll_rights.proofs.fs.FsRight.name.Goals as goal

pub returns-in-Execute : goal.returns-in-Execute
returns-in-Execute c = search rules

pub returns-in-WriteFile : goal.returns-in-WriteFile
returns-in-WriteFile c = search rules

pub returns-in-Refer : goal.returns-in-Refer
returns-in-Refer c = search rules
