use Rattle.std.proofs.Common.{rules}
use Rattle.ll_rights.proofs.Supported.{fs_supported_lacking}
use Rattle.ll_rights.specs.Rights.{named_rights}
use Rattle.ll_rights.proofs.fs.FsRightSet.supported.Goals as goal

pub fs-requires : goal.fs-requires
unfolding named_rights
fs-requires c = search (rules, fs_supported_lacking)

pub without-requires : goal.without-requires
unfolding named_rights
without-requires c = search (rules, fs_supported_lacking)

pub returns : goal.returns
unfolding named_rights
returns c = search (rules, fs_supported_lacking)
