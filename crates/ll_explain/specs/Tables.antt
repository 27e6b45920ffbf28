-- The words for the rights of a set are those for the rights of its table that it has.
-- Source: landlock(7), "Filesystem actions"; the kernel's userspace document on Landlock, "Network flags".
use Rattle.std.proofs.Common.{◌≡◌, refl}
use Rattle.std.specs.Prelude.{filter}
use Rattle.ll_rights.specs.declared.fs.Fs.{Fs}
use Rattle.ll_rights.specs.declared.net.Net.{Net}
use Rattle.ll_rights.specs.Rights as files
use Rattle.ll_rights.specs.NetRights as network
use Rattle.ll_explanations.specs.Meanings.{port_rights_in, rights_in}
use Rattle.ll_explain.specs.Words.{words_of}

pub file_words : (set : Fs) → words_of files.name_of (filter (files.has set) files.all_rights) ≡ words_of files.name_of (rights_in set)
unfolding rights_in
file_words set = refl

pub port_words : (set : Net) → words_of network.name_of (filter (network.has set) network.all_rights) ≡ words_of network.name_of (port_rights_in set)
unfolding port_rights_in
port_words set = refl
