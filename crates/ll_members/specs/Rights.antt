-- The sets of rights that a list of names stands for.
-- Source: docs/FORMATS.md, "The trace file".
use Rattle.std.specs.Prelude.{ℕ, List, codes, Result}
use Rattle.serde_json.specs.Data.{Data}
use Rattle.ll_rights.specs.declared.fs.Fs.{Fs}
use Rattle.ll_rights.specs.declared.net.Net.{Net}
use Rattle.ll_rights.specs.Rights as files
use Rattle.ll_rights.specs.NetRights as network
use Rattle.ll_lines.specs.declared.fault.Cause.{Cause}
use Rattle.ll_lines.specs.Members.{items_at, fold_texts, ◌>>=◌}

-- the texts of a member that is a list, put together one after another
abbrev pub texts_at : {Whole : Type 0} → List ℕ → (Whole → List ℕ → Whole) → Whole → Data → Result Whole Cause
texts_at name add whole value = do
  names ← items_at name value
  fold_texts add whole names

-- a set, and the right for files that a name stands for
abbrev pub with_fs : Fs → List ℕ → Fs
with_fs set name = files.united set (files.only (files.right_named name))

unfoldable pub fs_at : Data → Result Fs Cause
fs_at value = texts_at (codes "fs") with_fs files.no_right value

-- the same of the rights for the network
abbrev pub with_net : Net → List ℕ → Net
with_net set name = network.united set (network.only (network.right_named name))

unfoldable pub net_at : Data → Result Net Cause
net_at value = texts_at (codes "net") with_net network.no_right value
