-- What a program that goes by its kernel's version keeps of a set of rights, as the kernel's document has it: the rights
-- that came with a later version are taken out, and a right of another name, which no version knows, stays.
-- Source: the kernel's userspace document on Landlock, "Defining and enforcing a security policy" and "Compatibility";
-- landlock_create_ruleset(2), whose access rights are bits of a mask.
use Rattle.std.specs.Prelude.{ℕ, ◌-◌, ◌^◌, bit_and, not, filter, bit_or, List, [], ◌∷◌}
use Rattle.ll_rights.specs.declared.abi.Abi.{Abi}
use Rattle.ll_rights.specs.declared.fs.Fs.{Fs}
use Rattle.ll_rights.specs.declared.net.Net.{Net}
use Rattle.ll_rights.specs.Abis.{knows_fs, knows_net}
use Rattle.ll_rights.specs.Rights as files
use Rattle.ll_rights.specs.NetRights as network
use Rattle.ll_rights.specs.Sets.{Row}

-- the bits of some rights
abbrev pub bits_of : {R : Type 0} → (R → Row) → List R → ℕ
bits_of row [] = 0
bits_of row (right ∷ rights) = bit_or (2 ^ (row right).bit) (bits_of row rights)

-- what is left of some bits when others are taken out
abbrev pub bits_without : ℕ → ℕ → ℕ
bits_without bits taken = bits - bit_and bits taken

-- a set without the named rights that a version doesn't know
unfoldable pub supported_fs : Abi → Fs → Fs
supported_fs abi set =
    record { 0 = bits_without set.0 (bits_of files.row (filter (λ right. not (knows_fs abi right)) files.named_rights)) }

unfoldable pub supported_net : Abi → Net → Net
supported_net abi set =
    record { 0 = bits_without set.0 (bits_of network.row (filter (λ right. not (knows_net abi right)) network.named_rights)) }
