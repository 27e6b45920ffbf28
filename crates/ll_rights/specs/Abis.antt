-- The versions of Landlock's interface, and the rights that each knows.
-- Source: landlock(7), "VERSIONS"; the kernel's userspace document on Landlock, "Compatibility".
use Rattle.std.specs.Prelude.{ℕ, Bool, false, nat_le, List, [], ◌∷◌, Option, Some, None, ◌==◌, find}
use Rattle.ll_rights.specs.declared.abi.Abi.{Abi}
use Rattle.ll_rights.specs.declared.abi.Abi.TheVariants.{V1, V2, V3, V4, V5}
use Rattle.ll_rights.specs.Rights as files
use Rattle.ll_rights.specs.NetRights as network

-- the number of a version
abbrev pub number_of : Abi → ℕ
number_of V1 = 1
number_of V2 = 2
number_of V3 = 3
number_of V4 = 4
number_of V5 = 5

-- all versions, the oldest first
unfoldable pub all_versions : List Abi
all_versions = V1 ∷ V2 ∷ V3 ∷ V4 ∷ V5 ∷ []

-- the version of a number
abbrev pub version_of : ℕ → Option Abi
version_of number = find (λ abi. number_of abi == number) all_versions

-- whether what came with one version is there at another
abbrev pub is_since : Option ℕ → Abi → Bool
is_since None abi = false
is_since (Some first) abi = nat_le first (number_of abi)

-- whether a version knows a right for files
abbrev pub knows_fs : Abi → files.FsRight → Bool
knows_fs abi right = is_since (files.row right).since abi

-- whether a version knows a right for the network
abbrev pub knows_net : Abi → network.NetRight → Bool
knows_net abi right = is_since (network.row right).since abi
