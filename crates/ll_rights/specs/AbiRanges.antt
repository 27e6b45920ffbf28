-- The versions of Landlock's interface that an audit goes over.
-- Source: docs/FORMATS.md, "The command line".
use Rattle.std.specs.Prelude.{◌≤◌, ◌&&◌, Bool, List, Option, Some, None, filter, if◌then◌else◌, nat_le}
use Rattle.ll_rights.specs.declared.abi.Abi.{Abi}
use Rattle.ll_rights.specs.Abis.{all_versions, number_of}

-- neighbouring versions: all from the oldest to the newest
pub record Range : Type 0 where
  pub oldest : Abi
  pub newest : Abi

-- the newest version isn't older than the oldest, so there is a version
abbrev pub IsRising : Range → Type 0
IsRising range = number_of range.oldest ≤ number_of range.newest

-- the range from a version to one that isn't older
abbrev pub range_from : Abi → Abi → Option Range
range_from oldest newest =
    if nat_le (number_of oldest) (number_of newest) then Some (record { oldest = oldest; newest = newest }) else None

-- a version is in a range
abbrev pub is_in : Range → Abi → Bool
is_in range abi = nat_le (number_of range.oldest) (number_of abi) && nat_le (number_of abi) (number_of range.newest)

-- the versions of a range, the oldest first
unfoldable pub versions_in : Range → List Abi
versions_in range = filter (is_in range) all_versions
