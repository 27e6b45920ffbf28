use Rattle.std.proofs.Common.{◌≡◌, refl, Some}
use Rattle.ll_rights.specs.declared.abi.Abi.{Abi}
use Rattle.ll_rights.specs.declared.abi.Abi.TheVariants.{V1}
use Rattle.ll_rights.specs.Abis.{all_versions, number_of, version_of}
use Rattle.ll_rights.proofs.laws.numbered_versions.Goals as goal

-- the check stops here at a version that isn't among all
found : (abi : Abi) → version_of (number_of abi) ≡ Some abi
unfolding all_versions
found V1 = refl
found abi = refl

pub returns : goal.returns
unfolding all_versions
returns c = record { numbers = refl; found = found }
