-- A policy's calls put it in force.
use Rattle.std.proofs.Common.{◌≡◌, ℕ, List, None, All}
use Rattle.ll_rights.specs.declared.abi.Abi.{Abi}
use Rattle.ll_tree.specs.Trees.{Entry}
use Rattle.ll_semantics.specs.Worlds.{World}
use Rattle.ll_fitting.specs.Written.{Layer}
use Rattle.ll_fitting.specs.Fitting.{Fitted, fitted}
use Rattle.ll_fitting.specs.Misfits.{misfit}
use Rattle.ll_fitting.specs.Taken.{IsValid}
use Rattle.ll_fitting.proofs.Left.{all_valid}
use Rattle.ll_enforcing.specs.Answered.{IsListed, MayEnforce, IsEnforced}
use Rattle.ll_enforcing.proofs.OneLayer.{IsSound}
use Rattle.ll_enforcing.proofs.AllLayers.{enforced}

module _ (tree : List Entry) (missing : List ℕ) (rs : ℕ) (abi : Abi) where
  sound : (left : Fitted) → IsValid abi left → All (λ rule. IsListed tree rule.parent) left.path_rules → IsSound tree abi missing rs left
  sound left valid listed = record {
    faultless = valid.created;
    paths = λ k d less. record { some = (valid.paths k d less).0; within = (valid.paths k d less).1; listed = listed k d less };
    ports = λ k d less. let fits = valid.ports k d less in record { known = fits.0; some = fits.1; within = fits.2; small = fits.3 };
  }

  pub puts_in_force : (policy : List Layer) (process : ℕ) (w : World) → misfit policy ≡ None → MayEnforce tree missing rs process (fitted abi policy) w
      → IsEnforced tree missing rs abi process (fitted abi policy) w
  puts_in_force policy process w fits may =
      enforced tree abi missing rs process (fitted abi policy) w may
      (λ k d less. sound _ (all_valid abi policy fits k d less) (may.listed k d less))
