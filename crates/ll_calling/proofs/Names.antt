-- The names of the rights of a set are those that pass a test, where both say the same of each right.
use Rattle.std.proofs.Common.{◌≡◌, Bool, false, List, [], ◌∷◌, refl, ap, Option, Some, None}
use Rattle.std.specs.Prelude.{unwrap_or}
use Rattle.std.specs.Option.{option_map}
use Rattle.json.specs.Json.{array}
use Rattle.ll_rights.specs.Families.{Family, for_files, for_network, set_of, no_right}
use Rattle.ll_rights.specs.Rights as files
use Rattle.ll_rights.specs.NetRights as network
use Rattle.ll_rights.proofs.Bitwise.{zero_bit}
use Rattle.ll_calling.specs.Texts.{name_items, names_json, rights_in}

module _ {S R : Type 0} (family : Family S R) where
  items_same : (test other : R → Bool) → ((right : R) → test right ≡ other right) → (rights : List R)
      → name_items family test rights ≡ name_items family other rights
  unfolding name_items
  items_same test other same [] = refl
  items_same test other same (right ∷ rights) = rw (same right, items_same test other same rights) refl

  pub names_same : (test other : R → Bool) → ((right : R) → test right ≡ other right) → names_json family test ≡ names_json family other
  names_same test other same = ap array (items_same test other same family.all_rights)

  -- no right, where there is no group
  names_in : ((right : R) → family.has (no_right family) right ≡ false) → (group : Option (List R))
      → names_json family (family.has (unwrap_or (option_map (set_of family) group) (no_right family))) ≡ names_json family (rights_in family group)
  names_in none None = names_same (family.has (no_right family)) (λ right. false) none
  names_in none (Some rights) = refl

pub group_names : (group : Option (List files.FsRight))
    → names_json for_files (files.has (unwrap_or (option_map (set_of for_files) group) files.no_right)) ≡ names_json for_files (rights_in for_files group)
unfolding files.has
group_names = names_in for_files (λ right. zero_bit (files.bit_of files.other) (files.bit_of right))

pub port_group_names : (group : Option (List network.NetRight)) → names_json for_network
    (network.has (unwrap_or (option_map (set_of for_network) group) network.no_right)) ≡ names_json for_network (rights_in for_network group)
unfolding network.has
port_group_names = names_in for_network (λ right. zero_bit (network.bit_of network.other) (network.bit_of right))
