-- Groups of rights: sets of rights with one name.
-- Source: docs/POLICIES.md.
use Rattle.std.specs.Prelude.{ℕ, List, [], ◌∷◌, not, filter, codes, Option, Some, None, option_map, if◌then◌else◌}
use Rattle.std.specs.List.{list_any}
use Rattle.std.specs.Str.{bytes_eq}
use Rattle.ll_rights.specs.Rights as files
use Rattle.ll_rights.specs.Rights.{FsRight, execute, read_file, read_dir}
use Rattle.ll_rights.specs.NetRights as network
use Rattle.ll_rights.specs.Families.{Family, set_of}

-- all rights that don't only read or execute
abbrev pub writing_rights : List FsRight
writing_rights = filter (λ right. not (list_any (files.is_right right) (execute ∷ read_file ∷ read_dir ∷ []))) files.named_rights

-- the rights of a group, by its name
unfoldable pub group_named : List ℕ → Option (List FsRight)
group_named word =
    if bytes_eq word (codes "all") then Some files.named_rights
    else if bytes_eq word (codes "read") then Some (read_file ∷ read_dir ∷ [])
    else if bytes_eq word (codes "write") then Some writing_rights
    else if bytes_eq word (codes "execute") then Some (execute ∷ [])
    else None

unfoldable pub group_on_ports : List ℕ → Option (List network.NetRight)
group_on_ports word = if bytes_eq word (codes "all") then Some network.named_rights else None

-- the set of the rights of a group
abbrev pub group_of : {S R : Type 0} → Family S R → (List ℕ → Option (List R)) → List ℕ → Option S
group_of family rights_of word = option_map (set_of family) (rights_of word)
