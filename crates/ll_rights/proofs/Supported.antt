-- What is supported of sets of rights, from their tables.
use Rattle.std.proofs.Common.{◌≡◌, ◌≤◌, ℕ, true, false, not, ◌&&◌, ◌||◌, leb, List, filter, Option, Some, None, refl, ap, inl, inr, arith}
use Rattle.std.proofs.lemmas.Bool.{cases_Bool, le-leb, leb-true}
use Rattle.ll_rights.specs.declared.abi.Abi.{Abi}
use Rattle.ll_rights.specs.declared.fs.Fs.{Fs}
use Rattle.ll_rights.specs.declared.net.Net.{Net}
use Rattle.ll_rights.specs.Abis.{number_of, is_since, knows_fs, knows_net}
use Rattle.ll_rights.specs.Sets.{Row}
use Rattle.ll_rights.specs.Supported.{bits_of, bits_without, supported_fs, supported_net}
use Rattle.ll_rights.specs.Rights as files
use Rattle.ll_rights.specs.NetRights as network
use Rattle.ll_rights.proofs.Sets.{fs_table, net_table}
use Rattle.ll_rights.proofs.Tables.{IsTable, has-supported, supported-known, supported-lacking, supported-older}

-- what is there at a version is there at a newer one
since_older : (first : Option ℕ) (older newer : Abi) → number_of older ≤ number_of newer → (not (is_since first older) || is_since first newer) ≡ true
since_older None older newer le = refl
since_older (Some first) older newer le = elim (cases_Bool (leb first (number_of older))) [
  | inl there ↦ rw (there, le-leb first (number_of newer) (omega (arith, leb-true first (number_of older) there))) refl
  | inr not_yet ↦ rw not_yet refl
]

-- what an older version keeps of what a newer one left of the bits of a table: it takes out what came later
abbrev lost : {R : Type 0} → (R → Row) → List R → Abi → ℕ
lost row named abi = bits_of row (filter (λ right. not (is_since (row right).since abi)) named)

older_keeps : {R : Type 0} {row : R → Row} {named : List R} {other : R} (is : IsTable row named other) (older newer : Abi)
    → number_of older ≤ number_of newer → (bits : ℕ) → bits_without (bits_without bits (lost row named newer)) (lost row named older)
    ≡ bits_without bits (lost row named older)
older_keeps {row = row} is older newer le bits =
    supported-older is (λ right. is_since (row right).since older) (λ right. is_since (row right).since newer)
    (λ right. since_older (row right).since older newer le) bits

-- ---- what is supported of a set, right by right

pub fs_has-supported : (abi : Abi) (set : Fs) (right : files.FsRight)
    → files.has (supported_fs abi set) right ≡ (files.has set right && (knows_fs abi right || files.is_right right files.other))
unfolding files.has supported_fs
fs_has-supported abi set right = has-supported fs_table (knows_fs abi) set.0 right

pub net_has-supported : (abi : Abi) (set : Net) (right : network.NetRight)
    → network.has (supported_net abi set) right ≡ (network.has set right && (knows_net abi right || network.is_right right network.other))
unfolding network.has supported_net
net_has-supported abi set right = has-supported net_table (knows_net abi) set.0 right

-- ---- nothing is taken out where the version knows what is named

pub fs_supported-known : (abi : Abi) (set : Fs)
    → ((right : files.FsRight) → (files.has set right && not (knows_fs abi right || files.is_right right files.other)) ≡ false) → supported_fs abi set ≡ set
unfolding files.has supported_fs
fs_supported-known abi set known = ap (λ bits. record { 0 = bits }) (supported-known fs_table (knows_fs abi) set.0 known)

pub net_supported-known : (abi : Abi) (set : Net) → ((right : network.NetRight)
    → (network.has set right && not (knows_net abi right || network.is_right right network.other)) ≡ false) → supported_net abi set ≡ set
unfolding network.has supported_net
net_supported-known abi set known = ap (λ bits. record { 0 = bits }) (supported-known net_table (knows_net abi) set.0 known)

-- ---- what an older version supports of what a newer one supports

pub fs_supported-older : (older newer : Abi) (set : Fs) → number_of older ≤ number_of newer
    → supported_fs older (supported_fs newer set) ≡ supported_fs older set
unfolding supported_fs
fs_supported-older older newer set le = ap (λ bits. record { 0 = bits }) (older_keeps fs_table older newer le set.0)

pub net_supported-older : (older newer : Abi) (set : Net) → number_of older ≤ number_of newer
    → supported_net older (supported_net newer set) ≡ supported_net older set
unfolding supported_net
net_supported-older older newer set le = ap (λ bits. record { 0 = bits }) (older_keeps net_table older newer le set.0)

-- ---- the code takes out what the known rights lack of all named ones

pub fs_supported_lacking : (abi : Abi) (known set : Fs) (taken kept : ℕ) → ((right : files.FsRight) → files.has known right ≡ knows_fs abi right) →
    taken ≡ bits_without (bits_of files.row files.named_rights) known.0 → kept ≡ bits_without set.0 taken → record { 0 = kept } ≡ supported_fs abi set
unfolding files.has supported_fs
fs_supported_lacking abi known set taken kept same is_taken is_kept =
    ap (λ bits. record { 0 = bits }) (supported-lacking fs_table (knows_fs abi) known.0 taken set.0 kept (same files.other) same is_taken is_kept)

pub net_supported_lacking : (abi : Abi) (known set : Net) (taken kept : ℕ) → ((right : network.NetRight) → network.has known right ≡ knows_net abi right) →
    taken ≡ bits_without (bits_of network.row network.named_rights) known.0 → kept ≡ bits_without set.0 taken → record { 0 = kept } ≡ supported_net abi set
unfolding network.has supported_net
net_supported_lacking abi known set taken kept same is_taken is_kept =
    ap (λ bits. record { 0 = bits }) (supported-lacking net_table (knows_net abi) known.0 taken set.0 kept (same network.other) same is_taken is_kept)

pub ruleset supported_sets = (fs_has-supported, fs_supported-known, fs_supported-older, net_has-supported, net_supported-known, net_supported-older)
