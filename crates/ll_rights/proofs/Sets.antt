-- The sets of rights for files and those for the network, from their tables.
use Rattle.std.proofs.Common.{◌≡◌, ◌^◌, ◌<◌, false, ◌||◌, eqb, not, refl, ap, lit≤, bit_and, ℕ, List, Option, map, find}
use Rattle.std.specs.Prelude.{bytes_eq, unwrap_or}
use Rattle.std.specs.Int.{w32, bit_not}
use Rattle.ll_rights.specs.declared.fs.Fs.{Fs}
use Rattle.ll_rights.specs.declared.net.Net.{Net}
use Rattle.ll_rights.specs.declared.fs.FsRight.{FsRight}
use Rattle.ll_rights.specs.declared.fs.FsRight.TheVariants as fs
use Rattle.ll_rights.specs.declared.net.NetRight.{NetRight}
use Rattle.ll_rights.specs.declared.net.NetRight.TheVariants as net
use Rattle.ll_rights.specs.CodeRights.{fs_right, net_right}
use Rattle.ll_rights.specs.Rights as files
use Rattle.ll_rights.specs.NetRights as network
use Rattle.ll_rights.proofs.Bitwise.{has_bit-or}
use Rattle.ll_rights.proofs.Tables.{IsTable, Stands, named_by, has-only, is_empty, is_within, is_lacking}

-- ---- both are tables

fs_each : (right : files.FsRight) → Stands files.row files.named_rights files.other right
unfolding files.named_rights
fs_each files.other = (refl, refl, lit≤ tt)
fs_each right = (refl, refl, lit≤ tt)

pub fs_table : IsTable files.row files.named_rights files.other
unfolding files.named_rights
fs_table = record { numbered = refl; each = fs_each; fits = lit≤ tt }

net_each : (right : network.NetRight) → Stands network.row network.named_rights network.other right
net_each network.other = (refl, refl, lit≤ tt)
net_each right = (refl, refl, lit≤ tt)

pub net_table : IsTable network.row network.named_rights network.other
net_table = record { numbered = refl; each = net_each; fits = lit≤ tt }

-- ---- what the code finds by its name

pub fs_named : (text : List ℕ) (all : List FsRight) (found : Option FsRight) → map fs_right all ≡ files.all_rights →
    found ≡ find (λ right. bytes_eq text (files.name_of (fs_right right))) all
    → files.only (fs_right (unwrap_or found fs.Other)) ≡ files.only (files.right_named text)
unfolding files.right_named
fs_named text all found each is = ap files.only (named_by files.row fs_right fs.Other files.all_rights text all found each is)

pub net_named : (text : List ℕ) (all : List NetRight) (found : Option NetRight) → map net_right all ≡ network.all_rights →
    found ≡ find (λ right. bytes_eq text (network.name_of (net_right right))) all
    → network.only (net_right (unwrap_or found net.Other)) ≡ network.only (network.right_named text)
unfolding network.right_named
net_named text all found each is = ap network.only (named_by network.row net_right net.Other network.all_rights text all found each is)

-- ---- a set of one right has that right and no other

pub fs_has-only : (right one : files.FsRight) → files.has (files.only one) right ≡ files.is_right right one
unfolding files.has files.only
fs_has-only = has-only fs_table

pub net_has-only : (right one : network.NetRight) → network.has (network.only one) right ≡ network.is_right right one
unfolding network.has network.only
net_has-only = has-only net_table

-- ---- a union has what either has

pub fs_has-united : (a b : Fs) (right : files.FsRight) → files.has (files.united a b) right ≡ (files.has a right || files.has b right)
unfolding files.has files.united
fs_has-united a b right = has_bit-or (files.bit_of files.other) a.0 b.0 (files.bit_of right)

pub net_has-united : (a b : Net) (right : network.NetRight) → network.has (network.united a b) right ≡ (network.has a right || network.has b right)
unfolding network.has network.united
net_has-united a b right = has_bit-or (network.bit_of network.other) a.0 b.0 (network.bit_of right)

-- ---- a set without a right is 0

pub fs_is_empty : (set : Fs) → eqb set.0 0 ≡ files.is_empty set
unfolding files.has files.some_right files.all_rights
fs_is_empty set = is_empty fs_table set.0

pub net_is_empty : (set : Net) → eqb set.0 0 ≡ network.is_empty set
unfolding network.has network.some_right network.all_rights
net_is_empty set = is_empty net_table set.0

-- ---- what a set within another and one that lacks something are, bit by bit

pub fs_is_within : (set whole : Fs) → files.has whole files.other ≡ false → eqb (bit_and set.0 whole.0) set.0 ≡ files.is_within set whole
unfolding files.has files.every_right files.all_rights
fs_is_within set whole known = is_within fs_table set.0 whole.0 known

pub net_is_within : (set whole : Net) → network.has whole network.other ≡ false → eqb (bit_and set.0 whole.0) set.0 ≡ network.is_within set whole
unfolding network.has network.every_right network.all_rights
net_is_within set whole known = is_within net_table set.0 whole.0 known

pub fs_is_lacking : (wanted handled granted : Fs) → granted.0 < 2 ^ 32 → files.has handled files.other ≡ false
    → not (eqb (bit_and (bit_and wanted.0 handled.0) (bit_not w32 granted.0)) 0) ≡ files.is_lacking (files.has wanted) (files.has handled) (files.has granted)
unfolding files.has files.some_right files.all_rights
fs_is_lacking wanted handled granted fits known = is_lacking fs_table wanted.0 handled.0 granted.0 fits known

pub net_is_lacking : (wanted handled granted : Net) → granted.0 < 2 ^ 32 → network.has handled network.other ≡ false
    → not (eqb (bit_and (bit_and wanted.0 handled.0) (bit_not w32 granted.0)) 0)
    ≡ network.is_lacking (network.has wanted) (network.has handled) (network.has granted)
unfolding network.has network.some_right network.all_rights
net_is_lacking wanted handled granted fits known = is_lacking net_table wanted.0 handled.0 granted.0 fits known

pub ruleset sets_by_rights = (fs_has-only, fs_has-united, net_has-only, net_has-united)
