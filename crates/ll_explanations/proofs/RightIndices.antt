-- The rights of a table by their indices in it, and the code's list of them.
use Rattle.std.proofs.Common.{◌≡◌, ◌∙◌, ℕ, ◌+◌, ◌<◌, List, length, map, get_or, refl, sym, ap, arith}
use Rattle.std.specs.Prelude.{not, ◌&&◌}
use Rattle.std.specs.List.{range_with_len}
use Rattle.std.proofs.lemmas.List.{get_or-map, length-map}
use Rattle.std.proofs.lemmas.List.FromFn.{get_or-map-range_with_len}
use Rattle.std.proofs.lemmas.List.Elements.{filter_agree}
use Rattle.ll_rights.specs.declared.abi.Abi.{Abi}
use Rattle.ll_rights.specs.declared.fs.Fs.{Fs}
use Rattle.ll_rights.specs.declared.fs.FsRight.{FsRight}
use Rattle.ll_rights.specs.declared.fs.FsRight.TheVariants as code
use Rattle.ll_rights.specs.Abis.{knows_fs}
use Rattle.ll_rights.specs.CodeRights.{fs_right}
use Rattle.ll_reasons.specs.Conditions.{directory_rights, rights_beyond, unknown_rights}
use Rattle.ll_rights.specs.Rights as files
use Rattle.ll_rights.specs.declared.fs.TheConstants.Fs.{FILE}

-- each right is at the index of its bit
numbered : {R : Type 0} (bit_of : R → ℕ) (rights : List R) (none : R) (count : ℕ) → length rights ≡ count
    → map bit_of rights ≡ map (λ n. n) (range_with_len 0 count) →
    (index : ℕ) → index < count → bit_of (get_or rights index none) ≡ index
numbered bit_of rights none count counted same index there =
    let within : index < length rights = omega (arith, counted) in
    let zero_more : 0 + index ≡ index = omega arith in
    sym (get_or-map bit_of rights index none 0 within) ∙ ap (λ ns. get_or ns index 0) same
    ∙ get_or-map-range_with_len (λ n. n) 0 count index index 0 there zero_more

bit_of-at : (index : ℕ) → index < length files.all_rights → files.bit_of (get_or files.all_rights index files.other) ≡ index
unfolding files.all_rights files.named_rights
bit_of-at index there = numbered files.bit_of files.all_rights files.other (length files.all_rights) refl refl index there

-- ---- the code's list of rights is the table

module _ {D R : Type 0} (right_of : D → R) (items : List D) (rights : List R) (is : map right_of items ≡ rights) where
  pub same_length : length items ≡ length rights
  same_length = sym (length-map items right_of) ∙ ap length is

  pub item_at : (first : D) (none : R) (index : ℕ) → index < length items → right_of (get_or items index first) ≡ get_or rights index none
  item_at first none index there = sym (get_or-map right_of items index first none there) ∙ ap (λ rs. get_or rs index none) is

-- the bit of each of the code's rights is its index
pub bit_of-item : (items : List FsRight) → map fs_right items ≡ files.all_rights → (index : ℕ) → index < length items
    → files.bit_of (fs_right (get_or items index code.Execute)) ≡ index
bit_of-item items listed index within =
    ap files.bit_of (item_at fs_right items files.all_rights listed code.Execute files.other index within)
    ∙ bit_of-at index (omega (arith, within, same_length fs_right items files.all_rights listed))

-- the rights that a version doesn't know are those beyond the set of all that it knows
pub unknown_beyond : (abi : Abi) (wanted known : Fs) → ((right : files.FsRight) → files.has known right ≡ knows_fs abi right)
    → rights_beyond wanted known ≡ unknown_rights abi wanted
unknown_beyond abi wanted known same =
    filter_agree (λ right. files.has wanted right && not (files.has known right)) (λ right. files.has wanted right && not (knows_fs abi right))
    (λ right. ap (λ b. files.has wanted right && not b) (same right)) files.all_rights

-- the rights for directories alone are those beyond the set of those that files have too
pub directory_beyond : (wanted file : Fs) → ((right : files.FsRight) → files.has file right ≡ files.is_file_right right)
    → rights_beyond wanted file ≡ directory_rights wanted
directory_beyond wanted file same =
    filter_agree (λ right. files.has wanted right && not (files.has file right)) (λ right. files.has wanted right && not (files.is_file_right right))
    (λ right. ap (λ b. files.has wanted right && not b) (same right)) files.all_rights

pub is_file : (right : files.FsRight) → files.has FILE right ≡ files.is_file_right right
unfolding files.has
is_file files.other = refl
is_file right = refl
