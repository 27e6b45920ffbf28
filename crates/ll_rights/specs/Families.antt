-- A family of rights, which those for files are and those for the network: its table, and sets of its rights.
-- Source: the tables of Rights.antt and NetRights.antt.
use Rattle.std.specs.Prelude.{ℕ, bit_and, Bool, List}
use Rattle.ll_rights.specs.declared.abi.Abi.{Abi}
use Rattle.ll_rights.specs.declared.fs.Fs.{Fs}
use Rattle.ll_rights.specs.declared.net.Net.{Net}
use Rattle.ll_rights.specs.Abis.{is_since}
use Rattle.ll_rights.specs.Rights as files
use Rattle.ll_rights.specs.NetRights as network
use Rattle.ll_rights.specs.Sets.{Row, none_of, each_within, some_lacking}
use Rattle.ll_rights.specs.Supported.{bits_of, supported_fs, supported_net}

-- S are the sets, and R the rights; a set is a word of bits
pub record Family (S R : Type 0) : Type 0 where
  pub row : R → Row
  pub other : R
  pub all_rights : List R
  pub right_named : List ℕ → R
  pub word : S → ℕ
  pub set : ℕ → S
  pub has : S → R → Bool
  pub some_right : (R → Bool) → Bool
  pub every_right : (R → Bool) → Bool
  pub only : R → S
  pub united : S → S → S
  pub supported : Abi → S → S

abbrev pub for_files : Family Fs files.FsRight
for_files = record {
  row = files.row;
  other = files.other;
  all_rights = files.all_rights;
  right_named = files.right_named;
  word = λ set. set.0;
  set = λ bits. record { 0 = bits };
  has = files.has;
  some_right = files.some_right;
  every_right = files.every_right;
  only = files.only;
  united = files.united;
  supported = supported_fs;
}

abbrev pub for_network : Family Net network.NetRight
for_network = record {
  row = network.row;
  other = network.other;
  all_rights = network.all_rights;
  right_named = network.right_named;
  word = λ set. set.0;
  set = λ bits. record { 0 = bits };
  has = network.has;
  some_right = network.some_right;
  every_right = network.every_right;
  only = network.only;
  united = network.united;
  supported = supported_net;
}

-- ---- in any family

-- whether a version knows a right
abbrev pub knows : {S R : Type 0} → Family S R → Abi → R → Bool
knows family abi right = is_since (family.row right).since abi

-- the set of some rights
abbrev pub set_of : {S R : Type 0} → Family S R → List R → S
set_of family rights = family.set (bits_of family.row rights)

abbrev pub no_right : {S R : Type 0} → Family S R → S
no_right family = family.set 0

-- a set, and the right that a name stands for
abbrev pub with_name : {S R : Type 0} → Family S R → S → List ℕ → S
with_name family set name = family.united set (family.only (family.right_named name))

-- the rights that both of two sets have
abbrev pub common : {S R : Type 0} → Family S R → S → S → S
common family a b = family.set (bit_and (family.word a) (family.word b))

abbrev pub is_empty : {S R : Type 0} → Family S R → S → Bool
is_empty family set = none_of family.some_right (family.has set)

abbrev pub is_within : {S R : Type 0} → Family S R → S → S → Bool
is_within family set whole = each_within family.every_right (family.has set) (family.has whole)

-- whether some right of a set is handled and not granted
abbrev pub is_lacking : {S R : Type 0} → Family S R → S → S → S → Bool
is_lacking family set handled granted = some_lacking family.some_right (family.has set) (family.has handled) (family.has granted)
