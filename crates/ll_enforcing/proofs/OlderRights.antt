-- The rights that an older version leaves of a rule, and what best effort takes out of those that a newer one left.
use Rattle.std.proofs.Common.{◌≡◌, ℕ, ◌≤◌, true, false, not, sym, ap, ◌∙◌}
use Rattle.std.proofs.Common.{inl, inr, bit_and}
use Rattle.std.specs.Int.Bits.{and_zero_r}
use Rattle.std.proofs.lemmas.Bool.{eqb-true, eq-eqb, cases_Bool, and_left}
use Rattle.ll_rights.specs.declared.abi.Abi.{Abi}
use Rattle.ll_rights.specs.declared.fs.Fs.{Fs}
use Rattle.ll_rights.specs.declared.net.Net.{Net}
use Rattle.ll_rights.specs.Abis.{number_of}
use Rattle.ll_rights.specs.Supported.{supported_fs, supported_net}
use Rattle.ll_rights.specs.Rights as files
use Rattle.ll_rights.specs.NetRights as network
use Rattle.ll_rights.proofs.Bitwise.{any_none, zero_bit}
use Rattle.ll_rights.proofs.Sets.{fs_is_empty, net_is_empty, fs_is_within}
use Rattle.ll_rights.proofs.Supported.{fs_has-supported, net_has-supported, fs_supported-older}
use Rattle.ll_fitting.specs.declared.written.PathRule.{PathRule}
use Rattle.ll_fitting.specs.declared.written.Parent.{Parent}
use Rattle.ll_fitting.specs.declared.written.Parent.TheVariants.{There, Missing}
use Rattle.ll_rights.specs.Families.{for_files, common}
use Rattle.ll_fitting.specs.Written.{Layer, listed}
use Rattle.ll_fitting.specs.Fitting.{left_of, rights_on_kind, rights_at}

-- ---- sets, right by right

pub no_right_has : (set : Fs) → ((right : files.FsRight) → files.has set right ≡ false) → files.is_empty set ≡ true
unfolding files.some_right
no_right_has set none = ap not (any_none (files.has set) none files.all_rights)

-- a set without a right is the word 0
pub is_zero : (set : Fs) → files.is_empty set ≡ true → set.0 ≡ 0
is_zero set empty = eqb-true set.0 0 (fs_is_empty set ∙ empty)

pub net_is_zero : (set : Net) → network.is_empty set ≡ true → set.0 ≡ 0
net_is_zero set empty = eqb-true set.0 0 (net_is_empty set ∙ empty)

pub has_none : (set : Fs) (right : files.FsRight) → files.is_empty set ≡ true → files.has set right ≡ false
unfolding files.has
has_none set right empty = rw (is_zero set empty) (zero_bit (files.bit_of files.other) (files.bit_of right))

-- nothing is left of nothing
pub supported_nothing : (abi : Abi) (set : Fs) → files.is_empty set ≡ true → files.is_empty (supported_fs abi set) ≡ true
supported_nothing abi set empty =
    no_right_has (supported_fs abi set) (λ right. fs_has-supported abi set right ∙ and_left (files.has set right) _ (has_none set right empty))

-- ---- what best effort makes of the rights of a rule

nothing_supported : (abi : Abi) → supported_fs abi files.no_right ≡ files.no_right
unfolding files.has
nothing_supported abi =
    ap (λ (n : ℕ). record { 0 = n }) (is_zero (supported_fs abi files.no_right) (supported_nothing abi files.no_right
    (no_right_has files.no_right (λ right. zero_bit (files.bit_of files.other) (files.bit_of right)))))

-- an older version leaves what best effort keeps of the rights that a newer one left
pub older_rights : (older newer : Abi) → number_of older ≤ number_of newer → (layer : Layer) (rule : PathRule) (parent : Parent)
    → supported_fs older (rights_at newer layer rule parent) ≡ rights_at older layer rule parent
unfolding rights_on_kind left_of
older_rights older newer le layer rule (There object kind) = fs_supported-older older newer (common for_files _ (listed for_files layer.handled_files)) le
older_rights older newer le layer rule Missing = elim (cases_Bool rule.included) [
  | inl is ↦ rw is (nothing_supported older)
  | inr is ↦ rw is (fs_supported-older older newer (common for_files (listed for_files rule.allowed) (listed for_files layer.handled_files)) le)
]

-- nothing is within nothing but nothing
pub within_nothing : (rights handled : Fs) → files.has handled files.other ≡ false → files.is_within rights handled ≡ true → files.is_empty handled ≡ true
    → files.is_empty rights ≡ true
within_nothing rights handled known within empty =
    let both : bit_and rights.0 handled.0 ≡ rights.0 = eqb-true (bit_and rights.0 handled.0) rights.0 (fs_is_within rights handled known ∙ within) in
    let zero_word : rights.0 ≡ 0 = sym both ∙ ap (λ (n : ℕ). bit_and rights.0 n) (is_zero handled empty) ∙ and_zero_r rights.0 in
    sym (fs_is_empty rights) ∙ eq-eqb rights.0 0 zero_word

net_has_none : (set : Net) (right : network.NetRight) → network.is_empty set ≡ true → network.has set right ≡ false
unfolding network.has
net_has_none set right empty = rw (net_is_zero set empty) (zero_bit (network.bit_of network.other) (network.bit_of right))

pub net_supported_nothing : (abi : Abi) (set : Net) → network.is_empty set ≡ true → network.is_empty (supported_net abi set) ≡ true
unfolding network.some_right
net_supported_nothing abi set empty =
    ap not (any_none (network.has (supported_net abi set))
    (λ right. net_has-supported abi set right ∙ and_left (network.has set right) _ (net_has_none set right empty)) network.all_rights)
