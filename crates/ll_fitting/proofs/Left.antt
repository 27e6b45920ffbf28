-- What a version leaves of a policy, the kernel takes.
use Rattle.std.proofs.Common.{◌≡◌, ℕ, Bool, true, false, not, ◌&&◌, ◌||◌, List, [], ◌∷◌, length, Option, Some, None, refl, sym, ap, ◌∙◌}
use Rattle.std.proofs.Common.{if◌then◌else◌, nat_lt, All, inl, inr}
use Rattle.std.specs.Prelude.{option_map, ◌==◌}
use Rattle.std.specs.List.{flat_map, enumerate_from}
use Rattle.std.specs.Option.{option_or}
use Rattle.std.proofs.lemmas.List.Elements.{All-nil, All-head, All-tail, All-cons, All-append}
use Rattle.std.proofs.lemmas.Bool.{cases_Bool, true≢false, false≢true, and_right, and_left, and_from}
use Rattle.ll_rights.specs.declared.abi.Abi.{Abi}
use Rattle.ll_rights.specs.declared.fs.Fs.{Fs}
use Rattle.ll_rights.specs.declared.net.Net.{Net}
use Rattle.ll_rights.specs.declared.net.TheConstants.{LARGEST_PORT}
use Rattle.ll_rights.specs.Abis.{knows_net}
use Rattle.ll_rights.specs.Families.{for_files, for_network, common}
use Rattle.ll_rights.specs.Supported.{supported_fs, supported_net}
use Rattle.ll_rights.specs.Rights as files
use Rattle.ll_rights.specs.NetRights as network
use Rattle.ll_rights.proofs.Supported.{net_has-supported}
use Rattle.ll_rights.proofs.Bitwise.{zero_bit, any_none}
use Rattle.ll_rules.specs.Rulesets.{create_fault, has_ports, knows_all}
use Rattle.ll_rules.specs.declared.errno.Errno.TheVariants.{Inval, NoMsg, TooBig}
use Rattle.ll_fitting.specs.declared.written.PathRule.{PathRule}
use Rattle.ll_fitting.specs.declared.written.PortRule.{PortRule}
use Rattle.ll_fitting.specs.declared.written.Parent.{Parent}
use Rattle.ll_fitting.specs.declared.written.Parent.TheVariants.{There, Missing}
use Rattle.ll_fitting.specs.declared.fitting.FittedPathRule.{FittedPathRule}
use Rattle.ll_fitting.specs.declared.fitting.FittedPortRule.{FittedPortRule}
use Rattle.ll_fitting.specs.declared.policy.TheConstants.{MOST_LAYERS}
use Rattle.ll_fitting.specs.declared.policy.RuleMisfit.{RuleMisfit}
use Rattle.ll_fitting.specs.declared.policy.RuleMisfit.TheVariants as misfit
use Rattle.ll_fitting.specs.declared.policy.Misfit.{Misfit}
use Rattle.ll_fitting.specs.declared.policy.Misfit.TheVariants as wrong
use Rattle.ll_fitting.specs.Written.{Layer, listed}
use Rattle.ll_fitting.specs.Fitting.{left_of, rights_on_kind, rights_at, rights_on_port, fitted_path_rule, fitted_port_rule, fitted_path_rules}
use Rattle.ll_fitting.specs.Fitting.{fitted_port_rules, handled_at, handled_files, handled_network, fitted_if_any, fitted}
use Rattle.ll_fitting.specs.Misfits as misfits
use Rattle.ll_fitting.specs.Taken.{IsValid}
use Rattle.ll_fitting.proofs.Families.{file_sets, port_sets, each, both, within, knows_supported}

pub nothing_within : (whole : Fs) → files.is_within files.no_right whole ≡ true
unfolding files.has
nothing_within whole =
    each file_sets (λ right. not (files.has files.no_right right) || files.has whole right)
    (λ right. rw (zero_bit (files.bit_of files.other) (files.bit_of right)) refl)

-- ---- versions without rules for ports

or_false : (a : Bool) → a ≡ false → (a || false) ≡ false
or_false false is = refl
or_false true is = absurd (cc)

unsupported : (abi : Abi) (set : Net) (right : network.NetRight) → network.has set network.other ≡ false → has_ports abi ≡ false
    → network.has (supported_net abi set) right ≡ false
unsupported abi set network.other known old =
    net_has-supported abi set network.other ∙ and_left (network.has set network.other) (knows_net abi network.other || true) known
unsupported abi set network.bind_tcp known old =
    net_has-supported abi set network.bind_tcp ∙ and_right (network.has set network.bind_tcp) (has_ports abi || false) (or_false (has_ports abi) old)
unsupported abi set network.connect_tcp known old =
    net_has-supported abi set network.connect_tcp ∙ and_right (network.has set network.connect_tcp) (has_ports abi || false) (or_false (has_ports abi) old)

none_supported : (abi : Abi) (set : Net) → network.has set network.other ≡ false → has_ports abi ≡ false → network.is_empty (supported_net abi set) ≡ true
unfolding network.some_right
none_supported abi set known old =
    ap not (any_none (network.has (supported_net abi set)) (λ right. unsupported abi set right known old) network.all_rights)

-- where something is supported, there are rules for ports
ports_there : (abi : Abi) (set : Net) → network.has set network.other ≡ false → network.is_empty (supported_net abi set) ≡ false → has_ports abi ≡ true
ports_there abi set known some = elim (cases_Bool (has_ports abi)) [
  | inl there ↦ there
  | inr old ↦ absurd (true≢false (sym (none_supported abi set known old) ∙ some))
]

-- ---- a ruleset is created

faultless : (longer known nothing : Bool) → longer ≡ false → known ≡ true → nothing ≡ false
    → (if longer then Some TooBig else (if not known then Some Inval else (if nothing then Some NoMsg else None))) ≡ None
faultless false true false a b c = refl
faultless true known nothing a b c = absurd (cc)
faultless false false nothing a b c = absurd (cc)
faultless false true true a b c = absurd (cc)

longer : (empty ports : Bool) → (empty ≡ false → ports ≡ true) → (not empty && not ports) ≡ false
longer true ports is = refl
longer false true is = refl
longer false false is = absurd (false≢true (is refl))

pub created : (abi : Abi) (layer : Layer) → files.has (listed for_files layer.handled_files) files.other ≡ false →
    network.has (listed for_network layer.handled_network) network.other ≡ false →
    (files.is_empty (handled_files abi layer) && network.is_empty (handled_network abi layer)) ≡ false
    → create_fault abi (handled_files abi layer) (handled_network abi layer) ≡ None
unfolding handled_at
created abi layer known known_on_ports some =
    let on_files : Fs = supported_fs abi (listed for_files layer.handled_files) in
    let on_ports : Net = supported_net abi (listed for_network layer.handled_network) in
    faultless (not (network.is_empty on_ports) && not (has_ports abi)) (knows_all abi on_files on_ports) (files.is_empty on_files && network.is_empty on_ports)
    (longer (network.is_empty on_ports) (has_ports abi) (ports_there abi (listed for_network layer.handled_network) known_on_ports))
    (and_from _ _ (knows_supported file_sets abi (listed for_files layer.handled_files) known)
    (knows_supported port_sets abi (listed for_network layer.handled_network) known_on_ports)) some

-- ---- lists

pub all_if : {X : Type 0} (P : X → Type 0) (b : Bool) (x : X) → (b ≡ false → P x) → All P (if b then [] else x ∷ [])
all_if P true x holds = All-nil P
all_if P false x holds = All-cons P x [] (holds refl) (All-nil P)

pub all_flat : {X A : Type 0} (Q : X → Type 0) (P : A → Type 0) (f : X → List A) → ((x : X) → Q x → All P (f x)) → (xs : List X) → All Q xs
    → All P (flat_map f xs)
all_flat Q P f each [] all = All-nil P
all_flat Q P f each (x ∷ xs) all =
    All-append P (f x) (flat_map f xs) (each x (All-head Q x xs all)) (all_flat Q P f each xs (All-tail Q x xs all))

pub none_or : {M : Type 0} (a b : Option M) → option_or a b ≡ None → (a ≡ None) × (b ≡ None)
none_or None b is = (refl, is)
none_or (Some m) b is = absurd (cc)

pub none_told : {X M : Type 0} (tell : X → Option M) (xs : List X) → misfits.first_of tell xs ≡ None → All (λ x. tell x ≡ None) xs
unfolding misfits.first_of
none_told tell [] is = All-nil (λ x. tell x ≡ None)
none_told tell (x ∷ xs) is =
    let parts = none_or (tell x) (misfits.first_of tell xs) is in
    All-cons (λ x. tell x ≡ None) x xs parts.0 (none_told tell xs parts.1)

-- ---- rules for files

module _ (abi : Abi) (layer : Layer) (known : files.has (listed for_files layer.handled_files) files.other ≡ false) where
  abbrev pub IsHandled : Fs → Type 0
  IsHandled rights = files.is_within rights (handled_files abi layer) ≡ true

  pub left_within : (rights : Fs) → IsHandled (left_of for_files abi layer.handled_files rights)
  unfolding left_of handled_at
  left_within rights = within file_sets abi rights (listed for_files layer.handled_files) known

  either : (b : Bool) (x y : Fs) → IsHandled x → IsHandled y → IsHandled (if b then x else y)
  either true x y first second = first
  either false x y first second = second

  pub on_within : (rule : PathRule) (parent : Parent) → IsHandled (rights_at abi layer rule parent)
  unfolding rights_on_kind
  on_within rule (There object kind) = left_within _
  on_within rule Missing = either rule.included _ _ (nothing_within (handled_files abi layer)) (left_within (listed for_files rule.allowed))

  abbrev IsAsked : FittedPathRule → Type 0
  IsAsked rule = (files.is_empty rule.rights ≡ false) × (files.is_within rule.rights (handled_files abi layer) ≡ true)

  paths_valid : All IsAsked (fitted_path_rules abi layer)
  unfolding fitted_path_rules fitted_path_rule
  paths_valid =
      all_flat (λ numbered. Unit {0}) IsAsked (fitted_path_rule abi layer)
      (λ numbered there. all_if IsAsked (files.is_empty (rights_at abi layer numbered.1 numbered.1.parent)) _
      (λ some. (some, on_within numbered.1 numbered.1.parent)))
      (enumerate_from 0 layer.path_rules) (λ k d less. tt)

-- ---- rules for ports

port_fits : (rights : Option RuleMisfit) (large : Bool) → option_or rights (if large then Some misfit.NoPort else None) ≡ None → large ≡ false
port_fits None false is = refl
port_fits None true is = absurd (cc)
port_fits (Some wrong) large is = absurd (cc)

pub told_none : {X Y : Type 0} (f : X → Y) (told : Option X) → option_map f told ≡ None → told ≡ None
told_none f None is = refl
told_none f (Some x) is = absurd (cc)

module _ (abi : Abi) (layer : Layer) (known : network.has (listed for_network layer.handled_network) network.other ≡ false) where
  abbrev pub IsAskedOnPort : FittedPortRule → Type 0
  IsAskedOnPort rule =
      (has_ports abi ≡ true) × (network.is_empty rule.rights ≡ false) × (network.is_within rule.rights (handled_network abi layer) ≡ true)
      × (nat_lt LARGEST_PORT rule.port ≡ false)

  abbrev pub AreFit : ℕ × PortRule → Type 0
  AreFit numbered = misfits.port_rule_misfit layer numbered.1 ≡ None

  pub port_valid : (numbered : ℕ × PortRule) → AreFit numbered → All IsAskedOnPort (fitted_port_rule abi layer numbered)
  unfolding fitted_port_rule rights_on_port left_of handled_at misfits.port_rule_misfit misfits.rule_misfit
  port_valid numbered fits =
      let rule : PortRule = numbered.1 in
      let both_have : Net = common for_network (listed for_network rule.allowed) (listed for_network layer.handled_network) in
      let unnamed : network.has both_have network.other ≡ false =
      both port_sets (listed for_network rule.allowed) (listed for_network layer.handled_network) network.other known
      ∙ and_right (network.has (listed for_network rule.allowed) network.other) _ known in
      all_if IsAskedOnPort (network.is_empty (supported_net abi both_have)) _
      (λ some. (
        ports_there abi both_have unnamed some,
        some,
        within port_sets abi (listed for_network rule.allowed) (listed for_network layer.handled_network) known,
        port_fits (misfits.rule_misfit for_network layer.handled_network rule.allowed) (nat_lt LARGEST_PORT rule.port) fits,
      ))

  ports_valid : (index : ℕ) → misfits.misfit_on_ports index layer ≡ None → All IsAskedOnPort (fitted_port_rules abi layer)
  unfolding fitted_port_rules
  ports_valid index fits =
      let tell : ℕ × PortRule → Option Misfit = λ numbered. option_map (λ misfit. wrong.PortRule index numbered.0 misfit)
      (misfits.port_rule_misfit layer numbered.1) in
      all_flat (λ numbered. tell numbered ≡ None) IsAskedOnPort (fitted_port_rule abi layer)
      (λ numbered none. port_valid numbered (told_none (λ misfit. wrong.PortRule index numbered.0 misfit) (misfits.port_rule_misfit layer numbered.1) none))
      (enumerate_from 0 layer.port_rules) (none_told tell (enumerate_from 0 layer.port_rules) fits)

-- ---- a layer, and all layers

pub fits_if : (knows nothing : Bool) (unknown empty : Misfit) (rest : Option Misfit)
    → (if not knows then Some unknown else (if nothing then Some empty else rest)) ≡ None → (knows ≡ true) × (rest ≡ None)
fits_if true false unknown empty rest is = (refl, is)
fits_if true true unknown empty rest is = absurd (cc)
fits_if false nothing unknown empty rest is = absurd (cc)

pub named_alone : (a b : Bool) → (not a && not b) ≡ true → (a ≡ false) × (b ≡ false)
named_alone false false is = (refl, refl)
named_alone false true is = absurd (cc)
named_alone true b is = absurd (cc)

layer_valid : (abi : Abi) (numbered : ℕ × Layer) → misfits.layer_misfit numbered ≡ None → All (IsValid abi) (fitted_if_any abi numbered)
unfolding misfits.layer_misfit fitted_if_any
layer_valid abi numbered fits =
    let layer : Layer = numbered.1 in
    let parts = fits_if (misfits.knows_all layer) (misfits.handles_nothing layer) _ _ _ fits in
    let names = named_alone (misfits.has_other for_files layer.handled_files) (misfits.has_other for_network layer.handled_network) parts.0 in
    let rules = none_or (misfits.misfit_on_paths numbered.0 layer) (misfits.misfit_on_ports numbered.0 layer) parts.1 in
    all_if (IsValid abi) (files.is_empty (handled_files abi layer) && network.is_empty (handled_network abi layer)) _
    (λ some. record {
      created = created abi layer names.0 names.1 some;
      paths = paths_valid abi layer names.0;
      ports = ports_valid abi layer names.1 numbered.0 rules.1;
    })

pub fits_in : (none many : Bool) (a b : Misfit) (rest : Option Misfit) → (if none then Some a else (if many then Some b else rest)) ≡ None → rest ≡ None
fits_in false false a b rest is = is
fits_in false true a b rest is = absurd (cc)
fits_in true many a b rest is = absurd (cc)

pub all_valid : (abi : Abi) (policy : List Layer) → misfits.misfit policy ≡ None → All (IsValid abi) (fitted abi policy)
unfolding fitted misfits.misfit
all_valid abi policy fits =
    all_flat (λ numbered. misfits.layer_misfit numbered ≡ None) (IsValid abi) (fitted_if_any abi) (layer_valid abi) (enumerate_from 0 policy)
    (none_told misfits.layer_misfit (enumerate_from 0 policy)
    (fits_in (length policy == 0) (nat_lt MOST_LAYERS (length policy)) wrong.NoLayer wrong.TooManyLayers _ fits))
