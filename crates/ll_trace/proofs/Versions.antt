-- Best effort at a version that supports all rights, and at one version after another.
use Rattle.std.proofs.Common.{◌≡◌, ℕ, ◌≤◌, Bool, true, false, not, ◌&&◌, List, [], ◌∷◌, refl, sym, ap, ◌∙◌, if◌then◌else◌}
use Rattle.std.specs.Prelude.{All, ◌||◌}
use Rattle.std.specs.List.{AllByRecursion}
use Rattle.std.proofs.lemmas.Bool.{eqb-true}
use Rattle.std.proofs.lemmas.List.Elements.{recursion_from_All}
use Rattle.ll_rights.specs.declared.abi.Abi.{Abi}
use Rattle.ll_rights.specs.declared.fs.Fs.{Fs}
use Rattle.ll_rights.specs.declared.net.Net.{Net}
use Rattle.ll_rights.specs.Abis.{knows_fs, knows_net, number_of}
use Rattle.ll_rights.specs.Supported.{supported_fs, supported_net}
use Rattle.ll_rights.specs.Rights as files
use Rattle.ll_rights.specs.NetRights as network
use Rattle.ll_rights.proofs.Sets.{fs_has-only, fs_is_empty, net_has-only, net_is_empty}
use Rattle.ll_rights.proofs.Supported.{fs_supported-known, fs_supported-older, net_supported-known, net_supported-older}
use Rattle.ll_trace.specs.declared.op.Op.{Op}
use Rattle.ll_trace.specs.declared.op.Op.TheVariants as calls
use Rattle.ll_trace.specs.declared.op.Record.{Record}
use Rattle.ll_trace.proofs.SetLemmas.{no_fs, no_net}
use Rattle.ll_trace.specs.BestEffort.{creates, adds_path, adds_port, at_best_effort, record_at_best_effort, records_at_best_effort, IsSupported}

-- ---- all rights are supported

never : (b : Bool) → (b && not b) ≡ false
never true = refl
never false = refl

second : (b : Bool) (x y : Op) → b ≡ false → (if b then x else y) ≡ y
second true x y e = absurd cc
second false x y e = refl

call-supported : (abi : Abi) (op : Op) → IsSupported abi op → at_best_effort abi op ≡ op
unfolding IsSupported at_best_effort
call-supported abi (calls.Create rs fs net) is =
    ap (λ (s : Fs). creates rs fs net s (supported_net abi net)) is.0 ∙ ap (creates rs fs net fs) is.1
    ∙ second (files.is_empty fs && network.is_empty net && not (files.is_empty fs && network.is_empty net)) (calls.CreateEmpty rs) (calls.Create rs fs net)
    (never (files.is_empty fs && network.is_empty net))
call-supported abi (calls.AddPath rs path fs) is =
    ap (adds_path rs path fs) is
    ∙ second (files.is_empty fs && not (files.is_empty fs)) (calls.LeaveOutPath path) (calls.AddPath rs path fs) (never (files.is_empty fs))
call-supported abi (calls.AddPort rs port net) is =
    ap (adds_port rs port net) is
    ∙ second (network.is_empty net && not (network.is_empty net)) calls.LeaveOutPort (calls.AddPort rs port net) (never (network.is_empty net))
call-supported abi op is = refl

each-supported : (abi : Abi) (records : List Record) → AllByRecursion (λ (one : Record). IsSupported abi one.op) records
    → records_at_best_effort abi records ≡ records
each-supported abi [] all = refl
each-supported abi (r ∷ rs) all =
    ap (λ (op : Op). record r { op = op } ∷ records_at_best_effort abi rs) (call-supported abi r.op all.0)
    ∙ ap (λ (others : List Record). r ∷ others) (each-supported abi rs all.1)

pub records-supported : (abi : Abi) (records : List Record) → All (λ (one : Record). IsSupported abi one.op) records
    → records_at_best_effort abi records ≡ records
records-supported abi records all = each-supported abi records (recursion_from_All (λ (one : Record). IsSupported abi one.op) records all)

-- ---- a name that is no right's

known : (has known : Bool) → (has && not (known || has)) ≡ false
known true true = refl
known true false = refl
known false _ = refl

other_stays : (abi : Abi) → supported_fs abi (files.only files.other) ≡ files.only files.other
other_stays abi = fs_supported-known abi (files.only files.other)
    (λ right. rw (fs_has-only right files.other) (known (files.is_right right files.other) (knows_fs abi right)))

other_port_stays : (abi : Abi) → supported_net abi (network.only network.other) ≡ network.only network.other
other_port_stays abi = net_supported-known abi (network.only network.other)
    (λ right. rw (net_has-only right network.other) (known (network.is_right right network.other) (knows_net abi right)))

none_of : (abi : Abi) → supported_fs abi files.no_right ≡ files.no_right
none_of abi = fs_supported-known abi files.no_right (λ right. rw (no_fs right) refl)

no_port_of : (abi : Abi) → supported_net abi network.no_right ≡ network.no_right
no_port_of abi = net_supported-known abi network.no_right (λ right. rw (no_net right) refl)

pub other_name-stays : (abi : Abi) (rs : ℕ)
    → at_best_effort abi (calls.Create rs (files.only files.other) network.no_right) ≡ calls.Create rs (files.only files.other) network.no_right
unfolding IsSupported
other_name-stays abi rs = call-supported abi (calls.Create rs (files.only files.other) network.no_right) (other_stays abi, no_port_of abi)

pub other_port_name-stays : (abi : Abi) (rs : ℕ)
    → at_best_effort abi (calls.Create rs files.no_right (network.only network.other)) ≡ calls.Create rs files.no_right (network.only network.other)
unfolding IsSupported
other_port_name-stays abi rs = call-supported abi (calls.Create rs files.no_right (network.only network.other)) (none_of abi, other_port_stays abi)

-- ---- one version after another

both : (a b c d : Bool) → (a ≡ true → c ≡ true) → (b ≡ true → d ≡ true) → (a && b) ≡ true → (c && d) ≡ true
both true true c d first last is = rw (first refl, last refl) refl
both true false c d first last is = absurd cc
both false b c d first last is = absurd cc

-- What is left out is left out at an older version too; what is kept with less is left out there if nothing is left.
down : (f : Op → Op) (left kept last : Op) (all newer older : Bool) → (all ≡ true → newer ≡ true) → (newer ≡ true → older ≡ true) → f left ≡ left
    → f kept ≡ (if older && not newer then left else last)
    → f (if newer && not all then left else kept) ≡ (if older && not all then left else last)
down f left kept last true true older less still lasts keeps = keeps
down f left kept last true false older less still lasts keeps = absurd (let no : false ≡ true = less refl in cc)
down f left kept last false true older less still lasts keeps = rw (still refl) lasts
down f left kept last false false older less still lasts keeps = keeps

-- A kind of set, of which a version supports a part: of nothing it supports nothing.
module _ {S : Type 0} (is_empty : S → Bool) (supported : Abi → S → S) (nothing : (abi : Abi) (set : S) → is_empty set ≡ true
    → is_empty (supported abi set) ≡ true)
    (fewer : (older newer : Abi) (set : S) → number_of older ≤ number_of newer → supported older (supported newer set) ≡ supported older set)
    (older newer : Abi) (le : number_of older ≤ number_of newer) where
  still-empty : (set : S) → is_empty (supported newer set) ≡ true → is_empty (supported older set) ≡ true
  still-empty set empty = ap is_empty (sym (fewer older newer set le)) ∙ nothing older (supported newer set) empty

  rule-older : (f : Op → Op) (adds : S → Op) (left : Op) → f left ≡ left
      → ((set : S) → f (adds set) ≡ (if is_empty (supported older set) && not (is_empty set) then left else adds (supported older set)))
      → (set : S) → f (if is_empty (supported newer set) && not (is_empty set) then left else adds (supported newer set))
      ≡ (if is_empty (supported older set) && not (is_empty set) then left else adds (supported older set))
  rule-older f adds left stays is set =
      down f left (adds (supported newer set)) (adds (supported older set)) (is_empty set) (is_empty (supported newer set)) (is_empty (supported older set))
      (nothing newer set) (still-empty set) stays
      (is (supported newer set) ∙ ap (λ (s : S). if is_empty s && not (is_empty (supported newer set)) then left else adds s) (fewer older newer set le))

fs_empty : (abi : Abi) (set : Fs) → files.is_empty set ≡ true → files.is_empty (supported_fs abi set) ≡ true
fs_empty abi set empty =
    let none : set ≡ files.no_right = ap (λ bits. record { 0 = bits }) (eqb-true set.0 0 (fs_is_empty set ∙ empty)) in
    ap (λ (s : Fs). files.is_empty (supported_fs abi s)) none ∙ ap files.is_empty (none_of abi) ∙ sym (fs_is_empty files.no_right)

net_empty : (abi : Abi) (set : Net) → network.is_empty set ≡ true → network.is_empty (supported_net abi set) ≡ true
net_empty abi set empty =
    let none : set ≡ network.no_right = ap (λ bits. record { 0 = bits }) (eqb-true set.0 0 (net_is_empty set ∙ empty)) in
    ap (λ (s : Net). network.is_empty (supported_net abi s)) none ∙ ap network.is_empty (no_port_of abi) ∙ sym (net_is_empty network.no_right)

pub call-older : (older newer : Abi) → number_of older ≤ number_of newer → (op : Op) → at_best_effort older (at_best_effort newer op) ≡ at_best_effort older op
unfolding at_best_effort
call-older older newer le (calls.Create rs fs net) =
    let fewer : supported_fs older (supported_fs newer fs) ≡ supported_fs older fs = fs_supported-older older newer fs le in
    let fewer_ports : supported_net older (supported_net newer net) ≡ supported_net older net = net_supported-older older newer net le in
    down (at_best_effort older) (calls.CreateEmpty rs) (calls.Create rs (supported_fs newer fs) (supported_net newer net))
    (calls.Create rs (supported_fs older fs) (supported_net older net))
    (files.is_empty fs && network.is_empty net)
    (files.is_empty (supported_fs newer fs) && network.is_empty (supported_net newer net))
    (files.is_empty (supported_fs older fs) && network.is_empty (supported_net older net))
    (both (files.is_empty fs) (network.is_empty net) (files.is_empty (supported_fs newer fs)) (network.is_empty (supported_net newer net))
    (fs_empty newer fs) (net_empty newer net))
    (both (files.is_empty (supported_fs newer fs)) (network.is_empty (supported_net newer net)) (files.is_empty (supported_fs older fs))
    (network.is_empty (supported_net older net))
    (still-empty files.is_empty supported_fs fs_empty fs_supported-older older newer le fs)
    (still-empty network.is_empty supported_net net_empty net_supported-older older newer le net))
    refl
    (ap (λ (s : Fs). creates rs (supported_fs newer fs) (supported_net newer net) s (supported_net older (supported_net newer net))) fewer
    ∙ ap (creates rs (supported_fs newer fs) (supported_net newer net) (supported_fs older fs)) fewer_ports)
call-older older newer le (calls.AddPath rs path fs) =
    rule-older files.is_empty supported_fs fs_empty fs_supported-older older newer le (at_best_effort older) (calls.AddPath rs path)
    (calls.LeaveOutPath path) refl (λ _. refl) fs
call-older older newer le (calls.AddPort rs port net) =
    rule-older network.is_empty supported_net net_empty net_supported-older older newer le (at_best_effort older) (calls.AddPort rs port)
    calls.LeaveOutPort refl (λ _. refl) net
call-older older newer le op = refl

pub records-older : (older newer : Abi) (records : List Record) → number_of older ≤ number_of newer
    → records_at_best_effort older (records_at_best_effort newer records) ≡ records_at_best_effort older records
records-older older newer [] le = refl
records-older older newer (r ∷ rs) le =
    ap (λ (op : Op). record r { op = op } ∷ records_at_best_effort older (records_at_best_effort newer rs)) (call-older older newer le r.op)
    ∙ ap (λ (others : List Record). record_at_best_effort older r ∷ others) (records-older older newer rs le)

pub ruleset other_names_stay = (other_name-stays, other_port_name-stays)

-- All that unfolds when a call is made at best effort.
unfoldable pub dropping_rights : Unit {0}
unfolding
    Rattle.ll_trace.specs.BestEffort.at_best_effort Rattle.ll_rights.specs.Supported.supported_fs Rattle.ll_rights.specs.Supported.supported_net
    Rattle.ll_rights.specs.Rights.united Rattle.ll_rights.specs.Rights.only Rattle.ll_rights.specs.Rights.has Rattle.ll_rights.specs.Rights.some_right
    Rattle.ll_rights.specs.Rights.all_rights Rattle.ll_rights.specs.Rights.named_rights Rattle.ll_rights.specs.NetRights.only
    Rattle.ll_rights.specs.NetRights.has Rattle.ll_rights.specs.NetRights.some_right Rattle.ll_rights.specs.NetRights.all_rights
dropping_rights = tt
