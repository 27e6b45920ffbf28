-- Restricting by a ruleset that handles nothing.
use Rattle.std.proofs.Common.{◌≡◌, ◌≢◌, ℕ, Bool, true, false, not, ◌&&◌, List, length, Option, Some, None, refl, ap, ◌∙◌, nat_le, if◌then◌else◌}
use Rattle.ll_rights.specs.declared.abi.Abi.{Abi}
use Rattle.ll_rights.specs.declared.fs.Fs.{Fs}
use Rattle.ll_rights.specs.declared.net.Net.{Net}
use Rattle.ll_rights.specs.Rights as files
use Rattle.ll_rights.specs.NetRights as network
use Rattle.ll_tree.specs.Trees.{Entry}
use Rattle.ll_rules.specs.declared.domain.TheConstants.{MOST_LAYERS}
use Rattle.ll_rules.specs.declared.errno.Errno.{Errno}
use Rattle.ll_rules.specs.declared.errno.Errno.TheVariants.{Perm, BadFd, Inval, NoMsg, TooBig}
use Rattle.ll_rules.specs.Layers.{handles_nothing, without_rules}
use Rattle.ll_rules.specs.Rulesets.{has_ports, knows_all, create_fault}
use Rattle.ll_trace.specs.declared.op.Op.TheVariants.{Restrict}
use Rattle.ll_semantics.specs.declared.answer.Answer.TheVariants.{Allowed, Moot, Refused}
use Rattle.ll_semantics.specs.States.{State, Layer}
use Rattle.ll_semantics.specs.Answers.{answer, named, fails, may_restrict, restrict_answer}

-- ---- by a ruleset

by_nothing : (may full nothing : Bool) (error : Errno) (layers : List ℕ) → nothing ≡ true
    → (if may then (if full then (if nothing then Moot else fails TooBig) else Allowed) else (if nothing then Moot else fails Perm)) ≢ Refused error layers
by_nothing true true true error layers is = λ refused. cc
by_nothing true false true error layers is = λ refused. cc
by_nothing false full true error layers is = λ refused. cc
by_nothing may full false error layers is = absurd (cc)

by_some : (may full nothing : Bool)
    → (if may then (if full then (if nothing then Moot else fails TooBig) else Allowed) else (if nothing then Moot else fails Perm)) ≡ Moot → nothing ≡ true
by_some may full true moot = refl
by_some true true false moot = cc
by_some true false false moot = cc
by_some false full false moot = cc

by_none : {P : Type 0} (may : Bool) → (if may then fails BadFd else fails Perm) ≡ Moot → P
by_none true moot = absurd (cc)
by_none false moot = absurd (cc)

restrict_not_refused : (s : State) (held : Option Layer) (rules : Layer) (error : Errno) (layers : List ℕ) → held ≡ Some rules
    → handles_nothing rules ≡ true → restrict_answer s held ≢ Refused error layers
unfolding restrict_answer
restrict_not_refused s None rules error layers is nothing = absurd (cc)
restrict_not_refused s (Some held) rules error layers is nothing =
    let same : held ≡ rules = cc in
    by_nothing (may_restrict s) (nat_le MOST_LAYERS (length s.domain)) (handles_nothing held) error layers
    (ap (λ (layer : Layer). handles_nothing layer) same ∙ nothing)

restrict_moot : (s : State) (held : Option Layer) → restrict_answer s held ≡ Moot → (rules : Layer) × (held ≡ Some rules) × (handles_nothing rules ≡ true)
unfolding restrict_answer
restrict_moot s None moot = by_none (may_restrict s) moot
restrict_moot s (Some held) moot =
    (held, refl, by_some (may_restrict s) (nat_le MOST_LAYERS (length s.domain)) (handles_nothing held) moot)

pub never_refused : (tree : List Entry) (abi : Abi) (rulesets : List Layer) (rs : ℕ) (s : State) (rules : Layer) (error : Errno) (layers : List ℕ)
    → named rulesets (s.held rs) ≡ Some rules → handles_nothing rules ≡ true → answer tree abi rulesets (Restrict rs) s ≢ Refused error layers
unfolding answer
never_refused tree abi rulesets rs s rules error layers held nothing = restrict_not_refused s (named rulesets (s.held rs)) rules error layers held nothing

pub moot_by_nothing : (tree : List Entry) (abi : Abi) (rulesets : List Layer) (rs : ℕ) (s : State) → answer tree abi rulesets (Restrict rs) s ≡ Moot
    → (rules : Layer) × (named rulesets (s.held rs) ≡ Some rules) × (handles_nothing rules ≡ true)
unfolding answer
moot_by_nothing tree abi rulesets rs s moot = restrict_moot s (named rulesets (s.held rs)) moot

-- ---- what is created

unfaulty : (newer known nothing : Bool) → (if newer then Some TooBig else (if known then Some Inval else (if nothing then Some NoMsg else None))) ≡ None
    → nothing ≡ false
unfaulty true known nothing none = cc
unfaulty false true nothing none = cc
unfaulty false false true none = cc
unfaulty false false false none = refl

pub made_handles : (abi : Abi) (handled_files : Fs) (handled_network : Net) → create_fault abi handled_files handled_network ≡ None
    → handles_nothing {P = ℕ} (without_rules handled_files handled_network) ≡ false
made_handles abi handled_files handled_network none =
    unfaulty (not (network.is_empty handled_network) && not (has_ports abi)) (not (knows_all abi handled_files handled_network))
    (files.is_empty handled_files && network.is_empty handled_network) none
