-- Which of four shapes the answers to a call can have: allowed, moot, refused by no layer, refused by layers.
use Rattle.std.proofs.Common.{◌≡◌, ℕ, Bool, true, false, not, List, [], ◌∷◌, length, Option, Some, None, refl, sym, ap, ◌∙◌, nat_le, nat_lt, if◌then◌else◌}
use Rattle.ll_rights.specs.declared.net.TheConstants.{LARGEST_PORT}
use Rattle.ll_rights.specs.declared.abi.Abi.{Abi}
use Rattle.ll_rights.specs.declared.fs.Fs.{Fs}
use Rattle.ll_rights.specs.declared.net.Net.{Net}
use Rattle.ll_rights.specs.NetRights as network
use Rattle.ll_rules.specs.declared.domain.TheConstants.{MOST_LAYERS}
use Rattle.ll_rules.specs.declared.errno.Errno.{Errno}
use Rattle.ll_rules.specs.declared.errno.Errno.TheVariants.{Acces, Inval, NoMsg, Perm, TooBig, XDev}
use Rattle.ll_rules.specs.declared.moves.Move.{Move}
use Rattle.ll_rules.specs.declared.moves.Verdict.{Verdict}
use Rattle.ll_rules.specs.declared.moves.Verdict.TheVariants as verdicts
use Rattle.ll_rules.specs.Checks.{numbers_where}
use Rattle.ll_rules.specs.Layers.{handles_nothing}
use Rattle.ll_rules.specs.Moves.{move_verdict, refused_or, denies, holds_back, source_of, destination_of}
use Rattle.ll_rules.specs.Rulesets.{RuleRefusal, with_error, without_object, has_ports}
use Rattle.ll_lines.specs.Paths.{path_eq}
use Rattle.ll_tree.specs.Trees.{Entry}
use Rattle.ll_trace.specs.declared.op.Sort.{Sort}
use Rattle.ll_trace.specs.declared.op.Sort.TheVariants.{Regular, Device, Other}
use Rattle.ll_semantics.specs.declared.answer.Answer.{Answer}
use Rattle.ll_semantics.specs.declared.answer.Answer.TheVariants.{Allowed, Moot, Refused}
use Rattle.ll_semantics.specs.declared.answer.Descriptor.{Descriptor}
use Rattle.ll_semantics.specs.declared.request.Request.{Request}
use Rattle.ll_semantics.specs.States.{State, Layer}
use Rattle.ll_semantics.specs.Answers as answers

-- an answer is of a shape that is among those that can be
pub among : Bool → Bool → Bool → Bool → Answer → Bool
among allowed moot faulty refused Allowed = allowed
among allowed moot faulty refused Moot = moot
among allowed moot faulty refused (Refused error []) = faulty
among allowed moot faulty refused (Refused error (number ∷ numbers)) = refused

-- so it is of no other
pub never_moot : {P : Type 0} (a f r : Bool) (x : Answer) → among a false f r x ≡ true → x ≡ Moot → P
unfolding among
never_moot a f r x can is = (let both : true ≡ false = sym can ∙ ap (among a false f r) is in absurd (cc))

pub never_faulty : {P : Type 0} (a m r : Bool) (x : Answer) (error : Errno) → among a m false r x ≡ true → x ≡ Refused error [] → P
unfolding among
never_faulty a m r x error can is = (let both : true ≡ false = sym can ∙ ap (among a m false r) is in absurd (cc))

pub never_refused : {P : Type 0} (a m f : Bool) (x : Answer) (error : Errno) (number : ℕ) (numbers : List ℕ) → among a m f false x ≡ true
    → x ≡ Refused error (number ∷ numbers) → P
unfolding among
never_refused a m f x error number numbers can is = (let both : true ≡ false = sym can ∙ ap (among a m f false) is in absurd (cc))

-- ---- tables

pub can_there : {A : Type 0} (o : Option A) → among true true false false (answers.if_there o) ≡ true
unfolding among
can_there None = refl
can_there (Some it) = refl

pub can_allowed : among true true false false Allowed ≡ true
unfolding among
can_allowed = refl

pub can_free : {A : Type 0} (r : Bool) (o : Option A) (asked : Answer) → among true true false r asked ≡ true
    → among true true false r (answers.if_free o asked) ≡ true
unfolding among
can_free r None asked can = can
can_free r (Some held) asked can = refl

-- ---- layers

pub can_refused_by : (m : Bool) (e : Errno) (found : List ℕ) → among true m false true (answers.refused_by e found) ≡ true
unfolding among
can_refused_by m e [] = refl
can_refused_by m e (number ∷ numbers) = refl

pub can_request : (tree : List Entry) (domain : List Layer) (request : Option Request)
    → among true true false true (answers.of_request tree domain request) ≡ true
unfolding among
can_request tree domain None = refl
can_request tree domain (Some request) = can_refused_by true Acces _

pub can_verdict : (v : Verdict) → among true false true true (answers.of_verdict v) ≡ true
unfolding among
can_verdict verdicts.Passed = refl
can_verdict (verdicts.Refused error []) = refl
can_verdict (verdicts.Refused error (number ∷ numbers)) = refl

refused_verdict : (e : Errno) (numbers : List ℕ) (next : Verdict) → among true true false true (answers.of_verdict next) ≡ true
    → among true true false true (answers.of_verdict (refused_or e numbers next)) ≡ true
unfolding among
refused_verdict e [] next can = can
refused_verdict e (number ∷ numbers) next can = refl

either_verdict : (b : Bool) (next : Verdict) → among true true false true (answers.of_verdict next) ≡ true
    → among true true false true (answers.of_verdict (if b then verdicts.Passed else next)) ≡ true
unfolding among
either_verdict true next can = refl
either_verdict false next can = can

pub can_move : (tree : List Entry) (domain : List Layer) (move : Option Move) → among true true false true (answers.of_move tree domain move) ≡ true
unfolding among move_verdict
can_move tree domain None = refl
can_move tree domain (Some move) =
    refused_verdict Acces (numbers_where (denies tree move) domain) _
    (either_verdict (path_eq (source_of tree move) (destination_of tree move.target)) _
    (refused_verdict XDev (numbers_where (holds_back tree move) domain) verdicts.Passed refl))

can_truncate : (sort : Sort) (numbers : List ℕ) → among true true false true (answers.truncate_kept sort numbers) ≡ true
unfolding among
can_truncate Regular numbers = can_refused_by true Acces numbers
can_truncate Device numbers = refl
can_truncate Other numbers = refl

pub can_ftruncate : (held : Option Descriptor) → among true true false true (answers.ftruncate_answer held) ≡ true
unfolding answers.ftruncate_answer among
can_ftruncate None = refl
can_ftruncate (Some held) = can_truncate held.sort held.kept

pub can_ioctl_kept : (m : Bool) (sort : Sort) (numbers : List ℕ) (driver : Bool) → among true m false true (answers.ioctl_kept sort numbers driver) ≡ true
unfolding among
can_ioctl_kept m Device numbers true = can_refused_by m Acces numbers
can_ioctl_kept m Device numbers false = refl
can_ioctl_kept m Regular numbers driver = refl
can_ioctl_kept m Other numbers driver = refl

pub can_ioctl : (held : Option Descriptor) (driver : Bool) → among true true false true (answers.ioctl_answer held driver) ≡ true
unfolding answers.ioctl_answer among
can_ioctl None driver = refl
can_ioctl (Some held) driver = can_ioctl_kept true held.sort held.kept driver

-- ---- rulesets

either : (b : Bool) (x y : Answer) → among true true true false x ≡ true → among true true true false y ≡ true
    → among true true true false (if b then x else y) ≡ true
either true x y this that = this
either false x y this that = that

pub can_unless : (m : Bool) (e : Option Errno) → among true m true false (answers.unless e) ≡ true
unfolding among
can_unless m None = refl
can_unless m (Some e) = refl

pub can_create : (abi : Abi) (fs : Fs) (net : Net) (held : Option ℕ) → among true true true false (answers.create_answer abi fs net held) ≡ true
unfolding answers.create_answer among
can_create abi fs net None = can_unless true _
can_create abi fs net (Some index) = refl

can_rule : (refusal : Option RuleRefusal) → among true true true false (answers.of_rule_refusal refusal) ≡ true
unfolding among
can_rule None = refl
can_rule (Some (with_error e)) = refl
can_rule (Some without_object) = refl

pub can_add_path : (tree : List Entry) (path : List ℕ) (fs : Fs) (rules : Option Layer)
    → among true true true false (answers.add_path_answer tree path fs rules) ≡ true
unfolding answers.add_path_answer among
can_add_path tree path fs None = refl
can_add_path tree path fs (Some rules) = can_rule _

tests : (a b c d : Bool)
    → among true false true false (answers.of_rule_refusal (if a then Some (with_error Inval)
    else (if b then Some (with_error NoMsg) else (if c then Some (with_error Inval) else (if d then Some (with_error Inval) else None))))) ≡ true
unfolding among
tests true b c d = refl
tests false true c d = refl
tests false false true d = refl
tests false false false true = refl
tests false false false false = refl

pub can_add_port : (abi : Abi) (port : ℕ) (net : Net) (rules : Option Layer) → among true false true false (answers.add_port_answer abi port net rules) ≡ true
unfolding answers.add_port_answer among
can_add_port abi port net None = refl
can_add_port abi port net (Some rules) =
    tests (not (has_ports abi)) (network.is_empty net) (not (network.is_within net rules.handled_network)) (nat_lt LARGEST_PORT port)

can_fail_by : (rules : Layer) (error : Errno) → among true true true false (answers.fails_by rules error) ≡ true
unfolding among
can_fail_by rules error = either (handles_nothing rules) Moot (answers.fails error) refl refl

pub can_restrict : (s : State) (rules : Option Layer) → among true true true false (answers.restrict_answer s rules) ≡ true
unfolding answers.restrict_answer among
can_restrict s None = either (answers.may_restrict s) _ _ refl refl
can_restrict s (Some rules) =
    either (answers.may_restrict s) _ _ (either (nat_le MOST_LAYERS (length s.domain)) (answers.fails_by rules TooBig) Allowed (can_fail_by rules TooBig) refl)
    (can_fail_by rules Perm)
