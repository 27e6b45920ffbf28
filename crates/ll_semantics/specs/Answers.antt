-- What Landlock answers to a call: a function of the call, the state of its own process and the rulesets.
-- Source: landlock_create_ruleset(2), landlock_add_rule(2), landlock_restrict_self(2), "ERRORS"; landlock(7); the kernel's userspace document on Landlock.
use Rattle.std.specs.Prelude.{ℕ, List, [], ◌∷◌, length, Bool, ◌||◌, nat_le, if◌then◌else◌, Option, Some, None, is_some, slice_get}
use Rattle.ll_rights.specs.declared.abi.Abi.{Abi}
use Rattle.ll_rights.specs.declared.fs.Fs.{Fs}
use Rattle.ll_rights.specs.declared.net.Net.{Net}
use Rattle.ll_rights.specs.NetRights as network
use Rattle.ll_tree.specs.Trees.{Entry, path_at, place}
use Rattle.ll_rules.specs.declared.domain.TheConstants.{MOST_LAYERS}
use Rattle.ll_rules.specs.declared.errno.Errno.{Errno}
use Rattle.ll_rules.specs.declared.errno.Errno.TheVariants.{Perm, BadFd, Acces, TooBig}
use Rattle.ll_rules.specs.declared.moves.Move.{Move}
use Rattle.ll_rules.specs.declared.moves.Verdict.{Verdict}
use Rattle.ll_rules.specs.declared.moves.Verdict.TheVariants as verdicts
use Rattle.ll_rules.specs.Layers.{handles_nothing}
use Rattle.ll_rules.specs.Rulesets.{create_fault, RuleRefusal, with_error, without_object, add_path_refusal, add_port_refusal}
use Rattle.ll_rules.specs.Checks.{refusing, refusing_port, refusing_mount}
use Rattle.ll_rules.specs.Moves.{move_verdict}
use Rattle.ll_trace.specs.declared.op.Op.{Op}
use Rattle.ll_trace.specs.declared.op.Op.TheVariants as calls
use Rattle.ll_trace.specs.declared.op.Sort.{Sort}
use Rattle.ll_trace.specs.declared.op.Sort.TheVariants.{Regular, Device}
use Rattle.ll_semantics.specs.declared.answer.Answer.{Answer}
use Rattle.ll_semantics.specs.declared.answer.Answer.TheVariants.{Allowed, Moot, Refused}
use Rattle.ll_semantics.specs.declared.request.Request.{Request}
use Rattle.ll_semantics.specs.Requests.{wanted, request}
use Rattle.ll_semantics.specs.Moves.{rename_move, link_move}
use Rattle.ll_semantics.specs.declared.answer.Descriptor.{Descriptor}
use Rattle.ll_semantics.specs.States.{State, Layer}

-- refused with an error by the layers found, allowed if there are none
abbrev pub refused_by : Errno → List ℕ → Answer
refused_by error [] = Allowed
refused_by error (number ∷ numbers) = Refused error (number ∷ numbers)

-- refused with an error by no layer
abbrev pub fails : Errno → Answer
fails error = Refused error []

-- allowed, if there is no error
abbrev pub unless : Option Errno → Answer
unless None = Allowed
unless (Some error) = fails error

-- adding a rule
abbrev pub of_rule_refusal : Option RuleRefusal → Answer
of_rule_refusal None = Allowed
of_rule_refusal (Some (with_error error)) = fails error
of_rule_refusal (Some without_object) = Moot

-- a request, which the domain refuses by the layers that lack something of it
abbrev pub of_request : List Entry → List Layer → Option Request → Answer
of_request tree domain None = Moot
of_request tree domain (Some request) = refused_by Acces (refusing domain (path_at tree request.node) request.rights)

abbrev pub of_verdict : Verdict → Answer
of_verdict verdicts.Passed = Allowed
of_verdict (verdicts.Refused error numbers) = Refused error numbers

abbrev pub of_move : List Entry → List Layer → Option Move → Answer
of_move tree domain None = Moot
of_move tree domain (Some asked) = of_verdict (move_verdict tree domain asked)

-- ---- rulesets

-- the ruleset that a number names, if the process holds one under it
abbrev pub named : List Layer → Option ℕ → Option Layer
named rulesets None = None
named rulesets (Some index) = slice_get rulesets index

unfoldable pub create_answer : Abi → Fs → Net → Option ℕ → Answer
create_answer abi fs net None = unless (create_fault abi fs net)
create_answer abi fs net (Some index) = Moot

unfoldable pub add_path_answer : List Entry → List ℕ → Fs → Option Layer → Answer
add_path_answer tree path fs None = fails BadFd
add_path_answer tree path fs (Some rules) = of_rule_refusal (add_path_refusal tree rules (place tree path) fs)

unfoldable pub add_port_answer : Abi → ℕ → Net → Option Layer → Answer
add_port_answer abi port net None = fails BadFd
add_port_answer abi port net (Some rules) = of_rule_refusal (add_port_refusal abi rules port net)

-- what is there may be given up
abbrev pub if_there : {A : Type 0} → Option A → Answer
if_there it = if is_some it then Allowed else Moot

-- what isn't there may be put there, where what is asked of it allows that
abbrev pub if_free : {A : Type 0} → Option A → Answer → Answer
if_free None asked = asked
if_free (Some it) asked = Moot

-- a process may restrict itself if it can't gain privileges or is privileged
abbrev pub may_restrict : State → Bool
may_restrict s = s.no_new_privs || s.admin

-- The kernel makes no ruleset that handles nothing: a program that has one in its place makes no call, and nothing fails.
abbrev pub fails_by : Layer → Errno → Answer
fails_by rules error = if handles_nothing rules then Moot else fails error

-- by a ruleset that it holds, up to sixteen layers
unfoldable pub restrict_answer : State → Option Layer → Answer
restrict_answer s None = if may_restrict s then fails BadFd else fails Perm
restrict_answer s (Some rules) = if may_restrict s then (if nat_le MOST_LAYERS (length s.domain) then fails_by rules TooBig else Allowed) else fails_by rules Perm

-- ---- descriptors

-- a descriptor of a file keeps the layers that refused truncate when it was opened
abbrev pub truncate_kept : Sort → List ℕ → Answer
truncate_kept Regular kept = refused_by Acces kept
truncate_kept sort kept = Moot

unfoldable pub ftruncate_answer : Option Descriptor → Answer
ftruncate_answer None = Moot
ftruncate_answer (Some held) = truncate_kept held.sort held.kept

-- a descriptor of a device keeps the layers that refused ioctl_dev when it was opened; they refuse the commands that the policy judges, which driver says, and no other
abbrev pub ioctl_kept : Sort → List ℕ → Bool → Answer
ioctl_kept Device kept driver = if driver then refused_by Acces kept else Allowed
ioctl_kept sort kept driver = Allowed

unfoldable pub ioctl_answer : Option Descriptor → Bool → Answer
ioctl_answer None driver = Moot
ioctl_answer (Some held) driver = ioctl_kept held.sort held.kept driver

-- ---- every call

unfoldable pub answer : List Entry → Abi → List Layer → Op → State → Answer
answer tree abi rulesets (calls.Start nnp admin) s = Allowed
answer tree abi rulesets (calls.Fork child) s = Allowed
answer tree abi rulesets calls.Exit s = Allowed
answer tree abi rulesets calls.Nnp s = Allowed
answer tree abi rulesets (calls.Create rs fs net) s = create_answer abi fs net (s.held rs)
answer tree abi rulesets (calls.AddPath rs path fs) s = add_path_answer tree path fs (named rulesets (s.held rs))
answer tree abi rulesets (calls.AddPort rs port net) s = add_port_answer abi port net (named rulesets (s.held rs))
answer tree abi rulesets (calls.CloseRs rs) s = if_there (s.held rs)
answer tree abi rulesets (calls.Restrict rs) s = restrict_answer s (named rulesets (s.held rs))
answer tree abi rulesets (calls.OpenFile path fd mode create trunc) s = if_free (s.descriptors fd) (of_request tree s.domain (request tree (wanted (calls.OpenFile path fd mode create trunc))))
answer tree abi rulesets (calls.Adopt fd kind) s = if_free (s.descriptors fd) Allowed
answer tree abi rulesets (calls.Dup fd to) s = if_there (s.descriptors fd)
answer tree abi rulesets (calls.Close fd) s = if_there (s.descriptors fd)
answer tree abi rulesets (calls.Ftruncate fd) s = ftruncate_answer (s.descriptors fd)
answer tree abi rulesets (calls.Ioctl fd driver) s = ioctl_answer (s.descriptors fd) driver
answer tree abi rulesets (calls.Truncate path) s = of_request tree s.domain (request tree (wanted (calls.Truncate path)))
answer tree abi rulesets (calls.Exec path) s = of_request tree s.domain (request tree (wanted (calls.Exec path)))
answer tree abi rulesets (calls.Mknod path kind) s = of_request tree s.domain (request tree (wanted (calls.Mknod path kind)))
answer tree abi rulesets (calls.Mkdir path) s = of_request tree s.domain (request tree (wanted (calls.Mkdir path)))
answer tree abi rulesets (calls.Symlink path) s = of_request tree s.domain (request tree (wanted (calls.Symlink path)))
answer tree abi rulesets (calls.Unlink path) s = of_request tree s.domain (request tree (wanted (calls.Unlink path)))
answer tree abi rulesets (calls.Rmdir path) s = of_request tree s.domain (request tree (wanted (calls.Rmdir path)))
answer tree abi rulesets (calls.Rename from to exchange) s = of_move tree s.domain (rename_move tree (place tree from) (place tree to) exchange)
answer tree abi rulesets (calls.Link from to) s = of_move tree s.domain (link_move tree (place tree from) (place tree to))
answer tree abi rulesets calls.Mount s = refused_by Perm (refusing_mount s.domain)
answer tree abi rulesets (calls.Bind port) s = refused_by Acces (refusing_port s.domain port (network.only network.bind_tcp))
answer tree abi rulesets (calls.Connect port) s = refused_by Acces (refusing_port s.domain port (network.only network.connect_tcp))
answer tree abi rulesets (calls.CreateEmpty rs) s = if_free (s.held rs) Allowed
answer tree abi rulesets (calls.LeaveOutPath path) s = Moot
answer tree abi rulesets calls.LeaveOutPort s = Moot
