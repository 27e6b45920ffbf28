-- The explanation of a record: nothing where it is allowed, else what each refusing layer objects to, or which condition an error without layers has, or why the policy isn't asked.
-- Source: docs/FORMATS.md, "Explanations".
use Rattle.std.specs.Prelude.{ℕ, List, [], ◌∷◌, map, Option, Some, None}
use Rattle.ll_rights.specs.declared.abi.Abi.{Abi}
use Rattle.ll_rights.specs.Rights.{FsRight, truncate, ioctl_dev}
use Rattle.ll_rights.specs.NetRights as network
use Rattle.ll_tree.specs.Trees.{Entry, place}
use Rattle.ll_rules.specs.declared.errno.Errno.{Errno}
use Rattle.ll_trace.specs.declared.op.Record.{Record}
use Rattle.ll_trace.specs.declared.op.Op.{Op}
use Rattle.ll_trace.specs.declared.op.Op.TheVariants as calls
use Rattle.ll_semantics.specs.declared.answer.Answer.{Answer}
use Rattle.ll_semantics.specs.declared.answer.Answer.TheVariants.{Allowed, Moot, Refused}
use Rattle.ll_semantics.specs.Requests.{wanted, request}
use Rattle.ll_semantics.specs.Moves.{rename_move, link_move}
use Rattle.ll_semantics.specs.States.{State, Layer}
use Rattle.ll_semantics.specs.Answers.{named}
use Rattle.ll_semantics.specs.Worlds.{answer_in}
use Rattle.ll_semantics.specs.CallContexts.{world_at}
use Rattle.ll_reasons.specs.Objections.{Objection, kept, on_port, on_mount, objecting, to_request, to_move}
use Rattle.ll_reasons.specs.Origins.{Origins, sources_at}
use Rattle.ll_reasons.specs.Conditions.{Condition, condition}
use Rattle.ll_reasons.specs.Reasons.{Reason, reason}

pub data Explanation : Type 0 where
  nothing : Explanation
  objections : List (ℕ × List Objection) → Explanation
  failure : Condition → Explanation
  mootness : Option Reason → Explanation

-- what the layers that refuse by a descriptor object to: what was missing when it was opened
abbrev pub kept_by : FsRight → List ℕ → Option ℕ → List (ℕ × List Objection)
kept_by right numbers None = []
kept_by right numbers (Some index) = map (λ number. (number, kept right index ∷ [])) numbers

-- what each layer that refuses a call objects to; to a call that asks nothing, nothing
unfoldable pub objections_to : List Entry → List Layer → Origins → Op → Errno → List ℕ → List (ℕ × List Objection)
objections_to tree domain o (calls.Ftruncate fd) error numbers = kept_by truncate numbers (o.openings fd)
objections_to tree domain o (calls.Ioctl fd driver) error numbers = kept_by ioctl_dev numbers (o.openings fd)
objections_to tree domain o (calls.Rename from to exchange) error numbers = to_move tree domain error (rename_move tree (place tree from) (place tree to) exchange)
objections_to tree domain o (calls.Link from to) error numbers = to_move tree domain error (link_move tree (place tree from) (place tree to))
objections_to tree domain o calls.Mount error numbers = objecting on_mount domain
objections_to tree domain o (calls.Bind port) error numbers = objecting (on_port port (network.only network.bind_tcp)) domain
objections_to tree domain o (calls.Connect port) error numbers = objecting (on_port port (network.only network.connect_tcp)) domain
objections_to tree domain o op error numbers = to_request tree domain (request tree (wanted op))

-- the explanation of an answer to a call, by the domain and the origins of its process
unfoldable pub explained : List Entry → Abi → List Record → List Layer → Origins → Op → Answer → Explanation
explained tree abi records domain o op Allowed = nothing
explained tree abi records domain o op Moot = mootness (reason tree o op)
explained tree abi records domain o op (Refused error []) = failure (condition abi records o op error)
explained tree abi records domain o op (Refused error (number ∷ numbers)) = objections (objections_to tree domain o op error (number ∷ numbers))

-- the domain and the origins of a process before the record at an index of a trace
unfoldable pub domain_at : List Entry → Abi → List Record → ℕ → ℕ → List Layer
domain_at tree abi records index process = ((world_at tree abi records index).processes process).domain

unfoldable pub origins_at : List Entry → Abi → List Record → ℕ → ℕ → Origins
origins_at tree abi records index process = (sources_at tree abi records index).processes process

-- what the process has there, what a call of it is answered, all rulesets, and the one that a number of it names
abbrev pub state_at : List Entry → Abi → List Record → ℕ → ℕ → State
state_at tree abi records index process = (world_at tree abi records index).processes process

abbrev pub answer_at : List Entry → Abi → List Record → ℕ → ℕ → Op → Answer
answer_at tree abi records index process op = answer_in tree abi (world_at tree abi records index) process op

abbrev pub rulesets_at : List Entry → Abi → List Record → ℕ → List Layer
rulesets_at tree abi records index = (world_at tree abi records index).rulesets

abbrev pub ruleset_at : List Entry → Abi → List Record → ℕ → ℕ → ℕ → Option Layer
ruleset_at tree abi records index process rs = named (rulesets_at tree abi records index) ((state_at tree abi records index process).held rs)

-- the explanation of the record at an index of a trace
unfoldable pub explained_at : List Entry → Abi → List Record → ℕ → Record → Answer → Explanation
explained_at tree abi records index r answer = explained tree abi records (domain_at tree abi records index r.process.0) (origins_at tree abi records index r.process.0) r.op answer
