-- A job and a piece may be handed to another thread, and a case may be seen by several.
use denote.Ref.{NamedLft}
use denote.Param.Send.{IsSend, IsSync, sendable, recorded_send, struct_send}
use denote.Struct.Declared.{shape}
use Rattle.std.proofs.Crossing.{crosses}
use Rattle.ll_shared.proofs.Crossing.{low_map_send}
use Rattle.ll_trace.proofs.located.Located.TheSendSync as located
use Rattle.ll_trace.proofs.op.ProcessId.TheSendSync as process
use Rattle.ll_rules.proofs.domain.Domain.TheSendSync as domain
use Rattle.ll_rules.proofs.Crossing.{layer_sync}
use Rattle.ll_semantics.proofs.answer.Answer.TheSendSync as answer
use Rattle.ll_semantics.proofs.answer.Descriptor.TheSendSync as descriptor
use Rattle.ll_semantics.proofs.answer.RulesetOutcome.TheSendSync as outcome
use Rattle.ll_state.specs.contracts.own_state.OwnState as OwnState
use Rattle.ll_process.specs.contracts.case.Case as Case
use Rattle.ll_process.specs.contracts.settled.Settled as Settled
use Rattle.ll_process.specs.contracts.job.Job as Job
use Rattle.ll_process.specs.contracts.piece.Piece as Piece

own_send : IsSend (OwnState.the_field).row
own_send = search (domain.the_send, descriptor.the_send, descriptor.the_sync, low_map_send, sendable) depth 40

-- what is settled may be seen by several threads, and so may a case
pub settled_sync : IsSync Settled.the_row
settled_sync = search (outcome.the_sync, layer_sync, crosses, sendable) depth 40

pub case_sync : (a : NamedLft) → IsSync (Case.the_row a)
case_sync a = search (located.the_sync, settled_sync, crosses, sendable) depth 40

pub job_field_send : (a : NamedLft) → IsSend (Job.the_field a).row
job_field_send a = struct_send (shape (Job.the_type a)) (search (case_sync, sendable) depth 20, (search sendable depth 20, (own_send, tt)))

pub job_send : (a : NamedLft) → IsSend (Job.the_row a)
job_send a = recorded_send (Job.the_field a).row _ _ (Job.the_type a).to_one (job_field_send a)

pub piece_send : (a : NamedLft) → IsSend (Piece.the_row a)
piece_send a =
    recorded_send (Piece.the_field a).row _ _ (Piece.the_type a).to_one
    (struct_send (shape (Piece.the_type a)) (
      search (case_sync, sendable) depth 20,
      (search (process.the_send, crosses, sendable) depth 40, (search (answer.the_send, crosses, sendable) depth 40, tt)),
    ))
