-- A chunk may be handed to another thread.
use denote.Ref.{NamedLft}
use denote.Param.Send.{IsSend, sendable, recorded_send, struct_send}
use denote.Struct.Declared.{shape}
use Rattle.std.proofs.Crossing.{crosses}
use Rattle.ll_semantics.proofs.answer.Answer.TheSendSync as answer
use Rattle.ll_process.proofs.Crossing.{case_sync}
use Rattle.ll_origins.proofs.Crossing.{origins_send}
use Rattle.ll_findings.proofs.finding.Finding.TheSendSync as finding
use Rattle.ll_findings.specs.contracts.chunk.Chunk as Chunk

pub chunk_send : (a : NamedLft) → IsSend (Chunk.the_row a)
chunk_send a =
    recorded_send (Chunk.the_field a).row _ _ (Chunk.the_type a).to_one
    (struct_send (shape (Chunk.the_type a)) (
      search (case_sync, sendable) depth 20,
      (
        search (answer.the_sync, crosses, sendable) depth 40,
        (
          search (finding.the_sync, crosses, sendable) depth 40,
          (search (origins_send, sendable) depth 20, (search sendable depth 20, (search sendable depth 20, tt))),
        ),
      ),
    ))
