-- What the hands of the pool hold may be handed to another thread.
use denote.RattleType.{RattleType}
use denote.Ref.{NamedLft}
use denote.Param.Send.{IsSend, IsSync, sendable, recorded_sync, recorded_send, struct_sync, struct_send}
use denote.Struct.Declared.{shape}
use Rattle.std.proofs.Crossing.{crosses}
use Rattle.std.proofs.option.Option.TheSendSync as option
use Rattle.crossbeam_queue.proofs.array_queue.Slotted.TheSendSync as slotted
use Rattle.crossbeam_queue.below.atomic_table.proofs.shared.Seat.TheSendSync as seat
use Rattle.ll_process.proofs.Crossing.{job_send, piece_send}
use Rattle.ll_pool.specs.declared.queue.Naming.{Ghosts}
use Rattle.ll_pool.specs.contracts.hand.Pool as Pool
use Rattle.ll_pool.specs.contracts.hand.QueueHand as QueueHand
use Rattle.ll_pool.specs.contracts.hand.Worked as Worked

pub pool_sync : (a a' : NamedLft) (T T' T'' : RattleType) (g : Ghosts T.Denot) → IsSend T → IsSync T → IsSync T' → IsSync T''
    → IsSync (Pool.the_row a a' T T' T'' g)
pool_sync a a' T T' T'' g send sync sync' sync'' =
    recorded_sync (Pool.the_field a a' T T' T'' g).row _ _ (Pool.the_type a a' T T' T'' g).to_one
    (struct_sync (shape (Pool.the_type a a' T T' T'' g)) (
      search sendable depth 20,
      (
        search (crosses, sendable) depth 20,
        (
          search sendable depth 20,
          (
            search sendable depth 20,
            (search (slotted.the_field_sync, option.the_send, job_send, crosses, sendable) depth 40, (search (crosses, sendable) depth 40, tt)),
          ),
        ),
      ),
    ))

pub hand_send : (a a' a'' : NamedLft) (T T' T'' : RattleType) (g : Ghosts T.Denot) → IsSend T → IsSync T → IsSync T' → IsSync T''
    → IsSend (QueueHand.the_row a a' a'' T T' T'' g)
hand_send a a' a'' T T' T'' g send sync sync' sync'' =
    recorded_send (QueueHand.the_field a a' a'' T T' T'' g).row _ _ (QueueHand.the_type a a' a'' T T' T'' g).to_one
    (struct_send (shape (QueueHand.the_type a a' a'' T T' T'' g)) (
      search (pool_sync, sendable) depth 20,
      (search (seat.the_send, option.the_send, job_send, crosses, sendable) depth 40, tt),
    ))

pub worked_send : (a : NamedLft) → IsSend (Worked.the_row a)
worked_send a =
    recorded_send (Worked.the_field a).row _ _ (Worked.the_type a).to_one
    (struct_send (shape (Worked.the_type a)) (
      search (seat.the_send, option.the_send, job_send, crosses, sendable) depth 40,
      (search (piece_send, crosses, sendable) depth 40, tt),
    ))
