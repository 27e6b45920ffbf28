-- The origins of processes may be handed to another thread.
use denote.Param.Send.{IsSend, sendable}
use Rattle.std.proofs.Crossing.{crosses}
use Rattle.ll_shared.proofs.Crossing.{low_map_send, map_send}
use Rattle.ll_origins.specs.contracts.trail.ProcessOrigins as ProcessOrigins
use Rattle.ll_origins.specs.contracts.trail.TraceOrigins as TraceOrigins

process_send : IsSend ProcessOrigins.the_row
process_send = search (low_map_send, map_send, crosses, sendable) depth 40

pub origins_send : IsSend (TraceOrigins.the_field).row
origins_send = search (process_send, crosses, sendable) depth 40
