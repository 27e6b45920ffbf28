-- Maps cross threads where their values do.
use denote.RattleType.{RattleType}
use denote.Param.Send.{IsSend, IsSync, sendable}
use Rattle.std.proofs.Crossing.{crosses}
use Rattle.ll_shared.proofs.node.Node.TheLaws.TheKnot.{crosses_both}
use Rattle.ll_shared.specs.contracts.map.SharedMap.{the_row}
use Rattle.ll_shared.specs.contracts.leaf.Leaf as Leaf
use Rattle.ll_shared.specs.contracts.low_map.LeafMap as LeafMap

pub map_send : (V : RattleType) → IsSend V → IsSync V → IsSend (the_row V)
map_send V send sync = search (crosses_both, crosses, sendable) depth 40

pub map_sync : (V : RattleType) → IsSend V → IsSync V → IsSync (the_row V)
map_sync V send sync = search (crosses_both, crosses, sendable) depth 40

leaf_send : (V : RattleType) → IsSend V → IsSend (Leaf.the_row V)
leaf_send V send = search (crosses, sendable) depth 40

leaf_sync : (V : RattleType) → IsSync V → IsSync (Leaf.the_row V)
leaf_sync V sync = search (crosses, sendable) depth 40

pub low_map_send : (V : RattleType) → IsSend V → IsSync V → IsSend (LeafMap.the_field (Leaf.the_row V) V).row
low_map_send V send sync = search (leaf_send, leaf_sync, map_send, crosses, sendable) depth 40
