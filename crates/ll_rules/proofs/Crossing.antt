-- A layer may be seen by several threads.
use denote.Param.Send.{IsSend, IsSync, sendable}
use Rattle.std.proofs.Crossing.{crosses}
use Rattle.ll_shared.proofs.Crossing.{map_sync}
use Rattle.ll_rights.proofs.fs.Fs.TheSendSync as fs
use Rattle.ll_rights.proofs.net.Net.TheSendSync as net
use Rattle.ll_rules.specs.contracts.filter.Filter as Filter
use Rattle.ll_rules.specs.contracts.ruleset.Layer as Layer

filter_send : IsSend Filter.the_row
filter_send = search (crosses, sendable) depth 40

filter_sync : IsSync Filter.the_row
filter_sync = search (crosses, sendable) depth 40

pub layer_sync : IsSync Layer.the_row
layer_sync = search (fs.the_send, fs.the_sync, net.the_send, net.the_sync, filter_send, filter_sync, map_sync, crosses, sendable) depth 40
