use denote.Param.Send.{sendable}
use Rattle.std.proofs.Common.{◌∙◌, List, ap, subst}
use Rattle.std.proofs.Crossing.{crosses}
use Rattle.std.specs.List.{AllZip}
use Rattle.rayon.specs.Lists.{vec_items}
use Rattle.rayon.proofs.ListFacts.{IfOk-then}
use Rattle.ll_findings.specs.Findings.{FindingValue}
use Rattle.ll_findings.specs.Chunks.{IsCompared}
use Rattle.ll_findings.specs.declared.chunk.Chunk.{Chunk}
use Rattle.ll_findings.proofs.Crossing.{chunk_send}
use Rattle.ll_findings.proofs.found.Found.TheSendSync as found
use Rattle.ll_findings.proofs.comparing.compare_each.Goals as goal

pub map-requires-send-Self : goal.map-requires-send-Self
map-requires-send-Self g c κs within = search (chunk_send, crosses, sendable) depth 40

pub map-requires-send-Self-Item : goal.map-requires-send-Self-Item
map-requires-send-Self-Item g c κs within = search (chunk_send, crosses, sendable) depth 40

pub with_min_len-requires-send-Self : goal.with_min_len-requires-send-Self
with_min_len-requires-send-Self g c κs within = search (chunk_send, found.the_sync, crosses, sendable) depth 40

pub collect-requires-send-Self : goal.collect-requires-send-Self
collect-requires-send-Self g c κs within = search (chunk_send, found.the_sync, crosses, sendable) depth 40

pub returns : goal.returns
returns g c =
    let chained = c.with_min_len.ensures.base in
    let items = ap (λ it. vec_items it.base) chained ∙ ap vec_items c.map.ensures.base ∙ c.into_par_iter.ensures in
    let base = ap (λ it. it.f.1.now) chained ∙ ap (λ f. f.1.now) c.map.ensures.f in
    IfOk-then c.collect.result _ _ c.collect.ensures (λ parts gathered.
    let chain = gathered.1 in
    rw gathered.2 (subst (λ (chunks : List Chunk). AllZip (IsCompared c.args.base.now) chunks gathered.0) (chain.1 ∙ items)
    (subst (λ (base : FindingValue). AllZip (IsCompared base) chain.0 gathered.0) base chain.2)))
