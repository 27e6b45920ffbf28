use Rattle.std.proofs.Common.{map, ap, ◌∙◌}
use Rattle.rayon.proofs.ListFacts.{IfOk-then}
use Rattle.rayon.proofs.ToStd.{slice-map}
use Rattle.ll_trace.specs.FirstPlaces.{first_place}
use Rattle.ll_trace.proofs.located.places_by.Goals as goal

pub returns : goal.returns
returns g c =
    let chained = c.with_min_len.ensures.base in
    let slice = ap (λ it. it.base.slice.now) chained ∙ ap (λ it. it.slice.now) c.map.ensures.base ∙ c.par_iter.ensures ∙ c.records-records.ensures.value in
    let tree = ap (λ it. it.f.0.now) chained ∙ ap (λ f. f.0.now) c.map.ensures.f in
    IfOk-then c.collect.result _ _ c.collect.ensures (λ places gathered.
    let chain = gathered.1 in
    gathered.2
    ∙ slice-map chain.0 c.args.trace.now (chain.1 ∙ slice) (λ r. first_place c.with_min_len.result.base.f.0.now r.op) gathered.0 chain.2
    ∙ ap (λ t. map (λ r. first_place t r.op) c.args.trace.now) tree)
