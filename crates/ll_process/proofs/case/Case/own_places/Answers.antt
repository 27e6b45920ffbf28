-- The places are the same under every kernel.
use Rattle.std.proofs.Common.{◌≡◌, ◌∙◌, ap, arith, refl, subst, sym}
use Rattle.ll_trace.specs.FirstPlaces.{first_places, own_of}
use Rattle.ll_trace.specs.Processes.{process_count}
use Rattle.ll_trace.proofs.Seeing.{count_seen, first_places_seen, own_seen}
use Rattle.ll_process.specs.Cases.{CaseValue}
use Rattle.ll_process.proofs.case.Case.own_places.Goals as goal

pub places_of-requires : goal.places_of-requires
places_of-requires c =
    let located = c.self.inside.located.now in
    let kernel = c.self.inside.settled.now.kernel in
    omega (
      arith,
      c.requires,
      ap (λ (case : CaseValue). process_count case.records) c.self.view_is,
      count_seen kernel.effort kernel.abi located.trace,
    )

pub returns : goal.returns
returns c =
    let located = c.self.inside.located.now in
    let kernel = c.self.inside.settled.now.kernel in
    let process = c.args.process.0 in
    subst (λ (case : CaseValue). c.places_of.result.now ≡ own_of (first_places case.tree case.records) case.records process) c.self.view_is
    (c.places_of.ensures
    ∙ sym (rw (first_places_seen kernel.effort kernel.abi located.trace located.tree, own_seen kernel.effort kernel.abi located.trace process) refl))
