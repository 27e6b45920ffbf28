-- The places of one process more stand at the end.
use Rattle.std.proofs.Common.{arith, refl}
use Rattle.std.proofs.lemmas.List.{map_push}
use Rattle.std.proofs.lemmas.List.FromFn.{map-range_with_len_more}
use Rattle.ll_trace.specs.FirstPlaces.{own_of}
use Rattle.ll_trace.proofs.located.by_process.Goals as goal

pub loop-process-preserved : goal.loop-process-preserved
loop-process-preserved c =
    let n = c.loop-process.process in
    rw (
      c.in_ok-push.ensures.items,
      map_push (λ own. own.items) c.loop-process.all.items c.in_ok-own_places.field-0,
      c.loop-process.invariant,
      c.in_ok-own_places.ensures,
      map-range_with_len_more (own_of c.args.places.now c.args.trace.now) 0 n n (omega arith),
    ) refl
