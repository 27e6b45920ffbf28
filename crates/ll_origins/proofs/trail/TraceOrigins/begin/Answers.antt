use Rattle.std.proofs.Common.{◌≡◌, List, [], ◌∷◌, ◌++◌, length, Some, refl, sym, ◌∙◌, arith, inl, inr, length-append}
use Rattle.std.specs.List.{slice_get}
use Rattle.std.proofs.lemmas.Bool.{cases_eq, eq-eqb, ne_eqb}
use Rattle.ll_trace.proofs.Numbers.{slice_get-push}
use Rattle.ll_reasons.specs.Origins.{Origins, Sources, with_next}
use Rattle.ll_origins.specs.declared.trail.ProcessOrigins.{ProcessOrigins}
use Rattle.ll_origins.specs.TraceOrigins.{Follows, AreTrails}
use Rattle.ll_origins.proofs.trail.TraceOrigins.begin.Goals as goal

-- one process more
trails_begun : (trails : List ProcessOrigins) (trail : ProcessOrigins) (sources : Sources) (o : Origins) → AreTrails trails sources → Follows trail o
    → AreTrails (trails ++ trail ∷ []) (with_next sources o)
trails_begun trails trail sources o are follows = record {
  count = simp length-append (omega (arith, are.count));
  each = λ process one eq. elim (cases_eq process (length trails)) [
    | inl last ↦
        let here : slice_get (trails ++ trail ∷ []) process ≡ Some trail = rw (slice_get-push trails process trail, eq-eqb process (length trails) last) refl in
        let it : trail ≡ one = cc in
        rw (← it, eq-eqb process sources.count (last ∙ are.count)) follows
    | inr earlier ↦
        let before : slice_get (trails ++ trail ∷ []) process ≡ slice_get trails process =
        rw (slice_get-push trails process trail, ne_eqb process (length trails) earlier) refl in
        rw (ne_eqb process sources.count (λ same. earlier (same ∙ sym are.count))) (are.each process one (sym before ∙ eq))
  ];
}

-- src/trail.rt:134:5
pub returns : goal.returns
returns c = λ sources o are follows. rw c.in_ok-push.ensures.items (trails_begun c.args.self.now.trails.items c.args.trail sources o are follows)
