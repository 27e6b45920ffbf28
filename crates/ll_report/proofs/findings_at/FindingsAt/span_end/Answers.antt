use Rattle.std.proofs.Common.{◌≡◌, ◌∙◌, List, ℕ, [], true, get_or, length, sym, ap, arith, inl, inr, subst}
use Rattle.std.specs.Prelude.{bytes_eq}
use Rattle.std.proofs.lemmas.Bool.{cases_lt}
use Rattle.std.proofs.lemmas.Slice.Eq.{bytes_eq-Decides}
use Rattle.ll_report.specs.Printed.{texts_of}
use Rattle.ll_report.specs.Spans.{IsSpan}
use Rattle.ll_report.proofs.SpanEnds.{alike_span, each_printed}
use Rattle.ll_report.proofs.findings_at.FindingsAt.span_end.Goals as goal

pub returns-then-not-is_apart : goal.returns-then-not-is_apart
returns-then-not-is_apart g c =
    let row = c.args.self.now in
    subst (IsSpan (texts_of g.P.Printer.printed row) c.args.from) (sym c.versions-count.ensures)
    (alike_span g.P.Printer.printed row.tree.now row.records.now row.index row.findings.now c.args.from (c.is_apart.ensures c.if-not-is_apart.true) c.requires)

pub loop-version-init : goal.loop-version-init
loop-version-init g c =
    let texts : List (List ℕ) = texts_of g.P.Printer.printed c.args.self.now in
    (omega arith, λ k at before. ap (λ (n : ℕ). get_or texts n []) (omega (arith, at, before)))

pub loop-version-preserved : goal.loop-version-preserved
loop-version-preserved g c =
    let l = c.loop-version in
    let texts : List (List ℕ) = texts_of g.P.Printer.printed c.args.self.now in
    let same : bytes_eq (get_or texts c.args.from []) (get_or texts l.version []) ≡ true = sym c.in_ok-same.ensures ∙ c.if-not-same.false in (
      omega (arith, l.invariant.0),
      λ k at before. elim (cases_lt k l.version) [
        | inl earlier ↦ l.invariant.1 k at earlier
        | inr here ↦
            (bytes_eq-Decides (get_or texts c.args.from []) (get_or texts l.version [])).0 same
            ∙ ap (λ (n : ℕ). get_or texts n []) (omega (arith, here, before))
      ],
    )

pub returns-then-not-same : goal.returns-then-not-same
returns-then-not-same g c =
    let l = c.loop-version in
    let texts : List (List ℕ) = texts_of g.P.Printer.printed c.args.self.now in
    record {
      some = l.invariant.0;
      within = omega (arith, each_printed g.P.Printer.printed c.args.self.now, c.loop-version-test.true, c.versions-count.ensures);
      same = l.invariant.1;
      apart = λ below. sym c.in_ok-same.ensures ∙ c.if-not-same.true;
    }

pub returns : goal.returns
returns g c =
    let l = c.loop-version in
    let texts : List (List ℕ) = texts_of g.P.Printer.printed c.args.self.now in
    let many : length texts ≡ length c.args.self.now.findings.now = each_printed g.P.Printer.printed c.args.self.now in
    record {
      some = omega (arith, c.requires, c.versions-count.ensures);
      within = omega (arith, many, c.versions-count.ensures);
      same = λ k at before. l.invariant.1 k at (omega (arith, before, c.versions-count.ensures, c.loop-version-test.false));
      apart = λ past. absurd (omega (arith, past, many, c.versions-count.ensures));
    }
