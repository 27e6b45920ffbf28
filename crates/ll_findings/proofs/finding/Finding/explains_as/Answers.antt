-- Where neither version keeps explanations, neither explains the record.
use Rattle.std.proofs.Common.{◌≡◌, ◌∙◌, None, ap, refl, subst, sym}
use Rattle.ll_findings.specs.Findings.{FindingValue, kept_at}
use Rattle.ll_findings.proofs.Overlaying.{none_kept}
use Rattle.ll_findings.proofs.finding.Finding.explains_as.Goals as goal

pub returns-then-explains_nothing-2 : goal.returns-then-explains_nothing-2
returns-then-explains_nothing-2 c =
    let silent : FindingValue → Type 0 = λ (finding : FindingValue). kept_at finding c.args.index ≡ None in
    let one : silent c.args.self.now =
    subst silent c.self.view_is
    (none_kept c.self.inside.base.value c.self.inside.changes c.self.inside.indices c.args.index (rw (← c.deref.ensures) c.if-explains_nothing.ensures)) in
    let other : silent c.args.other.now =
    subst silent c.other.view_is
    (none_kept c.other.inside.base.value c.other.inside.changes c.other.inside.indices c.args.index
    (rw (← c.deref-then-explains_nothing.ensures) c.if-explains_nothing-2.ensures)) in
    (λ holds. one ∙ sym other, λ same. refl)
