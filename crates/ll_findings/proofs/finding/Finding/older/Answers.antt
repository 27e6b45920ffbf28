-- An older version, of which only the changes to the base are kept.
use Rattle.std.proofs.Common.{rules, ◌≢◌, ℕ, Bool, List, ap, true, subst, sym}
use Rattle.std.specs.List.{All}
use Rattle.ll_findings.specs.Alike.{FindsAs, MarksUnless}
use Rattle.ll_findings.specs.Findings.{ChangesValue, FindingValue, Finds, with_changes}
use Rattle.ll_findings.proofs.Covering.{by_changes_finds}
use Rattle.ll_findings.proofs.Marking.{both_marked}
use Rattle.ll_findings.proofs.finding.Finding.older.Goals as goal

pub returns-then-is_about_all-clause-finds : goal.returns-then-is_about_all-clause-finds
returns-then-is_about_all-clause-finds g c =
    let case = c.args.case.now in
    let finds : FindingValue → Bool → Type 0 = λ (finding : FindingValue) (explains : Bool). Finds explains case.tree case.abi case.records finding in
    let changes = c.in_ok-changes.changes in
    let base : FindingValue = c.self.inside.base.value in
    let over : FindingValue = with_changes base changes.indices changes.found in
    subst (finds c.in_ok-over.field-0) (sym c.if-explains.true)
    (subst (λ (finding : FindingValue). finds finding true) (sym {b = over} c.in_ok-over.ensures)
    (by_changes_finds case base changes c.args.answers.items c.requires (search rules) (search rules)))

pub returns-then-is_about_all-clause-marks : goal.returns-then-is_about_all-clause-marks
returns-then-is_about_all-clause-marks g c =
    let newer = c.self.inside in
    let changes = c.in_ok-changes.changes in
    let base : FindingValue = newer.base.value in
    let over : FindingValue = with_changes base changes.indices changes.found in
    let marks : FindingValue → FindingValue → Type 0 = λ (finding : FindingValue) (other : FindingValue).
    MarksUnless (λ at. FindsAs finding at other) c.args.marks.now.items c.mark_all-then-is_about_all.new.marks.items in
    let unlisted : List Bool → List Bool → List ℕ → Type 0 = λ (before : List Bool) (after : List Bool) (indices : List ℕ).
    MarksUnless (λ at. All (λ (index : ℕ). index ≢ at) indices) before after in
    subst (marks c.in_ok-over.field-0) c.self.view_is
    (subst (λ (finding : FindingValue). marks finding (with_changes base newer.indices newer.changes)) (sym {b = over} c.in_ok-over.ensures)
    (both_marked base changes.found newer.changes changes.indices newer.indices c.args.marks.now.items c.mark_all.new.marks.items
    c.mark_all-then-is_about_all.new.marks.items
    (subst (unlisted c.args.marks.now.items c.mark_all.new.marks.items) (ap (λ (all : ChangesValue). all.indices) c.changes.view_is)
    (subst (unlisted c.args.marks.now.items c.mark_all.new.marks.items) c.deref-then-is_about_all-3.ensures.value c.mark_all.ensures))
    (subst (unlisted c.mark_all.new.marks.items c.mark_all-then-is_about_all.new.marks.items) c.as_slice.ensures c.mark_all-then-is_about_all.ensures)))
