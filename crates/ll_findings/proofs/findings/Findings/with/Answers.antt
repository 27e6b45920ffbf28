-- What is found under a version more stands in front.
use Rattle.std.proofs.Common.{◌∙◌, ◌∷◌, Bool, List, ap, length, subst, sym}
use Rattle.std.proofs.lemmas.List.{nil_from_length}
use Rattle.ll_findings.specs.Alike.{FindsAs, MarksUnless}
use Rattle.ll_findings.specs.Findings.{FindingValue, Finds}
use Rattle.ll_findings.proofs.Marking.{first_marked, older_marked}
use Rattle.ll_findings.proofs.findings.Findings.with.Goals as goal
use Rattle.ll_findings.proofs.findings.Findings.with.Goals.{in-Some+in_ok-finding-in-Some, in-None+in_ok-resize-in-None+in_ok-finding-in-None}

pub invariant_of-result : goal.invariant_of-result
invariant_of-result g c =
    let finding : FindingValue = c.match-split_first.finding in
    let newer : List FindingValue = c.self.inside.all.items in
    let all : List FindingValue = c.in_ok-in_front.field-0.items in
    let marks : List Bool = c.match-split_first.marks.items in
    elim c.match-split_first.branch [
      | in-Some+in_ok-finding-in-Some w ↦
          let first : FindingValue = w.in-Some.newer.now in
          let before : List Bool = c.self.inside.marks.items in
          let older : MarksUnless (λ at. FindsAs w.in_ok-finding-in-Some.finding at first) before w.older.new.marks.items =
          w.in_ok-finding-in-Some.ensures.marks in
          older_marked finding first _ newer all before marks (sym c.deref.ensures.value ∙ w.in-Some.ensures.cases.0) c.in_ok-in_front.ensures
          c.self.invariant
          (subst (λ (one : FindingValue). MarksUnless (λ at. FindsAs one at first) before marks) (sym w.finding-is)
          (subst (λ (now : List Bool). MarksUnless (λ at. FindsAs w.in_ok-finding-in-Some.finding at first) before now)
          (ap (λ vec. vec.items) (sym w.marks-is)) older))
      | in-None+in_ok-resize-in-None+in_ok-finding-in-None w ↦
          first_marked finding newer all marks
          (nil_from_length newer (ap (λ (l : List FindingValue). length l) (sym c.deref.ensures.value) ∙ w.in-None.ensures.cases)) c.in_ok-in_front.ensures
    ]

pub returns : goal.returns
returns g c =
    let finding : FindingValue = c.match-split_first.finding in
    let case = c.args.case.now in
    let finds : FindingValue → Type 0 = λ (one : FindingValue). Finds c.args.explains case.tree case.abi case.records one in
    let front = c.in_ok-in_front.ensures ∙ ap (λ (newer : List FindingValue). finding ∷ newer) c.self.view_is in
    elim c.match-split_first.branch [
      | in-Some+in_ok-finding-in-Some w ↦ (finding, front, subst finds (sym w.finding-is) w.in_ok-finding-in-Some.ensures.finds)
      | in-None+in_ok-resize-in-None+in_ok-finding-in-None w ↦ (finding, front, subst finds (sym w.finding-is) w.in_ok-finding-in-None.ensures)
    ]
