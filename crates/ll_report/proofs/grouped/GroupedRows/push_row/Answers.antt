use Rattle.std.proofs.Common.{◌≡◌, ◌∙◌, ◌<◌, ◌++◌, ℕ, Global, List, [], Option, Some, Vec, ap, arith, get_or, length, sym}
use Rattle.std.specs.Prelude.{IfSome, is_some}
use Rattle.std.proofs.lemmas.List.{get_or_read}
use Rattle.ll_explain.specs.Buffers.{adding}
use Rattle.ll_explain.proofs.Appending.{appended_2}
use Rattle.ll_explain.proofs.Buffering.{adding_nothing}
use Rattle.ll_report.specs.Counted.{by_kind, counts_of, grouped}
use Rattle.ll_report.specs.Made.{Made, row_at}
use Rattle.ll_report.proofs.Grouping.{length-counts, length-grouped, no_row_here, row_here}
use Rattle.ll_report.proofs.grouped.GroupedRows.push_row.Goals as goal

-- a row of these rows, which are as they are or by kind
module _ (head : ℕ → ℕ → List ℕ) (made : Made) (counts : Option (Vec ℕ Global)) (all : Made) (is : grouped head (is_some counts) made ≡ all)
    (index : ℕ) (within : index < length all.shown) where
  below : index < length made.shown
  below = omega (arith, within, ap (λ (m : Made). length m.shown) is, length-grouped head (is_some counts) made)

  module _ (kept : Vec ℕ Global) (some : counts ≡ Some kept) (are : IfSome counts (λ counts. counts.items ≡ counts_of made.shown))
      (count : ℕ) (here : count ≡ get_or kept.items index count) where
    counted : kept.items ≡ counts_of made.shown
    counted = rw some at are

    read : count ≡ get_or kept.items index 0
    read = get_or_read kept.items index count (omega (arith, below, length-counts made.shown kept.items counted)) here 0

    by : by_kind head made ≡ all
    by = ap (λ (found : Option (Vec ℕ Global)). grouped head (is_some found) made) (sym some) ∙ is

    no_row : count ≡ 0 → row_at all index ≡ []
    no_row none = sym (ap (λ (m : Made). row_at m index) by) ∙ no_row_here head made kept.items counted index below count read none

    row : (count ≡ 0 → ⊥) → row_at all index ≡ head count (get_or made.lines index 0) ++ row_at made index
    row some = sym (ap (λ (m : Made). row_at m index) by) ∙ row_here head made kept.items counted index below count read some

pub returns-then-records-eq0-clause-row : goal.returns-then-records-eq0-clause-row
returns-then-records-eq0-clause-row g c =
    adding_nothing c.args.text.now
    ∙ ap (adding c.args.text.now) (sym (no_row g.F.RowForm.head c.self.inside.rows c.self.inside.counts c.args.self.now c.self.view_is
    c.args.index c.requires c.in-Some.counts c.in-Some.is c.self.invariant c.index-records.result.now c.index-records.ensures c.if-records-eq0.true))

pub line-requires : goal.line-requires
line-requires g c =
    below g.F.RowForm.head c.self.inside.rows c.self.inside.counts c.args.self.now c.self.view_is c.args.index c.requires

pub push_row-requires-2 : goal.push_row-requires-2
push_row-requires-2 g c =
    below g.F.RowForm.head c.self.inside.rows c.self.inside.counts c.args.self.now c.self.view_is c.args.index c.requires

pub returns-clause-row : goal.returns-clause-row
returns-clause-row g c =
    let made : Made = c.self.inside.rows in
    let n : ℕ = c.index-records.result.now in
    appended_2 c.args.text.now c.push_head.new.text c.push_row-2.new.text (g.F.RowForm.head n c.line.result) (row_at made c.args.index)
    c.push_head.ensures c.in_ok-push_row-2.ensures.row
    ∙ ap (λ (line : ℕ). adding c.args.text.now (g.F.RowForm.head n line ++ row_at made c.args.index)) c.line.ensures
    ∙ ap (adding c.args.text.now) (sym (row g.F.RowForm.head made c.self.inside.counts c.args.self.now c.self.view_is
    c.args.index c.requires c.in-Some.counts c.in-Some.is c.self.invariant n c.index-records.ensures c.if-records-eq0.false))
