use Rattle.std.proofs.Common.{rules, ◌≡◌, ◌∙◌, ◌+◌, ◌<◌, ◌^◌, List, ℕ, [], true, get_or, take, length, ap, arith, subst}
use Rattle.std.specs.Prelude.{bytes_eq}
use Rattle.ll_report.specs.Printed.{texts_of}
use Rattle.ll_report.proofs.PageByPage.{all_same, holds, more_same}
use Rattle.ll_report.proofs.pages.Pages.are_same.Goals as goal

pub returns-then-held-room : goal.returns-then-held-room
returns-then-held-room g c =
    let l = c.loop-first in
    let a : List ℕ = get_or (texts_of g.P.Printer.printed c.args.row.now) c.args.one [] in
    let b : List ℕ = get_or (texts_of g.P.Printer.printed c.args.row.now) c.args.other [] in
    let same : bytes_eq c.held.result.now c.held-in-loop-first.result.now ≡ true = search rules in
    all_same c.room-room.result l.skip a b c.held.result.now c.held-in-loop-first.result.now
    (holds _ _ l.skip a _ _ c.held.ensures.bytes c.put_page.ensures.held l.invariant.first)
    (holds _ _ l.skip b _ _ c.held-in-loop-first.ensures.bytes c.put_page-in-loop-first.ensures.held l.invariant.second) l.invariant.same same
    (omega (arith, c.if-held-room.true, ap length c.held-in-loop-first-2.ensures.bytes, ap length c.held.ensures.bytes, c.room-room.ensures.room))

pub loop-first-preserved : goal.loop-first-preserved
loop-first-preserved g c =
    let l = c.loop-first in
    let a : List ℕ = get_or (texts_of g.P.Printer.printed c.args.row.now) c.args.one [] in
    let b : List ℕ = get_or (texts_of g.P.Printer.printed c.args.row.now) c.args.other [] in
    let same : bytes_eq c.held.result.now c.held-in-loop-first.result.now ≡ true = search rules in
    let sum : (l.skip + c.room-room.result < 2 ^ 64) × (c.in-Some.next ≡ l.skip + c.room-room.result) = c.in-Some.ensures in
    let next : l.skip + c.room-room.result ≡ c.in-Some.next = omega (arith, sum.1, c.room-room.ensures.room) in
    record {
      first = c.put_page.ensures.room ∙ l.invariant.first;
      second = c.put_page-in-loop-first.ensures.room ∙ l.invariant.second;
      same = subst (λ (n : ℕ). take n a ≡ take n b) next
          (more_same c.room-room.result l.skip a b c.held.result.now c.held-in-loop-first.result.now
          (holds _ _ l.skip a _ _ c.held.ensures.bytes c.put_page.ensures.held l.invariant.first)
          (holds _ _ l.skip b _ _ c.held-in-loop-first.ensures.bytes c.put_page-in-loop-first.ensures.held l.invariant.second) l.invariant.same same);
    }
