-- A record that is unmarked now was unmarked before. If it is one of the records so far, both versions find the same
-- of it.
use Rattle.std.proofs.Common.{◌<◌, ℕ}
use Rattle.ll_findings.specs.Alike.{FindsAs, MarksUnless}
use Rattle.ll_findings.proofs.marks.mark_differing.Given as goal

abbrev pub invariant-loop-index : goal.invariant-loop-index
invariant-loop-index l =
    let same : ℕ → Type 0 = λ at. at < l.index → FindsAs l.one at l.other in
    MarksUnless same l.fn.marks.items l.marks.items
