-- what is unmarked is none of the indices so far
use Rattle.std.proofs.Common.{◌≢◌, ℕ}
use Rattle.std.specs.List.{AllWithin}
use Rattle.ll_findings.specs.Alike.{MarksUnless}
use Rattle.ll_findings.proofs.marks.mark_all.Given as goal

abbrev pub invariant-loop-index : goal.invariant-loop-index
invariant-loop-index l =
    let unlisted : ℕ → Type 0 = λ at. AllWithin (λ index. index ≢ at) l.indices 0 l.index-index in
    MarksUnless unlisted l.fn.marks.items l.marks.items
