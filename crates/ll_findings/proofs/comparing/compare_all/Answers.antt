use Rattle.std.proofs.Common.{◌∙◌, ap, length}
use Rattle.rayon.proofs.ListFacts.{IfOk-then}
use Rattle.ll_semantics.proofs.Steps.{length-judged}
use Rattle.ll_process.specs.Cases.{CaseValue}
use Rattle.ll_findings.proofs.Chunking.{whole_chunks}
use Rattle.ll_findings.proofs.comparing.compare_all.Goals as goal

pub returns : goal.returns
returns g c =
    let cv : CaseValue = c.args.case.now in
    let ends = c.whole-whole.ensures.end ∙ ap length c.requires ∙ length-judged cv.tree cv.abi cv.records in
    let chunks = c.in_ok-chunks.chunks.items in
    let whole = whole_chunks cv _ _ _ _ chunks c.whole-whole.ensures.case c.whole-whole.ensures.from ends c.in_ok-chunks.ensures in
    IfOk-then c.join_changes.result _ _ c.join_changes.ensures (λ all joined.
    joined cv c.args.base.now chunks (length cv.records) c.in_ok-parts.ensures whole)
