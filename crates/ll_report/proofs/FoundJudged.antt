-- What a finding says is what is found by the definitions.
use Rattle.std.proofs.Common.{◌≡◌, ◌∙◌, ℕ, Bool, true, false, List, [], length, map, refl, ap, ap₂, cond}
use Rattle.std.specs.List.{range_with_len}
use Rattle.std.proofs.lemmas.List.Elements.{length_all_zip}
use Rattle.ll_rights.specs.declared.abi.Abi.{Abi}
use Rattle.ll_tree.specs.Trees.{Entry}
use Rattle.ll_trace.specs.declared.op.Record.{Record}
use Rattle.ll_semantics.specs.declared.answer.Answer.{Answer}
use Rattle.ll_findings.specs.Findings.{FindingValue, Finds}
use Rattle.ll_findings.specs.TakenRecords.{AreTaken, IsTaken}
use Rattle.ll_explain.specs.Explained.{text_at}
use Rattle.ll_explain.specs.Told.{text_told}
use Rattle.ll_explain.proofs.FindingSays.{said_as_judged}
use Rattle.ll_report.specs.declared.options.Shown.{Shown}
use Rattle.ll_report.specs.Found.{found_under}
use Rattle.ll_report.specs.Versions.{found_in}
use Rattle.ll_report.proofs.RowsSaid.{map_same}

texts_judged : (explains : Bool) (tree : List Entry) (abi : Abi) (records trace : List Record) (finding : FindingValue)
    → Finds explains tree abi records finding → AreTaken trace records
    → cond explains (map (text_told tree trace finding) (range_with_len 0 (length trace))) []
    ≡ cond explains (map (text_at tree abi records) (range_with_len 0 (length records))) []
texts_judged false tree abi records trace finding finds are = refl
texts_judged true tree abi records trace finding finds are =
    ap (λ n. map (text_told tree trace finding) (range_with_len 0 n)) (length_all_zip IsTaken trace records are)
    ∙ map_same (text_told tree trace finding) (text_at tree abi records) (range_with_len 0 (length records))
    (said_as_judged true tree abi records trace finding finds are)

pub found_as_judged : (shown : Shown) (tree : List Entry) (abi : Abi) (records trace : List Record) (finding : FindingValue)
    → Finds shown.explanations tree abi records finding → AreTaken trace records
    → found_in shown.explanations tree trace finding ≡ found_under shown tree records abi
found_as_judged shown tree abi records trace finding finds are =
    ap₂ (λ (answers : List Answer) (texts : List (List ℕ)). record { answers = answers; explanations = texts }) finds.answers
    (texts_judged shown.explanations tree abi records trace finding finds are)
