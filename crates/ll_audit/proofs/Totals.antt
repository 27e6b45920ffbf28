-- The last lines of a report.
use Rattle.std.proofs.Common.{◌≡◌, ◌∙◌, ℕ, Bool, ◌+◌, List, [], ◌∷◌, ◌++◌, ap, ap₂, length, map, refl, sym}
use Rattle.std.specs.Prelude.{nat_lt}
use Rattle.std.specs.List.{flat_map, range_with_len}
use Rattle.std.proofs.lemmas.List.{length-map}
use Rattle.ll_rights.specs.declared.abi.Abi.{Abi}
use Rattle.ll_rights.specs.Abis.{number_of}
use Rattle.ll_tree.specs.Trees.{Entry}
use Rattle.ll_trace.specs.declared.op.Record.{Record}
use Rattle.ll_report.specs.declared.options.Options.{Options}
use Rattle.ll_rights.specs.AbiRanges.{versions_in}
use Rattle.ll_rights.proofs.AbiRanges.{versions_from}
use Rattle.ll_report.specs.Made.{Told}
use Rattle.ll_report.specs.Found.{Found}
use Rattle.ll_report.specs.Rows.{are_several, shown_text, total_under_text, totals_from}
use Rattle.ll_audit.specs.ShownReports.{IsTextReport, findings, found_at, total_at}

totals_numbered : (several : Bool) (n : ℕ) (found : Abi → Found) (abis : List Abi) → map number_of abis ≡ range_with_len n (length abis)
    → totals_from several n (map found abis) ≡ flat_map (λ abi. total_under_text several (number_of abi) (found abi)) abis
unfolding totals_from
totals_numbered several n found [] are = refl
totals_numbered several n found (abi ∷ newer) are =
    let first : number_of abi ≡ n = cc in
    let others : map number_of newer ≡ range_with_len (n + 1) (length newer) = cc in
    ap₂ (λ (number : ℕ) (rest : List ℕ). total_under_text several number (found abi) ++ rest) (sym first) (totals_numbered several (n + 1) found newer others)

pub one_total_each : (options : Options) (tree : List Entry) (records : List Record) (report : Told) → IsTextReport options tree records report
    → report.text ≡ shown_text options.shown (number_of options.abis.oldest) (findings options tree records) records
    ++ flat_map (total_at options tree records) (versions_in options.abis)
one_total_each options tree records report is =
    is.text
    ∙ ap (λ (totals : List ℕ). shown_text options.shown (number_of options.abis.oldest) (findings options tree records) records ++ totals)
    (ap (λ (n : ℕ). totals_from (nat_lt 1 n) (number_of options.abis.oldest) (findings options tree records))
    (length-map (versions_in options.abis) (found_at options tree records))
    ∙ totals_numbered (are_several (versions_in options.abis)) (number_of options.abis.oldest) (found_at options tree records)
    (versions_in options.abis) (versions_from options.abis))
