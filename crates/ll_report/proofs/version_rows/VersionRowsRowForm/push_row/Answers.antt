use Rattle.std.proofs.Common.{◌∙◌, ◌++◌, Bool, List, ℕ, [], ap, codes, sym}
use Rattle.ll_explain.specs.Buffers.{adding}
use Rattle.ll_explain.proofs.Appending.{appended_4}
use Rattle.ll_explain.proofs.Buffering.{adding_nothing}
use Rattle.ll_report.specs.Rows.{behind_line, told_as}
use Rattle.ll_report.specs.Printed.{printed_under, text_printed, verdict_printed}
use Rattle.ll_report.specs.Spans.{versions_text}
use Rattle.ll_report.specs.declared.spans.Form.TheVariants.{Answers, Explanations}
use Rattle.ll_report.proofs.version_rows.VersionRowsRowForm.push_row.Goals as goal

pub returns-then-not-row : goal.returns-then-not-row
returns-then-not-row c =
    let row = c.args.row.now in
    let s = row.found in
    let answers : List ℕ = versions_text Answers row.oldest (printed_under verdict_printed s.tree.now s.records.now s.findings.now s.index) in
    let texts : List ℕ = versions_text Explanations row.oldest (printed_under text_printed s.tree.now s.records.now s.findings.now s.index) in
    let told : List ℕ = told_as row.shown.kinds row.record.now in
    appended_4 c.args.text.now c.push_told.new.text c.push_versions.new.text c.push_words.new.text c.push_words.new.text told answers (codes "\n") []
    c.push_told.ensures c.in_ok-push_versions.ensures c.push_words.ensures (adding_nothing c.push_words.new.text)
    ∙ ap (λ (shows : Bool). adding c.args.text.now (told ++ answers ++ codes "\n" ++ behind_line shows texts)) (sym c.if-not-row.true)

pub returns : goal.returns
returns c =
    let row = c.args.row.now in
    let s = row.found in
    let answers : List ℕ = versions_text Answers row.oldest (printed_under verdict_printed s.tree.now s.records.now s.findings.now s.index) in
    let texts : List ℕ = versions_text Explanations row.oldest (printed_under text_printed s.tree.now s.records.now s.findings.now s.index) in
    let told : List ℕ = told_as row.shown.kinds row.record.now in
    appended_4 c.args.text.now c.push_told.new.text c.push_versions.new.text c.push_words.new.text c.push_versions-2.new.text told answers (codes "\n") texts
    c.push_told.ensures c.in_ok-push_versions.ensures c.push_words.ensures c.in_ok-push_versions-2.ensures
    ∙ ap (λ (shows : Bool). adding c.args.text.now (told ++ answers ++ codes "\n" ++ behind_line shows texts)) (sym c.if-not-row.false)
