use Rattle.std.proofs.Common.{codes, decimal}
use Rattle.ll_explain.proofs.Appending.{appended_4}
use Rattle.ll_report.proofs.version_rows.VersionRowsRowForm.push_head.Goals as goal

pub returns : goal.returns
returns c =
    appended_4 c.args.text.now c.push_number.new.text c.push_words.new.text c.push_number-2.new.text c.push_words-2.new.text
    (decimal c.args.records) (codes " ") (decimal c.args.line) (codes " ")
    c.push_number.ensures c.push_words.ensures c.push_number-2.ensures c.push_words-2.ensures
