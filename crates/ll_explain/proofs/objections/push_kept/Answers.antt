use Rattle.std.proofs.Common.{◌∙◌, ap, decimal}
use Rattle.json.specs.Print.{escape}
use Rattle.ll_explain.specs.Buffers.{adding}
use Rattle.ll_explain.specs.Words.{word_for}
use Rattle.ll_explain.proofs.Appending.{appended_5}
use Rattle.ll_explain.proofs.objections.push_kept.Goals as goal

pub returns : goal.returns
returns c =
    appended_5 c.args.text.now _ _ _ _ _ _ _ _ _ _
    (c.push_words.ensures ∙ ap (adding c.args.text.now) (c.word_for.ensures ∙ ap word_for c.name.ensures))
    c.push_words-2.ensures (c.push_escaped.ensures ∙ ap (λ path. adding c.push_words-2.new.text (escape path)) c.path_opened.ensures) c.push_words-3.ensures
    (c.push_number.ensures ∙ ap (λ n. adding c.push_words-3.new.text (decimal n)) c.line_at.ensures)
