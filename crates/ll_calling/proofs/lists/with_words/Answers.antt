use Rattle.std.proofs.Common.{◌≡◌, Err, rules, sym, ◌∙◌}
use Rattle.serde_json.specs.View.{items_view}
use Rattle.ll_values.specs.Lists.{fold_items}
use Rattle.ll_values.proofs.Folds.{fold_next, fold_fault}
use Rattle.ll_calling.proofs.lists.with_words.Goals as goal

pub loop-word-preserved : goal.loop-word-preserved
loop-word-preserved g c =
    sym (fold_next g.W.Worded.more c.loop-word.all c.in_ok-all.all c.args.words.now c.loop-word.word-index
    c.word-item.result c.loop-word-test.true c.word-item.is c.in_ok-all.ensures) ∙ c.loop-word.invariant

pub returns-in_err-all : goal.returns-in_err-all
returns-in_err-all g c =
    let fails : fold_items g.W.Worded.more c.args.none (items_view c.args.words.now) ≡ Err c.in_err-all.field-0.0 =
    sym c.loop-word.invariant
    ∙ fold_fault g.W.Worded.more c.loop-word.all c.args.words.now c.loop-word.word-index c.word-item.result c.in_err-all.field-0.0
    c.loop-word-test.true c.word-item.is c.in_err-all.ensures in
    search rules
