use Rattle.std.proofs.Common.{◌≡◌, drop}
use Rattle.serde_json.specs.View.{items_view}
use Rattle.ll_values.specs.Lists.{fold_items}
use Rattle.ll_calling.proofs.lists.with_words.Given as goal

abbrev pub invariant-loop-word : goal.invariant-loop-word
invariant-loop-word g l =
    fold_items g.W.Worded.more l.all (items_view (drop l.word-index l.words)) ≡ fold_items g.W.Worded.more l.fn.none (items_view l.words)
