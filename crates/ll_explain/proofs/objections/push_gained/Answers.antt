use Rattle.ll_explain.proofs.Appending.{appended_5}
use Rattle.ll_explain.proofs.objections.push_gained.Goals as goal

pub returns : goal.returns
returns c =
    appended_5 c.args.text.now _ _ _ _ _ _ _ _ _ _ c.push_node.ensures c.push_words.ensures c.push_rights.ensures
    c.push_words-2.ensures c.push_node-2.ensures
