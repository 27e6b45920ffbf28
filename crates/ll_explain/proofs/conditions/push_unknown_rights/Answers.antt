use Rattle.std.proofs.Common.{◌∙◌, ap, sym}
use Rattle.ll_explain.specs.Buffers.{adding}
use Rattle.ll_explain.proofs.ConditionsSaid.{unknown_none, unknown_some}
use Rattle.ll_explain.proofs.conditions.push_unknown_rights.Goals as goal

pub returns-then-is_empty : goal.returns-then-is_empty
returns-then-is_empty c =
    c.push_words.ensures ∙ ap (adding c.args.text.now) (unknown_none c.args.rights (sym c.is_empty.ensures ∙ c.if-is_empty.true))

pub returns-else-is_empty : goal.returns-else-is_empty
returns-else-is_empty c =
    c.push_rights.ensures ∙ ap (adding c.args.text.now) (unknown_some c.args.rights (sym c.is_empty.ensures ∙ c.if-is_empty.false))
