use Rattle.std.proofs.Common.{◌∙◌, ◌++◌, ap, codes, decimal}
use Rattle.ll_explain.specs.Buffers.{adding}
use Rattle.ll_explain.proofs.Appending.{appended_2}
use Rattle.ll_explain.proofs.conditions.push_unknown.Goals as goal

pub returns : goal.returns
returns c =
    appended_2 c.args.text.now _ _ _ _
    (c.push_numbered.ensures ∙ ap (λ n. adding c.args.text.now (codes "ABI " ++ decimal n ++ codes " does not know ")) c.number.ensures)
    c.push_unknown_rights.ensures
