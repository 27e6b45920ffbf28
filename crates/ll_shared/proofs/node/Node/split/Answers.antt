use Rattle.std.proofs.Common.{◌==◌, Some, if◌then◌else◌, ap, ◌∙◌}
use Rattle.std.proofs.lemmas.Result.{IfOk-weaker}
use Rattle.ll_shared.specs.Nodes.{behind, found_in}
use Rattle.ll_shared.proofs.Behind.{fewer, split_fork}
use Rattle.ll_shared.proofs.node.Node.split.Goals as goal

pub less-requires : goal.less-requires
less-requires g c = fewer _ _ c.args.low c.args.key c.common-levels.ensures.agree c.requires

pub returns : goal.returns
returns g c =
    IfOk-weaker c.forked.result _ _
    (λ fork told q. told q ∙ ap (λ o. if q == c.args.key then Some c.args.value else o)
    (split_fork c.common-levels.result.count c.less.result.count c.args.skipped.count c.args.low _
    (found_in c.in_ok-try_clone.field-0.value) q c.less.ensures c.above.ensures
    ∙ ap (λ f. behind c.args.skipped.count c.args.low (found_in f) q) c.in_ok-try_clone.ensures))
    c.forked.ensures
