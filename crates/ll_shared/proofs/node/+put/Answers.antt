use Rattle.std.proofs.Common.{ap, ◌∙◌, is_ok}
use Rattle.ll_shared.proofs.Behind.{seen}
use Rattle.ll_shared.proofs.Copies.{given, kept, known, uncopied}
use Rattle.ll_shared.proofs.node.+put.Goals as goal

pub Node::put-returns-in_err-make_mut-in-Fork-clause-err :
    goal.Node::put-returns-in_err-make_mut-in-Fork-clause-err
Node::put-returns-in_err-make_mut-in-Fork-clause-err g t c =
    rw c.in-Fork.is (uncopied c.in-Fork.four.value _ c.in-Fork.levels.count c.in-Fork.low c.make_mut.result
    c.from_residual-in_err-make_mut-in-Fork.result _ c.in_err-make_mut-in-Fork.was c.make_mut.follows.holds-at-none)

pub Node::put-returns-in_err-old-in-Fork-clause-err :
    goal.Node::put-returns-in_err-old-in-Fork-clause-err
Node::put-returns-in_err-old-in-Fork-clause-err g t c =
    rw c.in-Fork.is (kept c.in-Fork.four.value _ c.in-Fork.levels.count c.in-Fork.low c.from_residual-in_err-old-in-Fork.result _ _
    (c.make_mut.follows.holds c.put.new.self (ap is_ok c.in_ok-make_mut-in-Fork.was))
    c.in_ok-make_mut-in-Fork.ensures.value c.in_err-old-in-Fork.ensures.err)

pub Node::put-returns-in_ok-old-in-Fork-clause-old :
    goal.Node::put-returns-in_ok-old-in-Fork-clause-old
Node::put-returns-in_ok-old-in-Fork-clause-old g t c =
    rw c.in-Fork.is (known c.in-Fork.four.value _ c.in-Fork.levels.count c.in-Fork.low c.args.key c.in-Some-behind.rest _
    (seen c.in-Fork.levels.count c.in-Fork.low c.args.key _ c.in-Some-behind.rest c.behind.ensures c.in-Some-behind.is)
    c.in_ok-make_mut-in-Fork.ensures.value c.in_ok-old-in-Fork.ensures.old)

pub Node::put-returns-in_ok-old-in-Fork-clause-ok :
    goal.Node::put-returns-in_ok-old-in-Fork-clause-ok
Node::put-returns-in_ok-old-in-Fork-clause-ok g t c =
    λ q. rw c.in-Fork.is (c.prune.ensures q
    ∙ given c.in-Fork.four.value _ c.in-Fork.levels.count c.in-Fork.low _ _ c.args.key c.in-Some-behind.rest c.args.value
    (seen c.in-Fork.levels.count c.in-Fork.low c.args.key _ c.in-Some-behind.rest c.behind.ensures c.in-Some-behind.is)
    (c.make_mut.follows.holds c.put.new.self (ap is_ok c.in_ok-make_mut-in-Fork.was))
    c.in_ok-make_mut-in-Fork.ensures.value c.in_ok-old-in-Fork.ensures.ok q)
