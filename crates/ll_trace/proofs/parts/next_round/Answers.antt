-- The parts before those that are left are the next ones, and there is one of them if there was one.
use Rattle.std.proofs.Common.{◌≡◌, arith, take-append-drop}
use Rattle.ll_trace.proofs.parts.next_round.Goals as goal

pub returns-clause-next : goal.returns-clause-next
returns-clause-next g c =
    rw (c.replace.ensures.value, c.replace.ensures.after, c.in_ok-others.ensures.items, c.in_ok-others.ensures.tail)
    (take-append-drop c.min-many.result c.args.parts.now.items)

pub returns-clause-some : goal.returns-clause-some
returns-clause-some g c = λ some.
    let next : c.replace.result ≡ c.split_off.new.self = c.replace.ensures.value in
    rw next (omega (arith, some, c.in_ok-others.ensures.len, c.min-many.ensures, c.saturating_mul.ensures, c.len.ensures, c.requires))
