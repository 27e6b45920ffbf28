-- What the caller does until all roots are handed out: each step keeps the pool, and the account of the roots is whole.
use Rattle.std.proofs.Common.{◌∙◌, ap, arith}
use Rattle.crossbeam_queue.specs.Passes.{view}
use Rattle.ll_process.specs.Jobs.{processes_of}
use Rattle.ll_pool.specs.declared.queue.Ledger.{Ledger}
use Rattle.ll_pool.proofs.Accounting.{account_of_roots}
use Rattle.ll_pool.proofs.workers.begin.Goals as goal

-- ---- no room for the first roots

pub returns-in_err-hand_out_all-clause-pool : goal.returns-in_err-hand_out_all-clause-pool
returns-in_err-hand_out_all-clause-pool g c = c.hand_out_all.ensures.pool

pub returns-in_err-hand_out_all-clause-queue : goal.returns-in_err-hand_out_all-clause-queue
returns-in_err-hand_out_all-clause-queue g c = rw c.hand_out_all.ensures.pool at c.hand_out_all.ensures.queue

pub returns-in_err-hand_out_all-clause-some_part : goal.returns-in_err-hand_out_all-clause-some_part
returns-in_err-hand_out_all-clause-some_part g c = omega (arith, c.hand_out_all.ensures.gave.parts, ap (λ (u : Ledger). u.parts) c.requires.begins)

pub returns-in_err-hand_out_all-clause-promised : goal.returns-in_err-hand_out_all-clause-promised
returns-in_err-hand_out_all-clause-promised g c = λ i d within. absurd (omega (arith, within, c.requires.none))

-- ---- a worker isn't started

pub start-requires-clause-queue : goal.start-requires-clause-queue
start-requires-clause-queue g c κs within = c.hand_out_all.ensures.queue

pub start-requires-clause-parts : goal.start-requires-clause-parts
start-requires-clause-parts g c κs within = omega (arith, c.hand_out_all.ensures.gave.parts, ap (λ (u : Ledger). u.parts) c.requires.begins, c.requires.workers)

pub start-requires-clause-of_case : goal.start-requires-clause-of_case
start-requires-clause-of_case g c κs within = c.hand_out_all.ensures.gave.its_case ∙ ap (λ (u : Ledger). u.case) c.requires.begins

pub start-requires-clause-none : goal.start-requires-clause-none
start-requires-clause-none g c κs within = c.requires.none

pub returns-in_err-start-clause-pool : goal.returns-in_err-start-clause-pool
returns-in_err-start-clause-pool g c = c.hand_out_all.ensures.pool

pub returns-in_err-start-clause-queue : goal.returns-in_err-start-clause-queue
returns-in_err-start-clause-queue g c = rw c.hand_out_all.ensures.pool at c.start.ensures.queue

pub returns-in_err-start-clause-some_part : goal.returns-in_err-start-clause-some_part
returns-in_err-start-clause-some_part g c = c.start.ensures.some_part

pub returns-in_err-start-clause-promised : goal.returns-in_err-start-clause-promised
returns-in_err-start-clause-promised g c = rw c.hand_out_all.ensures.pool at c.start.ensures.promised

-- ---- no room for the other roots

pub hand_out_all-requires-2-clause-queue : goal.hand_out_all-requires-2-clause-queue
hand_out_all-requires-2-clause-queue g c = c.start.ensures.queue

pub hand_out_all-requires-2-clause-parts : goal.hand_out_all-requires-2-clause-parts
hand_out_all-requires-2-clause-parts g c = c.start.ensures.some_part

pub returns-in_err-hand_out_all-2-clause-pool : goal.returns-in_err-hand_out_all-2-clause-pool
returns-in_err-hand_out_all-2-clause-pool g c = c.hand_out_all-2.ensures.pool ∙ c.hand_out_all.ensures.pool

pub returns-in_err-hand_out_all-2-clause-queue : goal.returns-in_err-hand_out_all-2-clause-queue
returns-in_err-hand_out_all-2-clause-queue g c = rw (c.hand_out_all-2.ensures.pool, c.hand_out_all.ensures.pool) at c.hand_out_all-2.ensures.queue

pub returns-in_err-hand_out_all-2-clause-some_part : goal.returns-in_err-hand_out_all-2-clause-some_part
returns-in_err-hand_out_all-2-clause-some_part g c = omega (arith, c.hand_out_all-2.ensures.gave.parts, c.start.ensures.some_part)

pub returns-in_err-hand_out_all-2-clause-promised : goal.returns-in_err-hand_out_all-2-clause-promised
returns-in_err-hand_out_all-2-clause-promised g c = rw c.hand_out_all.ensures.pool at c.start.ensures.promised

-- ---- all are handed out

pub returns-clause-pool : goal.returns-clause-pool
returns-clause-pool g c = c.hand_out_all-2.ensures.pool ∙ c.hand_out_all.ensures.pool

pub returns-clause-queue : goal.returns-clause-queue
returns-clause-queue g c = rw (c.hand_out_all-2.ensures.pool, c.hand_out_all.ensures.pool) at c.hand_out_all-2.ensures.queue

pub returns-clause-some_part : goal.returns-clause-some_part
returns-clause-some_part g c = omega (arith, c.hand_out_all-2.ensures.gave.parts, c.start.ensures.some_part)

pub returns-clause-parts : goal.returns-clause-parts
returns-clause-parts g c =
    omega (
      arith,
      c.hand_out_all-2.ensures.gave.parts,
      c.in_ok-start.ensures.parts,
      c.hand_out_all.ensures.gave.parts,
      ap (λ (u : Ledger). u.parts) c.requires.begins,
    )

pub returns-clause-promised : goal.returns-clause-promised
returns-clause-promised g c = rw c.hand_out_all.ensures.pool at c.start.ensures.promised

pub returns-clause-account : goal.returns-clause-account
returns-clause-account g c =
    account_of_roots g.N.Naming.case (processes_of c.args.roots.first.items) (processes_of c.args.roots.rest.items) (view c.args.me.now.pass)
    (view c.hand_out_all.new.self.pass) (view c.start.new.pass) (view c.hand_out_all-2.new.self.pass)
    c.new-pieces.result.items c.hand_out_all.new.pieces.items c.hand_out_all-2.new.pieces.items
    (ap (λ (u : Ledger). u.given) c.requires.begins)
    (ap (λ (u : Ledger). u.taken) c.requires.begins)
    c.new-pieces.ensures.items
    c.hand_out_all.ensures.gave
    c.in_ok-hand_out_all.ensures.seen
    c.start.ensures.given
    c.start.ensures.taken
    c.start.ensures.its_case
    c.hand_out_all-2.ensures.gave
    c.in_ok-hand_out_all-2.ensures.seen
