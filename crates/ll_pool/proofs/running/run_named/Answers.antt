-- What the caller and the workers did is all: each process is in one piece.
use Rattle.std.proofs.Common.{◌≡◌, ◌<◌, ◌++◌, ℕ, length, min, sym, ap, subst, ◌∙◌, arith}
use Rattle.crossbeam_queue.specs.Passes.{view}
use Rattle.ll_process.specs.Cases.{CaseValue}
use Rattle.ll_trace.specs.Processes.{IsNumbered, process_count, roots, times}
use Rattle.ll_process.specs.Jobs.{processes_of}
use Rattle.ll_pool.specs.declared.queue.TheConstants.{ROOM}
use Rattle.ll_pool.specs.Gathered.{processes_in, ArePiecesOf}
use Rattle.ll_pool.proofs.AllOnce.{all_once, before_cut, after_cut}
use Rattle.ll_pool.proofs.running.run_named.Goals as goal

pub judge_by_workers-requires-clause-queue : goal.judge_by_workers-requires-clause-queue
judge_by_workers-requires-clause-queue g c κs within = c.in_ok-queue.ensures.queue

pub judge_by_workers-requires-clause-begins : goal.judge_by_workers-requires-clause-begins
judge_by_workers-requires-clause-begins g c κs within = c.in_ok-queue.ensures.knows

pub judge_by_workers-requires-clause-first : goal.judge_by_workers-requires-clause-first
judge_by_workers-requires-clause-first g c κs within =
    before_cut c.args.case.now g.N.Naming.case (min (length c.in_ok-first.first.items) ROOM) c.in_ok-first.first.items c.beyond_room.new.jobs.items
    c.requires.named c.in_ok-rest.ensures.items c.in_ok-first.ensures.of_case

pub judge_by_workers-requires-clause-rest : goal.judge_by_workers-requires-clause-rest
judge_by_workers-requires-clause-rest g c κs within =
    after_cut c.args.case.now g.N.Naming.case (min (length c.in_ok-first.first.items) ROOM) c.in_ok-first.first.items c.in_ok-rest.rest.items
    c.requires.named c.in_ok-rest.ensures.tail c.in_ok-first.ensures.of_case

pub judge_by_workers-requires-clause-workers : goal.judge_by_workers-requires-clause-workers
judge_by_workers-requires-clause-workers g c κs within = omega (arith, c.min-started.ensures, c.requires.workers)

pub drain-requires-clause-queue : goal.drain-requires-clause-queue
drain-requires-clause-queue g c = c.in_ok-pass.ensures.queue

pub drain-requires-clause-whole : goal.drain-requires-clause-whole
drain-requires-clause-whole g c = c.in_ok-pass.ensures.parts

pub drain-requires-clause-of_case : goal.drain-requires-clause-of_case
drain-requires-clause-of_case g c = c.in_ok-pass.ensures.account.its_case

pub returns-clause-of_case : goal.returns-clause-of_case
returns-clause-of_case g c =
    subst (λ (m : CaseValue). ArePiecesOf m c.drain.new.pieces.items) (sym c.requires.named)
    (c.in_ok-drain.ensures.account (processes_of c.beyond_room.new.jobs.items ++ processes_of c.in_ok-rest.rest.items) c.in_ok-pass.ensures.account).pieces_of

pub returns-clause-each_once : goal.returns-clause-each_once
returns-clause-each_once g c =
    subst (λ (m : CaseValue). (process : ℕ) → process < process_count m.records → times process (processes_in c.drain.new.pieces.items) ≡ 1)
    (sym c.requires.named)
    (all_once g.N.Naming.case (min (length c.in_ok-first.first.items) ROOM) c.in_ok-first.first.items c.beyond_room.new.jobs.items c.in_ok-rest.rest.items
    (view c.drain.new.pass) c.drain.new.pieces.items
    (subst (λ (m : CaseValue). IsNumbered m.records) c.requires.named c.in_ok-first.ensures.numbered)
    c.in_ok-rest.ensures.items
    c.in_ok-rest.ensures.tail
    (c.in_ok-first.ensures.roots ∙ ap (λ (m : CaseValue). roots m.records) c.requires.named)
    c.in_ok-drain.ensures.balanced
    (c.in_ok-drain.ensures.account (processes_of c.beyond_room.new.jobs.items ++ processes_of c.in_ok-rest.rest.items) c.in_ok-pass.ensures.account))
