-- Each worker gets one part of the pass, and its handle is of this queue.
use Rattle.std.proofs.Common.{◌≡◌, refl, ap, ◌∙◌, rules, arith}
use Rattle.std.proofs.lemmas.List.Elements.{All-push}
use denote.Param.Send.{sendable}
use Rattle.std.proofs.Crossing.{crosses}
use Rattle.ll_pool.specs.declared.queue.Ledger.{Ledger}
use Rattle.ll_pool.proofs.Crossing.{hand_send, worked_send}
use Rattle.std.proofs.result.Result.TheSendSync as result
use Rattle.ll_pool.proofs.workers.start.Goals as goal

pub loop-started-init : goal.loop-started-init
loop-started-init g c = record {
  queue = c.requires.queue;
  given = refl;
  taken = refl;
  its_case = c.requires.of_case;
  count = c.requires.none;
  parts = omega (arith, c.requires.none);
  promised = λ i d within. absurd (omega (arith, within, c.requires.none));
}

pub returns-in_err-reserve-clause-some_part : goal.returns-in_err-reserve-clause-some_part
returns-in_err-reserve-clause-some_part g c =
    omega (arith, c.loop-started.invariant.parts, c.loop-started.invariant.count, c.requires.parts, c.loop-started-test.true)

pub returns-in_err-reserve-clause-promised : goal.returns-in_err-reserve-clause-promised
returns-in_err-reserve-clause-promised g c = rw c.reserve.ensures.items c.loop-started.invariant.promised

pub split-requires-clause-parts : goal.split-requires-clause-parts
split-requires-clause-parts g c =
    omega (arith, c.loop-started.invariant.parts, c.loop-started.invariant.count, c.requires.parts, c.loop-started-test.true)

pub returns-in-Err-clause-given : goal.returns-in-Err-clause-given
returns-in-Err-clause-given g c = ap (λ (u : Ledger). u.given) c.split.ensures.knows ∙ c.loop-started.invariant.given

pub returns-in-Err-clause-taken : goal.returns-in-Err-clause-taken
returns-in-Err-clause-taken g c = ap (λ (u : Ledger). u.taken) c.split.ensures.knows ∙ c.loop-started.invariant.taken

pub returns-in-Err-clause-its_case : goal.returns-in-Err-clause-its_case
returns-in-Err-clause-its_case g c = ap (λ (u : Ledger). u.case) c.split.ensures.knows ∙ c.loop-started.invariant.its_case

pub returns-in-Err-clause-some_part : goal.returns-in-Err-clause-some_part
returns-in-Err-clause-some_part g c =
    omega (
      arith,
      ap (λ (u : Ledger). u.parts) c.split.ensures.knows,
      c.loop-started.invariant.parts,
      c.loop-started.invariant.count,
      c.requires.parts,
      c.loop-started-test.true,
    )

pub returns-in-Err-clause-promised : goal.returns-in-Err-clause-promised
returns-in-Err-clause-promised g c = rw c.reserve.ensures.items c.loop-started.invariant.promised

pub spawn_with-requires-send-F : goal.spawn_with-requires-send-F
spawn_with-requires-send-F g c κs within = search (hand_send, sendable) depth 60

pub spawn_with-requires-send-T : goal.spawn_with-requires-send-T
spawn_with-requires-send-T g c κs within = search (worked_send, result.the_send, crosses, sendable) depth 60

pub loop-started-preserved : goal.loop-started-preserved
loop-started-preserved g c = record {
  queue = c.split.ensures.queue;
  given = ap (λ (u : Ledger). u.given) c.split.ensures.knows ∙ c.loop-started.invariant.given;
  taken = ap (λ (u : Ledger). u.taken) c.split.ensures.knows ∙ c.loop-started.invariant.taken;
  its_case = ap (λ (u : Ledger). u.case) c.split.ensures.knows ∙ c.loop-started.invariant.its_case;
  count = search rules;
  parts = search rules;
  promised =
      let on_queue = All-push (λ handle. handle.promise.queue.now ≡ c.args.pool.now.queue) c.loop-started.handles.items c.in-Ok.handle in
      rw (c.push_reserved.ensures.items, c.reserve.ensures.items) (on_queue c.loop-started.invariant.promised (search rules));
}
