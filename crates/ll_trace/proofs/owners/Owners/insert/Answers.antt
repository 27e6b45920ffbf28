use Rattle.std.proofs.Common.{◌∙◌, arith}
use Rattle.std.proofs.lemmas.List.{length-set}
use Rattle.ll_trace.proofs.RecentOwners.{recent_now}
use Rattle.ll_trace.proofs.owners.Owners.insert.Goals as goal

pub invariant_of-self : goal.invariant_of-self
invariant_of-self c = rw c.in_err-make_table.ensures.err c.self.invariant

pub invariant_of-self-in_err-insert : goal.invariant_of-self-in_err-insert
invariant_of-self-in_err-insert c =
    rw c.in_err-insert.ensures.err
    (λ _. c.in_ok-make_table.ensures.size, λ at one there. c.self.invariant.1 at one (c.in_ok-make_table.ensures.same at one there))

pub invariant_of-self-2 : goal.invariant_of-self-2
invariant_of-self-2 c =
    let size = c.in_ok-make_table.ensures.size in (
      λ _. length-set c.make_table.new.table.items c.slot_of.result _ ∙ size,
      recent_now c.self.inside.map c.insert.new.self (record { pid = c.args.pid; owner = c.args.owner }) c.in_ok-insert.ensures.each
          c.make_table.new.table.items c.slot_of.result (omega (arith, c.slot_of.ensures.within, size)) c.slot_of.ensures.at
          (λ at one there. c.self.invariant.1 at one (c.in_ok-make_table.ensures.same at one there)),
    )
