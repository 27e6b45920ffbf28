use Rattle.std.proofs.Common.{◌∙◌, ℕ, ap, sym, Vec, Global}
use Rattle.ll_policy.specs.Chains.{is_file_in}
use Rattle.ll_policy.specs.Choices.{is_further}
use Rattle.ll_policy.proofs.Lists.{range_kept, range_left}
use Rattle.ll_policy.proofs.deciding.chain_of.Goals as goal
use Rattle.ll_policy.proofs.deciding.chain_of.Goals.{then-is_further+in_ok-push, else-is_further}

pub loop-object-preserved : goal.loop-object-preserved
loop-object-preserved c =
    let extra = is_further (is_file_in c.args.files.now) c.args.always.now c.args.file c.args.old.now c.args.new.now in
    elim c.if-is_further.branch [
      | then-is_further+in_ok-push w ↦ range_kept extra c.loop-object.object c.args.always.now c.loop-object.chain.items c.if-is_further.chain.items
          c.loop-object.invariant (sym w.if-is_further.ensures) (ap (λ (v : Vec ℕ Global). v.items) w.chain-is ∙ w.in_ok-push.ensures.items)
      | else-is_further w ↦ ap (λ (v : Vec ℕ Global). v.items) w.chain-is
          ∙ range_left extra c.loop-object.object c.args.always.now c.loop-object.chain.items c.loop-object.invariant (sym w.if-is_further.ensures)
    ]
