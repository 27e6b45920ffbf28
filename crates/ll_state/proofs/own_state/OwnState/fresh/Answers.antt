-- No layer and no descriptor, as in a state that a trace begins with.
use Rattle.std.proofs.Common.{refl, arith}
use Rattle.ll_semantics.specs.States.{fresh}
use Rattle.ll_state.proofs.own_state.OwnState.fresh.Goals as goal

pub returns : goal.returns
unfolding fresh
returns c = λ tree layers. record {
  no_new_privs = refl;
  admin = refl;
  indices = rw c.new.ensures (λ k d below. absurd (omega arith));
  domain = rw c.new.ensures tt;
  descriptors = c.new-2.ensures;
}
