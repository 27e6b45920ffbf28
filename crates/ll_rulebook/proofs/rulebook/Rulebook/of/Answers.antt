use Rattle.std.proofs.Common.{◌≡◌, List, [], None, refl, arith}
use Rattle.ll_rights.specs.declared.abi.Abi.{Abi}
use Rattle.ll_tree.specs.Trees.{Entry}
use Rattle.ll_trace.specs.declared.op.Record.{Record}
use Rattle.ll_semantics.specs.States.{fresh}
use Rattle.ll_semantics.specs.CallContexts.{world_after, world_at}
use Rattle.ll_rulebook.specs.declared.pass.Pass.{Pass}
use Rattle.ll_rulebook.specs.Stores.{held_by}
use Rattle.ll_rulebook.specs.Passes.{HasSettled}
use Rattle.ll_rulebook.proofs.rulebook.Rulebook.of.Goals as goal

-- before the first record
settled_none : (tree : List Entry) (abi : Abi) (records : List Record) (pass : Pass) → pass.tree.now ≡ tree → pass.abi ≡ abi →
    pass.store.rulesets ≡ [] → pass.store.layers ≡ [] → pass.tables.held.items ≡ [] → HasSettled tree abi records 0 pass []
unfolding held_by world_at world_after fresh
settled_none tree abi records pass of_tree of_abi rulesets layers tables = record {
  of_tree = of_tree;
  of_abi = of_abi;
  sound = record {
    indices = λ p q eq is. absurd (let none : held_by pass.tables.held.items p q ≡ None = rw tables refl in cc);
    rulesets = rw rulesets (λ k default within. absurd (omega arith));
    layers = rw layers (λ k default within. absurd (omega arith));
  };
  agrees = record { rulesets = rw rulesets tt; count = rw tables refl; held = λ p q. rw tables refl };
  few = rw layers (omega arith);
  counted = refl;
  fits = λ k r outcome eq noted. absurd (cc);
}

pub settle_all-requires : goal.settle_all-requires
settle_all-requires c =
    settled_none c.new-pass.result.tree.now c.new-pass.result.abi c.args.trace.now c.new-pass.result refl refl c.new-pass.ensures.rulesets
    c.new-pass.ensures.layers c.new-pass.ensures.tables
