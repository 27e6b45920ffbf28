use Rattle.ll_shared.proofs.node.FourClone.clone.Goals as goal

-- src/node.rt:147:5
pub returns : goal.returns
returns g c = record {
  cases = record {
    zero = c.in_ok-again.ensures;
    one = c.in_ok-again-2.ensures;
    two = c.in_ok-again-3.ensures;
    three = c.in_ok-again-4.ensures;
  };
}
