-- What comes back is what the push gave back, and the pass knows what the push made it know.
use Rattle.ll_pool.proofs.hand.QueueHand.enqueue.Goals as goal

pub returns-then-is_some-clause-full : goal.returns-then-is_some-clause-full
returns-then-is_some-clause-full g c = c.push-back.ensures.full

pub returns-then-is_some-clause-gives : goal.returns-then-is_some-clause-gives
returns-then-is_some-clause-gives g c = c.push-back.ensures.gives

pub returns-else-is_some-clause-full : goal.returns-else-is_some-clause-full
returns-else-is_some-clause-full g c = c.push-back.ensures.full

pub returns-else-is_some-clause-gives : goal.returns-else-is_some-clause-gives
returns-else-is_some-clause-gives g c = c.push-back.ensures.gives
