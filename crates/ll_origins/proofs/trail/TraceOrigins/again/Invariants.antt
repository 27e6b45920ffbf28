-- each trail before the next one is there once more
use Rattle.ll_origins.proofs.Trailing.{FollowAlike}
use Rattle.ll_origins.proofs.trail.TraceOrigins.again.Given as goal

abbrev pub invariant-loop-trail : goal.invariant-loop-trail
invariant-loop-trail l = FollowAlike l.self.trails.items l.trails.items l.trail-index
