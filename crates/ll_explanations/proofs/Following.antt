-- Layers object to the same by what a trail keeps as by the origins that it follows.
use Rattle.std.proofs.Common.{◌≡◌, ℕ, List, refl, ap}
use Rattle.ll_rights.specs.Rights.{truncate, ioctl_dev}
use Rattle.ll_tree.specs.Trees.{Entry}
use Rattle.ll_trace.specs.declared.op.Op.{Op}
use Rattle.ll_trace.specs.declared.op.Op.TheVariants as calls
use Rattle.ll_rules.specs.declared.errno.Errno.{Errno}
use Rattle.ll_semantics.specs.States.{Layer}
use Rattle.ll_reasons.specs.Explanations.{kept_by, objections_to}
use Rattle.ll_reasons.specs.Origins.{Origins}
use Rattle.ll_origins.specs.TraceOrigins.{Follows}
use Rattle.ll_origins.specs.declared.trail.ProcessOrigins.{ProcessOrigins}
use Rattle.ll_explanations.specs.Confined.{followed}

module _ (tree : List Entry) (domain : List Layer) (trail : ProcessOrigins) (o : Origins) (follows : Follows trail o) (error : Errno) (numbers : List ℕ) where
  pub objected : (op : Op) → objections_to tree domain (followed trail) op error numbers ≡ objections_to tree domain o op error numbers
  unfolding objections_to
  objected (calls.Ftruncate fd) = ap (kept_by truncate numbers) (follows.openings fd)
  objected (calls.Ioctl fd driver) = ap (kept_by ioctl_dev numbers) (follows.openings fd)
  objected op = refl
