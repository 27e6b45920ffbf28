-- The owner that the map has is that of the entries before.
use Rattle.std.proofs.Common.{◌≡◌, ◌∙◌}
use Rattle.std.specs.FinMap.{get}
use Rattle.ll_trace.specs.Kept.{owner_of, past}
use Rattle.ll_trace.proofs.KeptLemmas.{owner_kept}
use Rattle.ll_trace.proofs.reader.Reader.owner.Goals as goal

pub returns : goal.returns
returns c =
    let kept : get c.args.self.now.owners c.args.pid ≡ owner_of (past c.args.self.now) c.args.pid = owner_kept c.args.self.now c.args.pid c.requires in
    c.get.ensures ∙ kept
