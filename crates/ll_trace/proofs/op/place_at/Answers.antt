-- The place of a path is that of its text.
use Rattle.std.proofs.Common.{◌≡◌, ap, ◌∙◌}
use Rattle.ll_tree.specs.Trees.{place}
use Rattle.ll_trace.proofs.op.place_at.Goals as goal

pub returns : goal.returns
returns c =
    let found : c.place_of.result ≡ place c.args.tree.now c.as_str.result.now = c.place_of.ensures.place in
    let text : c.as_str.result.now ≡ c.args.path.now = c.as_str.ensures.text in
    found ∙ ap (place c.args.tree.now) text
