-- The text that is kept is the path's, and has the shape of one.
use Rattle.std.proofs.Common.{◌≡◌, ◌∙◌}
use Rattle.std.specs.Prelude.{string_bytes}
use Rattle.ll_trace.proofs.path_text.PathText.as_str.Goals as goal

pub returns-clause-text : goal.returns-clause-text
returns-clause-text c =
    let kept : c.as_str.result.now ≡ string_bytes c.self.inside.text = c.as_str.ensures.value in
    kept ∙ c.self.view_is

pub returns-clause-shape : goal.returns-clause-shape
returns-clause-shape c = rw (← c.self.view_is) c.self.invariant
