-- The path that is kept apart is the one that is read.
use Rattle.std.proofs.Common.{◌≡◌, Ok, ap, sym, ◌∙◌, rules}
use Rattle.ll_lines.specs.Readers.{Fails}
use Rattle.ll_trace.specs.Members.{path_in}
use Rattle.ll_trace.proofs.path_text.SecondPath.read.Goals as goal

pub returns : goal.returns
returns c =
    let read : path_in c.args.text.now ≡ Ok c.in_ok-path.path = c.in_ok-path.ensures in
    let kept = c.in_ok-path-2.ensures.ok in
    read ∙ ap Ok (sym kept)

pub returns-in_err-path : goal.returns-in_err-path
returns-in_err-path c =
    let read : Fails c.in_err-path.field-0.0 (path_in c.args.text.now) = c.in_err-path.ensures in
    search rules
