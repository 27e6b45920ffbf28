use Rattle.std.proofs.Common.{List, ℕ, [], get_or, arith}
use Rattle.ll_report.specs.Printed.{texts_of}
use Rattle.ll_report.proofs.PageByPage.{put}
use Rattle.ll_report.proofs.pages.put_page.Goals as goal

pub returns : goal.returns
returns g c =
    let text : List ℕ = get_or (texts_of g.P.Printer.printed c.args.row.now) c.args.version [] in
    let found = put c.args.page.now.room c.args.skip text c.restart.new.self c.print.new.text (omega (arith, c.ranges.skip.fits)) c.restart.ensures
    c.print.ensures in
    record { held = found.0; room = found.1 }
