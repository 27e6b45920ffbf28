use Rattle.std.proofs.Common.{rules, ◌∙◌}
use Rattle.ll_report.specs.Made.{text_of}
use Rattle.ll_report.proofs.Sending.{last_cut, last_sent, page_cut, page_written, row_cut, row_sent}
use Rattle.ll_report.proofs.paged.Paged.write_to.Goals as goal

pub returns-in_err-put_part-clause-beginning : goal.returns-in_err-put_part-clause-beginning
returns-in_err-put_part-clause-beginning g c =
    let written = g.O.Write.contents in
    let l = c.loop-index in
    row_cut (written c.args.out.now) (written l.out) (written c.put_part.new.out) c.args.self (g.R.Rows.made_of l.rows) l.index l.page.held
    l.invariant.0 l.invariant.2 (search rules) c.in_err-put_part.ensures.beginning

pub loop-index-preserved : goal.loop-index-preserved
loop-index-preserved g c =
    let written = g.O.Write.contents in
    let l = c.loop-index in (
      c.put_part.ensures.made ∙ l.invariant.0,
      c.in_ok-put_part.ensures.page,
      row_sent (written c.args.out.now) (written l.out) (written c.put_part.new.out) c.args.self (g.R.Rows.made_of l.rows) l.index l.page.held
          l.invariant.0 l.invariant.2 c.put_part.new.page.held (search rules) c.in_ok-put_part.ensures.sent,
    )

pub returns-in_err-put_part-2-clause-beginning : goal.returns-in_err-put_part-2-clause-beginning
returns-in_err-put_part-2-clause-beginning g c =
    let written = g.O.Write.contents in
    let l = c.loop-index in
    last_cut (written c.args.out.now) (written l.out) (written c.put_part-2.new.out) c.args.self (g.R.Rows.made_of l.rows) l.index l.page.held
    l.invariant.0 l.invariant.2 c.count-last.result (search rules) c.count-last.ensures c.in_err-put_part-2.ensures.beginning

pub returns-in_err-write_whole-clause-beginning : goal.returns-in_err-write_whole-clause-beginning
returns-in_err-write_whole-clause-beginning g c =
    let written = g.O.Write.contents in
    let l = c.loop-index in
    page_cut (written c.args.out.now) (written c.put_part-2.new.out) (written c.write_whole.new.out) (text_of c.args.self) c.put_part-2.new.page.held
    c.held.result.now c.held.ensures.bytes
    (last_sent (written c.args.out.now) (written l.out) (written c.put_part-2.new.out) c.args.self (g.R.Rows.made_of l.rows) l.index l.page.held
    l.invariant.0 l.invariant.2 c.count-last.result c.put_part-2.new.page.held (search rules) c.count-last.ensures c.in_ok-put_part-2.ensures.sent)
    c.in_err-write_whole.ensures.beginning

pub returns : goal.returns
returns g c =
    let written = g.O.Write.contents in
    let l = c.loop-index in
    let sent = last_sent (written c.args.out.now) (written l.out) (written c.put_part-2.new.out) c.args.self (g.R.Rows.made_of l.rows) l.index l.page.held
    l.invariant.0 l.invariant.2 c.count-last.result c.put_part-2.new.page.held (search rules) c.count-last.ensures c.in_ok-put_part-2.ensures.sent in
    record {
      whole = page_written _ _ _ _ _ c.held.result.now c.held.ensures.bytes sent c.in_ok-write_whole.ensures.whole;
      beginning = page_cut _ _ _ _ _ c.held.result.now c.held.ensures.bytes sent c.in_ok-write_whole.ensures.beginning;
    }
