use Rattle.ll_audit.proofs.Endings.{bounded, ends_without_run, stays_quiet, stream, tells_why, writes_nothing, writes_report, wrong_words}
use Rattle.ll_audit.proofs.program.Resources.front_ending.Goals as goal

pub returns : goal.returns
returns g c =
    let out = stream g.O.Write.contents c.args.out.now c.write_to.new.out in
    let err = stream g.E.Write.contents c.args.err.now c.write_to.new.err in
    let before = g.S.Source.failed c.args.source.now in
    let after = g.S.Source.failed c.outcome_of.new.source in
    let came = c.outcome_of.result in
    let ending = c.write_to.result in
    let is = c.outcome_of.ensures in
    let ends = c.write_to.ensures in
    record {
      bounded = bounded out err ending came ends;
      report = writes_report out err _ _ before after ending came is ends;
      wrong_words = wrong_words out err _ _ before after ending came is ends;
      no_run = ends_without_run out err _ _ before after ending came is ends;
      nothing = writes_nothing out err _ _ before after ending came is ends;
      quiet = stays_quiet out err ending came ends;
      why = tells_why out err _ _ before after ending came is ends;
    }
