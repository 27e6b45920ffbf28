use Rattle.std.proofs.Common.{◌≡◌, ap, refl}
use Rattle.json.specs.Tree.{json_tokens}
use Rattle.ll_report.specs.Versions.{answered}
use Rattle.ll_json.specs.Reports.{total_json, total_with}
use Rattle.ll_json.proofs.Writing.{wrote_as}
use Rattle.ll_json.proofs.totals.write_total.Goals as goal

pub returns : goal.returns
returns c =
    let made = c.of-totals.ensures in
    let totals = c.of-totals.result in
    let is : total_with c.args.abi totals.all totals.allowed totals.refused totals.moot ≡ total_json c.args.abi (answered c.args.finding.now) =
    rw (made.all, made.allowed, made.refused, made.moot) refl in
    wrote_as c.args.out.now c.write_counts.new.out _ _ (ap json_tokens is) c.write_counts.ensures
