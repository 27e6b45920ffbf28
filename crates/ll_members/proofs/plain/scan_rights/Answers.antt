use Rattle.std.proofs.Common.{rules, ◌∷◌, true, false, ◌∙◌, ap}
use Rattle.json.specs.Print.{quoted}
use Rattle.ll_members.specs.Slots.{no_rights}
use Rattle.ll_members.proofs.PlainLemmas.{rest_unescaped, unescaped_behind, none_named, one_more_named, all_named}
use Rattle.ll_members.proofs.plain.scan_rights.Goals as goal

pub returns-in-Some : goal.returns-in-Some
returns-in-Some c =
    let line = c.args.line.now in
    rw c.none.ensures (all_named false line line c.in-Some.rest.now no_rights (none_named line) c.in-Some.ensures)

pub loop-others-init : goal.loop-others-init
loop-others-init c =
    let line = c.args.line.now in (
      rw (c.with-rights.ensures, c.none-2.ensures)
          (one_more_named false line line c.in_ok-name.name.now c.in_ok-name.rest.now no_rights (none_named line) c.in_ok-name.ensures),
      rest_unescaped line (quoted c.in_ok-name.name.now) c.in_ok-name.rest.now c.in_ok-name.ensures c.requires,
      search rules,
    )

pub loop-others-preserved : goal.loop-others-preserved
loop-others-preserved c =
    let l = c.loop-others in (
      rw c.with-rights-in-Some-behind.ensures
          (one_more_named true c.args.line.now l.rest.now c.in_ok-name-2.name.now c.in_ok-name-2.after.now l.rights l.invariant.0
          (c.in-Some-behind.ensures ∙ ap (λ text. 44 ∷ text) c.in_ok-name-2.ensures)),
      rest_unescaped c.in-Some-behind.others.now (quoted c.in_ok-name-2.name.now) c.in_ok-name-2.after.now c.in_ok-name-2.ensures
          (unescaped_behind l.rest.now c.in-Some-behind.others.now 44 c.in-Some-behind.ensures l.invariant.1),
      search rules,
    )

pub returns : goal.returns
returns c =
    all_named true c.args.line.now c.loop-others.rest.now c.in_ok-behind.field-0.now c.loop-others.rights c.loop-others.invariant.0
    c.in_ok-behind.ensures
