use Rattle.std.proofs.Common.{◌∙◌, get_or, sym, arith}
use Rattle.ll_rights.specs.declared.fs.FsRight.TheVariants as code
use Rattle.ll_rights.specs.CodeRights.{fs_right}
use Rattle.ll_rights.specs.Rights as files
use Rattle.ll_explanations.specs.Lacked.{passes}
use Rattle.ll_explanations.proofs.Lacking.{all_before, none, none_before, none_more, one_more}
use Rattle.ll_explanations.proofs.RightIndices.{bit_of-item, same_length}
use Rattle.ll_explanations.proofs.missing.passing.Goals as goal
use Rattle.ll_explanations.proofs.missing.passing.Goals.{then-does_pass, else-does_pass}

pub loop-right-init : goal.loop-right-init
loop-right-init c = none_before (passes c.args.test) (record { 0 = 0 }) none

pub loop-right-preserved : goal.loop-right-preserved
loop-right-preserved c =
    let index = c.loop-right.right-index in
    let one = fs_right (get_or c.all-right-items.result.now index code.Execute) in
    let eq = bit_of-item c.all-right-items.result.now c.all-right-items.ensures index c.loop-right-test.true in
    let test = passes c.args.test in
    elim c.if-does_pass.branch [
      | then-does_pass w ↦ rw (w.rights-is, w.union-rights.ensures, w.set.ensures)
          (one_more test c.loop-right.rights index one eq (sym c.does_pass.ensures ∙ w.if-does_pass.true) c.loop-right.invariant)
      | else-does_pass w ↦
          rw w.rights-is (none_more test c.loop-right.rights index one eq (sym c.does_pass.ensures ∙ w.if-does_pass.false) c.loop-right.invariant)
    ]

pub returns : goal.returns
returns c =
    let items = c.all-right-items.result.now in
    let listed = c.all-right-items.ensures in
    all_before (passes c.args.test) c.loop-right.rights c.loop-right.right-index
    (omega (arith, c.loop-right-test.false, same_length fs_right items files.all_rights listed)) c.loop-right.invariant
