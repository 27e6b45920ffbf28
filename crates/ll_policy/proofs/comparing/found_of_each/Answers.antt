use Rattle.std.proofs.Common.{rules, ◌∙◌, map, Vec, Global, Ok}
use Rattle.std.specs.Fn.{FnReturnsAtPair}
use Rattle.ll_rights.specs.declared.fs.FsRight.{FsRight as Code}
use Rattle.ll_rights.specs.Rights.{FsRight}
use Rattle.ll_rights.specs.CodeRights.{fs_right}
use Rattle.ll_policy.specs.Found.{said}
use Rattle.ll_policy.specs.Policies.{rules_of}
use Rattle.ll_policy.proofs.Lists.{zip_more, zip_all, zip_named}
use Rattle.ll_policy.proofs.comparing.found_of_each.Goals as goal

pub loop-right-preserved : goal.loop-right-preserved
loop-right-preserved g c =
    let says = λ (right : Code) (told : Vec g.row.T.Denot Global). FnReturnsAtPair g.F.Fn c.args.compare
    (said c.args.asked (fs_right right) (map rules_of c.args.old.now))
    (said c.args.asked (fs_right right) (map rules_of c.args.new.now)) (Ok told) in
    zip_more says c.all-right-items.result.now c.loop-right.right-index _ c.loop-right.found.items c.push.new.self.items
    c.in_ok-compare.field-0 c.loop-right-test.true c.loop-right.invariant
    (record {
      first = c.deref.result;
      second = c.deref-in-loop-right.result;
      shows = (c.deref.ensures.value ∙ c.in_ok-old.ensures, c.deref-in-loop-right.ensures.value ∙ c.in_ok-new.ensures);
      says = record { met = search rules };
    })
    c.in_ok-push.ensures.items

pub returns : goal.returns
returns g c =
    let says = λ (right : FsRight) (told : Vec g.row.T.Denot Global). FnReturnsAtPair g.F.Fn c.args.compare
    (said c.args.asked right (map rules_of c.args.old.now)) (said c.args.asked right (map rules_of c.args.new.now)) (Ok told) in
    zip_named says fs_right c.all-right-items.result.now _ c.loop-right.found.items c.all-right-items.ensures
    (zip_all (λ right told. says (fs_right right) told) c.all-right-items.result.now c.loop-right.right-index c.loop-right.found.items
    c.loop-right-test.false c.loop-right.invariant)
