use Rattle.std.proofs.Common.{rules, sym, subst, ◌≡◌, ◌∙◌, map, List, IfOk}
use Rattle.ll_rights.specs.CodeRights.{net_right}
use Rattle.ll_policy.specs.Chains.{Granting}
use Rattle.ll_policy.specs.Granted.{granting_on_ports}
use Rattle.ll_policy.specs.Policies.{rules_of}
use Rattle.ll_policy.specs.Regions.{single, TellsPassing}
use Rattle.ll_policy.proofs.Lists.{made_by}
use Rattle.ll_policy.proofs.regions.ports_with.Goals as goal

pub returns : goal.returns
returns c =
    let says = granting_on_ports (net_right c.args.right) in
    let old : c.deref.result.now ≡ map says (map rules_of c.args.old.now) =
    c.deref.ensures.value ∙ made_by _ says rules_of (λ layer told said. rw (sym said.shows) (search rules)) _ _ c.in_ok-old.ensures in
    let new : c.deref-2.result.now ≡ map says (map rules_of c.args.new.now) =
    c.deref-2.ensures.value ∙ made_by _ says rules_of (λ layer told said. rw (sym said.shows) (search rules)) _ _ c.in_ok-new.ensures in
    subst (λ (layers : List Granting). IfOk c.passing_of.result (TellsPassing single c.args.count layers (map says (map rules_of c.args.new.now)))) old
    (subst (λ (layers : List Granting). IfOk c.passing_of.result (TellsPassing single c.args.count c.deref.result.now layers)) new c.passing_of.ensures)
