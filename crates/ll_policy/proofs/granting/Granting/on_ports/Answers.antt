use Rattle.std.proofs.Common.{rules, ◌∙◌, List, Bool, ap}
use Rattle.ll_rights.specs.NetRights.{has}
use Rattle.ll_rights.specs.declared.net.Net.{Net}
use Rattle.ll_rights.specs.CodeRights.{net_right}
use Rattle.ll_policy.specs.Chains.{places_of}
use Rattle.ll_policy.proofs.Marks.{marked, same_granting}
use Rattle.ll_policy.proofs.granting.Granting.on_ports.Goals as goal

pub returns : goal.returns
returns c =
    same_granting _ _ _ _ c.has-handles.ensures
    (ap (λ (on : List Bool). places_of on) (search rules) ∙ marked (λ (set : Net). has set (net_right c.args.right)) c.args.layer.now.on_ports.items)
