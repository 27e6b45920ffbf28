use Rattle.std.proofs.Common.{rules, ◌∙◌, List, Bool, ap}
use Rattle.ll_rights.specs.Rights.{has}
use Rattle.ll_rights.specs.declared.fs.Fs.{Fs}
use Rattle.ll_rights.specs.CodeRights.{fs_right}
use Rattle.ll_policy.specs.Chains.{places_of}
use Rattle.ll_policy.proofs.Marks.{marked, same_granting}
use Rattle.ll_policy.proofs.granting.Granting.on_objects.Goals as goal

pub returns : goal.returns
returns c =
    same_granting _ _ _ _ c.handles_of-handles.ensures
    (ap (λ (on : List Bool). places_of on) (search rules) ∙ marked (λ (set : Fs). has set (fs_right c.args.right)) c.args.layer.now.on_objects.items)
