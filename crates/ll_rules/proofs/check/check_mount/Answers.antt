use Rattle.std.proofs.Common.{◌∙◌, ℕ, ap, refl, not}
use Rattle.ll_rights.specs.Rights.{is_empty}
use Rattle.ll_rules.specs.Layers.{RulesOn}
use Rattle.ll_rules.proofs.Domains.{refuses_mount, noted_more, noted_all, refusing_mount_by_name}
use Rattle.ll_rules.proofs.check.check_mount.Goals as goal

pub loop-index-preserved : goal.loop-index-preserved
unfolding refuses_mount
loop-index-preserved c =
    let tells = c.handles_files-handles.ensures ∙ ap (λ (layer : RulesOn ℕ). not (is_empty layer.handled_files)) c.layer_of.ensures in
    noted_more (refuses_mount c.args.layers.now) c.layers-ids.result.now c.loop-index.index _ c.loop-index.refusing c.noted-refusing.result _
    c.handles_files-handles.result c.loop-index-test.true tells c.noted-refusing.ensures c.loop-index.invariant.so_far c.loop-index.invariant.below

pub returns : goal.returns
returns c =
    noted_all (refuses_mount c.args.layers.now) c.layers-ids.result.now c.loop-index.index c.loop-index.refusing _ c.loop-index-test.false
    c.loop-index.invariant.so_far
    ∙ refusing_mount_by_name c.args.layers.now c.layers-ids.result.now
    ∙ rw c.layers-ids.ensures.value refl
