use Rattle.std.proofs.Common.{◌≡◌, ℕ, ◌<◌, ◌≤◌, List, length, get_or, sym, ap, ◌∙◌, arith, inl, inr}
use Rattle.std.proofs.lemmas.Bool.{cases_lt}
use Rattle.ll_rights.specs.Rights.{FsRight, has}
use Rattle.ll_rules.specs.declared.domain.LayerId.{LayerId}
use Rattle.ll_rules.specs.Layers.{RulesOn, handles}
use Rattle.ll_rules.specs.KeptLayers.{domain_of}
use Rattle.ll_rules.specs.Lanes.{lane, layer_in}
use Rattle.ll_rules.proofs.LaneSets.{nothing_in}
use Rattle.ll_rules.proofs.DomainLanes.{layer_in-past, nothing_handled}
use Rattle.ll_rules.proofs.domain.Stack.handled_in.Goals as goal

module _ (layers : List (RulesOn ℕ)) (ids : List LayerId) (row : List ℕ) (count : ℕ) (all : length ids ≤ count) (rest : (index : ℕ) → count ≤ index
    → get_or row index 0 ≡ 0) where
  -- a row of what the layers handle, all indices together
  all_handled : ((index : ℕ) → index < count → (right : FsRight) → has (lane row index) right ≡ handles (layer_in (domain_of layers ids) index) right)
      → (index : ℕ) (right : FsRight) → has (lane row index) right ≡ handles (layer_in (domain_of layers ids) index) right
  all_handled so_far index right = elim (cases_lt index count) [
    | inl inside ↦ so_far index inside right
    | inr past ↦
        nothing_in (get_or row index 0) right (rest index past)
        ∙ sym (ap (λ (rules : RulesOn ℕ). handles rules right) (layer_in-past layers ids index (omega arith)) ∙ nothing_handled ℕ right)
  ]

pub returns : goal.returns
returns c = all_handled c.args.self.now.layers.now c.args.self.now.ids.now c.loop-index.row c.loop-index.index
    (omega arith) c.loop-index.invariant.rest c.loop-index.invariant.so_far
