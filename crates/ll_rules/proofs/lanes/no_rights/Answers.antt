use Rattle.std.proofs.Common.{◌≡◌, ℕ, false, get_or, replicate, inl, inr}
use Rattle.std.proofs.lemmas.Bool.{cases_lt}
use Rattle.std.proofs.lemmas.Simd.{length-replicate, get_or-replicate}
use Rattle.ll_rights.specs.Rights.{FsRight, has}
use Rattle.ll_rules.specs.declared.domain.TheConstants.{MOST_LAYERS}
use Rattle.ll_rules.specs.Lanes.{lane}
use Rattle.ll_rules.proofs.LaneSets.{nothing_in, nothing_past}
use Rattle.ll_rules.proofs.lanes.no_rights.Goals as goal

nothing_anywhere : (index : ℕ) (right : FsRight) → has (lane (replicate MOST_LAYERS 0) index) right ≡ false
nothing_anywhere index right = elim (cases_lt index MOST_LAYERS) [
  | inl inside ↦ nothing_in (get_or (replicate MOST_LAYERS 0) index 0) right (get_or-replicate MOST_LAYERS index 0 0 inside)
  | inr past ↦ nothing_past (replicate MOST_LAYERS 0) index right (length-replicate {A = ℕ} MOST_LAYERS 0) past
]

pub returns : goal.returns
returns c = nothing_anywhere
