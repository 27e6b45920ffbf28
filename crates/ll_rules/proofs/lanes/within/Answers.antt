use Rattle.std.proofs.Common.{◌≡◌, ℕ, ◌^◌, ◌<◌, ◌&&◌, List, get_or, replicate, refl, ◌∙◌, bit_and}
use Rattle.std.proofs.lemmas.Simd.{length-replicate, get_or-replicate}
use lib.Lanes.{zip2}
use Rattle.ll_rights.specs.declared.fs.Fs.{Fs}
use Rattle.ll_rights.specs.Rights.{FsRight, has, other, bit_of}
use Rattle.ll_rules.specs.declared.domain.TheConstants.{MOST_LAYERS}
use Rattle.ll_rules.specs.Lanes.{set_of, lane}
use Rattle.ll_rules.proofs.LaneSets.{by_lane, AreLanes, both_bits, alike_in_lane, nothing_past}
use Rattle.ll_rules.proofs.lanes.within.Goals as goal

lanes_within : (xs : List ℕ) (w : ℕ) (set : Fs) → AreLanes xs → w < 2 ^ 32
    → ((one : FsRight) → bit_of one < bit_of other → has (set_of w) one ≡ has set one)
    → (index : ℕ) (right : FsRight) → has (lane (zip2 bit_and xs (replicate MOST_LAYERS w)) index) right ≡ (has (lane xs index) right && has set right)
lanes_within xs w set whole fits same index right =
    by_lane bit_and xs (replicate MOST_LAYERS w) whole.0 (length-replicate MOST_LAYERS w) index right (has (lane xs index) right && has set right)
    (λ inside.
    rw (get_or-replicate MOST_LAYERS index w 0 inside)
    (both_bits (get_or xs index 0) w right fits ∙ alike_in_lane (get_or xs index 0) w set right (λ b. b) same))
    (λ past. rw (nothing_past xs index right whole.0 past) refl)

pub returns : goal.returns
returns c = lanes_within c.args.lanes c.bits_of.result c.args.rights c.fits-lanes c.bits_of.type_inv c.bits_of.ensures
