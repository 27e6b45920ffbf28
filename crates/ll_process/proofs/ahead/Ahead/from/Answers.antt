-- The records that are looked at are those from a position on.
use Rattle.std.proofs.Common.{◌≡◌, ℕ, ◌+◌, ◌-◌, ◌<◌, ◌≤◌, List, Some, get_or, length, drop, sym, ap, ◌∙◌, refl, arith}
use Rattle.std.specs.Prelude.{slice_get}
use Rattle.std.specs.List.{slice_range}
use Rattle.std.proofs.lemmas.List.{get_or-take, get_or-drop, length-take, length-drop}
use Rattle.std.proofs.lemmas.Option.{get_or_from_slice_get, slice_get_read, slice_get_within}
use Rattle.ll_process.proofs.ahead.Ahead.from.Goals as goal

in_range : (xs : List ℕ) (from end at x : ℕ) → from ≤ at → at < end → slice_get xs at ≡ Some x → slice_get (slice_range xs from end) (at - from) ≡ Some x
in_range xs from end at x low high there =
    let within : at < length xs = slice_get_within xs at x there in
    let back : from + (at - from) ≡ at = omega (arith, low) in
    let long : at - from < length (slice_range xs from end) = omega (arith, low, high, within, length-take (end - from) (drop from xs), length-drop from xs) in
    slice_get_read (slice_range xs from end) _ (at - from) x refl long
    (sym (get_or-take (end - from) (drop from xs) (at - from) x (omega (arith, low, high))
    ∙ get_or-drop from xs (at - from) x ∙ ap (λ (k : ℕ). get_or xs k x) back ∙ get_or_from_slice_get xs at x x there))

pub invariant_of-result-clause-calm : goal.invariant_of-result-clause-calm
invariant_of-result-clause-calm c = λ calm at index low high there.
    c.forks_among.ensures calm (at - c.args.from) index
    (in_range c.args.self.indices.now c.args.from (c.min.result + c.args.from) at index low high there)
