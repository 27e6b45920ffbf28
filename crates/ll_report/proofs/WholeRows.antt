-- A row that is held whole, in a buffer that had room for it, or in one with as much room as was counted.
use Rattle.std.proofs.Common.{◌≡◌, ◌∙◌, ◌+◌, ◌<◌, ◌≤◌, ◌^◌, ℕ, List, [], length, ap, arith, take_all}
use Rattle.std.specs.Prelude.{min}
use Rattle.ll_explain.specs.Buffers.{Buffered, adding, blank, most_counted}
use Rattle.ll_explain.proofs.Buffering.{added, counted, window}

pub held_there : (bytes : List ℕ) (room : ℕ) (text : Buffered) → text ≡ adding (blank room) bytes → text.room < 2 ^ 63 → text.count ≤ text.room
    → text.held ≡ bytes
held_there bytes room text is small fits =
    let all = is ∙ added room 0 0 [] bytes (omega arith) (omega arith) (omega arith) in
    let room_is : text.room ≡ room = ap (λ (b : Buffered). b.room) all in
    let count_is : text.count ≡ min (0 + length bytes) most_counted = ap (λ (b : Buffered). b.count) all in
    ap (λ (b : Buffered). b.held) is ∙ window room 0 bytes (omega arith) ∙ take_all room bytes (omega (arith, room_is, count_is, small, fits))

pub held_again : (bytes : List ℕ) (room new_room : ℕ) (first text : Buffered) → first ≡ adding (blank room) bytes → new_room ≡ first.count → new_room < 2 ^ 63
    → text ≡ adding (blank new_room) bytes → text.held ≡ bytes
held_again bytes room new_room first text is room_is small again =
    let count_is : first.count ≡ min (0 + length bytes) most_counted = ap (λ (b : Buffered). b.count) is ∙ counted room 0 bytes (omega arith) in
    ap (λ (b : Buffered). b.held) again ∙ window new_room 0 bytes (omega arith) ∙ take_all new_room bytes (omega (arith, room_is, count_is, small))
