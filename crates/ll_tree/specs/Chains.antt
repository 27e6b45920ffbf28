-- The hash of a text, its slot and its mark.
use Rattle.std.specs.Prelude.{ℕ, List, ◌*◌, ◌/◌, ◌%◌, ◌^◌, length, drop, fold, bit_xor, slice_index_or}
use Rattle.std.specs.Int.{w64, rotate_left, from_le_bytes}
use Rattle.std.specs.Simd.{first_chunks}
use Rattle.ll_tree.specs.declared.chains.TheConstants.{SPREAD, CROWDED}

-- a hash with one word more
unfoldable pub mixed : ℕ → ℕ → ℕ
mixed hash word = (bit_xor (rotate_left w64 hash 23) word * SPREAD) % 2 ^ 64

-- the hash of a text: of its length, its words of eight bytes and the bytes that remain
unfoldable pub text_hash : List ℕ → ℕ
text_hash text =
    fold mixed (fold (λ hash word. mixed hash (from_le_bytes w64 word)) (length text) (first_chunks 8 (length text / 8) text)) (drop (length text / 8 * 8) text)

-- the mark of a text
unfoldable pub text_mark : List ℕ → ℕ
text_mark text = text_hash text / 2 ^ 32

-- the slot of a mark
unfoldable pub slot_in : ℕ → ℕ
slot_in mark = mark / 2 ^ 15

-- the head that a slot has
abbrev pub head_in : List ℕ → ℕ → ℕ
head_in heads slot = slice_index_or heads slot CROWDED
