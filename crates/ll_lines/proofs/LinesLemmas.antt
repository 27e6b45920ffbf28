-- A file is its first line and the lines of the bytes after it.
use Rattle.std.proofs.Common.{◌≡◌, ℕ, zero, suc, ◌+◌, ◌-◌, ◌<◌, true, false, List, [], ◌∷◌, length, take, drop, refl, ap, arith, eqb, slice_index, add-one, ◌≤◌}
use Rattle.std.proofs.Common.{Bool, ◌++◌, get_or, cond, sym, ◌∙◌, length-drop}
use Rattle.std.proofs.lemmas.Bool.{false_from_ne_true, eqb-true}
use Rattle.std.proofs.lemmas.List.{take_rest, append-nil, take-append-drop, take_more, get_or-drop}
use Rattle.memchr.specs.Find.{NoneBefore, Nowhere, Passes, is_byte}
use Rattle.ll_lines.specs.Lines.{lines, with_first, filled_from, Line, numbered_from, is_blank}
use Rattle.ll_lines.specs.LineByLine.{line_feeds}
use Rattle.std.specs.Prelude.{not, filter}
use Rattle.std.proofs.lemmas.List.Elements.{filter-append}
use Rattle.std.proofs.lemmas.List.Sums.{sum_by-cons}
use Rattle.std.proofs.Math.Seq.{drop-cons}

-- the byte is no line feed where none is below it
abbrev pub NoLineFeed : List ℕ → ℕ → Type 0
NoLineFeed bytes end = (k : ℕ) → k < end → eqb (slice_index bytes k) 10 ≡ true → ⊥

first_is_none : (b : ℕ) (bytes : List ℕ) (end : ℕ) → NoLineFeed (b ∷ bytes) (suc end) → eqb b 10 ≡ false
first_is_none b bytes end none = false_from_ne_true (eqb b 10) (none 0 (omega arith))

rest_has_none : (b : ℕ) (bytes : List ℕ) (end : ℕ) → NoLineFeed (b ∷ bytes) (suc end) → NoLineFeed bytes end
rest_has_none b bytes end none = λ k lt. none (suc k) (omega arith)

pub lines-uncut : (b : ℕ) (bytes : List ℕ) → NoLineFeed (b ∷ bytes) (suc (length bytes)) → lines (b ∷ bytes) ≡ (b ∷ bytes) ∷ []
unfolding lines
lines-uncut b [] none = rw (first_is_none b [] 0 none) refl
lines-uncut b (x ∷ xs) none =
    let others : lines (x ∷ xs) ≡ (x ∷ xs) ∷ [] = lines-uncut x xs (rest_has_none b (x ∷ xs) (suc (length xs)) none) in
    rw (first_is_none b (x ∷ xs) (suc (length xs)) none) (ap (with_first b) others)

pub lines-cut : (bytes : List ℕ) (end : ℕ) → end < length bytes → eqb (slice_index bytes end) 10 ≡ true → NoLineFeed bytes end
    → lines bytes ≡ take end bytes ∷ lines (drop (suc end) bytes)
unfolding lines
lines-cut [] end lt here none = absurd (omega arith)
lines-cut (b ∷ bytes) zero lt here none = rw here refl
lines-cut (b ∷ bytes) (suc end) lt here none =
    let others : lines bytes ≡ take end bytes ∷ lines (drop (suc end) bytes) = lines-cut bytes end (omega arith) here (rest_has_none b bytes end none) in
    rw (first_is_none b bytes end none) (ap (with_first b) others)

-- as the code says it
pub cut_at : (bytes : List ℕ) (end : ℕ) → NoneBefore (Passes (is_byte 10) bytes) 0 (length bytes) end → Passes (is_byte 10) bytes end
    → lines bytes ≡ take end bytes ∷ lines (take (length bytes - (end + 1)) (drop (end + 1) bytes))
cut_at bytes end none here = rw (take_rest, add-one) (lines-cut bytes end none.high here (λ k lt. none.before k (omega arith) lt))

pub uncut : (bytes : List ℕ) → 0 < length bytes → Nowhere (Passes (is_byte 10) bytes) 0 (length bytes) → lines bytes ≡ bytes ∷ lines []
unfolding lines
uncut [] some none = absurd (omega arith)
uncut (b ∷ bytes) some none = lines-uncut b bytes (λ k lt. none k (omega arith) (omega arith))

-- the lines that are left, line after line
pub filled_from-empty : (n : ℕ) (bytes : List ℕ) → length bytes ≡ 0 → filled_from n bytes ≡ []
unfolding lines
filled_from-empty n [] none = refl
filled_from-empty n (b ∷ bytes) none = absurd (omega arith)

-- ---- the lines of a file that is cut behind a line feed

-- the lines of a byte and of those behind it, by whether it is a line feed
some_more : (feed : Bool) (b : ℕ) (xs : List (List ℕ)) → 0 < length xs → 0 < length (cond feed ([] ∷ xs) (with_first b xs))
some_more true b xs some = omega arith
some_more false b [] some = absurd (omega arith)
some_more false b (x ∷ xs) some = omega arith

more-append : (feed : Bool) (b : ℕ) (xs ys : List (List ℕ)) → 0 < length xs
    → cond feed ([] ∷ xs ++ ys) (with_first b (xs ++ ys)) ≡ cond feed ([] ∷ xs) (with_first b xs) ++ ys
more-append true b xs ys some = refl
more-append false b [] ys some = absurd (omega arith)
more-append false b (x ∷ xs) ys some = refl

more-length : (feed : Bool) (b : ℕ) (xs : List (List ℕ)) → 0 < length xs → length (cond feed ([] ∷ xs) (with_first b xs)) ≡ cond feed 1 0 + length xs
more-length true b xs some = omega arith
more-length false b [] some = absurd (omega arith)
more-length false b (x ∷ xs) some = omega arith

-- what ends in a line feed has a line
some_lines : (front : List ℕ) → 0 < length (lines (front ++ 10 ∷ []))
unfolding lines
some_lines [] = omega arith
some_lines (b ∷ front) = some_more (eqb b 10) b (lines (front ++ 10 ∷ [])) (some_lines front)

lines-append : (front after : List ℕ) → lines (front ++ 10 ∷ after) ≡ lines (front ++ 10 ∷ []) ++ lines after
unfolding lines
lines-append [] after = refl
lines-append (b ∷ front) after = rw (lines-append front after) (more-append (eqb b 10) b (lines (front ++ 10 ∷ [])) (lines after) (some_lines front))

-- and as many lines as line feeds
length-lines : (front : List ℕ) → length (lines (front ++ 10 ∷ [])) ≡ line_feeds (front ++ 10 ∷ [])
unfolding lines
length-lines [] = refl
length-lines (b ∷ front) = more-length (eqb b 10) b (lines (front ++ 10 ∷ [])) (some_lines front)
    ∙ (ap (λ n. cond (eqb b 10) 1 0 + n) (length-lines front) ∙ sym (sum_by-cons (λ x. cond (eqb x 10) 1 0) b (front ++ 10 ∷ [])))

numbered-append : (n : ℕ) (xs ys : List (List ℕ)) → numbered_from n (xs ++ ys) ≡ numbered_from n xs ++ numbered_from (n + length xs) ys
numbered-append n [] ys = let same : n + 0 ≡ n = omega arith in rw same refl
numbered-append n (x ∷ xs) ys =
    let same : n + 1 + length xs ≡ n + suc (length xs) = omega arith in
    ap (λ others. record { number = n; bytes = x } ∷ others) (numbered-append (n + 1) xs ys ∙ ap (λ m. numbered_from (n + 1) xs ++ numbered_from m ys) same)

pub filled-append : (n : ℕ) (front after : List ℕ)
    → filled_from n (front ++ 10 ∷ after) ≡ filled_from n (front ++ 10 ∷ []) ++ filled_from (n + line_feeds (front ++ 10 ∷ [])) after
filled-append n front after =
    let kept = λ (line : Line). not (is_blank line.bytes) in
    let first = lines (front ++ 10 ∷ []) in
    ap (λ ls. filter kept (numbered_from n ls)) (lines-append front after) ∙ (ap (filter kept) (numbered-append n first (lines after))
    ∙ (filter-append kept (numbered_from n first) (numbered_from (n + length first) (lines after))
    ∙ ap (λ m. filter kept (numbered_from n first) ++ filter kept (numbered_from (n + m) (lines after))) (length-lines front)))

-- as the code says it: the first line feed of what is behind an index
pub filled-cut : (bytes : List ℕ) (from end n : ℕ) → from ≤ length bytes
    → NoneBefore (Passes (is_byte 10) (take (length bytes - from) (drop from bytes))) 0 (length (take (length bytes - from) (drop from bytes))) end
    → Passes (is_byte 10) (take (length bytes - from) (drop from bytes)) end → filled_from n bytes ≡ filled_from n (take (from + end + 1) bytes)
    ++ filled_from (n + line_feeds (take (from + end + 1) bytes)) (drop (from + end + 1) bytes)
filled-cut bytes from end n within none feed =
    let lt : end < length bytes - from = rw (take_rest, length-drop) at none.high in
    let found : get_or (drop from bytes) end 0 ≡ 10 = eqb-true _ 10 (rw take_rest at feed) in
    let here : get_or bytes (from + end) 0 ≡ 10 = sym (get_or-drop from bytes end 0) ∙ found in
    let front : List ℕ = take (from + end) bytes in
    let part : take (from + end + 1) bytes ≡ front ++ 10 ∷ [] = take_more bytes (from + end) 0 (omega arith) ∙ ap (λ b. front ++ b ∷ []) here in
    let whole : bytes ≡ front ++ 10 ∷ drop (from + end + 1) bytes =
    sym (take-append-drop (from + end) bytes) ∙ ap (λ bs. front ++ bs) (drop-cons bytes (from + end) 0 (omega arith)
    ∙ (ap (λ b. b ∷ drop (suc (from + end)) bytes) here ∙ ap (λ m. 10 ∷ drop m bytes) (sym (add-one (from + end))))) in
    ap (filled_from n) whole ∙ (filled-append n front (drop (from + end + 1) bytes)
    ∙ ap (λ bs. filled_from n bs ++ filled_from (n + line_feeds bs) (drop (from + end + 1) bytes)) (sym part))

-- where there is none, one part has all lines
pub filled-uncut : (n m : ℕ) (bytes : List ℕ) → filled_from n bytes ≡ filled_from n bytes ++ filled_from m []
unfolding lines
filled-uncut n m bytes = sym (append-nil (filled_from n bytes))
