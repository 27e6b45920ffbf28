-- The lines of a file are those of its blocks.
use Rattle.std.proofs.Common.{◌≡◌, ℕ, ◌+◌, ◌-◌, ◌<◌, ◌≤◌, ◌^◌, List, Option, [], ◌∷◌, ◌++◌, All, length, flat_map, sym, ap, ◌∙◌, append_assoc, length-append}
use Rattle.std.proofs.Common.{Some, None, arith, append-nil, drop, subst, take}
use Rattle.std.proofs.lemmas.List.{take-append-le, take_all}
use Rattle.std.proofs.lemmas.List.Concat.{flat_map-append}
use Rattle.std.proofs.lemmas.List.Elements.{All-head, All-push, All-rest}
use Rattle.std.proofs.KnownBytes.{Consumes-trans}
use Rattle.std.specs.Io.KnownBytes.{Consumes, Keeps}
use Rattle.ll_lines.specs.LineByLine.{EndsLine, line_feeds}
use Rattle.ll_lines.specs.Lines.{Line, filled_from}
use Rattle.ll_lines.proofs.LinesLemmas.{filled-append}

-- behind a block that ends in a line feed the lines go on
filled_behind : (n : ℕ) (block after : List ℕ) → EndsLine block
    → filled_from n (block ++ after) ≡ filled_from n block ++ filled_from (n + line_feeds block) after
filled_behind n block after ends =
    ap (λ (bytes : List ℕ). filled_from n (bytes ++ after)) ends.1 ∙ ap (filled_from n) (append_assoc ends.0 (10 ∷ []) after) ∙ filled-append n ends.0 after
    ∙ ap (λ (bytes : List ℕ). filled_from n bytes ++ filled_from (n + line_feeds bytes) after) (sym ends.1)

-- a block with so many more bytes
pub read_more : (read block more : List ℕ) (count : ℕ) → read ≡ block ++ more → length more ≡ count → length read ≡ length block + count
read_more read block more count grown counted = ap length grown ∙ length-append block more ∙ ap (λ n. length block + n) counted

-- what a reader has given, with the bytes that it has given for the last block
pub consumed_more : (old mid new : Option (List ℕ)) (whole block read more : List ℕ) → Consumes old mid (whole ++ block) → read ≡ block ++ more
    → Consumes mid new more → Consumes old new (whole ++ read)
consumed_more old mid new whole block read more given grown next =
    let same : (whole ++ block) ++ more ≡ whole ++ read = append_assoc whole block more ∙ ap (λ bytes. whole ++ bytes) (sym grown) in
    subst (Consumes old new) same (Consumes-trans old mid new (whole ++ block) more given next)

-- a page that was read into has the bytes of the read
pub read_page : (size : ℕ) (read page : List ℕ) → length read ≡ size → take size (read ++ drop (length read) page) ≡ read
read_page size read page whole =
    take-append-le size read (drop (length read) page) (omega (arith, whole)) ∙ take_all size read (omega (arith, whole))

-- what a block has more than it began with, once it has some bytes more that the reader has given
pub read_again : (old mid new : Option (List ℕ)) (begun block read more : List ℕ)
    → (earlier : List ℕ) × (block ≡ begun ++ earlier) × Consumes old mid earlier → read ≡ block ++ more → Consumes mid new more
    → (all : List ℕ) × (read ≡ begun ++ all) × Consumes old new all
read_again old mid new begun block read more so_far grown next =
    let same : read ≡ begun ++ (so_far.0 ++ more) = grown ∙ ap (λ bytes. bytes ++ more) so_far.1 ∙ append_assoc begun so_far.0 more in
    (so_far.0 ++ more, same, Consumes-trans old mid new so_far.0 more so_far.2 next)

-- a reader that was interrupted has given nothing
pub read_none : (old mid new : Option (List ℕ)) (earlier : List ℕ) → Consumes old mid earlier → Keeps mid new → Consumes old new earlier
read_none None mid new earlier given kept = tt
read_none (Some xs) None new earlier given kept = absurd given
read_none (Some xs) (Some ys) None earlier given kept = absurd kept
read_none (Some xs) (Some ys) (Some zs) earlier given kept = given ∙ ap (λ bytes. earlier ++ bytes) (sym kept)

module _ {X : Type 0} (bytes : X → List ℕ) where
  -- blocks that end in line feeds, and one more
  pub ends_more : (blocks pushed : List X) (x : X) → pushed ≡ blocks ++ x ∷ [] → EndsLine (bytes x) → All (λ one. EndsLine (bytes one)) blocks
      → All (λ one. EndsLine (bytes one)) pushed
  ends_more blocks pushed x eq ends all = rw eq (All-push (λ one. EndsLine (bytes one)) blocks x all ends)

  -- the bytes of blocks, one more of them, and of what is behind them
  pub joined_more : (blocks pushed : List X) (x : X) (rest : List ℕ) → pushed ≡ blocks ++ x ∷ []
      → flat_map bytes pushed ++ rest ≡ flat_map bytes blocks ++ (bytes x ++ rest)
  joined_more blocks pushed x rest eq =
      ap (λ all. flat_map bytes all ++ rest) eq ∙ ap (λ all. all ++ rest) (flat_map-append bytes blocks (x ∷ []))
      ∙ append_assoc (flat_map bytes blocks) (bytes x ++ []) rest ∙ ap (λ one. flat_map bytes blocks ++ (one ++ rest)) (append-nil (bytes x))

  -- and how many they are, if some more bytes were read for the last one
  pub count_more : (blocks pushed : List X) (x : X) (block read next : List ℕ) (count left most : ℕ) → pushed ≡ blocks ++ x ∷ []
      → read ≡ bytes x ++ next → length read ≡ length block + count → count ≤ left → length (flat_map bytes blocks ++ block) + left ≡ most
      → length (flat_map bytes pushed ++ next) + (left - count) ≡ most
  count_more blocks pushed x block read next count left most eq cut grown within whole =
      let joined = ap length (joined_more blocks pushed x next eq) ∙ length-append (flat_map bytes blocks) (bytes x ++ next) in
      let before = length-append (flat_map bytes blocks) block in
      let again = ap length cut in
      omega (arith, joined, before, again, grown, within, whole)

  -- and they are what a reader has given, if they were before the block was cut
  pub consumed_cut : (old new : Option (List ℕ)) (blocks pushed : List X) (x : X) (read next : List ℕ) → pushed ≡ blocks ++ x ∷ [] → read ≡ bytes x ++ next
      → Consumes old new (flat_map bytes blocks ++ read) → Consumes old new (flat_map bytes pushed ++ next)
  consumed_cut old new blocks pushed x read next eq cut given =
      let same : flat_map bytes blocks ++ read ≡ flat_map bytes pushed ++ next =
      ap (λ one. flat_map bytes blocks ++ one) cut ∙ sym (joined_more blocks pushed x next eq) in
      subst (Consumes old new) same given

  -- what is left to be given out as lines, behind so many lines
  pub record Left (before : ℕ) (blocks : List X) (last : List ℕ) : Type 0 where
    pub ends : All (λ one. EndsLine (bytes one)) blocks
    pub room : before + length (flat_map bytes blocks ++ last) < 2 ^ 64

  -- the next block
  pub left_next : (before feeds : ℕ) (x : X) (blocks rest : List X) (last : List ℕ) → blocks ≡ x ∷ rest → feeds ≤ length (bytes x) → Left before blocks last
      → Left (before + feeds) rest last
  left_next before feeds x blocks rest last eq few left = record {
    ends = All-rest (λ one. EndsLine (bytes one)) x rest blocks eq left.ends;
    room =
        let whole = ap (λ all. length (flat_map bytes all ++ last)) eq ∙ ap length (append_assoc (bytes x) (flat_map bytes rest) last)
        ∙ length-append (bytes x) (flat_map bytes rest ++ last) in
        omega (arith, few, left.room, whole);
  }

  pub lines_next : (before feeds : ℕ) (x : X) (blocks rest : List X) (last : List ℕ) (given pushed : List (List Line)) → blocks ≡ x ∷ rest
      → feeds ≡ line_feeds (bytes x) → Left before blocks last → pushed ≡ given ++ filled_from (before + 1) (bytes x) ∷ []
      → flat_map (λ block. block) pushed ++ filled_from (before + feeds + 1) (flat_map bytes rest ++ last)
      ≡ flat_map (λ block. block) given ++ filled_from (before + 1) (flat_map bytes blocks ++ last)
  lines_next before feeds x blocks rest last given pushed eq counted left more =
      let behind = flat_map bytes rest ++ last in
      let first : EndsLine (bytes x) = All-head (λ one. EndsLine (bytes one)) x rest (rw eq at left.ends) in
      let next : before + feeds + 1 ≡ before + 1 + line_feeds (bytes x) = omega (arith, counted) in
      let here : filled_from (before + 1) (flat_map bytes blocks ++ last) ≡ filled_from (before + 1) (bytes x) ++ filled_from (before + feeds + 1) behind =
      ap (λ all. filled_from (before + 1) (flat_map bytes all ++ last)) eq ∙ ap (filled_from (before + 1)) (append_assoc (bytes x) (flat_map bytes rest) last)
      ∙ filled_behind (before + 1) (bytes x) behind first ∙ ap (λ n. filled_from (before + 1) (bytes x) ++ filled_from n behind) (sym next) in
      ap (λ all. flat_map (λ block. block) all ++ filled_from (before + feeds + 1) behind) more
      ∙ ap (λ all. all ++ filled_from (before + feeds + 1) behind)
      (flat_map-append (λ (block : List Line). block) given (filled_from (before + 1) (bytes x) ∷ []))
      ∙ append_assoc (flat_map (λ block. block) given) (filled_from (before + 1) (bytes x) ++ []) (filled_from (before + feeds + 1) behind)
      ∙ ap (λ one. flat_map (λ block. block) given ++ (one ++ filled_from (before + feeds + 1) behind)) (append-nil (filled_from (before + 1) (bytes x)))
      ∙ ap (λ all. flat_map (λ block. block) given ++ all) (sym here)
