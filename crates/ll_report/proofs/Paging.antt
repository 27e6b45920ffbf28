-- A report on its way through a page: what was sent, what the page holds, and what is left.
use Rattle.std.proofs.Common.{◌≡◌, ◌∙◌, ℕ, ◌+◌, ◌-◌, ◌<◌, ◌≤◌, List, [], ◌++◌, Option, arith}
use Rattle.std.proofs.Common.{length, take, drop, min, sym, ap, ap₂, subst, append_assoc, take-append-drop}
use Rattle.std.specs.Io.KnownBytes.{Appends}
use Rattle.std.proofs.KnownBytes.{Appends-trans}
use Rattle.std.proofs.Math.Seq.{take-append-add}
use Rattle.std.proofs.lemmas.List.{append-nil, drop-drop, length-append, take_all}
use Rattle.ll_explain.specs.Buffers.{Buffered, adding, from_byte, holding, most_counted}
use Rattle.ll_explain.proofs.Buffering.{added, filled}
use Rattle.ll_report.specs.Writing.{AppendsBeginning, IsPage, Sends}
use Rattle.ll_report.proofs.Beginnings.{beginning, further}

-- what a page shows of a part that is added to it without its first bytes
pub record Shows (room skip : ℕ) (part : List ℕ) (page : Buffered) : Type 0 where
  pub same_room : page.room ≡ room
  pub held : page.held ≡ take room (drop skip part)
  pub count : page.count ≡ min (length part) most_counted

pub shows : (room skip : ℕ) (part : List ℕ) (empty page : Buffered) → skip ≤ most_counted → empty ≡ from_byte skip room → page ≡ adding empty part
    → Shows room skip part page
shows room skip part empty page low is_empty is =
    let all : skip - 0 ≡ skip = omega arith in
    let counts : 0 + length part ≡ length part = omega arith in
    let found : page ≡ filled room skip (min (0 + length part) most_counted) (take room (drop (skip - 0) part))
    = is ∙ ap (λ b. adding b part) is_empty ∙ added room skip 0 [] part (omega arith) (omega arith) low in
    record {
      same_room = ap (λ (b : Buffered). b.room) found;
      held = ap (λ (b : Buffered). b.held) found ∙ ap (λ n. take room (drop n part)) all;
      count = ap (λ (b : Buffered). b.count) found ∙ ap (λ n. min n most_counted) counts;
    }

-- Of a part that was written up to a byte before, some more is written.
pub record IsMidway (old new : Option (List ℕ)) (part : List ℕ) (skip written : ℕ) : Type 0 where
  pub sent : List ℕ
  pub appended : Appends old new sent
  pub split : drop skip part ≡ sent ++ drop written part
  pub within : written ≤ length part

module _ (old mid new : Option (List ℕ)) (part : List ℕ) (skip written room : ℕ) (held : List ℕ) where
  split_on : (sent : List ℕ) → drop skip part ≡ sent ++ drop written part → held ≡ take room (drop written part)
      → drop skip part ≡ sent ++ (held ++ drop (written + room) part)
  split_on sent split is =
      split
      ∙ ap (λ l. sent ++ l) (sym (take-append-drop room (drop written part)))
      ∙ ap₂ (λ a b. sent ++ (a ++ b)) (sym is) (drop-drop room written part)

  -- a beginning of what the page holds is written
  pub cut_midway : IsMidway old mid part skip written → held ≡ take room (drop written part) → AppendsBeginning mid new held
      → AppendsBeginning old new (drop skip part)
  cut_midway so_far is cut =
      beginning old new (drop skip part) (so_far.sent ++ take cut.0 held) (drop cut.0 held ++ drop (written + room) part)
      (further (drop skip part) so_far.sent held (drop (written + room) part) cut.0 (split_on so_far.sent so_far.split is))
      (Appends-trans old mid new so_far.sent (take cut.0 held) so_far.appended cut.1)

  sent_on : (sent : List ℕ) → drop skip part ≡ sent ++ drop written part → held ≡ take room (drop written part)
      → drop skip part ≡ (sent ++ held) ++ drop (written + room) part
  sent_on sent split is = split_on sent split is ∙ sym (append_assoc sent held (drop (written + room) part))

  -- all that it holds is written, but no more
  pub stopped : IsMidway old mid part skip written → held ≡ take room (drop written part) → Appends mid new held → AppendsBeginning old new (drop skip part)
  stopped so_far is all =
      beginning old new (drop skip part) (so_far.sent ++ held) (drop (written + room) part) (sent_on so_far.sent so_far.split is)
      (Appends-trans old mid new so_far.sent held so_far.appended all)

  pub goes_on : IsMidway old mid part skip written → held ≡ take room (drop written part) → Appends mid new held → written + room ≤ length part
      → IsMidway old new part skip (written + room)
  goes_on so_far is all within = record {
    sent = so_far.sent ++ held;
    appended = Appends-trans old mid new so_far.sent held so_far.appended all;
    split = sent_on so_far.sent so_far.split is;
    within = within;
  }

pub wholly_sent : (old new : Option (List ℕ)) (text held : List ℕ) → Sends old new text held → AppendsBeginning old new text
wholly_sent old new text held sends = beginning old new text sends.0 held sends.2 sends.1

-- a part is added behind what a page holds
module _ (page after : Buffered) (part : List ℕ) (is_page : IsPage page) (small : page.room < most_counted) (is : after ≡ adding page part) where
  put : after ≡ filled page.room 0 (min (length page.held + length part) most_counted) (take page.room (page.held ++ part))
  put =
      let fits = is_page.fits in
      is ∙ ap (λ b. adding b part) is_page.all ∙ added page.room 0 (length page.held) page.held part fits (omega (arith, fits, small)) (omega arith)
      ∙ ap (λ n. filled page.room 0 (min (length page.held + length part) most_counted) (take page.room (page.held ++ drop n part))) none where
        none : 0 - length page.held ≡ 0
        none = omega arith

  pub put_room : after.room ≡ page.room
  put_room = ap (λ (b : Buffered). b.room) put

  -- there was room for all of it
  pub put_whole : after.count ≤ after.room → IsPage after × (page.held ++ part ≡ after.held)
  put_whole within =
      let count : after.count ≡ min (length page.held + length part) most_counted = ap (λ (b : Buffered). b.count) put in
      let all : length (page.held ++ part) ≤ page.room = omega (arith, length-append page.held part, count, within, put_room, small) in
      let held : after.held ≡ page.held ++ part = ap (λ (b : Buffered). b.held) put ∙ take_all page.room (page.held ++ part) all in
      let counts : min (length page.held + length part) most_counted ≡ length after.held
      = omega (arith, length-append page.held part, count, within, put_room, small, ap length held) in (
        record {
          all = put ∙ ap₂ (λ n l. filled page.room 0 n l) counts (take_all page.room (page.held ++ part) all ∙ sym held)
              ∙ ap (λ n. holding n after.held) (sym put_room);
          room = subst (λ (n : ℕ). 0 < n) (sym put_room) is_page.room;
          fits = omega (arith, put_room, ap length held, all);
        },
        sym held,
      )

  -- there was not, so a beginning of it is held
  pub put_split : page.room < after.count → (page.room - length page.held ≤ length part) ×
      (page.held ++ part ≡ after.held ++ drop (page.room - length page.held) part)
  put_split more =
      let count : after.count ≡ min (length page.held + length part) most_counted = ap (λ (b : Buffered). b.count) put in
      let fits = is_page.fits in
      let room : length page.held + (page.room - length page.held) ≡ page.room = omega (arith, fits) in
      let held : after.held ≡ page.held ++ take (page.room - length page.held) part =
      ap (λ (b : Buffered). b.held) put ∙ ap (λ n. take n (page.held ++ part)) (sym room) ∙ take-append-add page.held part (page.room - length page.held) in (
        omega (arith, count, more, fits),
        ap (λ l. page.held ++ l) (sym (take-append-drop (page.room - length page.held) part))
            ∙ sym (append_assoc page.held (take (page.room - length page.held) part) (drop (page.room - length page.held) part))
            ∙ ap (λ l. l ++ drop (page.room - length page.held) part) (sym held),
      )

-- a text goes out in two pieces, of which the first is what was held
module _ (old mid new : Option (List ℕ)) (text held rest : List ℕ) (split : text ≡ held ++ rest) where
  pub cut_first : AppendsBeginning old mid held → AppendsBeginning old mid text
  cut_first cut =
      beginning old mid text (take cut.0 held) (drop cut.0 held ++ rest) (further text [] held rest cut.0 split) cut.1

  pub cut_second : Appends old mid held → AppendsBeginning mid new rest → AppendsBeginning old new text
  cut_second first cut =
      beginning old new text (held ++ take cut.0 rest) (drop cut.0 rest)
      (split ∙ ap (λ l. held ++ l) (sym (take-append-drop cut.0 rest)) ∙ sym (append_assoc held (take cut.0 rest) (drop cut.0 rest)))
      (Appends-trans old mid new held (take cut.0 rest) first cut.1)

  pub sends_both : (left : List ℕ) → Appends old mid held → Sends mid new rest left → Sends old new text left
  sends_both left first sends = (
    held ++ sends.0,
    Appends-trans old mid new held sends.0 first sends.1,
    split ∙ ap (λ l. held ++ l) sends.2 ∙ sym (append_assoc held sends.0 left),
  )

-- a page had no room for a part, so what it held is written, and the rest of the part is to follow
module _ (page after : Buffered) (part bytes rest : List ℕ) (is_page : IsPage page) (small : page.room < most_counted) (is : after ≡ adding page part)
    (over : after.room < after.count) (are : bytes ≡ after.held) (remains : rest ≡ drop (page.room - length page.held) part) where
  more : page.room < after.count
  more = omega (arith, over, put_room page after part is_page small is)

  pub rest_within : page.room - length page.held ≤ length part
  rest_within = (put_split page after part is_page small is more).0

  split : page.held ++ part ≡ bytes ++ rest
  split = (put_split page after part is_page small is more).1 ∙ ap₂ (λ a b. a ++ b) (sym are) (sym remains)

  pub page_cut : (old new : Option (List ℕ)) → AppendsBeginning old new bytes → AppendsBeginning old new (page.held ++ part)
  page_cut old new = cut_first old new new (page.held ++ part) bytes rest split

  pub rest_cut : (old mid new : Option (List ℕ)) → Appends old mid bytes → AppendsBeginning mid new rest → AppendsBeginning old new (page.held ++ part)
  rest_cut old mid new = cut_second old mid new (page.held ++ part) bytes rest split

  pub rest_sent : (old mid new : Option (List ℕ)) (left : List ℕ) → Appends old mid bytes → Sends mid new rest left
      → Sends old new (page.held ++ part) left
  rest_sent old mid new = sends_both old mid new (page.held ++ part) bytes rest split

-- of a text so much is held or left, and the next part of it goes to the page
module _ (old mid new : Option (List ℕ)) (text held part rest : List ℕ) (so_far : Sends old mid text (held ++ (part ++ rest))) where
  pub cut_part : AppendsBeginning mid new (held ++ part) → AppendsBeginning old new text
  cut_part cut =
      beginning old new text (so_far.0 ++ take cut.0 (held ++ part)) (drop cut.0 (held ++ part) ++ rest)
      (further text so_far.0 (held ++ part) rest cut.0 (so_far.2 ∙ ap (λ l. so_far.0 ++ l) (sym (append_assoc held part rest))))
      (Appends-trans old mid new so_far.0 (take cut.0 (held ++ part)) so_far.1 cut.1)

  pub part_sent : (after : List ℕ) → Sends mid new (held ++ part) after → Sends old new text (after ++ rest)
  part_sent after sends = (
    so_far.0 ++ sends.0,
    Appends-trans old mid new so_far.0 sends.0 so_far.1 sends.1,
    so_far.2 ∙ ap (λ l. so_far.0 ++ l) (sym (append_assoc held part rest) ∙ ap (λ l. l ++ rest) sends.2 ∙ append_assoc sends.0 after rest)
        ∙ sym (append_assoc so_far.0 sends.0 (after ++ rest)),
  )

-- what is held is the last
module _ (old mid new : Option (List ℕ)) (text held : List ℕ) (so_far : Sends old mid text (held ++ [])) where
  last_held : text ≡ so_far.0 ++ held
  last_held = so_far.2 ∙ ap (λ l. so_far.0 ++ l) (append-nil held)

  pub all_sent : Appends mid new held → Appends old new text
  all_sent sent = subst (Appends old new) (sym last_held) (Appends-trans old mid new so_far.0 held so_far.1 sent)

  pub cut_last : AppendsBeginning mid new held → AppendsBeginning old new text
  cut_last cut =
      beginning old new text (so_far.0 ++ take cut.0 held) (drop cut.0 held)
      (last_held ∙ ap (λ l. so_far.0 ++ l) (sym (take-append-drop cut.0 held)) ∙ sym (append_assoc so_far.0 (take cut.0 held) (drop cut.0 held)))
      (Appends-trans old mid new so_far.0 (take cut.0 held) so_far.1 cut.1)
