-- A report goes out part after part: its rows, and then its last lines.
use Rattle.std.proofs.Common.{◌≡◌, ◌∙◌, ℕ, ◌+◌, ◌<◌, ◌≤◌, List, [], ◌++◌, Option, length, sym, ap, arith, subst}
use Rattle.std.proofs.lemmas.List.{append-nil}
use Rattle.std.specs.Io.KnownBytes.{Appends}
use Rattle.ll_report.specs.Made.{Made, part_at, text_of}
use Rattle.ll_report.specs.Writing.{AppendsBeginning, Sends}
use Rattle.ll_report.proofs.Making.{left, left_last, left_next, part_last, part_row}
use Rattle.ll_report.proofs.Paging.{all_sent, cut_last, cut_part, part_sent}

module _ (old mid new : Option (List ℕ)) (made rows : Made) (index : ℕ) (held : List ℕ) (same : rows ≡ made)
    (so_far : Sends old mid (text_of made) (held ++ left made index)) where
  row_left : index < length made.shown → Sends old mid (text_of made) (held ++ (part_at made index ++ left made (index + 1)))
  row_left below =
      subst (λ (l : List ℕ). Sends old mid (text_of made) (held ++ l))
      (left_next made index below ∙ ap (λ (row : List ℕ). row ++ left made (index + 1)) (sym (part_row made index below))) so_far

  -- the next row is put on the page, or a beginning of it is written
  pub row_cut : index < length made.shown → AppendsBeginning mid new (held ++ part_at rows index) → AppendsBeginning old new (text_of made)
  row_cut below cut =
      cut_part old mid new (text_of made) held (part_at made index) (left made (index + 1)) (row_left below)
      (subst (AppendsBeginning mid new) (ap (λ (m : Made). held ++ part_at m index) same) cut)

  pub row_sent : (after : List ℕ) → index < length made.shown → Sends mid new (held ++ part_at rows index) after
      → Sends old new (text_of made) (after ++ left made (index + 1))
  row_sent after below sends =
      part_sent old mid new (text_of made) held (part_at made index) (left made (index + 1)) (row_left below) after
      (subst (λ (l : List ℕ). Sends mid new l after) (ap (λ (m : Made). held ++ part_at m index) same) sends)

  last_left : (end : ℕ) → length made.shown ≤ index → end ≡ length rows.shown → Sends old mid (text_of made) (held ++ (part_at made end ++ []))
  last_left end past is =
      let at_end : length made.shown ≤ end = omega (arith, is, ap (λ (m : Made). length m.shown) same) in
      subst (λ (l : List ℕ). Sends old mid (text_of made) (held ++ l))
      (left_last made index past ∙ sym (part_last made end at_end) ∙ sym (append-nil (part_at made end))) so_far

  -- the same of the last lines
  pub last_cut : (end : ℕ) → length made.shown ≤ index → end ≡ length rows.shown → AppendsBeginning mid new (held ++ part_at rows end)
      → AppendsBeginning old new (text_of made)
  last_cut end past is cut =
      cut_part old mid new (text_of made) held (part_at made end) [] (last_left end past is)
      (subst (AppendsBeginning mid new) (ap (λ (m : Made). held ++ part_at m end) same) cut)

  pub last_sent : (end : ℕ) (after : List ℕ) → length made.shown ≤ index → end ≡ length rows.shown → Sends mid new (held ++ part_at rows end) after
      → Sends old new (text_of made) (after ++ [])
  last_sent end after past is sends =
      part_sent old mid new (text_of made) held (part_at made end) [] (last_left end past is) after
      (subst (λ (l : List ℕ). Sends mid new l after) (ap (λ (m : Made). held ++ part_at m end) same) sends)

-- what the page held at the end is written, or a beginning of it
module _ (old new out : Option (List ℕ)) (text held bytes : List ℕ) (are : bytes ≡ held) (sends : Sends old new text (held ++ [])) where
  pub page_written : Appends new out bytes → Appends old out text
  page_written wrote = all_sent old new out text held sends (subst (Appends new out) are wrote)

  pub page_cut : AppendsBeginning new out bytes → AppendsBeginning old out text
  page_cut cut = cut_last old new out text held sends (subst (AppendsBeginning new out) are cut)
