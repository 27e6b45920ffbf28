-- The rows by kind that are put together of texts are the lines of the values of the kinds.
use Rattle.std.proofs.Common.{◌≡◌, ◌∙◌, ◌+◌, ◌<◌, ◌≤◌, ◌&&◌, ℕ, zero, suc, Bool, true, false, cond, List, [], ◌∷◌, ◌++◌, Some, get_or, length, map}
use Rattle.std.proofs.Common.{refl, sym, ap, ap₂, append_assoc, append-nil, arith, codes}
use Rattle.std.specs.Prelude.{count_by, filter, if◌then◌else◌, not, slice_get, unwrap_or}
use Rattle.std.specs.List.{flat_map, range_with_len}
use Rattle.std.proofs.lemmas.Bool.{false≢true}
use Rattle.std.proofs.lemmas.List.{get_or-map}
use Rattle.std.proofs.lemmas.Option.{slice_get-get_or, unwrap_or-slice_get}
use Rattle.json.specs.Json.{Json}
use Rattle.json.specs.Print.{ends, print, print_from}
use Rattle.json.specs.Token as token
use Rattle.json.specs.Token.{Token}
use Rattle.json.specs.Tree.{json_tokens}
use Rattle.ll_tree.specs.Trees.{Entry}
use Rattle.ll_trace.specs.declared.op.Record.{Record}
use Rattle.ll_findings.specs.Findings.{FindingValue}
use Rattle.ll_report.specs.declared.options.Shown.{Shown}
use Rattle.ll_report.specs.Counted.{grouped}
use Rattle.ll_report.specs.Kinds.{Kind, is_first, is_said_before, is_told, kind_from, kind_text, kinds_text, said_at}
use Rattle.ll_report.specs.Made.{line_numbers, rows_of, text_of}
use Rattle.ll_report.specs.Rows.{is_refused_under_some, is_row_left_out}
use Rattle.ll_report.specs.Versions.{if_shown, made_in, some_refuses}
use Rattle.ll_report.proofs.ByKind.{text_by_kind}
use Rattle.ll_report.proofs.Making.{length-rows, row_is}
use Rattle.ll_report.proofs.RowsSaid.{count_same}
use Rattle.ll_json.specs.Parts.{Named, array_of, line_text, named_tokens, values_tokens}
use Rattle.ll_json.specs.Records.{Version, answers_json, call_members, kind_json, members_text, said_members}
use Rattle.ll_json.specs.Reports.{AreFound, IsJsonReport, found_of, kind_line, kind_lines, row_line, said_line, said_lines, said_under, shown_lines}
use Rattle.ll_json.specs.Reports.{totals_json}
use Rattle.ll_json.specs.Rows.{call_tokens, kind_head, kind_tokens, last_line, row_as, row_text}
use Rattle.ll_json.proofs.Enclosing.{named_end, values_end}
use Rattle.ll_json.proofs.Printed.{ends_with, print_more}
use Rattle.ll_json.proofs.RowsTold as told

-- ---- what is said of a record

named_append : (first more : List Named) → named_tokens (first ++ more) ≡ named_tokens first ++ named_tokens more
named_append [] more = refl
named_append (named ∷ others) more =
    ap (λ (ts : List Token). token.key named.0 ∷ (json_tokens named.1 ++ ts)) (named_append others more)
    ∙ ap (λ (ts : List Token). token.key named.0 ∷ ts) (sym (append_assoc (json_tokens named.1) (named_tokens others) (named_tokens more)))

-- tokens end as the last of them does
ends_last : (c : Bool) (ts : List Token) (last : Token) → ends_with c (ts ++ last ∷ []) ≡ ends last
ends_last c [] last = refl
ends_last c (t ∷ ts) last = ends_last (ends t) ts last

module _ (r : Record) (values : List Json) where
  abbrev call : List Token
  call = named_tokens (call_members r.op)

  abbrev closed : List Token
  closed = token.end_array ∷ token.end_object ∷ []

  said_tokens : named_tokens (said_members r values) ++ token.end_object ∷ [] ≡ call_tokens r ++ (values_tokens values ++ closed)
  said_tokens =
      let opened : List Token = token.key (codes "answers") ∷ token.begin_array ∷ [] in
      let inner : List Token = values_tokens values ++ token.end_array ∷ [] in
      let answers : named_tokens ((codes "answers", array_of values) ∷ []) ≡ opened ++ inner =
      ap (λ (ts : List Token). token.key (codes "answers") ∷ ts) (append-nil (json_tokens (array_of values)))
      ∙ ap (λ (ts : List Token). opened ++ ts) (sym (values_end values)) in
      ap (λ (ts : List Token). ts ++ token.end_object ∷ [])
      (named_append (call_members r.op) ((codes "answers", array_of values) ∷ []) ∙ ap (λ (ts : List Token). call ++ ts) answers)
      ∙ append_assoc call (opened ++ inner) (token.end_object ∷ [])
      ∙ ap (λ (ts : List Token). call ++ (opened ++ ts)) (append_assoc (values_tokens values) (token.end_array ∷ []) (token.end_object ∷ []))
      ∙ sym (append_assoc call opened (values_tokens values ++ closed))

  opens : ends_with false (call_tokens r) ≡ false
  opens =
      ap (ends_with false) (sym (append_assoc call (token.key (codes "answers") ∷ []) (token.begin_array ∷ [])))
      ∙ ends_last false (call ++ token.key (codes "answers") ∷ []) token.begin_array

  pub said_printed : (text : List ℕ) → print_from false (values_tokens values) ≡ text
      → members_text (said_members r values) ++ codes "\n" ≡ print (call_tokens r) ++ (text ++ codes "]}\n")
  said_printed text is =
      let last : Bool = ends_with false (values_tokens values) in
      ap (λ (t : List ℕ). t ++ codes "\n")
      (ap print said_tokens
      ∙ print_more false (call_tokens r) (values_tokens values ++ closed)
      ∙ ap (λ (b : Bool). print (call_tokens r) ++ print_from b (values_tokens values ++ closed)) opens
      ∙ ap (λ (t : List ℕ). print (call_tokens r) ++ t)
      (print_more false (values_tokens values) closed ∙ ap₂ (λ (a b : List ℕ). a ++ b) is (told.closing last)))
      ∙ append_assoc (print (call_tokens r)) (text ++ codes "]}") (codes "\n")
      ∙ ap (λ (t : List ℕ). print (call_tokens r) ++ t) (append_assoc text (codes "]}") (codes "\n"))

  -- the line of a kind is that of its value
  pub kind_printed : (records : ℕ) → line_text (kind_json records r values) ≡ kind_head records r.line ++ (members_text (said_members r values) ++ codes "\n")
  unfolding print_from
  kind_printed records =
      let members : List Named = said_members r values in
      let head : List ℕ = print (kind_tokens records r.line) in
      ap (λ (t : List ℕ). t ++ codes "\n")
      (ap (λ (ts : List Token). print (kind_tokens records r.line ++ ts)) (sym (named_end members))
      ∙ print_more false (kind_tokens records r.line) (named_tokens members ++ token.end_object ∷ []))
      ∙ append_assoc head (codes "," ++ members_text members) (codes "\n")
      ∙ ap (λ (t : List ℕ). head ++ t) (append_assoc (codes ",") (members_text members) (codes "\n"))
      ∙ sym (append_assoc head (codes ",") (members_text members ++ codes "\n"))

-- ---- the kinds

-- texts of kinds that are the same for each first record
module _ (f g : Kind → List ℕ) (from : ℕ → Kind) (p : ℕ → Bool) (n : ℕ)
    (same : (index : ℕ) → index < n → p index ≡ true → f (from index) ≡ g (from index)) where
  texts_same : (a m : ℕ) → a + m ≤ n → flat_map f (map from (filter p (range_with_len a m))) ≡ flat_map g (map from (filter p (range_with_len a m)))
  texts_same a zero fits = refl
  texts_same a (suc m) fits = go (p a) refl (texts_same (a + 1) m (omega (arith, fits)))
    where
      go : (b : Bool) → p a ≡ b → flat_map f (map from (filter p (range_with_len (a + 1) m))) ≡ flat_map g (map from (filter p (range_with_len (a + 1) m)))
          → flat_map f (map from (cond b (a ∷ filter p (range_with_len (a + 1) m)) (filter p (range_with_len (a + 1) m))))
          ≡ flat_map g (map from (cond b (a ∷ filter p (range_with_len (a + 1) m)) (filter p (range_with_len (a + 1) m))))
      go true is rest = ap₂ (λ (x y : List ℕ). x ++ y) (same a (omega (arith, fits)) is) rest
      go false is rest = rest

module _ (shown : Shown) (oldest : ℕ) (tree : List Entry) (versions : List Version) (later : List Record) where
  abbrev texts : List (List ℕ)
  texts = said_lines shown tree oldest versions later

  abbrev is_out : ℕ → Bool
  is_out index = is_row_left_out shown (found_of shown tree versions) index

  abbrev answers : ℕ → List Json
  answers index = answers_json oldest (said_under shown tree versions index)

  -- what is said of a record that is the first of its kind
  first_said : (index : ℕ) (r : Record) → slice_get later index ≡ Some r → is_first texts index ≡ true
      → said_at texts index ≡ members_text (said_members r (answers index)) ++ codes "\n"
  first_said index r there first = row ∙ go (is_out index) refl
    where
      zero_more : 0 + index ≡ index
      zero_more = omega arith

      row : said_at texts index ≡ said_line shown tree oldest versions index r
      row =
          sym (unwrap_or-slice_get texts index [])
          ∙ ap (λ found. unwrap_or found []) (row_is (said_line shown tree oldest versions) 0 index later r there)
          ∙ ap (λ (n : ℕ). said_line shown tree oldest versions n r) zero_more

      go : (b : Bool) → is_out index ≡ b → said_line shown tree oldest versions index r ≡ members_text (said_members r (answers index)) ++ codes "\n"
      go false is = ap (λ (b : Bool). if b then [] else members_text (said_members r (answers index)) ++ codes "\n") is
      go true is = absurd (false≢true (sym blank ∙ first))
        where
          blank : is_first texts index ≡ false
          blank =
              ap (λ (t : List ℕ). is_told t && not (is_said_before texts index))
              (row ∙ ap (λ (b : Bool). if b then [] else members_text (said_members r (answers index)) ++ codes "\n") is)

  kind_is : (index : ℕ) → index < length texts → is_first texts index ≡ true
      → kind_text kind_head (line_numbers later) texts (kind_from texts index) ≡ kind_line shown tree oldest versions later (kind_from texts index)
  kind_is index below first = go later refl
    where
      within : index < length later
      within = omega (arith, below, length-rows (said_line shown tree oldest versions) 0 later)

      with_record : Record → kind_text kind_head (line_numbers later) texts (kind_from texts index)
          ≡ kind_line shown tree oldest versions later (kind_from texts index)
      with_record d =
          let r : Record = get_or later index d in
          let there : slice_get later index ≡ Some r = slice_get-get_or later index d within in
          let n : ℕ = (kind_from texts index).records in
          ap₂ (λ (line : ℕ) (said : List ℕ). kind_head n line ++ said) (get_or-map (λ (x : Record). x.line) later index d 0 within)
          (first_said index r there first)
          ∙ sym (kind_printed r (answers index) n)
          ∙ sym (line_at there)
        where
          line_at : slice_get later index ≡ Some (get_or later index d) → kind_line shown tree oldest versions later (kind_from texts index)
              ≡ line_text (kind_json (kind_from texts index).records (get_or later index d) (answers index))
          line_at there = rw there refl

      go : (records : List Record) → later ≡ records
          → kind_text kind_head (line_numbers later) texts (kind_from texts index) ≡ kind_line shown tree oldest versions later (kind_from texts index)
      go [] is = absurd (omega (arith, within, ap (λ (rs : List Record). length rs) is))
      go (d ∷ others) is = with_record d

  pub kinds_told : kinds_text kind_head (line_numbers later) texts ≡ kind_lines shown tree oldest versions later
  kinds_told =
      texts_same (kind_text kind_head (line_numbers later) texts) (kind_line shown tree oldest versions later) (kind_from texts) (is_first texts) (length texts)
      kind_is 0 (length texts) (omega arith)

-- ---- the report

module _ (shown : Shown) (oldest : ℕ) (tree : List Entry) (versions : List Version) (later : List Record) (findings : List FindingValue)
    (found : AreFound shown.explanations tree later versions findings) where
  said_are : (index : ℕ) (records : List Record) → index + length records ≤ length later
      → rows_of (if_shown (λ _. row_as true) shown oldest tree later findings) index records ≡ rows_of (said_line shown tree oldest versions) index records
  unfolding rows_of
  said_are index [] fits = refl
  said_are index (r ∷ others) fits =
      ap₂ (λ (row : List ℕ) (rows : List (List ℕ)). row ∷ rows)
      (told.row_is shown oldest tree versions later findings found true
      (λ (x : Record) (values : List Json). members_text (said_members x values) ++ codes "\n") said_printed index r (omega (arith, fits)))
      (said_are (index + 1) others (omega (arith, fits)))

  shown_are : (kinds : Bool) (last : List ℕ)
      → text_of (grouped kind_head kinds (record {
        lines = line_numbers later;
        shown = rows_of (if_shown (λ _. row_as kinds) shown oldest tree later findings) 0 later;
        last = last;
      }))
      ≡ (if kinds then kind_lines shown tree oldest versions later else flat_map (λ row. row) (rows_of (row_line shown tree oldest versions) 0 later)) ++ last
  shown_are true last =
      text_by_kind kind_head (record {
        lines = line_numbers later;
        shown = rows_of (if_shown (λ _. row_as true) shown oldest tree later findings) 0 later;
        last = last;
      })
      ∙ ap (λ (rows : List (List ℕ)). kinds_text kind_head (line_numbers later) rows ++ last) (said_are 0 later (omega arith))
      ∙ ap (λ (lines : List ℕ). lines ++ last) (kinds_told shown oldest tree versions later)
  shown_are false last = ap (λ (lines : List ℕ). lines ++ last) (told.rows_are shown oldest tree versions later findings found 0 later (omega arith))

  pub report_is : (program : List ℕ) → IsJsonReport shown tree oldest versions later program (record {
    text = text_of (grouped kind_head shown.kinds (made_in row_text (last_line program) shown oldest tree later findings));
    refused = count_by (some_refuses findings) (range_with_len 0 (length later));
  })
  report_is program = record {
    text = shown_are shown.kinds (last_line program oldest findings)
        ∙ ap (λ (totals : List Json). shown_lines shown tree oldest versions later ++ line_text (totals_json totals program))
        (told.totals_are shown tree later versions findings found oldest);
    refused = count_same (some_refuses findings) (is_refused_under_some (found_of shown tree versions))
        (told.some_are shown tree later versions findings found) (range_with_len 0 (length later));
  }
