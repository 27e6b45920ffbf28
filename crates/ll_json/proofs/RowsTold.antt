-- The rows that are put together of texts are the lines of the values that the versions answer.
use Rattle.std.proofs.Common.{◌≡◌, ◌∙◌, ◌+◌, ◌-◌, ◌<◌, ◌≤◌, ℕ, zero, suc, Bool, true, false}
use Rattle.std.proofs.Common.{cond, List, [], ◌∷◌, ◌++◌, Some, drop, get_or, length, map}
use Rattle.std.proofs.Common.{refl, sym, ap, ap₂, subst, append_assoc, arith, codes}
use Rattle.std.specs.Prelude.{bytes_eq, if◌then◌else◌, slice_get}
use Rattle.std.specs.List.{flat_map}
use Rattle.std.proofs.lemmas.List.Elements.{length_all_zip}
use Rattle.std.proofs.lemmas.Option.{slice_get-get_or}
use Rattle.json.specs.Json.{Json}
use Rattle.json.specs.Print.{print, print_from}
use Rattle.json.specs.Token as token
use Rattle.json.specs.Token.{Token}
use Rattle.json.specs.Tree.{json_tokens}
use Rattle.ll_tree.specs.Trees.{Entry}
use Rattle.ll_trace.specs.declared.op.Record.{Record}
use Rattle.ll_semantics.specs.declared.answer.Answer.{Answer}
use Rattle.ll_semantics.specs.declared.answer.Answer.TheVariants.{Allowed, Moot, Refused}
use Rattle.ll_semantics.specs.Worlds.{judged}
use Rattle.ll_semantics.proofs.Steps.{length-judged}
use Rattle.ll_findings.specs.Findings.{FindingValue}
use Rattle.ll_report.specs.declared.options.Shown.{Shown}
use Rattle.ll_report.specs.Found.{Found, answer_at}
use Rattle.ll_report.specs.Lines.{verdict_of}
use Rattle.ll_report.specs.Made.{rows_of}
use Rattle.ll_report.specs.Report.{is_refused, verdict_text}
use Rattle.ll_report.specs.Printed.{printed_of, printed_under}
use Rattle.ll_report.specs.Rows.{answers_said, is_refused_under_some, is_row_left_out}
use Rattle.ll_report.specs.Spans.{Span, spans_from, spans_of}
use Rattle.ll_report.proofs.Making.{next_rows}
use Rattle.ll_report.proofs.RowsSaid.{any_map, map_map, refused_alone}
use Rattle.ll_report.specs.Versions.{answers_in, if_shown, some_refuses}
use Rattle.ll_json.specs.Parts.{Named, line_text, named_tokens, values_tokens}
use Rattle.ll_json.specs.Records.{Version, answer_json, answer_members, answers_json, members_at, members_text, members_with, record_json, span_json}
use Rattle.ll_json.specs.Reports.{AreFound, IsFound, found_of, row_line, said_under, total_json, totals_from}
use Rattle.ll_json.specs.Rows.{head_tokens, line_of, opening_tokens, row_as, said_of, separated, span_text, versions_tokens}
use Rattle.ll_json.proofs.Enclosing.{named_end, values_end}
use Rattle.ll_json.proofs.Judged.{members_are, said_is}
use Rattle.ll_json.proofs.Printed.{ends_object, ends_with, print_more}

-- ---- what each version says of a record

-- there is a member
abbrev HasOne : List Named → Type 0
HasOne [] = ⊥
HasOne (named ∷ more) = Unit {0}

has_one : (explains : Bool) (tree : List Entry) (version : Version) (index : ℕ) (answer : Answer) (r : Record)
    → HasOne (members_with explains tree version index r answer)
unfolding answer_members
has_one explains tree version index Allowed r = tt
has_one explains tree version index Moot r = tt
has_one explains tree version index (Refused error layers) r = tt

abbrev AllHaveOne : List (List Named) → Type 0
AllHaveOne [] = Unit {0}
AllHaveOne (members ∷ more) = HasOne members × AllHaveOne more

module _ (shown : Shown) (tree : List Entry) (later : List Record) (index : ℕ) (below : index < length later) (d : Record) where
  version_says : (version : Version) (finding : FindingValue) → IsFound shown.explanations tree later version finding
      → (printed_of said_of tree later index finding ≡ members_text (members_at shown.explanations tree version index))
      × HasOne (members_at shown.explanations tree version index)
  version_says version finding found =
      let within : index < length version.records = subst (λ (n : ℕ). index < n) (length_all_zip _ later version.records found.taken) below in
      let r = get_or version.records index d in
      let answer = get_or (judged tree version.abi version.records) index Moot in
      let there : slice_get version.records index ≡ Some r = slice_get-get_or version.records index d within in
      let answered : slice_get (judged tree version.abi version.records) index ≡ Some answer =
      slice_get-get_or (judged tree version.abi version.records) index Moot
      (subst (λ (n : ℕ). index < n) (sym (length-judged tree version.abi version.records)) within) in (
        said_is tree version index r answer there answered later found.taken finding shown.explanations found.finds,
        subst HasOne (sym (members_are tree version index r answer there answered shown.explanations)) (has_one shown.explanations tree version index answer r),
      )

  pub each_says : (versions : List Version) (findings : List FindingValue) → AreFound shown.explanations tree later versions findings
      → (printed_under said_of tree later findings index ≡ map members_text (said_under shown tree versions index))
      × AllHaveOne (said_under shown tree versions index)
  each_says [] [] found = (refl, tt)
  each_says [] (finding ∷ others) found = absurd found
  each_says (version ∷ newer) [] found = absurd found
  each_says (version ∷ newer) (finding ∷ others) found =
      let first = version_says version finding found.0 in
      let rest = each_says newer others found.1 in
      (ap₂ (λ (text : List ℕ) (texts : List (List ℕ)). text ∷ texts) first.0 rest.0, (first.1, rest.1))

-- ---- the spans of texts, and the members that they stand for

-- a text is that of members, and there is one
abbrev IsTextOf : List ℕ → List Named → Type 0
IsTextOf text [] = ⊥
IsTextOf text (named ∷ more) = text ≡ members_text (named ∷ more)

text_of_one : (members : List Named) → HasOne members → IsTextOf (members_text members) members
text_of_one [] has = absurd has
text_of_one (named ∷ more) has = refl

behind_drop : (xs : List (List Named)) (k : ℕ) (y : List Named) (ys : List (List Named)) → drop k xs ≡ y ∷ ys → (get_or xs k [] ≡ y) × (drop (suc k) xs ≡ ys)
behind_drop [] zero y ys is = cc
behind_drop [] (suc k) y ys is = cc
behind_drop (x ∷ xs) zero y ys is =
    let head : x ≡ y = cc in
    let tail : xs ≡ ys = cc in
    (head, tail)
behind_drop (x ∷ xs) (suc k) y ys is = behind_drop xs k y ys is

module _ (oldest : ℕ) (said : List (List Named)) where
  abbrev Fits : Span → Type 0
  Fits span = IsTextOf span.said (get_or said (span.first - oldest) [])

  abbrev AllFit : List Span → Type 0
  AllFit [] = Unit {0}
  AllFit (span ∷ others) = Fits span × AllFit others

  fit_from : (span : Span) (others : List (List Named)) (k : ℕ) → Fits span → span.last ≡ oldest + k → drop (suc k) said ≡ others → AllHaveOne others
      → AllFit (spans_from span (map members_text others))
  unfolding spans_from
  fit_from span [] k fits last left have = (fits, tt)
  fit_from span (next ∷ more) k fits last left have =
      let there = behind_drop said (suc k) next more left in
      let here : span.last + 1 - oldest ≡ suc k = omega (arith, last) in
      let later : span.last + 1 ≡ oldest + suc k = omega (arith, last) in
      let begins : Fits (record { first = span.last + 1; last = span.last + 1; said = members_text next }) =
      subst (IsTextOf (members_text next)) (sym (ap (λ (i : ℕ). get_or said i []) here ∙ there.0)) (text_of_one next have.0) in
      go (bytes_eq span.said (members_text next))
      (fit_from (record { first = span.first; last = span.last + 1; said = span.said }) more (suc k) fits later there.1 have.1)
      (fit_from (record { first = span.last + 1; last = span.last + 1; said = members_text next }) more (suc k) begins later there.1 have.1)
    where
      go : (b : Bool) → AllFit (spans_from (record { first = span.first; last = span.last + 1; said = span.said }) (map members_text more))
          → AllFit (spans_from (record { first = span.last + 1; last = span.last + 1; said = members_text next }) (map members_text more))
          → AllFit (cond b (spans_from (record { first = span.first; last = span.last + 1; said = span.said }) (map members_text more))
          (span ∷ spans_from (record { first = span.last + 1; last = span.last + 1; said = members_text next }) (map members_text more)))
      go true goes_on ends = goes_on
      go false goes_on ends = (fits, ends)

pub fit_all : (oldest : ℕ) (said : List (List Named)) → AllHaveOne said → AllFit oldest said (spans_of oldest (map members_text said))
fit_all oldest [] have = tt
fit_all oldest (first ∷ others) have =
    let here : oldest - oldest ≡ 0 = omega arith in
    fit_from oldest (first ∷ others) (record { first = oldest; last = oldest; said = members_text first }) others 0
    (subst (IsTextOf (members_text first)) (sym (ap (λ (i : ℕ). get_or (first ∷ others) i []) here)) (text_of_one first have.0))
    (omega arith) refl have.1

-- ---- the text of the answers

pub members_behind : (named : Named) (more : List Named)
    → print_from true (named_tokens (named ∷ more) ++ token.end_object ∷ []) ≡ codes "," ++ members_text (named ∷ more)
unfolding print_from
members_behind named more = refl

versions_behind : (behind : Bool) (first last : ℕ)
    → print_from behind (versions_tokens first last) ≡ (if behind then codes "," else []) ++ print (versions_tokens first last)
unfolding print_from
versions_behind true first last = refl
versions_behind false first last = refl

answer_tokens : (first last : ℕ) (members : List Named)
    → json_tokens (answer_json first last members) ≡ versions_tokens first last ++ (named_tokens members ++ token.end_object ∷ [])
answer_tokens first last members = ap (λ (ts : List Token). versions_tokens first last ++ ts) (sym (named_end members))

answer_ends : (behind : Bool) (first last : ℕ) (members : List Named) → ends_with behind (json_tokens (answer_json first last members)) ≡ true
answer_ends behind first last members =
    ap (ends_with behind) (answer_tokens first last members) ∙ ends_object true (named_tokens members)

answer_printed : (behind : Bool) (first last : ℕ) (text : List ℕ) (members : List Named) → IsTextOf text members
    → print_from behind (json_tokens (answer_json first last members))
    ≡ (if behind then codes "," else []) ++ span_text (record { first = first; last = last; said = text })
answer_printed behind first last text [] is = absurd is
answer_printed behind first last text (named ∷ more) is =
    let comma : List ℕ = if behind then codes "," else [] in
    ap (print_from behind) (answer_tokens first last (named ∷ more))
    ∙ print_more behind (versions_tokens first last) (named_tokens (named ∷ more) ++ token.end_object ∷ [])
    ∙ ap₂ (λ (a b : List ℕ). a ++ b) (versions_behind behind first last) (members_behind named more ∙ ap (λ (t : List ℕ). codes "," ++ t) (sym is))
    ∙ append_assoc comma (print (versions_tokens first last)) (codes "," ++ text)

module _ (oldest : ℕ) (said : List (List Named)) where
  pub separated_is : (behind : Bool) (spans : List Span) → AllFit oldest said spans
      → print_from behind (values_tokens (map (span_json oldest said) spans)) ≡ separated behind spans
  unfolding separated print_from
  separated_is behind [] fit = refl
  separated_is behind (span ∷ others) fit =
      let members : List Named = get_or said (span.first - oldest) [] in
      let own : List Token = json_tokens (answer_json span.first span.last members) in
      let rest : List Token = values_tokens (map (span_json oldest said) others) in
      let comma : List ℕ = if behind then codes "," else [] in
      print_more behind own rest
      ∙ ap₂ (λ (a b : List ℕ). a ++ b) (answer_printed behind span.first span.last span.said members fit.0)
      (ap (λ (b : Bool). print_from b rest) (answer_ends behind span.first span.last members) ∙ separated_is true others fit.1)
      ∙ append_assoc comma (span_text span) (separated true others)

-- ---- the line

pub closing : (b : Bool) → print_from b (token.end_array ∷ token.end_object ∷ []) ≡ codes "]}"
unfolding print_from
closing true = refl
closing false = refl

record_tokens : (r : Record) (values : List Json)
    → json_tokens (record_json r values) ≡ head_tokens r ++ (values_tokens values ++ token.end_array ∷ token.end_object ∷ [])
record_tokens r values =
    ap (λ (ts : List Token). head_tokens r ++ (ts ++ token.end_object ∷ [])) (sym (values_end values))
    ∙ ap (λ (ts : List Token). head_tokens r ++ ts) (append_assoc (values_tokens values) (token.end_array ∷ []) (token.end_object ∷ []))

pub line_printed : (r : Record) (values : List Json) (text : List ℕ) → print_from false (values_tokens values) ≡ text
    → line_text (record_json r values) ≡ print (opening_tokens false r) ++ (text ++ codes "]}\n")
line_printed r values text is =
    let ends : List Token = token.end_array ∷ token.end_object ∷ [] in
    let last : Bool = ends_with false (values_tokens values) in
    ap (λ (t : List ℕ). t ++ codes "\n")
    (ap print (record_tokens r values)
    ∙ print_more false (head_tokens r) (values_tokens values ++ ends)
    ∙ ap (λ (t : List ℕ). print (head_tokens r) ++ t)
    (print_more false (values_tokens values) ends ∙ ap₂ (λ (a b : List ℕ). a ++ b) is (closing last)))
    ∙ append_assoc (print (head_tokens r)) (text ++ codes "]}") (codes "\n")
    ∙ ap (λ (t : List ℕ). print (head_tokens r) ++ t) (append_assoc text (codes "]}") (codes "\n"))

-- ---- what is answered under each version

-- what is found, without explanations
abbrev bare : Found → Found
bare found = record { answers = found.answers; explanations = [] }

bare_totals : (oldest : ℕ) (founds : List Found) → totals_from oldest (map bare founds) ≡ totals_from oldest founds
unfolding totals_from
bare_totals oldest [] = refl
bare_totals oldest (found ∷ others) = ap (λ (totals : List Json). total_json oldest found ∷ totals) (bare_totals (oldest + 1) others)

answered_alike : (shown : Shown) (tree : List Entry) (later : List Record) (versions : List Version) (findings : List FindingValue)
    → AreFound shown.explanations tree later versions findings → answers_in findings ≡ map bare (found_of shown tree versions)
answered_alike shown tree later [] [] found = refl
answered_alike shown tree later [] (finding ∷ others) found = absurd found
answered_alike shown tree later (version ∷ newer) [] found = absurd found
answered_alike shown tree later (version ∷ newer) (finding ∷ others) found =
    rw (found.0.finds.answers, answered_alike shown tree later newer others found.1) refl

module _ (shown : Shown) (tree : List Entry) (later : List Record) (versions : List Version) (findings : List FindingValue)
    (found : AreFound shown.explanations tree later versions findings) where
  pub answers_are : (index : ℕ) → answers_said (answers_in findings) index ≡ answers_said (found_of shown tree versions) index
  answers_are index =
      ap (λ (founds : List Found). answers_said founds index) (answered_alike shown tree later versions findings found)
      ∙ map_map (λ (one : Found). verdict_text (verdict_of (answer_at one index))) bare (found_of shown tree versions)

  pub refused_are : (index : ℕ) → is_refused_under_some (answers_in findings) index ≡ is_refused_under_some (found_of shown tree versions) index
  refused_are index =
      ap (λ (founds : List Found). is_refused_under_some founds index) (answered_alike shown tree later versions findings found)
      ∙ any_map (λ (one : Found). is_refused (verdict_of (answer_at one index))) bare (found_of shown tree versions)

  pub some_are : (index : ℕ) → some_refuses findings index ≡ is_refused_under_some (found_of shown tree versions) index
  some_are index = sym (refused_alone findings index) ∙ refused_are index

  pub totals_are : (oldest : ℕ) → totals_from oldest (answers_in findings) ≡ totals_from oldest (found_of shown tree versions)
  totals_are oldest = ap (totals_from oldest) (answered_alike shown tree later versions findings found) ∙ bare_totals oldest (found_of shown tree versions)

-- ---- the report

module _ (shown : Shown) (oldest : ℕ) (tree : List Entry) (versions : List Version) (later : List Record) (findings : List FindingValue)
    (found : AreFound shown.explanations tree later versions findings) where
  -- what a row has, by the text of its answers
  pub row_is : (kinds : Bool) (line : Record → List Json → List ℕ)
      → ((r : Record) (values : List Json) (text : List ℕ) → print_from false (values_tokens values) ≡ text
      → line r values ≡ print (opening_tokens kinds r) ++ (text ++ codes "]}\n"))
      → (index : ℕ) (r : Record) → index < length later
      → if_shown (λ _. row_as kinds) shown oldest tree later findings index r
      ≡ (if is_row_left_out shown (found_of shown tree versions) index then [] else line r (answers_json oldest (said_under shown tree versions index)))
  row_is kinds line printed index r below =
      let said : List (List Named) = said_under shown tree versions index in
      let each = each_says shown tree later index below r versions findings found in
      let spans : List Span = spans_of oldest (map members_text said) in
      ap₂ (λ (out : Bool) (line : List ℕ). if out then [] else line)
      (rw (refused_are shown tree later versions findings found index, answers_are shown tree later versions findings found index) refl)
      (ap (line_of kinds oldest r) each.0
      ∙ sym (printed r (answers_json oldest said) (separated false spans) (separated_is oldest said false spans (fit_all oldest said each.1))))

  pub rows_are : (index : ℕ) (records : List Record) → index + length records ≤ length later
      → flat_map (λ (row : List ℕ). row) (rows_of (if_shown (λ _. row_as false) shown oldest tree later findings) index records)
      ≡ flat_map (λ (row : List ℕ). row) (rows_of (row_line shown tree oldest versions) index records)
  unfolding rows_of
  rows_are index [] fits = refl
  rows_are index (r ∷ others) fits =
      next_rows (if_shown (λ _. row_as false) shown oldest tree later findings) index r others
      ∙ ap₂ (λ (line rest : List ℕ). line ++ rest)
      (row_is false (λ (x : Record) (values : List Json). line_text (record_json x values)) line_printed index r (omega (arith, fits)))
      (rows_are (index + 1) others (omega (arith, fits)))
