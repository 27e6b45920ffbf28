-- What rows say, by the findings.
use Rattle.std.proofs.Common.{◌≡◌, ◌∙◌, ℕ, ◌+◌, ◌<◌, ◌≤◌, Bool, true, false, ◌||◌, List, [], ◌∷◌, ◌++◌, length, map, drop, All, refl, sym}
use Rattle.std.proofs.Common.{ap, ap₂, arith, codes, cond, inl, inr, subst, get_or}
use Rattle.std.specs.Prelude.{count_by, if◌then◌else◌, nat_lt, unwrap_or, not, ◌&&◌, ◌⊎◌}
use Rattle.std.specs.List.{list_any, range_with_len}
use Rattle.std.proofs.lemmas.Bool.{cases_Bool, cases_lt}
use Rattle.std.proofs.lemmas.List.{drop_more, drop_all, length-map}
use Rattle.std.proofs.lemmas.List.Elements.{All-head, All-tail}
use Rattle.std.proofs.lemmas.List.Sums.{sum_by-cons}
use Rattle.std.proofs.lemmas.Option.{slice_get_past, unwrap_or-slice_get}
use Rattle.std.proofs.lemmas.List.FromFn.{get_or-map-range_with_len, length-map-range_with_len}
use Rattle.ll_tree.specs.Trees.{Entry}
use Rattle.ll_trace.specs.declared.op.Record.{Record}
use Rattle.ll_semantics.specs.declared.answer.Answer.{Answer}
use Rattle.ll_findings.specs.Findings.{FindingValue, answer_in, kept_at, said_by}
use Rattle.ll_explain.specs.Told.{said_text, text_told}
use Rattle.ll_report.specs.declared.options.Shown.{Shown}
use Rattle.ll_report.specs.declared.spans.Form.TheVariants.{Answers, Explanations}
use Rattle.ll_findings.specs.Alike.{AreAlike, FindsAs}
use Rattle.ll_report.specs.Printed.{printed_under, text_printed, verdict_printed}
use Rattle.ll_report.specs.Found.{answer_at, explanation_at}
use Rattle.ll_report.specs.Lines.{verdict_of}
use Rattle.ll_report.specs.Report.{is_refused, verdict_text}
use Rattle.ll_report.specs.Rows.{answers_said, are_several, behind_line, explanations_said, is_refused_under_some, is_row_left_out, row_text, told_as}
use Rattle.ll_report.specs.Rows.{total_under_text, totals_from, totals_text}
use Rattle.ll_report.specs.Spans.{agree, versions_text}
use Rattle.ll_report.specs.Versions.{answered, answers_in, found_in, founds_in, if_shown, row_in_words, some_refuses}

-- ---- what is said of findings, whichever way they are seen

pub any_map : {A B : Type 0} (test : B → Bool) (f : A → B) (xs : List A) → list_any test (map f xs) ≡ list_any (λ x. test (f x)) xs
any_map test f [] = refl
any_map test f (x ∷ xs) = ap (λ rest. test (f x) || rest) (any_map test f xs)

pub map_map : {A B C : Type 0} (g : B → C) (f : A → B) (xs : List A) → map g (map f xs) ≡ map (λ x. g (f x)) xs
map_map g f [] = refl
map_map g f (x ∷ xs) = ap (λ rest. g (f x) ∷ rest) (map_map g f xs)

pub map_same : {A B : Type 0} (f g : A → B) (xs : List A) → ((x : A) → f x ≡ g x) → map f xs ≡ map g xs
map_same f g [] same = refl
map_same f g (x ∷ xs) same = ap₂ (λ y ys. y ∷ ys) (same x) (map_same f g xs same)

module _ (findings : List FindingValue) (index : ℕ) where
  pub refused_alone : is_refused_under_some (answers_in findings) index ≡ some_refuses findings index
  refused_alone = any_map (λ found. is_refused (verdict_of (answer_at found index))) answered findings

  abbrev pub all_answer : List (List ℕ)
  all_answer = map (λ finding. verdict_text (verdict_of (answer_in finding index))) findings

  pub answered_alone : answers_said (answers_in findings) index ≡ all_answer
  answered_alone = map_map (λ found. verdict_text (verdict_of (answer_at found index))) answered findings

  module _ (explains : Bool) (tree : List Entry) (records : List Record) where
    pub refused_in : is_refused_under_some (founds_in explains tree records findings) index ≡ some_refuses findings index
    refused_in = any_map (λ found. is_refused (verdict_of (answer_at found index))) (found_in explains tree records) findings

    pub answered_in : answers_said (founds_in explains tree records findings) index ≡ all_answer
    answered_in = map_map (λ found. verdict_text (verdict_of (answer_at found index))) (found_in explains tree records) findings

    pub same_left_out : (shown : Shown) → is_row_left_out shown (answers_in findings) index ≡ is_row_left_out shown
        (founds_in explains tree records findings) index
    same_left_out shown =
        ap₂ (λ (refused : Bool) (texts : List (List ℕ)). (shown.refused_alone && not refused) || (shown.differing_alone && agree texts))
        (refused_alone ∙ sym refused_in) (answered_alone ∙ sym answered_in)

-- ---- explanations

-- what is said of no record is nothing
past_none : (tree : List Entry) (records : List Record) (finding : FindingValue) (index : ℕ) → length records ≤ index → text_told tree records finding
    index ≡ []
past_none tree records finding index past =
    ap (λ r. said_text tree records (said_by r (kept_at finding index))) (slice_get_past records index past)

pub explained_in : (tree : List Entry) (records : List Record) (finding : FindingValue) (index : ℕ)
    → explanation_at (found_in true tree records finding) index ≡ text_told tree records finding index
explained_in tree records finding index = elim (cases_lt index (length records)) [
  | inl below ↦
      unwrap_or-slice_get (map (text_told tree records finding) (range_with_len 0 (length records))) index []
      ∙ get_or-map-range_with_len (text_told tree records finding) 0 (length records) index index [] below (omega arith)
  | inr past ↦
      ap (λ o. unwrap_or o []) (slice_get_past (map (text_told tree records finding) (range_with_len 0 (length records))) index
      (omega (arith, past, length-map-range_with_len (text_told tree records finding) 0 (length records))))
      ∙ sym (past_none tree records finding index past)
]

pub explanations_in : (tree : List Entry) (records : List Record) (findings : List FindingValue) (index : ℕ)
    → explanations_said (founds_in true tree records findings) index ≡ printed_under text_printed tree records findings index
explanations_in tree records findings index =
    map_map (λ found. explanation_at found index) (found_in true tree records) findings
    ∙ map_same (λ finding. explanation_at (found_in true tree records finding) index) (λ finding. text_told tree records finding index) findings
    (λ finding. explained_in tree records finding index)

-- ---- why a record is left out, or is not
module _ (shown : Shown) (findings : List FindingValue) (index : ℕ) (tree : List Entry) (records : List Record) where
  left_out : is_row_left_out shown (answers_in findings) index
      ≡ ((shown.refused_alone && not (some_refuses findings index))
      || (shown.differing_alone && agree (printed_under verdict_printed tree records findings index)))
  left_out =
      ap₂ (λ (refused : Bool) (texts : List (List ℕ)). (shown.refused_alone && not refused) || (shown.differing_alone && agree texts))
      (refused_alone findings index) (answered_alone findings index)

  pub passed_over : (shown.refused_alone && not (some_refuses findings index)) ≡ true → true ≡ is_row_left_out shown (answers_in findings) index
  passed_over is = sym (left_out ∙ ap (λ b. b || (shown.differing_alone && agree (printed_under verdict_printed tree records findings index))) is)

  pub kept_in : (shown.refused_alone && not (some_refuses findings index)) ≡ false → shown.differing_alone ≡ false
      → false ≡ is_row_left_out shown (answers_in findings) index
  kept_in is all =
      sym (left_out ∙ ap₂ (λ a b. a || (b && agree (printed_under verdict_printed tree records findings index))) is all)

  pub as_agreed : (shown.refused_alone && not (some_refuses findings index)) ≡ false → shown.differing_alone ≡ true
      → agree (printed_under verdict_printed tree records findings index) ≡ is_row_left_out shown (answers_in findings) index
  as_agreed is differing =
      sym (left_out ∙ ap₂ (λ a b. a || (b && agree (printed_under verdict_printed tree records findings index))) is differing)

module _ (oldest : ℕ) (tree : List Entry) (records : List Record) (findings : List FindingValue) (index : ℕ) where
  behind_same : (explains : Bool) → behind_line explains (versions_text Explanations oldest (printed_under text_printed tree records findings index))
      ≡ behind_line explains (versions_text Explanations oldest (explanations_said (founds_in explains tree records findings) index))
  behind_same true = ap (versions_text Explanations oldest) (sym (explanations_in tree records findings index))
  behind_same false = refl

  pub row_same : (shown : Shown) (r : Record) → if_shown row_in_words shown oldest tree records findings index r
      ≡ row_text shown oldest (founds_in shown.explanations tree records findings) index (told_as shown.kinds r)
  row_same shown r =
      ap₂ (λ (out : Bool) (row : List ℕ). if out then [] else row) (same_left_out findings index shown.explanations tree records shown)
      (ap₂ (λ (texts : List (List ℕ)) (behind : List ℕ). told_as shown.kinds r ++ versions_text Answers oldest texts ++ codes "\n" ++ behind)
      (sym (answered_in findings index shown.explanations tree records)) (behind_same shown.explanations))

-- ---- the totals and the count of refused records

pub totals_next : (several : Bool) (findings : List FindingValue) (k abi : ℕ) (finding : FindingValue) → k < length findings
    → finding ≡ get_or findings k finding
    → totals_from several abi (answers_in (drop k findings))
    ≡ total_under_text several abi (answered finding) ++ totals_from several (abi + 1) (answers_in (drop (k + 1) findings))
unfolding totals_from
totals_next several findings k abi finding below is =
    ap (λ fs. totals_from several abi (answers_in fs)) (drop_more findings k finding below ∙ ap (λ f. f ∷ drop (k + 1) findings) (sym is))

pub totals_last : (several : Bool) (findings : List FindingValue) (k abi : ℕ) → length findings ≤ k
    → totals_from several abi (answers_in (drop k findings)) ≡ []
unfolding totals_from
totals_last several findings k abi past = ap (λ fs. totals_from several abi (answers_in fs)) (drop_all k findings past)

totals_seen : (explains : Bool) (tree : List Entry) (records : List Record) (several : Bool) (abi : ℕ) (findings : List FindingValue)
    → totals_from several abi (answers_in findings) ≡ totals_from several abi (founds_in explains tree records findings)
unfolding totals_from
totals_seen explains tree records several abi [] = refl
totals_seen explains tree records several abi (finding ∷ others) =
    ap (λ rest. total_under_text several abi (answered finding) ++ rest) (totals_seen explains tree records several (abi + 1) others)

pub several_alone : (findings : List FindingValue) → are_several (answers_in findings) ≡ are_several findings
several_alone findings = ap (λ n. nat_lt 1 n) (length-map findings answered)

pub same_totals : (explains : Bool) (tree : List Entry) (records : List Record) (abi : ℕ) (findings : List FindingValue)
    → totals_text abi (answers_in findings) ≡ totals_text abi (founds_in explains tree records findings)
same_totals explains tree records abi findings =
    totals_seen explains tree records (are_several (answers_in findings)) abi findings
    ∙ ap (λ n. totals_from (nat_lt 1 n) abi (founds_in explains tree records findings))
    (length-map findings answered ∙ sym (length-map findings (found_in explains tree records)))

-- tests that agree count as many
pub count_same : (p q : ℕ → Bool) → ((n : ℕ) → p n ≡ q n) → (xs : List ℕ) → count_by p xs ≡ count_by q xs
count_same p q same [] = refl
count_same p q same (x ∷ xs) =
    omega (
      arith,
      count_same p q same xs,
      sum_by-cons (λ (n : ℕ). cond (p n) 1 0) x xs,
      sum_by-cons (λ (n : ℕ). cond (q n) 1 0) x xs,
      one,
    ) where
      one : cond {A = ℕ} (p x) 1 0 ≡ cond (q x) 1 0
      one = ap {B = ℕ} (λ (b : Bool). cond b 1 0) (same x)

-- where versions find the same, some version refuses exactly when the first one does
abbrev refused_by : ℕ → FindingValue → Bool
refused_by index finding = is_refused (verdict_of (answer_in finding index))

none_refuses : (index : ℕ) (one : FindingValue) (others : List FindingValue) → All (FindsAs one index) others → refused_by index one ≡ false
    → some_refuses others index ≡ false
none_refuses index one [] are none = refl
none_refuses index one (other ∷ more) are none =
    let same : refused_by index other ≡ false =
    ap (λ (answer : Answer). is_refused (verdict_of answer)) (All-head (FindsAs one index) other more are).0 ∙ none in
    rw same (none_refuses index one more (All-tail (FindsAs one index) other more are) none)

first_refuses : (index : ℕ) (one : FindingValue) (others findings : List FindingValue) → findings ≡ one ∷ others → AreAlike findings index
    → is_refused (verdict_of (answer_in one index)) ≡ some_refuses findings index
first_refuses index one others findings is are =
    by_cases (cases_Bool (refused_by index one)) ∙ ap (λ (fs : List FindingValue). some_refuses fs index) (sym is)
  where
    by_cases : (refused_by index one ≡ true) ⊎ (refused_by index one ≡ false) → refused_by index one ≡ some_refuses (one ∷ others) index
    by_cases (inl refused) = rw refused refl
    by_cases (inr none) = none ∙ sym (rw none (none_refuses index one others (subst (λ (fs : List FindingValue). AreAlike fs index) is are) none))

-- the newest version tells too
newest_found : (index : ℕ) (one newest : FindingValue) (others : List FindingValue) → All (FindsAs one index) (others ++ newest ∷ [])
    → FindsAs one index newest
newest_found index one newest [] are = All-head (FindsAs one index) newest [] are
newest_found index one newest (other ∷ more) are =
    newest_found index one newest more (All-tail (FindsAs one index) other (more ++ newest ∷ []) are)

pub newest_refuses : (index : ℕ) (newest : FindingValue) (older findings : List FindingValue) → findings ≡ older ++ newest ∷ []
    → AreAlike findings index → is_refused (verdict_of (answer_in newest index)) ≡ some_refuses findings index
newest_refuses index newest [] findings is are = first_refuses index newest [] findings is are
newest_refuses index newest (one ∷ more) findings is are =
    let same : FindsAs one index newest = newest_found index one newest more (subst (λ (fs : List FindingValue). AreAlike fs index) is are) in
    ap (λ (answer : Answer). is_refused (verdict_of answer)) same.0 ∙ first_refuses index one (more ++ newest ∷ []) findings is are

pub same_refused : (explains : Bool) (tree : List Entry) (records : List Record) (findings : List FindingValue) (count : ℕ)
    → count_by (some_refuses findings) (range_with_len 0 count)
    ≡ count_by (is_refused_under_some (founds_in explains tree records findings)) (range_with_len 0 count)
same_refused explains tree records findings count =
    count_same (some_refuses findings) (is_refused_under_some (founds_in explains tree records findings))
    (λ index. sym (refused_in findings index explains tree records)) (range_with_len 0 count)
