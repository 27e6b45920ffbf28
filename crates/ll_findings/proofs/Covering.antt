-- Records of which only what differs from a base is kept, chunk after chunk.
use Rattle.std.proofs.Common.{◌≡◌, ◌≢◌, ◌∙◌, ◌<◌, ◌≤◌, ◌+◌, ◌++◌, ℕ, suc, true, List, [], ◌∷◌}
use Rattle.std.proofs.Common.{length, Option, Some, None, Result, Ok, refl, sym, ap, ap₂, subst, inl, inr, arith}
use Rattle.std.specs.Prelude.{option_map, slice_get, unwrap_or}
use Rattle.std.specs.Option.{option_and_then}
use Rattle.std.specs.List.{All, AllZip}
use Rattle.std.proofs.lemmas.Bool.{cases_eq, cases_lt, eq-eqb}
use Rattle.std.proofs.lemmas.List.{append-nil, length-append, same_lists}
use Rattle.std.proofs.lemmas.List.Elements.{All-append, All-head, All-nil, All-push, All-tail, All-weaker}
use Rattle.std.proofs.lemmas.Option.{get_or_from_slice_get, none-some, same_Some, slice_get_cases, slice_get_within}
use Rattle.std.specs.declared.alloc.AllocError.{AllocError}
use Rattle.ll_semantics.specs.declared.answer.Answer.{Answer}
use Rattle.ll_semantics.specs.declared.answer.Answer.TheVariants.{Moot}
use Rattle.ll_semantics.specs.Worlds.{judged}
use Rattle.ll_semantics.proofs.Steps.{length-judged}
use Rattle.ll_process.specs.Cases.{CaseValue}
use Rattle.ll_findings.specs.Findings.{AreKept, ChangesValue, FindingValue, Finds, IsAboutAll, IsFoundAt, IsKept, Notes}
use Rattle.ll_findings.specs.Findings.{answer_in, answer_over, both_changed, changed_once, kept_at, kept_over, with_changes}
use Rattle.ll_findings.specs.Overlays.{Rise, change_at, overlay, where_in}
use Rattle.ll_findings.specs.Chunks.{AreChunks, Covers, IsCompared, IsCovered}
use Rattle.ll_explanations.specs.declared.explanation.Explanation.{Explanation}
use Rattle.ll_findings.specs.declared.chunk.Chunk.{Chunk}
use Rattle.ll_findings.proofs.Overlaying.{as_many, overlaid_at}
use Rattle.ll_findings.proofs.Rising.{each_there, none_from, rises_on, skipped}

-- ---- the change at an index

module _ {A : Type 0} (index : ℕ) where
  here : (first : ℕ) (change : A) (indices : List ℕ) (changes : List A) → first ≡ index → change_at index (first ∷ indices) (change ∷ changes) ≡ Some change
  unfolding where_in
  here first change indices changes same = rw (eq-eqb first index same) refl

  one_behind : (change : A) (changes : List A) (index : Option ℕ)
      → option_and_then (slice_get (change ∷ changes)) (option_map suc index) ≡ option_and_then (slice_get changes) index
  one_behind change changes None = refl
  one_behind change changes (Some index) = refl

  not_here : (first : ℕ) (change : A) (indices : List ℕ) (changes : List A) → first ≢ index
      → change_at index (first ∷ indices) (change ∷ changes) ≡ change_at index indices changes
  not_here first change indices changes other =
      ap (option_and_then (slice_get (change ∷ changes))) (skipped index first indices other) ∙ one_behind change changes (where_in index indices)

  -- the changes behind others are at higher indices
  before_others : (middle : ℕ) (indices more : List ℕ) (changes others : List A) → length changes ≡ length indices → Rise middle more → index < middle
      → change_at index (indices ++ more) (changes ++ others) ≡ change_at index indices changes
  unfolding where_in
  before_others middle [] more [] others many rise below = ap (option_and_then (slice_get others)) (none_from index middle more rise below)
  before_others middle [] more (change ∷ changes) others many rise below = absurd (omega (arith, many))
  before_others middle (first ∷ indices) more [] others many rise below = absurd (omega (arith, many))
  before_others middle (first ∷ indices) more (change ∷ changes) others many rise below = elim (cases_eq first index) [
    | inl same ↦ here first change (indices ++ more) (changes ++ others) same ∙ sym (here first change indices changes same)
    | inr other ↦
        not_here first change (indices ++ more) (changes ++ others) other
        ∙ before_others middle indices more changes others (omega (arith, many)) rise below ∙ sym (not_here first change indices changes other)
  ]

  behind_others : (middle : ℕ) (indices more : List ℕ) (changes others : List A) → length changes ≡ length indices → All (λ at. at < middle) indices
      → middle ≤ index → change_at index (indices ++ more) (changes ++ others) ≡ change_at index more others
  behind_others middle [] more [] others many below behind = refl
  behind_others middle [] more (change ∷ changes) others many below behind = absurd (omega (arith, many))
  behind_others middle (first ∷ indices) more [] others many below behind = absurd (omega (arith, many))
  behind_others middle (first ∷ indices) more (change ∷ changes) others many below behind =
      let lower : first < middle = All-head (λ at. at < middle) first indices below in
      not_here first change (indices ++ more) (changes ++ others) (λ same. omega (arith, same, behind, lower))
      ∙ behind_others middle indices more changes others (omega (arith, many)) (All-tail (λ at. at < middle) first indices below) behind

module _ (case : CaseValue) (base : FindingValue) where
  -- what is told of an index by the same changes
  covered_as : (one other : ChangesValue) (index : ℕ)
      → change_at index other.indices other.found.answers ≡ change_at index one.indices one.found.answers
      → change_at index other.indices other.found.explanations ≡ change_at index one.indices one.found.explanations
      → IsCovered case base one index → IsCovered case base other index
  covered_as one other index answers explanations is =
      let answer : answer_over base other index ≡ answer_over base one index = ap (λ o. unwrap_or o (answer_in base index)) answers in
      let kept : kept_over base other index ≡ kept_over base one index = ap (λ o. unwrap_or o (kept_at base index)) explanations in
      record {
        answer = is.answer ∙ ap Some (sym answer);
        kept =
            subst (λ (a : Answer). IsKept case.tree case.abi case.records index a (kept_over base other index)) (sym answer)
            (subst (IsKept case.tree case.abi case.records index (answer_over base one index)) (sym kept) is.kept);
      }

  -- no record
  pub covers_none : (from : ℕ) (changes : ChangesValue) → changes ≡ record { indices = []; found = record { answers = []; explanations = [] } }
      → Covers case base from from changes
  unfolding Rise
  covers_none from changes none = subst (Covers case base from from) (sym none) (record {
    ordered = omega arith;
    rise = tt;
    below = All-nil (λ index. index < from);
    answers = refl;
    explanations = refl;
    covered = λ index above below. absurd (omega (arith, above, below));
    all = λ none. omega arith;
  })

  -- one record, of which the base has the same
  same_covers : (index : ℕ) (answer : Answer) (kept : Option Explanation) → IsFoundAt base index answer kept
      → slice_get (judged case.tree case.abi case.records) index ≡ Some answer → IsKept case.tree case.abi case.records index answer kept
      → Covers case base index (index + 1) (record { indices = []; found = record { answers = []; explanations = [] } })
  unfolding Rise where_in
  same_covers index answer kept found answered is =
      let answer_is : answer_in base index ≡ answer = ap (λ o. unwrap_or o Moot) found.0 in
      let kept_is : kept_at base index ≡ kept = ap (λ o. unwrap_or o None) found.1 in
      record {
        ordered = omega arith;
        rise = tt;
        below = All-nil (λ at. at < index + 1);
        answers = refl;
        explanations = refl;
        covered = λ at above below.
            let here : index ≡ at = omega (arith, above, below) in
            subst (IsCovered case base (record { indices = []; found = record { answers = []; explanations = [] } })) here (record {
              answer = answered ∙ ap Some (sym answer_is);
              kept =
                  subst (λ (a : Answer). IsKept case.tree case.abi case.records index a (kept_at base index)) (sym answer_is)
                  (subst (IsKept case.tree case.abi case.records index answer) (sym kept_is) is);
            });
        all = λ none. absurd (none-some answer (ap (λ (xs : List Answer). slice_get xs index) (sym none) ∙ found.0));
      }

  -- one record, of which something else may be found
  once_covers : (index : ℕ) (answer : Answer) (kept : Option Explanation) → slice_get (judged case.tree case.abi case.records) index ≡ Some answer
      → IsKept case.tree case.abi case.records index answer kept → Covers case base index (index + 1) (changed_once index answer kept)
  unfolding Rise
  once_covers index answer kept answered is =
      let answer_is : answer_over base (changed_once index answer kept) index ≡ answer =
      ap (λ o. unwrap_or o (answer_in base index)) (here index index answer [] [] refl) in
      let kept_is : kept_over base (changed_once index answer kept) index ≡ kept =
      ap (λ o. unwrap_or o (kept_at base index)) (here index index kept [] [] refl) in
      record {
        ordered = omega arith;
        rise = (omega arith, tt);
        below = All-push (λ at. at < index + 1) [] index (All-nil (λ at. at < index + 1)) (omega arith);
        answers = refl;
        explanations = refl;
        covered = λ at above below.
            let there : index ≡ at = omega (arith, above, below) in
            subst (IsCovered case base (changed_once index answer kept)) there (record {
              answer = answered ∙ ap Some (sym answer_is);
              kept =
                  subst (λ (a : Answer). IsKept case.tree case.abi case.records index a (kept_over base (changed_once index answer kept) index))
                  (sym answer_is) (subst (IsKept case.tree case.abi case.records index answer) (sym kept_is) is);
            });
        all = λ none. omega arith;
      }

  -- records, and others behind them
  covers_both : (from middle end : ℕ) (one other : ChangesValue) → Covers case base from middle one → Covers case base middle end other
      → Covers case base from end (both_changed one other)
  covers_both from middle end one other first second = record {
    ordered = omega (arith, first.ordered, second.ordered);
    rise = rises_on from middle one.indices other.indices first.ordered first.rise first.below second.rise;
    below = All-append (λ index. index < end) one.indices other.indices
        (All-weaker (λ index. index < middle) (λ index. index < end) (λ index at. omega (arith, at, second.ordered)) one.indices first.below)
        second.below;
    answers = length-append one.found.answers other.found.answers ∙ ap₂ (λ n m. n + m) first.answers second.answers
        ∙ sym (length-append one.indices other.indices);
    explanations = length-append one.found.explanations other.found.explanations ∙ ap₂ (λ n m. n + m) first.explanations second.explanations
        ∙ sym (length-append one.indices other.indices);
    covered = λ index above below. elim (cases_lt index middle) [
      | inl before ↦
          covered_as one (both_changed one other) index
          (before_others index middle one.indices other.indices one.found.answers other.found.answers first.answers second.rise before)
          (before_others index middle one.indices other.indices one.found.explanations other.found.explanations first.explanations second.rise before)
          (first.covered index above before)
      | inr behind ↦
          covered_as other (both_changed one other) index
          (behind_others index middle one.indices other.indices one.found.answers other.found.answers first.answers first.below behind)
          (behind_others index middle one.indices other.indices one.found.explanations other.found.explanations first.explanations first.below behind)
          (second.covered index behind below)
    ];
    all = λ none.
        let many : length (one.indices ++ other.indices) ≡ length one.indices + length other.indices = length-append one.indices other.indices in
        omega (arith, many, first.all none, second.all none);
  }

  nothing_more : (xs : List ℕ) (answers : List Answer) (kept : List (Option Explanation))
      → both_changed (record { indices = xs; found = record { answers = answers; explanations = kept } })
      (record { indices = []; found = record { answers = []; explanations = [] } })
      ≡ record { indices = xs; found = record { answers = answers; explanations = kept } }
  nothing_more xs answers kept =
      ap (λ indices. record { indices = indices; found = record { answers = answers ++ []; explanations = kept ++ [] } }) (append-nil xs)
      ∙ ap₂ (λ answers kept. record { indices = xs; found = record { answers = answers; explanations = kept } }) (append-nil answers) (append-nil kept)

  -- one record more is noted
  pub covers_more : (from index : ℕ) (before after : ChangesValue) (answer other : Answer) (kept : Option Explanation)
      → Covers case base from index before → slice_get (judged case.tree case.abi case.records) index ≡ Some answer
      → slice_get (judged case.tree case.abi case.records) index ≡ Some other
      → IsKept case.tree case.abi case.records index answer kept → Notes base index other kept before after
      → Covers case base from (index + 1) after
  covers_more from index before after answer other kept so_far answered others is notes =
      let same : other ≡ answer = same_Some other answer (sym others ∙ answered) in
      elim (subst (λ (a : Answer). Notes base index a kept before after) same notes) [
        | inl had ↦
            subst (Covers case base from (index + 1)) (nothing_more before.indices before.found.answers before.found.explanations ∙ sym had.1)
            (covers_both from index (index + 1) before _ so_far (same_covers index answer kept had.0 answered is))
        | inr new ↦
            subst (Covers case base from (index + 1)) (sym new)
            (covers_both from index (index + 1) before (changed_once index answer kept) so_far (once_covers index answer kept answered is))
      ]

-- ---- chunks, one behind the other

-- the changes of the first chunks, and the parts that are left
pub record JoinsChanges (case : CaseValue) (base : FindingValue) (end : ℕ) (all : ChangesValue) (parts : List (Result ChangesValue AllocError)) : Type 0 where
  pub upto : ℕ
  pub left : List Chunk
  pub compared : AllZip (IsCompared base) left parts
  pub are : AreChunks case upto end left
  pub covers : Covers case base 0 upto all

module _ (case : CaseValue) (base : FindingValue) (end : ℕ) where
  pub changes_join : (chunks : List Chunk) (all : ChangesValue) (parts : List (Result ChangesValue AllocError))
      → all ≡ record { indices = []; found = record { answers = []; explanations = [] } } → AllZip (IsCompared base) chunks parts
      → AreChunks case 0 end chunks → JoinsChanges case base end all parts
  changes_join chunks all parts none compared are = record {
    upto = 0;
    left = chunks;
    compared = compared;
    are = are;
    covers = covers_none case base 0 all none;
  }

  first_joins : (all own : ChangesValue) (upto : ℕ) (left : List Chunk) (parts : List (Result ChangesValue AllocError))
      → AllZip (IsCompared base) left (Ok own ∷ parts) → AreChunks case upto end left → Covers case base 0 upto all
      → JoinsChanges case base end (both_changed all own) parts
  first_joins all own upto [] parts compared are covers = absurd compared
  first_joins all own upto (chunk ∷ left) parts compared are covers = record {
    upto = chunk.end;
    left = left;
    compared = compared.1;
    are = are.2;
    covers =
        covers_both case base 0 upto chunk.end all own covers
        (subst (λ (n : ℕ). Covers case base n chunk.end own) are.1
        (subst (λ (cv : CaseValue). Covers cv base chunk.from chunk.end own) are.0 compared.0));
  }

  pub changes_join_more : (all own next : ChangesValue) (parts : List (Result ChangesValue AllocError)) → JoinsChanges case base end all (Ok own ∷ parts)
      → next ≡ both_changed all own → JoinsChanges case base end next parts
  changes_join_more all own next parts joins added =
      subst (λ (all : ChangesValue). JoinsChanges case base end all parts) (sym added)
      (first_joins all own joins.upto joins.left parts joins.compared joins.are joins.covers)

  none_left : (upto : ℕ) (left : List Chunk) → AllZip (IsCompared base) left [] → AreChunks case upto end left → upto ≡ end
  none_left upto [] compared are = are
  none_left upto (chunk ∷ left) compared are = absurd compared

  pub changes_join_all : (all : ChangesValue) → JoinsChanges case base end all [] → Covers case base 0 end all
  changes_join_all all joins =
      subst (λ (n : ℕ). Covers case base 0 n all) (none_left joins.upto joins.left joins.compared joins.are) joins.covers

-- ---- all records of a case

over_at : {A : Type 0} (base changes : List A) (indices : List ℕ) (index : ℕ) (other : A) → index < length base
    → slice_get (overlay base indices changes) index ≡ Some (unwrap_or (change_at index indices changes) (unwrap_or (slice_get base index) other))
over_at {A = A} base changes indices index other within =
    let over : Option A → Option A = option_map (λ stays. unwrap_or (change_at index indices changes) stays) in
    elim ((slice_get_cases base index).1) [
      | inl found ↦
          overlaid_at changes base indices index ∙ ap over found.2
          ∙ ap (λ o. Some (unwrap_or (change_at index indices changes) (unwrap_or o other))) (sym found.2)
      | inr past ↦ absurd (omega (arith, past.0, within))
    ]

module _ (case : CaseValue) (base : FindingValue) (changes : ChangesValue) (count : ℕ) (about : IsAboutAll count base)
    (many : count ≡ length case.records) (covers : Covers case base 0 (length case.records) changes) where
  among : (index : ℕ) (listed : ℕ) → listed ≡ count → index < length case.records → index < listed
  among index listed as_many within = omega (arith, as_many, many, within)

  over_answers : (index : ℕ) → index < length case.records
      → slice_get (overlay base.answers changes.indices changes.found.answers) index ≡ Some (answer_over base changes index)
  over_answers index within =
      over_at base.answers changes.found.answers changes.indices index Moot (among index (length base.answers) about.answers within)

  over_explanations : (index : ℕ) → index < length case.records
      → slice_get (overlay base.explanations changes.indices changes.found.explanations) index ≡ Some (kept_over base changes index)
  over_explanations index within =
      over_at base.explanations changes.found.explanations changes.indices index None (among index (length base.explanations) about.explanations within)

  answers_over : overlay base.answers changes.indices changes.found.answers ≡ judged case.tree case.abi case.records
  answers_over =
      let listed : length (overlay base.answers changes.indices changes.found.answers) ≡ length case.records =
      as_many changes.found.answers base.answers changes.indices ∙ about.answers ∙ many in
      same_lists (overlay base.answers changes.indices changes.found.answers) (judged case.tree case.abi case.records)
      (listed ∙ sym (length-judged case.tree case.abi case.records))
      (λ index d below.
      let within : index < length case.records = omega (arith, below, listed) in
      get_or_from_slice_get (overlay base.answers changes.indices changes.found.answers) index (answer_over base changes index) d
      (over_answers index within)
      ∙ sym (get_or_from_slice_get (judged case.tree case.abi case.records) index (answer_over base changes index) d
      (covers.covered index (omega arith) within).answer))

  covers_finds : Finds true case.tree case.abi case.records (with_changes base changes.indices changes.found)
  covers_finds = record {
    answers = answers_over;
    as_many = as_many changes.found.explanations base.explanations changes.indices ∙ about.explanations ∙ many;
    each = λ index answer kept answered there.
        let below = slice_get_within (judged case.tree case.abi case.records) index answer answered in
        let within : index < length case.records = omega (arith, below, length-judged case.tree case.abi case.records) in
        let is = covers.covered index (omega arith) within in
        let answer_is : answer_over base changes index ≡ answer = same_Some (answer_over base changes index) answer (sym is.answer ∙ answered) in
        let kept_is : kept_over base changes index ≡ kept =
        same_Some (kept_over base changes index) kept (sym (over_explanations index within) ∙ there) in
        subst (λ (a : Answer). IsKept case.tree case.abi case.records index a kept) answer_is
        (subst (IsKept case.tree case.abi case.records index (answer_over base changes index)) kept_is is.kept);
  }

-- what is found of all records of a case, of which only the changes to a base are kept
pub by_changes_finds : (case : CaseValue) (base : FindingValue) (changes : ChangesValue) (answers : List Answer)
    → answers ≡ judged case.tree case.abi case.records → IsAboutAll (length answers) base → Covers case base 0 (length case.records) changes
    → Finds true case.tree case.abi case.records (with_changes base changes.indices changes.found)
by_changes_finds case base changes answers are about covers =
    covers_finds case base changes (length answers) about (ap length are ∙ length-judged case.tree case.abi case.records) covers

-- ---- all records of a case, of which nothing was found before

module _ (case : CaseValue) (base : FindingValue) (changes : ChangesValue) (none : base.answers ≡ [])
    (covers : Covers case base 0 (length case.records) changes) where
  pub as_many_changed : length changes.found.explanations ≡ length case.records
  as_many_changed = covers.explanations ∙ omega (arith, covers.all none)

  changed_there : (index : ℕ) (all : List (Option Explanation)) → index < length case.records → change_at index changes.indices all ≡ slice_get all index
  changed_there index all within =
      let same : 0 + index ≡ index = omega arith in
      ap (option_and_then (slice_get all)) (subst (λ (n : ℕ). where_in n changes.indices ≡ Some index) same
      (each_there 0 (length case.records) index changes.indices covers.rise covers.below (covers.all none) (omega (arith, covers.all none, within))))

  pub all_changed : AreKept case.tree case.abi case.records changes.found.explanations
  all_changed index answer kept answered there =
      let below = slice_get_within (judged case.tree case.abi case.records) index answer answered in
      let within : index < length case.records = omega (arith, below, length-judged case.tree case.abi case.records) in
      let is = covers.covered index (omega arith) within in
      let answer_is : answer_over base changes index ≡ answer = same_Some (answer_over base changes index) answer (sym is.answer ∙ answered) in
      let kept_is : kept_over base changes index ≡ kept =
      ap (λ o. unwrap_or o (kept_at base index)) (changed_there index changes.found.explanations within ∙ there) in
      subst (λ (a : Answer). IsKept case.tree case.abi case.records index a kept) answer_is
      (subst (IsKept case.tree case.abi case.records index (answer_over base changes index)) kept_is is.kept)
