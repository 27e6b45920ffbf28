-- Kinds that are counted, with a record more.
use Rattle.std.proofs.Common.{◌≡◌, ◌≢◌, ◌∙◌, ◌+◌, ◌<◌, ◌≤◌, ◌&&◌, ◌||◌, ℕ, Bool, true, false, cond, List, [], ◌∷◌, ◌++◌}
use Rattle.std.proofs.Common.{refl, sym, ap, ap₂, subst, arith, inl, inr}
use Rattle.std.proofs.Common.{get_or, length, set, take}
use Rattle.std.specs.Prelude.{◌==◌, ◌⊎◌, Option, Some, None, bytes_eq, count_by, if◌then◌else◌, not}
use Rattle.std.specs.List.{list_any}
use Rattle.std.proofs.lemmas.Bool.{cases_Bool, cases_eq, cases_lt, eqb-true, false_from_ne_true, false≢true}
use Rattle.std.proofs.lemmas.List.{get_or-set_other, get_or-set_same, get_or_append_left, get_or_push, length-set, length_push}
use Rattle.std.proofs.lemmas.List.{length-take-le, nil_from_length, get_or-take, take-append-le, take_all}
use Rattle.std.proofs.lemmas.List.Folds.{list_any-append, list_any_at}
use Rattle.std.proofs.lemmas.List.FromFn.{fill_by_all, get_or-map-range_with_len, length-map-range_with_len}
use Rattle.std.proofs.lemmas.List.Sums.{count_by-le-length, sum_by_push, sum_by-cons}
use Rattle.std.proofs.lemmas.Slice.Eq.{bytes_eq-Decides}
use Rattle.std.specs.Cmp.Lexicographic.{nat_list_eq_equiv}
use Rattle.ll_report.specs.Kinds.{is_first, is_said_before, records_like, said_at}
use Rattle.ll_report.specs.Counted.{IsFirstOf, counts_of, records_from}

-- ---- lists of texts

count_none : (text : List ℕ) (said : List (List ℕ)) → list_any (bytes_eq text) said ≡ false → count_by (bytes_eq text) said ≡ 0
count_none text [] none = refl
count_none text (one ∷ others) none = go (bytes_eq text one) refl (count_none text others) none
  where
    go : (b : Bool) → bytes_eq text one ≡ b → (list_any (bytes_eq text) others ≡ false → count_by (bytes_eq text) others ≡ 0)
        → list_any (bytes_eq text) (one ∷ others) ≡ false → count_by (bytes_eq text) (one ∷ others) ≡ 0
    go true is rest none = absurd (false≢true (sym (rw is at none)))
    go false is rest none =
        omega (
          arith,
          sum_by-cons (λ (t : List ℕ). cond (bytes_eq text t) 1 0) one others,
          ap (λ (b : Bool). cond {A = ℕ} b 1 0) is,
          rest (rw is at none),
        )

pub and_false : (b : Bool) → (b && false) ≡ false
and_false true = refl
and_false false = refl

none_is_some : (index : ℕ) → None ≡ Some index → ⊥
none_is_some index is = cc

pub over_nothing : (one : List ℕ) → (not (length one == 0) && bytes_eq one []) ≡ false
over_nothing [] = refl
over_nothing (byte ∷ bytes) = and_false (not (length (byte ∷ bytes) == 0))

none_at : (text : List ℕ) (said : List (List ℕ)) (index : ℕ) (other : List ℕ) → index < length said → list_any (bytes_eq text) said ≡ false
    → bytes_eq text (get_or said index other) ≡ false
none_at text said index other below none =
    false_from_ne_true (bytes_eq text (get_or said index other))
    (λ same. false≢true (sym none ∙ list_any_at (bytes_eq text) said index other below same))

-- of a record of which the same is said as of an earlier one, none is the first
pub repeated : (said : List (List ℕ)) (earlier later : ℕ) → earlier < later → later < length said → said_at said earlier ≡ said_at said later
    → is_first said later ≡ false
repeated said earlier later before below same =
    let few : earlier < length (take later said) = omega (arith, length-take-le later said (omega (arith, below)), before) in
    let there : bytes_eq (said_at said later) (get_or (take later said) earlier []) ≡ true =
    ap (bytes_eq (said_at said later)) (get_or-take later said earlier [] before ∙ same) ∙ nat_list_eq_equiv.refl (said_at said later) in
    ap (λ (b : Bool). not (length (said_at said later) == 0) && not b) (list_any_at (bytes_eq (said_at said later)) (take later said) earlier [] few there)
    ∙ and_false (not (length (said_at said later) == 0))

-- the first record of a kind is said otherwise than one of which nothing is said
pub blank_apart : (said : List (List ℕ)) (text : List ℕ) → (length text == 0) ≡ true
    → (index : ℕ) → (is_first said index && bytes_eq (said_at said index) text) ≡ false
blank_apart said text blank index =
    go (not (length (said_at said index) == 0)) (not (is_said_before said index)) (bytes_eq (said_at said index) text) (both (said_at said index))
  where
    both : (one : List ℕ) → (not (length one == 0) && bytes_eq one text) ≡ false
    both one = ap (λ (t : List ℕ). not (length one == 0) && bytes_eq one t) (nil_from_length text (eqb-true (length text) 0 blank)) ∙ over_nothing one

    go : (b c d : Bool) → (b && d) ≡ false → ((b && c) && d) ≡ false
    go true true d none = none
    go true false d none = refl
    go false c d none = refl

-- ---- with a text more

module _ (said : List (List ℕ)) (text : List ℕ) where
  abbrev more : List (List ℕ)
  more = said ++ text ∷ []

  pub old_said : (index : ℕ) → index < length said → said_at more index ≡ said_at said index
  old_said index below = get_or_append_left said (text ∷ []) [] index below

  pub new_said : said_at more (length said) ≡ text
  new_said = get_or_push said text [] (length said) refl

  pub old_first : (index : ℕ) → index < length said → is_first more index ≡ is_first said index
  old_first index below =
      ap₂ (λ (one : List ℕ) (earlier : List (List ℕ)). not (length one == 0) && not (list_any (bytes_eq one) earlier))
      (old_said index below) (take-append-le index said (text ∷ []) (omega (arith, below)))

  pub new_first : is_first more (length said) ≡ (not (length text == 0) && not (list_any (bytes_eq text) said))
  new_first =
      ap₂ (λ (one : List ℕ) (earlier : List (List ℕ)). not (length one == 0) && not (list_any (bytes_eq one) earlier))
      new_said (take-append-le (length said) said (text ∷ []) (omega arith) ∙ take_all (length said) said (omega arith))

  old_like : (index : ℕ) → index < length said
      → records_like more index ≡ records_like said index + cond (bytes_eq (said_at said index) text) 1 0
  old_like index below =
      ap (λ (one : List ℕ). count_by (bytes_eq one) more) (old_said index below)
      ∙ sum_by_push (λ (t : List ℕ). cond (bytes_eq (said_at said index) t) 1 0) said text

  pub new_like : list_any (bytes_eq text) said ≡ false → records_like more (length said) ≡ 1
  new_like none =
      ap (λ (one : List ℕ). count_by (bytes_eq one) more) new_said
      ∙ sum_by_push (λ (t : List ℕ). cond (bytes_eq text t) 1 0) said text
      ∙ ap₂ (λ (n : ℕ) (b : Bool). n + cond b 1 0) (count_none text said none) (nat_list_eq_equiv.refl text)

  -- a record that is the first of its kind has one more of it where the new one is said alike
  pub old_from : (index : ℕ) → index < length said
      → records_from more index ≡ records_from said index + cond (is_first said index && bytes_eq (said_at said index) text) 1 0
  old_from index below =
      ap₂ (λ (b : Bool) (n : ℕ). if b then n else 0) (old_first index below) (old_like index below)
      ∙ go (is_first said index)
    where
      go : (b : Bool) → (if b then (records_like said index + cond (bytes_eq (said_at said index) text) 1 0) else 0)
          ≡ (if b then records_like said index else 0) + cond (b && bytes_eq (said_at said index) text) 1 0
      go true = refl
      go false = refl

  pub new_from : records_from more (length said)
      ≡ (if not (length text == 0) && not (list_any (bytes_eq text) said) then records_like more (length said) else 0)
  new_from = ap (λ (b : Bool). if b then records_like more (length said) else 0) new_first

  -- counts of all records are those of the old ones and that of the new one
  filled : (counts : List ℕ) → length counts ≡ length said + 1
      → ((index : ℕ) → index < length said → get_or counts index 0 ≡ records_from more index)
      → get_or counts (length said) 0 ≡ records_from more (length said) → counts ≡ counts_of more
  filled counts as_many olds new =
      fill_by_all (records_from more) counts (length more) 0 (as_many ∙ sym (length_push said text)) each
    where
      each : (index : ℕ) → index < length more → get_or counts index 0 ≡ records_from more index
      each index below = go (cases_eq index (length said))
        where
          go : (index ≡ length said) ⊎ (index ≢ length said) → get_or counts index 0 ≡ records_from more index
          go (inl is) = ap (λ (k : ℕ). get_or counts k 0) is ∙ new ∙ ap (records_from more) (sym is)
          go (inr other) = olds index (omega (arith, below, other, length_push said text))

  module _ (counts : List ℕ) (are : counts ≡ counts_of said) where
    pub as_many : length counts ≡ length said
    as_many = ap length are ∙ length-map-range_with_len (records_from said) 0 (length said)

    old_count : (index : ℕ) → index < length said → get_or counts index 0 ≡ records_from said index
    old_count index below =
        ap (λ (all : List ℕ). get_or all index 0) are
        ∙ get_or-map-range_with_len (records_from said) 0 (length said) index index 0 below (omega arith)

    -- with one that isn't counted
    same_counts : (count : ℕ) → ((index : ℕ) → index < length said → (is_first said index && bytes_eq (said_at said index) text) ≡ false)
        → count ≡ records_from more (length said) → counts ++ count ∷ [] ≡ counts_of more
    same_counts count none new =
        filled (counts ++ count ∷ []) (length_push counts count ∙ ap (λ (n : ℕ). n + 1) as_many)
        (λ index below.
        get_or_append_left counts (count ∷ []) 0 index (omega (arith, below, as_many))
        ∙ old_count index below
        ∙ omega (arith, old_from index below, ap (λ (b : Bool). cond {A = ℕ} b 1 0) (none index below)))
        (get_or_push counts count 0 (length said) as_many ∙ new)

    -- nothing is said of the new record
    pub blank_counted : (length text == 0) ≡ true → counts ++ 0 ∷ [] ≡ counts_of more
    blank_counted blank =
        same_counts 0 (λ index below. blank_apart said text blank index)
        (sym (new_from ∙ ap (λ (b : Bool). if not b && not (list_any (bytes_eq text) said) then records_like more (length said) else 0) blank))

    -- it is said of no other one
    pub new_counted : (length text == 0) ≡ false → list_any (bytes_eq text) said ≡ false → counts ++ 1 ∷ [] ≡ counts_of more
    new_counted filled none =
        same_counts 1 apart
        (sym (new_from
        ∙ ap₂ (λ (a b : Bool). if not a && not b then records_like more (length said) else 0) filled none
        ∙ new_like none))
      where
        apart : (index : ℕ) → index < length said → (is_first said index && bytes_eq (said_at said index) text) ≡ false
        apart index below =
            ap (λ (b : Bool). is_first said index && b) (nat_list_eq_equiv.symm (said_at said index) text ∙ none_at text said index [] below none)
            ∙ and_false (is_first said index)

    -- it is said of another one too, which is the first of its kind
    module _ (first : ℕ) (below_first : first < length said) (same : said_at said first ≡ text) (is : is_first said first ≡ true) where
      alone : (index : ℕ) → index < length said → index ≢ first → (is_first said index && bytes_eq (said_at said index) text) ≡ false
      alone index below other = go (cases_Bool (bytes_eq (said_at said index) text))
        where
          alike : bytes_eq (said_at said index) text ≡ true → is_first said index ≡ false
          alike equal =
              let again : said_at said index ≡ said_at said first = (bytes_eq-Decides (said_at said index) text).0 equal ∙ sym same in
              order (cases_lt index first) again
            where
              order : (index < first) ⊎ (first ≤ index) → said_at said index ≡ said_at said first → is_first said index ≡ false
              order (inl before) again = absurd (false≢true (sym (repeated said index first before below_first again) ∙ is))
              order (inr later) again = repeated said first index (omega (arith, later, other)) below (sym again)

          go : (bytes_eq (said_at said index) text ≡ true) ⊎ (bytes_eq (said_at said index) text ≡ false)
              → (is_first said index && bytes_eq (said_at said index) text) ≡ false
          go (inl equal) = ap (λ (b : Bool). b && bytes_eq (said_at said index) text) (alike equal)
          go (inr differ) = ap (λ (b : Bool). is_first said index && b) differ ∙ and_false (is_first said index)

      pub known_counted : (count : ℕ) → count ≡ get_or counts first 0 → set counts first (count + 1) ++ 0 ∷ [] ≡ counts_of more
      known_counted count read =
          filled (set counts first (count + 1) ++ 0 ∷ [])
          (length_push (set counts first (count + 1)) 0 ∙ ap (λ (n : ℕ). n + 1) (length-set counts first (count + 1) ∙ as_many))
          (λ index below.
          get_or_append_left (set counts first (count + 1)) (0 ∷ []) 0 index (omega (arith, below, as_many, length-set counts first (count + 1)))
          ∙ each index below (cases_eq index first))
          (get_or_push (set counts first (count + 1)) 0 0 (length said) (length-set counts first (count + 1) ∙ as_many) ∙ sym none)
        where
          one_more : records_from more first ≡ records_from said first + 1
          one_more =
              old_from first below_first
              ∙ ap₂ (λ (a b : Bool). records_from said first + cond (a && b) 1 0) is (ap (λ (t : List ℕ). bytes_eq t text) same ∙ nat_list_eq_equiv.refl text)

          each : (index : ℕ) → index < length said → (index ≡ first) ⊎ (index ≢ first)
              → get_or (set counts first (count + 1)) index 0 ≡ records_from more index
          each index below (inl here) =
              ap (λ (k : ℕ). get_or (set counts first (count + 1)) k 0) here
              ∙ get_or-set_same counts first (count + 1) 0 (omega (arith, below_first, as_many))
              ∙ ap (λ (n : ℕ). n + 1) (read ∙ old_count first below_first) ∙ sym one_more ∙ ap (records_from more) (sym here)
          each index below (inr other) =
              get_or-set_other counts first index (count + 1) 0 other ∙ old_count index below
              ∙ omega (arith, old_from index below, ap (λ (b : Bool). cond {A = ℕ} b 1 0) (alone index below other))

          seen : list_any (bytes_eq text) said ≡ true
          seen = list_any_at (bytes_eq text) said first [] below_first (ap (bytes_eq text) same ∙ nat_list_eq_equiv.refl text)

          none : records_from more (length said) ≡ 0
          none =
              new_from ∙ ap (λ (b : Bool). if not (length text == 0) && not b then records_like more (length said) else 0) seen
              ∙ ap (λ (b : Bool). if b then records_like more (length said) else 0) (and_false (not (length text == 0)))

-- ---- the first records

-- what is found as the first record is it
abbrev pub AreFirsts : List (List ℕ) → (List ℕ → Option ℕ) → Type 0
AreFirsts said found = (text : List ℕ) → IsFirstOf said text (found text)

module _ (said : List (List ℕ)) (text : List ℕ) where
  still_first : (index : ℕ) (one : List ℕ) → IsFirstOf said one (Some index) → IsFirstOf (said ++ text ∷ []) one (Some index)
  still_first index one first = (
    omega (arith, first.0, length_push said text),
    get_or_append_left said (text ∷ []) [] index first.0 ∙ first.1,
    old_first said text index first.0 ∙ first.2,
  )

  still_none : (one : List ℕ) → IsFirstOf said one None → ((length one == 0) ≡ false → bytes_eq one text ≡ false)
      → IsFirstOf (said ++ text ∷ []) one None
  still_none one none apart =
      λ filled.
      list_any-append (bytes_eq one) said (text ∷ [])
      ∙ ap₂ (λ (a b : Bool). a || (b || false)) (none filled) (apart filled)

  still : (found : Option ℕ) (one : List ℕ) → IsFirstOf said one found → ((length one == 0) ≡ false → found ≡ None → bytes_eq one text ≡ false)
      → IsFirstOf (said ++ text ∷ []) one found
  still (Some index) one is apart = still_first index one is
  still None one is apart = still_none one is (λ filled. apart filled refl)

  -- the same are found, where nothing is said of the new record, or it was said of an earlier one
  pub same_firsts : (found : List ℕ → Option ℕ) → AreFirsts said found
      → ((one : List ℕ) → (length one == 0) ≡ false → found one ≡ None → bytes_eq one text ≡ false) → AreFirsts (said ++ text ∷ []) found
  same_firsts found are apart one = still (found one) one (are one) (apart one)

  -- the new record is found too
  pub new_firsts : (old found : List ℕ → Option ℕ) → AreFirsts said old → old text ≡ None → (length text == 0) ≡ false
      → found text ≡ Some (length said) → ((one : List ℕ) → bytes_eq text one ≡ false → found one ≡ old one)
      → AreFirsts (said ++ text ∷ []) found
  new_firsts old found are none filled here others one = go (cases_Bool (bytes_eq text one))
    where
      unseen : list_any (bytes_eq text) said ≡ false
      unseen = subst (IsFirstOf said text) none (are text) filled

      new : IsFirstOf (said ++ text ∷ []) text (Some (length said))
      new = (
        omega (arith, length_push said text),
        get_or_push said text [] (length said) refl,
        new_first said text ∙ ap₂ (λ (a b : Bool). not a && not b) filled unseen,
      )

      go : (bytes_eq text one ≡ true) ⊎ (bytes_eq text one ≡ false) → IsFirstOf (said ++ text ∷ []) one (found one)
      go (inl same) =
          let is : text ≡ one = (bytes_eq-Decides text one).0 same in
          subst (λ (t : List ℕ). IsFirstOf (said ++ text ∷ []) t (found t)) is (subst (IsFirstOf (said ++ text ∷ []) text) (sym here) new)
      go (inr differ) =
          subst (IsFirstOf (said ++ text ∷ []) one) (sym (others one differ))
          (still (old one) one (are one) (λ filled_one nothing. nat_list_eq_equiv.symm one text ∙ differ))

module _ (said : List (List ℕ)) (text : List ℕ) (found : List ℕ → Option ℕ) (are : AreFirsts said found) where
  pub blank_firsts : (length text == 0) ≡ true → AreFirsts (said ++ text ∷ []) found
  blank_firsts blank = same_firsts said text found are apart
    where
      apart : (one : List ℕ) → (length one == 0) ≡ false → found one ≡ None → bytes_eq one text ≡ false
      apart one filled none =
          false_from_ne_true (bytes_eq one text)
          (λ same. false≢true (sym filled ∙ ap (λ (t : List ℕ). length t == 0) ((bytes_eq-Decides one text).0 same) ∙ blank))

  pub unseen : found text ≡ None → (length text == 0) ≡ false → list_any (bytes_eq text) said ≡ false
  unseen none = subst (IsFirstOf said text) none (are text)

  module _ (first : ℕ) (is : found text ≡ Some first) where
    pub known : IsFirstOf said text (Some first)
    known = subst (IsFirstOf said text) is (are text)

    pub known_below : (counts : List ℕ) → counts ≡ counts_of said → first < length counts
    known_below counts counted = omega (arith, known.0, as_many said text counts counted)

    pub known_few : (counts : List ℕ) → counts ≡ counts_of said → get_or counts first 0 ≤ length counts
    known_few counts counted =
        omega (
          arith,
          old_count said text counts counted first known.0,
          few (is_first said first) (records_like said first) (length said) (count_by-le-length (bytes_eq (said_at said first)) said),
          as_many said text counts counted,
        )
      where
        few : (b : Bool) (n most : ℕ) → n ≤ most → (if b then n else 0) ≤ most
        few true n most small = small
        few false n most small = omega arith

    pub known_firsts : AreFirsts (said ++ text ∷ []) found
    known_firsts = same_firsts said text found are apart
      where
        apart : (one : List ℕ) → (length one == 0) ≡ false → found one ≡ None → bytes_eq one text ≡ false
        apart one filled none =
            false_from_ne_true (bytes_eq one text)
            (λ same. none_is_some first (sym none ∙ ap found ((bytes_eq-Decides one text).0 same) ∙ is))
