-- Each record of which something is said is of one kind.
use Rattle.std.proofs.Common.{◌≡◌, ◌∙◌, ◌+◌, ◌<◌, ◌≤◌, ◌&&◌, ◌||◌, ℕ, zero, suc, Bool, true, false, cond, List, [], ◌∷◌, ◌++◌}
use Rattle.std.proofs.Common.{refl, sym, ap, ap₂, subst, arith, inl, inr}
use Rattle.std.proofs.Common.{get_or, length, take}
use Rattle.std.specs.Prelude.{◌==◌, ◌⊎◌, bytes_eq, count_by, filter, if◌then◌else◌, map, not}
use Rattle.std.specs.List.{list_any, range_with_len, sum_by}
use Rattle.std.proofs.lemmas.Bool.{cases_Bool, cases_lt, false≢true, not-true}
use Rattle.std.proofs.lemmas.List.{get_or_past, length_push, take_all, take_more}
use Rattle.std.proofs.lemmas.List.Elements.{All-map, All-weaker, filter_passes}
use Rattle.std.proofs.lemmas.List.Folds.{list_any-append, list_any_at}
use Rattle.std.proofs.lemmas.List.FromFn.{sum_by-map-range_with_len_more}
use Rattle.std.proofs.lemmas.List.Sums.{sum_by-cons, sum_by_push}
use Rattle.std.proofs.lemmas.Slice.Eq.{bytes_eq-Decides}
use Rattle.std.specs.Cmp.Lexicographic.{nat_list_eq_equiv}
use Rattle.ll_report.specs.Kinds.{ArePartedByKind, IsLeast, is_kind_of, is_told, Kind, is_first, kind_from, records_like, said_at}
use Rattle.ll_report.specs.Counted.{records_from}
use Rattle.ll_report.proofs.KindsCounted.{and_false, blank_apart, new_first, new_from, new_like, new_said, old_first, old_from, old_said, repeated}

-- of a list that begins with none and gets one element more, again and again
module _ (P : List (List ℕ) → Type 0) (none : P []) (more : (said : List (List ℕ)) (text : List ℕ) → P said → P (said ++ text ∷ [])) where
  grown : (said : List (List ℕ)) (k : ℕ) → k ≤ length said → P (take k said)
  grown said zero fits = none
  grown said (suc k) fits =
      let next : suc k ≡ k + 1 = omega arith in
      subst P (sym (ap (λ (n : ℕ). take n said) next ∙ take_more said k [] (omega (arith, fits))))
      (more (take k said) (get_or said k []) (grown said k (omega (arith, fits))))

  pub for_each : (said : List (List ℕ)) → P said
  for_each said = subst P (take_all (length said) said (omega arith)) (grown said (length said) (omega arith))

-- the sum of what a function has for the numbers below another one
abbrev total : (ℕ → ℕ) → ℕ → ℕ
total f n = sum_by (λ (k : ℕ). k) (map f (range_with_len 0 n))

total_more : (f : ℕ → ℕ) (n : ℕ) → total f (n + 1) ≡ total f n + f n
total_more f n = sum_by-map-range_with_len_more (λ (k : ℕ). k) f 0 n n (omega arith)

total_next : (f : ℕ → ℕ) (n : ℕ) → total f (suc n) ≡ total f n + f n
total_next f n = let next : suc n ≡ n + 1 = omega arith in ap (total f) next ∙ total_more f n

total_same : (f g : ℕ → ℕ) (n : ℕ) → ((k : ℕ) → k < n → f k ≡ g k) → total f n ≡ total g n
total_same f g zero same = refl
total_same f g (suc n) same =
    omega (arith, total_next f n, total_next g n, total_same f g n (λ k below. same k (omega (arith, below))), same n (omega arith))

total_sum : (f g h : ℕ → ℕ) (n : ℕ) → ((k : ℕ) → k < n → f k ≡ g k + h k) → total f n ≡ total g n + total h n
total_sum f g h zero sums = refl
total_sum f g h (suc n) sums =
    omega (arith, total_next f n, total_next g n, total_next h n, total_sum f g h n (λ k below. sums k (omega (arith, below))), sums n (omega arith))

-- one for a record that is the first of which this is said
abbrev one_if_first : List (List ℕ) → List ℕ → ℕ → ℕ
one_if_first said text index = cond (is_first said index && bytes_eq (said_at said index) text) 1 0

-- of the records of which this is said one is the first
abbrev HasOne : List ℕ → List (List ℕ) → Type 0
HasOne text said = total (one_if_first said text) (length said) ≡ cond (list_any (bytes_eq text) said) 1 0

module _ (text : List ℕ) (filled : (length text == 0) ≡ false) where
  one_more : (said : List (List ℕ)) (last : List ℕ) → HasOne text said → HasOne text (said ++ last ∷ [])
  one_more said last one =
      ap (total (one_if_first (said ++ last ∷ []) text)) (length_push said last)
      ∙ total_more (one_if_first (said ++ last ∷ []) text) (length said)
      ∙ ap₂ (λ (a b : ℕ). a + b) (total_same (one_if_first (said ++ last ∷ []) text) (one_if_first said text) (length said) old ∙ one) new
      ∙ go (list_any (bytes_eq text) said) refl (cases_Bool (bytes_eq text last))
      ∙ ap (λ (b : Bool). cond b 1 0) (sym (list_any-append (bytes_eq text) said (last ∷ [])))
    where
      old : (index : ℕ) → index < length said → one_if_first (said ++ last ∷ []) text index ≡ one_if_first said text index
      old index below =
          ap₂ (λ (b : Bool) (t : List ℕ). cond (b && bytes_eq t text) 1 0) (old_first said last index below) (old_said said last index below)

      new : one_if_first (said ++ last ∷ []) text (length said)
          ≡ cond ((not (length last == 0) && not (list_any (bytes_eq last) said)) && bytes_eq text last) 1 0
      new =
          ap₂ (λ (b : Bool) (t : List ℕ). cond (b && bytes_eq t text) 1 0) (new_first said last) (new_said said last)
          ∙ ap (λ (b : Bool). cond ((not (length last == 0) && not (list_any (bytes_eq last) said)) && b) 1 0) (nat_list_eq_equiv.symm last text)

      alike : bytes_eq text last ≡ true → (b : Bool) → list_any (bytes_eq text) said ≡ b
          → (not (length last == 0) && not (list_any (bytes_eq last) said)) ≡ not b
      alike same b is =
          let equal : last ≡ text = sym ((bytes_eq-Decides text last).0 same) in
          ap (λ (t : List ℕ). not (length t == 0) && not (list_any (bytes_eq t) said)) equal ∙ ap₂ (λ (a c : Bool). not a && not c) filled is

      go : (b : Bool) → list_any (bytes_eq text) said ≡ b → (bytes_eq text last ≡ true) ⊎ (bytes_eq text last ≡ false)
          → cond {A = ℕ} (list_any (bytes_eq text) said) 1 0 + cond ((not (length last == 0) && not (list_any (bytes_eq last) said)) && bytes_eq text last) 1 0
          ≡ cond (list_any (bytes_eq text) said || (bytes_eq text last || false)) 1 0
      go true is (inl same) =
          ap₂ (λ (a : Bool) (c : Bool). cond {A = ℕ} a 1 0 + cond (c && bytes_eq text last) 1 0) is (alike same true is)
          ∙ ap (λ (a : Bool). cond {A = ℕ} (a || (bytes_eq text last || false)) 1 0) (sym is)
      go false is (inl same) =
          ap₂ (λ (a : Bool) (c : Bool). cond {A = ℕ} a 1 0 + cond (c && bytes_eq text last) 1 0) is (alike same false is)
          ∙ ap (λ (d : Bool). 0 + cond {A = ℕ} d 1 0) same
          ∙ ap₂ (λ (a d : Bool). cond {A = ℕ} (a || (d || false)) 1 0) (sym is) (sym same)
      go b is (inr differ) =
          ap (λ (d : Bool). cond {A = ℕ} (list_any (bytes_eq text) said) 1 0
          + cond {A = ℕ} ((not (length last == 0) && not (list_any (bytes_eq last) said)) && d) 1 0) differ
          ∙ ap (λ (d : Bool). cond {A = ℕ} (list_any (bytes_eq text) said) 1 0 + cond {A = ℕ} d 1 0)
          (and_false (not (length last == 0) && not (list_any (bytes_eq last) said)))
          ∙ plain (list_any (bytes_eq text) said)
          ∙ ap (λ (d : Bool). cond {A = ℕ} (list_any (bytes_eq text) said || (d || false)) 1 0) (sym differ)
        where
          plain : (a : Bool) → cond {A = ℕ} a 1 0 + 0 ≡ cond (a || (false || false)) 1 0
          plain true = refl
          plain false = refl

  one_of_all : (said : List (List ℕ)) → HasOne text said
  one_of_all = for_each (HasOne text) refl one_more

-- ---- the records of all kinds

-- kinds have as many records as there are of which something is said
abbrev HaveAll : List (List ℕ) → Type 0
HaveAll said = total (records_from said) (length said) ≡ count_by is_told said

have_more : (said : List (List ℕ)) (text : List ℕ) → HaveAll said → HaveAll (said ++ text ∷ [])
have_more said text all =
    ap (total (records_from (said ++ text ∷ []))) (length_push said text)
    ∙ total_more (records_from (said ++ text ∷ [])) (length said)
    ∙ ap (λ (n : ℕ). n + records_from (said ++ text ∷ []) (length said))
    (total_sum (records_from (said ++ text ∷ [])) (records_from said) (one_if_first said text) (length said) (old_from said text)
    ∙ ap (λ (n : ℕ). n + total (one_if_first said text) (length said)) all)
    ∙ omega (arith, added)
    ∙ sym (sum_by_push (λ (t : List ℕ). cond (is_told t) 1 0) said text)
  where
    blank : (length text == 0) ≡ true
        → total (one_if_first said text) (length said) + records_from (said ++ text ∷ []) (length said) ≡ cond (is_told text) 1 0
    blank is =
        ap₂ (λ (a b : ℕ). a + b)
        (total_same (one_if_first said text) (λ k. 0) (length said) (λ k below. ap (λ (b : Bool). cond {A = ℕ} b 1 0) (blank_apart said text is k))
        ∙ nothing (length said))
        (new_from said text ∙ ap (λ (b : Bool). if not b && not (list_any (bytes_eq text) said) then records_like (said ++ text ∷ []) (length said) else 0) is)
        ∙ ap (λ (b : Bool). cond {A = ℕ} (not b) 1 0) (sym is)
      where
        nothing : (n : ℕ) → total (λ k. 0) n ≡ 0
        nothing zero = refl
        nothing (suc n) = total_next (λ k. 0) n ∙ omega (arith, nothing n)

    filled : (length text == 0) ≡ false → (b : Bool) → list_any (bytes_eq text) said ≡ b
        → total (one_if_first said text) (length said) + records_from (said ++ text ∷ []) (length said) ≡ cond (is_told text) 1 0
    filled is true seen =
        ap₂ (λ (a b : ℕ). a + b) (one_of_all text is said ∙ ap (λ (b : Bool). cond {A = ℕ} b 1 0) seen)
        (new_from said text ∙ ap₂ (λ (a b : Bool). if not a && not b then records_like (said ++ text ∷ []) (length said) else 0) is seen)
        ∙ ap (λ (b : Bool). cond {A = ℕ} (not b) 1 0) (sym is)
    filled is false unseen =
        ap₂ (λ (a b : ℕ). a + b) (one_of_all text is said ∙ ap (λ (b : Bool). cond {A = ℕ} b 1 0) unseen)
        (new_from said text ∙ ap₂ (λ (a b : Bool). if not a && not b then records_like (said ++ text ∷ []) (length said) else 0) is unseen
        ∙ new_like said text unseen)
        ∙ ap (λ (b : Bool). cond {A = ℕ} (not b) 1 0) (sym is)

    added : total (one_if_first said text) (length said) + records_from (said ++ text ∷ []) (length said) ≡ cond (is_told text) 1 0
    added = go (cases_Bool (length text == 0))
      where
        go : ((length text == 0) ≡ true) ⊎ ((length text == 0) ≡ false)
            → total (one_if_first said text) (length said) + records_from (said ++ text ∷ []) (length said) ≡ cond (is_told text) 1 0
        go (inl is) = blank is
        go (inr is) = filled is (list_any (bytes_eq text) said) refl

have_all : (said : List (List ℕ)) → HaveAll said
have_all = for_each HaveAll refl have_more

-- ---- the kinds themselves

-- a sum over those that pass a test
sum_filtered : {X : Type 0} (f : X → ℕ) (h : ℕ → X) (p : ℕ → Bool) (xs : List ℕ)
    → sum_by f (map h (filter p xs)) ≡ sum_by (λ (k : ℕ). k) (map (λ x. if p x then f (h x) else 0) xs)
sum_filtered f h p [] = refl
sum_filtered {X} f h p (x ∷ xs) =
    go (p x) (sum_filtered f h p xs)
    ∙ sym (sum_by-cons (λ (k : ℕ). k) (if p x then f (h x) else 0) (map (λ y. if p y then f (h y) else 0) xs))
  where
    go : (b : Bool) → sum_by f (map h (filter p xs)) ≡ sum_by (λ (k : ℕ). k) (map (λ y. if p y then f (h y) else 0) xs)
        → sum_by f (map h (cond b (x ∷ filter p xs) (filter p xs)))
        ≡ (if b then f (h x) else 0) + sum_by (λ (k : ℕ). k) (map (λ y. if p y then f (h y) else 0) xs)
    go true rest = sum_by-cons f (h x) (map h (filter p xs)) ∙ ap (λ (n : ℕ). f (h x) + n) rest
    go false rest = omega (arith, rest)

-- a record that is the first of its kind comes before each other one of it
is_least : (said : List (List ℕ)) (first : ℕ) → is_first said first ≡ true → IsLeast said (kind_from said first)
is_least said first is index below same = go (cases_lt index first)
  where
    alike : said_at said first ≡ said_at said index
    alike = (bytes_eq-Decides (said_at said first) (said_at said index)).0 same

    within : (n : ℕ) → length said ≤ n → is_first said n ≡ false
    within n past = ap (λ (t : List ℕ). is_told t && not (list_any (bytes_eq t) (take n said))) (get_or_past said n [] past)

    go : (index < first) ⊎ (first ≤ index) → first ≤ index
    go (inr later) = later
    go (inl before) = absurd (false≢true (sym (placed (cases_lt first (length said))) ∙ is))
      where
        placed : (first < length said) ⊎ (length said ≤ first) → is_first said first ≡ false
        placed (inl inside) = repeated said index first before inside (sym alike)
        placed (inr past) = within first past

pub parted : (said : List (List ℕ)) → ArePartedByKind said
parted said = record {
  one = λ index below told.
      sum_filtered (λ (kind : Kind). cond (is_kind_of said index kind) 1 0) (kind_from said) (is_first said) (range_with_len 0 (length said))
      ∙ total_same (λ first. if is_first said first then cond (is_kind_of said index (kind_from said first)) 1 0 else 0)
      (one_if_first said (said_at said index)) (length said)
      (λ first _. nested (is_first said first) (bytes_eq (said_at said first) (said_at said index)))
      ∙ one_of_all (said_at said index) (not-true (length (said_at said index) == 0) told) said
      ∙ ap (λ (b : Bool). cond {A = ℕ} b 1 0)
      (list_any_at (bytes_eq (said_at said index)) said index [] below (nat_list_eq_equiv.refl (said_at said index)));
  all =
      sum_filtered (λ (kind : Kind). kind.records) (kind_from said) (is_first said) (range_with_len 0 (length said)) ∙ have_all said;
  least =
      All-map (IsLeast said) (kind_from said) (filter (is_first said) (range_with_len 0 (length said)))
      (All-weaker (λ (first : ℕ). is_first said first ≡ true) (λ (first : ℕ). IsLeast said (kind_from said first)) (is_least said)
      (filter (is_first said) (range_with_len 0 (length said))) (filter_passes (is_first said) (range_with_len 0 (length said))));
}
  where
    nested : (a b : Bool) → (if a then cond {A = ℕ} b 1 0 else 0) ≡ cond (a && b) 1 0
    nested true b = refl
    nested false b = refl
