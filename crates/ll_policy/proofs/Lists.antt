-- Tests over lists, and the elements that they tell of.
use Rattle.std.proofs.Common.{◌≡◌, ℕ, zero, suc, ◌+◌, ◌<◌, ◌≤◌, Bool, true, false, ◌&&◌, cond, List}
use Rattle.std.proofs.Common.{[], ◌∷◌, ◌++◌, length, take, get_or, refl, sym, ap, ◌∙◌, subst, inl, inr, arith}
use Rattle.std.specs.Prelude.{All, Some, None, find, map}
use Rattle.std.proofs.lemmas.Option.{none-some, same_Some}
use Rattle.std.proofs.lemmas.List.FromFn.{length-range_with_len, get_or-range_with_len, filter_of_map_range_with_len_more, map-range_with_len_more}
use Rattle.std.proofs.lemmas.List.{map-id, append_assoc, append-nil, take_more, take_all}
use Rattle.std.proofs.lemmas.Slice.Zip.{all_zipped_more, AllZip-map}
use Rattle.std.specs.List.{Contains, flat_map, filter, list_any, list_all, range_with_len, AllZip}
use Rattle.std.proofs.lemmas.Bool.{cases_Bool, and_parts, and_from, false≢true}
use Rattle.std.proofs.lemmas.List.Elements.{All-contains, All-filter, All-contains_itself, filter_passes}
use Rattle.std.proofs.lemmas.List.Elements.{Contains-append_cases, Contains-append_left, Contains-append_right, Contains-get_or}
use Rattle.std.proofs.lemmas.List.Folds.{list_any_at, Any-from_list_any}

pub there : {X : Type 0} (x : X) (xs : List X) (y : X) → Contains xs y → Contains (x ∷ xs) y
there x xs y within = Contains-append_right (x ∷ []) xs y within

pub here : {X : Type 0} (x : X) (xs : List X) → Contains (x ∷ xs) x
here x xs = (0, omega arith, refl)

-- ---- some element passes

pub some_passes : {X : Type 0} (p : X → Bool) (xs : List X) (x : X) → Contains xs x → p x ≡ true → list_any p xs ≡ true
some_passes p xs x within passes = list_any_at p xs within.0 x within.1 (ap p within.2 ∙ passes)

pub that_passes : {X : Type 0} (p : X → Bool) (xs : List X) → list_any p xs ≡ true → (x : X) × Contains xs x × (p x ≡ true)
that_passes p xs some =
    let found = Any-from_list_any p xs some in
    (found.1, (found.0, found.2, found.3), found.4)

-- ---- each element passes

pub each_passes : {X : Type 0} (p : X → Bool) (xs : List X) → ((x : X) → Contains xs x → p x ≡ true) → list_all p xs ≡ true
each_passes p [] each = refl
each_passes p (x ∷ xs) each = and_from (p x) (list_all p xs) (each x (here x xs)) (each_passes p xs (λ y within. each y (there x xs y within)))

passes_at : {X : Type 0} (p : X → Bool) (xs : List X) (x : X) (k : ℕ) → k < length xs → get_or xs k x ≡ x → list_all p xs ≡ true → p x ≡ true
passes_at p [] x k within is each = absurd (omega arith)
passes_at p (first ∷ xs) x zero within is each = ap p (sym is) ∙ (and_parts (p first) (list_all p xs) each).0
passes_at p (first ∷ xs) x (suc k) within is each = passes_at p xs x k (omega arith) is (and_parts (p first) (list_all p xs) each).1

pub passes_among : {X : Type 0} (p : X → Bool) (xs : List X) (x : X) → list_all p xs ≡ true → Contains xs x → p x ≡ true
passes_among p xs x each within = passes_at p xs x within.0 within.1 within.2 each

pub that_fails : {X : Type 0} (p : X → Bool) (xs : List X) → list_all p xs ≡ false → (x : X) × Contains xs x × (p x ≡ false)
that_fails p [] none = absurd (false≢true (sym none))
that_fails p (x ∷ xs) none =
    elim (cases_Bool (p x)) [
      | inl passes ↦
          let rest : list_all p xs ≡ false = sym (ap (λ (b : Bool). b && list_all p xs) passes) ∙ none in
          let found = that_fails p xs rest in
          (found.0, there x xs found.0 found.1, found.2)
      | inr fails ↦ (x, here x xs, fails)
    ]

pub all_of_mapped : {A B : Type 0} (test : B → Bool) (f : A → B) (xs : List A) → list_all test (map f xs) ≡ list_all (λ x. test (f x)) xs
all_of_mapped test f [] = refl
all_of_mapped test f (x ∷ xs) = ap (λ (b : Bool). test (f x) && b) (all_of_mapped test f xs)

-- ---- filters, and lists of lists

filtered_at : {X : Type 0} (p : X → Bool) (xs : List X) (x : X) (k : ℕ) → k < length xs → get_or xs k x ≡ x → p x ≡ true → Contains (filter p xs) x
filtered_at p [] x k within is passes = absurd (omega arith)
filtered_at {X = X} p (first ∷ xs) x zero within is passes =
    let kept : filter p (first ∷ xs) ≡ first ∷ filter p xs = ap (λ (b : Bool). cond b (first ∷ filter p xs) (filter p xs)) (ap p is ∙ passes) in
    subst (λ (ys : List X). Contains ys x) (sym kept) (subst (λ (y : X). Contains (first ∷ filter p xs) y) is (here first (filter p xs)))
filtered_at {X = X} p (first ∷ xs) x (suc k) within is passes =
    let rest = filtered_at p xs x k (omega arith) is passes in
    elim (cases_Bool (p first)) [
      | inl kept ↦ subst (λ (b : Bool). Contains (cond b (first ∷ filter p xs) (filter p xs)) x) (sym kept) (there first (filter p xs) x rest)
      | inr gone ↦ subst (λ (b : Bool). Contains (cond b (first ∷ filter p xs) (filter p xs)) x) (sym gone) rest
    ]

pub filtered : {X : Type 0} (p : X → Bool) (xs : List X) (x : X) → Contains xs x → p x ≡ true → Contains (filter p xs) x
filtered p xs x within passes = filtered_at p xs x within.0 within.1 within.2 passes

pub filter_test : {X : Type 0} (p : X → Bool) (xs : List X) (x : X) → Contains (filter p xs) x → p x ≡ true
filter_test p xs x within = All-contains (λ y. p y ≡ true) (filter p xs) x (filter_passes p xs) within

in_flat_map-at : {X Y : Type 0} (f : X → List Y) (xs : List X) (x : X) (y : Y) (k : ℕ) → k < length xs → get_or xs k x ≡ x → Contains (f x) y
    → Contains (flat_map f xs) y
in_flat_map-at f [] x y k within is inside = absurd (omega arith)
in_flat_map-at f (first ∷ xs) x y zero within is inside =
    Contains-append_left (f first) (flat_map f xs) y (subst (λ z. Contains (f z) y) (sym is) inside)
in_flat_map-at f (first ∷ xs) x y (suc k) within is inside =
    Contains-append_right (f first) (flat_map f xs) y (in_flat_map-at f xs x y k (omega arith) is inside)

pub in_flat_map : {X Y : Type 0} (f : X → List Y) (xs : List X) (x : X) (y : Y) → Contains xs x → Contains (f x) y → Contains (flat_map f xs) y
in_flat_map f xs x y within inside = in_flat_map-at f xs x y within.0 within.1 within.2 inside

pub contains_first : {X : Type 0} (xs ys : List X) → All (Contains (xs ++ ys)) xs
contains_first xs ys k d within = Contains-append_left xs ys (get_or xs k d) (Contains-get_or xs k d within)

pub kept_within : {X : Type 0} (p : X → Bool) (xs : List X) (x : X) → Contains (filter p xs) x → Contains xs x
kept_within p xs x within = All-contains (Contains xs) (filter p xs) x (All-filter p (Contains xs) xs (All-contains_itself xs)) within

-- ---- the first that passes

pub found_passes : {X : Type 0} (p : X → Bool) (xs : List X) (x : X) → find p xs ≡ Some x → p x ≡ true
found_passes p [] x is = absurd (none-some x is)
found_passes p (first ∷ xs) x is =
    elim (cases_Bool (p first)) [
      | inl passes ↦ subst (λ y. p y ≡ true) (same_Some first x (sym (ap (λ (b : Bool). cond b (Some first) (find p xs)) passes) ∙ is)) passes
      | inr fails ↦ found_passes p xs x (sym (ap (λ (b : Bool). cond b (Some first) (find p xs)) fails) ∙ is)
    ]

none_before : {X : Type 0} (p : X → Bool) (first : X) (xs : List X) → find p (first ∷ xs) ≡ None → (p first ≡ false) × (find p xs ≡ None)
none_before p first xs is =
    elim (cases_Bool (p first)) [
      | inl passes ↦ absurd (none-some first (sym is ∙ ap (λ (b : Bool). cond b (Some first) (find p xs)) passes))
      | inr fails ↦ (fails, sym (ap (λ (b : Bool). cond b (Some first) (find p xs)) fails) ∙ is)
    ]

none_at : {X : Type 0} (p : X → Bool) (xs : List X) (x : X) (k : ℕ) → k < length xs → get_or xs k x ≡ x → find p xs ≡ None → p x ≡ false
none_at p [] x k within at is = absurd (omega (arith, within))
none_at p (first ∷ xs) x zero within at is = ap p (sym at) ∙ (none_before p first xs is).0
none_at p (first ∷ xs) x (suc k) within at is = none_at p xs x k (omega (arith, within)) at (none_before p first xs is).1

pub none_passes : {X : Type 0} (p : X → Bool) (xs : List X) (x : X) → find p xs ≡ None → Contains xs x → p x ≡ false
none_passes p xs x is within = none_at p xs x within.0 within.1 within.2 is

-- ---- numbers below a bound

pub in_range : (bound number : ℕ) → number < bound → Contains (range_with_len 0 bound) number
in_range bound number below =
    (number, rw (length-range_with_len 0 bound) below, get_or-range_with_len 0 bound number number below ∙ omega arith)

pub filter_range_more : (p : ℕ → Bool) (bound : ℕ)
    → filter p (range_with_len 0 (bound + 1)) ≡ filter p (range_with_len 0 bound) ++ cond (p bound) (bound ∷ []) []
filter_range_more p bound =
    ap (filter p) (sym (map-id (range_with_len 0 (bound + 1)))) ∙ filter_of_map_range_with_len_more p (λ (x : ℕ). x) 0 bound bound (omega arith)
    ∙ ap (λ (xs : List ℕ). filter p xs ++ cond (p bound) (bound ∷ []) []) (map-id (range_with_len 0 bound))

range_next : (bound : ℕ) → range_with_len 0 (bound + 1) ≡ range_with_len 0 bound ++ bound ∷ []
range_next bound =
    sym (map-id (range_with_len 0 (bound + 1))) ∙ map-range_with_len_more (λ (x : ℕ). x) 0 bound bound (omega arith)
    ∙ ap (λ (xs : List ℕ). xs ++ bound ∷ []) (map-id (range_with_len 0 bound))

pub range_kept : (p : ℕ → Bool) (bound : ℕ) (first chain new : List ℕ) → chain ≡ first ++ filter p (range_with_len 0 bound) → p bound ≡ true
    → new ≡ chain ++ bound ∷ [] → new ≡ first ++ filter p (range_with_len 0 (bound + 1))
range_kept p bound first chain new so_far passes is =
    is ∙ ap (λ (xs : List ℕ). xs ++ bound ∷ []) so_far ∙ append_assoc first (filter p (range_with_len 0 bound)) (bound ∷ [])
    ∙ ap (λ (xs : List ℕ). first ++ xs)
    (sym (filter_range_more p bound ∙ ap (λ (b : Bool). filter p (range_with_len 0 bound) ++ cond b (bound ∷ []) []) passes))

pub range_left : (p : ℕ → Bool) (bound : ℕ) (first chain : List ℕ) → chain ≡ first ++ filter p (range_with_len 0 bound) → p bound ≡ false
    → chain ≡ first ++ filter p (range_with_len 0 (bound + 1))
range_left p bound first chain so_far fails =
    so_far ∙ ap (λ (xs : List ℕ). first ++ xs)
    (sym (filter_range_more p bound ∙ ap (λ (b : Bool). filter p (range_with_len 0 bound) ++ cond b (bound ∷ []) []) fails
    ∙ append-nil (filter p (range_with_len 0 bound))))

-- ---- two lists, place by place

pub zip_more : {A B : Type 0} (R : A → B → Type 0) (xs : List A) (i : ℕ) (d : A) (ys new : List B) (y : B) → i < length xs
    → AllZip R (take i xs) ys → R (get_or xs i d) y → new ≡ ys ++ y ∷ [] → AllZip R (take (i + 1) xs) new
zip_more {A = A} {B = B} R xs i d ys new y within so_far one is =
    subst (λ (zs : List B). AllZip R (take (i + 1) xs) zs) (sym is)
    (subst (λ (some : List A). AllZip R some (ys ++ y ∷ [])) (sym (take_more xs i d within)) (all_zipped_more R (take i xs) ys (get_or xs i d) y so_far one))

pub zip_next : {B : Type 0} (R : ℕ → B → Type 0) (bound : ℕ) (ys new : List B) (y : B) → AllZip R (range_with_len 0 bound) ys → R bound y
    → new ≡ ys ++ y ∷ [] → AllZip R (range_with_len 0 (bound + 1)) new
zip_next {B = B} R bound ys new y so_far one is =
    subst (λ (zs : List B). AllZip R (range_with_len 0 (bound + 1)) zs) (sym is)
    (subst (λ (numbers : List ℕ). AllZip R numbers (ys ++ y ∷ [])) (sym (range_next bound)) (all_zipped_more R (range_with_len 0 bound) ys bound y so_far one))

pub zip_weaker : {A B : Type 0} (R S : A → B → Type 0) → ((x : A) (y : B) → R x y → S x y) → (xs : List A) (ys : List B) → AllZip R xs ys → AllZip S xs ys
zip_weaker R S weaker [] [] each = tt
zip_weaker R S weaker [] (y ∷ ys) each = absurd each
zip_weaker R S weaker (x ∷ xs) [] each = absurd each
zip_weaker R S weaker (x ∷ xs) (y ∷ ys) each = (weaker x y each.0, zip_weaker R S weaker xs ys each.1)

pub flat_from : {X Y : Type 0} (f : X → List Y) (xs : List X) (y : Y) → Contains (flat_map f xs) y → (x : X) × Contains xs x × Contains (f x) y
flat_from f [] y within = absurd (omega (arith, within.1))
flat_from f (x ∷ xs) y within =
    elim (Contains-append_cases (f x) (flat_map f xs) y within) [
      | inl first ↦ (x, here x xs, first)
      | inr rest ↦ let found = flat_from f xs y rest in (found.0, there x xs found.0 found.1, found.2)
    ]

zip_map : {A B C : Type 0} (R : B → C → Type 0) (f : A → B) (xs : List A) (ys : List C) → AllZip (λ x. R (f x)) xs ys → AllZip R (map f xs) ys
zip_map R f [] [] each = tt
zip_map R f [] (y ∷ ys) each = absurd each
zip_map R f (x ∷ xs) [] each = absurd each
zip_map R f (x ∷ xs) (y ∷ ys) each = (each.0, zip_map R f xs ys each.1)

pub zip_all : {A B : Type 0} (R : A → B → Type 0) (xs : List A) (i : ℕ) (ys : List B) → length xs ≤ i → AllZip R (take i xs) ys → AllZip R xs ys
zip_all {A = A} R xs i ys past each = subst (λ (some : List A). AllZip R some ys) (take_all i xs past) each

-- each by what it stands for
pub zip_named : {A B C : Type 0} (R : B → C → Type 0) (f : A → B) (xs : List A) (names : List B) (ys : List C) → map f xs ≡ names
    → AllZip (λ x. R (f x)) xs ys → AllZip R names ys
zip_named {B = B} R f xs names ys are each = subst (λ (bs : List B). AllZip R bs ys) are (zip_map R f xs ys each)

-- what a function makes of each by what it stands for
pub made_by : {A B C : Type 0} (R : A → C → Type 0) (f : B → C) (g : A → B) → ((x : A) (y : C) → R x y → y ≡ f (g x)) → (xs : List A) (ys : List C)
    → AllZip R xs ys → ys ≡ map f (map g xs)
made_by R f g says xs ys each =
    AllZip-map f (map g xs) ys (zip_map (λ x y. y ≡ f x) g xs ys (zip_weaker R (λ x y. y ≡ f (g x)) says xs ys each))
