-- The marked numbers: when one is among them, and tests of all of them.
use Rattle.std.proofs.Common.{◌≡◌, ℕ, zero, suc, ◌+◌, ◌<◌, Bool, true, false, not, ◌&&◌, ◌||◌}
use Rattle.std.proofs.Common.{cond, List, [], ◌∷◌, ◌++◌, get_or, length, drop, ◌≤◌, refl, ap, ◌∙◌, arith}
use Rattle.std.specs.List.{list_all, enumerate_from}
use Rattle.std.proofs.lemmas.List.{at_drop_more, at_drop_all}
use Rattle.std.specs.Prelude.{All, Some, None, find, map, filter}
use Rattle.std.proofs.lemmas.List.Elements.{All-cons}
use Rattle.ll_policy.specs.Chains.{Granting, is_among, places_from}

-- a number before the first isn't among them
before : (n k : ℕ) (marks : List Bool) → k < n → is_among k (places_from n marks) ≡ false
unfolding is_among places_from
before n k [] below = refl
before n k (true ∷ marks) below = grind (arith, before (n + 1) k marks (omega (arith, below)))
before n k (false ∷ marks) below = before (n + 1) k marks (omega (arith, below))

among_from : (n k object : ℕ) (marks : List Bool) → object ≡ n + k → is_among object (places_from n marks) ≡ get_or marks k false
unfolding is_among places_from
among_from n k object [] is = refl
among_from n zero object (true ∷ marks) is = grind (arith, is)
among_from n zero object (false ∷ marks) is = before (n + 1) object marks (omega (arith, is))
among_from n (suc k) object (true ∷ marks) is = grind (arith, is, among_from (n + 1) k object marks (omega (arith, is)))
among_from n (suc k) object (false ∷ marks) is = among_from (n + 1) k object marks (omega (arith, is))

pub among : (k : ℕ) (marks : List Bool) → is_among k (places_from 0 marks) ≡ get_or marks k false
among k marks = among_from 0 k k marks (omega arith)

-- ---- a walk over the marks, one step on and at the end

-- the places from one on: its own, if it is marked, and those after it
places_next : (marks : List Bool) (i : ℕ) → i < length marks → places_from i (drop i marks)
    ≡ cond (get_or marks i false) (i ∷ places_from (i + 1) (drop (i + 1) marks)) (places_from (i + 1) (drop (i + 1) marks))
unfolding places_from
places_next marks i within = at_drop_more (places_from i) marks i false within ∙ by_mark i (get_or marks i false) (drop (i + 1) marks)
  where
    by_mark : (n : ℕ) (mark : Bool) (rest : List Bool) → places_from n (mark ∷ rest) ≡ cond mark (n ∷ places_from (n + 1) rest) (places_from (n + 1) rest)
    by_mark n true rest = refl
    by_mark n false rest = refl

all_if : (p : ℕ → Bool) (mark : Bool) (n : ℕ) (rest : List ℕ) → list_all p (cond mark (n ∷ rest) rest) ≡ ((not mark || p n) && list_all p rest)
all_if p true n rest = refl
all_if p false n rest = refl

first_if : (p : ℕ → Bool) (mark : Bool) (n : ℕ) (rest : List ℕ) → find p (cond mark (n ∷ rest) rest) ≡ cond (mark && p n) (Some n) (find p rest)
first_if p true n rest = refl
first_if p false n rest = refl

pub walked_more : (p : ℕ → Bool) (marks : List Bool) (i : ℕ) → i < length marks
    → list_all p (places_from i (drop i marks)) ≡ ((not (get_or marks i false) || p i) && list_all p (places_from (i + 1) (drop (i + 1) marks)))
walked_more p marks i within = ap (list_all p) (places_next marks i within) ∙ all_if p (get_or marks i false) i (places_from (i + 1) (drop (i + 1) marks))

pub walked_all : (p : ℕ → Bool) (marks : List Bool) (i : ℕ) → length marks ≤ i → list_all p (places_from i (drop i marks)) ≡ true
unfolding places_from
walked_all p marks i past = at_drop_all (λ (rest : List Bool). list_all p (places_from i rest)) marks i past

pub sought_more : (p : ℕ → Bool) (marks : List Bool) (i : ℕ) → i < length marks
    → find p (places_from i (drop i marks)) ≡ cond (get_or marks i false && p i) (Some i) (find p (places_from (i + 1) (drop (i + 1) marks)))
sought_more p marks i within = ap (find p) (places_next marks i within) ∙ first_if p (get_or marks i false) i (places_from (i + 1) (drop (i + 1) marks))

pub sought_all : (p : ℕ → Bool) (marks : List Bool) (i : ℕ) → length marks ≤ i → find p (places_from i (drop i marks)) ≡ None
unfolding places_from
sought_all p marks i past = at_drop_all (λ (rest : List Bool). find p (places_from i rest)) marks i past

-- ---- below

below_from : (n : ℕ) (marks : List Bool) (bound : ℕ) → n + length marks ≤ bound → All (λ object. object < bound) (places_from n marks)
unfolding places_from
below_from n [] bound fits = λ k d within. absurd (omega (arith, within))
below_from n (true ∷ marks) bound fits =
    All-cons (λ object. object < bound) n (places_from (n + 1) marks) (omega (arith, fits)) (below_from (n + 1) marks bound (omega (arith, fits)))
below_from n (false ∷ marks) bound fits = below_from (n + 1) marks bound (omega (arith, fits))

pub places_below : (marks : List Bool) → All (λ object. object < length marks) (places_from 0 marks)
places_below marks = below_from 0 marks (length marks) (omega arith)

-- ---- the marks of what passes a test

by_test : {X : Type 0} (b : Bool) (n : ℕ) (places : List ℕ) (kept : List (ℕ × X)) (x : X) → places ≡ map (λ pair. pair.0) kept
    → cond b (n ∷ []) [] ++ places ≡ map (λ pair. pair.0) (cond b ((n, x) ∷ kept) kept)
by_test true n places kept x rest = ap (λ (xs : List ℕ). n ∷ xs) rest
by_test false n places kept x rest = rest

marked_from : {X : Type 0} (p : X → Bool) (n : ℕ) (xs : List X)
    → places_from n (map p xs) ≡ map (λ pair. pair.0) (filter (λ pair. p pair.1) (enumerate_from n xs))
unfolding places_from
marked_from p n [] = refl
marked_from {X = X} p n (x ∷ xs) = by_test (p x) n (places_from (n + 1) (map p xs))
    (filter (λ (pair : ℕ × X). p pair.1) (enumerate_from (n + 1) xs)) x (marked_from p (n + 1) xs)

pub marked : {X : Type 0} (p : X → Bool) (xs : List X)
    → places_from 0 (map p xs) ≡ map (λ pair. pair.0) (filter (λ pair. p pair.1) (enumerate_from 0 xs))
marked p xs = marked_from p 0 xs

pub same_granting : (one_handles other_handles : Bool) (one_grants other_grants : List ℕ) → one_handles ≡ other_handles → one_grants ≡ other_grants
    → ◌≡◌ {A = Granting} (record { handles = one_handles; grants = one_grants }) (record { handles = other_handles; grants = other_grants })
same_granting one_handles other_handles one_grants other_grants handled granted =
    ap with_handles handled ∙ ap with_grants granted
  where
    with_handles : Bool → Granting
    with_handles b = record { handles = b; grants = one_grants }

    with_grants : List ℕ → Granting
    with_grants xs = record { handles = other_handles; grants = xs }
