-- What all steps of a pass share: sums over the views after one has changed, the first pass, and what all parts know.
use Rattle.std.proofs.Common.{◌≡◌, ◌≢◌, ℕ, zero, suc, ◌+◌, ◌<◌, List, [], ◌∷◌, length, get_or, set, sym, refl, subst, ⊎_elim, arith}
use Rattle.std.specs.Prelude.{sum_by}
use Rattle.std.proofs.lemmas.List.Sums.{sum_by-cons, sum_by-set}
use Rattle.std.proofs.lemmas.List.Elements.{All-nil}
use mathlib.Core.Option.{some, some-injective, some-ne-none}
use lib.ListN.{get_elem?}
use Rattle.crossbeam_queue.proofs.Lists.{at_set}
use Rattle.ll_process.specs.declared.job.Job.{Job}
use Rattle.ll_process.specs.Cases.{CaseValue}
use Rattle.ll_pool.specs.declared.queue.TheConstants.{PARTS}
use Rattle.ll_pool.specs.declared.queue.Ledger.{Ledger}
use Rattle.ll_pool.specs.Rule.{ledger, Fits, IsFair}

-- ---- lists read by index

at_within : (l : List Ledger) (i : ℕ) (a : Ledger) → get_elem? l i ≡ some a → i < length l
at_within [] i a e = absurd (some-ne-none a (sym e))
at_within (x ∷ xs) zero a e = omega arith
at_within (x ∷ xs) (suc i) a e = (let h = at_within xs i a e in omega (arith, h))

at_read : (l : List Ledger) (i : ℕ) (a : Ledger) → get_elem? l i ≡ some a → get_or l i a ≡ a
at_read [] i a e = refl
at_read (x ∷ xs) zero a e = some-injective x a e
at_read (x ∷ xs) (suc i) a e = at_read xs i a e

-- the sum after one view has changed
pub sum_set : (f : Ledger → ℕ) (views : List Ledger) (port : ℕ) (v w : Ledger) → get_elem? views port ≡ some v
    → sum_by f (set views port w) + f v ≡ sum_by f views + f w
sum_set f views port v w eq =
    subst (λ (u : Ledger). sum_by f (set views port w) + f u ≡ sum_by f views + f w) (at_read views port v eq)
    (sum_by-set f views port w v (at_within views port v eq))

-- what was given and taken in all after one view has changed
pub law_set : (weight : ℕ → ℕ) (views : List Ledger) (port : ℕ) (v w : Ledger) (queued left : ℕ) → get_elem? views port ≡ some v
    → sum_by (λ (u : Ledger). sum_by weight u.given) views ≡ sum_by (λ (u : Ledger). sum_by weight u.taken) views + queued
    → sum_by weight w.given + (sum_by weight v.taken + queued) ≡ sum_by weight v.given + (sum_by weight w.taken + left)
    → sum_by (λ (u : Ledger). sum_by weight u.given) (set views port w) ≡ sum_by (λ (u : Ledger). sum_by weight u.taken) (set views port w) + left
law_set weight views port v w queued left eq law step =
    omega (
      arith,
      sum_set (λ (u : Ledger). sum_by weight u.given) views port v w eq,
      sum_set (λ (u : Ledger). sum_by weight u.taken) views port v w eq,
      law,
      step,
    )

abbrev pub AllFit : CaseValue → List Ledger → Type 0
AllFit cv views = (port : ℕ) (v : Ledger) → get_elem? views port ≡ some v → Fits cv v

pub fits_set : (cv : CaseValue) (views : List Ledger) (port : ℕ) (w : Ledger) → Fits cv w → AllFit cv views → AllFit cv (set views port w)
fits_set cv views port w mine fits j u e =
    ⊎_elim (λ (x : (j ≡ port) × (w ≡ u)). subst (λ (y : Ledger). Fits cv y) x.1 mine)
    (λ (x : (j ≢ port) × (get_elem? views j ≡ some u)). fits j u x.1) (at_set views port j w u e)

-- a pass that has parts, to the queue of the case
pub fits_here : (cv : CaseValue) (v : Ledger) → 0 < v.parts → v.case ≡ cv → Fits cv v
fits_here cv v some_part its = record { idle = λ none. absurd (omega arith); its_case = λ _. its }

pub spent_fits : (cv : CaseValue) → Fits cv (ledger cv 0 [] [])
spent_fits cv = record { idle = λ _. (refl, refl); its_case = λ _. refl }

pub case_of : (cv : CaseValue) (views : List Ledger) (port : ℕ) (v : Ledger) → AllFit cv views → get_elem? views port ≡ some v → 0 < v.parts → v.case ≡ cv
case_of cv views port v fits eq some_part = (fits port v eq).its_case (λ none. omega arith)

-- ---- the first pass

first_fits : (cv : CaseValue) → AllFit cv (ledger cv PARTS [] [] ∷ [])
first_fits cv zero v e =
    subst (λ (u : Ledger). Fits cv u) (some-injective (ledger cv PARTS [] []) v e) (fits_here cv (ledger cv PARTS [] []) (omega arith) refl)
first_fits cv (suc port) v e = absurd (some-ne-none v (sym e))

pub begins : (cv : CaseValue) → IsFair cv [] (ledger cv PARTS [] [] ∷ [])
begins cv = record {
  parts = refl;
  law = λ weight. refl;
  fits = first_fits cv;
  jobs_of = All-nil (λ (job : Job). job.case.now ≡ cv);
}

-- ---- what a pass with all parts learns

-- where nobody has a part, what counts only with a part comes to nothing
none_left : (f : Ledger → ℕ) (views : List Ledger) → ((port : ℕ) (v : Ledger) → get_elem? views port ≡ some v → v.parts ≡ 0 → f v ≡ 0)
    → sum_by (λ (v : Ledger). v.parts) views ≡ 0 → sum_by f views ≡ 0
none_left f [] idle none = refl
none_left f (v ∷ views) idle none =
    let parts = sum_by-cons (λ (u : Ledger). u.parts) v views in
    omega (
      arith,
      sum_by-cons f v views,
      idle 0 v refl (omega (arith, parts, none)),
      none_left f views (λ port u e. idle (suc port) u e) (omega (arith, parts, none)),
    )

-- where one pass has all parts, its own is the whole
pub whole : (cv : CaseValue) (f : Ledger → ℕ) (views : List Ledger) (port : ℕ) (v : Ledger) → ((u : Ledger) → Fits cv u → u.parts ≡ 0 → f u ≡ 0)
    → AllFit cv views
    → get_elem? views port ≡ some v → sum_by (λ (u : Ledger). u.parts) views ≡ v.parts → sum_by f views ≡ f v
whole cv f views port v idle fits eq all =
    let spent : Ledger = ledger cv 0 [] [] in
    let rest : List Ledger = set views port spent in
    let others : sum_by f rest ≡ 0 =
    none_left f rest (λ j u e. idle u (fits_set cv views port spent (spent_fits cv) fits j u e))
    (omega (arith, sum_set (λ (u : Ledger). u.parts) views port v spent eq, all)) in
    omega (arith, sum_set f views port v spent eq, others, idle spent (spent_fits cv) refl)
