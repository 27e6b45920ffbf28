-- The table of recent pids stays right when one more is added.
use Rattle.std.proofs.Common.{◌≡◌, ◌≢◌, ◌==◌, ℕ, ◌<◌, ◌%◌, List, Option, Some, None, length, get_or, slice_set, replicate, refl, sym, ap, ◌∙◌, arith}
use Rattle.std.proofs.Common.{◌⊎◌, inl, inr, eqb, subst, if◌then◌else◌, true, false}
use Rattle.std.specs.Prelude.{slice_get}
use Rattle.std.specs.Ordering.{nat_cmp}
use Rattle.std.specs.FinMap.{FinMap, get}
use Rattle.std.proofs.lemmas.Bool.Decides.{eqb_tells}
use Rattle.std.proofs.lemmas.List.{length-set, length-replicate, get_or-replicate, get_or-set_same, get_or-set_other}
use Rattle.std.proofs.lemmas.Option.{get_or_from_slice_get, same_Some, slice_get-get_or, slice_get_within}
use Rattle.ll_trace.specs.declared.owners.Owner.{Owner}
use Rattle.ll_trace.specs.declared.owners.RecentPid.{RecentPid}
use Rattle.ll_trace.specs.declared.owners.TheConstants.{RECENT_PIDS}

-- ---- a table without a pid

-- nothing is a copy of no pid but no pid
pub only_none : (P : Option RecentPid → Type 0) → ((one : RecentPid) → P (Some one) → ⊥) → (y : Option RecentPid) → P y → y ≡ None
only_none P never None copy = refl
only_none P never (Some one) copy = absurd (never one copy)

pub none_recent : (items : List (Option RecentPid)) (at : ℕ) (one : RecentPid) → items ≡ replicate RECENT_PIDS None
    → slice_get items at ≡ Some (Some one) → ⊥
none_recent items at one blank there =
    let no : Option RecentPid = None in
    let within : at < RECENT_PIDS = omega (arith, slice_get_within items at (Some one) there, ap length blank, length-replicate RECENT_PIDS no) in
    let some : None ≡ Some one = sym (get_or-replicate RECENT_PIDS at no no within) ∙ ap (λ xs. get_or xs at None) (sym blank)
    ∙ get_or_from_slice_get items at (Some one) None there in
    absurd (let never = some in cc)

-- ---- one pid more

-- what the table says of a pid in a slot is in the map
abbrev IsRight : FinMap nat_cmp Owner → ℕ → RecentPid → Type 0
IsRight map at one = (one.pid % RECENT_PIDS ≡ at) × (get map one.pid ≡ Some one.owner)

module _ (before after : FinMap nat_cmp Owner) (now : RecentPid)
    (each : (q : ℕ) → get after q ≡ (if now.pid == q then Some now.owner else get before q)) where
  its_own : get after now.pid ≡ Some now.owner
  its_own = grind (arith, each now.pid)

  another : (pid : ℕ) → pid ≢ now.pid → get after pid ≡ get before pid
  another pid other = grind (arith, each pid, other)

  module _ (items : List (Option RecentPid)) (slot : ℕ) (fits : slot < length items) (its_slot : slot ≡ now.pid % RECENT_PIDS)
      (right : (at : ℕ) (one : RecentPid) → slice_get items at ≡ Some (Some one) → IsRight before at one) where
    here : (one : RecentPid) → slice_get (slice_set items slot (Some now)) slot ≡ Some (Some one) → now ≡ one
    here one there =
        same_Some now one (sym (get_or-set_same items slot (Some now) None fits)
        ∙ get_or_from_slice_get (slice_set items slot (Some now)) slot (Some one) None there)

    elsewhere : (at : ℕ) (one : RecentPid) → at ≢ slot → slice_get (slice_set items slot (Some now)) at ≡ Some (Some one)
        → slice_get items at ≡ Some (Some one)
    elsewhere at one other there =
        let there_now = slice_get_within (slice_set items slot (Some now)) at (Some one) there in
        let within : at < length items = omega (arith, there_now, length-set items slot (Some now)) in
        slice_get-get_or items at None within
        ∙ ap (λ (x : Option RecentPid). Some x) (sym (get_or-set_other items slot at (Some now) None other)
        ∙ get_or_from_slice_get (slice_set items slot (Some now)) at (Some one) None there)

    pub recent_now : (at : ℕ) (one : RecentPid) → slice_get (slice_set items slot (Some now)) at ≡ Some (Some one)
        → IsRight after at one
    recent_now at one there = cases (eqb_tells at slot)
      where
        cases : ((eqb at slot ≡ true) × (at ≡ slot)) ⊎ ((eqb at slot ≡ false) × (at ≢ slot)) → IsRight after at one
        cases (inl same) =
            let here_is : now ≡ one = here one (subst (λ (k : ℕ). slice_get (slice_set items slot (Some now)) k ≡ Some (Some one)) same.1 there) in
            rw (← here_is) (sym its_slot ∙ sym same.1, its_own)
        cases (inr other) =
            let is : IsRight before at one = right at one (elsewhere at one other.1 there) in
            let apart : one.pid ≢ now.pid = λ e. other.1 (sym is.0 ∙ ap (λ (p : ℕ). p % RECENT_PIDS) e ∙ sym its_slot) in
            (is.0, another one.pid apart ∙ is.1)
