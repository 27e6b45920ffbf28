-- Old layers, one by one.
use Rattle.std.proofs.Common.{◌≡◌, ℕ, ◌<◌, zero, suc, Bool, true, false, not, List, [], ◌∷◌, get_or, sym, ap, ◌∙◌, arith}
use Rattle.std.specs.Prelude.{◌↔◌, All}
use Rattle.std.proofs.lemmas.Bool.{false≢true, and_parts, not-true}
use Rattle.std.proofs.lemmas.List.Elements.{All-contains, Contains-get_or}
use Rattle.ll_policy.specs.Chains.{Granting, IsExcess, NothingMore, NothingMoreThan, IsChain, lets, passes}
use Rattle.std.specs.List.{Contains, range_with_len}
use Rattle.ll_policy.specs.Choices.{is_enough, enough_of}
use Rattle.ll_policy.specs.Granted.{root}
use Rattle.ll_policy.proofs.Lists.{each_passes, passes_among, filter_test, here}

pub by_layers : (is_file : ℕ → Bool) (always : List ℕ) (old new : List Granting)
    → NothingMore is_file always old new ↔ All (λ layer. NothingMoreThan is_file always layer new) old
unfolding passes
by_layers is_file always old new = (
  λ nothing k d within chain is begins passing.
      passes_among (lets chain) old (get_or old k d) (nothing chain is begins passing) (Contains-get_or old k d within),
  λ each chain is begins passing.
      each_passes (lets chain) old
      (λ layer inside. All-contains (λ (own : Granting). NothingMoreThan is_file always own new) old layer each inside chain is begins passing),
)

pub excess_is_more : (is_file : ℕ → Bool) (always : List ℕ) (old : Granting) (new : List Granting) (chain : List ℕ)
    → IsExcess is_file always old new chain → NothingMoreThan is_file always old new → ⊥
excess_is_more is_file always old new chain excess nothing =
    false≢true (sym excess.kept_by_old ∙ nothing chain excess.is_chain excess.begins excess.passes_new)

-- ---- an object and the root

only_file : (is_file : ℕ → Bool) (object one : ℕ) (k : ℕ) → k < 2 → is_file 0 ≡ false → get_or (0 ∷ object ∷ []) k one ≡ one → is_file one ≡ true → one ≡ object
only_file is_file object one zero below root_is at file = absurd (false≢true (sym root_is ∙ ap is_file at ∙ file))
only_file is_file object one (suc zero) below root_is at file = sym at
only_file is_file object one (suc (suc k)) below root_is at file = absurd (omega (arith, below))

pair_is_chain : (is_file : ℕ → Bool) (object : ℕ) → is_file 0 ≡ false → IsChain is_file (0 ∷ object ∷ [])
pair_is_chain is_file object root_is one other within inside file other_file =
    only_file is_file object one within.0 within.1 root_is within.2 file ∙ sym (only_file is_file object other inside.0 inside.1 root_is inside.2 other_file)

root_begins : (object k d : ℕ) → k < 1 → Contains (0 ∷ object ∷ []) (get_or root k d)
root_begins object zero d below = here 0 (object ∷ [])
root_begins object (suc k) d below = absurd (omega (arith, below))

pub enough_is_excess : (is_file : ℕ → Bool) (count object : ℕ) (old : Granting) (new : List Granting) → is_file 0 ≡ false
    → Contains (enough_of count old new) object
    → IsExcess is_file root old new (0 ∷ object ∷ [])
unfolding enough_of is_enough
enough_is_excess is_file count object old new root_is within =
    let both = and_parts (not (lets (0 ∷ object ∷ []) old)) (passes new (0 ∷ object ∷ [])) (filter_test (is_enough old new)
    (range_with_len 0 count) object within) in
    record {
      is_chain = pair_is_chain is_file object root_is;
      begins = root_begins object;
      passes_new = both.1;
      kept_by_old = not-true (lets (0 ∷ object ∷ []) old) both.0;
    }
