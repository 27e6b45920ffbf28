-- Rules that are kept as a map, one set for each key: what all of them grant at one key, and what they grant once a key
-- has another set.
use Rattle.std.proofs.Common.{◌≡◌, ℕ, Bool, true, false, ◌&&◌, ◌||◌, eqb, T, List, [], ◌∷◌, refl, sym, ap, ◌∙◌, subst, inl, inr}
use Rattle.std.specs.Prelude.{Option, Some, None}
use Rattle.std.specs.declared.cmp.Ordering.{Ordering}
use Rattle.std.specs.declared.cmp.Ordering.TheVariants.{Less, Equal, Greater}
use Rattle.std.specs.Ordering.{nat_cmp, is_lt, is_eq}
use Rattle.std.specs.Option.{option_map_or, unwrap_or}
use Rattle.std.specs.List.{list_any}
use Rattle.std.specs.Cmp.{nat_cmp_total, unsigned_ties}
use Rattle.std.specs.FinMap.{FinMap, empty, entries, entries_sorted, get, get-entries, insert, entries-insert, len, len-entries, len-empty}
use Rattle.std.specs.FinMap.Entries.{find, put, is_sorted, below_all, by_order}
use Rattle.std.proofs.lemmas.Bool.{cases_Bool, eqb-true}
use Rattle.std.proofs.lemmas.List.{nil_from_length}
use Rattle.ll_rights.specs.declared.fs.Fs.{Fs}
use Rattle.ll_rights.specs.Rights.{FsRight, has, no_right}
use Rattle.ll_tree.specs.declared.place.NodeId.{NodeId}
use Rattle.ll_rules.specs.Layers.{RulesOn}
use Rattle.ll_rules.specs.KeptLayers.{granted_on_node}
use Rattle.ll_rules.proofs.RightSets.{has_nothing}
use Rattle.ll_rules.proofs.Booleans.{or_false}

both_true : (a b : Bool) → T (a && b) → T a × T b
both_true true true holds = (tt, tt)
both_true true false holds = absurd holds
both_true false b holds = absurd holds

less_apart : (o : Ordering) → T (is_lt o) → is_eq o ≡ false
less_apart Less below = refl
less_apart Equal below = absurd below
less_apart Greater below = absurd below

-- what is first joins a list of tests
joined_first : (f p q rest : Bool) → ((f && (p || q)) || rest) ≡ ((f && q) || ((f && p) || rest))
joined_first true true true rest = refl
joined_first true true false rest = refl
joined_first true false true rest = refl
joined_first true false false rest = refl
joined_first false p q rest = refl

past_first : (first fq rest : Bool) → (first || (fq || rest)) ≡ (fq || (first || rest))
past_first true true rest = refl
past_first true false rest = refl
past_first false true rest = refl
past_first false false rest = refl

module _ {X : Type 0} where
  none_above : (key : ℕ) (p : X → Bool) (rules : List (ℕ × X)) → T (below_all nat_cmp key rules) → list_any (λ rule. eqb key rule.0 && p rule.1) rules ≡ false
  none_above key p [] above = refl
  none_above key p (rule ∷ rules) above =
      let parts = both_true (is_lt (nat_cmp key rule.0)) (below_all nat_cmp key rules) above in
      rw (unsigned_ties key rule.0 ∙ less_apart (nat_cmp key rule.0) parts.0) (none_above key p rules parts.1)

  any_at-find : (key : ℕ) (p : X → Bool) (rules : List (ℕ × X)) → T (is_sorted nat_cmp rules)
      → list_any (λ rule. eqb key rule.0 && p rule.1) rules ≡ option_map_or p (find nat_cmp key rules) false
  any_at-find key p [] sorted = refl
  any_at-find key p (rule ∷ rules) sorted =
      let parts = both_true (below_all nat_cmp rule.0 rules) (is_sorted nat_cmp rules) sorted in
      elim (cases_Bool (eqb key rule.0)) [
        | inl here ↦
            let above : T (below_all nat_cmp key rules) = subst (λ (k : ℕ). T (below_all nat_cmp k rules)) (sym (eqb-true key rule.0 here)) parts.0 in
            rw (← unsigned_ties key rule.0, here, none_above key p rules above) (or_false (p rule.1))
        | inr elsewhere ↦
            rw (← unsigned_ties key rule.0, elsewhere) (any_at-find key p rules parts.1)
      ]

  -- all that a map of rules grants at a key is what a look-up finds
  pub any_at-get : (rules : FinMap nat_cmp X) (key : ℕ) (p : X → Bool)
      → list_any (λ rule. eqb key rule.0 && p rule.1) (entries rules) ≡ option_map_or p (get rules key) false
  any_at-get rules key p =
      any_at-find key p (entries rules) (entries_sorted rules) ∙ ap (λ (found : Option X). option_map_or p found false) (sym (get-entries rules key))

  none_below : (key : ℕ) (rules : List (ℕ × X)) → T (below_all nat_cmp key rules) → find nat_cmp key rules ≡ None
  none_below key [] below = refl
  none_below key (rule ∷ rules) below =
      let parts = both_true (is_lt (nat_cmp key rule.0)) (below_all nat_cmp key rules) below in
      rw (less_apart (nat_cmp key rule.0) parts.0) (none_below key rules parts.1)

module _ {X : Type 0} (key : ℕ) (value : X) (picks : ℕ → Bool) (p : X → Bool) (q : Bool) where
  -- what an entry that is found passes, some entry passes
  absorbed : (rules : List (ℕ × X))
      → ((picks key && (option_map_or p (find nat_cmp key rules) false || q)) || list_any (λ rule. picks rule.0 && p rule.1) rules)
      ≡ ((picks key && q) || list_any (λ rule. picks rule.0 && p rule.1) rules)
  absorbed [] = refl
  absorbed (rule ∷ rules) = elim (cases_Bool (eqb key rule.0)) [
    | inl here ↦
        rw (← unsigned_ties key rule.0, here, ← eqb-true key rule.0 here)
        (again (picks key) (p rule.1) q (list_any (λ other. picks other.0 && p other.1) rules))
    | inr elsewhere ↦
        rw (← unsigned_ties key rule.0, elsewhere)
        (past_first (picks key && (option_map_or p (find nat_cmp key rules) false || q)) (picks rule.0 && p rule.1)
        (list_any (λ other. picks other.0 && p other.1) rules)
        ∙ ap (λ (b : Bool). (picks rule.0 && p rule.1) || b) (absorbed rules)
        ∙ past_first (picks rule.0 && p rule.1) (picks key && q) (list_any (λ other. picks other.0 && p other.1) rules))
  ]
    where
      again : (f p q rest : Bool) → ((f && (p || q)) || ((f && p) || rest)) ≡ ((f && q) || ((f && p) || rest))
      again true true true rest = refl
      again true true false rest = refl
      again true false true rest = refl
      again true false false rest = refl
      again false p q rest = refl

  any-put : (rules : List (ℕ × X)) → p value ≡ (option_map_or p (find nat_cmp key rules) false || q)
      → list_any (λ rule. picks rule.0 && p rule.1) (put nat_cmp key value rules) ≡ ((picks key && q) || list_any (λ rule. picks rule.0 && p rule.1) rules)
  any-put [] more = rw more refl
  any-put (rule ∷ rules) more =
      elim (nat_cmp key rule.0) as (λ o. nat_cmp key rule.0 ≡ o
      → list_any (λ other. picks other.0 && p other.1) (by_order o ((key, value) ∷ rule ∷ rules) ((rule.0, value) ∷ rules)
      (rule ∷ put nat_cmp key value rules)) ≡ ((picks key && q) || list_any (λ other. picks other.0 && p other.1) (rule ∷ rules))) [
        | Less ↦ λ is. rw more (absorbed (rule ∷ rules))
        | Equal ↦ λ is.
            let here : eqb key rule.0 ≡ true = unsigned_ties key rule.0 ∙ ap is_eq is in
            let joined : p value ≡ (p rule.1 || q) = rw is at more in
            rw (← eqb-true key rule.0 here, joined) (joined_first (picks key) (p rule.1) q (list_any (λ other. picks other.0 && p other.1) rules))
        | Greater ↦ λ is.
            let later : p value ≡ (option_map_or p (find nat_cmp key rules) false || q) = rw is at more in
            rw (any-put rules later) (past_first (picks rule.0 && p rule.1) (picks key && q) (list_any (λ other. picks other.0 && p other.1) rules))
      ] refl

  -- what is put at a key passes more than what was there
  pub any-insert : (rules : FinMap nat_cmp X) → p value ≡ (option_map_or p (get rules key) false || q)
      → list_any (λ rule. picks rule.0 && p rule.1) (entries (insert rules key value))
      ≡ ((picks key && q) || list_any (λ rule. picks rule.0 && p rule.1) (entries rules))
  any-insert rules more =
      ap (λ (es : List (ℕ × X)). list_any (λ rule. picks rule.0 && p rule.1) es) (entries-insert nat_cmp_total rules key value)
      ∙ any-put (entries rules) (more ∙ ap (λ (found : Option X). option_map_or p found false || q) (get-entries rules key))

-- an empty map has no entries
pub no_entries : {X : Type 0} (rules : FinMap nat_cmp X) → rules ≡ empty → entries rules ≡ []
no_entries {X} rules is = nil_from_length (entries rules) (sym (len-entries rules) ∙ ap len is ∙ len-empty nat_cmp X)

-- the rule that a look-up finds grants what all rules on that node grant
pub rule_found : (rules : RulesOn ℕ) (kept : FinMap nat_cmp Fs) (here : NodeId) (found : Fs) → entries kept ≡ rules.file_rules
    → found ≡ unwrap_or (get kept here.0) no_right
    → (right : FsRight) → has found right ≡ granted_on_node rules here right
unfolding granted_on_node
rule_found rules kept here found same is right =
    ap (λ (set : Fs). has set right) is
    ∙ by_option (get kept here.0)
    ∙ sym (any_at-get kept here.0 (λ set. has set right))
    ∙ ap (λ (es : List (ℕ × Fs)). list_any (λ rule. eqb here.0 rule.0 && has rule.1 right) es) same
  where
    by_option : (rule : Option Fs) → has (unwrap_or rule no_right) right ≡ option_map_or (λ set. has set right) rule false
    by_option None = has_nothing right
    by_option (Some rule) = refl

-- where a look-up finds no rule nothing is granted
pub nothing_found : (rules : RulesOn ℕ) (kept : FinMap nat_cmp Fs) (here : NodeId) → entries kept ≡ rules.file_rules → None ≡ get kept here.0
    → (right : FsRight) → granted_on_node rules here right ≡ false
nothing_found rules kept here same none right =
    sym (rule_found rules kept here no_right same (ap (λ (rule : Option Fs). unwrap_or rule no_right) none) right) ∙ has_nothing right
