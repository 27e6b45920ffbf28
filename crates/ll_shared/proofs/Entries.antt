-- The entries of a tree of forks are what is found in it.
use Rattle.std.proofs.Common.{◌≡◌, ℕ, ◌/◌, ◌%◌, ◌^◌, ◌<◌, ◌==◌, Bool, true, false, ◌&&◌, List, [], ◌∷◌, ◌++◌, map, Bor, is_some, Option, Some, None, cond}
use Rattle.std.proofs.Common.{if◌then◌else◌, inl, inr, refl, sym, ap, ◌∙◌, arith}
use Rattle.std.specs.declared.result.Result.{Result}
use Rattle.std.specs.Result.{IfOk}
use Rattle.std.specs.Option.{option_copied}
use Rattle.std.proofs.lemmas.Result.{IfOk-weaker}
use Rattle.std.specs.Ordering.{nat_cmp}
use Rattle.std.specs.Cmp.{nat_cmp_total, unsigned_tied}
use Rattle.std.proofs.lemmas.Bool.{cases_eq, eq-eqb, ne_eqb}
use Rattle.std.proofs.lemmas.Bool.Decides.{nat_tests}
use Rattle.std.specs.FinMap.{FinMap, find, get, insert, remove, from_entries, get-from_entries, get-insert, get-remove, same_map, nat_cmp-IsAntisymmetric}
use Rattle.ll_shared.specs.declared.node.Node.{Node}
use Rattle.ll_shared.specs.declared.node.Node.TheVariants.{Empty, Leaf, Fork'}
use Rattle.ll_shared.specs.Levels.{agree}
use Rattle.ll_shared.specs.Nodes.{behind, chosen, entries, found, under}
use Rattle.ll_shared.proofs.Behind.{is_whole}

turned : (a b : ℕ) → (a == b) ≡ (b == a)
turned a b = grind (arith, nat_tests)

-- the first of two that is there
abbrev or_else : {X : Type 0} → Option X → Option X → Option X
or_else (Some x) other = Some x
or_else None other = other

under_tests : {X : Type 0} (a b : Bool) (x : X) → x ≡ (if a then (if b then x else x) else x)
under_tests true true x = refl
under_tests true false x = refl
under_tests false b x = refl

one_more : {X : Type 0} (a b c : Bool) (one more : Option X)
    → (if a && (b && c) then one else if a then (if b then more else None) else None) ≡ (if a then (if b then (if c then one else more) else None) else None)
one_more true true true one more = refl
one_more true true false one more = refl
one_more true false c one more = refl
one_more false b c one more = refl

module _ {V : Type 0} where
  -- among entries one after another the first that is there is found
  find_append : (q : ℕ) (xs ys : List (ℕ × V)) → find nat_cmp q (xs ++ ys) ≡ or_else (find nat_cmp q xs) (find nat_cmp q ys)
  find_append q [] ys = refl
  find_append q (x ∷ xs) ys = grind (arith, find_append q xs ys)

  find_under : (levels low q bits : ℕ) (es : List (ℕ × V)) → bits < 4
      → find nat_cmp q (under levels low bits es) ≡ behind levels low (λ above. if above % 4 == bits then find nat_cmp (above / 4) es else None) q
  find_under levels low q bits [] small = under_tests (agree levels q low) (q / 4 ^ levels % 4 == bits) None
  find_under levels low q bits (e ∷ es) small =
      rw (unsigned_tied, is_whole levels low bits e.0 q small, find_under levels low q bits es small, unsigned_tied)
      (one_more (agree levels q low) (q / 4 ^ levels % 4 == bits) (q / 4 ^ levels / 4 == e.0) (Some e.1) (find nat_cmp (q / 4 ^ levels / 4) es))

  four_places : (agrees : Bool) (q : ℕ) (a b c d : Option V) →
      or_else (or_else (or_else (if agrees then (if q % 4 == 0 then a else None) else None) (if agrees then (if q % 4 == 1 then b else None) else None))
      (if agrees then (if q % 4 == 2 then c else None) else None)) (if agrees then (if q % 4 == 3 then d else None) else None)
      ≡ (if agrees then chosen q a b c d else None)
  four_places true q a b c d = grind (arith, nat_tests)
  four_places false q a b c d = refl

  find-entries : (node : Node V) (q : ℕ) → find nat_cmp q (entries node) ≡ found node q
  find-entries Empty q = refl
  find-entries (Leaf key value) q = rw unsigned_tied refl
  find-entries (Fork' levels low p a b c d) q = rw (
    find_append,
    find_append,
    find_append,
    find_under levels.count low q 0 (entries a) (omega arith),
    find_under levels.count low q 1 (entries b) (omega arith),
    find_under levels.count low q 2 (entries c) (omega arith),
    find_under levels.count low q 3 (entries d) (omega arith),
    find-entries a (q / 4 ^ levels.count / 4),
    find-entries b (q / 4 ^ levels.count / 4),
    find-entries c (q / 4 ^ levels.count / 4),
    find-entries d (q / 4 ^ levels.count / 4),
  )
      (four_places (agree levels.count q low) (q / 4 ^ levels.count) _ _ _ _)

  -- what the map has is what the tree finds
  pub get_found : (node : Node V) (q : ℕ) → get (from_entries {R = nat_cmp} (entries node)) q ≡ found node q
  get_found node q = get-from_entries nat_cmp_total (entries node) q ∙ find-entries node q

  -- an answer of what the tree finds is one of what the map has
  pub old_value : {E : Type 0} (result : Result (Option V) E) (node : Node V) (key : ℕ) → IfOk result (λ old. old ≡ found node key)
      → IfOk result (λ old. old ≡ get (from_entries {R = nat_cmp} (entries node)) key)
  old_value result node key is = IfOk-weaker result _ _ (λ old e. e ∙ sym (get_found node key)) is

  -- two trees that find the same are the same map
  pub same : (a b : Node V) → ((q : ℕ) → found a q ≡ found b q) → from_entries {R = nat_cmp} (entries a) ≡ from_entries (entries b)
  same a b is = same_map nat_cmp_total nat_cmp-IsAntisymmetric _ _ (λ q. get_found a q ∙ is q ∙ sym (get_found b q))

  module _ (old new : Node V) (key : ℕ) where
    -- a tree that finds a new value for one key is the map in which it was inserted
    pub inserted : (value : V) → ((q : ℕ) → found new q ≡ (if q == key then Some value else found old q))
        → from_entries {R = nat_cmp} (entries new) ≡ insert (from_entries (entries old)) key value
    inserted value is =
        same_map nat_cmp_total nat_cmp-IsAntisymmetric _ _ (λ q. get_found new q ∙ is q ∙ sym (rw (get-insert nat_cmp_total, unsigned_tied, get_found) refl))

    -- and one that finds none for it any more is the map from which it was removed
    pub removed : ((q : ℕ) → found new q ≡ (if q == key then None else found old q))
        → from_entries {R = nat_cmp} (entries new) ≡ remove (from_entries (entries old)) key
    removed is =
        same_map nat_cmp_total nat_cmp-IsAntisymmetric _ _ (λ q. get_found new q ∙ is q ∙ sym (rw (get-remove nat_cmp_total, unsigned_tied, get_found) refl))

    -- the same key by key
    pub each : (value : Option V) → ((q : ℕ) → found new q ≡ (if q == key then value else found old q))
        → (q : ℕ) → get (from_entries {R = nat_cmp} (entries new)) q ≡ (if key == q then value else get (from_entries {R = nat_cmp} (entries old)) q)
    each value is q = rw (get_found, get_found, turned key q) (is q)

  -- where a look-up found nothing, the map has nothing
  pub nothing_there : (looked : Option (Bor V)) (node : Node V) (map : FinMap nat_cmp V) (key : ℕ) → is_some looked ≡ false
      → option_copied looked ≡ found node key
      → from_entries (entries node) ≡ map → get map key ≡ None
  nothing_there None node map key none found_is view_is = ap (λ m. get m key) (sym view_is) ∙ get_found node key ∙ sym found_is
  nothing_there (Some value) node map key none found_is view_is = grind (arith, none)

-- to take away what isn't there changes nothing
module _ {V : Type 0} (map : FinMap nat_cmp V) (key : ℕ) (absent : get map key ≡ None) where
  pub absent_each : (q : ℕ) → get map q ≡ (if key == q then None else get map q)
  absent_each q = elim (cases_eq key q) [
    | inl same ↦ rw (eq-eqb key q same, ← same) absent
    | inr other ↦ rw (ne_eqb key q other) refl
  ]

  pub absent_removed : map ≡ remove map key
  absent_removed = same_map nat_cmp_total nat_cmp-IsAntisymmetric _ _
      (λ q. absent_each q ∙ sym (get-remove nat_cmp_total map key q ∙ ap (λ b. cond b None (get map q)) (unsigned_tied q key ∙ turned q key)))
