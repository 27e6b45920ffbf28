-- The decision is the relation: what is closed holds each chain, by the chain's file; else the chain of all that is extra passes.
use Rattle.std.proofs.Common.{◌≡◌, ℕ, ◌<◌, Bool, true, false, not, ◌&&◌, ◌||◌, ◌==◌, List, [], ◌∷◌, refl, sym, ◌∙◌, subst, inl, inr, arith, get_or}
use Rattle.std.specs.Prelude.{Option, Some, None, All}
use Rattle.std.specs.List.{Contains, filter, list_any, list_all, range_with_len}
use Rattle.std.proofs.lemmas.Bool.{cases_Bool, and_parts, and_from, eqb-true, false≢true, or_right, or_left, not_from_false, not-true}
use Rattle.std.proofs.lemmas.Option.{none-some}
use Rattle.std.proofs.lemmas.List.Elements.{All-contains, Contains-append_cases, Contains-append_left, Contains-append_right}
use Rattle.ll_policy.specs.Chains.{Granting, is_among, IsChain, lets, some_among, passes, NothingMoreThan, IsExcess, AreDirectories}
use Rattle.ll_policy.specs.Choices.{are_within, is_narrow, narrow_ones, some_grants, all_grant, is_open, open_file, counts, is_extra}
use Rattle.ll_policy.specs.Choices.{is_further, AreBelow, IsChainOfExtra}
use Rattle.ll_policy.proofs.Lists.{some_passes, that_passes, each_passes, passes_among, that_fails, filtered}
use Rattle.ll_policy.proofs.Lists.{filter_test, kept_within, found_passes, none_passes, in_range, contains_first, here}

-- ---- Booleans

pub neither : (a b : Bool) → (not a || b) ≡ false → (a ≡ true) × (b ≡ false)
neither true b none = (refl, none)
neither false b none = absurd (false≢true (sym none))

pub given : (a b : Bool) → (not a || b) ≡ true → a ≡ true → b ≡ true
given true b some holds = some
given false b some holds = absurd (false≢true holds)

pub when : (a b : Bool) → (a ≡ true → b ≡ true) → (not a || b) ≡ true
when true b so = so refl
when false b so = refl

pub second : (a b : Bool) → a ≡ false → (a || b) ≡ true → b ≡ true
second true b fails some = absurd (false≢true (sym fails))
second false b fails some = some

-- if the first two hold and all three don't, the third doesn't
third : (a b c : Bool) → a ≡ true → b ≡ false → (a && (not b && c)) ≡ false → c ≡ false
third true false c holds fails none = none
third false b c holds fails none = absurd (false≢true holds)
third true true c holds fails none = absurd (false≢true (sym fails))

-- ---- objects

pub number-refl : (n : ℕ) → (n == n) ≡ true
number-refl n = grind arith

pub among-contains : (object : ℕ) (objects : List ℕ) → is_among object objects ≡ true → Contains objects object
unfolding is_among
among-contains object objects holds =
    let found = that_passes (λ (own : ℕ). object == own) objects holds in
    subst (λ (x : ℕ). Contains objects x) (sym (eqb-true object found.0 found.2)) found.1

pub contains-among : (object : ℕ) (objects : List ℕ) → Contains objects object → is_among object objects ≡ true
unfolding is_among
contains-among object objects within = some_passes (λ (own : ℕ). object == own) objects object within (number-refl object)

-- ---- choices of a file

module _ (is_file : ℕ → Bool) where
  choice_within : Option ℕ → List ℕ → List ℕ → Bool
  choice_within file objects others = list_all (λ object. not (counts is_file file object) || is_among object others) objects

  -- of the objects that count, the new layer grants on none that the old one doesn't
  covers : Option ℕ → Granting → Granting → Bool
  covers file old new = new.handles && choice_within file new.grants old.grants

  is_covered : Option ℕ → Granting → List Granting → Bool
  is_covered file old new = list_any (covers file old) new

  -- ---- what counts

  directory-counts : (file : Option ℕ) (object : ℕ) → is_file object ≡ false → counts is_file file object ≡ true
  directory-counts None object fails = not_from_false (is_file object) fails
  directory-counts (Some file) object fails = or_left (not (is_file object)) (file == object) (not_from_false (is_file object) fails)

  itself-counts : (file : ℕ) → counts is_file (Some file) file ≡ true
  itself-counts file = or_right (not (is_file file)) (file == file) (number-refl file)

  none-is_file : (object : ℕ) → counts is_file None object ≡ true → is_file object ≡ false
  none-is_file object counted = not-true (is_file object) counted

  some-is_file : (file object : ℕ) → counts is_file (Some file) object ≡ true → is_file object ≡ true → file ≡ object
  some-is_file file object counted holds = eqb-true file object (given (is_file object) (file == object) counted holds)

  -- a file, if any
  abbrev IsFile : Option ℕ → Type 0
  IsFile None = Unit {0}
  IsFile (Some file) = is_file file ≡ true

  file_of : (chain : List ℕ) → IsChain is_file chain
      → (file : Option ℕ) × IsFile file × ((object : ℕ) → Contains chain object → counts is_file file object ≡ true)
  file_of chain is =
      elim (cases_Bool (list_any is_file chain)) [
        | inl some ↦
            let found = that_passes is_file chain some in (
              Some found.0,
              found.2,
              λ object within. elim (cases_Bool (is_file object)) [
                | inl holds ↦ subst (λ (x : ℕ). counts is_file (Some x) object ≡ true) (is object found.0 within found.1 holds found.2) (itself-counts object)
                | inr fails ↦ directory-counts (Some found.0) object fails
              ],
            )
        | inr none ↦ (
          None,
          tt,
          λ object within. elim (cases_Bool (is_file object)) [
            | inl holds ↦ absurd (false≢true (sym none ∙ some_passes is_file chain object within holds))
            | inr fails ↦ directory-counts None object fails
          ],
        )
      ]

  -- ---- narrow layers, and each choice of a file

  narrow-none : (old new : Granting) → is_narrow is_file old new ≡ true → covers None old new ≡ true
  unfolding is_narrow are_within covers choice_within
  narrow-none old new narrow =
      let parts = and_parts new.handles (are_within is_file new.grants old.grants) narrow in
      and_from new.handles (choice_within None new.grants old.grants) parts.0
      (each_passes (λ object. not (counts is_file None object) || is_among object old.grants) new.grants
      (λ object inside. when (counts is_file None object) (is_among object old.grants)
      (λ counted. second (is_file object) (is_among object old.grants) (none-is_file object counted)
      (passes_among (λ own. is_file own || is_among own old.grants) new.grants object parts.1 inside))))

  narrow-some : (old new : Granting) (file : ℕ) → is_narrow is_file old new ≡ true
      → (is_among file new.grants ≡ true → is_among file old.grants ≡ true) → covers (Some file) old new ≡ true
  unfolding is_narrow are_within covers choice_within
  narrow-some old new file narrow kept =
      let parts = and_parts new.handles (are_within is_file new.grants old.grants) narrow in
      and_from new.handles (choice_within (Some file) new.grants old.grants) parts.0
      (each_passes (λ object. not (counts is_file (Some file) object) || is_among object old.grants) new.grants
      (λ object inside. when (counts is_file (Some file) object) (is_among object old.grants)
      (λ counted. elim (cases_Bool (is_file object)) [
        | inl holds ↦
            let it : file ≡ object = some-is_file file object counted holds in
            subst (λ (x : ℕ). is_among x old.grants ≡ true) it
            (kept (subst (λ (x : ℕ). is_among x new.grants ≡ true) (sym it) (contains-among object new.grants inside)))
        | inr fails ↦ second (is_file object) (is_among object old.grants) fails
            (passes_among (λ own. is_file own || is_among own old.grants) new.grants object parts.1 inside)
      ])))

  covers-narrow : (old new : Granting) (file : Option ℕ) → covers file old new ≡ true → is_narrow is_file old new ≡ true
  unfolding is_narrow are_within covers choice_within
  covers-narrow old new file covered =
      let parts = and_parts new.handles (choice_within file new.grants old.grants) covered in
      and_from new.handles (are_within is_file new.grants old.grants) parts.0
      (each_passes (λ object. is_file object || is_among object old.grants) new.grants
      (λ object inside. elim (cases_Bool (is_file object)) [
        | inl holds ↦ or_left (is_file object) (is_among object old.grants) holds
        | inr fails ↦ or_right (is_file object) (is_among object old.grants)
            (given (counts is_file file object) (is_among object old.grants)
            (passes_among (λ own. not (counts is_file file own) || is_among own old.grants) new.grants object parts.1 inside)
            (directory-counts file object fails))
      ]))

  covers-file : (old new : Granting) (file : ℕ) → covers (Some file) old new ≡ true → is_among file new.grants ≡ true → is_among file old.grants ≡ true
  unfolding covers choice_within
  covers-file old new file covered granted =
      let parts = and_parts new.handles (choice_within (Some file) new.grants old.grants) covered in
      given (counts is_file (Some file) file) (is_among file old.grants)
      (passes_among (λ own. not (counts is_file (Some file) own) || is_among own old.grants) new.grants file parts.1 (among-contains file new.grants granted))
      (itself-counts file)

  -- ---- sound

  -- each of some layers is a new one that is narrow
  abbrev AreNarrow : Granting → List Granting → List Granting → Type 0
  AreNarrow old new narrow = (layer : Granting) → Contains narrow layer → Contains new layer × (is_narrow is_file old layer ≡ true)

  -- the file of a chain is closed if it is of none of the open ones
  closed_some : (old : Granting) (new : List Granting) (first : Granting) (others : List Granting) (file : ℕ) → is_file file ≡ true
      → AreNarrow old new (first ∷ others) → open_file is_file old (first ∷ others) ≡ None → is_covered (Some file) old new ≡ true
  unfolding open_file is_open all_grant is_covered
  closed_some old new first others file is narrow none =
      let there = narrow first (here first others) in
      elim (cases_Bool (is_among file first.grants)) [
        | inr gone ↦ some_passes (covers (Some file) old) new first there.0
            (narrow-some old first file there.1 (λ inside. absurd (false≢true (sym gone ∙ inside))))
        | inl inside ↦ elim (cases_Bool (is_among file old.grants)) [
          | inl granted ↦ some_passes (covers (Some file) old) new first there.0 (narrow-some old first file there.1 (λ also. granted))
          | inr ungranted ↦
              let shut : is_open is_file old (first ∷ others) file ≡ false =
              none_passes (is_open is_file old (first ∷ others)) first.grants file none (among-contains file first.grants inside) in
              let lacking = that_fails (λ layer. is_among file layer.grants) (first ∷ others)
              (third (is_file file) (is_among file old.grants) (all_grant (first ∷ others) file) is ungranted shut) in
              let by = narrow lacking.0 lacking.1 in
              some_passes (covers (Some file) old) new lacking.0 by.0
              (narrow-some old lacking.0 file by.1 (λ also. absurd (false≢true (sym lacking.2 ∙ also))))
        ]
      ]

  closed : (old : Granting) (new : List Granting) (first : Granting) (others : List Granting) (file : Option ℕ) → IsFile file
      → AreNarrow old new (first ∷ others) → open_file is_file old (first ∷ others) ≡ None → is_covered file old new ≡ true
  unfolding is_covered
  closed old new first others None is narrow none =
      let there = narrow first (here first others) in
      some_passes (covers None old) new first there.0 (narrow-none old first there.1)
  closed old new first others (Some file) is narrow none = closed_some old new first others file is narrow none

  covered_lets : (old : Granting) (new : List Granting) (chain : List ℕ) (file : Option ℕ)
      → ((object : ℕ) → Contains chain object → counts is_file file object ≡ true) → is_covered file old new ≡ true
      → passes new chain ≡ true → lets chain old ≡ true
  unfolding lets some_among passes is_covered covers choice_within
  covered_lets old new chain file counted covered passing =
      let by = that_passes (covers file old) new covered in
      let both = and_parts by.0.handles (choice_within file by.0.grants old.grants) by.2 in
      let granted = given by.0.handles (some_among chain by.0.grants) (passes_among (lets chain) new by.0 passing by.1) both.0 in
      let on = that_passes (λ object. is_among object by.0.grants) chain granted in
      or_right (not old.handles) (some_among chain old.grants)
      (some_passes (λ object. is_among object old.grants) chain on.0 on.1
      (given (counts is_file file on.0) (is_among on.0 old.grants)
      (passes_among (λ object. not (counts is_file file object) || is_among object old.grants) by.0.grants on.0 both.1
      (among-contains on.0 by.0.grants on.2))
      (counted on.0 on.1)))

  are_narrow : (old : Granting) (new : List Granting) → AreNarrow old new (narrow_ones is_file old new)
  unfolding narrow_ones
  are_narrow old new layer within =
      (kept_within (is_narrow is_file old) new layer within, filter_test (is_narrow is_file old) new layer within)

  holds_by : (always : List ℕ) (old : Granting) (new narrow : List Granting) → AreNarrow old new narrow → (narrow ≡ [] → ⊥)
      → open_file is_file old narrow ≡ None → NothingMoreThan is_file always old new
  holds_by always old new [] are some none = absurd (some refl)
  holds_by always old new (first ∷ others) are some none =
      λ chain is within passing.
      let file = file_of chain is in
      covered_lets old new chain file.0 file.2 (closed old new first others file.0 file.1 are none) passing

  -- no narrow layer leaves a file open
  pub holds : (always : List ℕ) (old : Granting) (new : List Granting) → (narrow_ones is_file old new ≡ [] → ⊥)
      → open_file is_file old (narrow_ones is_file old new) ≡ None → NothingMoreThan is_file always old new
  holds always old new some none = holds_by always old new (narrow_ones is_file old new) (are_narrow old new) some none

  -- ---- complete

  narrow-there : (old : Granting) (new : List Granting) (file : Option ℕ) (layer : Granting) → Contains new layer → covers file old layer ≡ true
      → Contains (narrow_ones is_file old new) layer
  unfolding narrow_ones
  narrow-there old new file layer within covered = filtered (is_narrow is_file old) new layer within (covers-narrow old layer file covered)

  -- where no layer is narrow, none covers a choice
  none_covers : (old : Granting) (new : List Granting) → narrow_ones is_file old new ≡ []
      → (layer : Granting) → Contains new layer → covers None old layer ≡ true → ⊥
  none_covers old new none layer within covered =
      not_there layer (subst (λ (layers : List Granting). Contains layers layer) none (narrow-there old new None layer within covered))
    where
      not_there : (one : Granting) → Contains [] one → ⊥
      not_there one inside = omega (arith, inside.1)

  -- where a file is open, no layer covers it
  open_covers : (old : Granting) (new : List Granting) (file : ℕ) → is_open is_file old (narrow_ones is_file old new) file ≡ true
      → (layer : Granting) → Contains new layer → covers (Some file) old layer ≡ true → ⊥
  unfolding is_open all_grant
  open_covers old new file is layer within covered =
      let parts = and_parts (is_file file) (not (is_among file old.grants) && all_grant (narrow_ones is_file old new) file) is in
      let two = and_parts (not (is_among file old.grants)) (all_grant (narrow_ones is_file old new) file) parts.1 in
      let granted = passes_among (λ one. is_among file one.grants) (narrow_ones is_file old new) layer two.1
      (narrow-there old new (Some file) layer within covered) in
      false≢true (sym (not-true (is_among file old.grants) two.0) ∙ covers-file old layer file covered granted)

  -- the choice of a file by which a chain passes
  abbrev IsChoice : Granting → List Granting → Option ℕ → Type 0
  IsChoice old new file = (layer : Granting) → Contains new layer → covers file old layer ≡ true → ⊥

  found_open : (old : Granting) (narrow : List Granting) (file : ℕ) → open_file is_file old narrow ≡ Some file → is_open is_file old narrow file ≡ true
  unfolding open_file
  found_open old [] file is = absurd (none-some file is)
  found_open old (first ∷ others) file is = found_passes (is_open is_file old (first ∷ others)) first.grants file is

  choice : (old : Granting) (new : List Granting) (file : Option ℕ) → open_file is_file old (narrow_ones is_file old new) ≡ file
      → (file ≡ None → narrow_ones is_file old new ≡ []) → IsChoice old new file
  choice old new None is empty = none_covers old new (empty refl)
  choice old new (Some file) is empty = open_covers old new file (found_open old (narrow_ones is_file old new) file is)

  -- what counts, and isn't granted by the old layer
  record Missing (file : Option ℕ) (old : Granting) (object : ℕ) : Type 0 where
    pub counted : counts is_file file object ≡ true
    pub ungranted : is_among object old.grants ≡ false

  missing-same : (file : Option ℕ) (old : Granting) (one other : ℕ) → Missing file old one → Missing file old other
      → is_file one ≡ true → is_file other ≡ true → one ≡ other
  missing-same None old one other first other_one is too = absurd (false≢true (sym (none-is_file one first.counted) ∙ is))
  missing-same (Some file) old one other first other_one is too =
      sym (some-is_file file one first.counted is) ∙ some-is_file file other other_one.counted too

  -- the directories on each chain aren't granted by a layer that they don't get past
  stopped-handles : (always : List ℕ) (old : Granting) → lets always old ≡ false → (old.handles ≡ true) × (some_among always old.grants ≡ false)
  unfolding lets
  stopped-handles always old stopped = neither old.handles (some_among always old.grants) stopped

  chain-missing : (always : List ℕ) (file : Option ℕ) (old : Granting) (new : List Granting) (chain : List ℕ) → AreDirectories is_file always
      → lets always old ≡ false → IsChainOfExtra is_file always file old new chain → (object : ℕ) → Contains chain object → Missing file old object
  unfolding some_among is_extra is_further
  chain-missing always file old new chain directories stopped of object within =
      elim (Contains-append_cases always (filter (is_further is_file always file old new) (range_with_len 0 of.bound)) object
      (subst (λ (objects : List ℕ). Contains objects object) of.objects within)) [
        | inl first ↦ record {
          counted = directory-counts file object (All-contains (λ (x : ℕ). is_file x ≡ false) always object directories first);
          ungranted = elim (cases_Bool (is_among object old.grants)) [
            | inl granted ↦ absurd (false≢true (sym (stopped-handles always old stopped).1
                ∙ some_passes (λ (x : ℕ). is_among x old.grants) always object first granted))
            | inr gone ↦ gone
          ];
        }
        | inr after ↦
            let extra = and_parts (is_extra is_file file old new object) (not (is_among object always))
            (filter_test (is_further is_file always file old new) (range_with_len 0 of.bound) object after) in
            let parts = and_parts (counts is_file file object) (not (is_among object old.grants) && some_grants new object) extra.0 in
            let two = and_parts (not (is_among object old.grants)) (some_grants new object) parts.1 in
            record { counted = parts.0; ungranted = not-true (is_among object old.grants) two.0 }
      ]

  chain-extra : (always : List ℕ) (file : Option ℕ) (old : Granting) (new : List Granting) (chain : List ℕ)
      → IsChainOfExtra is_file always file old new chain → (layer : Granting) → Contains new layer → (object : ℕ) → Contains layer.grants object
      → counts is_file file object ≡ true → is_among object old.grants ≡ false → Contains chain object
  unfolding is_extra is_further some_grants AreBelow
  chain-extra always file old new chain of layer inside object within counted ungranted =
      let further = is_further is_file always file old new in
      subst (λ (objects : List ℕ). Contains objects object) (sym of.objects)
      (elim (cases_Bool (is_among object always)) [
        | inl first ↦ Contains-append_left always (filter further (range_with_len 0 of.bound)) object (among-contains object always first)
        | inr after ↦ Contains-append_right always (filter further (range_with_len 0 of.bound)) object
            (filtered further (range_with_len 0 of.bound) object
            (in_range of.bound object
            (All-contains (λ (own : ℕ). own < of.bound) layer.grants object
            (All-contains (λ (own : Granting). All (λ (x : ℕ). x < of.bound) own.grants) new layer of.below inside) within))
            (and_from (is_extra is_file file old new object) (not (is_among object always))
            (and_from (counts is_file file object) (not (is_among object old.grants) && some_grants new object) counted
            (and_from (not (is_among object old.grants)) (some_grants new object) (not_from_false (is_among object old.grants) ungranted)
            (some_passes (λ (own : Granting). is_among object own.grants) new layer inside (contains-among object layer.grants within))))
            (not_from_false (is_among object always) after)))
      ])

  extra-lets : (always : List ℕ) (file : Option ℕ) (old : Granting) (new : List Granting) (chain : List ℕ)
      → IsChainOfExtra is_file always file old new chain → IsChoice old new file → (layer : Granting) → Contains new layer → lets chain layer ≡ true
  unfolding lets some_among covers choice_within
  extra-lets always file old new chain of is layer inside =
      when layer.handles (some_among chain layer.grants)
      (λ handled. elim (cases_Bool (choice_within file layer.grants old.grants)) [
        | inl all ↦ absurd (is layer inside (and_from layer.handles (choice_within file layer.grants old.grants) handled all))
        | inr outside ↦
            let found = that_fails (λ (object : ℕ). not (counts is_file file object) || is_among object old.grants) layer.grants outside in
            let both = neither (counts is_file file found.0) (is_among found.0 old.grants) found.2 in
            some_passes (λ object. is_among object layer.grants) chain found.0
            (chain-extra always file old new chain of layer inside found.0 found.1 both.0 both.1)
            (contains-among found.0 layer.grants found.1)
      ])

  -- all that is extra passes
  pub exceeds : (always : List ℕ) (file : Option ℕ) (old : Granting) (new : List Granting) (chain : List ℕ) → AreDirectories is_file always
      → lets always old ≡ false → open_file is_file old (narrow_ones is_file old new) ≡ file
      → (file ≡ None → narrow_ones is_file old new ≡ []) → IsChainOfExtra is_file always file old new chain
      → IsExcess is_file always old new chain
  unfolding passes lets some_among
  exceeds always file old new chain directories stopped is empty of =
      let missing = chain-missing always file old new chain directories stopped of in
      record {
        is_chain = λ one other first other_one holds too. missing-same file old one other (missing one first) (missing other other_one) holds too;
        begins = λ k d within. subst (λ (objects : List ℕ). Contains objects (get_or always k d)) (sym of.objects)
            (contains_first always (filter (is_further is_file always file old new) (range_with_len 0 of.bound)) k d within);
        passes_new = each_passes (lets chain) new (extra-lets always file old new chain of (choice old new file is empty));
        kept_by_old = elim (cases_Bool (lets chain old)) [
          | inr fails ↦ fails
          | inl passing ↦
              let on = that_passes (λ (object : ℕ). is_among object old.grants) chain
              (given old.handles (some_among chain old.grants) passing (stopped-handles always old stopped).0) in
              absurd (false≢true (sym (missing on.0 on.1).ungranted ∙ on.2))
        ];
      }

-- ---- more of a chain

-- a layer that lets part of a chain pass lets it pass
pub more_lets : (part chain : List ℕ) (layer : Granting) → All (Contains chain) part → lets part layer ≡ true → lets chain layer ≡ true
unfolding lets some_among
more_lets part chain layer within passing =
    when layer.handles (some_among chain layer.grants)
    (λ handled.
    let on = that_passes (λ object. is_among object layer.grants) part (given layer.handles (some_among part layer.grants) passing handled) in
    some_passes (λ object. is_among object layer.grants) chain on.0 (All-contains (Contains chain) part on.0 within on.1) on.2)

-- what lets pass what is on each chain holds nothing back
pub always_lets : (is_file : ℕ → Bool) (always : List ℕ) (old : Granting) (new : List Granting) → lets always old ≡ true
    → NothingMoreThan is_file always old new
always_lets is_file always old new already chain is within passing = more_lets always chain old within already
