-- What is said of moves in each region, by single numbers, is what is said of the regions.
use Rattle.std.proofs.Common.{◌≡◌, ℕ, zero, suc, ◌+◌, ◌<◌, Bool, false, not, ◌&&◌, List, [], ◌∷◌, map, length}
use Rattle.std.proofs.Common.{refl, sym, ap, ◌∙◌, subst, inl, inr, arith}
use Rattle.std.proofs.lemmas.Bool.{cases_Bool}
use Rattle.std.specs.Prelude.{Option, Some, None, MatchOption, replicate}
use Rattle.std.specs.List.{list_all, filter, range_with_len, AllZip}
use Rattle.ll_rights.specs.declared.kind.Kind.{Kind}
use Rattle.ll_rights.specs.Rights.{FsRight, refer}
use Rattle.ll_tree.specs.Trees.{is_dir}
use Rattle.ll_rules.specs.Layers.{RulesOn}
use Rattle.ll_rules.proofs.Booleans.{or_false, and_none}
use Rattle.ll_policy.specs.declared.moving.Movers.{Movers}
use Rattle.ll_policy.specs.declared.moving.MovedTo.{MovedTo}
use Rattle.ll_policy.specs.Chains.{Granting, is_among, some_among, passes}
use Rattle.ll_policy.specs.Granted.{granting}
use Rattle.ll_policy.specs.Regions.{region, single, spread}
use Rattle.ll_policy.specs.Moving.{MoveGranting, applies, about_moves, gains_nothing, gains_none, comes, link_passes, rename_passes, move_passes}
use Rattle.ll_policy.specs.FoundMoves.{spread_all, passes_by, lets_move, parent_in, may_be, moves_alone, beneath_alone, itself_alone}
use Rattle.ll_policy.specs.FoundMoves.{NoneComes, MovesNowhere, TellsMovers, TellsMoved, TellsMovedTo}
use Rattle.ll_policy.proofs.Spread.{reached_there, passes_spread, filter_agree}
use Rattle.ll_policy.proofs.Lists.{zip_weaker}

pub one_among : (object : ℕ) (grants : List ℕ) → some_among (single object) grants ≡ is_among object grants
unfolding some_among
one_among object grants = or_false (is_among object grants)

-- what layers say of each of some rights, in each region
abbrev pub said_of : List ℕ → Kind → List (RulesOn ℕ) → List FsRight → List (List Granting)
said_of parents kind layers rights = map (map (spread parents)) (map (λ right. map (granting right) layers) (filter (applies kind) rights))

module _ (parents : List ℕ) where
  nothing_there : (object to : ℕ) (layer : Granting)
      → gains_nothing (single object) (single to) (spread parents layer) ≡ gains_nothing (region parents object) (region parents to) layer
  unfolding gains_nothing spread
  nothing_there object to layer = rw (reached_there parents layer object, reached_there parents layer to) refl

  nothing_in_all : (object to : ℕ) (layers : List Granting)
      → list_all (gains_nothing (single object) (single to)) (map (spread parents) layers)
      ≡ list_all (gains_nothing (region parents object) (region parents to)) layers
  nothing_in_all object to [] = refl
  nothing_in_all object to (layer ∷ layers) = rw (nothing_there object to layer, nothing_in_all object to layers) refl

  none_there : (object to : ℕ) (rights : List (List Granting))
      → gains_none (single object) (single to) (map (map (spread parents)) rights) ≡ gains_none (region parents object) (region parents to) rights
  unfolding gains_none
  none_there object to [] = refl
  none_there object to (layers ∷ rights) = rw (nothing_in_all object to layers, none_there object to rights) refl

  pub comes_there : (about : MoveGranting) (to : ℕ) → comes (spread_all parents about) (single to) ≡ comes about (region parents to)
  unfolding comes
  comes_there about to = rw (passes_spread parents about.make to, passes_spread parents about.refer to) refl

  link_there : (about : MoveGranting) (object from to : ℕ)
      → link_passes (spread_all parents about) (single object) (single from) (single to)
      ≡ link_passes about (region parents object) (region parents from) (region parents to)
  unfolding link_passes
  link_there about object from to = rw (comes_there about to, passes_spread parents about.refer from, none_there object to about.gained) refl

  rename_there : (about : MoveGranting) (object from to : ℕ)
      → rename_passes (spread_all parents about) (single object) (single from) (single to)
      ≡ rename_passes about (region parents object) (region parents from) (region parents to)
  unfolding rename_passes
  rename_there about object from to = rw (link_there about object from to, passes_spread parents about.remove from) refl

  pub move_there : (kind : Kind) (about : MoveGranting) (object from to : ℕ)
      → move_passes kind (spread_all parents about) (single object) (single from) (single to)
      ≡ move_passes kind about (region parents object) (region parents from) (region parents to)
  unfolding move_passes
  move_there kind about object from to = rw (link_there about object from to, rename_there about object from to) refl

-- ---- where nothing comes

pub nothing_comes : (kind : Kind) (about : MoveGranting) (to : ℕ) → comes about (single to) ≡ false → NoneComes (passes_by kind about) to
unfolding move_passes rename_passes link_passes
nothing_comes kind about to none object from = elim (cases_Bool (is_dir kind)) [
  | inl is ↦ rw (is, none) refl
  | inr is ↦ rw (is, none) refl
]

stops : (kind : Kind) (about : MoveGranting) (to : List ℕ) → passes about.refer to ≡ false → (object from : List ℕ)
    → move_passes kind about object from to ≡ false
unfolding move_passes rename_passes link_passes comes
stops kind about to none object from = elim (cases_Bool (is_dir kind)) [
  | inl is ↦ rw (is, none, and_none (passes about.make to)) refl
  | inr is ↦ rw (is, none, and_none (passes about.make to)) refl
]

zip_none : {B : Type 0} (R : ℕ → Option B → Type 0) (n start : ℕ) → ((to : ℕ) → to < start + n → R to None)
    → AllZip R (range_with_len start n) (replicate n None)
zip_none R zero start each = tt
zip_none R (suc n) start each =
    (each start (omega arith), zip_none R n (start + 1) (λ to within. each to (omega (arith, within))))

-- nothing is told of moves where no policy lets objects be moved
pub told_of_nothing : (is_file : ℕ → Bool) (parents : List ℕ) (kind : Kind) (old new : List (RulesOn ℕ)) (count : ℕ) (found : List (Option MovedTo))
    → count ≡ length parents + 1 → MovesNowhere parents old → MovesNowhere parents new → found ≡ replicate count None
    → AllZip (TellsMovedTo is_file parents kind (lets_move parents kind old) (lets_move parents kind new)) (range_with_len 0 (length parents + 1)) found
told_of_nothing is_file parents kind old new count found counted first second none =
    let tells = TellsMovedTo is_file parents kind (lets_move parents kind old) (lets_move parents kind new) in
    subst (λ (rows : List (Option MovedTo)). AllZip tells (range_with_len 0 (length parents + 1)) rows)
    (sym (none ∙ ap (λ (n : ℕ). replicate n None) counted))
    (zip_none tells (length parents + 1) 0 (λ to within. record {
      file = λ is. refl;
      directory = λ is. (
        λ object from. stops kind (about_moves kind old) (region parents to) (first to (omega (arith, within))) (region parents object) (region parents from),
        λ object from. stops kind (about_moves kind new) (region parents to) (second to (omega (arith, within))) (region parents object) (region parents from),
      );
    }))

pub moves_nowhere : (parents : List ℕ) (layers : List (RulesOn ℕ)) (count : ℕ) (refers : List Granting) → count ≡ length parents + 1
    → refers ≡ map (spread parents) (map (granting refer) layers)
    → ((n : ℕ) → n < count → passes refers (single n) ≡ false) → MovesNowhere parents layers
moves_nowhere parents layers count refers counted is none to within =
    sym (passes_spread parents (map (granting refer) layers) to)
    ∙ ap (λ (some : List Granting). passes some (single to)) (sym is) ∙ none to (subst (λ (n : ℕ). to < n) (sym counted) within)

-- ---- what is told by tests that agree

movers_alike : (is_file : ℕ → Bool) (parents : List ℕ) (kind : Kind) (one other one_also other_also : ℕ → ℕ → ℕ → Bool)
    → ((o f t : ℕ) → one o f t ≡ one_also o f t) → ((o f t : ℕ) → other o f t ≡ other_also o f t) → (to : ℕ) (found : Movers)
    → TellsMovers is_file parents kind one other to found → TellsMovers is_file parents kind one_also other_also to found
movers_alike is_file parents kind one other one_also other_also first second to found told =
    let alone : (o f : ℕ) → moves_alone one other o f to ≡ moves_alone one_also other_also o f to = λ o f. rw (first o f to, second o f to) refl in
    let all : List ℕ = range_with_len 0 (length parents + 1) in
    record {
      beneath = told.beneath
          ∙ filter_agree (beneath_alone is_file one other to) (beneath_alone is_file one_also other_also to)
          (λ n. ap (λ (b : Bool). not (is_file n) && b) (alone n n)) all;
      themselves = told.themselves
          ∙ filter_agree (itself_alone is_file parents kind one other to) (itself_alone is_file parents kind one_also other_also to)
          (λ n. ap (λ (b : Bool). may_be is_file kind n && b) (alone n (parent_in parents n))) all;
    }

module _ (is_file : ℕ → Bool) (parents : List ℕ) (kind : Kind) (before after before_also after_also : ℕ → ℕ → ℕ → Bool)
    (first : (o f t : ℕ) → before o f t ≡ before_also o f t) (second : (o f t : ℕ) → after o f t ≡ after_also o f t) where
  match_alike : (to : ℕ) (found : Option MovedTo)
      → MatchOption found (NoneComes before to × NoneComes after to) (TellsMoved is_file parents kind before after to)
      → MatchOption found (NoneComes before_also to × NoneComes after_also to) (TellsMoved is_file parents kind before_also after_also to)
  match_alike to None none = (λ o f. sym (first o f to) ∙ none.0 o f, λ o f. sym (second o f to) ∙ none.1 o f)
  match_alike to (Some moved) told = record {
    new = movers_alike is_file parents kind after before after_also before_also second first to moved.new told.new;
    old = movers_alike is_file parents kind before after before_also after_also first second to moved.old told.old;
  }

  pub moved_to_alike : (to : ℕ) (found : Option MovedTo) → TellsMovedTo is_file parents kind before after to found
      → TellsMovedTo is_file parents kind before_also after_also to found
  moved_to_alike to found told = record {
    file = told.file;
    directory = λ is. match_alike to found (told.directory is);
  }

pub told_of_moves : (is_file : ℕ → Bool) (parents : List ℕ) (kind : Kind) (count : ℕ) (old new : List (RulesOn ℕ)) (before after : MoveGranting)
    (found : List (Option MovedTo)) → count ≡ length parents + 1 → before ≡ spread_all parents (about_moves kind old)
    → after ≡ spread_all parents (about_moves kind new)
    → AllZip (TellsMovedTo is_file parents kind (passes_by kind before) (passes_by kind after)) (range_with_len 0 count) found
    → AllZip (TellsMovedTo is_file parents kind (lets_move parents kind old) (lets_move parents kind new)) (range_with_len 0 (length parents + 1)) found
told_of_moves is_file parents kind count old new before after found counted first second told =
    let told_by = λ (n : ℕ) (one other : MoveGranting).
    AllZip (TellsMovedTo is_file parents kind (passes_by kind one) (passes_by kind other)) (range_with_len 0 n) found in
    let one = spread_all parents (about_moves kind old) in
    let other = spread_all parents (about_moves kind new) in
    zip_weaker (TellsMovedTo is_file parents kind (passes_by kind one) (passes_by kind other))
    (TellsMovedTo is_file parents kind (lets_move parents kind old) (lets_move parents kind new))
    (moved_to_alike is_file parents kind (passes_by kind one) (passes_by kind other) (lets_move parents kind old) (lets_move parents kind new)
    (move_there parents kind (about_moves kind old)) (move_there parents kind (about_moves kind new)))
    (range_with_len 0 (length parents + 1)) found
    (subst (λ (n : ℕ). told_by n one other) counted
    (subst (λ (about : MoveGranting). told_by count one about) second
    (subst (λ (about : MoveGranting). told_by count about after) first told)))
