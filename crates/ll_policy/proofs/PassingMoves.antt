-- Which moves pass where others pass.
use Rattle.std.proofs.Common.{◌≡◌, ℕ, ◌+◌, Bool, true, false, not, ◌&&◌, ◌||◌, List, [], ◌∷◌, ◌++◌, refl, sym, ap, ◌∙◌, inl, inr, arith}
use Rattle.std.proofs.lemmas.Bool.{cases_Bool, false≢true}
use Rattle.std.specs.Prelude.{if◌then◌else◌}
use Rattle.ll_rights.specs.Rights.{FsRight, refer, only, has, is_right, some_right, all_rights, named_rights}
use Rattle.ll_rights.specs.Kinds.{make_right_of, remove_right_of}
use Rattle.ll_lines.specs.Paths.{Path, front, path_eq}
use Rattle.ll_tree.specs.declared.place.NodeId.{NodeId}
use Rattle.ll_tree.specs.Trees.{Entry, path_at, kind_at}
use Rattle.ll_rules.specs.declared.errno.Errno.{Errno}
use Rattle.ll_rules.specs.declared.errno.Errno.TheVariants.{XDev}
use Rattle.ll_rules.specs.declared.moves.Move.{Move}
use Rattle.ll_rules.specs.declared.moves.Target.{Target}
use Rattle.ll_rules.specs.declared.moves.Target.TheVariants.{New, Over}
use Rattle.ll_rules.specs.declared.moves.Verdict.{Verdict}
use Rattle.ll_rules.specs.declared.moves.Verdict.TheVariants.{Passed}
use Rattle.ll_rules.specs.Layers.{RulesOn, handles, granted}
use Rattle.ll_rules.specs.Checks.{numbers_from, lacks}
use Rattle.ll_rules.specs.Moves.{lacks_one_of, gains, denies, holds_back, source_of, destination_of, kind_there, asked_of_destination, refused_or, move_verdict}
use Rattle.ll_tree.proofs.Positions.{same_path, path_eq-same}
use Rattle.ll_rules.proofs.AskedRights.{some_agree, one_asked}
use Rattle.ll_rules.proofs.Booleans.{or_assoc, and_true}
use Rattle.ll_policy.specs.Verdicts.{passes, lets_pass, is_none, lets_use, renaming, linking, exchanging}
use Rattle.ll_policy.proofs.RightByRight.{some_or}

-- ---- truths

both_none : (a b c d : Bool) → (not (a || b) && (c && d)) ≡ ((not a && c) && (not b && d))
both_none a b c d = grind arith

one_more : (a b c : Bool) → ((a && b) && c) ≡ ((b && c) && a)
one_more a b c = grind arith

and_last : (a b c : Bool) → ((a && b) && c) ≡ ((a && c) && b)
and_last a b c = grind arith

asked_one_of : (x y h g : Bool) → ((x || (y || false)) && h && g) ≡ (((x || false) && h && g) || ((y || false) && h && g))
asked_one_of x y h g = grind arith

-- ---- layers that refuse by one of two tests

none_of_two : (one other : List ℕ) → is_none (one ++ other) ≡ (is_none one && is_none other)
none_of_two [] other = refl
none_of_two (layer ∷ layers) other = refl

none_if : (b : Bool) (number : ℕ) → is_none (if b then number ∷ [] else []) ≡ not b
none_if true number = refl
none_if false number = refl

module _ {L : Type 0} where
  pub none_by : (test : L → Bool) (number : ℕ) (layer : L) (layers : List L)
      → is_none (numbers_from test number (layer ∷ layers)) ≡ (not (test layer) && is_none (numbers_from test (number + 1) layers))
  unfolding numbers_from
  none_by test number layer layers =
      none_of_two (if test layer then number ∷ [] else []) (numbers_from test (number + 1) layers)
      ∙ ap (λ (b : Bool). b && is_none (numbers_from test (number + 1) layers)) (none_if (test layer) number)

  pub none_by_either : (f g : L → Bool) (number : ℕ) (layers : List L)
      → is_none (numbers_from (λ layer. f layer || g layer) number layers) ≡ (is_none (numbers_from f number layers) && is_none (numbers_from g number layers))
  unfolding numbers_from
  none_by_either f g number [] = refl
  none_by_either f g number (layer ∷ layers) =
      none_by (λ one. f one || g one) number layer layers
      ∙ ap (λ (b : Bool). not (f layer || g layer) && b) (none_by_either f g (number + 1) layers)
      ∙ both_none (f layer) (g layer) (is_none (numbers_from f (number + 1) layers)) (is_none (numbers_from g (number + 1) layers))
      ∙ rw (none_by f number layer layers, none_by g number layer layers) refl

  pub none_alike : (f g : L → Bool) → ((layer : L) → f layer ≡ g layer) → (number : ℕ) (layers : List L)
      → is_none (numbers_from f number layers) ≡ is_none (numbers_from g number layers)
  unfolding numbers_from
  none_alike f g same number [] = refl
  none_alike f g same number (layer ∷ layers) =
      none_by f number layer layers
      ∙ rw (same layer, none_alike f g same (number + 1) layers) refl
      ∙ sym (none_by g number layer layers)

-- ---- verdicts

passes_where : (error : Errno) (layers : List ℕ) (next : Verdict) → passes (refused_or error layers next) ≡ (is_none layers && passes next)
passes_where error [] next = refl
passes_where error (layer ∷ layers) next = refl

crosses : (within : Bool) (layers : List ℕ) → passes (if within then Passed else refused_or XDev layers Passed) ≡ (within || is_none layers)
crosses true layers = refl
crosses false layers = passes_where XDev layers Passed ∙ and_true (is_none layers)

-- a move passes where no layer denies it, and either it stays or no layer holds it back
pub parts : (domain : List (RulesOn Path)) (tree : List Entry) (move : Move) → lets_pass domain tree move
    ≡ (is_none (numbers_from (denies tree move) 1 domain)
    && (path_eq (source_of tree move) (destination_of tree move.target) || is_none (numbers_from (holds_back tree move) 1 domain)))
unfolding move_verdict
parts domain tree move =
    passes_where _ (numbers_from (denies tree move) 1 domain) _
    ∙ ap (λ (b : Bool). is_none (numbers_from (denies tree move) 1 domain) && b)
    (crosses (path_eq (source_of tree move) (destination_of tree move.target)) (numbers_from (holds_back tree move) 1 domain))

-- ---- rights on one path

pub lacks_none : (layer : RulesOn Path) (path : Path) → lacks_one_of layer path [] ≡ false
unfolding some_right all_rights named_rights
lacks_none layer path = refl

lacks_two : (layer : RulesOn Path) (path : Path) (a b : FsRight) → lacks_one_of layer path (a ∷ b ∷ [])
    ≡ (lacks_one_of layer path (a ∷ []) || lacks_one_of layer path (b ∷ []))
lacks_two layer path a b =
    some_agree (λ right. (is_right right a || (is_right right b || false)) && handles layer right && not (granted layer path right))
    (λ right. ((is_right right a || false) && handles layer right && not (granted layer path right))
    || ((is_right right b || false) && handles layer right && not (granted layer path right)))
    (λ right. asked_one_of (is_right right a) (is_right right b) (handles layer right) (not (granted layer path right)))
    ∙ some_or (λ right. (is_right right a || false) && handles layer right && not (granted layer path right))
    (λ right. (is_right right b || false) && handles layer right && not (granted layer path right))

lacks_it : (layer : RulesOn Path) (path : Path) (right : FsRight) → lacks_one_of layer path (right ∷ []) ≡ lacks layer path (only right)
lacks_it layer path right =
    some_agree (λ own. (is_right own right || false) && handles layer own && not (granted layer path own))
    (λ own. has (only right) own && handles layer own && not (granted layer path own))
    (λ own. ap (λ (b : Bool). b && handles layer own && not (granted layer path own)) (sym (one_asked (only right) right own refl)))

pub usable : (domain : List (RulesOn Path)) (path : Path) (right : FsRight)
    → is_none (numbers_from (λ layer. lacks_one_of layer path (right ∷ [])) 1 domain) ≡ lets_use domain path right
usable domain path right =
    none_alike (λ layer. lacks_one_of layer path (right ∷ [])) (λ layer. lacks layer path (only right)) (λ layer. lacks_it layer path right) 1 domain

-- ---- a rename passes where the link does and the removal

module _ (domain : List (RulesOn Path)) (tree : List Entry) (moved : NodeId) where
  abbrev source : Path
  source = front (path_at tree moved)

  abbrev removed : RulesOn Path → Bool
  removed layer = lacks_one_of layer source (remove_right_of (kind_at tree moved) ∷ [])

  pub rename_parts : (target : Target) → lets_pass domain tree (renaming moved target)
      ≡ (lets_pass domain tree (linking moved target) && lets_use domain source (remove_right_of (kind_at tree moved)))
  rename_parts target =
      let made : RulesOn Path → Bool =
      λ layer. lacks_one_of layer (destination_of tree target) (asked_of_destination (kind_at tree moved) (kind_there tree target)) in
      let rest : Bool = path_eq source (destination_of tree target) || is_none (numbers_from (holds_back tree (linking moved target)) 1 domain) in
      let linked : lets_pass domain tree (linking moved target) ≡ (is_none (numbers_from made 1 domain) && rest) =
      parts domain tree (linking moved target)
      ∙ ap (λ (b : Bool). b && rest)
      (none_alike (denies tree (linking moved target)) made (λ layer. ap (λ (b : Bool). b || made layer) (lacks_none layer source)) 1 domain) in
      parts domain tree (renaming moved target)
      ∙ ap (λ (b : Bool). b && rest) (none_by_either removed made 1 domain)
      ∙ one_more (is_none (numbers_from removed 1 domain)) (is_none (numbers_from made 1 domain)) rest
      ∙ ap (λ (b : Bool). b && is_none (numbers_from removed 1 domain)) (sym linked)
      ∙ ap (λ (b : Bool). lets_pass domain tree (linking moved target) && b) (usable domain source (remove_right_of (kind_at tree moved)))

  -- ---- onto an object, where the rename to a new name does and that object may be removed

  abbrev denies_to : Path → RulesOn Path → Bool
  denies_to directory layer = removed layer || lacks_one_of layer directory (make_right_of (kind_at tree moved) ∷ [])

  abbrev holds_to : Path → RulesOn Path → Bool
  holds_to directory layer =
      (lacks_one_of layer source (refer ∷ []) || lacks_one_of layer directory (refer ∷ []))
      || (gains layer (kind_at tree moved) (path_at tree moved) directory || false)

  abbrev passes_to : Path → Bool
  passes_to directory =
      is_none (numbers_from (denies_to directory) 1 domain) && (path_eq source directory || is_none (numbers_from (holds_to directory) 1 domain))

  pub onto_parts : (there directory : NodeId) → path_at tree directory ≡ front (path_at tree there)
      → lets_pass domain tree (renaming moved (Over there))
      ≡ (lets_pass domain tree (renaming moved (New directory)) && lets_use domain (front (path_at tree there)) (remove_right_of (kind_at tree there)))
  onto_parts there directory same =
      let to : Path = front (path_at tree there) in
      let gone : RulesOn Path → Bool = λ layer. lacks_one_of layer to (remove_right_of (kind_at tree there) ∷ []) in
      let rest : Bool = path_eq source to || is_none (numbers_from (holds_to to) 1 domain) in
      let new : lets_pass domain tree (renaming moved (New directory)) ≡ passes_to to =
      parts domain tree (renaming moved (New directory)) ∙ ap passes_to same in
      parts domain tree (renaming moved (Over there))
      ∙ ap (λ (b : Bool). b && rest)
      (none_alike (denies tree (renaming moved (Over there))) (λ layer. denies_to to layer || gone layer)
      (λ layer.
      ap (λ (b : Bool). removed layer || b) (lacks_two layer to (make_right_of (kind_at tree moved)) (remove_right_of (kind_at tree there)))
      ∙ sym (or_assoc (removed layer) (lacks_one_of layer to (make_right_of (kind_at tree moved) ∷ [])) (gone layer)))
      1 domain
      ∙ none_by_either (denies_to to) gone 1 domain)
      ∙ and_last (is_none (numbers_from (denies_to to) 1 domain)) (is_none (numbers_from gone 1 domain)) rest
      ∙ ap (λ (b : Bool). b && is_none (numbers_from gone 1 domain)) (sym new)
      ∙ ap (λ (b : Bool). lets_pass domain tree (renaming moved (New directory)) && b) (usable domain to (remove_right_of (kind_at tree there)))

-- ---- an exchange passes where each object may be moved onto the other

path_eq-turned : (a b : Path) → path_eq a b ≡ path_eq b a
path_eq-turned a b =
    elim (cases_Bool (path_eq a b)) [
      | inl same ↦ same ∙ sym (path_eq-same b a (sym (same_path a b same)))
      | inr other ↦ elim (cases_Bool (path_eq b a)) [
        | inl same ↦ absurd (false≢true (sym other ∙ path_eq-same a b (sym (same_path b a same))))
        | inr none ↦ other ∙ sym none
      ]
    ]

both_ways : (a m d r : Bool) → ((a || m) || (d || r)) ≡ ((a || (d || r)) || (r || (m || a)))
both_ways a m d r = grind arith

held_both_ways : (x y g h : Bool) → ((x || y) || (g || h)) ≡ (((x || y) || (g || false)) || ((y || x) || (h || false)))
held_both_ways x y g h = grind arith

two_moves : (a b w x y : Bool) → ((a && b) && (w || (x && y))) ≡ ((a && (w || x)) && (b && (w || y)))
two_moves a b w x y = grind arith

pub exchange_parts : (domain : List (RulesOn Path)) (tree : List Entry) (one other : NodeId) → lets_pass domain tree (exchanging one other)
    ≡ (lets_pass domain tree (renaming one (Over other)) && lets_pass domain tree (renaming other (Over one)))
exchange_parts domain tree one other =
    let from : Path = front (path_at tree one) in
    let to : Path = front (path_at tree other) in
    let move : Move = exchanging one other in
    let there : Move = renaming one (Over other) in
    let back : Move = renaming other (Over one) in
    let denied : is_none (numbers_from (denies tree move) 1 domain)
    ≡ (is_none (numbers_from (denies tree there) 1 domain) && is_none (numbers_from (denies tree back) 1 domain)) =
    none_alike (denies tree move) (λ layer. denies tree there layer || denies tree back layer)
    (λ layer. rw (
      lacks_two layer from (remove_right_of (kind_at tree one)) (make_right_of (kind_at tree other)),
      lacks_two layer from (make_right_of (kind_at tree other)) (remove_right_of (kind_at tree one)),
      lacks_two layer to (make_right_of (kind_at tree one)) (remove_right_of (kind_at tree other)),
    ) (both_ways (lacks_one_of layer from (remove_right_of (kind_at tree one) ∷ [])) (lacks_one_of layer from (make_right_of (kind_at tree other) ∷ []))
    (lacks_one_of layer to (make_right_of (kind_at tree one) ∷ [])) (lacks_one_of layer to (remove_right_of (kind_at tree other) ∷ []))))
    1 domain
    ∙ none_by_either (denies tree there) (denies tree back) 1 domain in
    let held : is_none (numbers_from (holds_back tree move) 1 domain)
    ≡ (is_none (numbers_from (holds_back tree there) 1 domain) && is_none (numbers_from (holds_back tree back) 1 domain)) =
    none_alike (holds_back tree move) (λ layer. holds_back tree there layer || holds_back tree back layer)
    (λ layer. held_both_ways (lacks_one_of layer from (refer ∷ [])) (lacks_one_of layer to (refer ∷ []))
    (gains layer (kind_at tree one) (path_at tree one) to) (gains layer (kind_at tree other) (path_at tree other) from)) 1 domain
    ∙ none_by_either (holds_back tree there) (holds_back tree back) 1 domain in
    parts domain tree move
    ∙ rw (denied, held) (two_moves (is_none (numbers_from (denies tree there) 1 domain)) (is_none (numbers_from (denies tree back) 1 domain)) (path_eq from to)
    (is_none (numbers_from (holds_back tree there) 1 domain)) (is_none (numbers_from (holds_back tree back) 1 domain)))
    ∙ ap (λ (b : Bool). (is_none (numbers_from (denies tree there) 1 domain) && (path_eq from to || is_none (numbers_from (holds_back tree there) 1 domain)))
    && (is_none (numbers_from (denies tree back) 1 domain) && (b || is_none (numbers_from (holds_back tree back) 1 domain)))) (path_eq-turned from to)
    ∙ rw (parts domain tree there, parts domain tree back) refl
