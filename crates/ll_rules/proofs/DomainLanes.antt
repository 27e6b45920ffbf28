-- The lanes of a domain: a row of them filled index by index, what is left of them on a climb, and the layers whose lanes are filled.
use Rattle.std.proofs.Common.{◌≡◌, ℕ, zero, suc, ◌+◌, ◌*◌, ◌^◌, ◌<◌, ◌≤◌, Bool, true, false, not, ◌&&◌, ◌||◌, cond, eqb, List, [], ◌∷◌, ◌++◌, map, length}
use Rattle.std.proofs.Common.{get_or, take, refl, sym, ap, subst, ◌∙◌, arith, inl, inr, append_assoc, append-nil, mul_comm, bit_and, bit_or, ◌/◌, ◌%◌}
use Rattle.std.specs.Int.{bit_at}
use Rattle.std.proofs.lemmas.Nat.Bits.{shr_and_one}
use Rattle.std.specs.Prelude.{All, Option, Some, None, IfSome, IfNone}
use Rattle.std.proofs.lemmas.Bool.{cases_lt, cases_eq}
use Rattle.std.proofs.lemmas.List.{get_or-map, get_or-set_same, get_or-set_other, get_or_past, length-map, take_all, length-take}
use Rattle.std.proofs.Math.ListN.{set}
use Rattle.std.proofs.Math.Seq.{take-suc}
use Rattle.std.proofs.lemmas.Nat.{le_or_l, le_or_r}
use Rattle.std.proofs.lemmas.List.Elements.{All-nil, All-get_or}
use Rattle.std.proofs.Math.Nat.{mul-le-mul_left}
use Rattle.ll_rights.specs.declared.fs.Fs.{Fs}
use Rattle.ll_rights.specs.Rights as files
use Rattle.ll_rights.specs.Rights.{FsRight, has, some_right, all_rights, named_rights, is_lacking}
use Rattle.ll_rights.specs.NetRights as network
use Rattle.ll_rights.proofs.Sets.{fs_is_empty}
use Rattle.ll_tree.specs.declared.place.NodeId.{NodeId}
use Rattle.ll_lines.specs.Paths.{Path, front}
use Rattle.ll_tree.specs.Trees.{Entry, IsNode, path_at, parent_at, parent_of}
use Rattle.ll_tree.specs.TreeFacts.{IsTree, StandsIn, depth_at}
use Rattle.ll_rules.specs.declared.domain.TheConstants.{MOST_LAYERS}
use Rattle.ll_rules.specs.declared.domain.LayerId.{LayerId}
use Rattle.ll_rules.specs.Layers.{RulesOn, without_rules, handles, granted}
use Rattle.ll_rules.specs.KeptLayers.{granted_on_node, layer_at, domain_of}
use Rattle.ll_rules.specs.InTree.{in_tree, AreInTree, all_in_tree, nodes_up, granted_above}
use Rattle.ll_rules.specs.Checks.{numbers_from, lacks, refusing}
use Rattle.ll_rules.specs.LayerNumbers.{passing_upto, numbers_passing}
use Rattle.ll_rules.specs.Lanes.{set_of, lane, is_filled, layer_in, stacked}
use Rattle.ll_rules.proofs.RightSets.{has_nothing}
use Rattle.ll_rules.proofs.AskedRights.{some_agree}
use Rattle.ll_rules.proofs.Booleans.{and_none, and_true}
use Rattle.ll_rules.proofs.Domains.{numbers_from-map}
use Rattle.ll_rules.proofs.LaneSets.{nothing_in}
use Rattle.ll_rules.proofs.Climbs.{climbed}
use Rattle.ll_rules.proofs.Marks.{neither_bit}
use Rattle.ll_rules.specs.declared.domain.Stack.{Stack}

-- ---- a row, index by index

module _ (P : ℕ → ℕ → Type 0) (row : List ℕ) (index value : ℕ) (inside : index < length row) where
  pub row_next : ((p : ℕ) → p < index → P p (get_or row p 0)) → P index value → (p : ℕ) → p < index + 1 → P p (get_or (set row index value) p 0)
  row_next before here p lt = elim (cases_eq p index) [
    | inl same ↦ rw (same, get_or-set_same row index value 0 inside) here
    | inr differs ↦ rw (get_or-set_other row index p value 0 differs) (before p (omega arith))
  ]

pub row_rest : (row : List ℕ) (index value : ℕ) → ((p : ℕ) → index ≤ p → get_or row p 0 ≡ 0) → (p : ℕ) → index + 1 ≤ p → get_or (set row index value) p 0 ≡ 0
row_rest row index value rest p le = get_or-set_other row index p value 0 (λ same. absurd (omega arith)) ∙ rest p (omega arith)

-- the indices that are still to come are as they were before
pub row_still : (row before : List ℕ) (index value : ℕ) → ((p : ℕ) → index ≤ p → get_or row p 0 ≡ get_or before p 0) → (p : ℕ) → index + 1 ≤ p
    → get_or (set row index value) p 0 ≡ get_or before p 0
row_still row before index value rest p le = get_or-set_other row index p value 0 (λ same. absurd (omega arith)) ∙ rest p (omega arith)

-- nothing at any index where nothing is in all together
pub row_nothing : (row : List ℕ) (index value all : ℕ) → index < length row → ((p : ℕ) → p < index → all ≡ 0 → get_or row p 0 ≡ 0) → (p : ℕ) → p < index + 1
    → bit_or all value ≡ 0 → get_or (set row index value) p 0 ≡ 0
row_nothing row index value all inside before p lt none = elim (cases_eq p index) [
  | inl same ↦ rw (same, get_or-set_same row index value 0 inside) (omega (arith, le_or_r all value))
  | inr differs ↦ rw (get_or-set_other row index p value 0 differs) (before p (omega arith) (omega (arith, le_or_l all value)))
]

-- ---- the layers of a domain

module _ (layers : List (RulesOn ℕ)) (ids : List LayerId) where
  pub layer_in-named : (index : ℕ) (d : LayerId) → index < length ids → layer_in (domain_of layers ids) index ≡ layer_at layers (get_or ids index d)
  layer_in-named index d inside = get_or-map (layer_at layers) ids index d (without_rules files.no_right network.no_right) inside

  pub layer_in-past : (index : ℕ) → length ids ≤ index → layer_in (domain_of layers ids) index ≡ without_rules files.no_right network.no_right
  layer_in-past index past =
      get_or_past (map (layer_at layers) ids) index (without_rules files.no_right network.no_right) (omega (arith, length-map ids (layer_at layers)))

nothing_is_empty : files.is_empty files.no_right ≡ true
nothing_is_empty = sym (fs_is_empty files.no_right)

pub nothing_handled : (P : Type 0) (right : FsRight) → handles (without_rules {P = P} files.no_right network.no_right) right ≡ false
nothing_handled P files.refer = ap not nothing_is_empty
nothing_handled P right = has_nothing right

pub nothing_granted : (here : NodeId) (right : FsRight) → granted_on_node (without_rules files.no_right network.no_right) here right ≡ false
unfolding granted_on_node
nothing_granted here right = refl

module _ (layers : List (RulesOn ℕ)) (ids : List LayerId) (row : List ℕ) (count : ℕ) (all : length ids ≤ count) (rest : (index : ℕ) → count ≤ index
    → get_or row index 0 ≡ 0) where
  -- a row of what the layers handle of some rights, all indices together
  pub all_asked : (wanted : Fs) → ((index : ℕ) → index < count → (right : FsRight)
      → has (lane row index) right ≡ (handles (layer_in (domain_of layers ids) index) right && has wanted right))
      → (index : ℕ) (right : FsRight) → has (lane row index) right ≡ (handles (layer_in (domain_of layers ids) index) right && has wanted right)
  all_asked wanted so_far index right = elim (cases_lt index count) [
    | inl inside ↦ so_far index inside right
    | inr past ↦
        nothing_in (get_or row index 0) right (rest index past)
        ∙ sym (ap (λ (b : Bool). b && has wanted right) (ap (λ (rules : RulesOn ℕ). handles rules right) (layer_in-past layers ids index (omega arith))
        ∙ nothing_handled ℕ right))
  ]

-- what is left of lanes once their layers were asked on a node, all indices together
pub all_left : (layers : List (RulesOn ℕ)) (ids : List LayerId) (before after : List ℕ) (count : ℕ) → length ids ≤ count → (here : NodeId)
    → ((index : ℕ) → index < count → (right : FsRight)
    → has (lane after index) right ≡ (has (lane before index) right && not (granted_on_node (layer_in (domain_of layers ids) index) here right)))
    → ((index : ℕ) → count ≤ index → get_or after index 0 ≡ get_or before index 0)
    → (index : ℕ) (right : FsRight) → has (lane after index) right
    ≡ (has (lane before index) right && not (granted_on_node (layer_in (domain_of layers ids) index) here right))
all_left layers ids before after count all here so_far rest index right = elim (cases_lt index count) [
  | inl inside ↦ so_far index inside right
  | inr past ↦
      ap (λ (bits : ℕ). has (set_of bits) right) (rest index past)
      ∙ sym (and_true (has (lane before index) right))
      ∙ ap (λ (b : Bool). has (lane before index) right && not b)
      (sym (ap (λ (rules : RulesOn ℕ). granted_on_node rules here right) (layer_in-past layers ids index (omega arith)) ∙ nothing_granted here right))
]

-- ---- marks of all layers together

module _ (layers : List (RulesOn ℕ)) (ids : List LayerId) (here : NodeId) where
  -- one layer more: where neither its marks nor those before it have the node's, no layer so far has a rule on the node
  pub unmarked_next : (index marks more : ℕ) (d : LayerId) (rules : RulesOn ℕ) → index < length ids → rules ≡ layer_at layers (get_or ids index d)
      → (eqb (bit_at more (here.0 % 64)) 1 ≡ false → (right : FsRight) → granted_on_node rules here right ≡ false)
      → ((p : ℕ) → p < index → eqb (bit_at marks (here.0 % 64)) 1 ≡ false → (right : FsRight)
      → granted_on_node (layer_in (domain_of layers ids) p) here right ≡ false)
      → (p : ℕ) → p < index + 1 → eqb (bit_at (bit_or marks more) (here.0 % 64)) 1 ≡ false → (right : FsRight)
      → granted_on_node (layer_in (domain_of layers ids) p) here right ≡ false
  unmarked_next index marks more d rules inside is own before p lt unmarked right =
      let parts = neither_bit marks more (here.0 % 64) unmarked in
      elim (cases_eq p index) [
        | inl same ↦
            rw same (ap (λ (others : RulesOn ℕ). granted_on_node others here right) (layer_in-named layers ids index d inside ∙ sym is) ∙ own parts.1 right)
        | inr differs ↦ before p (omega arith) parts.0 right
      ]

  -- where no layer of the domain has the node's mark, none has a rule on the node
  pub unmarked_all : (count marks number : ℕ) → length ids ≤ count → number ≡ here.0 → eqb (bit_and (marks / 2 ^ (number % 64)) 1) 1 ≡ false
      → ((p : ℕ) → p < count → eqb (bit_at marks (here.0 % 64)) 1 ≡ false → (right : FsRight)
      → granted_on_node (layer_in (domain_of layers ids) p) here right ≡ false)
      → (p : ℕ) (right : FsRight) → granted_on_node (layer_in (domain_of layers ids) p) here right ≡ false
  unmarked_all count marks number all is unmarked so_far p right =
      let own : eqb (bit_and (marks / 2 ^ (here.0 % 64)) 1) 1 ≡ false = rw is at unmarked in
      elim (cases_lt p (length ids)) [
        | inl inside ↦ so_far p (omega arith) (sym (ap (λ (bit : ℕ). eqb bit 1) (shr_and_one marks (here.0 % 64))) ∙ own) right
        | inr past ↦ ap (λ (rules : RulesOn ℕ). granted_on_node rules here right) (layer_in-past layers ids p past) ∙ nothing_granted here right
      ]

-- ---- one climb

length-front : (name : List ℕ) (names : Path) → length (front (name ∷ names)) ≡ length names
unfolding front
length-front name [] = refl
length-front name (next ∷ names) = ap (λ (n : ℕ). suc n) (length-front next names)

nodes_up-front : (path above : Path) (up : NodeId) (tree : List Entry) → above ≡ front path → Some up ≡ parent_of tree path → length above + 1 ≤ length path
unfolding parent_of front
nodes_up-front [] above up tree is found = absurd cc
nodes_up-front (name ∷ names) above up tree is found = omega (arith, ap length is, length-front name names)

pub nodes_up-step : (tree : List Entry) (here : NodeId) (up : Option NodeId) → up ≡ parent_at tree here → IfSome up (StandsIn tree here)
    → nodes_up tree up + 1 ≤ nodes_up tree (Some here)
unfolding nodes_up parent_at
nodes_up-step tree here None found below = omega arith
nodes_up-step tree here (Some above) found below = omega (arith, nodes_up-front (path_at tree here) (path_at tree above) above tree below.is_front found)

-- from a parent the way is shorter than from where a climb was before
pub way_shorter : (tree : List Entry) (from : Option NodeId) (here : NodeId) (up : Option NodeId) → up ≡ parent_at tree here → IfSome up (StandsIn tree here)
    → nodes_up tree (Some here) ≤ nodes_up tree from → nodes_up tree up < nodes_up tree from
way_shorter tree from here up found below above = omega (arith, nodes_up-step tree here up found below)

pub count_begins : (tree : List Entry) (here : NodeId) (layers start : ℕ)
    → start + layers * nodes_up tree (Some here) ≤ start + layers * (depth_at tree here + 1)
unfolding nodes_up depth_at
count_begins tree here layers start = omega arith

-- a node is one of those on the way up from it
pub nodes_here : (tree : List Entry) (here : NodeId) (layers : ℕ) → layers ≤ layers * nodes_up tree (Some here)
unfolding nodes_up
nodes_here tree here layers =
    let split : layers * (length (path_at tree here) + 1) ≡ layers * length (path_at tree here) + layers = omega arith in
    omega arith

-- one node further up, and at most one look-up for each layer more
pub count_goes_on : (tree : List Entry) (here : NodeId) (up : Option NodeId) (layers before after bound : ℕ) → up ≡ parent_at tree here
    → IfSome up (StandsIn tree here)
    → after ≤ before + layers → before + layers * nodes_up tree (Some here) ≤ bound → after + layers * nodes_up tree up ≤ bound
count_goes_on tree here up layers before after bound found below more so_far =
    let step : layers * (nodes_up tree up + 1) ≤ layers * nodes_up tree (Some here) = mul-le-mul_left layers (nodes_up-step tree here up found below) in
    let split : layers * (nodes_up tree up + 1) ≡ layers * nodes_up tree up + layers = omega arith in
    omega arith

-- a climb takes few look-ups, since a depth has 32 bits
pub few_look_ups : (layers depth : ℕ) → layers ≤ MOST_LAYERS → depth < 2 ^ 32 → layers * (depth + 1) ≤ 2 ^ 37
few_look_ups layers depth few low =
    let most : (depth + 1) * layers ≤ (depth + 1) * MOST_LAYERS = mul-le-mul_left (depth + 1) few in
    let turned : layers * (depth + 1) ≡ (depth + 1) * layers = mul_comm layers (depth + 1) in
    omega arith

-- what is left of a lane that has this and lacks what is granted from a node up
abbrev pub left_above : List Entry → RulesOn ℕ → Option NodeId → FsRight → Bool → Bool
left_above tree rules pos right has_it = has_it && not (granted_above tree rules pos right)

pub left_begins : (tree : List Entry) (rules : RulesOn ℕ) (here : NodeId) (right : FsRight) (has_it : Bool)
    → left_above tree rules (Some here) right has_it ≡ (has_it && not (granted (in_tree tree rules) (path_at tree here) right))
unfolding granted_above
left_begins tree rules here right has_it = refl

and_split : (has_it rule above : Bool) → (has_it && not (rule || above)) ≡ ((has_it && not rule) && not above)
and_split true true above = refl
and_split true false above = refl
and_split false rule above = refl

pub left_goes_on : (tree : List Entry) (rules : RulesOn ℕ) (here : NodeId) (up : Option NodeId) (right : FsRight) (before after total : Bool) → IsTree tree
    → IsNode tree here → AreInTree tree rules
    → IfNone up (path_at tree here ≡ []) → IfSome up (StandsIn tree here)
    → after ≡ (before && not (granted_on_node rules here right)) → left_above tree rules (Some here) right before ≡ total
    → left_above tree rules up right after ≡ total
left_goes_on tree rules here up right before after total listed inside within top below is so_far =
    ap (λ (b : Bool). b && not (granted_above tree rules up right)) is
    ∙ sym (and_split before (granted_on_node rules here right) (granted_above tree rules up right))
    ∙ ap (λ (b : Bool). before && not b) (sym (climbed tree rules here up right listed inside within top below))
    ∙ sym (left_begins tree rules here right before)
    ∙ so_far

-- what is left stays where nothing that is granted was passed
pub left_passed : (tree : List Entry) (rules : RulesOn ℕ) (pos up : Option NodeId) (right : FsRight) (has_it total : Bool)
    → granted_above tree rules up right ≡ granted_above tree rules pos right
    → left_above tree rules pos right has_it ≡ total → left_above tree rules up right has_it ≡ total
left_passed tree rules pos up right has_it total is so_far = ap (λ (b : Bool). has_it && not b) is ∙ so_far

pub and_comm : (a b : Bool) → (a && b) ≡ (b && a)
and_comm true true = refl
and_comm true false = refl
and_comm false true = refl
and_comm false false = refl

pub left_ends : (tree : List Entry) (rules : RulesOn ℕ) (right : FsRight) (has_it total : Bool)
    → left_above tree rules None right has_it ≡ total → has_it ≡ total
unfolding granted_above
left_ends tree rules right has_it total so_far = sym (and_true has_it) ∙ so_far

-- of nothing nothing is left
pub left_nothing : (tree : List Entry) (rules : RulesOn ℕ) (pos : Option NodeId) (right : FsRight) (has_it total : Bool) → has_it ≡ false
    → left_above tree rules pos right has_it ≡ total → has_it ≡ total
left_nothing tree rules pos right has_it total none so_far = none ∙ sym (ap (λ (b : Bool). b && not (granted_above tree rules pos right)) none) ∙ so_far

-- without rules nothing is granted
pub nothing_above : (tree : List Entry) (rules : RulesOn ℕ) (pos : Option NodeId) (right : FsRight) → rules ≡ without_rules files.no_right network.no_right
    → granted_above tree rules pos right ≡ false
unfolding granted_above granted
nothing_above tree rules None right is = refl
nothing_above tree rules (Some up) right is = rw is refl

pub left_unasked : (tree : List Entry) (rules : RulesOn ℕ) (pos : Option NodeId) (right : FsRight) (has_it total : Bool)
    → rules ≡ without_rules files.no_right network.no_right → left_above tree rules pos right has_it ≡ total → has_it ≡ total
left_unasked tree rules pos right has_it total is so_far =
    sym (and_true has_it) ∙ sym (ap (λ (b : Bool). has_it && not b) (nothing_above tree rules pos right is)) ∙ so_far

-- the layers of a domain have their rules in the tree
pub all_in : (tree : List Entry) (layers : List (RulesOn ℕ)) (id : LayerId) → All (AreInTree tree) layers → AreInTree tree (layer_at layers id)
all_in tree layers id all =
    let nowhere = without_rules {P = ℕ} files.no_right network.no_right in
    elim (cases_lt id.0 (length layers)) [
      | inl inside ↦ All-get_or (AreInTree tree) layers id.0 nowhere inside all
      | inr past ↦ subst (AreInTree tree) (sym (get_or_past layers id.0 nowhere past)) (All-nil (λ (number : ℕ). number < length tree))
    ]

pub layer_in-within : (tree : List Entry) (layers : List (RulesOn ℕ)) (ids : List LayerId) (index : ℕ) → All (AreInTree tree) layers
    → AreInTree tree (layer_in (domain_of layers ids) index)
layer_in-within tree layers ids index all = elim (cases_lt index (length ids)) [
  | inl inside ↦ subst (AreInTree tree) (sym (layer_in-named layers ids index (record { 0 = 0 }) inside))
      (all_in tree layers (get_or ids index (record { 0 = 0 })) all)
  | inr past ↦ subst (AreInTree tree) (sym (layer_in-past layers ids index past)) (All-nil (λ (number : ℕ). number < length tree))
]

-- ---- the layers whose lanes are filled

numbers_from-snoc : {L : Type 0} (test : L → Bool) (number : ℕ) (xs : List L) (x : L)
    → numbers_from test number (xs ++ x ∷ []) ≡ numbers_from test number xs ++ cond (test x) ((number + length xs) ∷ []) []
unfolding numbers_from
numbers_from-snoc test number [] x =
    let same : number + 0 ≡ number = omega arith in
    rw (same, append-nil) refl
numbers_from-snoc test number (y ∷ ys) x =
    let same : number + 1 + length ys ≡ number + suc (length ys) = omega arith in
    rw (numbers_from-snoc test (number + 1) ys x, append_assoc, same) refl

module _ {L : Type 0} (test : L → Bool) (passes : ℕ → Bool) (domain : List L) (d : L) (nowhere : test d ≡ false) (agree : (index : ℕ) → index < MOST_LAYERS
    → passes (suc index) ≡ test (get_or domain index d)) where
  passing_first : (count : ℕ) → count ≤ MOST_LAYERS → passing_upto passes count ≡ numbers_from test 1 (take count domain)
  unfolding passing_upto numbers_from
  passing_first zero few = refl
  passing_first (suc count) few =
      let before : passing_upto passes count ≡ numbers_from test 1 (take count domain) = passing_first count (omega arith) in
      let here : passes (suc count) ≡ test (get_or domain count d) = agree count (omega arith) in
      elim (cases_lt count (length domain)) [
        | inl inside ↦
            let more : take (suc count) domain ≡ take count domain ++ get_or domain count d ∷ [] = take-suc domain count d inside in
            let long : 1 + length (take count domain) ≡ suc count = omega (arith, length-take count domain) in
            rw (before, here, more, numbers_from-snoc, long) refl
        | inr past ↦
            let all : take (suc count) domain ≡ take count domain = take_all (suc count) domain (omega arith) ∙ sym (take_all count domain past) in
            rw (before, here, get_or_past domain count d past, nowhere, all) (append-nil (numbers_from test 1 (take count domain)))
      ]

  pub passing_all : length domain ≤ MOST_LAYERS → numbers_passing passes ≡ numbers_from test 1 domain
  passing_all few = passing_first MOST_LAYERS (omega arith) ∙ ap (numbers_from test 1) (take_all MOST_LAYERS domain few)

not_not : (b : Bool) → not (not b) ≡ b
not_not true = refl
not_not false = refl

-- the layers of a domain whose lanes hold what a test finds
pub filled_numbers : (lanes : List ℕ) (layers : List (RulesOn ℕ)) (ids : List LayerId) (test : RulesOn ℕ → Bool) → length ids ≤ MOST_LAYERS
    → test (without_rules files.no_right network.no_right) ≡ false
    → ((index : ℕ) → some_right (has (lane lanes index)) ≡ test (layer_in (domain_of layers ids) index))
    → numbers_passing (is_filled lanes) ≡ numbers_from test 1 (domain_of layers ids)
unfolding is_filled
filled_numbers lanes layers ids test few nowhere same =
    passing_all test (is_filled lanes) (domain_of layers ids) (without_rules files.no_right network.no_right) nowhere
    (λ index inside. not_not (some_right (has (lane lanes index))) ∙ same index) (omega (arith, length-map ids (layer_at layers)))

-- a domain's layers that pass a test, with their rules on paths
pub filled_in_tree : (tree : List Entry) (lanes : List ℕ) (layers : List (RulesOn ℕ)) (ids : List LayerId) (test : RulesOn Path → Bool)
    → length ids ≤ MOST_LAYERS → test (in_tree tree (without_rules files.no_right network.no_right)) ≡ false
    → ((index : ℕ) → some_right (has (lane lanes index)) ≡ test (in_tree tree (layer_in (domain_of layers ids) index)))
    → numbers_passing (is_filled lanes) ≡ numbers_from test 1 (all_in_tree tree (domain_of layers ids))
filled_in_tree tree lanes layers ids test few nowhere same =
    filled_numbers lanes layers ids (λ rules. test (in_tree tree rules)) few nowhere same ∙ sym (numbers_from-map test (in_tree tree) 1 (domain_of layers ids))

-- ---- what is refused on a path

pub none_lacking : (wanted granted : FsRight → Bool) → is_lacking wanted (handles (without_rules {P = Path} files.no_right network.no_right)) granted ≡ false
unfolding some_right all_rights named_rights
none_lacking wanted granted =
    some_agree (λ right. wanted right && handles (without_rules {P = Path} files.no_right network.no_right) right && not (granted right)) (λ right. false)
    (λ right. ap (λ (b : Bool). wanted right && b && not (granted right)) (nothing_handled Path right)
    ∙ ap (λ (b : Bool). b && not (granted right)) (and_none (wanted right)))

pub refusing_lanes : (tree : List Entry) (layers : List (RulesOn ℕ)) (ids : List LayerId) (path : Path) (wanted : Fs) (lanes : List ℕ)
    → length ids ≤ MOST_LAYERS → ((index : ℕ) (right : FsRight) → has (lane lanes index) right
    ≡ ((handles (layer_in (domain_of layers ids) index) right && has wanted right)
    && not (granted (in_tree tree (layer_in (domain_of layers ids) index)) path right)))
    → numbers_passing (is_filled lanes) ≡ refusing (all_in_tree tree (domain_of layers ids)) path wanted
refusing_lanes tree layers ids path wanted lanes few same =
    filled_in_tree tree lanes layers ids (λ layer. lacks layer path wanted) few (none_lacking (has wanted) _)
    (λ index. some_agree (has (lane lanes index)) (λ right. has wanted right && handles (layer_in (domain_of layers ids) index) right
    && not (granted (in_tree tree (layer_in (domain_of layers ids) index)) path right))
    (λ right. same index right ∙ ap (λ (b : Bool). b && not (granted (in_tree tree (layer_in (domain_of layers ids) index)) path right))
    (and_comm (handles (layer_in (domain_of layers ids) index) right) (has wanted right))))

-- ---- the layers of a stack

-- the rules of each layer are on nodes of the tree
pub stacked-within : (stack : Stack) (index : ℕ) → AreInTree stack.tree.now (stacked stack index)
stacked-within stack index = layer_in-within stack.tree.now stack.layers.now stack.ids.now index stack.rules
