-- What layers grant on each node, node by node and layer by layer.
use Rattle.std.proofs.Common.{◌≡◌, ◌∙◌, ◌<◌, ◌≤◌, ◌&&◌, ◌||◌, ℕ, Bool, true, false, List, [], ap, sym, arith, get_or, length, not, inl, inr}
use Rattle.std.specs.Prelude.{Option, Some, None, IfSome, IfNone, is_some, slice_get}
use Rattle.std.specs.Borrow.{Bor}
use Rattle.std.proofs.Math.Dec.{ltb}
use Rattle.std.proofs.lemmas.Bool.{cases_lt, ltb-true}
use Rattle.std.proofs.lemmas.Option.{slice_get-get_or}
use Rattle.ll_rights.specs.declared.fs.Fs.{Fs}
use Rattle.ll_rights.specs.Rights.{FsRight, has, united}
use Rattle.ll_rights.specs.Rights as files
use Rattle.ll_rights.specs.NetRights as network
use Rattle.ll_rights.proofs.Sets.{fs_has-united}
use Rattle.ll_tree.specs.declared.place.NodeId.{NodeId}
use Rattle.ll_tree.specs.Trees.{Entry, IsNode, path_at}
use Rattle.ll_tree.specs.TreeFacts.{IsTree, StandsIn}
use Rattle.ll_rules.specs.Layers.{RulesOn, granted, handles, without_rules}
use Rattle.ll_rules.specs.Checks.{lacks}
use Rattle.ll_rules.specs.declared.domain.LayerId.{LayerId}
use Rattle.ll_rules.specs.KeptLayers.{granted_on_node, layer_at, domain_of}
use Rattle.ll_rules.specs.InTree.{in_tree, AreInTree, granted_above}
use Rattle.ll_rules.specs.Grants.{AreGrants, AreGrantsOf}
use Rattle.ll_rules.specs.Lanes.{lane, layer_in, set_of}
use Rattle.ll_rules.proofs.Booleans.{and_true, or_false}
use Rattle.ll_rules.proofs.AskedRights.{some_agree}
use Rattle.ll_rules.proofs.Climbs.{climbed}
use Rattle.ll_rules.proofs.DomainLanes.{layer_in-named, layer_in-past, nothing_above}

-- what a slice has at an index stands there
pub there : {A : Type 0} (x : Bor A) (found : Option (Bor A)) (xs : List A) (n : ℕ) → found ≡ Some x → is_some found ≡ ltb n (length xs)
    → IfSome found (λ b. b.now ≡ get_or xs n b.now) → slice_get xs n ≡ Some x.now
there x found xs n was inside is =
    let has_it : true ≡ ltb n (length xs) = rw was at inside in
    let same : x.now ≡ get_or xs n x.now = rw was at is in
    slice_get-get_or xs n x.now (ltb-true n (length xs) (sym has_it)) ∙ ap (λ y. Some y) (sym same)

-- on a node the same is granted as in its directory, and what its own rule grants
pub granted_below : (tree : List Entry) (rules : RulesOn ℕ) (node up : NodeId) (own set d : Fs) (sets : List Fs) (right : FsRight) → IsTree tree
    → IsNode tree node
    → AreInTree tree rules → IfNone (Some up) (path_at tree node ≡ []) → StandsIn tree node up → length sets ≡ node.0 → AreGrantsOf tree rules sets
    → ((r : FsRight) → has own r ≡ granted_on_node rules node r) → set ≡ united own (get_or sets up.0 d)
    → has set right ≡ granted (in_tree tree rules) (path_at tree node) right
unfolding granted_above
granted_below tree rules node up own set d sets right listed inside within top below before known here is =
    let there = slice_get-get_or sets up.0 d (omega (arith, below.before)) in
    ap (λ (s : Fs). has s right) is
    ∙ fs_has-united own (get_or sets up.0 d) right
    ∙ ap (λ (b : Bool). b || has (get_or sets up.0 d) right) (here right)
    ∙ ap (λ (b : Bool). granted_on_node rules node right || b) (known up.0 (get_or sets up.0 d) there right)
    ∙ sym (climbed tree rules node (Some up) right listed inside within top below)

-- on the root what its rule grants
pub granted_top : (tree : List Entry) (rules : RulesOn ℕ) (node : NodeId) (own : Fs) (right : FsRight) → IsTree tree → IsNode tree node
    → AreInTree tree rules → path_at tree node ≡ [] → ((r : FsRight) → has own r ≡ granted_on_node rules node r)
    → has own right ≡ granted (in_tree tree rules) (path_at tree node) right
unfolding granted_above
granted_top tree rules node own right listed inside within top here =
    here right ∙ sym (or_false (granted_on_node rules node right)) ∙ sym (climbed tree rules node None right listed inside within top tt)

nothing_granted_on : (tree : List Entry) (rules : RulesOn ℕ) (node : NodeId) (right : FsRight) → rules ≡ without_rules files.no_right network.no_right
    → granted (in_tree tree rules) (path_at tree node) right ≡ false
unfolding granted_above
nothing_granted_on tree rules node right is = nothing_above tree rules (Some node) right is

module _ (tree : List Entry) (layers : List (RulesOn ℕ)) (ids : List LayerId) (node : NodeId) where
  -- a layer grants what is known of it, by its index
  pub known_granted : (all : List (List Fs)) (index : ℕ) (id d : LayerId) (sets : List Fs) (set : Fs) (right : FsRight) → AreGrants tree layers all
      → index < length ids
      → id ≡ get_or ids index d → slice_get all id.0 ≡ Some sets → slice_get sets node.0 ≡ Some set
      → has set right ≡ granted (in_tree tree (layer_in (domain_of layers ids) index)) (path_at tree node) right
  known_granted all index id d sets set right known inside is there set_there =
      known id.0 sets there node.0 set set_there right
      ∙ ap (λ (rules : RulesOn ℕ). granted (in_tree tree rules) (path_at tree node) right)
      (ap (layer_at layers) is ∙ sym (layer_in-named layers ids index d inside))

  -- what is left of all lanes, where past the last layer nothing is granted
  pub all_known : (before after : List ℕ) (count : ℕ) → length ids ≤ count
      → ((index : ℕ) → index < count → (right : FsRight)
      → has (lane after index) right ≡ (has (lane before index) right && not (granted (in_tree tree (layer_in (domain_of layers ids) index)) (path_at
      tree node) right)))
      → ((index : ℕ) → count ≤ index → get_or after index 0 ≡ get_or before index 0)
      → (index : ℕ) (right : FsRight) → has (lane after index) right
      ≡ (has (lane before index) right && not (granted (in_tree tree (layer_in (domain_of layers ids) index)) (path_at tree node) right))
  all_known before after count all so_far rest index right = elim (cases_lt index count) [
    | inl inside ↦ so_far index inside right
    | inr past ↦
        ap (λ (bits : ℕ). has (set_of bits) right) (rest index past)
        ∙ sym (and_true (has (lane before index) right))
        ∙ ap (λ (b : Bool). has (lane before index) right && not b) (sym (nothing_granted_on tree _ node right (layer_in-past layers ids index (omega arith))))
  ]

-- what a layer lacks, by sets of what it handles and grants
pub lacking_by : (tree : List Entry) (rules : RulesOn ℕ) (node : NodeId) (wanted handled set : Fs)
    → ((right : FsRight) → has handled right ≡ handles rules right)
    → ((right : FsRight) → has set right ≡ granted (in_tree tree rules) (path_at tree node) right)
    → files.is_lacking (has wanted) (has handled) (has set) ≡ lacks (in_tree tree rules) (path_at tree node) wanted
lacking_by tree rules node wanted handled set handles_it grants_it =
    some_agree _ _ (λ right.
    ap (λ (b : Bool). has wanted right && b && not (has set right)) (handles_it right)
    ∙ ap (λ (b : Bool). has wanted right && handles rules right && not b) (grants_it right))
