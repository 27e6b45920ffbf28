-- What holds of chains holds of the objects of every tree, and of moves in it.
use Rattle.std.proofs.Common.{◌≡◌, ℕ, zero, suc, ◌+◌, ◌<◌, Bool, true, false, not, ◌&&◌, ◌||◌, List, []}
use Rattle.std.proofs.Common.{◌∷◌, ◌++◌, map, length, get_or, refl, sym, ap, ◌∙◌, subst, inl, inr, arith, lit<}
use Rattle.std.specs.Prelude.{All, if◌then◌else◌}
use Rattle.std.specs.List.{Contains, filter, list_any}
use Rattle.std.proofs.lemmas.Bool.{and_parts, and_from, false≢true, not-true, not_from_false, false_from_ne_true, not-false, or_from, or_parts}
use Rattle.std.proofs.lemmas.List.Elements.{All-contains, Contains-append_left, Contains-append_right, Contains-append_cases, Contains-get_or}
use Rattle.ll_rights.specs.declared.fs.Fs.{Fs}
use Rattle.ll_rights.specs.declared.kind.Kind.{Kind}
use Rattle.ll_rights.specs.declared.kind.Kind.TheVariants.{Dir}
use Rattle.ll_rights.specs.Rights.{FsRight, has, refer, is_right, is_file_right, some_right, all_rights, named_rights, bit_of, execute}
use Rattle.ll_lines.specs.Paths.{Path, front, is_prefix, path_eq}
use Rattle.ll_tree.specs.declared.place.NodeId.{NodeId}
use Rattle.ll_tree.specs.Trees.{Entry, IsNode, path_at, kind_at, is_dir}
use Rattle.ll_tree.specs.TreeFacts.{IsTree}
use Rattle.ll_tree.proofs.Positions.{parent_found, empty_or_not, is_root}
use Rattle.ll_rules.specs.Layers.{RulesOn, handles, granted}
use Rattle.ll_rules.specs.InTree.{in_tree, all_in_tree, node, AreInTree, IsTargetIn}
use Rattle.ll_rules.specs.Checks.{numbers_from, lacks, refusing}
use Rattle.ll_rules.specs.declared.errno.Errno.{Errno}
use Rattle.ll_rules.specs.declared.errno.Errno.TheVariants.{Acces, XDev}
use Rattle.ll_rules.specs.declared.moves.Move.{Move}
use Rattle.ll_rules.specs.declared.moves.How.{How}
use Rattle.ll_rules.specs.declared.moves.How.TheVariants.{Rename, Exchange, Link}
use Rattle.ll_rules.specs.declared.moves.Target.{Target}
use Rattle.ll_rules.specs.declared.moves.Target.TheVariants.{New, Over}
use Rattle.ll_rules.specs.declared.moves.Verdict.{Verdict}
use Rattle.ll_rules.specs.declared.moves.Verdict.TheVariants.{Passed}
use Rattle.ll_rules.specs.Moves.{lacks_one_of, gains, other_gains, denies, holds_back, source_of}
use Rattle.ll_rules.specs.Moves.{destination_of, kind_there, asked_of_source, asked_of_destination, refused_or, move_verdict}
use Rattle.ll_policy.specs.Chains.{Granting, is_among, IsChain, lets, passes}
use Rattle.ll_policy.specs.Granted.{granting, NothingMoreOnObjects}
use Rattle.ll_policy.specs.Gains.{granting_there, KeepsGains, AllKeepGains}
use Rattle.ll_policy.specs.WaysUp.{ruled, all_ruled, way_up, is_file_at, IsTargetOf, AreRuledIn}
use Rattle.ll_policy.proofs.Lists.{here, there, some_passes, that_passes, each_passes, passes_among}
use Rattle.ll_policy.proofs.Lists.{that_fails, filtered, filter_test, kept_within, in_flat_map, flat_from}
use Rattle.ll_policy.proofs.Exactly.{among-contains}
use Rattle.ll_policy.proofs.Bridge.{lacks-only, is_by, granted_by, mapped_from, mapped_to, no_numbers}
use Rattle.ll_policy.proofs.Bridge.{AreRuledBy, lets_where_nothing_lacks, file_on_way, on_way, way_up_chain, way_up_begins}

-- ---- rights that are asked

pub each_there : (right : FsRight) → Contains all_rights right
unfolding all_rights named_rights
each_there execute = (0, lit< tt, refl)
each_there right = (bit_of right, lit< tt, refl)

-- a layer handles a right and doesn't grant it on a path
abbrev lack : RulesOn Path → Path → FsRight → Bool
lack layer path right = handles layer right && not (granted layer path right)

-- a layer lacks some right that is asked
abbrev lacks_asked : RulesOn Path → Path → (FsRight → Bool) → Bool
lacks_asked layer path asked = some_right (λ right. asked right && handles layer right && not (granted layer path right))

three : (a b c : Bool) → a ≡ true → (b && c) ≡ true → (a && b && c) ≡ true
three true b c first rest = rest
three false b c first rest = absurd (false≢true first)

three_parts : (a b c : Bool) → (a && b && c) ≡ true → (a ≡ true) × ((b && c) ≡ true)
three_parts true b c all = (refl, all)
three_parts false b c all = absurd (false≢true all)

nothing_asked : (layer : RulesOn Path) (path : Path) (asked : FsRight → Bool) → lacks_asked layer path asked ≡ false
    → (right : FsRight) → asked right ≡ true → lack layer path right ≡ false
unfolding some_right
nothing_asked layer path asked none right is =
    false_from_ne_true (lack layer path right)
    (λ lacking. false≢true (sym none
    ∙ some_passes (λ own. asked own && handles layer own && not (granted layer path own)) all_rights right (each_there right)
    (three (asked right) (handles layer right) (not (granted layer path right)) is lacking)))

asks_nothing : (layer : RulesOn Path) (path : Path) (asked : FsRight → Bool) → ((right : FsRight) → asked right ≡ true → lack layer path right ≡ false)
    → lacks_asked layer path asked ≡ false
unfolding some_right
asks_nothing layer path asked each =
    false_from_ne_true (lacks_asked layer path asked)
    (λ some.
    let found = that_passes (λ own. asked own && handles layer own && not (granted layer path own)) all_rights some in
    let parts = three_parts (asked found.0) (handles layer found.0) (not (granted layer path found.0)) found.2 in
    false≢true (sym (each found.0 parts.0) ∙ parts.1))

-- ---- layers by number

module _ (tree : List Entry) (test : RulesOn Path → Bool) where
  none_at : (number : ℕ) (layers : List (RulesOn ℕ)) (layer : RulesOn ℕ) (k : ℕ) → k < length layers → get_or layers k layer ≡ layer
      → numbers_from test number (all_in_tree tree layers) ≡ [] → test (in_tree tree layer) ≡ false
  unfolding numbers_from
  none_at number [] layer k within is none = absurd (omega (arith, within))
  none_at number (first ∷ layers) layer zero within is none =
      ap (λ (own : RulesOn ℕ). test (in_tree tree own)) (sym is)
      ∙ (no_numbers (test (in_tree tree first)) number (numbers_from test (number + 1) (all_in_tree tree layers)) none).0
  none_at number (first ∷ layers) layer (suc k) within is none =
      none_at (number + 1) layers layer k (omega (arith, within)) is
      (no_numbers (test (in_tree tree first)) number (numbers_from test (number + 1) (all_in_tree tree layers)) none).1

  none_each : (number : ℕ) (layers : List (RulesOn ℕ)) → numbers_from test number (all_in_tree tree layers) ≡ []
      → (layer : RulesOn ℕ) → Contains layers layer → test (in_tree tree layer) ≡ false
  none_each number layers none layer within = none_at number layers layer within.0 within.1 within.2 none

  each_none : (number : ℕ) (layers : List (RulesOn ℕ)) → ((layer : RulesOn ℕ) → Contains layers layer → test (in_tree tree layer) ≡ false)
      → numbers_from test number (all_in_tree tree layers) ≡ []
  unfolding numbers_from
  each_none number [] each = refl
  each_none number (first ∷ layers) each =
      ap (λ (b : Bool). (if b then number ∷ [] else []) ++ numbers_from test (number + 1) (all_in_tree tree layers)) (each first (here first layers))
      ∙ each_none (number + 1) layers (λ layer within. each layer (there first layers layer within))

-- ---- verdicts

passed_parts : (error : Errno) (numbers : List ℕ) (next : Verdict) → refused_or error numbers next ≡ Passed → (numbers ≡ []) × (next ≡ Passed)
passed_parts error [] next passing = (refl, passing)
passed_parts error (number ∷ numbers) next passing = cc

passed_from : (error : Errno) (numbers : List ℕ) (next : Verdict) → numbers ≡ [] → next ≡ Passed → refused_or error numbers next ≡ Passed
passed_from error [] next none passing = passing
passed_from error (number ∷ numbers) next none passing = cc

crossing : (within : Bool) (one other : List ℕ) → (one ≡ [] → other ≡ []) → (if within then Passed else refused_or XDev one Passed) ≡ Passed
    → (if within then Passed else refused_or XDev other Passed) ≡ Passed
crossing true one other so passing = refl
crossing false one other so passing = passed_from XDev other Passed (so (passed_parts XDev one Passed passing).0) refl

-- ---- the nodes of a tree with what is above them

-- a directory of a tree by its path
record IsDirectory (tree : List Entry) (path : Path) : Type 0 where
  pub at : NodeId
  pub is_node : IsNode tree at
  pub is_path : path_at tree at ≡ path
  pub is_dir : kind_at tree at ≡ Dir

above : (tree : List Entry) (object : NodeId) → IsTree tree → IsNode tree object → IsDirectory tree (front (path_at tree object))
unfolding front kind_at
above tree object listed within =
    elim (empty_or_not (path_at tree object)) [
      | inl top ↦ record {
        at = node 0;
        is_node = listed.begins.0;
        is_path = is_root tree listed ∙ ap front (sym top);
        is_dir = ap (λ e. e.kind) listed.begins.1;
      }
      | inr other ↦
          let up = parent_found tree object listed within other in
          record { at = up.0; is_node = up.2.is_node; is_path = up.2.is_front; is_dir = up.2.is_dir }
    ]

-- ---- what new layers let no more pass than old ones on objects, they let no more pass in a tree

module _ (is_file : ℕ → Bool) (old new : List (RulesOn ℕ)) (nothing : NothingMoreOnObjects is_file old new) (tree : List Entry)
    (ruled_in : AreRuledIn is_file old new tree) where
  abbrev nodes : List ℕ
  nodes = all_ruled (old ++ new)

  -- all that is ruled is of the tree
  nodes_inside : All (λ number. number < length tree) nodes
  unfolding all_ruled
  nodes_inside k d within =
      let one = Contains-get_or nodes k d within in
      let layer = flat_from ruled (old ++ new) (get_or nodes k d) one in
      elim (Contains-append_cases old new layer.0 layer.1) [
        | inl first ↦ All-contains (λ (number : ℕ). number < length tree) (ruled layer.0) (get_or nodes k d)
            (All-contains (AreInTree tree) old layer.0 ruled_in.old_inside first) layer.2
        | inr second ↦ All-contains (λ (number : ℕ). number < length tree) (ruled layer.0) (get_or nodes k d)
            (All-contains (AreInTree tree) new layer.0 ruled_in.new_inside second) layer.2
      ]

  old_ruled : (layer : RulesOn ℕ) → Contains old layer → AreRuledBy nodes layer
  unfolding all_ruled
  old_ruled layer within number inside = in_flat_map ruled (old ++ new) layer number (Contains-append_left old new layer within) inside

  new_ruled : (layer : RulesOn ℕ) → Contains new layer → AreRuledBy nodes layer
  unfolding all_ruled
  new_ruled layer within number inside = in_flat_map ruled (old ++ new) layer number (Contains-append_right old new layer within) inside

  abbrev chain : NodeId → List ℕ
  chain object = way_up tree nodes (path_at tree object)

  chain_is : (object : NodeId) → IsNode tree object → IsChain is_file (chain object)
  chain_is object within one other first second is too =
      let same = λ (number : ℕ) (inside : Contains (chain object) number).
      sym (ruled_in.tells number (on_way tree nodes (path_at tree object) number ruled_in.listed nodes_inside inside).0) in
      way_up_chain tree nodes object ruled_in.listed nodes_inside within one other first second (same one first ∙ is) (same other second ∙ too)

  lets_lack : (layer : RulesOn ℕ) (object : NodeId) (right : FsRight) → AreRuledBy nodes layer
      → lets (chain object) (granting right layer) ≡ not (lack (in_tree tree layer) (path_at tree object) right)
  lets_lack layer object right by =
      lets_where_nothing_lacks tree nodes layer (path_at tree object) right by ∙ ap not (lacks-only (in_tree tree layer) (path_at tree object) right)

  -- the layers of a domain lack nothing of a right on a node
  abbrev LackNone : List (RulesOn ℕ) → NodeId → FsRight → Type 0
  LackNone domain object right = (layer : RulesOn ℕ) → Contains domain layer → lack (in_tree tree layer) (path_at tree object) right ≡ false

  kept : (object : NodeId) → IsNode tree object → (right : FsRight) → LackNone new object right → LackNone old object right
  unfolding passes
  kept object within right none layer inside =
      let passing : passes (map (granting right) new) (chain object) ≡ true =
      each_passes (lets (chain object)) (map (granting right) new)
      (λ own its.
      let from = mapped_from (granting right) new own its in
      ap (lets (chain object)) (sym from.2) ∙ lets_lack from.0 object right (new_ruled from.0 from.1) ∙ ap not (none from.0 from.1)) in
      let passed = nothing right (chain object) (chain_is object within) (way_up_begins tree nodes (path_at tree object) ruled_in.listed) passing in
      not-true (lack (in_tree tree layer) (path_at tree object) right)
      (sym (lets_lack layer object right (old_ruled layer inside))
      ∙ passes_among (lets (chain object)) (map (granting right) old) (granting right layer) passed (mapped_to (granting right) old layer inside))

  -- the layers of a domain lack nothing that is asked on a path
  abbrev AskNone : List (RulesOn ℕ) → Path → (FsRight → Bool) → Type 0
  AskNone domain path asked = (layer : RulesOn ℕ) → Contains domain layer → lacks_asked (in_tree tree layer) path asked ≡ false

  asked_kept : (object : NodeId) → IsNode tree object → (asked : FsRight → Bool) → AskNone new (path_at tree object) asked
      → AskNone old (path_at tree object) asked
  asked_kept object within asked none layer inside =
      asks_nothing (in_tree tree layer) (path_at tree object) asked
      (λ right is. kept object within right
      (λ own its. nothing_asked (in_tree tree own) (path_at tree object) asked (none own its) right is) layer inside)

  pub refuses_no_more_anywhere : (object : NodeId) → IsNode tree object → (wanted : Fs) → refusing (all_in_tree tree new) (path_at tree object) wanted ≡ []
      → refusing (all_in_tree tree old) (path_at tree object) wanted ≡ []
  refuses_no_more_anywhere object within wanted none =
      each_none tree (λ layer. lacks layer (path_at tree object) wanted) 1 old
      (asked_kept object within (has wanted) (none_each tree (λ layer. lacks layer (path_at tree object) wanted) 1 new none))

  -- the same on the path of a directory
  asked_there : (path : Path) → IsDirectory tree path → (asked : FsRight → Bool) → AskNone new path asked → AskNone old path asked
  asked_there path directory asked none =
      subst (λ (p : Path). AskNone old p asked) directory.is_path
      (asked_kept directory.at directory.is_node asked (subst (λ (p : Path). AskNone new p asked) (sym directory.is_path) none))

  -- ---- gains

  -- no layer of a domain lets an object gain a right in a directory
  abbrev GainNone : List (RulesOn ℕ) → Kind → NodeId → Path → Type 0
  GainNone domain kind object directory =
      (layer : RulesOn ℕ) → Contains domain layer → gains (in_tree tree layer) kind (path_at tree object) directory ≡ false

  -- what a layer grants on a directory, it grants by a rule on some directory above it
  granted_above : (layer : RulesOn ℕ) → Contains old layer → (directory : NodeId) → IsNode tree directory → kind_at tree directory ≡ Dir
      → (right : FsRight) → granted (in_tree tree layer) (path_at tree directory) right ≡ true
      → (number : ℕ) × Contains (granting right layer).grants number × (is_file number ≡ false)
      × (is_prefix (path_at tree (node number)) (path_at tree directory) ≡ true)
  granted_above layer inside directory within is_directory right given =
      let found = that_passes (is_by tree (path_at tree directory) right) layer.file_rules
      (sym (granted_by tree layer (path_at tree directory) right) ∙ given) in
      let number = found.0.0 in
      let parts = and_parts (is_prefix (path_at tree (node number)) (path_at tree directory)) (has found.0.1 right) found.2 in
      let listed_node : number < length tree =
      All-contains (λ (own : ℕ). own < length tree) (ruled layer) number (All-contains (AreInTree tree) old layer ruled_in.old_inside inside)
      (mapped_to (λ (rule : ℕ × Fs). rule.0) layer.file_rules found.0 found.1) in (
        number,
        mapped_to (λ (rule : ℕ × Fs). rule.0) (filter (λ (rule : ℕ × Fs). has rule.1 right) layer.file_rules) found.0
            (filtered (λ (rule : ℕ × Fs). has rule.1 right) layer.file_rules found.0 found.1 parts.1),
        ruled_in.tells number listed_node
            ∙ false_from_ne_true (is_file_at tree number)
            (λ file.
            let same = file_on_way (suc directory.0) tree (node number) directory (omega arith) ruled_in.listed listed_node within
            (not-true (is_dir (kind_at tree (node number))) file) parts.0 in
            false≢true (sym (not-true (is_dir (kind_at tree (node number))) file) ∙ ap (λ (n : NodeId). is_dir (kind_at tree n)) same
            ∙ ap is_dir is_directory)),
        parts.0,
      )

  -- what a layer grants on a node, it grants on what is under it
  granted_under : (layer : RulesOn ℕ) (number : ℕ) (directory : Path) (right : FsRight) → Contains (granting right layer).grants number
      → is_prefix (path_at tree (node number)) directory ≡ true → granted (in_tree tree layer) directory right ≡ true
  granted_under layer number directory right given prefix =
      let gives = λ (rule : ℕ × Fs). has rule.1 right in
      let rule = mapped_from (λ (rule : ℕ × Fs). rule.0) (filter gives layer.file_rules) number given in
      granted_by tree layer directory right
      ∙ some_passes (is_by tree directory right) layer.file_rules rule.0 (kept_within gives layer.file_rules rule.0 rule.1)
      (and_from (is_prefix (path_at tree (node rule.0.0)) directory) (has rule.0.1 right)
      (ap (λ (n : ℕ). is_prefix (path_at tree (node n)) directory) rule.2 ∙ prefix) (filter_test gives layer.file_rules rule.0 rule.1))

  gain_parts : (a b c d : Bool) → (a && (b && c) && not d) ≡ true → (a ≡ true) × (b ≡ true) × (c ≡ true) × (d ≡ false)
  gain_parts true true true false all = (refl, refl, refl, refl)
  gain_parts true true true true all = absurd (false≢true all)
  gain_parts true true false d all = absurd (false≢true all)
  gain_parts true false c d all = absurd (false≢true all)
  gain_parts false b c d all = absurd (false≢true all)

  gain_from : (a b c d : Bool) → a ≡ true → c ≡ true → (b && not d) ≡ true → (a && (b && c) && not d) ≡ true
  gain_from true true true false first second both = refl
  gain_from true true true true first second both = both
  gain_from true false c d first second both = both
  gain_from true true false d first second both = absurd (false≢true second)
  gain_from false b c d first second both = absurd (false≢true first)

  -- a new layer that grants on a directory and keeps an object from passing lets it gain the right there
  gained : (kind : Kind) (object : NodeId) → IsNode tree object → (directory : Path) (right : FsRight)
      → (is_dir kind || is_file_right right) ≡ true → (number : ℕ) → is_prefix (path_at tree (node number)) directory ≡ true
      → (own : Granting) → Contains (granting_there number (map (granting right) new)) own → lets (chain object) own ≡ false
      → GainNone new kind object directory → ⊥
  unfolding granting_there some_right
  gained kind object within directory right counted number prefix own its stopped none =
      let there_granted = filter_test (λ (one : Granting). is_among number one.grants) (map (granting right) new) own its in
      let from = mapped_from (granting right) new own (kept_within (λ (one : Granting). is_among number one.grants) (map (granting right) new) own its) in
      let given : Contains (granting right from.0).grants number =
      among-contains number (granting right from.0).grants (ap (λ (one : Granting). is_among number one.grants) from.2 ∙ there_granted) in
      let lacking : lack (in_tree tree from.0) (path_at tree object) right ≡ true =
      not-false (lack (in_tree tree from.0) (path_at tree object) right)
      (sym (lets_lack from.0 object right (new_ruled from.0 from.1)) ∙ ap (lets (chain object)) from.2 ∙ stopped) in
      let layer = in_tree tree from.0 in
      false≢true (sym (none from.0 from.1)
      ∙ some_passes (λ one. granted layer directory one && (handles layer one && (is_dir kind || is_file_right one)) && not
      (granted layer (path_at tree object) one))
      all_rights right (each_there right)
      (gain_from (granted layer directory right) (handles layer right) (is_dir kind || is_file_right right) (granted layer (path_at tree object) right)
      (granted_under from.0 number directory right given prefix) counted lacking))

  gains_kept : AllKeepGains is_file old new → (kind : Kind) (object : NodeId) → IsNode tree object → (path : Path) → IsDirectory tree path
      → GainNone new kind object path → GainNone old kind object path
  unfolding some_right passes
  gains_kept gaining kind object within path directory none layer inside =
      let rules = in_tree tree layer in
      false_from_ne_true (gains rules kind (path_at tree object) path)
      (λ some.
      let found = that_passes (λ one. granted rules path one && (handles rules one && (is_dir kind || is_file_right one)) && not
      (granted rules (path_at tree object) one))
      all_rights some in
      let right = found.0 in
      let parts = gain_parts (granted rules path right) (handles rules right) (is_dir kind || is_file_right right)
      (granted rules (path_at tree object) right) found.2 in
      let rule = granted_above layer inside directory.at directory.is_node directory.is_dir right
      (ap (λ (p : Path). granted rules p right) directory.is_path ∙ parts.0) in
      let stopped : lets (chain object) (granting right layer) ≡ false =
      lets_lack layer object right (old_ruled layer inside)
      ∙ ap not (and_from (handles rules right) (not (granted rules (path_at tree object) right)) parts.1
      (not_from_false (granted rules (path_at tree object) right) parts.3)) in
      let keeps = All-contains (KeepsGains is_file (map (granting right) new)) (map (granting right) old) (granting right layer) (gaining right)
      (mapped_to (granting right) old layer inside) in
      let blocked : passes (granting_there rule.0 (map (granting right) new)) (chain object) ≡ false =
      false_from_ne_true (passes (granting_there rule.0 (map (granting right) new)) (chain object))
      (λ passing. false≢true (sym stopped
      ∙ keeps rule.0 rule.1 rule.2 (chain object) (chain_is object within) (way_up_begins tree nodes (path_at tree object) ruled_in.listed) passing)) in
      let by = that_fails (lets (chain object)) (granting_there rule.0 (map (granting right) new)) blocked in
      gained kind object within path right parts.2 rule.0 (ap (λ (p : Path). is_prefix (path_at tree (node rule.0)) p) (sym directory.is_path) ∙ rule.3)
      by.0 by.1 by.2 none)

  -- ---- verdicts

  destination : (target : Target) → IsTargetIn tree target → IsTargetOf tree target → IsDirectory tree (destination_of tree target)
  destination (New directory) within of = record { at = directory; is_node = within; is_path = refl; is_dir = of }
  destination (Over other) within of = above tree other ruled_in.listed within

  -- what each new layer doesn't do by either of two tests, no old layer does
  abbrev Kept : (RulesOn Path → Bool) → Type 0
  Kept test = ((layer : RulesOn ℕ) → Contains new layer → test (in_tree tree layer) ≡ false)
      → (layer : RulesOn ℕ) → Contains old layer → test (in_tree tree layer) ≡ false

  either_kept : (one other : RulesOn Path → Bool) → Kept one → Kept other → Kept (λ layer. one layer || other layer)
  either_kept one other first second none layer inside =
      or_from (one (in_tree tree layer)) (other (in_tree tree layer))
      (first (λ own its. (or_parts (one (in_tree tree own)) (other (in_tree tree own)) (none own its)).0) layer inside)
      (second (λ own its. (or_parts (one (in_tree tree own)) (other (in_tree tree own)) (none own its)).1) layer inside)

  asked_of : (path : Path) → IsDirectory tree path → (asked : List FsRight) → Kept (λ layer. lacks_one_of layer path asked)
  asked_of path directory asked none = asked_there path directory (λ right. list_any (is_right right) asked) none

  others_kept : AllKeepGains is_file old new → (move : Move) → IsNode tree move.moved → (how : How) (target : Target) → IsTargetIn tree target
      → Kept (λ layer. other_gains tree move layer how target)
  others_kept gaining move within Exchange (Over other) inside =
      gains_kept gaining (kind_at tree other) other inside (source_of tree move) (above tree move.moved ruled_in.listed within)
  others_kept gaining move within Exchange (New directory) inside = λ none layer its. refl
  others_kept gaining move within Rename target inside = λ none layer its. refl
  others_kept gaining move within Link target inside = λ none layer its. refl

  denies_kept : (move : Move) → IsNode tree move.moved → IsTargetIn tree move.target → IsTargetOf tree move.target → Kept (denies tree move)
  denies_kept move within there_in of =
      either_kept (λ layer. lacks_one_of layer (source_of tree move) (asked_of_source move.how (kind_at tree move.moved) (kind_there tree move.target)))
      (λ layer. lacks_one_of layer (destination_of tree move.target) (asked_of_destination (kind_at tree move.moved) (kind_there tree move.target)))
      (asked_of (source_of tree move) (above tree move.moved ruled_in.listed within)
      (asked_of_source move.how (kind_at tree move.moved) (kind_there tree move.target)))
      (asked_of (destination_of tree move.target) (destination move.target there_in of)
      (asked_of_destination (kind_at tree move.moved) (kind_there tree move.target)))

  holds_kept : AllKeepGains is_file old new → (move : Move) → IsNode tree move.moved → IsTargetIn tree move.target → IsTargetOf tree move.target
      → Kept (holds_back tree move)
  holds_kept gaining move within there_in of =
      either_kept (λ layer. lacks_one_of layer (source_of tree move) (refer ∷ []) || lacks_one_of layer (destination_of tree move.target) (refer ∷ []))
      (λ layer. gains layer (kind_at tree move.moved) (path_at tree move.moved) (destination_of tree move.target)
      || other_gains tree move layer move.how move.target)
      (either_kept (λ layer. lacks_one_of layer (source_of tree move) (refer ∷ []))
      (λ layer. lacks_one_of layer (destination_of tree move.target) (refer ∷ []))
      (asked_of (source_of tree move) (above tree move.moved ruled_in.listed within) (refer ∷ []))
      (asked_of (destination_of tree move.target) (destination move.target there_in of) (refer ∷ [])))
      (either_kept (λ layer. gains layer (kind_at tree move.moved) (path_at tree move.moved) (destination_of tree move.target))
      (λ layer. other_gains tree move layer move.how move.target)
      (gains_kept gaining (kind_at tree move.moved) move.moved within (destination_of tree move.target) (destination move.target there_in of))
      (others_kept gaining move within move.how move.target there_in))

  numbers_kept : (test : RulesOn Path → Bool) → Kept test → numbers_from test 1 (all_in_tree tree new) ≡ []
      → numbers_from test 1 (all_in_tree tree old) ≡ []
  numbers_kept test keeps none = each_none tree test 1 old (keeps (none_each tree test 1 new none))

  pub passes_no_more_anywhere : AllKeepGains is_file old new → (move : Move)
      → IsNode tree move.moved → IsTargetIn tree move.target → IsTargetOf tree move.target
      → move_verdict tree (all_in_tree tree new) move ≡ Passed → move_verdict tree (all_in_tree tree old) move ≡ Passed
  unfolding move_verdict
  passes_no_more_anywhere gaining move within there_in of passing =
      let parts = passed_parts Acces (numbers_from (denies tree move) 1 (all_in_tree tree new)) _ passing in
      passed_from Acces (numbers_from (denies tree move) 1 (all_in_tree tree old)) _
      (numbers_kept (denies tree move) (denies_kept move within there_in of) parts.0)
      (crossing (path_eq (source_of tree move) (destination_of tree move.target)) (numbers_from (holds_back tree move) 1 (all_in_tree tree new))
      (numbers_from (holds_back tree move) 1 (all_in_tree tree old)) (numbers_kept (holds_back tree move) (holds_kept gaining move within there_in of)) parts.1)
