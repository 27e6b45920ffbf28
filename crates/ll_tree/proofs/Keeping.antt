-- What is kept stays sound: of the root alone, and when an object is put at the end.
use Rattle.std.proofs.Common.{◌≡◌, ℕ, ◌<◌, ◌∷◌, [], ◌++◌, List, length, sym, ap, ◌∙◌, subst, arith, get_or, suc, ◌≤◌, ◌+◌, Bool, true, false, Option, Some}
use Rattle.std.proofs.Common.{◌⊎◌, None, cond, leb, refl, inl, inr, ⊎_elim, take, Global}
use Rattle.std.specs.String.{string_bytes, string_cmp}
use Rattle.std.specs.declared.string.String.{String}
use Rattle.ll_tree.specs.declared.tree.TheConstants.{MOST_NODES}
use Rattle.ll_tree.specs.declared.tree.Object.{Object}
use Rattle.ll_tree.specs.declared.place.NodeId.{NodeId}
use Rattle.ll_tree.specs.TreeFacts.{spelt, named, IsTree, depth_at}
use Rattle.ll_tree.specs.Trees.{Entry, root, path_at, kind_at, IsNode, is_dir, is_dir_in, position_of, node_at, parent_of, parent_at, gap_in, place_or_gap}
use Rattle.ll_tree.specs.Trees.{place}
use Rattle.ll_tree.specs.Kept.{entry_of, entries_of, IsOf, IsSound, number_of, mark_at}
use Rattle.ll_tree.specs.Chains.{text_mark, slot_in, head_in}
use Rattle.std.proofs.lemmas.List.{length-map, map-append, get_or-map, length-append, length_push, get_or_append_left, get_or_push, take-append-le, take_at}
use Rattle.std.specs.Prelude.{◌≢◌, IsTrue, is_some}
use Rattle.std.specs.Option.{option_map}
use Rattle.std.specs.List.{list_all, join_with_byte}
use Rattle.std.proofs.lemmas.Bool.{cases_lt, leb-true, and_parts}
use Rattle.std.proofs.lemmas.Option.{none-some}
use Rattle.ll_rights.specs.declared.kind.Kind.{Kind}
use Rattle.ll_rights.specs.declared.kind.Kind.TheVariants.{Dir}
use Rattle.ll_tree.specs.declared.place.Place.TheVariants as places
use Rattle.ll_lines.specs.declared.path.TheConstants.{LONGEST_PATH}
use Rattle.ll_lines.specs.Paths.{Path, is_name, path_of, front, path_eq, after_slash, names_in, is_path, text_of}
use Rattle.ll_tree.proofs.Positions.{path_in, at_position, position_of-some, position_of-kept, is_dir_in-from_index, node, is_root, parent_of-root}
use Rattle.ll_tree.proofs.Positions.{parent_of-other, parent_found, empty_or_not, is_dir-Dir, spelt_is, place_is, node_at-position, position_of-push}
use Rattle.ll_tree.proofs.Positions.{root_tree, path_eq-root}
use Rattle.ll_lines.proofs.PathLaws.{is_path-path_of, text_of-path_of, bytes_eq-text_of}
use Rattle.std.specs.BTreeMap.{BTreeMap, UpdatesBy}
use Rattle.std.specs.Cmp.Lexicographic.{slice_cmp}
use Rattle.std.specs.Ordering.{nat_cmp, is_eq}
use Rattle.std.specs.Str.{bytes_eq}
use Rattle.std.proofs.lemmas.Map.Text.{btree_map_updates_text, is_eq-slice_cmp}

-- ---- what a read of an object says of the tree's entries

pub length-entries_of : (objects : List Object) → length (entries_of objects) ≡ length objects
unfolding entries_of
length-entries_of objects = length-map objects entry_of

pub get_or-entries_of : (objects : List Object) (index : ℕ) (other : Object) → index < length objects
    → get_or (entries_of objects) index root ≡ entry_of (get_or objects index other)
unfolding entries_of
get_or-entries_of objects index other within = get_or-map entry_of objects index other root within

pub entries_of-push : (objects : List Object) (object : Object) → entries_of (objects ++ object ∷ []) ≡ entries_of objects ++ entry_of object ∷ []
unfolding entries_of
entries_of-push objects object = map-append entry_of objects (object ∷ [])

module _ (objects : List Object) (value : List Entry) (is : entries_of objects ≡ value) where
  -- there are as many objects as entries
  pub length_is : length value ≡ length objects
  length_is = ap length (sym is) ∙ length-entries_of objects

  pub within_is : (index : ℕ) → index < length value → index < length objects
  within_is index within = let same = length_is in omega arith

  module _ (node : NodeId) (object : Object) (within : node.0 < length value) (found : object ≡ get_or objects node.0 object) where
    entry_is : entry_of object ≡ get_or value node.0 root
    entry_is = ap entry_of found ∙ sym (get_or-entries_of objects node.0 object (within_is node.0 within)) ∙ ap (λ es. get_or es node.0 root) is

    pub kind_is : object.kind ≡ kind_at value node
    unfolding kind_at entry_of
    kind_is = ap (λ (e : Entry). e.kind) entry_is

    pub path_is : path_at value node ≡ spelt (string_bytes object.text)
    unfolding path_at entry_of
    path_is = sym (ap (λ (e : Entry). e.path) entry_is)

    pub of_node : {A : Type 0} (numbers : List (String A × ℕ)) (heads : List ℕ) → IsSound objects numbers heads → IsOf value node.0 object
    of_node numbers heads sound =
        rw found (subst (λ (entries : List Entry). IsOf entries node.0 (get_or objects node.0 object)) is (sound.each node.0 object (within_is node.0 within)))

-- ---- a tree with one more object is a tree

-- what holds where an entry can be added in a directory
pub record Fits (tree : List Entry) (new : Entry) (up : NodeId) : Type 0 where
  pub is_path : is_path new.path ≡ true
  pub fresh : position_of new.path tree ≡ None
  pub above : node_at tree (front new.path) ≡ Some up
  pub is_dir : kind_at tree up ≡ Dir

-- the path that names a gap
gap_dir : (tree : List Entry) (found : Option NodeId) (up : NodeId) → gap_in tree found ≡ places.Gap up → (found ≡ Some up) × (is_dir (kind_at tree up) ≡ true)
unfolding gap_in
gap_dir tree None up is = cc
gap_dir tree (Some dir) up is = go (is_dir (kind_at tree dir)) refl is where
  go : (b : Bool) → is_dir (kind_at tree dir) ≡ b → cond b (places.Gap dir) places.Nowhere ≡ places.Gap up
      → (Some dir ≡ Some up) × (is_dir (kind_at tree up) ≡ true)
  go true test same = let dirs : dir ≡ up = cc in (ap (λ (n : NodeId). Some n) dirs, ap (λ n. is_dir (kind_at tree n)) (sym dirs) ∙ test)
  go false test same = cc

pub gap_fits : (tree : List Entry) (text : List ℕ) (kind : Kind) (up : NodeId) → is_some (path_of text) ≡ true → place tree text ≡ places.Gap up
    → Fits tree (named text kind) up
unfolding place_or_gap node_at
gap_fits tree text kind up shape is = go (position_of (spelt text) tree) refl (place_is tree text shape ∙ is) where
  go : (found : Option ℕ) → position_of (spelt text) tree ≡ found → place_or_gap tree (spelt text) (option_map node found) ≡ places.Gap up
      → Fits tree (named text kind) up
  go (Some number) eq same = cc
  go None eq same =
      let dir = gap_dir tree (node_at tree (front (spelt text))) up same in
      record { is_path = is_path-path_of text (spelt text) (spelt_is text shape); fresh = eq; above = dir.0; is_dir = is_dir-Dir (kind_at tree up) dir.1 }

eq_or_not : (a b : ℕ) → (a ≡ b) ⊎ (a ≢ b)
eq_or_not a b = elim (cases_lt a b) [
  | inl less ↦ inr (λ same. omega arith)
  | inr more ↦ elim (cases_lt b a) [ inl less ↦ inr (λ same. omega arith) | inr equal ↦ inl (omega arith) ]
]

-- what holds of each item by its place, and of a new one at the end
pub each_push : {X : Type 0} (P : ℕ → X → Type 0) (xs : List X) (x other : X) → ((n : ℕ) → n < length xs → P n (get_or xs n other)) → P (length xs) x → (n : ℕ)
    → n < length (xs ++ x ∷ []) → P n (get_or (xs ++ x ∷ []) n other)
each_push P xs x other all last n within = elim (cases_lt n (length xs)) [
  | inl before ↦ rw (get_or_append_left xs (x ∷ []) other n before) (all n before)
  | inr after ↦
      (let size = length_push xs x in
      let end : length xs ≡ n = omega arith in
      subst (λ m. P m (get_or (xs ++ x ∷ []) m other)) end (rw (get_or_push xs x other (length xs) refl) last))
]

pub path_at-old : (tree : List Entry) (new : Entry) (here : NodeId) → IsNode tree here → path_at (tree ++ new ∷ []) here ≡ path_at tree here
unfolding path_at
path_at-old tree new here within = ap (λ (e : Entry). e.path) (get_or_append_left tree (new ∷ []) root here.0 within)

length-front : (path : Path) → path ≢ [] → length path ≡ length (front path) + 1
unfolding front
length-front [] other = absurd (other refl)
length-front (name ∷ []) other = refl
length-front (name ∷ next ∷ names) other = let rest = length-front (next ∷ names) (λ e. cc) in omega arith

module _ (tree : List Entry) (new : Entry) (up : NodeId) (listed : IsTree tree) (fits : Fits tree new up) where
  -- the directory above the new entry, in the tree
  pub above_at : (up.0 < length tree) × (path_in tree up.0 ≡ front new.path)
  above_at = at_position (front new.path) tree up.0 (node_at-position tree (front new.path) up fits.above)

  -- the new path is not an old one
  other_path : (here : NodeId) → IsNode tree here → path_at tree here ≢ new.path
  unfolding path_at
  other_path here within same =
      let found = position_of-some new.path tree here.0 within same in
      none-some found.0 (sym fits.fresh ∙ found.1)

  not_root : new.path ≢ []
  not_root top = other_path (node 0) listed.begins.0 (is_root tree listed ∙ sym top)

  pub grown : IsTree (tree ++ new ∷ [])
  unfolding path_at kind_at
  grown =
      let both : List Entry = tree ++ new ∷ [] in
      let size = length_push tree new in
      record {
        begins = (let some = listed.begins.0 in omega arith, get_or_append_left tree (new ∷ []) root 0 listed.begins.0 ∙ listed.begins.1);
        paths = λ here within. each_push (λ n e. IsTrue (Rattle.ll_lines.specs.Paths.is_path e.path)) tree new root
            (λ n inside. listed.paths (node n) inside) fits.is_path here.0 within;
        distinct = λ a b a_within b_within same. ap node (each_push (λ n e. (m : ℕ) → m < length both → e.path ≡ path_in both m → n ≡ m) tree new root
            (λ n inside. each_push (λ m e. path_in tree n ≡ e.path → n ≡ m) tree new root
            (λ m m_inside is. ap (λ (here : NodeId). here.0) (listed.distinct (node n) (node m) inside m_inside is))
            (λ is. absurd (other_path (node n) inside is)))
            (each_push (λ m e. new.path ≡ e.path → length tree ≡ m) tree new root
            (λ m m_inside is. absurd (other_path (node m) m_inside (sym is))) (λ is. refl))
            a.0 a_within b.0 b_within same);
        above = λ here within later. each_push (λ n e. 0 < n → IsTrue (is_dir_in (take n both) (front e.path))) tree new root
            (λ n inside deeper. rw (take-append-le n tree (new ∷ []) (omega arith)) (listed.above (node n) inside deeper))
            (λ deeper. rw (take_at tree (new ∷ []) (length tree) refl)
            (is_dir_in-from_index (front new.path) tree up.0 above_at.0 above_at.1 (ap (λ k. Rattle.ll_tree.specs.Trees.is_dir k) fits.is_dir)))
            here.0 within later;
      }

  -- what is found of an old path stays
  node_at-kept : (path : Path) (found : NodeId) → node_at tree path ≡ Some found → node_at (tree ++ new ∷ []) path ≡ Some found
  unfolding node_at
  node_at-kept path found is = ap (option_map node) (position_of-kept path tree new found.0 (node_at-position tree path found is))

  -- the parent of an old node stays
  pub parent_at-old : (here : NodeId) → IsNode tree here → parent_at (tree ++ new ∷ []) here ≡ parent_at tree here
  unfolding parent_at
  parent_at-old here within =
      ap (parent_of (tree ++ new ∷ [])) (path_at-old tree new here within) ∙ ⊎_elim
      (λ (top : path_at tree here ≡ []). parent_of-root (tree ++ new ∷ []) (path_at tree here) top ∙ sym (parent_of-root tree (path_at tree here) top))
      (λ (other : path_at tree here ≢ []).
      let found = parent_found tree here listed within other in
      let there : node_at tree (front (path_at tree here)) ≡ Some found.0 = sym (parent_of-other tree (path_at tree here) other) ∙ found.1 in
      parent_of-other (tree ++ new ∷ []) (path_at tree here) other ∙ node_at-kept (front (path_at tree here)) found.0 there ∙ sym found.1)
      (empty_or_not (path_at tree here))

  -- the parent of the new one
  pub parent_at-new : parent_at (tree ++ new ∷ []) (node (length tree)) ≡ Some up
  unfolding parent_at path_at
  parent_at-new =
      ap (λ (e : Entry). parent_of (tree ++ new ∷ []) e.path) (get_or_push tree new root (length tree) refl)
      ∙ parent_of-other (tree ++ new ∷ []) new.path not_root ∙ node_at-kept (front new.path) up fits.above

  pub depth_at-old : (here : NodeId) → IsNode tree here → depth_at (tree ++ new ∷ []) here ≡ depth_at tree here
  unfolding depth_at
  depth_at-old here within = ap length (path_at-old tree new here within)

  -- the new one is one deeper than its directory
  pub depth_at-new : depth_at (tree ++ new ∷ []) (node (length tree)) ≡ depth_at tree up + 1
  unfolding depth_at path_at
  depth_at-new =
      ap (λ (e : Entry). length e.path) (get_or_push tree new root (length tree) refl) ∙ length-front new.path not_root
      ∙ ap (λ p. length p + 1) (sym above_at.1)

-- a gap is in a node of the tree
pub gap_node : (tree : List Entry) (text : List ℕ) (kind : Kind) (up : NodeId) → IsTree tree → is_some (path_of text) ≡ true
    → place tree text ≡ places.Gap up → up.0 < length tree
gap_node tree text kind up listed shape is = (above_at tree (named text kind) up listed (gap_fits tree text kind up shape is)).0

length-join : (path : Path) → length path ≤ suc (length (join_with_byte 47 path))
length-join [] = omega arith
length-join (name ∷ []) = omega arith
length-join (name ∷ next ∷ names) =
    let rest = length-join (next ∷ names) in
    let size = length-append name (47 ∷ join_with_byte 47 (next ∷ names)) in
    omega arith

-- a path of at most 4,096 bytes has no more names
pub depth_small : (tree : List Entry) (here : NodeId) → IsTree tree → IsNode tree here → depth_at tree here ≤ LONGEST_PATH
unfolding depth_at Rattle.ll_lines.specs.Paths.is_path text_of
depth_small tree here listed within =
    let path = path_at tree here in
    let fits = (and_parts (list_all is_name path) (leb (length (text_of path)) LONGEST_PATH) (listed.paths here within)).1 in
    let short = leb-true (length (text_of path)) LONGEST_PATH fits in
    let names = length-join path in
    omega arith

-- ---- an object is put at the end

module _ {A : Type 0} (objects : List Object) (value : List Entry) (view : entries_of objects ≡ value) (numbers later : BTreeMap (String A) ℕ) (key : String A)
    (object : Object) (up : NodeId) (number : ℕ)
    (heads grown_heads : List ℕ)
    (sound : IsSound objects numbers.entries heads)
    (room : length value < MOST_NODES)
    (shape : is_some (path_of (string_bytes object.text)) ≡ true)
    (gap : place value (string_bytes object.text) ≡ places.Gap up)
    (same_text : string_bytes key ≡ string_bytes object.text)
    (counted : number ≡ length value)
    (parent : object.parent ≡ Some up)
    (deeper : object.depth ≡ depth_at value up + 1)
    (marked : object.mark ≡ text_mark (string_bytes object.text))
    (falls : object.next ≤ number)
    (ahead : (before : ℕ) → before < number → before < head_in heads (slot_in (text_mark (string_bytes object.text))) → before < object.next)
    (this : number < head_in grown_heads (slot_in (text_mark (string_bytes object.text))))
    (others : (slot : ℕ) → slot ≢ slot_in (text_mark (string_bytes object.text)) → head_in grown_heads slot ≡ head_in heads slot)
    (updates : UpdatesBy string_cmp (λ k. slice_cmp nat_cmp (string_bytes key) (string_bytes k)) numbers later (Some number))
  where
    listed : IsTree value
    listed = subst IsTree view sound.listed

    abbrev path : Path
    path = spelt (string_bytes object.text)

    abbrev new : Entry
    new = named (string_bytes object.text) object.kind

    fits : Fits value new up
    fits = gap_fits value (string_bytes object.text) object.kind up shape gap

    listed_push : entries_of (objects ++ object ∷ []) ≡ value ++ new ∷ []
    unfolding entry_of
    listed_push = entries_of-push objects object ∙ ap (λ es. es ++ new ∷ []) view

    found_later : (other : Path) → is_path other ≡ true → number_of later.entries (text_of other) ≡ position_of other (value ++ new ∷ [])
    found_later other other_shape =
        let text_is : text_of path ≡ string_bytes key =
        text_of-path_of (string_bytes object.text) path (spelt_is (string_bytes object.text) shape) ∙ sym same_text in
        let tests : bytes_eq (string_bytes key) (text_of other) ≡ path_eq path other =
        ap (λ t. bytes_eq t (text_of other)) (sym text_is) ∙ bytes_eq-text_of path other fits.is_path other_shape in
        btree_map_updates_text (string_bytes key) numbers later (Some number) updates (text_of other)
        ∙ ap (λ b. cond b (Some number) (number_of numbers.entries (text_of other))) tests
        ∙ ap (λ n. cond (path_eq path other) (Some n) (number_of numbers.entries (text_of other))) counted
        ∙ ap (cond (path_eq path other) (Some (length value))) (sound.found other other_shape ∙ ap (position_of other) view)
        ∙ sym (position_of-push other value new fits.fresh)

    own_text : text_of path ≡ string_bytes object.text
    own_text = text_of-path_of (string_bytes object.text) path (spelt_is (string_bytes object.text) shape)

    mark_at-old : (n : ℕ) → n < length value → mark_at (value ++ new ∷ []) n ≡ mark_at value n
    unfolding mark_at
    mark_at-old n within = ap (λ p. text_mark (text_of p)) (path_at-old value new (node n) within)

    path_at-new : path_at (value ++ new ∷ []) (node (length value)) ≡ path
    unfolding path_at
    path_at-new = ap (λ (e : Entry). e.path) (get_or_push value new root (length value) refl)

    mark_at-new : mark_at (value ++ new ∷ []) (length value) ≡ text_mark (string_bytes object.text)
    unfolding mark_at path_at
    mark_at-new = ap (λ (e : Entry). text_mark (text_of e.path)) (get_or_push value new root (length value) refl) ∙ ap text_mark own_text

    -- the heads are over each node
    first_old : (n : ℕ) → n < length value → n < head_in heads (slot_in (mark_at value n))
    first_old n within =
        subst (λ (es : List Entry). n < head_in heads (slot_in (mark_at es n))) view (sound.first n (let same = length_is objects value view in omega arith))

    first_push : (n : ℕ) → n < suc (length value) → n < head_in grown_heads (slot_in (mark_at (value ++ new ∷ []) n))
    first_push n within = elim (cases_lt n (length value)) [
      | inl before ↦ rw (mark_at-old n before) (elim (eq_or_not (slot_in (mark_at value n)) (slot_in (text_mark (string_bytes object.text)))) [
        | inl same ↦ rw same (let over = this in omega (arith, counted))
        | inr other ↦ rw (others (slot_in (mark_at value n)) other) (first_old n before)
      ])
      | inr after ↦ (let end : length value ≡ n = omega arith in
          subst (λ m. m < head_in grown_heads (slot_in (mark_at (value ++ new ∷ []) m))) end (rw (mark_at-new, ← counted) this))
    ]

    sound_push : IsSound (objects ++ object ∷ []) later.entries grown_heads
    sound_push = record {
      listed = rw listed_push (grown value new up listed fits);
      small = let pushed = length_push objects object in let same = length_is objects value view in omega arith;
      found = λ other shape. rw listed_push (found_later other shape);
      each = λ n other within. rw listed_push (each_push (λ n (o : Object). IsOf (value ++ new ∷ []) n o) objects object other
          (λ n inside. let there : n < length value = let same = length_is objects value view in omega arith in
          let before : IsOf value n (get_or objects n other) =
          subst (λ (es : List Entry). IsOf es n (get_or objects n other)) view (sound.each n other inside) in
          record {
            parent = before.parent ∙ sym (parent_at-old value new up listed fits (node n) there);
            depth = before.depth ∙ sym (depth_at-old value new up listed fits (node n) there);
            mark = before.mark ∙ sym (mark_at-old n there);
            text = before.text ∙ sym (ap text_of (path_at-old value new (node n) there));
            falls = before.falls;
            next = λ m earlier same. before.next m earlier
                (sym (ap slot_in (mark_at-old m (omega arith))) ∙ same ∙ ap slot_in (mark_at-old n there));
          })
          (rw (← length_is objects value view)
          record {
            parent = parent ∙ sym (parent_at-new value new up listed fits);
            depth = deeper ∙ sym (depth_at-new value new up listed fits);
            mark = marked ∙ sym mark_at-new;
            text = sym own_text ∙ sym (ap text_of path_at-new);
            falls = rw (← counted) falls;
            next = λ m earlier same. ahead m (omega (arith, counted))
                (subst (λ slot. m < head_in heads slot) (sym (ap slot_in (mark_at-old m earlier)) ∙ same ∙ ap slot_in mark_at-new) (first_old m earlier));
          })
          n within);
      first = λ n within. rw listed_push (first_push n (let size = length_push objects object in let same = length_is objects value view in omega arith));
    }

    pub pushed : IsSound (objects ++ object ∷ []) later.entries grown_heads × (entries_of (objects ++ object ∷ []) ≡ value ++ new ∷ [])
    pushed = (sound_push, listed_push)

-- ---- the root alone

module _ {A : Type 0} (key : String A) (text : String Global) (key_text : string_bytes key ≡ 47 ∷ []) (own_text : string_bytes text ≡ 47 ∷ [])
    (mark : ℕ) (heads : List ℕ) (marked : mark ≡ text_mark (47 ∷ [])) (over : 1 ≤ head_in heads (slot_in (text_mark (47 ∷ []))))
  where
    abbrev object : Object
    object = record { text = text; kind = Dir; parent = None; depth = 0; mark = mark; next = 0; behind = 0 }

    entries_root : entries_of (object ∷ []) ≡ root ∷ []
    unfolding entries_of entry_of path_of after_slash names_in
    entries_root = ap (λ t. named t Dir ∷ []) own_text

    found_root : (path : Path) → is_path path ≡ true → number_of ((key, 0) ∷ []) (text_of path) ≡ position_of path (root ∷ [])
    unfolding position_of text_of is_path
    found_root path shape =
        let tests : is_eq (slice_cmp nat_cmp (text_of path) (string_bytes key)) ≡ path_eq [] path =
        is_eq-slice_cmp (text_of path) (string_bytes key) ∙ ap (bytes_eq (text_of path)) key_text ∙ bytes_eq-text_of path [] shape refl ∙ path_eq-root path in
        ap (λ b. cond b (Some 0) None) tests

    each_root : (number : ℕ) (other : Object) → number < 1 → IsOf (root ∷ []) number (get_or (object ∷ []) number other)
    unfolding parent_at parent_of depth_at path_at mark_at text_of
    each_root number other within =
        let first : 0 ≡ number = omega arith in
        let zeroth : IsOf (root ∷ []) 0 object =
        record { parent = refl; depth = refl; mark = marked; text = own_text; falls = omega arith; next = λ before earlier same. absurd (omega arith) } in
        subst (λ n. IsOf (root ∷ []) n (get_or (object ∷ []) n other)) first zeroth

    first_root : (number : ℕ) → number < 1 → number < head_in heads (slot_in (mark_at (root ∷ []) number))
    unfolding mark_at path_at text_of
    first_root number within = let first : 0 ≡ number = omega arith in subst (λ n. n < head_in heads (slot_in (mark_at (root ∷ []) n))) first over

    -- what is kept of the root
    pub kept_root : IsSound (object ∷ []) ((key, 0) ∷ []) heads × (entries_of (object ∷ []) ≡ root ∷ [])
    kept_root = (
      record {
        listed = rw entries_root root_tree;
        small = omega arith;
        found = rw entries_root found_root;
        each = rw entries_root each_root;
        first = rw entries_root first_root;
      },
      entries_root,
    )
