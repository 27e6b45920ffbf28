-- What one layer objects to, as a value, and what all layers of a domain do.
use Rattle.std.proofs.Common.{◌≡◌, ◌∙◌, ℕ, suc, ◌+◌, ◌<◌, ◌≤◌, Bool, true, false, List, []}
use Rattle.std.proofs.Common.{◌∷◌, ◌++◌, length, take, get_or, refl, sym, ap, append_assoc, arith, inl, inr}
use Rattle.std.specs.Prelude.{filter, not, ◌&&◌, ◌||◌}
use Rattle.std.specs.List.{list_any}
use Rattle.std.proofs.lemmas.Bool.{cases_Bool, true≢false}
use Rattle.std.proofs.lemmas.List.{append-nil, length-take-le, get_or-map, length-map}
use Rattle.std.proofs.lemmas.List.Elements.{filter_agree}
use Rattle.std.proofs.Math.Seq.{take-suc, take-length}
use Rattle.ll_rights.specs.declared.fs.Fs.{Fs}
use Rattle.ll_rights.specs.declared.net.Net.{Net}
use Rattle.ll_rights.specs.declared.kind.Kind.{Kind}
use Rattle.ll_rights.specs.Rights as files
use Rattle.ll_rights.specs.NetRights as network
use Rattle.ll_rights.proofs.Sets.{net_has-only}
use Rattle.ll_lines.specs.Paths.{Path}
use Rattle.ll_tree.specs.Trees.{Entry, is_dir}
use Rattle.ll_rules.specs.Checks.{lacks_on_port}
use Rattle.ll_rules.specs.InTree.{all_in_tree, in_tree}
use Rattle.ll_rules.specs.Layers.{RulesOn, granted, granted_on_port, handles, without_rules}
use Rattle.ll_rules.specs.KeptLayers.{domain_of, layer_at}
use Rattle.ll_rules.specs.declared.domain.LayerId.{LayerId}
use Rattle.ll_rules.proofs.Booleans.{or_false, list_any-agree}
use Rattle.ll_semantics.specs.States.{Layer}
use Rattle.ll_reasons.specs.Objections.{Objection, closed, closed_rights, gained, if_any, missing}
use Rattle.ll_reasons.specs.Objections.{mounting, objecting_from, of_layer, on_gain, on_mount, on_path, on_port}
use Rattle.ll_explanations.specs.Lacked.{gainable, lacked}
use Rattle.ll_explanations.specs.Meanings.{IsOne, port_rights_in, rights_in}

-- ---- rights that pass a test

module _ {X : Type 0} (test : X → Bool) where
  pub filter-none : (xs : List X) → list_any test xs ≡ false → filter test xs ≡ []
  filter-none [] none = refl
  filter-none (x ∷ xs) none = elim (cases_Bool (test x)) [
    | inl passes ↦ absurd (true≢false (sym (rw passes refl) ∙ none))
    | inr fails ↦ rw fails (filter-none xs (sym (rw fails refl) ∙ none))
  ]

  pub if_any-some : (objection : Objection) (xs : List X) → list_any test xs ≡ true → if_any (filter test xs) objection ≡ objection ∷ []
  if_any-some objection [] some = absurd (true≢false (sym some))
  if_any-some objection (x ∷ xs) some = elim (cases_Bool (test x)) [
    | inl passes ↦ rw passes refl
    | inr fails ↦ rw fails (if_any-some objection xs (sym (rw fails refl) ∙ some))
  ]

not_true : (b : Bool) → not b ≡ true → b ≡ false
not_true false is = refl
not_true true is = absurd (true≢false (sym is))

not_false : (b : Bool) → not b ≡ false → b ≡ true
not_false true is = refl
not_false false is = absurd (true≢false is)

-- ---- rights on a path

module _ (layer : Layer) (path : Path) (asked set : Fs) (same : (right : files.FsRight) → files.has set right ≡ lacked layer path asked right) where
  missing_is : if_any (rights_in set) (missing (rights_in set) path) ≡ on_path path (files.has asked) layer
  unfolding on_path lacked rights_in
  missing_is =
      ap (λ rights. if_any rights (missing rights path))
      (filter_agree (files.has set) (λ right. files.has asked right && handles layer right && not (granted layer path right)) same files.all_rights)

  pub missing_none : files.is_empty set ≡ true → [] ≡ on_path path (files.has asked) layer
  unfolding files.some_right rights_in
  missing_none none =
      ap (λ rights. if_any rights (missing rights path))
      (sym (filter-none (files.has set) files.all_rights (not_true (list_any (files.has set) files.all_rights) none)))
      ∙ missing_is

  pub missing_some : files.is_empty set ≡ false → missing (rights_in set) path ∷ [] ≡ on_path path (files.has asked) layer
  unfolding files.some_right rights_in
  missing_some some =
      sym (if_any-some (files.has set) (missing (rights_in set) path) files.all_rights (not_false (list_any (files.has set) files.all_rights) some))
      ∙ missing_is

-- ---- rights that an object would gain

module _ (layer : Layer) (kind : Kind) (object directory : Path) (set : Fs)
    (same : (right : files.FsRight) → files.has set right ≡ gainable layer kind object directory right) where
  gained_is : if_any (rights_in set) (gained object (rights_in set) directory) ≡ on_gain kind object directory layer
  unfolding on_gain gainable rights_in
  gained_is =
      ap (λ rights. if_any rights (gained object rights directory))
      (filter_agree (files.has set) (λ right. granted layer directory right && (handles layer right && (is_dir kind || files.is_file_right right))
      && not (granted layer object right)) same files.all_rights)

  pub gained_none : files.is_empty set ≡ true → [] ≡ on_gain kind object directory layer
  unfolding files.some_right rights_in
  gained_none none =
      ap (λ rights. if_any rights (gained object rights directory))
      (sym (filter-none (files.has set) files.all_rights (not_true (list_any (files.has set) files.all_rights) none)))
      ∙ gained_is

  pub gained_some : files.is_empty set ≡ false → gained object (rights_in set) directory ∷ [] ≡ on_gain kind object directory layer
  unfolding files.some_right rights_in
  gained_some some =
      sym (if_any-some (files.has set) (gained object (rights_in set) directory) files.all_rights
      (not_false (list_any (files.has set) files.all_rights) some)) ∙ gained_is

-- ---- one right on a port

and_assoc : (a b c : Bool) → (a && b && c) ≡ (a && (b && c))
and_assoc true b c = refl
and_assoc false b c = refl

and_true_all : (a b : Bool) → b ≡ true → (a && b) ≡ a
and_true_all true b is = is
and_true_all false b is = refl

same_right : (right one : network.NetRight) (test : network.NetRight → Bool)
    → (network.is_right right one && test right) ≡ (network.is_right right one && test one)
same_right network.bind_tcp network.bind_tcp test = refl
same_right network.bind_tcp network.connect_tcp test = refl
same_right network.bind_tcp network.other test = refl
same_right network.connect_tcp network.bind_tcp test = refl
same_right network.connect_tcp network.connect_tcp test = refl
same_right network.connect_tcp network.other test = refl
same_right network.other network.bind_tcp test = refl
same_right network.other network.connect_tcp test = refl
same_right network.other network.other test = refl

only_one : (one : network.NetRight) (test : network.NetRight → Bool)
    → list_any (λ right. network.is_right right one && test right) network.all_rights ≡ test one
unfolding network.all_rights
only_one network.bind_tcp test = or_false (test network.bind_tcp)
only_one network.connect_tcp test = or_false (test network.connect_tcp)
only_one network.other test = or_false (test network.other)

module _ (layer : Layer) (port : ℕ) (one : network.NetRight) where
  unfoldable closed_there : network.NetRight → Bool
  closed_there right = network.has layer.handled_network right && not (granted_on_port layer port right)

  lacks_one : lacks_on_port layer port (network.only one) ≡ closed_there one
  unfolding network.some_right closed_there
  lacks_one =
      list_any-agree (λ right. network.has (network.only one) right && network.has layer.handled_network right && not (granted_on_port layer port right))
      (λ right. network.is_right right one && closed_there right)
      (λ right. ap (λ b. b && network.has layer.handled_network right && not (granted_on_port layer port right)) (net_has-only right one)
      ∙ and_assoc (network.is_right right one) (network.has layer.handled_network right) (not (granted_on_port layer port right))) network.all_rights
      ∙ only_one one closed_there

  just_one : closed_there one ≡ true → closed_rights layer port (network.has (network.only one)) ≡ port_rights_in (network.only one)
  unfolding port_rights_in closed_there
  just_one is =
      filter_agree (λ right. network.has (network.only one) right && network.has layer.handled_network right && not (granted_on_port layer port right))
      (network.has (network.only one))
      (λ right. ap (λ b. b && network.has layer.handled_network right && not (granted_on_port layer port right)) (net_has-only right one)
      ∙ and_assoc (network.is_right right one) (network.has layer.handled_network right) (not (granted_on_port layer port right))
      ∙ same_right right one closed_there ∙ and_true_all (network.is_right right one) (closed_there one) is ∙ sym (net_has-only right one))
      network.all_rights

  some_one : lacks_on_port layer port (network.only one) ≡ true → closed (port_rights_in (network.only one)) port ∷ [] ≡ on_port port (network.only one) layer
  unfolding on_port network.some_right
  some_one lacking =
      ap (λ rights. closed rights port ∷ []) (sym (just_one (sym lacks_one ∙ lacking)))
      ∙ sym (if_any-some (λ right. network.has (network.only one) right && network.has layer.handled_network right && not (granted_on_port layer port right))
      (closed (closed_rights layer port (network.has (network.only one))) port) network.all_rights lacking)

pub closed_some : (layer : Layer) (port : ℕ) (right : Net) → IsOne right → lacks_on_port layer port right ≡ true
    → closed (port_rights_in right) port ∷ [] ≡ on_port port right layer
closed_some layer port right one lacking =
    ap (λ set. closed (port_rights_in set) port ∷ []) one.same ∙ some_one layer port one.one (sym (ap (lacks_on_port layer port) one.same) ∙ lacking)
    ∙ ap (λ set. on_port port set layer) (sym one.same)

pub closed_none : (layer : Layer) (port : ℕ) (right : Net) → lacks_on_port layer port right ≡ false → [] ≡ on_port port right layer
unfolding on_port network.some_right
closed_none layer port right lacking =
    ap (λ rights. if_any rights (closed rights port))
    (sym (filter-none (λ one. network.has right one && network.has layer.handled_network one && not (granted_on_port layer port one)) network.all_rights
    lacking))

-- ---- what is mounted

pub mounting_some : (layer : Layer) → not (files.is_empty layer.handled_files) ≡ true → mounting ∷ [] ≡ on_mount layer
unfolding on_mount
mounting_some layer is = rw (not_true (files.is_empty layer.handled_files) is) refl

pub mounting_none : (layer : Layer) → not (files.is_empty layer.handled_files) ≡ false → [] ≡ on_mount layer
unfolding on_mount
mounting_none layer is = rw (not_false (files.is_empty layer.handled_files) is) refl

-- ---- layer after layer

objecting_from-push : (objections : Layer → List Objection) (number : ℕ) (layers : List Layer) (layer : Layer) →
    objecting_from objections number (layers ++ layer ∷ []) ≡ objecting_from objections number layers ++ of_layer (number + length layers) (objections layer)
unfolding objecting_from
objecting_from-push objections number [] layer =
    let same : number ≡ number + 0 = omega arith in
    append-nil (of_layer number (objections layer)) ∙ ap (λ n. of_layer n (objections layer)) same
objecting_from-push objections number (first ∷ layers) layer =
    let same : number + 1 + length layers ≡ number + suc (length layers) = omega arith in
    ap (λ said. of_layer number (objections first) ++ said)
    (objecting_from-push objections (number + 1) layers layer ∙ ap (λ n. objecting_from objections (number + 1) layers ++ of_layer n (objections layer)) same)
    ∙ sym (append_assoc (of_layer number (objections first)) (objecting_from objections (number + 1) layers)
    (of_layer (number + suc (length layers)) (objections layer)))

module _ (objections : Layer → List Objection) (tree : List Entry) (kept : List (RulesOn ℕ)) (ids : List LayerId) where
  abbrev layers : List Layer
  layers = all_in_tree tree (domain_of kept ids)

  layer_none : RulesOn ℕ
  layer_none = without_rules files.no_right network.no_right

  counted : length layers ≡ length ids
  counted = length-map (domain_of kept ids) (in_tree tree) ∙ length-map ids (layer_at kept)

  here_is : (k : ℕ) → k < length ids → get_or layers k (in_tree tree layer_none) ≡ in_tree tree (layer_at kept (get_or ids k (record { 0 = 0 })))
  here_is k there =
      let count : length (domain_of kept ids) ≡ length ids = length-map ids (layer_at kept) in
      get_or-map (in_tree tree) (domain_of kept ids) k layer_none (in_tree tree layer_none) (omega (arith, there, count))
      ∙ ap (in_tree tree) (get_or-map (layer_at kept) ids k (record { 0 = 0 }) layer_none there)

  pub objecting_more : (k : ℕ) → k < length ids →
      objecting_from objections 1 (take k layers) ++ of_layer (k + 1) (objections (in_tree tree (layer_at kept (get_or ids k (record { 0 = 0 })))))
      ≡ objecting_from objections 1 (take (k + 1) layers)
  objecting_more k there =
      let none = in_tree tree layer_none in
      let same : length layers ≡ length ids = counted in
      let within : k < length layers = omega (arith, there, same) in
      let here : Layer = get_or layers k none in
      let next : k + 1 ≡ suc k = omega arith in
      let count : 1 + length (take k layers) ≡ k + 1 = omega (arith, length-take-le k layers (omega (arith, within))) in
      ap (λ layer. objecting_from objections 1 (take k layers) ++ of_layer (k + 1) (objections layer)) (sym (here_is k there))
      ∙ ap (λ n. objecting_from objections 1 (take k layers) ++ of_layer n (objections here)) (sym count)
      ∙ sym (objecting_from-push objections 1 (take k layers) here)
      ∙ ap (objecting_from objections 1) (sym (take-suc layers k none within))
      ∙ ap (λ n. objecting_from objections 1 (take n layers)) (sym next)

  pub objecting_all : (k : ℕ) → k ≤ length ids → length ids ≤ k → objecting_from objections 1 (take k layers) ≡ objecting_from objections 1 layers
  objecting_all k within end =
      let same : length layers ≡ length ids = counted in
      let last : k ≡ length layers = omega (arith, within, end, same) in
      ap (λ n. objecting_from objections 1 (take n layers)) last ∙ ap (objecting_from objections 1) (take-length layers)
