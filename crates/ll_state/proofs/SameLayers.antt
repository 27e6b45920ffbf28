-- What the layers that are kept of a domain answer is what the same layers answer, one by one, in a state; and what
-- restricting itself answers a process.
use Rattle.std.proofs.Common.{◌≡◌, ℕ, List, Option, Some, None, refl, ap, sym, ◌≢◌, ◌||◌, ◌<◌, ◌≤◌, inl, inr, leb, true, false, [], ◌∷◌, ◌++◌, length, ◌∙◌}
use Rattle.std.proofs.Common.{arith, Bool, if◌then◌else◌}
use Rattle.std.specs.List.{AllZip}
use Rattle.ll_trace.proofs.Places.{first_place_inside}
use Rattle.ll_rights.specs.declared.kind.Kind.{Kind}
use Rattle.ll_rights.specs.declared.kind.Kind.TheVariants.{Reg, Char, Block}
use Rattle.ll_rights.specs.declared.net.Net.{Net}
use Rattle.ll_rights.specs.Rights.{truncate, ioctl_dev, only}
use Rattle.ll_tree.specs.declared.place.NodeId.{NodeId}
use Rattle.ll_tree.specs.declared.place.Place.{Place}
use Rattle.ll_tree.specs.declared.place.Place.TheVariants.{Node, Gap, Nowhere}
use Rattle.ll_lines.specs.Paths.{Path}
use Rattle.ll_tree.specs.Trees.{Entry, path_at, kind_at}
use Rattle.ll_rules.specs.declared.domain.TheConstants.{MOST_LAYERS}
use Rattle.ll_rules.specs.declared.errno.Errno.{Errno}
use Rattle.ll_rules.specs.declared.errno.Errno.TheVariants.{Acces, Perm, BadFd, TooBig}
use Rattle.ll_rules.specs.declared.moves.Move.{Move}
use Rattle.ll_rules.specs.Layers.{RulesOn, handles_nothing}
use Rattle.ll_rules.specs.KeptLayers.{SameRules, layer_at, domain_of}
use Rattle.ll_rules.specs.Checks.{refusing, refusing_port, refusing_mount}
use Rattle.ll_rules.specs.InTree.{all_in_tree, in_tree}
use Rattle.ll_rules.proofs.SameLayers.{refusing-same, refusing_port-same, refusing_mount-same, move_verdict-same, refusing_port-in_tree, refusing_mount-in_tree}
use Rattle.ll_trace.specs.declared.op.Mode.{Mode}
use Rattle.ll_semantics.specs.declared.request.Request.{Request}
use Rattle.ll_semantics.specs.States.{Layer, State}
use Rattle.ll_semantics.specs.Answers.{refused_by, of_request, of_verdict, of_move, fails, may_restrict, restrict_answer}
use Rattle.ll_semantics.specs.Effects.{opened_file, opened_kind, opened, with_layer}
use Rattle.std.proofs.lemmas.Bool.{le-leb}
use Rattle.std.proofs.lemmas.Bool.Decides.{leb_tells}
use Rattle.std.proofs.lemmas.List.{map-append, length-map}
use Rattle.std.proofs.lemmas.List.Elements.{All-push, AllZip-push, length_all_zip}
use Rattle.ll_rules.specs.declared.domain.LayerId.{LayerId}
use Rattle.ll_semantics.specs.declared.answer.Answer.TheVariants.{Allowed, Moot}
use Rattle.ll_semantics.specs.Worlds.{if_allowed}
use Rattle.ll_state.specs.declared.own_state.OwnState.{OwnState}
use Rattle.ll_semantics.specs.CallContexts.{CallContext}
use Rattle.ll_state.specs.Agreement.{Agrees, fails_by_layer}
use Rattle.ll_semantics.specs.RulesetOutcomes.{IsFrozen}

-- ports and mounts ask no path, so that the kept layers are asked as they are
pub refusing_port_in_tree : (tree : List Entry) (kept : List (RulesOn ℕ)) (port : ℕ) (wanted : Net)
    → refusing_port kept port wanted ≡ refusing_port (all_in_tree tree kept) port wanted
refusing_port_in_tree tree kept port wanted = sym (refusing_port-in_tree tree kept port wanted)

pub refusing_mount_in_tree : (tree : List Entry) (kept : List (RulesOn ℕ)) → refusing_mount kept ≡ refusing_mount (all_in_tree tree kept)
refusing_mount_in_tree tree kept = sym (refusing_mount-in_tree tree kept)

pub port_same : (a b : List Layer) (port : ℕ) (wanted : Net) → AllZip SameRules a b
    → refused_by Acces (refusing_port a port wanted) ≡ refused_by Acces (refusing_port b port wanted)
port_same a b port wanted same = ap (refused_by Acces) (refusing_port-same a b same port wanted)

pub mount_same : (a b : List Layer) → AllZip SameRules a b → refused_by Perm (refusing_mount a) ≡ refused_by Perm (refusing_mount b)
mount_same a b same = ap (refused_by Perm) (refusing_mount-same a b same)

pub request_same : (tree : List Entry) (a b : List Layer) (request : Option Request) → AllZip SameRules a b
    → of_request tree a request ≡ of_request tree b request
request_same tree a b None same = refl
request_same tree a b (Some request) same = ap (refused_by Acces) (refusing-same a b same (path_at tree request.node) request.rights)

pub move_same : (tree : List Entry) (a b : List Layer) (move : Option Move) → AllZip SameRules a b → of_move tree a move ≡ of_move tree b move
move_same tree a b None same = refl
move_same tree a b (Some move) same = ap of_verdict (move_verdict-same tree a b same move)

module _ (tree : List Entry) (a b : List Layer) (same : AllZip SameRules a b) where
  file_same : (path : Path) (mode : Mode) → opened_file (refusing a path (only truncate)) mode ≡ opened_file (refusing b path (only truncate)) mode
  file_same path mode = ap (λ (kept : List ℕ). opened_file kept mode) (refusing-same a b same path (only truncate))

  kind_same : (kind : Kind) (node : NodeId) (mode : Mode) → opened_kind tree a kind node mode ≡ opened_kind tree b kind node mode
  unfolding opened_kind
  kind_same Reg node mode = file_same (path_at tree node) mode
  kind_same Char node mode = cc (refusing-same a b same (path_at tree node) (only ioctl_dev))
  kind_same Block node mode = cc (refusing-same a b same (path_at tree node) (only ioctl_dev))
  kind_same kind node mode = refl

pub opened_same : (tree : List Entry) (a b : List Layer) (place : Place) (mode : Mode) → AllZip SameRules a b
    → opened tree a place mode ≡ opened tree b place mode
unfolding opened
opened_same tree a b (Node node) mode same = kind_same tree a b same (kind_at tree node) node mode
opened_same tree a b (Gap directory) mode same = file_same tree a b same (path_at tree directory) mode
opened_same tree a b Nowhere mode same = refl

-- ---- restricting

-- a process may restrict itself where its state says so
pub kept_may : (ctx : CallContext) (own : OwnState) (s : State) → Agrees ctx.tree ctx.layers own s → may_restrict s ≡ (own.no_new_privs || own.admin)
kept_may ctx own s agrees = rw (agrees.no_new_privs, agrees.admin) refl

-- a layer handles nothing where the ruleset does
same_nothing : (ctx : CallContext) (id : LayerId) (rules : Layer) → SameRules (in_tree ctx.tree (layer_at ctx.layers id)) rules
    → handles_nothing (layer_at ctx.layers id) ≡ handles_nothing rules
same_nothing ctx id rules same = rw (same.same_files, same.same_network) refl

-- a process that may not
pub restrict_denied : (ctx : CallContext) (layer : Option LayerId) (s : State) (rules : Option Layer) → may_restrict s ≡ false
    → IsFrozen ctx layer rules → fails_by_layer ctx.layers layer Perm ≡ restrict_answer s rules
unfolding restrict_answer IsFrozen fails_by_layer
restrict_denied ctx None s None denied frozen = rw denied refl
restrict_denied ctx None s (Some rules) denied frozen = absurd frozen
restrict_denied ctx (Some id) s None denied frozen = absurd frozen
restrict_denied ctx (Some id) s (Some rules) denied frozen = rw (denied, same_nothing ctx id rules frozen.1) refl

-- what fails leaves a state as it was, and what is moot too
pub failing_keeps : (layers : List (RulesOn ℕ)) (layer : Option LayerId) (error : Errno) (after before : State)
    → if_allowed (fails_by_layer layers layer error) after before ≡ before
unfolding fails_by_layer
failing_keeps layers None error after before = refl
failing_keeps layers (Some id) error after before = kept (handles_nothing (layer_at layers id))
  where
    kept : (nothing : Bool) → if_allowed (if nothing then Moot else fails error) after before ≡ before
    kept true = refl
    kept false = refl

-- one that may, and holds no ruleset
pub restrict_unheld : (ctx : CallContext) (s : State) (rules : Option Layer) → may_restrict s ≡ true → IsFrozen ctx None rules
    → fails BadFd ≡ restrict_answer s rules
unfolding restrict_answer IsFrozen
restrict_unheld ctx s None may frozen = rw may refl
restrict_unheld ctx s (Some rules) may frozen = absurd frozen

-- one that may, and has sixteen layers or more
pub restrict_full : (ctx : CallContext) (id : LayerId) (s : State) (rules : Option Layer) → may_restrict s ≡ true → MOST_LAYERS ≤ length s.domain
    → IsFrozen ctx (Some id) rules → fails_by_layer ctx.layers (Some id) TooBig ≡ restrict_answer s rules
unfolding restrict_answer IsFrozen fails_by_layer
restrict_full ctx id s None may full frozen = absurd frozen
restrict_full ctx id s (Some rules) may full frozen =
    rw (may, le-leb MOST_LAYERS (length s.domain) full, same_nothing ctx id rules frozen.1) refl

has_room : (layers : ℕ) → layers ≤ MOST_LAYERS → layers ≢ MOST_LAYERS → leb MOST_LAYERS layers ≡ false
has_room layers most other =
    elim (leb_tells MOST_LAYERS layers) [ inl full ↦ absurd (other (omega (arith, most, full.1))) | inr room ↦ room.0 ]

-- one that may, and has fewer
pub restrict_allowed : (ctx : CallContext) (id : LayerId) (s : State) (rules : Option Layer) → may_restrict s ≡ true → length s.domain ≤ MOST_LAYERS
    → length s.domain ≢ MOST_LAYERS → IsFrozen ctx (Some id) rules → Allowed ≡ restrict_answer s rules
unfolding restrict_answer IsFrozen
restrict_allowed ctx id s None may most other frozen = absurd frozen
restrict_allowed ctx id s (Some rules) may most other frozen = rw (may, has_room (length s.domain) most other) refl

-- a state has as many layers as what is kept of its process
pub length-domain : (ctx : CallContext) (own : OwnState) (s : State) → Agrees ctx.tree ctx.layers own s → length own.domain ≡ length s.domain
length-domain ctx own s agrees =
    sym (length-map (domain_of ctx.layers own.domain) (in_tree ctx.tree) ∙ length-map own.domain (layer_at ctx.layers))
    ∙ length_all_zip SameRules (all_in_tree ctx.tree (domain_of ctx.layers own.domain)) s.domain agrees.domain

-- one layer more, which is the ruleset as it is now
pub Agrees-with_layer : (ctx : CallContext) (own : OwnState) (s : State) (id : LayerId) (rules : Option Layer) (domain : List LayerId)
    → Agrees ctx.tree ctx.layers own s → IsFrozen ctx (Some id) rules → domain ≡ own.domain ++ id ∷ []
    → Agrees ctx.tree ctx.layers (record own { domain = domain }) (with_layer s rules)
unfolding IsFrozen
Agrees-with_layer ctx own s id None domain agrees frozen more = absurd frozen
Agrees-with_layer ctx own s id (Some rules) domain agrees frozen more = record {
  no_new_privs = agrees.no_new_privs;
  admin = agrees.admin;
  indices = rw more (All-push (λ (other : LayerId). other.0 < length ctx.layers) own.domain id agrees.indices frozen.0);
  domain = rw (
    more,
    map-append (layer_at ctx.layers) own.domain (id ∷ []),
    map-append (in_tree ctx.tree) (domain_of ctx.layers own.domain) (layer_at ctx.layers id ∷ []),
  )
      (AllZip-push SameRules (all_in_tree ctx.tree (domain_of ctx.layers own.domain)) s.domain
      (in_tree ctx.tree (layer_at ctx.layers id)) rules agrees.domain frozen.1);
  descriptors = agrees.descriptors;
}

-- what the same layers answer, at the place that a call names
pub ruleset same_answers = (request_same, move_same, port_same, mount_same, first_place_inside)

pub ruleset same_openings = (request_same, opened_same, first_place_inside)
