-- The layers that an explanation names are those that refuse.
use Rattle.std.proofs.Common.{◌≡◌, ℕ, ◌+◌, Bool, true, false, not, ◌&&◌, ◌||◌, List, [], ◌∷◌, ◌++◌, map, filter, Option, Some, None, refl, sym, ap, ◌∙◌, subst}
use Rattle.std.proofs.Common.{inl, inr, is_some, if◌then◌else◌}
use Rattle.std.specs.List.{list_any}
use Rattle.std.proofs.lemmas.Bool.{cases_Bool}
use Rattle.std.proofs.lemmas.List.Folds.{list_any-append}
use Rattle.ll_rights.specs.declared.net.Net.{Net}
use Rattle.ll_rights.specs.declared.kind.Kind.{Kind}
use Rattle.ll_rights.specs.Rights.{FsRight, refer, truncate, ioctl_dev, is_right}
use Rattle.ll_rights.specs.Rights as files
use Rattle.ll_rights.specs.NetRights as network
use Rattle.ll_lines.specs.Paths.{Path, path_eq}
use Rattle.ll_tree.specs.Trees.{Entry, path_at, kind_at}
use Rattle.ll_tree.proofs.Positions.{same_path}
use Rattle.ll_rules.specs.declared.errno.Errno.{Errno}
use Rattle.ll_rules.specs.declared.errno.Errno.TheVariants.{Acces, XDev, Perm}
use Rattle.ll_rules.specs.declared.moves.Move.{Move}
use Rattle.ll_rules.specs.declared.moves.Target.{Target}
use Rattle.ll_rules.specs.declared.moves.Target.TheVariants.{New, Over}
use Rattle.ll_rules.specs.declared.moves.How.{How}
use Rattle.ll_rules.specs.declared.moves.How.TheVariants.{Rename, Exchange, Link}
use Rattle.ll_rules.specs.declared.moves.Verdict.{Verdict}
use Rattle.ll_rules.specs.declared.moves.Verdict.TheVariants as verdicts
use Rattle.ll_rules.specs.Layers.{handles, granted, granted_on_port}
use Rattle.ll_rules.specs.Checks.{numbers_from, numbers_where, lacks, refusing, lacks_on_port, refusing_port, refusing_mount}
use Rattle.ll_rules.specs.Moves.{source_of, destination_of, kind_there, asked_of_source, asked_of_destination, lacks_one_of, denies, gains, other_gains}
use Rattle.ll_rules.specs.Moves.{holds_back, move_verdict, refused_or}
use Rattle.ll_rules.proofs.Booleans.{or_assoc, or_and, list_any-agree, list_any-or}
use Rattle.ll_semantics.specs.declared.answer.Answer.{Answer}
use Rattle.ll_semantics.specs.declared.answer.Answer.TheVariants.{Allowed, Refused}
use Rattle.ll_semantics.specs.declared.request.Request.{Request}
use Rattle.ll_semantics.specs.Requests.{request, wanted}
use Rattle.ll_semantics.specs.States.{Layer, State}
use Rattle.ll_semantics.specs.Answers as answers
use Rattle.ll_trace.specs.declared.op.Op.{Op}
use Rattle.ll_trace.specs.declared.op.Op.TheVariants as calls
use Rattle.ll_semantics.specs.declared.answer.Descriptor.{Descriptor}
use Rattle.ll_rights.specs.declared.abi.Abi.{Abi}
use Rattle.ll_reasons.specs.Origins.{Origins}
use Rattle.ll_trace.specs.declared.op.Record.{Record}
use Rattle.ll_semantics.specs.Worlds.{World, answer_in, judged}
use Rattle.ll_semantics.specs.CallContexts.{world_at}
use Rattle.ll_semantics.proofs.Steps.{judged-at}
use Rattle.std.specs.Prelude.{slice_get}
use Rattle.std.proofs.lemmas.Option.{same_Some}
use Rattle.ll_reasons.specs.Explanations.{kept_by, objections_to, objections, explained, domain_at, origins_at, explained_at}
use Rattle.ll_reasons.proofs.DescriptorsMade.{descriptor_open}
use Rattle.ll_reasons.proofs.Shapes.{never_refused, can_there, can_free, can_allowed, can_create, can_add_path, can_add_port, can_restrict}
use Rattle.ll_reasons.specs.Objections.{Objection, mounting, missing_rights, closed_rights, gained_rights, one_of, if_any, on_path, on_port, on_mount, on_gain}
use Rattle.ll_reasons.specs.Objections.{on_directories, on_other_gain, on_crossing, of_layer, objecting_from, objecting, to_request, on_move, to_move}

-- ---- something is named just where a test passes

unfoldable pub has_some : {R : Type 0} → List R → Bool
has_some [] = false
has_some (x ∷ xs) = true

some-append : {R : Type 0} (xs ys : List R) → has_some (xs ++ ys) ≡ (has_some xs || has_some ys)
unfolding has_some
some-append [] ys = refl
some-append (x ∷ xs) ys = refl

some-if_any : {R : Type 0} (rights : List R) (objection : Objection) → has_some (if_any rights objection) ≡ has_some rights
unfolding has_some
some-if_any [] objection = refl
some-if_any (right ∷ rights) objection = refl

pub some-filter : {R : Type 0} (test : R → Bool) (xs : List R) → has_some (filter test xs) ≡ list_any test xs
unfolding has_some
some-filter test [] = refl
some-filter test (x ∷ xs) = elim (cases_Bool (test x)) [
  | inl passes ↦ rw passes refl
  | inr fails ↦ rw fails (some-filter test xs)
]

some-on_path : (path : Path) (asked : FsRight → Bool) (layer : Layer)
    → has_some (on_path path asked layer) ≡ files.is_lacking asked (handles layer) (granted layer path)
unfolding on_path files.some_right
some-on_path path asked layer =
    some-if_any (missing_rights layer path asked) _
    ∙ some-filter (λ right. asked right && handles layer right && not (granted layer path right)) files.all_rights

some-on_port : (port : ℕ) (wanted : Net) (layer : Layer) → has_some (on_port port wanted layer) ≡ lacks_on_port layer port wanted
unfolding on_port network.some_right
some-on_port port wanted layer =
    some-if_any (closed_rights layer port (network.has wanted)) _
    ∙ some-filter (λ right. network.has wanted right && network.has layer.handled_network right && not (granted_on_port layer port right)) network.all_rights

some-on_mount : (layer : Layer) → has_some (on_mount layer) ≡ not (files.is_empty layer.handled_files)
unfolding on_mount has_some
some-on_mount layer = by_test (files.is_empty layer.handled_files)
  where
    by_test : (b : Bool) → has_some (if b then [] else mounting ∷ []) ≡ not b
    by_test true = refl
    by_test false = refl

some-on_gain : (kind : Kind) (object directory : Path) (layer : Layer) → has_some (on_gain kind object directory layer) ≡ gains layer kind object directory
unfolding on_gain files.some_right
some-on_gain kind object directory layer =
    some-if_any (gained_rights layer kind object directory) _
    ∙ some-filter (λ right. granted layer directory right && _ && not (granted layer object right)) files.all_rights

-- ---- the numbers of the layers that object

numbers-of_layer : (number : ℕ) (named : List Objection) (rest : List (ℕ × List Objection))
    → map (λ said. said.0) (of_layer number named ++ rest) ≡ (if has_some named then number ∷ [] else []) ++ map (λ said. said.0) rest
unfolding has_some
numbers-of_layer number [] rest = refl
numbers-of_layer number (objection ∷ others) rest = refl

pub numbers-objecting : (named : Layer → List Objection) (test : Layer → Bool) → ((layer : Layer) → has_some (named layer) ≡ test layer)
    → (number : ℕ) (domain : List Layer)
    → map (λ said. said.0) (objecting_from named number domain) ≡ numbers_from test number domain
unfolding objecting_from numbers_from
numbers-objecting named test same number [] = refl
numbers-objecting named test same number (layer ∷ domain) =
    numbers-of_layer number (named layer) (objecting_from named (number + 1) domain)
    ∙ rw (same layer, numbers-objecting named test same (number + 1) domain) refl

-- ---- moves

spread : (a b h n : Bool) → ((a || b) && h && n) ≡ ((a && h && n) || (b && h && n))
spread a b h n = ap (λ (c : Bool). c && n) (or_and a b h) ∙ or_and (a && h) (b && h) n

lacks-append : (layer : Layer) (path : Path) (xs ys : List FsRight)
    → files.is_lacking (one_of (xs ++ ys)) (handles layer) (granted layer path) ≡ (lacks_one_of layer path xs || lacks_one_of layer path ys)
unfolding files.some_right
lacks-append layer path xs ys =
    let lacking : (FsRight → Bool) → FsRight → Bool = λ asked right. asked right && handles layer right && not (granted layer path right) in
    list_any-agree (lacking (one_of (xs ++ ys))) (λ right. lacking (one_of xs) right || lacking (one_of ys) right)
    (λ right. ap (λ (b : Bool). b && handles layer right && not (granted layer path right)) (list_any-append (is_right right) xs ys)
    ∙ spread (one_of xs right) (one_of ys right) (handles layer right) (not (granted layer path right)))
    files.all_rights
    ∙ list_any-or (lacking (one_of xs)) (lacking (one_of ys)) files.all_rights

together : (layer : Layer) (a b : Path) (xs ys : List FsRight) → a ≡ b
    → has_some (on_path a (one_of (xs ++ ys)) layer) ≡ (lacks_one_of layer a xs || lacks_one_of layer b ys)
together layer a b xs ys same =
    some-on_path a (one_of (xs ++ ys)) layer
    ∙ lacks-append layer a xs ys
    ∙ ap (λ (path : Path). lacks_one_of layer a xs || lacks_one_of layer path ys) same

apart : (layer : Layer) (a b : Path) (xs ys : List FsRight)
    → has_some (on_path a (one_of xs) layer ++ on_path b (one_of ys) layer) ≡ (lacks_one_of layer a xs || lacks_one_of layer b ys)
apart layer a b xs ys =
    some-append (on_path a (one_of xs) layer) (on_path b (one_of ys) layer)
    ∙ rw (some-on_path a (one_of xs) layer, some-on_path b (one_of ys) layer) refl

on_either : (layer : Layer) (a b : Path) (xs ys : List FsRight) (one : Bool) → path_eq a b ≡ one
    → has_some (if one then on_path a (one_of (xs ++ ys)) layer else on_path a (one_of xs) layer ++ on_path b (one_of ys) layer)
    ≡ (lacks_one_of layer a xs || lacks_one_of layer b ys)
on_either layer a b xs ys true is = together layer a b xs ys (same_path a b is)
on_either layer a b xs ys false is = apart layer a b xs ys

pub some-on_directories : (tree : List Entry) (move : Move) (layer : Layer) → has_some (on_directories tree move layer) ≡ denies tree move layer
unfolding on_directories
some-on_directories tree move layer =
    on_either layer (source_of tree move) (destination_of tree move.target)
    (asked_of_source move.how (kind_at tree move.moved) (kind_there tree move.target))
    (asked_of_destination (kind_at tree move.moved) (kind_there tree move.target))
    (path_eq (source_of tree move) (destination_of tree move.target)) refl

some-on_other_gain : (tree : List Entry) (move : Move) (how : How) (target : Target) (layer : Layer)
    → has_some (on_other_gain tree move how target layer) ≡ other_gains tree move layer how target
unfolding on_other_gain has_some
some-on_other_gain tree move Exchange (Over there) layer = some-on_gain (kind_at tree there) (path_at tree there) (source_of tree move) layer
some-on_other_gain tree move Exchange (New directory) layer = refl
some-on_other_gain tree move Rename target layer = refl
some-on_other_gain tree move Link target layer = refl

some-append_four : {R : Type 0} (w x y z : List R) → has_some (w ++ x ++ y ++ z) ≡ ((has_some w || has_some x) || (has_some y || has_some z))
some-append_four w x y z =
    some-append (w ++ x ++ y) z
    ∙ ap (λ (b : Bool). b || has_some z) (some-append (w ++ x) y ∙ ap (λ (b : Bool). b || has_some y) (some-append w x))
    ∙ or_assoc (has_some w || has_some x) (has_some y) (has_some z)

pub some-on_crossing : (tree : List Entry) (move : Move) (layer : Layer) → has_some (on_crossing tree move layer) ≡ holds_back tree move layer
unfolding on_crossing
some-on_crossing tree move layer =
    let source : Path = source_of tree move in
    let destination : Path = destination_of tree move.target in
    some-append_four (on_path source (one_of (refer ∷ [])) layer) (on_path destination (one_of (refer ∷ [])) layer)
    (on_gain (kind_at tree move.moved) (path_at tree move.moved) destination layer) (on_other_gain tree move move.how move.target layer)
    ∙ rw (
      some-on_path source (one_of (refer ∷ [])) layer,
      some-on_path destination (one_of (refer ∷ [])) layer,
      some-on_gain (kind_at tree move.moved) (path_at tree move.moved) destination layer,
      some-on_other_gain tree move move.how move.target layer,
    ) refl

-- ---- an answer by layers tells which error and which layers

by_layers : (e error : Errno) (found : List ℕ) (number : ℕ) (numbers : List ℕ) → answers.refused_by e found ≡ Refused error (number ∷ numbers)
    → found ≡ number ∷ numbers
by_layers e error [] number numbers is = cc
by_layers e error (x ∷ found) number numbers is = cc

request_numbers : (tree : List Entry) (domain : List Layer) (request : Option Request) (error : Errno) (number : ℕ) (numbers : List ℕ)
    → answers.of_request tree domain request ≡ Refused error (number ∷ numbers)
    → map (λ said. said.0) (to_request tree domain request) ≡ number ∷ numbers
unfolding to_request
request_numbers tree domain None error number numbers is = cc
request_numbers tree domain (Some request) error number numbers is =
    numbers-objecting (on_path (path_at tree request.node) (files.has request.rights)) (λ layer. lacks layer (path_at tree request.node) request.rights)
    (λ layer. some-on_path (path_at tree request.node) (files.has request.rights) layer) 1 domain
    ∙ by_layers Acces error (refusing domain (path_at tree request.node) request.rights) number numbers is

verdict_is : (v : Verdict) (error : Errno) (number : ℕ) (numbers : List ℕ) → answers.of_verdict v ≡ Refused error (number ∷ numbers)
    → v ≡ verdicts.Refused error (number ∷ numbers)
verdict_is verdicts.Passed error number numbers is = cc
verdict_is (verdicts.Refused e found) error number numbers is = cc

crossing_numbers : (tree : List Entry) (domain : List Layer) (move : Move) (one : Bool) (found : List ℕ) (error : Errno) (number : ℕ) (numbers : List ℕ)
    → found ≡ numbers_where (holds_back tree move) domain
    → (if one then verdicts.Passed else refused_or XDev found verdicts.Passed) ≡ verdicts.Refused error (number ∷ numbers)
    → map (λ said. said.0) (objecting (on_move tree move error) domain) ≡ number ∷ numbers
crossing_numbers tree domain move true found error number numbers from is = cc
crossing_numbers tree domain move false [] error number numbers from is = cc
crossing_numbers tree domain move false (x ∷ found) error number numbers from is =
    let by : XDev ≡ error = cc in
    let these : x ∷ found ≡ number ∷ numbers = cc in
    subst (λ (e : Errno). map (λ said. said.0) (objecting (on_move tree move e) domain) ≡ number ∷ numbers) by
    (numbers-objecting (on_move tree move XDev) (holds_back tree move) (λ layer. some-on_crossing tree move layer) 1 domain ∙ sym from ∙ these)

denied_numbers : (tree : List Entry) (domain : List Layer) (move : Move) (found : List ℕ) (error : Errno) (number : ℕ) (numbers : List ℕ)
    → found ≡ numbers_where (denies tree move) domain
    → refused_or Acces found (if path_eq (source_of tree move) (destination_of tree move.target) then verdicts.Passed
    else refused_or XDev (numbers_where (holds_back tree move) domain) verdicts.Passed) ≡ verdicts.Refused error (number ∷ numbers)
    → map (λ said. said.0) (objecting (on_move tree move error) domain) ≡ number ∷ numbers
denied_numbers tree domain move [] error number numbers from is =
    crossing_numbers tree domain move (path_eq (source_of tree move) (destination_of tree move.target))
    (numbers_where (holds_back tree move) domain) error number numbers refl is
denied_numbers tree domain move (x ∷ found) error number numbers from is =
    let by : Acces ≡ error = cc in
    let these : x ∷ found ≡ number ∷ numbers = cc in
    subst (λ (e : Errno). map (λ said. said.0) (objecting (on_move tree move e) domain) ≡ number ∷ numbers) by
    (numbers-objecting (on_move tree move Acces) (denies tree move) (λ layer. some-on_directories tree move layer) 1 domain ∙ sym from ∙ these)

move_numbers : (tree : List Entry) (domain : List Layer) (move : Option Move) (error : Errno) (number : ℕ) (numbers : List ℕ)
    → answers.of_move tree domain move ≡ Refused error (number ∷ numbers)
    → map (λ said. said.0) (to_move tree domain error move) ≡ number ∷ numbers
unfolding to_move move_verdict
move_numbers tree domain None error number numbers is = cc
move_numbers tree domain (Some move) error number numbers is =
    denied_numbers tree domain move (numbers_where (denies tree move) domain) error number numbers refl
    (verdict_is (move_verdict tree domain move) error number numbers is)

port_numbers : (domain : List Layer) (port : ℕ) (wanted : Net) (error : Errno) (number : ℕ) (numbers : List ℕ)
    → answers.refused_by Acces (refusing_port domain port wanted) ≡ Refused error (number ∷ numbers)
    → map (λ said. said.0) (objecting (on_port port wanted) domain) ≡ number ∷ numbers
port_numbers domain port wanted error number numbers is =
    numbers-objecting (on_port port wanted) (λ layer. lacks_on_port layer port wanted) (λ layer. some-on_port port wanted layer) 1 domain
    ∙ by_layers Acces error (refusing_port domain port wanted) number numbers is

mount_numbers : (domain : List Layer) (error : Errno) (number : ℕ) (numbers : List ℕ)
    → answers.refused_by Perm (refusing_mount domain) ≡ Refused error (number ∷ numbers)
    → map (λ said. said.0) (objecting on_mount domain) ≡ number ∷ numbers
mount_numbers domain error number numbers is =
    numbers-objecting on_mount (λ layer. not (files.is_empty layer.handled_files)) (λ layer. some-on_mount layer) 1 domain
    ∙ by_layers Perm error (refusing_mount domain) number numbers is

-- ---- descriptors

each_kept : (right : FsRight) (index : ℕ) (numbers : List ℕ) → map (λ said. said.0) (kept_by right numbers (Some index)) ≡ numbers
each_kept right index [] = refl
each_kept right index (number ∷ numbers) = ap (λ (rest : List ℕ). number ∷ rest) (each_kept right index numbers)

kept_numbers : (right : FsRight) (numbers : List ℕ) (opening : Option ℕ) → is_some opening ≡ true
    → map (λ said. said.0) (kept_by right numbers opening) ≡ numbers
kept_numbers right numbers None some = cc
kept_numbers right numbers (Some index) some = each_kept right index numbers

ftruncate_open : (held : Option Descriptor) (error : Errno) (number : ℕ) (numbers : List ℕ)
    → answers.ftruncate_answer held ≡ Refused error (number ∷ numbers) → is_some held ≡ true
unfolding answers.ftruncate_answer
ftruncate_open None error number numbers is = cc
ftruncate_open (Some held) error number numbers is = refl

ioctl_open : (held : Option Descriptor) (driver : Bool) (error : Errno) (number : ℕ) (numbers : List ℕ)
    → answers.ioctl_answer held driver ≡ Refused error (number ∷ numbers) → is_some held ≡ true
unfolding answers.ioctl_answer
ioctl_open None driver error number numbers is = cc
ioctl_open (Some held) driver error number numbers is = refl

opened_request : (held : Option Descriptor) (asked : Answer) (error : Errno) (number : ℕ) (numbers : List ℕ)
    → answers.if_free held asked ≡ Refused error (number ∷ numbers) → asked ≡ Refused error (number ∷ numbers)
opened_request None asked error number numbers is = is
opened_request (Some held) asked error number numbers is = absurd (cc)

-- ---- every call

pub call_numbers : (tree : List Entry) (abi : Abi) (rulesets : List Layer) (op : Op) (s : State) (o : Origins) (error : Errno) (number : ℕ) (numbers : List ℕ)
    → ((fd : ℕ) → is_some (o.openings fd) ≡ is_some (s.descriptors fd))
    → answers.answer tree abi rulesets op s ≡ Refused error (number ∷ numbers)
    → map (λ said. said.0) (objections_to tree s.domain o op error (number ∷ numbers)) ≡ number ∷ numbers
unfolding answers.answer objections_to
call_numbers tree abi rulesets (calls.Create rs fs net) s o error number numbers same is =
    never_refused _ _ _ _ error number numbers (can_create abi fs net (s.held rs)) is
call_numbers tree abi rulesets (calls.AddPath rs path fs) s o error number numbers same is =
    never_refused _ _ _ _ error number numbers (can_add_path tree path fs (answers.named rulesets (s.held rs))) is
call_numbers tree abi rulesets (calls.AddPort rs port net) s o error number numbers same is =
    never_refused _ _ _ _ error number numbers (can_add_port abi port net (answers.named rulesets (s.held rs))) is
call_numbers tree abi rulesets (calls.CloseRs rs) s o error number numbers same is = never_refused _ _ _ _ error number numbers (can_there (s.held rs)) is
call_numbers tree abi rulesets (calls.Restrict rs) s o error number numbers same is =
    never_refused _ _ _ _ error number numbers (can_restrict s (answers.named rulesets (s.held rs))) is
call_numbers tree abi rulesets (calls.OpenFile path fd mode create trunc) s o error number numbers same is =
    request_numbers tree s.domain _ error number numbers (opened_request (s.descriptors fd) _ error number numbers is)
call_numbers tree abi rulesets (calls.Adopt fd kind) s o error number numbers same is =
    never_refused _ _ _ _ error number numbers (can_free false (s.descriptors fd) Allowed can_allowed) is
call_numbers tree abi rulesets (calls.Dup fd to) s o error number numbers same is = never_refused _ _ _ _ error number numbers (can_there (s.descriptors fd)) is
call_numbers tree abi rulesets (calls.Close fd) s o error number numbers same is = never_refused _ _ _ _ error number numbers (can_there (s.descriptors fd)) is
call_numbers tree abi rulesets (calls.Ftruncate fd) s o error number numbers same is =
    kept_numbers truncate (number ∷ numbers) (o.openings fd) (same fd ∙ ftruncate_open (s.descriptors fd) error number numbers is)
call_numbers tree abi rulesets (calls.Ioctl fd driver) s o error number numbers same is =
    kept_numbers ioctl_dev (number ∷ numbers) (o.openings fd) (same fd ∙ ioctl_open (s.descriptors fd) driver error number numbers is)
call_numbers tree abi rulesets (calls.Rename from to exchange) s o error number numbers same is = move_numbers tree s.domain _ error number numbers is
call_numbers tree abi rulesets (calls.Link from to) s o error number numbers same is = move_numbers tree s.domain _ error number numbers is
call_numbers tree abi rulesets calls.Mount s o error number numbers same is = mount_numbers s.domain error number numbers is
call_numbers tree abi rulesets (calls.Bind port) s o error number numbers same is =
    port_numbers s.domain port (network.only network.bind_tcp) error number numbers is
call_numbers tree abi rulesets (calls.Connect port) s o error number numbers same is =
    port_numbers s.domain port (network.only network.connect_tcp) error number numbers is
call_numbers tree abi rulesets (calls.CreateEmpty rs) s o error number numbers same is =
    never_refused _ _ _ _ error number numbers (can_free false (s.held rs) Allowed can_allowed) is
call_numbers tree abi rulesets (calls.Start nnp admin) s o error number numbers same is = cc
call_numbers tree abi rulesets (calls.Fork child) s o error number numbers same is = cc
call_numbers tree abi rulesets calls.Exit s o error number numbers same is = cc
call_numbers tree abi rulesets calls.Nnp s o error number numbers same is = cc
call_numbers tree abi rulesets (calls.LeaveOutPath path) s o error number numbers same is = cc
call_numbers tree abi rulesets calls.LeaveOutPort s o error number numbers same is = cc
call_numbers tree abi rulesets op s o error number numbers same is = request_numbers tree s.domain (request tree (wanted op)) error number numbers is

-- ---- a process at an index, and the record there

pub numbers_at : (tree : List Entry) (abi : Abi) (records : List Record) (index process : ℕ) (op : Op) (error : Errno) (number : ℕ) (numbers : List ℕ)
    → answer_in tree abi (world_at tree abi records index) process op ≡ Refused error (number ∷ numbers)
    → map (λ said. said.0)
    (objections_to tree (domain_at tree abi records index process) (origins_at tree abi records index process) op error (number ∷ numbers)) ≡ number ∷ numbers
unfolding answer_in domain_at
numbers_at tree abi records index process op error number numbers is =
    let w : World = world_at tree abi records index in
    call_numbers tree abi w.rulesets op (w.processes process) (origins_at tree abi records index process) error number numbers
    (λ fd. descriptor_open tree abi records index process fd) is

pub record_numbers : (tree : List Entry) (abi : Abi) (records : List Record) (index : ℕ) (r : Record) (error : Errno) (number : ℕ) (numbers : List ℕ)
    → slice_get records index ≡ Some r → slice_get (judged tree abi records) index ≡ Some (Refused error (number ∷ numbers))
    → (said : List (ℕ × List Objection)) × (explained_at tree abi records index r (Refused error (number ∷ numbers)) ≡ objections said)
    × (map (λ one. one.0) said ≡ number ∷ numbers)
unfolding explained_at explained
record_numbers tree abi records index r error number numbers eq is =
    let answered : answer_in tree abi (world_at tree abi records index) r.process.0 r.op ≡ Refused error (number ∷ numbers) =
    same_Some _ _ (sym (judged-at tree abi records index r eq) ∙ is) in (
      objections_to tree (domain_at tree abi records index r.process.0) (origins_at tree abi records index r.process.0) r.op error (number ∷ numbers),
      refl,
      numbers_at tree abi records index r.process.0 r.op error number numbers answered,
    )
