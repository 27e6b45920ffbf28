-- What the condition of an error without layers says is so.
use Rattle.std.proofs.Common.{◌≡◌, ℕ, Bool, true, false, not, ◌&&◌, List, [], length, Option, Some, None, refl, sym, subst, nat_le, nat_lt, if◌then◌else◌}
use Rattle.ll_rights.specs.declared.net.TheConstants.{LARGEST_PORT}
use Rattle.ll_rights.specs.declared.abi.Abi.{Abi}
use Rattle.ll_rights.specs.declared.fs.Fs.{Fs}
use Rattle.ll_rights.specs.declared.net.Net.{Net}
use Rattle.ll_rights.specs.Abis.{knows_fs}
use Rattle.ll_rights.specs.Rights as files
use Rattle.ll_rights.specs.NetRights as network
use Rattle.ll_rules.specs.declared.domain.TheConstants.{MOST_LAYERS}
use Rattle.ll_rules.specs.declared.errno.Errno.{Errno}
use Rattle.ll_rules.specs.declared.errno.Errno.TheVariants.{Perm, Acces, BadFd, TooBig, Inval, NoMsg}
use Rattle.ll_rules.specs.Layers.{handles_nothing}
use Rattle.ll_rules.specs.Rulesets.{has_ports, knows_all, are_file_rights, RuleRefusal, with_error, place_refusal}
use Rattle.ll_tree.specs.declared.place.Place.{Place}
use Rattle.ll_tree.specs.declared.place.Place.TheVariants.{Node, Gap, Nowhere}
use Rattle.ll_tree.specs.Trees.{Entry, kind_at, is_dir, place}
use Rattle.ll_trace.specs.declared.op.Record.{Record}
use Rattle.ll_trace.specs.declared.op.Op.{Op}
use Rattle.ll_trace.specs.declared.op.Op.TheVariants as calls
use Rattle.ll_semantics.specs.declared.answer.Answer.TheVariants.{Allowed, Moot, Refused}
use Rattle.ll_semantics.specs.States.{State, Layer}
use Rattle.ll_semantics.specs.Answers as answers
use Rattle.ll_semantics.specs.Requests.{request, wanted}
use Rattle.ll_semantics.specs.Worlds.{World, answer_in}
use Rattle.ll_semantics.specs.CallContexts.{world_at}
use Rattle.ll_reasons.specs.Explanations.{origins_at}
use Rattle.ll_reasons.proofs.RulesetsMade.{ruleset_handles}
use Rattle.ll_reasons.specs.Origins.{Origins}
use Rattle.ll_reasons.specs.Conditions.{handled, handled_on_ports, of_create, invalid_on_path, of_add_path, invalid_on_port, of_add_port, of_restrict}
use Rattle.ll_reasons.specs.Conditions.{condition}
use Rattle.ll_reasons.specs.ConditionsHold.{files_of, paths_of, port_of, ports_of, ruleset_number, ruleset_of, IsCondition}
use Rattle.ll_reasons.proofs.Enough.{and_both, and_from}
use Rattle.ll_reasons.proofs.Named.{rights_named, port_rights_named}
use Rattle.ll_reasons.proofs.Shapes.{never_faulty, can_there, can_free, can_allowed, can_refused_by, can_request, can_move, can_ftruncate, can_ioctl}

not_true : (b : Bool) → not b ≡ true → b ≡ false
not_true true holds = cc
not_true false holds = refl

-- the error of an answer is the one that was found
by_error : (P : Errno → Type 0) (e error : Errno) → answers.fails e ≡ Refused error [] → P e → P error
by_error P e error is holds = (let same : e ≡ error = cc in subst P same holds)

-- ---- creating

by_create : (P : Errno → Type 0) (a b c : Bool) (error : Errno)
    → answers.unless (if a then Some TooBig else (if b then Some Inval else (if c then Some NoMsg else None))) ≡ Refused error []
    → (a ≡ true → P TooBig) → (b ≡ true → P Inval) → (c ≡ true → P NoMsg) → P error
by_create P true b c error is too_big inval no_msg = by_error P TooBig error is (too_big refl)
by_create P false true c error is too_big inval no_msg = by_error P Inval error is (inval refl)
by_create P false false true error is too_big inval no_msg = by_error P NoMsg error is (no_msg refl)
by_create P false false false error is too_big inval no_msg = absurd (cc)

create_condition : (abi : Abi) (rulesets : List Layer) (s : State) (rs : ℕ) (fs : Fs) (net : Net) (held : Option ℕ) (error : Errno)
    → answers.create_answer abi fs net held ≡ Refused error [] → IsCondition abi rulesets s (calls.Create rs fs net) (of_create abi fs error)
unfolding answers.create_answer of_create IsCondition files_of ports_of
create_condition abi rulesets s rs fs net (Some index) error is = absurd (cc)
create_condition abi rulesets s rs fs net None error is =
    by_create (λ (e : Errno). IsCondition abi rulesets s (calls.Create rs fs net) (of_create abi fs e))
    (not (network.is_empty net) && not (has_ports abi)) (not (knows_all abi fs net)) (files.is_empty fs && network.is_empty net) error is
    (λ a. (refl, not_true (has_ports abi) (and_both (not (network.is_empty net)) (not (has_ports abi)) a).1))
    (λ b. (refl, (λ right. rights_named (λ right. files.has fs right && not (knows_fs abi right)) right), not_true (knows_all abi fs net) b))
    (λ c. c)

-- ---- rules for files

by_rule : (P : Errno → Type 0) (a b : Bool) (rest : Option RuleRefusal) (error : Errno)
    → answers.of_rule_refusal (if a then Some (with_error NoMsg) else (if b then Some (with_error Inval) else rest)) ≡ Refused error []
    → (a ≡ true → P NoMsg) → (b ≡ true → P Inval) → (b ≡ false → answers.of_rule_refusal rest ≡ Refused error [] → P error) → P error
by_rule P true b rest error is no_msg inval last = by_error P NoMsg error is (no_msg refl)
by_rule P false true rest error is no_msg inval last = by_error P Inval error is (inval refl)
by_rule P false false rest error is no_msg inval last = last refl is

by_place : (P : Errno → Type 0) (tree : List Entry) (spot : Place) (fs : Fs) (error : Errno)
    → answers.of_rule_refusal (place_refusal tree spot fs) ≡ Refused error [] → (are_file_rights fs ≡ false → P Inval) → P error
by_place P tree (Gap node) fs error is inval = absurd (cc)
by_place P tree Nowhere fs error is inval = absurd (cc)
by_place P tree (Node node) fs error is inval = by_test (is_dir (kind_at tree node)) (are_file_rights fs) is inval
  where
    by_test : (d f : Bool) → answers.of_rule_refusal (if not d && not f then Some (with_error Inval) else None) ≡ Refused error []
        → (f ≡ false → P Inval) → P error
    by_test true f is inval = absurd (cc)
    by_test false true is inval = absurd (cc)
    by_test false false is inval = by_error P Inval error is (inval refl)

not_false : (b : Bool) → not b ≡ false → b ≡ true
not_false true holds = refl
not_false false holds = cc

no_ports : network.is_empty network.no_right ≡ true
unfolding network.has network.some_right network.all_rights
no_ports = refl

no_files : files.is_empty files.no_right ≡ true
unfolding files.has files.some_right files.all_rights files.named_rights
no_files = refl

invalid_beyond : (abi : Abi) (rulesets : List Layer) (s : State) (rs : ℕ) (path : List ℕ) (fs : Fs) (layer : Layer)
    → answers.named rulesets (s.held rs) ≡ Some layer → files.is_within fs layer.handled_files ≡ false
    → IsCondition abi rulesets s (calls.AddPath rs path fs) (invalid_on_path path fs layer.handled_files)
unfolding IsCondition files_of ruleset_of
invalid_beyond abi rulesets s rs path fs layer is beyond =
    rw beyond (layer, is, (λ right. rights_named (λ right. files.has fs right && not (files.has layer.handled_files right)) right), beyond)

invalid_for_directories : (abi : Abi) (rulesets : List Layer) (s : State) (rs : ℕ) (path : List ℕ) (fs : Fs) (layer : Layer)
    → files.is_within fs layer.handled_files ≡ true → are_file_rights fs ≡ false
    → IsCondition abi rulesets s (calls.AddPath rs path fs) (invalid_on_path path fs layer.handled_files)
unfolding IsCondition files_of paths_of
invalid_for_directories abi rulesets s rs path fs layer within not_files =
    rw within (refl, (λ right. rights_named (λ right. files.has fs right && not (files.is_file_right right)) right), not_files)

path_condition : (abi : Abi) (tree : List Entry) (rulesets : List Layer) (s : State) (rs : ℕ) (path : List ℕ) (fs whole : Fs) (rules : Option Layer)
    (error : Errno) → answers.named rulesets (s.held rs) ≡ rules → ((layer : Layer) → rules ≡ Some layer → whole ≡ layer.handled_files)
    → answers.add_path_answer tree path fs rules ≡ Refused error [] → IsCondition abi rulesets s (calls.AddPath rs path fs) (of_add_path rs path fs whole error)
unfolding answers.add_path_answer of_add_path IsCondition files_of ports_of ruleset_of ruleset_number
path_condition abi tree rulesets s rs path fs whole None error is handles asked =
    by_error (λ (e : Errno). IsCondition abi rulesets s (calls.AddPath rs path fs) (of_add_path rs path fs whole e)) BadFd error asked (refl, is)
path_condition abi tree rulesets s rs path fs whole (Some layer) error is handles asked =
    subst (λ (w : Fs). IsCondition abi rulesets s (calls.AddPath rs path fs) (of_add_path rs path fs w error)) (sym (handles layer refl))
    (by_rule (λ (e : Errno). IsCondition abi rulesets s (calls.AddPath rs path fs) (of_add_path rs path fs layer.handled_files e))
    (files.is_empty fs) (not (files.is_within fs layer.handled_files)) (place_refusal tree (place tree path) fs) error asked
    (λ a. and_from (files.is_empty fs) _ a no_ports)
    (λ b. invalid_beyond abi rulesets s rs path fs layer is (not_true (files.is_within fs layer.handled_files) b))
    (λ within refused. by_place (λ (e : Errno). IsCondition abi rulesets s (calls.AddPath rs path fs) (of_add_path rs path fs layer.handled_files e)) tree
    (place tree path) fs error refused
    (λ not_files. invalid_for_directories abi rulesets s rs path fs layer (not_false (files.is_within fs layer.handled_files) within) not_files)))

-- ---- rules for ports

by_port : (P : Errno → Type 0) (a b c d : Bool) (error : Errno)
    → answers.of_rule_refusal (if a then Some (with_error Inval)
    else (if b then Some (with_error NoMsg) else (if c then Some (with_error Inval) else (if d then Some (with_error Inval) else None)))) ≡ Refused error []
    → (a ≡ true → P Inval) → (b ≡ true → P NoMsg) → (a ≡ false → c ≡ true → P Inval) → (a ≡ false → c ≡ false → d ≡ true → P Inval) → P error
by_port P true b c d error is no_version no_msg beyond outside = by_error P Inval error is (no_version refl)
by_port P false true c d error is no_version no_msg beyond outside = by_error P NoMsg error is (no_msg refl)
by_port P false false true d error is no_version no_msg beyond outside = by_error P Inval error is (beyond refl refl)
by_port P false false false true error is no_version no_msg beyond outside = by_error P Inval error is (outside refl refl refl)
by_port P false false false false error is no_version no_msg beyond outside = absurd (cc)

module _ (abi : Abi) (rulesets : List Layer) (s : State) (rs port : ℕ) (net : Net) where
  invalid_version : (whole : Net) → not (has_ports abi) ≡ true → IsCondition abi rulesets s (calls.AddPort rs port net) (invalid_on_port abi port net whole)
  unfolding IsCondition
  invalid_version whole older = rw older (refl, not_true (has_ports abi) older)

  invalid_beyond_ports : (layer : Layer) → answers.named rulesets (s.held rs) ≡ Some layer → not (has_ports abi) ≡ false
      → network.is_within net layer.handled_network ≡ false
      → IsCondition abi rulesets s (calls.AddPort rs port net) (invalid_on_port abi port net layer.handled_network)
  unfolding IsCondition ports_of ruleset_of
  invalid_beyond_ports layer is newer beyond =
      rw (newer, beyond) (
        layer,
        is,
        (λ right. port_rights_named (λ right. network.has net right && not (network.has layer.handled_network right)) right),
        beyond,
      )

  invalid_number : (whole : Net) → not (has_ports abi) ≡ false → network.is_within net whole ≡ true → nat_lt LARGEST_PORT port ≡ true
      → IsCondition abi rulesets s (calls.AddPort rs port net) (invalid_on_port abi port net whole)
  unfolding IsCondition port_of
  invalid_number whole newer within outside = rw (newer, within) (refl, outside)

  port_condition : (whole : Net) (rules : Option Layer) (error : Errno) → answers.named rulesets (s.held rs) ≡ rules
      → ((layer : Layer) → rules ≡ Some layer → whole ≡ layer.handled_network)
      → answers.add_port_answer abi port net rules ≡ Refused error []
      → IsCondition abi rulesets s (calls.AddPort rs port net) (of_add_port abi rs port net whole error)
  unfolding answers.add_port_answer of_add_port IsCondition files_of ports_of ruleset_number
  port_condition whole None error is handles asked =
      by_error (λ (e : Errno). IsCondition abi rulesets s (calls.AddPort rs port net) (of_add_port abi rs port net whole e)) BadFd error asked (refl, is)
  port_condition whole (Some layer) error is handles asked =
      subst (λ (w : Net). IsCondition abi rulesets s (calls.AddPort rs port net) (of_add_port abi rs port net w error)) (sym (handles layer refl))
      (by_port (λ (e : Errno). IsCondition abi rulesets s (calls.AddPort rs port net) (of_add_port abi rs port net layer.handled_network e))
      (not (has_ports abi)) (network.is_empty net) (not (network.is_within net layer.handled_network)) (nat_lt LARGEST_PORT port) error asked
      (λ older. invalid_version layer.handled_network older)
      (λ none. and_from (files.is_empty files.no_right) _ no_files none)
      (λ newer beyond. invalid_beyond_ports layer is newer (not_true (network.is_within net layer.handled_network) beyond))
      (λ newer within outside. invalid_number layer.handled_network newer (not_false (network.is_within net layer.handled_network) within) outside))

-- ---- restricting

by_restrict : (P : Errno → Type 0) (may many nothing : Bool) (error : Errno)
    → (if may then (if many then (if nothing then Moot else answers.fails TooBig) else Allowed) else (if nothing then Moot else answers.fails Perm))
    ≡ Refused error [] → (may ≡ false → P Perm) → (many ≡ true → P TooBig) → P error
by_restrict P true true true error is perm too_big = absurd (cc)
by_restrict P true true false error is perm too_big = by_error P TooBig error is (too_big refl)
by_restrict P true false nothing error is perm too_big = absurd (cc)
by_restrict P false many true error is perm too_big = absurd (cc)
by_restrict P false many false error is perm too_big = by_error P Perm error is (perm refl)

by_no_ruleset : (P : Errno → Type 0) (may : Bool) (error : Errno) → (if may then answers.fails BadFd else answers.fails Perm) ≡ Refused error []
    → (may ≡ false → P Perm) → P BadFd → P error
by_no_ruleset P true error is perm bad_fd = by_error P BadFd error is bad_fd
by_no_ruleset P false error is perm bad_fd = by_error P Perm error is (perm refl)

restrict_condition : (abi : Abi) (rulesets : List Layer) (s : State) (rs : ℕ) (rules : Option Layer) (error : Errno) → answers.named rulesets (s.held rs)
    ≡ rules → answers.restrict_answer s rules ≡ Refused error [] → IsCondition abi rulesets s (calls.Restrict rs) (of_restrict rs error)
unfolding answers.restrict_answer of_restrict IsCondition ruleset_number
restrict_condition abi rulesets s rs None error is asked =
    by_no_ruleset (λ (e : Errno). IsCondition abi rulesets s (calls.Restrict rs) (of_restrict rs e)) (answers.may_restrict s) error asked
    (λ may. may) (refl, is)
restrict_condition abi rulesets s rs (Some rules) error is asked =
    by_restrict (λ (e : Errno). IsCondition abi rulesets s (calls.Restrict rs) (of_restrict rs e)) (answers.may_restrict s)
    (nat_le MOST_LAYERS (length s.domain)) (handles_nothing rules) error asked (λ may. may) (λ many. many)

-- ---- every call

call_condition : (tree : List Entry) (abi : Abi) (records : List Record) (rulesets : List Layer) (op : Op) (s : State) (o : Origins) (error : Errno)
    → ((rs : ℕ) (layer : Layer) → answers.named rulesets (s.held rs) ≡ Some layer
    → (handled records o rs ≡ layer.handled_files) × (handled_on_ports records o rs ≡ layer.handled_network))
    → answers.answer tree abi rulesets op s ≡ Refused error [] → IsCondition abi rulesets s op (condition abi records o op error)
unfolding answers.answer condition
call_condition tree abi records rulesets (calls.Create rs fs net) s o error handles is = create_condition abi rulesets s rs fs net (s.held rs) error is
call_condition tree abi records rulesets (calls.AddPath rs path fs) s o error handles is =
    path_condition abi tree rulesets s rs path fs (handled records o rs) (answers.named rulesets (s.held rs)) error refl
    (λ layer named. (handles rs layer named).0) is
call_condition tree abi records rulesets (calls.AddPort rs port net) s o error handles is =
    port_condition abi rulesets s rs port net (handled_on_ports records o rs) (answers.named rulesets (s.held rs)) error refl
    (λ layer named. (handles rs layer named).1) is
call_condition tree abi records rulesets (calls.CloseRs rs) s o error handles is = never_faulty _ _ _ _ error (can_there (s.held rs)) is
call_condition tree abi records rulesets (calls.Restrict rs) s o error handles is =
    restrict_condition abi rulesets s rs (answers.named rulesets (s.held rs)) error refl is
call_condition tree abi records rulesets (calls.OpenFile path fd mode create trunc) s o error handles is =
    never_faulty _ _ _ _ error (can_free true (s.descriptors fd) _ (can_request tree s.domain _)) is
call_condition tree abi records rulesets (calls.Adopt fd kind) s o error handles is =
    never_faulty _ _ _ _ error (can_free false (s.descriptors fd) Allowed can_allowed) is
call_condition tree abi records rulesets (calls.Dup fd to) s o error handles is = never_faulty _ _ _ _ error (can_there (s.descriptors fd)) is
call_condition tree abi records rulesets (calls.Close fd) s o error handles is = never_faulty _ _ _ _ error (can_there (s.descriptors fd)) is
call_condition tree abi records rulesets (calls.Ftruncate fd) s o error handles is = never_faulty _ _ _ _ error (can_ftruncate (s.descriptors fd)) is
call_condition tree abi records rulesets (calls.Ioctl fd driver) s o error handles is = never_faulty _ _ _ _ error (can_ioctl (s.descriptors fd) driver) is
call_condition tree abi records rulesets (calls.Rename from to exchange) s o error handles is = never_faulty _ _ _ _ error (can_move tree s.domain _) is
call_condition tree abi records rulesets (calls.Link from to) s o error handles is = never_faulty _ _ _ _ error (can_move tree s.domain _) is
call_condition tree abi records rulesets calls.Mount s o error handles is = never_faulty _ _ _ _ error (can_refused_by false Perm _) is
call_condition tree abi records rulesets (calls.Bind port) s o error handles is = never_faulty _ _ _ _ error (can_refused_by false Acces _) is
call_condition tree abi records rulesets (calls.Connect port) s o error handles is = never_faulty _ _ _ _ error (can_refused_by false Acces _) is
call_condition tree abi records rulesets (calls.CreateEmpty rs) s o error handles is =
    never_faulty _ _ _ _ error (can_free false (s.held rs) Allowed can_allowed) is
call_condition tree abi records rulesets (calls.LeaveOutPath path) s o error handles is = absurd (cc)
call_condition tree abi records rulesets calls.LeaveOutPort s o error handles is = absurd (cc)
call_condition tree abi records rulesets (calls.Start nnp admin) s o error handles is = absurd (cc)
call_condition tree abi records rulesets (calls.Fork child) s o error handles is = absurd (cc)
call_condition tree abi records rulesets calls.Exit s o error handles is = absurd (cc)
call_condition tree abi records rulesets calls.Nnp s o error handles is = absurd (cc)
call_condition tree abi records rulesets op s o error handles is = never_faulty _ _ _ _ error (can_request tree s.domain (request tree (wanted op))) is

pub condition_at : (tree : List Entry) (abi : Abi) (records : List Record) (index process : ℕ) (op : Op) (error : Errno)
    → answer_in tree abi (world_at tree abi records index) process op ≡ Refused error []
    → IsCondition abi (world_at tree abi records index).rulesets ((world_at tree abi records index).processes process) op
    (condition abi records (origins_at tree abi records index process) op error)
unfolding answer_in
condition_at tree abi records index process op error is =
    let w : World = world_at tree abi records index in
    call_condition tree abi records w.rulesets op (w.processes process) (origins_at tree abi records index process) error
    (λ rs layer named. ruleset_handles tree abi records index process rs layer named) is
