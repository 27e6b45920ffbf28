-- The ruleset that a number names is one that an allowed create made, and handles what this named.
use Rattle.std.proofs.Common.{◌≡◌, ℕ, zero, suc, ◌<◌, true, List, [], ◌∷◌, ◌++◌, length, Option, Some, None, refl, sym, ap, ◌∙◌, subst, arith, IfSome}
use Rattle.std.proofs.Common.{option_and_then}
use Rattle.std.specs.Prelude.{slice_get, slice_set, is_some, unwrap_or, option_map}
use Rattle.std.proofs.lemmas.Option.{none-some, same_Some}
use Rattle.ll_rights.specs.declared.abi.Abi.{Abi}
use Rattle.ll_rights.specs.declared.fs.Fs.{Fs}
use Rattle.ll_rights.specs.declared.net.Net.{Net}
use Rattle.ll_rights.specs.Rights as files
use Rattle.ll_rights.specs.NetRights as network
use Rattle.ll_tree.specs.declared.place.Place.{Place}
use Rattle.ll_tree.specs.declared.place.Place.TheVariants.{Node, Gap, Nowhere}
use Rattle.ll_tree.specs.Trees.{Entry, place}
use Rattle.ll_rules.specs.Layers.{without_rules, with_port_rule}
use Rattle.ll_rules.specs.Rulesets.{with_rule_at}
use Rattle.ll_trace.specs.declared.op.Record.{Record}
use Rattle.ll_trace.specs.declared.op.Op.{Op}
use Rattle.ll_trace.specs.declared.op.Op.TheVariants.{Create, CreateEmpty, AddPath, AddPort, CloseRs}
use Rattle.ll_semantics.specs.declared.answer.Answer.{Answer}
use Rattle.ll_semantics.specs.declared.answer.Answer.TheVariants.{Allowed, Moot, Refused}
use Rattle.ll_semantics.specs.States.{State, Layer, fresh}
use Rattle.ll_semantics.specs.Answers.{answer, named}
use Rattle.ll_semantics.specs.Effects.{effect, changed_at}
use Rattle.ll_semantics.specs.Worlds.{World, if_allowed, answer_in, judged}
use Rattle.ll_semantics.specs.CallContexts.{change, state_by, rules, rulesets_by, rulesets_after, world_at}
use Rattle.ll_semantics.proofs.Steps.{step-rulesets}
use Rattle.ll_reasons.specs.Origins.{Origins, no_origins, traced}
use Rattle.ll_reasons.specs.Made.{is_create, IsAllowed, IsEarlier}
use Rattle.ll_reasons.specs.Conditions.{handled_by, handled_on_ports_by, call_of, handled, handled_on_ports}
use Rattle.ll_reasons.specs.Explanations.{origins_at}
use Rattle.ll_reasons.proofs.Lockstep.{Keeps, holds_at, world_at-more, world_at-past}
use Rattle.ll_reasons.proofs.Alike.{Alike, alike-some, alike-update, alike-weaker}

-- ---- what a ruleset handles never changes

-- there is a ruleset, and it handles just these
unfoldable HandlesJust : Fs → Net → Option Layer → Type 0
HandlesJust fs net None = ⊥
HandlesJust fs net (Some rules) = (rules.handled_files ≡ fs) × (rules.handled_network ≡ net)

appended : (fs : Fs) (net : Net) (rulesets more : List Layer) (j : ℕ) → HandlesJust fs net (slice_get rulesets j)
    → HandlesJust fs net (slice_get (rulesets ++ more) j)
unfolding HandlesJust
appended fs net [] more j just = absurd just
appended fs net (x ∷ rulesets) more zero just = just
appended fs net (x ∷ rulesets) more (suc j) just = appended fs net rulesets more j just

just_new : (fs : Fs) (net : Net) (rulesets : List Layer) → HandlesJust fs net (slice_get (rulesets ++ without_rules fs net ∷ []) (length rulesets))
unfolding HandlesJust
just_new fs net [] = (refl, refl)
just_new fs net (x ∷ rulesets) = just_new fs net rulesets

set_kept : (fs : Fs) (net : Net) (rulesets : List Layer) (p j : ℕ) (old new : Layer) → slice_get rulesets p ≡ Some old → new.handled_files ≡ old.handled_files
    → new.handled_network ≡ old.handled_network
    → HandlesJust fs net (slice_get rulesets j) → HandlesJust fs net (slice_get (slice_set rulesets p new) j)
unfolding HandlesJust
set_kept fs net [] p j old new eq same_fs same_net just = absurd just
set_kept fs net (x ∷ rulesets) zero zero old new eq same_fs same_net just =
    let here : x ≡ old = same_Some x old eq in
    (same_fs ∙ ap (λ (y : Layer). y.handled_files) (sym here) ∙ just.0, same_net ∙ ap (λ (y : Layer). y.handled_network) (sym here) ∙ just.1)
set_kept fs net (x ∷ rulesets) zero (suc j) old new eq same_fs same_net just = just
set_kept fs net (x ∷ rulesets) (suc p) zero old new eq same_fs same_net just = just
set_kept fs net (x ∷ rulesets) (suc p) (suc j) old new eq same_fs same_net just = set_kept fs net rulesets p j old new eq same_fs same_net just

changed_kept : (fs : Fs) (net : Net) (rulesets : List Layer) (h : Option ℕ) (f : Layer → Layer) (j : ℕ)
    → ((old : Layer) → (f old).handled_files ≡ old.handled_files) → ((old : Layer) → (f old).handled_network ≡ old.handled_network)
    → HandlesJust fs net (slice_get rulesets j) → HandlesJust fs net (slice_get (changed_at rulesets h f) j)
changed_kept fs net rulesets None f j same_fs same_net just = just
changed_kept fs net rulesets (Some p) f j same_fs same_net just = by_get (slice_get rulesets p) refl
  where
    by_get : (o : Option Layer) → slice_get rulesets p ≡ o
        → HandlesJust fs net (slice_get (unwrap_or (option_map (λ (old : Layer). slice_set rulesets p (f old)) o) rulesets) j)
    by_get None eq = just
    by_get (Some old) eq = set_kept fs net rulesets p j old (f old) eq (same_fs old) (same_net old) just

with_rule-files : (tree : List Entry) (spot : Place) (fs : Fs) (old : Layer) → (with_rule_at tree old spot fs).handled_files ≡ old.handled_files
with_rule-files tree (Node node) fs old = refl
with_rule-files tree (Gap node) fs old = refl
with_rule-files tree Nowhere fs old = refl

with_rule-ports : (tree : List Entry) (spot : Place) (fs : Fs) (old : Layer) → (with_rule_at tree old spot fs).handled_network ≡ old.handled_network
with_rule-ports tree (Node node) fs old = refl
with_rule-ports tree (Gap node) fs old = refl
with_rule-ports tree Nowhere fs old = refl

by_call : (tree : List Entry) (rulesets : List Layer) (op : Op) (s : State) (fs : Fs) (net : Net) (j : ℕ) → HandlesJust fs net (slice_get rulesets j)
    → HandlesJust fs net (slice_get (rules tree rulesets op s) j)
unfolding rules rulesets_by effect
by_call tree rulesets (Create rs fs2 net2) s fs net j just = appended fs net rulesets (without_rules fs2 net2 ∷ []) j just
by_call tree rulesets (CreateEmpty rs) s fs net j just = appended fs net rulesets (without_rules files.no_right network.no_right ∷ []) j just
by_call tree rulesets (AddPath rs path fs2) s fs net j just =
    changed_kept fs net rulesets (s.held rs) (λ old. with_rule_at tree old (place tree path) fs2) j (λ old. with_rule-files tree (place tree path) fs2 old)
    (λ old. with_rule-ports tree (place tree path) fs2 old) just
by_call tree rulesets (AddPort rs port net2) s fs net j just =
    changed_kept fs net rulesets (s.held rs) (λ old. with_port_rule old port net2) j (λ old. refl) (λ old. refl) just
by_call tree rulesets op s fs net j just = just

by_answer : (a : Answer) (after before : List Layer) (fs : Fs) (net : Net) (j : ℕ)
    → (HandlesJust fs net (slice_get before j) → HandlesJust fs net (slice_get after j)) → HandlesJust fs net (slice_get before j)
    → HandlesJust fs net (slice_get (if_allowed a after before) j)
by_answer Allowed after before fs net j then just = then just
by_answer Moot after before fs net j then just = just
by_answer (Refused error numbers) after before fs net j then just = just

in_step : (tree : List Entry) (abi : Abi) (rulesets : List Layer) (s : State) (op : Op) (fs : Fs) (net : Net) (j : ℕ)
    → HandlesJust fs net (slice_get rulesets j) → HandlesJust fs net (slice_get (rulesets_after tree abi rulesets op s) j)
unfolding rulesets_after
in_step tree abi rulesets s op fs net j just =
    by_answer (answer tree abi rulesets op s) (rules tree rulesets op s) rulesets fs net j (λ just. by_call tree rulesets op s fs net j just) just

next_rulesets : (tree : List Entry) (abi : Abi) (records : List Record) (k : ℕ) (r : Record) → slice_get records k ≡ Some r
    → (world_at tree abi records (suc k)).rulesets
    ≡ rulesets_after tree abi (world_at tree abi records k).rulesets r.op ((world_at tree abi records k).processes r.process.0)
next_rulesets tree abi records k r eq =
    ap (λ (v : World). v.rulesets) (world_at-more tree abi records k r eq) ∙ step-rulesets tree abi (world_at tree abi records k) r.process.0 r.op

by_record : (tree : List Entry) (abi : Abi) (records : List Record) (k : ℕ) (fs : Fs) (net : Net) (j : ℕ)
    → HandlesJust fs net (slice_get (world_at tree abi records k).rulesets j) → HandlesJust fs net (slice_get (world_at tree abi records (suc k)).rulesets j)
by_record tree abi records k fs net j just = by_get (slice_get records k) refl
  where
    by_get : (x : Option Record) → slice_get records k ≡ x → HandlesJust fs net (slice_get (world_at tree abi records (suc k)).rulesets j)
    by_get None past = rw (world_at-past tree abi records k past) just
    by_get (Some r) eq =
        let w : World = world_at tree abi records k in
        subst (λ (rulesets : List Layer). HandlesJust fs net (slice_get rulesets j)) (sym (next_rulesets tree abi records k r eq))
        (in_step tree abi w.rulesets (w.processes r.process.0) r.op fs net j just)

-- what is created is the last
rules_last : (tree : List Entry) (rulesets : List Layer) (s : State) (op : Op) → is_create op ≡ true
    → HandlesJust (handled_by op) (handled_on_ports_by op) (slice_get (rules tree rulesets op s) (length rulesets))
unfolding is_create rules rulesets_by effect
rules_last tree rulesets s (Create rs fs net) creates = just_new fs net rulesets
rules_last tree rulesets s (CreateEmpty rs) creates = just_new files.no_right network.no_right rulesets
rules_last tree rulesets s op creates = absurd cc

created_last : (tree : List Entry) (abi : Abi) (rulesets : List Layer) (s : State) (op : Op) → answer tree abi rulesets op s ≡ Allowed → is_create op ≡ true
    → HandlesJust (handled_by op) (handled_on_ports_by op) (slice_get (rulesets_after tree abi rulesets op s) (length rulesets))
unfolding rulesets_after
created_last tree abi rulesets s op allowed creates =
    subst (λ (a : Answer). HandlesJust (handled_by op) (handled_on_ports_by op)
    (slice_get (if_allowed a (rules tree rulesets op s) rulesets) (length rulesets))) (sym allowed) (rules_last tree rulesets s op creates)

-- ---- what a number names

-- a ruleset of the world handles what the record at an earlier index named when it created one
record Holds (tree : List Entry) (abi : Abi) (records : List Record) (ix j k : ℕ) : Type 0 where
  before : k < ix
  created : IsAllowed is_create tree abi records k
  just : HandlesJust (handled_by created.of.op) (handled_on_ports_by created.of.op) (slice_get (world_at tree abi records ix).rulesets j)

-- so do all that are held
abbrev AllHeld : List Entry → Abi → List Record → ℕ → State → Origins → Type 0
AllHeld tree abi records ix s o = (rs : ℕ) → Alike (Holds tree abi records ix) (s.held rs) (o.rulesets rs)

later : (tree : List Entry) (abi : Abi) (records : List Record) (k : ℕ) (x y : Option ℕ) → Alike (Holds tree abi records k) x y
    → Alike (Holds tree abi records (suc k)) x y
later tree abi records k x y fits =
    alike-weaker (Holds tree abi records k) (Holds tree abi records (suc k))
    (λ j i is. record {
      before = omega (arith, is.before);
      created = is.created;
      just = by_record tree abi records k (handled_by is.created.of.op) (handled_on_ports_by is.created.of.op) j is.just;
    }) x y fits

-- the ruleset that a record at an index creates
created_here : (tree : List Entry) (abi : Abi) (records : List Record) (k j : ℕ) (r : Record) → slice_get records k ≡ Some r
    → slice_get (judged tree abi records) k ≡ Some Allowed → is_create r.op ≡ true
    → HandlesJust (handled_by r.op) (handled_on_ports_by r.op) (slice_get (world_at tree abi records (suc k)).rulesets j) → Holds tree abi records (suc k) j k
created_here tree abi records k j r eq allowed creates just =
    record { before = omega arith; created = record { of = r; at = eq; such = creates; allowed = allowed }; just = just }

changed : (tree : List Entry) (abi : Abi) (records : List Record) (k : ℕ) (op : Op) (rulesets : List Layer) (s : State) (o : Origins)
    → (is_create op ≡ true → Holds tree abi records (suc k) (length rulesets) k) → AllHeld tree abi records k s o
    → AllHeld tree abi records (suc k) (change tree rulesets op s) (traced k op o)
unfolding change state_by effect traced Alike is_create
changed tree abi records k (Create rs fs net) rulesets s o makes all q =
    alike-update (Holds tree abi records (suc k)) s.held o.rulesets rs q (Some (length rulesets)) (Some k) (makes refl)
    (later tree abi records k (s.held q) (o.rulesets q) (all q))
changed tree abi records k (CreateEmpty rs) rulesets s o makes all q =
    alike-update (Holds tree abi records (suc k)) s.held o.rulesets rs q (Some (length rulesets)) (Some k) (makes refl)
    (later tree abi records k (s.held q) (o.rulesets q) (all q))
changed tree abi records k (CloseRs rs) rulesets s o makes all q =
    alike-update (Holds tree abi records (suc k)) s.held o.rulesets rs q None None tt
    (later tree abi records k (s.held q) (o.rulesets q) (all q))
changed tree abi records k op rulesets s o makes all q = later tree abi records k (s.held q) (o.rulesets q) (all q)

keeps : (tree : List Entry) (abi : Abi) (records : List Record) → Keeps tree abi records (AllHeld tree abi records)
unfolding fresh no_origins answer_in Alike
keeps tree abi records = record {
  begins = λ k nnp admin rs. tt;
  stays = λ k s o all rs. later tree abi records k (s.held rs) (o.rulesets rs) (all rs);
  changes = λ k r o eq allowed judged all.
      (let w : World = world_at tree abi records k in
      changed tree abi records k r.op w.rulesets (w.processes r.process.0) o
      (λ creates. created_here tree abi records k (length w.rulesets) r eq judged creates
      (subst (λ (rulesets : List Layer). HandlesJust (handled_by r.op) (handled_on_ports_by r.op) (slice_get rulesets (length w.rulesets)))
      (sym (next_rulesets tree abi records k r eq)) (created_last tree abi w.rulesets (w.processes r.process.0) r.op allowed creates)))
      all);
}

all_held : (tree : List Entry) (abi : Abi) (records : List Record) (ix process : ℕ)
    → AllHeld tree abi records ix ((world_at tree abi records ix).processes process) (origins_at tree abi records ix process)
all_held tree abi records ix process = holds_at tree abi records (AllHeld tree abi records) (keeps tree abi records) ix process

-- ---- the law

some_just : (fs : Fs) (net : Net) (o : Option Layer) → HandlesJust fs net o → is_some o ≡ true
unfolding HandlesJust
some_just fs net None just = absurd just
some_just fs net (Some rules) just = refl

is_named : (tree : List Entry) (abi : Abi) (records : List Record) (ix : ℕ) (x y : Option ℕ) → Alike (Holds tree abi records ix) x y
    → is_some (named (world_at tree abi records ix).rulesets x) ≡ is_some x
unfolding Alike
is_named tree abi records ix None None fits = refl
is_named tree abi records ix (Some j) (Some k) fits =
    some_just (handled_by fits.created.of.op) (handled_on_ports_by fits.created.of.op) (slice_get (world_at tree abi records ix).rulesets j) fits.just
is_named tree abi records ix None (Some k) fits = absurd fits
is_named tree abi records ix (Some j) None fits = absurd fits

handles_named : (fs : Fs) (net : Net) (o : Option Layer) (rules : Layer) → o ≡ Some rules → HandlesJust fs net o
    → (fs ≡ rules.handled_files) × (net ≡ rules.handled_network)
unfolding HandlesJust
handles_named fs net None rules is just = absurd just
handles_named fs net (Some x) rules is just =
    let same : x ≡ rules = same_Some x rules is in
    (sym just.0 ∙ ap (λ (y : Layer). y.handled_files) same, sym just.1 ∙ ap (λ (y : Layer). y.handled_network) same)

-- what the record at an index says that it handles
handled_there : List Record → Option ℕ → Fs
handled_there records k = handled_by (call_of (option_and_then (slice_get records) k))

handled_on_ports_there : List Record → Option ℕ → Net
handled_on_ports_there records k = handled_on_ports_by (call_of (option_and_then (slice_get records) k))

as_created : (tree : List Entry) (abi : Abi) (records : List Record) (ix : ℕ) (x y : Option ℕ) (rules : Layer) → Alike (Holds tree abi records ix) x y
    → named (world_at tree abi records ix).rulesets x ≡ Some rules
    → (handled_there records y ≡ rules.handled_files) × (handled_on_ports_there records y ≡ rules.handled_network)
unfolding Alike handled_there handled_on_ports_there
as_created tree abi records ix None None rules fits is = absurd (none-some rules is)
as_created tree abi records ix (Some j) (Some k) rules fits is =
    let created = fits.created in
    let same =
    handles_named (handled_by created.of.op) (handled_on_ports_by created.of.op) (slice_get (world_at tree abi records ix).rulesets j) rules is fits.just in
    rw created.at same
as_created tree abi records ix None (Some k) rules fits is = absurd fits
as_created tree abi records ix (Some j) None rules fits is = absurd fits

earlier : (tree : List Entry) (abi : Abi) (records : List Record) (ix : ℕ) (x y : Option ℕ) → Alike (Holds tree abi records ix) x y
    → IfSome y (IsEarlier is_create tree abi records ix)
unfolding Alike
earlier tree abi records ix None None fits = tt
earlier tree abi records ix (Some j) (Some k) fits = (fits.before, fits.created)
earlier tree abi records ix None (Some k) fits = absurd fits
earlier tree abi records ix (Some j) None fits = tt

module _ (tree : List Entry) (abi : Abi) (records : List Record) (ix process rs : ℕ) where
  pub ruleset_held : is_some ((origins_at tree abi records ix process).rulesets rs) ≡ is_some (((world_at tree abi records ix).processes process).held rs)
  ruleset_held =
      alike-some (Holds tree abi records ix) (((world_at tree abi records ix).processes process).held rs) ((origins_at tree abi records ix process).rulesets rs)
      (all_held tree abi records ix process rs)

  pub ruleset_named : is_some (named (world_at tree abi records ix).rulesets (((world_at tree abi records ix).processes process).held rs))
      ≡ is_some (((world_at tree abi records ix).processes process).held rs)
  ruleset_named =
      is_named tree abi records ix (((world_at tree abi records ix).processes process).held rs) ((origins_at tree abi records ix process).rulesets rs)
      (all_held tree abi records ix process rs)

  pub ruleset_handles : (rules : Layer)
      → named (world_at tree abi records ix).rulesets (((world_at tree abi records ix).processes process).held rs) ≡ Some rules
      → (handled records (origins_at tree abi records ix process) rs ≡ rules.handled_files)
      × (handled_on_ports records (origins_at tree abi records ix process) rs ≡ rules.handled_network)
  unfolding handled handled_on_ports handled_there handled_on_ports_there
  ruleset_handles rules is =
      as_created tree abi records ix (((world_at tree abi records ix).processes process).held rs) ((origins_at tree abi records ix process).rulesets rs) rules
      (all_held tree abi records ix process rs) is

  pub ruleset_earlier : IfSome ((origins_at tree abi records ix process).rulesets rs) (IsEarlier is_create tree abi records ix)
  ruleset_earlier =
      earlier tree abi records ix (((world_at tree abi records ix).processes process).held rs) ((origins_at tree abi records ix process).rulesets rs)
      (all_held tree abi records ix process rs)
