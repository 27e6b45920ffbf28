-- Each ruleset that a call creates handles something, and so does every ruleset of a trace that was read.
use Rattle.std.proofs.Common.{◌≡◌, ℕ, false, List, [], ◌∷◌, ◌++◌, get_or, Option, Some, None, refl, sym, ap, ◌∙◌, arith, subst, All, slice_get}
use Rattle.std.specs.Prelude.{option_map, unwrap_or, slice_set}
use Rattle.std.proofs.lemmas.List.Elements.{All-head, All-tail, All-cons, All-append, All-set}
use Rattle.std.proofs.lemmas.Option.{slice_get_within, slice_get-get_or}
use Rattle.ll_rights.specs.declared.abi.Abi.{Abi}
use Rattle.ll_rights.specs.declared.fs.Fs.{Fs}
use Rattle.ll_rights.specs.declared.net.Net.{Net}
use Rattle.ll_tree.specs.Trees.{Entry, place}
use Rattle.ll_tree.specs.declared.place.Place.{Place}
use Rattle.ll_tree.specs.declared.place.Place.TheVariants as places
use Rattle.ll_rules.specs.declared.errno.Errno.{Errno}
use Rattle.ll_rules.specs.Layers.{handles_nothing, without_rules, with_port_rule}
use Rattle.ll_rules.specs.Rulesets.{create_fault, with_rule_at}
use Rattle.ll_trace.specs.declared.op.Op.{Op}
use Rattle.ll_trace.specs.declared.op.Op.TheVariants as calls
use Rattle.ll_trace.specs.declared.op.Record.{Record}
use Rattle.ll_trace.specs.Records.{IsTrace}
use Rattle.ll_semantics.specs.declared.answer.Answer.{Answer}
use Rattle.ll_semantics.specs.declared.answer.Answer.TheVariants.{Allowed, Moot, Refused}
use Rattle.ll_semantics.specs.States.{State, Layer}
use Rattle.ll_semantics.specs.Answers.{answer, create_answer, restrict_answer, unless, named}
use Rattle.ll_semantics.specs.Effects.{effect, changed_at}
use Rattle.ll_semantics.specs.CallContexts.{rules, rulesets_by, rulesets_after}
use Rattle.ll_semantics.specs.Worlds.{World, empty_world, if_allowed, affected, answer_in, step, judged_from, judged}
use Rattle.ll_semantics.proofs.Steps.{step-rulesets}
use Rattle.ll_semantics.proofs.MakingDo.{made_handles}
use Rattle.ll_enforcing.specs.PlainRestricting.{restricts_plainly, answered_plainly, steps_plainly, plainly_judged_from, plainly_judged}
use Rattle.ll_enforcing.proofs.ReadCalls.{is_empty_creation, IsMade, all_made}

abbrev Handles : Layer → Type 0
Handles rules = handles_nothing rules ≡ false

-- ---- what a call does to the rulesets

-- a ruleset that is created handles something
kept_by_create : (abi : Abi) (fs : Fs) (net : Net) (held : Option ℕ) (rulesets : List Layer) → All Handles rulesets
    → All Handles (if_allowed (create_answer abi fs net held) (rulesets ++ without_rules fs net ∷ []) rulesets)
unfolding create_answer
kept_by_create abi fs net (Some index) rulesets all = all
kept_by_create abi fs net None rulesets all = go (create_fault abi fs net) refl
  where
    go : (fault : Option Errno) → create_fault abi fs net ≡ fault → All Handles (if_allowed (unless fault) (rulesets ++ without_rules fs net ∷ []) rulesets)
    go None is =
        All-append Handles rulesets (without_rules fs net ∷ []) all
        (All-cons Handles (without_rules fs net) [] (made_handles abi fs net is) (λ k d less. absurd (omega arith)))
    go (Some error) is = all

kept_by_change : (held : Option ℕ) (f : Layer → Layer) (rulesets : List Layer) → ((rules : Layer) → Handles rules → Handles (f rules)) → All Handles rulesets
    → All Handles (changed_at rulesets held f)
kept_by_change None f rulesets each all = all
kept_by_change (Some index) f rulesets each all = go (slice_get rulesets index) refl
  where
    go : (found : Option Layer) → slice_get rulesets index ≡ found
        → All Handles (unwrap_or (option_map (λ old. slice_set rulesets index (f old)) found) rulesets)
    go None is = all
    go (Some old) is =
        let less = slice_get_within rulesets index old is in
        let same : Some (get_or rulesets index old) ≡ Some old = sym (slice_get-get_or rulesets index old less) ∙ is in
        let there : get_or rulesets index old ≡ old = cc in
        All-set Handles rulesets index (f old) (each old (subst Handles there (all index old less))) all

kept_if : (a : Answer) (after before : List Layer) → All Handles after → All Handles before → All Handles (if_allowed a after before)
kept_if Allowed after before changed same = changed
kept_if Moot after before changed same = same
kept_if (Refused error numbers) after before changed same = same

by_rule_at : (tree : List Entry) (there : Place) (fs : Fs) (rules : Layer) → Handles rules → Handles (with_rule_at tree rules there fs)
by_rule_at tree (places.Node here) fs rules handles = handles
by_rule_at tree (places.Gap directory) fs rules handles = handles
by_rule_at tree places.Nowhere fs rules handles = handles

-- ---- every call but one that best effort makes

kept_by : (tree : List Entry) (abi : Abi) (rulesets : List Layer) (op : Op) (s : State) → IsMade op → All Handles rulesets
    → All Handles (rulesets_after tree abi rulesets op s)
unfolding rulesets_after rules effect rulesets_by answer is_empty_creation
kept_by tree abi rulesets (calls.Create rs fs net) s made all = kept_by_create abi fs net (s.held rs) rulesets all
kept_by tree abi rulesets (calls.AddPath rs path fs) s made all =
    kept_if (answer tree abi rulesets (calls.AddPath rs path fs) s) _ rulesets
    (kept_by_change (s.held rs) (λ old. with_rule_at tree old (place tree path) fs) rulesets (λ rules. by_rule_at tree (place tree path) fs rules) all) all
kept_by tree abi rulesets (calls.AddPort rs port net) s made all =
    kept_if (answer tree abi rulesets (calls.AddPort rs port net) s) _ rulesets
    (kept_by_change (s.held rs) (λ old. with_port_rule old port net) rulesets (λ rules handles. handles) all) all
kept_by tree abi rulesets (calls.CreateEmpty rs) s made all = absurd (cc)
kept_by tree abi rulesets op s made all = kept_if (answer tree abi rulesets op s) rulesets rulesets all all

-- ---- the answers

held_handles : (rulesets : List Layer) (held : Option ℕ) (layer : Layer) → named rulesets held ≡ Some layer → All Handles rulesets → Handles layer
held_handles rulesets None layer is all = absurd (cc)
held_handles rulesets (Some index) layer is all =
    let less = slice_get_within rulesets index layer is in
    let same : Some (get_or rulesets index layer) ≡ Some layer = sym (slice_get-get_or rulesets index layer less) ∙ is in
    let there : get_or rulesets index layer ≡ layer = cc in
    subst Handles there (all index layer less)

restricts_same : (s : State) (held : Option Layer) → ((layer : Layer) → held ≡ Some layer → Handles layer) → restrict_answer s held ≡ restricts_plainly s held
unfolding restrict_answer restricts_plainly
restricts_same s None handles = refl
restricts_same s (Some layer) handles = rw (handles layer refl) refl

answered_same : (tree : List Entry) (abi : Abi) (rulesets : List Layer) (op : Op) (s : State) → All Handles rulesets
    → answer tree abi rulesets op s ≡ answered_plainly tree abi rulesets op s
unfolding answer answered_plainly
answered_same tree abi rulesets (calls.Restrict rs) s all =
    restricts_same s (named rulesets (s.held rs)) (λ layer is. held_handles rulesets (s.held rs) layer is all)
answered_same tree abi rulesets op s all = refl

stepped_same : (tree : List Entry) (abi : Abi) (w : World) (process : ℕ) (op : Op) → All Handles w.rulesets
    → step tree abi w process op ≡ steps_plainly tree abi w process op
unfolding step answer_in steps_plainly
stepped_same tree abi w process op all =
    ap (λ (a : Answer). if_allowed a (affected w process (effect tree w.rulesets op (w.processes process))) w)
    (answered_same tree abi w.rulesets op (w.processes process) all)

judged_same : (tree : List Entry) (abi : Abi) (w : World) (records : List Record) → All (λ (r : Record). IsMade r.op) records → All Handles w.rulesets
    → judged_from tree abi w records ≡ plainly_judged_from tree abi w records
unfolding judged_from plainly_judged_from answer_in
judged_same tree abi w [] made all = refl
judged_same tree abi w (r ∷ records) made all =
    let next : World = step tree abi w r.process.0 r.op in
    let kept : All Handles next.rulesets =
    subst (λ (rulesets : List Layer). All Handles rulesets) (sym (step-rulesets tree abi w r.process.0 r.op))
    (kept_by tree abi w.rulesets r.op (w.processes r.process.0) (All-head (λ (one : Record). IsMade one.op) r records made) all) in
    ap (λ (a : Answer). a ∷ judged_from tree abi next records) (answered_same tree abi w.rulesets r.op (w.processes r.process.0) all)
    ∙ ap (λ (xs : List Answer). answered_plainly tree abi w.rulesets r.op (w.processes r.process.0) ∷ xs)
    (judged_same tree abi next records (All-tail (λ (one : Record). IsMade one.op) r records made) kept
    ∙ ap (λ (v : World). plainly_judged_from tree abi v records) (stepped_same tree abi w r.process.0 r.op all))

pub read_traces : (bytes : List ℕ) (records : List Record) → IsTrace bytes records → (tree : List Entry) (abi : Abi)
    → judged tree abi records ≡ plainly_judged tree abi records
unfolding judged plainly_judged
read_traces bytes records reads tree abi = judged_same tree abi empty_world records (all_made bytes records reads) (λ k d less. absurd (omega arith))
