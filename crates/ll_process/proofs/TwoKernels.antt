-- A record that is answered and changes alike under two kernels.
use Rattle.std.proofs.Common.{◌≡◌, ◌≢◌, ℕ, ◌+◌, ◌<◌, Bool, true, false, List, [], ◌∷◌, ◌++◌, take, get_or, length, not, ◌&&◌, Option, Some, None}
use Rattle.std.proofs.Common.{refl, sym, ap, ◌∙◌, subst, if◌then◌else◌}
use Rattle.std.specs.Prelude.{is_some, slice_get, unwrap_or}
use Rattle.std.proofs.lemmas.List.{take_more}
use Rattle.std.proofs.lemmas.Option.{same_Some, slice_get_read, unwrap_or-slice_get}
use Rattle.ll_rights.specs.declared.abi.Abi.{Abi}
use Rattle.ll_rights.specs.declared.fs.Fs.{Fs}
use Rattle.ll_rights.specs.declared.net.Net.{Net}
use Rattle.ll_rights.specs.Supported.{supported_fs, supported_net}
use Rattle.ll_rights.specs.Rights as files
use Rattle.ll_rights.specs.NetRights as network
use Rattle.ll_tree.specs.Trees.{Entry}
use Rattle.ll_rules.specs.Layers.{RulesOn}
use Rattle.ll_trace.specs.declared.located.Located.{Located}
use Rattle.ll_trace.specs.declared.op.Op.{Op}
use Rattle.ll_trace.specs.declared.op.Op.TheVariants as calls
use Rattle.ll_trace.specs.declared.op.Record.{Record}
use Rattle.ll_trace.specs.declared.trace.Effort.{Effort}
use Rattle.ll_trace.specs.declared.trace.Effort.TheVariants.{AsRecorded, Best}
use Rattle.ll_trace.specs.declared.seen.Kernel.{Kernel}
use Rattle.ll_trace.specs.BestEffort.{at_best_effort, creates}
use Rattle.ll_trace.specs.Taken.{by_effort, taken}
use Rattle.ll_trace.proofs.OwnRecords.{stands_at}
use Rattle.ll_trace.proofs.Seeing.{as_many, record_seen}
use Rattle.ll_semantics.specs.declared.answer.Answer.{Answer}
use Rattle.ll_semantics.specs.declared.answer.Answer.TheVariants.{Allowed, Moot}
use Rattle.ll_semantics.specs.declared.answer.RulesetOutcome.{RulesetOutcome}
use Rattle.ll_semantics.specs.declared.answer.RulesetOutcome.TheVariants.{Answered, Frozen, ByState}
use Rattle.ll_semantics.specs.States.{State, Layer}
use Rattle.ll_semantics.specs.Answers.{answer}
use Rattle.ll_semantics.specs.Effects.{effect}
use Rattle.ll_semantics.specs.Worlds.{World, if_allowed, affected, answer_in, step, judged}
use Rattle.ll_semantics.specs.CallContexts.{CallContext, answer_to, world_after, world_at}
use Rattle.ll_semantics.specs.RulesetOutcomes.{is_on_rulesets, enforced, IsFrozen, OutcomeFits}
use Rattle.ll_semantics.proofs.Steps.{length-judged, world_kept, world_at-more, judged-at}
use Rattle.ll_rulebook.specs.Settled.{met_by}
use Rattle.ll_process.specs.declared.settled.Settled.{Settled}
use Rattle.ll_process.specs.Alike.{answer_told, StaysAlike}
use Rattle.ll_process.specs.Cases.{IsCase, case_of}
use Rattle.ll_process.specs.Judging.{answer_at}

-- ---- a call that isn't on rulesets is answered alike by all versions

unversioned : (tree : List Entry) (a b : Abi) (rulesets : List Layer) (op : Op) (s : State) → is_on_rulesets op ≡ false
    → answer tree a rulesets op s ≡ answer tree b rulesets op s
unfolding answer is_on_rulesets
unversioned tree a b rulesets (calls.Create rs fs net) s off = cc
unversioned tree a b rulesets (calls.AddPort rs port net) s off = cc
unversioned tree a b rulesets op s off = refl

-- ---- what kernels make of one recorded call

-- two versions that support the same of its rights make the same of a call that creates a ruleset
pub created_alike : (one other : Abi) (rs : ℕ) (fs : Fs) (net : Net)
    → supported_fs one fs ≡ supported_fs other fs → supported_net one net ≡ supported_net other net
    → at_best_effort one (calls.Create rs fs net) ≡ at_best_effort other (calls.Create rs fs net)
unfolding at_best_effort
created_alike one other rs fs net files ports =
    ap (λ (kept : Fs). creates rs fs net kept (supported_net one net)) files ∙ ap (λ (kept : Net). creates rs fs net (supported_fs other fs) kept) ports

-- a call without its rule
without_rule : Op → Op
without_rule (calls.AddPath rs path fs) = calls.LeaveOutPath path
without_rule (calls.AddPort rs port net) = calls.LeaveOutPort
without_rule op = op

first_of : (b : Bool) (x y : Op) → is_on_rulesets y ≡ true → is_on_rulesets (if b then x else y) ≡ false → (if b then x else y) ≡ x
first_of true x y on off = refl
first_of false x y on off = cc

none_of : (b : Bool) (x y z : Op) → is_on_rulesets x ≡ true → is_on_rulesets y ≡ true → is_on_rulesets (if b then x else y) ≡ false
    → (if b then x else y) ≡ z
none_of true x y z on on_too off = cc
none_of false x y z on on_too off = cc

-- a call that isn't on rulesets is one that leaves out its rule, or as it was recorded
off_rulesets : (effort : Effort) (abi : Abi) (op : Op) → is_on_rulesets (by_effort effort abi op) ≡ false → by_effort effort abi op ≡ without_rule op
unfolding by_effort at_best_effort is_on_rulesets without_rule
off_rulesets AsRecorded abi (calls.AddPath rs path fs) off = cc
off_rulesets AsRecorded abi (calls.AddPort rs port net) off = cc
off_rulesets AsRecorded abi op off = refl
off_rulesets Best abi (calls.Create rs fs net) off =
    none_of (files.is_empty (supported_fs abi fs) && network.is_empty (supported_net abi net) && not (files.is_empty fs && network.is_empty net))
    (calls.CreateEmpty rs) (calls.Create rs (supported_fs abi fs) (supported_net abi net)) (calls.Create rs fs net) refl refl off
off_rulesets Best abi (calls.AddPath rs path fs) off =
    first_of (files.is_empty (supported_fs abi fs) && not (files.is_empty fs)) (calls.LeaveOutPath path) (calls.AddPath rs path (supported_fs abi fs)) refl off
off_rulesets Best abi (calls.AddPort rs port net) off =
    first_of (network.is_empty (supported_net abi net) && not (network.is_empty net)) calls.LeaveOutPort
    (calls.AddPort rs port (supported_net abi net)) refl off
off_rulesets Best abi op off = refl

-- it is moot, if it is on rulesets under another kernel
left_out : (effort : Effort) (abi version : Abi) (op : Op) (tree : List Entry) (rulesets : List Layer) (s : State)
    → is_on_rulesets (without_rule op) ≡ false → is_on_rulesets (by_effort effort abi op) ≡ true → answer tree version rulesets (without_rule op) s ≡ Moot
unfolding by_effort at_best_effort is_on_rulesets without_rule answer
left_out AsRecorded abi version (calls.AddPath rs path fs) tree rulesets s off on = refl
left_out AsRecorded abi version (calls.AddPort rs port net) tree rulesets s off on = refl
left_out AsRecorded abi version op tree rulesets s off on = cc
left_out Best abi version (calls.Create rs fs net) tree rulesets s off on = cc
left_out Best abi version (calls.AddPath rs path fs) tree rulesets s off on = refl
left_out Best abi version (calls.AddPort rs port net) tree rulesets s off on = refl
left_out Best abi version op tree rulesets s off on = cc

-- ---- what an outcome says of a call

frozen_off : (ctx : CallContext) (op : Op) (outcome : RulesetOutcome) → OutcomeFits ctx op outcome → answer_told outcome ≡ None → is_on_rulesets op ≡ false
unfolding OutcomeFits IsFrozen enforced is_on_rulesets answer_told
frozen_off ctx op (Answered given) fits none = cc
frozen_off ctx op ByState fits none = fits.0
frozen_off ctx (calls.Create rs fs net) (Frozen id) fits none = absurd fits
frozen_off ctx (calls.CreateEmpty rs) (Frozen id) fits none = absurd fits
frozen_off ctx (calls.AddPath rs path fs) (Frozen id) fits none = absurd fits
frozen_off ctx (calls.AddPort rs port net) (Frozen id) fits none = absurd fits
frozen_off ctx (calls.CloseRs rs) (Frozen id) fits none = absurd fits
frozen_off ctx op (Frozen id) fits none = refl

told_on : (ctx : CallContext) (op : Op) (outcome : RulesetOutcome) (given : Answer) → OutcomeFits ctx op outcome → answer_told outcome ≡ Some given
    → (is_on_rulesets op ≡ true) × (given ≡ answer_to ctx op)
unfolding OutcomeFits answer_told
told_on ctx op (Answered given) other fits told = (let same : given ≡ other = cc in (fits.0, sym same ∙ fits.1))
told_on ctx op (Frozen id) other fits told = cc
told_on ctx op ByState other fits told = cc

-- ---- one call in one world, under two kernels

moot-other : Moot ≢ Allowed
moot-other is = cc

module _ (tree : List Entry) (here there : Effort) (a b : Abi) (w : World) (p : ℕ) (op : Op) where
  -- the answer under the other kernel, and the same world after the call
  abbrev pub IsSame : Answer → Type 0
  IsSame given =
      (given ≡ answer_in tree b w p (by_effort there b op)) × (step tree a w p (by_effort here a op) ≡ step tree b w p (by_effort there b op))

  -- the same call with the same answer
  same_call : by_effort here a op ≡ by_effort there b op → answer_in tree a w p (by_effort here a op) ≡ answer_in tree b w p (by_effort there b op)
      → step tree a w p (by_effort here a op) ≡ step tree b w p (by_effort there b op)
  unfolding step
  same_call same answers =
      ap (λ (x : Answer). if_allowed x (affected w p (effect tree w.rulesets (by_effort here a op) (w.processes p))) w) answers
      ∙ ap (λ (x : Op). if_allowed (answer_in tree b w p (by_effort there b op)) (affected w p (effect tree w.rulesets x (w.processes p))) w) same

  -- calls that change nothing
  nothing_changed : answer_in tree a w p (by_effort here a op) ≢ Allowed → answer_in tree b w p (by_effort there b op) ≢ Allowed
      → step tree a w p (by_effort here a op) ≡ step tree b w p (by_effort there b op)
  nothing_changed one other = world_kept tree a w p (by_effort here a op) one ∙ sym (world_kept tree b w p (by_effort there b op) other)

module _ (tree : List Entry) (here there : Effort) (a b : Abi) (w : World) (p : ℕ) (op : Op) (layers others : List (RulesOn ℕ)) (x y : RulesetOutcome)
    (fits : OutcomeFits (met_by tree a layers w p) (by_effort here a op) x) (fits_too : OutcomeFits (met_by tree b others w p) (by_effort there b op) y) where
  abbrev IsSameHere : Answer → Type 0
  IsSameHere given = IsSame tree here there a b w p op given

  by_processes : (given : Answer) → answer_told x ≡ None → answer_told y ≡ None → given ≡ answer_in tree a w p (by_effort here a op) → IsSameHere given
  unfolding answer_in
  by_processes given none none_too is =
      let off = frozen_off (met_by tree a layers w p) (by_effort here a op) x fits none in
      let off_too = frozen_off (met_by tree b others w p) (by_effort there b op) y fits_too none_too in
      let same : by_effort here a op ≡ by_effort there b op = off_rulesets here a op off ∙ sym (off_rulesets there b op off_too) in
      let answers : answer_in tree a w p (by_effort here a op) ≡ answer_in tree b w p (by_effort there b op) =
      unversioned tree a b w.rulesets (by_effort here a op) (w.processes p) off
      ∙ ap (λ (o : Op). answer tree b w.rulesets o (w.processes p)) same in
      (is ∙ answers, same_call tree here there a b w p op same answers)

  both_allowed : by_effort here a op ≡ by_effort there b op → answer_told x ≡ Some Allowed → answer_told y ≡ Some Allowed → IsSameHere Allowed
  unfolding answer_in answer_to
  both_allowed same told told_too =
      let one = told_on (met_by tree a layers w p) (by_effort here a op) x Allowed fits told in
      let other = told_on (met_by tree b others w p) (by_effort there b op) y Allowed fits_too told_too in
      (other.1, same_call tree here there a b w p op same (sym one.1 ∙ other.1))

  -- what is told of neither is that it is allowed, and of one is told something
  nothing_allowed : (u v : Option Answer) → answer_told x ≡ u → answer_told y ≡ v → u ≢ Some Allowed → v ≢ Some Allowed
      → (u ≡ None → v ≢ None) → IsSameHere (unwrap_or v Moot)
  unfolding answer_in answer_to
  nothing_allowed (Some u) (Some v) told told_too other other_too some =
      let one = told_on (met_by tree a layers w p) (by_effort here a op) x u fits told in
      let two = told_on (met_by tree b others w p) (by_effort there b op) y v fits_too told_too in
      (two.1, nothing_changed tree here there a b w p op (λ is. other (ap Some (one.1 ∙ is))) (λ is. other_too (ap Some (two.1 ∙ is))))
  nothing_allowed None (Some v) told told_too other other_too some =
      let off = frozen_off (met_by tree a layers w p) (by_effort here a op) x fits told in
      let two = told_on (met_by tree b others w p) (by_effort there b op) y v fits_too told_too in
      let without = off_rulesets here a op off in
      let moot : answer_in tree a w p (by_effort here a op) ≡ Moot =
      ap (λ (o : Op). answer tree a w.rulesets o (w.processes p)) without
      ∙ left_out there b a op tree w.rulesets (w.processes p) (ap is_on_rulesets (sym without) ∙ off) two.0 in
      (two.1, nothing_changed tree here there a b w p op (λ is. moot-other (sym moot ∙ is)) (λ is. other_too (ap Some (two.1 ∙ is))))
  nothing_allowed (Some u) None told told_too other other_too some =
      let one = told_on (met_by tree a layers w p) (by_effort here a op) x u fits told in
      let off = frozen_off (met_by tree b others w p) (by_effort there b op) y fits_too told_too in
      let without = off_rulesets there b op off in
      let moot : answer_in tree b w p (by_effort there b op) ≡ Moot =
      ap (λ (o : Op). answer tree b w.rulesets o (w.processes p)) without
      ∙ left_out here a b op tree w.rulesets (w.processes p) (ap is_on_rulesets (sym without) ∙ off) one.0 in
      (sym moot, nothing_changed tree here there a b w p op (λ is. other (ap Some (one.1 ∙ is))) (λ is. moot-other (sym moot ∙ is)))
  nothing_allowed None None told told_too other other_too some = absurd (some refl refl)

-- ---- one record of two cases

answered : (tree : List Entry) (abi : Abi) (records : List Record) (k : ℕ) (r : Record) → slice_get records k ≡ Some r
    → answer_at tree abi records k ≡ answer_in tree abi (world_at tree abi records k) r.process.0 r.op
unfolding answer_at
answered tree abi records k r eq = ap (λ (o : Option Answer). unwrap_or o Moot) (judged-at tree abi records k r eq)

-- the record as a kernel sees it
abbrev seen_by : Settled → Record → Record
seen_by settled r = record r { op = taken settled.kernel r.op }

is_seen : (located : Located) (settled : Settled) (k : ℕ) (r : Record) → slice_get located.trace k ≡ Some r
    → slice_get (case_of located settled).records k ≡ Some (seen_by settled r)
is_seen located settled k r here = record_seen settled.kernel.effort settled.kernel.abi located.trace k r here

-- the world before it
abbrev world_of : Located → Settled → ℕ → World
world_of located settled k = world_at located.tree settled.kernel.abi (case_of located settled).records k

abbrev FitsIn : Located → Settled → World → Record → RulesetOutcome → Type 0
FitsIn located settled w r outcome =
    OutcomeFits (met_by located.tree settled.kernel.abi settled.layers.items w r.process.0) (taken settled.kernel r.op) outcome

module _ (located : Located) (one other : Settled) (k : ℕ) (case_one : IsCase (case_of located one)) (case_other : IsCase (case_of located other))
    (x y : RulesetOutcome) (within : k < length located.trace) (says : slice_get one.outcomes.items k ≡ Some x)
    (says_too : slice_get other.outcomes.items k ≡ Some y) where
  abbrev IsSameIn : Record → Answer → Type 0
  IsSameIn r given =
      IsSame located.tree one.kernel.effort other.kernel.effort one.kernel.abi other.kernel.abi (world_of located one k) r.process.0 r.op given

  -- what is so of one call in one world is so of the record in both cases
  lifted : (r : Record) (given : Answer) → slice_get located.trace k ≡ Some r
      → (FitsIn located one (world_of located one k) r x → FitsIn located other (world_of located one k) r y → IsSameIn r given)
      → StaysAlike (case_of located one) (case_of located other) k given
  lifted r given here same met =
      let tree = located.tree in
      let records = (case_of located one).records in
      let others = (case_of located other).records in
      let fits_too : FitsIn located other (world_of located one k) r y =
      subst (λ (w : World). FitsIn located other w r y) (sym met)
      (case_other.settled.fits k (seen_by other r) y (is_seen located other k r here) says_too) in
      let both = same (case_one.settled.fits k (seen_by one r) x (is_seen located one k r here) says) fits_too in (
        both.0
            ∙ ap (λ (w : World). answer_in tree other.kernel.abi w r.process.0 (taken other.kernel r.op)) met
            ∙ sym (answered tree other.kernel.abi others k (seen_by other r) (is_seen located other k r here)),
        world_at-more tree one.kernel.abi records k (seen_by one r) (is_seen located one k r here)
            ∙ both.1
            ∙ ap (λ (w : World). step tree other.kernel.abi w r.process.0 (taken other.kernel r.op)) met
            ∙ sym (world_at-more tree other.kernel.abi others k (seen_by other r) (is_seen located other k r here)),
      )

  pub stays_by_processes : (given : Answer) → answer_told x ≡ None → answer_told y ≡ None
      → given ≡ answer_at located.tree one.kernel.abi (case_of located one).records k → StaysAlike (case_of located one) (case_of located other) k given
  stays_by_processes given none none_too is =
      let (r, here) = stands_at located.trace k within in
      lifted r given here (λ fits fits_too.
      by_processes located.tree one.kernel.effort other.kernel.effort one.kernel.abi other.kernel.abi (world_of located one k) r.process.0 r.op
      one.layers.items other.layers.items x y fits fits_too given none none_too
      (is ∙ answered located.tree one.kernel.abi (case_of located one).records k (seen_by one r) (is_seen located one k r here)))

  pub stays_allowed : answer_told x ≡ Some Allowed → answer_told y ≡ Some Allowed
      → ((r : Record) → slice_get located.trace k ≡ Some r → taken one.kernel r.op ≡ taken other.kernel r.op)
      → StaysAlike (case_of located one) (case_of located other) k Allowed
  stays_allowed told told_too same =
      let (r, here) = stands_at located.trace k within in
      lifted r Allowed here (λ fits fits_too.
      both_allowed located.tree one.kernel.effort other.kernel.effort one.kernel.abi other.kernel.abi (world_of located one k) r.process.0 r.op
      one.layers.items other.layers.items x y fits fits_too (same r here) told told_too)

  pub stays_kept : answer_told x ≢ Some Allowed → answer_told y ≢ Some Allowed → (answer_told x ≡ None → answer_told y ≢ None)
      → StaysAlike (case_of located one) (case_of located other) k (unwrap_or (answer_told y) Moot)
  stays_kept other_told other_too some =
      let (r, here) = stands_at located.trace k within in
      lifted r (unwrap_or (answer_told y) Moot) here (λ fits fits_too.
      nothing_allowed located.tree one.kernel.effort other.kernel.effort one.kernel.abi other.kernel.abi (world_of located one k) r.process.0 r.op
      one.layers.items other.layers.items x y fits fits_too (answer_told x) (answer_told y) refl refl other_told other_too some)

-- ---- what is read of a case

pub outcome_read : (located : Located) (settled : Settled) (k : ℕ) (outcome : RulesetOutcome) → IsCase (case_of located settled) → k < length located.trace
    → outcome ≡ get_or settled.outcomes.items k outcome → slice_get settled.outcomes.items k ≡ Some outcome
outcome_read located settled k outcome case within read =
    slice_get_read settled.outcomes.items (length located.trace) k outcome
    (sym (case.settled.length ∙ as_many settled.kernel.effort settled.kernel.abi located.trace)) within read

-- the call that is read is the record's
pub same_read : (records read : List Record) (k : ℕ) (item : Record) (one other : Kernel) → read ≡ records → k < length records → item ≡ get_or read k item
    → taken one item.op ≡ taken other item.op → (r : Record) → slice_get records k ≡ Some r → taken one r.op ≡ taken other r.op
same_read records read k item one other is within got same r here =
    let found : slice_get records k ≡ Some item =
    slice_get_read records (length records) k item refl within (subst (λ (rs : List Record). item ≡ get_or rs k item) is got) in
    subst (λ (x : Record). taken one x.op ≡ taken other x.op) (same_Some item r (sym found ∙ here)) same

pub none_by : (o : Option Answer) (b : Bool) → is_some o ≡ not b → b ≡ true → o ≡ None
none_by None b is holds = refl
none_by (Some x) true is holds = cc
none_by (Some x) false is holds = cc

pub some_by : (o : Option Answer) (b : Bool) → is_some o ≡ not b → b ≡ false → o ≢ None
some_by o true is fails none = cc
some_by o false is fails none = cc

pub other_by : (o : Option Answer) (b : Bool) → (o ≡ Some Allowed → b ≡ true) → b ≡ false → o ≢ Some Allowed
other_by o b tells fails is = (let holds : b ≡ true = tells is in cc)

-- ---- the answers of one case, one after another

-- nothing is before the first record
pub met_first : (tree : List Entry) (a b : Abi) (records others : List Record) → world_at tree a records 0 ≡ world_at tree b others 0
unfolding world_at world_after
met_first tree a b records others = refl

-- each record is answered
pub judged_all : (located : Located) (settled : Settled)
    → length (judged located.tree settled.kernel.abi (case_of located settled).records) ≡ length located.trace
judged_all located settled =
    length-judged located.tree settled.kernel.abi (case_of located settled).records ∙ as_many settled.kernel.effort settled.kernel.abi located.trace

-- so there are as many answers in both cases
pub as_long : (located : Located) (one other : Settled) (answers : List Answer) → answers ≡ judged located.tree one.kernel.abi (case_of located one).records
    → length (judged located.tree other.kernel.abi (case_of located other).records) ≡ length answers
as_long located one other answers are = judged_all located other ∙ sym (judged_all located one) ∙ sym (ap (λ (xs : List Answer). length xs) are)

pub read_answer : (tree : List Entry) (abi : Abi) (records : List Record) (answers : List Answer) (k : ℕ) (given : Answer) → answers ≡ judged tree abi records
    → k < length answers → given ≡ get_or answers k given → given ≡ answer_at tree abi records k
unfolding answer_at
read_answer tree abi records answers k given are within read =
    sym (ap (λ (o : Option Answer). unwrap_or o Moot)
    (subst (λ (xs : List Answer). slice_get xs k ≡ Some given) are (slice_get_read answers (length answers) k given refl within read)))

pub more_answers : (tree : List Entry) (abi : Abi) (records : List Record) (k : ℕ) (before : List Answer) (given : Answer)
    → k < length (judged tree abi records) → before ≡ take k (judged tree abi records) → given ≡ answer_at tree abi records k
    → before ++ given ∷ [] ≡ take (k + 1) (judged tree abi records)
unfolding answer_at
more_answers tree abi records k before given within are is =
    let all = judged tree abi records in
    ap (λ (xs : List Answer). xs ++ given ∷ []) are
    ∙ ap (λ (x : Answer). take k all ++ x ∷ []) (is ∙ unwrap_or-slice_get all k Moot)
    ∙ sym (take_more all k Moot within)
