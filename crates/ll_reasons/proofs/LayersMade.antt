-- Each layer of a process is the ruleset that an allowed restrict named.
use Rattle.std.proofs.Common.{◌≡◌, ℕ, zero, suc, Bool, true, false, List, [], ◌∷◌, ◌++◌, All, length, filter_map, option_to_list, option_and_then, Option, Some}
use Rattle.std.proofs.Common.{None, refl, sym, ap, ◌∙◌, arith}
use Rattle.std.specs.Prelude.{slice_get, is_some, if◌then◌else◌}
use Rattle.std.proofs.lemmas.Option.{same_Some}
use Rattle.ll_rules.specs.declared.errno.Errno.TheVariants.{Perm, BadFd}
use Rattle.std.specs.List.{cons_option}
use Rattle.std.proofs.lemmas.List.Elements.{filter_map-append, All-nil, All-head, All-tail, All-push, All-weaker}
use Rattle.ll_rights.specs.declared.abi.Abi.{Abi}
use Rattle.ll_tree.specs.Trees.{Entry}
use Rattle.ll_trace.specs.declared.op.Record.{Record}
use Rattle.ll_trace.specs.declared.op.Op.{Op}
use Rattle.ll_trace.specs.declared.op.Op.TheVariants.{Restrict}
use Rattle.ll_semantics.specs.declared.answer.Answer.TheVariants.{Allowed}
use Rattle.ll_semantics.specs.States.{State, Layer, fresh}
use Rattle.ll_semantics.specs.Answers.{answer, named, restrict_answer, may_restrict, fails}
use Rattle.ll_semantics.specs.Effects.{effect}
use Rattle.ll_semantics.specs.RulesetOutcomes.{enforced}
use Rattle.ll_semantics.specs.Worlds.{World, answer_in, judged}
use Rattle.ll_semantics.specs.CallContexts.{change, state_by, world_at}
use Rattle.ll_semantics.proofs.Steps.{judged-at}
use Rattle.ll_reasons.specs.Origins.{Origins, no_origins, traced}
use Rattle.ll_reasons.specs.Made.{enforced_by, enforced_at, is_restrict, IsAllowed, IsEarlier}
use Rattle.ll_reasons.specs.Explanations.{domain_at, origins_at}
use Rattle.ll_reasons.proofs.Lockstep.{Keeps, holds_at}

-- ---- the layers are those that the records made

option_cons : (o : Option Layer) → cons_option o [] ≡ option_to_list o
option_cons None = refl
option_cons (Some layer) = refl

domain_changed : (tree : List Entry) (rulesets : List Layer) (op : Op) (s : State) (k : ℕ) (o : Origins) (made : ℕ → Option Layer)
    → made k ≡ enforced rulesets op s → s.domain ≡ filter_map made o.layers
    → (change tree rulesets op s).domain ≡ filter_map made (traced k op o).layers
unfolding change state_by effect traced enforced
domain_changed tree rulesets (Restrict rs) s k o made makes same =
    ap (λ (layers : List Layer). layers ++ option_to_list (named rulesets (s.held rs))) same
    ∙ ap (λ (more : List Layer). filter_map made o.layers ++ more)
    (sym (option_cons (named rulesets (s.held rs))) ∙ ap (λ (x : Option Layer). cons_option x []) (sym makes))
    ∙ sym (filter_map-append made o.layers (k ∷ []))
domain_changed tree rulesets op s k o made makes same = same

-- ---- and these are earlier restricts

earlier : (tree : List Entry) (abi : Abi) (records : List Record) (k : ℕ) (layers : List ℕ) → All (IsEarlier is_restrict tree abi records k) layers
    → All (IsEarlier is_restrict tree abi records (suc k)) layers
earlier tree abi records k layers all =
    All-weaker (IsEarlier is_restrict tree abi records k) (IsEarlier is_restrict tree abi records (suc k)) (λ j is. (omega (arith, is.0), is.1)) layers all

origins_changed : (tree : List Entry) (abi : Abi) (records : List Record) (k : ℕ) (r : Record) (op : Op) (o : Origins) → r.op ≡ op
    → slice_get records k ≡ Some r → slice_get (judged tree abi records) k ≡ Some Allowed
    → All (IsEarlier is_restrict tree abi records k) o.layers → All (IsEarlier is_restrict tree abi records (suc k)) (traced k op o).layers
unfolding traced is_restrict
origins_changed tree abi records k r (Restrict rs) o is eq allowed all =
    All-push (IsEarlier is_restrict tree abi records (suc k)) o.layers k (earlier tree abi records k o.layers all)
    (omega arith, record { of = r; at = eq; such = ap (λ (op : Op). is_restrict op) is; allowed = allowed })
origins_changed tree abi records k r op o is eq allowed all = earlier tree abi records k o.layers all

-- ---- of every process at every index

pub record Made (tree : List Entry) (abi : Abi) (records : List Record) (index : ℕ) (s : State) (o : Origins) : Type 0 where
  pub layers : s.domain ≡ filter_map (enforced_at tree abi records) o.layers
  pub restricts : All (IsEarlier is_restrict tree abi records index) o.layers

keeps : (tree : List Entry) (abi : Abi) (records : List Record) → Keeps tree abi records (Made tree abi records)
unfolding fresh no_origins enforced_at enforced_by
keeps tree abi records = record {
  begins = λ k nnp admin. record { layers = refl; restricts = All-nil (IsEarlier is_restrict tree abi records k) };
  stays = λ k s o made. record { layers = made.layers; restricts = earlier tree abi records k o.layers made.restricts };
  changes = λ k r o eq allowed judged made.
      (let w : World = world_at tree abi records k in
      let s : State = w.processes r.process.0 in
      let makes : enforced_at tree abi records k ≡ enforced w.rulesets r.op s = ap (λ (x : Option Record). enforced_by w x) eq in
      record {
        layers = domain_changed tree w.rulesets r.op s k o (enforced_at tree abi records) makes made.layers;
        restricts = origins_changed tree abi records k r r.op o refl eq judged made.restricts;
      });
}

pub made_at : (tree : List Entry) (abi : Abi) (records : List Record) (index process : ℕ)
    → Made tree abi records index ((world_at tree abi records index).processes process) (origins_at tree abi records index process)
made_at tree abi records index process = holds_at tree abi records (Made tree abi records) (keeps tree abi records) index process

-- ---- none of these makes no layer

restricts_by : (s : State) (rules : Option Layer) → restrict_answer s rules ≡ Allowed → is_some rules ≡ true
unfolding restrict_answer
restricts_by s None allowed = by_right (may_restrict s) allowed
  where
    by_right : (b : Bool) → (if b then fails BadFd else fails Perm) ≡ Allowed → false ≡ true
    by_right true allowed = cc
    by_right false allowed = cc
restricts_by s (Some rules) allowed = refl

enforces : (tree : List Entry) (abi : Abi) (w : World) (op : Op) (p : ℕ) → is_restrict op ≡ true → answer_in tree abi w p op ≡ Allowed
    → is_some (enforced w.rulesets op (w.processes p)) ≡ true
unfolding answer_in answer enforced is_restrict
enforces tree abi w (Restrict rs) p is allowed = restricts_by (w.processes p) (named w.rulesets ((w.processes p).held rs)) allowed
enforces tree abi w op p is allowed = absurd (cc)

makes_layer : (tree : List Entry) (abi : Abi) (records : List Record) (k : ℕ) → IsAllowed is_restrict tree abi records k
    → is_some (enforced_at tree abi records k) ≡ true
unfolding enforced_at enforced_by
makes_layer tree abi records k is =
    let w : World = world_at tree abi records k in
    let p : ℕ = is.of.process.0 in
    let allowed : answer_in tree abi w p is.of.op ≡ Allowed =
    same_Some (answer_in tree abi w p is.of.op) Allowed (sym (judged-at tree abi records k is.of is.at) ∙ is.allowed) in
    rw (is.at) (enforces tree abi w is.of.op p is.such allowed)

-- ---- so they are at the same indices

some_first : {X Y : Type 0} (h : X → Option Y) (x : X) (xs : List X) (o : Option Y) → is_some o ≡ true → (i : ℕ) → h x ≡ o
    → ((j : ℕ) → slice_get (filter_map h xs) j ≡ option_and_then h (slice_get xs j))
    → slice_get (cons_option o (filter_map h xs)) i ≡ option_and_then h (slice_get (x ∷ xs) i)
some_first h x xs None some i is rest = cc
some_first h x xs (Some y) some zero is rest = sym is
some_first h x xs (Some y) some (suc i) is rest = rest i

each_place : {X Y : Type 0} (h : X → Option Y) (xs : List X) → All (λ x. is_some (h x) ≡ true) xs → (i : ℕ)
    → slice_get (filter_map h xs) i ≡ option_and_then h (slice_get xs i)
each_place h [] all i = refl
each_place h (x ∷ xs) all i =
    some_first h x xs (h x) (All-head (λ x. is_some (h x) ≡ true) x xs all) i refl (λ j. each_place h xs (All-tail (λ x. is_some (h x) ≡ true) x xs all) j)

one_more : {Y : Type 0} (o : Option Y) (ys : List Y) → is_some o ≡ true → length (cons_option o ys) ≡ suc (length ys)
one_more None ys some = cc
one_more (Some y) ys some = refl

as_long : {X Y : Type 0} (h : X → Option Y) (xs : List X) → All (λ x. is_some (h x) ≡ true) xs → length xs ≡ length (filter_map h xs)
as_long h [] all = refl
as_long h (x ∷ xs) all = ap suc (as_long h xs (All-tail (λ x. is_some (h x) ≡ true) x xs all))
    ∙ sym (one_more (h x) (filter_map h xs) (All-head (λ x. is_some (h x) ≡ true) x xs all))

-- ---- the law

all_make : (tree : List Entry) (abi : Abi) (records : List Record) (index process : ℕ)
    → All (λ k. is_some (enforced_at tree abi records k) ≡ true) (origins_at tree abi records index process).layers
all_make tree abi records index process =
    All-weaker (IsEarlier is_restrict tree abi records index) (λ k. is_some (enforced_at tree abi records k) ≡ true)
    (λ k is. makes_layer tree abi records k is.1) (origins_at tree abi records index process).layers (made_at tree abi records index process).restricts

pub layers_made : (tree : List Entry) (abi : Abi) (records : List Record) (index process : ℕ)
    → domain_at tree abi records index process ≡ filter_map (enforced_at tree abi records) (origins_at tree abi records index process).layers
unfolding domain_at
layers_made tree abi records index process = (made_at tree abi records index process).layers

pub layers_counted : (tree : List Entry) (abi : Abi) (records : List Record) (index process : ℕ)
    → length (origins_at tree abi records index process).layers ≡ length (domain_at tree abi records index process)
layers_counted tree abi records index process =
    as_long (enforced_at tree abi records) (origins_at tree abi records index process).layers (all_make tree abi records index process)
    ∙ ap (λ (layers : List Layer). length layers) (sym (layers_made tree abi records index process))

pub each_layer_made : (tree : List Entry) (abi : Abi) (records : List Record) (index process i : ℕ) → slice_get (domain_at tree abi records index process) i
    ≡ option_and_then (enforced_at tree abi records) (slice_get (origins_at tree abi records index process).layers i)
each_layer_made tree abi records index process i =
    ap (λ (layers : List Layer). slice_get layers i) (layers_made tree abi records index process)
    ∙ each_place (enforced_at tree abi records) (origins_at tree abi records index process).layers (all_make tree abi records index process) i
