-- What the rules of a layer do that were left at a newer version and are made at best effort at an older one.
use Rattle.std.proofs.Common.{◌≡◌, ℕ, ◌+◌, Bool, true, false, not, ◌&&◌, ◌||◌, List, [], ◌∷◌, ◌++◌, map, length, Some, refl, sym, ap, ◌∙◌, arith}
use Rattle.std.proofs.Common.{if◌then◌else◌, subst, All}
use Rattle.std.specs.List.{flat_map, list_any}
use Rattle.std.proofs.lemmas.Bool.{true≢false, false≢true}
use Rattle.std.proofs.lemmas.List.{append-nil, length-append, get_or_append_left, get_or-append-add}
use Rattle.std.proofs.lemmas.List.Folds.{list_any-append}
use Rattle.ll_rights.specs.declared.abi.Abi.{Abi}
use Rattle.ll_rights.specs.declared.fs.Fs.{Fs}
use Rattle.ll_rights.specs.declared.net.Net.{Net}
use Rattle.ll_rights.specs.Supported.{supported_fs, supported_net}
use Rattle.ll_rights.specs.Rights as files
use Rattle.ll_rights.specs.NetRights as network
use Rattle.ll_tree.specs.Trees.{Entry, place}
use Rattle.ll_tree.specs.TreeFacts.{IsTree}
use Rattle.ll_rules.proofs.Booleans.{or_false}
use Rattle.ll_trace.specs.declared.op.Op.{Op}
use Rattle.ll_trace.specs.declared.op.Op.TheVariants.{AddPath, AddPort, LeaveOutPath, LeaveOutPort}
use Rattle.ll_trace.specs.BestEffort.{at_best_effort}
use Rattle.ll_semantics.specs.declared.answer.Answer.{Answer}
use Rattle.ll_semantics.specs.declared.answer.Answer.TheVariants.{Allowed, Moot}
use Rattle.ll_semantics.specs.States.{State, Layer}
use Rattle.ll_semantics.specs.Answers.{answer}
use Rattle.ll_fitting.specs.declared.written.Parent.{Parent}
use Rattle.ll_fitting.specs.declared.fitting.FittedPathRule.{FittedPathRule}
use Rattle.ll_fitting.specs.declared.fitting.FittedPortRule.{FittedPortRule}
use Rattle.ll_fitting.specs.Fitting.{left_rule}
use Rattle.ll_fitting.specs.Taken.{is_refused_on, is_refused, granted_by}
use Rattle.ll_enforcing.specs.Calls.{path_to}
use Rattle.ll_enforcing.specs.Answered.{answer_on, is_refusal, IsListed, IsNoObject}
use Rattle.ll_enforcing.proofs.Runs.{Leads, leads_none, leads_on, leads_moot}
use Rattle.ll_enforcing.proofs.OneLayer.{with_granted, with_ports, path_operation, port_operation, IsAskedOfPort, leads_path, leads_port}
use Rattle.ll_enforcing.proofs.Refusing.{refused_on}
use Rattle.ll_enforcing.proofs.OlderRights.{supported_nothing}

-- ---- operations of which some is refused, or none

pub record Goes (tree : List Entry) (abi : Abi) (refused : Bool) (r : List Layer) (s : State) (ops : List Op) (r' : List Layer) (s' : State) : Type 0 where
  pub answers : List Answer
  pub leads : Leads tree abi r s ops answers r' s'
  pub refuses : list_any is_refusal answers ≡ refused

module _ (tree : List Entry) (abi : Abi) where
  pub goes_none : (r : List Layer) (s : State) → Goes tree abi false r s [] r s
  goes_none r s = record { answers = []; leads = leads_none tree abi r s; refuses = refl }

  pub goes_one : (r r' : List Layer) (s s' : State) (op : Op) (answer : Answer) → Leads tree abi r s (op ∷ []) (answer ∷ []) r' s'
      → Goes tree abi (is_refusal answer) r s (op ∷ []) r' s'
  goes_one r r' s s' op answer leads = record { answers = answer ∷ []; leads = leads; refuses = or_false (is_refusal answer) }

  pub goes_on : (x y : Bool) (r₀ r₁ r₂ : List Layer) (s₀ s₁ s₂ : State) (a b : List Op) → Goes tree abi x r₀ s₀ a r₁ s₁ → Goes tree abi y r₁ s₁ b r₂ s₂
      → Goes tree abi (x || y) r₀ s₀ (a ++ b) r₂ s₂
  goes_on x y r₀ r₁ r₂ s₀ s₁ s₂ a b first second = record {
    answers = first.answers ++ second.answers;
    leads = leads_on tree abi r₀ r₁ r₂ s₀ s₁ s₂ a b first.answers second.answers first.leads second.leads;
    refuses = list_any-append is_refusal first.answers second.answers ∙ ap (λ (b : Bool). b || list_any is_refusal second.answers) first.refuses
        ∙ ap (λ (b : Bool). x || b) second.refuses;
  }

-- ---- lists

pub all_left : {X : Type 0} (P : X → Type 0) (xs ys : List X) → All P (xs ++ ys) → All P xs
all_left P xs ys all = λ k d less. subst P (get_or_append_left xs ys d k less) (all k d (omega (arith, length-append xs ys)))

pub all_right : {X : Type 0} (P : X → Type 0) (xs ys : List X) → All P (xs ++ ys) → All P ys
all_right P xs ys all = λ k d less. subst P (get_or-append-add xs ys k d) (all (length xs + k) d (omega (arith, length-append xs ys)))

-- ---- what best effort makes of a call that adds a rule

taken_out : (a b : Bool) (x y : Op) → a ≡ true → b ≡ false → (if a && not b then x else y) ≡ x
taken_out true false x y is some = refl
taken_out true true x y is some = absurd (cc)
taken_out false b x y is some = absurd (cc)

left_in : (a b : Bool) (x y : Op) → a ≡ false → (if a && not b then x else y) ≡ y
left_in false b x y is = refl
left_in true b x y is = absurd (cc)

-- ---- a rule for files

abbrev pub any_refused : List FittedPathRule → Bool
any_refused asked = list_any is_refused asked

module _ (tree : List Entry) (older : Abi) (missing : List ℕ) (rs : ℕ) where
  -- the call of best effort for a rule that a newer version left
  abbrev pub best_path : FittedPathRule → Op
  best_path rule = at_best_effort older (path_operation tree older missing rs rule)

  left_out : (path : List ℕ) (rights : Fs) → files.is_empty (supported_fs older rights) ≡ true → files.is_empty rights ≡ false
      → at_best_effort older (AddPath rs path rights) ≡ LeaveOutPath path
  unfolding at_best_effort
  left_out path rights none some = taken_out (files.is_empty (supported_fs older rights)) (files.is_empty rights) _ _ none some

  asked_for : (path : List ℕ) (rights : Fs) → files.is_empty (supported_fs older rights) ≡ false
      → at_best_effort older (AddPath rs path rights) ≡ AddPath rs path (supported_fs older rights)
  unfolding at_best_effort
  asked_for path rights some = left_in (files.is_empty (supported_fs older rights)) (files.is_empty rights) _ _ some

  goes_left_out : (r : List Layer) (s : State) (path : List ℕ) → Goes tree older false r s (LeaveOutPath path ∷ []) r s
  unfolding answer
  goes_left_out r s path = goes_one tree older r r s s (LeaveOutPath path) Moot (leads_moot tree older r s (LeaveOutPath path) refl)

  -- what a rule needs
  pub record IsSame (layer : Layer) (parent : Parent) (newer_rights rights : Fs) : Type 0 where
    pub keeps : supported_fs older newer_rights ≡ rights
    pub listed : files.is_empty newer_rights ≡ false → IsListed tree parent
    pub within : files.is_within rights layer.handled_files ≡ true

  goes_by : (none_newer none : Bool) (before : List Layer) (layer : Layer) (s : State) (index : ℕ) (parent : Parent) (newer_rights rights : Fs) →
      IsTree tree → IsNoObject (place tree missing) → s.held rs ≡ Some (length before) → IsSame layer parent newer_rights rights →
      files.is_empty newer_rights ≡ none_newer → files.is_empty rights ≡ none
      → Goes tree older (any_refused (if none then [] else record { rule = index; parent = parent; rights = rights } ∷ [])) (before ++ layer ∷ []) s
      (map best_path (if none_newer then [] else record { rule = index; parent = parent; rights = newer_rights } ∷ []))
      (before ++ with_granted tree layer (flat_map granted_by (if none then [] else record { rule = index; parent = parent; rights = rights } ∷ [])) ∷ []) s
  unfolding granted_by is_refused
  goes_by true true before layer s index parent p q is_tree not_listed held same is_newer is = goes_none tree older (before ++ layer ∷ []) s
  goes_by true false before layer s index parent p q is_tree not_listed held same is_newer is =
      absurd (true≢false (sym (ap files.is_empty (sym same.keeps) ∙ supported_nothing older p is_newer) ∙ is))
  goes_by false true before layer s index parent p q is_tree not_listed held same is_newer is =
      subst (λ (op : Op). Goes tree older false (before ++ layer ∷ []) s (op ∷ []) (before ++ layer ∷ []) s)
      (sym (left_out (path_to tree missing parent) p (ap files.is_empty same.keeps ∙ is) is_newer))
      (goes_left_out (before ++ layer ∷ []) s (path_to tree missing parent))
  goes_by false false before layer s index parent p q is_tree not_listed held same is_newer is =
      let path : List ℕ = path_to tree missing parent in
      let granted = granted_by (record { rule = index; parent = parent; rights = q }) in
      let refused : is_refusal (answer_on parent q) ≡ (is_refused_on parent q || false) = refused_on parent q ∙ sym (or_false (is_refused_on parent q)) in
      subst (λ (op : Op). Goes tree older (is_refused_on parent q || false) (before ++ layer ∷ []) s (op ∷ [])
      (before ++ with_granted tree layer (granted ++ []) ∷ []) s)
      (sym (asked_for path p (ap files.is_empty same.keeps ∙ is) ∙ ap (λ (rights : Fs). AddPath rs path rights) same.keeps))
      (subst (λ (all : List (ℕ × Fs)). Goes tree older (is_refused_on parent q || false) (before ++ layer ∷ []) s (AddPath rs path q ∷ [])
      (before ++ with_granted tree layer all ∷ []) s) (sym (append-nil granted))
      (subst (λ (b : Bool). Goes tree older b (before ++ layer ∷ []) s (AddPath rs path q ∷ []) (before ++ with_granted tree layer granted ∷ []) s) refused
      (goes_one tree older (before ++ layer ∷ []) _ s s (AddPath rs path q) (answer_on parent q)
      (leads_path tree older missing rs before layer s parent q is_tree not_listed held is same.within (same.listed is_newer)))))

  pub goes_rule : (before : List Layer) (layer : Layer) (s : State) (index : ℕ) (parent : Parent) (newer_rights rights : Fs) → IsTree tree →
      IsNoObject (place tree missing) → s.held rs ≡ Some (length before) → IsSame layer parent newer_rights rights
      → Goes tree older (any_refused (left_rule index parent rights)) (before ++ layer ∷ []) s (map best_path (left_rule index parent newer_rights))
      (before ++ with_granted tree layer (flat_map granted_by (left_rule index parent rights)) ∷ []) s
  goes_rule before layer s index parent p q is_tree not_listed held same =
      goes_by _ _ before layer s index parent p q is_tree not_listed held same refl refl

  -- ---- a rule for a port

  abbrev pub best_port : FittedPortRule → Op
  best_port rule = at_best_effort older (port_operation tree older missing rs rule)

  port_left_out : (port : ℕ) (rights : Net) → network.is_empty (supported_net older rights) ≡ true → network.is_empty rights ≡ false
      → at_best_effort older (AddPort rs port rights) ≡ LeaveOutPort
  unfolding at_best_effort
  port_left_out port rights none some = taken_out (network.is_empty (supported_net older rights)) (network.is_empty rights) _ _ none some

  port_asked_for : (port : ℕ) (rights : Net) → network.is_empty (supported_net older rights) ≡ false
      → at_best_effort older (AddPort rs port rights) ≡ AddPort rs port (supported_net older rights)
  unfolding at_best_effort
  port_asked_for port rights some = left_in (network.is_empty (supported_net older rights)) (network.is_empty rights) _ _ some

  goes_port_left_out : (r : List Layer) (s : State) → Goes tree older false r s (LeaveOutPort ∷ []) r s
  unfolding answer
  goes_port_left_out r s = goes_one tree older r r s s LeaveOutPort Moot (leads_moot tree older r s LeaveOutPort refl)

  pub goes_port_by : (none_newer none : Bool) (before : List Layer) (layer : Layer) (s : State) (index port : ℕ) (newer_rights rights : Net) →
      s.held rs ≡ Some (length before) → supported_net older newer_rights ≡ rights →
      (none ≡ false → IsAskedOfPort tree older missing rs layer.handled_network (record { rule = index; port = port; rights = rights })) →
      network.is_empty newer_rights ≡ none_newer → network.is_empty rights ≡ none → (none_newer ≡ true → none ≡ true)
      → Goes tree older false (before ++ layer ∷ []) s
      (map best_port (if none_newer then [] else record { rule = index; port = port; rights = newer_rights } ∷ []))
      (before ++ with_ports layer (if none then [] else record { rule = index; port = port; rights = rights } ∷ []) ∷ []) s
  goes_port_by true true before layer s index port p q held same asked is_newer is empty = goes_none tree older (before ++ layer ∷ []) s
  goes_port_by true false before layer s index port p q held same asked is_newer is empty = absurd (false≢true (empty refl))
  goes_port_by false true before layer s index port p q held same asked is_newer is empty =
      subst (λ (op : Op). Goes tree older false (before ++ layer ∷ []) s (op ∷ []) (before ++ layer ∷ []) s)
      (sym (port_left_out port p (ap network.is_empty same ∙ is) is_newer)) (goes_port_left_out (before ++ layer ∷ []) s)
  goes_port_by false false before layer s index port p q held same asked is_newer is empty =
      subst (λ (op : Op). Goes tree older false (before ++ layer ∷ []) s (op ∷ [])
      (before ++ with_ports layer (record { rule = index; port = port; rights = q } ∷ []) ∷ []) s)
      (sym (port_asked_for port p (ap network.is_empty same ∙ is) ∙ ap (λ (rights : Net). AddPort rs port rights) same))
      (goes_one tree older (before ++ layer ∷ []) _ s s (AddPort rs port q) Allowed
      (leads_port tree older missing rs before layer s (record { rule = index; port = port; rights = q }) held (asked refl)))
