-- The first call that is refused adds the rule that is named.
use Rattle.std.proofs.Common.{◌≡◌, ℕ, Bool, true, false, not, List, [], ◌∷◌, ◌++◌, map, find, Option, Some, None, refl, sym, ap, ◌∙◌, arith, if◌then◌else◌}
use Rattle.std.proofs.Common.{All, subst, inl, inr}
use Rattle.std.specs.Prelude.{option_map}
use Rattle.std.specs.List.{flat_map}
use Rattle.std.proofs.lemmas.Bool.{cases_Bool}
use Rattle.std.specs.Option.{option_or}
use Rattle.std.proofs.lemmas.Option.{none-some}
use Rattle.std.proofs.lemmas.List.Folds.{find-append}
use Rattle.std.proofs.lemmas.List.Elements.{All-cons}
use Rattle.ll_rights.specs.declared.fs.Fs.{Fs}
use Rattle.ll_semantics.specs.declared.answer.Answer.TheVariants.{Allowed}
use Rattle.ll_semantics.specs.Answers.{fails}
use Rattle.ll_rules.specs.declared.errno.Errno.TheVariants.{Inval}
use Rattle.ll_fitting.specs.declared.written.Parent.{Parent}
use Rattle.ll_fitting.specs.declared.written.Parent.TheVariants.{There, Missing}
use Rattle.ll_fitting.specs.declared.fitting.FittedPathRule.{FittedPathRule}
use Rattle.ll_fitting.specs.declared.fitting.FittedPortRule.{FittedPortRule}
use Rattle.ll_fitting.specs.declared.refusing.RefusedRule.{RefusedRule}
use Rattle.ll_fitting.specs.Fitting.{Fitted}
use Rattle.ll_fitting.specs.Taken.{is_refused_on, is_refused, first_refused}
use Rattle.ll_fitting.specs.Misfits.{first_of}
use Rattle.ll_enforcing.specs.declared.calls.Call.{Call}
use Rattle.ll_enforcing.specs.declared.calls.Call.TheVariants as calls
use Rattle.ll_enforcing.specs.Calls.{calls_of_layer, calls_of}
use Rattle.ll_enforcing.specs.Answered.{answer_on, answer_of, is_refusal}

abbrev refuses : Call → Bool
refuses call = is_refusal (answer_of call)

by_test : (b : Bool) → is_refusal (if b then fails Inval else Allowed) ≡ b
by_test true = refl
by_test false = refl

pub refused_on : (parent : Parent) (rights : Fs) → is_refusal (answer_on parent rights) ≡ is_refused_on parent rights
refused_on (There object kind) rights = by_test (is_refused_on (There object kind) rights)
refused_on Missing rights = refl

rule_refused : (layer : ℕ) (rule : FittedPathRule) → refuses (calls.AddPath layer rule) ≡ is_refused rule
unfolding answer_of is_refused
rule_refused layer rule = refused_on rule.parent rule.rights

-- ---- what is found first

find_mapped : (layer : ℕ) (asked : List FittedPathRule)
    → find refuses (map (λ rule. calls.AddPath layer rule) asked) ≡ option_map (λ rule. calls.AddPath layer rule) (find is_refused asked)
find_mapped layer [] = refl
find_mapped layer (rule ∷ others) = elim (cases_Bool (is_refused rule)) [
  | inl refused ↦ rw (rule_refused layer rule, refused) refl
  | inr taken ↦ rw (rule_refused layer rule, taken) (find_mapped layer others)
]

find_ports : (layer : ℕ) (asked : List FittedPortRule) → find refuses (map (λ rule. calls.AddPort layer rule) asked) ≡ None
unfolding answer_of
find_ports layer [] = refl
find_ports layer (rule ∷ others) = find_ports layer others

or_none : {X : Type 0} (x : Option X) → option_or (option_or x None) None ≡ x
or_none None = refl
or_none (Some x) = refl

find_in_layer : (left : Fitted) → find refuses (calls_of_layer left) ≡ option_map (λ rule. calls.AddPath left.layer rule) (find is_refused left.path_rules)
unfolding calls_of_layer answer_of
find_in_layer left =
    let on_paths : List Call = map (λ rule. calls.AddPath left.layer rule) left.path_rules in
    let on_ports : List Call = map (λ rule. calls.AddPort left.layer rule) left.port_rules in
    find-append refuses (on_paths ++ on_ports) (calls.RestrictSelf left.layer ∷ calls.CloseRuleset left.layer ∷ [])
    ∙ ap (λ x. option_or x None)
    (find-append refuses on_paths on_ports
    ∙ ap (λ x. option_or (find refuses on_paths) x) (find_ports left.layer left.port_rules))
    ∙ or_none (find refuses on_paths) ∙ find_mapped left.layer left.path_rules

-- a call that is found adds the rule that is named
abbrev Names : Option RefusedRule → Option Call → Type 0
Names None None = Unit {0}
Names (Some refused) (Some call) = (rule : FittedPathRule) × (rule.rule ≡ refused.rule) × (call ≡ calls.AddPath refused.layer rule)
Names None (Some call) = ⊥
Names (Some refused) None = ⊥

names_in : (left : Fitted) (found : Option FittedPathRule) (later : Option RefusedRule) (call : Option Call) → Names later call
    → Names (option_or (option_map (λ rule. record { layer = left.layer; rule = rule.rule }) found) later)
    (option_or (option_map (λ rule. calls.AddPath left.layer rule) found) call)
names_in left None later call names = names
names_in left (Some rule) later call names = (rule, refl, refl)

names_first : (layers : List Fitted) → Names (first_refused layers) (find refuses (flat_map calls_of_layer layers))
unfolding first_of
names_first [] = tt
names_first (left ∷ others) =
    subst (λ (call : Option Call). Names (first_refused (left ∷ others)) call)
    (sym (find-append refuses (calls_of_layer left) (flat_map calls_of_layer others)
    ∙ ap (λ x. option_or x (find refuses (flat_map calls_of_layer others))) (find_in_layer left)))
    (names_in left (find is_refused left.path_rules) (first_refused others) (find refuses (flat_map calls_of_layer others)) (names_first others))

all_unless : (made : List Call) → find refuses made ≡ None → All (λ call. refuses call ≡ false) made
all_unless [] none = λ k d less. absurd (omega arith)
all_unless (call ∷ others) none = elim (cases_Bool (refuses call)) [
  | inl is ↦ absurd (none-some call (sym none ∙ rw is refl))
  | inr not ↦ All-cons (λ call. refuses call ≡ false) call others not (all_unless others (rw not at none))
]

none_named : (refused : Option RefusedRule) (call : Option Call) → Names refused call → refused ≡ None → call ≡ None
none_named None None names none = refl
none_named None (Some call) names none = absurd names
none_named (Some refused) call names none = absurd (cc)

some_named : (told : Option RefusedRule) (call : Option Call) (refused : RefusedRule) → Names told call → told ≡ Some refused
    → (rule : FittedPathRule) × (rule.rule ≡ refused.rule) × (call ≡ Some (calls.AddPath refused.layer rule))
some_named None call refused names is = absurd (cc)
some_named (Some other) None refused names is = absurd names
some_named (Some other) (Some call) refused names is =
    let same : other ≡ refused = cc in (
      names.0,
      names.1 ∙ ap (λ (r : RefusedRule). r.rule) same,
      ap (λ (c : Call). Some c)
          (names.2 ∙ ap (λ (r : RefusedRule). calls.AddPath r.layer names.0) same),
    )

pub none_refused : (layers : List Fitted) → first_refused layers ≡ None → All (λ call. is_refusal (answer_of call) ≡ false) (calls_of layers)
unfolding calls_of answer_of
none_refused layers none = all_unless (calls.NoNewPrivs ∷ flat_map calls_of_layer layers) (none_named _ _ (names_first layers) none)

pub refused_named : (layers : List Fitted) (refused : RefusedRule) → first_refused layers ≡ Some refused
    → (rule : FittedPathRule) × (rule.rule ≡ refused.rule) ×
    (find (λ call. is_refusal (answer_of call)) (calls_of layers) ≡ Some (calls.AddPath refused.layer rule))
unfolding calls_of answer_of
refused_named layers refused is = some_named (first_refused layers) (find refuses (flat_map calls_of_layer layers)) refused (names_first layers) is
