-- Words without a fault have a value that passes for each argument, and so name a run.
use Rattle.std.proofs.Common.{◌≡◌, ◌∙◌, ◌<◌, ◌≤◌, ◌⊎◌, ◌||◌, ◌&&◌, ℕ, Bool, true, false, cond, not, zero, suc, List, [], ◌∷◌, ◌++◌, length, Option, Some, None}
use Rattle.std.proofs.Common.{refl, ap, sym, subst, inl, inr, arith, option_and_then, is_some, length-append, lt-ltb, option_map}
use Rattle.std.specs.Prelude.{IsSome, ◌↔◌, codes, fold, find, slice_get, drop, encode_utf8}
use Rattle.std.specs.List.{list_any}
use Rattle.std.specs.Option.{option_map_or}
use Rattle.std.specs.Str.{bytes_eq, chars}
use Rattle.std.proofs.lemmas.Bool.{ne_eqb}
use Rattle.std.proofs.lemmas.Option.{none-some, same_Some}
use Rattle.std.proofs.lemmas.Slice.Eq.{bytes_eq-Decides}
use Rattle.std.specs.Str.Parse.{digits_value, without_leading_plus}
use Rattle.clap.specs.declared.builder.value_parser.ValueParser.TheVariants.{Unsigned}
use Rattle.clap.proofs.ValueTestLemmas.{accepts-Accepts, Accepts-accepts}
use Rattle.ll_rights.specs.AbiRanges.{Range}
use Rattle.ll_command.proofs.CommandLine.{no_misuse, request_of-matches}
use Rattle.ll_command.specs.Command.{Request, command, worker_count, faults, is_misuse, number_at, range_in, request_if, request_in, request_of, options_in}
use Rattle.ll_command.specs.Command.{with_misuse}
use Rattle.clap.specs.declared.builder.action.ArgAction.{ArgAction}
use Rattle.clap.specs.declared.builder.action.ArgAction.TheVariants.{Help, Set, SetTrue, Version}
use Rattle.clap.specs.declared.parser.matches.ValueSource.{ValueSource}
use Rattle.clap.specs.declared.parser.matches.ValueSource.TheVariants.{CommandLine, DefaultValue}
use Rattle.clap.specs.declared.builder.value_parser.Reading.{Reading}
use Rattle.clap.specs.Facts.{explicit_source, parser_of_value, unwrap_or_range}
use Rattle.clap.specs.Faults.{action_fault, fault_of, bundle_fault, bundle_step_fault, check_fault, default_fault, defaults_fault, flag_word_fault, flags_fault}
use Rattle.clap.specs.Faults.{given_default_fault, long_fault, option_fault, other_fault, positional_fault, react_fault, repeat_fault, settle_fault}
use Rattle.clap.specs.Faults.{short_fault, step_fault, stray_fault, turn_fault, use_fault, values_fault, walk_fault, word_fault}
use Rattle.clap.specs.Kinds.{Kinds, or_else, range_kinds, request_kinds, value_kinds}
use Rattle.clap.specs.Lexer.{long_of, short_of}
use Rattle.clap.specs.Simple.{Shape, argument_words, built, matches_of, names_of}
use Rattle.clap.specs.Takes.{is_given}
use Rattle.clap.specs.ValueTests.{accepts, is_unsigned_in}
use Rattle.clap.specs.Values.{read_as, refused_kind}
use Rattle.clap.specs.declared.error.kind.ErrorKind.TheVariants.{DisplayHelp, DisplayVersion, InvalidValue, MissingRequiredArgument, TooManyValues}
use Rattle.clap.specs.Walk.{Held, Names, Outcome, Row, Rule, Step, Text, Waiting, Walk, action_of, after_flag, after_step, arg_by_id, arg_by_index, arg_by_long}
use Rattle.clap.specs.Walk.{arg_by_short, attached_value, bundle_met, bundle_step, default_rows, done, finished, first_of, flag_met, has_row, idle, is_empty}
use Rattle.clap.specs.Walk.{is_pending, long_met, long_or_other, most_values, more_values, next, nothing_held, one_of, option, option_met, option_word, plain}
use Rattle.clap.specs.Walk.{plain_word, positional, reacted, reading_by, refused, row_text, settled, settled_rows, short_met, short_or_plain, subcommand}
use Rattle.clap.specs.Walk.{subcommand_met, subcommand_or_other, takes_several, takes_values, to_positional, trailing, used, used_as, value, values_or_missing}
use Rattle.clap.specs.Walk.{waits, walk, walk_from, walked, walked_from, with_default, with_values, without, word_met}

-- ---- what a row holds

-- a row has values, they pass as the rule asks, and are read as it says
abbrev pub Fits : Rule → Row → Type 0
Fits rule row = (row.reading ≡ reading_by rule) × (values_fault rule row.values ≡ []) × (0 < length row.values)

-- each row fits the rule of its id
abbrev pub AllFit : List Rule → List Row → Type 0
AllFit rules [] = Unit {0}
AllFit rules (row ∷ rows) = ((rule : Rule) → arg_by_id rules row.id ≡ Some rule → Fits rule row) × AllFit rules rows

-- it takes a value, or is a flag, which stands for a value, or asks for help or the version
abbrev pub IsUsable : Rule → Type 0
IsUsable rule =
    ((action_of rule ≡ Set) × (0 < (unwrap_or_range rule.range).start_inclusive))
    ⊎ (((action_of rule ≡ SetTrue) × (0 < length rule.missing)) ⊎ ((action_of rule ≡ Help) ⊎ (action_of rule ≡ Version)))

-- the rule is the one of its id, and can be used
abbrev pub IsKnown : List Rule → Rule → Type 0
IsKnown rules rule = (arg_by_id rules rule.id ≡ Some rule) × IsUsable rule

abbrev pub AreKnown : List Rule → List Rule → Type 0
AreKnown rules [] = Unit {0}
AreKnown rules (rule ∷ others) = IsKnown rules rule × AreKnown rules others

-- a rule that is found is one of the known
found_known : (rules : List Rule) (test : Rule → Bool) (among : List Rule) (rule : Rule) → AreKnown rules among
    → find test among ≡ Some rule → IsKnown rules rule
found_known rules test [] rule known found = cc
found_known rules test (first ∷ others) rule known found = go (test first) found (found_known rules test others rule known.1)
  where
    go : (b : Bool) → cond b (Some first) (find test others) ≡ Some rule → (find test others ≡ Some rule → IsKnown rules rule) → IsKnown rules rule
    go true is later = subst (IsKnown rules) (same_Some first rule is) known.0
    go false is later = later is

both_empty : (first more : Kinds) → or_else first more ≡ [] → (first ≡ []) × (more ≡ [])
both_empty [] more none = (refl, none)
both_empty (kind ∷ kinds) more none = cc

values_append : (rule : Rule) (first more : List Text) → values_fault rule first ≡ [] → values_fault rule more ≡ []
    → values_fault rule (first ++ more) ≡ []
values_append rule [] more first_pass more_pass = more_pass
values_append rule (text ∷ others) more first_pass more_pass =
    let both = both_empty (value_kinds rule.ignore_case (parser_of_value rule.parser) text) (values_fault rule others) first_pass in
    rw both.0 (values_append rule others more both.1 more_pass)

without_fits : (rules : List Rule) (id : Text) (rows : List Row) → AllFit rules rows → AllFit rules (without id rows)
without_fits rules id [] fit = tt
without_fits rules id (row ∷ rows) fit = go (bytes_eq row.id id) (without_fits rules id rows fit.1)
  where
    go : (b : Bool) → AllFit rules (without id rows) → AllFit rules (cond b rows (row ∷ without id rows))
    go true others = fit.1
    go false others = (fit.0, others)

with_values_fits : (rules : List Rule) (rule : Rule) (source : ValueSource) (first : Text) (more : List Text) (rows : List Row)
    → arg_by_id rules rule.id ≡ Some rule → values_fault rule (first ∷ more) ≡ [] → AllFit rules rows
    → AllFit rules (with_values rule.id (reading_by rule) source (first ∷ more) rows)
with_values_fits rules rule source first more [] own pass fit = (
  λ other found.
      let same : rule ≡ other = same_Some rule other (sym own ∙ found) in
      subst (λ (r : Rule). (reading_by rule ≡ reading_by r) × (values_fault r (first ∷ more) ≡ []) × (0 < length (first ∷ more))) same
      (refl, pass, omega arith),
  tt,
)
with_values_fits rules rule source first more (row ∷ rows) own pass fit =
    go (bytes_eq row.id rule.id) refl (with_values_fits rules rule source first more rows own pass fit.1)
  where
    go : (b : Bool) → bytes_eq row.id rule.id ≡ b → AllFit rules (with_values rule.id (reading_by rule) source (first ∷ more) rows)
        → AllFit rules (cond b (more_values source (first ∷ more) row ++ rows) (row ∷ with_values rule.id (reading_by rule) source (first ∷ more) rows))
    go true same others = (
      λ other found.
          let id : row.id ≡ rule.id = (bytes_eq-Decides row.id rule.id).0 same in
          let is : rule ≡ other = same_Some rule other (sym own ∙ ap (arg_by_id rules) (sym id) ∙ found) in
          let held = fit.0 other found in
          let passes : values_fault other (first ∷ more) ≡ [] = subst (λ (r : Rule). values_fault r (first ∷ more) ≡ []) is pass in
          (held.0, values_append other row.values (first ∷ more) held.1 passes, omega (arith, length-append row.values (first ∷ more), held.2)),
      fit.1,
    )
    go false same others = (fit.0, others)

-- ---- a use of an argument

some_value : (least most : ℕ) → 0 < least → range_kinds least most 0 ≡ [] → ⊥
some_value least most some none =
    let bad : InvalidValue ∷ [] ≡ [] = rw (lt-ltb 0 least some) at none in
    omega (arith, ap length bad)

-- an action that keeps the values of a rule
abbrev Keeps : ArgAction → Type 0
Keeps action = (action ≡ Set) ⊎ (action ≡ SetTrue)

used_kept : (action : ArgAction) (rule : Rule) (values : List Text) (rows : List Row) → Keeps action
    → used_as action rule.id (reading_by rule) values rows ≡ with_values rule.id (reading_by rule) CommandLine values (without rule.id rows)
used_kept action rule values rows (inl set) = ap (λ (a : ArgAction). used_as a rule.id (reading_by rule) values rows) set
used_kept action rule values rows (inr flag) = ap (λ (a : ArgAction). used_as a rule.id (reading_by rule) values rows) flag

kept_pass : (action : ArgAction) (again : Bool) (rule : Rule) (values : List Text) (rows : List Row) → Keeps action
    → action_fault action again rule values rows ≡ [] → values_fault rule values ≡ []
kept_pass action again rule values rows keeps none = (both_empty (repeat_fault again rule.id rows) (values_fault rule values) (faults_of keeps)).1
  where
    faults_of : Keeps action → or_else (repeat_fault again rule.id rows) (values_fault rule values) ≡ []
    faults_of (inl set) = subst (λ (a : ArgAction). action_fault a again rule values rows ≡ []) set none
    faults_of (inr flag) = subst (λ (a : ArgAction). action_fault a again rule values rows ≡ []) flag none

-- a rule that stands for a value has one
some_missing : (rule : Rule) (values : List Text) → 0 < length rule.missing → 0 < length (values_or_missing rule values)
some_missing rule [] some = some
some_missing rule (text ∷ others) some = omega arith

never_help : (action : ArgAction) (again : Bool) (rule : Rule) (values : List Text) (rows : List Row) → action ≡ Help
    → action_fault action again rule values rows ≡ [] → ⊥
never_help action again rule values rows same none =
    let bad : DisplayHelp ∷ [] ≡ [] = subst (λ (a : ArgAction). action_fault a again rule values rows ≡ []) same none in
    omega (arith, ap length bad)

never_version : (action : ArgAction) (again : Bool) (rule : Rule) (values : List Text) (rows : List Row) → action ≡ Version
    → action_fault action again rule values rows ≡ [] → ⊥
never_version action again rule values rows same none =
    let bad : DisplayVersion ∷ [] ≡ [] = subst (λ (a : ArgAction). action_fault a again rule values rows ≡ []) same none in
    omega (arith, ap length bad)

use_fits : (rules : List Rule) (again : Bool) (rule : Rule) (values : List Text) (rows : List Row) → IsKnown rules rule
    → use_fault again rule values rows ≡ [] → AllFit rules rows → AllFit rules (used rule values rows)
use_fits rules again rule values rows known none fit = by_action known.1
  where
    parts : (range_kinds (unwrap_or_range rule.range).start_inclusive (most_values rule) (length values) ≡ [])
        × (action_fault (action_of rule) again rule (values_or_missing rule values) rows ≡ [])
    parts = both_empty _ _ none

    by_values : (vs : List Text) → action_of rule ≡ Set → 0 < (unwrap_or_range rule.range).start_inclusive
        → range_kinds (unwrap_or_range rule.range).start_inclusive (most_values rule) (length vs) ≡ []
        → action_fault (action_of rule) again rule (values_or_missing rule vs) rows ≡ []
        → AllFit rules (used rule vs rows)
    by_values [] set some range acts = absurd (some_value _ _ some range)
    by_values (first ∷ more) set some range acts =
        subst (AllFit rules) (sym (used_kept (action_of rule) rule (first ∷ more) rows (inl set)))
        (with_values_fits rules rule CommandLine first more (without rule.id rows) known.0
        (kept_pass (action_of rule) again rule (first ∷ more) rows (inl set) acts) (without_fits rules rule.id rows fit))

    by_flag : (vs : List Text) → action_of rule ≡ SetTrue → 0 < length vs → action_fault (action_of rule) again rule vs rows ≡ []
        → AllFit rules (used_as (action_of rule) rule.id (reading_by rule) vs rows)
    by_flag [] flag some acts = absurd (omega (arith, some))
    by_flag (first ∷ more) flag some acts =
        subst (AllFit rules) (sym (used_kept (action_of rule) rule (first ∷ more) rows (inr flag)))
        (with_values_fits rules rule CommandLine first more (without rule.id rows) known.0
        (kept_pass (action_of rule) again rule (first ∷ more) rows (inr flag) acts) (without_fits rules rule.id rows fit))

    by_action : IsUsable rule → AllFit rules (used rule values rows)
    by_action (inl set) = by_values values set.0 set.1 parts.0 parts.1
    by_action (inr (inl flag)) = by_flag (values_or_missing rule values) flag.0 (some_missing rule values flag.1) parts.1
    by_action (inr (inr (inl help))) = absurd (never_help (action_of rule) again rule (values_or_missing rule values) rows help parts.1)
    by_action (inr (inr (inr version))) = absurd (never_version (action_of rule) again rule (values_or_missing rule values) rows version parts.1)

-- ---- the walk over the words

module _ (shape : Shape) (known : AreKnown shape.rules shape.rules) where
  abbrev rules : List Rule
  rules = shape.rules

  abbrev again : Bool
  again = shape.args_override_self

  settle_by : (pending : Option (Text × List Text)) (rows : List Row)
      → option_map_or (λ p. option_map_or (λ a. use_fault again a p.1 rows) (arg_by_id rules p.0) []) pending [] ≡ []
      → AllFit rules rows → AllFit rules (settled_rows rules pending rows)
  settle_by None rows none fit = fit
  settle_by (Some p) rows none fit = go (arg_by_id rules p.0) refl none
    where
      go : (found : Option Rule) → arg_by_id rules p.0 ≡ found → option_map_or (λ a. use_fault again a p.1 rows) found [] ≡ []
          → AllFit rules (settled_rows rules (Some p) rows)
      go None is fails = rw is fit
      go (Some rule) is fails = rw is (use_fits rules again rule p.1 rows (found_known rules _ rules rule known is) fails fit)

  settle_fits : (h : Held) → settle_fault rules again h ≡ [] → AllFit rules h.rows → AllFit rules (settled rules h).rows
  settle_fits h none fit = settle_by h.pending h.rows none fit

  react_fits : (rule : Rule) (values : List Text) (h : Held) → IsKnown rules rule → react_fault rules again rule values h ≡ []
      → AllFit rules h.rows → AllFit rules (reacted rules rule values h).rows
  react_fits rule values h is none fit =
      let both = both_empty _ _ none in
      use_fits rules again rule values (settled rules h).rows is both.1 (settle_fits h both.0 fit)

  option_fits : (rule : Rule) (v : Option Text) (h : Held) → IsKnown rules rule → option_fault rules again rule v h ≡ []
      → AllFit rules h.rows → AllFit rules (option_met rules rule v h).0.rows
  option_fits rule (Some text) h is none fit = react_fits rule (text ∷ []) h is none fit
  option_fits rule None h is none fit = settle_fits h none fit

  long_fits : (found : Option Rule) (v : Option Text) (h : Held) → ((rule : Rule) → found ≡ Some rule → IsKnown rules rule)
      → long_fault rules again found v h ≡ [] → AllFit rules h.rows → AllFit rules (long_met rules found v h).0.rows
  long_fits None v h is none fit = cc
  long_fits (Some rule) v h is none fit = go (takes_values rule) v none
    where
      go : (b : Bool) (text : Option Text)
          → cond b (option_fault rules again rule text h) (cond (is_some text) (TooManyValues ∷ []) (react_fault rules again rule [] h)) ≡ []
          → AllFit rules (cond b (option_met rules rule text h) (flag_met rules rule text h)).0.rows
      go true text fails = option_fits rule text h (is rule refl) fails fit
      go false (Some text) fails = cc
      go false None fails = react_fits rule [] h (is rule refl) fails fit

  short_fits : (found : Option Rule) (rest : Text) (h : Held) (next_held : Held → Held × Outcome) (next_fault : Held → Kinds)
      → ((rule : Rule) → found ≡ Some rule → IsKnown rules rule)
      → ((g : Held) → next_fault g ≡ [] → AllFit rules g.rows → AllFit rules (next_held g).0.rows)
      → short_fault rules again found rest h next_fault ≡ [] → AllFit rules h.rows → AllFit rules (short_met rules found rest h next_held).0.rows
  short_fits None rest h next_held next_fault is later none fit = cc
  short_fits (Some rule) rest h next_held next_fault is later none fit = go (takes_values rule) none
    where
      go : (b : Bool)
          → cond b (option_fault rules again rule (attached_value rest) h) (or_else (react_fault rules again rule [] h) (next_fault (reacted rules rule [] h)))
          ≡ []
          → AllFit rules (cond b (option_met rules rule (attached_value rest) h) (next_held (reacted rules rule [] h))).0.rows
      go true fails = option_fits rule (attached_value rest) h (is rule refl) fails fit
      go false fails =
          let both = both_empty _ _ fails in
          later _ both.1 (react_fits rule [] h (is rule refl) both.0 fit)

  bundle_fits : (k : ℕ) (flags : Text) (skip : ℕ) (so_far : Outcome) (h : Held) → flags_fault rules again k flags skip h ≡ []
      → AllFit rules h.rows → AllFit rules (bundle_met rules k flags skip so_far h).0.rows
  unfolding bundle_met flags_fault
  bundle_fits zero flags skip so_far h none fit = fit
  bundle_fits (suc k) flags skip so_far h none fit = go (slice_get (chars flags) 0) skip (bundle_fits k) none
    where
      go : (first : Option ℕ) (passed : ℕ)
          → ((rest : Text) (n : ℕ) (so : Outcome) (g : Held) → flags_fault rules again k rest n g ≡ [] → AllFit rules g.rows
          → AllFit rules (bundle_met rules k rest n so g).0.rows)
          → bundle_step_fault rules again first flags passed h (flags_fault rules again k) ≡ []
          → AllFit rules (bundle_step rules first flags passed so_far h (bundle_met rules k)).0.rows
      go None passed later fails = fit
      go (Some x) zero later fails =
          let rest = drop (length (encode_utf8 x)) flags in
          short_fits (arg_by_short rules x) rest h (bundle_met rules k rest 0 done) (flags_fault rules again k rest 0)
          (λ rule found. found_known rules _ rules rule known found)
          (later rest 0 done) fails fit
      go (Some x) (suc passed) later fails = later (drop (length (encode_utf8 x)) flags) passed so_far h fails fit

  -- a word that is no flag leaves the rows as they are
  plain_fits : (waiting : Waiting) (word : Text) (h : Held) → AllFit rules h.rows → AllFit rules (plain_word rules waiting word h).0.rows
  plain_fits idle word h fit = fit
  plain_fits positional word h fit = fit
  plain_fits (option id) word h fit = go (arg_by_id rules id)
    where
      go : (found : Option Rule) → AllFit rules (option_word found id word h).0.rows
      go None = fit
      go (Some rule) = fit

  after_flag_fits : (waiting : Waiting) (word : Text) (h : Held) (outcome : Outcome) → AllFit rules h.rows
      → AllFit rules (after_flag rules waiting word h outcome).0.rows
  after_flag_fits waiting word h done fit = fit
  after_flag_fits waiting word h (waits id) fit = fit
  after_flag_fits waiting word h plain fit = plain_fits waiting word h fit
  after_flag_fits waiting word h refused fit = plain_fits waiting word h fit

  flag_word_fits : (long : Option (Text × Option Text)) (waiting : Waiting) (word : Text) (h : Held)
      → flag_word_fault rules again long word h ≡ [] → AllFit rules h.rows → AllFit rules (long_or_other rules waiting word long h).0.rows
  flag_word_fits (Some p) waiting word h none fit =
      after_flag_fits waiting word _ _ (long_fits (arg_by_long rules p.0) p.1 h (λ rule found. found_known rules _ rules rule known found) none fit)
  flag_word_fits None waiting word h none fit = go (short_of word) none
    where
      go : (short : Option Text) → option_map_or (λ flags. bundle_fault rules again flags h) short [] ≡ []
          → AllFit rules (short_or_plain rules waiting word short h).0.rows
      go None fails = plain_fits waiting word h fit
      go (Some flags) fails =
          after_flag_fits waiting word _ _ (bundle_fits (length flags) flags h.skip plain (record h { skip = 0 }) fails fit)

  other_fits : (named : Option Text) (waiting : Waiting) (position : ℕ) (word : Text) (h : Held)
      → other_fault shape named word h ≡ [] → AllFit rules h.rows
      → AllFit rules (subcommand_or_other rules named waiting position word h).0.rows
  other_fits (Some name) waiting position word h none fit = fit
  other_fits None waiting position word h none fit = go (bytes_eq word (45 ∷ 45 ∷ [])) none
    where
      go : (b : Bool) → cond b [] (flag_word_fault rules again (long_of word) word h) ≡ []
          → AllFit rules (cond b (h, trailing position) (long_or_other rules waiting word (long_of word) h)).0.rows
      go true fails = fit
      go false fails = flag_word_fits (long_of word) waiting word h fails fit

  word_fits : (names : Names) (is_trailing : Bool) (waiting : Waiting) (position : ℕ) (word : Text) (h : Held)
      → word_fault shape names is_trailing waiting word h ≡ [] → AllFit rules h.rows
      → AllFit rules (word_met rules names is_trailing waiting position word h).0.rows
  word_fits names true waiting position word h none fit = fit
  word_fits names false waiting position word h none fit = other_fits (subcommand_met names waiting word) waiting position word h none fit

  step_fits : (w : Walk) (word : Text) (h : Held) (step : Step) → step_fault shape w.position h step ≡ []
      → AllFit rules h.rows → AllFit rules (after_step rules word w h step).held.rows
  step_fits w word h (next waiting) none fit = fit
  step_fits w word h (trailing position) none fit = fit
  step_fits w word h (subcommand name) none fit = fit
  step_fits w word h value none fit = go (arg_by_index rules w.position) none
    where
      to : (rule : Rule) (b : Bool) → cond b [] (settle_fault rules again h) ≡ [] → AllFit rules (cond b h (settled rules h)).rows
      to rule true fails = fit
      to rule false fails = settle_fits h fails fit

      go : (found : Option Rule) → option_map_or (λ a. positional_fault rules again a h) found (stray_fault shape) ≡ []
          → AllFit rules (to_positional rules found word w h).held.rows
      go None fails = fit
      go (Some rule) fails = to rule (is_pending rule h.pending && takes_several rule) fails

  turn_fits : (names : Names) (w : Walk) (word : Text) → turn_fault shape names w word ≡ []
      → AllFit rules w.held.rows → AllFit rules (walked rules names w word).held.rows
  unfolding walked
  turn_fits names w word none fit = go w.stopped none
    where
      go : (stopped : Option (Text × List Text))
          → cond (is_some stopped) [] (or_else (word_fault shape names w.is_trailing w.waiting word w.held) (step_fault shape w.position
          (word_met rules names w.is_trailing w.waiting w.position word w.held).0 (word_met rules names w.is_trailing w.waiting w.position word w.held).1)) ≡ []
          → AllFit rules (walked_from rules names stopped w word).held.rows
      go (Some p) fails = fit
      go None fails =
          let both = both_empty _ _ fails in
          step_fits w word _ _ both.1 (word_fits names w.is_trailing w.waiting w.position word w.held both.0 fit)

  walk_fits : (names : Names) (w : Walk) (words : List Text) → walk_fault shape names w words ≡ []
      → AllFit rules w.held.rows → AllFit rules (fold (walked rules names) w words).held.rows
  unfolding walk_fault
  walk_fits names w [] none fit = fit
  walk_fits names w (word ∷ words) none fit =
      let both = both_empty _ _ none in
      walk_fits names (walked rules names w word) words both.1 (turn_fits names w word both.0 fit)

  -- ---- defaults

  default_fits : (rule : Rule) (rows : List Row) → IsKnown rules rule → default_fault rows rule ≡ []
      → AllFit rules rows → AllFit rules (with_default rows rule)
  default_fits rule rows is none fit = go (has_row rule.id rows) rule.defaults none
    where
      go : (b : Bool) (values : List Text) → cond (b || is_empty values) [] (given_default_fault rule values) ≡ []
          → AllFit rules (cond b rows (default_rows rule.id (reading_by rule) values rows))
      go true values fails = fit
      go false [] fails = fit
      go false (first ∷ more) fails =
          let some : is_empty (first ∷ more) ≡ false = ne_eqb _ _ (λ empty. omega (arith, empty)) in
          let both = both_empty (request_kinds (action_of rule)) (values_fault rule (first ∷ more)) (rw some at fails) in
          with_values_fits rules rule DefaultValue first more rows is.0 both.1 fit

  pub defaults_fit : (among : List Rule) (rows : List Row) → AreKnown rules among → defaults_fault rows among ≡ []
      → AllFit rules rows → AllFit rules (fold with_default rows among)
  unfolding defaults_fault
  defaults_fit [] rows all none fit = fit
  defaults_fit (rule ∷ others) rows all none fit =
      let both = both_empty _ _ none in
      defaults_fit others (with_default rows rule) all.1 both.1 (default_fits rule rows all.0 both.0 fit)

  -- the rows at the end of a walk in which nothing is wrong
  pub finished_fits : (names : Names) (words : List Text) → walk_fault shape names (walk_from nothing_held) words ≡ []
      → settle_fault rules again (walk rules names nothing_held words).held ≡ []
      → defaults_fault (settled rules (walk rules names nothing_held words).held).rows rules ≡ []
      → AllFit rules (finished rules (walk rules names nothing_held words).held)
  finished_fits names words walks settles defaults =
      defaults_fit rules _ known defaults
      (settle_fits (walk rules names nothing_held words).held settles (walk_fits names (walk_from nothing_held) words walks tt))

-- ---- what is found among the rows

-- the row of an id that has one
pub row_found : (id : Text) (rows : List Row) → has_row id rows ≡ true → (row : Row) × (find (λ r. bytes_eq r.id id) rows ≡ Some row)
row_found id [] has = cc
row_found id (row ∷ rows) has = go (bytes_eq row.id id) has (row_found id rows)
  where
    go : (b : Bool) → (b || has_row id rows) ≡ true
        → (has_row id rows ≡ true → (found : Row) × (find (λ r. bytes_eq r.id id) rows ≡ Some found))
        → (found : Row) × (cond b (Some row) (find (λ r. bytes_eq r.id id) rows) ≡ Some found)
    go true is later = (row, refl)
    go false is later = later is

given_found : (id : Text) (rows : List Row) → is_given id rows ≡ true → (row : Row) × (find (λ r. bytes_eq r.id id) rows ≡ Some row)
given_found id rows given = go (find (λ r. bytes_eq r.id id) rows) given
  where
    go : (found : Option Row) → option_map_or (λ r. explicit_source r.source) found false ≡ true → (row : Row) × (found ≡ Some row)
    go None is = cc
    go (Some row) is = (row, refl)

-- it fits the rule of this id
found_fits : (rules : List Rule) (rule : Rule) (id : Text) (rows : List Row) (row : Row) → AllFit rules rows
    → find (λ r. bytes_eq r.id id) rows ≡ Some row → arg_by_id rules id ≡ Some rule → Fits rule row
found_fits rules rule id [] row fit found own = cc
found_fits rules rule id (first ∷ rows) row fit found own =
    go (bytes_eq first.id id) refl found (λ is. found_fits rules rule id rows row fit.1 is own)
  where
    go : (b : Bool) → bytes_eq first.id id ≡ b → cond b (Some first) (find (λ r. bytes_eq r.id id) rows) ≡ Some row
        → (find (λ r. bytes_eq r.id id) rows ≡ Some row → Fits rule row) → Fits rule row
    go true same is later =
        let by_id : first.id ≡ id = (bytes_eq-Decides first.id id).0 same in
        subst (Fits rule) (same_Some first row is) (fit.0 rule (ap (arg_by_id rules) by_id ∙ own))
    go false same is later = later is

-- a row that fits has a first value, which passes
first_passes : (rule : Rule) (row : Row) → Fits rule row
    → (text : Text) × (slice_get row.values 0 ≡ Some text) × (accepts rule.ignore_case (parser_of_value rule.parser) text ≡ true)
first_passes rule row fits = go row.values fits.1 fits.2
  where
    accepted : (text : Text) (b : Bool) → cond b [] (refused_kind (parser_of_value rule.parser) ∷ []) ≡ [] → b ≡ true
    accepted text true none = refl
    accepted text false none = cc

    go : (values : List Text) → values_fault rule values ≡ [] → 0 < length values
        → (text : Text) × (slice_get values 0 ≡ Some text) × (accepts rule.ignore_case (parser_of_value rule.parser) text ≡ true)
    go [] pass some = absurd (omega arith)
    go (text ∷ others) pass some =
        (text, refl, accepted text (accepts rule.ignore_case (parser_of_value rule.parser) text) (both_empty _ _ pass).0)

-- the text of an id that has a row
pub text_found : (rules : List Rule) (rule : Rule) (id : Text) (rows : List Row) → AllFit rules rows → arg_by_id rules id ≡ Some rule
    → (row : Row) × (find (λ r. bytes_eq r.id id) rows ≡ Some row)
    → (text : Text) × (first_of id rows ≡ Some text) × (one_of id rows ≡ Some (read_as (reading_by rule) text))
    × (accepts rule.ignore_case (parser_of_value rule.parser) text ≡ true)
text_found rules rule id rows fit own (row, found) =
    let fits = found_fits rules rule id rows row fit found own in
    let first = first_passes rule row fits in (
      first.0,
      rw found first.1,
      ap (option_and_then row_text) found ∙ (ap (option_map (read_as row.reading)) first.1 ∙ ap (λ (how : Reading). Some (read_as how first.0)) fits.0),
      first.2,
    )

-- values that are added leave the rows of other ids, and make one of their own
kept_with : (id own : Text) (how : Reading) (source : ValueSource) (values : List Text) (rows : List Row) → has_row id rows ≡ true
    → has_row id (with_values own how source values rows) ≡ true
kept_with id own how source values [] has = cc
kept_with id own how source values (row ∷ rows) has = go (bytes_eq row.id own) (both (bytes_eq row.id id) has (kept_with id own how source values rows))
  where
    both : (b : Bool) → (b || has_row id rows) ≡ true → (has_row id rows ≡ true → has_row id (with_values own how source values rows) ≡ true)
        → (b || has_row id (with_values own how source values rows)) ≡ true
    both true here later = refl
    both false there later = later there

    go : (b : Bool) → has_row id (row ∷ with_values own how source values rows) ≡ true
        → has_row id (cond b (more_values source values row ++ rows) (row ∷ with_values own how source values rows)) ≡ true
    go true later = has
    go false later = later

own_with : (id : Text) (how : Reading) (source : ValueSource) (values : List Text) (rows : List Row)
    → has_row id (with_values id how source values rows) ≡ true
own_with id how source values [] =
    let same : bytes_eq id id ≡ true = (bytes_eq-Decides id id).1 refl in
    rw same refl
own_with id how source values (row ∷ rows) = go (bytes_eq row.id id) refl (own_with id how source values rows)
  where
    go : (b : Bool) → bytes_eq row.id id ≡ b → has_row id (with_values id how source values rows) ≡ true
        → has_row id (cond b (more_values source values row ++ rows) (row ∷ with_values id how source values rows)) ≡ true
    go true same later = rw same refl
    go false other later = rw other later

-- defaults leave the rows that there are
kept_default : (id : Text) (rule : Rule) (rows : List Row) → has_row id rows ≡ true → has_row id (with_default rows rule) ≡ true
kept_default id rule rows has = go (has_row rule.id rows) rule.defaults
  where
    go : (b : Bool) (values : List Text) → has_row id (cond b rows (default_rows rule.id (reading_by rule) values rows)) ≡ true
    go true values = has
    go false [] = has
    go false (first ∷ more) = kept_with id rule.id (reading_by rule) DefaultValue (first ∷ more) rows has

kept_defaults : (id : Text) (among : List Rule) (rows : List Row) → has_row id rows ≡ true → has_row id (fold with_default rows among) ≡ true
kept_defaults id [] rows has = has
kept_defaults id (rule ∷ others) rows has = kept_defaults id others (with_default rows rule) (kept_default id rule rows has)

-- a rule with defaults has a row after them
own_default : (rule : Rule) (rows : List Row) → is_empty rule.defaults ≡ false → has_row rule.id (with_default rows rule) ≡ true
own_default rule rows some = go (has_row rule.id rows) refl rule.defaults some
  where
    go : (b : Bool) → has_row rule.id rows ≡ b → (values : List Text) → is_empty values ≡ false
        → has_row rule.id (cond b rows (default_rows rule.id (reading_by rule) values rows)) ≡ true
    go true has values is = has
    go false has [] is = cc
    go false has (first ∷ more) is = own_with rule.id (reading_by rule) DefaultValue (first ∷ more) rows

-- this rule has this id, and defaults
abbrev gives : Text → Rule → Bool
gives id rule = bytes_eq rule.id id && not (is_empty rule.defaults)

own_defaults : (id : Text) (among : List Rule) (rows : List Row) → list_any (gives id) among ≡ true
    → has_row id (fold with_default rows among) ≡ true
own_defaults id [] rows some = cc
own_defaults id (rule ∷ others) rows some =
    go (bytes_eq rule.id id) (is_empty rule.defaults) refl refl some (own_defaults id others (with_default rows rule))
  where
    go : (same empty : Bool) → bytes_eq rule.id id ≡ same → is_empty rule.defaults ≡ empty
        → ((same && not empty) || list_any (gives id) others) ≡ true
        → (list_any (gives id) others ≡ true → has_row id (fold with_default (with_default rows rule) others) ≡ true)
        → has_row id (fold with_default (with_default rows rule) others) ≡ true
    go true false same empty any later =
        let is : rule.id ≡ id = (bytes_eq-Decides rule.id id).0 same in
        kept_defaults id others (with_default rows rule)
        (subst (λ (i : Text). has_row i (with_default rows rule) ≡ true) is (own_default rule rows empty))
    go true true same empty any later = later any
    go false b same empty any later = later any

-- ---- the command

abbrev top : Shape
top = (built command).top

are_known : AreKnown top.rules top.rules
unfolding command
are_known =
    let sets = inl (refl, omega arith) in
    let flag = inr (inl (refl, omega arith)) in (
      (refl, sets),
      (
        (refl, sets),
        (
          (refl, sets),
          (
            (refl, flag),
            (
              (refl, flag),
              (
                (refl, flag),
                (
                  (refl, flag),
                  (
                    (refl, flag),
                    (
                      (refl, flag),
                      ((refl, sets), ((refl, sets), ((refl, inr (inr (inl refl))), ((refl, inr (inr (inr refl))), tt)))),
                    ),
                  ),
                ),
              ),
            ),
          ),
        ),
      ),
    )

-- the rows of words in which nothing is wrong
record IsWhole (rows : List Row) : Type 0 where
  fit : AllFit top.rules rows
  abi : is_given (codes "abi") rows ≡ true
  tree : is_given (codes "TREE") rows ≡ true
  trace : is_given (codes "TRACE") rows ≡ true
  workers : has_row (codes "workers") rows ≡ true
  grain : has_row (codes "grain") rows ≡ true

three : (a b c : Bool) → (not a || (not b || (not c || false))) ≡ false → (a ≡ true) × (b ≡ true) × (c ≡ true)
three true true true none = (refl, refl, refl)
three true true false none = cc
three true false c none = cc
three false b c none = cc

none_missing : (missing : Bool) → cond missing (MissingRequiredArgument ∷ []) [] ≡ [] → missing ≡ false
none_missing true none = cc
none_missing false none = refl

given : (rows : List Row) (has_subcommand : Bool) → check_fault top rows has_subcommand ≡ []
    → (is_given (codes "abi") rows ≡ true) × (is_given (codes "TREE") rows ≡ true) × (is_given (codes "TRACE") rows ≡ true)
unfolding command
given rows true none = three _ _ _ (none_missing _ none)
given rows false none = three _ _ _ (none_missing _ none)

with_defaults : (rows : List Row)
    → (has_row (codes "workers") (fold with_default rows top.rules) ≡ true) × (has_row (codes "grain") (fold with_default rows top.rules) ≡ true)
unfolding command
with_defaults rows = (own_defaults (codes "workers") top.rules rows refl, own_defaults (codes "grain") top.rules rows refl)

-- words without a fault have none that the command's rules find, and are not misused
rules_alone : (words : List Text) → faults words ≡ [] → (fault_of command words ≡ []) × (is_misuse (matches_of command words) ≡ false)
unfolding faults
rules_alone words none = of_kinds (fault_of command words) (is_misuse (matches_of command words)) none
  where
    of_kinds : (kinds : Kinds) (misused : Bool) → with_misuse kinds misused ≡ [] → (kinds ≡ []) × (misused ≡ false)
    of_kinds [] true free = cc
    of_kinds [] false free = (refl, refl)
    of_kinds (kind ∷ others) misused free = cc

whole : (words : List Text) → fault_of command words ≡ [] → IsWhole (matches_of command words)
whole words none =
    let walks = both_empty _ _ none in
    let below = both_empty _ _ walks.1 in
    let settles = both_empty _ _ below.1 in
    let defaults = both_empty _ _ settles.1 in
    let has = given (matches_of command words) _ defaults.1 in
    let own = with_defaults (settled top.rules (walk top.rules (names_of (built command)) nothing_held (argument_words command words)).held).rows in
    record {
      fit = finished_fits top are_known (names_of (built command)) (argument_words command words) walks.0 settles.0 defaults.0;
      abi = has.0;
      tree = has.1;
      trace = has.2;
      workers = own.0;
      grain = own.1;
    }

-- ---- what they ask for

number_found : (low high : ℕ) (name : Text) (rows : List Row) (text : Text) → high ≤ 18446744073709551615 → one_of name rows ≡ Some text
    → is_unsigned_in low high text ≡ true → (number : ℕ) × (number_at name rows ≡ Some number) × (low ≤ number) × (number ≤ high)
number_found low high name rows text fits one passes =
    let accepted = accepts-Accepts false (Unsigned low high) text passes in
    let wide : is_unsigned_in 0 18446744073709551615 text ≡ true =
    Accepts-accepts false (Unsigned 0 18446744073709551615) text (accepted.0, accepted.1, omega arith, omega (arith, accepted.3, fits)) in
    (digits_value 10 (without_leading_plus text), rw (one, wide) refl, accepted.2, accepted.3)

-- what isn't misused names a range
range_found : (rows : List Row) (text : Text) → is_misuse rows ≡ false → first_of (codes "abi") rows ≡ Some text
    → (abis : Range) × (range_in text ≡ Some abis)
range_found rows text used first = there (range_in text) refl
  where
    there : (found : Option Range) → range_in text ≡ found → (abis : Range) × (range_in text ≡ Some abis)
    there None is =
        let misused : is_misuse rows ≡ true = rw (first, is) refl in
        cc
    there (Some abis) is = (abis, is)

worker_count_found : (number : ℕ) → 1 ≤ number → number ≤ 64 → worker_count number ≡ Some number
worker_count_found number low high = rw (lt-ltb 0 number (omega arith), lt-ltb number 65 (omega arith)) refl

named : (rows : List Row) → IsWhole rows → is_misuse rows ≡ false → (request : Request) × (request_in rows ≡ Some request)
unfolding command request_in
named rows is used =
    let abi = text_found top.rules _ (codes "abi") rows is.fit refl (given_found _ rows is.abi) in
    let workers = text_found top.rules _ (codes "workers") rows is.fit refl (row_found _ rows is.workers) in
    let grain = text_found top.rules _ (codes "grain") rows is.fit refl (row_found _ rows is.grain) in
    let tree = text_found top.rules _ (codes "TREE") rows is.fit refl (given_found _ rows is.tree) in
    let trace = text_found top.rules _ (codes "TRACE") rows is.fit refl (given_found _ rows is.trace) in
    let abis = range_found rows abi.0 used abi.1 in
    let many = number_found 1 64 (codes "workers") rows workers.0 (omega arith) workers.2 workers.3 in
    let count = worker_count_found many.0 many.2 many.3 in
    let size = number_found 0 18446744073709551615 (codes "grain") rows grain.0 (omega arith) grain.2 grain.3 in (
      record { options = options_in abis.0 rows; workers = many.0; grain = size.0; tree = tree.0; trace = trace.0 },
      rw (abi.1, abis.1, many.1, count, size.1, tree.1, trace.1) refl,
    )

-- words without a fault name a run
pub names_run : (words : List Text) → faults words ≡ [] → (request : Request) × (request_of words ≡ Some request)
unfolding request_of
names_run words none =
    let alone = rules_alone words none in
    let request = named _ (whole words alone.0) alone.1 in
    (request.0, rw none request.1)

-- and so matches of words without a fault never lack a run
pub never_lacking : (words : List Text) (rows : List Row) → fault_of command words ≡ [] → rows ≡ matches_of command words → is_misuse rows ≡ false
    → None ≡ request_in rows → ⊥
never_lacking words rows none same used lacks =
    let free = no_misuse words rows none same used in
    let request = names_run words free in
    none-some request.0 (lacks ∙ sym (request_of-matches words rows free same) ∙ request.1)

-- words that name a run have no fault
pub no_fault : (words : List Text) (request : Request) → request_of words ≡ Some request → faults words ≡ []
unfolding request_of
no_fault words request is = go (faults words) is
  where
    go : (kinds : Kinds) → request_if kinds (matches_of command words) ≡ Some request → kinds ≡ []
    go [] asked = refl
    go (kind ∷ others) asked = cc

-- and so words name a run just where they have no fault
pub just_without_fault : (words : List Text) → IsSome (request_of words) ↔ (faults words ≡ [])
just_without_fault words = (named_run (request_of words) refl, λ none. ap is_some (names_run words none).1)
  where
    named_run : (asked : Option Request) → request_of words ≡ asked → is_some asked ≡ true → faults words ≡ []
    named_run None is some = cc
    named_run (Some request) is some = no_fault words request is
