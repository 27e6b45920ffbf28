-- What the words of a command line come to.
use Rattle.std.proofs.Common.{◌≡◌, ◌∙◌, ℕ, Bool, true, false, List, [], ◌∷◌, Option, Some, None, Result, Ok, Err, refl, ap, sym, subst, inl, inr, arith}
use Rattle.std.specs.Str.Parse.{ParsesUnsigned}
use Rattle.clap.specs.declared.builder.value_parser.ValueParser.TheVariants.{Unsigned}
use Rattle.clap.specs.declared.error.Error.{Error}
use Rattle.clap.specs.declared.error.kind.ErrorKind.{ErrorKind}
use Rattle.clap.specs.Matches.{ReadsOne}
use Rattle.clap.specs.ValueTests.{is_unsigned_in}
use Rattle.clap.specs.Words.{HasKind, IsAmong, Kinds, Row, Text, fault_of, is_simple, is_simple_and_free, kind_of, matches_of}
use Rattle.clap.proofs.OnLiterals.{clap_on_literals}
use Rattle.clap.proofs.WalkLemmas.{first_value-rows}
use Rattle.clap.proofs.ValueTestLemmas.{accepts-Accepts, Accepts-accepts}
use Rattle.clap.specs.declared.error.kind.ErrorKind.TheVariants.{DisplayHelp, DisplayVersion, ValueValidation}
use Rattle.ll_command.specs.Command.{AreWrong, AskForText, command, faults, is_misuse, number_in, request_if, request_in, request_of, with_misuse}

-- the first value that the matches give an argument is the first of its rows
pub ruleset first_in_rows = (first_value-rows, tt)

-- what a getter reads of a text is the number in it
pub number_in-read : (E : Type 0) (G : List ℕ → Result ℕ E → Type 0) (text : List ℕ) (read : Option ℕ)
    → ReadsOne G text read → ((bytes : List ℕ) (x : Result ℕ E) → G bytes x → ParsesUnsigned 64 10 bytes x)
    → read ≡ number_in text
number_in-read E G text read reads only = by_test (is_unsigned_in 0 18446744073709551615 text) refl read reads
  where
    by_test : (b : Bool) → is_unsigned_in 0 18446744073709551615 text ≡ b → (r : Option ℕ) → ReadsOne G text r → r ≡ number_in text
    by_test true passes (Some n) h =
        let parsed = only text (Ok n) h in
        rw passes (ap Some parsed.1)
    by_test true passes None h =
        let accepted = accepts-Accepts false (Unsigned 0 18446744073709551615) text passes in
        absurd (only text (Err h.0) h.1 (accepted.0, accepted.1))
    by_test false fails (Some n) h =
        let parsed = only text (Ok n) h in
        let small = parsed.0.1 in
        let passes : is_unsigned_in 0 18446744073709551615 text ≡ true =
        Accepts-accepts false (Unsigned 0 18446744073709551615) text (parsed.0.0, parsed.0.1, omega arith, omega arith) in
        let bad : true ≡ false = sym passes ∙ fails in
        cc
    by_test false fails None h = rw fails refl

pub is_simple-command : is_simple command ≡ true
unfolding clap_on_literals command
is_simple-command = refl

pub is_free-command : is_simple_and_free command ≡ true
unfolding clap_on_literals command
is_free-command = refl

-- a fault that the command's rules find is one of the words
among_faults : (words : List Text) (kind : ErrorKind) → IsAmong kind (fault_of command words) → IsAmong kind (faults words)
unfolding faults
among_faults words kind among = of_kinds (fault_of command words) (is_misuse (matches_of command words)) among
  where
    of_kinds : (kinds : Kinds) (misused : Bool) → IsAmong kind kinds → IsAmong kind (with_misuse kinds misused)
    of_kinds [] misused h = elim h [ ]
    of_kinds (k ∷ ks) misused h = h

pub has_kind : (words : List Text) (error : Error) → HasKind (fault_of command words) error → HasKind (faults words) error
has_kind words error (inl memory) = inl memory
has_kind words error (inr among) = inr (among_faults words (kind_of error) among)

-- what the words ask for is what their matches ask for, where nothing is wrong
pub request_of-matches : (words : List Text) (rows : List Row) → faults words ≡ [] → rows ≡ matches_of command words
    → request_of words ≡ request_in rows
unfolding request_of
request_of-matches words rows no_fault same = rw (no_fault, same) refl

-- words with a fault ask for nothing
pub request_of-fault : (words : List Text) (kind : ErrorKind) → IsAmong kind (faults words) → request_of words ≡ None
unfolding request_of
request_of-fault words kind among = by_kinds (faults words) among
  where
    by_kinds : (kinds : Kinds) → IsAmong kind kinds → request_if kinds (matches_of command words) ≡ None
    by_kinds [] h = elim h [ ]
    by_kinds (k ∷ ks) h = refl

-- matches that are misused have a fault of their own
pub misuse_is_wrong : (words : List Text) (rows : List Row) → fault_of command words ≡ [] → rows ≡ matches_of command words
    → is_misuse rows ≡ true → AreWrong words
unfolding faults
misuse_is_wrong words rows none same misused =
    let only : faults words ≡ ValueValidation ∷ [] = rw (none, sym same, misused) refl in
    (ValueValidation, subst (IsAmong ValueValidation) (sym only) (inl refl), λ is. cc, λ is. cc)

-- and the others none
pub no_misuse : (words : List Text) (rows : List Row) → fault_of command words ≡ [] → rows ≡ matches_of command words
    → is_misuse rows ≡ false → faults words ≡ []
unfolding faults
no_misuse words rows none same used = rw (none, sym same, used) refl

-- words that ask for help or the version ask for no run
pub asks_for_no_run : (words : List Text) → AskForText words → request_of words ≡ None
asks_for_no_run words (inl help) = request_of-fault words DisplayHelp help
asks_for_no_run words (inr version) = request_of-fault words DisplayVersion version

-- All that unfolds when command lines are read that are written out.
unfoldable pub reading : Unit {0}
unfolding clap_on_literals command faults request_in request_of Rattle.ll_rights.specs.Abis.all_versions
reading = tt
