-- What the words of the program's command line ask for.
-- Source: landaudit-rules(1).
use Rattle.std.specs.Prelude.{ℕ, Bool, List, [], ◌∷◌, ◌-◌, ◌==◌, ◌&&◌, nat_lt, length, codes, Option, Some, None, slice_index_or, if◌then◌else◌}
use Rattle.std.specs.Str.{bytes_eq}
use Rattle.ll_rights.specs.declared.abi.Abi.{Abi}
use Rattle.ll_rights.specs.Abis.{version_of}
use Rattle.landaudit_rules.specs.declared.asking.Request.{Request}
use Rattle.landaudit_rules.specs.declared.asking.Request.TheVariants as request

-- what words ask for: answers to the comparisons in the file of a name, the calls for the policies in it at a version, the
-- tables of rights, help, the version, or nothing
pub data Asked : Type 0 where
  compare : List ℕ → Asked
  calls : Abi → List ℕ → Asked
  rights help version wrong : Asked

abbrev pub asked : Request → Asked
asked (request.Compare name) = compare name.now
asked (request.Calls abi name) = calls abi name.now
asked request.Rights = rights
asked request.Help = help
asked request.Version = version
asked request.Wrong = wrong

-- a hyphen with more behind it
unfoldable pub is_option : List ℕ → Bool
is_option word = nat_lt 1 (length word) && slice_index_or word 0 0 == 45

unfoldable pub asked_by : List ℕ → Asked
asked_by word =
    if bytes_eq word (codes "-h") then help
    else if bytes_eq word (codes "--help") then help
    else if bytes_eq word (codes "-V") then version
    else if bytes_eq word (codes "--version") then version
    else if bytes_eq word (codes "--rights") then rights
    else if is_option word then wrong
    else compare word

-- the version of a number of one digit
unfoldable pub version_named : List ℕ → Option Abi
version_named (digit ∷ []) = version_of (digit - 48)
version_named word = None

abbrev pub calls_at : Option Abi → List ℕ → Asked
calls_at None name = wrong
calls_at (Some abi) name = if is_option name then wrong else calls abi name

unfoldable pub calls_asked : List ℕ → List ℕ → List ℕ → Asked
calls_asked option number name = if bytes_eq option (codes "--calls") then calls_at (version_named number) name else wrong

-- the first word is the program's name, and without the name of a file standard input is asked for, whose name is a hyphen
abbrev pub request_in : List (List ℕ) → Asked
request_in [] = wrong
request_in (name ∷ []) = compare (codes "-")
request_in (name ∷ word ∷ []) = asked_by word
request_in (name ∷ option ∷ number ∷ []) = calls_asked option number (codes "-")
request_in (name ∷ option ∷ number ∷ file ∷ []) = calls_asked option number file
request_in (name ∷ option ∷ number ∷ file ∷ next ∷ others) = wrong
