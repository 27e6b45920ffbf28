-- The text of explanations: lines that begin with four spaces, behind the record's own line.
-- Source: docs/FORMATS.md, "Explanations"; paths are escaped as RFC 8259, section 7, escapes texts.
use Rattle.std.specs.Prelude.{ℕ, ◌-◌, Bool, not, ◌&&◌, List, [], ◌∷◌, ◌++◌, map, nat_lt, Option, Some, None, option_and_then, slice_get, codes, decimal}
use Rattle.std.specs.List.{flat_map}
use Rattle.json.specs.Print.{escape, escape_letter}
use Rattle.ll_rights.specs.declared.kind.Kind.TheVariants.{Dir, Reg, Sym, Char, Block, Fifo, Sock}
use Rattle.ll_rights.specs.Abis.{number_of}
use Rattle.ll_rights.specs.Rights as files
use Rattle.ll_rights.specs.NetRights as network
use Rattle.ll_lines.specs.Paths.{Path, text_of}
use Rattle.ll_trace.specs.declared.op.Record.{Record}
use Rattle.ll_trace.specs.declared.op.Op.{Op}
use Rattle.ll_trace.specs.declared.op.Op.TheVariants as calls
use Rattle.ll_reasons.specs.Objections.{Objection, missing, closed, gained, mounting, kept}
use Rattle.ll_reasons.specs.Conditions.{Condition, unknown, portless, rightless, unheld, unhandled, unhandled_on_ports, only_for_directories, no_port, unprivileged, full, other}
use Rattle.ll_reasons.specs.Reasons.{Reason, absent, no_directory, present, of_kind, root, unmoved, beneath_itself, over_itself, mixed, open_already, unopened, not_for_writing, held_already}
use Rattle.ll_reasons.specs.Reasons as reasons
use Rattle.ll_reasons.specs.Explanations.{Explanation, nothing, objections, failure, mootness}

-- texts with a separator between them
unfoldable pub behind : List ℕ → List ℕ → List ℕ
behind separator text = separator ++ text

unfoldable pub joined : List ℕ → List (List ℕ) → List ℕ
joined separator [] = []
joined separator (text ∷ texts) = text ++ flat_map (behind separator) texts

unfoldable pub path_text : Path → List ℕ
path_text path = escape (text_of path)

-- a byte that is in a JSON text as it is
abbrev pub is_plain : ℕ → Bool
is_plain byte = not (nat_lt 0 (escape_letter byte)) && not (nat_lt byte 32)

-- the word for a right: its name, or one word for all that have none
abbrev pub word_for : List ℕ → List ℕ
word_for [] = codes "a right of another name"
word_for (first ∷ more) = first ∷ more

-- the words for rights that have these names, and the same separated by commas
abbrev pub words_of : {R : Type 0} → (R → List ℕ) → List R → List (List ℕ)
words_of name_of rights = map (λ right. word_for (name_of right)) rights

unfoldable pub listed : {R : Type 0} → (R → List ℕ) → List R → List ℕ
listed name_of rights = joined (codes ", ") (words_of name_of rights)

abbrev pub rights_text : List files.FsRight → List ℕ
rights_text rights = listed files.name_of rights

abbrev pub port_rights_text : List network.NetRight → List ℕ
port_rights_text rights = listed network.name_of rights

-- ---- objections

-- the line of a record, and the path that it opens
abbrev pub line_of : Option Record → ℕ
line_of None = 0
line_of (Some r) = r.line

abbrev pub path_of_call : Op → List ℕ
path_of_call (calls.OpenFile path fd mode create trunc) = path
path_of_call op = []

abbrev pub path_opened : Option Record → List ℕ
path_opened None = []
path_opened (Some r) = path_of_call r.op

unfoldable pub objection_text : List Record → Objection → List ℕ
objection_text records (missing rights path) = rights_text rights ++ codes " on " ++ path_text path
objection_text records (closed rights port) = port_rights_text rights ++ codes " on port " ++ decimal port
objection_text records (gained object rights directory) = path_text object ++ codes " would gain " ++ rights_text rights ++ codes " in " ++ path_text directory
objection_text records mounting = codes "it handles rights for files"
objection_text records (kept right index) =
    word_for (files.name_of right) ++ codes " on " ++ escape (path_opened (slice_get records index)) ++ codes ", opened at line " ++ decimal (line_of (slice_get records index))

-- a layer by its number, with the line of the record that made it, and what it objects to
unfoldable pub layer_head : List Record → List ℕ → ℕ → List ℕ
layer_head records layers number =
    codes "    layer " ++ decimal number ++ codes " (line " ++ decimal (line_of (option_and_then (slice_get records) (slice_get layers (number - 1)))) ++ codes "): "

unfoldable pub layer_text : List Record → List ℕ → ℕ × List Objection → List ℕ
layer_text records layers said = layer_head records layers said.0 ++ joined (codes "; ") (map (objection_text records) said.1) ++ codes "\n"

-- ---- conditions

-- rights that a version doesn't know; where all of those for files are known, one for ports isn't
unfoldable pub unknown_text : List files.FsRight → List ℕ
unknown_text [] = codes "a right for ports"
unknown_text (right ∷ rights) = rights_text (right ∷ rights)

unfoldable pub condition_text : Condition → List ℕ
condition_text (unknown abi rights) = codes "ABI " ++ decimal (number_of abi) ++ codes " does not know " ++ unknown_text rights
condition_text (portless abi) = codes "ABI " ++ decimal (number_of abi) ++ codes " has no rules for ports"
condition_text rightless = codes "no right is named"
condition_text (unheld rs) = codes "ruleset " ++ decimal rs ++ codes " is not held"
condition_text (unhandled rights) = codes "the ruleset does not handle " ++ rights_text rights
condition_text (unhandled_on_ports rights) = codes "the ruleset does not handle " ++ port_rights_text rights
condition_text (only_for_directories rights path) = escape path ++ codes " is not a directory, and only directories have " ++ rights_text rights
condition_text (no_port port) = codes "port " ++ decimal port ++ codes " is above 65535"
condition_text unprivileged = codes "the process has neither no_new_privs nor CAP_SYS_ADMIN"
condition_text full = codes "the process has 16 layers already"
condition_text other = codes "the call fails"

-- ---- reasons

unfoldable pub reason_text : Reason → List ℕ
reason_text (absent path) = path_text path ++ codes " is not in the tree"
reason_text (no_directory path) = path_text path ++ codes " is not a directory"
reason_text (present path) = path_text path ++ codes " is in the tree already"
reason_text (of_kind path Dir) = path_text path ++ codes " is a directory"
reason_text (of_kind path Reg) = path_text path ++ codes " is a regular file"
reason_text (of_kind path Sym) = path_text path ++ codes " is a symbolic link"
reason_text (of_kind path Char) = path_text path ++ codes " is a character device"
reason_text (of_kind path Block) = path_text path ++ codes " is a block device"
reason_text (of_kind path Fifo) = path_text path ++ codes " is a named pipe"
reason_text (of_kind path Sock) = path_text path ++ codes " is a socket"
reason_text root = codes "/ stays where it is"
reason_text (unmoved path) = path_text path ++ codes " would go where it is"
reason_text (beneath_itself from to) = path_text from ++ codes " would go beneath itself, to " ++ path_text to
reason_text (over_itself from to) = path_text from ++ codes " would take the place of " ++ path_text to ++ codes ", which it is in"
reason_text (mixed from to) = codes "one of " ++ path_text from ++ codes " and " ++ path_text to ++ codes " is a directory, the other is not"
reason_text (open_already fd) = codes "descriptor " ++ decimal fd ++ codes " is open already"
reason_text (unopened fd) = codes "descriptor " ++ decimal fd ++ codes " is not open"
reason_text (not_for_writing fd) = codes "descriptor " ++ decimal fd ++ codes " is not a regular file open for writing"
reason_text (held_already rs) = codes "ruleset " ++ decimal rs ++ codes " is held already"
reason_text (reasons.unheld rs) = codes "ruleset " ++ decimal rs ++ codes " is not held"
reason_text reasons.unsupported = codes "left out, as this ABI supports none of the rule's rights"
reason_text reasons.unenforced = codes "left out, as this ABI supports none of the ruleset's rights"

-- ---- explanations

-- one line of its own
abbrev pub alone : List ℕ → List ℕ
alone text = codes "    " ++ text ++ codes "\n"

abbrev pub mootness_text : Option Reason → List ℕ
mootness_text None = []
mootness_text (Some reason) = alone (reason_text reason)

-- the text of an explanation, whose process has layers made by these records
unfoldable pub explanation_text : List Record → List ℕ → Explanation → List ℕ
explanation_text records layers nothing = []
explanation_text records layers (objections said) = flat_map (layer_text records layers) said
explanation_text records layers (failure condition) = alone (condition_text condition)
explanation_text records layers (mootness reason) = mootness_text reason
