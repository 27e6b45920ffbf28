-- What a reason that code gives means for a call: the reason of the definitions with the same name, of the paths that the call names.
-- Source: docs/SEMANTICS.md, "Three answers".
use Rattle.std.specs.Prelude.{ℕ, zero, suc, List, [], ◌∷◌}
use Rattle.ll_lines.specs.Paths.{Path, front}
use Rattle.ll_trace.specs.declared.op.Op.{Op}
unfoldable pub use Rattle.ll_trace.specs.Operations.{paths_of}
use Rattle.ll_explanations.specs.declared.why.NamedPath.{NamedPath}
use Rattle.ll_explanations.specs.declared.why.Which.{Which}
use Rattle.ll_explanations.specs.declared.why.Which.TheVariants.{First, Second}
use Rattle.ll_explanations.specs.declared.why.Reason.{Reason as Given}
use Rattle.ll_explanations.specs.declared.why.Reason.TheVariants as given
use Rattle.ll_reasons.specs.Reasons.{Reason, spelt, absent, no_directory, present, of_kind, root, unmoved, beneath_itself, over_itself, mixed, open_already, unopened, not_for_writing, held_already, unheld, unsupported, unenforced}

-- the first of some texts, and the second; the root's where there is none
abbrev pub first_of : List (List ℕ) → List ℕ
first_of [] = 47 ∷ []
first_of (text ∷ more) = text

abbrev pub second_of : List (List ℕ) → List ℕ
second_of [] = 47 ∷ []
second_of (text ∷ more) = first_of more

-- the text of a path that a call names
unfoldable pub text_named : Op → Which → List ℕ
text_named op First = first_of (paths_of op)
text_named op Second = second_of (paths_of op)

abbrev pub path_named : Op → Which → Path
path_named op which = spelt (text_named op which)

-- a path without so many names at its end
unfoldable pub above_by : ℕ → Path → Path
above_by zero path = path
above_by (suc names) path = front (above_by names path)

unfoldable pub path_in : Op → NamedPath → Path
path_in op named = above_by named.above (path_named op named.which)

unfoldable pub reason_in : Op → Given → Reason
reason_in op (given.Absent named) = absent (path_in op named)
reason_in op (given.NoDirectory named) = no_directory (path_in op named)
reason_in op (given.Present which) = present (path_named op which)
reason_in op (given.OfKind kind) = of_kind (path_named op First) kind
reason_in op given.Root = root
reason_in op given.Unmoved = unmoved (path_named op First)
reason_in op given.BeneathItself = beneath_itself (path_named op First) (path_named op Second)
reason_in op given.OverItself = over_itself (path_named op First) (path_named op Second)
reason_in op given.Mixed = mixed (path_named op First) (path_named op Second)
reason_in op (given.OpenAlready fd) = open_already fd
reason_in op (given.Unopened fd) = unopened fd
reason_in op (given.NotForWriting fd) = not_for_writing fd
reason_in op (given.HeldAlready rs) = held_already rs
reason_in op (given.Unheld rs) = unheld rs
reason_in op given.Unsupported = unsupported
reason_in op given.Unenforced = unenforced

-- All that unfolds when a reason of the tree is told.
unfoldable pub meaning_unmet : Unit {0}
unfolding reason_in path_in above_by Rattle.ll_reasons.specs.Reasons.unmet Rattle.ll_reasons.specs.Reasons.unsuited
meaning_unmet = tt

-- All that unfolds when a reason is told of an object that isn't there.
unfoldable pub no_meaning : Unit {0}
unfolding reason_in path_in above_by Rattle.ll_reasons.specs.Reasons.no_object
no_meaning = tt

-- All that unfolds when a reason is told of an object that is neither renamed nor linked.
unfoldable pub meaning_unmoved : Unit {0}
unfolding reason_in path_in above_by Rattle.ll_reasons.specs.Reasons.unrenamed Rattle.ll_reasons.specs.Reasons.unlinked
meaning_unmoved = tt
