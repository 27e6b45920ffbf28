-- An explanation means the same of two calls that name the same paths.
use Rattle.std.proofs.Common.{◌≡◌, List, Some, None, refl, ap, ap₂}
use Rattle.ll_tree.specs.Trees.{Entry}
use Rattle.ll_trace.specs.declared.op.Op.{Op}
use Rattle.ll_explanations.specs.declared.why.NamedPath.{NamedPath}
use Rattle.ll_explanations.specs.declared.why.Which.{Which}
use Rattle.ll_explanations.specs.declared.why.Which.TheVariants.{First, Second}
use Rattle.ll_explanations.specs.declared.why.Reason.{Reason as Given}
use Rattle.ll_explanations.specs.declared.why.Reason.TheVariants as given
use Rattle.ll_reasons.specs.Explanations as meant
use Rattle.ll_reasons.specs.Conditions.{only_for_directories}
use Rattle.ll_explanations.specs.Meant.{above_by, first_of, path_in, path_named, paths_of, reason_in, second_of, text_named}
use Rattle.ll_reasons.specs.Reasons.{Reason, spelt, absent, no_directory, present, of_kind, unmoved, beneath_itself, over_itself, mixed}
use Rattle.ll_explanations.specs.Meanings.{condition_in, explanation_in, rights_in}
use Rattle.ll_explanations.specs.declared.condition.Condition.{Condition}
use Rattle.ll_explanations.specs.declared.condition.Condition.TheVariants.{OnlyForDirectories}
use Rattle.ll_explanations.specs.declared.explanation.Explanation.{Explanation}
use Rattle.ll_explanations.specs.declared.explanation.Explanation.TheVariants.{Failure, Mootness}

module _ (a b : Op) (same : paths_of a ≡ paths_of b) where
  text_same : (which : Which) → text_named a which ≡ text_named b which
  unfolding text_named
  text_same First = ap first_of same
  text_same Second = ap second_of same

  path_same : (which : Which) → path_named a which ≡ path_named b which
  path_same which = ap spelt (text_same which)

  above_same : (named : NamedPath) → path_in a named ≡ path_in b named
  unfolding path_in
  above_same named = ap (above_by named.above) (path_same named.which)

  reason_same : (why : Given) → reason_in a why ≡ reason_in b why
  unfolding reason_in
  reason_same (given.Absent named) = ap absent (above_same named)
  reason_same (given.NoDirectory named) = ap no_directory (above_same named)
  reason_same (given.Present which) = ap present (path_same which)
  reason_same (given.OfKind kind) = ap (λ path. of_kind path kind) (path_same First)
  reason_same given.Unmoved = ap unmoved (path_same First)
  reason_same given.BeneathItself = ap₂ beneath_itself (path_same First) (path_same Second)
  reason_same given.OverItself = ap₂ over_itself (path_same First) (path_same Second)
  reason_same given.Mixed = ap₂ mixed (path_same First) (path_same Second)
  reason_same why = refl

  condition_same : (condition : Condition) → condition_in a condition ≡ condition_in b condition
  unfolding condition_in
  condition_same (OnlyForDirectories rights) = ap (only_for_directories (rights_in rights)) (text_same First)
  condition_same condition = refl

  pub explanation_same : (tree : List Entry) (e : Explanation) → explanation_in tree a e ≡ explanation_in tree b e
  unfolding explanation_in
  explanation_same tree (Failure condition) = ap meant.failure (condition_same condition)
  explanation_same tree (Mootness (Some why)) = ap (λ (reason : Reason). meant.mootness (Some reason)) (reason_same why)
  explanation_same tree (Mootness None) = refl
  explanation_same tree e = refl
