use Rattle.std.proofs.Common.{[], ◌∷◌, refl, arith, lit≤, All}
use Rattle.std.proofs.lemmas.List.Elements.{All-cons}
use Rattle.ll_tree.specs.Trees.{root}
use Rattle.ll_tree.proofs.Positions.{root_tree}
use Rattle.ll_fitting.specs.declared.fitting.FittedPathRule.{FittedPathRule}
use Rattle.ll_fitting.specs.Fitting.{Fitted}
use Rattle.ll_enforcing.specs.Answered.{IsListed}
use Rattle.ll_enforcing.specs.WorkedCalls.{enforcing}
use Rattle.ll_enforcing.proofs.worked.worked_start.Goals as goal

pub returns : goal.returns
unfolding enforcing
returns c = record {
  is_tree = root_tree;
  listed = All-cons (λ (left : Fitted). All (λ (rule : FittedPathRule). IsListed (root ∷ []) rule.parent) left.path_rules) _ []
      (All-cons (λ (rule : FittedPathRule). IsListed (root ∷ []) rule.parent) _ [] (lit≤ tt, refl) (λ k d less. absurd (omega arith)))
      (λ k d less. absurd (omega arith));
  not_listed = tt;
  started = lit≤ tt;
  free = refl;
  room = lit≤ tt;
}
