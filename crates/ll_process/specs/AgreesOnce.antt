-- What a job and a progress hold of their process is a plain fact: it is proved in one way only.
-- Source: none; a law of this crate's own definitions.
use Rattle.std.specs.Prelude.{ℕ, List, [], ◌∷◌}
use Rattle.std.specs.List.{AllZip}
use Rattle.std.specs.Coded.{×_prop, Unit-prop}
use Rattle.std.proofs.Props.{props}
use Rattle.ll_lines.specs.Paths.{Path}
use Rattle.ll_rules.specs.Layers.{RulesOn}
use Rattle.ll_rules.specs.KeptLayers.{SameRules}
use Rattle.ll_state.specs.declared.own_state.OwnState.{OwnState}
use Rattle.ll_process.specs.Cases.{CaseValue, BeginsAs}
use Rattle.ll_process.specs.Progresses.{MeetsFrom}

SameRules-once : (a b : RulesOn Path) → IsProp (SameRules a b)
SameRules-once a b = hlevel props

same_layers-once : (xs ys : List (RulesOn Path)) → IsProp (AllZip SameRules xs ys)
same_layers-once [] [] = Unit-prop
same_layers-once [] (y ∷ ys) = hlevel props
same_layers-once (x ∷ xs) [] = hlevel props
same_layers-once (x ∷ xs) (y ∷ ys) = ×_prop (SameRules-once x y) (same_layers-once xs ys)

pub BeginsAs-once : (case : CaseValue) (process : ℕ) (own : OwnState) → IsProp (BeginsAs case process own)
BeginsAs-once case process own = hlevel (props, same_layers-once)

pub MeetsFrom-once : (case : CaseValue) (process at : ℕ) (own : OwnState) → IsProp (MeetsFrom case process at own)
MeetsFrom-once case process at own = hlevel (props, same_layers-once)
