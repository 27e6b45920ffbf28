-- That what is found names nodes of a tree is a plain fact: it is proved in one way only.
-- Source: none; a law of definitions of ll_findings.
use Rattle.std.specs.Prelude.{List, Option}
use Rattle.std.specs.Coded.{Unit-prop}
use Rattle.std.proofs.Props.{props}
use Rattle.ll_tree.specs.Trees.{Entry}
use Rattle.ll_explanations.specs.InTree.{IsExplanationIn, IsObjectionIn}
use Rattle.ll_explanations.specs.declared.objection.Objection.{Objection}
use Rattle.ll_explanations.specs.declared.objection.Objection.TheVariants.{Missing, Closed, Gained, Mounting, Kept}
use Rattle.ll_explanations.specs.declared.explanation.Explanation.{Explanation}
use Rattle.ll_explanations.specs.declared.explanation.Explanation.TheVariants.{Nothing, Objections, Failure, Mootness}
use Rattle.ll_findings.specs.Findings.{FindingValue}
use Rattle.ll_findings.specs.InTree.{AreFindingsIn, IsKeptIn}

objection-once : (tree : List Entry) (objection : Objection) → IsProp (IsObjectionIn tree objection)
objection-once tree (Missing rights node) = hlevel props
objection-once tree (Closed rights port) = Unit-prop
objection-once tree (Gained object rights directory) = hlevel props
objection-once tree Mounting = Unit-prop
objection-once tree (Kept right opened) = Unit-prop

explanation-once : (tree : List Entry) (e : Explanation) → IsProp (IsExplanationIn tree e)
explanation-once tree Nothing = Unit-prop
explanation-once tree (Objections all) = hlevel (props, objection-once)
explanation-once tree (Failure condition) = Unit-prop
explanation-once tree (Mootness reason) = Unit-prop

pub IsKeptIn-once : (tree : List Entry) (kept : Option Explanation) → IsProp (IsKeptIn tree kept)
IsKeptIn-once tree kept = hlevel (props, explanation-once)

pub AreFindingsIn-once : (tree : List Entry) (findings : List FindingValue) → IsProp (AreFindingsIn tree findings)
AreFindingsIn-once tree findings = hlevel (props, IsKeptIn-once)
