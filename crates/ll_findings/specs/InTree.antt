-- What is found names nodes of a tree.
-- Source: docs/FORMATS.md, "Explanations".
use Rattle.std.specs.Prelude.{ℕ, All, IfSome, List, Option}
use Rattle.ll_tree.specs.Trees.{Entry}
use Rattle.ll_explanations.specs.InTree.{IsExplanationIn}
use Rattle.ll_explanations.specs.declared.explanation.Explanation.{Explanation}
use Rattle.ll_findings.specs.Findings.{FindingValue, kept_at}

-- the nodes that an explanation names are nodes of the tree, if one is kept
abbrev pub IsKeptIn : List Entry → Option Explanation → Type 0
IsKeptIn tree kept = IfSome kept (IsExplanationIn tree)

-- those of each explanation of a finding are
abbrev pub IsFindingIn : List Entry → FindingValue → Type 0
IsFindingIn tree finding = (index : ℕ) → IsKeptIn tree (kept_at finding index)

-- those of all findings are
abbrev pub AreFindingsIn : List Entry → List FindingValue → Type 0
AreFindingsIn tree findings = All (IsFindingIn tree) findings
