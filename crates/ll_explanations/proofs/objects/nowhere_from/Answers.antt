use Rattle.std.proofs.Common.{◌≡◌, ℕ, List, ◌<◌, ◌≤◌, ◌+◌, ◌∙◌, true, false, None, length, sym, ap, subst, rules, arith}
use Rattle.ll_lines.specs.declared.path.TheConstants.{LONGEST_PATH}
use Rattle.ll_lines.specs.Paths.{Path, front}
use Rattle.ll_tree.specs.Trees.{is_dir, kind_at, node_at}
use Rattle.ll_explanations.specs.Meant.{above_by, path_in, reason_in}
use Rattle.ll_reasons.specs.Reasons.{absent, no_directory, nowhere, spelt}
use Rattle.ll_explanations.proofs.SpeltTexts.{few_names}
use Rattle.ll_explanations.proofs.Upward.{above_directory, above_gone, above_next, above_other, root_absent, shorter_above}
use Rattle.ll_explanations.proofs.objects.nowhere_from.Goals as goal

pub returns-then-is_directory : goal.returns-then-is_directory
unfolding reason_in path_in
returns-then-is_directory c = λ op named.
    let directory : is_dir (kind_at c.args.tree.now c.in-Some-node.node) ≡ true = search rules in
    ap absent (ap (λ (text : List ℕ). above_by c.loop-up.above (spelt text)) named ∙ c.loop-up.invariant.1)
    ∙ above_directory c.args.tree.now c.loop-up.missing _ c.in-Some-node.node c.in-Some.ensures.some (sym c.in-Some-node.is ∙ c.node.ensures.exact) directory
    ∙ c.loop-up.invariant.0

pub returns-in-Some-node : goal.returns-in-Some-node
unfolding reason_in path_in
returns-in-Some-node c = λ op named.
    let other : is_dir (kind_at c.args.tree.now c.in-Some-node.node) ≡ false = search rules in
    let up = c.in-Some.ensures.some in
    ap no_directory (ap (λ (text : List ℕ). above_by (c.loop-up.above + 1) (spelt text)) named
    ∙ above_next c.loop-up.above (spelt c.args.text.now) ∙ ap front c.loop-up.invariant.1 ∙ sym up.0)
    ∙ above_other c.args.tree.now c.loop-up.missing _ c.in-Some-node.node up (sym c.in-Some-node.is ∙ c.node.ensures.exact) other
    ∙ c.loop-up.invariant.0

pub loop-up-init : goal.loop-up-init
unfolding above_by
loop-up-init c = (
  ap (nowhere c.args.tree.now) c.spelling-missing.ensures,
  sym c.spelling-missing.ensures,
  subst (λ (p : Path). 0 + length p ≤ LONGEST_PATH) (sym c.spelling-missing.ensures) (few_names c.args.text.now),
)

pub loop-up-smaller : goal.loop-up-smaller
loop-up-smaller c =
    let up = c.in-Some.ensures.some in
    subst (λ (p : Path). length p < length c.loop-up.missing) (sym up.0) (shorter_above c.loop-up.missing up.1)

pub loop-up-preserved : goal.loop-up-preserved
loop-up-preserved c =
    let tree = c.args.tree.now in
    let path = c.loop-up.missing in
    let up = c.in-Some.ensures.some in
    let none : c.node.result ≡ None = search rules in
    let gone : None ≡ node_at tree (front path) = sym none ∙ c.node.ensures.exact ∙ ap (node_at tree) up.0 in
    let shorter : length (front path) < length path = shorter_above path up.1 in
    let same : length c.in-Some.up ≡ length (front path) = ap length up.0 in (
      ap (nowhere tree) up.0 ∙ sym (above_gone tree path up.1 gone) ∙ c.loop-up.invariant.0,
      above_next c.loop-up.above (spelt c.args.text.now) ∙ ap front c.loop-up.invariant.1 ∙ sym up.0,
      omega (arith, shorter, same, c.loop-up.invariant.2),
    )

pub returns : goal.returns
unfolding reason_in path_in
returns c = λ op named.
    ap absent (ap (λ (text : List ℕ). above_by c.loop-up.above (spelt text)) named ∙ c.loop-up.invariant.1)
    ∙ sym (root_absent c.args.tree.now c.loop-up.missing c.in_default.ensures.none) ∙ c.loop-up.invariant.0
