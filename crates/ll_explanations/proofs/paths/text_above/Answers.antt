use Rattle.std.proofs.Common.{◌≡◌, ◌∙◌, ap, sym, arith}
use Rattle.ll_lines.specs.Paths.{front}
use Rattle.ll_explanations.specs.Meant.{above_by, path_in, path_named}
use Rattle.ll_explanations.proofs.Upward.{above_next, front_root}
use Rattle.ll_explanations.proofs.paths.text_above.Goals as goal
use Rattle.ll_explanations.proofs.paths.text_above.Goals.{in-Some, in_default}

pub loop-init : goal.loop-init
unfolding above_by
loop-init c = c.of-path.ensures

pub loop-preserved : goal.loop-preserved
loop-preserved c =
    let path = path_named c.args.op.now c.args.named.which in
    elim c.match-front.branch [
      | in-Some w ↦ rw w.path-is (w.in-Some.ensures.some.0 ∙ ap front c.loop.invariant ∙ sym (above_next c.loop.counter path))
      | in_default w ↦ rw w.path-is (w.in_default.ensures.none ∙ sym (front_root c.loop.path w.in_default.ensures.none) ∙ ap front c.loop.invariant
          ∙ sym (above_next c.loop.counter path))
    ]

pub returns-clause-path : goal.returns-clause-path
unfolding path_in
returns-clause-path c =
    let last : c.loop.counter ≡ c.args.named.above = omega (arith, c.loop-test.false, c.loop.auto.counter-end) in
    c.as_str.ensures.path ∙ c.loop.invariant ∙ ap (λ n. above_by n (path_named c.args.op.now c.args.named.which)) last
