use Rattle.std.proofs.Common.{◌≡◌, ◌++◌, drop, map}
use Rattle.json.specs.Tree.{items_tokens}
use Rattle.ll_values.specs.Texts.{items_of}
use Rattle.ll_comparison.proofs.told.write_values.Given as goal

-- what is written, and what is left to write
abbrev pub invariant-loop-value : goal.invariant-loop-value
invariant-loop-value g l =
    (l.out.tokens ++ items_tokens (items_of (map g.T.Told.json (drop l.value-index l.values)))
    ≡ l.initial.out.tokens ++ items_tokens (items_of (map g.T.Told.json l.values)))
    × (l.out.before ≡ l.initial.out.before)
