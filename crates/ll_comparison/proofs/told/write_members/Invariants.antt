use Rattle.std.proofs.Common.{◌≡◌, ◌++◌, drop, map}
use Rattle.json.specs.Tree.{members_tokens}
use Rattle.ll_values.specs.Texts.{members_of}
use Rattle.ll_comparison.specs.Texts.{named}
use Rattle.ll_comparison.proofs.told.write_members.Given as goal

-- what is written, and what is left to write
abbrev pub invariant-loop-name : goal.invariant-loop-name
invariant-loop-name g l =
    (l.out.tokens ++ members_tokens (members_of (map (named g.T.Told.json) (drop l.name-index l.members)))
    ≡ l.initial.out.tokens ++ members_tokens (members_of (map (named g.T.Told.json) l.members)))
    × (l.out.before ≡ l.initial.out.before)
