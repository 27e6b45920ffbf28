use Rattle.std.proofs.Common.{◌≡◌, ◌++◌, drop, map}
use Rattle.json.specs.Tree.{members_tokens}
use Rattle.ll_values.specs.Texts.{members_of}
use Rattle.ll_calling.specs.Texts.{named}
use Rattle.ll_calling.proofs.objects.write_members.Given as goal

-- what is written and what is left make the whole
abbrev pub invariant-loop-name : goal.invariant-loop-name
invariant-loop-name l =
    (l.out.tokens ++ members_tokens (members_of (map named (drop l.name-index l.members)))
    ≡ l.initial.out.tokens ++ members_tokens (members_of (map named l.members)))
    × (l.out.before ≡ l.initial.out.before)
