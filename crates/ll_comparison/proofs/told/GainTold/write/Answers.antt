use Rattle.std.proofs.lemmas.Result.{on_ok_weaker}
use Rattle.ll_values.proofs.Writing.{behind}
use Rattle.ll_comparison.proofs.told.GainTold.write.Goals as goal

pub returns-clause-tokens : goal.returns-clause-tokens
returns-clause-tokens c =
    let last = c.write_members.new.out.tokens in
    on_ok_weaker c.write_members.result (λ written.
    behind c.args.out.now.tokens c.begin_object.new.self.tokens last _ _ c.in_ok-begin_object.ensures.ok
    (behind c.begin_object.new.self.tokens c.write_member.new.out.tokens last _ _ c.in_ok-write_member.ensures.tokens written))
    c.write_members.ensures.tokens
