use Rattle.ll_json.specs.Values.{answer_tokens}
use Rattle.ll_json.proofs.Writing.{wrote_4}
use Rattle.ll_json.proofs.answers.write_refused.Goals as goal

pub returns : goal.returns
unfolding answer_tokens
returns c =
    wrote_4 c.args.out.now c.write_refusal.new.out c.write_key.new.self c.write_layers_of.new.out c.write_why.new.out _ _ _ _
    c.write_refusal.ensures c.write_key.ensures c.write_layers_of.ensures (c.write_why.ensures c.args.here.now.tree.now)
