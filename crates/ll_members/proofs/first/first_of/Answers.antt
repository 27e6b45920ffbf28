use Rattle.std.proofs.Common.{◌≡◌, ◌∷◌, arith}
use Rattle.json.specs.Reads.{token_of}
use Rattle.json.proofs.Grammar.{value_is}
use Rattle.ll_members.proofs.FirstLemmas.{out_of_range}
use Rattle.ll_members.proofs.first.first_of.Goals as goal

pub returns-else-is_number_in_range-clause-value : goal.returns-else-is_number_in_range-clause-value
returns-else-is_number_in_range-clause-value c =
    let first : c.args.reader.now ≡ token_of c.in_ok-token.token ∷ c.next.new.self = grind arith in
    out_of_range c.args.reader.now c.next.new.self c.in-Number.text.now (grind (arith, first)) (grind arith)

pub returns-in-EndObject-clause-value : goal.returns-in-EndObject-clause-value
returns-in-EndObject-clause-value c =
    let first : c.args.reader.now ≡ token_of c.in_ok-token.token ∷ c.next.new.self = grind arith in
    record { none = λ depth. rw (value_is depth c.args.reader.now, first) (grind arith) }
