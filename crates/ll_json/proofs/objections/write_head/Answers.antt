use Rattle.std.proofs.Common.{◌∙◌, ◌∷◌, [], ℕ, ap, codes, decimal}
use Rattle.json.specs.Token as token
use Rattle.ll_json.specs.Layering.{head_of}
use Rattle.ll_json.specs.Writing.{writing}
use Rattle.ll_json.proofs.Writing.{wrote_2, wrote_4}
use Rattle.ll_json.proofs.objections.write_head.Goals as goal

pub returns : goal.returns
unfolding head_of
returns c =
    wrote_2 c.args.out.now c.begin_object.new.self c.begin_array.new.self _ _ c.begin_object.ensures
    (wrote_4 c.begin_object.new.self c.write_number.new.out c.write_number-2.new.out c.write_key.new.self c.begin_array.new.self _ _ _ _
    c.write_number.ensures
    (c.write_number-2.ensures
    ∙ ap (λ (n : ℕ). writing c.write_number.new.out (token.key (codes "line") ∷ token.number (decimal n) ∷ [])) c.line_made.ensures)
    c.write_key.ensures c.begin_array.ensures)
