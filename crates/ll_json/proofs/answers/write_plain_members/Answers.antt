use Rattle.std.proofs.Common.{◌∷◌, ap, append-nil, codes, map, sym}
use Rattle.json.specs.Token as token
use Rattle.json.specs.Tree.{json_tokens}
use Rattle.ll_report.specs.Lines.{error_name}
use Rattle.ll_json.specs.Parts.{array_of}
use Rattle.ll_json.specs.Records.{answer_members, bare_layer, layers_json, why_members}
use Rattle.ll_json.proofs.Writing.{wrote_3, wrote_as}
use Rattle.ll_json.proofs.answers.write_plain_members.Goals as goal

pub returns-in-Allowed : goal.returns-in-Allowed
unfolding answer_members
returns-in-Allowed c = rw c.in-Allowed.is c.write_text.ensures

pub returns-in-Moot : goal.returns-in-Moot
unfolding answer_members why_members
returns-in-Moot c = rw c.in-Moot.is c.write_text-in-Moot.ensures

pub returns-in-Refused : goal.returns-in-Refused
unfolding answer_members layers_json why_members
returns-in-Refused c =
    rw c.in-Refused.is (wrote_as c.args.out.now c.write_bare_layers.new.out _ _
    (ap (λ ts.
    token.key (codes "answer") ∷ token.string (codes "refused") ∷ token.key (codes "error") ∷ token.string (error_name c.in-Refused.error)
    ∷ token.key (codes "layers") ∷ ts) (sym (append-nil (json_tokens (array_of (map bare_layer c.in-Refused.numbers))))))
    (wrote_3 c.args.out.now c.write_refusal.new.out c.write_key.new.self c.write_bare_layers.new.out _ _ _
    c.write_refusal.ensures c.write_key.ensures c.write_bare_layers.ensures))
