use Rattle.std.proofs.Common.{◌∙◌, ap, map}
use Rattle.json.specs.Json.{string}
use Rattle.ll_json.specs.Parts.{values_tokens}
use Rattle.ll_json.specs.Writing.{writing}
use Rattle.ll_explain.proofs.Tables.{words_alike}
use Rattle.ll_json.proofs.NamesTold.{names_are}
use Rattle.ll_json.proofs.rights.write_words.Goals as goal

pub returns : goal.returns
returns g c =
    let set = g.S.RightSet in
    c.write_names.ensures
    ∙ ap (writing c.args.out.now)
    (names_are (λ right. (set.family.row (set.named right)).name) (λ right. set.family.has c.args.rights (set.named right)) c.all.result.now
    ∙ ap (λ words. values_tokens (map string words))
    (words_alike set.named (λ right. (set.family.row right).name) set.family.all_rights c.all.result.now c.all.ensures (set.family.has c.args.rights)
    ∙ g.met.S.WordedSet.worded c.args.rights))
