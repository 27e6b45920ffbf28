use Rattle.std.proofs.Common.{◌≡◌, ◌∙◌, ◌∷◌, List, ap, ap₂, codes, map, refl}
use Rattle.clap.specs.Words.{Rule, rule_of}
use Rattle.ll_command.specs.Command as spec
use Rattle.ll_command.proofs.command.arguments.Goals as goal

-- an argument with its rule in front of others with theirs
ahead : {x y : Rule} {xs ys : List Rule} → x ≡ y → xs ≡ ys → x ∷ xs ≡ y ∷ ys
ahead first others = ap₂ (λ (x : Rule) (xs : List Rule). x ∷ xs) first others

pub returns-clause-rules : goal.returns-clause-rules
returns-clause-rules c =
    let abi : rule_of c.required.result ≡ spec.required (spec.text_option (codes "abi")) =
    ap rule_of c.required.ensures ∙ ap spec.required c.text_option.ensures.rule in
    let workers : rule_of c.default_value.result ≡ spec.with_default (codes "1") (spec.number_option (codes "workers") 1 64) =
    ap rule_of c.default_value.ensures ∙ ap (spec.with_default (codes "1")) c.number_option.ensures.rule in
    let grain : rule_of c.default_value-2.result ≡ spec.with_default (codes "64") (spec.number_option (codes "grain") 0 18446744073709551615) =
    ap rule_of c.default_value-2.ensures ∙ ap (spec.with_default (codes "64")) c.number_option-2.ensures.rule in
    ap (map rule_of) c.in_ok-vec.ensures.items
    ∙ ahead abi (ahead workers (ahead grain (ahead c.option.ensures.rule (ahead c.option-2.ensures.rule (ahead c.option-3.ensures.rule
    (ahead c.option-4.ensures.rule (ahead c.option-5.ensures.rule (ahead c.option-6.ensures.rule
    (ahead c.file_argument.ensures.rule (ahead c.file_argument-2.ensures.rule refl))))))))))
