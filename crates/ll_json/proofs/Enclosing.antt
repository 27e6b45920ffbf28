-- The tokens between the brackets of an array and of an object.
use Rattle.std.proofs.Common.{◌≡◌, ◌∙◌, List, [], ◌∷◌, ◌++◌, refl, ap, append_assoc}
use Rattle.json.specs.Json.{Json}
use Rattle.json.specs.Token as token
use Rattle.json.specs.Tree.{items_tokens, json_tokens, members_tokens}
use Rattle.ll_json.specs.Parts.{Named, array_of, items_of, members_of, named_tokens, values_tokens}

pub values_end : (values : List Json) → values_tokens values ++ token.end_array ∷ [] ≡ items_tokens (items_of values)
values_end [] = refl
values_end (value ∷ more) =
    append_assoc (json_tokens value) (values_tokens more) (token.end_array ∷ []) ∙ ap (λ rest. json_tokens value ++ rest) (values_end more)

pub named_end : (members : List Named) → named_tokens members ++ token.end_object ∷ [] ≡ members_tokens (members_of members)
named_end [] = refl
named_end (named ∷ more) =
    ap (λ rest. token.key named.0 ∷ rest)
    (append_assoc (json_tokens named.1) (named_tokens more) (token.end_object ∷ []) ∙ ap (λ rest. json_tokens named.1 ++ rest) (named_end more))

pub array_tokens : (values : List Json) → token.begin_array ∷ (values_tokens values ++ token.end_array ∷ []) ≡ json_tokens (array_of values)
array_tokens values = ap (λ rest. token.begin_array ∷ rest) (values_end values)
