-- What tokens print that are written one after another.
use Rattle.std.proofs.Common.{◌≡◌, ◌∙◌, ℕ, Bool, true, List, [], ◌∷◌, ◌++◌, refl, sym, ap, append_assoc}
use Rattle.std.specs.Prelude.{fold}
use Rattle.json.specs.Print.{ends, print, print_from, separator, token_text}
use Rattle.json.specs.Token as token
use Rattle.json.specs.Token.{Token}
use Rattle.ll_explain.specs.Buffers.{Buffered, adding}
use Rattle.ll_explain.proofs.Buffering.{adding_both, adding_nothing}
use Rattle.ll_json.specs.Writing.{Written, begun, with_token, writing}

-- whether a value ends with these tokens
abbrev pub ends_with : Bool → List Token → Bool
ends_with before ts = fold (λ _ t. ends t) before ts

pub print_more : (c : Bool) (ts us : List Token) → print_from c (ts ++ us) ≡ print_from c ts ++ print_from (ends_with c ts) us
unfolding print_from
print_more c [] us = refl
print_more c (t ∷ ts) us =
    let first : List ℕ = print_from (ends t) ts in
    let second : List ℕ = print_from (ends_with (ends t) ts) us in
    ap (λ (l : List ℕ). separator c t ++ (token_text t ++ l)) (print_more (ends t) ts us)
    ∙ ap (λ (l : List ℕ). separator c t ++ l) (sym (append_assoc (token_text t) first second))
    ∙ sym (append_assoc (separator c t) (token_text t ++ first) second)

-- an object ends with its bracket
pub ends_object : (c : Bool) (ts : List Token) → ends_with c (ts ++ token.end_object ∷ []) ≡ true
ends_object c [] = refl
ends_object c (t ∷ ts) = ends_object (ends t) ts

-- the text of tokens that are written
pub text_of : (out : Written) (ts : List Token) → (writing out ts).text ≡ adding out.text (print_from out.after_value ts)
unfolding print_from with_token writing
text_of out [] = adding_nothing out.text
text_of out (t ∷ ts) =
    let here : List ℕ = separator out.after_value t ++ token_text t in
    let rest : List ℕ = print_from (ends t) ts in
    text_of (with_token out t) ts ∙ adding_both out.text here rest
    ∙ ap (adding out.text) (append_assoc (separator out.after_value t) (token_text t) rest)

-- of tokens that are written behind a text
pub printed : (start : Buffered) (ts : List Token) → (writing (begun start) ts).text ≡ adding start (print ts)
printed start ts = text_of (begun start) ts
