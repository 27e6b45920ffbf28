-- The layers of a set that are written by their numbers, up to a number.
use Rattle.std.proofs.Common.{◌≡◌, ◌∙◌, ℕ, suc, ◌+◌, ◌-◌, ◌<◌, Bool, true, false, cond, ◌==◌, List, [], ◌∷◌, ◌++◌, length, map}
use Rattle.std.proofs.Common.{refl, sym, ap, append_assoc, arith}
use Rattle.std.proofs.lemmas.Bool.{ne_eqb, true≢false}
use Rattle.json.specs.Token.{Token}
use Rattle.json.specs.Tree.{json_tokens}
use Rattle.ll_rules.specs.LayerNumbers.{is_among, passing_upto}
use Rattle.ll_json.specs.Values.{among_tokens}
use Rattle.ll_json.specs.Parts.{values_tokens}
use Rattle.ll_json.specs.Records.{bare_layer}
use Rattle.ll_json.specs.Writing.{Written, writing}
use Rattle.ll_json.proofs.Writing.{wrote_2}

abbrev layers_tokens : List ℕ → List Token
layers_tokens numbers = values_tokens (map bare_layer numbers)

layers_tokens-append : (some more : List ℕ) → layers_tokens (some ++ more) ≡ layers_tokens some ++ layers_tokens more
layers_tokens-append [] more = refl
layers_tokens-append (first ∷ some) more =
    ap (λ (rest : List Token). json_tokens (bare_layer first) ++ rest) (layers_tokens-append some more)
    ∙ sym (append_assoc (json_tokens (bare_layer first)) (layers_tokens some) (layers_tokens more))

-- those up to a number
unfoldable pub upto : List ℕ → ℕ → List Token
upto numbers bound = layers_tokens (passing_upto (λ number. is_among number numbers) bound)

pub upto-none : (numbers : List ℕ) → upto numbers 0 ≡ []
unfolding upto passing_upto
upto-none numbers = refl

one : (b : Bool) (number : ℕ) → layers_tokens (cond b (number ∷ []) []) ≡ cond b (json_tokens (bare_layer number)) []
one true number = refl
one false number = refl

upto-suc : (numbers : List ℕ) (bound : ℕ) → upto numbers (suc bound) ≡ upto numbers bound ++ among_tokens numbers (suc bound)
unfolding upto passing_upto among_tokens
upto-suc numbers bound =
    layers_tokens-append (passing_upto (λ number. is_among number numbers) bound) (cond (is_among (suc bound) numbers) (suc bound ∷ []) [])
    ∙ ap (λ (rest : List Token). layers_tokens (passing_upto (λ number. is_among number numbers) bound) ++ rest)
    (one (is_among (suc bound) numbers) (suc bound))

upto-next : (numbers : List ℕ) (number : ℕ) → 0 < number → upto numbers (number + 1 - 1) ≡ upto numbers (number - 1) ++ among_tokens numbers number
upto-next numbers number positive =
    let this : number + 1 - 1 ≡ suc (number - 1) = omega arith in
    let back : suc (number - 1) ≡ number = omega arith in
    ap (upto numbers) this ∙ upto-suc numbers (number - 1) ∙ ap (λ (n : ℕ). upto numbers (number - 1) ++ among_tokens numbers n) back

pub upto_more : (numbers : List ℕ) (number : ℕ) (start out after : Written) → 0 < number → out ≡ writing start (upto numbers (number - 1))
    → after ≡ writing out (among_tokens numbers number) → after ≡ writing start (upto numbers (number + 1 - 1))
upto_more numbers number start out after positive so_far wrote =
    wrote_2 start out after (upto numbers (number - 1)) (among_tokens numbers number) so_far wrote
    ∙ ap (λ (ts : List Token). writing start ts) (sym (upto-next numbers number positive))

-- all are written
pub upto_all : (numbers : List ℕ) (bound last : ℕ) (start out : Written) → bound ≡ last → passing_upto (λ number. is_among number numbers) last ≡ numbers
    → out ≡ writing start (upto numbers bound) → out ≡ writing start (values_tokens (map bare_layer numbers))
unfolding upto
upto_all numbers bound last start out end rising so_far =
    so_far ∙ ap (λ (n : ℕ). writing start (layers_tokens (passing_upto (λ number. is_among number numbers) n))) end
    ∙ ap (λ (all : List ℕ). writing start (layers_tokens all)) rising

-- there are none
pub no_layer : (numbers : List ℕ) (start : Written) → (length numbers == 0) ≡ true → start ≡ writing start (values_tokens (map bare_layer numbers))
unfolding writing
no_layer [] start none = refl
no_layer (first ∷ more) start none = absurd (true≢false (sym none ∙ ne_eqb (length (first ∷ more)) 0 (λ same. absurd (omega arith))))
