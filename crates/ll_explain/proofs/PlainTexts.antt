-- A text of plain bytes is in a JSON text as it is.
use Rattle.std.proofs.Common.{◌≡◌, ◌∙◌, ℕ, Bool, true, false, cond, List, [], ◌∷◌, ◌++◌, refl, ap, nat_lt}
use Rattle.std.specs.Prelude.{not, ◌&&◌}
use Rattle.std.specs.List.{list_all}
use Rattle.std.proofs.lemmas.Bool.{false≢true}
use Rattle.json.specs.Print.{escape, escape_byte, escape_letter}
use Rattle.ll_explain.specs.Words.{is_plain}

plain : (lettered below : Bool) (short long byte : List ℕ) → (not lettered && not below) ≡ true → byte ≡ cond lettered short (cond below long byte)
plain true below short long byte is = absurd (false≢true is)
plain false true short long byte is = absurd (false≢true is)
plain false false short long byte is = refl

plain_byte : (byte : ℕ) → is_plain byte ≡ true → byte ∷ [] ≡ escape_byte byte
unfolding escape_byte
plain_byte byte is = plain (nat_lt 0 (escape_letter byte)) (nat_lt byte 32) _ _ (byte ∷ []) is

both : (first rest : Bool) → (first && rest) ≡ true → (first ≡ true) × (rest ≡ true)
both true rest is = (refl, is)
both false rest is = absurd (false≢true is)

pub escape_plain : (bytes : List ℕ) → list_all is_plain bytes ≡ true → bytes ≡ escape bytes
escape_plain [] is = refl
escape_plain (byte ∷ bytes) is =
    let (here, rest) = both (is_plain byte) (list_all is_plain bytes) is in
    ap (λ more. byte ∷ more) (escape_plain bytes rest) ∙ ap (λ first. first ++ escape bytes) (plain_byte byte here)
