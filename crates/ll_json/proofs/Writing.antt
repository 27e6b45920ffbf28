-- Tokens that are written one after another.
use Rattle.std.proofs.Common.{◌≡◌, ◌∙◌, List, ◌++◌, sym, ap}
use Rattle.std.proofs.lemmas.List.Sums.{fold-append}
use Rattle.json.specs.Token.{Token}
use Rattle.ll_json.specs.Writing.{Written, with_token, writing}

pub writing_both : (out : Written) (a b : List Token) → writing (writing out a) b ≡ writing out (a ++ b)
unfolding writing
writing_both out a b = sym (fold-append with_token out a b)

pub wrote_2 : (s t u : Written) (a b : List Token) → t ≡ writing s a → u ≡ writing t b → u ≡ writing s (a ++ b)
wrote_2 s t u a b first second = second ∙ ap (λ (out : Written). writing out b) first ∙ writing_both s a b

pub wrote_3 : (s t u v : Written) (a b c : List Token) → t ≡ writing s a → u ≡ writing t b → v ≡ writing u c → v ≡ writing s (a ++ (b ++ c))
wrote_3 s t u v a b c first second third = wrote_2 s t v a (b ++ c) first (wrote_2 t u v b c second third)

pub wrote_4 : (s t u v w : Written) (a b c d : List Token) → t ≡ writing s a → u ≡ writing t b → v ≡ writing u c → w ≡ writing v d
    → w ≡ writing s (a ++ (b ++ (c ++ d)))
wrote_4 s t u v w a b c d first second third fourth = wrote_2 s t w a (b ++ (c ++ d)) first (wrote_3 t u v w b c d second third fourth)

-- the same tokens in another form
pub wrote_as : (s t : Written) (a b : List Token) → a ≡ b → t ≡ writing s a → t ≡ writing s b
wrote_as s t a b same wrote = wrote ∙ ap (λ (ts : List Token). writing s ts) same

-- a loop writes the next tokens, and then the rest
pub goes_on : (before after whole : Written) (next rest : List Token) → writing before (next ++ rest) ≡ whole → after ≡ writing before next
    → writing after rest ≡ whole
goes_on before after whole next rest so_far wrote = ap (λ (out : Written). writing out rest) wrote ∙ writing_both before next rest ∙ so_far
