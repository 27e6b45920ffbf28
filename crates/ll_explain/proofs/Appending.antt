-- Texts that are added one after another.
use Rattle.std.proofs.Common.{◌≡◌, ◌∙◌, ℕ, List, ◌++◌, ap}
use Rattle.ll_explain.specs.Buffers.{Buffered, adding}
use Rattle.ll_explain.proofs.Buffering.{adding_both}

pub appended_2 : (start first second : Buffered) (a b : List ℕ) → first ≡ adding start a → second ≡ adding first b → second ≡ adding start (a ++ b)
appended_2 start first second a b is_first is_second = is_second ∙ ap (λ t. adding t b) is_first ∙ adding_both start a b

pub appended_3 : (start first second third : Buffered) (a b c : List ℕ) → first ≡ adding start a → second ≡ adding first b → third ≡ adding second c
    → third ≡ adding start (a ++ b ++ c)
appended_3 start first second third a b c is_first is_second is_third =
    is_third ∙ ap (λ t. adding t c) (appended_2 start first second a b is_first is_second) ∙ adding_both start (a ++ b) c

pub appended_4 : (start first second third fourth : Buffered) (a b c d : List ℕ) → first ≡ adding start a → second ≡ adding first b
    → third ≡ adding second c → fourth ≡ adding third d →
    fourth ≡ adding start (a ++ b ++ c ++ d)
appended_4 start first second third fourth a b c d is_first is_second is_third is_fourth =
    is_fourth ∙ ap (λ t. adding t d) (appended_3 start first second third a b c is_first is_second is_third) ∙ adding_both start (a ++ b ++ c) d

pub appended_5 : (start first second third fourth fifth : Buffered) (a b c d e : List ℕ) → first ≡ adding start a → second ≡ adding first b
    → third ≡ adding second c → fourth ≡ adding third d → fifth ≡ adding fourth e →
    fifth ≡ adding start (a ++ b ++ c ++ d ++ e)
appended_5 start first second third fourth fifth a b c d e is_first is_second is_third is_fourth is_fifth =
    is_fifth ∙ ap (λ t. adding t e) (appended_4 start first second third fourth a b c d is_first is_second is_third is_fourth)
    ∙ adding_both start (a ++ b ++ c ++ d) e
