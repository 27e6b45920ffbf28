-- The text of layers, written one after another.
use Rattle.std.proofs.Common.{◌≡◌, ◌∙◌, ℕ, suc, ◌+◌, ◌-◌, ◌<◌, Bool, true, false, cond, ◌==◌, List, [], ◌∷◌, ◌++◌, length, decimal, refl, sym, ap, append_assoc}
use Rattle.std.proofs.Common.{arith}
use Rattle.std.specs.List.{flat_map}
use Rattle.std.proofs.lemmas.List.{append-nil}
use Rattle.std.proofs.lemmas.Bool.{ne_eqb, true≢false}
use Rattle.ll_rules.specs.declared.domain.TheConstants.{MOST_LAYERS}
use Rattle.ll_rules.specs.LayerNumbers.{is_among, numbers_passing, passing_upto}
use Rattle.ll_explain.specs.Buffers.{Buffered, adding}
use Rattle.ll_explain.proofs.Buffering.{adding_both}
use Rattle.ll_report.specs.Report.{layers_text, listed_layers, next_layer_text}

-- the layers up to a number
unfoldable pub layers_upto : List ℕ → ℕ → List ℕ
layers_upto layers bound = passing_upto (λ number. is_among number layers) bound

pub layers_upto-none : (layers : List ℕ) → layers_upto layers 0 ≡ []
unfolding layers_upto passing_upto
layers_upto-none layers = refl

layers_upto-next : (layers : List ℕ) (number : ℕ) → 0 < number
    → layers_upto layers (number + 1 - 1) ≡ layers_upto layers (number - 1) ++ cond (is_among number layers) (number ∷ []) []
unfolding layers_upto passing_upto
layers_upto-next layers number pos =
    let this : number + 1 - 1 ≡ suc (number - 1) = omega arith in
    let back : suc (number - 1) ≡ number = omega arith in
    rw this (ap (λ n. passing_upto (λ m. is_among m layers) (number - 1) ++ cond (is_among n layers) (n ∷ []) []) back)

pub layers_upto-all : (layers : List ℕ) → numbers_passing (λ number. is_among number layers) ≡ layers → layers_upto layers MOST_LAYERS ≡ layers
unfolding layers_upto
layers_upto-all layers rising = rising

flat_map-push : (layers : List ℕ) (layer : ℕ) → flat_map next_layer_text (layers ++ layer ∷ []) ≡ flat_map next_layer_text layers ++ next_layer_text layer
flat_map-push [] layer = append-nil (next_layer_text layer)
flat_map-push (first ∷ more) layer =
    ap (λ text. next_layer_text first ++ text) (flat_map-push more layer)
    ∙ sym (append_assoc (next_layer_text first) (flat_map next_layer_text more) (next_layer_text layer))

-- no layer is written yet
abbrev pub is_none_yet : List ℕ → Bool
is_none_yet [] = true
is_none_yet (first ∷ more) = false

-- one layer more
listed_layers-push : (layers : List ℕ) (layer : ℕ)
    → listed_layers (layers ++ layer ∷ []) ≡ listed_layers layers ++ cond (is_none_yet layers) (decimal layer) (next_layer_text layer)
listed_layers-push [] layer = append-nil (decimal layer)
listed_layers-push (first ∷ more) layer =
    ap (λ text. decimal first ++ text) (flat_map-push more layer)
    ∙ sym (append_assoc (decimal first) (flat_map next_layer_text more) (next_layer_text layer))

is_none_yet-push : (layers : List ℕ) (layer : ℕ) → is_none_yet (layers ++ layer ∷ []) ≡ false
is_none_yet-push [] layer = refl
is_none_yet-push (first ∷ more) layer = refl

-- the text and the flag after a number that is among the layers
pub written_among : (layers : List ℕ) (number : ℕ) (start text after : Buffered) (is_first : Bool) → 0 < number
    → is_among number layers ≡ true
    → text ≡ adding start (listed_layers (layers_upto layers (number - 1))) → is_first ≡ is_none_yet (layers_upto layers (number - 1))
    → after ≡ adding text (cond is_first (decimal number) (next_layer_text number))
    → (after ≡ adding start (listed_layers (layers_upto layers (number + 1 - 1)))) × (false ≡ is_none_yet (layers_upto layers (number + 1 - 1)))
written_among layers number start text after is_first pos among so_far first is =
    let upto = layers_upto layers (number - 1) in
    let next : layers_upto layers (number + 1 - 1) ≡ upto ++ number ∷ [] =
    layers_upto-next layers number pos ∙ ap (λ b. upto ++ cond b (number ∷ []) []) among in
    let more : List ℕ = cond (is_none_yet upto) (decimal number) (next_layer_text number) in (
      is ∙ (ap (λ b. adding text (cond b (decimal number) (next_layer_text number))) first
          ∙ (ap (λ t. adding t more) so_far ∙ (adding_both start (listed_layers upto) more
          ∙ ap (adding start) (sym (ap listed_layers next ∙ listed_layers-push upto number))))),
      sym (ap is_none_yet next ∙ is_none_yet-push upto number),
    )

-- a number that isn't changes nothing
pub layers_upto-not_among : (layers : List ℕ) (number : ℕ) → 0 < number → is_among number layers ≡ false
    → layers_upto layers (number + 1 - 1) ≡ layers_upto layers (number - 1)
layers_upto-not_among layers number pos absent =
    layers_upto-next layers number pos
    ∙ (ap (λ b. layers_upto layers (number - 1) ++ cond b (number ∷ []) []) absent ∙ append-nil (layers_upto layers (number - 1)))

-- some layers are written as they are listed
pub layers_text-some : (layers : List ℕ) → is_none_yet layers ≡ false → layers_text layers ≡ listed_layers layers
layers_text-some [] none = absurd (true≢false none)
layers_text-some (first ∷ more) some = refl

pub is_none_yet-length : (layers : List ℕ) → is_none_yet layers ≡ (length layers == 0)
is_none_yet-length [] = refl
is_none_yet-length (first ∷ more) = sym (ne_eqb (length (first ∷ more)) 0 (λ same. absurd (omega arith)))
