-- The lines of objections that are said one after another are those of the layers.
use Rattle.std.proofs.Common.{◌≡◌, ◌∙◌, ℕ, ◌+◌, ◌<◌, ◌≤◌, Bool, true, false, cond, eqb, List, ◌∷◌, ◌++◌, length, map, drop, get_or, codes, refl, sym, ap}
use Rattle.std.proofs.Common.{append_assoc, arith}
use Rattle.std.specs.Prelude.{All}
use Rattle.std.specs.List.{flat_map}
use Rattle.std.proofs.lemmas.Bool.{ne_eqb}
use Rattle.std.proofs.lemmas.List.{drop_all, drop_more}
use Rattle.ll_tree.specs.Trees.{Entry}
use Rattle.ll_trace.specs.declared.op.Record.{Record}
use Rattle.ll_reasons.specs.Objections.{Objection}
use Rattle.ll_explanations.specs.Meanings.{IsMade, by_layer, objection_in}
use Rattle.ll_explanations.proofs.Grouping.{Groups}
use Rattle.ll_explanations.specs.declared.objection.LayerObjection.{LayerObjection}
use Rattle.ll_explain.specs.Buffers.{Buffered, adding}
use Rattle.ll_explain.specs.Lines.{ending, head_of, lines_from, next_text, opening}
use Rattle.ll_explain.proofs.Buffering.{goes_on}
use Rattle.ll_explain.proofs.Layered.{all_layered, rest_of}
use Rattle.ll_explain.specs.Words.{behind, joined, layer_head, layer_text, objection_text}

module _ (tree : List Entry) (records : List Record) where
  pub said_next : (text after whole : Buffered) (before : ℕ) (all : List LayerObjection) (k : ℕ) (one : LayerObjection) →
      k < length all → one ≡ get_or all k one → adding text (lines_from tree records before (drop k all)) ≡ whole
      → after ≡ adding text (next_text tree records before one)
      → adding after (lines_from tree records one.layer (drop (k + 1) all)) ≡ whole
  unfolding lines_from
  said_next text after whole before all k one there is so_far written =
      goes_on text after whole (next_text tree records before one) (lines_from tree records one.layer (drop (k + 1) all))
      (ap (adding text) (sym (ap (lines_from tree records before) (drop_more all k one there ∙ ap (λ y. y ∷ drop (k + 1) all) (sym is)))) ∙ so_far) written

  pub said_last : (text after whole : Buffered) (before : ℕ) (all : List LayerObjection) (k : ℕ) → length all ≤ k
      → adding text (lines_from tree records before (drop k all)) ≡ whole → after ≡ adding text (ending before) → after ≡ whole
  unfolding lines_from
  said_last text after whole before all k end so_far written =
      written ∙ ap (adding text) (sym (ap (lines_from tree records before) (drop_all k all end))) ∙ so_far

  module _ (layers : List ℕ) where
    abbrev texts : List Objection → List ℕ
    texts objections = flat_map (behind (codes "; ")) (map (objection_text records) objections)

    abbrev lines : Groups → List ℕ
    lines groups = flat_map (layer_text records layers) groups

    ended : (layer : ℕ) → 0 < layer → ending layer ≡ codes "\n"
    unfolding ending
    ended layer positive = rw (ne_eqb layer 0 (λ zero. absurd (omega (arith, zero, positive)))) refl

    on_the_next : (e h t b n f : List ℕ) → ((e ++ h) ++ t) ++ (b ++ (n ++ f)) ≡ e ++ (((h ++ (t ++ b)) ++ n) ++ f)
    on_the_next e h t b n f =
        append_assoc (e ++ h) t (b ++ (n ++ f)) ∙ append_assoc e h (t ++ (b ++ (n ++ f)))
        ∙ ap (λ z. e ++ z) (sym (append_assoc (h ++ (t ++ b)) n f ∙ append_assoc h (t ++ b) (n ++ f) ∙ ap (λ z. h ++ z) (append_assoc t b (n ++ f))))

    headed : (one : LayerObjection) → IsMade layers one → head_of records one.layer one.made ≡ layer_head records layers one.layer
    unfolding head_of layer_head
    headed one made = rw made.1 refl

    one_said : (before : ℕ) (one : LayerObjection) (os : List Objection) (gs : Groups) → IsMade layers one →
        next_text tree records before one ++ (texts os ++ (codes "\n" ++ lines gs))
        ≡ rest_of ending (codes "\n") texts lines before ((one.layer, objection_in tree one.objection ∷ os) ∷ gs)
    unfolding next_text opening layer_text joined behind
    one_said before one os gs made = go (eqb one.layer before) where
      said : List ℕ
      said = objection_text records (objection_in tree one.objection)

      go : (b : Bool) → (cond b (codes "; ") (ending before ++ head_of records one.layer one.made) ++ said) ++ (texts os ++ (codes "\n" ++ lines gs))
          ≡ cond b (texts (objection_in tree one.objection ∷ os) ++ (codes "\n" ++ lines gs))
          (ending before ++ lines ((one.layer, objection_in tree one.objection ∷ os) ∷ gs))
      go true = sym (append_assoc (codes "; " ++ said) (texts os) (codes "\n" ++ lines gs))
      go false = on_the_next (ending before) (head_of records one.layer one.made) said (texts os) (codes "\n") (lines gs)
          ∙ ap (λ h. ending before ++ (((h ++ (said ++ texts os)) ++ codes "\n") ++ lines gs)) (headed one made)

    pub all_said : (all : List LayerObjection) → All (IsMade layers) all → lines_from tree records 0 all ≡ lines (by_layer tree all)
    unfolding lines_from ending
    all_said =
        all_layered ending (codes "\n") texts lines refl refl refl ended tree layers (next_text tree records) one_said (lines_from tree records)
        (λ before. refl) (λ before one more. refl)
