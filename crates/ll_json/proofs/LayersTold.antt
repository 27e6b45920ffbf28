-- The tokens of objections that are written one after another are those of the layers.
use Rattle.std.proofs.Common.{◌≡◌, ◌∙◌, ℕ, ◌<◌, Bool, true, false, cond, eqb, List, [], ◌∷◌, ◌++◌, map, refl, sym, ap}
use Rattle.std.proofs.Common.{append_assoc, arith}
use Rattle.std.specs.Prelude.{All, ◌-◌, slice_get}
use Rattle.std.proofs.lemmas.Bool.{ne_eqb}
use Rattle.json.specs.Token as token
use Rattle.json.specs.Token.{Token}
use Rattle.json.specs.Tree.{json_tokens}
use Rattle.ll_tree.specs.Trees.{Entry}
use Rattle.ll_trace.specs.declared.op.Record.{Record}
use Rattle.ll_reasons.specs.Objections.{Objection}
use Rattle.ll_explanations.specs.Meanings.{IsMade, by_layer, objection_in}
use Rattle.ll_explanations.proofs.Grouping.{Groups}
use Rattle.ll_explanations.specs.declared.objection.LayerObjection.{LayerObjection}
use Rattle.ll_explain.proofs.Layered.{all_layered, rest_of}
use Rattle.ll_json.specs.Layering.{ending, head_of, next_tokens, objections_from, opening}
use Rattle.ll_json.specs.Parts.{values_tokens}
use Rattle.ll_json.specs.Why.{layer_json, objection_json}
use Rattle.ll_json.proofs.Enclosing.{values_end}

module _ (tree : List Entry) (records : List Record) (layers : List ℕ) where
  abbrev tail : List Token
  tail = token.end_array ∷ token.end_object ∷ []

  abbrev each : List Objection → List Token
  each objections = values_tokens (map (objection_json records) objections)

  abbrev all_of : Groups → List Token
  all_of groups = values_tokens (map (layer_json records layers) groups)

  abbrev head : ℕ → List Token
  head number = head_of records number (slice_get layers (number - 1))

  -- a layer's value is its head, its objections and its end
  in_parts : (number : ℕ) (objections : List Objection)
      → json_tokens (layer_json records layers (number, objections)) ≡ head number ++ (each objections ++ tail)
  unfolding layer_json head_of
  in_parts number objections =
      let values = map (objection_json records) objections in
      ap (λ (rest : List Token). head number ++ rest)
      (ap (λ (rest : List Token). rest ++ token.end_object ∷ []) (sym (values_end values))
      ∙ append_assoc (values_tokens values) (token.end_array ∷ []) (token.end_object ∷ []))

  ended : (layer : ℕ) → 0 < layer → ending layer ≡ tail
  unfolding ending
  ended layer positive = rw (ne_eqb layer 0 (λ zero. absurd (omega (arith, zero, positive)))) refl

  regrouped : (e h w b t f : List Token) → ((e ++ h) ++ w) ++ (b ++ (t ++ f)) ≡ e ++ ((h ++ ((w ++ b) ++ t)) ++ f)
  regrouped e h w b t f =
      append_assoc (e ++ h) w (b ++ (t ++ f)) ∙ append_assoc e h (w ++ (b ++ (t ++ f)))
      ∙ ap (λ z. e ++ z) (sym (append_assoc h ((w ++ b) ++ t) f ∙ ap (λ z. h ++ z) (append_assoc (w ++ b) t f ∙ append_assoc w b (t ++ f))))

  headed : (one : LayerObjection) → IsMade layers one → head_of records one.layer one.made ≡ head one.layer
  headed one made = ap (head_of records one.layer) made.1

  -- an objection, those of the same layer that follow, and the layers behind it
  one_written : (before : ℕ) (one : LayerObjection) (os : List Objection) (gs : Groups) → IsMade layers one →
      next_tokens tree records before one ++ (each os ++ (tail ++ all_of gs))
      ≡ rest_of ending tail each all_of before ((one.layer, objection_in tree one.objection ∷ os) ∷ gs)
  unfolding next_tokens opening
  one_written before one os gs made = go (eqb one.layer before) where
    written : List Token
    written = json_tokens (objection_json records (objection_in tree one.objection))

    go : (b : Bool) → (cond b [] (ending before ++ head_of records one.layer one.made) ++ written) ++ (each os ++ (tail ++ all_of gs))
        ≡ cond b (each (objection_in tree one.objection ∷ os) ++ (tail ++ all_of gs))
        (ending before ++ all_of ((one.layer, objection_in tree one.objection ∷ os) ∷ gs))
    go true = sym (append_assoc written (each os) (tail ++ all_of gs))
    go false =
        regrouped (ending before) (head_of records one.layer one.made) written (each os) tail (all_of gs)
        ∙ ap (λ (h : List Token). ending before ++ ((h ++ ((written ++ each os) ++ tail)) ++ all_of gs)) (headed one made)
        ∙ ap (λ (l : List Token). ending before ++ (l ++ all_of gs)) (sym (in_parts one.layer (objection_in tree one.objection ∷ os)))

  pub all_written : (all : List LayerObjection) → All (IsMade layers) all → objections_from tree records 0 all ≡ all_of (by_layer tree all)
  unfolding objections_from ending
  all_written =
      all_layered ending tail each all_of refl refl refl ended tree layers (next_tokens tree records) one_written (objections_from tree records)
      (λ before. refl) (λ before one more. refl)
