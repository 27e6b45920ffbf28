-- What is written of a value is the answer with the explanation that it means.
use Rattle.std.proofs.Common.{◌≡◌, ◌∙◌, ℕ, List, [], ◌∷◌, ◌++◌, map, refl, ap, codes}
use Rattle.json.specs.Token as token
use Rattle.json.specs.Token.{Token}
use Rattle.json.specs.Tree.{json_tokens}
use Rattle.ll_tree.specs.Trees.{Entry}
use Rattle.ll_trace.specs.declared.op.Op.{Op}
use Rattle.ll_trace.specs.declared.op.Record.{Record}
use Rattle.ll_semantics.specs.declared.answer.Answer.{Answer}
use Rattle.ll_semantics.specs.declared.answer.Answer.TheVariants.{Allowed, Moot, Refused}
use Rattle.ll_explanations.specs.Meanings.{AreMade, by_layer, explanation_in}
use Rattle.ll_explanations.specs.declared.explanation.Explanation.{Explanation}
use Rattle.ll_explanations.specs.declared.explanation.Explanation.TheVariants.{Nothing, Objections, Failure, Mootness}
use Rattle.ll_report.specs.Lines.{error_name}
use Rattle.ll_json.specs.Parts.{named_tokens}
use Rattle.ll_json.specs.Records.{answer_members, layers_json}
use Rattle.ll_json.specs.Values.{answer_tokens, layers_tokens, why_tokens}
use Rattle.ll_json.specs.Why.{layer_json}
use Rattle.ll_json.proofs.Enclosing.{array_tokens}
use Rattle.ll_json.proofs.LayersTold.{all_written}

module _ (tree : List Entry) (records : List Record) (layers : List ℕ) (op : Op) where
  layers_mean : (numbers : List ℕ) (e : Explanation) → AreMade layers e
      → layers_tokens tree records numbers e ≡ json_tokens (layers_json records layers numbers (explanation_in tree op e))
  unfolding layers_tokens layers_json explanation_in
  layers_mean numbers Nothing made = refl
  layers_mean numbers (Objections all) made =
      ap (λ (ts : List Token). token.begin_array ∷ (ts ++ token.end_array ∷ [])) (all_written tree records layers all made)
      ∙ array_tokens (map (layer_json records layers) (by_layer tree all))
  layers_mean numbers (Failure condition) made = refl
  layers_mean numbers (Mootness reason) made = refl

  pub answer_means : (answer : Answer) (e : Explanation) → AreMade layers e
      → answer_tokens tree records op answer e ≡ named_tokens (answer_members records layers answer (explanation_in tree op e))
  unfolding answer_tokens answer_members
  answer_means Allowed e made = refl
  answer_means Moot e made = refl
  answer_means (Refused error numbers) e made =
      ap (λ (ts : List Token). token.key (codes "answer") ∷ token.string (codes "refused") ∷ token.key (codes "error") ∷ token.string (error_name error)
      ∷ token.key (codes "layers") ∷ (ts ++ why_tokens tree op e)) (layers_mean numbers e made)
