-- A loop over the values of a list: what is taken in so far, and what is left.
use Rattle.std.proofs.Common.{◌≡◌, ℕ, suc, ◌+◌, ◌<◌, ◌≤◌, List, [], ◌∷◌, ◌++◌, length, map, drop, get_or, Result, Ok, Err, refl, sym, ap, subst, ◌∙◌, add-one}
use Rattle.std.proofs.lemmas.List.{length-map, map-append}
use Rattle.std.proofs.Math.Seq.{drop-cons}
use Rattle.std.proofs.Math.ListN.{drop_of_length-le}
use Rattle.serde_json.specs.Data.{Data}
use Rattle.serde_json.specs.View.{view, items_view}
use Rattle.serde_json.specs.declared.value.Value.{Value}
use Rattle.ll_lines.specs.declared.fault.Cause.{Cause}
use Rattle.ll_lines.specs.Readers.{Fails}
use Rattle.ll_lines.proofs.MemoryLemmas.{unless-map}
use Rattle.ll_values.specs.Lists.{fold_items, one_more}

pub fold_next : {Whole : Type 0} (add : Whole → Data → Result Whole Cause) (whole more : Whole) (values : List Value) (i : ℕ) (value : Value)
    → i < length values → value ≡ get_or values i value → add whole (view value) ≡ Ok more
    → fold_items add whole (items_view (drop i values)) ≡ fold_items add more (items_view (drop (i + 1) values))
unfolding fold_items
fold_next add whole more values i value lt is reads =
    let cut : drop i values ≡ value ∷ drop (suc i) values = drop-cons values i value lt ∙ ap (λ v. v ∷ drop (suc i) values) (sym is) in
    rw (cut, add-one, reads) refl

pub fold_fault : {Whole : Type 0} (add : Whole → Data → Result Whole Cause) (whole : Whole) (values : List Value) (i : ℕ) (value : Value)
    → (cause : Cause) → i < length values → value ≡ get_or values i value → add whole (view value) ≡ Err cause
    → fold_items add whole (items_view (drop i values)) ≡ Err cause
unfolding fold_items
fold_fault add whole values i value cause lt is fails =
    let cut : drop i values ≡ value ∷ drop (suc i) values = drop-cons values i value lt ∙ ap (λ v. v ∷ drop (suc i) values) (sym is) in
    rw (cut, fails) refl

pub fold_end : {Whole : Type 0} (add : Whole → Data → Result Whole Cause) (whole : Whole) (values : List Value) (i : ℕ)
    → length values ≤ i → fold_items add whole (items_view (drop i values)) ≡ Ok whole
unfolding fold_items
fold_end add whole values i le = let none : drop i values ≡ [] = drop_of_length-le values le in rw none refl

-- the same where memory may have run out
pub fold_fails : {Whole : Type 0} (add : Whole → Data → Result Whole Cause) (whole : Whole) (values : List Value) (i : ℕ) (value : Value)
    → (cause : Cause) → i < length values → value ≡ get_or values i value → Fails cause (add whole (view value))
    → Fails cause (fold_items add whole (items_view (drop i values)))
fold_fails add whole values i value cause lt is =
    unless-map cause (add whole (view value)) (Err cause) (fold_items add whole (items_view (drop i values))) (Err cause)
    (fold_fault add whole values i value cause lt is)

-- ---- one value more, where what is read is seen as something else

pub one_more_seen : {X Y : Type 0} (seen : X → Y) (read : ℕ → Data → Result Y Cause) (before others after : List X) (x : X) (value : Data)
    → others ≡ before → read (length others) value ≡ Ok (seen x) → after ≡ before ++ x ∷ [] → one_more read (map seen before) value ≡ Ok (map seen after)
unfolding one_more
one_more_seen seen read before others after x value same reads is =
    let here : read (length before) value ≡ Ok (seen x) = subst (λ xs. read (length xs) value ≡ Ok (seen x)) same reads in
    rw (length-map before seen, here, is, map-append seen before (x ∷ [])) refl

one_more_fault : {X Y : Type 0} (seen : X → Y) (read : ℕ → Data → Result Y Cause) (before : List X) (value : Data) (cause : Cause)
    → read (length before) value ≡ Err cause → one_more read (map seen before) value ≡ Err cause
unfolding one_more
one_more_fault seen read before value cause fault = rw (length-map before seen, fault) refl

pub one_more_fails : {X Y : Type 0} (seen : X → Y) (read : ℕ → Data → Result Y Cause) (before others : List X) (value : Data) (cause : Cause)
    → others ≡ before → Fails cause (read (length others) value) → Fails cause (one_more read (map seen before) value)
one_more_fails seen read before others value cause same fails =
    unless-map cause (read (length before) value) (Err cause) (one_more read (map seen before) value) (Err cause)
    (one_more_fault seen read before value cause) (subst (λ xs. Fails cause (read (length xs) value)) same fails)
