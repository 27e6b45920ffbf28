-- What a writer holds while the bytes that are to be written go out piece by piece.
use Rattle.std.proofs.Common.{◌≡◌, ◌∙◌, ℕ, suc, ◌+◌, ◌-◌, ◌<◌, List, ◌++◌, Bor, get_or, length, take, drop, Option, ap, ap₂, sym, subst, arith}
use Rattle.std.proofs.Common.{append_assoc, take-append-drop, add-one}
use Rattle.std.specs.Prelude.{Err, Ok, OnErr, Result}
use Rattle.std.specs.List.{flat_map}
use Rattle.std.proofs.lemmas.List.Concat.{flat_map-cons}
use Rattle.std.proofs.Math.Seq.{drop-cons}
use Rattle.std.proofs.Math.Seq.{take-append_seam}
use Rattle.std.proofs.lemmas.List.{length-append, length-drop, take_rest}
use Rattle.std.specs.Io.KnownBytes.{Appends}
use Rattle.ll_report.specs.Writing.{AppendsBeginning, AppendsPart}

-- what is done is a beginning of all
pub beginning : (old new : Option (List ℕ)) (all done rest : List ℕ) → all ≡ done ++ rest → Appends old new done → AppendsBeginning old new all
beginning old new all done rest split appended =
    (length done, subst (Appends old new) (sym (ap (take (length done)) split ∙ take-append_seam done rest)) appended)

-- some more of the rest is done
pub moves_on : (all done rest : List ℕ) (count : ℕ) → all ≡ done ++ rest
    → all ≡ (done ++ take count rest) ++ take (length rest - count) (drop count rest)
moves_on all done rest count split =
    split ∙ ap (λ l. done ++ l) (sym (take-append-drop count rest)) ∙ sym (append_assoc done (take count rest) (drop count rest))
    ∙ ap (λ l. (done ++ take count rest) ++ l) (sym (take_rest rest count))

-- all that is done, and a beginning of what comes next
pub further : (all done next rest : List ℕ) (count : ℕ) → all ≡ done ++ (next ++ rest)
    → all ≡ (done ++ take count next) ++ (drop count next ++ rest)
further all done next rest count split =
    split
    ∙ ap (λ l. done ++ (l ++ rest)) (sym (take-append-drop count next))
    ∙ ap (λ l. done ++ l) (append_assoc (take count next) (drop count next) rest)
    ∙ sym (append_assoc done (take count next) (drop count next ++ rest))

-- some of all is not done
pub part : (old new : Option (List ℕ)) (all done rest : List ℕ) → all ≡ done ++ rest → 0 < length rest → Appends old new done → AppendsPart old new all
unfolding beginning
part old new all done rest split some appended =
    (length done, omega (arith, ap length split, length-append done rest, some), (beginning old new all done rest split appended).1)

-- the same, where some of what comes next is not done
pub cut : (old new : Option (List ℕ)) (all done next rest : List ℕ) (count : ℕ) → all ≡ done ++ (next ++ rest) → count < length next
    → Appends old new (done ++ take count next) → AppendsPart old new all
cut old new all done next rest count split short appended =
    part old new all (done ++ take count next) (drop count next ++ rest) (further all done next rest count split)
    (omega (arith, length-append (drop count next) rest, length-drop count next, short)) appended

-- what is so is so where something failed
pub failed : {T E P : Type 0} (r : Result T E) → P → OnErr r P
failed (Ok x) so = tt
failed (Err e) so = so

-- texts, one behind the other
abbrev pub text_of : List (Bor (List ℕ)) → List ℕ
text_of texts = flat_map (λ (text : Bor (List ℕ)). text.now) texts

pub text_next : (texts : List (Bor (List ℕ))) (k : ℕ) (other : Bor (List ℕ)) (bytes : List ℕ) → k < length texts → bytes ≡ (get_or texts k other).now
    → text_of (drop k texts) ≡ bytes ++ text_of (drop (k + 1) texts)
text_next texts k other bytes below is =
    ap text_of (drop-cons texts k other below)
    ∙ flat_map-cons (λ (text : Bor (List ℕ)). text.now) (get_or texts k other) (drop (suc k) texts)
    ∙ ap₂ (λ (text : List ℕ) (n : ℕ). text ++ text_of (drop n texts)) (sym is) (sym (add-one k))
