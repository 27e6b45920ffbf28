-- The answers of all pieces, each process once, are those of the whole trace.
use Rattle.std.proofs.Common.{◌≡◌, ◌⊎◌, ℕ, zero, suc, ◌<◌, List, [], ◌∷◌, ◌++◌, length, map, get_or, set, Some, refl, sym, ap, ◌∙◌, inl, inr, arith}
use Rattle.std.specs.Prelude.{slice_get, All}
use Rattle.std.specs.List.{flat_map}
use Rattle.std.proofs.lemmas.Bool.{cases_eq}
use Rattle.std.proofs.lemmas.List.{map-append, length-set, get_or-set_same, get_or-set_other, ext_get_or}
use Rattle.std.proofs.lemmas.List.Elements.{All-append, All-map, All-nil, All-same, All-head, All-tail}
use Rattle.std.proofs.lemmas.Grind.{flat_map-append}
use Rattle.std.proofs.lemmas.Option.{none-some, same_Some, slice_get_within, slice_get-get_or, unwrap_or-slice_get}
use Rattle.ll_trace.specs.declared.op.Record.{Record}
use Rattle.ll_semantics.specs.declared.answer.Answer.{Answer}
use Rattle.ll_semantics.specs.declared.answer.Answer.TheVariants.{Moot}
use Rattle.ll_semantics.specs.Worlds.{judged}
use Rattle.ll_process.specs.declared.piece.Piece.{Piece}
use Rattle.ll_trace.specs.Processes.{own_records, numbers, times, process_count}
use Rattle.ll_process.specs.Judging.{answer_at, answers_of}
use Rattle.ll_process.specs.Cases.{CaseValue, IsCase, own_answers}
use Rattle.ll_semantics.proofs.Steps.{length-judged}
use Rattle.ll_trace.proofs.Numbers.{numbered_below, count-all}
use Rattle.ll_trace.proofs.OwnRecords.{own_index, own_record, stands_at}
use Rattle.ll_pool.specs.Gathered.{ArePiecesOf, processes_in, answers_of_pieces, put_all}
use Rattle.ll_trace.proofs.EachOnce.{times-append, times-cons, times-nil, times-same, times-other}
use Rattle.ll_pool.proofs.PuttingAnswers.{length-put_all}

-- ---- indices

own_within : (records : List Record) (p : ℕ) → All (λ (k : ℕ). k < length records) (own_records records p)
own_within records p =
    λ i d within.
    (let found : (r : Record) × (slice_get records (get_or (own_records records p) i d) ≡ Some r)
    × (r.process.0 ≡ p) = own_record records p i (get_or (own_records records p) i d) (slice_get-get_or (own_records records p) i d within) in
    slice_get_within records (get_or (own_records records p) i d) found.0 found.1)

answers_within : (cv : CaseValue) (p : ℕ) → All (λ (part : ℕ × Answer). part.0 < length cv.records) (own_answers cv p)
unfolding answers_of
answers_within cv p = All-map (λ (part : ℕ × Answer). part.0 < length cv.records) (λ k. (k, answer_at cv.tree cv.abi cv.records k)) (own_records cv.records p)
    (own_within cv.records p)

all_within : (cv : CaseValue) (ps : List ℕ) → All (λ (part : ℕ × Answer). part.0 < length cv.records) (flat_map (own_answers cv) ps)
all_within cv [] = All-nil (λ (part : ℕ × Answer). part.0 < length cv.records)
all_within cv (p ∷ ps) =
    All-append (λ (part : ℕ × Answer). part.0 < length cv.records) (own_answers cv p) (flat_map (own_answers cv) ps) (answers_within cv p) (all_within cv ps)

pub all_indices : (cv : CaseValue) (piece : Piece) (n : ℕ) → piece.case.now ≡ cv → length cv.records ≡ n
    → All (λ (part : ℕ × Answer). part.0 < n) piece.answers.items
all_indices cv piece n its len =
    All-same (λ (part : ℕ × Answer). part.0 < n) piece.answers.items (flat_map (own_answers piece.case.now) (numbers piece.processes.items)) piece.answered
    (λ i d within. omega (arith, all_within piece.case.now (numbers piece.processes.items) i d within, ap (λ (m : CaseValue). length m.records) its, len))

-- ---- every record has its answer

put_all_map : (f : ℕ → Answer) (ks : List ℕ) (xs : List Answer) (k : ℕ) (d : Answer) → (0 < times k ks) ⊎ (get_or xs k d ≡ f k) → k < length xs
    → get_or (put_all (map (λ i. (i, f i)) ks) xs) k d ≡ f k
unfolding put_all
put_all_map f [] xs k d (inl some) within = absurd (omega (arith, times-nil k, some))
put_all_map f [] xs k d (inr is) within = is
put_all_map f (j ∷ js) xs k d known within =
    let inside : k < length (set xs j (f j)) = omega (arith, within, length-set xs j (f j)) in
    put_all_map f js (set xs j (f j)) k d
    (elim (cases_eq j k) [
      | inl same ↦ inr (ap (λ i. get_or (set xs i (f i)) k d) same ∙ get_or-set_same xs k (f k) d within)
      | inr other ↦ elim known [
        | inl some ↦ inl (omega (arith, some, times-cons k j js, times-other k j other))
        | inr is ↦ inr (get_or-set_other xs j k (f j) d (λ same. other (sym same)) ∙ is)
      ]
    ])
    inside

stands_often : (k : ℕ) (xs : List ℕ) (j : ℕ) → slice_get xs j ≡ Some k → 0 < times k xs
stands_often k [] j eq = absurd (none-some k eq)
stands_often k (x ∷ xs) zero eq = omega (arith, times-cons k x xs, times-same k x (same_Some x k eq))
stands_often k (x ∷ xs) (suc j) eq = omega (arith, times-cons k x xs, stands_often k xs j eq)

own_has : (records : List Record) (k : ℕ) (r : Record) → slice_get records k ≡ Some r → 0 < times k (own_records records r.process.0)
own_has records k r eq =
    let (j, there) = own_index records r.process.0 k r eq refl in
    stands_often k (own_records records r.process.0) j there

flat_has : (f : ℕ → List ℕ) (k p : ℕ) (ps : List ℕ) → 0 < times p ps → 0 < times k (f p) → 0 < times k (flat_map f ps)
flat_has f k p [] some has = absurd (omega (arith, some, times-nil p))
flat_has f k p (q ∷ qs) some has = elim (cases_eq q p) [
  | inl same ↦ omega (arith, times-append k (f q) (flat_map f qs), has, ap (λ i. times k (f i)) same)
  | inr other ↦
      (let rest : 0 < times p qs = omega (arith, some, times-cons p q qs, times-other p q other) in
      omega (arith, times-append k (f q) (flat_map f qs), flat_has f k p qs rest has))
]

flat_answers : (cv : CaseValue) (ps : List ℕ)
    → flat_map (own_answers cv) ps ≡ map (λ k. (k, answer_at cv.tree cv.abi cv.records k)) (flat_map (own_records cv.records) ps)
unfolding answers_of
flat_answers cv [] = refl
flat_answers cv (p ∷ ps) =
    ap (λ xs. map (λ k. (k, answer_at cv.tree cv.abi cv.records k)) (own_records cv.records p) ++ xs) (flat_answers cv ps)
    ∙ sym (map-append (λ k. (k, answer_at cv.tree cv.abi cv.records k)) (own_records cv.records p) (flat_map (own_records cv.records) ps))

pieces_answer : (cv : CaseValue) (pieces : List Piece) → ArePiecesOf cv pieces → answers_of_pieces pieces ≡ flat_map (own_answers cv) (processes_in pieces)
unfolding answers_of_pieces processes_in
pieces_answer cv [] all = refl
pieces_answer cv (x ∷ xs) all =
    ap (λ (ys : List (ℕ × Answer)). ys ++ answers_of_pieces xs) (x.answered
    ∙ ap (λ (m : CaseValue). flat_map (own_answers m) (numbers x.processes.items)) (All-head (λ (piece : Piece). piece.case.now ≡ cv) x xs all))
    ∙ ap (λ (ys : List (ℕ × Answer)). flat_map (own_answers cv) (numbers x.processes.items) ++ ys)
    (pieces_answer cv xs (All-tail (λ (piece : Piece). piece.case.now ≡ cv) x xs all))
    ∙ sym (flat_map-append (own_answers cv) (numbers x.processes.items) (processes_in xs))

answer_there : (cv : CaseValue) (pieces : List Piece) (before : List Answer) (k : ℕ) → IsCase cv → ArePiecesOf cv pieces
    → ((q : ℕ) → q < process_count cv.records → 0 < times q (processes_in pieces)) → length before ≡ length cv.records → k < length cv.records
    → get_or (put_all (answers_of_pieces pieces) before) k Moot ≡ answer_at cv.tree cv.abi cv.records k
answer_there cv pieces before k case all each len within =
    let found : (r : Record) × (slice_get cv.records k ≡ Some r) = stands_at cv.records k within in
    let below : found.0.process.0 < process_count cv.records =
    omega (arith, numbered_below cv.records k found.0 case.numbered found.1, count-all cv.records (suc k)) in
    let has : 0 < times k (flat_map (own_records cv.records) (processes_in pieces)) =
    flat_has (own_records cv.records) k found.0.process.0 (processes_in pieces) (each found.0.process.0 below) (own_has cv.records k found.0 found.1) in
    ap (λ (ps : List (ℕ × Answer)). get_or (put_all ps before) k Moot) (pieces_answer cv pieces all ∙ flat_answers cv (processes_in pieces))
    ∙ put_all_map (answer_at cv.tree cv.abi cv.records) (flat_map (own_records cv.records) (processes_in pieces)) before k Moot (inl has)
    (omega (arith, within, len))

judged_there : (cv : CaseValue) (k : ℕ) → get_or (judged cv.tree cv.abi cv.records) k Moot ≡ answer_at cv.tree cv.abi cv.records k
unfolding answer_at
judged_there cv k = sym (unwrap_or-slice_get (judged cv.tree cv.abi cv.records) k Moot)

pub all_answered : (cv : CaseValue) (pieces : List Piece) (before answers : List Answer) → IsCase cv → ArePiecesOf cv pieces
    → ((q : ℕ) → q < process_count cv.records → 0 < times q (processes_in pieces)) → length before ≡ length cv.records
    → answers ≡ put_all (answers_of_pieces pieces) before
    → answers ≡ judged cv.tree cv.abi cv.records
all_answered cv pieces before answers case all each len is =
    is
    ∙ ext_get_or Moot (put_all (answers_of_pieces pieces) before) (judged cv.tree cv.abi cv.records)
    (length-put_all (answers_of_pieces pieces) before ∙ len ∙ sym (length-judged cv.tree cv.abi cv.records))
    (λ k inside.
    (let within : k < length cv.records = omega (arith, inside, length-put_all (answers_of_pieces pieces) before, len) in
    answer_there cv pieces before k case all each len within ∙ sym (judged_there cv k)))
