-- The tables of a list of records, and of one more.
use Rattle.std.proofs.Common.{◌≡◌, ℕ, suc, ◌+◌, ◌<◌, ◌≤◌, Bool, true, false, cond, List, [], ◌∷◌, ◌++◌, length, get_or, Option, Some, None, Result, Ok, Err}
use Rattle.std.proofs.Common.{refl, sym, ap, ◌∙◌, inl, inr, arith, ◌≢◌, zero, take, set, Vec, eqb, subst, add-one, add-zero}
use Rattle.std.specs.Ordering.{nat_cmp}
use Rattle.std.specs.Result.{MatchResult}
use Rattle.std.specs.List.Sorted.{IsBinarySearchResult}
use Rattle.std.proofs.lemmas.Bool.{cases_lt, eq-eqb, ne_eqb, eqb-true, eqb-false}
use Rattle.std.proofs.lemmas.List.{get_or_append_left, get_or_at, length-append, get_or-set_same, get_or-set_other, get_or-map, map-set, append-nil}
use Rattle.std.proofs.lemmas.List.{length-take, take_more}
use Rattle.std.proofs.lemmas.List.Sorted.{searched}
use Rattle.std.proofs.lemmas.Option.{slice_get_within, slice_get_read}
use Rattle.std.specs.Option.{option_flatten}
use Rattle.ll_trace.specs.declared.op.Record.{Record}
use Rattle.ll_trace.specs.Processes.{is_starting, process_count, started_at, own_from, own_records, forked_by, parent_of, IsNumbered}
use Rattle.ll_trace.specs.Traces.{AreStarts, Adds, Indexes, lists}
use Rattle.ll_trace.proofs.Numbers.{with_first, StartedAt, count-all, count-le, count-started, process_count-push, started_at-is, started_at-push, started_once}
use Rattle.ll_trace.proofs.Numbers.{count-more, numbered_below, parents-push, length-parents, parent_below}
use Rattle.std.specs.Prelude.{All, IfSome, slice_get}
use Rattle.std.specs.List.{AllByRecursion}
use Rattle.std.proofs.lemmas.List.Elements.{All-from_recursion}
use Rattle.std.specs.declared.alloc.Global.{Global}
use Rattle.ll_trace.specs.declared.op.ProcessId.{ProcessId}
use Rattle.ll_trace.specs.declared.tables.Tables.{Tables}

-- ---- the indices of the records that start the processes, of one record more

still_started : (records : List Record) (it : Record) (k p : ℕ) → started_at records k ≡ Some p → started_at (records ++ it ∷ []) k ≡ Some p
still_started records it k p is =
    let one : StartedAt records k p = started_at-is records k p is in
    let within : k < length records = slice_get_within records k one.of one.at in
    started_at-push records it k ∙ rw (ne_eqb k (length records) (λ e. omega (arith, within, e))) is

last_starts : (records : List Record) (it : Record) → is_starting it.op ≡ true → started_at (records ++ it ∷ []) (length records) ≡ Some (process_count records)
last_starts records it kind = started_at-push records it (length records) ∙ rw (eq-eqb (length records) (length records) refl, kind) refl

pub length-grown : {X : Type 0} (xs : List X) (b : Bool) (x : X) → length (xs ++ cond b (x ∷ []) []) ≡ length xs + cond b 1 0
length-grown xs true x = length-append xs (x ∷ [])
length-grown xs false x = length-append xs []

pub starts-push : (starts : List ℕ) (records : List Record) (it : Record) → AreStarts starts records
    → AreStarts (starts ++ cond (is_starting it.op) (length records ∷ []) []) (records ++ it ∷ [])
starts-push starts records it are = record {
  one_each = omega (arith, length-grown starts (is_starting it.op) (length records), are.one_each, process_count-push records it);
  start = λ p below. elim (cases_lt p (process_count records)) [
    | inl old ↦ rw (get_or_append_left starts (cond (is_starting it.op) (length records ∷ []) []) 0 p (omega (arith, are.one_each)))
        (still_started records it (get_or starts p 0) p (are.start p old))
    | inr other ↦ last (is_starting it.op) refl p other (omega (arith, below, process_count-push records it))
  ];
}
  where
    last : (b : Bool) → is_starting it.op ≡ b → (p : ℕ) → process_count records ≤ p → p < process_count records + cond b 1 0
        → started_at (records ++ it ∷ []) (get_or (starts ++ cond b (length records ∷ []) []) p 0) ≡ Some p
    last true kind p past below =
        let same : process_count records ≡ p = omega arith in
        rw (get_or_at starts (length records) [] 0 p (omega (arith, are.one_each))) (last_starts records it kind ∙ ap (λ n. Some n) same)
    last false kind p past below = absurd (omega arith)

-- ---- which process a record starts

below_count : (records : List Record) (k p : ℕ) → StartedAt records k p → p < process_count records
below_count records k p one = omega (arith, one.number, count-started records k one.of one.at one.kind, count-all records (suc k))

rising : (starts : List ℕ) (records : List Record) → AreStarts starts records → (i j : ℕ) → i ≤ j → j < length starts → get_or starts i 0 ≤ get_or starts j 0
rising starts records are i j le lt =
    let m : ℕ = get_or starts i 0 in
    let n : ℕ = get_or starts j 0 in
    let one : StartedAt records m i = started_at-is records m i (are.start i (omega (arith, are.one_each))) in
    let two : StartedAt records n j = started_at-is records n j (are.start j (omega (arith, are.one_each))) in
    elim (cases_lt n m) [
      | inl less ↦
          absurd (omega (arith, count-started records n two.of two.at two.kind, count-le records (suc n) m (omega (arith, less)), one.number, two.number))
      | inr more ↦ more
    ]

pub start_found : (starts : List ℕ) (records : List Record) (index : ℕ) (found : Result ℕ ℕ) → AreStarts starts records
    → IsBinarySearchResult (λ y. nat_cmp y index) starts found
    → MatchResult found (λ p. (p < process_count records) × (started_at records index ≡ Some p)) (λ p. started_at records index ≡ None)
start_found starts records index found are search_is = told found (searched starts index found search_is (rising starts records are))
  where
    other : (p : ℕ) → ((k : ℕ) → k < p → get_or starts k 0 < index) → ((k : ℕ) → p ≤ k → k < length starts → index < get_or starts k 0) → (started : Option ℕ)
        → started_at records index ≡ started → started ≡ None
    other p before behind None is = refl
    other p before behind (Some q) is =
        let one : StartedAt records index q = started_at-is records index q is in
        let below : q < process_count records = below_count records index q one in
        let two : StartedAt records (get_or starts q 0) q = started_at-is records (get_or starts q 0) q (are.start q below) in
        let same : index ≡ get_or starts q 0 = started_once records index (get_or starts q 0) q one two in
        elim (cases_lt q p) [
          | inl less ↦ absurd (omega (arith, same, before q less))
          | inr more ↦ absurd (omega (arith, same, behind q more (omega (arith, below, are.one_each))))
        ]

    told : (r : Result ℕ ℕ) → MatchResult r (λ p. (p < length starts) × (get_or starts p 0 ≡ index))
        (λ p. (p ≤ length starts) × ((k : ℕ) → k < p → get_or starts k 0 < index) × ((k : ℕ) → p ≤ k → k < length starts → index < get_or starts k 0))
        → MatchResult r (λ p. (p < process_count records) × (started_at records index ≡ Some p)) (λ p. started_at records index ≡ None)
    told (Ok p) eq = (omega (arith, eq.0, are.one_each), ap (started_at records) (sym eq.1) ∙ are.start p (omega (arith, eq.0, are.one_each)))
    told (Err p) eq = other p eq.1 eq.2 (started_at records index) refl

-- ---- one record more in the tables

-- an empty list more is no index more
pub grown : (xs : List (List ℕ)) (b : Bool) (q : ℕ) → get_or (xs ++ cond b ([] ∷ []) []) q [] ≡ get_or xs q []
grown [] true zero = refl
grown [] true (suc q) = refl
grown [] false q = refl
grown (x ∷ xs) b zero = refl
grown (x ∷ xs) b (suc q) = grown xs b q

list_at : (vecs : List (Vec ℕ Global)) (p : ℕ) (own : Vec ℕ Global) → p < length vecs → own ≡ get_or vecs p own → get_or (lists vecs) p [] ≡ own.items
list_at vecs p own lt is = get_or-map (λ (v : Vec ℕ Global). v.items) vecs p own [] lt ∙ ap (λ (v : Vec ℕ Global). v.items) (sym is)

pub length-lists : (vecs : List (Vec ℕ Global)) → length (lists vecs) ≡ length vecs
length-lists [] = refl
length-lists (v ∷ vecs) = ap (λ n. suc n) (length-lists vecs)

pub pushed : (vecs : List (Vec ℕ Global)) (p q index : ℕ) (old new : Vec ℕ Global) (same : Bool) → eqb p q ≡ same → p < length vecs → old ≡ get_or vecs p old
    → new.items ≡ old.items ++ index ∷ []
    → get_or (lists (set vecs p new)) q [] ≡ get_or (lists vecs) q [] ++ cond same (index ∷ []) []
pushed vecs p q index old new true same lt is grows =
    let here : p ≡ q = eqb-true p q same in
    let within : p < length (lists vecs) = omega (arith, length-lists vecs) in
    rw (← here, map-set) (get_or-set_same (lists vecs) p new.items [] within ∙ (grows ∙ ap (λ ns. ns ++ index ∷ []) (sym (list_at vecs p old lt is))))
pushed vecs p q index old new false same lt is grows =
    let there : q ≢ p = λ e. eqb-false p q same (sym e) in
    rw map-set (get_or-set_other (lists vecs) p q new.items [] there ∙ sym (append-nil (get_or (lists vecs) q [])))

-- ---- one record more in the definitions

own_from-push : (q k : ℕ) (rs : List Record) (it : Record)
    → own_from q k (rs ++ it ∷ []) ≡ own_from q k rs ++ cond (eqb it.process.0 q) ((k + length rs) ∷ []) []
unfolding own_from
own_from-push q k [] it = rw add-zero refl
own_from-push q k (r ∷ rs) it =
    let shift : k + 1 + length rs ≡ k + suc (length rs) = omega arith in
    with_first (eqb r.process.0 q) k _ (own_from q (k + 1) rs) _
    (own_from-push q (k + 1) rs it ∙ ap (λ n. own_from q (k + 1) rs ++ cond (eqb it.process.0 q) (n ∷ []) []) shift)

indexes_next : (old new : Tables) (records : List Record) (it : Record) → Indexes old records → Adds old new it (length records)
    → Indexes new (records ++ it ∷ [])
unfolding own_records
indexes_next old new records it indexes adds_one =
    let here : 0 + length records ≡ length records = omega arith in
    record {
      by_process = adds_one.by_process
          ∙ (ap (λ ps. ps ++ cond (is_starting it.op) (forked_by it.op it.process ∷ []) []) indexes.by_process ∙ sym (parents-push records it));
      size = omega (arith, adds_one.size, indexes.size, process_count-push records it);
      indices = λ q. adds_one.indices q ∙ ap (λ ns. ns ++ cond (eqb it.process.0 q) (length records ∷ []) []) (indexes.indices q)
          ∙ sym (own_from-push q 0 records it ∙ ap (λ k. own_from q 0 records ++ cond (eqb it.process.0 q) (k ∷ []) []) here);
      by_start = rw adds_one.by_start (starts-push old.starts.items records it indexes.by_start);
    }

-- ---- the tables of the first records, record after record

with_next : (records : List Record) (i : ℕ) (it : Record) → i < length records → it ≡ get_or records i it → take (suc i) records ≡ take i records ++ it ∷ []
with_next records i it lt is = ap (λ n. take n records) (sym (add-one i)) ∙ (take_more records i it lt ∙ ap (λ (x : Record). take i records ++ x ∷ []) (sym is))

pub known_at : (tables : Tables) (records : List Record) (i : ℕ) (it : Record) → IsNumbered records → i < length records → it ≡ get_or records i it
    → Indexes tables (take i records)
    → it.process.0 < length tables.own.items + cond (is_starting it.op) 1 0
known_at tables records i it numbered lt is indexes =
    let eq : slice_get records i ≡ Some it = slice_get_read records (length records) i it refl lt is in
    omega (arith, numbered_below records i it numbered eq, count-more records i it eq, indexes.size)

pub indexes_one_more : (old new : Tables) (records : List Record) (i : ℕ) (it : Record) → i < length records → it ≡ get_or records i it
    → Indexes old (take i records) → Adds old new it i → Indexes new (take (i + 1) records)
indexes_one_more old new records i it lt is indexes adds_one =
    let count : i ≡ length (take i records) = omega (arith, length-take i records) in
    let next : Indexes new (take i records ++ it ∷ []) =
    indexes_next old new (take i records) it indexes (let P : ℕ → Type 0 = λ n. Adds old new it n in subst P count adds_one) in
    rw add-one (rw (with_next records i it lt is) next)

-- ---- what is read from the tables

pub parents_read : (tables : Tables) (records : List Record) (process : ℕ) → Indexes tables records → process < process_count records
    → process < tables.parents.len
parents_read tables records process indexes lt = omega (arith, ap length indexes.by_process, length-parents records)

IfSome_by : {X : Type 0} (o : Option X) (P : X → Type 0) → ((x : X) → o ≡ Some x → P x) → IfSome o P
IfSome_by None P each = tt
IfSome_by (Some x) P each = each x refl

pub parent_read : (tables : Tables) (records : List Record) (process : ℕ) (r : Option ProcessId) → IsNumbered records → Indexes tables records
    → process < process_count records
    → r ≡ get_or tables.parents.items process r → (r ≡ parent_of records process) × IfSome r (λ parent. parent.0 < process)
parent_read tables records process r numbered indexes lt is =
    let got : slice_get tables.parents.items process ≡ Some r =
    slice_get_read tables.parents.items (length tables.parents.items) process r refl (omega (arith, parents_read tables records process indexes lt)) is in
    let value : parent_of records process ≡ r = ap (λ ps. option_flatten (slice_get ps process)) (sym indexes.by_process) ∙ ap option_flatten got in
    (sym value, IfSome_by r (λ parent. parent.0 < process) (λ parent some. parent_below records process parent numbered lt (value ∙ some)))

own_index : (b : Bool) (n m : ℕ) (indices : List ℕ) → n < m → AllByRecursion (λ k. k < m) indices → AllByRecursion (λ k. k < m) (cond b (n ∷ indices) indices)
own_index true n m indices lt all = (lt, all)
own_index false n m indices lt all = all

own_within : (q k : ℕ) (rs : List Record) (m : ℕ) → k + length rs ≤ m → AllByRecursion (λ n. n < m) (own_from q k rs)
unfolding own_from
own_within q k [] m le = tt
own_within q k (r ∷ rs) m le = own_index (eqb r.process.0 q) k m (own_from q (k + 1) rs) (omega arith) (own_within q (k + 1) rs m (omega arith))

pub indices_read : (tables : Tables) (records : List Record) (process : ℕ) (own : Vec ℕ Global) (indices : List ℕ) → Indexes tables records
    → process < process_count records
    → own ≡ get_or tables.own.items process own → indices ≡ own.items → (indices ≡ own_records records process) × All (λ k. k < length records) indices
unfolding own_records
indices_read tables records process own indices indexes lt is read =
    let within : process < length tables.own.items = omega (arith, indexes.size) in
    let same : indices ≡ own_from process 0 records = read ∙ (sym (list_at tables.own.items process own within is) ∙ indexes.indices process) in
    (same, rw same (All-from_recursion (λ k. k < length records) (own_from process 0 records) (own_within process 0 records (length records) (omega arith))))

-- All that unfolds where there is no record yet.
unfoldable pub without_records : Unit {0}
unfolding
    Rattle.ll_trace.specs.Processes.process_count Rattle.ll_trace.specs.Processes.own_from Rattle.ll_trace.specs.Processes.own_records
    Rattle.ll_trace.specs.Processes.number_if Rattle.ll_trace.specs.Processes.started_at Rattle.ll_trace.specs.Processes.parents
without_records = tt
