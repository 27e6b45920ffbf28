-- What the hands did, put together.
use Rattle.std.proofs.Common.{◌≡◌, ℕ, ◌+◌, ◌<◌, List, [], ◌∷◌, ◌++◌, length, refl, sym, ap, ◌∙◌, subst, append_assoc, arith}
use Rattle.std.specs.Prelude.{sum_by}
use Rattle.std.specs.List.{All}
use Rattle.std.proofs.lemmas.List.Sums.{sum_by-append, sum_by-cons, sum_by_push}
use Rattle.std.proofs.lemmas.List.Elements.{All-nil, All-push, All-append, All-head, All-tail}
use Rattle.std.proofs.lemmas.Grind.{flat_map-append}
use Rattle.ll_process.specs.declared.job.Job.{Job}
use Rattle.ll_process.specs.declared.piece.Piece.{Piece}
use Rattle.ll_trace.specs.Processes.{kids, numbers}
use Rattle.ll_process.specs.Cases.{CaseValue}
use Rattle.ll_process.specs.Jobs.{SharesOut, processes_of, AreJobsOf}
use Rattle.ll_process.proofs.Descents.{weighed}
use Rattle.ll_pool.specs.declared.queue.Ledger.{Ledger}
use Rattle.ll_pool.specs.Gathered.{ArePiecesOf, processes_in}
use Rattle.ll_pool.specs.Rule.{ledger, after_taking}
use Rattle.ll_pool.specs.Accounts.{Done, IsAccount, OnlyGave, SeenTo}
use Rattle.ll_pool.proofs.Sharing.{processes_in-push, no_processes, no_kids, kids-append}

-- ---- passes that only gave

pub gave_nothing : (v : Ledger) → OnlyGave v v
gave_nothing v = record { its_case = refl; parts = refl; taken = refl }

pub gave_more : (a b c : Ledger) → OnlyGave a b → OnlyGave b c → OnlyGave a c
gave_more a b c one two = record { its_case = two.its_case ∙ one.its_case; parts = two.parts ∙ one.parts; taken = two.taken ∙ one.taken }

pub some_part_still : (v w : Ledger) → OnlyGave v w → 0 < v.parts → 0 < w.parts
some_part_still v w gave some_part = omega (arith, gave.parts, some_part)

-- ---- jobs that were seen to

abbrev pub did : List ℕ → List Piece → Done
did given pieces = record { given = given; pieces = pieces }

pub seen_judged : (cv : CaseValue) (p : ℕ) (before after : List ℕ) (pieces pieces_after : List Piece) (piece : Piece)
    → pieces_after ≡ pieces ++ piece ∷ [] → piece.case.now ≡ cv
    → SharesOut cv.records p (numbers piece.processes.items) before after → SeenTo cv (p ∷ []) (did before pieces) (did after pieces_after)
seen_judged cv p before after pieces pieces_after piece is its shares =
    subst (λ (xs : List Piece). SeenTo cv (p ∷ []) (did before pieces) (did after xs)) (sym is)
    (record {
      pieces_of = λ all. All-push (λ (x : Piece). x.case.now ≡ cv) pieces piece all its;
      shared = λ weight.
          rw (processes_in-push pieces piece, kids-append cv.records (processes_in pieces) (numbers piece.processes.items))
          (omega (
            arith,
            weighed cv.records p (numbers piece.processes.items) before after shares weight,
            sum_by-append weight (processes_in pieces) (numbers piece.processes.items),
            sum_by-append weight (kids cv.records (processes_in pieces)) (kids cv.records (numbers piece.processes.items)),
            sum_by-cons weight p (kids cv.records (numbers piece.processes.items)),
            sum_by-cons weight p [],
          ));
    })

pub seen_on : (cv : CaseValue) (xs ys g0 g1 g2 : List ℕ) (p0 p1 p2 : List Piece) → SeenTo cv xs (did g0 p0) (did g1 p1) → SeenTo cv ys (did g1 p1) (did g2 p2)
    → SeenTo cv (xs ++ ys) (did g0 p0) (did g2 p2)
seen_on cv xs ys g0 g1 g2 p0 p1 p2 one two = record {
  pieces_of = λ all. two.pieces_of (one.pieces_of all);
  shared = λ weight. omega (arith, one.shared weight, two.shared weight, sum_by-append weight xs ys);
}

-- jobs in another order
pub seen_alike : (cv : CaseValue) (xs ys g0 g1 : List ℕ) (p0 p1 : List Piece) → ((weight : ℕ → ℕ) → sum_by weight xs ≡ sum_by weight ys)
    → SeenTo cv xs (did g0 p0) (did g1 p1) → SeenTo cv ys (did g0 p0) (did g1 p1)
seen_alike cv xs ys g0 g1 p0 p1 alike one = record {
  pieces_of = one.pieces_of;
  shared = λ weight. omega (arith, one.shared weight, alike weight);
}

processes_in-append : (xs ys : List Piece) → processes_in (xs ++ ys) ≡ processes_in xs ++ processes_in ys
unfolding processes_in
processes_in-append xs ys = flat_map-append (λ (one : Piece). numbers one.processes.items) xs ys

-- what another did, beside what was done
pub seen_beside : (cv : CaseValue) (xs ys g h : List ℕ) (p q : List Piece) → ArePiecesOf cv q
    → SeenTo cv xs (did [] []) (did g p) → SeenTo cv ys (did [] []) (did h q) → SeenTo cv (xs ++ ys) (did [] []) (did (g ++ h) (p ++ q))
seen_beside cv xs ys g h p q theirs one two = record {
  pieces_of = λ none. All-append (λ (x : Piece). x.case.now ≡ cv) p q (one.pieces_of none) theirs;
  shared = λ weight.
      rw (processes_in-append p q, kids-append cv.records (processes_in p) (processes_in q))
      (omega (
        arith,
        one.shared weight,
        two.shared weight,
        ap (λ (zs : List ℕ). sum_by weight zs) no_processes,
        ap (λ (zs : List ℕ). sum_by weight (kids cv.records zs)) no_processes,
        ap (λ (zs : List ℕ). sum_by weight zs) (no_kids cv.records),
        sum_by-append weight xs ys,
        sum_by-append weight g h,
        sum_by-append weight (processes_in p) (processes_in q),
        sum_by-append weight (kids cv.records (processes_in p)) (kids cv.records (processes_in q)),
      ));
}

-- ---- accounts

-- nothing was taken or given yet
pub account_begins : (cv : CaseValue) (parts : ℕ) (v : Ledger) (pieces : List Piece) → v ≡ ledger cv parts [] [] → pieces ≡ [] → IsAccount cv [] v pieces
account_begins cv parts v pieces is none =
    subst (λ (xs : List Piece). IsAccount cv [] v xs) (sym none)
    (subst (λ (u : Ledger). IsAccount cv [] u []) (sym is)
    (record {
      its_case = refl;
      pieces_of = All-nil (λ (x : Piece). x.case.now ≡ cv);
      seen = record { pieces_of = λ all. all; shared = λ weight. omega arith };
    }))

-- the caller saw to two lists of roots, and between them it only split its pass
pub account_of_roots : (cv : CaseValue) (xs ys : List ℕ) (u a b w : Ledger) (p0 p1 p2 : List Piece) → u.given ≡ [] → u.taken ≡ [] → p0 ≡ []
    → OnlyGave u a → SeenTo cv xs (did u.given p0) (did a.given p1) → b.given ≡ a.given → b.taken ≡ a.taken → b.case ≡ cv
    → OnlyGave b w → SeenTo cv ys (did b.given p1) (did w.given p2) → IsAccount cv (xs ++ ys) w p2
account_of_roots cv xs ys u a b w p0 p1 p2 none_given none_taken none gave one given taken its gave_on two =
    let first : SeenTo cv xs (did [] []) (did a.given p1) =
    subst (λ (zs : List ℕ). SeenTo cv xs (did zs []) (did a.given p1)) none_given
    (subst (λ (ps : List Piece). SeenTo cv xs (did u.given ps) (did a.given p1)) none one) in
    let both : SeenTo cv (xs ++ ys) (did [] []) (did w.given p2) =
    seen_on cv xs ys [] a.given w.given [] p1 p2 first (subst (λ (zs : List ℕ). SeenTo cv ys (did zs p1) (did w.given p2)) given two) in
    record {
      its_case = gave_on.its_case ∙ its;
      pieces_of = both.pieces_of (All-nil (λ (x : Piece). x.case.now ≡ cv));
      seen =
          seen_alike cv (xs ++ ys) ((xs ++ ys) ++ w.taken) [] w.given [] p2
          (λ weight.
          omega (
            arith,
            sum_by-append weight (xs ++ ys) w.taken,
            ap (λ (zs : List ℕ). sum_by weight zs) (gave_on.taken ∙ taken ∙ gave.taken ∙ none_taken),
          ))
          both;
    }

-- a job was taken and seen to
pub account_more : (cv : CaseValue) (roots : List ℕ) (p : ℕ) (v taken w : Ledger) (before after : List Piece) → taken ≡ after_taking v p → OnlyGave taken w
    → SeenTo cv (p ∷ []) (did taken.given before) (did w.given after)
    → IsAccount cv roots v before → IsAccount cv roots w after
account_more cv roots p v took w before after is gave seen so_far = record {
  its_case = gave.its_case ∙ ap (λ (u : Ledger). u.case) is ∙ so_far.its_case;
  pieces_of = seen.pieces_of so_far.pieces_of;
  seen =
      seen_alike cv ((roots ++ v.taken) ++ p ∷ []) (roots ++ w.taken) [] w.given [] after
      (λ weight.
      omega (
        arith,
        sum_by_push weight (roots ++ v.taken) p,
        sum_by-append weight roots v.taken,
        sum_by-append weight roots w.taken,
        ap (λ (xs : List ℕ). sum_by weight xs) (gave.taken ∙ ap (λ (u : Ledger). u.taken) is),
        sum_by_push weight v.taken p,
      ))
      (seen_on cv (roots ++ v.taken) (p ∷ []) [] v.given w.given [] before after so_far.seen
      (subst (λ (g : List ℕ). SeenTo cv (p ∷ []) (did g before) (did w.given after)) (ap (λ (u : Ledger). u.given) is) seen));
}

-- where all that was given was taken, the processes judged are the roots with the children of all of them
pub account_balanced : (cv : CaseValue) (roots : List ℕ) (v : Ledger) (pieces : List Piece) → ((weight : ℕ → ℕ) → sum_by weight v.given ≡ sum_by weight v.taken)
    → IsAccount cv roots v pieces
    → (weight : ℕ → ℕ) → sum_by weight (processes_in pieces) ≡ sum_by weight roots + sum_by weight (kids cv.records (processes_in pieces))
account_balanced cv roots v pieces balanced account weight = omega (
  arith,
  account.seen.shared weight,
  balanced weight,
  ap (λ (zs : List ℕ). sum_by weight zs) no_processes,
  ap (λ (zs : List ℕ). sum_by weight (kids cv.records zs)) no_processes,
  ap (λ (zs : List ℕ). sum_by weight zs) (no_kids cv.records),
  sum_by-append weight roots v.taken,
)

-- ---- jobs that are seen to one after another

-- of these jobs some were seen to, and others are left
pub record Halfway (cv : CaseValue) (all : List ℕ) (left : List Job) (g0 g1 : List ℕ) (p0 p1 : List Piece) : Type 0 where
  pub left_of : AreJobsOf cv left
  pub done : List ℕ
  pub parts : all ≡ done ++ processes_of left
  pub seen : SeenTo cv done (did g0 p0) (did g1 p1)

-- all are left
pub halfway_first : (cv : CaseValue) (jobs left : List Job) (given : List ℕ) (pieces : List Piece) → AreJobsOf cv jobs → left ≡ jobs
    → Halfway cv (processes_of jobs) left given given pieces pieces
halfway_first cv jobs left given pieces all is = record {
  left_of = subst (λ (xs : List Job). AreJobsOf cv xs) (sym is) all;
  done = [];
  parts = ap (λ (xs : List Job). processes_of xs) (sym is);
  seen = record { pieces_of = λ of_case. of_case; shared = λ weight. omega arith };
}

-- none is left
pub halfway_all : (cv : CaseValue) (all : List ℕ) (left : List Job) (g0 g1 : List ℕ) (p0 p1 : List Piece) → left ≡ []
    → Halfway cv all left g0 g1 p0 p1 → SeenTo cv all (did g0 p0) (did g1 p1)
halfway_all cv all left g0 g1 p0 p1 none so_far =
    seen_alike cv so_far.done all g0 g1 p0 p1
    (λ weight.
    omega (
      arith,
      ap (λ (xs : List ℕ). sum_by weight xs) (so_far.parts ∙ ap (λ (xs : List Job). so_far.done ++ processes_of xs) none),
      sum_by-append weight so_far.done [],
    ))
    so_far.seen

pub halfway_more : (cv : CaseValue) (all : List ℕ) (left rest : List Job) (job : Job) (g0 g1 g2 : List ℕ) (p0 p1 p2 : List Piece) → left ≡ job ∷ rest
    → SeenTo cv (job.process.0 ∷ []) (did g1 p1) (did g2 p2)
    → Halfway cv all left g0 g1 p0 p1 → Halfway cv all rest g0 g2 p0 p2
halfway_more cv all left rest job g0 g1 g2 p0 p1 p2 is seen so_far = record {
  left_of = All-tail (λ (j : Job). j.case.now ≡ cv) job rest (subst (λ (xs : List Job). AreJobsOf cv xs) is so_far.left_of);
  done = so_far.done ++ job.process.0 ∷ [];
  parts = so_far.parts ∙ ap (λ (xs : List Job). so_far.done ++ processes_of xs) is ∙ sym (append_assoc so_far.done (job.process.0 ∷ []) (processes_of rest));
  seen = seen_on cv so_far.done (job.process.0 ∷ []) g0 g1 g2 p0 p1 p2 so_far.seen seen;
}

-- ---- the caller's roots

-- a job was judged with a hand that keeps nothing
pub seen_unkept : (cv : CaseValue) (p : ℕ) (given : List ℕ) (pieces pieces_after : List Piece) (piece : Piece)
    → pieces_after ≡ pieces ++ piece ∷ [] → piece.case.now ≡ cv
    → SharesOut cv.records p (numbers piece.processes.items) [] [] → SeenTo cv (p ∷ []) (did given pieces) (did given pieces_after)
seen_unkept cv p given pieces pieces_after piece is its shares =
    let one : SeenTo cv (p ∷ []) (did [] pieces) (did [] pieces_after) = seen_judged cv p [] [] pieces pieces_after piece is its shares in
    record { pieces_of = one.pieces_of; shared = λ weight. omega (arith, one.shared weight) }

-- ---- lists that are gone through

pub all_next : {X : Type 0} (x : X) (xs rest : List X) (P : X → Type 0) → xs ≡ x ∷ rest → All P xs → P x × All P rest
all_next x xs rest P is all = (All-head P x rest (subst (λ ys. All P ys) is all), All-tail P x rest (subst (λ ys. All P ys) is all))

pub nothing_left : {X : Type 0} (xs : List X) → length xs ≡ 0 → xs ≡ []
nothing_left [] none = refl
nothing_left (x ∷ xs) none = absurd (omega (arith, none))
