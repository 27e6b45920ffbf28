use Rattle.std.proofs.Common.{◌≡◌, ℕ, ◌+◌, List, [], ◌++◌, sym, ap, ◌∙◌, subst, arith}
use Rattle.std.specs.Prelude.{sum_by}
use Rattle.std.proofs.lemmas.List.Sums.{sum_by-append}
use Rattle.std.proofs.lemmas.List.Elements.{All-append, All-same}
use Rattle.ll_process.specs.declared.piece.Piece.{Piece}
use Rattle.ll_process.specs.Cases.{CaseValue}
use Rattle.ll_pool.specs.declared.queue.Ledger.{Ledger}
use Rattle.ll_pool.specs.Rule.{ledger}
use Rattle.ll_pool.specs.Accounts.{SeenTo, IsAccount}
use Rattle.crossbeam_queue.specs.Passes.{view}
use Rattle.ll_pool.proofs.Accounting.{did, seen_alike, seen_beside}
use Rattle.ll_pool.proofs.workers.take_in.Goals as goal

-- what a worker did goes to what the caller did
account_joined : (cv : CaseValue) (roots : List ℕ) (v u w : Ledger) (mine theirs all : List Piece)
    → w ≡ ledger v.case (v.parts + u.parts) (v.given ++ u.given) (v.taken ++ u.taken) → all ≡ mine ++ theirs
    → IsAccount cv [] u theirs → IsAccount cv roots v mine → IsAccount cv roots w all
account_joined cv roots v u w mine theirs all is are worked so_far = record {
  its_case = ap (λ (x : Ledger). x.case) is ∙ so_far.its_case;
  pieces_of = All-same (λ (x : Piece). x.case.now ≡ cv) all (mine ++ theirs) are
      (All-append (λ (x : Piece). x.case.now ≡ cv) mine theirs so_far.pieces_of worked.pieces_of);
  seen =
      subst (λ (xs : List Piece). SeenTo cv (roots ++ w.taken) (did [] []) (did w.given xs)) (sym are)
      (subst (λ (g : List ℕ). SeenTo cv (roots ++ w.taken) (did [] []) (did g (mine ++ theirs))) (sym (ap (λ (x : Ledger). x.given) is))
      (seen_alike cv ((roots ++ v.taken) ++ u.taken) (roots ++ w.taken) [] (v.given ++ u.given) [] (mine ++ theirs)
      (λ weight.
      omega (
        arith,
        sum_by-append weight (roots ++ v.taken) u.taken,
        sum_by-append weight roots v.taken,
        sum_by-append weight roots w.taken,
        ap (λ (x : Ledger). sum_by weight x.taken) is,
        sum_by-append weight v.taken u.taken,
      ))
      (seen_beside cv (roots ++ v.taken) u.taken v.given u.given mine theirs worked.pieces_of so_far.seen worked.seen)));
}

pub returns-clause-account : goal.returns-clause-account
returns-clause-account g c = λ roots so_far.
    account_joined g.N.Naming.case roots (view c.args.done.now.pass) (view c.args.worked.pass)
    (view c.join.new.pass) c.args.done.now.pieces.items c.args.worked.pieces.items c.append.new.self.items
    c.join.ensures.knows c.in_ok-append.ensures.items c.requires.account so_far
