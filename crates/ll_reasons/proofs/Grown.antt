-- The domain of a process begins as the one that each of its descriptors was opened in.
use Rattle.std.proofs.Common.{◌≡◌, ℕ, suc, Bool, true, false, cond, List, [], ◌++◌, option_to_list, Option, Some, None, nat_eq, sym, ap, ◌∙◌, append_assoc}
use Rattle.std.proofs.Common.{append-nil, IfSome}
use Rattle.std.specs.Map.{update}
use Rattle.ll_rights.specs.declared.abi.Abi.{Abi}
use Rattle.ll_tree.specs.Trees.{Entry}
use Rattle.ll_trace.specs.declared.op.Record.{Record}
use Rattle.ll_trace.specs.declared.op.Op.{Op}
use Rattle.ll_trace.specs.declared.op.Op.TheVariants.{Restrict, OpenFile, Adopt, Dup, Close}
use Rattle.ll_semantics.specs.States.{State, Layer, fresh}
use Rattle.ll_semantics.specs.Effects.{effect}
use Rattle.ll_semantics.specs.Answers.{named}
use Rattle.ll_semantics.specs.Worlds.{World}
use Rattle.ll_semantics.specs.CallContexts.{change, state_by, world_at}
use Rattle.ll_reasons.specs.Origins.{Origins, no_origins, traced}
use Rattle.ll_reasons.specs.Made.{domain_by, domain_there, BeganAs}
use Rattle.ll_reasons.specs.Explanations.{domain_at, origins_at}
use Rattle.ll_reasons.proofs.Lockstep.{Keeps, holds_at}

-- a domain began as that of an opening, if there is one
Began : List Entry → Abi → List Record → List Layer → Option ℕ → Type 0
Began tree abi records domain opening = IfSome opening (λ k. BeganAs domain (domain_there tree abi records k))

AllBegan : List Entry → Abi → List Record → ℕ → State → Origins → Type 0
AllBegan tree abi records eq s o = (fd : ℕ) → Began tree abi records s.domain (o.openings fd)

module _ (tree : List Entry) (abi : Abi) (records : List Record) where
  longer : (domain more : List Layer) (opening : Option ℕ) → Began tree abi records domain opening → Began tree abi records (domain ++ more) opening
  unfolding Began
  longer domain more None began = tt
  longer domain more (Some k) began =
      (began.0 ++ more, ap (λ (layers : List Layer). layers ++ more) began.1 ∙ append_assoc (domain_there tree abi records k) began.0 more)

  either : (domain : List Layer) (b : Bool) (x y : Option ℕ) → Began tree abi records domain x → Began tree abi records domain y
      → Began tree abi records domain (cond b x y)
  either domain true x y this that = this
  either domain false x y this that = that

  put : (domain : List Layer) (f : ℕ → Option ℕ) (fd q : ℕ) (x : Option ℕ) → Began tree abi records domain x → Began tree abi records domain (f q)
      → Began tree abi records domain (update nat_eq f fd x q)
  put domain f fd q x this that = either domain (nat_eq fd q) x (f q) this that

  here : (k : ℕ) (domain : List Layer) → domain_there tree abi records k ≡ domain → Began tree abi records domain (Some k)
  unfolding Began
  here k domain is = ([], sym is ∙ sym (append-nil (domain_there tree abi records k)))

  none_began : (domain : List Layer) → Began tree abi records domain None
  unfolding Began
  none_began domain = tt

  changed : (k : ℕ) (op : Op) (rulesets : List Layer) (s : State) (o : Origins) → domain_there tree abi records k ≡ s.domain → AllBegan tree abi records k s o
      → AllBegan tree abi records (suc k) (change tree rulesets op s) (traced k op o)
  unfolding AllBegan change state_by effect traced
  changed k (Restrict rs) rulesets s o is all q = longer s.domain (option_to_list (named rulesets (s.held rs))) (o.openings q) (all q)
  changed k (OpenFile path fd mode create trunc) rulesets s o is all q = put s.domain o.openings fd q (Some k) (here k s.domain is) (all q)
  changed k (Adopt fd kind) rulesets s o is all q = put s.domain o.openings fd q (Some k) (here k s.domain is) (all q)
  changed k (Dup fd to) rulesets s o is all q = put s.domain o.openings to q (o.openings fd) (all fd) (all q)
  changed k (Close fd) rulesets s o is all q = put s.domain o.openings fd q None (none_began s.domain) (all q)
  changed k op rulesets s o is all q = all q

  keeps : Keeps tree abi records (AllBegan tree abi records)
  unfolding AllBegan Began fresh no_origins domain_there domain_by
  keeps = record {
    begins = λ k nnp admin fd. tt;
    stays = λ k s o all. all;
    changes = λ k r o eq allowed judged all.
        (let w : World = world_at tree abi records k in
        let s : State = w.processes r.process.0 in
        changed k r.op w.rulesets s o (ap (λ (x : Option Record). domain_by w x) eq) all);
  }

  pub grown : (index process fd : ℕ) → IfSome ((origins_at tree abi records index process).openings fd)
      (λ k. BeganAs (domain_at tree abi records index process) (domain_there tree abi records k))
  unfolding AllBegan Began domain_at
  grown index process fd = holds_at tree abi records (AllBegan tree abi records) keeps index process fd
