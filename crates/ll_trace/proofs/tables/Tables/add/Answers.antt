use Rattle.std.proofs.Common.{◌≡◌, ℕ, ◌+◌, ◌<◌, cond, List, [], ◌∷◌, ◌++◌, length, get_or, refl, sym, ap, ◌∙◌, set, Vec, eqb}
use Rattle.std.proofs.lemmas.List.{length-set}
use Rattle.std.specs.declared.alloc.Global.{Global}
use Rattle.ll_trace.specs.declared.op.Record.{Record}
use Rattle.ll_trace.specs.Processes.{is_starting, forked_by}
use Rattle.ll_trace.specs.Traces.{Adds, lists}
use Rattle.ll_trace.specs.declared.tables.Tables.{Tables}
use Rattle.ll_trace.proofs.TableLemmas.{length-grown, grown, length-lists, pushed}
use Rattle.ll_trace.proofs.tables.Tables.add.Goals as goal

adds : (old new : Tables) (it : Record) (index : ℕ) (between : List (Vec ℕ Global)) (before after : Vec ℕ Global)
    → new.parents.items ≡ old.parents.items ++ cond (is_starting it.op) (forked_by it.op it.process ∷ []) []
    → lists between ≡ lists old.own.items ++ cond (is_starting it.op) ([] ∷ []) []
    → new.starts.items ≡ old.starts.items ++ cond (is_starting it.op) (index ∷ []) []
    → new.own.items ≡ set between it.process.0 after → before ≡ get_or between it.process.0 before → after.items ≡ before.items ++ index ∷ []
    → it.process.0 < length old.own.items + cond (is_starting it.op) 1 0 → Adds old new it index
adds old new it index between before after parents_are begun starts_are own_is before_is grows known =
    let count : length between ≡ length old.own.items + cond (is_starting it.op) 1 0 =
    sym (length-lists between) ∙ (ap length begun
    ∙ (length-grown (lists old.own.items) (is_starting it.op) [] ∙ ap (λ n. n + cond (is_starting it.op) 1 0) (length-lists old.own.items))) in
    let within : it.process.0 < length between = rw count known in
    record {
      by_process = parents_are;
      size = ap length own_is ∙ (length-set between it.process.0 after ∙ count);
      indices = λ q. ap (λ (vs : List (Vec ℕ Global)). get_or (lists vs) q []) own_is
          ∙ (pushed between it.process.0 q index before after (eqb it.process.0 q) refl within before_is grows
          ∙ ap (λ ns. ns ++ cond (eqb it.process.0 q) (index ∷ []) []) (ap (λ ls. get_or ls q []) begun ∙ grown (lists old.own.items) (is_starting it.op) q));
      by_start = starts_are;
    }

pub returns : goal.returns
returns c =
    let begun = c.in_ok-begin.ensures in
    adds c.args.self.now _ c.args.added.now c.args.index c.begin.new.self.own.items c.index_mut.result.now c.push.new.self
    begun.parents begun.own begun.starts refl c.index_mut.ensures.value c.in_ok-push.ensures.items c.requires
