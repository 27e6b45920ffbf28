-- The sources of a case, index after index: how many processes they have, and what the next record makes of them.
use Rattle.std.proofs.Common.{◌≡◌, ◌<◌, ◌≤◌, ℕ, zero, suc, ◌+◌, List, length, take, get_or, Some, false, refl, sym, ap, ◌∙◌, inl, inr, arith}
use Rattle.std.specs.Prelude.{slice_get}
use Rattle.std.proofs.lemmas.Option.{same_Some, slice_get_cases, slice_get_read}
use Rattle.ll_rights.specs.declared.abi.Abi.{Abi}
use Rattle.ll_tree.specs.Trees.{Entry}
use Rattle.ll_trace.specs.declared.op.Record.{Record}
use Rattle.ll_trace.specs.Entries.{is_start}
use Rattle.ll_trace.specs.Processes.{process_count, IsNumbered}
use Rattle.ll_trace.proofs.Numbers.{count-more, no_count}
use Rattle.ll_semantics.specs.declared.answer.Answer.{Answer}
use Rattle.ll_semantics.specs.Worlds.{answer_in, judged}
use Rattle.ll_semantics.specs.CallContexts.{world_at}
use Rattle.ll_semantics.proofs.Steps.{judged-at}
use Rattle.ll_process.specs.Cases.{CaseValue}
use Rattle.ll_reasons.specs.Origins.{no_sources, sources_by, sources_at, sources_after}
use Rattle.ll_reasons.proofs.Lockstep.{sources_at-more, count-sources_by}
use Rattle.ll_origins.specs.declared.trail.TraceOrigins.{TraceOrigins}
use Rattle.ll_origins.specs.CaseTrails.{AreTrailsAt}
use Rattle.ll_origins.specs.TraceOrigins.{AreTrails}

-- what is read at an index of the same list is there
pub read_there : {X : Type 0} (xs read : List X) (k : ℕ) (x : X) → read ≡ xs → k < length xs → x ≡ get_or read k x → slice_get xs k ≡ Some x
read_there {X = X} xs read k x same within is = slice_get_read xs (length xs) k x refl within (is ∙ ap (λ (ys : List X). get_or ys k x) same)

-- there is a record at an index below their number
pub record_there : (records : List Record) (index : ℕ) → index < length records → (r : Record) × (slice_get records index ≡ Some r)
record_there records index within = elim ((slice_get_cases records index).1) [
  | inl there ↦ (there.0, there.2)
  | inr past ↦ absurd (omega (arith, within, past.0))
]

module _ (tree : List Entry) (abi : Abi) (records : List Record) where
  -- there are none before the first record
  pub sources_at-first : sources_at tree abi records 0 ≡ no_sources
  unfolding sources_at sources_after
  sources_at-first = refl

  -- the next record and its answer
  pub sources_at-next : (k : ℕ) (r : Record) (a : Answer) → slice_get records k ≡ Some r → slice_get (judged tree abi records) k ≡ Some a
      → sources_at tree abi records (k + 1) ≡ sources_by k r.op r.process.0 a (sources_at tree abi records k)
  sources_at-next k r a eq asked =
      let told : answer_in tree abi (world_at tree abi records k) r.process.0 r.op ≡ a = same_Some _ a (sym (judged-at tree abi records k r eq) ∙ asked) in
      ap (λ (n : ℕ). sources_at tree abi records n) (let next : k + 1 ≡ suc k = omega arith in next) ∙ sources_at-more tree abi records k r eq
      ∙ ap (λ (answer : Answer). sources_by k r.op r.process.0 answer (sources_at tree abi records k)) told

  one_more : (k : ℕ) (r : Record) → slice_get records k ≡ Some r → (sources_at tree abi records k).count ≡ process_count (take k records)
      → (sources_at tree abi records (suc k)).count ≡ process_count (take (suc k) records)
  one_more k r eq before =
      let counted = count-sources_by k r.op r.process.0 (answer_in tree abi (world_at tree abi records k) r.process.0 r.op) (sources_at tree abi records k) in
      ap (λ sources. sources.count) (sources_at-more tree abi records k r eq) ∙ omega (arith, counted, before, count-more records k r eq)

  -- as many processes as were started
  pub count-sources_at : (k : ℕ) → k ≤ length records → (sources_at tree abi records k).count ≡ process_count (take k records)
  count-sources_at zero within = rw sources_at-first (sym (no_count records))
  count-sources_at (suc k) within = elim ((slice_get_cases records k).1) [
    | inl there ↦ one_more k there.0 there.2 (count-sources_at k (omega arith))
    | inr past ↦ absurd (omega (arith, past.0))
  ]

  -- a record that starts no process is of one that was started before
  pub process_there : (k : ℕ) (r : Record) → IsNumbered records → k ≤ length records → slice_get records k ≡ Some r → is_start r.op ≡ false
      → r.process.0 < (sources_at tree abi records k).count
  process_there k r numbered within eq goes = rw (count-sources_at k within) (numbered.goes_on k r eq goes)

-- what is kept of no process is what is kept before the first record
pub begins_at : (cv : CaseValue) (trails : TraceOrigins) → AreTrails trails.trails.items no_sources → AreTrailsAt cv 0 trails
begins_at cv trails are = rw (sources_at-first cv.tree cv.abi cv.records) are
