-- An audit from version to version, the newest first.
use Rattle.std.proofs.Common.{◌≡◌, ℕ, suc, ◌<◌, ◌≤◌, Bool, true, false, List, [], ◌∷◌, cond, drop, get_or, length, map}
use Rattle.std.proofs.Common.{refl, sym, subst, ap₂, arith, ◌-◌}
use Rattle.std.specs.Prelude.{filter}
use Rattle.ll_rights.specs.declared.abi.Abi.{Abi}
use Rattle.ll_rights.specs.Abis.{all_versions}
use Rattle.ll_trace.specs.declared.located.Located.{Located}
use Rattle.ll_report.specs.declared.options.Options.{Options}
use Rattle.ll_audit.specs.declared.ranging.Progress.{Progress}
use Rattle.ll_findings.specs.Findings.{FindingValue}
use Rattle.ll_findings.proofs.TakenRecords.{all_taken}
use Rattle.ll_json.specs.Reports.{AreFound}
use Rattle.ll_json.specs.Records.{Version}
use Rattle.ll_audit.specs.Ranging.{Adds, ComesTo, GoesOn, IsThrough}
use Rattle.ll_audit.specs.ShownReports.{version_at}
use Rattle.ll_rights.specs.AbiRanges.{is_in, versions_in}
use Rattle.ll_rights.proofs.AbiRanges.{few_versions}
use Rattle.std.proofs.Math.Seq.{drop-cons}

-- a list that some elements are taken out of
no_longer : {X : Type 0} (test : X → Bool) (xs : List X) → length (filter test xs) ≤ length xs
no_longer test [] = omega arith
no_longer {X = X} test (x ∷ xs) = go (test x) (no_longer test xs)
  where
    go : (b : Bool) → length (filter test xs) ≤ length xs → length (cond b (x ∷ filter test xs) (filter test xs)) ≤ length (x ∷ xs)
    go true le = omega (arith, le)
    go false le = omega (arith, le)

-- ---- from version to version

module _ (options : Options) (located : Located) where
  -- versions with the records as they are taken under them
  abbrev versions : List Abi → List Version
  versions abis = map (version_at options located.trace) abis

  abbrev Found : List Abi → List FindingValue → Type 0
  Found abis findings = AreFound options.shown.explanations located.tree located.trace (versions abis) findings

  -- one more version
  one_down : (done : List Abi) (abi : Abi) (before after : List FindingValue) → Found (filter (is_in options.abis) done) before
      → Adds options located abi before after → Found (filter (is_in options.abis) (abi ∷ done)) after
  one_down done abi before after are adds = go (is_in options.abis abi) refl
    where
      go : (b : Bool) → is_in options.abis abi ≡ b
          → Found (cond b (abi ∷ filter (is_in options.abis) done) (filter (is_in options.abis) done)) after
      go true asked =
          let own = adds.one asked in
          subst (Found (abi ∷ filter (is_in options.abis) done)) (sym own.1)
          (record { finds = own.2; taken = all_taken options.effort abi located.trace }, are)
      go false asked = subst (Found (filter (is_in options.abis) done)) (sym (adds.none asked)) are

  -- what an audit comes to that has gone over the versions among some
  abbrev pub IsReached : List Abi → Progress → Type 0
  IsReached done reached = (findings : List FindingValue) → ComesTo options reached findings → Found (filter (is_in options.abis) done) findings

  -- the version below an index
  pub next_down : (all : List Abi) (index : ℕ) (other : Abi) (before next : Progress) → 0 < index → index ≤ length all → IsReached (drop index all) before
      → GoesOn options located (get_or all (index - 1) other) before next → IsReached (drop (index - 1) all) next
  next_down all index other before next some within is goes =
      let abi : Abi = get_or all (index - 1) other in
      let below : index ≡ suc (index - 1) = omega (arith, some) in
      subst (λ (done : List Abi). IsReached done next) (sym (drop-cons all (index - 1) other (omega (arith, some, within))))
      (λ after comes.
      let from = goes after comes in
      one_down (drop (suc (index - 1)) all) abi from.0 after (subst (λ (k : ℕ). IsReached (drop k all) before) below is from.0 from.1) from.2)

  -- behind the oldest
  pub all_versions_found : (all : List Abi) (index : ℕ) (reached : Progress) → all ≡ all_versions → index ≡ 0 → IsReached (drop index all) reached
      → IsThrough options located reached
  unfolding versions_in
  all_versions_found all index reached same none is = λ findings comes.
      subst (λ (abis : List Abi). Found abis findings) (ap₂ (λ (k : ℕ) (vs : List Abi). filter (is_in options.abis) (drop k vs)) none same)
      (is findings comes)

-- there are few versions
pub few_asked : (options : Options) → length (versions_in options.abis) ≤ 64
unfolding versions_in
few_asked options = omega (arith, no_longer (is_in options.abis) all_versions, few_versions)
