-- What a number is open on is what an allowed open or adopt opened, through duplicates and forks.
use Rattle.std.proofs.Common.{◌≡◌, ℕ, suc, List, [], Option, Some, None, refl, sym, ap, arith, option_and_then, IfSome}
use Rattle.std.specs.Prelude.{slice_get, is_some}
use Rattle.ll_rights.specs.declared.abi.Abi.{Abi}
use Rattle.ll_tree.specs.Trees.{Entry, place}
use Rattle.ll_trace.specs.declared.op.Record.{Record}
use Rattle.ll_trace.specs.declared.op.Op.{Op}
use Rattle.ll_trace.specs.declared.op.Op.TheVariants.{OpenFile, Adopt, Dup, Close}
use Rattle.ll_semantics.specs.declared.answer.Answer.TheVariants.{Allowed}
use Rattle.ll_semantics.specs.declared.answer.Descriptor.{Descriptor}
use Rattle.ll_semantics.specs.States.{State, Layer, fresh}
use Rattle.ll_semantics.specs.Effects.{effect, opened, descriptor}
use Rattle.ll_semantics.specs.Worlds.{judged}
use Rattle.ll_semantics.specs.CallContexts.{change, state_by, world_at}
use Rattle.ll_reasons.specs.Origins.{Origins, no_origins, traced}
use Rattle.ll_reasons.specs.Made.{is_opening, opened_in, opened_by, opened_at, IsEarlier}
use Rattle.ll_reasons.specs.Explanations.{origins_at}
use Rattle.ll_reasons.proofs.Lockstep.{Keeps, holds_at}
use Rattle.ll_reasons.proofs.Alike.{Alike, alike-some, alike-update, alike-weaker}

-- a descriptor is what the record at an earlier index opened
abbrev Opens : List Entry → Abi → List Record → ℕ → Descriptor → ℕ → Type 0
Opens tree abi records ix d k = IsEarlier is_opening tree abi records ix k × (opened_at tree abi records k ≡ Some d)

-- so is all that is open
abbrev AllOpen : List Entry → Abi → List Record → ℕ → State → Origins → Type 0
AllOpen tree abi records ix s o = (fd : ℕ) → Alike (Opens tree abi records ix) (s.descriptors fd) (o.openings fd)

later : (tree : List Entry) (abi : Abi) (records : List Record) (k : ℕ) (x : Option Descriptor) (y : Option ℕ) → Alike (Opens tree abi records k) x y
    → Alike (Opens tree abi records (suc k)) x y
later tree abi records k x y fits =
    alike-weaker (Opens tree abi records k) (Opens tree abi records (suc k)) (λ d j is. ((omega (arith, is.0.0), is.0.1), is.1)) x y fits

changed : (tree : List Entry) (abi : Abi) (records : List Record) (k : ℕ) (r : Record) (op : Op) (rulesets : List Layer) (s : State) (o : Origins) → r.op ≡ op
    → slice_get records k ≡ Some r → slice_get (judged tree abi records) k ≡ Some Allowed
    → opened_at tree abi records k ≡ opened_in tree s op → AllOpen tree abi records k s o
    → AllOpen tree abi records (suc k) (change tree rulesets op s) (traced k op o)
unfolding change state_by effect traced opened_in is_opening Alike
changed tree abi records k r (OpenFile path fd mode create trunc) rulesets s o is eq allowed opens all q =
    alike-update (Opens tree abi records (suc k)) s.descriptors o.openings fd q (Some (opened tree s.domain (place tree path) mode)) (Some k)
    ((omega arith, record { of = r; at = eq; such = ap (λ (op : Op). is_opening op) is; allowed = allowed }), opens)
    (later tree abi records k (s.descriptors q) (o.openings q) (all q))
changed tree abi records k r (Adopt fd kind) rulesets s o is eq allowed opens all q =
    alike-update (Opens tree abi records (suc k)) s.descriptors o.openings fd q (Some (descriptor kind [])) (Some k)
    ((omega arith, record { of = r; at = eq; such = ap (λ (op : Op). is_opening op) is; allowed = allowed }), opens)
    (later tree abi records k (s.descriptors q) (o.openings q) (all q))
changed tree abi records k r (Dup fd to) rulesets s o is eq allowed opens all q =
    alike-update (Opens tree abi records (suc k)) s.descriptors o.openings to q (s.descriptors fd) (o.openings fd)
    (later tree abi records k (s.descriptors fd) (o.openings fd) (all fd))
    (later tree abi records k (s.descriptors q) (o.openings q) (all q))
changed tree abi records k r (Close fd) rulesets s o is eq allowed opens all q =
    alike-update (Opens tree abi records (suc k)) s.descriptors o.openings fd q None None tt
    (later tree abi records k (s.descriptors q) (o.openings q) (all q))
changed tree abi records k r op rulesets s o is eq allowed opens all q = later tree abi records k (s.descriptors q) (o.openings q) (all q)

keeps : (tree : List Entry) (abi : Abi) (records : List Record) → Keeps tree abi records (AllOpen tree abi records)
unfolding fresh no_origins opened_at opened_by Alike
keeps tree abi records = record {
  begins = λ k nnp admin fd. tt;
  stays = λ k s o all fd. later tree abi records k (s.descriptors fd) (o.openings fd) (all fd);
  changes = λ k r o eq allowed judged all.
      changed tree abi records k r r.op _ _ o refl eq judged (ap (λ (x : Option Record). opened_by tree (world_at tree abi records k) x) eq) all;
}

all_open : (tree : List Entry) (abi : Abi) (records : List Record) (ix process : ℕ)
    → AllOpen tree abi records ix ((world_at tree abi records ix).processes process) (origins_at tree abi records ix process)
all_open tree abi records ix process = holds_at tree abi records (AllOpen tree abi records) (keeps tree abi records) ix process

-- ---- the law

described : (tree : List Entry) (abi : Abi) (records : List Record) (ix : ℕ) (x : Option Descriptor) (y : Option ℕ) → Alike (Opens tree abi records ix) x y
    → x ≡ option_and_then (opened_at tree abi records) y
unfolding Alike
described tree abi records ix None None fits = refl
described tree abi records ix (Some d) (Some k) fits = sym fits.1
described tree abi records ix None (Some k) fits = absurd fits
described tree abi records ix (Some d) None fits = absurd fits

earlier : (tree : List Entry) (abi : Abi) (records : List Record) (ix : ℕ) (x : Option Descriptor) (y : Option ℕ) → Alike (Opens tree abi records ix) x y
    → IfSome y (IsEarlier is_opening tree abi records ix)
unfolding Alike
earlier tree abi records ix None None fits = tt
earlier tree abi records ix (Some d) (Some k) fits = fits.0
earlier tree abi records ix None (Some k) fits = absurd fits
earlier tree abi records ix (Some d) None fits = tt

module _ (tree : List Entry) (abi : Abi) (records : List Record) (ix process fd : ℕ) where
  d : Option Descriptor
  d = ((world_at tree abi records ix).processes process).descriptors fd

  opening : Option ℕ
  opening = (origins_at tree abi records ix process).openings fd

  pub descriptor_made : ((world_at tree abi records ix).processes process).descriptors fd
      ≡ option_and_then (opened_at tree abi records) ((origins_at tree abi records ix process).openings fd)
  unfolding d opening
  descriptor_made = described tree abi records ix d opening (all_open tree abi records ix process fd)

  pub descriptor_open : is_some ((origins_at tree abi records ix process).openings fd)
      ≡ is_some (((world_at tree abi records ix).processes process).descriptors fd)
  unfolding d opening
  descriptor_open = alike-some (Opens tree abi records ix) d opening (all_open tree abi records ix process fd)

  pub descriptor_earlier : IfSome ((origins_at tree abi records ix process).openings fd) (IsEarlier is_opening tree abi records ix)
  unfolding d opening
  descriptor_earlier = earlier tree abi records ix d opening (all_open tree abi records ix process fd)
