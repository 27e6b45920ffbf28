-- A set that is read has the rights that its names stand for, and no others.
use Rattle.std.proofs.Common.{◌≡◌, ℕ, ◌||◌, Bool, false, List, Option, Some, None, Result, Ok, refl, ap, ◌∙◌}
use Rattle.std.specs.List.{list_any}
use Rattle.std.proofs.Math.Bool.{or_assoc, or-false}
use Rattle.serde_json.specs.Data.{Data, Items, no_items, item}
use Rattle.serde_json.specs.Find.{as_str}
use Rattle.ll_rights.specs.declared.fs.Fs.{Fs}
use Rattle.ll_rights.specs.declared.net.Net.{Net}
use Rattle.ll_rights.specs.Rights as files
use Rattle.ll_rights.specs.NetRights as network
use Rattle.ll_rights.proofs.Sets.{fs_has-only, fs_has-united, net_has-only, net_has-united}
use Rattle.ll_lines.specs.declared.fault.Cause.{Cause}
use Rattle.ll_lines.specs.Members.{text_in, fold_texts, ◌>>=◌}
use Rattle.ll_members.specs.Rights.{with_fs, with_net}
use Rattle.ll_trace.specs.SaidByName.{text_of, texts_of}

-- what is put together of texts passes a test if it did at first or one of the texts makes it
module _ {Whole : Type 0} (add : Whole → List ℕ → Whole) (passes : Whole → Bool) (makes : List ℕ → Bool) (step : (whole : Whole) (text : List ℕ)
    → passes (add whole text) ≡ (passes whole || makes text)) where
  first_text : (value : Data) (r : Option (List ℕ)) → as_str value ≡ r → (next : List ℕ → Result Whole Cause) (all : Whole) → (text_in value >>= next) ≡ Ok all
      → next (text_of value) ≡ Ok all
  unfolding text_in
  first_text value (Some text) is next all e = rw is (rw is at e)
  first_text value None is next all e = absurd (let no = rw is at e in cc)

  pub passes-fold : (names : Items) (whole all : Whole) → fold_texts add whole names ≡ Ok all → passes all ≡ (passes whole || list_any makes (texts_of names))
  unfolding fold_texts
  passes-fold no_items whole all e = let same : whole ≡ all = cc in rw (← same, or-false) refl
  passes-fold (item value others) whole all e =
      let rest : fold_texts add (add whole (text_of value)) others ≡ Ok all =
      first_text value (as_str value) refl (λ text. fold_texts add (add whole text) others) all e in
      passes-fold others (add whole (text_of value)) all rest ∙ (ap (λ b. b || list_any makes (texts_of others)) (step whole (text_of value))
      ∙ or_assoc (passes whole) (makes (text_of value)) (list_any makes (texts_of others)))

fs_step : (right : files.FsRight) (set : Fs) (name : List ℕ)
    → files.has (with_fs set name) right ≡ (files.has set right || files.is_right right (files.right_named name))
fs_step right set name =
    fs_has-united set (files.only (files.right_named name)) right ∙ ap (λ b. files.has set right || b) (fs_has-only right (files.right_named name))

net_step : (right : network.NetRight) (set : Net) (name : List ℕ)
    → network.has (with_net set name) right ≡ (network.has set right || network.is_right right (network.right_named name))
net_step right set name =
    net_has-united set (network.only (network.right_named name)) right ∙ ap (λ b. network.has set right || b) (net_has-only right (network.right_named name))

pub no_fs : (right : files.FsRight) → files.has files.no_right right ≡ false
unfolding files.has
no_fs files.other = refl
no_fs _ = refl

pub no_net : (right : network.NetRight) → network.has network.no_right right ≡ false
unfolding network.has
no_net network.other = refl
no_net _ = refl

pub fs_by_names : (names : Items) (set : Fs) (right : files.FsRight) → fold_texts with_fs files.no_right names ≡ Ok set
    → files.has set right ≡ list_any (λ name. files.is_right right (files.right_named name)) (texts_of names)
fs_by_names names set right e =
    passes-fold with_fs (λ (s : Fs). files.has s right) (λ name. files.is_right right (files.right_named name)) (fs_step right) names files.no_right set e
    ∙ ap (λ b. b || list_any (λ name. files.is_right right (files.right_named name)) (texts_of names)) (no_fs right)

pub net_by_names : (names : Items) (set : Net) (right : network.NetRight) → fold_texts with_net network.no_right names ≡ Ok set
    → network.has set right ≡ list_any (λ name. network.is_right right (network.right_named name)) (texts_of names)
net_by_names names set right e =
    passes-fold with_net (λ (s : Net). network.has s right) (λ name. network.is_right right (network.right_named name))
    (net_step right) names network.no_right set e
    ∙ ap (λ b. b || list_any (λ name. network.is_right right (network.right_named name)) (texts_of names)) (no_net right)
