-- The words for rights that a version doesn't know, by whether the set has one for files.
use Rattle.std.proofs.Common.{◌≡◌, ◌∙◌, Bool, true, false, List, [], ◌∷◌, codes, refl, sym, inl, inr}
use Rattle.std.specs.Prelude.{filter, not}
use Rattle.std.specs.List.{list_any}
use Rattle.std.proofs.lemmas.Bool.{cases_Bool, true≢false}
use Rattle.ll_rights.specs.declared.fs.Fs.{Fs}
use Rattle.ll_rights.specs.Rights as files
use Rattle.ll_explanations.specs.Meanings.{rights_in}
use Rattle.ll_explain.specs.Words.{rights_text, unknown_text}

module _ (test : files.FsRight → Bool) where
  none : (rights : List files.FsRight) → not (list_any test rights) ≡ true → codes "a right for ports" ≡ unknown_text (filter test rights)
  unfolding unknown_text
  none [] is = refl
  none (right ∷ rights) is = elim (cases_Bool (test right)) [
    | inl passes ↦ absurd (true≢false (sym is ∙ rw passes refl))
    | inr fails ↦ rw fails (none rights (sym (rw fails refl) ∙ is))
  ]

  some : (rights : List files.FsRight) → not (list_any test rights) ≡ false → rights_text (filter test rights) ≡ unknown_text (filter test rights)
  unfolding unknown_text
  some [] is = absurd (true≢false is)
  some (right ∷ rights) is = elim (cases_Bool (test right)) [
    | inl passes ↦ rw passes refl
    | inr fails ↦ rw fails (some rights (sym (rw fails refl) ∙ is))
  ]

pub unknown_none : (set : Fs) → files.is_empty set ≡ true → codes "a right for ports" ≡ unknown_text (rights_in set)
unfolding rights_in files.some_right
unknown_none set is = none (files.has set) files.all_rights is

pub unknown_some : (set : Fs) → files.is_empty set ≡ false → rights_text (rights_in set) ≡ unknown_text (rights_in set)
unfolding rights_in files.some_right
unknown_some set is = some (files.has set) files.all_rights is
