-- Sets of one or two rights, and lists that name them.
use Rattle.std.proofs.Common.{◌≡◌, Bool, false, ◌||◌, sym, ap, ◌∙◌}
use Rattle.ll_rights.specs.declared.fs.Fs.{Fs}
use Rattle.ll_rights.specs.Rights.{FsRight, has, only, united, no_right, is_right, some_right, all_rights}
use Rattle.ll_rights.proofs.Sets.{fs_has-only, fs_has-united}
use Rattle.ll_rules.proofs.RightSets.{has_nothing}
use Rattle.ll_rules.proofs.Booleans.{or_false, list_any-agree}

pub none_asked : (right : FsRight) → has no_right right ≡ false
none_asked right = has_nothing right

pub one_asked : (set : Fs) (one right : FsRight) → set ≡ only one → has set right ≡ (is_right right one || false)
one_asked set one right is = ap (λ (own : Fs). has own right) is ∙ fs_has-only right one ∙ sym (or_false (is_right right one))

pub two_asked : (set first second : Fs) (one another right : FsRight) → set ≡ united first second → first ≡ only one → second ≡ only another
    → has set right ≡ (is_right right one || (is_right right another || false))
two_asked set first second one another right is a b =
    ap (λ (own : Fs). has own right) is
    ∙ fs_has-united first second right
    ∙ ap (λ (rest : Bool). has first right || rest) (one_asked second another right b)
    ∙ ap (λ (here : Bool). here || (is_right right another || false)) (ap (λ (own : Fs). has own right) a ∙ fs_has-only right one)

pub some_agree : (f g : FsRight → Bool) → ((right : FsRight) → f right ≡ g right) → some_right f ≡ some_right g
unfolding some_right
some_agree f g same = list_any-agree f g same all_rights
