-- The rights of a rule, right by right.
use Rattle.std.proofs.Common.{◌≡◌, ℕ, Bool, true, false, ◌&&◌, ◌||◌, refl, ap, ◌∙◌}
use Rattle.ll_rights.specs.declared.abi.Abi.{Abi}
use Rattle.ll_rights.specs.declared.fs.Fs.{Fs}
use Rattle.ll_rights.specs.Rights as files
use Rattle.ll_rights.specs.NetRights as network
use Rattle.ll_rights.specs.Families.{for_files, for_network, common}
use Rattle.ll_fitting.specs.declared.written.Access.{Access}
use Rattle.ll_rights.specs.declared.kind.Kind.{Kind}
use Rattle.ll_rights.specs.declared.kind.Kind.TheVariants.{Dir}
use Rattle.ll_tree.specs.Trees.{is_dir}
use Rattle.ll_fitting.specs.declared.written.PathRule.{PathRule}
use Rattle.ll_fitting.specs.declared.written.PortRule.{PortRule}
use Rattle.ll_fitting.specs.declared.written.Parent.TheVariants.{There, Missing}
use Rattle.ll_fitting.specs.Written.{Layer, listed, listed_for_files, lists, lists_for_files, file_rights}
use Rattle.ll_fitting.specs.Fitting.{is_for_files, is_left, counted_on_files, rights_on_kind, rights_at, rights_on_port}
use Rattle.ll_fitting.proofs.Families.{file_sets, port_sets, both, left_by_right, listed_by_right}

pub of_files : (right : files.FsRight) → files.has file_rights right ≡ files.is_file_right right
unfolding files.has files.named_rights
of_files files.other = refl
of_files right = refl

pub listed_for_files_by_right : (access : Access Fs) (right : files.FsRight) → files.has (listed_for_files access) right ≡ lists_for_files access right
listed_for_files_by_right access right =
    file_sets.united access.named (common for_files access.grouped file_rights) right
    ∙ ap (λ (b : Bool). files.has access.named right || b)
    (both file_sets access.grouped file_rights right (of_files files.other) ∙ ap (λ (b : Bool). files.has access.grouped right && b) (of_files right))

-- ---- what a rule asks for

pub on_directories : (abi : Abi) (layer : Layer) (rule : PathRule) (object : ℕ) (right : files.FsRight)
    → files.has (listed for_files layer.handled_files) files.other ≡ false
    → files.has (rights_at abi layer rule (There object Dir)) right ≡ (lists for_files rule.allowed right && is_left for_files abi layer.handled_files right)
unfolding rights_on_kind
on_directories abi layer rule object right known =
    listed_by_right file_sets abi layer.handled_files rule.allowed right known

pub on_files : (abi : Abi) (layer : Layer) (rule : PathRule) (object : ℕ) (kind : Kind) (right : files.FsRight) →
    files.has (listed for_files layer.handled_files) files.other ≡ false → is_dir kind ≡ false → (is_for_files layer rule || rule.included) ≡ true
    → files.has (rights_at abi layer rule (There object kind)) right ≡ (lists_for_files rule.allowed right && is_left for_files abi layer.handled_files right)
unfolding rights_on_kind counted_on_files
on_files abi layer rule object kind right known other some =
    rw (other, some) (left_by_right file_sets abi layer.handled_files (listed_for_files rule.allowed) right known)
    ∙ ap (λ (b : Bool). b && is_left for_files abi layer.handled_files right) (listed_for_files_by_right rule.allowed right)

pub on_ports : (abi : Abi) (layer : Layer) (rule : PortRule) (right : network.NetRight)
    → network.has (listed for_network layer.handled_network) network.other ≡ false
    → network.has (rights_on_port abi layer rule) right ≡ (lists for_network rule.allowed right && is_left for_network abi layer.handled_network right)
unfolding rights_on_port
on_ports abi layer rule right known = listed_by_right port_sets abi layer.handled_network rule.allowed right known

pub on_files_whole : (abi : Abi) (layer : Layer) (rule : PathRule) (object : ℕ) (kind : Kind) → is_dir kind ≡ false →
    (is_for_files layer rule || rule.included) ≡ false → rights_at abi layer rule (There object kind) ≡ rights_at abi layer rule (There object Dir)
unfolding rights_on_kind counted_on_files
on_files_whole abi layer rule object kind other none = rw (other, none) refl

pub on_nothing : (abi : Abi) (layer : Layer) (rule : PathRule) → rule.included ≡ true → rights_at abi layer rule Missing ≡ files.no_right
on_nothing abi layer rule included = rw included refl
