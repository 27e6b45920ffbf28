-- Lanes: a set of rights for each layer of a domain, at the index of its layer. Also the layers that a domain stacks.
-- Source: docs/DECISIONS.md, the checks by lanes; the kernel's userspace document on Landlock, "Ruleset layers".
use Rattle.std.specs.Prelude.{◌≡◌, ℕ, zero, suc, ◌-◌, ◌^◌, bit_and, Bool, false, not, ◌&&◌, List, slice_index, slice_index_or}
use Rattle.ll_rights.specs.declared.fs.Fs.{Fs}
use Rattle.ll_rights.specs.Rights as files
use Rattle.ll_rights.specs.Rights.{FsRight, has, other, bit_of}
use Rattle.ll_rights.specs.NetRights as network
use Rattle.ll_lines.specs.Paths.{Path}
use Rattle.ll_tree.specs.Trees.{Entry}
use Rattle.ll_rules.specs.Layers.{RulesOn, without_rules, handles, granted}
use Rattle.ll_rules.specs.InTree.{in_tree}
use Rattle.ll_rules.specs.KeptLayers.{domain_of}
use Rattle.ll_rules.specs.declared.domain.Stack.{Stack}

-- the bits of the rights that have a name, which are those before the bit of `other`
abbrev pub named_bits : ℕ
named_bits = 2 ^ bit_of other - 1

-- the set of rights that a lane's bits stand for: those that have a name
abbrev pub set_of : ℕ → Fs
set_of bits = record { 0 = bit_and bits named_bits }

-- the set in a lane
abbrev pub lane : List ℕ → ℕ → Fs
lane lanes index = set_of (slice_index lanes index)

-- whether the lane of a layer, by the layer's number, holds a right
unfoldable pub is_filled : List ℕ → ℕ → Bool
is_filled lanes zero = false
is_filled lanes (suc index) = not (files.is_empty (lane lanes index))

-- the layer at an index of a domain; past the last there is none, and nothing is handled
abbrev pub layer_in : {P : Type 0} → List (RulesOn P) → ℕ → RulesOn P
layer_in domain index = slice_index_or domain index (without_rules files.no_right network.no_right)

-- each lane holds what its layer handles and doesn't grant on a path
abbrev pub AreLacking : List Entry → List (RulesOn ℕ) → Path → List ℕ → Type 0
AreLacking tree domain path lanes =
    (index : ℕ) (right : FsRight) → has (lane lanes index) right ≡ (handles (layer_in domain index) right && not (granted (in_tree tree (layer_in domain index)) path right))

-- ---- the layers that a domain stacks

-- the layers of a stack, the oldest first
abbrev pub layers_of : Stack → List (RulesOn ℕ)
layers_of stack = domain_of stack.layers.now stack.ids.now

-- the layer at an index of a stack
abbrev pub stacked : Stack → ℕ → RulesOn ℕ
stacked stack index = layer_in (layers_of stack) index
