-- Two policies that let the same chains pass and answer a move differently, over a small tree.
-- Source: the tree is that of docs/FORMATS.md, "The tree file".
use Rattle.std.specs.Prelude.{ℕ, List, [], ◌∷◌}
use Rattle.ll_rights.specs.declared.fs.Fs.{Fs}
use Rattle.ll_rights.specs.Rights.{refer, execute}
use Rattle.ll_rights.specs.NetRights as network
use Rattle.ll_rules.specs.Layers.{RulesOn}
use Rattle.ll_rules.specs.WorkedRules.{these}

-- a layer that handles moving files and execution, and grants moving them everywhere
abbrev layer_with : List (ℕ × Fs) → RulesOn ℕ
layer_with further = record {
  handled_files = these (refer ∷ execute ∷ []);
  handled_network = network.no_right;
  file_rules = (0, these (refer ∷ [])) ∷ further;
  port_rules = [];
}

-- it grants execution in one directory
abbrev pub in_b : RulesOn ℕ
in_b = layer_with ((2, these (execute ∷ [])) ∷ [])

-- it grants execution nowhere
abbrev pub nowhere : RulesOn ℕ
nowhere = layer_with []

abbrev pub both : List (RulesOn ℕ)
both = in_b ∷ nowhere ∷ []

abbrev pub stricter : List (RulesOn ℕ)
stricter = nowhere ∷ []
