-- Domains, and the layers of a domain that refuse what is asked.
-- Source: landlock(7), "Landlock rules"; the kernel's userspace document on Landlock, "Layers of file path access rights" and "Ruleset layers".
use Rattle.std.specs.Prelude.{ℕ, ◌+◌, Bool, not, List, [], ◌∷◌, ◌++◌, if◌then◌else◌}
use Rattle.ll_rights.specs.declared.fs.Fs.{Fs}
use Rattle.ll_rights.specs.declared.net.Net.{Net}
use Rattle.ll_rights.specs.Rights as files
use Rattle.ll_rights.specs.NetRights as network
use Rattle.ll_lines.specs.Paths.{Path}
use Rattle.ll_rules.specs.Layers.{RulesOn, handles, granted, granted_on_port}

-- the numbers of the layers that pass a test, where the first has a given number
unfoldable pub numbers_from : {L : Type 0} → (L → Bool) → ℕ → List L → List ℕ
numbers_from test number [] = []
numbers_from test number (layer ∷ layers) = (if test layer then number ∷ [] else []) ++ numbers_from test (number + 1) layers

-- the numbers of the layers that pass a test, where the oldest has number 1
abbrev pub numbers_where : {L : Type 0} → (L → Bool) → List L → List ℕ
numbers_where test domain = numbers_from test 1 domain

-- whether a layer handles something wanted on a path and doesn't grant it
abbrev pub lacks : RulesOn Path → Path → Fs → Bool
lacks layer path wanted = files.is_lacking (files.has wanted) (handles layer) (granted layer path)

-- the layers that refuse what is wanted on a path
abbrev pub refusing : List (RulesOn Path) → Path → Fs → List ℕ
refusing domain path wanted = numbers_where (λ layer. lacks layer path wanted) domain

module _ {P : Type 0} where
  -- whether a layer handles something wanted on a port and doesn't grant it
  abbrev pub lacks_on_port : RulesOn P → ℕ → Net → Bool
  lacks_on_port layer port wanted = network.is_lacking (network.has wanted) (network.has layer.handled_network) (granted_on_port layer port)

  -- the layers that refuse what is wanted on a port
  abbrev pub refusing_port : List (RulesOn P) → ℕ → Net → List ℕ
  refusing_port domain port wanted = numbers_where (λ layer. lacks_on_port layer port wanted) domain

  -- the layers that refuse a change of what is mounted: all that handle a right for files
  abbrev pub refusing_mount : List (RulesOn P) → List ℕ
  refusing_mount domain = numbers_where (λ layer. not (files.is_empty layer.handled_files)) domain
