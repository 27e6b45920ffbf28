-- What is found of two policies, for each right and each old layer.
-- Source: landlock(7), "Filesystem actions".
use Rattle.std.specs.Prelude.{◌≡◌, ℕ, Bool, List, [], map, Option, Vec, if◌then◌else◌}
use Rattle.std.specs.List.{AllZip, list_all}
use Rattle.std.specs.Option.{is_none}
use Rattle.std.specs.Global.{Global}
use Rattle.ll_rights.specs.declared.fs.Fs.{Fs}
use Rattle.ll_rights.specs.Rights.{FsRight, has, all_rights}
use Rattle.ll_rules.specs.Layers.{RulesOn}
use Rattle.ll_policy.specs.declared.layer.Layer.{Layer}
use Rattle.ll_policy.specs.Chains.{Granting}
use Rattle.ll_policy.specs.Choices.{enough_of}
use Rattle.ll_policy.specs.Granted.{granting}
use Rattle.ll_policy.specs.Policies.{rules_of}

-- the layers that are asked about a right: all, if it is among the rights that are asked about
abbrev pub asked_of : Fs → FsRight → List (RulesOn ℕ) → List (RulesOn ℕ)
asked_of asked right layers = if has asked right then layers else []

-- what these say of it
abbrev pub said : Fs → FsRight → List (RulesOn ℕ) → List Granting
said asked right layers = map (granting right) (asked_of asked right layers)

-- of a right for files what is told of each old layer, by what it and all new layers say of the right
abbrev pub OfLayers : {T : Type 0} → (List Granting → Granting → T → Type 0) → List (RulesOn ℕ) → List (RulesOn ℕ) → FsRight → Vec T Global → Type 0
OfLayers tells old new right found = AllZip (tells (map (granting right) new)) (map (granting right) old) found.items

-- the same of each right for files, and of the layers that are asked about it
abbrev pub OfEach : {T : Type 0} → (List Granting → Granting → T → Type 0) → Fs → List Layer → List Layer → Vec (Vec T Global) Global → Type 0
OfEach tells asked old new found =
    AllZip (λ right. OfLayers tells (asked_of asked right (map rules_of old)) (asked_of asked right (map rules_of new)) right) all_rights found.items

-- what is found of an old layer: those of so many objects each of which is enough
abbrev pub TellsSingle : ℕ → List Granting → Granting → Vec ℕ Global → Type 0
TellsSingle count new old found = found.items ≡ enough_of count old new

-- nothing is found of any right and any layer
abbrev pub is_nothing : {X : Type 0} → List (Vec (Option X) Global) → Bool
is_nothing found = list_all (λ layers. list_all is_none layers.items) found
