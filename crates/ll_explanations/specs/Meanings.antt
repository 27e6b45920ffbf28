-- What an explanation as a value means: the objections, condition and reason of the definitions with the same names, and
-- the rights of a set as a list.
-- Source: docs/FORMATS.md, "Explanations"; landlock(7), "Filesystem actions"; the kernel's userspace document on
-- Landlock, "Network flags".
use Rattle.std.specs.Prelude.{◌≡◌, ◌<◌, ℕ, ◌-◌, ◌==◌, All, List, [], ◌∷◌, option_map, slice_get, filter, if◌then◌else◌}
use Rattle.ll_rights.specs.CodeRights.{fs_right}
use Rattle.ll_rights.specs.Rights as files
use Rattle.ll_rights.specs.NetRights as network
use Rattle.ll_rights.specs.declared.fs.Fs.{Fs}
use Rattle.ll_rights.specs.declared.net.Net.{Net}
use Rattle.ll_tree.specs.Trees.{Entry, path_at}
use Rattle.ll_trace.specs.declared.op.Op.{Op}
use Rattle.ll_reasons.specs.Objections as meant
use Rattle.ll_reasons.specs.Conditions as conditions
use Rattle.ll_explanations.specs.Meant.{reason_in, text_named}
use Rattle.ll_explanations.specs.declared.why.Which.TheVariants.{First}
use Rattle.ll_reasons.specs.Explanations as explanations
use Rattle.ll_explanations.specs.declared.objection.Objection.{Objection}
use Rattle.ll_explanations.specs.declared.objection.Objection.TheVariants.{Missing, Closed, Gained, Mounting, Kept}
use Rattle.ll_explanations.specs.declared.objection.LayerObjection.{LayerObjection}
use Rattle.ll_explanations.specs.declared.condition.Condition.{Condition}
use Rattle.ll_explanations.specs.declared.condition.Condition.TheVariants.{Unknown, Portless, Rightless, Unheld, Unhandled, UnhandledOnPorts, OnlyForDirectories, NoPort, Unprivileged, Full, Other}
use Rattle.ll_explanations.specs.declared.explanation.Explanation.{Explanation}
use Rattle.ll_explanations.specs.declared.explanation.Explanation.TheVariants.{Nothing, Objections, Failure, Mootness}

-- ---- the rights of a set as a list, and a set of one right

-- in the order of the table
unfoldable pub rights_in : Fs → List files.FsRight
rights_in set = filter (files.has set) files.all_rights

unfoldable pub port_rights_in : Net → List network.NetRight
port_rights_in set = filter (network.has set) network.all_rights

-- a set of rights for ports has one right alone
pub record IsOne (set : Net) : Type 0 where
  pub one : network.NetRight
  pub same : set ≡ network.only one

-- ---- objections; nodes are of the case's tree, and what a descriptor's file lacked is told by the index of the record that opened it

abbrev pub objection_in : List Entry → Objection → meant.Objection
objection_in tree (Missing rights node) = meant.missing (rights_in rights) (path_at tree node)
objection_in tree (Closed rights port) = meant.closed (port_rights_in rights) port
objection_in tree (Gained object rights directory) = meant.gained (path_at tree object) (rights_in rights) (path_at tree directory)
objection_in tree Mounting = meant.mounting
objection_in tree (Kept right opened) = meant.kept (fs_right right) opened

-- one objection in front of others: it joins those of its layer
unfoldable pub in_front : ℕ → meant.Objection → List (ℕ × List meant.Objection) → List (ℕ × List meant.Objection)
in_front layer objection [] = (layer, objection ∷ []) ∷ []
in_front layer objection (said ∷ more) = if said.0 == layer then (layer, objection ∷ said.1) ∷ more else (layer, objection ∷ []) ∷ said ∷ more

-- the objections layer by layer
unfoldable pub by_layer : List Entry → List LayerObjection → List (ℕ × List meant.Objection)
by_layer tree [] = []
by_layer tree (one ∷ more) = in_front one.layer (objection_in tree one.objection) (by_layer tree more)

-- ---- conditions, which may name the path of the call

unfoldable pub condition_in : Op → Condition → conditions.Condition
condition_in op (Unknown abi rights) = conditions.unknown abi (rights_in rights)
condition_in op (Portless abi) = conditions.portless abi
condition_in op Rightless = conditions.rightless
condition_in op (Unheld rs) = conditions.unheld rs
condition_in op (Unhandled rights) = conditions.unhandled (rights_in rights)
condition_in op (UnhandledOnPorts rights) = conditions.unhandled_on_ports (port_rights_in rights)
condition_in op (OnlyForDirectories rights) = conditions.only_for_directories (rights_in rights) (text_named op First)
condition_in op (NoPort port) = conditions.no_port port
condition_in op Unprivileged = conditions.unprivileged
condition_in op Full = conditions.full
condition_in op Other = conditions.other

-- All that unfolds when a condition is told.
unfoldable pub failing : Unit {0}
unfolding
    condition_in Rattle.ll_explanations.specs.Meant.text_named Rattle.ll_trace.specs.Operations.paths_of Rattle.ll_reasons.specs.Conditions.condition Rattle.ll_reasons.specs.Conditions.of_create
    Rattle.ll_reasons.specs.Conditions.of_add_path Rattle.ll_reasons.specs.Conditions.of_add_port Rattle.ll_reasons.specs.Conditions.of_restrict
failing = tt

-- All that unfolds when a reason is told.
unfoldable pub mooting : Unit {0}
unfolding
    Rattle.ll_explanations.specs.Meant.reason_in Rattle.ll_explanations.specs.Meant.text_named Rattle.ll_reasons.specs.Reasons.reason
    Rattle.ll_trace.specs.Operations.paths_of Rattle.ll_trace.specs.FirstPlaces.first_place
mooting = tt

-- ---- the explanation of a call

unfoldable pub explanation_in : List Entry → Op → Explanation → explanations.Explanation
explanation_in tree op Nothing = explanations.nothing
explanation_in tree op (Objections all) = explanations.objections (by_layer tree all)
explanation_in tree op (Failure condition) = explanations.failure (condition_in op condition)
explanation_in tree op (Mootness reason) = explanations.mootness (option_map (reason_in op) reason)

-- ---- the records that made the layers

-- a layer's objection names its layer, from 1 on, and the record that made it
abbrev pub IsMade : List ℕ → LayerObjection → Type 0
IsMade layers one = (0 < one.layer) × (one.made ≡ slice_get layers (one.layer - 1))

-- each objection of an explanation does
abbrev pub AreMade : List ℕ → Explanation → Type 0
AreMade layers Nothing = Unit {0}
AreMade layers (Objections all) = All (IsMade layers) all
AreMade layers (Failure condition) = Unit {0}
AreMade layers (Mootness reason) = Unit {0}
