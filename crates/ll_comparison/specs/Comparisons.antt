-- A comparison of two policies, as a line of JSON says it: which objects are files, what each is in, how many ports are
-- numbered, what is asked, and the layers of both. Rules are on objects and ports by their numbers; what several rules grant on one number is granted there together.
-- Source: landaudit-rules(1); landlock(7), "Landlock rules".
use Rattle.std.specs.Prelude.{ℕ, ◌+◌, Bool, true, nat_le, List, length, map, replicate, codes, Result, Ok, Err, slice_set, slice_index_or, ok_or, if◌then◌else◌}
use Rattle.serde_json.specs.Data.{Data}
use Rattle.serde_json.specs.Find.{get}
use Rattle.ll_rights.specs.declared.fs.Fs.{Fs}
use Rattle.ll_rights.specs.declared.net.Net.{Net}
use Rattle.ll_rights.specs.Rights as files
use Rattle.ll_rights.specs.Families.{Family, for_files, for_network, no_right}
use Rattle.ll_lines.specs.declared.fault.Cause.{Cause}
use Rattle.ll_lines.specs.declared.fault.Cause.TheVariants.{Field}
use Rattle.ll_lines.specs.Members.{value_at, number_at, flag_at, items_at, ◌>>=◌}
use Rattle.ll_members.specs.Rights.{net_at, texts_at, with_fs}
use Rattle.ll_values.specs.Lists.{fold_items, list_at, place_in, truth_in}
use Rattle.ll_policy.specs.declared.layer.Layer.{Layer}
use Rattle.ll_comparison.specs.declared.comparison.TheConstants.{MOST_PORTS}
use Rattle.ll_comparison.specs.declared.comparison.Asked.{Asked}
use Rattle.ll_comparison.specs.declared.comparison.Comparison.{Comparison as Compared}

-- a layer: what it handles, what is granted on each object and on each port, by their numbers, and its scopes
pub record LayerSeen : Type 0 where
  pub files : Fs
  pub network : Net
  pub on_objects : List Fs
  pub on_ports : List Net
  pub abstract_unix_socket : Bool
  pub signal : Bool

pub record Comparison : Type 0 where
  pub files : List Bool
  pub parents : List ℕ
  pub ports : ℕ
  pub asked : Asked
  pub old : List LayerSeen
  pub new : List LayerSeen

-- ---- rules

-- the rights for files that a member names
abbrev pub rights_at : List ℕ → Data → Result Fs Cause
rights_at name value = texts_at name with_fs files.no_right value

-- some rights more on what has a number
unfoldable pub with_rights_on : {S R : Type 0} → Family S R → S → List S → Data → Result (List S) Cause
with_rights_on family rights sets value = do
  place ← place_in (length sets) value
  Ok (slice_set sets place (family.united (slice_index_or sets place (no_right family)) rights))

-- what a rule grants more, on the numbers of a member
unfoldable pub with_rule : {S R : Type 0} → Family S R → (Data → Result S Cause) → List ℕ → List S → Data → Result (List S) Cause
with_rule family in_rule name sets value = do
  rights ← in_rule value
  numbers ← items_at name value
  fold_items (with_rights_on family rights) sets numbers

-- what all rules of a member grant on each of so many numbers
unfoldable pub granted_at : {S R : Type 0} → Family S R → (Data → Result S Cause) → List ℕ → List ℕ → ℕ → Data → Result (List S) Cause
granted_at family in_rule rules name count value = do
  all ← items_at rules value
  fold_items (with_rule family in_rule name) (replicate count (no_right family)) all

-- ---- layers

-- the scope of abstract UNIX sockets, and that of signals
unfoldable pub scopes_in : Data → Result (Bool × Bool) Cause
scopes_in value = do
  sockets ← flag_at (codes "abstract_unix_socket") value
  signals ← flag_at (codes "signal") value
  Ok (sockets, signals)

-- a layer with rules on so many objects and ports
unfoldable pub layer_in : ℕ → ℕ → Data → Result LayerSeen Cause
layer_in objects ports value = do
  handled ← rights_at (codes "fs") value
  handled_network ← net_at value
  on_objects ← granted_at for_files (rights_at (codes "fs")) (codes "object_rules") (codes "objects") objects value
  on_ports ← granted_at for_network net_at (codes "port_rules") (codes "ports") ports value
  scopes ← scopes_in value
  Ok (record {
    files = handled;
    network = handled_network;
    on_objects = on_objects;
    on_ports = on_ports;
    abstract_unix_socket = scopes.0;
    signal = scopes.1;
  })

unfoldable pub layers_at : List ℕ → ℕ → ℕ → Data → Result (List LayerSeen) Cause
layers_at name objects ports value = list_at name (λ index. layer_in objects ports) value

-- ---- the comparison

-- which objects are files; object 0 is the root, a directory
unfoldable pub files_at : Data → Result (List Bool) Cause
files_at value = do
  files ← list_at (codes "files") (λ index. truth_in) value
  if slice_index_or files 0 true then Err Field else Ok files

-- how many ports are numbered
unfoldable pub port_count_at : Data → Result ℕ Cause
port_count_at value = do
  count ← number_at (codes "ports") value
  if nat_le count MOST_PORTS then Ok count else Err Field

-- the rights for files that a part of the answer is about; the member has to be there, so that none is forgotten
unfoldable pub asked_at : List ℕ → Data → Result Fs Cause
asked_at name value = do
  said ← ok_or (get name value) Field
  rights_at name value

-- which rights for files are asked about
unfoldable pub asked_in : Data → Result Asked Cause
asked_in value = do
  regions ← asked_at (codes "regions") value
  objects ← asked_at (codes "objects") value
  single ← asked_at (codes "single") value
  gains ← asked_at (codes "gains") value
  moves ← asked_at (codes "moves") value
  Ok (record { regions = regions; objects = objects; single = single; gains = gains; moves = moves })

-- each object after the root is in one that comes before it
unfoldable pub comparison_in : Data → Result Comparison Cause
comparison_in value = do
  files ← files_at value
  parents ← list_at (codes "parents") (λ index. place_in (index + 1)) value
  ports ← port_count_at value
  asked ← asked_in value
  old ← layers_at (codes "old") (length files) ports value
  new ← layers_at (codes "new") (length files) ports value
  Ok (record { files = files; parents = parents; ports = ports; asked = asked; old = old; new = new })

-- the comparison on a line
unfoldable pub comparison_on : List ℕ → Result Comparison Cause
comparison_on line = do
  value ← value_at line
  comparison_in value

-- ---- what a reader has of it

abbrev pub seen : Layer → LayerSeen
seen layer = record {
  files = layer.files;
  network = layer.network;
  on_objects = layer.on_objects.items;
  on_ports = layer.on_ports.items;
  abstract_unix_socket = layer.abstract_unix_socket;
  signal = layer.signal;
}

abbrev pub all_seen : Compared → Comparison
all_seen comparison = record {
  files = comparison.files.items;
  parents = comparison.parents.items;
  ports = comparison.ports;
  asked = comparison.asked;
  old = map seen comparison.old.items;
  new = map seen comparison.new.items;
}
