-- Which moves between regions pass under one of two policies and not under the other.
-- Source: landlock(7), "Filesystem actions", the right to move files between directories.
use Rattle.std.specs.Prelude.{◌≡◌, ℕ, ◌+◌, ◌<◌, Bool, true, false, not, ◌&&◌, ◌==◌, List, [], ◌∷◌, length, map, filter, slice_index_or, if◌then◌else◌}
use Rattle.std.specs.Prelude.{Option, None, MatchOption, Vec}
use Rattle.std.specs.List.{range_with_len, AllZip}
use Rattle.std.specs.Global.{Global}
use Rattle.ll_rights.specs.declared.fs.Fs.{Fs}
use Rattle.ll_rights.specs.declared.kind.Kind.{Kind}
use Rattle.ll_rights.specs.declared.kind.Kind.TheVariants.{Dir, Reg, Sym, Char, Block, Fifo, Sock}
use Rattle.ll_rights.specs.Rights.{has, refer}
use Rattle.ll_rights.specs.Kinds.{make_right_of}
use Rattle.ll_tree.specs.Trees.{is_dir}
use Rattle.ll_rules.specs.Layers.{RulesOn}
use Rattle.ll_policy.specs.declared.moving.Movers.{Movers}
use Rattle.ll_policy.specs.declared.moving.MovedTo.{MovedTo}
use Rattle.ll_policy.specs.Chains.{passes}
use Rattle.ll_policy.specs.Granted.{granting}
use Rattle.ll_policy.specs.Regions.{region, single, spread}
use Rattle.ll_policy.specs.Moving.{MoveGranting, about_moves, move_passes}

abbrev pub all_kinds : List Kind
all_kinds = Reg ∷ Sym ∷ Char ∷ Block ∷ Fifo ∷ Sock ∷ Dir ∷ []

-- what is said of moves by all rules that hold in each region
abbrev pub spread_all : List ℕ → MoveGranting → MoveGranting
spread_all parents about = record {
  make = map (spread parents) about.make;
  remove = map (spread parents) about.remove;
  refer = map (spread parents) about.refer;
  gained = map (map (spread parents)) about.gained;
}

-- by numbers of regions, what is said of moves of objects of a kind there
abbrev pub passes_by : Kind → MoveGranting → ℕ → ℕ → ℕ → Bool
passes_by kind about object from to = move_passes kind about (single object) (single from) (single to)

-- whether an object in one region may be moved from a directory in another to a third
abbrev pub lets_move : List ℕ → Kind → List (RulesOn ℕ) → ℕ → ℕ → ℕ → Bool
lets_move parents kind layers object from to =
    move_passes kind (about_moves kind layers) (region parents object) (region parents from) (region parents to)

-- in no region objects may leave a directory or come to another
abbrev pub MovesNowhere : List ℕ → List (RulesOn ℕ) → Type 0
MovesNowhere parents layers = (to : ℕ) → to < length parents + 1 → passes (map (granting refer) layers) (region parents to) ≡ false

-- ---- what is moved

-- what an object is in; the root counts as in itself
abbrev pub parent_in : List ℕ → ℕ → ℕ
parent_in parents object = slice_index_or (0 ∷ parents) object 0

-- an object with rules may be moved itself as one of a kind, but not the root
abbrev pub may_be : (ℕ → Bool) → Kind → ℕ → Bool
may_be is_file kind object = not (object == 0) && (if is_dir kind then not (is_file object) else is_file object)

-- one policy lets an object be moved, and the other doesn't
abbrev pub moves_alone : (ℕ → ℕ → ℕ → Bool) → (ℕ → ℕ → ℕ → Bool) → ℕ → ℕ → ℕ → Bool
moves_alone one other object from to = one object from to && not (other object from to)

-- an object without rules in the region of a directory
abbrev pub beneath_alone : (ℕ → Bool) → (ℕ → ℕ → ℕ → Bool) → (ℕ → ℕ → ℕ → Bool) → ℕ → ℕ → Bool
beneath_alone is_file one other to directory = not (is_file directory) && moves_alone one other directory directory to

-- an object with rules itself
abbrev pub itself_alone : (ℕ → Bool) → List ℕ → Kind → (ℕ → ℕ → ℕ → Bool) → (ℕ → ℕ → ℕ → Bool) → ℕ → ℕ → Bool
itself_alone is_file parents kind one other to object = may_be is_file kind object && moves_alone one other object (parent_in parents object) to

-- what one policy alone lets be moved to a region
pub record TellsMovers (is_file : ℕ → Bool) (parents : List ℕ) (kind : Kind) (one other : ℕ → ℕ → ℕ → Bool) (to : ℕ) (found : Movers) : Type 0 where
  pub beneath : found.beneath.items ≡ filter (beneath_alone is_file one other to) (range_with_len 0 (length parents + 1))
  pub themselves : found.themselves.items ≡ filter (itself_alone is_file parents kind one other to) (range_with_len 0 (length parents + 1))

-- ---- what is found

-- nothing may be moved to a region
abbrev pub NoneComes : (ℕ → ℕ → ℕ → Bool) → ℕ → Type 0
NoneComes test to = (object from : ℕ) → test object from to ≡ false

-- what each policy alone lets be moved to a region, if either lets something be
pub record TellsMoved (is_file : ℕ → Bool) (parents : List ℕ) (kind : Kind) (before after : ℕ → ℕ → ℕ → Bool) (to : ℕ) (found : MovedTo) : Type 0 where
  pub new : TellsMovers is_file parents kind after before to found.new
  pub old : TellsMovers is_file parents kind before after to found.old

pub record TellsMovedTo (is_file : ℕ → Bool) (parents : List ℕ) (kind : Kind) (before after : ℕ → ℕ → ℕ → Bool) (to : ℕ) (found : Option MovedTo) : Type 0 where
  pub file : is_file to ≡ true → found ≡ None
  pub directory : is_file to ≡ false → MatchOption found (NoneComes before to × NoneComes after to) (TellsMoved is_file parents kind before after to)

-- what is found of moves of objects of a kind, by the regions that they come to: all, if the right to make one is asked about
abbrev pub TellsMoves : Fs → (ℕ → Bool) → List ℕ → List (RulesOn ℕ) → List (RulesOn ℕ) → Kind → Vec (Option MovedTo) Global → Type 0
TellsMoves asked is_file parents old new kind found =
    AllZip (TellsMovedTo is_file parents kind (lets_move parents kind old) (lets_move parents kind new))
    (range_with_len 0 (if has asked (make_right_of kind) then length parents + 1 else 0)) found.items
