-- What a tree of forks has, read as a function from keys to values, and which entries it has.
-- Source: none; the maps of this program alone.
use Rattle.std.specs.Prelude.{◌≡◌, ℕ, ◌+◌, ◌/◌, ◌%◌, ◌^◌, List, [], ◌∷◌, ◌++◌, map, Option, Some, None, ◌==◌, if◌then◌else◌}
use Rattle.ll_shared.specs.Levels.{agree, whole}
use Rattle.ll_shared.specs.declared.node.Node.{Node}
use Rattle.ll_shared.specs.declared.node.Node.TheVariants.{Empty, Leaf, Fork'}
use Rattle.ll_shared.specs.declared.node.Four.{Four}

-- that one of the four which a key's two lowest bits choose
abbrev pub chosen : {X : Type 0} → ℕ → X → X → X → X → X
chosen key zero one two three = if key % 4 == 0 then zero else if key % 4 == 1 then one else if key % 4 == 2 then two else three

-- what is found behind so many levels, in which only the keys that have the bits of one are found
abbrev pub behind : {V : Type 0} → ℕ → ℕ → (ℕ → Option V) → ℕ → Option V
behind levels low inner key = if agree levels key low then inner (key / 4 ^ levels) else None

-- the value of a key
abbrev pub found : {V : Type 0} → Node V → ℕ → Option V
found Empty key = None
found (Leaf known value) key = if key == known then Some value else None
found (Fork' levels low p zero one two three) key =
    behind levels.count low (λ rest. chosen rest (found zero (rest / 4)) (found one (rest / 4)) (found two (rest / 4)) (found three (rest / 4))) key

-- the value of a key in a fork
abbrev pub found_in : {V : Type 0} → Four V → ℕ → Option V
found_in four key = chosen key (found four.zero (key / 4)) (found four.one (key / 4)) (found four.two (key / 4)) (found four.three (key / 4))

-- a bound on the calls that a look-up or a change takes
abbrev pub steps : {V : Type 0} → Node V → ℕ
steps Empty = 0
steps (Leaf known value) = 0
steps (Fork' levels low p zero one two three) = 2 + steps zero + steps one + steps two + steps three

-- the same bound at a fork
abbrev pub steps_in : {V : Type 0} → Four V → ℕ
steps_in four = 1 + steps four.zero + steps four.one + steps four.two + steps four.three

-- a copy has the same entries, at the same cost
pub record SameNode {V : Type 0} (node copy : Node V) : Type 0 where
  pub found : found copy ≡ found node
  pub steps : steps copy ≡ steps node

-- so does each of the four
pub record SameFour {V : Type 0} (four copy : Four V) : Type 0 where
  pub zero : SameNode four.zero copy.zero
  pub one : SameNode four.one copy.one
  pub two : SameNode four.two copy.two
  pub three : SameNode four.three copy.three

-- entries whose keys go on below with these two bits, and then the bits of one key in so many levels
abbrev pub under : {V : Type 0} → ℕ → ℕ → ℕ → List (ℕ × V) → List (ℕ × V)
under levels low bits entries = map (λ entry. (whole levels low bits entry.0, entry.1)) entries

-- all entries
abbrev pub entries : {V : Type 0} → Node V → List (ℕ × V)
entries Empty = []
entries (Leaf key value) = (key, value) ∷ []
entries (Fork' levels low p zero one two three) =
    under levels.count low 0 (entries zero) ++ under levels.count low 1 (entries one)
    ++ under levels.count low 2 (entries two) ++ under levels.count low 3 (entries three)
