-- What is written behind what was written before, and so on to an end.
use Rattle.std.proofs.Common.{◌≡◌, List, ◌++◌, refl, append_assoc}

pub behind : {T : Type 0} (before first last a b : List T) → first ≡ before ++ a → last ≡ first ++ b → last ≡ before ++ (a ++ b)
behind before first last a b is-first is-last = rw (is-last, is-first, append_assoc before a b) refl
