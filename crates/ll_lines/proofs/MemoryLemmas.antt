-- What was read unless memory ran out, cause by cause: no other proof has a row for each cause.
use Rattle.std.proofs.Common.{◌≡◌, refl}
use Rattle.std.specs.Prelude.{◌≢◌}
use Rattle.ll_lines.specs.declared.fault.Cause.{Cause}
use Rattle.ll_lines.specs.declared.fault.Cause.TheVariants.{Json, Field, BadPath, NoParent, Twice, TooMany, UnknownProcess, Memory}
use Rattle.ll_lines.specs.Readers.{IsUnlessMemory}

-- what follows from what was read
pub unless-map : {X Y : Type 0} (cause : Cause) (a b : X) (c d : Y) → (a ≡ b → c ≡ d) → IsUnlessMemory cause a b → IsUnlessMemory cause c d
unless-map Memory a b c d f is = tt
unless-map Json a b c d f is = f is
unless-map Field a b c d f is = f is
unless-map BadPath a b c d f is = f is
unless-map NoParent a b c d f is = f is
unless-map Twice a b c d f is = f is
unless-map TooMany a b c d f is = f is
unless-map UnknownProcess a b c d f is = f is

-- and this was read where memory did not run out
pub unless-other : {X : Type 0} (cause : Cause) (a b : X) → cause ≢ Memory → IsUnlessMemory cause a b → a ≡ b
unless-other Memory a b other = λ _. absurd (other refl)
unless-other Json a b other = λ is. is
unless-other Field a b other = λ is. is
unless-other BadPath a b other = λ is. is
unless-other NoParent a b other = λ is. is
unless-other Twice a b other = λ is. is
unless-other TooMany a b other = λ is. is
unless-other UnknownProcess a b other = λ is. is
