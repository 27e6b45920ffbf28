-- Two tables side by side: what one has under a number and the other hasn't, and what is said of both entries.
use Rattle.std.proofs.Common.{◌≡◌, ℕ, Bool, true, false, cond, Option, Some, None, refl}
use Rattle.std.specs.Prelude.{is_some, nat_eq}
use Rattle.std.specs.Map.{update}

module _ {A B : Type 0} (R : A → B → Type 0) where
  -- both are there and fit, or neither is there
  unfoldable pub Alike : Option A → Option B → Type 0
  Alike None None = Unit {0}
  Alike (Some a) (Some b) = R a b
  Alike None (Some b) = ⊥
  Alike (Some a) None = ⊥

  pub alike-some : (x : Option A) (y : Option B) → Alike x y → is_some y ≡ is_some x
  unfolding Alike
  alike-some None None fits = refl
  alike-some (Some a) (Some b) fits = refl
  alike-some None (Some b) fits = absurd fits
  alike-some (Some a) None fits = absurd fits

  either : (b : Bool) (x u : Option A) (y v : Option B) → Alike x y → Alike u v → Alike (cond b x u) (cond b y v)
  either true x u y v this that = this
  either false x u y v this that = that

  -- an entry is put or taken out in both
  pub alike-update : (f : ℕ → Option A) (g : ℕ → Option B) (k q : ℕ) (x : Option A) (y : Option B) → Alike x y → Alike (f q) (g q)
      → Alike (update nat_eq f k x q) (update nat_eq g k y q)
  alike-update f g k q x y this that = either (nat_eq k q) x (f q) y (g q) this that

pub alike-weaker : {A B : Type 0} (R Q : A → B → Type 0) → ((a : A) (b : B) → R a b → Q a b) → (x : Option A) (y : Option B) → Alike R x y → Alike Q x y
unfolding Alike
alike-weaker R Q then None None fits = tt
alike-weaker R Q then (Some a) (Some b) fits = then a b fits
alike-weaker R Q then None (Some b) fits = absurd fits
alike-weaker R Q then (Some a) None fits = absurd fits
