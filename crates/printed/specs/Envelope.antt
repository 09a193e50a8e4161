-- Limits of readings, ends included.
use Rattle.std.specs.Prelude.{List, [], ◌∷◌, ℕ, ℤ, pos, neg_ℤ, ◌≤ℤ◌}

pub record Inclusive (lowest highest z : ℤ) : Type 0 where
  pub above : lowest ≤ℤ z
  pub below : z ≤ℤ highest

-- from -n to n, as a table has them
infix 80 ±◌
abbrev pub ±◌ : ℕ → List ℤ
± n = neg_ℤ (pos n) ∷ pos n ∷ []
