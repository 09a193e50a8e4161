-- The envelope of the published table, in whole milliradians with the ends included, and how far its datums can be moved.
use Rattle.std.specs.Prelude.{[], ◌∷◌, ℕ, ℤ, pos, neg_ℤ, get_or}
use Rattle.printed.specs.Envelope.{Inclusive}

pub record Envelope (x : ℕ → ℤ) : Type 0 where
  pub alpha : Inclusive (neg_ℤ (pos 150)) (pos 1000) (x 0)
  pub eta : Inclusive (neg_ℤ (pos 400)) (pos 400) (x 1)

-- for alpha and eta, the sizes up to which every move of the published table is accepted
abbrev pub farthest_move : ℕ → ℕ
farthest_move i = get_or (500 ∷ 1500 ∷ []) i 0
