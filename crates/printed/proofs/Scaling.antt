-- The scaling rule of a table.
--   scaling   where a test over all places behind the limits holds, each has a multiple of what its degree is scaled by
use mathlib.Core.Path.{◌≡◌}
use mathlib.Core.Bool.{Bool, true}
use mathlib.Core.List.{List}
use Prim.Native.Nat.{ℕ, ◌+◌, ◌*◌, ◌-◌, ◌%◌, ◌≤◌, ◌<◌}
use native.Mathlib.Omega.{arith}
use borrow.Author.Tests.{eqb-true}
use lib.Dec.{eqb}
use lib.IntN.{ℤ, pos, nat_abs}
use lib.ListN.{get_or}
use Rattle.layout.specs.Shape.{Shape, limits_length, block_length, table_length}
use Rattle.layout.specs.Limits.{every}
use Rattle.laws.proofs.Tests.{every-all}
use Rattle.printed.specs.Values.{Angles, scale_in}
use Rattle.printed.specs.Stored.{Multiple, degree_at}

module _ (S : Shape) (A : Angles) (t : List ℤ) where
  -- at the place j behind the limits
  abbrev pub is_multiple : ℕ → Bool
  is_multiple j = eqb (nat_abs (get_or t (limits_length S + j) (pos 0)) % scale_in A (degree_at S j)) 0

  pub scaling : every (block_length S * S.blocks) is_multiple ≡ true → (k : ℕ) → limits_length S ≤ k → k < table_length S
      → Multiple (scale_in A (degree_at S (k - limits_length S))) (get_or t k (pos 0))
  scaling tested k h b =
      let j = k - limits_length S in
      let e : limits_length S + j ≡ k = omega arith in
      rw e at (eqb-true (nat_abs (get_or t (limits_length S + j) (pos 0)) % scale_in A (degree_at S j)) 0 (every-all (block_length S * S.blocks) _ tested j (omega arith)))
