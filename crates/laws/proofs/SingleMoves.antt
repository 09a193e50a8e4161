-- Single moves of one table, up to a size for each variable.
--   near_enough     a test of a variable: the table is light where it reaches as far as the moves take it, and its limits stay in range
--   single-moves   where it holds of every variable, all these moves are accepted
use mathlib.Core.Path.{◌≡◌, refl, ◌∙◌}
use mathlib.Core.Bool.{Bool, true, false, cond, ◌&&◌, ◌||◌}
use mathlib.Core.List.{List}
use Prim.Native.Nat.{ℕ, ◌+◌, ◌*◌, ◌≤◌, ◌<◌}
use native.Mathlib.Omega.{arith}
use borrow.Author.Tests.{leb-true}
use lib.Dec.{eqb, leb}
use lib.IntN.{ℤ, pos, nat_abs, ◌-ℤ◌}
use lib.ListN.{length, get_or}
use Rattle.whole.proofs.Magnitudes.{nat_abs--}
use Rattle.polynomials.specs.Groups.{longer}
use Rattle.layout.specs.Shape.{Shape, WellFormed, limits_length, table_length}
use Rattle.layout.specs.Limits.{every, is_fine_cut, farthest_limit, all_in_range}
use Rattle.layout.specs.Sound.{reach, within_cap, SoundTable}
use Rattle.layout.specs.Refusals.{done}
use Rattle.layout.specs.Moving.{owner, moved_limits, move_number}
use Rattle.laws.proofs.Tests.{&&-left, &&-right, every-all}
use Rattle.laws.proofs.LimitLaws.{asked, within-range}
use Rattle.laws.proofs.Moved.{placed, get_or-moved_limits}
use Rattle.laws.proofs.NearMoves.{light-near}
use Rattle.laws.proofs.Refused.{move-done}
use Rattle.laws.proofs.Accepted.{sound-limits, sound-weights}

module _ (S : Shape) (t : List ℤ) where
  -- by moves of variable i up to the size n
  abbrev light_near : ℕ → ℕ → Bool
  light_near i n = within_cap S t (λ p. longer i (2 * n) (reach S t p))

  abbrev limit_near : ℕ → ℕ → ℕ → Bool
  limit_near i n k = is_fine_cut S k || leb (nat_abs (get_or t k (pos 0)) + cond (eqb (owner S k) i) n 0) farthest_limit

  abbrev pub near_enough : (ℕ → ℕ) → ℕ → Bool
  near_enough sizes i = light_near i (sizes i) && every (limits_length S) (limit_near i (sizes i))

  moved-near : (b : Bool) (a s : ℤ) (n : ℕ) → nat_abs s ≤ n → nat_abs a + cond b n 0 ≤ farthest_limit → nat_abs (cond b (a -ℤ s) a) ≤ farthest_limit
  moved-near true a s n h l = omega (arith, nat_abs-- a s)
  moved-near false a s n h l = omega arith

  range-near : (i : ℕ) (s : ℤ) (n : ℕ) → nat_abs s ≤ n → every (limits_length S) (limit_near i n) ≡ true → all_in_range S (moved_limits S i s t) ≡ true
  range-near i s n h e =
      within-range S (moved_limits S i s t) (λ k l f.
      let near = asked (is_fine_cut S k) (every-all (limits_length S) _ e k l) f in
      rw (get_or-moved_limits S i s t k l ∙ placed S i s t k (owner S k) false refl f) (moved-near (eqb (owner S k) i) (get_or t k (pos 0)) s n h (leb-true _ farthest_limit near)))

  pub single-moves : WellFormed S → SoundTable S t → (sizes : ℕ → ℕ) → every S.variables (near_enough sizes) ≡ true → (i : ℕ) (s : ℤ) → i < S.variables → nat_abs s ≤ sizes i
      → (out : List ℤ) → length out ≡ table_length S → move_number S t i s out ≡ done
  single-moves w a sizes e i s h l out room =
      let near = every-all S.variables _ e i h in
      let light = &&-left (light_near i (sizes i)) (every (limits_length S) (limit_near i (sizes i))) near in
      let range = &&-right (light_near i (sizes i)) (every (limits_length S) (limit_near i (sizes i))) near in
      move-done S t i s out a.long room h (sound-limits a) (sound-weights a) (range-near i s (sizes i) l range) (light-near S i s t (sizes i) l w.in-variables light)
