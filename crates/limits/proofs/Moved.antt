-- The moved limits as the code holds them, in the room for those of any model: the first numbers n of a table t, moved.
--   room_moved        they have the moved limits of the table
--   good-room-moved   of a table with good limits they are good where those are in range
use mathlib.Core.Path.{◌≡◌, sym, ◌∙◌, ap}
use mathlib.Core.Bool.{true, cond}
use mathlib.Core.List.{List}
use Prim.Native.Nat.{ℕ}
use native.Mathlib.Omega.{arith}
use lib.Dec.{eqb}
use lib.IntN.{ℤ, pos, ◌-ℤ◌}
use Rattle.polynomials.specs.Sum.{listed}
use Rattle.polynomials.proofs.Listed.{get_or-listed}
use Rattle.layout.specs.declared.Model.{Model}
use Rattle.layout.specs.Shape.{Shape, shape}
use Rattle.layout.specs.Numbers.{limits_room}
use Rattle.layout.specs.Limits.{all_in_range, good}
use Rattle.layout.specs.Moving.{owner, shift_at, moved_limit, moved_limits}
use Rattle.layout.proofs.Fine.{well-formed, few-limits}
use Rattle.laws.proofs.LimitLaws.{SameLimits, good-same}
use Rattle.laws.proofs.Moved.{get_or-moved_limits}
use Rattle.laws.proofs.SoundMoved.{moved-good-range}

module _ (m : Model) (i : ℕ) (s : ℤ) (n t : List ℤ) (same : SameLimits (shape m) n t) where
  abbrev S : Shape
  S = shape m

  pub room_moved : SameLimits S (listed limits_room (moved_limit S i s n)) (moved_limits S i s t)
  unfolding moved_limit
  room_moved =
      record {
        at = λ k h.
            get_or-listed limits_room (moved_limit S i s n) k (pos 0) (omega (arith, few-limits m)) ∙ ap (λ z. cond (eqb (owner S k) i) (z -ℤ shift_at S k s) z) (same.at k h) ∙ sym (get_or-moved_limits S i s t k h);
      }

  pub good-room-moved : good S t ≡ true → good S (listed limits_room (moved_limit S i s n)) ≡ all_in_range S (moved_limits S i s t)
  good-room-moved g = good-same room_moved (well-formed m).has-variable ∙ moved-good-range S i s t (well-formed m).has-variable g
