-- Controls of sums from the highest power down: which number meets which reading, and in which order.
use mathlib.Core.Path.{◌≡◌, refl}
use mathlib.Core.List.{[], ◌∷◌}
use lib.IntN.{ℤ, pos, neg_ℤ, ◌+ℤ◌, ◌*ℤ◌}
use lib.ListN.{get_or}
use Rattle.polynomials.specs.Numbers.{ints}
use Rattle.polynomials.specs.Order.{below}
use Rattle.polynomials.specs.Group.{number}
use Rattle.polynomials.specs.Downward.{down, downward, row_weight}

-- four numbers 1, 2, 3, 4, each product one digit more: the last number comes first
abbrev digit : ℤ → ℤ → ℤ
digit a x = a *ℤ pos 10

highest-first : down ints digit (λ p. get_or (pos 1 ∷ pos 2 ∷ pos 3 ∷ pos 4 ∷ []) p (pos 0)) (pos 0) 3 0 ≡ pos 4321
unfolding down
highest-first = refl

-- 1 + 2u + 3v + 4uu + 5uv + 6vv at 10 and 100
exact-product : downward ints ◌*ℤ◌ 2 (number ints (pos 1 ∷ pos 2 ∷ pos 3 ∷ pos 4 ∷ pos 5 ∷ pos 6 ∷ [])) (pos 10) (pos 100) ≡ pos 65_721
unfolding down number below
exact-product = refl

-- numbers of 0, and a product that is always 7 too large: the rows come to 77, 7 and 0, the group to ((0 · 100 + 7) + 7) · 100 + 7 + 77
abbrev seven-off : ℤ → ℤ → ℤ
seven-off a x = a *ℤ x +ℤ pos 7

each-product : downward ints seven-off 2 (λ p q. pos 0) (pos 10) (pos 100) ≡ pos 1_484
unfolding down
each-product = refl

-- of 1 - 2u + 3v - 4uu + 5uv - 6vv at a reach of 10: 1 + 20 + 400 beside no v, 3 + 50 beside v, 6 beside vv, and nothing beside more
rows-weighed : (let l = pos 1 ∷ neg_ℤ (pos 2) ∷ pos 3 ∷ neg_ℤ (pos 4) ∷ pos 5 ∷ neg_ℤ (pos 6) ∷ [] in
    row_weight 2 l 10 0 ∷ row_weight 2 l 10 1 ∷ row_weight 2 l 10 2 ∷ row_weight 2 l 10 3 ∷ []) ≡ 421 ∷ 53 ∷ 6 ∷ 0 ∷ []
unfolding down number below
rows-weighed = refl
