-- Facts that would fail if a definition said something else.
use mathlib.Core.Path.{◌≡◌, refl}
use mathlib.Core.List.{[], ◌∷◌, map}
use lib.IntN.{pos, neg_ℤ}
use Prim.Native.Nat.{◌+◌, ◌*◌}
use Rattle.printing.specs.Groups.{four, eight, pairs, packed}
use Rattle.printing.specs.Spell.{decimal, spell, written}

-- 0, 7, 10, 100, 909
few : map (λ n. spell (pos n)) (0 ∷ 7 ∷ 10 ∷ 100 ∷ 909 ∷ [])
    ≡ (48 ∷ []) ∷ (55 ∷ []) ∷ (49 ∷ 48 ∷ []) ∷ (49 ∷ 48 ∷ 48 ∷ []) ∷ (57 ∷ 48 ∷ 57 ∷ []) ∷ []
unfolding decimal
few = refl

-- -1, -10, -0
below-zero : map (λ n. spell (neg_ℤ (pos n))) (1 ∷ 10 ∷ 0 ∷ []) ≡ (45 ∷ 49 ∷ []) ∷ (45 ∷ 49 ∷ 48 ∷ []) ∷ (48 ∷ []) ∷ []
unfolding decimal
below-zero = refl

-- the greatest i64, 9223372036854775807
greatest : spell (pos 9_223_372_036_854_775_807)
    ≡ 57 ∷ 50 ∷ 50 ∷ 51 ∷ 51 ∷ 55 ∷ 50 ∷ 48 ∷ 51 ∷ 54 ∷ 56 ∷ 53 ∷ 52 ∷ 55 ∷ 55 ∷ 53 ∷ 56 ∷ 48 ∷ 55 ∷ []
unfolding decimal
greatest = refl

-- the least, -9223372036854775808
least : spell (neg_ℤ (pos 9_223_372_036_854_775_808))
    ≡ 45 ∷ 57 ∷ 50 ∷ 50 ∷ 51 ∷ 51 ∷ 55 ∷ 50 ∷ 48 ∷ 51 ∷ 54 ∷ 56 ∷ 53 ∷ 52 ∷ 55 ∷ 55 ∷ 53 ∷ 56 ∷ 48 ∷ 56 ∷ []
unfolding decimal
least = refl

-- -12 written behind two bytes, with one left
in_place : written (1 ∷ 2 ∷ 3 ∷ 4 ∷ 5 ∷ 6 ∷ []) 2 (spell (neg_ℤ (pos 12))) ≡ 1 ∷ 2 ∷ 45 ∷ 49 ∷ 50 ∷ 6 ∷ []
unfolding decimal
in_place = refl

-- 0042, 12340042, and the pairs 12 and 34
groups : (four 42 ≡ 48 ∷ 48 ∷ 52 ∷ 50 ∷ []) × (eight 12_340_042 ≡ 49 ∷ 50 ∷ 51 ∷ 52 ∷ 48 ∷ 48 ∷ 52 ∷ 50 ∷ []) × (pairs 1234 ≡ 12 + 65_536 * 34)
groups = (refl, refl, refl)

-- the first byte is the lowest
lowest-first : packed (1 ∷ 2 ∷ 3 ∷ []) ≡ 0x030201
lowest-first = refl
