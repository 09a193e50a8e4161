-- Controls of a group's value, weight and moves, worked by hand.
use mathlib.Core.Path.{◌≡◌, refl}
use mathlib.Core.List.{List, [], ◌∷◌}
use lib.IntN.{ℤ, pos, negsuc, pow, one}
use Rattle.polynomials.specs.Sum.{sum, listed}
use Rattle.polynomials.specs.Order.{powers, below}
use Rattle.polynomials.specs.Binomial.{choose}
use Rattle.polynomials.specs.Group.{number, term, evaluated, given, moved_number, replaced, value, weight, moved}
use Rattle.polynomials.specs.declared.Variable.TheVariants.{First, Second}

-- 2 - 3 u + 5 v + 7 u² - 11 u v + 13 v²
sample : List ℤ
sample = pos 2 ∷ negsuc 2 ∷ pos 5 ∷ pos 7 ∷ negsuc 10 ∷ pos 13 ∷ []

-- at (3, -2): 2 - 9 - 10 + 63 + 66 + 52
sample-value : value sample (pos 3) (negsuc 1) ≡ pos 164
unfolding sample evaluated term sum powers pow one
sample-value = refl

-- at reaches 3 and 2 every term counts with its magnitude: 2 + 9 + 10 + 63 + 66 + 52
sample-weight : weight sample 3 2 ≡ 202
unfolding sample evaluated term sum powers
sample-weight = refl

-- u + 1 for u: the constant gains -3 + 7, u gains 14, v loses 11
sample-first : moved First (pos 1) sample ≡ pos 6 ∷ pos 11 ∷ negsuc 5 ∷ pos 7 ∷ negsuc 10 ∷ pos 13 ∷ []
unfolding sample replaced listed moved_number given number sum powers below choose pow one
sample-first = refl

-- v - 2 for v: the constant gains -10 + 52, u gains 22, v loses 52
sample-second : moved Second (negsuc 1) sample ≡ pos 44 ∷ pos 19 ∷ negsuc 46 ∷ pos 7 ∷ negsuc 10 ∷ pos 13 ∷ []
unfolding sample replaced listed moved_number given number sum powers below choose pow one
sample-second = refl

-- u³ with u + 2 for u: 8 + 12 u + 6 u² + u³
cube : List ℤ
cube = pos 0 ∷ pos 0 ∷ pos 0 ∷ pos 0 ∷ pos 0 ∷ pos 0 ∷ pos 1 ∷ pos 0 ∷ pos 0 ∷ pos 0 ∷ []

cube-moved : moved First (pos 2) cube ≡ pos 8 ∷ pos 12 ∷ pos 0 ∷ pos 6 ∷ pos 0 ∷ pos 0 ∷ pos 1 ∷ pos 0 ∷ pos 0 ∷ pos 0 ∷ []
unfolding cube replaced listed moved_number given number sum powers below choose pow one
cube-moved = refl

-- u v³ with v - 1 for v, degree 4: -u + 3 u v - 3 u v² + u v³
mixed : List ℤ
mixed = pos 0 ∷ pos 0 ∷ pos 0 ∷ pos 0 ∷ pos 0 ∷ pos 0 ∷ pos 0 ∷ pos 0 ∷ pos 0 ∷ pos 0 ∷ pos 0 ∷ pos 0 ∷ pos 0 ∷ pos 1 ∷ pos 0 ∷ []

mixed-moved : moved Second (negsuc 0) mixed ≡ pos 0 ∷ negsuc 0 ∷ pos 0 ∷ pos 0 ∷ pos 3 ∷ pos 0 ∷ pos 0 ∷ pos 0 ∷ negsuc 2 ∷ pos 0 ∷ pos 0 ∷ pos 0 ∷ pos 0 ∷ pos 1 ∷ pos 0 ∷ []
unfolding mixed replaced listed moved_number given number sum powers below choose pow one
mixed-moved = refl

-- no power of v, at a reading of 0: 0⁰ counts as 1
constant : value (pos 9 ∷ []) (pos 0) (pos 0) ≡ pos 9
unfolding evaluated term sum powers pow one
constant = refl
