-- The printed model: lift, drag and pitching moment over the report's equations (96) to (101), at whole milliradians.
use Rattle.std.specs.Prelude.{cond, List, [], ◌∷◌, ℕ, ℤ, pos, ◌+ℤ◌}
use Rattle.std.specs.Int.Signed.{le_z}
use Rattle.layout.specs.Shape.{gtm}
use Rattle.printed.specs.Notation.{Polynomial, ◌⊕◌}
use Rattle.printed.specs.Values.{Angles, at}
use Rattle.gtm_page.specs.Printed.{C-Lα-low, C-Lα-high, C-Lη, C-Dα-low, C-Dα-high, C-Dη, C-mα-low, C-mα-high, C-mη}

-- ════ the three coefficients
pub record Coefficient : Type 0 where
  pub α-low : Polynomial
  pub α-high : Polynomial
  pub η : Polynomial

abbrev pub C-L : Coefficient
C-L = record { α-low = C-Lα-low; α-high = C-Lα-high; η = C-Lη }

abbrev pub C-D : Coefficient
C-D = record { α-low = C-Dα-low; α-high = C-Dα-high; η = C-Dη }

abbrev pub C-m : Coefficient
C-m = record { α-low = C-mα-low; α-high = C-mα-high; η = C-mη }

abbrev pub coefficients : List Coefficient
coefficients = C-L ∷ C-D ∷ C-m ∷ []

-- its polynomials by the groups of a block, low and high: the one in α and η goes into both
abbrev pub parts : Coefficient → List Polynomial
parts C = (C.α-low ⊕ C.η) ∷ (C.α-high ⊕ C.η) ∷ []

-- ════ their values, in units of 10⁻¹⁷: x has the readings of α and η, 0 and 1
-- the last of the low piece is by the boundary 16.634°
abbrev pub milliradians : Angles
milliradians = record { radian = 1000; cut = 290 }

-- the part in α: (96), (98), (100)
abbrev pub alpha_part : Coefficient → (ℕ → ℤ) → ℤ
alpha_part C x = cond (le_z (x 0) (pos milliradians.cut)) (at gtm milliradians C.α-low x) (at gtm milliradians C.α-high x)

-- and with it the part in α and η: (97), (99), (101)
abbrev pub model_value : Coefficient → (ℕ → ℤ) → ℤ
model_value C x = alpha_part C x +ℤ at gtm milliradians C.η x
