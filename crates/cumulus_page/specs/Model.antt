-- The printed model: the report's equations (1), (3) and (4) over (5) to (38), at whole readings in any unit of angle.
use Rattle.std.specs.Prelude.{cond, List, [], ◌∷◌, ℕ, ℤ, pos, ◌+ℤ◌, get_or}
use Rattle.std.specs.Int.Signed.{le_z}
use Rattle.layout.specs.Shape.{cumulus}
use Rattle.printed.specs.Notation.{Polynomial, ◌⊕◌}
use Rattle.printed.specs.Values.{Angles, scale_in, at}
use Rattle.cumulus_page.specs.Printed.{C-Xα-pre, C-Yα-pre, C-Zα-pre, C-lα-pre, C-mα-pre, C-nα-pre, C-Xη-pre, C-Yη-pre, C-Zη-pre, C-lη-pre, C-mη-pre, C-nη-pre, C-Xα-post, C-Yα-post, C-Zα-post, C-lα-post, C-mα-post, C-nα-post, C-Xη-post, C-Yη-post, C-Zη-post, C-lη-post, C-mη-post, C-nη-post, C-Xξ, C-Yξ, C-Zξ, C-lξ, C-mξ, C-nξ, C-Xζ, C-Yζ, C-Zζ, C-lζ, C-mζ, C-nζ}

-- ════ the six coefficients
pub record Coefficient : Type 0 where
  pub α-pre : Polynomial
  pub η-pre : Polynomial
  pub α-post : Polynomial
  pub η-post : Polynomial
  pub ξ : Polynomial
  pub ζ : Polynomial

abbrev pub C-X : Coefficient
C-X = record { α-pre = C-Xα-pre; η-pre = C-Xη-pre; α-post = C-Xα-post; η-post = C-Xη-post; ξ = C-Xξ; ζ = C-Xζ }

abbrev pub C-Y : Coefficient
C-Y = record { α-pre = C-Yα-pre; η-pre = C-Yη-pre; α-post = C-Yα-post; η-post = C-Yη-post; ξ = C-Yξ; ζ = C-Yζ }

abbrev pub C-Z : Coefficient
C-Z = record { α-pre = C-Zα-pre; η-pre = C-Zη-pre; α-post = C-Zα-post; η-post = C-Zη-post; ξ = C-Zξ; ζ = C-Zζ }

abbrev pub C-l : Coefficient
C-l = record { α-pre = C-lα-pre; η-pre = C-lη-pre; α-post = C-lα-post; η-post = C-lη-post; ξ = C-lξ; ζ = C-lζ }

abbrev pub C-m : Coefficient
C-m = record { α-pre = C-mα-pre; η-pre = C-mη-pre; α-post = C-mα-post; η-post = C-mη-post; ξ = C-mξ; ζ = C-mζ }

abbrev pub C-n : Coefficient
C-n = record { α-pre = C-nα-pre; η-pre = C-nη-pre; α-post = C-nα-post; η-post = C-nη-post; ξ = C-nξ; ζ = C-nζ }

abbrev pub coefficients : List Coefficient
coefficients = C-X ∷ C-Y ∷ C-Z ∷ C-l ∷ C-m ∷ C-n ∷ []

-- that of a block; of any block past the fifth it is the last
abbrev pub coefficient_at : ℕ → Coefficient
coefficient_at b = get_or coefficients b C-n

-- its polynomials by the groups of a block: low and high in α and η, then in β and ξ and in β and ζ
abbrev pub parts : Coefficient → List Polynomial
parts C = (C.α-pre ⊕ C.η-pre) ∷ (C.α-post ⊕ C.η-post) ∷ C.ξ ∷ C.ζ ∷ []

-- ════ their values: x has the readings of α, β, ξ, η and ζ, in this order, from 0 to 4
-- the last of the low piece is by the boundary 17.949° of (2)
abbrev pub milliradians : Angles
milliradians = record { radian = 1000; cut = 313 }

abbrev pub microradians : Angles
microradians = record { radian = 1_000_000; cut = 313_269 }

module _ (A : Angles) where
  -- (3)
  abbrev pub pre : Coefficient → (ℕ → ℤ) → ℤ
  pre C x = at cumulus A C.α-pre x +ℤ at cumulus A C.ξ x +ℤ at cumulus A C.η-pre x +ℤ at cumulus A C.ζ x

  -- (4)
  abbrev pub post : Coefficient → (ℕ → ℤ) → ℤ
  post C x = at cumulus A C.α-post x +ℤ at cumulus A C.ξ x +ℤ at cumulus A C.η-post x +ℤ at cumulus A C.ζ x

  -- (1)
  abbrev pub value_in : Coefficient → (ℕ → ℤ) → ℤ
  value_in C x = cond (le_z (x 0) (pos A.cut)) (pre C x) (post C x)

-- at whole milliradians, in units of 10⁻¹⁷
abbrev pub scale : ℕ → ℕ
scale = scale_in milliradians

abbrev pub model_value : Coefficient → (ℕ → ℤ) → ℤ
model_value = value_in milliradians

-- at whole microradians, in units of 10⁻²⁹
abbrev pub fine_value : Coefficient → (ℕ → ℤ) → ℤ
fine_value = value_in microradians
