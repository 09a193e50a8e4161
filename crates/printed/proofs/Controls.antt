-- Facts that would fail if a definition said something else: the notation, powers and values of monomials, groups and degrees.
use mathlib.Core.Path.{◌≡◌, refl}
use mathlib.Core.Bool.{true, false}
use mathlib.Core.List.{[], ◌∷◌, ◌++◌, map}
use lib.IntN as IntN
use lib.IntN.{pos, neg_ℤ, pow}
use Rattle.polynomials.specs.Order.{powers, below}
use Rattle.polynomials.specs.Sum.{listed}
use Rattle.layout.specs.Shape.{kinds_length, cumulus, gtm}
use Rattle.layout.specs.Blocks.{low, high}
use Rattle.layout.specs.Reading.{readings}
use Rattle.printed.specs.Notation.{Polynomial, one, α, β, ξ, η, ζ, ◌·◌, ◌², ◌³, ◌⁴, ◌×10⁻²◌, ◌×10⁻¹◌, ◌×10⁰◌, ◌×10¹◌, ◌×10²◌, ◌⊕◌, ◌−◌, −◌}
use Rattle.printed.specs.Values.{Angles, power_of, product, degree_in, monomial_at, scale_in, at, together}
use Rattle.printed.specs.Stored.{group, belongs, by_kind, degrees, degree_at}

-- ════ the notation: 2.566 × 10⁻², 10⁻¹, 1, 10 and 10² in units of 10⁻⁵
units :
    2_566 ×10⁻² α ⊕ 2_566 ×10⁻¹ α ⊕ 2_566 ×10⁰ α ⊕ 2_566 ×10¹ α ⊕ 2_566 ×10² α
    ≡ map (λ n. record { number = n; monomial = α }) (pos 2_566 ∷ pos 25_660 ∷ pos 256_600 ∷ pos 2_566_000 ∷ pos 25_660_000 ∷ [])
units = refl

-- a sign belongs to its own term
abbrev signs : Polynomial
signs = − 1_000 ×10⁻² one ⊕ 2_000 ×10⁻² α ² · η − 5_000 ×10⁻² α ³ ⊕ 8_000 ×10⁻² ξ ⁴ − 1_000 ×10⁻² α ² · η

signs-read : map (λ t. t.number) signs ≡ neg_ℤ (pos 1_000) ∷ pos 2_000 ∷ neg_ℤ (pos 5_000) ∷ pos 8_000 ∷ neg_ℤ (pos 1_000) ∷ []
signs-read = refl

-- each letter is an angle of its own: their powers of the angles 0 to 4
letters : map (λ a. map (power_of a) (0 ∷ 1 ∷ 2 ∷ 3 ∷ 4 ∷ [])) (α ∷ β ∷ ξ ∷ η ∷ ζ ∷ α ² · η ∷ [])
    ≡ (1 ∷ 0 ∷ 0 ∷ 0 ∷ 0 ∷ [])
    ∷ (0 ∷ 1 ∷ 0 ∷ 0 ∷ 0 ∷ [])
    ∷ (0 ∷ 0 ∷ 1 ∷ 0 ∷ 0 ∷ [])
    ∷ (0 ∷ 0 ∷ 0 ∷ 1 ∷ 0 ∷ [])
    ∷ (0 ∷ 0 ∷ 0 ∷ 0 ∷ 1 ∷ [])
    ∷ (2 ∷ 0 ∷ 0 ∷ 1 ∷ 0 ∷ [])
    ∷ []
letters = refl

-- ════ values
-- the variables of a shape by their names: alpha to zeta of the one, alpha and eta of the other
variables-named : listed 5 (degree_in cumulus (α ⁴ · β ³ · ξ ² · η)) ∷ listed 2 (degree_in gtm (α ⁴ · β ³ · ξ ² · η)) ∷ [] ≡ (4 ∷ 3 ∷ 2 ∷ 1 ∷ 0 ∷ []) ∷ (4 ∷ 1 ∷ []) ∷ []
unfolding listed
variables-named = refl

-- 2²·5 of five readings and 2²·7 of two: where beta would be read, there is none
monomials-read : monomial_at cumulus (α ² · η) (readings (pos 2 ∷ pos 3 ∷ pos 11 ∷ pos 5 ∷ pos 13 ∷ [])) ∷ monomial_at gtm (α ² · η) (readings (pos 2 ∷ pos 7 ∷ [])) ∷ [] ≡ pos 20 ∷ pos 28 ∷ []
unfolding product pow IntN.one
monomials-read = refl

abbrev milliradians : Angles
milliradians = record { radian = 1000; cut = 0 }

-- 0.01 - 0.05 α³ + 0.02 α η² at α = 2 and η = 3 milliradians: 10¹² × 1000 - 5000 × 8 × 1000 + 2000 × 18 × 1000 in units of 10⁻¹⁷
polynomial-read : at gtm milliradians (1_000 ×10⁻² one − 5_000 ×10⁻² α ³ ⊕ 2_000 ×10⁻² α · η ²) (readings (pos 2 ∷ pos 3 ∷ [])) ≡ pos 999_999_996_000_000
unfolding at product pow IntN.one
polynomial-read = refl

-- the low one, or the high one, with those behind them
counted-together : map (λ p. together p 0 (pos 1 ∷ pos 20 ∷ pos 300 ∷ pos 4000 ∷ [])) (low ∷ high ∷ []) ≡ pos 4301 ∷ pos 4320 ∷ []
counted-together = refl

-- ════ groups
-- terms with the same powers add up, and one with a letter of another group is not stored
same-powers : by_kind (λ k f. (group cumulus (scale_in milliradians) k f).numbers) cumulus.kinds (signs ∷ [])
    ≡ (neg_ℤ (pos 1_000_000_000_000_000) ∷ pos 0 ∷ pos 0 ∷ pos 0 ∷ pos 0 ∷ pos 0 ∷ neg_ℤ (pos 5_000_000) ∷ pos 1_000_000 ∷ pos 0 ∷ pos 0 ∷ []) ∷ []
unfolding listed powers below
same-powers = refl

-- a wrong letter, a degree too many, a letter of the other side, and nothing wrong
what-belongs : by_kind (belongs cumulus) cumulus.kinds (1_000 ×10⁻² α · ξ ∷ 1_000 ×10⁻² α ⁴ ∷ 1_000 ×10⁻² β · ζ ∷ 1_000 ×10⁻² β ³ · ζ ∷ [])
    ≡ false ∷ false ∷ false ∷ true ∷ []
what-belongs = refl

-- in a table of alpha and eta: letters that it has, one that it has not, and a degree too many
belongs-to-two : map (λ f. by_kind (belongs gtm) gtm.kinds (f ∷ [])) (1_000 ×10⁻² α ² · η ∷ 1_000 ×10⁻² β ∷ 1_000 ×10⁻² η ⁴ ∷ []) ≡ (true ∷ []) ∷ (false ∷ []) ∷ (false ∷ []) ∷ []
belongs-to-two = refl

-- ════ the scaling rule
degrees-read : degrees cumulus.kinds
    ≡ (0 ∷ 1 ∷ 1 ∷ 2 ∷ 2 ∷ 2 ∷ 3 ∷ 3 ∷ 3 ∷ 3 ∷ [])
    ++ (0 ∷ 1 ∷ 1 ∷ 2 ∷ 2 ∷ 2 ∷ 3 ∷ 3 ∷ 3 ∷ 3 ∷ [])
    ++ (0 ∷ 1 ∷ 1 ∷ 2 ∷ 2 ∷ 2 ∷ 3 ∷ 3 ∷ 3 ∷ 3 ∷ 4 ∷ 4 ∷ 4 ∷ 4 ∷ 4 ∷ [])
    ++ (0 ∷ 1 ∷ 1 ∷ 2 ∷ 2 ∷ 2 ∷ 3 ∷ 3 ∷ 3 ∷ 3 ∷ 4 ∷ 4 ∷ 4 ∷ 4 ∷ 4 ∷ [])
unfolding degrees listed powers below
degrees-read = refl

-- the first and the last of a group, then the same in the next group, in the next block and in the last one
degrees-come-again : map (degree_at gtm) (0 ∷ 9 ∷ 10 ∷ 20 ∷ 59 ∷ []) ≡ 0 ∷ 3 ∷ 0 ∷ 0 ∷ 3 ∷ []
unfolding degrees listed powers below kinds_length
degrees-come-again = refl
