-- Equations (96) to (101) of the report, in its order and by its names: the longitudinal model. Numbers are printed without a power of ten.
-- C-Lα-low is the part of C_L in α up to 16.634°, C-Lα-high that above it, C-Lη the part in α and η, which has no pieces.
use Rattle.printed.specs.Notation.{Polynomial, one, α, η, ◌·◌, ◌², ◌³, ◌×10⁰◌, ◌⊕◌, ◌−◌, −◌}

-- ════ lift

-- (96), if α ≤ 16.634°
abbrev pub C-Lα-low : Polynomial
C-Lα-low = 0_017 ×10⁰ one ⊕ 5_234 ×10⁰ α ⊕ 1_985 ×10⁰ α ² − 30_060 ×10⁰ α ³

-- (96), else
abbrev pub C-Lα-high : Polynomial
C-Lα-high = 0_279 ×10⁰ one ⊕ 3_251 ×10⁰ α − 3_235 ×10⁰ α ² ⊕ 0_708 ×10⁰ α ³

-- (97): the printed −0.000 is zero
abbrev pub C-Lη : Polynomial
C-Lη = − 0_000 ×10⁰ one ⊕ 0_003 ×10⁰ α ⊕ 0_521 ×10⁰ η − 0_072 ×10⁰ α ² − 0_416 ×10⁰ α · η ⊕ 0_089 ×10⁰ η ² ⊕ 0_051 ×10⁰ α ³ ⊕ 0_039 ×10⁰ α ² · η − 0_293 ×10⁰ α · η ² − 0_479 ×10⁰ η ³

-- ════ drag

-- (98), if α ≤ 16.634°
abbrev pub C-Dα-low : Polynomial
C-Dα-low = 0_029 ×10⁰ one − 0_110 ×10⁰ α ⊕ 2_364 ×10⁰ α ² ⊕ 3_948 ×10⁰ α ³

-- (98), else
abbrev pub C-Dα-high : Polynomial
C-Dα-high = − 0_170 ×10⁰ one ⊕ 1_427 ×10⁰ α ⊕ 0_719 ×10⁰ α ² − 0_486 ×10⁰ α ³

-- (99)
abbrev pub C-Dη : Polynomial
C-Dη = 0_008 ×10⁰ one − 0_012 ×10⁰ α ⊕ 0_112 ×10⁰ η ⊕ 0_040 ×10⁰ α ² ⊕ 0_183 ×10⁰ α · η − 0_069 ×10⁰ η ² − 0_053 ×10⁰ α ³ − 0_043 ×10⁰ α ² · η − 0_070 ×10⁰ α · η ² − 0_628 ×10⁰ η ³

-- ════ pitching moment

-- (100), if α ≤ 16.634°
abbrev pub C-mα-low : Polynomial
C-mα-low = 0_117 ×10⁰ one − 1_475 ×10⁰ α ⊕ 8_475 ×10⁰ α ² − 32_729 ×10⁰ α ³

-- (100), else
abbrev pub C-mα-high : Polynomial
C-mα-high = 0_144 ×10⁰ one − 2_456 ×10⁰ α ⊕ 2_304 ×10⁰ α ² − 0_950 ×10⁰ α ³

-- (101)
abbrev pub C-mη : Polynomial
C-mη = 0_014 ×10⁰ one ⊕ 0_165 ×10⁰ α − 1_968 ×10⁰ η − 0_410 ×10⁰ α ² ⊕ 1_365 ×10⁰ α · η − 0_415 ×10⁰ η ² ⊕ 0_186 ×10⁰ α ³ − 0_144 ×10⁰ α ² · η ⊕ 0_948 ×10⁰ α · η ² ⊕ 1_356 ×10⁰ η ³
