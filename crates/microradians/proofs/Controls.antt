-- Facts that would fail if a definition said something else: products by hand, one group worked by hand, and answers of another program.
use mathlib.Core.Path.{◌≡◌, refl}
use mathlib.Core.List.{List, [], ◌∷◌, map}
use Prim.Native.Nat.{ℕ}
use lib.IntN.{ℤ, pos, neg_ℤ}
use lib.ListN.{replicate}
use Rattle.whole.specs.Nearest.{nearest_away}
use Rattle.polynomials.specs.Numbers.{ints}
use Rattle.polynomials.specs.Order.{below}
use Rattle.polynomials.specs.Sum.{listed}
use Rattle.polynomials.specs.Downward.{down, row_downward}
use Rattle.layout.specs.Refusals.{first}
use Rattle.layout.specs.Reading.{readings}
use Rattle.layout.specs.Shape.{cumulus, kind_at}
use Rattle.cumulus_page.specs.Model.{C-X}
use Rattle.microradians.specs.Fixed.{◌⊛◌, nano}
use Rattle.microradians.specs.Groups.{part_at}
use Rattle.microradians.specs.Answer.{fine_limits, fine_answers, fine_number, fine_output}
use Rattle.microradians.proofs.Held.{value_at}
use Rattle.microradians.proofs.Slack.{products, multiplications}

-- ════ products: 0.5 and -0.5 units go away from zero, less than that to 0
halves : map (λ r. pos 1_000 ⊛ r) (pos 499 ∷ pos 500 ∷ pos 1_499 ∷ pos 1_500 ∷ neg_ℤ (pos 499) ∷ neg_ℤ (pos 500) ∷ neg_ℤ (pos 1_500) ∷ [])
    ≡ pos 0 ∷ pos 1 ∷ pos 1 ∷ pos 2 ∷ pos 0 ∷ neg_ℤ (pos 1) ∷ neg_ℤ (pos 2) ∷ []
unfolding nearest_away
halves = refl

-- 9 + 14 + 14
counts : map multiplications (3 ∷ 4 ∷ []) ≡ 9 ∷ 14 ∷ []
unfolding products
counts = refl

-- ════ one group by hand: X in α and η of the low piece, (5) and (11), at α = 123456 and η = -345678
abbrev hand : ℕ → ℤ
hand = readings (pos 123_456 ∷ pos 0 ∷ pos 0 ∷ neg_ℤ (pos 345_678) ∷ [])

-- before 1, α, α² and α³ stand -2.566 × 10⁻², 5.722 × 10⁻¹, 1.496 and -1.148 × 10
hand-numbers : map (λ p. nano (kind_at cumulus 0) (part_at C-X 0) p 0) (0 ∷ 1 ∷ 2 ∷ 3 ∷ []) ≡ neg_ℤ (pos 25_660_000) ∷ pos 572_200_000 ∷ pos 1_496_000_000 ∷ neg_ℤ (pos 11_480_000_000) ∷ []
unfolding below
hand-numbers = refl

-- the rows of η³, η², η and 1, with 0, 1, 2 and 3 products
hand-rows : map (row_downward ints ◌⊛◌ 3 (nano (kind_at cumulus 0) (part_at C-X 0)) (hand 0)) (3 ∷ 2 ∷ 1 ∷ 0 ∷ [])
    ≡ pos 73_310_000 ∷ neg_ℤ (pos 56_382_355) ∷ neg_ℤ (pos 6_630_338) ∷ pos 46_181_403 ∷ []
unfolding down nearest_away below
hand-rows = refl

-- and the group with three more: -25341654 - 56382355 is -81724009, then 28250192 - 6630338 is 21619854, then -7473508 + 46181403
hand-group : value_at C-X hand 0 ≡ pos 38_707_895
unfolding down nearest_away below
hand-group = refl

-- ════ limits: the envelope times 1000, and the cut; what stands in the place of a fine cut is not read
limits-read : fine_limits
    ≡ neg_ℤ (pos 150_000)
    ∷ pos 313_269
    ∷ pos 1_000_000
    ∷ pos 313_269_000
    ∷ neg_ℤ (pos 500_000)
    ∷ pos 500_000
    ∷ neg_ℤ (pos 200_000)
    ∷ pos 200_000
    ∷ neg_ℤ (pos 400_000)
    ∷ pos 400_000
    ∷ neg_ℤ (pos 500_000)
    ∷ pos 500_000
    ∷ []
limits-read = refl

-- ════ six answers at each of seven states, worked out by another program
states : List (List ℤ)
states =
    (pos 100_000 ∷ [])
    ∷ (pos 313_269 ∷ [])
    ∷ (pos 313_270 ∷ [])
    ∷ (pos 986_250 ∷ pos 275_000 ∷ [])
    ∷ (pos 123_456 ∷ neg_ℤ (pos 234_567) ∷ pos 98_765 ∷ neg_ℤ (pos 345_678) ∷ pos 456_789 ∷ [])
    ∷ (pos 777_250 ∷ neg_ℤ (pos 452_250) ∷ [])
    ∷ (pos 1_000_000 ∷ pos 500_000 ∷ pos 200_000 ∷ pos 400_000 ∷ pos 500_000 ∷ [])
    ∷ []

answered : map (λ s. fine_answers (readings s)) states
    ≡ (pos 35_040_000 ∷ pos 17_614_000 ∷ neg_ℤ (pos 849_040_000) ∷ pos 13_956_000 ∷ neg_ℤ (pos 135_070_000) ∷ pos 13_521_000 ∷ [])
    ∷ (neg_ℤ (pos 52_528_358) ∷ pos 1_049_476 ∷ neg_ℤ (pos 1_059_595_465) ∷ pos 3_169_128 ∷ neg_ℤ (pos 437_826_762) ∷ pos 4_403_466 ∷ [])
    ∷ (neg_ℤ (pos 52_464_656) ∷ neg_ℤ (pos 1_843_189) ∷ neg_ℤ (pos 1_059_569_731) ∷ pos 3_222_793 ∷ neg_ℤ (pos 438_115_341) ∷ pos 4_673_898 ∷ [])
    ∷ (neg_ℤ (pos 38_909_358) ∷ neg_ℤ (pos 113_694_579) ∷ neg_ℤ (pos 1_809_706_485) ∷ neg_ℤ (pos 15_331_352) ∷ neg_ℤ (pos 899_157_001) ∷ pos 14_490_818 ∷ [])
    ∷ (pos 18_215_201 ∷ neg_ℤ (pos 58_922_062) ∷ neg_ℤ (pos 909_067_621) ∷ neg_ℤ (pos 116_455_093) ∷ pos 19_791_441 ∷ neg_ℤ (pos 88_522_496) ∷ [])
    ∷ (neg_ℤ (pos 46_220_247) ∷ pos 141_777_663 ∷ neg_ℤ (pos 1_617_199_901) ∷ pos 15_657_130 ∷ neg_ℤ (pos 766_848_339) ∷ neg_ℤ (pos 22_038_410) ∷ [])
    ∷ (neg_ℤ (pos 120_453_380) ∷ neg_ℤ (pos 299_970_255) ∷ neg_ℤ (pos 1_728_037_880) ∷ neg_ℤ (pos 153_779_245) ∷ neg_ℤ (pos 837_660_105) ∷ neg_ℤ (pos 25_375_140) ∷ [])
    ∷ []
unfolding states nearest_away down below
answered = refl

-- ════ the refusals, in their order
given : map (λ s. fine_number (readings s) (replicate 6 (pos 7))) ((pos 1_000_000 ∷ []) ∷ (pos 1_000_001 ∷ pos 500_001 ∷ []) ∷ (neg_ℤ (pos 150_001) ∷ []) ∷ (pos 0 ∷ pos 500_001 ∷ []) ∷ (pos 0 ∷ pos 0 ∷ pos 0 ∷ pos 0 ∷ neg_ℤ (pos 500_001) ∷ []) ∷ []) ≡ 0 ∷ 11 ∷ 11 ∷ 12 ∷ 15 ∷ []
unfolding fine_number first listed
given = refl

too_short : (fine_number (readings (pos 1_000_001 ∷ [])) (replicate 5 (pos 7)) ≡ 2) × (fine_output (readings (pos 1_000_001 ∷ [])) (replicate 5 (pos 7)) ≡ replicate 5 (pos 7))
unfolding fine_number fine_output first listed
too_short = (refl, refl)
