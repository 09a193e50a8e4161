-- Facts that would fail if a definition said something else: the boundary, the table's numbers, and values that another program worked out from the report.
use mathlib.Core.Path.{◌≡◌, refl}
use mathlib.Core.List.{List, [], ◌∷◌, map}
use Prim.Native.Nat.{ℕ, ◌*◌, ◌/◌}
use lib.IntN.{ℤ, pos, neg_ℤ, pow, one}
use lib.ListN.{get_or, take, drop, replicate}
use Rattle.polynomials.specs.Sum.{sum, listed}
use Rattle.polynomials.specs.Order.{powers, below}
use Rattle.polynomials.specs.Binomial.{choose}
use Rattle.polynomials.specs.Group.{number, term, evaluated, given, moved_number, replaced}
use Rattle.polynomials.specs.Groups.{total, total_weight, moved_group, longer}
use Rattle.layout.specs.Shape.{kinds_length, gtm}
use Rattle.layout.specs.Limits.{every, all_in_range, good}
use Rattle.layout.specs.Blocks.{low, high, groups, laid_out, chosen, coefficient}
use Rattle.layout.specs.Sound.{reach, within_cap}
use Rattle.layout.specs.Refusals.{first}
use Rattle.layout.specs.Reading.{readings, values, read_number}
use Rattle.layout.specs.Moving.{moved_limit, moved_limits, moved_block, joined, moved_table, move_number}
use Rattle.gtm_page.specs.Model.{milliradians}
use Rattle.gtm_page.specs.Published.{published}

-- 16.634° is between 290 and 291 milliradians, for every π from 3.141 to 3.142
boundary : map (λ π. 16_634 * π / 180_000) (3_141 ∷ 3_142 ∷ []) ≡ milliradians.cut ∷ milliradians.cut ∷ []
boundary = refl

-- ════ the table
limits-read : take 5 published ≡ neg_ℤ (pos 150) ∷ pos 290 ∷ pos 1000 ∷ neg_ℤ (pos 400) ∷ pos 400 ∷ []
unfolding published laid_out listed powers below
limits-read = refl

-- lift for low angles of attack: (96) and (97) together, 5.234 + 0.003 before α and -30.060 + 0.051 before ααα
low-lift : take 10 (drop 5 published)
    ≡ pos 1_700_000_000_000_000
    ∷ pos 523_700_000_000_000
    ∷ pos 52_100_000_000_000
    ∷ pos 191_300_000_000
    ∷ neg_ℤ (pos 41_600_000_000)
    ∷ pos 8_900_000_000
    ∷ neg_ℤ (pos 3_000_900_000)
    ∷ pos 3_900_000
    ∷ neg_ℤ (pos 29_300_000)
    ∷ neg_ℤ (pos 47_900_000)
    ∷ []
unfolding published laid_out listed powers below
low-lift = refl

-- the constants with which the groups begin, low and high of lift, drag and pitching moment
constants : map (λ k. get_or published k (pos 0)) (5 ∷ 15 ∷ 25 ∷ 35 ∷ 45 ∷ 55 ∷ [])
    ≡ pos 1_700_000_000_000_000
    ∷ pos 27_900_000_000_000_000
    ∷ pos 3_700_000_000_000_000
    ∷ neg_ℤ (pos 16_200_000_000_000_000)
    ∷ pos 13_100_000_000_000_000
    ∷ pos 15_800_000_000_000_000
    ∷ []
unfolding published laid_out listed powers below
constants = refl

-- ════ reads: lift, drag and pitching moment at alpha and eta, on both sides of the cut and at the ends among them
reads : map (λ x. values gtm published (readings x))
    ((pos 0 ∷ pos 0 ∷ [])
    ∷ (pos 100 ∷ pos 0 ∷ [])
    ∷ (pos 290 ∷ neg_ℤ (pos 400) ∷ [])
    ∷ (pos 291 ∷ neg_ℤ (pos 400) ∷ [])
    ∷ (neg_ℤ (pos 150) ∷ pos 400 ∷ [])
    ∷ (pos 57 ∷ neg_ℤ (pos 33) ∷ [])
    ∷ [])
    ≡ (pos 1_700_000_000_000_000 ∷ pos 3_700_000_000_000_000 ∷ pos 13_100_000_000_000_000 ∷ [])
    ∷ (pos 52_982_100_000_000_000 ∷ pos 5_273_500_000_000_000 ∷ pos 4_810_700_000_000_000 ∷ [])
    ∷ (pos 83_456_863_900_000_000 ∷ pos 26_011_407_500_000_000 ∷ pos 16_018_263_300_000_000 ∷ [])
    ∷ (pos 83_453_263_718_900_000 ∷ pos 26_200_386_203_100_000 ∷ pos 15_702_470_095_600_000 ∷ [])
    ∷ (neg_ℤ (pos 39_990_012_500_000_000) ∷ pos 8_012_537_500_000_000 ∷ neg_ℤ (pos 25_396_887_500_000_000) ∷ [])
    ∷ (pos 29_984_814_223_400_000 ∷ pos 3_448_539_239_200_000 ∷ pos 13_845_650_308_100_000 ∷ [])
    ∷ []
unfolding published laid_out sum listed powers below term evaluated total kinds_length groups chosen coefficient values pow one
reads = refl

-- the numbers given back with room for three
unfoldable gives : List ℤ → List ℤ → ℕ
unfolding published laid_out sum listed powers below term evaluated total_weight kinds_length every all_in_range good groups chosen coefficient within_cap first read_number
gives t x = read_number gtm t (readings x) (replicate 3 (pos 0))

-- alpha comes first and is refused by 11, eta by 14; a table of another aircraft's length by 1
refusals : map (gives published) ((pos 1000 ∷ pos 400 ∷ []) ∷ (pos 1001 ∷ pos 401 ∷ []) ∷ (pos 0 ∷ pos 401 ∷ []) ∷ (neg_ℤ (pos 151) ∷ pos 0 ∷ []) ∷ (pos 0 ∷ neg_ℤ (pos 401) ∷ []) ∷ []) ≡ 0 ∷ 11 ∷ 14 ∷ 11 ∷ 14 ∷ []
unfolding gives published laid_out listed powers below
refusals = refl

other_length : gives (replicate 311 (pos 0)) [] ∷ gives (replicate 64 (pos 0)) [] ∷ gives (replicate 66 (pos 0)) [] ∷ [] ≡ 1 ∷ 1 ∷ 1 ∷ []
unfolding gives
other_length = refl

-- ════ weights: lift, drag and pitching moment, low and high
weights : map (λ p. listed 3 (λ b. total_weight (coefficient gtm published b p) (reach gtm published p))) (low ∷ high ∷ [])
    ≡ (274_496_196_100_000_000 ∷ 49_150_607_500_000_000 ∷ 313_041_308_700_000_000 ∷ [])
    ∷ (808_117_600_000_000_000 ∷ 307_263_200_000_000_000 ∷ 680_266_400_000_000_000 ∷ [])
    ∷ []
unfolding published laid_out sum listed powers below term evaluated total_weight kinds_length groups chosen coefficient
weights = refl

-- ════ moves
-- the largest that are accepted, each followed by the next one, then out of range, and a variable that is none
unfoldable move_gives : ℕ → ℤ → ℕ
unfolding published laid_out sum listed powers below term evaluated total_weight longer kinds_length every all_in_range good groups chosen coefficient within_cap first moved_limit moved_limits move_number
move_gives i s = move_number gtm published i s (replicate 65 (pos 0))

largest : map (move_gives 0) (pos 577 ∷ pos 578 ∷ neg_ℤ (pos 507) ∷ neg_ℤ (pos 508) ∷ neg_ℤ (pos 1000) ∷ neg_ℤ (pos 1001) ∷ []) ≡ 0 ∷ 7 ∷ 0 ∷ 7 ∷ 7 ∷ 6 ∷ []
unfolding move_gives
largest = refl

largest-in-eta : map (move_gives 1) (pos 1533 ∷ pos 1534 ∷ neg_ℤ (pos 1533) ∷ neg_ℤ (pos 1534) ∷ []) ≡ 0 ∷ 7 ∷ 0 ∷ 7 ∷ []
unfolding move_gives
largest-in-eta = refl

no-third-variable : move_gives 2 (pos 0) ≡ 5
unfolding move_gives
no-third-variable = refl

-- by 35 in alpha: the limits, and lift for low angles of attack
moved : take 15 (moved_table gtm 0 (pos 35) published)
    ≡ neg_ℤ (pos 185) ∷ pos 255 ∷ pos 965 ∷ neg_ℤ (pos 400) ∷ pos 400
    ∷ pos 20_135_178_912_500_000
    ∷ pos 526_062_692_500_000
    ∷ pos 50_648_777_500_000
    ∷ neg_ℤ (pos 123_794_500_000)
    ∷ neg_ℤ (pos 41_327_000_000)
    ∷ pos 7_874_500_000
    ∷ neg_ℤ (pos 3_000_900_000)
    ∷ pos 3_900_000
    ∷ neg_ℤ (pos 29_300_000)
    ∷ neg_ℤ (pos 47_900_000)
    ∷ []
unfolding published laid_out sum listed powers below choose number term evaluated given moved_number replaced moved_group kinds_length groups moved_limit moved_limits moved_block joined moved_table pow one
moved = refl
