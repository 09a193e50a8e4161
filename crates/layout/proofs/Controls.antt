-- Facts that would fail if a definition said something else: the places and the groups of a Cumulus One table, and the limits, reaches, weights,
-- refusals, readings and moves of small tables that are worked by hand.
use mathlib.Core.Path.{◌≡◌, refl}
use mathlib.Core.Bool.{true, false}
use mathlib.Core.List.{List, [], ◌∷◌, ◌++◌, map}
use Prim.Native.Nat.{ℕ, suc, ◌-◌, ◌*◌, ◌<◌}
use native.Mathlib.Omega.{arith}
use lib.IntN.{ℤ, pos, neg_ℤ, pow, one}
use lib.ListN.{length, replicate, get_or, take, drop}
use Rattle.whole.specs.Down.{rounded_down}
use Rattle.polynomials.specs.Sum.{sum, listed}
use Rattle.polynomials.specs.Order.{powers, below, size}
use Rattle.polynomials.specs.Binomial.{choose}
use Rattle.polynomials.specs.Group.{number, term, evaluated, given, moved_number, replaced}
use Rattle.polynomials.specs.Groups.{total, total_weight, moved_group, longer}
use Rattle.layout.specs.Shape.{Shape, InVariables, WellFormed, own_at, shared_at, limits_length, lowest_place, highest_place, kinds_length, block_length, block_start, table_length, cumulus, gtm}
use Rattle.layout.specs.Numbers.{limits_size, block_size, table_size, pitch_size, side_size, variables_room, limits_room, reaches_room}
use Rattle.layout.specs.Limits.{every, longest_shift, all_in_range, good}
use Rattle.layout.specs.Blocks.{low, high, block, groups, laid_out, chosen, coefficient}
use Rattle.layout.specs.Sound.{reach, within_cap, light, sound, SoundTable}
use Rattle.layout.specs.Reaches.{listed_reaches, reaches_of}
use Rattle.std.specs.Prelude.{Ok, Err}
use Rattle.layout.specs.declared.refusals.Angle.TheVariants.{Alpha, Beta, Xi, Eta, Zeta}
use Rattle.layout.specs.declared.refusals.Refused.TheVariants.{WrongTable, WrongOutput, BadLimits, TooHeavy, NoVariable, LimitPast, MoveTooHeavy, Outside, NotFinite}
use Rattle.layout.specs.Refusals.{outside, place, given_back, first}
use Rattle.layout.specs.Publishing.{publish_number, publish_output}
use Rattle.layout.specs.Reading.{readings, inside, values, read_number, read_output}
use Rattle.layout.specs.Moving.{owner, joined, moved_limit, moved_limits, moved_block, moved_table, moved_state, move_light, move_number, move_output}
use Rattle.layout.specs.Many.{many_number, many_numbers, many_output}
use Rattle.layout.specs.Accepted.{ReadAccepted, MoveAccepted}

-- ════ the places of a Cumulus One table
lengths : limits_length cumulus ∷ block_length cumulus ∷ table_length cumulus ∷ [] ≡ 12 ∷ 50 ∷ 312 ∷ []
unfolding kinds_length below
lengths = refl

named : limits_size ∷ pitch_size ∷ side_size ∷ block_size ∷ table_size ∷ [] ≡ 12 ∷ size 3 ∷ size 4 ∷ 50 ∷ 312 ∷ []
unfolding below
named = refl

rooms : variables_room ∷ limits_room ∷ reaches_room ∷ [] ≡ 5 ∷ 12 ∷ 6 ∷ []
rooms = refl

refused-by : listed 5 (outside cumulus) ≡ 11 ∷ 12 ∷ 13 ∷ 14 ∷ 15 ∷ []
unfolding listed
refused-by = refl

refused-by-gtm : listed 2 (outside gtm) ≡ 11 ∷ 14 ∷ []
unfolding listed
refused-by-gtm = refl

angles-numbered : map place (Alpha ∷ Beta ∷ Xi ∷ Eta ∷ Zeta ∷ []) ≡ 0 ∷ 1 ∷ 2 ∷ 3 ∷ 4 ∷ []
angles-numbered = refl

-- an outcome of every kind
refusals-numbered : map given_back (Ok tt ∷ map Err (WrongTable ∷ WrongOutput ∷ BadLimits ∷ TooHeavy ∷ NoVariable ∷ LimitPast ∷ MoveTooHeavy ∷ Outside Alpha ∷ Outside Zeta ∷ NotFinite Alpha ∷ NotFinite Zeta ∷ []))
    ≡ 0 ∷ 1 ∷ 2 ∷ 3 ∷ 4 ∷ 5 ∷ 6 ∷ 7 ∷ 11 ∷ 15 ∷ 21 ∷ 25 ∷ []
refusals-numbered = refl

starts : map (block_start cumulus) (0 ∷ 1 ∷ 2 ∷ 3 ∷ 4 ∷ 5 ∷ []) ≡ 12 ∷ 62 ∷ 112 ∷ 162 ∷ 212 ∷ 262 ∷ []
unfolding kinds_length below
starts = refl

lowests : listed 5 (lowest_place cumulus) ≡ 0 ∷ 4 ∷ 6 ∷ 8 ∷ 10 ∷ []
unfolding listed
lowests = refl

highests : listed 5 (highest_place cumulus) ≡ 2 ∷ 5 ∷ 7 ∷ 9 ∷ 11 ∷ []
unfolding listed
highests = refl

-- alpha owns its cuts too
owners : listed 12 (owner cumulus) ≡ 0 ∷ 0 ∷ 0 ∷ 0 ∷ 1 ∷ 1 ∷ 2 ∷ 2 ∷ 3 ∷ 3 ∷ 4 ∷ 4 ∷ []
unfolding listed
owners = refl

-- X is alpha + 10 eta up to the cut and 100 alpha + 1000 eta above it, and in both 10^4 beta + 10^5 xi + 10^6 beta + 10^7 zeta
abbrev one_of_each : List ℤ
one_of_each =
    replicate 12 (pos 0)
    ++ (pos 0 ∷ pos 1 ∷ pos 10 ∷ replicate 7 (pos 0))
    ++ (pos 0 ∷ pos 100 ∷ pos 1_000 ∷ replicate 7 (pos 0))
    ++ (pos 0 ∷ pos 10_000 ∷ pos 100_000 ∷ replicate 12 (pos 0))
    ++ (pos 0 ∷ pos 1_000_000 ∷ pos 10_000_000 ∷ replicate 12 (pos 0))

-- alpha 2, beta 3, xi 4, eta 5 and zeta 6: 2 + 50, or 200 + 5000, beside 30000 + 400000 + 3000000 + 60000000
groups-read : map (λ p. total (coefficient cumulus one_of_each 0 p) (readings (pos 2 ∷ pos 3 ∷ pos 4 ∷ pos 5 ∷ pos 6 ∷ []))) (low ∷ high ∷ []) ≡ pos 63_430_052 ∷ pos 63_435_200 ∷ []
unfolding sum powers below term evaluated total kinds_length groups chosen coefficient pow one
groups-read = refl

-- ════ a small shape: two variables u and v, which are alpha and xi, and two blocks, each with a low and a high group of degree 1 and a number that counts in both pieces
abbrev small_shape : Shape
small_shape =
    record {
      variables = 2;
      name = λ i. 2 * i;
      has_fine_cut = false;
      blocks = 2;
      kinds = record { u = 0; v = 1; degree = 1 } ∷ record { u = 0; v = 1; degree = 1 } ∷ record { u = 1; v = 0; degree = 0 } ∷ [];
    }

-- its limits: lowest, cut and highest of u, lowest and highest of v
abbrev bounds : ℤ → ℤ → ℤ → ℤ → ℤ → List ℤ
bounds a c b d e = a ∷ c ∷ b ∷ d ∷ e ∷ []

-- at both ends of the range, the cut at the lowest, and lowest and highest of v equal: good;
-- a cut at the highest, or below the lowest; a lowest above its highest; then one limit after the other one past the range: not good
limits-good : map (good small_shape) (bounds (neg_ℤ (pos 2000)) (neg_ℤ (pos 2000)) (neg_ℤ (pos 1999)) (pos 2000) (pos 2000)
    ∷ bounds (neg_ℤ (pos 10)) (pos 20) (pos 20) (neg_ℤ (pos 5)) (pos 0)
    ∷ bounds (neg_ℤ (pos 10)) (neg_ℤ (pos 11)) (pos 20) (neg_ℤ (pos 5)) (pos 0)
    ∷ bounds (neg_ℤ (pos 10)) (pos 3) (pos 20) (pos 1) (pos 0)
    ∷ bounds (neg_ℤ (pos 2001)) (pos 3) (pos 20) (neg_ℤ (pos 5)) (pos 0)
    ∷ bounds (neg_ℤ (pos 10)) (pos 3) (pos 2001) (neg_ℤ (pos 5)) (pos 0)
    ∷ bounds (neg_ℤ (pos 10)) (pos 3) (pos 20) (neg_ℤ (pos 2001)) (pos 0)
    ∷ bounds (neg_ℤ (pos 10)) (pos 3) (pos 20) (neg_ℤ (pos 5)) (pos 2001)
    ∷ []) ≡ true ∷ replicate 7 false
unfolding every all_in_range good
limits-good = refl

-- of u below and above the cut, then of v
abbrev reaches : List ℤ → List ℕ
reaches t = reach small_shape t low 0 ∷ reach small_shape t high 0 ∷ reach small_shape t low 1 ∷ reach small_shape t high 1 ∷ []

-- -10 to -8 and -7 to 5, -5 to 0; 1 to 6 and 7 to 9, -1 to 4; 0 to 0 and 1 to 1, 0 to 0
reaches-worked : map reaches (bounds (neg_ℤ (pos 10)) (neg_ℤ (pos 8)) (pos 5) (neg_ℤ (pos 5)) (pos 0)
    ∷ bounds (pos 1) (pos 6) (pos 9) (neg_ℤ (pos 1)) (pos 4)
    ∷ bounds (pos 0) (pos 0) (pos 1) (pos 0) (pos 0)
    ∷ []) ≡ (10 ∷ 7 ∷ 5 ∷ 5 ∷ []) ∷ (6 ∷ 9 ∷ 4 ∷ 4 ∷ []) ∷ (1 ∷ 1 ∷ 1 ∷ 1 ∷ []) ∷ []
reaches-worked = refl

-- u from -10 to -8 and from -7 to 5, v from -5 to 0; there is room for six
reaches-listed : listed_reaches (reach small_shape (bounds (neg_ℤ (pos 10)) (neg_ℤ (pos 8)) (pos 5) (neg_ℤ (pos 5)) (pos 0))) ≡ 10 ∷ 7 ∷ 5 ∷ 1 ∷ 1 ∷ 1 ∷ []
unfolding listed
reaches-listed = refl

reaches-held : map (λ p. listed 2 (reaches_of (10 ∷ 7 ∷ 5 ∷ []) p)) (low ∷ high ∷ []) ≡ (10 ∷ 5 ∷ []) ∷ (7 ∷ 5 ∷ []) ∷ []
unfolding listed
reaches-held = refl

-- ════ the small shape with a fine cut, which stands behind the highest of u
abbrev fine_shape : Shape
fine_shape = record { variables = 2; name = λ i. 2 * i; has_fine_cut = true; blocks = 2; kinds = small_shape.kinds }

abbrev fine_bounds : ℤ → ℤ → ℤ → ℤ → ℤ → ℤ → List ℤ
fine_bounds a c b f d e = a ∷ c ∷ b ∷ f ∷ d ∷ e ∷ []

-- with u from -2000 to 2000: the cut c and the fine cut f
abbrev cuts : ℤ → ℤ → List ℤ
cuts c f = fine_bounds (neg_ℤ (pos 2000)) c (pos 2000) f (neg_ℤ (pos 5)) (pos 0)

-- the cut is the fine cut in whole ones, rounded down: first those that are, at both ends of what goes with the cut, then those next to them
fine-cuts-good : map (good fine_shape) (cuts (pos 3) (pos 3000)
    ∷ cuts (pos 3) (pos 3999)
    ∷ cuts (pos 0) (pos 0)
    ∷ cuts (neg_ℤ (pos 1)) (neg_ℤ (pos 1))
    ∷ cuts (neg_ℤ (pos 1)) (neg_ℤ (pos 1000))
    ∷ cuts (neg_ℤ (pos 2000)) (neg_ℤ (pos 2_000_000))
    ∷ cuts (pos 1999) (pos 1_999_999)
    ∷ cuts (pos 3) (pos 2999)
    ∷ cuts (pos 3) (pos 4000)
    ∷ cuts (pos 0) (neg_ℤ (pos 1))
    ∷ cuts (neg_ℤ (pos 1)) (pos 0)
    ∷ cuts (neg_ℤ (pos 1)) (neg_ℤ (pos 1001))
    ∷ []) ≡ replicate 7 true ++ replicate 5 false
unfolding every all_in_range good rounded_down
fine-cuts-good = refl

-- each piece has the cut and the number after it: -10 to -7 and -8 to 5; 1 to 7 and 6 to 9
fine-reaches : map (λ t. reach fine_shape t low 0 ∷ reach fine_shape t high 0 ∷ []) (fine_bounds (neg_ℤ (pos 10)) (neg_ℤ (pos 8)) (pos 5) (neg_ℤ (pos 7500)) (neg_ℤ (pos 5)) (pos 0)
    ∷ fine_bounds (pos 1) (pos 6) (pos 9) (pos 6000) (neg_ℤ (pos 1)) (pos 4)
    ∷ []) ≡ (10 ∷ 8 ∷ []) ∷ (7 ∷ 9 ∷ []) ∷ []
fine-reaches = refl

-- by 4 in u the fine cut goes by 4000, and by 4 in v it stays
fine_moved : map (λ i. moved_limits fine_shape i (pos 4) (fine_bounds (neg_ℤ (pos 10)) (pos 3) (pos 20) (pos 3700) (neg_ℤ (pos 5)) (pos 0))) (0 ∷ 1 ∷ [])
    ≡ fine_bounds (neg_ℤ (pos 14)) (neg_ℤ (pos 1)) (pos 16) (neg_ℤ (pos 300)) (neg_ℤ (pos 5)) (pos 0)
    ∷ fine_bounds (neg_ℤ (pos 10)) (pos 3) (pos 20) (pos 3700) (neg_ℤ (pos 9)) (neg_ℤ (pos 4))
    ∷ []
unfolding listed moved_limit moved_limits
fine_moved = refl

-- ════ reading and moving
-- limits -10, 3 and 20, and -5 and 0. Up to the cut 100 + 7 u - 2 v and 1 - u, above it 40 - u + 6 v and 2 + 3 u; 1000 and -500 are added in both
abbrev table : List ℤ
table =
    bounds (neg_ℤ (pos 10)) (pos 3) (pos 20) (neg_ℤ (pos 5)) (pos 0)
    ++ ((pos 100 ∷ pos 7 ∷ neg_ℤ (pos 2) ∷ []) ++ (pos 40 ∷ neg_ℤ (pos 1) ∷ pos 6 ∷ []) ++ pos 1000 ∷ [])
    ++ ((pos 1 ∷ neg_ℤ (pos 1) ∷ pos 0 ∷ []) ++ (pos 2 ∷ pos 3 ∷ pos 0 ∷ []) ++ neg_ℤ (pos 500) ∷ [])

blocks-taken : map (block small_shape table) (0 ∷ 1 ∷ [])
    ≡ (pos 100 ∷ pos 7 ∷ neg_ℤ (pos 2) ∷ pos 40 ∷ neg_ℤ (pos 1) ∷ pos 6 ∷ pos 1000 ∷ []) ∷ (pos 1 ∷ neg_ℤ (pos 1) ∷ pos 0 ∷ pos 2 ∷ pos 3 ∷ pos 0 ∷ neg_ℤ (pos 500) ∷ []) ∷ []
unfolding kinds_length below
blocks-taken = refl

-- at the cut 100 + 21 + 6 + 1000 and 1 - 3 - 500; one past it 40 - 4 - 18 + 1000 and 2 + 12 - 500
table-read : map (λ u. values small_shape table (readings (u ∷ neg_ℤ (pos 3) ∷ []))) (pos 3 ∷ pos 4 ∷ [])
    ≡ (pos 1127 ∷ neg_ℤ (pos 502) ∷ []) ∷ (pos 1018 ∷ neg_ℤ (pos 486) ∷ []) ∷ []
unfolding sum listed powers below term evaluated total kinds_length groups chosen coefficient values pow one
table-read = refl

-- by 4 in u: limits -14, -1 and 16; 128 + 7 u - 2 v and -3 - u, 36 - u + 6 v and 14 + 3 u
moved-in-u : moved_table small_shape 0 (pos 4) table
    ≡ bounds (neg_ℤ (pos 14)) (neg_ℤ (pos 1)) (pos 16) (neg_ℤ (pos 5)) (pos 0)
    ++ ((pos 128 ∷ pos 7 ∷ neg_ℤ (pos 2) ∷ []) ++ (pos 36 ∷ neg_ℤ (pos 1) ∷ pos 6 ∷ []) ++ pos 1000 ∷ [])
    ++ ((neg_ℤ (pos 3) ∷ neg_ℤ (pos 1) ∷ pos 0 ∷ []) ++ (pos 14 ∷ pos 3 ∷ pos 0 ∷ []) ++ neg_ℤ (pos 500) ∷ [])
unfolding sum listed powers below choose number term evaluated given moved_number replaced moved_group kinds_length groups laid_out moved_limit moved_limits moved_block joined moved_table pow one
moved-in-u = refl

-- by 2 in v: limits -7 and -2; 96 + 7 u - 2 v and 52 - u + 6 v
moved-in-v : moved_table small_shape 1 (pos 2) table
    ≡ bounds (neg_ℤ (pos 10)) (pos 3) (pos 20) (neg_ℤ (pos 7)) (neg_ℤ (pos 2))
    ++ ((pos 96 ∷ pos 7 ∷ neg_ℤ (pos 2) ∷ []) ++ (pos 52 ∷ neg_ℤ (pos 1) ∷ pos 6 ∷ []) ++ pos 1000 ∷ [])
    ++ ((pos 1 ∷ neg_ℤ (pos 1) ∷ pos 0 ∷ []) ++ (pos 2 ∷ pos 3 ∷ pos 0 ∷ []) ++ neg_ℤ (pos 500) ∷ [])
unfolding sum listed powers below choose number term evaluated given moved_number replaced moved_group kinds_length groups laid_out moved_limit moved_limits moved_block joined moved_table pow one
moved-in-v = refl

-- ════ weights against 9 × 10¹⁸
-- short of the cap by a, b, c and d are the numbers without a variable in the two pieces of the first block and of the second; u - 2 v is added in all four
abbrev heavy : List ℤ → ℕ → ℕ → ℕ → ℕ → List ℤ
heavy l a b c d = l ++ (piece a ++ piece b ++ pos 0 ∷ []) ++ (piece c ++ piece d ++ pos 0 ∷ [])
  where
    piece : ℕ → List ℤ
    piece n = pos (9_000_000_000_000_000_000 - n) ∷ pos 1 ∷ neg_ℤ (pos 2) ∷ []

-- u reaches 10 in the low piece and 7 in the high one, v 5
abbrev wide : List ℤ
wide = bounds (neg_ℤ (pos 10)) (neg_ℤ (pos 8)) (pos 5) (neg_ℤ (pos 5)) (pos 0)

-- 10 + 2 x 5 are added in the low piece and 7 + 2 x 5 in the high one: at the cap in all four, then one past it in one of them
weights-at-cap : map (light small_shape) (heavy wide 20 17 20 17 ∷ heavy wide 19 17 20 17 ∷ heavy wide 20 16 20 17 ∷ heavy wide 20 17 19 17 ∷ heavy wide 20 17 20 16 ∷ [])
    ≡ true ∷ replicate 4 false
unfolding sum powers below term evaluated total_weight kinds_length every groups chosen coefficient within_cap
weights-at-cap = refl

-- limits that are not good
abbrev turned : List ℤ
turned = bounds (neg_ℤ (pos 10)) (neg_ℤ (pos 8)) (pos 5) (pos 0) (neg_ℤ (pos 5))

sound-or-not : map (sound small_shape) (heavy wide 20 17 20 17 ∷ heavy wide 0 0 0 0 ∷ heavy turned 20 17 20 17 ∷ []) ≡ true ∷ false ∷ false ∷ []
unfolding sum powers below term evaluated total_weight kinds_length every all_in_range good groups chosen coefficient within_cap
sound-or-not = refl

-- ════ the numbers given back, and their order
-- readings at the limits are inside, one past them outside
ends-inside : map (λ u. inside small_shape wide (readings (u ∷ [])) 0) (neg_ℤ (pos 11) ∷ neg_ℤ (pos 10) ∷ pos 5 ∷ pos 6 ∷ []) ≡ false ∷ true ∷ true ∷ false ∷ []
ends-inside = refl

-- a variable that has no reading reads 0
no-reading : readings (pos 6 ∷ []) 1 ≡ pos 0
no-reading = refl

-- the numbers given back at an output of n numbers
unfoldable read_gives : List ℤ → List ℤ → ℕ → ℕ
unfolding sum listed powers below term evaluated total_weight kinds_length every all_in_range good groups chosen coefficient within_cap first read_number
read_gives t x n = read_number small_shape t (readings x) (replicate n (pos 0))

unfoldable move_gives : List ℤ → ℕ → ℤ → ℕ → ℕ
unfolding sum listed powers below term evaluated total_weight longer kinds_length every all_in_range good groups chosen coefficient within_cap first moved_limit moved_limits move_number
move_gives t i s n = move_number small_shape t i s (replicate n (pos 0))

-- each line mends what the line before is refused for, and leaves wrong whatever comes after it in the order
read-order : read_gives [] (pos 6 ∷ pos 1 ∷ []) 0
    ∷ read_gives (heavy turned 0 0 0 0) (pos 6 ∷ pos 1 ∷ []) 0
    ∷ read_gives (heavy turned 0 0 0 0) (pos 6 ∷ pos 1 ∷ []) 2
    ∷ read_gives (heavy wide 0 0 0 0) (pos 6 ∷ pos 1 ∷ []) 2
    ∷ read_gives (heavy wide 20 17 20 17) (pos 6 ∷ pos 1 ∷ []) 2
    ∷ read_gives (heavy wide 20 17 20 17) (pos 5 ∷ pos 1 ∷ []) 2
    ∷ read_gives (heavy wide 20 17 20 17) (pos 5 ∷ pos 0 ∷ []) 2
    ∷ []
    ≡ 1 ∷ 2 ∷ 3 ∷ 4 ∷ 11 ∷ 13 ∷ 0 ∷ []
unfolding read_gives
read-order = refl

-- by 1991 the lowest of u comes to -2001, and by 1990 to -2000; either is too heavy
move-order : move_gives [] 2 (pos 1991) 0
    ∷ move_gives (heavy turned 0 0 0 0) 2 (pos 1991) 0
    ∷ move_gives (heavy turned 0 0 0 0) 2 (pos 1991) 19
    ∷ move_gives (heavy turned 0 0 0 0) 0 (pos 1991) 19
    ∷ move_gives (heavy wide 0 0 0 0) 0 (pos 1991) 19
    ∷ move_gives (heavy wide 20 17 20 17) 0 (pos 1991) 19
    ∷ move_gives (heavy wide 20 17 20 17) 0 (pos 1990) 19
    ∷ move_gives (heavy wide 20 17 20 17) 0 (pos 0) 19
    ∷ []
    ≡ 1 ∷ 2 ∷ 5 ∷ 3 ∷ 4 ∷ 6 ∷ 7 ∷ 0 ∷ []
unfolding move_gives
move-order = refl

-- the lengths that a Cumulus One table asks for: 312 and 6 for a read, 312 twice for a move, and variables up to 4. Zeros are no good limits
lengths-asked : read_number cumulus (replicate 311 (pos 0)) (readings []) (replicate 6 (pos 0))
    ∷ read_number cumulus (replicate 312 (pos 0)) (readings []) (replicate 5 (pos 0))
    ∷ read_number cumulus (replicate 312 (pos 0)) (readings []) (replicate 6 (pos 0))
    ∷ move_number cumulus (replicate 312 (pos 0)) 4 (pos 0) (replicate 311 (pos 0))
    ∷ move_number cumulus (replicate 312 (pos 0)) 5 (pos 0) (replicate 312 (pos 0))
    ∷ move_number cumulus (replicate 312 (pos 0)) 4 (pos 0) (replicate 312 (pos 0))
    ∷ length (values cumulus [] (readings []))
    ∷ []
    ≡ 1 ∷ 2 ∷ 3 ∷ 2 ∷ 5 ∷ 3 ∷ 6 ∷ []
unfolding listed below kinds_length every all_in_range good first values read_number move_number
lengths-asked = refl

-- by -2 the limits of u come to -8, -6 and 7, so that it reaches 8 and 7, and with the size of the shift 10 and 9; v reaches 5 as before: at the cap
-- where 20 and 19 are short of it. Moved, the numbers would be lighter by 2; at the old reach of 10 the low piece would pass the cap
move-weights-u : map (λ t. move_gives t 0 (neg_ℤ (pos 2)) 19) (heavy wide 20 19 20 19 ∷ heavy wide 20 18 20 19 ∷ heavy wide 20 19 20 18 ∷ []) ≡ 0 ∷ 7 ∷ 7 ∷ []
unfolding move_gives
move-weights-u = refl

-- by 2 the limits of v come to -7 and -2, so that it reaches 7, and with the size of the shift 9; u reaches 10 and 7 as before: 10 + 2 x 9 and 7 + 2 x 9
move-weights-v : map (λ t. move_gives t 1 (pos 2) 19) (heavy wide 28 25 28 25 ∷ heavy wide 27 25 28 25 ∷ heavy wide 28 25 28 24 ∷ []) ≡ 0 ∷ 7 ∷ 7 ∷ []
unfolding move_gives
move-weights-v = refl

-- an answer takes the place of what the output had, and a refusal keeps it
read-output : map (λ u. read_output small_shape table (readings (u ∷ neg_ℤ (pos 3) ∷ [])) (pos 8 ∷ pos 9 ∷ [])) (pos 20 ∷ pos 21 ∷ []) ≡ (pos 1002 ∷ neg_ℤ (pos 438) ∷ []) ∷ (pos 8 ∷ pos 9 ∷ []) ∷ []
unfolding sum listed powers below term evaluated total total_weight kinds_length every all_in_range good groups chosen coefficient within_cap first values read_number read_output pow one
read-output = refl

move-output : map (λ i. get_or (move_output small_shape table i (pos 4) (replicate 19 (pos 8))) 0 (pos 0)) (0 ∷ 2 ∷ []) ≡ neg_ℤ (pos 14) ∷ pos 8 ∷ []
unfolding sum listed powers below choose number term evaluated given moved_number replaced total_weight moved_group longer kinds_length every all_in_range good groups laid_out chosen coefficient within_cap first moved_limit moved_limits moved_block joined moved_table move_number move_output pow one
move-output = refl

-- ════ places of groups, and how far a shift goes
-- in the block that starts at 12: the low and the high group, then those that count in both pieces
group-places : map (own_at cumulus 12) (0 ∷ 1 ∷ []) ∷ (shared_at cumulus 12 ∷ []) ∷ [] ≡ (12 ∷ 22 ∷ []) ∷ (32 ∷ []) ∷ []
unfolding below
group-places = refl

-- from one end of the range to the other
range-crossed : longest_shift ≡ 4000
range-crossed = refl

-- by 3 in the second: what the moved table reads where the old one read 20
state-moved : moved_state 1 (pos 3) (pos 10 ∷ pos 20 ∷ []) ≡ pos 10 ∷ pos 17 ∷ []
state-moved = refl

-- ════ what the records say, part by part
-- in two variables only where both are below two
both_below : InVariables 2 (record { u = 0; v = 2; degree = 1 } ∷ []) → ⊥
both_below h = omega arith

has_one : (S : Shape) → WellFormed S → 0 < S.variables
has_one S w = w.has-variable

sound-says : (S : Shape) (t : List ℤ) → SoundTable S t → (length t ≡ table_length S) × (sound S t ≡ true)
sound-says S t w = (w.long, w.is-sound)

read-says : (S : Shape) (t : List ℤ) (x : ℕ → ℤ) (out : List ℤ) → length t ≡ table_length S → length out ≡ S.blocks → good S t ≡ true → light S t ≡ true
    → ((i : ℕ) → i < S.variables → inside S t x i ≡ true) → ReadAccepted S t x out
read-says S t x out a b c d e = record { table = a; output = b; limits = c; weights = d; readings = e }

move-says : (S : Shape) (t : List ℤ) (i : ℕ) (s : ℤ) (out : List ℤ) → length t ≡ table_length S → length out ≡ table_length S → i < S.variables → good S t ≡ true → light S t ≡ true
    → all_in_range S (moved_limits S i s t) ≡ true → move_light S i s t ≡ true → MoveAccepted S t i s out
move-says S t i s out a b c d e f g = record { table = a; output = b; variable = c; limits = d; weights = e; moved-limits = f; moved-weights = g }

-- ════ publishing: with room for one number fewer, as many, and one more
publish-controls : map (publish_number (pos 1 ∷ pos 2 ∷ [])) (replicate 1 (pos 8) ∷ replicate 2 (pos 8) ∷ replicate 3 (pos 8) ∷ []) ≡ 2 ∷ 0 ∷ 2 ∷ []
unfolding publish_number first
publish-controls = refl

publish-outputs : map (publish_output (pos 1 ∷ pos 2 ∷ [])) (replicate 1 (pos 8) ∷ replicate 2 (pos 8) ∷ replicate 3 (pos 8) ∷ []) ≡ (pos 8 ∷ []) ∷ (pos 1 ∷ pos 2 ∷ []) ∷ (pos 8 ∷ pos 8 ∷ pos 8 ∷ []) ∷ []
unfolding publish_number publish_output first
publish-outputs = refl

-- ════ the GTM's shape: alpha and eta, and three blocks
gtm-lengths : limits_length gtm ∷ block_length gtm ∷ table_length gtm ∷ [] ≡ 5 ∷ 20 ∷ 65 ∷ []
unfolding kinds_length below
gtm-lengths = refl

gtm-starts : map (block_start gtm) (0 ∷ 1 ∷ 2 ∷ []) ≡ 5 ∷ 25 ∷ 45 ∷ []
unfolding kinds_length below
gtm-starts = refl

gtm-refused-by : listed 2 (outside gtm) ≡ 11 ∷ 14 ∷ []
unfolding listed
gtm-refused-by = refl

-- made up: alpha from -20 to 30 with the cut at 5, eta from -4 to 6, and the numbers 1 to 60
abbrev made_up : List ℤ
made_up = bounds (neg_ℤ (pos 20)) (pos 5) (pos 30) (neg_ℤ (pos 4)) (pos 6) ++ listed 60 (λ n. pos (suc n))

-- the numbers given back at an output of n numbers
unfoldable gtm_gives : ℤ → ℤ → ℕ → ℕ
unfolding sum listed powers below term evaluated total_weight kinds_length every all_in_range good groups chosen coefficient within_cap first read_number
gtm_gives a e n = read_number gtm made_up (readings (a ∷ e ∷ [])) (replicate n (pos 0))

-- at the highest readings, past alpha's, past eta's, past both, and with room for two
gtm-order : gtm_gives (pos 30) (pos 6) 3 ∷ gtm_gives (pos 31) (pos 6) 3 ∷ gtm_gives (pos 30) (pos 7) 3 ∷ gtm_gives (pos 31) (pos 7) 3 ∷ gtm_gives (pos 31) (pos 7) 2 ∷ [] ≡ 0 ∷ 11 ∷ 14 ∷ 11 ∷ 2 ∷ []
unfolding gtm_gives
gtm-order = refl

-- at the cut, and one past it
gtm-read : map (λ a. values gtm made_up (readings (a ∷ neg_ℤ (pos 3) ∷ []))) (pos 5 ∷ pos 6 ∷ [])
    ≡ (pos 491 ∷ pos 2291 ∷ pos 4091 ∷ [])
    ∷ (pos 2636 ∷ pos 5956 ∷ pos 9276 ∷ [])
    ∷ []
unfolding sum listed powers below term evaluated total kinds_length groups chosen coefficient values pow one
gtm-read = refl

-- by 7 in alpha, and by -2 in eta: the limits and the first block, and the last group
gtm-moved-in-alpha : (take 25 (moved_table gtm 0 (pos 7) made_up) ≡ neg_ℤ (pos 27) ∷ neg_ℤ (pos 2) ∷ pos 23 ∷ neg_ℤ (pos 4) ∷ pos 6 ∷ pos 2612 ∷ pos 1087 ∷ pos 430 ∷ pos 151 ∷ pos 117 ∷ pos 69 ∷ pos 7 ∷ pos 8 ∷ pos 9 ∷ pos 10 ∷ pos 6612 ∷ pos 2707 ∷ pos 1000 ∷ pos 371 ∷ pos 267 ∷ pos 149 ∷ pos 17 ∷ pos 18 ∷ pos 19 ∷ pos 20 ∷ [])
    × (drop 55 (moved_table gtm 0 (pos 7) made_up) ≡ pos 22612 ∷ pos 9187 ∷ pos 3280 ∷ pos 1251 ∷ pos 867 ∷ pos 469 ∷ pos 57 ∷ pos 58 ∷ pos 59 ∷ pos 60 ∷ [])
unfolding sum listed powers below choose number term evaluated given moved_number replaced moved_group kinds_length groups laid_out moved_limit moved_limits moved_block joined moved_table pow one
gtm-moved-in-alpha = (refl, refl)

gtm-moved-in-eta : (take 25 (moved_table gtm 1 (neg_ℤ (pos 2)) made_up) ≡ neg_ℤ (pos 20) ∷ pos 5 ∷ pos 30 ∷ neg_ℤ (pos 2) ∷ pos 8 ∷ neg_ℤ (pos 61) ∷ pos 28 ∷ pos 99 ∷ neg_ℤ (pos 12) ∷ neg_ℤ (pos 31) ∷ neg_ℤ (pos 54) ∷ pos 7 ∷ pos 8 ∷ pos 9 ∷ pos 10 ∷ neg_ℤ (pos 111) ∷ pos 58 ∷ pos 189 ∷ neg_ℤ (pos 22) ∷ neg_ℤ (pos 61) ∷ neg_ℤ (pos 104) ∷ pos 17 ∷ pos 18 ∷ pos 19 ∷ pos 20 ∷ [])
    × (drop 55 (moved_table gtm 1 (neg_ℤ (pos 2)) made_up) ≡ neg_ℤ (pos 311) ∷ pos 178 ∷ pos 549 ∷ neg_ℤ (pos 62) ∷ neg_ℤ (pos 181) ∷ neg_ℤ (pos 304) ∷ pos 57 ∷ pos 58 ∷ pos 59 ∷ pos 60 ∷ [])
unfolding sum listed powers below choose number term evaluated given moved_number replaced moved_group kinds_length groups laid_out moved_limit moved_limits moved_block joined moved_table pow one
gtm-moved-in-eta = (refl, refl)

-- ════ many states
-- (3, -3), (21, -3), (4, -3) and (3, 1): the second is outside in u, and the fourth in v
abbrev four_states : List ℤ
four_states = pos 3 ∷ neg_ℤ (pos 3) ∷ pos 21 ∷ neg_ℤ (pos 3) ∷ pos 4 ∷ neg_ℤ (pos 3) ∷ pos 3 ∷ pos 1 ∷ []

many-numbers : many_numbers small_shape table four_states (replicate 4 8) (replicate 8 (pos 9)) ≡ 0 ∷ 11 ∷ 0 ∷ 13 ∷ []
unfolding sum listed powers below term evaluated total_weight kinds_length every all_in_range good groups chosen coefficient within_cap first read_number many_number many_numbers
many-numbers = refl

many-output : many_output small_shape table four_states (replicate 4 8) (replicate 8 (pos 9)) ≡ pos 1127 ∷ neg_ℤ (pos 502) ∷ pos 0 ∷ pos 0 ∷ pos 1018 ∷ neg_ℤ (pos 486) ∷ pos 0 ∷ pos 0 ∷ []
unfolding sum listed powers below term evaluated total total_weight kinds_length every all_in_range good groups chosen coefficient within_cap first values read_number read_output joined many_number many_output pow one
many-output = refl

-- the numbers given back for m numbers of states, room for n states and an output of o numbers
unfoldable many_gives : List ℤ → ℕ → ℕ → ℕ → ℕ
unfolding sum listed powers below term evaluated total_weight kinds_length every all_in_range good groups chosen coefficient within_cap first many_number
many_gives t m n o = many_number small_shape t (replicate m (pos 0)) (replicate n 0) (replicate o (pos 0))

-- each line mends what the line before is refused for; two numbers a state and two of its output
many-order : many_gives [] 5 3 5
    ∷ many_gives (heavy turned 0 0 0 0) 5 3 6
    ∷ many_gives (heavy turned 0 0 0 0) 6 3 5
    ∷ many_gives (heavy turned 0 0 0 0) 6 2 6
    ∷ many_gives (heavy turned 0 0 0 0) 6 3 6
    ∷ many_gives (heavy wide 0 0 0 0) 6 3 6
    ∷ many_gives (heavy wide 20 17 20 17) 6 3 6
    ∷ many_gives (heavy wide 20 17 20 17) 0 0 0
    ∷ []
    ≡ 1 ∷ 2 ∷ 2 ∷ 2 ∷ 3 ∷ 4 ∷ 0 ∷ 0 ∷ []
unfolding many_gives
many-order = refl

-- a refusal leaves both
many-refused : many_numbers small_shape [] four_states (8 ∷ []) (pos 9 ∷ []) ≡ 8 ∷ []
unfolding below kinds_length first many_number many_numbers
many-refused = refl

many-refused-output : many_output small_shape [] four_states (8 ∷ []) (pos 9 ∷ []) ≡ pos 9 ∷ []
unfolding below kinds_length first many_number many_output
many-refused-output = refl
