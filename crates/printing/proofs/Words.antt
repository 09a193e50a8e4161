-- Words that hold several numbers side by side, and their digits as bytes. A mask takes the quotients of all of them out of one product.
--   hundreds-of-two                            two numbers of four digits divided by a hundred at once
--   unpacked-packed, four_bytes, eight-bytes   the lowest bytes of a word are those that it was made of
--   four_below, both_below, side_by_side       words of four and of eight digits fit 64 bits, and so do their products
--   hundreds-covered, split-pairs              the pairs of eight digits: what is taken away from their fours is there, and leaves the pairs
--   tens-covered, eight-word                   the word of eight digits from their pairs, in the same way
use mathlib.Core.Path.{◌≡◌, refl, sym, ap, ap₂, subst, ◌∙◌}
use mathlib.Core.List.{List, [], ◌∷◌, ◌++◌}
use Prim.Native.Nat.{ℕ, ◌+◌, ◌*◌, ◌-◌, ◌/◌, ◌%◌, ◌^◌, ◌<◌, ◌≤◌}
use native.Mathlib.Nat.{mod-lt, one-le-pow, div-add-mod'}
use native.Mathlib.Omega.{arith}
use lib.ListN.{length}
use lib.Bits.{bit_and, and_block, and_mask}
use Rattle.printing.specs.Groups.{four, eight, pairs, packed, unpacked}

-- ════ quotients of numbers side by side
-- a mask whose lowest part has k bits, of which j are set
part : (j k m above : ℕ) → 2 ^ j ≤ 2 ^ k → bit_and m (above * 2 ^ k + (2 ^ j - 1)) ≡ bit_and (m / 2 ^ k) above * 2 ^ k + m % 2 ^ k % 2 ^ j
part j k m above h =
    let some = one-le-pow k 2 (omega arith) in
    let least = one-le-pow j 2 (omega arith) in
    ap (λ x. bit_and x (above * 2 ^ k + (2 ^ j - 1))) (sym (div-add-mod' m (2 ^ k)))
    ∙ and_block k (m / 2 ^ k) above (m % 2 ^ k) (2 ^ j - 1) (mod-lt m some) (omega arith)
    ∙ ap (λ x. bit_and (m / 2 ^ k) above * 2 ^ k + x) (and_mask (m % 2 ^ k) j)

-- the hundredth of a number that stands 32 bits below others
hundredth : (x others above : ℕ) → x < 10000 → bit_and ((x + 4294967296 * others) * 5243 / 524288) (above * 4294967296 + 127) ≡ bit_and (others * 5243 / 524288) above * 4294967296 + x / 100
hundredth x others above h =
    let m : (x + 4294967296 * others) * 5243 / 524288 ≡ x / 100 + 8192 * (others * 5243) = omega arith in
    let upper : (x / 100 + 8192 * (others * 5243)) / 4294967296 ≡ others * 5243 / 524288 = omega arith in
    let lower : (x / 100 + 8192 * (others * 5243)) % 4294967296 % 128 ≡ x / 100 = omega arith in
    ap (λ n. bit_and n (above * 4294967296 + 127)) m
    ∙ part 7 32 (x / 100 + 8192 * (others * 5243)) above (omega arith)
    ∙ ap₂ (λ a b. bit_and a above * 4294967296 + b) upper lower

pub hundreds-of-two : (x y : ℕ) → x < 10000 → y < 10000 → bit_and ((x + 4294967296 * y) * 5243 / 524288) 545460846719 ≡ x / 100 + 4294967296 * (y / 100)
hundreds-of-two x y h l =
    let q : y * 5243 / 524288 ≡ y / 100 = omega arith in
    let small : y / 100 % 128 ≡ y / 100 = omega arith in
    hundredth x y 127 h
    ∙ ap (λ a. a * 4294967296 + x / 100) (and_mask (y * 5243 / 524288) 7 ∙ ap (λ a. a % 128) q ∙ small)
    ∙ omega arith

-- the tenth of a number that stands 16 bits below others
tenth : (x others above : ℕ) → x < 100 → bit_and ((x + 65536 * others) * 103 / 1024) (above * 65536 + 15) ≡ bit_and (others * 103 / 1024) above * 65536 + x / 10
tenth x others above h =
    let m : (x + 65536 * others) * 103 / 1024 ≡ x / 10 + 64 * (others * 103) = omega arith in
    let upper : (x / 10 + 64 * (others * 103)) / 65536 ≡ others * 103 / 1024 = omega arith in
    let lower : (x / 10 + 64 * (others * 103)) % 65536 % 16 ≡ x / 10 = omega arith in
    ap (λ n. bit_and n (above * 65536 + 15)) m
    ∙ part 4 16 (x / 10 + 64 * (others * 103)) above (omega arith)
    ∙ ap₂ (λ a b. bit_and a above * 65536 + b) upper lower

tens-of-four : (p q r s : ℕ) → p < 100 → q < 100 → r < 100 → s < 100 → bit_and ((p + 65536 * (q + 65536 * (r + 65536 * s))) * 103 / 1024) 4222189076152335 ≡ p / 10 + 65536 * (q / 10 + 65536 * (r / 10 + 65536 * (s / 10)))
tens-of-four p q r s hp hq hr hs =
    let last : s * 103 / 1024 ≡ s / 10 = omega arith in
    let small : s / 10 % 16 ≡ s / 10 = omega arith in
    tenth p (q + 65536 * (r + 65536 * s)) 64425492495 hp
    ∙ ap (λ a. a * 65536 + p / 10) (tenth q (r + 65536 * s) 983055 hq)
    ∙ ap (λ a. (a * 65536 + q / 10) * 65536 + p / 10) (tenth r s 15 hr)
    ∙ ap (λ a. ((a * 65536 + r / 10) * 65536 + q / 10) * 65536 + p / 10) (and_mask (s * 103 / 1024) 4 ∙ ap (λ a. a % 16) last ∙ small)
    ∙ omega arith

-- ════ the bytes of a word
abbrev pub Bytes : List ℕ → Type 0
Bytes [] = Unit {0}
Bytes (b ∷ bytes) = (b < 256) × Bytes bytes

bytes-append : (xs ys : List ℕ) → Bytes xs → Bytes ys → Bytes (xs ++ ys)
bytes-append [] ys h k = k
bytes-append (x ∷ xs) ys h k = (h.0, bytes-append xs ys h.1 k)

lowest : (b above : ℕ) → b < 256 → ((b + 256 * above) % 256 ≡ b) × ((b + 256 * above) / 256 ≡ above)
lowest b above h = (omega arith, omega arith)

pub unpacked-packed : (bytes rest : List ℕ) → Bytes bytes → unpacked (length bytes) (packed (bytes ++ rest)) ≡ bytes
unpacked-packed [] rest h = refl
unpacked-packed (b ∷ bytes) rest h =
    let l = lowest b (packed (bytes ++ rest)) h.0 in
    ap₂ ◌∷◌ l.0 (ap (unpacked (length bytes)) l.1 ∙ unpacked-packed bytes rest h.1)

digit : (n : ℕ) → 48 + n % 10 < 256
digit n = omega arith

pub four_bytes : (n : ℕ) → Bytes (four n)
four_bytes n = (digit (n / 1000), (digit (n / 100), (digit (n / 10), (digit n, tt))))

pub eight-bytes : (n : ℕ) → Bytes (eight n)
eight-bytes n = bytes-append (four (n / 10000)) (four (n % 10000)) (four_bytes (n / 10000)) (four_bytes (n % 10000))

-- ════ the digits of pairs as bytes
abbrev tens : ℕ → ℕ
tens n = n / 100 / 10 + 65536 * (n % 100 / 10)

pair : (x : ℕ) → x < 100 → 256 * x ≡ 2559 * (x / 10) + (x / 10 + 256 * (x % 10))
pair x h = omega arith

digits-word : (n : ℕ) → n < 10000 → 256 * pairs n + 808464432 ≡ 2559 * tens n + packed (four n)
digits-word n h =
    let a : n / 1000 % 10 ≡ n / 100 / 10 = omega arith in
    let c : n / 10 % 10 ≡ n % 100 / 10 = omega arith in
    let d : n % 10 ≡ n % 100 % 10 = omega arith in
    omega (arith, pair (n / 100) (omega arith), pair (n % 100) (omega arith))

four-covers : (n : ℕ) → 2559 * tens n ≤ 256 * pairs n
four-covers n = omega arith

-- ════ what fits 64 bits
four_below : (n : ℕ) → n < 10000 → pairs n < 6553600
four_below n h = omega arith

both_below : (x y : ℕ) → x < 10000 → y < 10000 → pairs x + 4294967296 * pairs y < 30000000000000000
both_below x y h l = omega (arith, four_below x h, four_below y l)

side_by_side : (x y : ℕ) → x < 10000 → y < 10000 → ((x + 4294967296 * y) * 5243 < 18446744073709551616) × (65536 * (x + 4294967296 * y) < 18446744073709551616)
side_by_side x y h l = (omega arith, omega arith)

-- ════ the pairs of eight digits: the numbers of the first four and of the last, side by side, and their hundreds
abbrev fours : ℕ → ℕ
fours n = 4294967296 * n - 42949672959999 * (n * 109951163 / 1099511627776)

abbrev hundreds : ℕ → ℕ
hundreds n = bit_and (fours n * 5243 / 524288) 545460846719

ten-thousandth : (n : ℕ) → n < 100000000 → n * 109951163 / 1099511627776 ≡ n / 10000
ten-thousandth n h = omega arith

-- x and y in one number, and their quotients taken out of it
taken_out : (x y h : ℕ) → h ≡ x / 100 + 4294967296 * (y / 100) → (6553599 * h ≤ 65536 * (x + 4294967296 * y)) × (65536 * (x + 4294967296 * y) - 6553599 * h ≡ pairs x + 4294967296 * pairs y)
taken_out x y h e = (omega arith, omega arith)

module _ (n : ℕ) (h : n < 100000000) where
  two-fours : fours n ≡ n / 10000 + 4294967296 * (n % 10000)
  two-fours = ap (λ x. 4294967296 * n - 42949672959999 * x) (ten-thousandth n h) ∙ omega arith

  two-hundreds : hundreds n ≡ n / 10000 / 100 + 4294967296 * (n % 10000 / 100)
  two-hundreds =
      ap (λ f. bit_and (f * 5243 / 524288) 545460846719) two-fours
      ∙ hundreds-of-two (n / 10000) (n % 10000) (omega arith) (omega arith)

  pub hundreds-covered : 6553599 * hundreds n ≤ 65536 * fours n
  hundreds-covered =
      subst
      (λ f. 6553599 * hundreds n ≤ 65536 * f)
      (sym two-fours)
      (taken_out (n / 10000) (n % 10000) (hundreds n) two-hundreds).0

  pub split-pairs : 65536 * fours n - 6553599 * hundreds n ≡ pairs (n / 10000) + 4294967296 * pairs (n % 10000)
  split-pairs =
      ap (λ f. 65536 * f - 6553599 * hundreds n) two-fours
      ∙ (taken_out (n / 10000) (n % 10000) (hundreds n) two-hundreds).1

-- ════ eight digits at once: x and y are the numbers of the first four and of the last
nest : (p q r s : ℕ) → p + 65536 * q + 4294967296 * (r + 65536 * s) ≡ p + 65536 * (q + 65536 * (r + 65536 * s))
nest p q r s = omega arith

covers : (a b s t : ℕ) → 2559 * s ≤ 256 * a → 2559 * t ≤ 256 * b → 2559 * (s + 4294967296 * t) ≤ 256 * (a + 4294967296 * b)
covers a b s t h l = omega arith

word : (a b s t u v : ℕ) → 2559 * s ≤ 256 * a → 2559 * t ≤ 256 * b → 256 * a + 808464432 ≡ 2559 * s + u → 256 * b + 808464432 ≡ 2559 * t + v
    → 256 * (a + 4294967296 * b) - 2559 * (s + 4294967296 * t) + 3472328296227680304 ≡ u + 4294967296 * v
word a b s t u v h l e f = omega arith

packed-eight : (a b c d e f g h : ℕ) → packed (a ∷ b ∷ c ∷ d ∷ []) + 4294967296 * packed (e ∷ f ∷ g ∷ h ∷ []) ≡ packed (a ∷ b ∷ c ∷ d ∷ e ∷ f ∷ g ∷ h ∷ [])
packed-eight a b c d e f g h = omega arith

module _ (x y : ℕ) (hx : x < 10000) (hy : y < 10000) where
  module _ (p : ℕ) (e : p ≡ pairs x + 4294967296 * pairs y) where
    tens-of-word : bit_and (p * 103 / 1024) 4222189076152335 ≡ tens x + 4294967296 * tens y
    tens-of-word =
        ap (λ m. bit_and (m * 103 / 1024) 4222189076152335) (e ∙ nest (x / 100) (x % 100) (y / 100) (y % 100))
        ∙ tens-of-four (x / 100) (x % 100) (y / 100) (y % 100) (omega arith) (omega arith) (omega arith) (omega arith)
        ∙ sym (nest (x / 100 / 10) (x % 100 / 10) (y / 100 / 10) (y % 100 / 10))

    pub tens-covered : 2559 * bit_and (p * 103 / 1024) 4222189076152335 ≤ 256 * p
    tens-covered =
        subst
        (λ m. m)
        (sym (ap₂ (λ t m. 2559 * t ≤ 256 * m) tens-of-word e))
        (covers (pairs x) (pairs y) (tens x) (tens y) (four-covers x) (four-covers y))

    pub eight-word : 256 * p - 2559 * bit_and (p * 103 / 1024) 4222189076152335 + 3472328296227680304 ≡ packed (four x ++ four y)
    eight-word =
        ap₂ (λ m t. 256 * m - 2559 * t + 3472328296227680304) e tens-of-word
        ∙ word
        (pairs x)
        (pairs y)
        (tens x)
        (tens y)
        (packed (four x))
        (packed (four y))
        (four-covers x)
        (four-covers y)
        (digits-word x hx)
        (digits-word y hy)
        ∙ packed-eight
        (48 + x / 1000 % 10)
        (48 + x / 100 % 10)
        (48 + x / 10 % 10)
        (48 + x % 10)
        (48 + y / 1000 % 10)
        (48 + y / 100 % 10)
        (48 + y / 10 % 10)
        (48 + y % 10)
