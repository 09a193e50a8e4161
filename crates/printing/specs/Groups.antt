-- Digits in groups, with the zeros in front, and bytes as one word.
use Rattle.std.specs.Prelude.{◌≡◌, List, [], ◌∷◌, ◌++◌, ℕ, zero, suc, ◌+◌, ◌*◌, ◌/◌, ◌%◌, ◌<◌}

-- the last four digits of a number
abbrev pub four : ℕ → List ℕ
four n = (48 + n / 1000 % 10) ∷ (48 + n / 100 % 10) ∷ (48 + n / 10 % 10) ∷ (48 + n % 10) ∷ []

-- the last eight
abbrev pub eight : ℕ → List ℕ
eight n = four (n / 10000) ++ four (n % 10000)

-- a number of four digits as its two numbers of two, 16 bits apart, the first lowest
abbrev pub pairs : ℕ → ℕ
pairs n = n / 100 + 65536 * (n % 100)

-- two such numbers in one word, the first lowest
abbrev pub Paired : ℕ → ℕ → ℕ → Type 0
Paired word x y = (x < 10000) × (y < 10000) × (word ≡ pairs x + 4294967296 * pairs y)

-- bytes as a word, the first lowest
abbrev pub packed : List ℕ → ℕ
packed [] = 0
packed (b ∷ bytes) = b + 256 * packed bytes

-- the lowest n bytes of a word, one after the other
abbrev pub unpacked : ℕ → ℕ → List ℕ
unpacked zero w = []
unpacked (suc n) w = w % 256 ∷ unpacked n (w / 256)
