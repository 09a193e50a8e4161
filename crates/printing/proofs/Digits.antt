-- The decimal digits of a number, from its quotient and remainder by ten.
--   decimal-one, decimal-more   a number below ten, and from ten on
--   decimal-two, decimal-three, decimal-four, decimal-eight   a number of so many digits
--   two-behind, four-behind, eight-behind      a number of more digits than so many
--   length-behind               dividing by a power of ten takes as many digits away
--   length-between              how many digits a number between two powers of ten has
--   decimal-short               how many digits a number below a power of ten has at most
--   decimal-fits, spell-fits    how many bytes a number of 64 bits has at most
use mathlib.Core.Path.{◌≡◌, refl, sym, ap, ap₂, ◌∙◌}
use mathlib.Core.List.{[], ◌∷◌, ◌++◌, append_assoc}
use mathlib.Core.Bool.{Bool, true, false}
use Prim.Native.Nat.{ℕ, zero, suc, ◌+◌, ◌/◌, ◌%◌, ◌^◌, ◌<◌, ◌≤◌}
use native.Mathlib.Nat.{pow-suc, pow-succ', one-le-pow, div-one, div-lt_iff_lt-mul, div-div-eq-div-mul}
use native.Mathlib.Omega.{arith}
use borrow.Author.Tests.{leb-true, leb-false}
use lib.Dec.{leb}
use lib.IntN.{ℤ, pos, negsuc}
use lib.ListN.{length, length-append}
use mir.Syntax.{w64}
use mir.Val.{SFits}
use Rattle.printing.specs.Groups.{four, eight}
use Rattle.printing.specs.Spell.{digits, decimal, spell, longest_number}

-- any bound that is large enough gives the same digits
digits-turns : (f g n : ℕ) → n ≤ f → n ≤ g → digits f n ≡ digits g n
digits-turns zero zero n h k = refl
digits-turns zero (suc g) zero h k = refl
digits-turns zero (suc g) (suc n) h k = absurd (omega arith)
digits-turns (suc f) zero zero h k = refl
digits-turns (suc f) zero (suc n) h k = absurd (omega arith)
digits-turns (suc f) (suc g) zero h k = refl
digits-turns (suc f) (suc g) (suc n) h k =
    ap (λ ds. ds ++ (48 + suc n % 10) ∷ []) (digits-turns f g (suc n / 10) (omega arith) (omega arith))

digits-none : (turns : ℕ) → digits turns 0 ≡ []
digits-none zero = refl
digits-none (suc turns) = refl

pub decimal-one : (n : ℕ) → n < 10 → decimal n ≡ (48 + n % 10) ∷ []
unfolding decimal
decimal-one zero h = refl
decimal-one (suc n) h =
    let none : suc n / 10 ≡ 0 = omega arith in
    ap (λ q. digits n q ++ (48 + suc n % 10) ∷ []) none ∙ ap (λ ds. ds ++ (48 + suc n % 10) ∷ []) (digits-none n)

behind : (m q : ℕ) → 0 < q → q ≤ m → digits m q ≡ decimal q
unfolding decimal
behind m zero h l = absurd (omega arith)
behind m (suc q) h l = digits-turns m (suc q) (suc q) l (omega arith)

pub decimal-more : (n : ℕ) → 10 ≤ n → decimal n ≡ decimal (n / 10) ++ (48 + n % 10) ∷ []
unfolding decimal
decimal-more zero h = absurd (omega arith)
decimal-more (suc n) h = ap (λ ds. ds ++ (48 + suc n % 10) ∷ []) (behind n (suc n / 10) (omega arith) (omega arith))

pub length-one : (n : ℕ) → n < 10 → length (decimal n) ≡ 1
length-one n h = ap length (decimal-one n h)

pub length_more : (n : ℕ) → 10 ≤ n → length (decimal n) ≡ length (decimal (n / 10)) + 1
length_more n h = ap length (decimal-more n h) ∙ length-append (decimal (n / 10)) ((48 + n % 10) ∷ [])

-- a digit more, by the quotient and the digit as they are written down
last : (n q d : ℕ) → 10 ≤ n → q ≡ n / 10 → d ≡ n % 10 → decimal n ≡ decimal q ++ (48 + d) ∷ []
last n q d h e f = decimal-more n h ∙ ap₂ (λ (m r : ℕ). decimal m ++ (48 + r) ∷ []) (sym e) (sym f)

pub decimal-two : (n : ℕ) → 10 ≤ n → n < 100 → decimal n ≡ (48 + n / 10) ∷ (48 + n % 10) ∷ []
decimal-two n h l =
    decimal-more n h
    ∙ ap (λ ds. ds ++ (48 + n % 10) ∷ []) (decimal-one (n / 10) (omega arith) ∙ ap (λ d. (48 + d) ∷ []) (omega arith))

pub two-behind : (n : ℕ) → 100 ≤ n → decimal n ≡ decimal (n / 100) ++ (48 + n % 100 / 10) ∷ (48 + n % 10) ∷ []
two-behind n h =
    last n (n / 10) (n % 10) (omega arith) (omega arith) (omega arith)
    ∙ ap (λ ds. ds ++ (48 + n % 10) ∷ []) (last (n / 10) (n / 100) (n % 100 / 10) (omega arith) (omega arith) (omega arith))
    ∙ append_assoc (decimal (n / 100)) ((48 + n % 100 / 10) ∷ []) ((48 + n % 10) ∷ [])

pub decimal-three : (n : ℕ) → 100 ≤ n → n < 1000 → decimal n ≡ (48 + n / 100) ∷ (48 + n % 100 / 10) ∷ (48 + n % 100 % 10) ∷ []
decimal-three n h l =
    two-behind n h
    ∙ ap (λ ds. ds ++ (48 + n % 100 / 10) ∷ (48 + n % 10) ∷ []) (decimal-one (n / 100) (omega arith))
    ∙ ap₂ (λ a b. (48 + a) ∷ (48 + n % 100 / 10) ∷ (48 + b) ∷ []) (omega arith) (omega arith)

pub four-behind : (n : ℕ) → 10000 ≤ n → decimal n ≡ decimal (n / 10000) ++ four (n % 10000)
four-behind n h =
    let e : decimal (n / 100) ≡ decimal (n / 10000) ++ (48 + n % 10000 / 1000 % 10) ∷ (48 + n % 10000 / 100 % 10) ∷ [] =
    two-behind (n / 100) (omega arith)
    ∙ ap (λ q. decimal q ++ (48 + n / 100 % 100 / 10) ∷ (48 + n / 100 % 10) ∷ []) (omega arith)
    ∙ ap₂ (λ a b. decimal (n / 10000) ++ (48 + a) ∷ (48 + b) ∷ []) (omega arith) (omega arith)
    in
    two-behind n (omega arith)
    ∙ ap₂ (λ a b. decimal (n / 100) ++ (48 + a) ∷ (48 + b) ∷ []) (omega arith) (omega arith)
    ∙ ap (λ ds. ds ++ (48 + n % 10000 / 10 % 10) ∷ (48 + n % 10000 % 10) ∷ []) e
    ∙ append_assoc (decimal (n / 10000)) ((48 + n % 10000 / 1000 % 10) ∷ (48 + n % 10000 / 100 % 10) ∷ []) ((48 + n % 10000 / 10 % 10) ∷ (48 + n % 10000 % 10) ∷ [])

pub eight-behind : (n : ℕ) → 100000000 ≤ n → decimal n ≡ decimal (n / 100000000) ++ eight (n % 100000000)
eight-behind n h =
    let quotient : n / 10000 / 10000 ≡ n / 100000000 = omega arith in
    let upper : n / 10000 % 10000 ≡ n % 100000000 / 10000 = omega arith in
    let lower : n % 10000 ≡ n % 100000000 % 10000 = omega arith in
    four-behind n (omega arith)
    ∙ ap (λ ds. ds ++ four (n % 10000)) (four-behind (n / 10000) (omega arith))
    ∙ append_assoc (decimal (n / 10000 / 10000)) (four (n / 10000 % 10000)) (four (n % 10000))
    ∙ ap₂ (λ q m. decimal q ++ (four m ++ four (n % 10000))) quotient upper
    ∙ ap (λ m. decimal (n / 100000000) ++ (four (n % 100000000 / 10000) ++ four m)) lower

pub decimal-four : (n : ℕ) → 1000 ≤ n → n < 10000 → decimal n ≡ four n
decimal-four n h l =
    two-behind n (omega arith)
    ∙ ap (λ ds. ds ++ (48 + n % 100 / 10) ∷ (48 + n % 10) ∷ []) (decimal-two (n / 100) (omega arith) (omega arith))
    ∙ ap₂ (λ a b. (48 + a) ∷ (48 + n / 100 % 10) ∷ (48 + b) ∷ (48 + n % 10) ∷ []) (omega arith) (omega arith)

pub decimal-eight : (n : ℕ) → 10000000 ≤ n → n < 100000000 → decimal n ≡ eight n
decimal-eight n h l =
    four-behind n (omega arith) ∙ ap (λ ds. ds ++ four (n % 10000)) (decimal-four (n / 10000) (omega arith) (omega arith))

pub length-behind : (k n : ℕ) → 10 ^ k ≤ n → length (decimal n) ≡ k + length (decimal (n / 10 ^ k))
length-behind zero n h = omega (arith, ap (λ m. length (decimal m)) (div-one n))
length-behind (suc k) n h =
    let power = pow-succ' 10 k in
    let some = one-le-pow k 10 (omega arith) in
    let ten : 10 ≤ n = omega arith in
    let fewer : 10 ^ k ≤ n / 10 = omega arith in
    let e : n / 10 / 10 ^ k ≡ n / 10 ^ suc k = div-div-eq-div-mul n 10 (10 ^ k) ∙ ap (λ d. n / d) (sym power) in
    omega (arith, length_more n ten, length-behind k (n / 10) fewer, ap (λ m. length (decimal m)) e)

pub length-between : (k n : ℕ) → 10 ^ k ≤ n → n < 10 ^ suc k → suc k ≡ length (decimal n)
length-between k n h l =
    let power = pow-succ' 10 k in
    let some = one-le-pow k 10 (omega arith) in
    let one : n / 10 ^ k < 10 = (div-lt_iff_lt-mul some).1 (omega arith) in
    omega (arith, length-behind k n h, length-one (n / 10 ^ k) one)

short-more : (k n : ℕ) → ((m : ℕ) → m < 10 ^ suc k → length (decimal m) ≤ suc k) → n < 10 ^ suc (suc k) → (t : Bool) → leb 10 n ≡ t → length (decimal n) ≤ suc (suc k)
short-more k n ih h true e =
    let power = pow-suc 10 (suc k) in
    let fewer : n / 10 < 10 ^ suc k = omega arith in
    omega (arith, length_more n (leb-true 10 n e), ih (n / 10) fewer)
short-more k n ih h false e = omega (arith, length-one n (leb-false 10 n e))

pub decimal-short : (k n : ℕ) → n < 10 ^ suc k → length (decimal n) ≤ suc k
decimal-short zero n h = omega (arith, length-one n h)
decimal-short (suc k) n h = short-more k n (decimal-short k) h (leb 10 n) refl

-- ════ numbers of 64 bits
pub decimal-fits : (n : ℕ) → n < 2 ^ 64 → length (decimal n) ≤ longest_number
decimal-fits n h = decimal-short 19 n (omega arith)

pub spell-fits : (x : ℤ) → SFits w64 x → length (spell x) ≤ longest_number
spell-fits (pos n) f = decimal-fits n (omega (arith, f.sfits))
spell-fits (negsuc n) f = let digits = decimal-short 18 (suc n) (omega (arith, f.sfits)) in omega arith
