-- The digits of a word in one number w: k digits, of the value v.
--   none_yet, has-digit, full, room   what its size says of k
--   value                             what its lowest bits say of v
--   empty, more                       no digit, and one more
use mathlib.Core.Path.{◌≡◌, refl, ap, ◌∙◌}
use Prim.Native.Nat.{ℕ, zero, suc, ◌+◌, ◌*◌, ◌%◌, ◌^◌, ◌<◌, ◌≤◌}
use native.Mathlib.Nat.{pow-suc}
use native.Mathlib.Numerals.{add-one}
use native.Mathlib.Omega.{arith}
use native.Mathlib.Decide.{dec_lt}
use Rattle.lines.specs.State.{no_digit, one_digit, four_digits}

pub record Digits (w k v : ℕ) : Type 0 where
  pub few : k ≤ 4
  pub small : v < 10 ^ k
  pub packed : w ≡ no_digit * 10 ^ k + v

-- ════ powers of ten
ten-more : (k : ℕ) → 10 ^ (k + 1) ≡ 10 ^ k * 10
ten-more k = ap (λ n. 10 ^ n) (add-one k) ∙ pow-suc 10 k

positive : (k : ℕ) → 0 < 10 ^ k
positive zero = omega arith
positive (suc k) =
    let e = pow-suc 10 k in
    let h = positive k in
    omega arith

at_most : (k : ℕ) → k ≤ 4 → 10 ^ k ≤ 10000
at_most zero h = omega arith
at_most (suc zero) h = omega arith
at_most (suc (suc zero)) h = omega arith
at_most (suc (suc (suc zero))) h = omega arith
at_most (suc (suc (suc (suc zero)))) h = omega arith
at_most (suc (suc (suc (suc (suc k))))) h = absurd (omega arith)

-- ════ its size
pub none_yet : {w : ℕ} (k : ℕ) {v : ℕ} → Digits w k v → w < one_digit → k ≡ 0
none_yet zero d h = refl
none_yet (suc k) d h =
    let e = pow-suc 10 k in
    let p = positive k in
    absurd (omega (arith, d.packed))

pub has-digit : {w : ℕ} (k : ℕ) {v : ℕ} → Digits w k v → one_digit ≤ w → 0 < k
has-digit zero d h = absurd (omega (arith, d.packed, d.small))
has-digit (suc k) d h = omega arith

pub full : {w k v : ℕ} → Digits w k v → four_digits ≤ w → 4 ≤ k
full {w} {k} {v} d h = by (dec_lt k 4) where
  by : Dec (k < 4) → 4 ≤ k
  by (yes l) =
      let e = ten-more k in
      let p = at_most (k + 1) (omega arith) in
      absurd (omega (arith, d.packed, d.small))
  by (no l) = omega arith

pub room : {w k v : ℕ} → Digits w k v → w < four_digits → k < 4
room {w} {k} {v} d h = by (dec_lt k 4) where
  by : Dec (k < 4) → k < 4
  by (yes l) = l
  by (no l) =
      let four : k ≡ 4 = omega (arith, d.few) in
      let e = ap (λ n. 10 ^ n) four in
      absurd (omega (arith, d.packed))

-- ════ its lowest bits
pub value : {w k v : ℕ} → Digits w k v → w % no_digit ≡ v
value {w} {k} {v} d =
    let p = at_most k d.few in
    omega (arith, d.packed, d.small)

-- ════ its digits
pub empty : Digits no_digit 0 0
empty = record { few = omega arith; small = omega arith; packed = refl }

pub more : {w k v : ℕ} (next : ℕ) → Digits w k v → k < 4 → next ≤ 9 → Digits (w * 10 + next) (k + 1) (v * 10 + next)
more {w} {k} {v} next d h l =
    let e = ten-more k in
    record { few = omega arith; small = omega (arith, d.small); packed = omega (arith, d.packed) }
