-- `thousandths::shifted_down` meets its contract: a shift of an i64 rounds down, and one of 63 or more places leaves 0 or -1.
use mathlib.Core.Path.{◌≡◌, refl, sym, ap, ◌∙◌}
use Prim.Native.Nat.{ℕ, ◌^◌, ◌≤◌, ◌<◌, min}
use native.Mathlib.Decide.{dec_lt}
use native.Mathlib.Nat.{div-eq_of_lt, lt_of_le_of_lt, lt_of_lt_of_le}
use native.Mathlib.Omega.{arith}
use lib.IntN.{ℤ, pos, negsuc}
use lib.Pow.{pow_mono}
use lib.Signed.{mag, shr_z, mag_shr}
use mir.Syntax.{w64}
use mir.Val.{SFits, to_z, of_z}
use mir.Facts.{to_z-of_z}
use Rattle.whole.specs.Down.{rounded_down}
use Rattle.thousandths.proofs.shifted_down.Goals as goal

shift-down : (m : ℕ) (z : ℤ) → shr_z z m ≡ rounded_down m z
unfolding rounded_down
shift-down m (pos n) = refl
shift-down m (negsuc n) = refl

-- of a number below m, no divisor from m on leaves more than the sign
far : (m n : ℕ) (z : ℤ) → mag z < m → m ≤ n → shr_z z m ≡ rounded_down n z
unfolding rounded_down
far m n (pos k) h l = ap pos (div-eq_of_lt h ∙ sym (div-eq_of_lt (lt_of_lt_of_le h l)))
far m n (negsuc k) h l = ap negsuc (div-eq_of_lt h ∙ sym (div-eq_of_lt (lt_of_lt_of_le h l)))

least : (z : ℤ) (shift : ℕ) → mag z < 2 ^ 63 → shr_z z (2 ^ min shift 63) ≡ rounded_down (2 ^ shift) z
least z shift h = go (dec_lt shift 63)
  where
    go : Dec (shift < 63) → shr_z z (2 ^ min shift 63) ≡ rounded_down (2 ^ shift) z
    go (yes l) = let e : min shift 63 ≡ shift = omega arith in ap (λ k. shr_z z (2 ^ k)) e ∙ shift-down (2 ^ shift) z
    go (no l) = let e : min shift 63 ≡ 63 = omega arith in ap (λ k. shr_z z (2 ^ k)) e ∙ far (2 ^ 63) (2 ^ shift) z h (pow_mono {i = 63} {j = shift} (omega arith))

-- a shift as the machine reads its result back
shifted : (m : ℕ) {z : ℤ} → SFits w64 z → to_z w64 (of_z w64 (shr_z (to_z w64 (of_z w64 z)) m)) ≡ shr_z z m
shifted m {z} f = ap (λ y. to_z w64 (of_z w64 (shr_z y m))) (to_z-of_z f) ∙ to_z-of_z {w = w64} (record { sfits = lt_of_le_of_lt (mag_shr z m) f.sfits })

pub returns : goal.returns
returns c =
    shifted (2 ^ c.min.result) c.ranges.z ∙ ap (λ k. shr_z c.args.z (2 ^ k)) c.min.ensures ∙ least c.args.z c.args.shift c.ranges.z.sfits
