-- A running sum against the cap.
--   against-within, against-passed   what the sum is said to be
--   within-against, passed-against   what it then is
--   joint-within, joint-first, joint-second, within-joint, passed-joint   the same of two sums together
--   reach-past                       a product with a reach, told by the most that it multiplies within the cap
use mathlib.Core.Path.{◌≡◌, refl, sym, ap, ap₂, subst}
use mathlib.Core.Bool.{Bool, true, false, cond, ◌&&◌}
use Prim.Native.Nat.{ℕ, ◌+◌, ◌*◌, ◌<◌, ◌≤◌}
use native.Mathlib.Nat.{div-lt_iff_lt-mul}
use native.Mathlib.Decide.{dec_le}
use native.Mathlib.Omega.{arith}
use borrow.Author.Tests.{le-leb, lt-leb}
use lib.Dec.{leb}
use Rattle.polynomials.specs.Limits.{cap, against, joint}
use Rattle.polynomials.specs.Ready.{Reached}
use Rattle.polynomials.specs.declared.Reach.{Reach}
use Rattle.std.specs.Prelude.{Some, None}

pub against-within : (n : ℕ) → n ≤ cap → Some n ≡ against n
against-within n h = ap (λ (b : Bool). cond b (Some n) None) (sym (le-leb n cap h))

pub against-passed : (n : ℕ) → cap < n → None ≡ against n
against-passed n h = ap (λ (b : Bool). cond b (Some n) None) (sym (lt-leb n cap h))

-- and back from what it is said to be
pub within-against : (m n : ℕ) → Some m ≡ against n → (m ≡ n) × (n ≤ cap)
within-against m n e = pick (dec_le n cap)
  where
    pick : Dec (n ≤ cap) → (m ≡ n) × (n ≤ cap)
    pick (yes h) = let f = against-within n h in (cc, h)
    pick (no h) = let f = against-passed n (omega arith) in let z : ◌≡◌ {A = ℕ} 0 1 = cc in absurd (omega arith)

pub passed-against : (n : ℕ) → None ≡ against n → cap < n
passed-against n e = pick (dec_le n cap)
  where
    pick : Dec (n ≤ cap) → cap < n
    pick (yes h) = let f = against-within n h in let z : ◌≡◌ {A = ℕ} 0 1 = cc in absurd (omega arith)
    pick (no h) = omega arith

-- ════ two sums together
module _ (a b : ℕ) where
  tested : (x y : Bool) → leb a cap ≡ x → leb b cap ≡ y → joint a b ≡ cond (x && y) (Some (a + b)) None
  tested x y e f = ap₂ (λ (x y : Bool). cond (x && y) (Some (a + b)) None) e f

  pub joint-within : a ≤ cap → b ≤ cap → Some (a + b) ≡ joint a b
  joint-within h k = sym (tested true true (le-leb a cap h) (le-leb b cap k))

  pub joint-first : cap < a → None ≡ joint a b
  joint-first h = sym (tested false (leb b cap) (lt-leb a cap h) refl)

  pub joint-second : cap < b → None ≡ joint a b
  joint-second h = pick (dec_le a cap)
    where
      pick : Dec (a ≤ cap) → None ≡ joint a b
      pick (yes k) = sym (tested true false (le-leb a cap k) (lt-leb b cap h))
      pick (no k) = joint-first (omega arith)

  pub within-joint : (m : ℕ) → Some m ≡ joint a b → m ≡ a + b
  within-joint m e = pick (dec_le a cap) (dec_le b cap)
    where
      pick : Dec (a ≤ cap) → Dec (b ≤ cap) → m ≡ a + b
      pick (yes h) (yes k) = let f = joint-within h k in cc
      pick (yes h) (no k) = let f = joint-second (omega arith) in let z : ◌≡◌ {A = ℕ} 0 1 = cc in absurd (omega arith)
      pick (no h) k = let f = joint-first (omega arith) in let z : ◌≡◌ {A = ℕ} 0 1 = cc in absurd (omega arith)

  pub passed-joint : None ≡ joint a b → cap < a + b
  passed-joint e = pick (dec_le a cap) (dec_le b cap)
    where
      pick : Dec (a ≤ cap) → Dec (b ≤ cap) → cap < a + b
      pick (yes h) (yes k) = let f = joint-within h k in let z : ◌≡◌ {A = ℕ} 0 1 = cc in absurd (omega arith)
      pick (yes h) (no k) = omega arith
      pick (no h) k = omega arith

-- ════ a product with a reach
module _ {r : Reach} (h : Reached r) (x : ℕ) where
  pub reach-past : r.most < x → cap < x * r.size
  reach-past l = (div-lt_iff_lt-mul {k = r.size} {x = cap} {y = x} h.one).0 (subst (λ m. m < x) h.most-is l)
