-- One-line facts by `Identity` and `Linear`, one for each thing they read, what `Solver` refuses, and how quotients are rounded.
use mathlib.Core.Path.{◌≡◌, refl}
use mathlib.Core.Bool.{false}
use mathlib.Core.List.{[], ◌∷◌, map}
use Prim.Native.Nat.{ℕ, ◌≤◌}
use native.Mathlib.Omega.{arith}
use lib.IntN.{ℤ, pos, negsuc, neg_ℤ, nat_abs, ◌+ℤ◌, ◌-ℤ◌, ◌*ℤ◌, pow}
use lib.Signed.{◌≤ℤ◌, ◌<ℤ◌}
use mir.Syntax.{w64}
use mir.Val.{SFits}
use Rattle.whole.specs.Nearest.{nearest_away, IsNearestAway}
use Rattle.whole.specs.Down.{rounded_down, thousand}
use Rattle.whole.proofs.Solver.{atom, lit, neglit, ◌⊕◌, ◌⊝◌, ◌⊗◌, ⊖◌, ◌↑◌, same}
use Rattle.whole.proofs.Identity.{quote, quote-pos, quote-negsuc, quote-minus, by, by-eq, ring1, ring2, ring3, ring4, ring5, ring6}
use Rattle.whole.proofs.Linear.{zarith, quote-nat_abs}

-- ════ identities
fourth : (x s : ℤ)
    → pow (x +ℤ s) 4
    ≡ pow x 4 +ℤ pos 4 *ℤ pow x 3 *ℤ s +ℤ pos 6 *ℤ pow x 2 *ℤ pow s 2 +ℤ pos 4 *ℤ x *ℤ pow s 3 +ℤ pow s 4
fourth x s = ring2 x s (λ ρ e f. simp (quote, quote-pos ρ, e, f) (by _ _ _ tt))

opposite : (x s : ℤ) → (x -ℤ s) *ℤ (x +ℤ s) +ℤ negsuc 1 *ℤ x *ℤ x ≡ neg_ℤ (x *ℤ x +ℤ s *ℤ s)
opposite x s = ring2 x s (λ ρ e f. simp (quote, quote-negsuc ρ, e, f) (by _ _ _ tt))

lagrange : (a b c x y z : ℤ)
    → (a *ℤ a +ℤ b *ℤ b +ℤ c *ℤ c) *ℤ (x *ℤ x +ℤ y *ℤ y +ℤ z *ℤ z)
    ≡ pow (a *ℤ x +ℤ b *ℤ y +ℤ c *ℤ z) 2 +ℤ pow (a *ℤ y -ℤ b *ℤ x) 2 +ℤ pow (a *ℤ z -ℤ c *ℤ x) 2 +ℤ pow (b *ℤ z -ℤ c *ℤ y) 2
lagrange a b c x y z = ring6 a b c x y z (λ ρ e f g h i j. simp (quote, e, f, g, h, i, j) (by _ _ _ tt))

moved : (a b c x s : ℤ)
    → a *ℤ pow (x +ℤ s) 2 +ℤ b *ℤ (x +ℤ s) +ℤ c
    ≡ a *ℤ pow x 2 +ℤ (pos 2 *ℤ a *ℤ s +ℤ b) *ℤ x +ℤ (a *ℤ pow s 2 +ℤ b *ℤ s +ℤ c)
moved a b c x s = ring5 a b c x s (λ ρ e f g h i. simp (quote, quote-pos ρ, e, f, g, h, i) (by _ _ _ tt))

any-atom : (f : ℤ → ℤ) (x s : ℤ) → (f x +ℤ s) *ℤ (f x -ℤ s) ≡ f x *ℤ f x -ℤ s *ℤ s
any-atom f x s = ring2 (f x) s (λ ρ e g. simp (quote, e, g) (by _ _ _ tt))

atom-in-atom : (f : ℤ → ℤ) (x : ℤ) → (f x +ℤ x) *ℤ (f x -ℤ x) ≡ f x *ℤ f x -ℤ x *ℤ x
atom-in-atom f x = ring2 (f x) x (λ ρ e g. simp e (simp (quote, g) (by _ _ _ tt)))

from-equation : (x y z : ℤ) → x +ℤ y ≡ z → x *ℤ x -ℤ y *ℤ y ≡ z *ℤ (x -ℤ y)
from-equation x y z h =
    ring3 x y z (λ ρ e f g. simp (quote, e, f, g) (by-eq _ _ _ _ _ (atom 0 ⊝ atom 1) (simp (quote, e, f, g) at h) tt))

-- ════ what is no identity
cross-term : same ((atom 0 ⊕ atom 1) ↑ 2) (atom 0 ↑ 2 ⊕ atom 1 ↑ 2) ≡ false
cross-term = refl

sign : same (⊖ atom 0 ⊗ ⊖ atom 1) (⊖ (atom 0 ⊗ atom 1)) ≡ false
sign = refl

constant : same (atom 0 ⊕ lit 1 ⊕ neglit 0) (atom 0 ⊕ lit 1) ≡ false
constant = refl

other-atom : same (atom 0 ⊗ atom 1) (atom 0 ⊗ atom 2) ≡ false
other-atom = refl

-- ════ linear facts
chain : (a b c : ℤ) → a <ℤ b → (b +ℤ pos 3) ≤ℤ c → (a +ℤ pos 4) ≤ℤ c
chain a b c = ring3 a b c (λ ρ e f g. simp (quote, quote-pos ρ, e, f, g) (omega zarith))

literals : (a b : ℤ) → pos 3 ≤ℤ a → b <ℤ negsuc 4 → (b +ℤ pos 9) ≤ℤ a
literals a b = ring2 a b (λ ρ e f. simp (quote, quote-pos ρ, quote-negsuc ρ, e, f) (omega zarith))

scaled : (a b : ℤ) → a ≤ℤ b → (pos 3 *ℤ a -ℤ pos 1) <ℤ (b +ℤ pos 2 *ℤ b)
scaled a b = ring2 a b (λ ρ e f. simp (quote, quote-pos ρ, quote-negsuc ρ, e, f) (omega zarith))

equal : (a b c d : ℤ) → (a +ℤ b) ≤ℤ (c -ℤ d) → c ≤ℤ (a +ℤ b +ℤ d) → c ≡ d +ℤ b +ℤ a
equal a b c d = ring4 a b c d (λ ρ e f g h. simp (quote, e, f, g, h) (omega zarith))

hypothesis : (a b : ℤ) (h : a ≤ℤ b) → (a -ℤ pos 1) <ℤ b
hypothesis a b h =
    ring2 a b (λ ρ e f. let k = simp (e, f) at h in simp (quote, quote-negsuc ρ, e, f) (omega zarith))

-- ════ magnitudes
between : (lo r hi : ℤ) (b : ℕ) → lo ≤ℤ r → r ≤ℤ hi → nat_abs lo ≤ b → nat_abs hi ≤ b → nat_abs r ≤ b
between lo r hi b = ring3 lo r hi (λ ρ e f g. simp (e, f, g, quote-nat_abs) (omega zarith))

from-below : (r : ℤ) (b : ℕ) → nat_abs r ≤ b → neg_ℤ (pos b) ≤ℤ r
from-below r b = ring1 r (λ ρ e. simp (quote-minus ρ, e, quote-nat_abs) (omega zarith))

fits : (x : ℤ) → SFits w64 x → x <ℤ pos 7 → SFits w64 (x +ℤ pos 5)
fits x = ring1 x (λ ρ e. simp (quote, quote-pos ρ, e) (omega zarith))

least : nat_abs (negsuc 9223372036854775807) ≡ 9223372036854775808
least = refl

-- ════ rounding: a half goes away from zero on both sides, and an odd divisor has no half
halves : map (nearest_away 10) (pos 4 ∷ pos 5 ∷ pos 14 ∷ pos 15 ∷ pos 25 ∷ negsuc 3 ∷ negsuc 4 ∷ negsuc 13 ∷ negsuc 14 ∷ [])
    ≡ pos 0 ∷ pos 1 ∷ pos 1 ∷ pos 2 ∷ pos 3 ∷ pos 0 ∷ negsuc 0 ∷ negsuc 0 ∷ negsuc 1 ∷ []
unfolding nearest_away
halves = refl

thirds : map (nearest_away 3) (pos 0 ∷ pos 1 ∷ pos 2 ∷ pos 4 ∷ pos 5 ∷ negsuc 0 ∷ negsuc 1 ∷ []) ≡ pos 0 ∷ pos 0 ∷ pos 1 ∷ pos 1 ∷ pos 2 ∷ pos 0 ∷ negsuc 0 ∷ []
unfolding nearest_away
thirds = refl

-- of the two whole numbers at a half from 1 / 2, and from -1 / 2, the one at zero is no answer
zero-refused : IsNearestAway 2 (pos 1) (pos 0) → ⊥
zero-refused h = omega (arith, h.away refl)

zero-refused-below : IsNearestAway 2 (negsuc 0) (pos 0) → ⊥
zero-refused-below h = omega (arith, h.away refl)

-- nor is one that is more than a half from 3 / 4
far-refused : IsNearestAway 4 (pos 3) (pos 0) → ⊥
far-refused h = omega (arith, h.near)

-- down, on both sides of zero
thousands : map (rounded_down thousand) (negsuc 1000 ∷ negsuc 999 ∷ negsuc 0 ∷ pos 0 ∷ pos 999 ∷ pos 1000 ∷ []) ≡ negsuc 1 ∷ negsuc 0 ∷ negsuc 0 ∷ pos 0 ∷ pos 0 ∷ pos 1 ∷ []
unfolding rounded_down
thousands = refl
