-- A linear fact over ℤ in one line, where it is needed.
--   shift lo r s = ring3 lo r s (λ ρ e f g. simp (quote, e, f, g) (omega zarith))
--   zarith        in `omega`, reads `≤ℤ`, `<ℤ`, `≡` and `SFits w64` of quoted numbers, and proves those and `T (non_neg _)`
--   quote-nat_abs  in `simp`, for magnitudes
-- The atoms are named and quoted as for `Identity`. Hypotheses stay arrows of the goal, so that `simp` rewrites them too; one that is bound already is
-- rewritten by itself, `let k = simp (e, f) at h in ..`. `Controls` has examples.
-- An expression is read as the difference of `ups e ρ` and `dns e ρ`, two naturals made of `up` and `dn` of its atoms.
use mathlib.Core.Path.{◌≡◌, refl, ap}
use mathlib.Core.List.{List}
use Prim.Native.Nat.{ℕ, suc, ◌+◌, ◌*◌, ◌-◌, ◌^◌, ◌<◌, ◌≤◌}
use native.Mathlib.Omega.{arith}
use lib.Dec.{T}
use lib.IntN.{ℤ, pos, negsuc, neg_ℤ, nat_abs, ◌+ℤ◌, ◌*ℤ◌, pow}
use lib.Signed.{mag, non_neg, ◌≤ℤ◌, ◌<ℤ◌}
use mir.Syntax.{w64}
use mir.Val.{SFits}
use Rattle.whole.proofs.Ring.{up, dn, ext, balance-+, balance-*, up_neg, dn-neg}
use Rattle.whole.proofs.Order.{le_out, le_in, lt_out, lt_in}
use Rattle.whole.proofs.Solver.{Expr, atom, lit, neglit, ◌⊕◌, ◌⊗◌, ⊖◌, ◌↑◌, eval, nth}
use Rattle.whole.proofs.Identity.{quoted}

-- A power is taken as an atom.
abbrev mutual
  ups : Expr → List ℤ → ℕ
  ups (atom i) ρ = up (nth ρ i)
  ups (lit n) ρ = n
  ups (neglit n) ρ = 0
  ups (a ⊕ b) ρ = ups a ρ + ups b ρ
  ups (a ⊗ b) ρ = ups a ρ * ups b ρ + dns a ρ * dns b ρ
  ups (⊖ a) ρ = dns a ρ
  ups (a ↑ n) ρ = up (pow (eval a ρ) n)

  dns : Expr → List ℤ → ℕ
  dns (atom i) ρ = dn (nth ρ i)
  dns (lit n) ρ = 0
  dns (neglit n) ρ = suc n
  dns (a ⊕ b) ρ = dns a ρ + dns b ρ
  dns (a ⊗ b) ρ = ups a ρ * dns b ρ + dns a ρ * ups b ρ
  dns (⊖ a) ρ = ups a ρ
  dns (a ↑ n) ρ = dn (pow (eval a ρ) n)

-- ════ that the difference of the two is the value
sum-split : (x y : ℤ) (u d u' d' : ℕ) → up x + d ≡ u + dn x → up y + d' ≡ u' + dn y → up (x +ℤ y) + (d + d') ≡ u + u' + dn (x +ℤ y)
sum-split x y u d u' d' e f = omega (arith, balance-+ x y)

neg-split : (x : ℤ) (u d : ℕ) → up x + d ≡ u + dn x → up (neg_ℤ x) + u ≡ d + dn (neg_ℤ x)
neg-split x u d e = omega (arith, up_neg x, dn-neg x)

product-split : (x y : ℤ) (u d u' d' : ℕ) → up x + d ≡ u + dn x → up y + d' ≡ u' + dn y
    → up (x *ℤ y) + (u * d' + d * u') ≡ u * u' + d * d' + dn (x *ℤ y)
product-split x y u d u' d' e f =
    omega (
      arith,
      balance-* x y,
      ap (λ (t : ℕ). t * up y) e,
      ap (λ (t : ℕ). t * dn y) e,
      ap (λ (t : ℕ). u * t) f,
      ap (λ (t : ℕ). d * t) f,
    )

split : (e : Expr) (ρ : List ℤ) → up (eval e ρ) + dns e ρ ≡ ups e ρ + dn (eval e ρ)
split (atom i) ρ = refl
split (lit n) ρ = refl
split (neglit n) ρ = refl
split (a ⊕ b) ρ =
    sum-split (eval a ρ) (eval b ρ) (ups a ρ) (dns a ρ) (ups b ρ) (dns b ρ) (split a ρ) (split b ρ)
split (a ⊗ b) ρ =
    product-split (eval a ρ) (eval b ρ) (ups a ρ) (dns a ρ) (ups b ρ) (dns b ρ) (split a ρ) (split b ρ)
split (⊖ a) ρ = neg-split (eval a ρ) (ups a ρ) (dns a ρ) (split a ρ)
split (a ↑ n) ρ = refl

-- ════ the order and equations
module _ (ρ : List ℤ) (a b : Expr) where
  pub le-hyp : quoted ρ a ≤ℤ quoted ρ b → ups a ρ + dns b ρ ≤ ups b ρ + dns a ρ
  unfolding quoted
  le-hyp h = omega (arith, le_out h, split a ρ, split b ρ)

  pub le-goal : ups a ρ + dns b ρ ≤ ups b ρ + dns a ρ → quoted ρ a ≤ℤ quoted ρ b
  unfolding quoted
  le-goal h = le_in (omega (arith, split a ρ, split b ρ))

  pub lt-hyp : quoted ρ a <ℤ quoted ρ b → ups a ρ + dns b ρ < ups b ρ + dns a ρ
  unfolding quoted
  lt-hyp h = omega (arith, lt_out h, split a ρ, split b ρ)

  pub lt-goal : ups a ρ + dns b ρ < ups b ρ + dns a ρ → quoted ρ a <ℤ quoted ρ b
  unfolding quoted
  lt-goal h = lt_in (omega (arith, split a ρ, split b ρ))

  pub eq-hyp : quoted ρ a ≡ quoted ρ b → ups a ρ + dns b ρ ≡ ups b ρ + dns a ρ
  unfolding quoted
  eq-hyp h = omega (arith, ap up h, ap dn h, split a ρ, split b ρ)

  pub eq-goal : ups a ρ + dns b ρ ≡ ups b ρ + dns a ρ → quoted ρ a ≡ quoted ρ b
  unfolding quoted
  eq-goal h = ext (eval a ρ) (eval b ρ) (omega (arith, split a ρ, split b ρ))

-- ════ magnitudes, and what 64 bits hold
nat_abs-split : (x : ℤ) (u d : ℕ) → up x + d ≡ u + dn x → nat_abs x ≡ (u - d) + (d - u)
nat_abs-split (pos n) u d e = omega arith
nat_abs-split (negsuc n) u d e = omega arith

mag-split : (x : ℤ) (u d : ℕ) → up x + d ≡ u + dn x → mag x ≡ (u - d) + (d - suc u)
mag-split (pos n) u d e = omega arith
mag-split (negsuc n) u d e = omega arith

non_neg-split : (x : ℤ) (u d : ℕ) → up x + d ≡ u + dn x → d ≤ u → T (non_neg x)
non_neg-split (pos n) u d e h = tt
non_neg-split (negsuc n) u d e h = absurd (omega arith)

module _ (ρ : List ℤ) (a : Expr) where
  pub quote-nat_abs : nat_abs (quoted ρ a) ≡ (ups a ρ - dns a ρ) + (dns a ρ - ups a ρ)
  unfolding quoted
  quote-nat_abs = nat_abs-split (eval a ρ) (ups a ρ) (dns a ρ) (split a ρ)

  pub sfits-hyp : SFits w64 (quoted ρ a) → (ups a ρ - dns a ρ) + (dns a ρ - suc (ups a ρ)) < 2 ^ 63
  unfolding quoted
  sfits-hyp f = omega (arith, f.sfits, mag-split (eval a ρ) (ups a ρ) (dns a ρ) (split a ρ))

  pub sfits-goal : (ups a ρ - dns a ρ) + (dns a ρ - suc (ups a ρ)) < 2 ^ 63 → SFits w64 (quoted ρ a)
  unfolding quoted
  sfits-goal h = record { sfits = omega (arith, mag-split (eval a ρ) (ups a ρ) (dns a ρ) (split a ρ)) }

  pub non_neg-goal : dns a ρ ≤ ups a ρ → T (non_neg (quoted ρ a))
  unfolding quoted
  non_neg-goal h = non_neg-split (eval a ρ) (ups a ρ) (dns a ρ) (split a ρ) h

pub ruleset zarith =
    (arith, le-hyp, le-goal, lt-hyp, lt-goal, eq-hyp, eq-goal, sfits-hyp, sfits-goal, non_neg-goal)
