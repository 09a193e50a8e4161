-- Chains: the numbers of a group that differ only in the power of one variable. They stand further and further on as it grows.
--   chain                       the place of the power k of the variable beside the power b of the other
--   gap, gap-near               how much later stands one power more, after a number of total degree n
--   chain_next, chain-beside    that it stands there: one power more of the variable, and of the other
--   chain-rises, chain-degree   a larger power of either stands later; below `below n` stand total degrees below n
--   chain-far                   a place is at least the total degree that stands there
--   chain-powers                every place is on a chain
--   given-chain, given-end      what a number of the chain gives to an earlier one in a move; nothing, where the group has ended
use mathlib.Core.Path.{◌≡◌, refl, ◌∙◌, ap}
use mathlib.Core.List.{List}
use Prim.Native.Nat.{ℕ, ◌+◌, ◌≤◌, ◌<◌}
use native.Mathlib.Nat as N
use native.Mathlib.Omega.{arith}
use lib.IntN.{ℤ, pos, ◌*ℤ◌, zero-*ℤ}
use lib.ListN.{length, get_or, get_or-eq_default}
use Rattle.polynomials.specs.Numbers.{ints}
use Rattle.polynomials.specs.Order.{powers, below, place}
use Rattle.polynomials.specs.Binomial.{multiplied_out}
use Rattle.polynomials.specs.Group.{own, number, given}
use Rattle.polynomials.specs.declared.Variable.{Variable}
use Rattle.polynomials.specs.declared.Variable.TheVariants.{First, Second}
use Rattle.polynomials.proofs.Places.{degree-place, place-first, place-second, place-past, place-rises, place-powers}

abbrev pub chain : Variable → ℕ → ℕ → ℕ
chain w b k = place (own w k b) (own w b k)

abbrev pub gap : Variable → ℕ → ℕ
gap w n = own w (n + 1) (n + 2)

pub gap-near : (w : Variable) (n : ℕ) {step : ℕ} → step ≡ gap w n → (1 ≤ step) × (step ≤ n + 2)
gap-near First n e = (omega arith, omega arith)
gap-near Second n e = (omega arith, omega arith)

pub chain_next : (w : Variable) (b k n : ℕ) → n ≡ b + k → chain w b (k + 1) ≡ chain w b k + gap w n
chain_next First b k n e = omega (arith, place-first k b)
chain_next Second b k n e = omega (arith, place-second b k)

pub chain-beside : (w : Variable) (b : ℕ) → chain w (b + 1) 0 ≡ chain w b 0 + gap (own w Second First) b
chain-beside First b = omega (arith, place-second 0 b)
chain-beside Second b = omega (arith, place-first b 0)

pub chain-rises : (w : Variable) (b k c j : ℕ) → b ≤ c → k ≤ j → chain w b k ≤ chain w c j
chain-rises First b k c j h l = place-rises k b j c l h
chain-rises Second b k c j h l = place-rises b k c j h l

pub chain-degree : (w : Variable) (n b k : ℕ) → chain w b k < below n → b + k < n
chain-degree First n b k h = N.lt_of_not-le (λ l. omega (arith, place-past n k b (omega arith)))
chain-degree Second n b k h = N.lt_of_not-le (λ l. omega (arith, place-past n b k l))

pub chain-far : (w : Variable) (b k : ℕ) → b + k ≤ chain w b k
chain-far First b k = omega (arith, degree-place k b)
chain-far Second b k = degree-place b k

pub chain-powers : (w : Variable) (k : ℕ) → chain w (own w (powers k).second (powers k).first) (own w (powers k).first (powers k).second) ≡ k
chain-powers First k = place-powers k
chain-powers Second k = place-powers k

pub given-chain : (w : Variable) (s : ℤ) (l : List ℤ) (b p j : ℕ) → given ints w s l (own w p b) (own w b p) j ≡ get_or l (chain w b (p + j)) (pos 0) *ℤ multiplied_out ints s (p + j) p
unfolding given number
given-chain First s l b p j = refl
given-chain Second s l b p j = refl

pub given-end : (w : Variable) (s : ℤ) (l : List ℤ) (b p i j : ℕ) → length l ≤ chain w b (p + i) → i ≤ j → given ints w s l (own w p b) (own w b p) j ≡ pos 0
given-end w s l b p i j h k =
    let past : length l ≤ chain w b (p + j) = N.le_trans h (chain-rises w b (p + i) b (p + j) (N.le_refl b) (omega arith)) in
    given-chain w s l b p j ∙ ap (λ z. z *ℤ multiplied_out ints s (p + j) p) (get_or-eq_default l (pos 0) past) ∙ zero-*ℤ (multiplied_out ints s (p + j) p)
