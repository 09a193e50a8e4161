-- The printed model in two units of angle, one s times as fine as the other.
--   at-finer     at s times the readings a polynomial of degree at most 4 has s⁴ times the value
--   fine-value   so the six coefficients have at microradians, at 1000 times whole milliradians
use mathlib.Core.Path.{◌≡◌, refl, sym, ◌∙◌, ap, ap₂}
use mathlib.Core.Bool.{Bool, true, false, cond, ◌&&◌}
use mathlib.Core.List.{[], ◌∷◌}
use Prim.Native.Nat.{ℕ, zero, suc, ◌+◌, ◌-◌, ◌*◌, ◌^◌, ◌≤◌, ◌<◌}
use native.Mathlib.Nat as N
use native.Mathlib.Omega.{arith}
use borrow.Author.Tests.{leb-true}
use lib.Dec.{leb}
use lib.IntN.{ℤ, pos, ◌+ℤ◌, ◌*ℤ◌, pow}
use lib.Signed.{le_z, ◌≤ℤ◌}
use Rattle.whole.proofs.Identity.{quote, quote-pos, by, ring1, ring4, ring5}
use Rattle.polynomials.specs.Numbers.{nats}
use Rattle.polynomials.specs.Sum.{sum}
use Rattle.whole.proofs.Linear.{zarith}
use Rattle.whole.proofs.Ring.{*ℤ-assoc, pow-zero, pow-suc, pow-add, pow-mul}
use Rattle.polynomials.proofs.Semiring.{whole, nil-mul, add-mul}
use Rattle.layout.specs.Shape.{cumulus}
use Rattle.layout.specs.Limits.{every}
use Rattle.laws.proofs.Tests.{&&-left, &&-right, every-all, true-iff, le_z-fact, fact-le_z}
use Rattle.printed.specs.Notation.{Monomial, Term, Polynomial}
use Rattle.printed.specs.Values.{Angles, total_degree, degree_in, monomial_at, scale_in, scaled, at}
use Rattle.printed.proofs.Monomials.{product-multiple}
use Rattle.cumulus_page.specs.Model.{Coefficient, coefficient_at, milliradians, microradians, pre, post, model_value, fine_value}

-- each term has a total degree of at most 4
abbrev quartic : Polynomial → Bool
quartic [] = true
quartic (t ∷ f) = leb (total_degree t.monomial) 4 && quartic f

-- ════ a monomial
-- every angle is a variable
degrees-sum : (a : Monomial) → sum nats cumulus.variables (degree_in cumulus a) ≡ total_degree a
unfolding sum
degrees-sum a = omega arith

module _ (s : ℤ) (x : ℕ → ℤ) where
  monomial-finer : (a : Monomial) → monomial_at cumulus a (λ i. s *ℤ x i) ≡ pow s (total_degree a) *ℤ monomial_at cumulus a x
  monomial-finer a = product-multiple s x (degree_in cumulus a) cumulus.variables ∙ ap (λ n. pow s n *ℤ monomial_at cumulus a x) (degrees-sum a)

-- ════ a polynomial
pos-pow : (s n : ℕ) → pow (pos s) n ≡ pos (s ^ n)
pos-pow s zero = pow-zero (pos s) ∙ ap pos (sym (N.pow-zero s))
pos-pow s (suc n) = pow-suc (pos s) n ∙ ap (λ z. z *ℤ pos s) (pos-pow s n) ∙ ap pos (sym (N.pow-suc s n))

module _ (A B : Angles) (s : ℕ) (finer : B.radian ≡ A.radian * s) (x : ℕ → ℤ) where
  abbrev finely : ℕ → ℤ
  finely i = pos s *ℤ x i

  scale-finer : (n : ℕ) → n ≤ 4 → pos (scale_in B n) *ℤ pos (s ^ n) ≡ pos (scale_in A n) *ℤ pos (s ^ 4)
  scale-finer n h =
      let e : 4 - n + n ≡ 4 = omega arith in
      ap₂ ◌*ℤ◌ (ap (λ r. pos (r ^ (4 - n))) finer ∙ sym (pos-pow (A.radian * s) (4 - n)) ∙ pow-mul (pos A.radian) (pos s) (4 - n)) (sym (pos-pow s n))
      ∙ *ℤ-assoc (pow (pos A.radian) (4 - n)) (pow (pos s) (4 - n)) (pow (pos s) n)
      ∙ ap₂ ◌*ℤ◌ (pos-pow A.radian (4 - n)) (sym (pow-add (pos s) (4 - n) n) ∙ ap (pow (pos s)) e ∙ pos-pow s 4)

  apart : (c r p m : ℤ) → c *ℤ r *ℤ (p *ℤ m) ≡ c *ℤ (r *ℤ p) *ℤ m
  apart c r p m = ring4 c r p m (λ ρ e f g h. simp (quote, e, f, g, h) (by _ _ _ tt))

  behind : (c r p m : ℤ) → c *ℤ (r *ℤ p) *ℤ m ≡ c *ℤ r *ℤ m *ℤ p
  behind c r p m = ring4 c r p m (λ ρ e f g h. simp (quote, e, f, g, h) (by _ _ _ tt))

  term-finer : (t : Term) → total_degree t.monomial ≤ 4 → scaled B t *ℤ monomial_at cumulus t.monomial finely ≡ scaled A t *ℤ monomial_at cumulus t.monomial x *ℤ pos (s ^ 4)
  term-finer t h =
      let a = t.monomial in
      let n = total_degree a in
      ap (λ z. scaled B t *ℤ z) (monomial-finer (pos s) x a ∙ ap (λ z. z *ℤ monomial_at cumulus a x) (pos-pow s n))
      ∙ apart t.number (pos (scale_in B n)) (pos (s ^ n)) (monomial_at cumulus a x)
      ∙ ap (λ z. t.number *ℤ z *ℤ monomial_at cumulus a x) (scale-finer n h)
      ∙ behind t.number (pos (scale_in A n)) (pos (s ^ 4)) (monomial_at cumulus a x)

  pub at-finer : (f : Polynomial) → quartic f ≡ true → at cumulus B f finely ≡ at cumulus A f x *ℤ pos (s ^ 4)
  unfolding at
  at-finer [] q = sym (nil-mul whole (pos (s ^ 4)))
  at-finer (t ∷ f) q =
      let d = leb (total_degree t.monomial) 4 in
      ap₂ ◌+ℤ◌ (term-finer t (leb-true (total_degree t.monomial) 4 (&&-left d (quartic f) q))) (at-finer f (&&-right d (quartic f) q))
      ∙ sym (add-mul whole (scaled A t *ℤ monomial_at cumulus t.monomial x) (at cumulus A f x) (pos (s ^ 4)))

  -- (3) and (4)
  four : (a b c d k : ℤ) → a *ℤ k +ℤ b *ℤ k +ℤ c *ℤ k +ℤ d *ℤ k ≡ (a +ℤ b +ℤ c +ℤ d) *ℤ k
  four a b c d k = ring5 a b c d k (λ ρ e f g h i. simp (quote, e, f, g, h, i) (by _ _ _ tt))

  four-finer : (a b c d : Polynomial) → (quartic a && quartic b) && (quartic c && quartic d) ≡ true
      → at cumulus B a finely +ℤ at cumulus B b finely +ℤ at cumulus B c finely +ℤ at cumulus B d finely ≡ (at cumulus A a x +ℤ at cumulus A b x +ℤ at cumulus A c x +ℤ at cumulus A d x) *ℤ pos (s ^ 4)
  four-finer a b c d q =
      let l = &&-left (quartic a && quartic b) (quartic c && quartic d) q in
      let r = &&-right (quartic a && quartic b) (quartic c && quartic d) q in
      ap₂ ◌+ℤ◌ (ap₂ ◌+ℤ◌ (ap₂ ◌+ℤ◌ (at-finer a (&&-left (quartic a) (quartic b) l)) (at-finer b (&&-right (quartic a) (quartic b) l))) (at-finer c (&&-left (quartic c) (quartic d) r))) (at-finer d (&&-right (quartic c) (quartic d) r))
      ∙ four (at cumulus A a x) (at cumulus A b x) (at cumulus A c x) (at cumulus A d x) (pos (s ^ 4))

-- ════ the six coefficients, at 1000 times whole milliradians
-- all that (3) and (4) have
abbrev quartics : Coefficient → Bool
quartics C = ((quartic C.α-pre && quartic C.ξ) && (quartic C.η-pre && quartic C.ζ)) && ((quartic C.α-post && quartic C.ξ) && (quartic C.η-post && quartic C.ζ))

all-quartic : every cumulus.blocks (λ b. quartics (coefficient_at b)) ≡ true
unfolding every
all-quartic = refl

-- the pieces end at the same reading
below-cut : (z : ℤ) → (pos 1000 *ℤ z) ≤ℤ pos microradians.cut → z ≤ℤ pos milliradians.cut
below-cut z = ring1 z (λ ρ e. simp (quote, quote-pos ρ, e) (omega zarith))

above-cut : (z : ℤ) → z ≤ℤ pos milliradians.cut → (pos 1000 *ℤ z) ≤ℤ pos microradians.cut
above-cut z = ring1 z (λ ρ e. simp (quote, quote-pos ρ, e) (omega zarith))

same-piece : (z : ℤ) → le_z (pos 1000 *ℤ z) (pos microradians.cut) ≡ le_z z (pos milliradians.cut)
same-piece z = true-iff _ _ (λ e. fact-le_z (below-cut z (le_z-fact e))) (λ e. fact-le_z (above-cut z (le_z-fact e)))

pub fine-value : (x : ℕ → ℤ) (b : ℕ) → b < cumulus.blocks → fine_value (coefficient_at b) (λ i. pos 1000 *ℤ x i) ≡ model_value (coefficient_at b) x *ℤ pos (1000 ^ 4)
fine-value x b h = ap (λ c. cond c (pre microradians C y) (post microradians C y)) (same-piece (x 0)) ∙ in-piece (le_z (x 0) (pos milliradians.cut))
  where
    C : Coefficient
    C = coefficient_at b

    y : ℕ → ℤ
    y i = pos 1000 *ℤ x i

    q : quartics C ≡ true
    q = every-all cumulus.blocks _ all-quartic b h

    in-piece : (c : Bool) → cond c (pre microradians C y) (post microradians C y) ≡ cond c (pre milliradians C x) (post milliradians C x) *ℤ pos (1000 ^ 4)
    in-piece true = four-finer milliradians microradians 1000 refl x C.α-pre C.ξ C.η-pre C.ζ (&&-left ((quartic C.α-pre && quartic C.ξ) && (quartic C.η-pre && quartic C.ζ)) _ q)
    in-piece false = four-finer milliradians microradians 1000 refl x C.α-post C.ξ C.η-post C.ζ (&&-right ((quartic C.α-pre && quartic C.ξ) && (quartic C.η-pre && quartic C.ζ)) _ q)
