-- The ring laws of ℤ that the kit lacks, and those of its power.
--   products   *ℤ-assoc; *ℤ-+ℤ and +ℤ-*ℤ, distributive; *ℤ-unit and unit-*ℤ, a factor 1; neg-*ℤ, *ℤ-neg; neg-unit-*ℤ, a factor −1
--   places     +ℤ-left-comm, *ℤ-left-comm: the first two of three; +ℤ-swap: the middle two of four
--   equations  +ℤ-cancel, an equal summand; sub_self, x − x; sub-zero, a difference that is 0
--   powers     pow-zero, pow-suc, pow-one; pow-add, of a sum of exponents; pow-mul, of a product
-- Each law is one of ℕ by `omega`: `up x` and `dn x` are two naturals, one of them 0, whose difference is x. `ext` says that they decide x,
-- and balance-+, balance-*, up_neg and dn-neg how they follow the operations. subℕ-case is the kit's difference of naturals by its two cases.
use mathlib.Core.Path.{◌≡◌, refl, sym, ◌∙◌, ap, ap₂}
use mathlib.Core.Bool.{Bool, true, false, not, cond}
use Prim.Native.Nat.{ℕ, zero, suc, ◌+◌, ◌*◌, ◌-◌, ◌<◌, ◌≤◌}
use native.Mathlib.Omega.{arith}
use native.Mathlib.Nat.{add-zero, add-suc}
use lib.Dec.{T, ltb, ltb→lt, nltb→le}
use lib.IntN.{
  ℤ,
  pos,
  negsuc,
  neg_ℤ,
  sub_ℕ,
  ◌+ℤ◌,
  ◌-ℤ◌,
  ◌*ℤ◌,
  +ℤ_idl,
  +ℤ_assoc,
  +ℤ_comm,
  +ℤ_invr,
  -ℤ-+ℤ_cancel,
  *ℤ_comm,
  one,
  pow,
}

abbrev pub up : ℤ → ℕ
up (pos n) = n
up (negsuc n) = 0

abbrev pub dn : ℤ → ℕ
dn (pos n) = 0
dn (negsuc n) = suc n

pub ext : (x y : ℤ) → up x + dn y ≡ up y + dn x → x ≡ y
ext (pos a) (pos b) e = ap pos (omega arith)
ext (pos a) (negsuc b) e = absurd (omega arith)
ext (negsuc a) (pos b) e = absurd (omega arith)
ext (negsuc a) (negsuc b) e = ap negsuc (omega arith)

pub subℕ-case : (a b : ℕ) (P : ℤ → Type 0) → (a < b → P (negsuc (b - suc a))) → (b ≤ a → P (pos (a - b))) → P (sub_ℕ a b)
subℕ-case a b P f g = go (ltb a b) (λ t. f (ltb→lt a b t)) (λ t. g (nltb→le a b t))
  where
    go : (c : Bool) → (T c → P (negsuc (b - suc a))) → (T (not c) → P (pos (a - b))) → P (cond c (negsuc (b - suc a)) (pos (a - b)))
    go true f g = f tt
    go false f g = g tt

sub-balance : (a b : ℕ) → up (sub_ℕ a b) + b ≡ a + dn (sub_ℕ a b)
sub-balance a b = subℕ-case a b (λ z. up z + b ≡ a + dn z) (λ h. omega arith) (λ h. omega arith)

pub balance-+ : (x y : ℤ) → up (x +ℤ y) + dn x + dn y ≡ up x + up y + dn (x +ℤ y)
balance-+ (pos a) (pos b) = omega arith
balance-+ (pos a) (negsuc b) = omega (arith, sub-balance a (suc b))
balance-+ (negsuc a) (pos b) = omega (arith, sub-balance b (suc a))
balance-+ (negsuc a) (negsuc b) = omega arith

pub up_neg : (x : ℤ) → up (neg_ℤ x) ≡ dn x
up_neg (pos zero) = refl
up_neg (pos (suc n)) = refl
up_neg (negsuc n) = refl

pub dn-neg : (x : ℤ) → dn (neg_ℤ x) ≡ up x
dn-neg (pos zero) = refl
dn-neg (pos (suc n)) = refl
dn-neg (negsuc n) = refl

pub balance-* : (x y : ℤ) → up (x *ℤ y) + up x * dn y + dn x * up y ≡ up x * up y + dn x * dn y + dn (x *ℤ y)
balance-* (pos a) (pos b) = omega arith
balance-* (pos a) (negsuc b) = omega (arith, up_neg (pos (a * suc b)), dn-neg (pos (a * suc b)))
balance-* (negsuc a) (pos b) = omega (arith, up_neg (pos (suc a * b)), dn-neg (pos (suc a * b)))
balance-* (negsuc a) (negsuc b) = omega arith

-- ════ products
pub *ℤ-assoc : (x y z : ℤ) → (x *ℤ y) *ℤ z ≡ x *ℤ (y *ℤ z)
*ℤ-assoc x y z =
    ext _ _ (omega (
      arith,
      balance-* (x *ℤ y) z,
      balance-* x (y *ℤ z),
      ap (λ (t : ℕ). t * up z) (balance-* x y),
      ap (λ (t : ℕ). t * dn z) (balance-* x y),
      ap (λ (t : ℕ). up x * t) (balance-* y z),
      ap (λ (t : ℕ). dn x * t) (balance-* y z),
    ))

pub *ℤ-+ℤ : (x y z : ℤ) → x *ℤ (y +ℤ z) ≡ x *ℤ y +ℤ x *ℤ z
*ℤ-+ℤ x y z =
    ext _ _ (omega (
      arith,
      balance-* x (y +ℤ z),
      balance-+ (x *ℤ y) (x *ℤ z),
      balance-* x y,
      balance-* x z,
      ap (λ (t : ℕ). up x * t) (balance-+ y z),
      ap (λ (t : ℕ). dn x * t) (balance-+ y z),
    ))

pub +ℤ-*ℤ : (x y z : ℤ) → (x +ℤ y) *ℤ z ≡ x *ℤ z +ℤ y *ℤ z
+ℤ-*ℤ x y z = *ℤ_comm (x +ℤ y) z ∙ *ℤ-+ℤ z x y ∙ ap₂ ◌+ℤ◌ (*ℤ_comm z x) (*ℤ_comm z y)

pub *ℤ-unit : (x : ℤ) → x *ℤ pos 1 ≡ x
*ℤ-unit x = ext _ _ (omega (arith, balance-* x (pos 1)))

pub unit-*ℤ : (x : ℤ) → pos 1 *ℤ x ≡ x
unit-*ℤ x = *ℤ_comm (pos 1) x ∙ *ℤ-unit x

pub neg-*ℤ : (x y : ℤ) → neg_ℤ x *ℤ y ≡ neg_ℤ (x *ℤ y)
neg-*ℤ x y =
    ext _ _ (omega (
      arith,
      balance-* (neg_ℤ x) y,
      balance-* x y,
      up_neg (x *ℤ y),
      dn-neg (x *ℤ y),
      ap (λ (t : ℕ). t * up y) (up_neg x),
      ap (λ (t : ℕ). t * dn y) (up_neg x),
      ap (λ (t : ℕ). t * up y) (dn-neg x),
      ap (λ (t : ℕ). t * dn y) (dn-neg x),
    ))

pub *ℤ-neg : (x y : ℤ) → x *ℤ neg_ℤ y ≡ neg_ℤ (x *ℤ y)
*ℤ-neg x y = *ℤ_comm x (neg_ℤ y) ∙ neg-*ℤ y x ∙ ap neg_ℤ (*ℤ_comm y x)

pub neg-unit-*ℤ : (x : ℤ) → negsuc 0 *ℤ x ≡ neg_ℤ x
neg-unit-*ℤ x = neg-*ℤ (pos 1) x ∙ ap neg_ℤ (unit-*ℤ x)

-- ════ places
-- Said of any operation that is associative and commutative.
module _ (f : ℤ → ℤ → ℤ) (assoc : (x y z : ℤ) → f (f x y) z ≡ f x (f y z)) (comm : (x y : ℤ) → f x y ≡ f y x) where
  left_comm : (x y z : ℤ) → f x (f y z) ≡ f y (f x z)
  left_comm x y z = sym (assoc x y z) ∙ ap (λ t. f t z) (comm x y) ∙ assoc y x z

  swap : (a b c d : ℤ) → f (f a b) (f c d) ≡ f (f a c) (f b d)
  swap a b c d = assoc a b (f c d) ∙ ap (f a) (left_comm b c d) ∙ sym (assoc a c (f b d))

pub +ℤ-left-comm : (x y z : ℤ) → x +ℤ (y +ℤ z) ≡ y +ℤ (x +ℤ z)
+ℤ-left-comm = left_comm ◌+ℤ◌ +ℤ_assoc +ℤ_comm

pub +ℤ-swap : (a b c d : ℤ) → (a +ℤ b) +ℤ (c +ℤ d) ≡ (a +ℤ c) +ℤ (b +ℤ d)
+ℤ-swap = swap ◌+ℤ◌ +ℤ_assoc +ℤ_comm

pub *ℤ-left-comm : (x y z : ℤ) → x *ℤ (y *ℤ z) ≡ y *ℤ (x *ℤ z)
*ℤ-left-comm = left_comm ◌*ℤ◌ *ℤ-assoc *ℤ_comm

*ℤ-swap : (a b c d : ℤ) → (a *ℤ b) *ℤ (c *ℤ d) ≡ (a *ℤ c) *ℤ (b *ℤ d)
*ℤ-swap = swap ◌*ℤ◌ *ℤ-assoc *ℤ_comm

-- ════ equations
pub +ℤ-cancel : (x y z : ℤ) → x +ℤ y ≡ x +ℤ z → y ≡ z
+ℤ-cancel x y z e = ext _ _ (omega (arith, balance-+ x y, balance-+ x z, ap up e, ap dn e))

pub sub_self : (x : ℤ) → x -ℤ x ≡ pos 0
sub_self = +ℤ_invr

pub sub-zero : (x y : ℤ) → x -ℤ y ≡ pos 0 → x ≡ y
sub-zero x y e = sym (-ℤ-+ℤ_cancel x y) ∙ ap (λ t. t +ℤ y) e ∙ +ℤ_idl y

-- ════ powers
pub pow-zero : (x : ℤ) → pow x 0 ≡ pos 1
unfolding pow one
pow-zero x = refl

pub pow-suc : (x : ℤ) (n : ℕ) → pow x (suc n) ≡ pow x n *ℤ x
unfolding pow
pow-suc x n = refl

pub pow-one : (x : ℤ) → pow x 1 ≡ x
pow-one x = pow-suc x 0 ∙ ap (λ t. t *ℤ x) (pow-zero x) ∙ unit-*ℤ x

pub pow-add : (x : ℤ) (m n : ℕ) → pow x (m + n) ≡ pow x m *ℤ pow x n
pow-add x m zero = ap (pow x) (add-zero m) ∙ sym (*ℤ-unit (pow x m)) ∙ ap (λ t. pow x m *ℤ t) (sym (pow-zero x))
pow-add x m (suc n) =
    ap (pow x) (add-suc m n) ∙ pow-suc x (m + n) ∙ ap (λ t. t *ℤ x) (pow-add x m n) ∙ *ℤ-assoc (pow x m) (pow x n) x
    ∙ ap (λ t. pow x m *ℤ t) (sym (pow-suc x n))

pub pow-mul : (x y : ℤ) (n : ℕ) → pow (x *ℤ y) n ≡ pow x n *ℤ pow y n
unfolding pow one
pow-mul x y zero = refl
pow-mul x y (suc n) = ap (λ t. t *ℤ (x *ℤ y)) (pow-mul x y n) ∙ *ℤ-swap (pow x n) (pow y n) x y
