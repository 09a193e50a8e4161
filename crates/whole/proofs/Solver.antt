-- A normal form of polynomial expressions over ℤ, and that it keeps their value: `solve`. `Identity` is what a proof uses.
-- An expression is over numbered atoms, with the list ρ of their values: `lit n` is n, `neglit n` is −(n + 1), and `eval e ρ` the value of e.
-- `same a b` computes whether a − b is 0 in normal form. The form is Horner's, over the atoms in order: `con c` is a constant,
-- and `hor p q` is p + x·q, with x the first atom and p over the later ones.
use mathlib.Core.Path.{◌≡◌, refl, sym, ◌∙◌, ap, ap₂}
use mathlib.Core.Bool.{Bool, false, ◌&&◌}
use mathlib.Core.List.{List, [], ◌∷◌}
use Prim.Native.Nat.{ℕ, zero, suc}
use lib.Dec.{T, eqb, eqb→eq}
use lib.IntN.{ℤ, pos, negsuc, neg_ℤ, ◌+ℤ◌, ◌*ℤ◌, +ℤ_idl, +ℤ_idr, +ℤ_assoc, +ℤ_comm, *ℤ-zero, pow}
use mir.Facts.{and_yes}
use Rattle.whole.proofs.Ring.{
  *ℤ-assoc,
  *ℤ-+ℤ,
  +ℤ-*ℤ,
  *ℤ-unit,
  neg-unit-*ℤ,
  +ℤ-swap,
  *ℤ-left-comm,
  sub-zero,
  pow-zero,
  pow-suc,
}

infixl 6 ◌⊕◌ ◌⊝◌
infixl 7 ◌⊗◌
infixr 8 ◌↑◌
infix 9 ⊖◌
pub data Expr : Type 0 where
  atom : ℕ → Expr
  lit : ℕ → Expr
  neglit : ℕ → Expr
  ◌⊕◌ : Expr → Expr → Expr
  ◌⊗◌ : Expr → Expr → Expr
  ⊖◌ : Expr → Expr
  ◌↑◌ : Expr → ℕ → Expr

abbrev pub ◌⊝◌ : Expr → Expr → Expr
a ⊝ b = a ⊕ (⊖ b)

abbrev head : List ℤ → ℤ
head [] = pos 0
head (x ∷ xs) = x

abbrev tail : List ℤ → List ℤ
tail [] = []
tail (x ∷ xs) = xs

abbrev pub nth : List ℤ → ℕ → ℤ
nth ρ zero = head ρ
nth ρ (suc i) = nth (tail ρ) i

abbrev pub eval : Expr → List ℤ → ℤ
eval (atom i) ρ = nth ρ i
eval (lit n) ρ = pos n
eval (neglit n) ρ = negsuc n
eval (a ⊕ b) ρ = eval a ρ +ℤ eval b ρ
eval (a ⊗ b) ρ = eval a ρ *ℤ eval b ρ
eval (⊖ a) ρ = neg_ℤ (eval a ρ)
eval (a ↑ n) ρ = pow (eval a ρ) n

-- ════ the normal form
pub data Pol : Type 0 where
  con : ℤ → Pol
  hor : Pol → Pol → Pol

abbrev value : Pol → List ℤ → ℤ
value (con c) ρ = c
value (hor p q) ρ = value p (tail ρ) +ℤ head ρ *ℤ value q ρ

abbrev add-con : ℤ → Pol → Pol
add-con c (con b) = con (c +ℤ b)
add-con c (hor p q) = hor (add-con c p) q

abbrev add : Pol → Pol → Pol
add (con a) q = add-con a q
add (hor p q) (con b) = hor (add-con b p) q
add (hor p q) (hor p' q') = hor (add p p') (add q q')

abbrev scale : ℤ → Pol → Pol
scale c (con b) = con (c *ℤ b)
scale c (hor p q) = hor (scale c p) (scale c q)

-- `f` on each coefficient of the first atom's powers
abbrev each : (Pol → Pol) → Pol → Pol
each f (con b) = hor (f (con b)) (con (pos 0))
each f (hor p q) = hor (f p) (each f q)

abbrev mul : Pol → Pol → Pol
mul (con a) r = scale a r
mul (hor p q) r = add (each (mul p) r) (hor (con (pos 0)) (mul q r))

abbrev power : Pol → ℕ → Pol
power p zero = con (pos 1)
power p (suc n) = mul (power p n) p

abbrev unknown : ℕ → Pol
unknown zero = hor (con (pos 0)) (con (pos 1))
unknown (suc i) = hor (unknown i) (con (pos 0))

abbrev normal : Expr → Pol
normal (atom i) = unknown i
normal (lit n) = con (pos n)
normal (neglit n) = con (negsuc n)
normal (a ⊕ b) = add (normal a) (normal b)
normal (a ⊗ b) = mul (normal a) (normal b)
normal (⊖ a) = scale (negsuc 0) (normal a)
normal (a ↑ n) = power (normal a) n

abbrev none : ℤ → Bool
none (pos n) = eqb n 0
none (negsuc n) = false

-- every coefficient is 0
abbrev vanishes : Pol → Bool
vanishes (con c) = none c
vanishes (hor p q) = vanishes p && vanishes q

abbrev pub same : Expr → Expr → Bool
same a b = vanishes (normal (a ⊝ b))

-- ════ the value of each operation on normal forms
add-con-value : (c : ℤ) (p : Pol) (ρ : List ℤ) → value (add-con c p) ρ ≡ c +ℤ value p ρ
add-con-value c (con b) ρ = refl
add-con-value c (hor p q) ρ =
    ap (λ t. t +ℤ head ρ *ℤ value q ρ) (add-con-value c p (tail ρ)) ∙ +ℤ_assoc c (value p (tail ρ)) (head ρ *ℤ value q ρ)

add-value : (p q : Pol) (ρ : List ℤ) → value (add p q) ρ ≡ value p ρ +ℤ value q ρ
add-value (con a) q ρ = add-con-value a q ρ
add-value (hor p q) (con b) ρ =
    add-con-value b (hor p q) ρ ∙ +ℤ_comm b (value p (tail ρ) +ℤ head ρ *ℤ value q ρ)
add-value (hor p q) (hor p' q') ρ =
    ap₂ ◌+ℤ◌ (add-value p p' (tail ρ)) (ap (λ t. head ρ *ℤ t) (add-value q q' ρ) ∙ *ℤ-+ℤ (head ρ) (value q ρ) (value q' ρ))
    ∙ +ℤ-swap (value p (tail ρ)) (value p' (tail ρ)) (head ρ *ℤ value q ρ) (head ρ *ℤ value q' ρ)

-- a factor c on both parts of p + x·q
hor-factor : (c : ℤ) (p q : Pol) (ρ : List ℤ) {u v : ℤ} → u ≡ c *ℤ value p (tail ρ) → v ≡ c *ℤ value q ρ
    → u +ℤ head ρ *ℤ v ≡ c *ℤ value (hor p q) ρ
hor-factor c p q ρ h k =
    ap₂ ◌+ℤ◌ h (ap (λ t. head ρ *ℤ t) k ∙ *ℤ-left-comm (head ρ) c (value q ρ))
    ∙ sym (*ℤ-+ℤ c (value p (tail ρ)) (head ρ *ℤ value q ρ))

scale-value : (c : ℤ) (p : Pol) (ρ : List ℤ) → value (scale c p) ρ ≡ c *ℤ value p ρ
scale-value c (con b) ρ = refl
scale-value c (hor p q) ρ = hor-factor c p q ρ (scale-value c p (tail ρ)) (scale-value c q ρ)

each-value : (f : Pol → Pol) (c : ℤ) (r : Pol) (ρ : List ℤ) → ((s : Pol) → value (f s) (tail ρ) ≡ c *ℤ value s (tail ρ))
    → value (each f r) ρ ≡ c *ℤ value r ρ
each-value f c (con b) ρ h = ap₂ ◌+ℤ◌ (h (con b)) (*ℤ-zero (head ρ)) ∙ +ℤ_idr (c *ℤ b)
each-value f c (hor p q) ρ h = hor-factor c p q ρ (h p) (each-value f c q ρ h)

mul-value : (p r : Pol) (ρ : List ℤ) → value (mul p r) ρ ≡ value p ρ *ℤ value r ρ
mul-value (con a) r ρ = scale-value a r ρ
mul-value (hor p q) r ρ =
    add-value (each (mul p) r) (hor (con (pos 0)) (mul q r)) ρ
    ∙ ap₂ ◌+ℤ◌ (each-value (mul p) (value p (tail ρ)) r ρ (λ s. mul-value p s (tail ρ)))
    (+ℤ_idl (head ρ *ℤ value (mul q r) ρ) ∙ ap (λ t. head ρ *ℤ t) (mul-value q r ρ) ∙ sym (*ℤ-assoc (head ρ) (value q ρ) (value r ρ)))
    ∙ sym (+ℤ-*ℤ (value p (tail ρ)) (head ρ *ℤ value q ρ) (value r ρ))

power-value : (p : Pol) (n : ℕ) (ρ : List ℤ) → value (power p n) ρ ≡ pow (value p ρ) n
power-value p zero ρ = sym (pow-zero (value p ρ))
power-value p (suc n) ρ =
    mul-value (power p n) p ρ ∙ ap (λ t. t *ℤ value p ρ) (power-value p n ρ) ∙ sym (pow-suc (value p ρ) n)

unknown-value : (i : ℕ) (ρ : List ℤ) → value (unknown i) ρ ≡ nth ρ i
unknown-value zero ρ = +ℤ_idl (head ρ *ℤ pos 1) ∙ *ℤ-unit (head ρ)
unknown-value (suc i) ρ = ap₂ ◌+ℤ◌ (unknown-value i (tail ρ)) (*ℤ-zero (head ρ)) ∙ +ℤ_idr (nth (tail ρ) i)

normal-value : (e : Expr) (ρ : List ℤ) → value (normal e) ρ ≡ eval e ρ
normal-value (atom i) ρ = unknown-value i ρ
normal-value (lit n) ρ = refl
normal-value (neglit n) ρ = refl
normal-value (a ⊕ b) ρ = add-value (normal a) (normal b) ρ ∙ ap₂ ◌+ℤ◌ (normal-value a ρ) (normal-value b ρ)
normal-value (a ⊗ b) ρ = mul-value (normal a) (normal b) ρ ∙ ap₂ ◌*ℤ◌ (normal-value a ρ) (normal-value b ρ)
normal-value (⊖ a) ρ = scale-value (negsuc 0) (normal a) ρ ∙ neg-unit-*ℤ (value (normal a) ρ) ∙ ap neg_ℤ (normal-value a ρ)
normal-value (a ↑ n) ρ = power-value (normal a) n ρ ∙ ap (λ t. pow t n) (normal-value a ρ)

none-zero : (c : ℤ) → T (none c) → c ≡ pos 0
none-zero (pos n) t = ap pos (eqb→eq n 0 t)
none-zero (negsuc n) t = absurd t

vanishes-value : (p : Pol) (ρ : List ℤ) → T (vanishes p) → value p ρ ≡ pos 0
vanishes-value (con c) ρ t = none-zero c t
vanishes-value (hor p q) ρ t =
    let both = and_yes (vanishes p) (vanishes q) t in
    ap₂ ◌+ℤ◌ (vanishes-value p (tail ρ) both.0) (ap (λ u. head ρ *ℤ u) (vanishes-value q ρ both.1) ∙ *ℤ-zero (head ρ))

pub solve : (ρ : List ℤ) (a b : Expr) → T (same a b) → eval a ρ ≡ eval b ρ
solve ρ a b t =
    sub-zero (eval a ρ) (eval b ρ) (sym (normal-value (a ⊝ b) ρ) ∙ vanishes-value (normal (a ⊝ b)) ρ t)
