-- An array that `array::from_fn` makes by calls that leave what they captured as it is.
--   made-listed   it is the list of what the calls give, place by place
use mathlib.Core.Path.{◌≡◌, refl, sym, ◌∙◌, subst}
use mathlib.Core.List.{List}
use Prim.Native.Nat.{ℕ, zero, suc, ◌+◌, ◌≤◌, ◌<◌}
use native.Mathlib.Decide.{dec_lt}
use native.Mathlib.Omega.{arith}
use lib.ListN.{get_or}
use denote.Param.Members.{Mut, Called}
use Rattle.std.specs.Array.{IsFromFnResultFrom, IsFromFnResult}
use Rattle.polynomials.specs.Sum.{listed}
use Rattle.polynomials.proofs.Listed.{listed-is}

module _ {F A : Type 0} {g : Mut F (ℕ × Unit {0}) A} {f : F} (n : ℕ) (h : ℕ → A) (gives : (i : ℕ) (y : A) (q : F) → i < n → Called g f (i, tt) y q → (q ≡ f) × (y ≡ h i)) where
  at : (d : A) (ys : List A) (i m : ℕ) (p : F) → p ≡ f → i + m ≤ n → IsFromFnResultFrom g p ys i m → (k : ℕ) → i ≤ k → k < i + m → get_or ys k d ≡ h k
  at d ys i zero p e b r k l u = absurd (omega arith)
  at d ys i (suc m) p e b r k l u =
      let call : Called g f (i, tt) r.1 r.0 = subst (λ p. Called g p (i, tt) r.1 r.0) e r.3 in
      let told : (r.0 ≡ f) × (r.1 ≡ h i) = gives i r.1 r.0 (omega arith) call in
      pick told (at d ys (i + 1) m r.0 told.0 (omega arith) r.4 k) (dec_lt i k)
    where
      pick : (r.0 ≡ f) × (r.1 ≡ h i) → (i + 1 ≤ k → k < i + 1 + m → get_or ys k d ≡ h k) → Dec (i < k) → get_or ys k d ≡ h k
      pick told rest (yes s) = rest (omega arith) (omega arith)
      pick told rest (no s) = let same : k ≡ i = omega arith in rw same (r.2.1 d ∙ told.1)

  pub made-listed : (d : A) (ys : List A) → IsFromFnResult g f ys n → ys ≡ listed n h
  made-listed d ys r = sym (listed-is d n h ys r.long (λ i b. at d ys 0 n f refl (omega arith) r.each i (omega arith) (omega arith)))
