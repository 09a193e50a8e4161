-- The minus stands before the digits of the magnitude, of which there are at most 19.
use Rattle.std.proofs.Common.{◌≡◌, true, false, List, ◌∷◌, ℕ, suc, ◌+◌, ◌≤◌, ℤ, pos, negsuc, nat_abs, int_lt, length, set, refl, sym, ap, subst, ◌∙◌, arith, w64}
use Rattle.std.proofs.Math.ListN.{length-set}
use borrow.Author.Tests.{ltb-true}
use mir.Val.{SFits, to_z, of_z}
use mir.Facts.{to_z-of_z}
use Rattle.printing.specs.Spell.{decimal, spell, written, longest_number}
use Rattle.printing.proofs.Digits.{decimal-short}
use Rattle.printing.proofs.Writing.{written-cons}
use Rattle.printing.proofs.put_number.Goals as goal
use Rattle.printing.proofs.put_number.Goals.{then-x-lt0, else-x-lt0}

spell-below : (x : ℤ) → int_lt x (pos 0) ≡ true → spell x ≡ 45 ∷ decimal (nat_abs x)
spell-below (pos n) h = absurd (omega (arith, ltb-true n 0 h))
spell-below (negsuc n) h = refl

spell-from-zero : (x : ℤ) → int_lt x (pos 0) ≡ false → spell x ≡ decimal (nat_abs x)
spell-from-zero (pos n) h = refl
spell-from-zero (negsuc n) h = cc

short : (x : ℤ) → SFits w64 x → length (decimal (nat_abs x)) ≤ 19
short (pos n) f = decimal-short 18 n (omega (arith, f.sfits))
short (negsuc n) f = decimal-short 18 (suc n) (omega (arith, f.sfits))

-- before the digits: the output, the magnitude, and where its digits start
record Ready (out₀ : List ℕ) (at : ℕ) (x : ℤ) (out : List ℕ) (n : ℕ × ℕ) : Type 0 where
  room : n.1 + length (decimal n.0) ≤ length out
  place : n.1 + length (decimal n.0) ≡ at + length (spell x)
  whole : written out n.1 (decimal n.0) ≡ written out₀ at (spell x)

module _ (out₀ : List ℕ) (at : ℕ) (x : ℤ) (room : at + longest_number ≤ length out₀) (f : SFits w64 x) {out : List ℕ} {n : ℕ × ℕ} where
  behind-minus : int_lt (to_z w64 (of_z w64 x)) (pos 0) ≡ true → out ≡ set out₀ at 45 → n ≡ (nat_abs (to_z w64 (of_z w64 x)), at + 1) → Ready out₀ at x out n
  behind-minus h e g =
      let s = spell-below x (ap (λ z. int_lt z (pos 0)) (sym (to_z-of_z f)) ∙ h) in
      let l = length-set out₀ at 45 in
      subst (λ o. Ready out₀ at x o n) (sym e)
      (subst (Ready out₀ at x (set out₀ at 45)) (sym (g ∙ ap (λ z. (nat_abs z, at + 1)) (to_z-of_z f)))
      (record {
        room = omega (arith, short x f);
        place = omega (arith, ap length s);
        whole = written-cons out₀ at 45 (decimal (nat_abs x)) (omega (arith, short x f)) ∙ ap (written out₀ at) (sym s);
      }))

  without : int_lt (to_z w64 (of_z w64 x)) (pos 0) ≡ false → out ≡ out₀ → n ≡ (nat_abs (to_z w64 (of_z w64 x)), at) → Ready out₀ at x out n
  without h e g =
      let s = spell-from-zero x (ap (λ z. int_lt z (pos 0)) (sym (to_z-of_z f)) ∙ h) in
      subst (λ o. Ready out₀ at x o n) (sym e)
      (subst (Ready out₀ at x out₀) (sym (g ∙ ap (λ z. (nat_abs z, at)) (to_z-of_z f)))
      (record { room = omega (arith, short x f); place = ap (λ ds. at + length ds) (sym s); whole = ap (written out₀ at) (sym s) }))

pub put_digits-requires : goal.put_digits-requires
put_digits-requires c =
    let a = c.args in
    let ready : Ready a.out.now a.at a.x c.if-x-lt0.out c.if-x-lt0.n = elim c.if-x-lt0.branch [
      | then-x-lt0 w ↦ behind-minus a.out.now a.at a.x c.requires c.ranges.x w.if-x-lt0.true w.out-is (w.n-is ∙ ap (λ m. (m, a.at + 1)) w.unsigned_abs.ensures.value)
      | else-x-lt0 w ↦ without a.out.now a.at a.x c.requires c.ranges.x w.if-x-lt0.false w.out-is w.n-is
    ] in
    ready.room

pub returns : goal.returns
returns c =
    let a = c.args in
    let ready : Ready a.out.now a.at a.x c.if-x-lt0.out c.if-x-lt0.n = elim c.if-x-lt0.branch [
      | then-x-lt0 w ↦ behind-minus a.out.now a.at a.x c.requires c.ranges.x w.if-x-lt0.true w.out-is (w.n-is ∙ ap (λ m. (m, a.at + 1)) w.unsigned_abs.ensures.value)
      | else-x-lt0 w ↦ without a.out.now a.at a.x c.requires c.ranges.x w.if-x-lt0.false w.out-is w.n-is
    ] in
    record { place = c.put_digits.ensures.place ∙ ready.place; output = c.put_digits.ensures.output ∙ ready.whole }
