-- `gtm::read` meets its contract: the readings in the room for those of any model are alpha and eta, and zeros. Assumes nothing.
use mathlib.Core.Path.{◌≡◌, refl, ◌∙◌, ap, ap₂, fun_ext}
use mathlib.Core.List.{List, [], ◌∷◌}
use Prim.Native.Nat.{ℕ, zero, suc}
use native.Mathlib.Omega.{arith}
use borrow.Author.Rules.{rules}
use mir.Syntax.{w64}
use mir.Val.{to_z, of_z}
use lib.IntN.{ℤ, pos}
use lib.ListN.{length, get_or}
use Rattle.layout.specs.Shape.{gtm}
use Rattle.layout.specs.Reading.{readings, read_number, read_output}
use Rattle.gtm.proofs.read.Goals as goal

abbrev in_room : ℤ → ℤ → List ℤ
in_room a e = a ∷ e ∷ pos 0 ∷ pos 0 ∷ pos 0 ∷ []

readings-are : (a e : ℤ) → readings (in_room a e) ≡ readings (a ∷ e ∷ [])
readings-are a e = fun_ext at
  where
    at : (i : ℕ) → readings (in_room a e) i ≡ readings (a ∷ e ∷ []) i
    at zero = refl
    at (suc zero) = refl
    at (suc (suc zero)) = refl
    at (suc (suc (suc zero))) = refl
    at (suc (suc (suc (suc zero)))) = refl
    at (suc (suc (suc (suc (suc i))))) = refl

-- of a state of two, as the code hands them on
readings-of : (s : List ℤ) {a e : ℤ} → 2 ≡ length s → a ≡ get_or s 0 (pos 0) → e ≡ get_or s 1 (pos 0) → readings (in_room a e) ≡ readings s
readings-of [] h p q = absurd (omega arith)
readings-of (x ∷ []) h p q = absurd (omega arith)
readings-of (x ∷ y ∷ []) h p q = ap₂ (λ a e. readings (in_room a e)) p q ∙ readings-are x y
readings-of (x ∷ y ∷ z ∷ s) h p q = absurd (omega arith)

pub returns-clause-number : goal.returns-clause-number
returns-clause-number c =
    let s = c.args.state in
    let two : 2 ≡ length s = search rules in
    let alpha : to_z w64 (of_z w64 (get_or s 0 (pos 0))) ≡ get_or s 0 (pos 0) = search rules in
    let eta : to_z w64 (of_z w64 (get_or s 1 (pos 0))) ≡ get_or s 1 (pos 0) = search rules in
    c.read_known.ensures.number ∙ ap (λ y. read_number gtm c.args.table.now y c.args.out.now) (readings-of s two alpha eta)

pub returns-clause-output : goal.returns-clause-output
returns-clause-output c =
    let s = c.args.state in
    let two : 2 ≡ length s = search rules in
    let alpha : to_z w64 (of_z w64 (get_or s 0 (pos 0))) ≡ get_or s 0 (pos 0) = search rules in
    let eta : to_z w64 (of_z w64 (get_or s 1 (pos 0))) ≡ get_or s 1 (pos 0) = search rules in
    c.read_known.ensures.output ∙ ap (λ y. read_output gtm c.args.table.now y c.args.out.now) (readings-of s two alpha eta)
