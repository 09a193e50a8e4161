-- `moving::move_whole` meets its contract: the refusals of the table come first, and a move that has none of its own is accepted. Assumes nothing.
use mathlib.Core.Path.{◌≡◌, refl, sym, ◌∙◌, ap, subst}
use mathlib.Core.Bool.{Bool, true, false}
use mathlib.Core.List.{List, [], ◌∷◌, ◌++◌}
use Prim.Native.Nat.{ℕ, ◌<◌}
use native.Mathlib.Omega.{arith}
use lib.IntN.{ℤ, nat_abs}
use lib.ListN.{length}
use mir.Facts.{to_z-of_z}
use Rattle.polynomials.specs.Sum.{listed}
use Rattle.layout.specs.declared.Model.{Model}
use Rattle.layout.specs.Shape.{Shape, table_length, shape}
use Rattle.layout.specs.Numbers.{limits_room}
use Rattle.layout.specs.Limits.{longest_shift, good}
use Rattle.layout.specs.Refusals.{first, ◌when◌, done, bad_limits, limit_past}
use Rattle.layout.specs.Moving.{moved_limit, moved_table, move_number, move_output}
use Rattle.layout.specs.Accepted.{MoveAccepted}
use Rattle.layout.proofs.Fine.{well-formed, some-table}
use Rattle.laws.proofs.Refused.{refused-positive, first-hit, move-done, move-kept, move-given}
use Rattle.limits.specs.declared.Limits.{Limits}
use Rattle.tables.specs.Ready.{unsound}
use Rattle.tables.proofs.Taken.{taken, good-taken}
use Rattle.moving.specs.Ready.{HoldsMoved, Movable, move_own}
use Rattle.moving.proofs.Steps.{moved-held, move-bad, move-refused, move-allowed, move-far, some-refusal}
use Rattle.moving.proofs.move_whole.Goals as goal

module _ (m : Model) (t : List ℤ) (i : ℕ) (s : ℤ) (out : List ℤ) (r : (length t ≡ table_length (shape m)) × ((length out ≡ table_length (shape m)) × (i < (shape m).variables))) where
  abbrev S : Shape
  S = shape m

  -- what comes back as the number, with the output as it was
  abbrev Refused : ℕ → Type 0
  Refused n = (n ≡ move_number S t i s out) × (out ≡ move_output S t i s out)

  refused : {n : ℕ} → move_number S t i s out ≡ n → 0 < n → Refused n
  refused e h = (sym e, sym (move-kept S t i s out e h))

  bad-limits : good S t ≡ false → Refused bad_limits
  bad-limits e = refused (move-bad S t i s out r.0 r.1.0 r.1.1 e) (omega arith)

  -- a refusal of the move's own, or what the table is refused for before it
  own-refused : {n k : ℕ} → n ≡ first (move_own S t i s) → 0 < n → k ≡ first (unsound S t ++ (n when true) ∷ []) → Refused k
  own-refused {n} e h f = refused (move-refused S t i s out r.0 r.1.0 r.1.1 n e ∙ sym f) (subst (λ k. 0 < k) (sym f) (some-refusal S t n h))

  -- ---- the limits, as they come back
  module _ {l : Limits} (taken_are : (l.model ≡ m) × (l.numbers ≡ taken m t)) where
    good-is : {b : Bool} → b ≡ good (shape l.model) l.numbers → b ≡ good S t
    good-is e = e ∙ good-taken m t l taken_are

    -- ---- where they are good: the moved ones
    module _ (g : good S t ≡ true) {z : ℤ} (shift_is : z ≡ s) where
      too-far : {n : ℕ} → n ≡ nat_abs z → longest_shift < n → {k : ℕ} → k ≡ first (unsound S t ++ (limit_past when true) ∷ []) → Refused k
      too-far e h = own-refused (sym (first-hit limit_past _ (move-far m t i s r.1.1 g (omega (arith, e, ap nat_abs shift_is))))) (omega arith)

      module _ {k : Limits} (moved_are : (k.model ≡ l.model) × (k.numbers ≡ listed limits_room (moved_limit (shape l.model) i z l.numbers))) where
        held : HoldsMoved m t i s k
        held = moved-held m t i s l k z taken_are shift_is moved_are

        movable : Movable m t i z k
        movable = subst (λ z. Movable m t i z k) (sym shift_is) (record { whole = r.0; variable = r.1.1; limits = g; moved = held })

        -- ---- and where the move has no refusal of its own
        module _ {n : ℕ} (refusal_is : n ≡ first (move_own S t i z)) where
          own_is : n ≡ first (move_own S t i s)
          own_is = refusal_is ∙ ap (λ z. first (move_own S t i z)) shift_is

          module _ (none : n ≡ done) where
            allowed : MoveAccepted S t i s out
            allowed = move-allowed S t i s out r.0 r.1.0 r.1.1 (well-formed m) g (sym own_is ∙ none)

            writable : MoveAccepted S t i z out × HoldsMoved m t i z k
            writable = subst (λ z. MoveAccepted S t i z out × HoldsMoved m t i z k) (sym shift_is) (allowed, held)

            nothing : move_number S t i s out ≡ done
            nothing = let k = allowed in move-done S t i s out k.table k.output k.variable k.limits k.weights k.moved-limits k.moved-weights

            given : {new : List ℤ} → new ≡ moved_table S i z t → (done ≡ move_number S t i s out) × (new ≡ move_output S t i s out)
            given e = (sym nothing, e ∙ ap (λ z. moved_table S i z t) shift_is ∙ sym (move-given S t i s out nothing))

-- ---- the goals
pub of-limits-requires : goal.of-limits-requires
of-limits-requires c = omega (arith, c.requires.0, some-table c.args.model)

pub returns-then-not-good : goal.returns-then-not-good
returns-then-not-good c =
    let a = c.args in
    let r = bad-limits a.model a.table.now a.variable a.shift a.out.now c.requires (sym (good-is a.model a.table.now a.variable a.shift a.out.now c.requires c.of-limits.ensures c.good.ensures) ∙ c.if-not-good.true) in
    record { number = r.0; output = r.1 }

pub returns-then-unsigned_abs-gt-LONGEST : goal.returns-then-unsigned_abs-gt-LONGEST
returns-then-unsigned_abs-gt-LONGEST c =
    let a = c.args in
    let g = sym (good-is a.model a.table.now a.variable a.shift a.out.now c.requires c.of-limits.ensures c.good.ensures) ∙ c.if-not-good.false in
    let r = too-far a.model a.table.now a.variable a.shift a.out.now c.requires c.of-limits.ensures g (to_z-of_z c.ranges.shift) c.unsigned_abs.ensures.value c.if-unsigned_abs-gt-LONGEST.true c.unless_unsound.ensures in
    record { number = r.0; output = r.1 }

pub refusal-requires : goal.refusal-requires
refusal-requires c =
    let a = c.args in
    let g = sym (good-is a.model a.table.now a.variable a.shift a.out.now c.requires c.of-limits.ensures c.good.ensures) ∙ c.if-not-good.false in
    movable a.model a.table.now a.variable a.shift a.out.now c.requires c.of-limits.ensures g (to_z-of_z c.ranges.shift) c.moved-moved.ensures

pub returns-in-Err : goal.returns-in-Err
returns-in-Err c =
    let a = c.args in
    let g = sym (good-is a.model a.table.now a.variable a.shift a.out.now c.requires c.of-limits.ensures c.good.ensures) ∙ c.if-not-good.false in
    let r = own-refused a.model a.table.now a.variable a.shift a.out.now c.requires (own_is a.model a.table.now a.variable a.shift a.out.now c.requires c.of-limits.ensures g (to_z-of_z c.ranges.shift) c.moved-moved.ensures c.in-Err.ensures) (refused-positive c.in-Err.refused) c.unless_unsound-in-Err.ensures in
    record { number = r.0; output = r.1 }

pub write_moved-requires : goal.write_moved-requires
write_moved-requires c =
    let a = c.args in
    let g = sym (good-is a.model a.table.now a.variable a.shift a.out.now c.requires c.of-limits.ensures c.good.ensures) ∙ c.if-not-good.false in
    writable a.model a.table.now a.variable a.shift a.out.now c.requires c.of-limits.ensures g (to_z-of_z c.ranges.shift) c.moved-moved.ensures c.in_default.ensures refl

pub returns : goal.returns
returns c =
    let a = c.args in
    let g = sym (good-is a.model a.table.now a.variable a.shift a.out.now c.requires c.of-limits.ensures c.good.ensures) ∙ c.if-not-good.false in
    let r = given a.model a.table.now a.variable a.shift a.out.now c.requires c.of-limits.ensures g (to_z-of_z c.ranges.shift) c.moved-moved.ensures c.in_default.ensures refl c.write_moved.ensures in
    record { number = r.0; output = r.1 }
