-- `moving::refusal` meets its contract: the moved limits are good where they are in range; the longer reaches are those of the weight rule.
-- Assumes nothing.
use mathlib.Core.Path.{◌≡◌, sym, ◌∙◌, ap, ap₂, subst₂}
use mathlib.Core.Bool.{Bool, true}
use mathlib.Core.List.{List, []}
use Prim.Native.Nat.{ℕ}
use lib.IntN.{ℤ, nat_abs}
use mir.Facts.{to_z-of_z}
use Rattle.polynomials.specs.Sum.{listed}
use Rattle.layout.specs.declared.Model.{Model}
use Rattle.layout.specs.Shape.{Shape, shape}
use Rattle.layout.specs.Numbers.{reaches_room}
use Rattle.layout.specs.Limits.{all_in_range, good}
use Rattle.layout.specs.Sound.{reach, within_cap}
use Rattle.layout.specs.Reaches.{listed_reaches, reaches_of}
use Rattle.layout.specs.Moving.{moved_limits, move_light}
use Rattle.layout.specs.Refusals.{limit_past, move_too_heavy}
use Rattle.laws.proofs.Reaches.{listed-one, listed-longer}
use Rattle.laws.proofs.Refused.{first-skip, first-hit}
use Rattle.limits.specs.declared.Limits.{Limits}
use Rattle.tables.proofs.Taken.{first-nothing}
use Rattle.weights.specs.Ready.{Checkable}
use Rattle.moving.specs.Ready.{longer_at, Lengthened, Movable}
use Rattle.moving.proofs.Steps.{moved_room, moved-good, moved-range, moved-reaches, longer_reach, lengthened, move-one, move-light}
use Rattle.moving.proofs.refusal.Goals as goal

module _ (m : Model) (t : List ℤ) (i : ℕ) (s : ℤ) (l : Limits) (o : Movable m t i s l) where
  abbrev S : Shape
  S = shape m

  abbrev in_range : Bool
  in_range = all_in_range S (moved_limits S i s t)

  range-is : {b : Bool} → b ≡ good (shape l.model) l.numbers → b ≡ in_range
  range-is e = e ∙ moved-good m t i s l o.moved o.limits

  -- ---- where the moved limits are in range: their reaches, as they come back, the size of the shift, and the reaches as they are made longer
  module _ (ok : in_range ≡ true) {reaches : List ℕ} (reaches_are : reaches ≡ listed_reaches (reach (shape l.model) l.numbers)) {n : ℕ} (size_is : n ≡ nat_abs s) where
    known : reaches ≡ listed_reaches (reach S (moved_room m t i s))
    known = reaches_are ∙ moved-reaches m t i s l o.moved

    fits : Lengthened reaches i n
    fits = subst₂ (λ k n. Lengthened k i n) (sym known) (sym size_is) (lengthened m t i s o.variable o.limits ok)

    module _ {more : List ℕ} (more_are : more ≡ listed reaches_room (longer_at reaches i n)) where
      longer-are : more ≡ listed_reaches (longer_reach m t i s)
      longer-are = more_are ∙ ap₂ (λ k n. listed reaches_room (longer_at k i n)) known size_is ∙ listed-longer (reach S (moved_room m t i s)) i (nat_abs s)

      checkable : Checkable S t more
      checkable = record { whole = o.whole; one = λ k h. rw longer-are (listed-one (longer_reach m t i s) (move-one m t i s) k h) }

      light-is : {b : Bool} → b ≡ within_cap S t (reaches_of more) → b ≡ move_light S i s t
      light-is e = e ∙ ap (λ k. within_cap S t (reaches_of k)) longer-are ∙ move-light m t i s

-- ---- the goals
pub returns-then-not-good : goal.returns-then-not-good
returns-then-not-good c =
    let a = c.args in
    sym (first-hit limit_past _ (sym (range-is a.model a.table.now a.variable a.shift a.moved c.requires c.good.ensures) ∙ c.if-not-good.true))

pub reaches-requires : goal.reaches-requires
reaches-requires c =
    let a = c.args in
    moved-range a.model a.table.now a.variable a.shift a.moved c.requires.moved
    ∙ sym (range-is a.model a.table.now a.variable a.shift a.moved c.requires c.good.ensures) ∙ c.if-not-good.false

pub longer-reaches-requires : goal.longer-reaches-requires
longer-reaches-requires c =
    let a = c.args in
    let ok = sym (range-is a.model a.table.now a.variable a.shift a.moved c.requires c.good.ensures) ∙ c.if-not-good.false in
    fits a.model a.table.now a.variable a.shift a.moved c.requires ok c.reaches.ensures (c.unsigned_abs.ensures.value ∙ ap nat_abs (to_z-of_z c.ranges.shift))

pub within_cap-requires : goal.within_cap-requires
within_cap-requires c =
    let a = c.args in
    let ok = sym (range-is a.model a.table.now a.variable a.shift a.moved c.requires c.good.ensures) ∙ c.if-not-good.false in
    checkable a.model a.table.now a.variable a.shift a.moved c.requires ok c.reaches.ensures (c.unsigned_abs.ensures.value ∙ ap nat_abs (to_z-of_z c.ranges.shift)) c.longer-reaches.ensures

pub returns : goal.returns
returns c =
    let a = c.args in
    let ok = sym (range-is a.model a.table.now a.variable a.shift a.moved c.requires c.good.ensures) ∙ c.if-not-good.false in
    let e = light-is a.model a.table.now a.variable a.shift a.moved c.requires ok c.reaches.ensures (c.unsigned_abs.ensures.value ∙ ap nat_abs (to_z-of_z c.ranges.shift)) c.longer-reaches.ensures c.within_cap.ensures in
    sym (first-skip limit_past _ ok ∙ first-skip move_too_heavy [] (sym e ∙ c.if-not-within_cap.false) ∙ first-nothing)

pub returns-then-not-within_cap : goal.returns-then-not-within_cap
returns-then-not-within_cap c =
    let a = c.args in
    let ok = sym (range-is a.model a.table.now a.variable a.shift a.moved c.requires c.good.ensures) ∙ c.if-not-good.false in
    let e = light-is a.model a.table.now a.variable a.shift a.moved c.requires ok c.reaches.ensures (c.unsigned_abs.ensures.value ∙ ap nat_abs (to_z-of_z c.ranges.shift)) c.longer-reaches.ensures c.within_cap.ensures in
    sym (first-skip limit_past _ ok ∙ first-hit move_too_heavy [] (sym e ∙ c.if-not-within_cap.true))
