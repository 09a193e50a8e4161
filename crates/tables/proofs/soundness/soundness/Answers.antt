-- The limits taken from the table tell what the table's tell.
use Rattle.std.proofs.Common.{◌≡◌, sym, ◌∙◌, ap, Bool, true, List, [], ℤ}
use native.Mathlib.Omega.{arith}
use Rattle.layout.specs.declared.Model.{Model}
use Rattle.layout.specs.Shape.{shape}
use Rattle.layout.specs.Limits.{good}
use Rattle.layout.specs.Sound.{reach, within_cap, light}
use Rattle.layout.specs.Reaches.{listed_reaches, reaches_of}
use Rattle.layout.specs.Refusals.{bad_limits, too_heavy}
use Rattle.layout.proofs.Fine.{some-table}
use Rattle.limits.specs.declared.Limits.{Limits}
use Rattle.laws.proofs.LimitLaws.{good-facts}
use Rattle.laws.proofs.Reaches.{reach-one, listed-one}
use Rattle.laws.proofs.Refused.{first-skip, first-hit}
use Rattle.tables.proofs.Taken.{first-nothing, taken, good-taken, range-taken, reaches-taken, light-taken}
use Rattle.tables.proofs.soundness.soundness.Goals as goal

module _ (m : Model) (t : List ℤ) (l : Limits) (e : (l.model ≡ m) × (l.numbers ≡ taken m t)) where
  -- what was worked out of the limits taken is true of the table
  is-good : {b r : Bool} → b ≡ r → b ≡ good (shape l.model) l.numbers → good (shape m) t ≡ r
  is-good k h = sym (h ∙ good-taken m t l e) ∙ k

  is-light : {b r : Bool} {reaches : _} → b ≡ r → b ≡ within_cap (shape m) t (reaches_of reaches) → reaches ≡ listed_reaches (reach (shape l.model) l.numbers) → light (shape m) t ≡ r
  is-light k h q = sym (h ∙ ap (λ v. within_cap (shape m) t (reaches_of v)) (q ∙ reaches-taken m t l e) ∙ light-taken m t) ∙ k

pub of-limits-requires : goal.of-limits-requires
of-limits-requires c = omega (arith, c.requires, some-table c.args.model)

pub returns-then-not-good : goal.returns-then-not-good
returns-then-not-good c = sym (first-hit bad_limits _ (is-good c.args.model c.args.table.now c.of-limits.result c.of-limits.ensures c.if-not-good.true c.good.ensures))

pub reaches-requires : goal.reaches-requires
reaches-requires c =
    let m = c.args.model in
    let t = c.args.table.now in
    range-taken m t c.of-limits.result c.of-limits.ensures ∙ (good-facts (shape m) t (is-good m t c.of-limits.result c.of-limits.ensures c.if-not-good.false c.good.ensures)).range

pub within_cap-requires : goal.within_cap-requires
within_cap-requires c =
    let m = c.args.model in
    let t = c.args.table.now in
    record {
      whole = c.requires;
      one = λ k h. rw (c.reaches.ensures ∙ reaches-taken m t c.of-limits.result c.of-limits.ensures) (listed-one (reach (shape m) (taken m t)) (reach-one (shape m) (taken m t)) k h);
    }

pub returns-then-not-within_cap : goal.returns-then-not-within_cap
returns-then-not-within_cap c =
    let m = c.args.model in
    let t = c.args.table.now in
    let l = c.of-limits.result in
    sym (first-skip bad_limits _ (is-good m t l c.of-limits.ensures c.if-not-good.false c.good.ensures) ∙ first-hit too_heavy [] (is-light m t l c.of-limits.ensures c.if-not-within_cap.true c.within_cap.ensures c.reaches.ensures))

pub returns : goal.returns
returns c =
    let m = c.args.model in
    let t = c.args.table.now in
    let l = c.of-limits.result in
    sym (first-skip bad_limits _ (is-good m t l c.of-limits.ensures c.if-not-good.false c.good.ensures) ∙ first-skip too_heavy [] (is-light m t l c.of-limits.ensures c.if-not-within_cap.false c.within_cap.ensures c.reaches.ensures) ∙ first-nothing)
