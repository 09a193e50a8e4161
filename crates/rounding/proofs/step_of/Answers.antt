-- `rounding::step_of` meets its contract: each place where the code leaves is one of the four places of a step.
use Rattle.std.proofs.Common.{◌≡◌, true, T, ℤ, ◌≤ℤ◌, ◌<ℤ◌, Ok, sym, ap, ◌∙◌, subst, to_z-of_z, w64, SFits}
use lib.Ieee.{Float, of_bits, neg}
use lib.Ieee.Scale.{finite}
use Rattle.whole.proofs.Machine.{lt-taken, lt-left}
use Rattle.rounding.proofs.Far.{far-below, far-above, near}
use Rattle.rounding.proofs.Steps.{step-not-finite, step-below, step-above, step-inside}
use Rattle.rounding.proofs.step_of.Goals as goal
use Rattle.rounding.proofs.step_of.Goals.{then-x-via-then-x, then-x-via-else-x+then-x-2, then-z-lowest-via-then-z-lowest, then-z-lowest-via-else-z-lowest+then-highest-z}

has_value : (x : Float) → true ≡ finite x → T (finite x)
has_value x e = subst T e tt

pub returns-then-not-is_finite : goal.returns-then-not-is_finite
returns-then-not-is_finite c =
    sym (step-not-finite c.args.x c.args.lowest c.args.highest (sym c.if-not-is_finite.ensures))

pub returns-then-x : goal.returns-then-x
unfolding of_bits neg
returns-then-x c =
    let f : T (finite c.args.x) = has_value c.args.x c.if-not-is_finite.ensures in
    sym
    (elim c.then-x.branch [
      | then-x-via-then-x w ↦ step-below c.args.x c.args.lowest c.args.highest f (far-below c.args.x c.args.lowest c.requires.lowest_in_range f w.if-x.true)
      | then-x-via-else-x+then-x-2 w ↦ step-above c.args.x c.args.lowest c.args.highest f (far-above c.args.x c.args.highest c.requires.highest_in_range f w.if-x-2.true)
    ])

pub nearest_whole-z-requires : goal.nearest_whole-z-requires
unfolding of_bits neg
nearest_whole-z-requires c = near c.args.x (has_value c.args.x c.if-not-is_finite.ensures) c.if-x.false c.if-x-2.false

pub returns-then-z-lowest : goal.returns-then-z-lowest
returns-then-z-lowest c =
    let f : T (finite c.args.x) = has_value c.args.x c.if-not-is_finite.ensures in
    let z = c.nearest_whole-z.ensures in
    let r : SFits w64 c.nearest_whole-z.result = record { sfits = c.nearest_whole-z.type_inv } in
    sym
    (elim c.then-z-lowest.branch [
      | then-z-lowest-via-then-z-lowest w ↦ step-below c.args.x c.args.lowest c.args.highest f (subst (λ (k : ℤ). k <ℤ c.args.lowest) z (lt-taken r c.ranges.lowest w.if-z-lowest.true))
      | then-z-lowest-via-else-z-lowest+then-highest-z w ↦ step-above c.args.x c.args.lowest c.args.highest f (subst (λ (k : ℤ). c.args.highest <ℤ k) z (lt-taken c.ranges.highest r w.if-highest-z.true))
    ])

pub returns : goal.returns
returns c =
    let f : T (finite c.args.x) = has_value c.args.x c.if-not-is_finite.ensures in
    let z = c.nearest_whole-z.ensures in
    let r : SFits w64 c.nearest_whole-z.result = record { sfits = c.nearest_whole-z.type_inv } in
    ap Ok (to_z-of_z r ∙ z)
    ∙ sym
    (step-inside c.args.x c.args.lowest c.args.highest f (subst (λ (k : ℤ). c.args.lowest ≤ℤ k) z (lt-left r c.ranges.lowest c.if-z-lowest.false))
    (subst (λ (k : ℤ). k ≤ℤ c.args.highest) z (lt-left c.ranges.highest r c.if-highest-z.false)))
