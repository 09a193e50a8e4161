-- `door::wholes_in` meets its contract: each way out is the first step that refuses, or there is none.
use Rattle.std.proofs.Common.{◌≡◌, refl, sym, ◌∙◌, ap, ℕ, ◌<◌, false, true, true≢false, Bool, List, Result, Ok, Err, None, ◌≤◌, ℤ, pos, length, get_or, arith, rules, to_z, of_z, w64}
use borrow.Author.Count.{below_more}
use Rattle.std.specs.List.{position, position_or_len}
use Rattle.std.proofs.lemmas.Grind.{common_steps}
use Rattle.std.proofs.lemmas.List.Quantifiers.{position-Some}
use Rattle.std.proofs.lemmas.List.Sums.{fails_before_first}
use lib.ListN.{length-set}
use Rattle.polynomials.specs.Sum.{listed}
use Rattle.polynomials.proofs.Listed.{listed_more, listed-all}
use Rattle.layout.specs.Shape.{cumulus}
use Rattle.layout.specs.Refusals.{outside}
use Rattle.rounding.specs.declared.Unread.{Unread}
use Rattle.rounding.specs.declared.Unread.TheVariants.{NotFinite, Outside}
use Rattle.door.specs.Steps.{is_not_finite, is_outside, whole_in, steps_of, not_finite, number_of, handed_back}
use Rattle.door.specs.Door.{steps_number, reading_for}
use Rattle.door.proofs.Numbers.{number-not-finite, number-outside, number-whole, named-outside, back_above, back-given}
use Rattle.door.proofs.wholes_in.Goals as goal

position-None : {X : Type 0} (p : X → Bool) (xs : List X) (k : ℕ) (d : X) → position p xs ≡ None → k < length xs → p (get_or xs k d) ≡ false
position-None p xs k d e h = let all : length xs ≤ position_or_len p xs = grind (arith, common_steps) in fails_before_first p xs k d (omega arith)

pub returns-in-Some-clause-err : goal.returns-in-Some-clause-err
returns-in-Some-clause-err c =
    let p = position-Some is_not_finite c.args.steps c.in-Some.i (Ok (pos 0)) (sym c.first_not_finite.ensures ∙ c.in-Some.is) in
    let h : c.in-Some.i < cumulus.variables = omega arith in
    (h, number-not-finite (steps_of c.args.steps) c.in-Some.i h p.1 p.2, back_above (steps_of c.args.steps) (not_finite cumulus c.in-Some.i) (omega arith))

pub loop-i-init : goal.loop-i-init
unfolding listed
loop-i-init c = (refl, refl, λ k h. absurd (omega arith), λ k h. position-None is_not_finite c.args.steps k (Ok (pos 0)) (sym c.first_not_finite.ensures ∙ c.in_default.is) (omega arith))

-- an error where none is not finite is one outside
refuses : (r : Result ℤ Unread) (why : Unread) → r ≡ Err why → is_not_finite r ≡ false → is_outside r ≡ true
refuses r NotFinite e f = absurd (true≢false (sym (ap is_not_finite e) ∙ f))
refuses r (Outside x) e f = ap is_outside e

pub returns-in-Err-clause-err : goal.returns-in-Err-clause-err
returns-in-Err-clause-err c =
    let s = steps_of c.args.steps in
    let i = c.loop-i.i in
    let h : i < cumulus.variables = omega arith in
    let e : s i ≡ Err c.in-Err.unread = c.in-Err.is in
    let one : is_outside (s i) ≡ true = refuses (s i) c.in-Err.unread e (c.loop-i.invariant.3 i h) in
    let n : steps_number cumulus s ≡ outside cumulus i = number-outside s c.loop-i.invariant.3 i h one c.loop-i.invariant.2 in
    let m : outside cumulus i ≡ number_of cumulus i (Err c.in-Err.unread) = sym (named-outside i (s i) one) ∙ ap (number_of cumulus i) e in
    (h, n ∙ m, ap (reading_for cumulus s) (sym m) ∙ back-given s i h ∙ ap handed_back e)

pub loop-i-preserved : goal.loop-i-preserved
loop-i-preserved c =
    let l = c.loop-i in
    let e : steps_of c.args.steps l.i ≡ Ok c.in-Ok.whole = c.in-Ok.is in
    let f : to_z w64 (of_z w64 c.in-Ok.whole) ≡ c.in-Ok.whole = search rules in (
      length-set l.state l.i _ ∙ l.invariant.0,
      listed_more l.state (λ k. whole_in (steps_of c.args.steps k)) l.i _ (omega (arith, l.invariant.0)) l.invariant.1 (f ∙ sym (ap whole_in e)),
      below_more (λ k. is_outside (steps_of c.args.steps k) ≡ false) l.i l.invariant.2 (ap is_outside e),
      l.invariant.3,
    )

pub returns-clause-ok : goal.returns-clause-ok
returns-clause-ok c =
    let l = c.loop-i in
    (number-whole (steps_of c.args.steps) l.invariant.3 (λ k h. l.invariant.2 k (omega arith)), listed-all l.state (λ k. whole_in (steps_of c.args.steps k)) l.i cumulus.variables l.invariant.0 (omega arith) l.invariant.1)
