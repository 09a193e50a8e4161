-- `door::read` meets its contract: the table refuses, or a step does, or the six floats are answered.
use Rattle.std.proofs.Common.{◌≡◌, refl, sym, ◌∙◌, ap, subst, ℕ, ◌<◌, true, cond, List, ℤ, length, Err, arith}
use mathlib.Core.Path.{fun_ext}
use native.Mathlib.Nat as N
use lib.Ieee.{Float}
use lib.ListN.{take}
use Rattle.std.proofs.lemmas.Result.{err_from_is_err_and}
use Rattle.polynomials.specs.Groups.{total}
use Rattle.polynomials.proofs.Listed.{length-listed}
use Rattle.layout.specs.declared.Model.TheVariants.{Cumulus}
use Rattle.layout.specs.Shape.{cumulus, table_length}
use Rattle.layout.specs.Numbers.{limits_room}
use Rattle.layout.specs.Limits.{fine_cut, good, all_in_range}
use Rattle.layout.specs.Blocks.{piece, coefficient}
use Rattle.layout.specs.Sound.{light}
use Rattle.layout.specs.Reading.{readings}
use Rattle.layout.proofs.Fine.{well-formed}
use Rattle.laws.proofs.Weights.{total-agreed}
use Rattle.laws.proofs.LimitLaws.{limits-take, fine-same, all_in_range-same, good-facts, counted-half, counted-piece}
use Rattle.tables.specs.Ready.{table_number}
use Rattle.layout.specs.Refusals.{refusal_number}
use Rattle.laws.proofs.Refused.{refused-positive}
use Rattle.tables.proofs.Steps.{known-sound, valued-in}
use Rattle.rounding.specs.Answer.{float_of}
use Rattle.thousandths.specs.Thousandths.{at_most_thousandths}
use Rattle.door.specs.Steps.{positive_zero}
use Rattle.door.specs.Door.{floats, rounded_all, step_at, true_piece, answer_with}
use Rattle.door.proofs.Numbers.{door-refused, table-small, back_below, refused-answer, done-answer}
use Rattle.door.proofs.Sound.{refuses, done, near, state-is, within}
use Rattle.door.proofs.read.Goals as goal

known : (t : List ℤ) → 0 ≡ table_number cumulus t → (length t ≡ table_length cumulus) × ((good cumulus t ≡ true) × (light cumulus t ≡ true))
known t e = known-sound cumulus t (sym e)

pub returns-in-Err : goal.returns-in-Err
returns-in-Err c =
    let t = c.args.table.now in
    let x = floats c.args.readings in
    let n = refusal_number c.in-Err.refused in
    let h = refused-positive c.in-Err.refused in
    let e = c.in-Err.ensures in (
      tt,
      refused-answer t x n positive_zero (door-refused t x n e (λ z. omega (arith, z, h))) h
          (back_below (step_at cumulus t x) n (subst (λ k. k < 11) (sym e) (table-small t))),
    )

pub of-limits-requires : goal.of-limits-requires
of-limits-requires c = omega (arith, (known c.args.table.now c.in_default.ensures).0)

pub steps_of-requires-clause-in_range : goal.steps_of-requires-clause-in_range
steps_of-requires-clause-in_range c =
    let k = known c.args.table.now c.in_default.ensures in
    ap (all_in_range cumulus) c.of-limits.ensures.1 ∙ all_in_range-same (limits-take cumulus c.args.table.now) ∙ (good-facts cumulus c.args.table.now k.1.0).range

pub returns-in_err-state : goal.returns-in_err-state
returns-in_err-state c =
    let k = known c.args.table.now c.in_default.ensures in
    let f = c.in_err-state.ensures.err in
    let r = err_from_is_err_and c.from_residual.result c.from_residual.ensures.1 in
    rw (r.1 ∙ ap Err r.2) (f.0, refuses c.args.table.now (floats c.args.readings) k.0 k.1 c.of-limits.result.numbers c.of-limits.ensures.1 c.steps_of.result c.steps_of.ensures _ f.0 f.1 f.2)

pub true_piece-piece-requires-clause-near : goal.true_piece-piece-requires-clause-near
true_piece-piece-requires-clause-near c =
    let k = known c.args.table.now c.in_default.ensures in
    near c.args.table.now (floats c.args.readings) k.0 k.1 c.of-limits.result.numbers c.of-limits.ensures.1 c.steps_of.result c.steps_of.ensures c.in_ok-state.ensures.ok.0

-- the piece, by what the comparison says
module _ (t : List ℤ) (x : ℕ → Float) (numbers : List ℤ) (o : numbers ≡ take limits_room t) (n : ℕ) (e : n ≡ cond (at_most_thousandths (x 0) (fine_cut cumulus numbers)) 0 1) where
  counted : n ≡ cond (at_most_thousandths (x 0) (fine_cut cumulus t)) 0 1
  counted = e ∙ ap (λ k. cond (at_most_thousandths (x 0) k) 0 1) (ap (fine_cut cumulus) o ∙ fine-same (limits-take cumulus t) refl (omega arith))

  half : n < 2
  half = counted-half (at_most_thousandths (x 0) (fine_cut cumulus t)) counted

  piece_is : true_piece cumulus t (x 0) ≡ piece n
  piece_is = counted-piece (at_most_thousandths (x 0) (fine_cut cumulus t)) counted

pub answered-requires : goal.answered-requires
answered-requires c =
    let t = c.args.table.now in
    let x = floats c.args.readings in
    let k = known t c.in_default.ensures in
    let o = c.of-limits.ensures.1 in
    let f = c.in_ok-state.ensures.ok in
    let state = c.in_ok-state.state in
    let n = c.true_piece-piece.result in
    valued-in cumulus t (well-formed Cumulus) state n (half t x c.of-limits.result.numbers o n c.true_piece-piece.ensures) (N.le_of_eq (sym (ap length f.1 ∙ length-listed cumulus.variables _))) k.0 k.1.1
    (λ i h. rw (state-is t x k.0 k.1 c.of-limits.result.numbers o c.steps_of.result c.steps_of.ensures f.0 state f.1 i h, ← piece_is t x c.of-limits.result.numbers o n c.true_piece-piece.ensures)
    (within t x k.0 k.1 c.of-limits.result.numbers o c.steps_of.result c.steps_of.ensures f.0 i h))

pub returns : goal.returns
returns c =
    let t = c.args.table.now in
    let x = floats c.args.readings in
    let k = known t c.in_default.ensures in
    let o = c.of-limits.ensures.1 in
    let f = c.in_ok-state.ensures.ok in
    let n = c.true_piece-piece.result in
    let at = rounded_all x in
    let same = state-is t x k.0 k.1 c.of-limits.result.numbers o c.steps_of.result c.steps_of.ensures f.0 c.in_ok-state.state f.1 in
    c.answered.ensures
    ∙ ap (answer_with 0 positive_zero)
    (fun_ext (λ b. ap float_of (total-agreed cumulus (well-formed Cumulus).in-variables t b (piece n) (readings c.in_ok-state.state) at same
    ∙ ap (λ q. total (coefficient cumulus t b q) at) (sym (piece_is t x c.of-limits.result.numbers o n c.true_piece-piece.ensures)))))
    ∙ done-answer t x (done t x k.0 k.1 c.of-limits.result.numbers o c.steps_of.result c.steps_of.ensures f.0)
