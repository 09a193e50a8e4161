-- `microradians::read`: the output's length is refused first, then the first reading outside, and the answers of the piece are written. Assumes nothing.
use Rattle.std.proofs.Common.{rules, ◌≡◌, ℕ, cond, sym, ◌∙◌, ap, ℤ, w64, to_z, of_z}
use native.Mathlib.Omega.{arith}
use lib.Signed.{le_z}
use Rattle.std.proofs.lemmas.Result.{err_from_is_err_and}
use Rattle.layout.specs.Refusals.{refusal_number}
use Rattle.laws.proofs.Refused.{refused-positive}
use Rattle.layout.specs.Shape.{cumulus}
use Rattle.layout.specs.Limits.{cut}
use Rattle.layout.specs.Reading.{readings}
use Rattle.laws.proofs.LimitLaws.{counted-half, counted-piece}
use Rattle.microradians.specs.Answer.{fine_limits}
use Rattle.microradians.proofs.Answers.{refused, wrong-room, room-number, all_near, piece-given}
use Rattle.microradians.proofs.read.Goals as goal

pub returns-then-out-ne-BLOCKS : goal.returns-then-out-ne-BLOCKS
returns-then-out-ne-BLOCKS c =
    let h = wrong-room (readings c.args.state) c.args.out.now c.if-out-ne-BLOCKS.true in record { number = h.0; output = h.1 }

pub returns-in_err-outside : goal.returns-in_err-outside
returns-in_err-outside c =
    let x = readings c.args.state in
    let r = c.in_err-outside.field-0.0 in
    let p = err_from_is_err_and c.from_residual.result c.from_residual.ensures.1 in
    let n = room-number x c.args.out.now c.if-out-ne-BLOCKS.false ∙ sym c.in_err-outside.ensures in
    let h = refused x c.args.out.now (refusal_number r) n (λ z. omega (arith, z, refused-positive r)) in
    rw (p.1, p.2) (record { number = h.0; output = h.1 })

-- ════ all readings are inside: the piece
counted : (z : ℤ) {n : ℕ} → to_z w64 (of_z w64 z) ≡ z → n ≡ cond (le_z (to_z w64 (of_z w64 z)) (cut cumulus fine_limits)) 0 1 → n ≡ cond (le_z z (cut cumulus fine_limits)) 0 1
counted z h e = e ∙ ap (λ z. cond (le_z z (cut cumulus fine_limits)) 0 1) h

pub write_answers-requires : goal.write_answers-requires
write_answers-requires c =
    let x = readings c.args.state in
    let nothing = room-number x c.args.out.now c.if-out-ne-BLOCKS.false ∙ sym c.in_ok-outside.ensures in
    (counted-half _ (counted (x 0) (search rules) c.piece-piece.ensures), (all_near _ _ nothing, c.if-out-ne-BLOCKS.false))

pub returns : goal.returns
returns c =
    let x = readings c.args.state in
    let nothing = room-number x c.args.out.now c.if-out-ne-BLOCKS.false ∙ sym c.in_ok-outside.ensures in
    let piece-is = counted-piece _ (counted (x 0) (search rules) c.piece-piece.ensures) in
    record { number = sym nothing; output = c.write_answers.ensures ∙ piece-given x c.args.out.now nothing c.piece-piece.result (sym piece-is) }
