-- The first reading outside is refused, and where there is none the values are written.
use Rattle.std.proofs.Common.{◌≡◌, sym, ◌∙◌, ap, ap₂, subst, rules, cond, ℕ, List, ℤ, length, ◌≤◌, ◌<◌, Err}
use Rattle.std.specs.Int.Signed.{le_z}
use Rattle.std.proofs.lemmas.Result.{err_from_is_err_and}
use native.Mathlib.Omega.{arith}
use Rattle.polynomials.specs.Sum.{listed}
use Rattle.polynomials.specs.Groups.{total}
use Rattle.layout.specs.declared.Model.{Model}
use Rattle.layout.specs.Shape.{Shape, shape}
use Rattle.layout.specs.Numbers.{variables_room}
use Rattle.layout.specs.Limits.{cut}
use Rattle.layout.specs.Blocks.{piece, coefficient}
use Rattle.layout.specs.Refusals.{done, first}
use Rattle.layout.specs.Reading.{readings, piece_at, values, read_number, read_output}
use Rattle.layout.specs.Accepted.{ReadAccepted}
use Rattle.layout.proofs.Fine.{well-formed, few-variables, some-table}
use Rattle.laws.proofs.LimitLaws.{counted-half, counted-piece}
use Rattle.laws.proofs.Refused.{refused-positive, refused_readings, read-sound, read_kept, read-given}
use Rattle.laws.proofs.Accepted.{read_told}
use Rattle.tables.specs.Ready.{SoundRead}
use Rattle.limits.specs.declared.Limits.{Limits}
use Rattle.tables.proofs.Taken.{taken, cut-taken, outside-taken}
use Rattle.tables.proofs.Steps.{valued}
use Rattle.tables.proofs.reading.read_sound.Goals as goal

module _ (m : Model) (t : List ℤ) (l : Limits) (e : (l.model ≡ m) × (l.numbers ≡ taken m t)) (x : ℕ → ℤ) (out : List ℤ) (r : SoundRead (shape m) t out) where
  abbrev S : Shape
  S = shape m

  -- what the limits taken refuse is what the read refuses
  number-is : {n : ℕ} → n ≡ first (refused_readings (shape l.model) l.numbers x) → n ≡ read_number S t x out
  number-is h = h ∙ outside-taken m t l e x ∙ sym (read-sound S t x out r.whole r.room r.limits r.weights)

  -- all readings are inside, and the piece is n
  module _ (h : done ≡ first (refused_readings (shape l.model) l.numbers x)) {n : ℕ} (k : n ≡ cond (le_z (x 0) (cut (shape l.model) l.numbers)) 0 1) where
    number_of_piece : n ≡ cond (le_z (x 0) (cut S t)) 0 1
    number_of_piece = k ∙ ap (λ z. cond (le_z (x 0) z) 0 1) (cut-taken m t l e)

    half : n < 2
    half = counted-half (le_z (x 0) (cut S t)) number_of_piece

    piece-is : piece_at S t x ≡ piece n
    piece-is = counted-piece (le_z (x 0) (cut S t)) number_of_piece

    readable : ReadAccepted S t x out
    readable = read_told S t x out (sym (number-is h))

    given : {v : List ℤ} → v ≡ listed S.blocks (λ b. total (coefficient S t b (piece n)) x) → v ≡ read_output S t x out
    unfolding values
    given q = q ∙ ap (λ p. listed S.blocks (λ b. total (coefficient S t b p) x)) (sym piece-is) ∙ sym (read-given S t x out (sym (number-is h)))

pub of-limits-requires : goal.of-limits-requires
of-limits-requires c = omega (arith, c.requires.whole, some-table c.args.model)

pub returns-in_err-outside-clause-number : goal.returns-in_err-outside-clause-number
returns-in_err-outside-clause-number c =
    let a = c.args in
    let p = err_from_is_err_and c.from_residual.result c.from_residual.ensures.1 in
    rw (p.1, p.2) (number-is a.model a.table.now c.of-limits.result c.of-limits.ensures (readings a.state) a.out.now c.requires c.in_err-outside.ensures)

pub returns-in_err-outside-clause-output : goal.returns-in_err-outside-clause-output
returns-in_err-outside-clause-output c =
    let a = c.args in
    let r = c.in_err-outside.field-0.0 in
    let e = number-is a.model a.table.now c.of-limits.result c.of-limits.ensures (readings a.state) a.out.now c.requires c.in_err-outside.ensures in
    sym (read_kept (shape a.model) a.table.now (readings a.state) a.out.now (sym e) (refused-positive r))

pub write_values-requires : goal.write_values-requires
write_values-requires c =
    let a = c.args in
    let m = a.model in
    let t = a.table.now in
    let l = c.of-limits.result in
    let k : c.piece-piece.result ≡ cond (le_z (readings a.state 0) (cut (shape l.model) l.numbers)) 0 1 = c.piece-piece.ensures ∙ search rules in
    let long : length a.state ≡ variables_room = search rules in
    record {
      room = c.requires.room;
      valued = valued (shape m) t (well-formed m) a.state a.out.now _ (half m t l c.of-limits.ensures (readings a.state) a.out.now c.requires c.in_ok-outside.ensures k) (piece-is m t l c.of-limits.ensures (readings a.state) a.out.now c.requires c.in_ok-outside.ensures k) (omega (arith, long, few-variables m)) (readable m t l c.of-limits.ensures (readings a.state) a.out.now c.requires c.in_ok-outside.ensures k);
    }

pub returns-clause-number : goal.returns-clause-number
returns-clause-number c =
    let a = c.args in
    number-is a.model a.table.now c.of-limits.result c.of-limits.ensures (readings a.state) a.out.now c.requires c.in_ok-outside.ensures

pub returns-clause-output : goal.returns-clause-output
returns-clause-output c =
    let a = c.args in
    given a.model a.table.now c.of-limits.result c.of-limits.ensures (readings a.state) a.out.now c.requires c.in_ok-outside.ensures (c.piece-piece.ensures ∙ search rules) c.write_values.ensures
