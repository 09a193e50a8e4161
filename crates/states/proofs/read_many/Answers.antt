-- Each way out is the first refusal that holds, and the last reads each state.
use Rattle.std.proofs.Common.{◌≡◌, sym, ◌∙◌, ap, ap₂, Bool, true, false, ◌&&◌, List, ℕ, ℤ, ◌*◌, ◌<◌, length, Err}
use Rattle.std.proofs.lemmas.Result.{err_from_is_err_and}
use native.Mathlib.Omega.{arith}
use borrow.Author.Tests.{eqb-true}
use lib.Dec.{eqb}
use Rattle.polynomials.specs.Sum.{listed}
use Rattle.layout.specs.Shape.{Shape, table_length, shape}
use Rattle.layout.specs.Refusals.{first, done, refusal_number}
use Rattle.layout.specs.Moving.{joined}
use Rattle.layout.specs.Many.{number_at, output_at, many_number, many_numbers, many_output}
use Rattle.layout.proofs.Fine.{well-formed, some-blocks}
use Rattle.laws.proofs.Tests.{&&-both}
use Rattle.laws.proofs.Refused.{refused-positive}
use Rattle.laws.proofs.Many.{many-wrong-table, many-wrong-lengths, many-asked, many-kept, many-given}
use Rattle.tables.specs.Ready.{unsound}
use Rattle.tables.proofs.Steps.{sound-facts}
use Rattle.states.proofs.read_many.Goals as goal

-- what is answered and left
abbrev Outcome : Shape → List ℤ → List ℤ → List ℕ → List ℤ → ℕ → List ℕ → List ℤ → Type 0
Outcome S t states numbers out number numbers' out' = (number ≡ many_number S t states numbers out) × (numbers' ≡ many_numbers S t states numbers out) × (out' ≡ many_output S t states numbers out)

module _ (S : Shape) (t states : List ℤ) (numbers : List ℕ) (out : List ℤ) where
  -- a refusal leaves both outputs as they were
  refused : (r : ℕ) → many_number S t states numbers out ≡ r → 0 < r → Outcome S t states numbers out r numbers out
  refused r e h = let k = many-kept S t states numbers out e h in (sym e, sym k.0, sym k.1)

  abbrev given : Bool
  given = eqb (length states) (S.variables * length numbers)

  abbrev room : Bool
  room = eqb (length out) (S.blocks * length numbers)

  -- one of the two lengths does not fit
  lengths-refused : length t ≡ table_length S → (given && room) ≡ false → Outcome S t states numbers out 2 numbers out
  lengths-refused w e = refused 2 (many-wrong-lengths S t states numbers out w e) (omega arith)

  -- the lengths fit: only the table is left
  module _ (w : length t ≡ table_length S) (g : given ≡ true) (r : room ≡ true) where
    asked : many_number S t states numbers out ≡ first (unsound S t)
    asked = many-asked S t states numbers out w (&&-both g r)

    all-read : first (unsound S t) ≡ done → {numbers' : List ℕ} {out' : List ℤ} → numbers' ≡ listed (length numbers) (number_at S t states) → out' ≡ joined (length numbers) (output_at S t states) → Outcome S t states numbers out done numbers' out'
    all-read z p q = let a = many-given S t states numbers out (asked ∙ z) in (sym (asked ∙ z), p ∙ sym a.0, q ∙ sym a.1)

-- a count that was looked at, with the shape's own number of them for one state
counted : {b r : Bool} {each each' : ℕ} (count n : ℕ) → b ≡ r → b ≡ eqb count (each' * n) → each' ≡ each → eqb count (each * n) ≡ r
counted count n p q e = ap (λ m. eqb count (m * n)) (sym e) ∙ sym q ∙ p

exit-table : (c : goal.Then-table) → Outcome (shape c.args.model) c.args.table.now c.args.states.now c.args.numbers.now c.args.out.now 1 c.args.numbers.now c.args.out.now
exit-table c = refused (shape c.args.model) c.args.table.now c.args.states.now c.args.numbers.now c.args.out.now 1 (many-wrong-table (shape c.args.model) c.args.table.now c.args.states.now c.args.numbers.now c.args.out.now (λ e. c.if-table.true (e ∙ sym c.table.ensures))) (omega arith)

pub returns-then-table-clause-number : goal.returns-then-table-clause-number
returns-then-table-clause-number c = (exit-table c).0

pub returns-then-table-clause-numbers : goal.returns-then-table-clause-numbers
returns-then-table-clause-numbers c = (exit-table c).1

pub returns-then-table-clause-output : goal.returns-then-table-clause-output
returns-then-table-clause-output c = (exit-table c).2

exit-not-fits : (c : goal.Then-not-fits) → Outcome (shape c.args.model) c.args.table.now c.args.states.now c.args.numbers.now c.args.out.now 2 c.args.numbers.now c.args.out.now
exit-not-fits c = lengths-refused (shape c.args.model) c.args.table.now c.args.states.now c.args.numbers.now c.args.out.now (c.if-table.false ∙ c.table.ensures) (ap (λ b. b && room (shape c.args.model) c.args.table.now c.args.states.now c.args.numbers.now c.args.out.now) (counted (length c.args.states.now) (length c.args.numbers.now) c.if-not-fits.true c.fits.ensures c.variables.ensures))

pub returns-then-not-fits-clause-number : goal.returns-then-not-fits-clause-number
returns-then-not-fits-clause-number c = (exit-not-fits c).0

pub returns-then-not-fits-clause-numbers : goal.returns-then-not-fits-clause-numbers
returns-then-not-fits-clause-numbers c = (exit-not-fits c).1

pub returns-then-not-fits-clause-output : goal.returns-then-not-fits-clause-output
returns-then-not-fits-clause-output c = (exit-not-fits c).2

exit-not-fits-2 : (c : goal.Then-not-fits-2) → Outcome (shape c.args.model) c.args.table.now c.args.states.now c.args.numbers.now c.args.out.now 2 c.args.numbers.now c.args.out.now
exit-not-fits-2 c = lengths-refused (shape c.args.model) c.args.table.now c.args.states.now c.args.numbers.now c.args.out.now (c.if-table.false ∙ c.table.ensures) (ap₂ ◌&&◌ (counted (length c.args.states.now) (length c.args.numbers.now) c.if-not-fits.false c.fits.ensures c.variables.ensures) (counted (length c.args.out.now) (length c.args.numbers.now) c.if-not-fits-2.true c.fits-2.ensures c.blocks-2.ensures))

pub returns-then-not-fits-2-clause-number : goal.returns-then-not-fits-2-clause-number
returns-then-not-fits-2-clause-number c = (exit-not-fits-2 c).0

pub returns-then-not-fits-2-clause-numbers : goal.returns-then-not-fits-2-clause-numbers
returns-then-not-fits-2-clause-numbers c = (exit-not-fits-2 c).1

pub returns-then-not-fits-2-clause-output : goal.returns-then-not-fits-2-clause-output
returns-then-not-fits-2-clause-output c = (exit-not-fits-2 c).2

exit-unsound : (c : goal.After-from_residual) → Outcome (shape c.args.model) c.args.table.now c.args.states.now c.args.numbers.now c.args.out.now (refusal_number c.in_err-soundness.field-0.0) c.args.numbers.now c.args.out.now
exit-unsound c = refused (shape c.args.model) c.args.table.now c.args.states.now c.args.numbers.now c.args.out.now _ (asked (shape c.args.model) c.args.table.now c.args.states.now c.args.numbers.now c.args.out.now (c.if-table.false ∙ c.table.ensures) (counted (length c.args.states.now) (length c.args.numbers.now) c.if-not-fits.false c.fits.ensures c.variables.ensures) (counted (length c.args.out.now) (length c.args.numbers.now) c.if-not-fits-2.false c.fits-2.ensures c.blocks-2.ensures) ∙ sym c.in_err-soundness.ensures) (refused-positive c.in_err-soundness.field-0.0)

pub returns-in_err-soundness-clause-number : goal.returns-in_err-soundness-clause-number
returns-in_err-soundness-clause-number c =
    let p = err_from_is_err_and c.from_residual.result c.from_residual.ensures.1 in
    rw (p.1, p.2) (exit-unsound c).0

pub returns-in_err-soundness-clause-numbers : goal.returns-in_err-soundness-clause-numbers
returns-in_err-soundness-clause-numbers c = (exit-unsound c).1

pub returns-in_err-soundness-clause-output : goal.returns-in_err-soundness-clause-output
returns-in_err-soundness-clause-output c = (exit-unsound c).2

pub read_each-requires : goal.read_each-requires
read_each-requires c =
    let f = sound-facts (shape c.args.model) c.args.table.now (sym c.in_ok-soundness.ensures) in
    record {
      whole = (c.if-table.false ∙ c.table.ensures);
      given = eqb-true _ _ (counted (length c.args.states.now) (length c.args.numbers.now) c.if-not-fits.false c.fits.ensures c.variables.ensures);
      room = eqb-true _ _ (counted (length c.args.out.now) (length c.args.numbers.now) c.if-not-fits-2.false c.fits-2.ensures c.blocks-2.ensures);
      limits = f.0;
      weights = f.1;
    }

exit : (c : goal.After-out-1) → Outcome (shape c.args.model) c.args.table.now c.args.states.now c.args.numbers.now c.args.out.now done c.read_each.new.numbers c.read_each.new.out
exit c = all-read (shape c.args.model) c.args.table.now c.args.states.now c.args.numbers.now c.args.out.now (c.if-table.false ∙ c.table.ensures) (counted (length c.args.states.now) (length c.args.numbers.now) c.if-not-fits.false c.fits.ensures c.variables.ensures) (counted (length c.args.out.now) (length c.args.numbers.now) c.if-not-fits-2.false c.fits-2.ensures c.blocks-2.ensures) (sym c.in_ok-soundness.ensures) c.read_each.ensures.numbers c.read_each.ensures.output

pub returns-clause-number : goal.returns-clause-number
returns-clause-number c = (exit c).0

pub returns-clause-numbers : goal.returns-clause-numbers
returns-clause-numbers c = (exit c).1

pub returns-clause-output : goal.returns-clause-output
returns-clause-output c = (exit c).2
