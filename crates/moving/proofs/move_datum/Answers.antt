-- `moving::move_datum` meets its contract: each way out is the first refusal that holds, and what is left is a move in an output of the table's length. Assumes nothing.
use mathlib.Core.Path.{◌≡◌, sym, ◌∙◌}
use mathlib.Core.List.{List}
use Prim.Native.Nat.{ℕ, ◌<◌}
use native.Mathlib.Omega.{arith}
use lib.IntN.{ℤ}
use Rattle.layout.specs.declared.Model.{Model}
use Rattle.layout.specs.Shape.{Shape, shape}
use Rattle.layout.specs.Moving.{move_number, move_output}
use Rattle.laws.proofs.Refused.{move-wrong-table, move-wrong-output, move-no-variable, move-kept}
use Rattle.moving.proofs.move_datum.Goals as goal

-- a refusal leaves the output as it was
module _ (m : Model) (t : List ℤ) (i : ℕ) (s : ℤ) (out : List ℤ) where
  abbrev S : Shape
  S = shape m

  refused : {n : ℕ} → move_number S t i s out ≡ n → 0 < n → (n ≡ move_number S t i s out) × (out ≡ move_output S t i s out)
  refused e h = (sym e, sym (move-kept S t i s out e h))

pub returns-then-table : goal.returns-then-table
returns-then-table c =
    let a = c.args in
    let r = refused a.model a.table.now a.variable a.shift a.out.now (move-wrong-table (shape a.model) a.table.now a.variable a.shift a.out.now (λ e. c.if-table.true (e ∙ sym c.table.ensures))) (omega arith) in
    record { number = r.0; output = r.1 }

pub returns-then-out-table : goal.returns-then-out-table
returns-then-out-table c =
    let a = c.args in
    let r = refused a.model a.table.now a.variable a.shift a.out.now (move-wrong-output (shape a.model) a.table.now a.variable a.shift a.out.now (c.if-table.false ∙ c.table.ensures) (λ e. c.if-out-table.true (e ∙ sym c.table-2.ensures))) (omega arith) in
    record { number = r.0; output = r.1 }

pub returns-then-variable-variables : goal.returns-then-variable-variables
returns-then-variable-variables c =
    let a = c.args in
    let r = refused a.model a.table.now a.variable a.shift a.out.now (move-no-variable (shape a.model) a.table.now a.variable a.shift a.out.now (c.if-table.false ∙ c.table.ensures) (c.if-out-table.false ∙ c.table-2.ensures) (omega (arith, c.if-variable-variables.true, c.variables.ensures)))
    (omega arith) in
    record { number = r.0; output = r.1 }
