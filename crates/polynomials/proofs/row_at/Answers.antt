-- `polynomials::row_at` takes one number more at each turn. Assumes nothing.
use Rattle.std.proofs.Common.{arith, ◌-◌, sym, ◌∙◌}
use Rattle.polynomials.specs.Numbers.{ints}
use Rattle.polynomials.proofs.Downward.{down-start}
use Rattle.polynomials.proofs.Turns.{read-back, formed-read, turn-can, turn-fits, turn-is}
use Rattle.polynomials.proofs.row_at.Goals as goal

pub loop-p-init : goal.loop-p-init
loop-p-init g c =
    let n = c.number_at-row in
    read-back n.type_inv ∙ n.ensures ∙ sym (down-start ints g.P.Product.times _ _ (c.args.degree - c.args.q))

pub times-requires : goal.times-requires
times-requires g c = turn-can (formed-read c.ranges.x c.requires.1.1) c.loop-p.p (omega arith) (omega arith) c.loop-p.invariant

pub overflow_add-row : goal.overflow_add-row
overflow_add-row g c =
    turn-fits (formed-read c.ranges.x c.requires.1.1) c.loop-p.p (omega arith) (omega arith) c.loop-p.invariant
    (read-back c.times.type_inv ∙ c.times.ensures)
    (read-back c.number_at.type_inv ∙ c.number_at.ensures)

pub loop-p-preserved : goal.loop-p-preserved
loop-p-preserved g c =
    turn-is (formed-read c.ranges.x c.requires.1.1) c.loop-p.p (omega arith) (omega arith) c.loop-p.invariant
    (read-back c.times.type_inv ∙ c.times.ensures)
    (read-back c.number_at.type_inv ∙ c.number_at.ensures)
