-- `polynomials::group_at` takes one row more at each turn. Assumes nothing.
use Rattle.std.proofs.Common.{arith, ◌-◌, sym, ◌∙◌}
use Rattle.polynomials.specs.Numbers.{ints}
use Rattle.polynomials.proofs.Downward.{down-start}
use Rattle.polynomials.proofs.Turns.{read-back, followable-read, turn-can, turn-fits, turn-is}
use Rattle.polynomials.proofs.group_at.Goals as goal

pub loop-q-init : goal.loop-q-init
loop-q-init g c = read-back c.row_at-sum.type_inv ∙ c.row_at-sum.ensures ∙ sym (down-start ints g.P.Product.times _ _ c.args.degree)

pub times-requires : goal.times-requires
times-requires g c = turn-can (followable-read c.ranges.x c.ranges.y c.requires).all c.loop-q.q (omega arith) (omega arith) c.loop-q.invariant

pub row_at-requires : goal.row_at-requires
row_at-requires g c = let f = followable-read c.ranges.x c.ranges.y c.requires in (omega arith, (f.low, f.each (c.loop-q.q - 1) (omega arith)))

pub overflow_add-sum : goal.overflow_add-sum
overflow_add-sum g c =
    turn-fits (followable-read c.ranges.x c.ranges.y c.requires).all c.loop-q.q (omega arith) (omega arith) c.loop-q.invariant
    (read-back c.times.type_inv ∙ c.times.ensures) (read-back c.row_at.type_inv ∙ c.row_at.ensures)

pub loop-q-preserved : goal.loop-q-preserved
loop-q-preserved g c =
    turn-is (followable-read c.ranges.x c.ranges.y c.requires).all c.loop-q.q (omega arith) (omega arith) c.loop-q.invariant
    (read-back c.times.type_inv ∙ c.times.ensures) (read-back c.row_at.type_inv ∙ c.row_at.ensures)
