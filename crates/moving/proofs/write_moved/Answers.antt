-- `moving::write_moved` meets its contract. Assumes nothing.
use mathlib.Core.Path.{◌≡◌, sym, ◌∙◌, ap, ap₂, subst, subst₂}
use mathlib.Core.List.{◌++◌}
use Prim.Native.Nat.{◌+◌, ◌-◌, ◌<◌}
use native.Mathlib.Nat as N
use native.Mathlib.Omega.{arith}
use lib.ListN.{length, take, drop}
use lib.Seq.{take_all}
use mir.Syntax.{w64}
use mir.Val.{to_z, of_z}
use mir.Facts.{to_z-of_z}
use Rattle.polynomials.specs.Binomial.{shift_in}
use Rattle.polynomials.proofs.Listed.{length-listed}
use Rattle.polynomials.proofs.MultipliedRows.{shift_in_lem}
use Rattle.layout.specs.Shape.{limits_length, block_start, table_length, shape}
use Rattle.layout.specs.Numbers.{limits_room}
use Rattle.layout.specs.Moving.{moved_limits, moved_block, moved_table}
use Rattle.layout.proofs.Fine.{some-table}
use Rattle.blocks.specs.Ready.{Shiftable}
use Rattle.moving.proofs.Steps.{moved-written}
use Rattle.moving.proofs.Written.{count-is, written, start-written, near, shiftable, put}
use Rattle.moving.proofs.write_moved.Goals as goal

pub write_limits-requires : goal.write_limits-requires
write_limits-requires c = (ap length c.requires.1.numbers ∙ length-listed limits_room _, omega (arith, c.requires.0.output, some-table c.args.model))

pub multiplied_out-rows-requires : goal.multiplied_out-rows-requires
multiplied_out-rows-requires c =
    rw (to_z-of_z c.ranges.shift) (N.le_trans (near (shape c.args.model) c.args.table.now c.args.variable c.args.shift c.requires.0) (omega arith))

pub loop-block-init : goal.loop-block-init
loop-block-init c =
    let a = c.args in
    let S = shape a.model in
    let t = a.table.now in
    let h = c.requires.1 in
    let limits-written : c.write_limits.new.out ≡ moved_limits S a.variable (to_z w64 (of_z w64 a.shift)) t ++ drop (limits_length S) a.out.now =
    c.write_limits.ensures ∙ (λ j. take (limits_length (shape (h.model j))) (h.numbers j) ++ drop (limits_length (shape (h.model j))) a.out.now)
    ∙ ap (λ r. r ++ drop (limits_length S) a.out.now) (moved-written a.model t a.variable a.shift)
    ∙ ap (λ z. moved_limits S a.variable z t ++ drop (limits_length S) a.out.now) (sym (to_z-of_z c.ranges.shift))
    in ap (take (block_start S 0)) limits-written ∙ start-written S t a.variable (to_z w64 (of_z w64 a.shift)) _

pub move_block-requires-clause-shiftable : goal.move_block-requires-clause-shiftable
move_block-requires-clause-shiftable c =
    let a = c.args in
    let S = shape a.model in
    let t = a.table.now in
    let s = to_z w64 (of_z w64 a.shift) in
    let rows-shift : shift_in c.multiplied_out-rows.result.numbers ≡ s = shift_in_lem s c.multiplied_out-rows.ensures in
    let l = c.loop-block in
    let from = c.start-start.result in
    let size = c.block-size.result in
    let there : l.block < S.blocks = omega (arith, c.loop-block-test.true, c.blocks-block-end.ensures) in
    subst₂ (λ z r. Shiftable S a.variable z r) (sym (rows-shift ∙ to_z-of_z c.ranges.shift)) (sym (ap₂ (λ f n. take n (drop f t)) c.start-start.ensures (count-is from size ∙ c.block-size.ensures)))
    (shiftable S t a.variable a.shift c.requires.0 l.block there)

pub loop-block-preserved : goal.loop-block-preserved
loop-block-preserved c =
    let a = c.args in
    let S = shape a.model in
    let t = a.table.now in
    let s = to_z w64 (of_z w64 a.shift) in
    let rows-shift : shift_in c.multiplied_out-rows.result.numbers ≡ s = shift_in_lem s c.multiplied_out-rows.ensures in
    let l = c.loop-block in
    let from = c.start-start.result in
    let size = c.block-size.result in
    let there : l.block < S.blocks = omega (arith, c.loop-block-test.true, c.blocks-block-end.ensures) in
    put S t a.variable s l.block l.out c.move_block.new.out there c.requires.0.table (c.loop-block.auto.out ∙ c.write_limits.auto.out ∙ c.requires.0.output) l.invariant from size c.start-start.ensures c.block-size.ensures
    (c.move_block.ensures ∙ ap (λ z. moved_block S a.variable z (take (from + size - from) (drop from t))) rows-shift)

pub returns : goal.returns
unfolding written moved_table
returns c =
    let a = c.args in
    let S = shape a.model in
    let l = c.loop-block in
    let all : l.block ≡ S.blocks = omega (arith, c.loop-block.auto.block-end, c.loop-block-test.false, c.blocks-block-end.ensures) in
    let long : length l.out ≡ table_length S = c.loop-block.auto.out ∙ c.write_limits.auto.out ∙ c.requires.0.output in
    sym (take_all (table_length S) l.out (omega (arith, long)))
    ∙ subst (λ n. take (block_start S n) l.out ≡ written S a.table.now a.variable (to_z w64 (of_z w64 a.shift)) n) all l.invariant
    ∙ ap (λ z. moved_table S a.variable z a.table.now) (to_z-of_z c.ranges.shift)
