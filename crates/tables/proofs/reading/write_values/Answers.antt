-- The places so far, one more, and all of them.
use mathlib.Core.Path.{◌≡◌, refl, ◌∙◌}
use native.Mathlib.Omega.{arith}
use borrow.Author.Rules.{rules}
use Rattle.polynomials.specs.Sum.{listed}
use Rattle.polynomials.proofs.Listed.{listed_more}
use lib.ListN.{length-set}
use Rattle.tables.proofs.reading.write_values.Goals as goal

pub loop-block-init : goal.loop-block-init
unfolding listed
loop-block-init c = record { room = c.requires.room; written = refl }

pub loop-block-preserved : goal.loop-block-preserved
loop-block-preserved c =
    let l = c.loop-block in
    record {
      room = length-set l.out l.block _ ∙ l.invariant.room;
      written = listed_more l.out _ l.block _ (omega (arith, l.invariant.room, c.loop-block-test.true)) l.invariant.written (search rules);
    }
