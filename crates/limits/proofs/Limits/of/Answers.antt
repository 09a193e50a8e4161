-- `limits::Limits::of` meets its contract, place by place. Assumes nothing.
use mathlib.Core.Path.{refl, ◌∙◌}
use borrow.Author.Rules.{rules}
use lib.IntN.{pos}
use lib.ListN.{take, get_or}
use lib.Seq.{length-take-le, get_or-take}
use Rattle.polynomials.proofs.Listed.{listed-is}
use Rattle.layout.specs.Numbers.{limits_room}
use Rattle.layout.proofs.Made.{made-listed}
use Rattle.limits.proofs.Limits.of.Goals as goal

pub returns : goal.returns
returns c =
    let t = c.args.table.now in (
      refl,
      made-listed limits_room (λ k. get_or t k (pos 0)) (λ i y q h k. search rules) (pos 0) c.from_fn-numbers.result c.from_fn-numbers.ensures.items
          ∙ listed-is (pos 0) limits_room (λ k. get_or t k (pos 0)) (take limits_room t) (length-take-le limits_room t c.requires) (λ i h. get_or-take limits_room t i (pos 0) h),
    )
