-- `limits::Limits::good` meets its contract: a part of the test that fails is the test, and the last one is where the others hold. Assumes nothing.
use mathlib.Core.Path.{◌≡◌, refl, sym, ◌∙◌}
use mathlib.Core.Bool.{Bool, ◌&&◌}
use Rattle.layout.specs.Shape.{Shape, shape}
use Rattle.layout.specs.Limits.{cuts_agree, good}
use Rattle.layout.proofs.Fine.{well-formed}
use Rattle.limits.specs.declared.Limits.{Limits}
use Rattle.limits.specs.Good.{first_good, others_good}
use Rattle.limits.proofs.Good.{good-range, good-by}
use Rattle.limits.proofs.Limits.good.Goals as goal
use Rattle.limits.proofs.Limits.good.Goals.{then-first_good, else-first_good}

module _ (s : Limits) where
  abbrev S : Shape
  S = shape s.model

  -- the test by what the first two parts give
  by_parts : {f o : Bool} → first_good S s.numbers ≡ f → others_good S s.numbers ≡ o → (f && o && cuts_agree S s.numbers) ≡ good S s.numbers
  by_parts e d = sym (λ i. e i && d i && cuts_agree S s.numbers) ∙ good-by S s.numbers (well-formed s.model).has-variable

pub cuts_agree-requires : goal.cuts_agree-requires
cuts_agree-requires c =
    let s = c.args.self in
    elim c.if-first_good.branch [
      | then-first_good w ↦ good-range (S s) s.numbers (well-formed s.model).has-variable (sym c.first_good.ensures ∙ w.if-first_good.true) (sym w.others_good.ensures ∙ sym w.value-is ∙ c.if-others_good.true)
      | else-first_good w ↦ cc
    ]

pub returns-then-others_good : goal.returns-then-others_good
returns-then-others_good c =
    elim c.if-first_good.branch [
      | then-first_good w ↦ c.cuts_agree.ensures ∙ by_parts c.args.self (sym c.first_good.ensures ∙ w.if-first_good.true) (sym w.others_good.ensures ∙ sym w.value-is ∙ c.if-others_good.true)
      | else-first_good w ↦ cc
    ]

pub returns-else-others_good : goal.returns-else-others_good
returns-else-others_good c =
    elim c.if-first_good.branch [
      | then-first_good w ↦ c.if-others_good.false ∙ by_parts c.args.self (sym c.first_good.ensures ∙ w.if-first_good.true) (sym w.others_good.ensures ∙ sym w.value-is ∙ c.if-others_good.false)
      | else-first_good w ↦ c.if-others_good.false ∙ by_parts c.args.self (sym c.first_good.ensures ∙ w.if-first_good.false) refl
    ]
