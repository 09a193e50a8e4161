-- Where the limits of one are not good, the test fails at it; where all are, it holds.
use mathlib.Core.Path.{◌≡◌, sym, ◌∙◌, ap}
use mathlib.Core.Bool.{Bool, true, false, cond}
use Prim.Native.Nat.{ℕ, suc, ◌-◌, ◌≤◌, ◌<◌}
use native.Mathlib.Decide.{dec_lt}
use native.Mathlib.Omega.{arith}
use borrow.Author.Tests.{lt-ltb, le-ltb}
use lib.Dec.{ltb}
use Rattle.layout.specs.Shape.{shape}
use Rattle.layout.proofs.Fine.{few-variables}
use Rattle.laws.proofs.Tests.{all-every, every-stops}
use Rattle.limits.specs.Good.{variable_good}
use Rattle.limits.proofs.Limits.others_good.Goals as goal

-- a test that is made only below n, and fails
told : (i n : ℕ) (b : Bool) → cond (ltb i n) b true ≡ false → (i < n) × (b ≡ false)
told i n b e = pick (dec_lt i n)
  where
    pick : Dec (i < n) → (i < n) × (b ≡ false)
    pick (yes h) = (h, sym (ap (λ c. cond c b true) (lt-ltb i n h)) ∙ e)
    pick (no h) =
        let past : n ≤ i = omega arith in
        let never : true ≡ false = sym (ap (λ c. cond c b true) (le-ltb i n past)) ∙ e in
        cc

pub returns-then-not-variable_good : goal.returns-then-not-variable_good
returns-then-not-variable_good c =
    let S = shape c.args.self.model in
    let t = c.args.self.numbers in
    let i = c.loop-variable.variable in
    let least : 1 ≤ i = c.loop-variable.invariant.least in
    let back : suc (i - 1) ≡ i = omega arith in
    let fails = told i S.variables (variable_good S t i) (sym c.variable_good.ensures ∙ c.if-not-variable_good.true) in
    sym (every-stops (S.variables - 1) (λ k. variable_good S t (suc k)) (i - 1) (omega (arith, fails.0, least)) (ap (variable_good S t) back ∙ fails.1))

pub returns : goal.returns
returns c =
    let S = shape c.args.self.model in
    sym (all-every (S.variables - 1) (λ k. variable_good S c.args.self.numbers (suc k)) (λ k h. c.loop-variable.invariant.good (suc k) (omega arith) (omega (arith, few-variables c.args.self.model, c.loop-variable-test.false)) (omega arith)))
