-- `polynomials::weight_at` takes one row more at each turn; what passes the cap on the way passes it at the end. Assumes nothing.
use Rattle.std.proofs.Common.{arith, ◌≡◌, ℕ, ◌+◌, ◌-◌, ◌*◌, ◌<◌, ◌≤◌, sym, ◌∙◌, ap, List, ℤ, length}
use Rattle.polynomials.specs.Order.{size}
use Rattle.polynomials.specs.Group.{weight}
use Rattle.polynomials.specs.Downward.{row_weight}
use Rattle.polynomials.specs.Limits.{cap, against}
use Rattle.polynomials.proofs.Cap.{against-within, against-passed, within-joint, passed-joint}
use Rattle.polynomials.proofs.DownwardBounds.{rows_weight, rows_none, rows_more, rows-part, rows_all}
use Rattle.polynomials.proofs.weight_at.Goals as goal

-- ════ the loop's counter k goes down to 0
module _ (d : ℕ) (l : List ℤ) (r t : ℕ) where
  -- one row more
  rows_next : (k : ℕ) {s : ℕ} → 0 < k → k ≤ d + 1 → s ≡ rows_weight d l r t k → s * t + row_weight d l r (k - 1) ≡ rows_weight d l r t (k - 1)
  rows_next k some low is = let e : k ≡ k - 1 + 1 = omega arith in rows_more d l r t (k - 1) (omega arith) (is ∙ ap (rows_weight d l r t) e)

  -- all of them
  rows_total : length l ≤ size d → (k : ℕ) {s : ℕ} → k ≡ 0 → s ≡ rows_weight d l r t k → s ≡ weight l r t
  rows_total few k e is = is ∙ ap (rows_weight d l r t) e ∙ rows_all d l r t few

pub loop-q-init : goal.loop-q-init
loop-q-init c = sym (rows_none c.args.degree c.args.group.now c.args.u.size c.args.v.size c.requires.few)

pub returns-in_err-sum : goal.returns-in_err-sum
returns-in_err-sum c =
    let a = c.args in
    let q = c.loop-q.q - 1 in
    let row = row_weight a.degree a.group.now a.u.size q in
    let past : cap < c.loop-q.sum * a.v.size + row = passed-joint (c.loop-q.sum * a.v.size) row c.in_err-sum.ensures in
    let part = rows-part a.degree a.group.now a.u.size a.v.size c.requires.few c.requires.second.one q (omega arith) in
    let next = rows_next a.degree a.group.now a.u.size a.v.size c.loop-q.q (omega arith) (omega arith) c.loop-q.invariant in
    c.from_residual.ensures ∙ against-passed (weight a.group.now a.u.size a.v.size) (omega (arith, past, next, part))

pub loop-q-preserved : goal.loop-q-preserved
loop-q-preserved c =
    let a = c.args in
    within-joint (c.loop-q.sum * a.v.size) (row_weight a.degree a.group.now a.u.size (c.loop-q.q - 1)) c.in_ok-sum.sum c.in_ok-sum.ensures
    ∙ rows_next a.degree a.group.now a.u.size a.v.size c.loop-q.q (omega arith) (omega arith) c.loop-q.invariant

pub returns-then-sum-gt-CAP : goal.returns-then-sum-gt-CAP
returns-then-sum-gt-CAP c =
    let a = c.args in
    against-passed _ c.if-sum-gt-CAP.true ∙ ap against (rows_total a.degree a.group.now a.u.size a.v.size c.requires.few c.loop-q.q (omega arith) c.loop-q.invariant)

pub returns : goal.returns
returns c =
    let a = c.args in
    against-within _ c.if-sum-gt-CAP.false ∙ ap against (rows_total a.degree a.group.now a.u.size a.v.size c.requires.few c.loop-q.q (omega arith) c.loop-q.invariant)
