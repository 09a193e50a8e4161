-- `polynomials::add_row`: the row takes one magnitude more at each turn, and where a reach would take it past the cap, the whole row is past it.
-- Assumes nothing.
use Rattle.std.proofs.Common.{arith, ◌≡◌, ℕ, ◌+◌, ◌-◌, ◌*◌, ◌^◌, ◌<◌, ◌≤◌, sym, ◌∙◌, ap, List, map, ℤ, pos, nat_abs, w64, to_z, of_z}
use lib.ListN.{get_or-map}
use lib.Signed.{mag}
use Rattle.polynomials.specs.Numbers.{ints, nats}
use Rattle.polynomials.specs.Order.{place}
use Rattle.polynomials.specs.Group.{number}
use Rattle.polynomials.specs.Downward.{down}
use Rattle.polynomials.specs.Limits.{cap}
use Rattle.polynomials.proofs.Cap.{joint-second, reach-past}
use Rattle.polynomials.proofs.Downward.{down-start, down-more}
use Rattle.polynomials.proofs.DownwardBounds.{down-product}
use Rattle.polynomials.proofs.Turns.{read-back}
use Rattle.polynomials.proofs.add_row.Goals as goal

-- a number as it comes back, and its magnitude
size_is : (l : List ℤ) (p q : ℕ) {z : ℤ} {m : ℕ} → mag z < 2 ^ 63 → z ≡ number ints l p q → m ≡ nat_abs (to_z w64 (of_z w64 z)) → m ≡ number nats (map nat_abs l) p q
unfolding number
size_is l p q ok z-is m-is = m-is ∙ ap nat_abs (read-back ok ∙ z-is) ∙ sym (get_or-map nat_abs l (place p q) (pos 0))

-- one more of them
more : (g : ℕ → ℕ) (r n k : ℕ) {row m : ℕ} → 0 < k → k ≤ n → row ≡ down nats ◌*◌ g r (n - k) k → m ≡ g (k - 1) → row * r + m ≡ down nats ◌*◌ g r (n - (k - 1)) (k - 1)
more g r n k some low is m-is =
    let e : k ≡ k - 1 + 1 = omega arith in
    omega (arith, ap (λ a. a * r) (is ∙ ap (λ p. down nats ◌*◌ g r (n - p) p) e), m-is, down-more nats ◌*◌ g r n (k - 1) (omega arith))

pub loop-p-init : goal.loop-p-init
loop-p-init c =
    let n = c.number_at in
    let s = size_is c.args.group.now (c.args.degree - c.args.q) c.args.q n.type_inv n.ensures c.magnitude-row.ensures in
    s ∙ sym (down-start nats ◌*◌ _ _ (c.args.degree - c.args.q))

pub returns-then-row-u : goal.returns-then-row-u
returns-then-row-u c =
    let u = c.args.u in
    let g : ℕ → ℕ = λ p. number nats (map nat_abs c.args.group.now) p c.args.q in
    let last = c.args.degree - c.args.q in
    let e : c.loop-p.p ≡ c.loop-p.p - 1 + 1 = omega arith in
    let row-is : c.loop-p.row ≡ down nats ◌*◌ g u.size (last - (c.loop-p.p - 1 + 1)) (c.loop-p.p - 1 + 1) =
    c.loop-p.invariant ∙ ap (λ p. down nats ◌*◌ g u.size (last - p) p) e
    in
    let past : cap < c.loop-p.row * u.size = reach-past c.requires.1.1.0 _ c.if-row-u.true in
    let part = down-product g u.size c.requires.1.1.0.one last (c.loop-p.p - 1) (omega arith) in
    joint-second (c.args.sum * c.args.v.size) (down nats ◌*◌ g u.size last 0) (omega (arith, past, ap (λ m. m * u.size) row-is, part))

pub loop-p-preserved : goal.loop-p-preserved
loop-p-preserved c =
    let n = c.number_at-in-loop-p in
    let s = size_is c.args.group.now (c.loop-p.p - 1) c.args.q n.type_inv n.ensures c.magnitude.ensures in
    more _ c.args.u.size (c.args.degree - c.args.q) c.loop-p.p (omega arith) (omega arith) c.loop-p.invariant s
