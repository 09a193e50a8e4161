-- `polynomials::value_at` may form its products and sums, which the group's weight bounds, and so gives the group's value. Assumes nothing.
use Rattle.std.proofs.Common.{ℕ, ◌-◌, ◌*◌, ◌≤◌, max, ◌∙◌, ap₂, List, ℤ, nat_abs, ◌*ℤ◌, FitsSigned, w64}
use native.Mathlib.Nat as N
use mir.Facts.{to_z-of_z}
use Rattle.polynomials.specs.Numbers.{ints, nats}
use Rattle.polynomials.specs.Group.{number, value}
use Rattle.polynomials.specs.Downward.{down, row_downward, row_weight}
use Rattle.polynomials.specs.Limits.{cap, highest_degree}
use Rattle.polynomials.specs.Ready.{Formed, Followable, Readable}
use Rattle.polynomials.proofs.Semiring.{whole}
use Rattle.polynomials.proofs.Downward.{downward-value}
use Rattle.polynomials.proofs.DownwardBounds.{number_size, row-size, row-light, weight-rows, product-fits, next_fits}
use Rattle.polynomials.proofs.Turns.{read-back, followable-read}
use Rattle.polynomials.proofs.value_at.Goals as goal

module _ (l : List ℤ) (x y : ℤ) (ready : Readable l x y) where
  -- their reaches
  abbrev r : ℕ
  r = max 1 (nat_abs x)

  abbrev t : ℕ
  t = max 1 (nat_abs y)

  abbrev Exactly : (ℕ → ℤ) → ℤ → ℕ → Type 0
  Exactly = Formed (λ a b. FitsSigned w64 (a *ℤ b)) ◌*ℤ◌

  one : 1 ≤ t
  one = N.le-max_left 1 (nat_abs y)

  formed : (f : ℕ → ℤ) (g : ℕ → ℕ) (z : ℤ) (n : ℕ) → ((i : ℕ) → nat_abs (f i) ≤ g i) → down nats ◌*◌ g (max 1 (nat_abs z)) n 0 ≤ cap → Exactly f z n
  formed f g z n each light =
      let near = N.le-max_right 1 (nat_abs z) in
      let least = N.le-max_left 1 (nat_abs z) in
      record { multiplied = product-fits f g z (max 1 (nat_abs z)) each near n least light; added = next_fits f g z (max 1 (nat_abs z)) each near n least light }

  row : (q : ℕ) → q ≤ highest_degree → row_weight highest_degree l r q ≤ cap
  row q h = N.le_trans (row-light highest_degree l r t ready.few one q h) ready.light

  rows : down nats ◌*◌ (row_weight highest_degree l r) t highest_degree 0 ≤ cap
  rows = N.le_trans (N.le_of_eq (weight-rows highest_degree l r t ready.few highest_degree (N.le_refl highest_degree))) ready.light

  followable : Followable (λ a b. FitsSigned w64 (a *ℤ b)) ◌*ℤ◌ l highest_degree x y
  followable =
      record {
        low = N.le_refl highest_degree;
        each = λ q h. formed (λ p. number ints l p q) _ x (highest_degree - q) (λ p. number_size highest_degree l p q) (row q h);
        all = formed (row_downward ints ◌*ℤ◌ highest_degree (number ints l) x) _ y highest_degree (λ q. row-size highest_degree l x r q (N.le-max_right 1 (nat_abs x))) rows;
      }

pub group_at-requires : goal.group_at-requires
group_at-requires c = followable-read c.ranges.x c.ranges.y (followable c.args.group.now c.args.x c.args.y c.requires)

pub returns : goal.returns
returns c =
    let l = c.args.group.now in
    read-back c.group_at.type_inv ∙ c.group_at.ensures ∙ downward-value whole highest_degree l c.requires.few _ _
    ∙ ap₂ (value l) (to_z-of_z c.ranges.x) (to_z-of_z c.ranges.y)
