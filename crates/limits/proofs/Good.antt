-- The test of good limits, by the two ends of each variable.
--   ends-near    of two numbers in order both are in range where the lower is not below it and the higher not above it
--   good-range   where the ends of every variable are good each limit is in range
--   good-by      then it is left to ask whether the cuts agree
use mathlib.Core.Path.{◌≡◌}
use mathlib.Core.Bool.{Bool, true, ◌&&◌}
use mathlib.Core.List.{List}
use Prim.Native.Nat.{ℕ, zero, suc, ◌-◌, ◌≤◌, ◌<◌}
use native.Mathlib.Omega.{arith}
use lib.IntN.{ℤ, pos, neg_ℤ, nat_abs}
use lib.Signed.{le_z, lt_z, ◌≤ℤ◌}
use Rattle.whole.proofs.Order.{from-two, ≤ℤ-trans, <ℤ-≤ℤ}
use Rattle.layout.specs.Shape.{Shape}
use Rattle.layout.specs.Limits.{every, lowest, highest, cut, farthest_limit, near, all_in_range, in_order, cuts_agree, good}
use Rattle.laws.proofs.Tests.{&&-left, &&-right, &&-both, true-iff, le_z-fact, fact-le_z, lt_z-fact, every-all, all-every}
use Rattle.laws.proofs.LimitLaws.{within-farthest, in-range, lowest-within, highest-within, ends-range}
use Rattle.limits.specs.Good.{first_good, others_good}

abbrev least : ℤ
least = neg_ℤ (pos farthest_limit)

abbrev most : ℤ
most = pos farthest_limit

from-least : (z : ℤ) → near z ≡ true → le_z least z ≡ true
from-least z e = &&-left (le_z least z) (le_z z most) e

to-most : (z : ℤ) → near z ≡ true → le_z z most ≡ true
to-most z e = &&-right (le_z least z) (le_z z most) e

-- three tests of which each holds
module _ (a b c : Bool) (e : a && b && c ≡ true) where
  one : a ≡ true
  one = &&-left a b (&&-left (a && b) c e)

  two : b ≡ true
  two = &&-right a b (&&-left (a && b) c e)

  three : c ≡ true
  three = &&-right (a && b) c e

all_three : {a b c : Bool} → a ≡ true → b ≡ true → c ≡ true → a && b && c ≡ true
all_three e f g = &&-both (&&-both e f) g

-- with a test that holds of numbers in order alone
module _ (a b : ℤ) (o : Bool) (h : o ≡ true → a ≤ℤ b) where
  pub ends-near : (le_z least a && o && le_z b most) ≡ (near a && o && near b)
  ends-near = true-iff (le_z least a && o && le_z b most) (near a && o && near b) all some
    where
      all : (le_z least a && o && le_z b most) ≡ true → (near a && o && near b) ≡ true
      all e =
          let low = one (le_z least a) o (le_z b most) e in
          let order = two (le_z least a) o (le_z b most) e in
          let high = three (le_z least a) o (le_z b most) e in
          let below : le_z a most ≡ true = fact-le_z (≤ℤ-trans (h order) (le_z-fact high)) in
          let above : le_z least b ≡ true = fact-le_z (≤ℤ-trans (le_z-fact {x = least} low) (h order)) in
          all_three (&&-both low below) order (&&-both above high)

      some : (near a && o && near b) ≡ true → (le_z least a && o && le_z b most) ≡ true
      some e = all_three (from-least a (one (near a) o (near b) e)) (two (near a) o (near b) e) (to-most b (three (near a) o (near b) e))

-- a number between two that are in range
between-near : (a c b : ℤ) → near a ≡ true → (le_z a c && lt_z c b) ≡ true → near b ≡ true → nat_abs c ≤ farthest_limit
between-near a c b low order high =
    let below : a ≤ℤ c = le_z-fact (&&-left (le_z a c) (lt_z c b) order) in
    let above : c ≤ℤ b = <ℤ-≤ℤ (lt_z-fact (&&-right (le_z a c) (lt_z c b) order)) in
    from-two {r = c} (≤ℤ-trans (le_z-fact {x = least} (from-least a low)) below) (≤ℤ-trans above (le_z-fact (to-most b high)))

module _ (S : Shape) (t : List ℤ) where
  abbrev cut-between : Bool
  cut-between = le_z (lowest S t 0) (cut S t) && lt_z (cut S t) (highest S t 0)

  -- both ends of a variable that is good are in range
  both-within : (i : ℕ) (o : Bool) → (near (lowest S t i) && o && near (highest S t i)) ≡ true → (nat_abs (lowest S t i) ≤ farthest_limit) × (nat_abs (highest S t i) ≤ farthest_limit)
  both-within i o e =
      let a = lowest S t i in
      let b = highest S t i in
      (within-farthest a (one (near a) o (near b) e), within-farthest b (three (near a) o (near b) e))

  module _ (v : 1 ≤ S.variables) where
    pub good-range : first_good S t ≡ true → others_good S t ≡ true → all_in_range S t ≡ true
    good-range f o = ends-range S t v (between-near a (cut S t) b (one (near a) cut-between (near b) f) (two (near a) cut-between (near b) f) (three (near a) cut-between (near b) f)) ends
      where
        a : ℤ
        a = lowest S t 0

        b : ℤ
        b = highest S t 0

        ends : (i : ℕ) → i < S.variables → (nat_abs (lowest S t i) ≤ farthest_limit) × (nat_abs (highest S t i) ≤ farthest_limit)
        ends zero h = both-within 0 cut-between f
        ends (suc i) h = both-within (suc i) (in_order S t (suc i)) (every-all (S.variables - 1) _ o i (omega arith))

    pub good-by : (first_good S t && others_good S t && cuts_agree S t) ≡ good S t
    unfolding good
    good-by = true-iff (first_good S t && others_good S t && cuts_agree S t) (good S t) all parts
      where
        others : Bool
        others = every (S.variables - 1) (λ i. in_order S t (suc i))

        all : (first_good S t && others_good S t && cuts_agree S t) ≡ true → good S t ≡ true
        all e =
            let f = one (first_good S t) (others_good S t) (cuts_agree S t) e in
            let o = two (first_good S t) (others_good S t) (cuts_agree S t) e in
            &&-both (all_three (good-range f o) (two (near (lowest S t 0)) cut-between (near (highest S t 0)) f)
            (all-every (S.variables - 1) _ (λ i h. two (near (lowest S t (suc i))) (in_order S t (suc i)) (near (highest S t (suc i))) (every-all (S.variables - 1) _ o i h))))
            (three (first_good S t) (others_good S t) (cuts_agree S t) e)

        end-near : all_in_range S t ≡ true → (i : ℕ) → i < S.variables → (near (lowest S t i) ≡ true) × (near (highest S t i) ≡ true)
        end-near r i h = (in-range (lowest S t i) (lowest-within S t r i h), in-range (highest S t i) (highest-within S t r i h))

        parts : good S t ≡ true → (first_good S t && others_good S t && cuts_agree S t) ≡ true
        parts e =
            let front = &&-left (all_in_range S t && cut-between && others) (cuts_agree S t) e in
            let Near-of = end-near (one (all_in_range S t) cut-between others front) in
            all_three
            (all_three (Near-of 0 v).0 (two (all_in_range S t) cut-between others front) (Near-of 0 v).1)
            (all-every (S.variables - 1) _ (λ i h. all_three (Near-of (suc i) (omega arith)).0 (every-all (S.variables - 1) _ (three (all_in_range S t) cut-between others front) i h) (Near-of (suc i) (omega arith)).1))
            (&&-right (all_in_range S t && cut-between && others) (cuts_agree S t) e)
