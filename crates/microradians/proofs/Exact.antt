-- How far an answer is from the exact sum of the printed polynomials.
--   group-off   a printed polynomial in fixed point, against its group in the model
--   kinds-off   the groups of a piece, over any kinds and polynomials
--   answer-off  a coefficient, by its reaches
--   followed, slack-counted   what that comes to: by the envelope's reaches 6.91 units of 10⁻⁹; a half for each of 37 products
--   near-followed, near-counted, near-asked   every answer of an accepted read
use mathlib.Core.Path.{◌≡◌, refl, sym, ◌∙◌, ap, ap₂}
use mathlib.Core.Bool.{Bool, true, false, cond}
use mathlib.Core.List.{List, [], ◌∷◌}
use Prim.Native.Nat.{ℕ, suc, ◌+◌, ◌*◌, ◌^◌, ◌≤◌, ◌<◌}
use native.Mathlib.Nat as N
use native.Mathlib.Omega.{arith}
use borrow.Author.Tests.{leb-true}
use lib.IntN.{ℤ, pos, nat_abs, ◌+ℤ◌, ◌-ℤ◌, ◌*ℤ◌, +ℤ_idl}
use lib.ListN.{get_or}
use lib.Signed.{le_z}
use Rattle.whole.proofs.Identity.{quote, quote-pos, by, ring2}
use Rattle.whole.proofs.Magnitudes.{nat_abs-*}
use Rattle.polynomials.specs.Numbers.{ints}
use Rattle.polynomials.specs.Order.{powers, size, place}
use Rattle.polynomials.specs.Sum.{listed}
use Rattle.polynomials.specs.Group.{number}
use Rattle.polynomials.specs.Groups.{value_of, total}
use Rattle.polynomials.specs.Limits.{highest_degree}
use Rattle.polynomials.specs.Downward.{downward}
use Rattle.polynomials.proofs.Semiring.{whole}
use Rattle.polynomials.proofs.Listed.{length-listed, get_or-listed}
use Rattle.polynomials.proofs.Places.{place-below, powers-place}
use Rattle.polynomials.proofs.Downward.{downward-ext, downward-value}
use Rattle.layout.specs.declared.Kind.{Kind}
use Rattle.layout.specs.Shape.{InVariables, cumulus}
use Rattle.layout.specs.Blocks.{Piece, low, high, counts, keep, chosen}
use Rattle.layout.specs.Limits.{cut}
use Rattle.layout.specs.Refusals.{done}
use Rattle.layout.specs.Reading.{piece_at}
use Rattle.layout.specs.Sound.{reach}
use Rattle.laws.proofs.Tests.{every-all}
use Rattle.layout.proofs.Fine.{well-formed}
use Rattle.layout.specs.declared.Model.TheVariants.{Cumulus}
use Rattle.printed.specs.Notation.{Polynomial}
use Rattle.printed.specs.Values.{scale_in, together}
use Rattle.cumulus_page.specs.Model.{Coefficient, coefficient_at, microradians, pre, post, fine_value, parts}
use Rattle.printed.specs.Stored.{degree, printed_at, group, by_kind, each_belongs}
use Rattle.cumulus_page.proofs.Model.{equation, held-equation, own-variables}
use Rattle.printed.proofs.Answers.{all_hold}
use Rattle.microradians.specs.Fixed.{per_printed, in_fixed_point}
use Rattle.microradians.specs.Answer.{fine_limits, answer_in, fine_number, fine_output}
use Rattle.microradians.proofs.Answers.{number-given, within-reach, reach_near}
use Rattle.microradians.proofs.Off.{M, Off, off-+, off_nil}
use Rattle.microradians.proofs.Followed.{printed_of, slack_of, slacks, slack_in, all-followed}
use Rattle.microradians.proofs.Slack.{exactly, downward-off, products, multiplications, counted}

-- ════ one group
module _ (k : Kind) (f : Polynomial) (x : ℕ → ℤ) (ρ : ℕ → ℕ) (d : k.degree ≤ highest_degree) (hu : nat_abs (x k.u) ≤ ρ k.u) (hv : nat_abs (x k.v) ≤ ρ k.v) where
  abbrev numbers : List ℤ
  numbers = (group cumulus (scale_in microradians) k f).numbers

  number_is : (p q : ℕ) → p + q ≤ k.degree → exactly (printed_of k f) k.degree highest_degree p q ≡ number ints numbers p q
  unfolding number
  number_is p q l =
      sym
      (get_or-listed (size k.degree) (λ i. printed_at cumulus k f i *ℤ pos (scale_in microradians (degree (powers i)))) (place p q) (pos 0) (place-below (suc k.degree) p q (omega arith))
      ∙ ap₂ (λ a b. printed_at cumulus k f (place p q) *ℤ pos (scale_in microradians (a + b))) (powers-place p q).0 (powers-place p q).1)

  exact-is : downward ints ◌*ℤ◌ k.degree (exactly (printed_of k f) k.degree highest_degree) (x k.u) (x k.v) ≡ value_of (group cumulus (scale_in microradians) k f) x
  exact-is =
      downward-ext ints ◌*ℤ◌ k.degree _ (number ints numbers) (x k.u) (x k.v) number_is
      ∙ downward-value whole k.degree numbers (N.le_of_eq (length-listed (size k.degree) _)) (x k.u) (x k.v)

  pub group-off : Off (M ^ highest_degree) (slack_of ρ k f) (in_fixed_point x k f) (value_of (group cumulus (scale_in microradians) k f) x)
  group-off = rw exact-is at (downward-off (printed_of k f) k.degree highest_degree (x k.u) (x k.v) (ρ k.u) (ρ k.v) hu hv d)

-- ════ the groups that count in a piece
abbrev pub Low : List Kind → Type 0
Low [] = Unit
Low (k ∷ ks) = (k.degree ≤ highest_degree) × Low ks

module _ (n : ℕ) (x : ℕ → ℤ) (ρ : ℕ → ℕ) (h : (i : ℕ) → i < n → nat_abs (x i) ≤ ρ i) (p : Piece) where
  kinds-off : (g : ℕ) (ks : List Kind) (fs : List Polynomial) → InVariables n ks → Low ks
      → Off (M ^ highest_degree) (slacks ρ p g ks fs) (together p g (by_kind (in_fixed_point x) ks fs)) (total (chosen p g (by_kind (group cumulus (scale_in microradians)) ks fs)) x)
  unfolding chosen total
  kinds-off g [] fs v l = off_nil _ refl refl
  kinds-off g (k ∷ ks) [] v l = off_nil _ refl refl
  kinds-off g (k ∷ ks) (f ∷ fs) v l = next (counts g p) (group-off k f x ρ l.0 (h _ v.0) (h _ v.1)) (kinds-off (suc g) ks fs v.2 l.1)
    where
      next : (b : Bool) → Off (M ^ highest_degree) (slack_of ρ k f) (in_fixed_point x k f) (value_of (group cumulus (scale_in microradians) k f) x)
          → Off (M ^ highest_degree) (slacks ρ p (suc g) ks fs) (together p (suc g) (by_kind (in_fixed_point x) ks fs)) (total (chosen p (suc g) (by_kind (group cumulus (scale_in microradians)) ks fs)) x)
          → Off (M ^ highest_degree) (cond b (slack_of ρ k f) 0 + slacks ρ p (suc g) ks fs) (cond b (in_fixed_point x k f) (pos 0) +ℤ together p (suc g) (by_kind (in_fixed_point x) ks fs)) (total (keep b (group cumulus (scale_in microradians) k f) (chosen p (suc g) (by_kind (group cumulus (scale_in microradians)) ks fs))) x)
      next true o r = off-+ o r
      next false o r = rw (+ℤ_idl (together p (suc g) (by_kind (in_fixed_point x) ks fs)), N.zero-add (slacks ρ p (suc g) ks fs)) r

-- ════ a coefficient
low-degrees : Low cumulus.kinds
low-degrees = (omega arith, (omega arith, (omega arith, (omega arith, tt))))

pub answer-off : (x : ℕ → ℤ) (p : Piece) (C : Coefficient) → each_belongs cumulus (parts C) ≡ all_hold cumulus → ((i : ℕ) → i < cumulus.variables → nat_abs (x i) ≤ reach cumulus fine_limits p i)
    → Off (M ^ highest_degree) (slack_in p C) (answer_in p C x) (equation microradians p C x)
answer-off x p C b h =
    rw (held-equation microradians x p C b) at (kinds-off cumulus.variables x (reach cumulus fine_limits p) h p 0 cumulus.kinds (parts C) (well-formed Cumulus).in-variables low-degrees)

-- ════ by the reaches
pub followed : (p : Piece) (b : ℕ) → b < cumulus.blocks → slack_in p (coefficient_at b) ≤ 2 * (691 * 10 ^ 22)
followed low b h = leb-true _ (2 * (691 * 10 ^ 22)) (every-all cumulus.blocks _ (every-all 2 _ all-followed 0 (omega arith)) b h)
followed high b h = leb-true _ (2 * (691 * 10 ^ 22)) (every-all cumulus.blocks _ (every-all 2 _ all-followed 1 (omega arith)) b h)

-- ════ by the number of products
abbrev all_products : Piece → ℕ → List Kind → ℕ
all_products p g [] = 0
all_products p g (k ∷ ks) = cond (counts g p) (multiplications k.degree) 0 + all_products p (suc g) ks

module _ (n : ℕ) (ρ : ℕ → ℕ) (h : (i : ℕ) → i < n → ρ i ≤ M) (p : Piece) where
  slacks-counted : (g : ℕ) (ks : List Kind) (fs : List Polynomial) → InVariables n ks → Low ks → slacks ρ p g ks fs ≤ all_products p g ks * M ^ highest_degree
  slacks-counted g [] fs v l = omega arith
  slacks-counted g (k ∷ ks) [] v l = omega arith
  slacks-counted g (k ∷ ks) (f ∷ fs) v l =
      next (counts g p) (counted (printed_of k f) k.degree highest_degree (ρ k.u) (ρ k.v) (h _ v.0) (h _ v.1) l.0) (slacks-counted (suc g) ks fs v.2 l.1)
    where
      next : (b : Bool) → slack_of ρ k f ≤ multiplications k.degree * M ^ highest_degree → slacks ρ p (suc g) ks fs ≤ all_products p (suc g) ks * M ^ highest_degree
          → cond b (slack_of ρ k f) 0 + slacks ρ p (suc g) ks fs ≤ (cond b (multiplications k.degree) 0 + all_products p (suc g) ks) * M ^ highest_degree
      next true o r = omega (arith, o, r, N.add-mul (multiplications k.degree) (all_products p (suc g) ks) (M ^ highest_degree))
      next false o r = omega (arith, r, N.zero-add (all_products p (suc g) ks))

-- 9 of the group in α and η, 14 of each in β
pub products-of : (p : Piece) → all_products p 0 cumulus.kinds ≡ 37
unfolding products
products-of low = refl
products-of high = refl

pub slack-counted : (p : Piece) (C : Coefficient) → slack_in p C ≤ 37 * M ^ highest_degree
slack-counted p C =
    N.le_trans (slacks-counted cumulus.variables (reach cumulus fine_limits p) (reach_near p) p 0 cumulus.kinds (parts C) (well-formed Cumulus).in-variables low-degrees)
    (N.le_of_eq (ap (λ n. n * M ^ highest_degree) (products-of p)))

-- ════ the answers of an accepted read
split-last : (v e : ℤ) → pos (M ^ highest_degree) *ℤ v -ℤ pos per_printed *ℤ e ≡ pos per_printed *ℤ (v *ℤ pos (10 ^ 20) -ℤ e)
split-last v e = ring2 v e (λ ρ f g. simp (quote, quote-pos ρ, f, g) (by _ _ _ tt))

each-belongs : listed cumulus.blocks (λ b. each_belongs cumulus (parts (coefficient_at b))) ≡ listed cumulus.blocks (λ b. all_hold cumulus)
unfolding listed
each-belongs = own-variables

all-belong : (b : ℕ) → b < cumulus.blocks → each_belongs cumulus (parts (coefficient_at b)) ≡ all_hold cumulus
all-belong b h =
    sym (get_or-listed cumulus.blocks (λ b. each_belongs cumulus (parts (coefficient_at b))) b [] h) ∙ ap (λ r. get_or r b []) each-belongs
    ∙ get_or-listed cumulus.blocks (λ b. all_hold cumulus) b [] h

value_in_lem : (C : Coefficient) (x : ℕ → ℤ) (b : Bool) → equation microradians (cond b low high) C x ≡ cond b (pre microradians C x) (post microradians C x)
value_in_lem C x true = refl
value_in_lem C x false = refl

module _ (x : ℕ → ℤ) (out : List ℤ) (e : fine_number x out ≡ done) (b : ℕ) (h : b < cumulus.blocks) where
  abbrev p : Piece
  p = piece_at cumulus fine_limits x

  abbrev C : Coefficient
  C = coefficient_at b

  answer_at_lem : get_or (fine_output x out) b (pos 0) ≡ answer_in p C x
  unfolding listed
  answer_at_lem = ap (λ r. get_or r b (pos 0)) (number-given x out e) ∙ get_or-listed cumulus.blocks (λ b. answer_in p (coefficient_at b) x) b (pos 0) h

  -- in units of 10⁻²⁹
  abbrev pub distance : ℕ
  distance = nat_abs (get_or (fine_output x out) b (pos 0) *ℤ pos (10 ^ 20) -ℤ fine_value C x)

  pub by-slack : 2 * (per_printed * distance) ≤ slack_in p C
  by-slack =
      N.le_trans
      (N.le_of_eq
      (ap (λ n. 2 * n)
      (sym (nat_abs-* (pos per_printed) (get_or (fine_output x out) b (pos 0) *ℤ pos (10 ^ 20) -ℤ fine_value C x)) ∙ ap nat_abs (sym (split-last (get_or (fine_output x out) b (pos 0)) (fine_value C x)))
      ∙ ap₂ (λ v w. nat_abs (pos (M ^ highest_degree) *ℤ v -ℤ pos per_printed *ℤ w)) answer_at_lem (sym (value_in_lem C x (le_z (x 0) (cut cumulus fine_limits)))))))
      (answer-off x p C (all-belong b h) (within-reach x out e)).off

  -- 6.91, 18.5 and 100 units of 10⁻⁹
  pub near-followed : distance ≤ 691 * 10 ^ 18
  near-followed = omega (arith, by-slack, followed p b h)

  pub near-counted : 2 * distance ≤ 37 * 10 ^ 20
  near-counted = omega (arith, by-slack, slack-counted p C)

  pub near-asked : distance ≤ 10 ^ 22
  near-asked = omega (arith, near-counted)
