-- The limits as the code takes them from a model's table, and the reaches it works out from them.
--   same_taken                  they have the table's
--   good-taken, range-taken, outside-taken, cut-taken   the limits taken tell what the table's tell
--   reaches-taken               their reaches, as they come back
--   light-listed, light-taken   the weight check at listed reaches is that at the reaches; at the limits taken it is the table's
use mathlib.Core.Path.{◌≡◌, refl, ◌∙◌, ap}
use mathlib.Core.Bool.{true, not}
use mathlib.Core.List.{List, []}
use Prim.Native.Nat.{ℕ, suc}
use native.Mathlib.Omega.{arith}
use lib.IntN.{ℤ, pos}
use lib.ListN.{take}
use lib.Seq.{get_or-take}
use Rattle.polynomials.proofs.Listed.{listed-ext}
use Rattle.layout.specs.declared.Model.{Model}
use Rattle.layout.specs.Shape.{Shape, shape}
use Rattle.layout.specs.Numbers.{limits_room}
use Rattle.layout.specs.Limits.{all_in_range, good, cut}
use Rattle.layout.specs.Blocks.{Piece, low, high}
use Rattle.layout.specs.Sound.{reach, within_cap, light}
use Rattle.layout.specs.Reaches.{listed_reaches, reaches_of}
use Rattle.layout.specs.Refusals.{first, ◌when◌, outside}
use Rattle.layout.proofs.Fine.{well-formed, few-variables, few-limits}
use Rattle.laws.proofs.LimitLaws.{SameLimits, good-same, all_in_range-same, reach-same, inside-same, cut-same}
use Rattle.laws.proofs.Reaches.{reach-other, listed_back}
use Rattle.laws.proofs.Refused.{refused_readings}
use Rattle.laws.proofs.Weights.{within_cap-agreed}
use Rattle.limits.specs.declared.Limits.{Limits}

pub first-nothing : first [] ≡ 0
unfolding first
first-nothing = refl

module _ (m : Model) (t : List ℤ) where
  abbrev S : Shape
  S = shape m

  -- the first numbers of a table, as `Limits::of` takes them
  abbrev pub taken : List ℤ
  taken = take limits_room t

  pub same_taken : SameLimits S taken t
  same_taken = record { at = λ k h. get_or-take limits_room t k (pos 0) (omega (arith, few-limits m)) }

  -- ════ the weight check at listed reaches
  pub light-listed : (r : Piece → ℕ → ℕ) → ((i : ℕ) → r low (suc i) ≡ r high (suc i)) → within_cap S t (reaches_of (listed_reaches r)) ≡ within_cap S t r
  light-listed r other = within_cap-agreed S (well-formed m).in-variables t _ r (λ p i h. listed_back r other p i (omega (arith, few-variables m)))

  pub light-taken : within_cap S t (reaches_of (listed_reaches (reach S taken))) ≡ light S t
  light-taken = light-listed (reach S taken) (reach-other S taken) ∙ within_cap-agreed S (well-formed m).in-variables t (reach S taken) (reach S t) (reach-same same_taken)

  -- ════ limits that hold them
  module _ (l : Limits) (e : (l.model ≡ m) × (l.numbers ≡ taken)) where
    pub good-taken : good (shape l.model) l.numbers ≡ good S t
    good-taken = (λ i. good (shape (e.0 i)) (e.1 i)) ∙ good-same same_taken (well-formed m).has-variable

    pub range-taken : all_in_range (shape l.model) l.numbers ≡ all_in_range S t
    range-taken = (λ i. all_in_range (shape (e.0 i)) (e.1 i)) ∙ all_in_range-same same_taken

    pub cut-taken : cut (shape l.model) l.numbers ≡ cut S t
    cut-taken = (λ i. cut (shape (e.0 i)) (e.1 i)) ∙ cut-same same_taken (well-formed m).has-variable

    pub outside-taken : (x : ℕ → ℤ) → first (refused_readings (shape l.model) l.numbers x) ≡ first (refused_readings S t x)
    outside-taken x = (λ i. first (refused_readings (shape (e.0 i)) (e.1 i) x)) ∙ ap first (listed-ext (0 when true) S.variables _ _ (λ i h. ap (λ b. outside S i when not b) (inside-same same_taken x i h)))

    pub reaches-taken : listed_reaches (reach (shape l.model) l.numbers) ≡ listed_reaches (reach S taken)
    reaches-taken = λ i. listed_reaches (reach (shape (e.0 i)) (e.1 i))
