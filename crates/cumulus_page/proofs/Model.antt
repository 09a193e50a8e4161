-- The published table answers with the printed model.
--   own-variables   each printed polynomial has only the two variables of its group, and at most its degree
--   equation-says   of a coefficient's polynomials those that count in a piece come to (3) or (4), in any unit of angle
--   held-equation   so do the groups of its block
--   values-model    the six values at any state are those of the report's equations (1), (3) and (4)
--   read-model      inside the envelope these are what a reading with room for six leaves
use mathlib.Core.Path.{◌≡◌, refl, ◌∙◌, ap}
use mathlib.Core.List.{List, map}
use Prim.Native.Nat.{ℕ}
use lib.IntN.{ℤ, pos, ◌+ℤ◌}
use lib.ListN.{length, replicate}
use Rattle.whole.proofs.Identity.{ring4, quote, quote-pos, by}
use Rattle.polynomials.specs.Order.{below}
use Rattle.polynomials.specs.Sum.{listed}
use Rattle.polynomials.specs.Groups.{total}
use Rattle.layout.specs.declared.Model.TheVariants.{Cumulus}
use Rattle.layout.specs.Shape.{kinds_length, cumulus}
use Rattle.layout.specs.Blocks.{Piece, low, high, groups, laid_out, chosen, coefficient}
use Rattle.layout.specs.Refusals.{done}
use Rattle.layout.specs.Reading.{values, read_number, read_output}
use Rattle.layout.proofs.Fine.{well-formed, fine}
use Rattle.laws.proofs.Refused.{read-given}
use Rattle.printed.specs.Values.{Angles, at}
use Rattle.printed.specs.Stored.{each_belongs}
use Rattle.printed.proofs.Answers.{at-⊕, held, printed_in, all_hold, held-total, values-printed}
use Rattle.cumulus_page.specs.Model.{Coefficient, coefficients, parts, milliradians, pre, post, model_value}
use Rattle.cumulus_page.specs.Published.{published}
use Rattle.cumulus_page.specs.Envelope.{Envelope}
use Rattle.cumulus_page.proofs.Envelope.{read-inside}

-- ════ a coefficient
-- what the report has of it in a piece: (3) or (4)
abbrev pub equation : Angles → Piece → Coefficient → (ℕ → ℤ) → ℤ
equation A low = pre A
equation A high = post A

in-low : (a e y z : ℤ) → a +ℤ e +ℤ (pos 0 +ℤ (y +ℤ (z +ℤ pos 0))) ≡ a +ℤ y +ℤ e +ℤ z
in-low a e y z = ring4 a e y z (λ ρ i j k l. simp (quote, quote-pos ρ, i, j, k, l) (by _ _ _ tt))

in-high : (a e y z : ℤ) → pos 0 +ℤ (a +ℤ e +ℤ (y +ℤ (z +ℤ pos 0))) ≡ a +ℤ y +ℤ e +ℤ z
in-high a e y z = ring4 a e y z (λ ρ i j k l. simp (quote, quote-pos ρ, i, j, k, l) (by _ _ _ tt))

module _ (A : Angles) (x : ℕ → ℤ) where
  pub equation-says : (p : Piece) (C : Coefficient) → printed_in cumulus A x p (parts C) ≡ equation A p C x
  equation-says low C =
      ap (λ z. z +ℤ (pos 0 +ℤ (at cumulus A C.ξ x +ℤ (at cumulus A C.ζ x +ℤ pos 0)))) (at-⊕ cumulus A x C.α-pre C.η-pre)
      ∙ in-low (at cumulus A C.α-pre x) (at cumulus A C.η-pre x) (at cumulus A C.ξ x) (at cumulus A C.ζ x)
  equation-says high C =
      ap (λ z. pos 0 +ℤ (z +ℤ (at cumulus A C.ξ x +ℤ (at cumulus A C.ζ x +ℤ pos 0)))) (at-⊕ cumulus A x C.α-post C.η-post)
      ∙ in-high (at cumulus A C.α-post x) (at cumulus A C.η-post x) (at cumulus A C.ξ x) (at cumulus A C.ζ x)

  pub held-equation : (p : Piece) (C : Coefficient) → each_belongs cumulus (parts C) ≡ all_hold cumulus → total (held cumulus A p (parts C)) x ≡ equation A p C x
  held-equation p C b = held-total cumulus (well-formed Cumulus) A x (fine Cumulus) p (parts C) refl b ∙ equation-says p C

-- ════ the six
pub own-variables : map (λ C. each_belongs cumulus (parts C)) coefficients ≡ replicate cumulus.blocks (all_hold cumulus)
own-variables = refl

-- the blocks hold the coefficients in their order
blocks-held : (p : Piece) → listed cumulus.blocks (λ b. coefficient cumulus published b p) ≡ map (λ C. held cumulus milliradians p (parts C)) coefficients
unfolding published laid_out listed below kinds_length groups chosen coefficient
blocks-held low = refl
blocks-held high = refl

module _ (x : ℕ → ℤ) where
  pub values-model : values cumulus published x ≡ map (λ C. model_value C x) coefficients
  unfolding published
  values-model =
      values-printed cumulus (well-formed Cumulus) milliradians x (fine Cumulus) parts (λ p C. equation milliradians p C x) (λ C. refl) (equation-says milliradians x) coefficients published own-variables
      blocks-held

  pub read-model : (out : List ℤ) → length out ≡ cumulus.blocks → Envelope x
      → (read_number cumulus published x out ≡ done) × (read_output cumulus published x out ≡ map (λ C. model_value C x) coefficients)
  read-model out six h = let e = (read-inside x out six).1 h in (e, read-given cumulus published x out e ∙ values-model)
