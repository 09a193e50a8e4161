-- The published table answers with the printed model.
--   own-variables   each printed polynomial has only alpha and eta, and at most the degree of its group
--   values-model    the three values at any state are those of the report's equations (96) to (101)
--   read-model      inside the envelope these are what a reading with room for three leaves
use mathlib.Core.Path.{◌≡◌, refl, ◌∙◌}
use mathlib.Core.Bool.{Bool, true, false, cond}
use mathlib.Core.List.{List, map}
use Prim.Native.Nat.{ℕ}
use lib.IntN.{ℤ, pos, ◌+ℤ◌, +ℤ_idl, +ℤ_idr}
use lib.ListN.{length, replicate}
use lib.Signed.{le_z}
use Rattle.polynomials.specs.Order.{below}
use Rattle.polynomials.specs.Sum.{listed}
use Rattle.layout.specs.declared.Model.TheVariants.{Gtm}
use Rattle.layout.specs.Shape.{kinds_length, gtm}
use Rattle.layout.specs.Blocks.{Piece, low, high, groups, laid_out, chosen, coefficient}
use Rattle.layout.specs.Refusals.{done}
use Rattle.layout.specs.Reading.{values, read_number, read_output}
use Rattle.layout.proofs.Fine.{well-formed, fine}
use Rattle.laws.proofs.Refused.{read-given}
use Rattle.printed.specs.Values.{at}
use Rattle.printed.specs.Stored.{each_belongs}
use Rattle.printed.proofs.Answers.{at-⊕, held, printed_in, all_hold, values-printed}
use Rattle.gtm_page.specs.Model.{Coefficient, coefficients, parts, milliradians, model_value}
use Rattle.gtm_page.specs.Published.{published}
use Rattle.gtm_page.specs.Envelope.{Envelope}
use Rattle.gtm_page.proofs.Envelope.{read-inside}

pub own-variables : map (λ C. each_belongs gtm (parts C)) coefficients ≡ replicate gtm.blocks (all_hold gtm)
own-variables = refl

-- the blocks hold the coefficients in their order
blocks-held : (p : Piece) → listed gtm.blocks (λ b. coefficient gtm published b p) ≡ map (λ C. held gtm milliradians p (parts C)) coefficients
unfolding published laid_out listed below kinds_length groups chosen coefficient
blocks-held low = refl
blocks-held high = refl

module _ (x : ℕ → ℤ) where
  -- what the report has in a piece
  abbrev equation : Piece → Coefficient → ℤ
  equation low C = at gtm milliradians C.α-low x +ℤ at gtm milliradians C.η x
  equation high C = at gtm milliradians C.α-high x +ℤ at gtm milliradians C.η x

  equation-says : (p : Piece) (C : Coefficient) → printed_in gtm milliradians x p (parts C) ≡ equation p C
  equation-says low C = +ℤ_idr (at gtm milliradians _ x) ∙ at-⊕ gtm milliradians x C.α-low C.η
  equation-says high C = +ℤ_idl _ ∙ +ℤ_idr (at gtm milliradians _ x) ∙ at-⊕ gtm milliradians x C.α-high C.η

  -- the part in α and η stands in both pieces
  in_both : (b : Bool) → map (λ C. cond b (equation low C) (equation high C)) coefficients
      ≡ map (λ C. cond b (at gtm milliradians C.α-low x) (at gtm milliradians C.α-high x) +ℤ at gtm milliradians C.η x) coefficients
  in_both true = refl
  in_both false = refl

  pub values-model : values gtm published x ≡ map (λ C. model_value C x) coefficients
  unfolding published
  values-model =
      values-printed gtm (well-formed Gtm) milliradians x (fine Gtm) parts equation (λ C. refl) equation-says coefficients published own-variables blocks-held
      ∙ in_both (le_z (x 0) (pos milliradians.cut))

  pub read-model : (out : List ℤ) → length out ≡ gtm.blocks → Envelope x
      → (read_number gtm published x out ≡ done) × (read_output gtm published x out ≡ map (λ C. model_value C x) coefficients)
  read-model out room h = let e = (read-inside x out room).1 h in (e, read-given gtm published x out e ∙ values-model)
