-- The published table of the GTM's longitudinal model.
use Rattle.std.specs.Prelude.{List, [], ◌∷◌, ◌++◌, ℤ, pos, neg_ℤ}
use Rattle.layout.specs.Shape.{gtm}
use Rattle.printed.specs.Values.{scale_in}
use Rattle.printed.specs.Stored.{block_at}
use Rattle.printed.specs.Envelope.{±◌}
use Rattle.gtm_page.specs.Model.{Coefficient, C-L, C-D, C-m, parts, milliradians}

-- the limits in milliradians: lowest, cut and highest of alpha, then eta
abbrev pub published_limits : List ℤ
published_limits = (neg_ℤ (pos 150) ∷ pos 290 ∷ pos 1000 ∷ []) ++ ± 400

-- a coefficient as it is stored
abbrev pub stored_block : Coefficient → List ℤ
stored_block C = block_at gtm (scale_in milliradians) (parts C)

-- the limits and the three coefficients
unfoldable pub published : List ℤ
published = published_limits ++ stored_block C-L ++ stored_block C-D ++ stored_block C-m
