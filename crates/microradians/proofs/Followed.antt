-- What an answer is off by at most, followed product by product, at the envelope's reaches.
--   slack_of, slacks, slack_in   of a printed polynomial, of the groups of a piece, of a coefficient
--   all-followed                 each of the twelve is within 6.91 units of 10⁻⁹, by computation; nothing in this file rests on it
use mathlib.Core.Path.{◌≡◌, refl}
use mathlib.Core.Bool.{true, cond}
use mathlib.Core.List.{List, [], ◌∷◌}
use Prim.Native.Nat.{ℕ, suc, ◌+◌, ◌*◌, ◌^◌}
use lib.Dec.{leb}
use lib.IntN.{ℤ}
use Rattle.polynomials.specs.Order.{powers, below, place}
use Rattle.polynomials.specs.Limits.{highest_degree}
use Rattle.layout.specs.declared.Kind.{Kind}
use Rattle.layout.specs.Shape.{cumulus}
use Rattle.layout.specs.Blocks.{Piece, piece, counts}
use Rattle.layout.specs.Limits.{every}
use Rattle.layout.specs.Sound.{reach}
use Rattle.printed.specs.Notation.{Polynomial}
use Rattle.printed.specs.Stored.{printed_at}
use Rattle.cumulus_page.specs.Model.{Coefficient, coefficient_at, parts}
use Rattle.microradians.specs.Answer.{fine_limits}
use Rattle.microradians.proofs.Slack.{silent, slack, group_slack}

abbrev pub printed_of : Kind → Polynomial → ℕ → ℕ → ℤ
printed_of k f p q = printed_at cumulus k f (place p q)

-- what it is off by at most, at reaches ρ
abbrev pub slack_of : (ℕ → ℕ) → Kind → Polynomial → ℕ
slack_of ρ k f = group_slack (printed_of k f) k.degree highest_degree (ρ k.u) (ρ k.v)

-- from the group numbered g on
abbrev pub slacks : (ℕ → ℕ) → Piece → ℕ → List Kind → List Polynomial → ℕ
slacks ρ p g [] fs = 0
slacks ρ p g (k ∷ ks) [] = 0
slacks ρ p g (k ∷ ks) (f ∷ fs) = cond (counts g p) (slack_of ρ k f) 0 + slacks ρ p (suc g) ks fs

abbrev pub slack_in : Piece → Coefficient → ℕ
slack_in p C = slacks (reach cumulus fine_limits p) p 0 cumulus.kinds (parts C)

pub all-followed : every 2 (λ n. every cumulus.blocks (λ b. leb (slack_in (piece n) (coefficient_at b)) (2 * (691 * 10 ^ 22)))) ≡ true
unfolding every silent slack powers below
all-followed = refl
