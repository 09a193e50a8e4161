-- What the inner functions of the reading ask of their callers.
use Rattle.std.specs.Prelude.{◌≡◌, true, not, List, [], ◌∷◌, ℕ, ◌<◌, eqb, ℤ, length}
use Rattle.blocks.specs.Ready.{Valued}
use Rattle.layout.specs.Shape.{Shape, table_length}
use Rattle.layout.specs.Limits.{good}
use Rattle.layout.specs.Sound.{light}
use Rattle.layout.specs.Refusals.{Refusal, ◌when◌, first, wrong_table, wrong_output, bad_limits, too_heavy}

-- to read every block's coefficient into an output
pub record AllValued (S : Shape) (t : List ℤ) (n : ℕ) (x out : List ℤ) : Type 0 where
  pub room : length out ≡ S.blocks
  pub valued : (b : ℕ) → b < S.blocks → Valued S t b n x

-- what makes a table of the right length unsound
abbrev pub unsound : Shape → List ℤ → List Refusal
unsound S t = (bad_limits when not (good S t)) ∷ (too_heavy when not (light S t)) ∷ []

-- what a table is refused for by itself, and the first of it
abbrev pub table_refusals : Shape → List ℤ → List Refusal
table_refusals S t = (wrong_table when not (eqb (length t) (table_length S))) ∷ unsound S t

abbrev pub table_number : Shape → List ℤ → ℕ
table_number S t = first (table_refusals S t)

-- what it is refused for, whatever the readings are, where its coefficients go into n numbers
abbrev pub into_refusals : Shape → List ℤ → ℕ → List Refusal
into_refusals S t n = (wrong_table when not (eqb (length t) (table_length S))) ∷ (wrong_output when not (eqb n S.blocks)) ∷ unsound S t

abbrev pub into_number : Shape → List ℤ → ℕ → ℕ
into_number S t n = first (into_refusals S t n)

-- to read a table that is known to be sound
pub record SoundRead (S : Shape) (t out : List ℤ) : Type 0 where
  pub whole : length t ≡ table_length S
  pub room : length out ≡ S.blocks
  pub limits : good S t ≡ true
  pub weights : light S t ≡ true
