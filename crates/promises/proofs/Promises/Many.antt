-- Many states of one table in one call.
use mathlib.Core.Path.{◌≡◌, refl}
use mathlib.Core.Logic.{◌↔◌}
use mathlib.Core.List.{List}
use Prim.Native.Nat.{ℕ, ◌*◌, ◌<◌}
use lib.IntN.{ℤ}
use lib.ListN.{length, get_or, take, drop}
use Rattle.layout.specs.Shape.{Shape}
use Rattle.layout.specs.Refusals.{done}
use Rattle.layout.specs.Reading.{readings, read_number, read_output}
use Rattle.layout.specs.Many.{state_at, zeros, many_number, many_numbers, many_output}
use Rattle.laws.proofs.Many.{Accepted, many-sound, many-kept, many-number-at, many-output-at, many-done}

module _ (S : Shape) (t states : List ℤ) (numbers : List ℕ) (out : List ℤ) where
  -- A refusal of the call writes nothing into either lent space.
  pub refused-many-write-nothing : 0 < many_number S t states numbers out → (many_numbers S t states numbers out ≡ numbers) × (many_output S t states numbers out ≡ out)
  refused-many-write-nothing h = many-kept S t states numbers out refl h

  -- The call is accepted exactly where the table is sound and the lengths fit: so many numbers a state and so many coefficients, for each number lent.
  pub many-accepted-exactly : (many_number S t states numbers out ≡ done) ↔ Accepted S t states numbers out
  many-accepted-exactly = (many-sound S t states numbers out, many-done S t states numbers out)

  module _ (e : many_number S t states numbers out ≡ done) (k : ℕ) (h : k < length numbers) where
    -- Each state's number is what a read of it gives, into any output of that many coefficients.
    pub number-of-each-read : (room : List ℤ) → length room ≡ S.blocks → get_or (many_numbers S t states numbers out) k 0 ≡ read_number S t (readings (state_at S states k)) room
    number-of-each-read room l = many-number-at S t states numbers out e k h room l

    -- And its coefficients are what a read of it writes into zeros: the values, or zeros where the state is refused.
    pub output-of-each-read : take S.blocks (drop (S.blocks * k) (many_output S t states numbers out)) ≡ read_output S t (readings (state_at S states k)) (zeros S)
    output-of-each-read = many-output-at S t states numbers out e k h
