-- An input fed to the answers piece by piece, each piece as far as a call took it, and what is written for it.
use Rattle.std.specs.Prelude.{◌≡◌, List, [], ◌++◌, ℕ, ◌≤◌, ℤ, length, take}
use Rattle.printing.specs.Spell.{written}
use Rattle.answers.specs.Answers.{longest}
use Rattle.answers.specs.declared.Reading.{Reading}
use Rattle.answers.specs.declared.Fed.{Fed}
use Rattle.answers.specs.Reading.{last_in, Feeding}

-- Run t r input bytes: with the table t, from what is known as r on, the calls over the input write these bytes.
-- In each call `out` is what is lent and `out'` what it holds afterwards: `Feeding` is the contract of `feed` on a piece, and the last call is one of
-- `finish`, by its contract, with room for the longest answer.
pub data Run (t : List ℤ) : Reading → List ℕ → List ℕ → Type 0 where
  at-end : (r : Reading) (out out' : List ℕ) (put : ℕ) → longest ≤ length out → put ≡ length (last_in t r (length out)) → out' ≡ written out 0 (last_in t r (length out))
      → Run t r [] (take put out')
  call : (r : Reading) (piece out out' : List ℕ) (f : Fed) → Feeding t r piece out out' f → (rest bytes : List ℕ) → Run t f.reading rest bytes
      → Run t r (take f.taken piece ++ rest) (take f.put out' ++ bytes)
