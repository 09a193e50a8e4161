-- What a call of `read` or `write` comes to, and what may come of reading and of writing where such calls are tried again.
use Rattle.std.specs.Prelude.{◌≡◌, Bool, true, false, cond, ◌||◌, ℕ, ◌≤◌, ◌<◌, List, length, take, Option, Some, None, eqb, ℤ, pos, negsuc, Result, Ok, Err}
use Rattle.std.specs.IoError.{error_kind}
use Rattle.std.specs.Io.KnownBytes.{Keeps, Appends, Consumes, IsAtEnd}
use Rattle.std.specs.declared.io.Error.{Error}
use Rattle.std.specs.declared.io.ErrorKind.{ErrorKind}
use Rattle.std.specs.declared.io.ErrorKind.TheVariants.{Interrupted, WouldBlock}

-- the errors that pass: EINTR, of a call that a signal interrupted, and EAGAIN, of one that would have had to wait
abbrev pub number_passes : ℤ → Bool
number_passes (pos n) = eqb n 4 || eqb n 11
number_passes (negsuc n) = false

-- the same of the library's kinds of errors (`passes_number` of proofs/Controls.antt: they are those that these numbers have)
abbrev pub passes : ErrorKind → Bool
passes Interrupted = true
passes WouldBlock = true
passes _ = false

-- what an answer comes to, and none where the call is to be tried again
abbrev pub outcome_of : Result ℕ Error → Option (Result ℕ Error)
outcome_of (Ok n) = Some (Ok n)
outcome_of (Err error) = cond (passes (error_kind error)) None (Some (Err error))

-- some of n bytes were moved, or none could be
abbrev pub Got : ℕ → Result ℕ Error → Type 0
Got n (Ok k) = k ≤ n
Got n (Err error) = Unit {0}

-- all of n bytes were moved, or some could not be
abbrev pub Put : ℕ → Result ℕ Error → Type 0
Put n (Ok k) = k ≡ n
Put n (Err error) = Unit {0}

-- Of a reader's bytes those that were moved are gone from the front and stand in xs, none only at the end or with no room; where it failed, all are left.
abbrev pub Took : Option (List ℕ) → Option (List ℕ) → List ℕ → Result ℕ Error → Type 0
Took old new xs (Ok k) = Consumes old new (take k xs) × (k ≡ 0 → 0 < length xs → IsAtEnd new)
Took old new xs (Err error) = Keeps old new

-- A writer's bytes grew by those of xs that were moved; where it failed, by none.
abbrev pub Gave : Option (List ℕ) → Option (List ℕ) → List ℕ → Result ℕ Error → Type 0
Gave old new xs (Ok k) = Appends old new (take k xs)
Gave old new xs (Err error) = Keeps old new

-- A writer's bytes grew by all of xs; where it failed, by some first ones of them.
abbrev pub GaveAll : Option (List ℕ) → Option (List ℕ) → List ℕ → Result ℕ Error → Type 0
GaveAll old new xs (Ok k) = Appends old new xs
GaveAll old new xs (Err error) = (k : ℕ) × Appends old new (take k xs)
