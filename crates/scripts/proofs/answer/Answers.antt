-- The newline is put where there is room for it, and so no answers pass their room.
use Rattle.std.proofs.Common.{◌≤◌, ◌++◌, List, ℕ, length, take, subst, sym, arith, min}
use Rattle.std.proofs.lemmas.List.{length-take}
use Rattle.texts.specs.Room.{answers_room}
use Rattle.scripts.proofs.answer.Goals as goal

short : (n : ℕ) (l : List ℕ) → length (take n l) ≤ n
short n l = rw (length-take n l) (grind arith)

pub returns : goal.returns
returns c = subst (λ l. length l ≤ answers_room) (sym c.put_byte.ensures) (short answers_room _)
