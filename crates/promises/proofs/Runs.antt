-- What a run of calls writes is what the program writes for the input.
use mathlib.Core.Path.{◌≡◌, refl, sym, ◌∙◌, ap, ap₂}
use mathlib.Core.List.{List, ◌++◌, append_assoc}
use Prim.Native.Nat.{ℕ, ◌+◌}
use lib.IntN.{ℤ}
use lib.ListN.{length, take, drop}
use lib.Seq.{take_at}
use Rattle.printing.specs.Spell.{written}
use Rattle.answers.specs.Answers.{program}
use Rattle.answers.specs.Reading.{fresh, readings_after, answers_of, last_answer, Feeding}
use Rattle.answers.specs.declared.Reading.{Reading}
use Rattle.answers.specs.declared.Fed.{Fed}
use Rattle.answers.proofs.Program.{readings-append, answers-append, last_fits, whole}
use Rattle.promises.specs.Runs.{Run, at-end, call}

-- what a call wrote, from the start of its output
from_start : (out : List ℕ) {out' bytes : List ℕ} {put : ℕ} → put ≡ length bytes → out' ≡ written out 0 bytes → take put out' ≡ bytes
from_start out {bytes} e f = ap₂ take e f ∙ take_at bytes (drop (0 + length bytes) out) (length bytes) refl

-- one call of `feed`: the answers to the bytes that it took
call-writes : (t : List ℤ) (r : Reading) (piece out out' : List ℕ) (f : Fed) → Feeding t r piece out out' f → take f.put out' ≡ answers_of t r (take f.taken piece)
call-writes t r piece out out' f c = from_start out c.place c.output

run-writes : (t : List ℤ) (r : Reading) (input bytes : List ℕ) → Run t r input bytes → bytes ≡ answers_of t r input ++ last_answer t (readings_after r input)
run-writes t r input bytes (at-end s out out' put room e f) = from_start out e f ∙ last_fits t r (length out) room
run-writes t r input bytes (call s piece out out' f c rest more next) =
    let took = take f.taken piece in
    ap₂ ◌++◌ (call-writes t r piece out out' f c) (run-writes t f.reading rest more next ∙ ap (λ q. answers_of t q rest ++ last_answer t (readings_after q rest)) c.reading)
    ∙ sym (append_assoc (answers_of t r took) (answers_of t (readings_after r took) rest) (last_answer t (readings_after (readings_after r took) rest)))
    ∙ ap₂ (λ xs q. xs ++ last_answer t q) (sym (answers-append t r took rest)) (sym (readings-append r took rest))

pub run-writes-program : (t : List ℤ) (input bytes : List ℕ) → Run t fresh input bytes → bytes ≡ program t input
run-writes-program t input bytes run = run-writes t fresh input bytes run ∙ whole t input
