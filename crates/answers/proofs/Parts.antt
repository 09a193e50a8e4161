-- Parts of an input: bytes without a newline go on with a line and answer nothing; a newline ends it.
--   part_none, part-more, part-joined   no byte; one byte more; a part behind the bytes before it
--   plain_more                          bytes without a newline, and one more
--   plain-readings, plain-answers       what is known after them, and that nothing is answered
--   newline-readings, newline-answers   and after a newline behind them
--   took-rest, took-line                what is taken up to the end of the input, and up to a newline
use mathlib.Core.Path.{◌≡◌, refl, sym, ap, ap₂, ◌∙◌, subst}
use mathlib.Core.Bool.{Bool, true, cond}
use mathlib.Core.List.{List, [], ◌∷◌, ◌++◌, append-nil}
use Prim.Native.Nat.{ℕ, suc, ◌+◌, ◌-◌, ◌<◌, ◌≤◌}
use native.Mathlib.Omega.{arith}
use borrow.Author.Tests.{eq-eqb, ne_eqb}
use lib.IntN.{ℤ}
use lib.ListN.{length, take, drop, get_or, length-take, length-drop}
use lib.Seq.{take-suc, get_or-drop, take-add}
use Rattle.lines.specs.State.{stepped, stepped_by, finished}
use Rattle.answers.specs.declared.Reading.{Reading}
use Rattle.answers.specs.Answers.{line_answer, longest}
use Rattle.answers.specs.Reading.{fresh, reading_after, readings_after, answer_at, answers_of, part, Plain, LinePart, Taken}
use Rattle.answers.specs.declared.Part.{Part}
use Rattle.printing.specs.Spell.{written}
use Rattle.printing.proofs.Writing.{written-sets}
use Rattle.answers.proofs.Program.{readings-append, answers-append}

pub part_none : (l : List ℕ) (from : ℕ) → part l from from ≡ []
part_none l from = let e : from - from ≡ 0 = omega arith in ap (λ n. take n (drop from l)) e

pub part-more : (l : List ℕ) (from end : ℕ) → from ≤ end → end < length l → part l from (end + 1) ≡ part l from end ++ get_or l end 0 ∷ []
part-more l from end h k =
    let e : end + 1 - from ≡ suc (end - from) = omega arith in
    let d : from + (end - from) ≡ end = omega arith in
    ap (λ n. take n (drop from l)) e
    ∙ take-suc (drop from l) (end - from) 0 (omega (arith, length-drop from l))
    ∙ ap (λ b. part l from end ++ b ∷ []) (get_or-drop from l (end - from) 0 ∙ ap (λ n. get_or l n 0) d)

part-joined : (l : List ℕ) (from end : ℕ) → from ≤ end → take end l ≡ take from l ++ part l from end
part-joined l from end h = let e : end ≡ from + (end - from) = omega arith in ap (λ n. take n l) e ∙ take-add from (end - from) l

pub plain_more : (bs : List ℕ) (b : ℕ) → Plain bs → (b ≡ 10 → ⊥) → Plain (bs ++ b ∷ [])
plain_more [] b p h = (h, tt)
plain_more (c ∷ bs) b p h = (p.0, plain_more bs b p.1 h)

abbrev begun_after : Bool → List ℕ → Bool
begun_after u [] = u
begun_after u (b ∷ bs) = true

begun-true : (bs : List ℕ) → begun_after true bs ≡ true
begun-true [] = refl
begun-true (b ∷ bs) = refl

module _ (t : List ℤ) where
  step-readings : (r : Reading) (b : ℕ) → (b ≡ 10 → ⊥) → reading_after r b ≡ record { line = stepped r.line b; begun = true }
  step-readings r b h = ap (λ u. cond u fresh (record { line = stepped r.line b; begun = true })) (ne_eqb b 10 h)

  plain-readings : (r : Reading) (bs : List ℕ) → Plain bs → readings_after r bs ≡ record { line = stepped_by r.line bs; begun = begun_after r.begun bs }
  plain-readings r [] p = refl
  plain-readings r (b ∷ bs) p =
      ap (λ s. readings_after s bs) (step-readings r b p.0) ∙ plain-readings (record { line = stepped r.line b; begun = true }) bs p.1
      ∙ ap (λ u. record { line = stepped_by (stepped r.line b) bs; begun = u }) (begun-true bs)

  plain-answers : (r : Reading) (bs : List ℕ) → Plain bs → answers_of t r bs ≡ []
  plain-answers r [] p = refl
  plain-answers r (b ∷ bs) p =
      ap₂ ◌++◌ (ap (λ u. cond u (line_answer t (finished r.line)) []) (ne_eqb b 10 p.0)) (plain-answers (reading_after r b) bs p.1)

  newline-reading : (r : Reading) (b : ℕ) → b ≡ 10 → reading_after r b ≡ fresh
  newline-reading r b e = ap (λ u. cond u fresh (record { line = stepped r.line b; begun = true })) (eq-eqb b 10 e)

  newline-answer : (r : Reading) (b : ℕ) → b ≡ 10 → answer_at t r b ≡ line_answer t (finished r.line)
  newline-answer r b e = ap (λ u. cond u (line_answer t (finished r.line)) []) (eq-eqb b 10 e)

  module _ (r : Reading) (bs : List ℕ) (b : ℕ) (p : Plain bs) (e : b ≡ 10) where
    newline-readings : readings_after r (bs ++ b ∷ []) ≡ fresh
    newline-readings = readings-append r bs (b ∷ []) ∙ newline-reading (readings_after r bs) b e

    newline-answers : answers_of t r (bs ++ b ∷ []) ≡ line_answer t (finished (stepped_by r.line bs))
    newline-answers =
        answers-append t r bs (b ∷ [])
        ∙ ap₂ ◌++◌ (plain-answers r bs p)
        (append-nil (answer_at t (readings_after r bs) b) ∙ newline-answer (readings_after r bs) b e ∙ ap (λ (s : Reading). line_answer t (finished s.line)) (plain-readings r bs p))

-- ---- a line's part, taken
plain-left : (xs ys : List ℕ) → Plain (xs ++ ys) → Plain xs
plain-left [] ys p = tt
plain-left (x ∷ xs) ys p = (p.0, plain-left xs ys p.1)

begun-some : (u : Bool) (bs : List ℕ) → 0 < length bs → begun_after u bs ≡ true
begun-some u [] h = absurd (omega arith)
begun-some u (b ∷ bs) h = refl

module _ (t : List ℤ) (r : Reading) (input : List ℕ) (from : ℕ) (out : List ℕ) (at : ℕ) (p : Part) (l : LinePart r.line input from p) where
  silent : (i : ℕ) → from ≤ i → i ≤ p.end → answers_of t r (part input from i) ≡ []
  silent i h k =
      let e : p.end - from ≡ i - from + (p.end - i) = omega arith in
      plain-answers t r (part input from i)
      (plain-left (part input from i) (take (p.end - i) (drop (i - from) (drop from input)))
      (subst Plain (ap (λ n. take n (drop from input)) e ∙ take-add (i - from) (p.end - i) (drop from input)) l.plain))

  -- up to the end of the input
  pub took-rest : from < length input → length input ≤ p.end → at ≤ length out → Taken t r input from out out at (record { reading = record { line = p.line; begun = true }; taken = p.end; put = at })
  took-rest some h room =
      let bs = part input from p.end in
      let none = silent p.end l.forward (omega arith) in
      let size : 0 < length bs = omega (arith, length-take (p.end - from) (drop from input), length-drop from input, l.within) in
      record {
        forward = omega arith;
        within = l.within;
        reading = ap₂ (λ s u. record { line = s; begun = u }) l.line (sym (begun-some r.begun bs size)) ∙ sym (plain-readings t r bs l.plain);
        place = omega (arith, ap length none);
        output = written-sets out at [] (omega arith) ∙ ap (written out at) (sym none);
        room = omega arith;
        silent = λ i a b. silent i a (omega arith);
      }

  -- up to a newline, with the line's answer
  pub took-line : (out' : List ℕ) (put : ℕ) → p.end < length input → put ≡ at + length (line_answer t (finished p.line)) → out' ≡ written out at (line_answer t (finished p.line)) → put ≤ at + longest
      → Taken t r input from out out' at (record { reading = fresh; taken = p.end + 1; put = put })
  took-line out' put h place output room =
      let byte = get_or input p.end 0 in
      let bs = part input from p.end in
      let more = part-more input from p.end l.forward h in
      let all : answers_of t r (part input from (p.end + 1)) ≡ line_answer t (finished p.line) =
      ap (answers_of t r) more ∙ newline-answers t r bs byte l.plain (l.newline h) ∙ ap (λ s. line_answer t (finished s)) (sym l.line) in
      record {
        forward = omega (arith, l.forward);
        within = omega arith;
        reading = sym (ap (readings_after r) more ∙ newline-readings t r bs byte l.plain (l.newline h));
        place = place ∙ ap (λ xs. at + length xs) (sym all);
        output = output ∙ ap (written out at) (sym all);
        room = room;
        silent = λ i a b. silent i a (omega arith);
      }

-- ---- parts behind the bytes before them
module _ (t : List ℤ) (r : Reading) (input : List ℕ) (from : ℕ) where
  abbrev so_far : List ℕ
  so_far = answers_of t r (take from input)

  abbrev now : Reading
  now = readings_after r (take from input)

  pub joined-readings : (end : ℕ) → from ≤ end → readings_after now (part input from end) ≡ readings_after r (take end input)
  joined-readings end h = sym (ap (readings_after r) (part-joined input from end h) ∙ readings-append r (take from input) (part input from end))

  pub joined-answers : (end : ℕ) → from ≤ end → so_far ++ answers_of t now (part input from end) ≡ answers_of t r (take end input)
  joined-answers end h = sym (ap (answers_of t r) (part-joined input from end h) ∙ answers-append t r (take from input) (part input from end))
