use Rattle.std.proofs.Common.{◌≡◌, List, ◌++◌, ℕ, ◌+◌, ◌≤◌, ◌<◌, ℤ, length, take, length-append, sym, ap, ap₂, ◌∙◌, subst, zero-add, append-nil, arith}
use native.Mathlib.Decide.{dec_lt}
use Rattle.printing.specs.Spell.{written}
use Rattle.printing.proofs.Writing.{written-append}
use Rattle.answers.specs.Answers.{longest}
use Rattle.answers.specs.Reading.{readings_after, answers_of, part, Taken}
use Rattle.answers.specs.declared.Reading.{Reading}
use Rattle.answers.specs.declared.Fed.{Fed}
use Rattle.answers.proofs.Parts.{joined-readings, joined-answers}
use Rattle.answers.proofs.feed.Goals as goal

-- a turn, with the reading that the bytes before it leave
module _ (t : List ℤ) (r : Reading) (input out₀ : List ℕ) (from : ℕ) (out : List ℕ) (at : ℕ) (out' : List ℕ) (fed : Fed)
    (turn : Taken t (readings_after r (take from input)) input from out out' at fed) (place : at ≡ length (answers_of t r (take from input))) (room : at + longest ≤ length out₀) where
  -- the answers before it, and its own
  abbrev before : List ℕ
  before = answers_of t r (take from input)

  abbrev own : ℕ → List ℕ
  own end = answers_of t (readings_after r (take from input)) (part input from end)

  joined : (end : ℕ) → from ≤ end → before ++ own end ≡ answers_of t r (take end input)
  joined = joined-answers t r input from

  end-place : fed.put ≡ length (answers_of t r (take fed.taken input))
  end-place = omega (arith, turn.place, length-append before (own fed.taken)) ∙ ap length (joined fed.taken (omega (arith, turn.forward)))

  end-room : fed.put ≤ length out₀
  end-room = omega (arith, turn.room)

  end-output : out ≡ written out₀ 0 before → out' ≡ written out₀ 0 (answers_of t r (take fed.taken input))
  end-output e =
      turn.output
      ∙ ap₂ (λ o p. written o p (own fed.taken)) e (place ∙ sym (zero-add (length before)))
      ∙ written-append out₀ 0 before (own fed.taken) (omega (arith, turn.place, turn.room, length-append before (own fed.taken)))
      ∙ ap (written out₀ 0) (joined fed.taken (omega (arith, turn.forward)))

  -- nothing is answered before its last byte
  roomy : ((i : ℕ) → i < from → length (answers_of t r (take i input)) + longest ≤ length out₀) → (i : ℕ) → i < fed.taken → length (answers_of t r (take i input)) + longest ≤ length out₀
  roomy earlier i h = pick (dec_lt i from)
    where
      pick : Dec (i < from) → length (answers_of t r (take i input)) + longest ≤ length out₀
      pick (yes b) = earlier i b
      pick (no b) =
          let e = sym (joined i (omega arith)) ∙ ap (λ xs. before ++ xs) (turn.silent i (omega arith) h) ∙ append-nil before in
          omega (arith, ap length e)

  -- what is known after it
  after : out ≡ written out₀ 0 before → ((i : ℕ) → i < from → length (answers_of t r (take i input)) + longest ≤ length out₀)
      → (fed.put ≡ length (answers_of t r (take fed.taken input))) × (fed.put ≤ length out₀) × (out' ≡ written out₀ 0 (answers_of t r (take fed.taken input)))
      × ((i : ℕ) → i < fed.taken → length (answers_of t r (take i input)) + longest ≤ length out₀)
  after e earlier = (end-place, end-room, end-output e, roomy earlier)

pub loop-fed-preserved : goal.loop-fed-preserved
loop-fed-preserved c =
    let a = c.args in
    let l = c.loop-fed in
    let from = l.fed.taken in
    let fed = c.take_line-fed.result in
    let turn = subst (λ r. Taken a.table.now r a.input.now from l.out c.take_line-fed.new.out l.fed.put fed) l.invariant.reading c.take_line-fed.ensures in
    let room : l.fed.put + longest ≤ length a.out.now = omega (arith, l.invariant.room) in
    let kept = c.take_line-fed.auto.out in
    let known = after a.table.now a.reading a.input.now a.out.now from l.out l.fed.put c.take_line-fed.new.out fed turn l.invariant.place room l.invariant.output
    (λ i h. omega (arith, l.invariant.roomy i h)) in
    record {
      within = turn.within;
      reading = turn.reading ∙ joined-readings a.table.now a.reading a.input.now from fed.taken (omega (arith, turn.forward));
      place = known.0;
      room = omega (arith, known.1);
      output = known.2;
      roomy = λ i h. omega (arith, known.3 i h);
    }
