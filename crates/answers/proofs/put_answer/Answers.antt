-- The number, the coefficients and the newline stand one behind the other.
use Rattle.std.proofs.Common.{◌≡◌, [], ◌∷◌, ◌++◌, ◌+◌, ◌<◌, length, length-append, ap₂, ◌∙◌, arith}
use Rattle.printing.specs.Spell.{decimal, written}
use Rattle.printing.proofs.Digits.{decimal-short}
use Rattle.printing.proofs.Writing.{written-sets, written-append}
use Rattle.answers.specs.Answers.{spaced}
use Rattle.answers.proofs.put_answer.Goals as goal

pub put_few-behind-requires : goal.put_few-behind-requires
put_few-behind-requires c = (c.requires.0, omega (arith, decimal-short 3 c.args.number c.requires.0))

pub put_values-end-requires : goal.put_values-end-requires
put_values-end-requires c = omega (arith, decimal-short 3 c.args.number c.requires.0, c.put_few-behind.ensures.place)

pub bounds-out-end : goal.bounds-out-end
bounds-out-end c = omega (arith, decimal-short 3 c.args.number c.requires.0, c.put_few-behind.ensures.place, c.put_values-end.ensures.room)

pub overflow_add-result : goal.overflow_add-result
overflow_add-result c = omega (arith, decimal-short 3 c.args.number c.requires.0, c.put_few-behind.ensures.place, c.put_values-end.ensures.room)

pub returns : goal.returns
returns c =
    let a = c.args in
    let values = c.put_values-end in
    let D = decimal a.number in
    let W = spaced a.values in
    let short = decimal-short 3 a.number c.requires.0 in
    let first = c.put_few-behind.ensures.place in
    let place : values.result ≡ a.at + length (D ++ W) = omega (arith, values.ensures.place, length-append D W) in
    let end : values.result < length a.out.now = omega (arith, values.ensures.room) in
    let all = length-append (D ++ W) (10 ∷ []) in
    record {
      place = omega arith;
      output =
          written-sets values.new.out values.result (10 ∷ []) (omega arith)
          ∙ ap₂ (λ o p. written o p (10 ∷ []))
          (values.ensures.output ∙ ap₂ (λ o p. written o p W) (c.put_few-behind.ensures.output ∙ written-sets a.out.now a.at D (omega arith)) first ∙ written-append a.out.now a.at D W (omega arith))
          place
          ∙ written-append a.out.now a.at (D ++ W) (10 ∷ []) (omega arith);
      room = omega (arith, values.ensures.room);
    }
