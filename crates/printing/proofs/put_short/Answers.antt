-- Eight digits are put at once, and of five to seven the last four stand behind the others.
use Rattle.std.proofs.Common.{◌/◌, ◌%◌, ◌≤◌, sym, ap, ◌∙◌, arith}
use Rattle.std.proofs.lemmas.List.Edits.{sets}
use Rattle.printing.specs.Groups.{four}
use Rattle.printing.specs.Spell.{decimal}
use Rattle.printing.proofs.Digits.{four-behind, decimal-eight, length-behind, length-between}
use Rattle.printing.proofs.Writing.{stored-behind}
use Rattle.printing.proofs.put_short.Goals as goal

pub put_eight-requires : goal.put_eight-requires
put_eight-requires c = (omega arith, omega (arith, length-between 7 c.args.n (omega arith) (omega arith)))

pub returns-then-n-ge-LEAST_OF_EIGHT : goal.returns-then-n-ge-LEAST_OF_EIGHT
returns-then-n-ge-LEAST_OF_EIGHT c =
    let a = c.args in
    record {
      place = omega (arith, length-between 7 a.n (omega arith) (omega arith));
      output = c.put_eight.ensures ∙ ap (sets a.out.now a.at) (sym (decimal-eight a.n (omega arith) (omega arith)));
    }

pub put_few-i-requires : goal.put_few-i-requires
put_few-i-requires c = (omega arith, omega (arith, length-behind 4 c.args.n (omega arith)))

pub put_four-requires : goal.put_four-requires
put_four-requires c = (omega arith, omega (arith, c.put_few-i.ensures.place, length-behind 4 c.args.n (omega arith)))

pub overflow_add-result-2 : goal.overflow_add-result-2
overflow_add-result-2 c = omega (arith, c.put_few-i.ensures.place, length-behind 4 c.args.n (omega arith))

pub returns : goal.returns
returns c =
    let a = c.args in
    let h : 10000 ≤ a.n = omega arith in
    record {
      place = omega (arith, c.put_few-i.ensures.place, length-behind 4 a.n h);
      output =
          stored-behind a.out.now a.at (decimal (a.n / 10000)) (four (a.n % 10000)) c.put_few-i.ensures.place c.put_few-i.ensures.output c.put_four.ensures
          ∙ ap (sets a.out.now a.at) (sym (four-behind a.n h));
    }
