-- By how many digits the number has.
use Rattle.std.proofs.Common.{◌≡◌, [], ◌∷◌, ◌+◌, ◌/◌, ◌%◌, set, sym, ap, ◌∙◌, add-one, arith}
use Rattle.std.proofs.Math.ListN.{length-set}
use Rattle.std.proofs.lemmas.List.Edits.{sets}
use Rattle.printing.proofs.Digits.{decimal-one, decimal-two, decimal-three, decimal-four, length-one, length-between}
use Rattle.printing.proofs.put_few.Goals as goal

pub bounds-out-at : goal.bounds-out-at
bounds-out-at c = omega (arith, length-one c.args.n c.if-n-lt10.true)

pub returns-then-n-lt10 : goal.returns-then-n-lt10
returns-then-n-lt10 c =
    let a = c.args in
    let h : a.n % 10 ≡ a.n = omega arith in
    record {
      place = omega (arith, length-one a.n c.if-n-lt10.true);
      output = ap (λ d. set a.out.now a.at (48 + d)) (sym h) ∙ ap (sets a.out.now a.at) (sym (decimal-one a.n c.if-n-lt10.true));
    }

pub put_two-requires : goal.put_two-requires
put_two-requires c = (c.if-n-lt100.true, omega (arith, length-between 1 c.args.n (omega arith) (omega arith)))

pub returns-then-n-lt100 : goal.returns-then-n-lt100
returns-then-n-lt100 c =
    let a = c.args in
    record {
      place = omega (arith, length-between 1 a.n (omega arith) (omega arith));
      output = c.put_two.ensures ∙ ap (sets a.out.now a.at) (sym (decimal-two a.n (omega arith) (omega arith)));
    }

pub bounds-out-at-then-n-lt1000 : goal.bounds-out-at-then-n-lt1000
bounds-out-at-then-n-lt1000 c = omega (arith, length-between 2 c.args.n (omega arith) (omega arith))

pub put_two-requires-then-n-lt1000 : goal.put_two-requires-then-n-lt1000
put_two-requires-then-n-lt1000 c =
    let a = c.args in
    (omega arith, omega (arith, length-set a.out.now a.at (48 + a.n / 100), length-between 2 a.n (omega arith) (omega arith)))

pub returns-then-n-lt1000 : goal.returns-then-n-lt1000
returns-then-n-lt1000 c =
    let a = c.args in
    record {
      place = omega (arith, length-between 2 a.n (omega arith) (omega arith));
      output =
          c.put_two-then-n-lt1000.ensures
          ∙ ap (λ i. sets (set a.out.now a.at (48 + a.n / 100)) i ((48 + a.n % 100 / 10) ∷ (48 + a.n % 100 % 10) ∷ [])) (add-one a.at)
          ∙ ap (sets a.out.now a.at) (sym (decimal-three a.n (omega arith) (omega arith)));
    }

pub put_four-requires : goal.put_four-requires
put_four-requires c = (omega arith, omega (arith, length-between 3 c.args.n (omega arith) (omega arith)))

pub returns : goal.returns
returns c =
    let a = c.args in
    record {
      place = omega (arith, length-between 3 a.n (omega arith) (omega arith));
      output = c.put_four.ensures ∙ ap (sets a.out.now a.at) (sym (decimal-four a.n (omega arith) (omega arith)));
    }
