-- The last eight digits stand behind the others, and the eight before them as well where there are more than sixteen.
use Rattle.std.proofs.Common.{◌≡◌, List, ℕ, ◌+◌, ◌*◌, ◌-◌, ◌/◌, ◌%◌, ◌≤◌, length, sym, ap, ◌∙◌, arith}
use Rattle.std.proofs.lemmas.List.Edits.{sets}
use Rattle.printing.specs.Groups.{eight}
use Rattle.printing.specs.Spell.{decimal}
use Rattle.printing.proofs.Digits.{eight-behind, length-behind}
use Rattle.printing.proofs.Writing.{written-sets, stored-behind}
use Rattle.printing.proofs.put_digits.Goals as goal
use Rattle.printing.proofs.put_digits.Goals.{then-high-gt0, else-high-gt0}

-- the last eight digits behind the others, as they are stored
rest : (n : ℕ) → n - 100000000 * (n / 100000000) ≡ n % 100000000
rest n = omega arith

behind : (out : List ℕ) (at n : ℕ) → 100000000 ≤ n → {mid end : List ℕ} {i : ℕ} → i ≡ at + length (decimal (n / 100000000)) → mid ≡ sets out at (decimal (n / 100000000)) → end ≡ sets mid i (eight (n - 100000000 * (n / 100000000)))
    → end ≡ sets out at (decimal n)
behind out at n h {mid} {end} {i} p m e =
    stored-behind out at (decimal (n / 100000000)) (eight (n % 100000000)) p m (e ∙ ap (λ r. sets mid i (eight r)) (rest n))
    ∙ ap (sets out at) (sym (eight-behind n h))

-- ---- three groups
pub put_few-i-requires : goal.put_few-i-requires
put_few-i-requires c =
    (omega arith, omega (arith, c.requires, length-behind 8 c.args.n (omega arith), length-behind 8 (c.args.n / 100000000) (omega arith)))

pub put_eight-requires : goal.put_eight-requires
put_eight-requires c =
    (omega arith, omega (arith, c.put_few-i.ensures.place, length-behind 8 c.args.n (omega arith), length-behind 8 (c.args.n / 100000000) (omega arith)))

pub overflow_add-i : goal.overflow_add-i
overflow_add-i c =
    omega (arith, c.put_few-i.ensures.place, length-behind 8 c.args.n (omega arith), length-behind 8 (c.args.n / 100000000) (omega arith))

pub put_eight-requires-then-high-ge100000000 : goal.put_eight-requires-then-high-ge100000000
put_eight-requires-then-high-ge100000000 c =
    (omega arith, omega (arith, c.put_few-i.ensures.place, length-behind 8 c.args.n (omega arith), length-behind 8 (c.args.n / 100000000) (omega arith)))

pub overflow_add-result : goal.overflow_add-result
overflow_add-result c =
    omega (arith, c.put_few-i.ensures.place, length-behind 8 c.args.n (omega arith), length-behind 8 (c.args.n / 100000000) (omega arith))

pub returns-then-high-ge100000000 : goal.returns-then-high-ge100000000
returns-then-high-ge100000000 c =
    let a = c.args in
    let few = c.put_few-i in
    let h : 100000000 ≤ a.n = omega arith in
    let g : 100000000 ≤ a.n / 100000000 = omega arith in
    let middle = behind a.out.now a.at (a.n / 100000000) g few.ensures.place few.ensures.output c.put_eight.ensures in
    let i : few.result + 8 ≡ a.at + length (decimal (a.n / 100000000)) = omega (arith, few.ensures.place, length-behind 8 (a.n / 100000000) g) in
    record {
      place = omega (arith, few.ensures.place, length-behind 8 a.n h, length-behind 8 (a.n / 100000000) g);
      output =
          behind a.out.now a.at a.n h i middle c.put_eight-then-high-ge100000000.ensures
          ∙ written-sets a.out.now a.at (decimal a.n) c.requires;
    }

-- ---- at most two: the first is put, and the other behind it where there is one
pub put_short-i-requires : goal.put_short-i-requires
put_short-i-requires c = elim c.if-high-gt0.branch [
  | then-high-gt0 w ↦ let l = ap (λ m. length (decimal m)) w.first-is in (omega arith, omega (arith, length-behind 8 c.args.n (omega arith)))
  | else-high-gt0 w ↦ let l = ap (λ m. length (decimal m)) w.first-is in (omega arith, omega arith)
]

pub put_eight-requires-then-high-gt0-2 : goal.put_eight-requires-then-high-gt0-2
put_eight-requires-then-high-gt0-2 c =
    let first : c.if-high-gt0.first ≡ c.args.n / 100000000 = elim c.if-high-gt0.branch [ then-high-gt0 w ↦ w.first-is | else-high-gt0 w ↦ absurd (omega arith) ] in
    (omega arith, omega (arith, c.put_short-i.ensures.place, ap (λ m. length (decimal m)) first, length-behind 8 c.args.n (omega arith)))

pub overflow_add-result-then-high-gt0-2 : goal.overflow_add-result-then-high-gt0-2
overflow_add-result-then-high-gt0-2 c =
    let first : c.if-high-gt0.first ≡ c.args.n / 100000000 = elim c.if-high-gt0.branch [ then-high-gt0 w ↦ w.first-is | else-high-gt0 w ↦ absurd (omega arith) ] in
    omega (arith, c.put_short-i.ensures.place, ap (λ m. length (decimal m)) first, length-behind 8 c.args.n (omega arith))

pub returns-then-high-gt0-2 : goal.returns-then-high-gt0-2
returns-then-high-gt0-2 c =
    let a = c.args in
    let h : 100000000 ≤ a.n = omega arith in
    let first : c.if-high-gt0.first ≡ a.n / 100000000 = elim c.if-high-gt0.branch [ then-high-gt0 w ↦ w.first-is | else-high-gt0 w ↦ absurd (omega arith) ] in
    let place : c.put_short-i.result ≡ a.at + length (decimal (a.n / 100000000)) = c.put_short-i.ensures.place ∙ ap (λ m. a.at + length (decimal m)) first in
    record {
      place = omega (arith, length-behind 8 a.n h);
      output =
          behind a.out.now a.at a.n h place (c.put_short-i.ensures.output ∙ ap (λ m. sets a.out.now a.at (decimal m)) first) c.put_eight-then-high-gt0-2.ensures
          ∙ written-sets a.out.now a.at (decimal a.n) c.requires;
    }

pub returns : goal.returns
returns c =
    let a = c.args in
    let first : c.if-high-gt0.first ≡ a.n = elim c.if-high-gt0.branch [ then-high-gt0 w ↦ absurd (omega arith) | else-high-gt0 w ↦ w.first-is ] in
    record {
      place = c.put_short-i.ensures.place ∙ ap (λ m. a.at + length (decimal m)) first;
      output =
          c.put_short-i.ensures.output ∙ ap (λ m. sets a.out.now a.at (decimal m)) first ∙ written-sets a.out.now a.at (decimal a.n) c.requires;
    }
