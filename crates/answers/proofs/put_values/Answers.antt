use Rattle.std.proofs.Common.{◌≡◌, ◌∷◌, ◌+◌, pos, length, take, get_or, set, length-append, sym, ap, ap₂, ◌∙◌, rules, arith, w64}
use mir.Val.{SFits, to_z, of_z}
use Rattle.printing.specs.Spell.{spell, written}
use Rattle.printing.proofs.Digits.{spell-fits}
use Rattle.printing.proofs.Writing.{written-cons, written-append}
use Rattle.answers.specs.Answers.{spaced}
use Rattle.answers.proofs.Spaced.{spaced-more}
use Rattle.answers.proofs.put_values.Goals as goal

pub loop-value-preserved : goal.loop-value-preserved
loop-value-preserved c =
    let a = c.args in
    let l = c.loop-value in
    let number = c.put_number-place.ensures in
    let S = spaced (take l.value-index a.values) in
    let x = get_or a.values l.value-index (pos 0) in
    let read : to_z w64 (of_z w64 x) ≡ x = search rules in
    let fits : SFits w64 x = search rules in
    let short = spell-fits x fits in
    let count : length a.values ≡ 6 = search rules in
    let more = spaced-more a.values l.value-index (omega arith) in
    let longer : length (spaced (take (l.value-index + 1) a.values)) ≡ length S + (1 + length (spell x)) = ap length more ∙ length-append S (32 ∷ spell x) ∙ omega arith in
    record {
      place = omega (arith, number.place, ap (λ z. length (spell z)) read, l.invariant.place);
      room = omega (arith, l.invariant.room);
      output =
          number.output
          ∙ ap (λ z. written (set l.out l.place 32) (l.place + 1) (spell z)) read
          ∙ written-cons l.out l.place 32 (spell x) (omega (arith, l.invariant.place, l.invariant.room))
          ∙ ap₂ (λ o p. written o p (32 ∷ spell x)) l.invariant.output l.invariant.place
          ∙ written-append a.out.now a.at S (32 ∷ spell x) (omega (arith, length-append S (32 ∷ spell x), l.invariant.room))
          ∙ ap (written a.out.now a.at) (sym more);
    }
