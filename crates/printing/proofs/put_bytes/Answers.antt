use Rattle.std.proofs.Common.{◌≡◌, suc, ◌+◌, ◌-◌, ◌%◌, ◌/◌, ap, ◌∙◌, sym, set, add-one, arith}
use Rattle.std.proofs.Math.ListN.{length-set}
use Rattle.std.proofs.lemmas.List.Edits.{sets}
use Rattle.printing.specs.Groups.{unpacked}
use Rattle.printing.proofs.put_bytes.Goals as goal

pub loop-i-preserved : goal.loop-i-preserved
loop-i-preserved c =
    let l = c.loop-i in
    let end = c.args.at + c.args.count in
    let one : end - l.i ≡ suc (end - (l.i + 1)) = omega arith in (
      length-set l.out l.i _ ∙ l.invariant.0,
      ap (λ k. sets (set l.out l.i (l.rest % 256)) k (unpacked (end - (l.i + 1)) (l.rest / 256))) (add-one l.i)
          ∙ ap (λ n. sets l.out l.i (unpacked n l.rest)) (sym one)
          ∙ l.invariant.1,
    )
