-- `write` meets its contract: what a write takes of the rest comes next in the whole.
use Rattle.std.proofs.Common.{◌≡◌, ◌∙◌, ap, subst, ℕ, ◌+◌, List, take, drop}
use Rattle.std.proofs.lemmas.List.{take_rest, drop-drop}
use Rattle.std.proofs.Math.Seq.{take-add}
use Rattle.std.specs.Prelude.{Option}
use Rattle.std.specs.Io.KnownBytes.{Appends}
use Rattle.std.proofs.KnownBytes.{Appends-trans}
use Rattle.streams.proofs.write.Goals as goal

next : (done n : ℕ) (buf rest : List ℕ) (old now new : Option (List ℕ)) → rest ≡ drop done buf → Appends old now (take done buf) → Appends now new (take n rest) → Appends old new (take (done + n) buf)
next done n buf rest old now new e before wrote =
    rw (take-add done n buf) (Appends-trans old now new (take done buf) (take n (drop done buf)) before (subst (λ (xs : List ℕ). Appends now new (take n xs)) e wrote))

pub loop-rest-preserved : goal.loop-rest-preserved
loop-rest-preserved g c =
    let buf = c.args.buf.now in
    let rest = c.loop-rest.rest.now in
    let (done, e, before) = c.loop-rest.invariant in
    let put = c.in_ok-n in (
      done + put.n,
      take_rest rest put.n ∙ ap (drop put.n) e ∙ drop-drop put.n done buf,
      next done put.n buf rest _ _ _ e before put.ensures.bytes,
    )
