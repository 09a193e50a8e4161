-- Behind so many first words stands the word, and each word is a part of the line.
use Rattle.std.proofs.Common.{◌≡◌, List, ℕ, Bor, Option, Some, None, IfSome, slice_get, sym, ◌∙◌, ap, arith}
use Rattle.std.specs.Option.{option_map}
use Rattle.std.specs.Str.Iter.{HasSubslice}
use Rattle.words.specs.Words.{words, word_at}
use Rattle.words.proofs.Parts.{word-part}
use Rattle.words.proofs.Runs.{none-there, there, one-more}
use Rattle.words.proofs.word_at.Goals as goal

pub returns-in_err-behind-clause-word : goal.returns-in_err-behind-clause-word
returns-in_err-behind-clause-word c =
    rw c.from_residual.ensures (sym (none-there (words c.args.line.now) c.loop.counter c.args.k (omega arith) (c.loop.invariant ∙ c.in_err-behind.ensures)))

pub loop-preserved : goal.loop-preserved
loop-preserved c = one-more (words c.args.line.now) c.loop.counter _ _ (c.loop.invariant ∙ c.in_ok-behind.ensures)

pub returns-in_err-word-clause-word : goal.returns-in_err-word-clause-word
returns-in_err-word-clause-word c =
    rw c.from_residual-in_err-word.ensures (sym (none-there (words c.args.line.now) c.loop.counter c.args.k (omega arith) (c.loop.invariant ∙ c.in_err-word.ensures)))

pub returns-clause-word : goal.returns-clause-word
returns-clause-word c =
    let end : c.loop.counter ≡ c.args.k = omega arith in
    sym (ap (slice_get (words c.args.line.now)) (sym end) ∙ there (words c.args.line.now) c.loop.counter _ _ (c.loop.invariant ∙ c.in_ok-word.ensures))

part : (line : List ℕ) (k : ℕ) (found : Option (Bor (List ℕ))) → option_map (λ word. word.now) found ≡ word_at line k → IfSome found (λ word. HasSubslice line word.now)
part line k None e = tt
part line k (Some word) e = word-part line k word.now (sym e)

pub returns-clause-part : goal.returns-clause-part
returns-clause-part c = part c.args.line.now c.args.k (Some c.in_ok-word.word) (returns-clause-word c)
