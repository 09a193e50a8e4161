-- What the two positions find is the first word, and where it ends.
use Rattle.std.proofs.Common.{sym, ◌∙◌}
use Rattle.std.proofs.lemmas.List.{take_rest}
use Rattle.words.proofs.Runs.{no-word, word-found}
use Rattle.words.proofs.first_word.Goals as goal

pub returns-in_err-start : goal.returns-in_err-start
returns-in_err-start c = rw c.from_residual.ensures (no-word c.args.line.now (sym c.first_other.ensures ∙ c.in_err-start.was))

pub returns : goal.returns
returns c =
    let line = c.args.line.now in
    let start = c.in_ok-start.start in
    word-found line _ _ _ start _ _ (sym c.first_other.ensures ∙ c.in_ok-start.was) (take_rest line start) c.first_space.ensures c.unwrap_or-end.ensures c.split_at.ensures.front c.split_at.ensures.back
