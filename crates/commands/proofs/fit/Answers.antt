-- The chain asks each kind of its word, and then whether there is a word more.
use Rattle.std.proofs.Common.{◌+◌, ◌&&◌, not, sym, ap, ◌∙◌, rules, tests}
use Rattle.std.proofs.lemmas.Iterator.{YieldsList-from_slice}
use Rattle.std.proofs.lemmas.Iterator.Consumers.{YieldsList-at, YieldsList-from_enumerate}
use Rattle.std.proofs.lemmas.Iterator.Search.{all_from_yields_List}
use Rattle.words.specs.Words.{words}
use Rattle.commands.proofs.Fitting.{said_at, fit-all, fit-none}
use Rattle.commands.proofs.fit.Goals as goal

pub returns-then-all : goal.returns-then-all
returns-then-all c =
    let all = all_from_yields_List (λ pair. said_at (words c.args.line.now) (pair.0 + 1) pair.1) _ _ c.all.result c.all.ensures.ran (YieldsList-from_enumerate (YieldsList-at c.enumerate.ensures.source (YieldsList-from_slice c.args.kinds.now c.iter.ensures.rest)) c.enumerate.ensures.count) (λ x b q k. search (rules, tests)) in
    ap (λ t. t && not c.has_word.result) (sym c.if-all.true) ∙ fit-all (words c.args.line.now) c.args.kinds.now c.all.result c.has_word.result all c.has_word.ensures

pub returns-else-all : goal.returns-else-all
returns-else-all c =
    let all = all_from_yields_List (λ pair. said_at (words c.args.line.now) (pair.0 + 1) pair.1) _ _ c.all.result c.all.ensures.ran (YieldsList-from_enumerate (YieldsList-at c.enumerate.ensures.source (YieldsList-from_slice c.args.kinds.now c.iter.ensures.rest)) c.enumerate.ensures.count) (λ x b q k. search (rules, tests)) in
    fit-none (words c.args.line.now) c.args.kinds.now c.all.result all c.if-all.false
