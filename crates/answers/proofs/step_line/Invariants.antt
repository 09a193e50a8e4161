use Rattle.std.proofs.Common.{◌≡◌}
use Rattle.lines.specs.State.{stepped_by}
use Rattle.answers.specs.Reading.{part, Plain}
use Rattle.answers.proofs.step_line.Given as goal

-- the state is that after the bytes passed, of which none is a newline
abbrev pub invariant-loop-end : goal.invariant-loop-end
invariant-loop-end l = record {
  line : l.state ≡ stepped_by l.fn.line (part l.input l.from l.end);
  plain : Plain (part l.input l.from l.end);
}
