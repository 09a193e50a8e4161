-- `write` ends with the bytes that are left: so many first ones of the whole were written, and the rest is what stands behind them.
use Rattle.std.proofs.Common.{◌≡◌, ℕ, length, take, drop}
use Rattle.std.specs.Io.KnownBytes.{Appends}
use Rattle.streams.proofs.write.Given as goal

abbrev pub invariant-loop-rest : goal.invariant-loop-rest
invariant-loop-rest g l = (done : ℕ) × (l.rest ≡ drop done l.buf) × Appends (g.W.Write.contents l.initial.to) (g.W.Write.contents l.to) (take done l.buf)

abbrev pub decreases-loop-rest : goal.decreases-loop-rest
decreases-loop-rest g l = length l.rest
