-- `states::held` meets its contract, place by place: past the end of a state its reading is 0. Assumes nothing.
use lib.IntN.{pos}
use borrow.Author.Rules.{rules}
use Rattle.layout.specs.Numbers.{variables_room}
use Rattle.layout.specs.Reading.{readings}
use Rattle.layout.proofs.Made.{made-listed}
use Rattle.states.proofs.held.Goals as goal

pub returns : goal.returns
returns c = made-listed variables_room (readings c.args.state.now) (λ i y q h k. search rules) (pos 0) c.from_fn.result c.from_fn.ensures.items
