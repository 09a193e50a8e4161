-- The rows of the code are those of the definition.
use Rattle.std.proofs.Common.{◌≡◌, ◌∙◌, ap, map, refl, rules, tests}
use Rattle.std.specs.Option.{option_map}
use Rattle.std.specs.Slice.Iter.{iter_rest}
use Rattle.std.specs.Str.{bytes_eq}
use Rattle.std.proofs.lemmas.Iterator.{YieldsList-from_slice}
use Rattle.std.proofs.lemmas.Iterator.Search.{find_from_yields_List}
use Rattle.commands.specs.Commands.{commands}
use Rattle.commands.proofs.Rows.{Row, shown, behind, named_row}
use Rattle.commands.proofs.named.Goals as goal

pub returns : goal.returns
unfolding commands
returns c =
    let rows = iter_rest c.iter.result in
    let found = find_from_yields_List (λ (row : Row). bytes_eq row.0.now c.args.word.now) _ _ c.find.result c.find.ensures.ran (YieldsList-from_slice rows refl) (λ x b q k. search (rules, tests)) in
    let mapped : option_map (λ row. (row.0, row.1.now)) c.map.result ≡ option_map behind (option_map shown (option_map (λ row. row.now) c.find.result)) = search rules in
    mapped ∙ named_row c.args.word.now rows _ (ap (map shown) c.iter.ensures.rest) found
