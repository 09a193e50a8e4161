-- `put_byte`: the byte stands behind the answers, where there is room.
use Rattle.std.proofs.Common.{arith, ◌≡◌, ◌<◌, ◌++◌, List, ℕ, [], ◌∷◌, length, take, ap, sym, ◌∙◌}
use Rattle.std.proofs.lemmas.Grind.{common_steps}
use Rattle.std.proofs.lemmas.List.{take_all, take_more_set, length-append, length-take-le}
use Rattle.texts.proofs.Answers.put_byte.Goals as goal

behind : (room : ℕ) (now : List ℕ) (byte : ℕ) → length now < room → now ++ byte ∷ [] ≡ take room (now ++ byte ∷ [])
behind room now byte h = sym (take_all room (now ++ byte ∷ []) (omega (arith, length-append now (byte ∷ []), h)))

full : (room : ℕ) (now : List ℕ) (byte : ℕ) → length now ≡ room → now ≡ take room (now ++ byte ∷ [])
full room now byte h = grind (arith, common_steps)

pub returns-then-self-lt-OUT : goal.returns-then-self-lt-OUT
returns-then-self-lt-OUT c =
    let ends : length c.args.self.now ≡ c.self.inside.end = sym (ap length c.self.view_is) ∙ length-take-le c.self.inside.end c.self.inside.bytes (omega arith) in
    take_more_set c.self.inside.bytes c.self.inside.end c.args.byte (omega arith)
    ∙ ap (λ l. l ++ c.args.byte ∷ []) c.self.view_is
    ∙ behind 65536 c.args.self.now c.args.byte (omega (arith, ends))

pub returns-else-self-lt-OUT : goal.returns-else-self-lt-OUT
returns-else-self-lt-OUT c =
    let ends : length c.args.self.now ≡ c.self.inside.end = sym (ap length c.self.view_is) ∙ length-take-le c.self.inside.end c.self.inside.bytes (omega arith) in
    full 65536 c.args.self.now c.args.byte (omega (arith, ends))
