-- `put_text`: what is put is the text's first bytes, as many as there is room for.
use Rattle.std.proofs.Common.{arith, ◌≡◌, ◌≤◌, ◌+◌, ◌++◌, List, ℕ, length, min, take, ◌-◌, ap, sym, ◌∙◌}
use Rattle.std.proofs.lemmas.Grind.{common_steps}
use Rattle.std.proofs.lemmas.List.{take_min, length-take-le}
use Rattle.std.proofs.lemmas.Slice.{take-put_mid}
use Rattle.std.proofs.Math.Seq.{take-append-add}
use Rattle.texts.proofs.Answers.put_text.Goals as goal

cut_off : (room count : ℕ) (now text : List ℕ) → length now ≤ room → count ≡ min (length text) (room - length now) → now ++ take count text ≡ take room (now ++ text)
cut_off room count now text fits counted =
    let left : count ≡ min (room - length now) (length text) = omega (arith, counted) in
    let all : room ≡ length now + (room - length now) = omega (arith, fits) in
    ap (λ n. now ++ take n text) left ∙ ap (λ l. now ++ l) (take_min (room - length now) text) ∙ sym (take-append-add now text (room - length now)) ∙ sym (ap (λ n. take n (now ++ text)) all)

pub returns : goal.returns
returns c =
    let part : c.copy_from_slice.new.self ≡ take c.min-count.result c.args.text.now = grind (arith, common_steps) in
    let long : length c.copy_from_slice.new.self ≡ c.min-count.result = ap length part ∙ length-take-le c.min-count.result c.args.text.now (omega arith) in
    let ends : length c.args.self.now ≡ c.self.inside.end = sym (ap length c.self.view_is) ∙ length-take-le c.self.inside.end c.self.inside.bytes (omega arith) in
    take-put_mid c.self.inside.end _ c.self.inside.bytes c.copy_from_slice.new.self _ (omega (arith, long)) (omega arith)
    ∙ ap (λ l. l ++ c.copy_from_slice.new.self) c.self.view_is
    ∙ ap (λ l. c.args.self.now ++ l) part
    ∙ cut_off 65536 c.min-count.result c.args.self.now c.args.text.now (omega (arith, ends)) (omega (arith, ends))
