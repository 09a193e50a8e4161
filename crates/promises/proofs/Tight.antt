-- Every public contract leaves no choice: any two outcomes that it allows have the same result, and leave the same numbers in every slice that was lent. docs/CONTRACTS.md has the
-- functions in a table. Assumes nothing.
--   Ensures      what a contract says of the arguments, the result and the parameters at exit
--   Outcome      what a call may give back and leave behind by a contract
--   Tight        any two outcomes of a call are the same, for all arguments, whether or not they meet the `requires`
--   tight        it is enough that the result and each lent slice are the same
--   FN-tight     the contract of the function FN, as it is generated from the code's own `ensures`; a method has its type's name in front
use mathlib.Core.HLevel.{is_prop→PathP}
use mathlib.Core.Path.{◌≡◌, refl, sym, ◌∙◌, ap}
use mathlib.Core.List.{List, [], ◌∷◌}
use Prim.Native.Nat.{ℕ, ◌/◌, ◌<◌}
use native.Mathlib.Decide.{dec_lt}
use native.Mathlib.Omega.{arith}
use lib.IntN.{ℤ}
use lib.ListN.{length, take}
use contract.Lifetimes.{Lfts}
use denote.Exit.{Exit, unchanged, leaves, Last}
use denote.Param.Laws.{Laws}
use denote.RattleType.{RattleType, Denots}
use denote.Signature.{Slot, types_at}
use denote.Triple.Entry.{Args, Res}
use denote.Triple.End.{Kepts, Fins}
use denote.Triple.Clauses.{Ended, Lasts, AtExit, at_exit}
use Rattle.std.proofs.Props.{props}
use Rattle.polynomials.specs.Binomial.{multiplied_rows, shift_in}
use mir.Syntax.{Dict}
use Rattle.polynomials.specs.declared.Product as product
use Rattle.polynomials.specs.Limits.{cap}
use Rattle.polynomials.specs.Ready.{Reached}
use Rattle.polynomials.specs.declared.Reach.{Reach}
use Rattle.std.specs.Prelude.{Result}
use Rattle.layout.specs.declared.Model.{Model}
use Rattle.layout.specs.declared.refusals.Angle.{Angle}
use Rattle.layout.specs.declared.refusals.Refused.{Refused}
use Rattle.layout.specs.Refusals.{place, refusal_number, given_back}
use Rattle.layout.proofs.Outcomes.{given-once, refused-once, place-once}
use Rattle.limits.specs.declared.Limits.{Limits}
use Rattle.printing.specs.Spell.{written}
use Rattle.answers.specs.Reading.{readings_after, answers_of, Feeding}
use Rattle.answers.specs.declared.Reading.{Reading}
use Rattle.answers.specs.declared.Fed.{Fed}
use Rattle.whole.specs.contracts as whole
use Rattle.whole.proofs as whole'
use Rattle.polynomials.specs.contracts as polynomials
use Rattle.polynomials.proofs as polynomials'
use Rattle.shifting.specs.declared.Rows.{Rows}
use Rattle.layout.specs.contracts as layout
use Rattle.layout.proofs as layout'
use Rattle.shifting.specs.contracts as shifting
use Rattle.shifting.proofs as shifting'
use Rattle.shapes.specs.contracts as shapes
use Rattle.shapes.proofs as shapes'
use Rattle.limits.specs.contracts as limits
use Rattle.limits.proofs as limits'
use Rattle.weights.specs.contracts as weights
use Rattle.weights.proofs as weights'
use Rattle.blocks.specs.contracts as blocks
use Rattle.blocks.proofs as blocks'
use Rattle.tables.specs.contracts as tables
use Rattle.tables.proofs as tables'
use Rattle.moving.specs.contracts as moving
use Rattle.moving.proofs as moving'
use Rattle.states.specs.contracts as states
use Rattle.states.proofs as states'
use Rattle.cumulus.specs.contracts as cumulus
use Rattle.cumulus.proofs as cumulus'
use Rattle.gtm.specs.contracts as gtm
use Rattle.gtm.proofs as gtm'
use Rattle.microradians.specs.contracts as microradians
use Rattle.microradians.proofs as microradians'
use Rattle.rounding.specs.contracts as rounding
use Rattle.rounding.proofs as rounding'
use Rattle.thousandths.specs.contracts as thousandths
use Rattle.thousandths.proofs as thousandths'
use Rattle.door.specs.contracts as door
use Rattle.door.proofs as door'
use Rattle.clochecloak.specs.contracts as clochecloak
use Rattle.clochecloak.proofs as clochecloak'
use Rattle.lines.specs.contracts as lines
use Rattle.lines.proofs as lines'
use Rattle.printing.specs.contracts as printing
use Rattle.printing.proofs as printing'
use Rattle.answers.specs.contracts as answers
use Rattle.answers.proofs as answers'

abbrev pub Ensures : Ended → Type 1
Ensures T = (κs : Lfts T.signature.lifetimes) → Args T.signature κs → Res T.signature κs → AtExit T κs → Type 0

-- `lasts` is what each slice that was lent to be written holds at the end; no other parameter can change
pub record Outcome (T : Ended) (Post : Ensures T) (κs : Lfts T.signature.lifetimes) (a : Args T.signature κs) : Type 0 where
  pub result : Res T.signature κs
  pub lasts : Lasts T κs a
  pub allowed : Post κs a result (at_exit T κs a lasts)

abbrev pub Tight : (T : Ended) → Ensures T → Type 0
Tight T Post = (κs : Lfts T.signature.lifetimes) (a : Args T.signature κs) (o p : Outcome T Post κs a) → (o.result ≡ p.result) × (o.lasts ≡ p.lasts)

-- ════ the lent slices one by one, and the other parameters passed over
abbrev Also : {D : Type 0} (e : Exit D) (x : D) → Last e x → Last e x → Type 0 → Type 0
Also unchanged x v w P = P
Also (leaves L l S s r) x v w P = (v ≡ w) × P

also : {D : Type 0} (e : Exit D) (x : D) (v w : Last e x) {P : Type 0} → Also e x v w P → (v ≡ w) × P
also unchanged x v w h = (refl, h)
also (leaves L l S s r) x v w h = h

module _ {n : ℕ} (κs : Lfts n) where
  abbrev SameLasts : (ss : List (Slot n)) (ks : Kepts ss) (a : Denots (types_at ss κs)) → Fins κs ss ks a → Fins κs ss ks a → Type 0
  SameLasts [] ks a v w = Unit {0}
  SameLasts (s ∷ ss) ks a v w = Also ((s.row κs).exit ks.0) a.0 v.0 w.0 (SameLasts ss ks.1 a.1 v.1 w.1)

  same-lasts : (ss : List (Slot n)) (ks : Kepts ss) (a : Denots (types_at ss κs)) (v w : Fins κs ss ks a) → SameLasts ss ks a v w → v ≡ w
  same-lasts [] ks a v w h = refl
  same-lasts (s ∷ ss) ks a v w h = let e = also ((s.row κs).exit ks.0) a.0 v.0 w.0 h in λ i. (e.0 i, same-lasts ss ks.1 a.1 v.1 w.1 e.1 i)

tight : {T : Ended} {Post : Ensures T} {κs : Lfts T.signature.lifetimes} {a : Args T.signature κs} (o p : Outcome T Post κs a)
    → (o.result ≡ p.result) × SameLasts κs T.signature.params T.kept a o.lasts p.lasts → (o.result ≡ p.result) × (o.lasts ≡ p.lasts)
tight {T} {κs = κs} {a} o p h = (h.0, same-lasts κs T.signature.params T.kept a o.lasts p.lasts h.1)

-- both are what the contract names
same : {A : Type 0} {x y z : A} → x ≡ z → y ≡ z → x ≡ y
same p q = p ∙ sym q

-- an outcome has a number of its own, and so has a refusal and an angle
same-outcome : {x y : Result (Unit {0}) Refused} {n : ℕ} → given_back x ≡ n → given_back y ≡ n → x ≡ y
same-outcome {x} {y} p q = given-once x y (p ∙ sym q)

same-refused : {x y : Refused} {n : ℕ} → refusal_number x ≡ n → refusal_number y ≡ n → x ≡ y
same-refused {x} {y} p q = refused-once x y (p ∙ sym q)

same-angle : {x y : Angle} {n : ℕ} → place x ≡ n → place y ≡ n → x ≡ y
same-angle {x} {y} p q = place-once x y (p ∙ sym q)

-- ════ whole
pub magnitude-tight : Tight whole.magnitude.ended whole'.magnitude.Reads.Post
magnitude-tight κs a o p = tight o p (search same)

pub nearest-away-tight : Tight whole.nearest_away.ended whole'.nearest_away.Reads.Post
nearest-away-tight κs a o p = tight o p (search same)

-- ════ layout
pub refusal-number-tight : Tight layout.refusals.Refused.number.ended layout'.refusals.Refused.number.Reads.Post
refusal-number-tight κs a o p = tight o p (search same)

pub given-back-tight : Tight layout.refusals.given_back.ended layout'.refusals.given_back.Reads.Post
given-back-tight κs a o p = tight o p (search same)

-- ════ polynomials
same-reach : {x y : Reach} {n : ℕ} → (x.size ≡ n) × Reached x → (y.size ≡ n) × Reached y → x ≡ y
same-reach h k =
    let size = h.0 ∙ sym k.0 in
    let most = h.1.most-is ∙ ap (λ n. cap / n) size ∙ sym k.1.most-is in
    λ i. record { size = size i; most = most i }

pub reach-of-tight : Tight polynomials.Reach.of.ended polynomials'.Reach.of.Reads.Post
reach-of-tight κs a o p = tight o p (same-reach o.allowed p.allowed, tt)

pub number-at-tight : Tight polynomials.number_at.ended polynomials'.number_at.Reads.Post
number-at-tight κs a o p = tight o p (search same)

-- of whichever product
pub product-times-tight : (P : RattleType) (L : Laws P) (G : product.Ghosts P.Denot) (D : Dict) → Tight (polynomials.Product.times.ended P G D) (polynomials'.Product.times.Reads.Post P L G D)
product-times-tight P L G D κs a o p = tight o p (search same)

-- over whichever product
pub group-at-tight : (P : RattleType) (L : Laws P) (G : product.Ghosts P.Denot) (D : Dict) → Tight (polynomials.group_at.ended P G D) (polynomials'.group_at.Reads.Post P L G D)
group-at-tight P L G D κs a o p = tight o p (search same)

pub value-at-tight : Tight polynomials.value_at.ended polynomials'.value_at.Reads.Post
value-at-tight κs a o p = tight o p (search same)

pub add-row-tight : Tight polynomials.add_row.ended polynomials'.add_row.Reads.Post
add-row-tight κs a o p = tight o p (search same)

pub weight-at-tight : Tight polynomials.weight_at.ended polynomials'.weight_at.Reads.Post
weight-at-tight κs a o p = tight o p (search same)

-- ════ shifting
-- what the rows are rows of has one proof at most
same-rows : {x y : Rows} {n : List (List ℤ)} → x.numbers ≡ n → y.numbers ≡ n → x ≡ y
same-rows {x} {y} h k =
    let e = same h k in
    λ i. record { numbers = e i; of_a_shift = is_prop→PathP (λ j. e j ≡ multiplied_rows (shift_in (e j))) (λ j. hlevel props) x.of_a_shift y.of_a_shift i }

pub multiplied-out-tight : Tight shifting.multiplied_out.ended shifting'.multiplied_out.Reads.Post
multiplied-out-tight κs a o p = tight o p (same-rows o.allowed p.allowed, tt)

pub move-group-tight : Tight shifting.move_group.ended shifting'.move_group.Reads.Post
move-group-tight κs a o p = tight o p (search same)

-- ════ shapes
pub shape-size-tight : Tight shapes.size.ended shapes'.size.Reads.Post
shape-size-tight κs a o p = tight o p (search same)

pub shape-variables-tight : Tight shapes.variables.ended shapes'.variables.Reads.Post
shape-variables-tight κs a o p = tight o p (search same)

pub shape-blocks-tight : Tight shapes.blocks.ended shapes'.blocks.Reads.Post
shape-blocks-tight κs a o p = tight o p (search same)

pub shape-groups-tight : Tight shapes.groups.ended shapes'.groups.Reads.Post
shape-groups-tight κs a o p = tight o p (search same)

pub shape-fine-cuts-tight : Tight shapes.fine_cuts.ended shapes'.fine_cuts.Reads.Post
shape-fine-cuts-tight κs a o p = tight o p (search same)

pub shape-has-fine-cut-tight : Tight shapes.has_fine_cut.ended shapes'.has_fine_cut.Reads.Post
shape-has-fine-cut-tight κs a o p = tight o p (search same)

pub shape-limits-tight : Tight shapes.limits.ended shapes'.limits.Reads.Post
shape-limits-tight κs a o p = tight o p (search same)

pub shape-block-tight : Tight shapes.block.ended shapes'.block.Reads.Post
shape-block-tight κs a o p = tight o p (search same)

pub shape-table-tight : Tight shapes.table.ended shapes'.table.Reads.Post
shape-table-tight κs a o p = tight o p (search same)

pub shape-start-tight : Tight shapes.start.ended shapes'.start.Reads.Post
shape-start-tight κs a o p = tight o p (search same)

pub shape-outside-tight : Tight shapes.outside.ended shapes'.outside.Reads.Post
shape-outside-tight κs a o p = tight o p (search same-refused)

pub shape-angle-tight : Tight shapes.angle.ended shapes'.angle.Reads.Post
shape-angle-tight κs a o p = tight o p (search same-angle)

pub shape-kind-tight : Tight shapes.kind.ended shapes'.kind.Reads.Post
shape-kind-tight κs a o p = tight o p (search same)

-- ════ limits
same-limits : {x y : Limits} {m : Model} {n : List ℤ} → (x.model ≡ m) × (x.numbers ≡ n) → (y.model ≡ m) × (y.numbers ≡ n) → x ≡ y
same-limits h k i = record { model = same h.0 k.0 i; numbers = same h.1 k.1 i }

pub limits-of-tight : Tight limits.Limits.of.ended limits'.Limits.of.Reads.Post
limits-of-tight κs a o p = tight o p (same-limits o.allowed p.allowed, tt)

pub limits-fine-cut-tight : Tight limits.Limits.fine_cut.ended limits'.Limits.fine_cut.Reads.Post
limits-fine-cut-tight κs a o p = tight o p (search same)

pub limits-lowest-tight : Tight limits.Limits.lowest.ended limits'.Limits.lowest.Reads.Post
limits-lowest-tight κs a o p = tight o p (search same)

pub limits-highest-tight : Tight limits.Limits.highest.ended limits'.Limits.highest.Reads.Post
limits-highest-tight κs a o p = tight o p (search same)

pub limits-good-tight : Tight limits.Limits.good.ended limits'.Limits.good.Reads.Post
limits-good-tight κs a o p = tight o p (search same)

pub limits-moved-tight : Tight limits.Limits.moved.ended limits'.Limits.moved.Reads.Post
limits-moved-tight κs a o p = tight o p (same-limits o.allowed p.allowed, tt)

pub limits-reaches-tight : Tight limits.Limits.reaches.ended limits'.Limits.reaches.Reads.Post
limits-reaches-tight κs a o p = tight o p (search same)

pub limits-inside-tight : Tight limits.Limits.inside.ended limits'.Limits.inside.Reads.Post
limits-inside-tight κs a o p = tight o p (search same)

pub limits-outside-tight : Tight limits.Limits.outside.ended limits'.Limits.outside.Reads.Post
limits-outside-tight κs a o p = tight o p (search (same, same-outcome))

pub limits-piece-tight : Tight limits.Limits.piece.ended limits'.Limits.piece.Reads.Post
limits-piece-tight κs a o p = tight o p (search same)

-- ════ weights
pub within-cap-tight : Tight weights.within_cap.ended weights'.within_cap.Reads.Post
within-cap-tight κs a o p = tight o p (search same)

-- ════ blocks
pub coefficient-at-tight : Tight blocks.coefficient_at.ended blocks'.coefficient_at.Reads.Post
coefficient-at-tight κs a o p = tight o p (search same)

pub move-block-tight : Tight blocks.move_block.ended blocks'.move_block.Reads.Post
move-block-tight κs a o p = tight o p (search same)

pub copy-tight : Tight blocks.copy.ended blocks'.copy.Reads.Post
copy-tight κs a o p = tight o p (search same)

-- ════ tables
pub publish-table-tight : Tight tables.publishing.publish.ended tables'.publishing.publish.Reads.Post
publish-table-tight κs a o p = tight o p (search (same, same-outcome))

pub soundness-tight : Tight tables.soundness.soundness.ended tables'.soundness.soundness.Reads.Post
soundness-tight κs a o p = tight o p (search (same, same-outcome))

pub refusal-of-tight : Tight tables.soundness.refusal_of.ended tables'.soundness.refusal_of.Reads.Post
refusal-of-tight κs a o p = tight o p (search (same, same-outcome))

pub write-values-tight : Tight tables.reading.write_values.ended tables'.reading.write_values.Reads.Post
write-values-tight κs a o p = tight o p (search same)

pub read-sound-tight : Tight tables.reading.read_sound.ended tables'.reading.read_sound.Reads.Post
read-sound-tight κs a o p = tight o p (search (same, same-outcome))

pub read-known-tight : Tight tables.reading.read_known.ended tables'.reading.read_known.Reads.Post
read-known-tight κs a o p = tight o p (search (same, same-outcome))

pub refusal-into-tight : Tight tables.soundness.refusal_into.ended tables'.soundness.refusal_into.Reads.Post
refusal-into-tight κs a o p = tight o p (search (same, same-outcome))

-- ════ moving
pub model-move-datum-tight : Tight moving.move_datum.ended moving'.move_datum.Reads.Post
model-move-datum-tight κs a o p = tight o p (search (same, same-outcome))

-- ════ states
pub model-read-many-tight : Tight states.read_many.ended states'.read_many.Reads.Post
model-read-many-tight κs a o p = tight o p (search (same, same-outcome))

-- ════ cumulus
pub publish-tight : Tight cumulus.publish.ended cumulus'.publish.Reads.Post
publish-tight κs a o p = tight o p (search (same, same-outcome))

pub read-tight : Tight cumulus.read.ended cumulus'.read.Reads.Post
read-tight κs a o p = tight o p (search (same, same-outcome))

pub read-many-tight : Tight cumulus.read_many.ended cumulus'.read_many.Reads.Post
read-many-tight κs a o p = tight o p (search (same, same-outcome))

pub move-datum-tight : Tight cumulus.move_datum.ended cumulus'.move_datum.Reads.Post
move-datum-tight κs a o p = tight o p (search (same, same-outcome))

-- ════ gtm
pub gtm-publish-tight : Tight gtm.publish.ended gtm'.publish.Reads.Post
gtm-publish-tight κs a o p = tight o p (search (same, same-outcome))

pub gtm-read-tight : Tight gtm.read.ended gtm'.read.Reads.Post
gtm-read-tight κs a o p = tight o p (search (same, same-outcome))

pub gtm-move-datum-tight : Tight gtm.move_datum.ended gtm'.move_datum.Reads.Post
gtm-move-datum-tight κs a o p = tight o p (search (same, same-outcome))

-- ════ microradians
pub read-microradians-tight : Tight microradians.read.ended microradians'.read.Reads.Post
read-microradians-tight κs a o p = tight o p (search (same, same-outcome))

-- ════ rounding
pub at-most-tight : Tight thousandths.at_most.ended thousandths'.at_most.Reads.Post
at-most-tight κs a o p = tight o p (search same)

pub step-of-tight : Tight rounding.step_of.ended rounding'.step_of.Reads.Post
step-of-tight κs a o p = tight o p (search same)

pub answer-tight : Tight rounding.answer.ended rounding'.answer.Reads.Post
answer-tight κs a o p = tight o p (search same)

-- ════ door
pub read-floats-tight : Tight door.read_floats.ended door'.read_floats.Reads.Post
read-floats-tight κs a o p = tight o p (search same)

-- ════ clochecloak
pub clochecloak-publish-tight : Tight clochecloak.clochecloak_publish.ended clochecloak'.clochecloak_publish.Reads.Post
clochecloak-publish-tight κs a o p = tight o p (search same)

pub clochecloak-read-tight : Tight clochecloak.clochecloak_read.ended clochecloak'.clochecloak_read.Reads.Post
clochecloak-read-tight κs a o p = tight o p (search same)

pub clochecloak-read-many-tight : Tight clochecloak.clochecloak_read_many.ended clochecloak'.clochecloak_read_many.Reads.Post
clochecloak-read-many-tight κs a o p = tight o p (search same)

pub clochecloak-read-microradians-tight : Tight clochecloak.clochecloak_read_microradians.ended clochecloak'.clochecloak_read_microradians.Reads.Post
clochecloak-read-microradians-tight κs a o p = tight o p (search same)

pub clochecloak-move-tight : Tight clochecloak.clochecloak_move.ended clochecloak'.clochecloak_move.Reads.Post
clochecloak-move-tight κs a o p = tight o p (search same)

pub clochecloak-gtm-publish-tight : Tight clochecloak.clochecloak_gtm_publish.ended clochecloak'.clochecloak_gtm_publish.Reads.Post
clochecloak-gtm-publish-tight κs a o p = tight o p (search same)

pub clochecloak-gtm-read-tight : Tight clochecloak.clochecloak_gtm_read.ended clochecloak'.clochecloak_gtm_read.Reads.Post
clochecloak-gtm-read-tight κs a o p = tight o p (search same)

pub clochecloak-gtm-move-tight : Tight clochecloak.clochecloak_gtm_move.ended clochecloak'.clochecloak_gtm_move.Reads.Post
clochecloak-gtm-move-tight κs a o p = tight o p (search same)

pub clochecloak-read-floats-tight : Tight clochecloak.clochecloak_read_floats.ended clochecloak'.clochecloak_read_floats.Reads.Post
clochecloak-read-floats-tight κs a o p = tight o p (search same)

-- ════ lines
pub state-start-tight : Tight lines.State.start.ended lines'.State.start.Reads.Post
state-start-tight κs a o p = tight o p (search same)

pub state-step-tight : Tight lines.State.step.ended lines'.State.step.Reads.Post
state-step-tight κs a o p = tight o p (search same)

pub state-finish-tight : Tight lines.State.finish.ended lines'.State.finish.Reads.Post
state-finish-tight κs a o p = tight o p (search same)

-- ════ printing
pub put-few-tight : Tight printing.put_few.ended printing'.put_few.Reads.Post
put-few-tight κs a o p = tight o p (search same)

pub put-digits-tight : Tight printing.put_digits.ended printing'.put_digits.Reads.Post
put-digits-tight κs a o p = tight o p (search same)

pub put-number-tight : Tight printing.put_number.ended printing'.put_number.Reads.Post
put-number-tight κs a o p = tight o p (search same)

-- ════ answers
-- `feed` says where it stops by the room for an answer: there is enough before each byte that is taken, and not where a byte is left
module _ {t : List ℤ} {r : Reading} {input out : List ℕ} where
  not-further : {out₁ out₂ : List ℕ} {f g : Fed} → Feeding t r input out out₁ f → Feeding t r input out out₂ g → f.taken < g.taken → ⊥
  not-further {f = f} p q h = omega (arith, p.place, p.full (omega (arith, q.within, h)), q.roomy f.taken h)

  same_taken : {out₁ out₂ : List ℕ} {f g : Fed} → Feeding t r input out out₁ f → Feeding t r input out out₂ g → f.taken ≡ g.taken
  same_taken {f = f} {g} p q = go (dec_lt f.taken g.taken) (dec_lt g.taken f.taken)
    where
      go : Dec (f.taken < g.taken) → Dec (g.taken < f.taken) → f.taken ≡ g.taken
      go (yes h) k = absurd (not-further p q h)
      go (no h) (yes k) = absurd (not-further q p k)
      go (no h) (no k) = omega arith

  same-fed : {out₁ out₂ : List ℕ} {f g : Fed} → Feeding t r input out out₁ f → Feeding t r input out out₂ g → (f ≡ g) × (out₁ ≡ out₂)
  same-fed {f = f} {g} p q =
      let e = same_taken p q in
      let a : f.reading ≡ g.reading = p.reading ∙ ap (λ n. readings_after r (take n input)) e ∙ sym q.reading in
      let b : f.put ≡ g.put = p.place ∙ ap (λ n. length (answers_of t r (take n input))) e ∙ sym q.place in
      ((λ i. record { reading = a i; taken = e i; put = b i }), p.output ∙ ap (λ n. written out 0 (answers_of t r (take n input))) e ∙ sym q.output)

pub reading-fresh-tight : Tight answers.Reading.fresh.ended answers'.Reading.fresh.Reads.Post
reading-fresh-tight κs a o p = tight o p (search same)

pub feed-tight : Tight answers.feed.ended answers'.feed.Reads.Post
feed-tight κs a o p = let h = same-fed o.allowed p.allowed in tight o p (search h)

pub finish-tight : Tight answers.finish.ended answers'.finish.Reads.Post
finish-tight κs a o p = tight o p (search same)
