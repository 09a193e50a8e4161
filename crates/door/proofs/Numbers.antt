-- Which number the door gives back, from the tests one after another, and the answer with it.
--   named-not-finite, named-outside      the number of a step that refuses
--   not-finite-number, none-not-finite, none-outside, past-finite   what the first refusal of the steps tells
--   number-not-finite, number-outside, number-whole   the number of all the steps, by the first that refuses
--   back_below, back_above, back-given, back-agreed   the reading handed back with a number
--   table-small, door-refused, door-sound   the number
--   zero-refused, value-done, reading-is, refused-answer, done-answer   the answer with it
use Rattle.std.proofs.Common.{Result, Ok, Err}
use mathlib.Core.Path.{◌≡◌, refl, sym, ◌∙◌, ap, ap₂}
use mathlib.Core.Bool.{Bool, true, false, not, cond, ◌&&◌, true≢false}
use mathlib.Core.List.{List, [], ◌∷◌, ◌++◌}
use Prim.Native.Nat.{ℕ, ◌-◌, ◌≤◌, ◌<◌}
use native.Mathlib.Decide.{dec_lt}
use native.Mathlib.Omega.{arith}
use Rattle.std.proofs.Math.Bool.{and-false}
use borrow.Author.Tests.{eq-eqb, ne_eqb, le-leb, lt-leb, lt-ltb, le-ltb}
use lib.Dec.{eqb, leb, ltb}
use lib.IntN.{ℤ}
use lib.ListN.{length}
use lib.Ieee.{Float}
use Rattle.layout.specs.Shape.{table_length, cumulus}
use Rattle.layout.specs.Limits.{good}
use Rattle.layout.specs.Sound.{light}
use Rattle.layout.specs.Refusals.{Refusal, ◌when◌, first, unless_refused, wrong_table, bad_limits, too_heavy, outside}
use Rattle.laws.proofs.Refused.{first-skip}
use Rattle.limits.proofs.Firsts.{first_past, first-none, first-at}
use Rattle.tables.specs.Ready.{table_refusals, table_number}
use Rattle.tables.proofs.Steps.{first-apart}
use Rattle.rounding.specs.declared.Unread.{Unread}
use Rattle.rounding.specs.declared.Unread.TheVariants.{NotFinite, Outside}
use Rattle.door.specs.Steps.{positive_zero, not_finite, number_of, handed_back, is_not_finite, is_outside}
use Rattle.door.specs.Door.{rounded_all, step_at, not_finites, outsides, steps_number, door_number, for_outside, reading_for, door_reading, true_piece, float_at, door_value, answer_with, door_answer, refused_with}
use Rattle.door.proofs.Firsts.{Found, none, at, found}

-- ---- the refusals of steps
pub named-not-finite : (i : ℕ) (r : Result ℤ Unread) → is_not_finite r ≡ true → number_of cumulus i r ≡ not_finite cumulus i
named-not-finite i (Ok z) e = absurd (true≢false (sym e))
named-not-finite i (Err NotFinite) e = refl
named-not-finite i (Err (Outside x)) e = absurd (true≢false (sym e))

pub named-outside : (i : ℕ) (r : Result ℤ Unread) → is_outside r ≡ true → number_of cumulus i r ≡ outside cumulus i
named-outside i (Ok z) e = absurd (true≢false (sym e))
named-outside i (Err NotFinite) e = absurd (true≢false (sym e))
named-outside i (Err (Outside x)) e = refl

module _ (s : ℕ → Result ℤ Unread) where
  abbrev pub refused_not_finite : ℕ → Refusal
  refused_not_finite i = number_of cumulus i (s i) when is_not_finite (s i)

  abbrev pub refused_outside : ℕ → Refusal
  refused_outside i = number_of cumulus i (s i) when is_outside (s i)

  module _ (n : ℕ) where
    pub not-finite-number : (first (not_finites cumulus n s) ≡ 0 → ⊥) → not_finite cumulus 0 ≤ first (not_finites cumulus n s)
    not-finite-number h = go (found refused_not_finite n)
      where
        go : Found refused_not_finite n → not_finite cumulus 0 ≤ first (not_finites cumulus n s)
        go (none all) = absurd (h (first-none refused_not_finite n all))
        go (at k b before one) = omega (arith, first-at refused_not_finite k before one n b, named-not-finite k (s k) one)

    pub none-not-finite : first (not_finites cumulus n s) ≡ 0 → (i : ℕ) → i < n → is_not_finite (s i) ≡ false
    none-not-finite e = go (found refused_not_finite n)
      where
        go : Found refused_not_finite n → (i : ℕ) → i < n → is_not_finite (s i) ≡ false
        go (none all) = all
        go (at k b before one) = absurd (omega (arith, first-at refused_not_finite k before one n b, named-not-finite k (s k) one))

    pub none-outside : first (outsides cumulus n s) ≡ 0 → (i : ℕ) → i < n → is_outside (s i) ≡ false
    none-outside e = go (found refused_outside n)
      where
        go : Found refused_outside n → (i : ℕ) → i < n → is_outside (s i) ≡ false
        go (none all) = all
        go (at k b before one) = absurd (omega (arith, first-at refused_outside k before one n b, named-outside k (s k) one))

    pub past-finite : first (not_finites cumulus n s) ≡ 0 → first (not_finites cumulus n s ++ outsides cumulus n s) ≡ first (outsides cumulus n s)
    past-finite e = first_past refused_not_finite n (none-not-finite e) (outsides cumulus n s)

  -- ---- the number of all the steps
  pub number-not-finite : (i : ℕ) → i < cumulus.variables → is_not_finite (s i) ≡ true → ((k : ℕ) → k < i → is_not_finite (s k) ≡ false) → steps_number cumulus s ≡ not_finite cumulus i
  number-not-finite i h one before =
      let e : first (not_finites cumulus cumulus.variables s) ≡ not_finite cumulus i = first-at refused_not_finite i before one cumulus.variables h ∙ named-not-finite i (s i) one in
      first-apart (not_finites cumulus cumulus.variables s) (outsides cumulus cumulus.variables s) (λ z. omega arith) ∙ e

  module _ (finite : (k : ℕ) → k < cumulus.variables → is_not_finite (s k) ≡ false) where
    pub number-outside : (i : ℕ) → i < cumulus.variables → is_outside (s i) ≡ true → ((k : ℕ) → k < i → is_outside (s k) ≡ false) → steps_number cumulus s ≡ outside cumulus i
    number-outside i h one before =
        first_past refused_not_finite cumulus.variables finite (outsides cumulus cumulus.variables s) ∙ first-at refused_outside i before one cumulus.variables h ∙ named-outside i (s i) one

    pub number-whole : ((k : ℕ) → k < cumulus.variables → is_outside (s k) ≡ false) → steps_number cumulus s ≡ 0
    number-whole within = first_past refused_not_finite cumulus.variables finite (outsides cumulus cumulus.variables s) ∙ first-none refused_outside cumulus.variables within

  -- ---- the reading handed back
  with-test : (n : ℕ) {b : Bool} → for_outside cumulus n ≡ b → reading_for cumulus s n ≡ cond b (handed_back (s (n - outside cumulus 0))) positive_zero
  with-test n e = ap (λ b. cond b (handed_back (s (n - outside cumulus 0))) positive_zero) e

  pub back_below : (n : ℕ) → n < outside cumulus 0 → reading_for cumulus s n ≡ positive_zero
  back_below n h = with-test n (ap (λ b. b && ltb n (outside cumulus cumulus.variables)) (lt-leb (outside cumulus 0) n h))

  pub back_above : (n : ℕ) → outside cumulus cumulus.variables ≤ n → reading_for cumulus s n ≡ positive_zero
  back_above n h = with-test n (ap (λ b. leb (outside cumulus 0) n && b) (le-ltb n (outside cumulus cumulus.variables) h) ∙ and-false (leb (outside cumulus 0) n))

  pub back-given : (k : ℕ) → k < cumulus.variables → reading_for cumulus s (outside cumulus k) ≡ handed_back (s k)
  back-given k h =
      let e : outside cumulus k - outside cumulus 0 ≡ k = omega arith in
      with-test (outside cumulus k) (ap₂ ◌&&◌ (le-leb (outside cumulus 0) (outside cumulus k) (omega arith)) (lt-ltb (outside cumulus k) (outside cumulus cumulus.variables) (omega arith))) ∙ ap (λ j. handed_back (s j)) e

-- it is that of one of the five variables
pub back-agreed : (s r : ℕ → Result ℤ Unread) → ((i : ℕ) → i < cumulus.variables → s i ≡ r i) → (n : ℕ) → reading_for cumulus s n ≡ reading_for cumulus r n
back-agreed s r h n = go (dec_lt n (outside cumulus 0)) (dec_lt n (outside cumulus cumulus.variables))
  where
    go : Dec (n < outside cumulus 0) → Dec (n < outside cumulus cumulus.variables) → reading_for cumulus s n ≡ reading_for cumulus r n
    go (yes b) e = back_below s n b ∙ sym (back_below r n b)
    go (no a) (yes b) =
        let q : n ≡ outside cumulus (n - outside cumulus 0) = omega arith in
        ap (reading_for cumulus s) q ∙ back-given s (n - outside cumulus 0) (omega arith) ∙ ap handed_back (h (n - outside cumulus 0) (omega arith)) ∙ sym (back-given r (n - outside cumulus 0) (omega arith)) ∙ ap (reading_for cumulus r) (sym q)
    go (no a) (no b) = back_above s n (omega arith) ∙ sym (back_above r n (omega arith))

-- ---- the number
small : (w g l : Bool) → first ((wrong_table when not w) ∷ (bad_limits when not g) ∷ (too_heavy when not l) ∷ []) < outside cumulus 0
unfolding first
small false g l = omega arith
small true false l = omega arith
small true true false = omega arith
small true true true = omega arith

pub table-small : (t : List ℤ) → table_number cumulus t < outside cumulus 0
table-small t = small (eqb (length t) (table_length cumulus)) (good cumulus t) (light cumulus t)

module _ (t : List ℤ) (x : ℕ → Float) where
  pub door-refused : (n : ℕ) → n ≡ table_number cumulus t → (n ≡ 0 → ⊥) → door_number cumulus t x ≡ n
  unfolding door_number
  door-refused n e h = first-apart (table_refusals cumulus t) (not_finites cumulus cumulus.variables (step_at cumulus t x) ++ outsides cumulus cumulus.variables (step_at cumulus t x)) (λ z. h (e ∙ z)) ∙ sym e

  pub door-sound : length t ≡ table_length cumulus → (good cumulus t ≡ true) × (light cumulus t ≡ true)
      → door_number cumulus t x ≡ first (not_finites cumulus cumulus.variables (step_at cumulus t x) ++ outsides cumulus cumulus.variables (step_at cumulus t x))
  unfolding door_number
  door-sound a g = first-skip wrong_table _ (eq-eqb (length t) (table_length cumulus) a) ∙ first-skip bad_limits _ g.0 ∙ first-skip too_heavy _ g.1

  -- ---- the answer
  abbrev value : ℕ → Float
  value b = float_at cumulus t (true_piece cumulus t (x 0)) (rounded_all x) b

  pub zero-refused : (n : ℕ) → door_number cumulus t x ≡ n → 0 < n → (b : ℕ) → door_value cumulus t x b ≡ positive_zero
  unfolding door_value
  zero-refused n e h b = ap (λ q. cond q (value b) positive_zero) (ne_eqb (door_number cumulus t x) 0 (λ z. omega arith))

  pub value-done : door_number cumulus t x ≡ 0 → (b : ℕ) → door_value cumulus t x b ≡ value b
  unfolding door_value
  value-done e b = ap (λ n. unless_refused n (value b) positive_zero) e

  pub reading-is : (n : ℕ) → door_number cumulus t x ≡ n → door_reading cumulus t x ≡ reading_for cumulus (step_at cumulus t x) n
  unfolding door_reading
  reading-is n e = ap (reading_for cumulus (step_at cumulus t x)) e

  pub refused-answer : (n : ℕ) (back : Float) → door_number cumulus t x ≡ n → 0 < n → reading_for cumulus (step_at cumulus t x) n ≡ back → refused_with n back ≡ door_answer t x
  refused-answer n back e h r = λ i.
      answer_with (sym e i) (sym (reading-is n e ∙ r) i) (λ b. sym (zero-refused n e h b) i)

  pub done-answer : door_number cumulus t x ≡ 0 → answer_with 0 positive_zero value ≡ door_answer t x
  done-answer e = λ i.
      answer_with (sym e i) (sym (reading-is 0 e ∙ back_below (step_at cumulus t x) 0 (omega arith)) i) (λ b. sym (value-done e b) i)
