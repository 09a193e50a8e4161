-- The refusals of the steps, told by the floats themselves.
--   not-finite-told, outside_told   a step's two tests
--   outside-step                    a step outside carries the float as given
--   number_step                     no step hands a NaN back
--   first-same                      refusals that hold together, with the same number where they do, give the same first number
--   outside-found                   the number of a variable outside is given only where its step is
use Rattle.std.proofs.Common.{Result, Ok, Err}
use mathlib.Core.Path.{◌≡◌, refl, sym, ◌∙◌, subst}
use mathlib.Core.Bool.{Bool, true, false, not, cond, ◌&&◌, true≢false}
use mathlib.Core.List.{◌++◌}
use Prim.Native.Nat.{ℕ, ◌<◌}
use native.Mathlib.Decide.{dec_lt}
use native.Mathlib.Omega.{arith}
use lib.Dec.{T}
use lib.IntN.{ℤ}
use lib.Signed.{le_z}
use lib.Ieee.{Float, nan, inf, fin, is_nan}
use lib.Ieee.Scale.{finite}
use Rattle.polynomials.specs.Sum.{listed}
use Rattle.layout.specs.Shape.{cumulus}
use Rattle.layout.specs.Refusals.{Refusal, first, outside}
use Rattle.limits.proofs.Firsts.{first-none, first-at}
use Rattle.tables.proofs.Steps.{first-apart}
use Rattle.rounding.specs.Reading.{whole_of, step_of}
use Rattle.rounding.specs.declared.Unread.{Unread}
use Rattle.rounding.specs.declared.Unread.TheVariants.{Outside}
use Rattle.rounding.proofs.Steps.{Stepped, is-not-finite, is-outside, is_whole, stepped}
use Rattle.door.specs.Steps.{not_finite, handed_back, is_not_finite, is_outside}
use Rattle.door.specs.Door.{not_finites, outsides}
use Rattle.door.proofs.Firsts.{Found, none, at, found}
use Rattle.door.proofs.Numbers.{refused_outside, named-outside, not-finite-number, past-finite}

-- ---- one step
chosen-finite : (b : Bool) (z : ℤ) (x : Float) → is_not_finite (cond b (Ok z) (Err (Outside x))) ≡ false
chosen-finite true z x = refl
chosen-finite false z x = refl

chosen-outside : (b : Bool) (z : ℤ) (x : Float) → is_outside (cond b (Ok z) (Err (Outside x))) ≡ not b
chosen-outside true z x = refl
chosen-outside false z x = refl

pub not-finite-told : (x : Float) (lowest highest : ℤ) → is_not_finite (step_of x lowest highest) ≡ not (finite x)
unfolding step_of
not-finite-told nan lowest highest = refl
not-finite-told (inf s) lowest highest = refl
not-finite-told (fin s m e) lowest highest = chosen-finite (le_z lowest (whole_of (fin s m e)) && le_z (whole_of (fin s m e)) highest) (whole_of (fin s m e)) (fin s m e)

pub outside_told : (x : Float) (lowest highest : ℤ) → finite x ≡ true → is_outside (step_of x lowest highest) ≡ not (le_z lowest (whole_of x) && le_z (whole_of x) highest)
unfolding step_of
outside_told nan lowest highest f = absurd (true≢false (sym f))
outside_told (inf s) lowest highest f = absurd (true≢false (sym f))
outside_told (fin s m e) lowest highest f = chosen-outside (le_z lowest (whole_of (fin s m e)) && le_z (whole_of (fin s m e)) highest) (whole_of (fin s m e)) (fin s m e)

carried : (x : Float) (lowest highest : ℤ) (r : Result ℤ Unread) → Stepped x lowest highest r → is_outside r ≡ true → r ≡ Err (Outside x)
carried x lowest highest r (is-not-finite n) e = absurd (true≢false (sym e))
carried x lowest highest r (is-outside f p) e = refl
carried x lowest highest r (is_whole f l g) e = absurd (true≢false (sym e))

pub outside-step : (x : Float) (lowest highest : ℤ) → is_outside (step_of x lowest highest) ≡ true → step_of x lowest highest ≡ Err (Outside x)
outside-step x lowest highest = carried x lowest highest (step_of x lowest highest) (stepped x lowest highest)

finite_number : (x : Float) → T (finite x) → is_nan x ≡ false
unfolding is_nan
finite_number nan f = absurd f
finite_number (inf s) f = absurd f
finite_number (fin s m e) f = refl

back-number : (x : Float) (lowest highest : ℤ) (r : Result ℤ Unread) → Stepped x lowest highest r → is_nan (handed_back r) ≡ false
unfolding is_nan
back-number x lowest highest r (is-not-finite n) = refl
back-number x lowest highest r (is-outside f p) = finite_number x f
back-number x lowest highest r (is_whole f l g) = refl

pub number_step : (x : Float) (lowest highest : ℤ) → is_nan (handed_back (step_of x lowest highest)) ≡ false
number_step x lowest highest = back-number x lowest highest (step_of x lowest highest) (stepped x lowest highest)

-- ---- all of them
pub first-same : (f g : ℕ → Refusal) (n : ℕ) → ((i : ℕ) → i < n → (f i).holds ≡ (g i).holds) → ((i : ℕ) → (f i).holds ≡ true → (f i).number ≡ (g i).number)
    → first (listed n f) ≡ first (listed n g)
first-same f g n h e = go (found f n)
  where
    go : Found f n → first (listed n f) ≡ first (listed n g)
    go (none all) = first-none f n all ∙ sym (first-none g n (λ i b. sym (h i b) ∙ all i b))
    go (at k b before one) =
        first-at f k before one n b ∙ e k one ∙ sym (first-at g k (λ i m. sym (h i (omega arith)) ∙ before i m) (sym (h k b) ∙ one) n b)

module _ (s : ℕ → Result ℤ Unread) (n i : ℕ) (h : outside cumulus i < not_finite cumulus 0) (e : first (not_finites cumulus n s ++ outsides cumulus n s) ≡ outside cumulus i) where
  all-finite : first (not_finites cumulus n s) ≡ 0
  all-finite = go (dec_lt 0 (first (not_finites cumulus n s)))
    where
      go : Dec (0 < first (not_finites cumulus n s)) → first (not_finites cumulus n s) ≡ 0
      go (no b) = omega arith
      go (yes b) =
          let apart : first (not_finites cumulus n s) ≡ 0 → ⊥ = λ z. omega arith in
          absurd (omega (arith, first-apart (not_finites cumulus n s) (outsides cumulus n s) apart, not-finite-number s n apart))

  pub outside-found : is_outside (s i) ≡ true
  outside-found = go (found (refused_outside s) n)
    where
      number : first (outsides cumulus n s) ≡ outside cumulus i
      number = sym (past-finite s n all-finite) ∙ e

      go : Found (refused_outside s) n → is_outside (s i) ≡ true
      go (none all) = absurd (omega (arith, number, first-none (refused_outside s) n all))
      go (at k b before one) =
          let q : k ≡ i = omega (arith, number, first-at (refused_outside s) k before one n b, named-outside k (s k) one) in
          subst (λ j. is_outside (s j) ≡ true) q one
