-- What a step is, by where the reading lies, and where the reading lies, by what its step is.
--   not-le                                                 what is above is not at most
--   step_is                                                all of it in one equation
--   zero-step                                              both zeros read as 0
--   step-not-finite, step-below, step-above, step-inside   each of the four places
--   Stepped, stepped                                       the places behind each of the three answers
use Rattle.std.proofs.Common.{◌≡◌, Result, Ok, Err, Bool, true, false, cond, ◌&&◌, T, ◌⊎◌, ℤ, pos, ◌≤ℤ◌, ◌<ℤ◌, sym, refl, ap, subst, inl, inr, true≢false}
use Rattle.std.proofs.Math.Bool.{and-false}
use lib.Ieee.Bits.{is_true}
use lib.Signed.{le_z, le_z_yes, clash_ℤ}
use lib.Ieee.{Float, nan, inf, fin}
use lib.Ieee.Scale.{finite}
use Rattle.whole.proofs.Order.{≤ℤ-or-<ℤ}
use Rattle.whole.specs.Nearest.{nearest_away}
use Rattle.rounding.specs.Reading.{whole_of, step_of}
use Rattle.rounding.specs.declared.Unread.{Unread}
use Rattle.rounding.specs.declared.Unread.TheVariants.{NotFinite, Outside}

fails : (t : Bool) → (T t → ⊥) → t ≡ false
fails true h = absurd (h tt)
fails false h = refl

pub not-le : {a b : ℤ} → a <ℤ b → le_z b a ≡ false
not-le {a} {b} h = fails (le_z b a) (λ t. clash_ℤ h (le_z_yes t))

pub step_is : (x : Float) (lowest highest : ℤ)
    → step_of x lowest highest ≡ cond (finite x) (cond (le_z lowest (whole_of x) && le_z (whole_of x) highest) (Ok (whole_of x)) (Err (Outside x))) (Err NotFinite)
unfolding step_of
step_is nan lowest highest = refl
step_is (inf s) lowest highest = refl
step_is (fin s m e) lowest highest = refl

pub zero-step : (s : Bool) (lowest highest : ℤ) → le_z lowest (pos 0) && le_z (pos 0) highest ≡ true → step_of (fin s 0 (pos 0)) lowest highest ≡ Ok (pos 0)
unfolding step_of whole_of nearest_away
zero-step false lowest highest e = ap (λ b. cond b (Ok (pos 0)) (Err (Outside (fin false 0 (pos 0))))) e
zero-step true lowest highest e = ap (λ b. cond b (Ok (pos 0)) (Err (Outside (fin true 0 (pos 0))))) e

-- ════ the step at each place
pub step-not-finite : (x : Float) (lowest highest : ℤ) → finite x ≡ false → step_of x lowest highest ≡ Err NotFinite
unfolding step_of
step-not-finite nan lowest highest h = refl
step-not-finite (inf s) lowest highest h = refl
step-not-finite (fin s m e) lowest highest h = absurd (true≢false h)

abbrev placed : Bool → ℤ → Float → Result ℤ Unread
placed t z x = cond t (Ok z) (Err (Outside x))

step-placed : (x : Float) (lowest highest : ℤ) → T (finite x)
    → step_of x lowest highest ≡ placed (le_z lowest (whole_of x) && le_z (whole_of x) highest) (whole_of x) x
unfolding step_of
step-placed nan lowest highest f = absurd f
step-placed (inf s) lowest highest f = absurd f
step-placed (fin s m e) lowest highest f = refl

module _ (x : Float) (lowest highest : ℤ) (f : T (finite x)) where
  pub step-below : whole_of x <ℤ lowest → step_of x lowest highest ≡ Err (Outside x)
  step-below h = rw (step-placed x lowest highest f, not-le h)

  pub step-above : highest <ℤ whole_of x → step_of x lowest highest ≡ Err (Outside x)
  step-above h = rw (step-placed x lowest highest f, not-le h, and-false)

  pub step-inside : lowest ≤ℤ whole_of x → whole_of x ≤ℤ highest → step_of x lowest highest ≡ Ok (whole_of x)
  step-inside h g = rw (step-placed x lowest highest f, is_true (le_z lowest (whole_of x)) h.le, is_true (le_z (whole_of x) highest) g.le)

-- ════ what the step tells
-- the reading's place, for each answer
pub data Stepped (x : Float) (lowest highest : ℤ) : Result ℤ Unread → Type 0 where
  is-not-finite : finite x ≡ false → Stepped x lowest highest (Err NotFinite)
  is-outside : T (finite x) → (whole_of x <ℤ lowest) ⊎ (highest <ℤ whole_of x) → Stepped x lowest highest (Err (Outside x))
  is_whole : T (finite x) → lowest ≤ℤ whole_of x → whole_of x ≤ℤ highest → Stepped x lowest highest (Ok (whole_of x))

pub stepped : (x : Float) (lowest highest : ℤ) → Stepped x lowest highest (step_of x lowest highest)
stepped x lowest highest = go (finite x) refl
  where
    is : {r : Result ℤ Unread} → step_of x lowest highest ≡ r → Stepped x lowest highest r → Stepped x lowest highest (step_of x lowest highest)
    is e = subst (Stepped x lowest highest) (sym e)

    go : (t : Bool) → finite x ≡ t → Stepped x lowest highest (step_of x lowest highest)
    go false n = is (step-not-finite x lowest highest n) (is-not-finite n)
    go true h =
        let f : T (finite x) = subst T (sym h) tt in
        elim (≤ℤ-or-<ℤ (whole_of x) lowest) [
          | inr l ↦ is (step-below x lowest highest f l) (is-outside f (inl l))
          | inl l ↦
              elim (≤ℤ-or-<ℤ highest (whole_of x)) [
                | inr g ↦ is (step-above x lowest highest f g) (is-outside f (inr g))
                | inl g ↦ is (step-inside x lowest highest f l g) (is_whole f l g)
              ]
        ]
