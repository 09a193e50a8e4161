-- Each outcome has a number of its own.
--   given-once    outcomes that are given back as one number are one outcome
--   refused-once, place-once   so for refusals, and for angles by their places
use mathlib.Core.Path.{◌≡◌, refl, sym, ◌∙◌, ap}
use mathlib.Core.List.{List, [], ◌∷◌, ◌++◌, map}
use Prim.Native.Nat.{ℕ}
use lib.ListN.{get_or, replicate}
use Rattle.std.specs.Prelude.{Result, Ok, Err}
use Rattle.layout.specs.declared.refusals.Angle.{Angle}
use Rattle.layout.specs.declared.refusals.Angle.TheVariants.{Alpha, Beta, Xi, Eta, Zeta}
use Rattle.layout.specs.declared.refusals.Refused.{Refused}
use Rattle.layout.specs.declared.refusals.Refused.TheVariants.{WrongTable, WrongOutput, BadLimits, TooHeavy, NoVariable, LimitPast, MoveTooHeavy, Outside, NotFinite}
use Rattle.layout.specs.Refusals.{place, outside_number, refusal_number, given_back}

angles : List Angle
angles = Alpha ∷ Beta ∷ Xi ∷ Eta ∷ Zeta ∷ []

-- the outcomes by their numbers; those that no outcome has are filled up
outcomes : List (Result (Unit {0}) Refused)
unfolding angles
outcomes =
    (Ok tt ∷ map Err (WrongTable ∷ WrongOutput ∷ BadLimits ∷ TooHeavy ∷ NoVariable ∷ LimitPast ∷ MoveTooHeavy ∷ []))
    ++ replicate 3 (Ok tt) ++ map (λ a. Err (Outside a)) angles
    ++ replicate 5 (Ok tt) ++ map (λ a. Err (NotFinite a)) angles

at : ℕ → Result (Unit {0}) Refused
unfolding outcomes
at n = get_or outcomes n (Ok tt)

back : (o : Result (Unit {0}) Refused) → at (given_back o) ≡ o
unfolding at outcomes angles
back (Ok tt) = refl
back (Err WrongTable) = refl
back (Err WrongOutput) = refl
back (Err BadLimits) = refl
back (Err TooHeavy) = refl
back (Err NoVariable) = refl
back (Err LimitPast) = refl
back (Err MoveTooHeavy) = refl
back (Err (Outside Alpha)) = refl
back (Err (Outside Beta)) = refl
back (Err (Outside Xi)) = refl
back (Err (Outside Eta)) = refl
back (Err (Outside Zeta)) = refl
back (Err (NotFinite Alpha)) = refl
back (Err (NotFinite Beta)) = refl
back (Err (NotFinite Xi)) = refl
back (Err (NotFinite Eta)) = refl
back (Err (NotFinite Zeta)) = refl

pub given-once : (a b : Result (Unit {0}) Refused) → given_back a ≡ given_back b → a ≡ b
given-once a b e = sym (back a) ∙ ap at e ∙ back b

-- the refusal of an outcome that has one
refusal-in : Result (Unit {0}) Refused → Refused
refusal-in (Ok _) = WrongTable
refusal-in (Err r) = r

pub refused-once : (a b : Refused) → refusal_number a ≡ refusal_number b → a ≡ b
unfolding refusal-in
refused-once a b e = ap refusal-in (given-once (Err a) (Err b) e)

angle-in : Refused → Angle
angle-in (Outside a) = a
angle-in _ = Alpha

pub place-once : (a b : Angle) → place a ≡ place b → a ≡ b
unfolding angle-in
place-once a b e = ap angle-in (refused-once (Outside a) (Outside b) (ap outside_number e))
