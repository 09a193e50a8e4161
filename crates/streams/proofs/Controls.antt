-- Facts that would fail if a definition said something else: outcomes worked out by hand.
use Rattle.std.proofs.Common.{◌≡◌, ◌∙◌, refl, ap, ap₂, sym, subst, Bool, true, false, cond, if◌then◌else◌, ◌||◌, ◌&&◌, not, ℕ, ℤ, pos, negsuc, List, [], ◌∷◌, map}
use Rattle.std.proofs.Math.Dec.{leb-suc-zero}
use Rattle.std.proofs.lemmas.Bool.{eqb-true}
use Rattle.std.specs.Prelude.{Some, None, Ok, Err, eqb}
use Rattle.std.specs.IoError.{error_kind, kind_in, os_error_kind, os_error_kinds}
use Rattle.std.specs.declared.io.Error.{Error}
use Rattle.std.specs.declared.io.ErrorKind.{ErrorKind}
use Rattle.streams.specs.Outcomes.{number_passes, passes, outcome_of}

-- an answer of some bytes, and of none
moved : map (λ k. outcome_of (Ok k)) (0 ∷ 1 ∷ 65536 ∷ []) ≡ Some (Ok 0) ∷ Some (Ok 1) ∷ Some (Ok 65536) ∷ []
moved = refl

-- interrupted, and would have to wait
passing : map (λ n. passes (os_error_kind n)) (pos 4 ∷ pos 11 ∷ []) ≡ true ∷ true ∷ []
unfolding os_error_kind
passing = refl

-- no error, bad descriptor, a directory, no space, a closed pipe, and numbers beside those that pass
lasting : map (λ n. passes (os_error_kind n)) (pos 0 ∷ pos 9 ∷ pos 21 ∷ pos 28 ∷ pos 32 ∷ pos 3 ∷ pos 5 ∷ pos 10 ∷ pos 12 ∷ negsuc 3 ∷ [])
    ≡ false ∷ false ∷ false ∷ false ∷ false ∷ false ∷ false ∷ false ∷ false ∷ false ∷ []
unfolding os_error_kind
lasting = refl

-- a row of the library's table of error numbers says of its kind that it passes only where its number does
abbrev sound : List (ℕ × ErrorKind) → Bool
sound [] = true
sound (row ∷ rows) = (not (passes row.1) || number_passes (pos row.0)) && sound rows

row-sound : (b c : Bool) → (not b || c) ≡ true → c ≡ false → b ≡ false
row-sound true c s h = cc
row-sound false c s h = refl

first : (b c : Bool) → (b && c) ≡ true → b ≡ true
first true c e = refl
first false c e = e

second : (b c : Bool) → (b && c) ≡ true → c ≡ true
second true c e = e
second false c e = cc

found : (b : Bool) (kind rest : ErrorKind) → (b ≡ true → passes kind ≡ false) → passes rest ≡ false → passes (if b then kind else rest) ≡ false
found true kind rest here later = here refl
found false kind rest here later = later

others : (rows : List (ℕ × ErrorKind)) (n : ℕ) → number_passes (pos n) ≡ false → sound rows ≡ true → passes (kind_in rows n) ≡ false
others [] n h s = refl
others (row ∷ rows) n h s =
    found (eqb n row.0) row.1 (kind_in rows n)
    (λ e. row-sound (passes row.1) (number_passes (pos row.0)) (first (not (passes row.1) || number_passes (pos row.0)) (sound rows) s) (subst (λ (m : ℕ). number_passes (pos m) ≡ false) (eqb-true n row.0 e) h))
    (others rows n h (second (not (passes row.1) || number_passes (pos row.0)) (sound rows) s))

numbered : (n : ℕ) (b c : Bool) → eqb n 4 ≡ b → eqb n 11 ≡ c → passes (os_error_kind (pos n)) ≡ number_passes (pos n)
unfolding os_error_kind
numbered n true c e f = subst (λ (m : ℕ). passes (os_error_kind (pos m)) ≡ number_passes (pos m)) (sym (eqb-true n 4 e)) refl
numbered n false true e f = subst (λ (m : ℕ). passes (os_error_kind (pos m)) ≡ number_passes (pos m)) (sym (eqb-true n 11 f)) refl
numbered n false false e f =
    let h : number_passes (pos n) ≡ false = ap₂ (λ a b. a || b) e f in
    rw leb-suc-zero (others os_error_kinds n h refl ∙ sym h)

-- The kinds that pass are those of the numbers that pass.
pub passes_number : (n : ℤ) → passes (os_error_kind n) ≡ number_passes n
unfolding os_error_kind
passes_number (negsuc n) = refl
passes_number (pos n) = numbered n _ _ refl refl

-- an error of the system's comes to what its number says
pub told : (error : Error) (n : ℤ) → error_kind error ≡ os_error_kind n → outcome_of (Err error) ≡ cond (number_passes n) None (Some (Err error))
told error n e = ap (λ b. cond b None (Some (Err error))) (ap passes e ∙ passes_number n)
