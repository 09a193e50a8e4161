-- Bytes written from a place on, one after the other.
--   written-sets    what single stores leave
--   stored-behind   bytes stored behind bytes
--   written-cons    bytes written behind a byte that is stored
--   written-append  bytes written behind bytes
--   length-written  the output is as long as it was
use mathlib.Core.Path.{◌≡◌, sym, ap, ap₂, ◌∙◌}
use mathlib.Core.List.{List, [], ◌∷◌, ◌++◌}
use Prim.Native.Nat.{ℕ, suc, ◌+◌, ◌≤◌}
use native.Mathlib.Nat.{add-zero}
use native.Mathlib.Numerals.{add-one}
use native.Mathlib.Omega.{arith}
use lib.ListN.{length, length-append, set, length-set}
use lib.Seq.{sets, sets-eq, length-sets}
use Rattle.printing.specs.Spell.{written}

pub written-sets : (out : List ℕ) (at : ℕ) (bytes : List ℕ) → at + length bytes ≤ length out → sets out at bytes ≡ written out at bytes
written-sets out at bytes h = sets-eq bytes out at h

pub written-cons : (out : List ℕ) (at b : ℕ) (bytes : List ℕ) → at + length (b ∷ bytes) ≤ length out → written (set out at b) (at + 1) bytes ≡ written out at (b ∷ bytes)
written-cons out at b bytes h =
    let fits : at + 1 + length bytes ≤ length (set out at b) = omega (arith, length-set out at b) in
    sym (written-sets (set out at b) (at + 1) bytes fits)
    ∙ ap (λ i. sets (set out at b) i bytes) (add-one at)
    ∙ written-sets out at (b ∷ bytes) h

sets-append : (out : List ℕ) (at : ℕ) (xs ys : List ℕ) → sets (sets out at xs) (at + length xs) ys ≡ sets out at (xs ++ ys)
sets-append out at [] ys = ap (λ i. sets out i ys) (add-zero at)
sets-append out at (x ∷ xs) ys =
    let next : at + suc (length xs) ≡ suc at + length xs = omega arith in
    ap (λ i. sets (sets (set out at x) (suc at) xs) i ys) next ∙ sets-append (set out at x) (suc at) xs ys

pub stored-behind : (out : List ℕ) (at : ℕ) (xs ys : List ℕ) {mid end : List ℕ} {i : ℕ} → i ≡ at + length xs → mid ≡ sets out at xs → end ≡ sets mid i ys → end ≡ sets out at (xs ++ ys)
stored-behind out at xs ys p m e = e ∙ ap₂ (λ l j. sets l j ys) m p ∙ sets-append out at xs ys

pub length-written : (out : List ℕ) (at : ℕ) (bytes : List ℕ) → at + length bytes ≤ length out → length (written out at bytes) ≡ length out
length-written out at bytes h = ap length (sym (written-sets out at bytes h)) ∙ length-sets out at bytes

pub written-append : (out : List ℕ) (at : ℕ) (xs ys : List ℕ) → at + length (xs ++ ys) ≤ length out → written (written out at xs) (at + length xs) ys ≡ written out at (xs ++ ys)
written-append out at xs ys h =
    let n = length-append xs ys in
    let fits : at + length xs ≤ length out = omega arith in
    let then : at + length xs + length ys ≤ length (written out at xs) = omega (arith, length-written out at xs fits) in
    sym (written-sets (written out at xs) (at + length xs) ys then)
    ∙ ap (λ l. sets l (at + length xs) ys) (sym (written-sets out at xs fits))
    ∙ sets-append out at xs ys
    ∙ written-sets out at (xs ++ ys) h
