-- Tables answer what is printed, over every shape.
--   group_at        a polynomial that belongs to a group has at every state the value of the group, in any unit of angle
--   at-⊕            polynomials that are added
--   held-total      the groups of a block that count in a piece come to their polynomials
--   values-printed  so do the values of a table at any state
use mathlib.Core.Path.{◌≡◌, refl, sym, ◌∙◌, ap, ap₂}
use mathlib.Core.Bool.{Bool, true, false, cond}
use mathlib.Core.List.{List, [], ◌∷◌, map}
use Prim.Native.Nat.{ℕ, zero, suc, ◌+◌, ◌≤◌, ◌<◌}
use native.Mathlib.Omega.{arith}
use native.Mathlib.Decide.{dec_lt}
use borrow.Author.Tests.{eqb-true, leb-true, eq-eqb, ne_eqb}
use lib.Dec.{eqb, leb}
use lib.IntN.{ℤ, pos, ◌+ℤ◌, ◌*ℤ◌, pow, +ℤ_idr, +ℤ_idl, +ℤ_assoc}
use lib.ListN.{length, replicate}
use lib.Signed.{le_z}
use Rattle.whole.proofs.Ring.{*ℤ-assoc}
use Rattle.polynomials.specs.Numbers.{ints}
use Rattle.polynomials.specs.Sum.{sum, listed}
use Rattle.polynomials.specs.Order.{powers, size, place}
use Rattle.polynomials.specs.Group.{term, evaluated}
use Rattle.polynomials.specs.Groups.{Group, value_of, total}
use Rattle.polynomials.proofs.Listed.{length-listed, get_or-listed, map-listed}
use Rattle.polynomials.proofs.Places.{place-below, powers-place}
use Rattle.polynomials.proofs.Semiring.{whole, nil-mul, add-mul}
use Rattle.polynomials.proofs.Sums.{sum-suc, sum-ext, sum-nil, sum-add}
use Rattle.layout.specs.declared.Kind.{Kind}
use Rattle.layout.specs.Shape.{Shape, WellFormed}
use Rattle.layout.specs.Limits.{cut}
use Rattle.layout.specs.Blocks.{Piece, low, high, counts, keep, chosen, coefficient}
use Rattle.layout.specs.Reading.{values}
use Rattle.laws.proofs.Tests.{&&-left, &&-right}
use Rattle.layout.proofs.Fine.{FineKind, Fine}
use Rattle.printed.specs.Notation.{Term, Polynomial, ◌⊕◌}
use Rattle.printed.specs.Values.{Angles, total_degree, degree_in, monomial_at, scale_in, scaled, at, together}
use Rattle.printed.specs.Stored.{degree, by_kind, has_only, stands_in, printed_term, printed_at, group, belongs, each_belongs}
use Rattle.printed.proofs.Monomials.{monomial-own}

-- ════ what is printed, and what a block holds of it
-- polynomials that are added
pub at-⊕ : (S : Shape) (A : Angles) (x : ℕ → ℤ) (f g : Polynomial) → at S A (f ⊕ g) x ≡ at S A f x +ℤ at S A g x
unfolding at
at-⊕ S A x [] g = sym (+ℤ_idl (at S A g x))
at-⊕ S A x (t ∷ f) g =
    let z = scaled A t *ℤ monomial_at S t.monomial x in
    ap (λ r. z +ℤ r) (at-⊕ S A x f g) ∙ sym (+ℤ_assoc z (at S A f x) (at S A g x))

-- of a coefficient's polynomials, by the groups of its block: what those come to that count in a piece, and the groups
abbrev pub printed_in : Shape → Angles → (ℕ → ℤ) → Piece → List Polynomial → ℤ
printed_in S A x p fs = together p 0 (map (λ f. at S A f x) fs)

abbrev pub held : Shape → Angles → Piece → List Polynomial → List Group
held S A p fs = chosen p 0 (by_kind (group S (scale_in A)) S.kinds fs)

-- a test for each group, and all hold
abbrev pub all_hold : Shape → List Bool
all_hold S = replicate (length S.kinds) true

-- ════ a term
-- a sum in which one place counts
sum_one : (n j : ℕ) (z : ℤ) (g : ℕ → ℤ) → j < n → sum ints n (λ i. cond (eqb j i) z (pos 0) *ℤ g i) ≡ z *ℤ g j
sum_one zero j z g h = absurd (omega arith)
sum_one (suc n) j z g h = sum-suc whole n _ ∙ pick (sum_one n j z g) (dec_lt j n)
  where
    nothing : (i : ℕ) → (j ≡ i → ⊥) → cond (eqb j i) z (pos 0) *ℤ g i ≡ pos 0
    nothing i d = rw (ne_eqb j i d) (nil-mul whole (g i))

    pick : (j < n → sum ints n (λ i. cond (eqb j i) z (pos 0) *ℤ g i) ≡ z *ℤ g j) → Dec (j < n)
        → sum ints n (λ i. cond (eqb j i) z (pos 0) *ℤ g i) +ℤ cond (eqb j n) z (pos 0) *ℤ g n ≡ z *ℤ g j
    pick ih (yes l) = ap₂ ◌+ℤ◌ (ih l) (nothing n (λ e. omega arith)) ∙ +ℤ_idr (z *ℤ g j)
    pick ih (no l) =
        let e : j ≡ n = omega arith in
        let counts : cond (eqb j n) z (pos 0) *ℤ g n ≡ z *ℤ g j = rw (eq-eqb j n e, e) in
        ap₂ ◌+ℤ◌ (sum-nil whole n _ (λ i b. nothing i (λ d. omega arith))) counts ∙ +ℤ_idl (z *ℤ g j)

module _ (S : Shape) (w : WellFormed S) (A : Angles) (x : ℕ → ℤ) where
  module _ (k : Kind) (fine : FineKind S.variables k) where
    -- how many numbers the group has, and what stands behind the printed number at a place: its scale and the powers of the readings
    abbrev room : ℕ
    room = size k.degree

    abbrev here : ℕ → ℤ
    here i = pos (scale_in A (degree (powers i))) *ℤ (pow (x k.u) (powers i).first *ℤ pow (x k.v) (powers i).second)

    here_place : (p q : ℕ) → here (place p q) ≡ pos (scale_in A (p + q)) *ℤ (pow (x k.u) p *ℤ pow (x k.v) q)
    here_place p q =
        ap₂ (λ a b. pos (scale_in A (a + b)) *ℤ (pow (x k.u) a *ℤ pow (x k.v) b)) (powers-place p q).0 (powers-place p q).1

    term-at : (t : Term) → stands_in S k t.monomial ≡ true → sum ints room (λ i. printed_term S k i t *ℤ here i) ≡ scaled A t *ℤ monomial_at S t.monomial x
    term-at t s =
        let a = t.monomial in
        let p = degree_in S a k.u in
        let q = degree_in S a k.v in
        let only = &&-left (has_only S k a) (leb (total_degree a) k.degree) s in
        let d : total_degree a ≤ k.degree = leb-true (total_degree a) k.degree (&&-right (has_only S k a) (leb (total_degree a) k.degree) s) in
        let e : p + q ≡ total_degree a = eqb-true (p + q) (total_degree a) only in
        rw only
        (sum_one room (place p q) t.number here (place-below (suc k.degree) p q (omega arith))
        ∙ ap (λ z. t.number *ℤ z) (here_place p q ∙ ap₂ (λ n m. pos (scale_in A n) *ℤ m) e (sym (monomial-own S w x k.u k.v fine.first fine.second fine.apart a e)))
        ∙ sym (*ℤ-assoc t.number (pos (scale_in A (total_degree a))) (monomial_at S a x)))

    -- ════ a polynomial
    group-sum : (f : Polynomial) → value_of (group S (scale_in A) k f) x ≡ sum ints room (λ i. printed_at S k f i *ℤ here i)
    unfolding evaluated term
    group-sum f =
        ap (λ n. sum ints n (term ints (group S (scale_in A) k f).numbers (x k.u) (x k.v))) (length-listed room _)
        ∙ sum-ext whole room _ _ (λ i l.
        let u = pow (x k.u) (powers i).first in
        let v = pow (x k.v) (powers i).second in
        let s = pos (scale_in A (degree (powers i))) in
        ap (λ z. z *ℤ u *ℤ v) (get_or-listed room _ i (pos 0) l) ∙ *ℤ-assoc (printed_at S k f i *ℤ s) u v ∙ *ℤ-assoc (printed_at S k f i) s (u *ℤ v))

    terms-at : (f : Polynomial) → belongs S k f ≡ true → sum ints room (λ i. printed_at S k f i *ℤ here i) ≡ at S A f x
    unfolding at
    terms-at [] b = sum-nil whole room _ (λ i l. nil-mul whole (here i))
    terms-at (t ∷ f) b =
        sum-ext whole room _ _ (λ i l. add-mul whole (printed_term S k i t) (printed_at S k f i) (here i))
        ∙ sum-add whole room (λ i. printed_term S k i t *ℤ here i) (λ i. printed_at S k f i *ℤ here i)
        ∙ ap₂ ◌+ℤ◌
        (term-at t (&&-left (stands_in S k t.monomial) (belongs S k f) b))
        (terms-at f (&&-right (stands_in S k t.monomial) (belongs S k f) b))

    pub group_at : (f : Polynomial) → belongs S k f ≡ true → value_of (group S (scale_in A) k f) x ≡ at S A f x
    group_at f b = group-sum f ∙ terms-at f b

  -- ════ a coefficient
  kept-total : (b : Bool) (g : Group) (gs : List Group) → total (keep b g gs) x ≡ cond b (value_of g x) (pos 0) +ℤ total gs x
  unfolding total
  kept-total true g gs = refl
  kept-total false g gs = sym (+ℤ_idl (total gs x))

  kinds-total : (p : Piece) (n : ℕ) (ks : List Kind) (fs : List Polynomial) → Fine S.variables ks → length fs ≡ length ks → by_kind (belongs S) ks fs ≡ replicate (length ks) true
      → total (chosen p n (by_kind (group S (scale_in A)) ks fs)) x ≡ together p n (map (λ f. at S A f x) fs)
  unfolding chosen total Fine
  kinds-total p n [] [] d l b = refl
  kinds-total p n [] (f ∷ fs) d l b = absurd (omega arith)
  kinds-total p n (k ∷ ks) [] d l b = absurd (omega arith)
  kinds-total p n (k ∷ ks) (f ∷ fs) d l b =
      kept-total (counts n p) (group S (scale_in A) k f) _
      ∙ ap₂ (λ z r. cond (counts n p) z (pos 0) +ℤ r) (group_at k d.0 f (cc)) (kinds-total p (suc n) ks fs d.1 (omega arith) (cc))

  module _ (fine : Fine S.variables S.kinds) where
    pub held-total : (p : Piece) (fs : List Polynomial) → length fs ≡ length S.kinds → each_belongs S fs ≡ all_hold S → total (held S A p fs) x ≡ printed_in S A x p fs
    held-total p fs l b = kinds-total p 0 S.kinds fs fine l b

    -- ════ a table: `parts` are a coefficient's polynomials, group by group, and `value` is what the model says of it in a piece
    module _ {C : Type 0} (parts : C → List Polynomial) (value : Piece → C → ℤ) (as_many : (c : C) → length (parts c) ≡ length S.kinds)
        (says : (p : Piece) (c : C) → printed_in S A x p (parts c) ≡ value p c) where
      same-values : (p : Piece) (cs : List C) → map (λ c. each_belongs S (parts c)) cs ≡ replicate (length cs) (all_hold S) → map (λ g. total g x) (map (λ c. held S A p (parts c)) cs) ≡ map (value p) cs
      same-values p [] b = refl
      same-values p (c ∷ cs) b = ap₂ ◌∷◌ (held-total p (parts c) (as_many c) (cc) ∙ says p c) (same-values p cs (cc))

      module _ (cs : List C) (t : List ℤ) (belong : map (λ c. each_belongs S (parts c)) cs ≡ replicate (length cs) (all_hold S))
          (stored : (p : Piece) → listed S.blocks (λ b. coefficient S t b p) ≡ map (λ c. held S A p (parts c)) cs) where
        in-piece : (p : Piece) → listed S.blocks (λ b. total (coefficient S t b p) x) ≡ map (value p) cs
        in-piece p = sym (map-listed (λ g. total g x) S.blocks (λ b. coefficient S t b p)) ∙ ap (map (λ g. total g x)) (stored p) ∙ same-values p cs belong

        pub values-printed : values S t x ≡ map (λ c. cond (le_z (x 0) (cut S t)) (value low c) (value high c)) cs
        unfolding values
        values-printed = at_cut (le_z (x 0) (cut S t))
          where
            at_cut : (b : Bool) → listed S.blocks (λ n. total (coefficient S t n (cond b low high)) x) ≡ map (λ c. cond b (value low c) (value high c)) cs
            at_cut true = in-piece low
            at_cut false = in-piece high
