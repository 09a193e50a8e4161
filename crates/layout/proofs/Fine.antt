-- What the code asks of a shape, and that every model's has it.
--   well-formed   a variable 0, groups in variables of the shape, and names
--   Fine          groups of a degree that the code knows, each in two variables, with fine-drop: those that are left, and fine-at: one of them
--   Split         the low and the high group are alike, in variable 0 and another, and those after them are in other variables
--   own-twice, two-groups, own-fine   the first two groups are one kind, the own group, and it is such a group
--   inside        every block lies in the table
--   few-variables, few-limits, few-fine, few-table, few-block, some-blocks, some_block, some-table   how many there are at most, and at least
use mathlib.Core.Path.{◌≡◌, refl, sym, ap, subst}
use mathlib.Core.List.{List, [], ◌∷◌}
use Prim.Native.Nat.{ℕ, zero, suc, ◌+◌, ◌*◌, ◌≤◌, ◌<◌}
use native.Mathlib.Nat as N
use native.Mathlib.Omega.{arith}
use lib.ListN.{length, get_or, drop}
use Rattle.polynomials.specs.Order.{below}
use Rattle.polynomials.specs.Limits.{highest_degree}
use Rattle.layout.specs.declared.Kind.{Kind}
use Rattle.layout.specs.declared.Model.{Model}
use Rattle.layout.specs.declared.Model.TheVariants.{Cumulus, Gtm}
use Rattle.layout.specs.Shape.{Shape, WellFormed, fine_cuts, limits_length, kinds_length, block_length, block_start, table_length, cumulus, gtm, shape, kind_at, own, shared}
use Rattle.layout.specs.Numbers.{table_size, variables_room, limits_room}

pub well-formed : (m : Model) → WellFormed (shape m)
well-formed Cumulus = record { has-variable = omega arith; in-variables = omega arith; named = λ i k h l e. e }
well-formed Gtm = record { has-variable = omega arith; in-variables = omega arith; named = λ i k h l e. omega arith }

-- ════ the groups
pub record FineKind (n : ℕ) (k : Kind) : Type 0 where
  pub first : k.u < n
  pub second : k.v < n
  pub apart : k.u ≡ k.v → ⊥
  pub few : k.degree ≤ highest_degree

kind : {n : ℕ} {k : Kind} → k.u < n → k.v < n → (k.u ≡ k.v → ⊥) → k.degree ≤ highest_degree → FineKind n k
kind a b c d = record { first = a; second = b; apart = c; few = d }

unfoldable pub Fine : ℕ → List Kind → Type 0
Fine n [] = Unit {0}
Fine n (k ∷ ks) = FineKind n k × Fine n ks

pub fine : (m : Model) → Fine (shape m).variables (shape m).kinds
unfolding Fine
fine Cumulus =
    let pitch : FineKind cumulus.variables (own cumulus) = kind (omega arith) (omega arith) (λ e. absurd (omega arith)) (omega arith) in
    (pitch, (pitch, (kind (omega arith) (omega arith) (λ e. absurd (omega arith)) (omega arith), (kind (omega arith) (omega arith) (λ e. absurd (omega arith)) (omega arith), tt))))
fine Gtm =
    let pitch : FineKind gtm.variables (own gtm) = kind (omega arith) (omega arith) (λ e. absurd (omega arith)) (omega arith) in (pitch, (pitch, tt))

pub fine-drop : (n g : ℕ) (ks : List Kind) → Fine n ks → Fine n (drop g ks)
unfolding Fine
fine-drop n zero ks f = f
fine-drop n (suc g) [] f = f
fine-drop n (suc g) (k ∷ ks) f = fine-drop n g ks f.1

pub fine-at : (n g : ℕ) (ks rest : List Kind) (k : Kind) → Fine n ks → drop g ks ≡ k ∷ rest → FineKind n k
unfolding Fine
fine-at n g ks rest k f e = (subst (Fine n) e (fine-drop n g ks f)).0

-- in variables other than 0
unfoldable pub Beside : List Kind → Type 0
Beside [] = Unit {0}
Beside (k ∷ ks) = ((0 < k.u) × (0 < k.v)) × Beside ks

pub record Split (S : Shape) : Type 0 where
  pub kinds : S.kinds ≡ own S ∷ own S ∷ shared S
  pub first : (own S).u ≡ 0
  pub second : 0 < (own S).v
  pub beside : Beside (shared S)

pub split : (m : Model) → Split (shape m)
unfolding Beside
split Cumulus =
    record {
      kinds = refl;
      first = refl;
      second = omega arith;
      beside = ((omega arith, omega arith), ((omega arith, omega arith), tt));
    }
split Gtm = record { kinds = refl; first = refl; second = omega arith; beside = tt }

-- the first two groups of a block are one kind
pub own-twice : (m : Model) (g : ℕ) → g < 2 → own (shape m) ≡ kind_at (shape m) g
own-twice m zero h = refl
own-twice m (suc zero) h = sym (ap (λ ks. get_or ks 1 (record { u = 0; v = 0; degree = 0 })) (split m).kinds)
own-twice m (suc (suc g)) h = absurd (omega arith)

pub two-groups : (m : Model) → 2 ≤ length (shape m).kinds
two-groups m = rw (split m).kinds (omega arith)

pub own-fine : (m : Model) → FineKind (shape m).variables (own (shape m))
unfolding Fine
own-fine m = (subst (Fine (shape m).variables) (split m).kinds (fine m)).0

-- ════ how many
pub inside : (S : Shape) (b : ℕ) → b < S.blocks → block_start S b + block_length S ≤ table_length S
inside S b h = omega (arith, N.mul-suc (block_length S) b, N.mul-le-mul_left (block_length S) h)

pub few-variables : (m : Model) → (shape m).variables ≤ variables_room
few-variables Cumulus = omega arith
few-variables Gtm = omega arith

pub few-limits : (m : Model) → limits_length (shape m) ≤ limits_room
few-limits Cumulus = omega arith
few-limits Gtm = omega arith

-- the room has those of any variable that there is room for
pub few-fine : (m : Model) → 1 + fine_cuts (shape m) + 2 * variables_room ≤ limits_room
few-fine Cumulus = omega arith
few-fine Gtm = omega arith

pub few-table : (m : Model) → table_length (shape m) ≤ table_size
unfolding kinds_length below
few-table Cumulus = omega arith
few-table Gtm = omega arith

pub few-block : (m : Model) → block_length (shape m) ≤ table_size
unfolding kinds_length below
few-block Cumulus = omega arith
few-block Gtm = omega arith

pub some-blocks : (m : Model) → 0 < (shape m).blocks
some-blocks Cumulus = omega arith
some-blocks Gtm = omega arith

pub some_block : (m : Model) → 0 < block_length (shape m)
unfolding kinds_length below
some_block Cumulus = omega arith
some_block Gtm = omega arith

-- a table has more numbers than the room for its limits
pub some-table : (m : Model) → limits_room ≤ table_length (shape m)
unfolding kinds_length below
some-table Cumulus = omega arith
some-table Gtm = omega arith
