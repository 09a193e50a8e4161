-- What a move has written before a block: the moved limits and the moved blocks before it. Assumes nothing.
use mathlib.Core.Path.{◌≡◌, sym, ◌∙◌, ap, ap₂, subst₂}
use mathlib.Core.Bool.{Bool, true, false, cond}
use mathlib.Core.List.{List, ◌++◌, append_assoc, append-nil}
use Prim.Native.Nat.{ℕ, ◌+◌, ◌-◌, ◌≤◌, ◌<◌}
use native.Mathlib.Nat as N
use native.Mathlib.Numerals.{add-one}
use native.Mathlib.Omega.{arith}
use borrow.Rule.Slice.PartMut.{put_mid}
use lib.Dec.{eqb}
use lib.IntN.{ℤ, nat_abs}
use lib.ListN.{length, take, drop}
use lib.Seq.{take_at, drop-drop}
use Rattle.polynomials.specs.Groups.{longer}
use Rattle.polynomials.proofs.Together.{total_weight-mono}
use Rattle.layout.specs.Shape.{Shape, limits_length, block_length, block_start, table_length}
use Rattle.layout.specs.Limits.{longest_shift}
use Rattle.layout.specs.Blocks.{Piece, block, coefficient}
use Rattle.layout.specs.Moving.{joined, moved_limits, moved_block, move_reach}
use Rattle.layout.specs.Accepted.{MoveAccepted}
use Rattle.layout.proofs.Fine.{inside}
use Rattle.laws.proofs.Moved.{length-moved_limits, length-block}
use Rattle.laws.proofs.BlockGroups.{length-moved_block}
use Rattle.laws.proofs.Reaches.{reach-one}
use Rattle.laws.proofs.Weights.{within_cap-fact}
use Rattle.laws.proofs.SoundMoved.{move-within}
use Rattle.blocks.specs.Ready.{placed, shift_reach, Shiftable}
use Rattle.blocks.proofs.Filled.{take-placed}
use Rattle.blocks.proofs.BlockMoves.{each_light}

pub count-is : (a n : ℕ) → a + n - a ≡ n
count-is a n = omega arith

module _ (S : Shape) (t : List ℤ) (i : ℕ) (s : ℤ) where
  -- the moved limits, and the moved blocks before one
  unfoldable pub written : ℕ → List ℤ
  written n = moved_limits S i s t ++ joined n (λ b. moved_block S i s (block S t b))

  -- the moved limits stand where an output has them
  pub start-written : (l : List ℤ) → take (block_start S 0) (moved_limits S i s t ++ l) ≡ written 0
  unfolding written joined
  start-written l =
      let e : block_start S 0 ≡ limits_length S = omega arith in
      ap (λ n. take n (moved_limits S i s t ++ l)) e ∙ take_at (moved_limits S i s t) l (limits_length S) (length-moved_limits S i s t) ∙ sym (append-nil (moved_limits S i s t))

  -- the weight rule bounds the weight of each piece at reaches of 1, variable i's longer by the shift
  module _ {out : List ℤ} (m : MoveAccepted S t i s out) where
    pub near : nat_abs s ≤ longest_shift
    near = move-within S i s t m.variable m.limits m.moved-limits

    reach-rise : (p : Piece) (k : ℕ) → shift_reach i s k ≤ move_reach S i s t p k
    unfolding longer
    reach-rise p k = by (eqb k i) (reach-one S (moved_limits S i s t) p k)
      where
        by : (b : Bool) {r : ℕ} → 1 ≤ r → cond b (1 + nat_abs s) 1 ≤ cond b (r + nat_abs s) r
        by true h = omega arith
        by false h = h

    pub shiftable : (b : ℕ) → b < S.blocks → Shiftable S i s (block S t b)
    unfolding coefficient
    shiftable b h =
        record {
          whole = length-block S t m.table b h;
          near = N.le_trans near (omega arith);
          light = each_light (shift_reach i s) 0 _ (λ p. N.le_trans (total_weight-mono (coefficient S t b p) (shift_reach i s) (move_reach S i s t p) (reach-rise p))
              (within_cap-fact S t (move_reach S i s t) m.moved-weights b h p));
        }

  pub next : (b : ℕ) → block_start S (b + 1) ≡ block_start S b + block_length S
  next b = rw add-one (omega (arith, N.mul-suc (block_length S) b))

  -- one block more, put at its place
  module _ (b : ℕ) (out m : List ℤ) (h : b < S.blocks) (w : length t ≡ table_length S) (n : length out ≡ table_length S) (e : take (block_start S b) out ≡ written b) where
    abbrev pub Put : ℕ → ℕ → Type 0
    Put f c =
        m ≡ moved_block S i s (take (f + c - f) (drop f t))
        → take (block_start S (b + 1)) (put_mid f (f + c - f) out m) ≡ written (b + 1)

    put-at : Put (block_start S b) (block_length S)
    unfolding written joined
    put-at f =
        let from = block_start S b in
        let size = block_length S in
        let room : from + size ≤ length out = omega (arith, inside S b h) in
        let before : from ≤ from + size = omega arith in
        let m-is : m ≡ moved_block S i s (block S t b) = f ∙ ap (λ k. moved_block S i s (take k (drop from t))) (count-is from size) in
        let count : length m ≡ from + size - from = ap length m-is ∙ length-moved_block S i s (block S t b) (length-block S t w b h) ∙ sym (count-is from size) in
        let p : put_mid from (from + size - from) out m ≡ placed out from (from + size) m =
        ap (λ r. take from out ++ (m ++ r)) (drop-drop (from + size - from) from out ∙ ap (λ k. drop (from + k) out) (count-is from size))
        in
        ap₂ take (next b) p ∙ take-placed out from (from + size) m before room count _ e
        ∙ ap (λ l. written b ++ l) m-is ∙ append_assoc (moved_limits S i s t) (joined b moved) (moved b) ∙ ap written (sym (add-one b))
      where
        moved : ℕ → List ℤ
        moved b = moved_block S i s (block S t b)

    pub put : (f c : ℕ) → f ≡ block_start S b → c ≡ block_length S → Put f c
    put f c p q = subst₂ Put (sym p) (sym q) put-at
