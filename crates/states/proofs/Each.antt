-- The reads so far: numbers and outputs of the states before one stand at their places.
--   part_of             state k, and the place of its output, lie within theirs
--   state-held          the readings of state k by value are the state's
--   zeros-filled        zeros that are filled in are those that a state is read into
--   Before              what holds before state k is read
--   none_read, one_more, all_read   at the start, after one state more, and at the end
use mathlib.Core.Path.{◌≡◌, refl, sym, ◌∙◌, ap, fun_ext, subst}
use mathlib.Core.List.{List, ◌++◌}
use Prim.Native.Nat.{ℕ, suc, ◌+◌, ◌-◌, ◌*◌, ◌≤◌, ◌<◌}
use native.Mathlib.Nat as N
use native.Mathlib.Numerals.{add-one}
use native.Mathlib.Decide.{dec_lt}
use native.Mathlib.Omega.{arith}
use borrow.Rule.Slice.PartMut.{put_mid}
use lib.IntN.{ℤ, pos}
use lib.ListN.{length, take, drop, set, replicate, length-set, length-drop, get_or-eq_default}
use lib.Seq.{take_all, drop-drop, length-take-le}
use Rattle.std.proofs.lemmas.List.{length-replicate, get_or-replicate}
use Rattle.polynomials.specs.Sum.{listed}
use Rattle.polynomials.proofs.Listed.{length-listed, get_or-listed, listed-is, listed_more, listed-all}
use Rattle.layout.specs.Shape.{Shape}
use Rattle.layout.specs.Numbers.{variables_room}
use Rattle.layout.specs.Reading.{readings}
use Rattle.layout.specs.Many.{state_at, zeros}
use Rattle.layout.specs.Moving.{joined}
use Rattle.blocks.specs.Ready.{placed}
use Rattle.blocks.proofs.Filled.{length-placed, take-placed}

-- the readings by value are the state's
readings-held : (x : List ℤ) → length x ≤ variables_room → readings (listed variables_room (readings x)) ≡ readings x
readings-held x h = fun_ext (λ i. pick i (dec_lt i variables_room))
  where
    pick : (i : ℕ) → Dec (i < variables_room) → readings (listed variables_room (readings x)) i ≡ readings x i
    pick i (yes b) = get_or-listed variables_room (readings x) i (pos 0) b
    pick i (no b) =
        get_or-eq_default (listed variables_room (readings x)) (pos 0) (omega (arith, length-listed variables_room (readings x)))
        ∙ sym (get_or-eq_default x (pos 0) (omega arith))

-- w * k + w of w * n
part_of : (w k n : ℕ) → k < n → w * k + w ≤ w * n
part_of w k n h = let m : w * suc k ≤ w * n = N.mul-le-mul_left w h in omega (arith, m, N.mul-suc w k)

next : (w k : ℕ) → w * (k + 1) ≡ w * k + w
next w k = rw add-one (N.mul-suc w k)

-- of n states the readings of state k, as they are held, are that state's
pub state-held : (S : Shape) (states : List ℤ) (n k : ℕ) → k < n → length states ≡ S.variables * n → S.variables ≤ variables_room
    → {v : ℕ} {l : List ℤ} → v ≡ S.variables → l ≡ listed variables_room (readings (take (v * k + v - v * k) (drop (v * k) states))) → readings l ≡ readings (state_at S states k)
state-held S states n k h e few {v} {l} q i =
    let w = S.variables in
    let inside : w * k + w ≤ length states = omega (arith, part_of w k n h, e) in
    let count-is : w * k + w - w * k ≡ w = omega arith in
    let short : length (state_at S states k) ≤ variables_room =
    omega (arith, length-take-le w (drop (w * k) states) (omega (arith, inside, length-drop (w * k) states)), few)
    in
    ap readings (i ∙ ap (λ c. listed variables_room (readings (take (c * k + c - c * k) (drop (c * k) states)))) q ∙ ap (λ c. listed variables_room (readings (take c (drop (w * k) states)))) count-is)
    ∙ readings-held (state_at S states k) short

pub zeros-filled : (S : Shape) (n : ℕ) → n ≡ S.blocks → replicate n (pos 0) ≡ zeros S
zeros-filled S n e =
    sym (listed-is (pos 0) n (λ b. pos 0) (replicate n (pos 0)) (length-replicate n (pos 0)) (λ i h. get_or-replicate n i (pos 0) (pos 0) h))
    ∙ ap (λ n. listed n (λ b. pos 0)) e

-- b numbers of output a state, for n states; what is given for a state, and what is put
module _ (b n : ℕ) (number : ℕ → ℕ) (output : ℕ → List ℤ) where
  pub record Before (numbers : List ℕ) (out : List ℤ) (k : ℕ) : Type 0 where
    pub count : length numbers ≡ n
    pub given : take k numbers ≡ listed k number
    pub room : length out ≡ b * n
    pub put : take (b * k) out ≡ joined k output

  pub none_read : (numbers : List ℕ) (out : List ℤ) → length numbers ≡ n → length out ≡ b * n → Before numbers out 0
  unfolding listed joined
  none_read numbers out c r = record { count = c; given = refl; room = r; put = rw (N.mul-zero b) refl }

  module _ (numbers : List ℕ) (out : List ℤ) (k : ℕ) (h : k < n) (e : Before numbers out k) where
    part-long : length (take (b * k + b - b * k) (drop (b * k) out)) ≡ b
    part-long =
        let inside : b * k + b ≤ length out = omega (arith, part_of b k n h, e.room) in
        length-take-le (b * k + b - b * k) (drop (b * k) out) (omega (arith, inside, length-drop (b * k) out)) ∙ omega arith

    more : (x : ℕ) (m : List ℤ) → x ≡ number k → m ≡ output k → length m ≡ b → Before (set numbers k x) (put_mid (b * k) (b * k + b - b * k) out m) (k + 1)
    unfolding joined
    more x m ex em lm =
        let at = b * k in
        let inside : at + b ≤ length out = omega (arith, part_of b k n h, e.room) in
        let order : at ≤ at + b = omega arith in
        let count-is : at + b - at ≡ b = omega arith in
        let long : length m ≡ at + b - at = omega (arith, lm, count-is) in
        let p : put_mid at (at + b - at) out m ≡ placed out at (at + b) m = ap (λ r. take at out ++ (m ++ r)) (drop-drop (at + b - at) at out ∙ ap (λ c. drop (at + c) out) count-is) in
        record {
          count = length-set numbers k x ∙ e.count;
          given = listed_more numbers number k x (omega (arith, e.count)) e.given ex;
          room = ap length p ∙ length-placed out at (at + b) m order inside long ∙ e.room;
          put = ap (take (b * (k + 1))) p ∙ ap (λ j. take j (placed out at (at + b) m)) (next b k) ∙ take-placed out at (at + b) m order inside long _ e.put
              ∙ ap (λ l. joined k output ++ l) em ∙ ap (λ j. joined j output) (sym (add-one k));
        }

    -- with as many numbers a state as the code found
    pub one_more : {c x : ℕ} {m : List ℤ} → c ≡ b → x ≡ number k → m ≡ output k → length m ≡ length (take (c * k + c - c * k) (drop (c * k) out))
        → Before (set numbers k x) (put_mid (c * k) (c * k + c - c * k) out m) (k + 1)
    one_more {c} {x} {m} q ex em lm =
        subst (λ c. Before (set numbers k x) (put_mid (c * k) (c * k + c - c * k) out m) (k + 1)) (sym q)
        (more x m ex em (lm ∙ ap (λ c. length (take (c * k + c - c * k) (drop (c * k) out))) q ∙ part-long))

  pub all_read : (numbers : List ℕ) (out : List ℤ) (k : ℕ) → k ≡ n → Before numbers out k → (numbers ≡ listed n number) × (out ≡ joined n output)
  all_read numbers out k h e = (
    listed-all numbers number k n e.count h e.given,
    sym (take_all (b * k) out (omega (arith, e.room, ap (λ j. b * j) h))) ∙ e.put ∙ ap (λ j. joined j output) h,
  )
