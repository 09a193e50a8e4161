-- Words and kinds, one after the other.
--   fit-all    a number of its kind in each place, and whether there is a word more
--   fit-none   no number of its kind in some place
use Rattle.std.proofs.Common.{◌≡◌, refl, sym, ap, ap₂, ◌∙◌, ℕ, ◌+◌, Bool, true, false, not, ◌&&◌, ltb, List, [], ◌∷◌, length, get_or, drop, slice_get, is_some, add-one, arith}
use Rattle.std.specs.Prelude.{option_and_then}
use Rattle.std.specs.List.{list_all, enumerate_from}
use Rattle.std.proofs.Math.ListN.{drop_of_length-le}
use Rattle.std.proofs.Math.Seq.{drop-cons}
use Rattle.std.proofs.lemmas.Option.{slice_get-get_or, slice_get_past}
use borrow.Author.Tests.{ltb-true, ltb-false}
use Rattle.numbers.specs.Numbers.{magnitude}
use Rattle.numbers.specs.declared.Kind.{Kind}
use Rattle.commands.specs.Commands.{fit}

module _ (ws : List (List ℕ)) where
  abbrev pub said_at : ℕ → Kind → Bool
  said_at n kind = is_some (option_and_then (magnitude kind) (slice_get ws n))

  drop_more : (n : ℕ) → ltb n (length ws) ≡ true → drop n ws ≡ get_or ws n [] ∷ drop (n + 1) ws
  drop_more n e = drop-cons ws n [] (ltb-true n (length ws) e) ∙ ap (λ m. get_or ws n [] ∷ drop m ws) (sym (add-one n))

  drop_none : (n : ℕ) → ltb n (length ws) ≡ false → drop n ws ≡ []
  drop_none n e = drop_of_length-le ws {i = n} (ltb-false n (length ws) e)

  fit-more : (n : ℕ) (kind : Kind) (kinds : List Kind) → fit (drop n ws) (kind ∷ kinds) ≡ said_at n kind && fit (drop (n + 1) ws) kinds
  fit-more n kind kinds = pick (ltb n (length ws)) refl
    where
      pick : (t : Bool) → ltb n (length ws) ≡ t → fit (drop n ws) (kind ∷ kinds) ≡ said_at n kind && fit (drop (n + 1) ws) kinds
      pick true e =
          ap (λ l. fit l (kind ∷ kinds)) (drop_more n e)
          ∙ sym (ap (λ o. is_some (option_and_then (magnitude kind) o) && fit (drop (n + 1) ws) kinds) (slice_get-get_or ws n [] (ltb-true n (length ws) e)))
      pick false e =
          ap (λ l. fit l (kind ∷ kinds)) (drop_none n e)
          ∙ sym (ap (λ o. is_some (option_and_then (magnitude kind) o) && fit (drop (n + 1) ws) kinds) (slice_get_past ws n (ltb-false n (length ws) e)))

  fit-end : (n : ℕ) → fit (drop n ws) [] ≡ not (ltb n (length ws))
  fit-end n = pick (ltb n (length ws)) refl
    where
      pick : (t : Bool) → ltb n (length ws) ≡ t → fit (drop n ws) [] ≡ not t
      pick true e = ap (λ l. fit l []) (drop_more n e)
      pick false e = ap (λ l. fit l []) (drop_none n e)

  and_assoc : (s t u : Bool) → (s && t) && u ≡ s && (t && u)
  and_assoc true t u = refl
  and_assoc false t u = refl

  fit_from : (n : ℕ) (kinds : List Kind) (m : ℕ) → m ≡ n + 1 + length kinds → list_all (λ p. said_at (p.0 + 1) p.1) (enumerate_from n kinds) && not (ltb m (length ws)) ≡ fit (drop (n + 1) ws) kinds
  fit_from n [] m e = let same : m ≡ n + 1 = omega arith in ap (λ m. not (ltb m (length ws))) same ∙ sym (fit-end (n + 1))
  fit_from n (kind ∷ kinds) m e =
      and_assoc (said_at (n + 1) kind) (list_all (λ p. said_at (p.0 + 1) p.1) (enumerate_from (n + 1) kinds)) (not (ltb m (length ws)))
      ∙ ap (λ t. said_at (n + 1) kind && t) (fit_from (n + 1) kinds m (omega arith))
      ∙ sym (fit-more (n + 1) kind kinds)

  pub fit-all : (kinds : List Kind) (all more : Bool) → all ≡ list_all (λ p. said_at (p.0 + 1) p.1) (enumerate_from 0 kinds) → more ≡ ltb (length kinds + 1) (length ws) → all && not more ≡ fit (drop 1 ws) kinds
  fit-all kinds all more e h = ap₂ (λ s t. s && not t) e h ∙ fit_from 0 kinds (length kinds + 1) (omega arith)

  pub fit-none : (kinds : List Kind) (all : Bool) → all ≡ list_all (λ p. said_at (p.0 + 1) p.1) (enumerate_from 0 kinds) → all ≡ false → all ≡ fit (drop 1 ws) kinds
  fit-none kinds all e h =
      h ∙ sym (ap (λ t. t && not (ltb (length kinds + 1) (length ws))) h) ∙ fit-all kinds all (ltb (length kinds + 1) (length ws)) e refl
