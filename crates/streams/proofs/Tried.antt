-- What a call comes to where it is not tried again: some of its bytes were moved, or it failed.
-- Assumes nothing.
use Rattle.std.proofs.Common.{◌≡◌, subst, Bool, true, false, cond, ℕ, ◌≤◌}
use Rattle.std.proofs.lemmas.Option.{same_Some}
use Rattle.std.specs.Prelude.{Result, Ok, Err, Some, None, IfOk}
use Rattle.std.specs.declared.io.Error.{Error}
use Rattle.std.specs.IoError.{error_kind}
use Rattle.streams.specs.Outcomes.{passes, outcome_of, Got}

module _ (n : ℕ) where
  failed : (b : Bool) (error : Error) (r : Result ℕ Error) → cond b None (Some (Err error)) ≡ Some r → Got n r
  failed true error r e = cc
  failed false error r e = subst (Got n) (same_Some (Err error) r e) tt

  pub settled : (answer r : Result ℕ Error) → IfOk answer (λ k. k ≤ n) → outcome_of answer ≡ Some r → Got n r
  settled (Ok k) r m e = subst (Got n) (same_Some (Ok k) r e) m
  settled (Err error) r m e = failed (passes (error_kind error)) error r e
