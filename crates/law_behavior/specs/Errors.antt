-- Where a thrown error goes, and that it doesn't replace the first one.
use Rattle.std.specs.Prelude.{ℕ, Some, None, ◌≡◌}
use Rattle.rt_model.specs.Lists.{at}
use Rattle.rt_model.specs.Tree.{Types, CapturedError}
use Rattle.rt_model.specs.World.{Error}
use Rattle.rt_model.specs.State.{Scope, State, error_context, values_of}
use Rattle.rt_model.specs.Commands.{throw_error}
use Rattle.law_behavior.specs.Marking.{ReadersPosted}

module _ {K : Types} where
  -- a throw does nothing where no error boundary is above, or where the nearest one keeps an error
  pub record ThrowsOnce (w : State K) (s : ℕ) (thrown : CapturedError) : Type 0 where
    pub nowhere : error_context w s ≡ None → throw_error w s thrown ≡ w
    pub kept :
        (b : ℕ) (x : Scope K) (first : CapturedError)
        → error_context w s ≡ Some b
        → at w.scopes b ≡ Some x
        → x.error ≡ Some first
        → throw_error w s thrown ≡ w
    -- else the nearest one keeps it, and its readers are posted
    pub filled :
        (b : ℕ) (x : Scope K)
        → error_context w s ≡ Some b
        → at w.scopes b ≡ Some x
        → x.error ≡ None
        → ((values_of (throw_error w s thrown)).error b ≡ Some thrown) × ReadersPosted w (throw_error w s thrown) (Error b)

-- an error goes to the nearest boundary, where it stays out of the way of the first one
abbrev pub ThrowsFillOnce : Types → Type 0
ThrowsFillOnce K = (w : State K) (s : ℕ) (thrown : CapturedError) → ThrowsOnce w s thrown
