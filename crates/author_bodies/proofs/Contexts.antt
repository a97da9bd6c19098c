-- What a call on reactive contexts comes to, and what follows it.
use Rattle.std.proofs.Common.{ℕ, ◌≡◌, refl}
use Rattle.std.specs.Prelude.{Option, Some, None, if◌then◌else◌}
use Rattle.author_bodies.proofs.Refused.{drawn}
use Rattle.rt_model.specs.Program.{Program, Call, says, faults, drew_context, new_context, run_in, reset_and_run_in, leave}
use Rattle.rt_model.specs.Tree.{Types}
use Rattle.rt_model.specs.World.{World, Target, at_end, CounterAtEnd, Contexts, Reset}
use Rattle.author_programs.specs.Came.{came}
use Rattle.author_programs.specs.Contexts.{entered, left}
use Rattle.author_programs.proofs.Steps.{on, at_done, at_task, at_read}

module _ {K : Types} {A : Type 0} where
  pub at_new_context : (w : World K) (t : Target) (f : Option ℕ → Program K A) (c : Call K)
      → came w (new_context t f) c
      ≡ (if at_end c.next.contexts then came w (f None) (faults c (CounterAtEnd Contexts)) else came w (f (Some c.next.contexts)) (drew_context c t))
  unfolding came
  at_new_context w t f c = refl

  pub at_run_in : (w : World K) (n : ℕ) (p : Program K A) (c : Call K) → came w (run_in n p) c ≡ came w p (entered c n)
  unfolding came
  at_run_in w n p c = refl

  pub at_reset : (w : World K) (n : ℕ) (p : Program K A) (c : Call K) → came w (reset_and_run_in n p) c ≡ came w p (says (entered c n) (Reset n))
  unfolding came
  at_reset w n p c = refl

  pub at_leave : (w : World K) (p : Program K A) (c : Call K) → came w (leave p) c ≡ came w p (left c)
  unfolding came
  at_leave w p c = refl

pub ruleset reacting = (on, at_done, at_task, at_read, at_new_context, at_run_in, at_reset, at_leave, drawn)
