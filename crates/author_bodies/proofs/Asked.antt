-- What a call comes to that asks of its own scope: what it provides, its parent, and whether a patch is running.
use Rattle.std.proofs.Common.{ℕ, Bool, ◌≡◌, refl}
use Rattle.std.specs.Prelude.{Option}
use Rattle.rt_model.specs.Program as program
use Rattle.rt_model.specs.Program.{Program, Call, look_here, parent_in}
use Rattle.rt_model.specs.Tree.{Types}
use Rattle.rt_model.specs.World.{World}
use Rattle.author_programs.specs.Came.{came}

module _ {K : Types} {A : Type 0} where
  pub at_has_context : (w : World K) (k : ℕ) (f : Option K.Value → Program K A) (c : Call K)
      → came w (program.has_context k f) c ≡ came w (f (look_here w k c).value) (look_here w k c).call
  unfolding came
  at_has_context w k f c = refl

  pub at_parent : (w : World K) (f : Option ℕ → Program K A) (c : Call K)
      → came w (program.parent_scope f) c ≡ came w (f (parent_in w.given.parents w.given.scope)) c
  unfolding came
  at_parent w f c = refl

  pub at_rendering : (w : World K) (f : Bool → Program K A) (c : Call K)
      → came w (program.rendering f) c ≡ came w (f w.given.rendering) c
  unfolding came
  at_rendering w f c = refl
