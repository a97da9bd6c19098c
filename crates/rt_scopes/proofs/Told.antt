-- What came of a change, from what its parts came to.
use Rattle.std.proofs.Common.{◌≡◌, ℕ, List, [], Result, Ok, Err, refl, sym, subst}
use Rattle.std.specs.Prelude.{IfErr, OnOk}
use Rattle.rt_model.specs.OneLog.{types}
use Rattle.rt_model.specs.State as model
use Rattle.rt_model.specs.State.{Outcome, Done, Cut, Item}
use Rattle.run_state.specs.declared.names.Cause.{Cause}
use Rattle.run_state.specs.declared.names.Stop.{Stop}
use Rattle.run_state.specs.declared.names.Stop.TheVariants as stops
use Rattle.run_state.specs.declared.state.State.{State}
use Rattle.run_state.specs.Mirror.{Unkept, state_of}
use Rattle.run_state.specs.Names.{fault_of}
use Rattle.rt_scopes.specs.Outcomes.{Came, Comes, no_work}

module _ {P C Q V H T E L : Type 0} where
  -- a change that two clauses tell of, and that calls nothing
  pub told : (change : model.State (types C Q V H T E L) → Outcome (types C Q V H T E L)) (old new : State P C Q V H T E L) (count : ℕ) (result : Result (Unit {0}) Stop)
      → OnOk result ((g : Unkept (types C Q V H T E L)) → change (state_of g old) ≡ Done (state_of g new) [])
      → ((what : Cause) → IfErr result (λ stop. stop ≡ stops.Fault what → (g : Unkept (types C Q V H T E L)) → change (state_of g old) ≡ Cut (state_of g new) (fault_of what)))
      → Comes change old count new count no_work result
  told change old new count (Ok u) done cut = λ kept. (kept, done kept, λ was. was)
  told change old new count (Err stops.OutOfMemory) done cut = λ kept. (kept, tt, tt)
  told change old new count (Err (stops.Fault what)) done cut = λ kept. (kept, cut what refl kept, λ was. was)

  -- the same change by another name
  pub comes_as : {A : Type 0} (one other : model.State (types C Q V H T E L) → Outcome (types C Q V H T E L)) (old new : State P C Q V H T E L) (n m : ℕ) (work : A → List (Item (types C Q V H T E L))) (result : Result A Stop)
      → ((w : model.State (types C Q V H T E L)) → other w ≡ one w)
      → Comes one old n new m work result
      → Comes other old n new m work result
  comes_as one other old new n m work result same comes =
      λ kept.
      let came = comes kept in
      (came.0, subst (λ (o : Outcome (types C Q V H T E L)). Came o (state_of came.0 new) work result) (sym (same (state_of kept old))) came.1, came.2)
