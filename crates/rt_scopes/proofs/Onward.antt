-- What a change came to, and then another one.
use Rattle.std.proofs.Common.{◌≡◌, List, [], Result, Ok, Err, Some, refl, ap, sym, subst}
use Rattle.rt_model.specs.Tree.{Types}
use Rattle.rt_model.specs.State.{State, Outcome, Done, Cut, Item, onward}
use Rattle.rt_model.specs.Run as run
use Rattle.rt_model.specs.World.{CallFault}
use Rattle.run_state.specs.declared.names.Stop.{Stop}
use Rattle.run_state.specs.declared.names.Stop.TheVariants as stops
use Rattle.author_calls.specs.Calls.{refusal_of}
use Rattle.run_records.specs.declared.faults.CxFault.{CxFault}
use Rattle.run_records.specs.declared.faults.CxFault.TheVariants as refusals
use Rattle.rt_scopes.specs.Outcomes.{CutBy, Came, no_work, stop_of}

module _ {K : Types} where
  -- a change was done, and the next one came to this
  pub came_on : {A : Type 0} (o : Outcome K) (f : State K → Outcome K) (v u : State K) (work : List (Item K)) (items : A → List (Item K)) (result : Result A Stop)
      → o ≡ Done v work → Came (f v) u items result → Came (onward o f) u items result
  came_on o f v u work items result done came = subst (λ (x : Outcome K). Came (onward x f) u items result) (sym done) came

  -- a change was cut, so that no other one follows
  pub cut_on : (o : Outcome K) (f : State K → Outcome K) (v : State K) (stop : Stop) → CutBy o v stop → CutBy (onward o f) v stop
  cut_on o f v stops.OutOfMemory cut = tt
  cut_on o f v (stops.Fault what) cut = ap (λ x. onward x f) cut

  -- a change was done, and then the next one
  pub done_on : (o : Outcome K) (f : State K → Outcome K) (v : State K) → o ≡ Done v [] → onward o f ≡ f v
  done_on o f v done = ap (λ x. onward x f) done

  -- a change was done or cut, and no other one follows it
  pub came_alone : {A : Type 0} (o : Outcome K) (v : State K) (result : Result A Stop) → Came o v no_work result → Came (onward o (λ u. Done u [])) v no_work result
  came_alone o v (Ok answer) done = done_on o (λ u. Done u []) v done
  came_alone o v (Err stop) cut = cut_on o (λ u. Done u []) v stop cut

  -- the same change by another name
  pub came_as : {A : Type 0} (o p : Outcome K) (v : State K) (items : A → List (Item K)) (result : Result A Stop)
      → p ≡ o → Came o v items result → Came p v items result
  came_as o p v items result same came = subst (λ (x : Outcome K). Came x v items result) (sym same) came

  -- the same change by another name was cut
  pub cut_as : (o p : Outcome K) (v : State K) (stop : Stop) → p ≡ o → CutBy o v stop → CutBy p v stop
  cut_as o p v stop same cut = subst (λ (x : Outcome K). CutBy x v stop) (sym same) cut

  -- a call's refusal, unless memory was wanting
  pub refused : (o : Outcome K) (v : State K) (refusal : CxFault) (stop : Stop)
      → stop ≡ stop_of refusal
      → ((f : CallFault) → (refusal ≡ refusals.OutOfMemory → ⊥) → refusal_of (Some refusal) ≡ Some f → o ≡ Cut v (run.fault_of f))
      → CutBy o v stop
  refused o v refusals.OutOfMemory stop is cut = subst (λ (s : Stop). CutBy o v s) (sym is) tt
  refused o v (refusals.IdsExhausted what) stop is cut = subst (λ (s : Stop). CutBy o v s) (sym is) (cut _ (λ same. cc) refl)
  refused o v (refusals.HookChanged scope index kept asked) stop is cut = subst (λ (s : Stop). CutBy o v s) (sym is) (cut _ (λ same. cc) refl)
