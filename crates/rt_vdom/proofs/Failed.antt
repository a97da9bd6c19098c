-- What stands of a dom after a fault.
use Rattle.std.proofs.Common.{ℕ, Bool, true, false, ◌≡◌, refl, sym, ap, ◌∙◌}
use Rattle.std.specs.Prelude.{Option, Some, None, if◌then◌else◌}
use Rattle.rt_model.specs.State as model
use Rattle.rt_model.proofs.Maps.{pick_true, pick_false}
use Rattle.run_outside.specs.Ends.{fault_in}
use Rattle.run_outside.specs.declared.ended.Ended.{Ended}
use Rattle.run_outside.specs.declared.ended.Ended.TheVariants as ends
use Rattle.run_reports.specs.Seen.{fault_of}
use Rattle.run_reports.specs.declared.fault.Fault.{Fault}
use Rattle.run_reports.specs.declared.fault.Fault.TheVariants as faults
use Rattle.run_state.specs.declared.names.Cause.TheVariants as causes
use Rattle.run_state.specs.declared.names.Stop.{Stop}
use Rattle.run_state.specs.declared.names.Stop.TheVariants as stops
use Rattle.rt_vdom.specs.Calls.{FailsAt, Ran, RanNoUnit, ran_fault, spent_in}
use Rattle.run_answers.specs.declared.stage.Stage.{Stage}
use Rattle.run_answers.specs.declared.stage.Stage.TheVariants as stages
use Rattle.rt_vdom.specs.declared.dom.VirtualDom.{VirtualDom}
use Rattle.run_answers.specs.declared.refusal.DomFault.{DomFault}
use Rattle.run_answers.specs.declared.refusal.DomFault.TheVariants as refusals

-- a run's own end spends no units
pub run_unspent : (stop : Stop) → false ≡ spent_in (fault_in (ends.Run stop))
run_unspent stops.OutOfMemory = refl
run_unspent (stops.Fault (causes.IdsExhausted what)) = refl
run_unspent (stops.Fault (causes.HookChanged scope index kept asked)) = refl
run_unspent (stops.Fault (causes.NoSuchTask scope task)) = refl
run_unspent (stops.Fault (causes.BadNode scope)) = refl

turns_none : (stop : Stop) (units : ℕ) → Some (model.OutOfTurns units) ≡ fault_in (ends.Run stop) → ⊥
turns_none stops.OutOfMemory units h = cc
turns_none (stops.Fault (causes.IdsExhausted what)) units h = cc
turns_none (stops.Fault (causes.HookChanged scope index kept asked)) units h = cc
turns_none (stops.Fault (causes.NoSuchTask scope task)) units h = cc
turns_none (stops.Fault (causes.BadNode scope)) units h = cc

depth_none : (stop : Stop) (height : ℕ) → Some (model.TooDeep height) ≡ fault_in (ends.Run stop) → ⊥
depth_none stops.OutOfMemory height h = cc
depth_none (stops.Fault (causes.IdsExhausted what)) height h = cc
depth_none (stops.Fault (causes.HookChanged scope index kept asked)) height h = cc
depth_none (stops.Fault (causes.NoSuchTask scope task)) height h = cc
depth_none (stops.Fault (causes.BadNode scope)) height h = cc

-- nor is it that of a height
pub no_unit : (stop : Stop) (fault : DomFault) → Ran fault → ran_fault fault ≡ fault_in (ends.Run stop) → RanNoUnit fault
no_unit stop (refusals.Run faults.OutOfMemory) ran same = tt
no_unit stop (refusals.Run faults.SinkFault) ran same = tt
no_unit stop (refusals.Run (faults.OutOfTurns units)) ran same = turns_none stop units same
no_unit stop (refusals.Run (faults.TooDeep height)) ran same = depth_none stop height same
no_unit stop (refusals.Run (faults.IdsExhausted what)) ran same = tt
no_unit stop (refusals.Run (faults.HookChanged scope index kept asked)) ran same = tt
no_unit stop (refusals.Run (faults.NoSuchTask scope task)) ran same = tt
no_unit stop (refusals.Run (faults.BadNode scope)) ran same = tt
no_unit stop refusals.NotBuilt ran same = ran
no_unit stop refusals.AlreadyBuilt ran same = ran
no_unit stop refusals.Failed ran same = ran

module _ {P C Q V H T E L : Type 0} (new : VirtualDom P C Q V H T E L) where
  fails_at : (fault : Fault) → (spent_in (fault_of fault) ≡ true → new.stage ≡ stages.Built)
      → (spent_in (fault_of fault) ≡ false → new.stage ≡ stages.Failed)
      → FailsAt new (refusals.Run fault)
  fails_at (faults.OutOfTurns units) spent failed = spent refl
  fails_at faults.OutOfMemory spent failed = failed refl
  fails_at faults.SinkFault spent failed = failed refl
  fails_at (faults.TooDeep height) spent failed = failed refl
  fails_at (faults.IdsExhausted what) spent failed = failed refl
  fails_at (faults.HookChanged scope index kept asked) spent failed = failed refl
  fails_at (faults.NoSuchTask scope task) spent failed = failed refl
  fails_at (faults.BadNode scope) spent failed = failed refl

  -- by the stage that is left, of the fault that is answered
  pub fails_as : (ended : Ended) (fault : Fault) (spent : Bool) → fault_of fault ≡ fault_in ended → spent ≡ spent_in (fault_in ended)
      → (old : Stage) → old ≡ stages.Built → new.stage ≡ (if spent then old else stages.Failed)
      → FailsAt new (refusals.Run fault)
  fails_as ended fault spent same says old built is =
      fails_at fault
      (
      λ q.
      let spends : spent ≡ true = says ∙ ap (λ (o : Option model.Fault). spent_in o) (sym same) ∙ q in
      is ∙ pick_true old stages.Failed spends ∙ built
      )
      (
      λ q.
      let no_more : spent ≡ false = says ∙ ap (λ (o : Option model.Fault). spent_in o) (sym same) ∙ q in
      is ∙ pick_false old stages.Failed no_more
      )

-- where units are spent the stage stays
pub stage_kept : (ended : Ended) (spent : Bool) (old new : Stage) (units : ℕ) → spent ≡ spent_in (fault_in ended)
    → fault_in ended ≡ Some (model.OutOfTurns units)
    → new ≡ (if spent then old else stages.Failed)
    → new ≡ old
stage_kept ended spent old new units says out is =
    let spends : spent ≡ true = says ∙ ap (λ (o : Option model.Fault). spent_in o) out in is ∙ pick_true old stages.Failed spends
