-- A build that came to a fault, or broke off.
use Rattle.std.proofs.Common.{ℕ, true, List, [], ◌∷◌, ◌++◌, ◌≡◌, refl, sym, ap, ◌∙◌, subst, map, Err}
use Rattle.std.specs.Prelude.{Option, Some, None}
use Rattle.rt_lemmas.proofs.Options.{some_same as some_fault}
use Rattle.rt_edits.specs.declared.edit.Edit.{Edit}
use Rattle.rt_model.specs.OneLog.{types}
use Rattle.rt_model.specs.Tree.{Types}
use Rattle.rt_model.specs.World.{Application, Firsts}
use Rattle.rt_model.specs.State as model
use Rattle.rt_model.specs.State.{Outcome, Cut}
use Rattle.rt_model.specs.Run.{run}
use Rattle.rt_model.specs.Replay as replay
use Rattle.rt_model.specs.Replay.{ended_by, start_with}
use Rattle.rt_model.specs.Causes as causes
use Rattle.rt_model.specs.Causes.{refusal}
use Rattle.rt_model.specs.Told.{telling}
use Rattle.law_moves.specs.Moves.{IsLogged}
use Rattle.law_moves.specs.Units.{unit_told}
use Rattle.law_moves.proofs.Beginnings.{build_logged}
use Rattle.law_moves.proofs.Joins.{stays}
use Rattle.law_moves.proofs.Reports.{reports_go_on}
use Rattle.law_moves.proofs.Tellings.{told_machine}
use Rattle.run_state.specs.Mirror.{at_first, state_of}
use Rattle.run_state.specs.Names.{fault_of}
use Rattle.run_state.specs.declared.names.Cause.{Cause}
use Rattle.run_state.specs.declared.names.Cause.TheVariants as faults
use Rattle.run_state.specs.declared.names.Stop.{Stop}
use Rattle.run_state.specs.declared.names.Stop.TheVariants as stops
use Rattle.law_behavior.specs.Doms.{NoneOpens}
use Rattle.run_machine.specs.Machines.{noted, IsFresh, Builds}
use Rattle.run_outside.specs.Ends.{fault_in}
use Rattle.run_machine.specs.Stands.{BrokeAt}
use Rattle.run_outside.specs.declared.ended.Ended.{Ended}
use Rattle.run_outside.specs.declared.ended.Ended.TheVariants as ends
use Rattle.run_machine.specs.declared.machine.Machine.{Machine}
use Rattle.run_machine.proofs.Breaking.{in_begun}
use Rattle.run_machine.proofs.Turning.{grown_none}
use Rattle.run_rounds.specs.Going.{Inside, FinishCut}
use Rattle.run_rounds.specs.Rounds.{CutFrom, BuildCut}
use Rattle.run_rounds.proofs.Alone.{alone_of}
use Rattle.run_rounds.proofs.Breaks.{wanting}
use Rattle.run_rounds.proofs.Given.{given, given_machine, given_rests}

none_fault : {X : Type 0} {a : model.Fault} → None ≡ Some a → X
none_fault h = cc

some_none : {X : Type 0} {a : model.Fault} → Some a ≡ None → X
some_none h = cc

-- no call of the application ends for want of units
turns_of : (what : Cause) (units : ℕ) → fault_of what ≡ model.OutOfTurns units → ⊥
turns_of (faults.IdsExhausted counter) units h = cc
turns_of (faults.HookChanged scope index kept asked) units h = cc
turns_of (faults.NoSuchTask scope task) units h = cc
turns_of (faults.BadNode scope) units h = cc

module _ {K : Types} (app : Application K) (limits : causes.Limits) (props : K.Props) (firsts : Firsts) (provided : List (ℕ × K.Value)) where
  abbrev cut_build : model.State K → model.Fault → replay.Machine K
  cut_build v fault =
      record (given_machine app limits props firsts provided) { state = v; work = []; built = true; unit = true; dead = Some fault; refused = None }

  -- the build's own call is cut
  given_cut : (now : Option (List Edit)) (v : model.State K) (fault : model.Fault)
      → run app (start_with app props firsts provided []).state 0 ≡ Cut v fault
      → CutFrom app limits (start_with app props firsts provided []) now now fault
  given_cut now v fault did =
      let m : replay.Machine K = given_machine app limits props firsts provided in
      let u : replay.Machine K = cut_build v fault in
      let logged : IsLogged app limits m replay.Build u =
      subst (λ (x : replay.Machine K). IsLogged app limits m replay.Build x)
      (ap (λ (x : Outcome K). ended_by (record m { built = true; unit = true }) None [] x) did)
      (build_logged app limits m (given_rests app limits props firsts provided) refl) in
      let both = (reports_go_on app).3 limits m u u [] [] fault (telling m) replay.Build ((reports_go_on app).0 limits m) refl logged refl (stays app limits u []) refl refl in
      record {
        wrote = [];
        told = grown_none now;
        log = replay.Build ∷ [];
        alone = tt;
        last = unit_told app (telling m) replay.Build u;
        so = both.0;
        cause = ap (λ (x : replay.Machine K). refusal limits x) (told_machine app limits (record (telling m) { before = m.state; first = replay.Build }) true u);
        edits_are = both.1;
      }

module _ {P C Q V H T E L : Type 0} (app : Application (types C Q V H T E L)) (limits : causes.Limits) (props : Q) (firsts : Firsts)
    (provided : List (ℕ × V)) where
  -- so it ended in its own call, or for want of memory there
  pub given_stop : (old new : Machine P C Q V H T E L) (now : Option (List Edit)) (stop : Stop)
      → IsFresh old
      → state_of at_first (old.scopes).state ≡ (start_with app props firsts provided []).state
      → Builds app old new (Err stop)
      → BuildCut app limits props firsts provided now now (ends.Run stop)
  given_stop old new now stops.OutOfMemory fresh is builds =
      let r = given app limits props firsts provided None in (
        λ fault why. none_fault why,
        λ none.
            alone_of app limits r [] now now (ends.Run stops.OutOfMemory)
            (in_begun app limits r now (ends.Run stops.OutOfMemory) (given_rests app limits props firsts provided) ([], refl)) tt,
      )
  given_stop old new now (stops.Fault what) fresh is builds =
      let cut = builds at_first in
      let v = state_of cut.kept (new.scopes).state in
      let done : run app (start_with app props firsts provided []).state 0 ≡ Cut v (fault_of what) =
      ap (λ (x : model.State (types C Q V H T E L)). run app x 0) (sym is) ∙ cut.cut in (
        λ fault why. (
          subst (λ (f : model.Fault). CutFrom app limits (start_with app props firsts provided []) now now f) (some_fault (fault_of what) fault why)
              (given_cut app limits props firsts provided now v (fault_of what) done),
          λ units out. turns_of what units (some_fault (fault_of what) fault why ∙ out),
        ),
        λ none. some_none none,
      )

  -- or later
  pub given_later : (along : Option ℕ) (before after : Option (List Edit)) (ended : Ended) (old new : Machine P C Q V H T E L) → noted old ≡ []
      → ((fault : model.Fault) → fault_in ended ≡ Some fault → FinishCut app limits (given app limits props firsts provided along) [] before after fault old new)
      → (fault_in ended ≡ None → BrokeAt app limits (given app limits props firsts provided along) [] before after ended old)
      → BuildCut app limits props firsts provided before after ended
  given_later along before after ended old new begun cut broke = (
    λ fault why.
        let far = cut fault why in
        let came = far.came in (
          record {
            wrote = came.wrote;
            told = came.told;
            log = replay.Build ∷ noted new;
            alone =
                subst (λ (l : List replay.Entry). NoneOpens l) (sym ((far.inside).logged ∙ ap (λ (l : List replay.Entry). l ++ (far.inside).more) begun))
                (far.inside).shut;
            last = (came.refused).last;
            so = (came.refused).so;
            cause = (came.refused).cause;
            edits_are = (came.refused).edits_are;
          },
          λ units out. far.never units out,
        ),
    λ none.
        alone_of app limits (given app limits props firsts provided along) (replay.Build ∷ noted old) before after ended (broke none)
        (subst (λ (l : List replay.Entry). NoneOpens l) (sym begun) tt),
  )

  -- or for want of memory when all was done
  pub wanting_later : (along : Option ℕ) (before after : Option (List Edit)) (old new : Machine P C Q V H T E L) → noted old ≡ []
      → Inside old new
      → BrokeAt app limits (given app limits props firsts provided along) [] before after wanting new
      → BuildCut app limits props firsts provided before after wanting
  wanting_later along before after old new begun inside broke = (
    λ fault why. none_fault why,
    λ none.
        alone_of app limits (given app limits props firsts provided along) (replay.Build ∷ noted new) before after wanting broke
        (subst (λ (l : List replay.Entry). NoneOpens l) (sym (inside.logged ∙ ap (λ (l : List replay.Entry). l ++ inside.more) begun)) inside.shut),
  )
