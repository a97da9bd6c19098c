-- A removal outside of a patch takes its scope alone: every other one lives on, with its height.
use Rattle.std.proofs.Common.{ℕ, Bool, false, List, [], ◌∷◌, ◌++◌, ◌≡◌, ap, ◌∙◌, subst, nat_eq}
use Rattle.std.specs.Prelude.{Option, Some, None}
use Rattle.rt_model.specs.Lists.{at}
use Rattle.rt_model.specs.Tree.{Types}
use Rattle.rt_model.specs.World.{CallFault, Command, Meaning, Nothing, Application}
use Rattle.rt_model.specs.State.{Scope, State, Outcome, Done, Cut, hooks_of, world_of}
use Rattle.rt_model.specs.Commands.{commands}
use Rattle.rt_model.specs.Run.{fault_of, with_next, called_once}
use Rattle.rt_model.specs.Removal.{clean_ups, gone, stopped, cleaned_in, removed_apart}
use Rattle.rt_model.proofs.Maps.{at_without_here, at_without_other, eq_same}
use Rattle.rt_model.proofs.Tour.{all_fresh}
use Rattle.rt_model.proofs.Frames.{shape, commands_same}
use Rattle.rt_model.proofs.StepFrames.{none_by_shape, gone_same, stopped_later}

module _ {K : Types} where
  -- where a removal isn't cut, its scope is gone, and every other one has its parent and height
  abbrev pub TakesAlone : ℕ → List (ℕ × Scope K) → Outcome K → Type 0
  TakesAlone s scopes (Done v work) = (at v.scopes s ≡ None) × ((t : ℕ) → nat_eq s t ≡ false → shape (at v.scopes t) ≡ shape (at scopes t))
  TakesAlone s scopes (Cut v fault) = Unit {0}

  -- so it is of scopes that had the same parents and heights
  alone_before : (s : ℕ) (olds scopes : List (ℕ × Scope K)) (o : Outcome K) → ((t : ℕ) → shape (at scopes t) ≡ shape (at olds t))
      → TakesAlone s scopes o → TakesAlone s olds o
  alone_before s olds scopes (Done v work) same h = (h.0, λ t q. h.1 t q ∙ same t)
  alone_before s olds scopes (Cut v fault) same h = tt

module _ {K : Types} (app : Application K) where
  -- one clean-up more is called
  alone_at : (rendering : Bool) (s : ℕ) (es : List K.Effect) (scopes : List (ℕ × Scope K)) (w : State K) (waiting : List (Command K)) (m : Meaning K Nothing) (o : Option CallFault)
      → TakesAlone s scopes (cleaned_in app rendering s es (with_next w m.next) (waiting ++ m.commands))
      → TakesAlone s scopes (elim o as (λ z. Outcome K) [ None ↦ cleaned_in app rendering s es (with_next w m.next) (waiting ++ m.commands) | Some f ↦ Cut (with_next w m.next) (fault_of f) ])
  alone_at rendering s es scopes w waiting m None h = h
  alone_at rendering s es scopes w waiting m (Some f) h = tt

  cleaned_alone : (rendering : Bool) (s : ℕ) (es : List K.Effect) (w : State K) (waiting : List (Command K)) → TakesAlone s w.scopes (cleaned_in app rendering s es w waiting)
  cleaned_alone rendering s [] w waiting =
      let told = commands_same app 0 (gone w s) s None waiting (all_fresh app waiting) in
      let left = gone_same 0 w s in (
        none_by_shape (at (commands app (gone w s) s None waiting).scopes s)
            (told.seen s ∙ left.seen s ∙ ap (λ (z : Option (Scope K)). shape z) (at_without_here w.scopes s s (eq_same s))),
        λ t q. told.seen t ∙ left.seen t ∙ ap (λ (z : Option (Scope K)). shape z) (at_without_other w.scopes s t q),
      )
  cleaned_alone rendering s (e ∷ es) w waiting =
      let m : Meaning K Nothing = app.effect e (world_of w s None rendering) in
      alone_at rendering s es w.scopes (called_once w) waiting m m.fault (cleaned_alone rendering s es (with_next (called_once w) m.next) (waiting ++ m.commands))

  removed_alone : (w : State K) (s : ℕ) → TakesAlone s w.scopes (removed_apart app w s)
  removed_alone w s =
      let v : State K = stopped w s in
      alone_before s w.scopes v.scopes (removed_apart app w s) (stopped_later w s).shapes (cleaned_alone false s (clean_ups (hooks_of v s) []) v [])

  -- so it is where nothing cut it
  pub done_alone : (w v : State K) (s : ℕ) → removed_apart app w s ≡ Done v [] → TakesAlone s w.scopes (Done v [])
  done_alone w v s done = subst (λ (o : Outcome K). TakesAlone s w.scopes o) done (removed_alone w s)
