-- A removal takes its scope alone: every other one stands as it was framed.
use Rattle.std.proofs.Common.{ℕ, true, false, List, [], ◌∷◌, ◌++◌, ◌≡◌, refl, sym, ap, ◌∙◌, subst, nat_eq}
use Rattle.std.specs.Prelude.{Option, Some, None}
use Rattle.rt_model.specs.Lists.{at}
use Rattle.rt_model.specs.Tree.{Types}
use Rattle.rt_model.specs.World.{CallFault, Command, Meaning, Nothing, Application}
use Rattle.rt_model.specs.State.{Scope, State, Outcome, Cut, hooks_of, world_of}
use Rattle.rt_model.specs.Run.{fault_of, with_next, called_once}
use Rattle.rt_model.specs.Removal.{clean_ups, gone, stopped, cleaned, removed}
use Rattle.rt_model.specs.Framed.{framed, RemovalTakesOne}
use Rattle.rt_model.proofs.Maps.{at_without_other}
use Rattle.rt_model.proofs.Tour.{all_fresh}
use Rattle.rt_model.proofs.Frames.{shape, commands_same}
use Rattle.rt_model.proofs.TourCalls.{state_of}
use Rattle.rt_model.proofs.StepFrames.{none_by_shape, gone_same, stopped_later, IsGone, removed_gone}
use Rattle.rt_model.proofs.SideFrames.{Stay}
use Rattle.rt_model.proofs.SideRuns.{StayO, removed_stay}
use Rattle.rt_model.proofs.NumbersRun.{Idle, removed_idle}

module _ {K : Types} where
  -- equal shapes and what stays of the frames make equal frames
  framed_at : (o p : Option (Scope K)) → shape o ≡ shape p → ((x : Scope K) → o ≡ Some x → framed p ≡ framed (Some x)) → framed o ≡ framed p
  framed_at None p same h = ap (λ (z : Option (Scope K)). framed z) (sym (none_by_shape p (sym same)))
  framed_at (Some x) p same h = sym (h x refl)

module _ {K : Types} (app : Application K) where
  -- the other scopes live on, with their parents and heights

  cleaned_shapes_at : (s t : ℕ) (es : List K.Effect) (w : State K) (waiting : List (Command K)) (m : Meaning K Nothing) (o : Option CallFault)
      → shape (at (state_of (cleaned app s es (with_next w m.next) (waiting ++ m.commands))).scopes t) ≡ shape (at w.scopes t)
      → shape (at (state_of (elim o as (λ z. Outcome K) [ None ↦ cleaned app s es (with_next w m.next) (waiting ++ m.commands) | Some f ↦ Cut (with_next w m.next) (fault_of f) ])).scopes t) ≡ shape (at w.scopes t)
  cleaned_shapes_at s t es w waiting m None h = h
  cleaned_shapes_at s t es w waiting m (Some f) h = refl

  cleaned_shapes : (s t : ℕ) → nat_eq s t ≡ false → (es : List K.Effect) (w : State K) (waiting : List (Command K)) → shape (at (state_of (cleaned app s es w waiting)).scopes t) ≡ shape (at w.scopes t)
  cleaned_shapes s t q [] w waiting =
      (commands_same app 0 (gone w s) s None waiting (all_fresh app waiting)).seen t
      ∙ (gone_same 0 w s).seen t
      ∙ ap (λ (z : Option (Scope K)). shape z) (at_without_other w.scopes s t q)
  cleaned_shapes s t q (e ∷ es) w waiting =
      let m : Meaning K Nothing = app.effect e (world_of w s None true) in
      cleaned_shapes_at s t es (called_once w) waiting m m.fault (cleaned_shapes s t q es (with_next (called_once w) m.next) (waiting ++ m.commands))

  removed_shapes : (w : State K) (s t : ℕ) → nat_eq s t ≡ false → shape (at (state_of (removed app w s)).scopes t) ≡ shape (at w.scopes t)
  removed_shapes w s t q = let v : State K = stopped w s in cleaned_shapes s t q (clean_ups (hooks_of v s) []) v [] ∙ (stopped_later w s).shapes t

-- a removal that isn't cut takes its scope alone
pub removal_takes_one : {K : Types} (app : Application K) → RemovalTakesOne app
removal_takes_one {K = K} app lawful w v s work is =
    let stay : Stay w v = subst (λ (o : Outcome K). StayO w o) is (removed_stay app lawful w s) in
    let shapes : (t : ℕ) → nat_eq s t ≡ false → shape (at v.scopes t) ≡ shape (at w.scopes t) =
    λ t q. subst (λ (o : Outcome K). shape (at (state_of o).scopes t) ≡ shape (at w.scopes t)) is (removed_shapes app w s t q)
    in (
      subst (λ (o : Outcome K). Idle o) is (removed_idle app lawful w s),
      record {
        gone = subst (λ (o : Outcome K). IsGone s o) is (removed_gone app lawful w s);
        others = λ t q. framed_at (at v.scopes t) (at w.scopes t) (shapes t q) (λ x e. stay.frames t x e);
      },
    )
