-- The entries of moves are accepted.
use Rattle.std.proofs.Common.{Bool, true, List, [], ◌∷◌, ◌≡◌, refl, sym, ap, ◌∙◌}
use Rattle.std.specs.Prelude.{Option, Some, None, if◌then◌else◌}
use Rattle.rt_model.specs.Tree.{Types}
use Rattle.rt_model.specs.World.{Application}
use Rattle.rt_model.specs.State.{Fault}
use Rattle.rt_model.specs.Replay.{Entry, Build, Taken, Heard, Rerun, Poll, Effects, Made, Fed, Kept, Removed, Machine, same_entry, settled, step, is_due, accepts, replay_on}
use Rattle.rt_model.specs.Causes.{Limits, accepts_within, replay_within}
use Rattle.rt_model.proofs.Maps.{eq_same}
use Rattle.law_moves.specs.Moves.{Move, Silent, Closed, Logged, entries, IsSettled, IsLogged, Leads}
use Rattle.law_moves.specs.Laws.{MovesAreAccepted, StopsComeTo}
use Rattle.law_moves.proofs.Settles.{silent_settles, closed_settles, settled_stays}

pub same_as_itself : (e : Entry) → same_entry e e ≡ true
same_as_itself Build = refl
same_as_itself (Taken n) = eq_same n
same_as_itself (Heard n) = eq_same n
same_as_itself (Rerun n) = eq_same n
same_as_itself (Poll n) = eq_same n
same_as_itself (Effects n) = eq_same n
same_as_itself (Made n) = eq_same n
same_as_itself (Fed n) = eq_same n
same_as_itself (Kept n) = eq_same n
same_as_itself (Removed n) = eq_same n

module _ {K : Types} (app : Application K) (limits : Limits) where
  -- the entry that is due is accepted, and the replay goes on from where its change settles
  pub logged_accepted : (m u : Machine K) (e : Entry) → IsLogged app limits m e u → accepts app m e ≡ Some (settled app u)
  logged_accepted m u e h =
      ap (λ (o : Option Entry). if is_due app o e then Some (step app m e) else None) h.due_is
      ∙ ap (λ (b : Bool). if b then Some (step app m e) else None) (same_as_itself e)
      ∙ ap (λ (x : Machine K). Some (settled app x)) (sym h.gives)

  -- within limits too
  logged_within : (m u : Machine K) (e : Entry) → IsLogged app limits m e u → accepts_within app limits m e ≡ Some (settled app u)
  logged_within m u e h =
      ap (λ (o : Option Fault). elim o as (λ z. Option (Machine K)) [ None ↦ accepts app m e | Some fault ↦ None ]) h.within ∙ logged_accepted m u e h

  -- where nothing moves any more
  ends_at : (m v : Machine K) → v ≡ m → IsSettled v → settled app m ≡ v
  ends_at m v e s = ap (λ (x : Machine K). settled app x) (sym e) ∙ settled_stays app v s

  pub accepted_within : (m v : Machine K) (moves : List Move) → Leads app limits m moves v → IsSettled v → replay_within app limits (Some (settled app m)) (entries moves) ≡ Some v
  accepted_within m v [] h s = ap Some (ends_at m v h s)
  accepted_within m v (Silent ∷ moves) h s =
      ap (λ (x : Machine K). replay_within app limits (Some x) (entries moves)) (silent_settles app m h.0 h.1) ∙ accepted_within h.0 v moves h.2 s
  accepted_within m v (Closed ∷ moves) h s =
      ap (λ (x : Machine K). replay_within app limits (Some x) (entries moves)) (closed_settles app m h.0 h.1) ∙ accepted_within h.0 v moves h.2 s
  accepted_within m v (Logged e ∷ moves) h s =
      ap (λ (x : Machine K). replay_within app limits (accepts_within app limits x e) (entries moves)) (settled_stays app m h.1.settled)
      ∙ ap (λ (o : Option (Machine K)). replay_within app limits o (entries moves)) (logged_within m h.0 e h.1)
      ∙ accepted_within h.0 v moves h.2 s

  accepted : (m v : Machine K) (moves : List Move) → Leads app limits m moves v → IsSettled v → replay_on app (Some (settled app m)) (entries moves) ≡ Some v
  accepted m v [] h s = ap Some (ends_at m v h s)
  accepted m v (Silent ∷ moves) h s =
      ap (λ (x : Machine K). replay_on app (Some x) (entries moves)) (silent_settles app m h.0 h.1) ∙ accepted h.0 v moves h.2 s
  accepted m v (Closed ∷ moves) h s =
      ap (λ (x : Machine K). replay_on app (Some x) (entries moves)) (closed_settles app m h.0 h.1) ∙ accepted h.0 v moves h.2 s
  accepted m v (Logged e ∷ moves) h s =
      ap (λ (x : Machine K). replay_on app (accepts app x e) (entries moves)) (settled_stays app m h.1.settled)
      ∙ ap (λ (o : Option (Machine K)). replay_on app o (entries moves)) (logged_accepted m h.0 e h.1)
      ∙ accepted h.0 v moves h.2 s

module _ {K : Types} (app : Application K) where
  pub moves_are_accepted : MovesAreAccepted app
  moves_are_accepted limits m v moves h s = (accepted_within app limits m v moves h s, accepted app limits m v moves h s)

  pub stops_come_to : StopsComeTo app
  stops_come_to limits m u moves fault h s cause = record { machine = u; goes_on = accepted_within app limits m u moves h s; cause = cause }
