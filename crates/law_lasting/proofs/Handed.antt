-- What lasts of a scope: its component, until it is handed another one.
use Rattle.std.proofs.Common.{ℕ, true, false, List, [], ◌∷◌, ◌≡◌, refl, sym, ap, ◌∙◌, subst}
use Rattle.std.specs.Prelude.{Option, Some, None}
use Rattle.rt_model.specs.Lists.{at}
use Rattle.rt_model.specs.Tree.{Types, VComponent}
use Rattle.rt_model.specs.World.{Command, Application}
use Rattle.rt_model.specs.State.{Scope, State}
use Rattle.rt_model.specs.Replay.{Entry, Build, Taken, Heard, Rerun, Poll, Effects, Made, Fed, Kept, Removed, Input, EventAt, WakeOf, WriteOf, MarkOf, Drain, Machine}
use Rattle.rt_model.specs.Causes.{Limits}
use Rattle.rt_model.proofs.Maps.{eq_same}
use Rattle.rt_model.proofs.Tour.{AllFresh}
use Rattle.law_moves.specs.Moves.{Move, Silent, Closed, Logged, entries, Leads}
use Rattle.law_moves.proofs.Logs.{logs_are_moves}
use Rattle.law_behavior.specs.Along.{removed_in, NoneRemoves}
use Rattle.law_behavior.proofs.Frames.{Free, Permits, permits, Frame, Called}
use Rattle.law_behavior.proofs.Enduring.{Enduring, finely, kept_so}
use Rattle.law_behavior.proofs.Commanded.{AllAllowed}
use Rattle.law_behavior.proofs.Onwards.{MayTake, Sparing, waking_anyway, AllSparing, moves_on, good_anyway}
use Rattle.law_behavior.proofs.Steadfast.{Of, Other, Bears, draw_anyway, of_again, of_endures, all_allowed}
use Rattle.law_lasting.specs.ComponentsLast.{fed_in, NoneFeeds, component_of, ComponentsLast, LoggedComponentsLast}

module _ {K : Types} (s : ℕ) (c : VComponent K) where
  abbrev Keeps : Scope K → Type 0
  Keeps x = x.component ≡ c

  abbrev ComponentIs : State K → Type 0
  ComponentIs w = Of s Keeps w

  -- another scope may be fed or removed
  abbrev leaving : Permits K
  leaving = permits Free Free (λ t. Other s t) (λ t. Other s t)

  component_bears : Bears {K = K} s Keeps Free Free (λ t. Other s t)
  component_bears =
      record {
        same = λ x y same q. (same.but).component ∙ q;
        hooks = λ x h q. q;
        joins = λ x t origin q. q;
        throws = λ x e none q. q;
        clears = λ x may q. q;
        feeds = λ x d may q. let absurdity : true ≡ false = sym (eq_same s) ∙ may in cc;
        ends = λ x t may q. q;
      }

  component_endures : Enduring {K = K} (λ w. ComponentIs w) 0 Free Free (λ t. Other s t) (λ t. Other s t)
  component_endures = of_endures s Keeps Free Free (λ t. Other s t) component_bears

  module _ (app : Application K) where
    component_frame : Frame app (λ w. ComponentIs w) (λ w. ComponentIs w) 0 leaving
    component_frame = finely (λ w. ComponentIs w) 0 Free Free (λ t. Other s t) (λ t. Other s t) component_endures app

    component_called : Called app (λ w. ComponentIs w) 0
    component_called =
        kept_so (λ w. ComponentIs w) 0 Free Free (λ t. Other s t) (λ t. Other s t) component_endures app (of_again s Keeps (λ x y same q. same.component ∙ q))

    freely : (w : State K) (r : ℕ) (polled : Option ℕ) (cs : List (Command K)) → AllFresh app 0 cs → Unit {0} → AllAllowed app (λ v. ComponentIs v) (λ v. ComponentIs v) 0 leaving component_frame w r polled cs
    freely w r polled cs f g = all_allowed app (λ v. ComponentIs v) (λ v. ComponentIs v) 0 (λ t. Other s t) (λ t. Other s t) component_frame w r polled cs f

    may_take : (inputs : List (Input K))
        → MayTake app (λ w. ComponentIs w) (λ w. ComponentIs w) 0 leaving component_frame (λ t. tt) component_called (λ w r polled cs. Unit {0}) (λ w r polled cs f g. freely w r polled cs f g) (draw_anyway app) inputs
    may_take [] = tt
    may_take (WriteOf n v ∷ more) = tt
    may_take (EventAt name payload element bubbles ∷ more) = tt
    may_take (WakeOf t ∷ more) = tt
    may_take (MarkOf r ∷ more) = tt
    may_take (Drain messages ∷ more) = tt

    entry_leaves : (inputs : List (Input K)) (e : Entry) → removed_in s e ≡ false → fed_in s e ≡ false
        → Sparing app (λ w. ComponentIs w) (λ w. ComponentIs w) 0 leaving component_frame (λ t. tt) component_called (λ w r polled cs. Unit {0}) (λ w r polled cs f g. freely w r polled cs f g) (draw_anyway app) inputs e
    entry_leaves inputs (Removed r) q h = q
    entry_leaves inputs Build q h = tt
    entry_leaves inputs (Taken k) q h = may_take inputs
    entry_leaves inputs (Heard r) q h = tt
    entry_leaves inputs (Rerun r) q h = tt
    entry_leaves inputs (Poll t) q h = tt
    entry_leaves inputs (Effects r) q h = tt
    entry_leaves inputs (Made r) q h = tt
    entry_leaves inputs (Fed r) q h = h
    entry_leaves inputs (Kept r) q h = h

    moves_leave : (limits : Limits) (m v : Machine K) (moves : List Move) (leads : Leads app limits m moves v) → NoneRemoves s (entries moves) → NoneFeeds s (entries moves)
        → AllSparing app (λ w. ComponentIs w) (λ w. ComponentIs w) 0 leaving component_frame (λ t. tt) component_called (λ w r polled cs. Unit {0}) (λ w r polled cs f g. freely w r polled cs f g) (draw_anyway app) limits m v moves leads
    moves_leave limits m v [] leads stays unfed = tt
    moves_leave limits m v (Silent ∷ moves) leads stays unfed = (λ q. q, moves_leave limits leads.0 v moves leads.2 stays unfed)
    moves_leave limits m v (Closed ∷ moves) leads stays unfed = moves_leave limits leads.0 v moves leads.2 stays unfed
    moves_leave limits m v (Logged e ∷ moves) leads stays unfed = (
      (entry_leaves m.inputs e stays.0 unfed.0, waking_anyway app (λ w. ComponentIs w) (λ w. ComponentIs w) 0 leaving component_frame (λ t. tt) component_called (λ w r polled cs. Unit {0}) (λ w r polled cs f g. freely w r polled cs f g) (draw_anyway app) (λ w c. tt) m e),
      λ q. q,
      moves_leave limits leads.0 v moves leads.2 stays.1 unfed.1,
    )

    component_lasts : (limits : Limits) (m v : Machine K) (moves : List Move) (leads : Leads app limits m moves v) → NoneRemoves s (entries moves) → NoneFeeds s (entries moves)
        → ComponentIs m.state
        → ComponentIs v.state
    component_lasts limits m v moves leads stays unfed h =
        moves_on app (λ w. ComponentIs w) (λ w. ComponentIs w) 0 leaving component_frame (λ t. tt) component_called (λ w r polled cs. Unit {0}) (λ w r polled cs f g. freely w r polled cs f g) (draw_anyway app)
        limits m v moves leads
        (
        good_anyway app (λ w. ComponentIs w) (λ w. ComponentIs w) 0 leaving component_frame (λ t. tt) component_called (λ w r polled cs. Unit {0}) (λ w r polled cs f g. freely w r polled cs f g) (draw_anyway app)
        (λ w r polled cs. tt) limits m v moves leads
        )
        (moves_leave limits m v moves leads stays unfed)
        h

  abbrev found_in : Option (Scope K) → Option (VComponent K)
  found_in o = elim o as (λ z. Option (VComponent K)) [ None ↦ None | Some x ↦ Some x.component ]

  component_at : (w : State K) (o : Option (Scope K)) → at w.scopes s ≡ o → found_in o ≡ Some c → ComponentIs w
  component_at w None e h = cc
  component_at w (Some x) e h =
      let same : x.component ≡ c = cc in
      record { row = x; there = e; holds = same }

  component_is : (w : State K) → ComponentIs w → component_of w s ≡ Some c
  component_is w h = ap (λ (o : Option (Scope K)). found_in o) h.there ∙ ap (λ (d : VComponent K). Some d) h.holds

pub components_last : {K : Types} (app : Application K) → ComponentsLast app
components_last app limits m v moves s c leads stays unfed h =
    component_is s c v.state (component_lasts s c app limits m v moves leads stays unfed (component_at s c m.state (at m.state.scopes s) refl h))

pub logged_components_last : {K : Types} (app : Application K) → LoggedComponentsLast app
logged_components_last app limits m v log s c settled accepted stays unfed h =
    let found = logs_are_moves app limits m v log settled accepted in
    components_last app limits m v found.0 s c found.1
    (subst (λ (es : List Entry). NoneRemoves s es) (sym found.2) stays)
    (subst (λ (es : List Entry). NoneFeeds s es) (sym found.2) unfed)
    h
