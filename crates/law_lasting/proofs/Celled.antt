-- What lasts of a cell: its owner and its value.
use Rattle.std.proofs.Common.{ℕ, true, false, Bool, List, [], ◌∷◌, ◌++◌, ◌≡◌, ◌+◌, not, refl, sym, ap, ◌∙◌, subst, nat_eq}
use Rattle.std.specs.Prelude.{Option, Some, None, if◌then◌else◌}
use Rattle.rt_lemmas.proofs.Numbers.{other_way as other_way_round}
use Rattle.rt_model.specs.Lists.{at, put, without, kept_by}
use Rattle.rt_model.specs.Tree.{Types, Element, Place, Kind}
use Rattle.rt_model.specs.World.{Cell, Error, Context, Command, Write, DropCell, NewCell, NewContext, Reset, ReadInto, Spawn, RemoveFuture, ClearErrors, World, Meaning, Application}
use Rattle.rt_model.specs.State.{SideName, Mark, Woken, Scope, CellRow, State, side_of, with_side, changed_scope, change, error_context, world_of}
use Rattle.rt_model.specs.Commands.{post, tell, activated, provided_at, command, commands}
use Rattle.rt_model.specs.Next.{look}
use Rattle.rt_model.specs.Run.{with_next, called_where, is_own, kept_call, body_of}
use Rattle.rt_model.specs.Removal.{without_scope, gone}
use Rattle.rt_model.specs.Replay.{Entry, Build, Taken, Heard, Rerun, Poll, Effects, Made, Fed, Kept, Removed, Input, EventAt, WakeOf, WriteOf, MarkOf, Drain, Machine, numbered}
use Rattle.rt_model.specs.Causes.{Limits}
use Rattle.rt_model.proofs.Maps.{by_test, pick_true, pick_false, at_here, at_there, at_put_other, at_without_other}
use Rattle.law_moves.specs.Moves.{Move, Silent, Closed, Logged, entries, Leads}
use Rattle.law_moves.proofs.Logs.{logs_are_moves}
use Rattle.law_behavior.specs.Along.{removed_in, NoneRemoves}
use Rattle.law_behavior.proofs.Readers.{post_posts}
use Rattle.law_behavior.proofs.Frames.{Free, Permits, Frame, Called}
use Rattle.law_behavior.proofs.Commanded.{MayClear, Allowed, caused_anyway, AllAllowed, commands_on}
use Rattle.law_behavior.proofs.Onwards.{MayTake, Sparing, waking_anyway, AllSparing, GoodOn, moves_on}
use Rattle.law_behavior.proofs.Steadfast.{Other, from_zero, draw_anyway}
use Rattle.law_lasting.proofs.Told.{posts_same, tell_same, look_same, calls_same, activated_same, gone_same}
use Rattle.law_lasting.specs.CellsLast.{LeavesCell, AllLeave, FirstLeaves, TakenLeaves, NoneWritesOn, CellsStay, CellsLast, LoggedCellsLast}

-- a list that is longer at its end still answers what it did
pub at_longer : {A : Type 0} (es : List (ℕ × A)) (n m : ℕ) (x y : A) → at es n ≡ Some y → at (es ++ (m, x) ∷ []) n ≡ Some y
at_longer [] n m x y h = cc
at_longer (e ∷ es) n m x y h =
    by_test (nat_eq e.0 n)
    (λ q. at_here e.0 e.1 (es ++ (m, x) ∷ []) n q ∙ sym (at_here e.0 e.1 es n q) ∙ h)
    (λ q. at_there e.0 e.1 (es ++ (m, x) ∷ []) n q ∙ at_longer es n m x y (sym (at_there e.0 e.1 es n q) ∙ h))

module _ {K : Types} where
  pub changes_same : (w : State K) (s : ℕ) (f : Scope K → Scope K) (o : Option (Scope K)) → (changed_scope w s f o).cells ≡ w.cells
  changes_same w s f None = refl
  changes_same w s f (Some x) = refl

  pub bodies_same : (w : State K) (s : ℕ) (own : Bool) (world : World K) (m : Meaning K (Element K)) → (kept_call (called_where own w) s world m).cells ≡ w.cells
  bodies_same w s own world m =
      let u : State K = with_next (called_where own w) m.next in changes_same u s (λ x. record x { reads = m.reads }) (at u.scopes s) ∙ (calls_same own w).cells

  pub provided_same : (app : Application K) (w : State K) (s k : ℕ) (v : K.Value) (o : Option K.Value) → (provided_at app w s k v o).cells ≡ w.cells
  provided_same app w s k v o = on o
    where
      u : State K
      u = change w s (λ x. record x { contexts = put x.contexts k v })

      changed : u.cells ≡ w.cells
      changed = changes_same w s (λ x. record x { contexts = put x.contexts k v }) (at w.scopes s)

      one_or_other : (x y : State K) (b : Bool) → x.cells ≡ w.cells → y.cells ≡ w.cells → (if b then x else y).cells ≡ w.cells
      one_or_other x y true f g = f
      one_or_other x y false f g = g

      on : (p : Option K.Value) → (provided_at app w s k v p).cells ≡ w.cells
      on None = (tell_same u (Context k s)).cells ∙ changed
      on (Some old) = one_or_other u (tell u (Context k s)) (app.same_value old v) changed ((tell_same u (Context k s)).cells ∙ changed)

  pub numbered_same : (w : State K) (s : ℕ) (side : SideName) (p : Place) (k : Kind) → (numbered w s side p k).cells ≡ w.cells
  numbered_same w s side p k =
      changes_same (with_next w (record (w.next) { elements = w.next.elements + 1 })) s
      (λ x. with_side x side (record (side_of x side) { numbers = (side_of x side).numbers ++ (p, k, w.next.elements) ∷ [] }))
      (at w.scopes s)

module _ {K : Types} (n : ℕ) (row : CellRow K) where
  abbrev CellIs : State K → Type 0
  CellIs w = at w.cells n ≡ Some row

  by_cells : (w v : State K) → v.cells ≡ w.cells → CellIs w → CellIs v
  by_cells w v same h = ap (λ (es : List (ℕ × CellRow K)). at es n) same ∙ h

  at_kept : (s : ℕ) → nat_eq row.owner s ≡ false → (es : List (ℕ × CellRow K)) → at es n ≡ Some row → at (kept_by (λ e. not (nat_eq (e.1).owner s)) es) n ≡ Some row
  at_kept s other [] h = cc
  at_kept s other (e ∷ es) h =
      let later : List (ℕ × CellRow K) = kept_by (λ d. not (nat_eq (d.1).owner s)) es in
      by_test (nat_eq e.0 n)
      (
      λ q.
      let found : Some e.1 ≡ Some row = sym (at_here e.0 e.1 es n q) ∙ h in
      let same : e.1 ≡ row = cc in
      let stays : not (nat_eq (e.1).owner s) ≡ true = ap (λ (r : CellRow K). not (nat_eq r.owner s)) same ∙ ap (λ (b : Bool). not b) other in
      ap (λ (ds : List (ℕ × CellRow K)). at ds n) (pick_true (e ∷ later) later stays) ∙ at_here e.0 e.1 later n q ∙ found
      )
      (
      λ q.
      let rest : at later n ≡ Some row = at_kept s other es (sym (at_there e.0 e.1 es n q) ∙ h) in
      by_test (not (nat_eq (e.1).owner s))
      (λ p. ap (λ (ds : List (ℕ × CellRow K)). at ds n) (pick_true (e ∷ later) later p) ∙ at_there e.0 e.1 later n q ∙ rest)
      (λ p. ap (λ (ds : List (ℕ × CellRow K)). at ds n) (pick_false (e ∷ later) later p) ∙ rest)
      )

  -- another cell may be written or dropped, another scope removed
  abbrev leaving : Permits K
  leaving =
      record {
        clearable = Free;
        makeable = Free;
        writable = λ c. Other n c;
        droppable = λ c. Other n c;
        openable = Free;
        readable = Free;
        pollable = Free;
        endable = Free;
        spawnable = λ w t s a. Unit {0};
        feedable = Free;
        removable = λ s. Other row.owner s;
        causable = λ w c. Unit {0};
      }

  module _ (app : Application K) where
    cell_frame : Frame app (λ w. CellIs w) (λ w. CellIs w) 0 leaving
    cell_frame =
        record {
          low = λ w h. from_zero w.next.tasks;
          leaves = λ w h. h;
          marks = λ w s h. by_cells w (post w (Mark s)) (posts_same w (post w (Mark s)) (post_posts w (Mark s))).cells h;
          wakes = λ w t a h. by_cells w (post w (Woken t)) (posts_same w (post w (Woken t)) (post_posts w (Woken t))).cells h;
          tells = λ w i a h. by_cells w (tell w i) (tell_same w i).cells h;
          looks = λ w h. by_cells w (look w) (look_same w).cells h;
          pauses = λ w t e h. h;
          unqueues = λ w t a h. h;
          unmarks = λ w s h. h;
          asides = λ w v e h. by_cells w v (ap (λ (x : State K). x.cells) e) h;
          nexts = λ w next low h. h;
          writes =
              λ w c v old e a told h.
              let u : State K = record w { cells = put w.cells c (record old { value = v }) } in
              by_cells u (tell u (Cell c)) (tell_same u (Cell c)).cells (at_put_other w.cells c (record old { value = v }) n a ∙ h);
          drops =
              λ w c a told h.
              let u : State K = record w { cells = without w.cells c } in by_cells u (tell u (Cell c)) (tell_same u (Cell c)).cells (at_without_other w.cells c n a ∙ h);
          new_cells = λ w s c v a h. at_longer w.cells n c (record { owner = s; value = v }) row h;
          new_contexts = λ w c x a h. h;
          sources = λ w c x y e a h. h;
          rows = λ w s x y e same h. h;
          hooks = λ w s x k e h. h;
          joins = λ w b t origin x e h. h;
          throws =
              λ w b x e live none told h.
              let u : State K = record w { scopes = put w.scopes b (record x { error = Some e }) } in by_cells u (tell u (Error b)) (tell_same u (Error b)).cells h;
          clears =
              λ w b x live a told h.
              let u : State K = record w { scopes = put w.scopes b (record x { error = None }) } in by_cells u (tell u (Error b)) (tell_same u (Error b)).cells h;
          provides = λ w s k v x e told h. by_cells w (provided_at app w s k v (at x.contexts k)) (provided_same app w s k v (at x.contexts k)) h;
          feeds = λ w t c x e a h. h;
          patches = λ w s side tree x e h. h;
          draws = λ w s side p k h. by_cells w (numbered w s side p k) (numbered_same w s side p k) h;
          empties = λ w b x e h. h;
          makes = λ w s side p c x e h. h;
          goes = λ w s free told h. by_cells (without_scope w s) (gone w s) (gone_same w s).cells (at_kept s (other_way_round s row.owner free) w.cells h);
          mounts = λ w h. h;
          ends = λ w t a h. h;
          spawns =
              λ w t x live low free h.
              let v : State K = record w { tasks = w.tasks ++ (t, x) ∷ [] } in by_cells v (post v (Woken t)) (posts_same v (post v (Woken t)) (post_posts v (Woken t))).cells h;
          goes_on = λ w t x a e may h. h;
          suspends = λ w t x e h. h;
          activates = λ w t active x e told h. by_cells w (activated w t active (Some x)) (activated_same w t active x).cells h;
        }

    cell_called : Called app (λ w. CellIs w) 0
    cell_called =
        record {
          bodies =
              λ w s c low h.
              let world : World K = world_of w s None true in
              by_cells w (kept_call (called_where (is_own c world) w) s world (body_of app c world)) (bodies_same w s (is_own c world) world (body_of app c world)) h;
          turns = λ w b x e h. h;
          turns_nowhere = λ w b e h. h;
        }

    may_clear : (o : Option ℕ) → MayClear app (λ w. CellIs w) (λ w. CellIs w) 0 leaving cell_frame o
    may_clear None = tt
    may_clear (Some b) = tt

    left_alone : (w : State K) (s : ℕ) (c : Command K) → LeavesCell n c → Allowed app (λ w. CellIs w) (λ w. CellIs w) 0 leaving cell_frame w s c
    left_alone w s (Write c v) h = h
    left_alone w s (DropCell c) h = h
    left_alone w s ClearErrors h = may_clear (error_context w s)
    left_alone w s (Spawn t a forever isomorphic) h = (from_zero t, tt)
    left_alone w s (RemoveFuture t) h = tt
    left_alone w s (NewCell c v) h = tt
    left_alone w s (NewContext c target) h = tt
    left_alone w s (Reset c) h = tt
    left_alone w s (ReadInto c source) h = tt
    left_alone w s c h = tt

    all_left : (w : State K) (s : ℕ) (polled : Option ℕ) (cs : List (Command K)) → AllLeave n cs → AllAllowed app (λ w. CellIs w) (λ w. CellIs w) 0 leaving cell_frame w s polled cs
    all_left w s polled [] h = tt
    all_left w s polled (c ∷ cs) h = (
      (left_alone w s c h.0, caused_anyway app (λ w. CellIs w) (λ w. CellIs w) 0 leaving cell_frame (λ v d. tt) w s c),
      all_left (command app w s polled c) s polled cs h.1,
    )

    cell_stays : (w : State K) (s : ℕ) (polled : Option ℕ) (cs : List (Command K)) → AllLeave n cs → CellIs w → CellIs (commands app w s polled cs)
    cell_stays w s polled cs none h = commands_on app (λ w. CellIs w) (λ w. CellIs w) 0 leaving cell_frame w s polled cs (all_left w s polled cs none) h

    -- the calls of these moves leave the cell
    calls_leave : (limits : Limits) (m v : Machine K) (moves : List Move) (leads : Leads app limits m moves v) → NoneWritesOn app limits n m v moves leads
        → GoodOn app (λ w. CellIs w) (λ w. CellIs w) 0 leaving cell_frame (λ t. tt) cell_called (λ w s polled cs. AllLeave n cs) (λ w s polled cs f g. all_left w s polled cs g) (draw_anyway app) limits m v moves leads
    calls_leave limits m v [] leads h = tt
    calls_leave limits m v (move ∷ moves) leads h = (h.0, calls_leave limits leads.0 v moves leads.2 h.2)

    may_take : (inputs : List (Input K)) → FirstLeaves n inputs
        → MayTake app (λ w. CellIs w) (λ w. CellIs w) 0 leaving cell_frame (λ t. tt) cell_called (λ w s polled cs. AllLeave n cs) (λ w s polled cs f g. all_left w s polled cs g) (draw_anyway app) inputs
    may_take [] h = tt
    may_take (WriteOf c v ∷ more) h = h
    may_take (EventAt name payload element bubbles ∷ more) h = tt
    may_take (WakeOf t ∷ more) h = tt
    may_take (MarkOf s ∷ more) h = tt
    may_take (Drain messages ∷ more) h = tt

    entry_leaves : (inputs : List (Input K)) (e : Entry) → removed_in row.owner e ≡ false → TakenLeaves n inputs (Logged e)
        → Sparing app (λ w. CellIs w) (λ w. CellIs w) 0 leaving cell_frame (λ t. tt) cell_called (λ w s polled cs. AllLeave n cs) (λ w s polled cs f g. all_left w s polled cs g) (draw_anyway app) inputs e
    entry_leaves inputs (Removed s) q h = q
    entry_leaves inputs Build q h = tt
    entry_leaves inputs (Taken k) q h = may_take inputs h
    entry_leaves inputs (Heard s) q h = tt
    entry_leaves inputs (Rerun s) q h = tt
    entry_leaves inputs (Poll t) q h = tt
    entry_leaves inputs (Effects s) q h = tt
    entry_leaves inputs (Made s) q h = tt
    entry_leaves inputs (Fed s) q h = tt
    entry_leaves inputs (Kept s) q h = tt

    -- and so do the moves themselves
    moves_leave : (limits : Limits) (m v : Machine K) (moves : List Move) (leads : Leads app limits m moves v) → NoneRemoves row.owner (entries moves) → NoneWritesOn app limits n m v moves leads
        → AllSparing app (λ w. CellIs w) (λ w. CellIs w) 0 leaving cell_frame (λ t. tt) cell_called (λ w s polled cs. AllLeave n cs) (λ w s polled cs f g. all_left w s polled cs g) (draw_anyway app) limits m v moves leads
    moves_leave limits m v [] leads stays h = tt
    moves_leave limits m v (Silent ∷ moves) leads stays h = (λ q. q, moves_leave limits leads.0 v moves leads.2 stays h.2)
    moves_leave limits m v (Closed ∷ moves) leads stays h = moves_leave limits leads.0 v moves leads.2 stays h.2
    moves_leave limits m v (Logged e ∷ moves) leads stays h = (
      (entry_leaves m.inputs e stays.0 h.1, waking_anyway app (λ w. CellIs w) (λ w. CellIs w) 0 leaving cell_frame (λ t. tt) cell_called (λ w s polled cs. AllLeave n cs) (λ w s polled cs f g. all_left w s polled cs g) (draw_anyway app) (λ w c. tt) m e),
      λ q. q,
      moves_leave limits leads.0 v moves leads.2 stays.1 h.2,
    )

pub cells_stay : {K : Types} (app : Application K) → CellsStay app
cells_stay app w s polled cs n row none h = cell_stays n row app w s polled cs none h

pub cells_last : {K : Types} (app : Application K) → CellsLast app
cells_last {K = K} app limits m v moves n row leads stays none h =
    moves_on app (λ w. CellIs n row w) (λ w. CellIs n row w) 0 (leaving n row) (cell_frame n row app) (λ t. tt) (cell_called n row app) (λ w s polled cs. AllLeave n cs)
    (λ w s polled cs f g. all_left n row app w s polled cs g) (draw_anyway app)
    limits m v moves leads
    (calls_leave n row app limits m v moves leads none)
    (moves_leave n row app limits m v moves leads stays none)
    h

pub logged_cells_last : {K : Types} (app : Application K) → LoggedCellsLast app
logged_cells_last app limits m v log n row settled accepted stays h =
    let found = logs_are_moves app limits m v log settled accepted in
    let here : NoneRemoves row.owner (entries found.0) = subst (λ (es : List Entry). NoneRemoves row.owner es) (sym found.2) stays in
    (found.0, found.1, found.2, λ none. cells_last app limits m v found.0 n row found.1 here none h)
