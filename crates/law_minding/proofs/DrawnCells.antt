-- A cell that is there has a number that was drawn.
use Rattle.std.proofs.Common.{ℕ, ◌+◌, ◌≤◌, true, false, not, List, [], ◌∷◌, ◌++◌, ◌≡◌, refl, sym, ap, ◌∙◌, subst, nat_eq, arith}
use Rattle.std.specs.Prelude.{Option, Some, None, is_some, nat_lt}
use Rattle.std.specs.List.{AllByRecursion}
use Rattle.std.proofs.lemmas.Bool.{eqb-true}
use Rattle.rt_lemmas.proofs.Numbers.{least}
use Rattle.rt_model.specs.Lists.{at, put, without}
use Rattle.rt_model.specs.Laws.{IsLawful}
use Rattle.rt_model.specs.Tree.{Types}
use Rattle.rt_model.specs.World.{Cell, Error, Command, NewCell, Write, DropCell, NewContext, Reset, ReadInto, Spawn, RemoveFuture, ClearErrors, World, Application}
use Rattle.rt_model.specs.State.{Mark, Woken, CellRow, State, error_context, world_of}
use Rattle.rt_model.specs.Commands.{post, tell, activated, provided_at, command}
use Rattle.rt_model.specs.Next.{look}
use Rattle.rt_model.specs.Run.{called_where, is_own, kept_call, body_of}
use Rattle.rt_model.specs.Removal.{without_scope, gone}
use Rattle.rt_model.specs.Replay.{Entry, Build, Taken, Heard, Rerun, Poll, Effects, Made, Fed, Kept, Removed, Input, EventAt, WakeOf, WriteOf, MarkOf, Drain, Machine, numbered, start}
use Rattle.rt_model.specs.Causes.{Limits}
use Rattle.rt_model.proofs.Maps.{by_test, at_append_none, at_put_none, at_without_none}
use Rattle.rt_model.proofs.Members.{clash}
use Rattle.rt_model.proofs.Tour.{AllFresh}
use Rattle.law_moves.specs.Moves.{Move, Silent, Closed, Logged, Moves, Leads}
use Rattle.law_behavior.specs.Deeds.{Deed, move_deeds}
use Rattle.law_behavior.proofs.Readers.{post_posts}
use Rattle.law_behavior.proofs.Frames.{Free, Permits, Frame, Called}
use Rattle.law_behavior.proofs.Commanded.{MayClear, Allowed, caused_anyway, AllAllowed}
use Rattle.law_behavior.proofs.Onwards.{MayTake, Sparing, waking_anyway, AllSparing, moves_on}
use Rattle.law_behavior.proofs.Steadfast.{from_zero, draw_anyway}
use Rattle.law_lasting.proofs.Told.{posts_same, tell_same, look_same, activated_same, gone_same}
use Rattle.law_lasting.proofs.Celled.{bodies_same, provided_same, numbered_same}
use Rattle.law_minding.specs.Numbering.{CellsAreDrawn}
use Rattle.law_minding.proofs.Counting.{LowCell, cells_count}
use Rattle.law_minding.proofs.Below.{move_under}
use Rattle.law_minding.proofs.Numbers.{move_rises}
use Rattle.law_minding.proofs.Opened.{kept_none}
use Rattle.law_minding.proofs.Coming.{tested_low, not_low}

-- another cell may be made
abbrev making : {K : Types} → ℕ → Permits K
making n =
    record {
      clearable = Free;
      makeable = λ c. nat_eq c n ≡ false;
      writable = Free;
      droppable = Free;
      openable = Free;
      readable = Free;
      pollable = Free;
      endable = Free;
      spawnable = λ w t s a. Unit {0};
      feedable = Free;
      removable = Free;
      causable = λ w c. Unit {0};
    }

module _ {K : Types} (n : ℕ) where
  -- the cell isn't there
  abbrev Is : State K → Type 0
  Is w = at w.cells n ≡ None

  by_cells : (w v : State K) → v.cells ≡ w.cells → Is w → Is v
  by_cells w v same h = ap (λ (es : List (ℕ × CellRow K)). at es n) same ∙ h

  -- a command makes another one
  abbrev MakesOther : Command K → Type 0
  MakesOther (NewCell c v) = nat_eq c n ≡ false
  MakesOther _ = Unit {0}

  abbrev AllOther : List (Command K) → Type 0
  AllOther cs = AllByRecursion (λ (c : Command K). MakesOther c) cs

  module _ (app : Application K) where
    frame : Frame app (λ w. Is w) (λ w. Is w) 0 (making n)
    frame =
        record {
          low = λ w h. from_zero w.next.tasks;
          leaves = λ w h. h;
          marks = λ w s h. by_cells w (post w (Mark s)) (posts_same w (post w (Mark s)) (post_posts w (Mark s))).cells h;
          wakes = λ w t a h. by_cells w (post w (Woken t)) (posts_same w (post w (Woken t)) (post_posts w (Woken t))).cells h;
          tells = λ w i a h. by_cells w (tell w i) (tell_same w i).cells h;
          looks = λ w h. by_cells w (look w) (look_same w).cells h;
          pauses = λ w t e h. h;
          unqueues = λ w t a h. h;
          unmarks = λ w s h. h;
          asides = λ w v e h. by_cells w v (ap (λ (x : State K). x.cells) e) h;
          nexts = λ w next drawn h. h;
          writes =
              λ w c v old e a told h.
              let u : State K = record w { cells = put w.cells c (record old { value = v }) } in
              by_cells u (tell u (Cell c)) (tell_same u (Cell c)).cells (at_put_none w.cells c (record old { value = v }) old n e h);
          drops =
              λ w c a told h.
              let u : State K = record w { cells = without w.cells c } in by_cells u (tell u (Cell c)) (tell_same u (Cell c)).cells (at_without_none w.cells c n h);
          new_cells = λ w s c v other h. at_append_none w.cells c (record { owner = s; value = v }) n other ∙ h;
          new_contexts = λ w c x a h. h;
          sources = λ w c x y e a h. h;
          rows = λ w s x y e same h. h;
          hooks = λ w s x k e h. h;
          joins = λ w b t origin x e h. h;
          throws =
              λ w b x e live none told h.
              let u : State K = record w { scopes = put w.scopes b (record x { error = Some e }) } in by_cells u (tell u (Error b)) (tell_same u (Error b)).cells h;
          clears =
              λ w b x live a told h.
              let u : State K = record w { scopes = put w.scopes b (record x { error = None }) } in by_cells u (tell u (Error b)) (tell_same u (Error b)).cells h;
          provides = λ w s k v x e told h. by_cells w (provided_at app w s k v (at x.contexts k)) (provided_same app w s k v (at x.contexts k)) h;
          feeds = λ w t c x e a h. h;
          patches = λ w s side tree x e h. h;
          draws = λ w s side p k h. by_cells w (numbered w s side p k) (numbered_same w s side p k) h;
          empties = λ w b x e h. h;
          makes = λ w s side p c x e h. h;
          goes =
              λ w s free told h.
              by_cells (without_scope w s) (gone w s) (gone_same w s).cells (kept_none (λ (e : ℕ × CellRow K). not (nat_eq (e.1).owner s)) n w.cells h);
          mounts = λ w h. h;
          ends = λ w t a h. h;
          spawns =
              λ w t x live low free h.
              let v : State K = record w { tasks = w.tasks ++ (t, x) ∷ [] } in by_cells v (post v (Woken t)) (posts_same v (post v (Woken t)) (post_posts v (Woken t))).cells h;
          goes_on = λ w t x a e may h. h;
          suspends = λ w t x e h. h;
          activates = λ w t active x e told h. by_cells w (activated w t active (Some x)) (activated_same w t active x).cells h;
        }

    called : Called app (λ w. Is w) 0
    called =
        record {
          bodies =
              λ w s c drawn h.
              let world : World K = world_of w s None true in
              by_cells w (kept_call (called_where (is_own c world) w) s world (body_of app c world)) (bodies_same w s (is_own c world) world (body_of app c world)) h;
          turns = λ w b x e h. h;
          turns_nowhere = λ w b e h. h;
        }

    may_clear : (o : Option ℕ) → MayClear app (λ w. Is w) (λ w. Is w) 0 (making n) frame o
    may_clear None = tt
    may_clear (Some b) = tt

    allowed : (w : State K) (s : ℕ) (c : Command K) → MakesOther c → Allowed app (λ w. Is w) (λ w. Is w) 0 (making n) frame w s c
    allowed w s (NewCell c v) h = h
    allowed w s (Spawn t a forever isomorphic) h = (from_zero t, tt)
    allowed w s ClearErrors h = may_clear (error_context w s)
    allowed w s (NewContext c target) h = tt
    allowed w s (RemoveFuture t) h = tt
    allowed w s (Write c v) h = tt
    allowed w s (DropCell c) h = tt
    allowed w s (Reset c) h = tt
    allowed w s (ReadInto c source) h = tt
    allowed w s c h = tt

    all_allowed : (w : State K) (s : ℕ) (polled : Option ℕ) (cs : List (Command K)) → AllFresh app 0 cs → AllOther cs → AllAllowed app (λ w. Is w) (λ w. Is w) 0 (making n) frame w s polled cs
    all_allowed w s polled [] f h = tt
    all_allowed w s polled (c ∷ cs) f h = (
      (allowed w s c h.0, caused_anyway app (λ w. Is w) (λ w. Is w) 0 (making n) frame (λ v d. tt) w s c),
      all_allowed (command app w s polled c) s polled cs f.1 h.1,
    )

    may_take : (inputs : List (Input K))
        → MayTake app (λ w. Is w) (λ w. Is w) 0 (making n) frame (λ t. tt) called (λ w s polled cs. AllOther cs) (λ w s polled cs f g. all_allowed w s polled cs f g) (draw_anyway app) inputs
    may_take [] = tt
    may_take (WriteOf c v ∷ more) = tt
    may_take (EventAt name payload element bubbles ∷ more) = tt
    may_take (WakeOf t ∷ more) = tt
    may_take (MarkOf s ∷ more) = tt
    may_take (Drain messages ∷ more) = tt

    entry_spares : (inputs : List (Input K)) (e : Entry)
        → Sparing app (λ w. Is w) (λ w. Is w) 0 (making n) frame (λ t. tt) called (λ w s polled cs. AllOther cs) (λ w s polled cs f g. all_allowed w s polled cs f g) (draw_anyway app) inputs e
    entry_spares inputs Build = tt
    entry_spares inputs (Taken k) = may_take inputs
    entry_spares inputs (Heard s) = tt
    entry_spares inputs (Rerun s) = tt
    entry_spares inputs (Poll t) = tt
    entry_spares inputs (Effects s) = tt
    entry_spares inputs (Made s) = tt
    entry_spares inputs (Fed s) = tt
    entry_spares inputs (Kept s) = tt
    entry_spares inputs (Removed s) = tt

    move_spares : (limits : Limits) (m u : Machine K) (move : Move) (step : Moves app limits m move u)
        → AllSparing app (λ w. Is w) (λ w. Is w) 0 (making n) frame (λ t. tt) called (λ w s polled cs. AllOther cs) (λ w s polled cs f g. all_allowed w s polled cs f g) (draw_anyway app) limits m u (move ∷ []) (u, step, refl)
    move_spares limits m u Silent step = (λ g. g, tt)
    move_spares limits m u Closed step = tt
    move_spares limits m u (Logged e) step = (
      (
        entry_spares m.inputs e,
        waking_anyway app (λ w. Is w) (λ w. Is w) 0 (making n) frame (λ t. tt) called (λ w s polled cs. AllOther cs) (λ w s polled cs f g. all_allowed w s polled cs f g) (draw_anyway app) (λ w c. tt) m e,
      ),
      λ g. g,
      tt,
    )

    move_is : (limits : Limits) (m u : Machine K) (move : Move) → Moves app limits m move u → AllByRecursion (λ (d : Deed K). AllOther d.wants) (move_deeds app m move) → Is m.state → Is u.state
    move_is limits m u move step deeds h =
        moves_on app (λ w. Is w) (λ w. Is w) 0 (making n) frame (λ t. tt) called (λ w s polled cs. AllOther cs) (λ w s polled cs f g. all_allowed w s polled cs f g) (draw_anyway app)
        limits m u (move ∷ []) (u, step, refl) (deeds, tt) (move_spares limits m u move step) h

    module _ (bound : ℕ) (high : bound ≤ n) where
      -- what has a number below a bound is another cell
      other : (c : Command K) → LowCell {K = K} bound c → MakesOther c
      other (NewCell c v) h =
          by_test (nat_eq c n)
          (λ q. let e : c ≡ n = eqb-true c n q in absurd (omega (arith, e, h, high)))
          (λ q. q)
      other c h = tt

      all_other : (cs : List (Command K)) → AllByRecursion (λ (c : Command K). LowCell {K = K} bound c) cs → AllOther cs
      all_other [] h = tt
      all_other (c ∷ cs) h = (other c h.0, all_other cs h.1)

      deeds_other : (ds : List (Deed K)) → AllByRecursion (λ (d : Deed K). AllByRecursion (λ (c : Command K). LowCell {K = K} bound c) d.wants) ds
          → AllByRecursion (λ (d : Deed K). AllOther d.wants) ds
      deeds_other [] h = tt
      deeds_other (d ∷ ds) h = (all_other d.wants h.0, deeds_other ds h.1)

    module _ (lawful : IsLawful K app) (limits : Limits) where
      all_rise : (m v : Machine K) (moves : List Move) → Leads app limits m moves v → m.state.next.cells ≤ v.state.next.cells
      all_rise m v [] leads =
          let same : v.state.next.cells ≡ m.state.next.cells = ap (λ (x : Machine K). x.state.next.cells) leads in
          omega (arith, same)
      all_rise m v (move ∷ moves) leads =
          let first : m.state.next.cells ≤ (leads.0).state.next.cells = (move_rises app lawful limits m leads.0 move leads.1).cells in
          let more : (leads.0).state.next.cells ≤ v.state.next.cells = all_rise leads.0 v moves leads.2 in
          omega (arith, first, more)

      -- no move makes a cell of a number that isn't drawn behind them
      stays_away : (m v : Machine K) (moves : List Move) → Leads app limits m moves v → v.state.next.cells ≤ n → Is m.state → Is v.state
      stays_away m v [] leads low h = subst (λ (x : Machine K). Is x.state) (sym leads) h
      stays_away m v (move ∷ moves) leads low h =
          let more : (leads.0).state.next.cells ≤ v.state.next.cells = all_rise leads.0 v moves leads.2 in
          let under : (leads.0).state.next.cells ≤ n = omega (arith, more, low) in
          let away : Is (leads.0).state =
          move_is limits m leads.0 move leads.1
          (deeds_other (leads.0).state.next.cells under (move_deeds app m move)
          (move_under cells_count (leads.0).state.next.cells app lawful limits m leads.0 move leads.1 (least (leads.0).state.next.cells)))
          h in
          stays_away leads.0 v moves leads.2 low away

pub cells_are_drawn : {K : Types} (app : Application K) → CellsAreDrawn app
cells_are_drawn {K = K} app lawful limits props inputs m moves n leads there =
    by_test (nat_lt n m.state.next.cells)
    (λ q. tested_low n m.state.next.cells q)
    (λ q. clash there (ap (λ (o : Option (CellRow K)). is_some o) (stays_away n app lawful limits (start app props inputs) m moves leads (not_low n m.state.next.cells q) refl)))
