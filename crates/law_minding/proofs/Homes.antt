-- The scope of a task that is there is live.
use Rattle.std.proofs.Common.{ℕ, Bool, true, false, List, [], ◌∷◌, ◌++◌, ◌≡◌, refl, sym, ap, ◌∙◌, subst, nat_eq}
use Rattle.std.specs.Prelude.{Option, Some, None, is_some, if◌then◌else◌}
use Rattle.std.proofs.lemmas.Bool.{eqb-true}
use Rattle.rt_model.specs.Lists.{at, put, without, drop_number}
use Rattle.rt_model.specs.Laws.{IsLawful}
use Rattle.rt_model.specs.Tree.{Types}
use Rattle.rt_model.specs.World.{Source, Error, CallFault, Command, Meaning, Nothing, Application}
use Rattle.rt_model.specs.State.{Woken, Scope, TaskRow, State, Item, Outcome, Done, Cut, is_live, changed_scope, hooks_of, world_of}
use Rattle.rt_model.specs.Commands.{drop_posted, holding, released, tell, end}
use Rattle.rt_model.specs.Run.{fault_of, with_next, called_once, unmarked}
use Rattle.rt_model.specs.Removal.{tasks_in, end_all, clean_ups, without_scope, gone, stopped, tell_all, cell_sources, cells_in, read_contexts, cleaned, removed}
use Rattle.rt_model.specs.Replay.{Entry, Build, Taken, Heard, Rerun, Poll, Effects, Made, Fed, Kept, Removed, Input, EventAt, WakeOf, WriteOf, MarkOf, Drain, Machine, ended_by, start}
use Rattle.rt_model.specs.Causes.{Limits}
use Rattle.rt_model.proofs.Maps.{by_test, none_some, at_put_here, at_put_other, at_without_here, at_without_other, at_append_here, at_append_none, eq_same}
use Rattle.rt_model.proofs.Tour.{AllFresh}
use Rattle.rt_model.proofs.TourCalls.{state_of}
use Rattle.law_moves.specs.Moves.{Move, Silent, Closed, Logged, Moves, Leads}
use Rattle.law_behavior.proofs.Readers.{tell_posts}
use Rattle.law_behavior.proofs.Frames.{Free, Permits, permits, Frame, Called}
use Rattle.law_behavior.proofs.Enduring.{Again, Enduring, finely, kept_so}
use Rattle.law_behavior.proofs.Commanded.{AllAllowed, commands_on}
use Rattle.law_behavior.proofs.Onwards.{MayTake, Sparing, waking_anyway, AllSparing, moves_on, good_anyway}
use Rattle.law_behavior.proofs.Steadfast.{from_zero, fresh_anyway, draw_anyway, all_allowed}
use Rattle.law_lasting.proofs.Told.{gone_same}
use Rattle.law_minding.specs.Homes.{HomesAreLive}
use Rattle.law_minding.proofs.Values.{at_longer, put_live, longer_live, without_live, released_live, mounted_live}
use Rattle.law_minding.proofs.Ending.{stopped_none, removal_leads}

-- nothing of a number is allowed
abbrev Never : ℕ → Type 0
Never n = ⊥

-- no scope may be removed
abbrev none_goes : {K : Types} → Permits K
none_goes = permits Free Free Free Never

module _ {K : Types} where
  tells_tasks : (xs : List Source) (w : State K) → (tell_all w xs).tasks ≡ w.tasks
  tells_tasks [] w = refl
  tells_tasks (x ∷ xs) w = tells_tasks xs (tell w x) ∙ ap (λ (v : State K). v.tasks) (tell_posts w x).alike

  pub gone_tasks : (w : State K) (s : ℕ) → (gone w s).tasks ≡ w.tasks
  gone_tasks w s =
      let v : State K = without_scope w s in
      let u : State K = tell_all v (cell_sources (cells_in s w.cells)) in
      tells_tasks (Error s ∷ read_contexts u s) u ∙ tells_tasks (cell_sources (cells_in s w.cells)) v

  pub change_tasks : (w : State K) (s : ℕ) (f : Scope K → Scope K) (o : Option (Scope K)) → (changed_scope w s f o).tasks ≡ w.tasks
  change_tasks w s f None = refl
  change_tasks w s f (Some x) = refl

  change_live : (w : State K) (s : ℕ) (f : Scope K → Scope K) (o : Option (Scope K)) (r : ℕ) → is_live w r ≡ true → is_live (changed_scope w s f o) r ≡ true
  change_live w s f None r h = h
  change_live w s f (Some x) r h = put_live w.scopes s (f x) r h

  end_live : (w : State K) (u r : ℕ) → is_live w r ≡ true → is_live (end w u) r ≡ true
  end_live w u r h = by (is_some (at w.tasks u))
    where
      v : State K
      v = record w { tasks = without w.tasks u; posted = drop_posted w.posted (Woken u) ++ holding w.scopes u; queued = drop_number w.queued u; scopes = released w.scopes u }

      by : (b : Bool) → is_live (if b then v else w) r ≡ true
      by true = released_live u w.scopes r h
      by false = h

  ended_live : (ts : List ℕ) (w : State K) (r : ℕ) → is_live w r ≡ true → is_live (end_all w ts) r ≡ true
  ended_live [] w r h = h
  ended_live (u ∷ ts) w r h = ended_live ts (end w u) r (end_live w u r h)

  -- the end of tasks leaves live scopes live
  stopped_live : (w : State K) (s r : ℕ) → is_live w r ≡ true → is_live (stopped w s) r ≡ true
  stopped_live w s r h =
      let v : State K = unmarked (end_all w (tasks_in s w.tasks)) s in
      change_live v s (λ y. record y { effects = [] }) (at v.scopes s) r (ended_live (tasks_in s w.tasks) w r h)

module _ {K : Types} (t : ℕ) where
  -- where the task is there, its scope is live
  abbrev Homed : State K → Type 0
  Homed w = (x : TaskRow K) → at w.tasks t ≡ Some x → is_live w x.scope ≡ true

  -- and it isn't this scope
  abbrev Away : ℕ → State K → Type 0
  Away s w = (x : TaskRow K) → at w.tasks t ≡ Some x → (nat_eq x.scope s ≡ false) × (is_live w x.scope ≡ true)

  spawned_homed : (w : State K) (u : ℕ) (x : TaskRow K) → is_live w x.scope ≡ true → Homed w → (y : TaskRow K) → at (w.tasks ++ (u, x) ∷ []) t ≡ Some y → is_live w y.scope ≡ true
  spawned_homed w u x live h y e = on (at w.tasks t) refl
    where
      on : (o : Option (TaskRow K)) → at w.tasks t ≡ o → is_live w y.scope ≡ true
      on (Some z) q =
          let found : Some z ≡ Some y = sym (at_longer w.tasks t u x z q) ∙ e in
          let same : z ≡ y = cc in
          subst (λ (r : TaskRow K). is_live w r.scope ≡ true) same (h z q)
      on None q =
          by_test (nat_eq u t)
          (
          λ r.
          let found : Some x ≡ Some y = sym (at_append_here w.tasks u x t r q) ∙ e in
          let same : x ≡ y = cc in
          subst (λ (z : TaskRow K). is_live w z.scope ≡ true) same live
          )
          (λ r. none_some (at_append_none w.tasks u x t r ∙ q) e)

  put_homed : (w : State K) (u : ℕ) (x y : TaskRow K) → at w.tasks u ≡ Some x → y.scope ≡ x.scope → Homed w → (z : TaskRow K) → at (put w.tasks u y) t ≡ Some z → is_live w z.scope ≡ true
  put_homed w u x y e same h z there =
      by_test (nat_eq u t)
      (
      λ q.
      let found : Some y ≡ Some z = sym (at_put_here w.tasks u y t q) ∙ there in
      let rows : y ≡ z = cc in
      let before : at w.tasks t ≡ Some x = ap (λ (n : ℕ). at w.tasks n) (sym (eqb-true u t q)) ∙ e in
      subst (λ (s : ℕ). is_live w s ≡ true) (sym same ∙ ap (λ (r : TaskRow K). r.scope) rows) (h x before)
      )
      (λ q. h z (sym (at_put_other w.tasks u y t q) ∙ there))

  ended_homed : (w : State K) (u : ℕ) → Homed w → (x : TaskRow K) → at (without w.tasks u) t ≡ Some x → is_some (at (released w.scopes u) x.scope) ≡ true
  ended_homed w u h x e =
      by_test (nat_eq u t)
      (λ q. none_some (at_without_here w.tasks u t q) e)
      (λ q. released_live u w.scopes x.scope (h x (sym (at_without_other w.tasks u t q) ∙ e)))

  endures : Enduring {K = K} (λ w. Homed w) 0 Free Free Free Never
  endures =
      record {
        low = λ w h. from_zero w.next.tasks;
        others =
            λ w v scopes tasks next h x e.
            ap (λ (es : List (ℕ × Scope K)). is_some (at es x.scope)) scopes ∙ h x (sym (ap (λ (es : List (ℕ × TaskRow K)). at es t) tasks) ∙ e);
        nexts = λ w next low h. h;
        rows = λ w s x y e same h z there. put_live w.scopes s y z.scope (h z there);
        hooks = λ w s x k e h z there. put_live w.scopes s (record x { hooks = x.hooks ++ k ∷ [] }) z.scope (h z there);
        joins = λ w s u origin x e h z there. put_live w.scopes s (record x { holders = x.holders ++ (u, origin) ∷ [] }) z.scope (h z there);
        throws = λ w s x f e empty h z there. put_live w.scopes s (record x { error = Some f }) z.scope (h z there);
        clears = λ w s x e may h z there. put_live w.scopes s (record x { error = None }) z.scope (h z there);
        feeds = λ w s c x e may h z there. put_live w.scopes s (record x { component = c }) z.scope (h z there);
        ends = λ w u may h. ended_homed w u h;
        spawns = λ w u x live low h. spawned_homed w u x live h;
        tasks = λ w u x y e same h. put_homed w u x y e same h;
        makes = λ w n x h z there. longer_live w.scopes n x z.scope (h z there);
        removes = λ w s never h. absurd never;
        mounts = λ w h z there. mounted_live w w.scopes z.scope (h z there);
      }

  again : Again {K = K} (λ w. Homed w)
  again = λ w s x y e same h z there. put_live w.scopes s y z.scope (h z there)

  module _ (app : Application K) where
    frame : Frame app (λ w. Homed w) (λ w. Homed w) 0 none_goes
    frame = finely (λ w. Homed w) 0 Free Free Free Never endures app

    called : Called app (λ w. Homed w) 0
    called = kept_so (λ w. Homed w) 0 Free Free Free Never endures app again

    freely : (w : State K) (s : ℕ) (polled : Option ℕ) (cs : List (Command K)) → AllFresh app 0 cs → Unit {0} → AllAllowed app (λ w. Homed w) (λ w. Homed w) 0 none_goes frame w s polled cs
    freely w s polled cs f g = all_allowed app (λ w. Homed w) (λ w. Homed w) 0 Free Never frame w s polled cs f

    may_take : (inputs : List (Input K))
        → MayTake app (λ w. Homed w) (λ w. Homed w) 0 none_goes frame (λ u. tt) called (λ w s polled cs. Unit {0}) (λ w s polled cs f g. freely w s polled cs f g) (draw_anyway app) inputs
    may_take [] = tt
    may_take (WriteOf c v ∷ more) = tt
    may_take (EventAt name payload element bubbles ∷ more) = tt
    may_take (WakeOf u ∷ more) = tt
    may_take (MarkOf s ∷ more) = tt
    may_take (Drain messages ∷ more) = tt

    -- what isn't a removal
    by_frame : (limits : Limits) (m u : Machine K) (move : Move) (step : Moves app limits m move u)
        → AllSparing app (λ w. Homed w) (λ w. Homed w) 0 none_goes frame (λ u. tt) called (λ w s polled cs. Unit {0}) (λ w s polled cs f g. freely w s polled cs f g) (draw_anyway app) limits m u (move ∷ []) (u, step, refl)
        → Homed m.state
        → Homed u.state
    by_frame limits m u move step spares h =
        moves_on app (λ w. Homed w) (λ w. Homed w) 0 none_goes frame (λ u. tt) called (λ w s polled cs. Unit {0}) (λ w s polled cs f g. freely w s polled cs f g) (draw_anyway app)
        limits m u (move ∷ []) (u, step, refl)
        (
        good_anyway app (λ w. Homed w) (λ w. Homed w) 0 none_goes frame (λ u. tt) called (λ w s polled cs. Unit {0}) (λ w s polled cs f g. freely w s polled cs f g) (draw_anyway app)
        (λ w s polled cs. tt) limits m u (move ∷ []) (u, step, refl)
        )
        spares h

    -- an entry that isn't
    by_entry : (limits : Limits) (m u : Machine K) (e : Entry) → Moves app limits m (Logged e) u
        → Sparing app (λ w. Homed w) (λ w. Homed w) 0 none_goes frame (λ u. tt) called (λ w s polled cs. Unit {0}) (λ w s polled cs f g. freely w s polled cs f g) (draw_anyway app) m.inputs e
        → Homed m.state
        → Homed u.state
    by_entry limits m u e step spares h =
        by_frame limits m u (Logged e) step (
          (
            spares,
            waking_anyway app (λ w. Homed w) (λ w. Homed w) 0 none_goes frame (λ u. tt) called (λ w s polled cs. Unit {0}) (λ w s polled cs f g. freely w s polled cs f g) (draw_anyway app) (λ w c. tt) m e,
          ),
          λ g. g,
          tt,
        )
        h

    -- when its tasks have ended, none is of the scope
    stopped_away : (w : State K) (s : ℕ) → Homed w → Away s (stopped w s)
    stopped_away w s h x e = (by_test (nat_eq x.scope s) (λ p. none_some (stopped_none t w s x there p) e) (λ p. p), stopped_live w s x.scope (h x there))
      where
        v : State K
        v = unmarked (end_all w (tasks_in s w.tasks)) s

        was : at (end_all w (tasks_in s w.tasks)).tasks t ≡ Some x
        was = sym (ap (λ (es : List (ℕ × TaskRow K)). at es t) (change_tasks v s (λ y. record y { effects = [] }) (at v.scopes s))) ∙ e

        still : (ts : List ℕ) (z : State K) → at (end_all z ts).tasks t ≡ Some x → at z.tasks t ≡ Some x
        still [] z q = q
        still (u ∷ ts) z q = one (is_some (at z.tasks u)) (still ts (end z u) q)
          where
            less : State K
            less = record z { tasks = without z.tasks u; posted = drop_posted z.posted (Woken u) ++ holding z.scopes u; queued = drop_number z.queued u; scopes = released z.scopes u }

            one : (b : Bool) → at (if b then less else z).tasks t ≡ Some x → at z.tasks t ≡ Some x
            one true r =
                by_test (nat_eq u t)
                (λ p. none_some (at_without_here z.tasks u t p) r)
                (λ p. sym (at_without_other z.tasks u t p) ∙ r)
            one false r = r

        there : at w.tasks t ≡ Some x
        there = still (tasks_in s w.tasks) w was

    gone_homed : (w : State K) (s : ℕ) → Away s w → Homed (gone w s)
    gone_homed w s away x e =
        let there : at w.tasks t ≡ Some x = sym (ap (λ (es : List (ℕ × TaskRow K)). at es t) (gone_tasks w s)) ∙ e in
        let home = away x there in
        ap (λ (es : List (ℕ × Scope K)). is_some (at es x.scope)) (gone_same w s).scopes ∙ without_live w.scopes s x.scope (turned x.scope s home.0) home.1
      where
        turned : (a b : ℕ) → nat_eq a b ≡ false → nat_eq b a ≡ false
        turned a b q =
            by_test (nat_eq b a)
            (λ p. let same : b ≡ a = eqb-true b a p in let absurdity : true ≡ false = sym (eq_same a) ∙ subst (λ (n : ℕ). nat_eq a n ≡ false) same q in cc)
            (λ p. p)

    module _ (lawful : IsLawful K app) where
      cleaned_homed : (s : ℕ) (es : List K.Effect) (w : State K) (waiting_for : List (Command K)) → Away s w → Homed (state_of (cleaned app s es w waiting_for))
      cleaned_homed s [] w waiting_for away =
          commands_on app (λ w. Homed w) (λ w. Homed w) 0 none_goes frame (gone w s) s None waiting_for (freely (gone w s) s None waiting_for (fresh_anyway app waiting_for) tt)
          (gone_homed w s away)
      cleaned_homed s (e ∷ es) w waiting_for away = by m.fault (λ v cs h. cleaned_homed s es v cs h)
        where
          m : Meaning K Nothing
          m = app.effect e (world_of w s None true)

          by : (o : Option CallFault)
              → ((v : State K) (cs : List (Command K)) → Away s v → Homed (state_of (cleaned app s es v cs)))
              → Homed (state_of (elim o as (λ z. Outcome K) [
                | None ↦ cleaned app s es (with_next (called_once w) m.next) (waiting_for ++ m.commands)
                | Some f ↦ Cut (with_next (called_once w) m.next) (fault_of f)
              ]))
          by None go = go (with_next (called_once w) m.next) (waiting_for ++ m.commands) away
          by (Some f) go = λ x there. (away x there).1

      ended_as : (m : Machine K) (item : Option (Item K)) (rest : List (Item K)) (o : Outcome K) → Homed (state_of o) → Homed (ended_by m item rest o).state
      ended_as m item rest (Done v work) h = h
      ended_as m item rest (Cut v fault) h = h

      removal_keeps : (limits : Limits) (m u : Machine K) (s : ℕ) → Moves app limits m (Logged (Removed s)) u → Homed m.state → Homed u.state
      removal_keeps limits m u s step h =
          let v : State K = stopped m.state s in
          removal_leads t app lawful (λ (z : Machine K). Homed z.state) s m
          (λ item rest. ended_as m item rest (removed app m.state s) (cleaned_homed s (clean_ups (hooks_of v s) []) v [] (stopped_away m.state s h)))
          limits u step

      entry_keeps : (limits : Limits) (m u : Machine K) (e : Entry) → Moves app limits m (Logged e) u → Homed m.state → Homed u.state
      entry_keeps limits m u (Removed s) step h = removal_keeps limits m u s step h
      entry_keeps limits m u Build step h = by_entry limits m u Build step tt h
      entry_keeps limits m u (Taken k) step h = by_entry limits m u (Taken k) step (may_take m.inputs) h
      entry_keeps limits m u (Heard s) step h = by_entry limits m u (Heard s) step tt h
      entry_keeps limits m u (Rerun s) step h = by_entry limits m u (Rerun s) step tt h
      entry_keeps limits m u (Poll n) step h = by_entry limits m u (Poll n) step tt h
      entry_keeps limits m u (Effects s) step h = by_entry limits m u (Effects s) step tt h
      entry_keeps limits m u (Made s) step h = by_entry limits m u (Made s) step tt h
      entry_keeps limits m u (Fed s) step h = by_entry limits m u (Fed s) step tt h
      entry_keeps limits m u (Kept s) step h = by_entry limits m u (Kept s) step tt h

      move_keeps : (limits : Limits) (m u : Machine K) (move : Move) → Moves app limits m move u → Homed m.state → Homed u.state
      move_keeps limits m u Silent step h = by_frame limits m u Silent step (λ g. g, tt) h
      move_keeps limits m u Closed step h = by_frame limits m u Closed step tt h
      move_keeps limits m u (Logged e) step h = entry_keeps limits m u e step h

      moves_keep : (limits : Limits) (m v : Machine K) (moves : List Move) → Leads app limits m moves v → Homed m.state → Homed v.state
      moves_keep limits m v [] leads h = subst (λ (x : Machine K). Homed x.state) (sym leads) h
      moves_keep limits m v (move ∷ moves) leads h = moves_keep limits leads.0 v moves leads.2 (move_keeps limits m leads.0 move leads.1 h)

pub homes_are_live : {K : Types} (app : Application K) → HomesAreLive app
homes_are_live app lawful limits props inputs m moves leads t task there =
    moves_keep t app lawful limits (start app props inputs) m moves leads (λ x none. none_some refl none) task there
