-- In an application of pages only listeners write cells, so all others leave them.
use Rattle.std.proofs.Common.{ℕ, Bool, true, false, List, [], ◌∷◌, ◌++◌, ◌≡◌, refl, sym, subst, nat_eq, nat_le, nat_lt}
use Rattle.std.specs.Prelude.{Option, Some, None, if◌then◌else◌, length}
use Rattle.std.specs.List.{AllByRecursion}
use Rattle.rt_model.specs.Lists.{at, nth}
use Rattle.rt_model.specs.Program as program
use Rattle.rt_model.specs.Program.{Program, done, current_scope, read, new_cell, hook_is_new, use_hook, Call, begun, exec, noted, noted_at, faults, past_hook, drew_cell, hooked, kind_of, hook_value, value_in}
use Rattle.rt_model.specs.Tree.{Types, CapturedError, VComponent, Own, Root, Fragment, ErrorBoundary, SuspenseBoundary, Element, rendered, failed, suspended}
use Rattle.rt_model.specs.World.{Source, Cell, at_end, before_render_kind, after_render_kind, CallFault, CounterAtEnd, OtherHook, Cells, Hook, HookValue, HookEffect, Command, NewCell, KeepHook, World, Meaning, Application}
use Rattle.rt_model.specs.State.{RowStep, PatchChildren, MadeChildren, RunFallback, ShowFallback, ShowChildren, DropFallback, Resolve, Scope, TaskRow, State, Item, Draw, Row, Feed, Make, Drop, Outcome, Done, Cut, is_live, change, is_held, hooks_of, effects_of, world_of}
use Rattle.rt_model.specs.Commands.{unqueued, commands}
use Rattle.rt_model.specs.Next.{at_rest}
use Rattle.rt_model.specs.Run.{with_next, called_once, called_where, is_own, answer_fits, kept_call, is_kind, unmarked, row_of, runs_fallback, body_of, caught, acted, hook_called, hooks_called, settled_answer}
use Rattle.rt_model.specs.Boundary.{counts_render, counted_render}
use Rattle.rt_model.specs.Removal.{clean_ups, stopped}
use Rattle.rt_model.specs.Replay.{Entry, Build, Taken, Heard, Rerun, Poll, Effects, Made, Fed, Kept, Removed, Machine, fed_child, keeps, with_new_scope, with_props, poll_meant}
use Rattle.rt_model.specs.Causes.{Limits}
use Rattle.law_moves.specs.Moves.{Move, Silent, Closed, Logged, Leads}
use Rattle.law_lasting.specs.CellsLast.{LeavesCell, AllLeave, NoneWritesOn}
use Rattle.law_behavior.specs.Deeds.{Deed, deeds_on, deed_of, poll_finds, effect_deeds, hook_deeds, hooks_deeds, after_deeds, body_deeds, failed_deeds, answer_deeds, run_as_deeds, run_deeds, callback_deeds, row_deeds, clean_deeds, batch_deeds, poll_deeds, item_deeds, work_deeds, entry_deeds, move_deeds}
use Rattle.law_lasting.proofs.Celled.{cells_last}
use Rattle.author_programs.specs.Cells.{Keeping, own_cell, made_cell, first_or_kept, all_read}
use Rattle.author_programs.specs.Pages.{Page, Pages, own_cells, one_more, and_more, shown, page_body, meaning_of_pages}
use Rattle.author_programs.specs.Sequence.{go_on}
use Rattle.law_pages.specs.Keeps.{IsNoCall, QuietFor, PagesKeepCells}

module _ {K : Types} (n : ℕ) where
  spare_more : (cs : List (Command K)) (c : Command K) → AllLeave n cs → LeavesCell n c → AllLeave n (cs ++ c ∷ [])
  spare_more [] c h g = (g, tt)
  spare_more (d ∷ cs) c h g = (h.0, spare_more cs c h.1 g)

  spare_both : (cs ds : List (Command K)) → AllLeave n cs → AllLeave n ds → AllLeave n (cs ++ ds)
  spare_both [] ds h g = g
  spare_both (c ∷ cs) ds h g = (h.0, spare_both cs ds h.1 g)

  -- a program that only looks, makes cells and keeps hooks
  abbrev OnlyKeeps : {A : Type 0} → Program K A → Type 0
  OnlyKeeps (done a) = Unit {0}
  OnlyKeeps (current_scope f) = (s : ℕ) → OnlyKeeps (f s)
  OnlyKeeps (read c f) = (v : Option K.Value) → OnlyKeeps (f v)
  OnlyKeeps (new_cell v f) = (o : Option ℕ) → OnlyKeeps (f o)
  OnlyKeeps (hook_is_new f) = (b : Bool) → OnlyKeeps (f b)
  OnlyKeeps (use_hook k v f) = (o : Option K.Value) → OnlyKeeps (f o)
  OnlyKeeps _ = ⊥

  -- a body that has asked for nothing that writes
  abbrev Spares : Call K → Type 0
  Spares c = AllLeave n c.commands × (c.into ≡ []) × (c.in_body ≡ true)

  noted_in : (c : Call K) (x : Source) → Spares c → Spares (noted c x)
  noted_in c x h =
      let is : noted c x ≡ record c { reads = x ∷ c.reads } = λ i. noted_at c x (h.1 i) (h.2 i) in
      subst (λ (d : Call K). Spares d) (sym is) (h.0, h.1, h.2)

  hook_in : (w : World K) (c : Call K) (k : ℕ) (new : Hook K) (o : Option (Hook K)) → Spares c → Spares (hooked w c k new o)
  hook_in w c k new None h = (spare_more c.commands (KeepHook new) h.0 tt, h.1, h.2)
  hook_in w c k new (Some old) h = on (nat_eq (kind_of old) k)
    where
      on : (b : Bool) → Spares (if b then past_hook c else past_hook (faults c (OtherHook w.given.scope c.index (kind_of old) k)))
      on true = h
      on false = h

  of_two : {A : Type 0} (b : Bool) (x y : Meaning K A) → AllLeave n x.commands → AllLeave n y.commands → AllLeave n (if b then x else y).commands
  of_two true x y h g = h
  of_two false x y h g = g

  exec_spares : {A : Type 0} (w : World K) (p : Program K A) (c : Call K) → OnlyKeeps p → Spares c → AllLeave n (exec w p c).commands
  exec_spares w (done a) c h g = g.0
  exec_spares w (current_scope f) c h g = exec_spares w (f w.given.scope) c (h w.given.scope) g
  exec_spares w (read m f) c h g =
      of_two (nat_lt m c.next.cells) (exec w (f (value_in w (at c.cells m) m)) (noted c (Cell m))) (exec w (f None) c)
      (exec_spares w (f (value_in w (at c.cells m) m)) (noted c (Cell m)) (h (value_in w (at c.cells m) m)) (noted_in c (Cell m) g))
      (exec_spares w (f None) c (h None) g)
  exec_spares w (new_cell v f) c h g =
      of_two (at_end c.next.cells) (exec w (f None) (faults c (CounterAtEnd Cells))) (exec w (f (Some c.next.cells)) (drew_cell c v))
      (exec_spares w (f None) (faults c (CounterAtEnd Cells)) (h None) g)
      (exec_spares w (f (Some c.next.cells)) (drew_cell c v) (h (Some c.next.cells)) (spare_more c.commands (NewCell c.next.cells v) g.0 tt, g.1, g.2))
  exec_spares w (hook_is_new f) c h g = exec_spares w (f (nat_le (length w.given.hooks) c.index)) c (h (nat_le (length w.given.hooks) c.index)) g
  exec_spares w (use_hook k v f) c h g =
      let o : Option (Hook K) = nth w.given.hooks c.index in
      exec_spares w (f (hook_value k v o)) (hooked w c k (HookValue k v) o) (h (hook_value k v o)) (hook_in w c k (HookValue k v) o g)
  exec_spares w p c h g = absurd h

  keeps_on : {A B : Type 0} (p : Program K A) (f : A → Program K B) → OnlyKeeps p → ((a : A) → OnlyKeeps (f a)) → OnlyKeeps (go_on p f)
  unfolding go_on
  keeps_on (done a) f h g = g a
  keeps_on (current_scope q) f h g = λ s. keeps_on (q s) f (h s) g
  keeps_on (read m q) f h g = λ v. keeps_on (q v) f (h v) g
  keeps_on (new_cell v q) f h g = λ o. keeps_on (q o) f (h o) g
  keeps_on (hook_is_new q) f h g = λ b. keeps_on (q b) f (h b) g
  keeps_on (use_hook k v q) f h g = λ o. keeps_on (q o) f (h o) g
  keeps_on p f h g = absurd h

  more_kept : (others : Program K (Option (List ℕ))) → OnlyKeeps others → (o : Option ℕ) → OnlyKeeps (and_more others o)
  more_kept others h None = tt
  more_kept others h (Some m) = keeps_on others (λ o. done (one_more m o)) h (λ o. tt)

  page_kept : (k : Keeping K.Value) (page : Page K) → OnlyKeeps (page_body k page)
  page_kept k page = keeps_on (own_cells k page.cells) (λ own. shown page own) (cells_kept page.cells) shows
    where
      made : (o : Option ℕ) → OnlyKeeps (made_cell {K = K} k o)
      made None = tt
      made (Some m) = λ o. tt

      cell_kept : (v : K.Value) (b : Bool) → OnlyKeeps (first_or_kept {K = K} k v b)
      cell_kept v true = λ o. made o
      cell_kept v false = λ o. tt

      cells_kept : (vs : List K.Value) → OnlyKeeps (own_cells {K = K} k vs)
      cells_kept [] = tt
      cells_kept (v ∷ vs) = keeps_on (own_cell k v) (λ o. and_more (own_cells k vs) o) (λ b. cell_kept v b) (λ o. more_kept (own_cells k vs) (cells_kept vs) o)

      reads_kept : (ns : List ℕ) → OnlyKeeps (all_read {K = K} ns)
      reads_kept [] = tt
      reads_kept (m ∷ ns) = λ v. keeps_on (all_read ns) (λ vs. done (v ∷ vs)) (reads_kept ns) (λ vs. tt)

      shows : (o : Option (List ℕ)) → OnlyKeeps (shown page o)
      shows None = tt
      shows (Some own) = keeps_on (all_read (page.reads own)) (λ vs. current_scope (λ s. done (rendered (page.shows s own vs)))) (reads_kept (page.reads own)) (λ vs s. tt)

  -- the calls of an application, but for its listeners, write and drop another cell, or none
  record CallsSpare (app : Application K) : Type 0 where
    bodies : (c : K.Component) (p : K.Props) (w : World K) → AllLeave n (app.body c p w).commands
    polls : (a : K.TaskState) (w : World K) → AllLeave n (app.poll a w).commands
    effects : (e : K.Effect) (w : World K) → AllLeave n (app.effect e w).commands

  pages_spare : (k : Keeping K.Value) (a : Pages K) → CallsSpare (meaning_of_pages k a)
  pages_spare k a =
      record {
        bodies = λ c p w. exec_spares w (page_body k (a.page c p)) (begun true w.given.next) (page_kept k (a.page c p)) (tt, refl, refl);
        polls = λ s w. tt;
        effects = λ e w. tt;
      }

  module _ (app : Application K) (spares : CallsSpare app) where
    abbrev Spared : List (Deed K) → Type 0
    Spared ds = AllByRecursion (λ (d : Deed K). AllLeave n d.wants) ds

    both : (ds es : List (Deed K)) → Spared ds → Spared es → Spared (ds ++ es)
    both [] es h g = g
    both (d ∷ ds) es h g = (h.0, both ds es h.1 g)

    then_spared : (o : Outcome K) (ds : State K → List (Deed K)) → ((v : State K) → Spared (ds v)) → Spared (deeds_on o ds)
    then_spared (Done v work) ds h = h v
    then_spared (Cut v fault) ds h = tt

    where_spared : (b : Bool) (ds es : List (Deed K)) → Spared ds → Spared es → Spared (if b then ds else es)
    where_spared true ds es h g = h
    where_spared false ds es h g = g

    one_at : {A : Type 0} (w : State K) (s : ℕ) (polled : Option ℕ) (m : Meaning K A) (o : Option CallFault) → AllLeave n m.commands
        → Spared (elim o as (λ z. List (Deed K)) [ None ↦ record { state = w; scope = s; polled = polled; wants = m.commands } ∷ [] | Some f ↦ [] ])
    one_at w s polled m None h = (h, tt)
    one_at w s polled m (Some f) h = tt

    one_spared : {A : Type 0} (w : State K) (s : ℕ) (polled : Option ℕ) (m : Meaning K A) → AllLeave n m.commands → Spared (deed_of w s polled m)
    one_spared w s polled m h = one_at w s polled m m.fault h

    effect_spared : (w : State K) (s : ℕ) (e : K.Effect) (rendering : Bool) → Spared (effect_deeds app w s e rendering)
    effect_spared w s e rendering =
        let m = app.effect e (world_of w s None rendering) in one_spared (with_next (called_once w) m.next) s None m (spares.effects e (world_of w s None rendering))

    hook_spared : (w : State K) (s : ℕ) (h : Hook K) → Spared (hook_deeds app w s h)
    hook_spared w s (HookValue k v) = tt
    hook_spared w s (HookEffect k e) = effect_spared w s e true

    hooks_spared : (kind : ℕ) (s : ℕ) (hs : List (Hook K)) (w : State K) → Spared (hooks_deeds app kind w s hs)
    hooks_spared kind s [] w = tt
    hooks_spared kind s (h ∷ hs) w =
        where_spared (is_kind kind h) (hook_deeds app w s h ++ deeds_on (hook_called app w s h) (λ v. hooks_deeds app kind v s hs)) (hooks_deeds app kind w s hs)
        (both (hook_deeds app w s h) (deeds_on (hook_called app w s h) (λ v. hooks_deeds app kind v s hs)) (hook_spared w s h) (then_spared (hook_called app w s h) (λ v. hooks_deeds app kind v s hs) (λ v. hooks_spared kind s hs v)))
        (hooks_spared kind s hs w)

    after_spared : (w : State K) (s : ℕ) → Spared (after_deeds app w s)
    after_spared w s = hooks_spared after_render_kind s (hooks_of w s) w

    fits_spared : (w : State K) (s : ℕ) (world : World K) (ds : State K → Element K → List (Deed K)) (m : Meaning K (Element K)) (b : Bool) → ((v : State K) (e : Element K) → Spared (ds v e)) → AllLeave n m.commands
        → Spared (if b then record { state = kept_call w s world m; scope = s; polled = None; wants = m.commands } ∷ ds (commands app (kept_call w s world m) s None m.commands) m.answer else [])
    fits_spared w s world ds m true h g = (g, h (commands app (kept_call w s world m) s None m.commands) m.answer)
    fits_spared w s world ds m false h g = tt

    answered_spared : (w : State K) (s : ℕ) (world : World K) (ds : State K → Element K → List (Deed K)) (m : Meaning K (Element K)) (o : Option CallFault) → ((v : State K) (e : Element K) → Spared (ds v e)) → AllLeave n m.commands
        → Spared (elim o as (λ z. List (Deed K)) [
          | Some f ↦ []
          | None ↦ if answer_fits m.answer then record { state = kept_call w s world m; scope = s; polled = None; wants = m.commands } ∷ ds (commands app (kept_call w s world m) s None m.commands) m.answer else []
        ])
    answered_spared w s world ds m (Some f) h g = tt
    answered_spared w s world ds m None h g = fits_spared w s world ds m (answer_fits m.answer) h g

    caught_spares : (children : Element K) (handler : Option (K.Component × K.Props)) (w : World K) (o : Option CapturedError) → AllLeave n (caught app children handler w o).commands
    caught_spares children handler w None = tt
    caught_spares children None w (Some e) = tt
    caught_spares children (Some h) w (Some e) = spares.bodies h.0 h.1 w

    body_spares : (c : VComponent K) (w : World K) → AllLeave n (body_of app c w).commands
    body_spares (Own component props) w = spares.bodies component props w
    body_spares (Root component props) w = tt
    body_spares (Fragment children) w = tt
    body_spares (ErrorBoundary children handler) w = caught_spares children handler w (w.values.error w.given.scope)
    body_spares (SuspenseBoundary children None) w = tt
    body_spares (SuspenseBoundary children (Some f)) w = spares.bodies f.0 f.1 w

    body_spared : (w : State K) (s : ℕ) (c : VComponent K) (ds : State K → Element K → List (Deed K)) → ((v : State K) (e : Element K) → Spared (ds v e)) → Spared (body_deeds app w s c ds)
    body_spared w s c ds h =
        let world : World K = world_of w s None true in
        let m : Meaning K (Element K) = body_of app c world in
        answered_spared (called_where (is_own c world) w) s world ds m m.fault h (body_spares c world)

    failed_spared : (w : State K) (s : ℕ) (e : Element K) → Spared (failed_deeds app w s e)
    failed_spared w s (rendered tree) = tt
    failed_spared w s (failed f) = ((tt, tt), tt)
    failed_spared w s (suspended origin t) = tt

    answer_spared : (w : State K) (s : ℕ) (e : Element K) → Spared (answer_deeds app w s e)
    answer_spared w s e =
        both (failed_deeds app w s e) (deeds_on (settled_answer app w s e) (λ v. after_deeds app v s)) (failed_spared w s e)
        (then_spared (settled_answer app w s e) (λ v. after_deeds app v s) (λ v. after_spared v s))

    run_as_spared : (w : State K) (s : ℕ) (x : Scope K) (c : VComponent K) → Spared (run_as_deeds app w s x c)
    run_as_spared w s x (SuspenseBoundary children fallback) = where_spared (runs_fallback (row_of x.shows (is_held x))) [] (after_deeds app w s) tt (after_spared w s)
    run_as_spared w s x (Own component props) = body_spared w s (Own component props) (λ v answer. answer_deeds app v s answer) (λ v e. answer_spared v s e)
    run_as_spared w s x (Root component props) = body_spared w s (Root component props) (λ v answer. answer_deeds app v s answer) (λ v e. answer_spared v s e)
    run_as_spared w s x (Fragment children) = body_spared w s (Fragment children) (λ v answer. answer_deeds app v s answer) (λ v e. answer_spared v s e)
    run_as_spared w s x (ErrorBoundary children handler) = body_spared w s (ErrorBoundary children handler) (λ v answer. answer_deeds app v s answer) (λ v e. answer_spared v s e)

    run_at : (w : State K) (s : ℕ) (o : Option (Scope K))
        → Spared (elim o as (λ z. List (Deed K)) [
          | None ↦ []
          | Some x ↦ hooks_deeds app before_render_kind (unmarked w s) s x.hooks ++ deeds_on (hooks_called app before_render_kind (unmarked w s) s x.hooks) (λ v. run_as_deeds app v s x x.component)
        ])
    run_at w s None = tt
    run_at w s (Some x) =
        both (hooks_deeds app before_render_kind (unmarked w s) s x.hooks) (deeds_on (hooks_called app before_render_kind (unmarked w s) s x.hooks) (λ v. run_as_deeds app v s x x.component))
        (hooks_spared before_render_kind s x.hooks (unmarked w s))
        (then_spared (hooks_called app before_render_kind (unmarked w s) s x.hooks) (λ v. run_as_deeds app v s x x.component) (λ v. run_as_spared v s x x.component))

    run_spared : (w : State K) (s : ℕ) → Spared (run_deeds app w s)
    run_spared w s = run_at w s (at w.scopes s)

    callbacks_spared : (es : List (ℕ × K.Effect)) (w : State K) → Spared (callback_deeds app w es)
    callbacks_spared [] w = tt
    callbacks_spared (e ∷ es) w =
        where_spared (is_live w e.0) (effect_deeds app w e.0 e.1 false ++ deeds_on (acted app w e.0 e.1 false) (λ v. callback_deeds app v es)) (callback_deeds app w es)
        (both (effect_deeds app w e.0 e.1 false) (deeds_on (acted app w e.0 e.1 false) (λ v. callback_deeds app v es)) (effect_spared w e.0 e.1 false) (then_spared (acted app w e.0 e.1 false) (λ v. callback_deeds app v es) (λ v. callbacks_spared es v)))
        (callbacks_spared es w)

    row_spared : (w : State K) (b : ℕ) (x : Scope K) (step : RowStep) → Spared (row_deeds app w b x step)
    row_spared w b x RunFallback =
        body_spared w b x.component (λ v answer. deeds_on (counted_render app v b (counts_render x.component answer)) (λ u. after_deeds app u b))
        (λ v e. then_spared (counted_render app v b (counts_render x.component e)) (λ u. after_deeds app u b) (λ u. after_spared u b))
    row_spared w b x Resolve = callbacks_spared x.callbacks (change (record w { resolved = w.resolved ++ b ∷ [] }) b (λ y. record y { callbacks = [] }))
    row_spared w b x PatchChildren = tt
    row_spared w b x MadeChildren = tt
    row_spared w b x ShowFallback = tt
    row_spared w b x ShowChildren = tt
    row_spared w b x DropFallback = tt

    clean_at : (s : ℕ) (es : List K.Effect) (w : State K) (waiting more : List (Command K)) (o : Option CallFault) (v : State K) → Spared (clean_deeds app s es v (waiting ++ more))
        → Spared (elim o as (λ z. List (Deed K)) [ None ↦ clean_deeds app s es v (waiting ++ more) | Some f ↦ [] ])
    clean_at s es w waiting more None v h = h
    clean_at s es w waiting more (Some f) v h = tt

    clean_spared : (s : ℕ) (es : List K.Effect) (w : State K) (waiting : List (Command K)) → AllLeave n waiting → Spared (clean_deeds app s es w waiting)
    clean_spared s [] w waiting h = (h, tt)
    clean_spared s (e ∷ es) w waiting h =
        let m = app.effect e (world_of w s None true) in
        clean_at s es w waiting m.commands m.fault (with_next (called_once w) m.next)
        (clean_spared s es (with_next (called_once w) m.next) (waiting ++ m.commands) (spare_both waiting m.commands h (spares.effects e (world_of w s None true))))

    batch_spared : (s : ℕ) (es : List K.Effect) (w : State K) → Spared (batch_deeds app w s es)
    batch_spared s [] w = tt
    batch_spared s (e ∷ es) w =
        both (effect_deeds app w s e false) (deeds_on (acted app w s e false) (λ v. batch_deeds app v s es)) (effect_spared w s e false)
        (then_spared (acted app w s e false) (λ v. batch_deeds app v s es) (λ v. batch_spared s es v))

    poll_spared : (w : State K) (t : ℕ) (o : Option (TaskRow K)) → Spared (poll_deeds app w t o)
    poll_spared w t None = tt
    poll_spared w t (Some x) =
        let m = poll_meant app w t x in
        one_spared (poll_finds (with_next (called_once w) m.next) t x m.answer) x.scope (Some t) m (spares.polls x.state (world_of w x.scope (Some t) false))

    fed_spared : (w : State K) (c : VComponent K) (o : Option ℕ) → Spared (elim o as (λ z. List (Deed K)) [ None ↦ [] | Some t ↦ if keeps app w t c then [] else run_deeds app (with_props app w t c) t ])
    fed_spared w c None = tt
    fed_spared w c (Some t) = where_spared (keeps app w t c) [] (run_deeds app (with_props app w t c) t) tt (run_spared (with_props app w t c) t)

    item_spared : (w : State K) (item : Item K) → Spared (item_deeds app w item)
    item_spared w (Draw s side p k) = tt
    item_spared w (Row b step) = on (at w.scopes b)
      where
        on : (o : Option (Scope K)) → Spared (elim o as (λ z. List (Deed K)) [ None ↦ [] | Some x ↦ row_deeds app w b x step ])
        on None = tt
        on (Some x) = row_spared w b x step
    item_spared w (Feed s side p c) = fed_spared w c (fed_child w s side p)
    item_spared w (Make s side p c) = on (at w.scopes s)
      where
        on : (o : Option (Scope K)) → Spared (elim o as (λ z. List (Deed K)) [ None ↦ [] | Some x ↦ if at_end w.next_scope then [] else run_deeds app (with_new_scope w s side p c x) w.next_scope ])
        on None = tt
        on (Some x) = where_spared (at_end w.next_scope) [] (run_deeds app (with_new_scope w s side p c x) w.next_scope) tt (run_spared (with_new_scope w s side p c x) w.next_scope)
    item_spared w (Drop t s side) = tt

    work_spared : (w : State K) (items : List (Item K)) → Spared (work_deeds app w items)
    work_spared w [] = tt
    work_spared w (item ∷ rest) = item_spared w item

    entry_spared : (m : Machine K) (e : Entry) → IsNoCall (Logged e) → Spared (entry_deeds app m e)
    entry_spared m Build h = run_spared m.state 0
    entry_spared m (Taken k) h = tt
    entry_spared m (Heard s) h = absurd h
    entry_spared m (Rerun s) h = run_spared (at_rest m.state) s
    entry_spared m (Poll t) h = let w : State K = at_rest m.state in poll_spared (unqueued w t) t (at w.tasks t)
    entry_spared m (Effects s) h =
        let w : State K = at_rest m.state in batch_spared s (effects_of w s) (change w s (λ x. record x { effects = [] }))
    entry_spared m (Made s) h = work_spared m.state m.work
    entry_spared m (Fed s) h = work_spared m.state m.work
    entry_spared m (Kept s) h = work_spared m.state m.work
    entry_spared m (Removed s) h = let v : State K = stopped m.state s in clean_spared s (clean_ups (hooks_of v s) []) v [] tt

    move_spared : (m : Machine K) (move : Move) → IsNoCall move → Spared (move_deeds app m move)
    move_spared m Silent h = work_spared m.state m.work
    move_spared m Closed h = tt
    move_spared m (Logged e) h = entry_spared m e h

    moves_spared : (limits : Limits) (m v : Machine K) (moves : List Move) (leads : Leads app limits m moves v) → QuietFor app limits n m v moves leads → NoneWritesOn app limits n m v moves leads
    moves_spared limits m v [] leads h = tt
    moves_spared limits m v (move ∷ moves) leads h = (move_spared m move h.0, h.1, moves_spared limits leads.0 v moves leads.2 h.2)

pub pages_keep_cells : (K : Types) → PagesKeepCells K
pages_keep_cells K k a limits m v moves n row leads stays quiet h =
    cells_last (meaning_of_pages k a) limits m v moves n row leads stays (moves_spared n (meaning_of_pages k a) (pages_spare n k a) limits m v moves leads quiet) h
