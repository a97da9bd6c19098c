-- What runs, the steps of boundaries and removals leave of such a fact, where the commands of their calls are good.
use Rattle.std.proofs.Common.{ℕ, ◌+◌, Bool, true, false, List, [], ◌∷◌, ◌++◌, ◌≡◌, refl, sym, ap, ◌∙◌, subst}
use Rattle.std.specs.Prelude.{Option, Some, None, if◌then◌else◌}
use Rattle.std.specs.List.{AllByRecursion}
use Rattle.rt_model.specs.Lists.{at, put, without, drop_number}
use Rattle.rt_model.specs.Tree.{Types, Tree, placeholder_tree, VComponent, Own, Root, Fragment, ErrorBoundary, SuspenseBoundary, Element, rendered, failed, suspended, Place, Kind, spots}
use Rattle.rt_model.specs.World.{Renders, Elements, Scopes, at_end, before_render_kind, after_render_kind, Firsts, CallFault, Hook, HookValue, HookEffect, Command, Throw, World, Meaning, Nothing, Application}
use Rattle.rt_model.specs.State.{SideName, MainSide, ChildrenSide, FallbackSide, Mark, SuspendedTask, IdsExhausted, BadNode, RowStep, PatchChildren, MadeChildren, RunFallback, ShowFallback, ShowChildren, DropFallback, Resolve, Scope, TaskRow, State, Outcome, Done, Cut, onward, empty_side, side_of, is_live, changed_scope, change, location, is_held, holds, hooks_of, renders_of, world_of}
use Rattle.rt_model.specs.Commands.{post, end, commands}
use Rattle.rt_model.specs.Run.{fault_of, with_next, called_once, called_where, is_own, answer_fits, kept_call, is_kind, spots_of, patched, raised, joins, suspends_on, unmarked, has_output, row_of, runs_fallback, row_items, body_of, acted, hook_called, hooks_called, after_hooks, call_body, start_agenda, settled_answer, new_output, after_answer, run_as, run}
use Rattle.rt_model.specs.Boundary.{tree_or_placeholder, children_of, counts_render, counted_render, fallback_answered, called_back, row_step, boundary_step}
use Rattle.rt_model.specs.Removal.{tasks_in, end_all, clean_ups, gone, stopped, cleaned_in, removed}
use Rattle.rt_model.specs.Replay.{numbered, draw_number, with_new_scope, made_in, made, with_props, keeps, handed, polled}
use Rattle.rt_model.proofs.Tour.{AllFresh}
use Rattle.law_behavior.specs.Deeds.{Deed, deeds_on, effect_deeds, hook_deeds, hooks_deeds, after_deeds, body_deeds, failed_deeds, answer_deeds, run_as_deeds, run_deeds, callback_deeds, row_deeds, clean_deeds, removed_deeds}
use Rattle.law_behavior.proofs.Frames.{GoesAway, Permits, Still, Called, Frame}
use Rattle.law_behavior.proofs.Commanded.{either, change_on, end_on, AllAllowed, commands_on}
use Rattle.law_behavior.proofs.Standing.{SameRows, stopped_rows}
use Rattle.law_behavior.proofs.Calling.{all_first, all_last, Follows, AllDraw, fresh_both, body_draws}

module _ {K : Types} (app : Application K) (P Q : State K → Type 0) (bound : ℕ) (may : Permits K) (law : Frame app P Q bound may) (ends : (t : ℕ) → may.endable t) (bodies : Called app P bound)
    (Good : State K → ℕ → Option ℕ → List (Command K) → Type 0)
    (allows : (w : State K) (s : ℕ) (polled : Option ℕ) (cs : List (Command K)) → AllFresh app bound cs → Good w s polled cs → AllAllowed app P Q bound may law w s polled cs)
    (draws : AllDraw app bound) where
  -- the commands of these calls are good
  abbrev pub AllGood : List (Deed K) → Type 0
  AllGood ds = AllByRecursion (λ (d : Deed K). Good d.state d.scope d.polled d.wants) ds

  pub good_first : (ds es : List (Deed K)) → AllGood (ds ++ es) → AllGood ds
  good_first ds es h = all_first (λ (d : Deed K). Good d.state d.scope d.polled d.wants) ds es h

  pub good_last : (ds es : List (Deed K)) → AllGood (ds ++ es) → AllGood es
  good_last ds es h = all_last (λ (d : Deed K). Good d.state d.scope d.polled d.wants) ds es h

  -- the fact holds of the state that a change leads to, and of the one at which a fault cut it
  abbrev pub Ends : Outcome K → Type 0
  Ends (Done v work) = P v
  Ends (Cut v fault) = P v

  -- and what is left of it, where that is all that a change leaves
  abbrev pub Leaves : Outcome K → Type 0
  Leaves (Done v work) = Q v
  Leaves (Cut v fault) = Q v

  pub leaves : (o : Outcome K) → Ends o → Leaves o
  leaves (Done v work) h = law.leaves v h
  leaves (Cut v fault) h = law.leaves v h

  leaves_if : (x y : Outcome K) (b : Bool) → Leaves x → Leaves y → Leaves (if b then x else y)
  leaves_if x y true f g = f
  leaves_if x y false f g = g

  ends_if : (x y : Outcome K) (b : Bool) → Ends x → Ends y → Ends (if b then x else y)
  ends_if x y true f g = f
  ends_if x y false f g = g

  pub onward_on : (o : Outcome K) (f : State K → Outcome K) (ds : State K → List (Deed K)) → Ends o → AllGood (deeds_on o ds) → ((v : State K) → AllGood (ds v) → P v → Ends (f v)) → Ends (onward o f)
  onward_on (Done v work) f ds h good g = g v good h
  onward_on (Cut v fault) f ds h good g = h

  -- and then a change of which less is left
  onward_last : (o : Outcome K) (f : State K → Outcome K) (ds : State K → List (Deed K)) → Ends o → AllGood (deeds_on o ds) → ((v : State K) → AllGood (ds v) → P v → Leaves (f v)) → Leaves (onward o f)
  onward_last (Done v work) f ds h good g = g v good h
  onward_last (Cut v fault) f ds h good g = law.leaves v h

  -- and one that makes no call
  onward_still : (o : Outcome K) (f : State K → Outcome K) → Ends o → ((v : State K) → P v → Leaves (f v)) → Leaves (onward o f)
  onward_still (Done v work) f h g = g v h
  onward_still (Cut v fault) f h g = law.leaves v h

  pub changes : (w : State K) (s : ℕ) (f : Scope K → Scope K) → ((x : Scope K) → Still x (f x)) → P w → P (change w s f)
  changes w s f same h = change_on app P Q bound may law w s f same h

  pub called : (w : State K) (s : ℕ) (polled : Option ℕ) (cs : List (Command K)) → AllFresh app bound cs → Good w s polled cs → P w → P (commands app w s polled cs)
  called w s polled cs f g h = commands_on app P Q bound may law w s polled cs (allows w s polled cs f g) h

  pub once_on : (w : State K) → P w → P (called_once w)
  once_on w h = law.asides w (called_once w) refl h

  follows_where : (b : Bool) (w : State K) (next : Firsts) → Follows app bound w.next next → Follows app bound (called_where b w).next next
  follows_where true w next h = h
  follows_where false w next h = h

  where_on : (b : Bool) (w : State K) → P w → P (called_where b w)
  where_on true w h = once_on w h
  where_on false w h = h

  pub unmarked_on : (w : State K) (s : ℕ) → P w → P (unmarked w s)
  unmarked_on w s h = law.unmarks w s h

  -- effects, hooks and callbacks

  acted_at : (w : State K) (s : ℕ) (m : Meaning K Nothing) (o : Option CallFault) → AllFresh app bound m.commands → Follows app bound w.next m.next
      → AllGood (elim o as (λ z. List (Deed K)) [ None ↦ record { state = with_next w m.next; scope = s; polled = None; wants = m.commands } ∷ [] | Some f ↦ [] ])
      → P w
      → Ends (elim o as (λ z. Outcome K) [ None ↦ Done (commands app (with_next w m.next) s None m.commands) [] | Some f ↦ Cut (with_next w m.next) (fault_of f) ])
  acted_at w s m None f low good h = called (with_next w m.next) s None m.commands f good.0 (law.nexts w m.next low h)
  acted_at w s m (Some x) f low good h = law.nexts w m.next low h

  pub acted_on : (w : State K) (s : ℕ) (e : K.Effect) (rendering : Bool) → AllGood (effect_deeds app w s e rendering) → P w → Ends (acted app w s e rendering)
  acted_on w s e rendering good h =
      let world : World K = world_of w s None rendering in
      let m : Meaning K Nothing = app.effect e world in
      let drawn = draws.effects e world (law.low w h) in
      acted_at (called_once w) s m m.fault drawn.0 drawn.1 good (once_on w h)

  hook_on : (w : State K) (s : ℕ) (k : Hook K) → AllGood (hook_deeds app w s k) → P w → Ends (hook_called app w s k)
  hook_on w s (HookValue k v) good h = h
  hook_on w s (HookEffect k e) good h = acted_on w s e true good h

  hooks_at : (kind : ℕ) (w : State K) (s : ℕ) (k : Hook K) (hs : List (Hook K)) (b : Bool) → ((v : State K) → AllGood (hooks_deeds app kind v s hs) → P v → Ends (hooks_called app kind v s hs))
      → AllGood (if b then hook_deeds app w s k ++ deeds_on (hook_called app w s k) (λ v. hooks_deeds app kind v s hs) else hooks_deeds app kind w s hs)
      → P w
      → Ends (if b then onward (hook_called app w s k) (λ v. hooks_called app kind v s hs) else hooks_called app kind w s hs)
  hooks_at kind w s k hs true go good h =
      let later : List (Deed K) = deeds_on (hook_called app w s k) (λ v. hooks_deeds app kind v s hs) in
      onward_on (hook_called app w s k) (λ v. hooks_called app kind v s hs) (λ v. hooks_deeds app kind v s hs)
      (hook_on w s k (good_first (hook_deeds app w s k) later good) h)
      (good_last (hook_deeds app w s k) later good)
      go
  hooks_at kind w s k hs false go good h = go w good h

  hooks_on : (kind : ℕ) (s : ℕ) (hs : List (Hook K)) (w : State K) → AllGood (hooks_deeds app kind w s hs) → P w → Ends (hooks_called app kind w s hs)
  hooks_on kind s [] w good h = h
  hooks_on kind s (k ∷ hs) w good h = hooks_at kind w s k hs (is_kind kind k) (λ v g p. hooks_on kind s hs v g p) good h

  after_on : (w : State K) (s : ℕ) → AllGood (after_deeds app w s) → P w → Ends (after_hooks app w s)
  after_on w s good h = hooks_on after_render_kind s (hooks_of w s) w good h

  callback_at : (w : State K) (e : ℕ × K.Effect) (es : List (ℕ × K.Effect)) (b : Bool) → ((v : State K) → AllGood (callback_deeds app v es) → P v → Ends (called_back app v es))
      → AllGood (if b then effect_deeds app w e.0 e.1 false ++ deeds_on (acted app w e.0 e.1 false) (λ v. callback_deeds app v es) else callback_deeds app w es)
      → P w
      → Ends (if b then onward (acted app w e.0 e.1 false) (λ v. called_back app v es) else called_back app w es)
  callback_at w e es true go good h =
      let now : List (Deed K) = effect_deeds app w e.0 e.1 false in
      let later : List (Deed K) = deeds_on (acted app w e.0 e.1 false) (λ v. callback_deeds app v es) in
      onward_on (acted app w e.0 e.1 false) (λ v. called_back app v es) (λ v. callback_deeds app v es)
      (acted_on w e.0 e.1 false (good_first now later good) h)
      (good_last now later good)
      go
  callback_at w e es false go good h = go w good h

  callbacks_on : (es : List (ℕ × K.Effect)) (w : State K) → AllGood (callback_deeds app w es) → P w → Ends (called_back app w es)
  callbacks_on [] w good h = h
  callbacks_on (e ∷ es) w good h = callback_at w e es (is_live w e.0) (λ v g p. callbacks_on es v g p) good h

  -- bodies

  answer_at : (w : State K) (s : ℕ) (world : World K) (then_on : State K → Element K → Outcome K) (ds : State K → Element K → List (Deed K)) (m : Meaning K (Element K)) (b : Bool)
      → ((v : State K) (answer : Element K) → AllGood (ds v answer) → P v → Leaves (then_on v answer))
      → AllFresh app bound m.commands
      → AllGood (if b
      then
      record { state = kept_call w s world m; scope = s; polled = None; wants = m.commands }
      ∷
      ds (commands app (kept_call w s world m) s None m.commands) m.answer
      else [])
      → P (kept_call w s world m)
      → Leaves (if b then then_on (commands app (kept_call w s world m) s None m.commands) m.answer else Cut (kept_call w s world m) (BadNode s))
  answer_at w s world then_on ds m true go f good h =
      let v : State K = kept_call w s world m in
      let u : State K = commands app v s None m.commands in
      go u m.answer good.1 (called v s None m.commands f good.0 h)
  answer_at w s world then_on ds m false go f good h = law.leaves (kept_call w s world m) h

  answered_on : (w : State K) (s : ℕ) (world : World K) (then_on : State K → Element K → Outcome K) (ds : State K → Element K → List (Deed K)) (m : Meaning K (Element K)) (o : Option CallFault)
      → ((v : State K) (answer : Element K) → AllGood (ds v answer) → P v → Leaves (then_on v answer))
      → AllFresh app bound m.commands
      → Follows app bound w.next m.next
      → AllGood (elim o as (λ z. List (Deed K)) [
        | Some f ↦ []
        | None ↦
            if answer_fits m.answer
            then
            record { state = kept_call w s world m; scope = s; polled = None; wants = m.commands }
            ∷
            ds (commands app (kept_call w s world m) s None m.commands) m.answer
            else []
      ])
      → P w
      → P (kept_call w s world m)
      → Leaves (elim o as (λ z. Outcome K) [
        | Some f ↦ Cut (with_next w m.next) (fault_of f)
        | None ↦
            if answer_fits m.answer
            then then_on (commands app (kept_call w s world m) s None m.commands) m.answer
            else Cut (kept_call w s world m) (BadNode s)
      ])
  answered_on w s world then_on ds m (Some x) go f low good h kept = law.leaves (with_next w m.next) (law.nexts w m.next low h)
  answered_on w s world then_on ds m None go f low good h kept = answer_at w s world then_on ds m (answer_fits m.answer) go f good kept

  body_on : (w : State K) (s : ℕ) (c : VComponent K) (then_on : State K → Element K → Outcome K) (ds : State K → Element K → List (Deed K))
      → ((v : State K) (answer : Element K) → AllGood (ds v answer) → P v → Leaves (then_on v answer))
      → AllGood (body_deeds app w s c ds)
      → P w
      → Leaves (call_body app w s c then_on)
  body_on w s c then_on ds go good h =
      let world : World K = world_of w s None true in
      let m : Meaning K (Element K) = body_of app c world in
      let drawn = body_draws app bound draws c world (law.low w h) in
      answered_on (called_where (is_own c world) w) s world then_on ds m m.fault go drawn.0 (follows_where (is_own c world) w m.next drawn.1) good (where_on (is_own c world) w h) (bodies.bodies w s c drawn.1 h)

  agenda_at : (w : State K) (s : ℕ) (side : SideName) (tree : Tree K) (o : Option (Scope K)) → at w.scopes s ≡ o → P w
      → Leaves (elim o as (λ z. Outcome K) [ None ↦ Done w [] | Some x ↦ patched app w s side tree (spots_of (side_of x side).output) (spots [] tree) (side_of x side) x ])
  agenda_at w s side tree None e h = law.leaves w h
  agenda_at w s side tree (Some x) e h = law.patches w s side tree x e h

  agenda_on : (w : State K) (s : ℕ) (side : SideName) (tree : Tree K) → P w → Leaves (start_agenda app w s side tree)
  agenda_on w s side tree h = agenda_at w s side tree (at w.scopes s) refl h

  raised_on : (w : State K) (s : ℕ) → P w → Ends (raised w s)
  raised_on w s h =
      ends_if (Cut w (IdsExhausted Renders)) (Done (change w s (λ x. record x { renders = x.renders + 1 })) []) (at_end (renders_of w s)) h
      (changes w s (λ x. record x { renders = x.renders + 1 }) (λ x. refl) h)

  held_row : (w : State K) (origin t b : ℕ) (o : Option (Scope K)) → at w.scopes b ≡ o → P w
      → P (elim o as (λ z. State K) [
        | None ↦ w
        | Some x ↦ if holds x t then w else post (change w b (λ y. record y { holders = y.holders ++ (t, origin) ∷ [] })) (Mark b)
      ])
  held_row w origin t b None e h = h
  held_row w origin t b (Some x) e h =
      let u : State K = record w { scopes = put w.scopes b (record x { holders = x.holders ++ (t, origin) ∷ [] }) } in
      let v : State K = change w b (λ y. record y { holders = y.holders ++ (t, origin) ∷ [] }) in
      let is : v ≡ u = ap (λ (z : Option (Scope K)). elim z as (λ i. State K) [ None ↦ w | Some y ↦ record w { scopes = put w.scopes b (record y { holders = y.holders ++ (t, origin) ∷ [] }) } ]) e in
      either app P Q bound may law w (post v (Mark b)) (holds x t) h
      (law.marks v b (subst (λ (z : State K). P z) (sym is) (law.joins w b t origin x e h)))

  joins_on : (w : State K) (origin t : ℕ) (o : Option (ℕ × SideName)) → P w → P (joins w origin t o)
  joins_on w origin t None h = h
  joins_on w origin t (Some (b, MainSide)) h = h
  joins_on w origin t (Some (b, FallbackSide)) h = h
  joins_on w origin t (Some (b, ChildrenSide)) h = held_row w origin t b (at w.scopes b) refl h

  suspends_on_task : (w : State K) (s origin t : ℕ) (o : Option (TaskRow K)) → at w.tasks t ≡ o → P w → Ends (suspends_on w s origin t o)
  suspends_on_task w s origin t None e h = h
  suspends_on_task w s origin t (Some x) e h =
      let row : TaskRow K = record x { kind = SuspendedTask } in
      joins_on (record w { tasks = put w.tasks t row }) origin t (location w s) (law.suspends w t x e h)

  settled_on : (w : State K) (s : ℕ) (answer : Element K) → AllGood (failed_deeds app w s answer) → P w → Ends (settled_answer app w s answer)
  settled_on w s (rendered tree) good h = raised_on w s h
  settled_on w s (failed e) good h = called w s None (Throw e ∷ []) (tt, tt) good.0 h
  settled_on w s (suspended origin t) good h = suspends_on_task w s origin t (at w.tasks t) refl h

  output_on : (w : State K) (s : ℕ) (answer : Element K) → P w → Leaves (new_output app w s answer)
  output_on w s (rendered tree) h = agenda_on w s MainSide tree h
  output_on w s (failed e) h = leaves_if (Done w []) (start_agenda app w s MainSide placeholder_tree) (has_output w s) (law.leaves w h) (agenda_on w s MainSide placeholder_tree h)
  output_on w s (suspended origin t) h = leaves_if (Done w []) (start_agenda app w s MainSide placeholder_tree) (has_output w s) (law.leaves w h) (agenda_on w s MainSide placeholder_tree h)

  answer_on : (w : State K) (s : ℕ) (answer : Element K) → AllGood (answer_deeds app w s answer) → P w → Leaves (after_answer app w s answer)
  answer_on w s answer good h =
      let first : List (Deed K) = failed_deeds app w s answer in
      let later : List (Deed K) = deeds_on (settled_answer app w s answer) (λ v. after_deeds app v s) in
      onward_still (onward (settled_answer app w s answer) (λ v. after_hooks app v s)) (λ v. new_output app v s answer)
      (
      onward_on (settled_answer app w s answer) (λ v. after_hooks app v s) (λ v. after_deeds app v s) (settled_on w s answer (good_first first later good) h)
      (good_last first later good)
      (λ v g p. after_on v s g p)
      )
      (λ v p. output_on v s answer p)

  boundary_at : (w : State K) (b : ℕ) (steps : List RowStep) (c : Bool) → AllGood (if c then [] else after_deeds app w b) → P w
      → Leaves (if c then Done w (row_items b steps) else onward (after_hooks app w b) (λ v. Done v (row_items b steps)))
  boundary_at w b steps true good h = law.leaves w h
  boundary_at w b steps false good h = onward_still (after_hooks app w b) (λ v. Done v (row_items b steps)) (after_on w b good h) (λ v p. law.leaves v p)

  run_as_on : (w : State K) (s : ℕ) (x : Scope K) (c : VComponent K) → AllGood (run_as_deeds app w s x c) → P w → Leaves (run_as app w s x c)
  run_as_on w s x (SuspenseBoundary children fallback) good h = let steps : List RowStep = row_of x.shows (is_held x) in boundary_at w s steps (runs_fallback steps) good h
  run_as_on w s x (Own component props) good h =
      body_on w s (Own component props) (λ v answer. after_answer app v s answer) (λ v answer. answer_deeds app v s answer) (λ v answer g p. answer_on v s answer g p) good h
  run_as_on w s x (Root component props) good h =
      body_on w s (Root component props) (λ v answer. after_answer app v s answer) (λ v answer. answer_deeds app v s answer) (λ v answer g p. answer_on v s answer g p) good h
  run_as_on w s x (Fragment children) good h =
      body_on w s (Fragment children) (λ v answer. after_answer app v s answer) (λ v answer. answer_deeds app v s answer) (λ v answer g p. answer_on v s answer g p) good h
  run_as_on w s x (ErrorBoundary children handler) good h =
      body_on w s (ErrorBoundary children handler) (λ v answer. after_answer app v s answer) (λ v answer. answer_deeds app v s answer) (λ v answer g p. answer_on v s answer g p) good h

  run_at : (w : State K) (s : ℕ) (o : Option (Scope K))
      → AllGood (elim o as (λ z. List (Deed K)) [
        | None ↦ []
        | Some x ↦
            hooks_deeds app before_render_kind (unmarked w s) s x.hooks
            ++
            deeds_on (hooks_called app before_render_kind (unmarked w s) s x.hooks) (λ v. run_as_deeds app v s x x.component)
      ])
      → P w
      → Leaves (elim o as (λ z. Outcome K) [
        | None ↦ Done w []
        | Some x ↦ onward (hooks_called app before_render_kind (unmarked w s) s x.hooks) (λ v. run_as app v s x x.component)
      ])
  run_at w s None good h = law.leaves w h
  run_at w s (Some x) good h =
      let u : State K = unmarked w s in
      let first : List (Deed K) = hooks_deeds app before_render_kind u s x.hooks in
      let later : List (Deed K) = deeds_on (hooks_called app before_render_kind u s x.hooks) (λ v. run_as_deeds app v s x x.component) in
      onward_last (hooks_called app before_render_kind u s x.hooks) (λ v. run_as app v s x x.component) (λ v. run_as_deeds app v s x x.component)
      (hooks_on before_render_kind s x.hooks u (good_first first later good) (unmarked_on w s h))
      (good_last first later good)
      (λ v g p. run_as_on v s x x.component g p)

  -- a run
  pub run_on : (w : State K) (s : ℕ) → AllGood (run_deeds app w s) → P w → Leaves (run app w s)
  run_on w s good h = run_at w s (at w.scopes s) good h

  -- the steps of a boundary's run

  counted_on : (w : State K) (b : ℕ) (test : Bool) → P w → Ends (counted_render app w b test)
  counted_on w b true h = raised_on w b h
  counted_on w b false h = h

  fallback_on : (w : State K) (b : ℕ) (c : VComponent K) (answer : Element K) → AllGood (deeds_on (counted_render app w b (counts_render c answer)) (λ u. after_deeds app u b)) → P w
      → Leaves (fallback_answered app w b c answer)
  fallback_on w b c answer good h =
      onward_still (onward (counted_render app w b (counts_render c answer)) (λ v. after_hooks app v b)) (λ v. start_agenda app v b FallbackSide (tree_or_placeholder answer))
      (onward_on (counted_render app w b (counts_render c answer)) (λ v. after_hooks app v b) (λ v. after_deeds app v b) (counted_on w b (counts_render c answer) h) good (λ v g p. after_on v b g p))
      (λ v p. agenda_on v b FallbackSide (tree_or_placeholder answer) p)

  turned_on : (w : State K) (b : ℕ) (o : Option (Scope K)) → at w.scopes b ≡ o → P w
      → P (changed_scope (record w { last_calls = without w.last_calls b }) b (λ y. record y { shows = Some ChildrenSide; reads = [] }) o)
  turned_on w b None e h = bodies.turns_nowhere w b e h
  turned_on w b (Some y) e h = bodies.turns w b y e h

  emptied_on : (w : State K) (b : ℕ) (o : Option (Scope K)) → at w.scopes b ≡ o → P w → Q (changed_scope w b (λ y. record y { fallback_side = empty_side }) o)
  emptied_on w b None e h = law.leaves w h
  emptied_on w b (Some y) e h = law.empties w b y e h

  row_on : (w : State K) (b : ℕ) (x : Scope K) (step : RowStep) → AllGood (row_deeds app w b x step) → P w → Leaves (row_step app w b x step)
  row_on w b x PatchChildren good h = agenda_on w b ChildrenSide (children_of x.component) h
  row_on w b x MadeChildren good h = law.leaves w h
  row_on w b x RunFallback good h =
      body_on w b x.component (λ v answer. fallback_answered app v b x.component answer) (λ v answer. deeds_on (counted_render app v b (counts_render x.component answer)) (λ u. after_deeds app u b))
      (λ v answer g p. fallback_on v b x.component answer g p) good h
  row_on w b x ShowFallback good h =
      let v : State K = record w { resolved = drop_number w.resolved b } in
      law.leaves (change v b (λ y. record y { shows = Some FallbackSide })) (changes v b (λ y. record y { shows = Some FallbackSide }) (λ y. refl) (law.asides w v refl h))
  row_on w b x ShowChildren good h =
      let v : State K = record w { last_calls = without w.last_calls b } in
      law.leaves (change v b (λ y. record y { shows = Some ChildrenSide; reads = [] })) (turned_on w b (at w.scopes b) refl h)
  row_on w b x DropFallback good h = emptied_on w b (at w.scopes b) refl h
  row_on w b x Resolve good h =
      let v : State K = record w { resolved = w.resolved ++ b ∷ [] } in
      leaves (called_back app (change v b (λ y. record y { callbacks = [] })) x.callbacks)
      (callbacks_on x.callbacks (change v b (λ y. record y { callbacks = [] })) good
      (changes v b (λ y. record y { callbacks = [] }) (λ y. refl) (law.asides w v refl h)))

  step_at : (w : State K) (b : ℕ) (step : RowStep) (o : Option (Scope K)) → AllGood (elim o as (λ z. List (Deed K)) [ None ↦ [] | Some x ↦ row_deeds app w b x step ]) → P w
      → Leaves (elim o as (λ z. Outcome K) [ None ↦ Done w [] | Some x ↦ row_step app w b x step ])
  step_at w b step None good h = law.leaves w h
  step_at w b step (Some x) good h = row_on w b x step good h

  pub step_on : (w : State K) (b : ℕ) (step : RowStep) → AllGood (elim (at w.scopes b) as (λ z. List (Deed K)) [ None ↦ [] | Some x ↦ row_deeds app w b x step ]) → P w → Leaves (boundary_step app w b step)
  step_on w b step good h = step_at w b step (at w.scopes b) good h

  -- numbers, and scopes that are made and handed on

  pub number_on : (w : State K) (s : ℕ) (side : SideName) (p : Place) (k : Kind) → P w → Ends (draw_number w s side p k)
  number_on w s side p k h =
      ends_if (Cut w (IdsExhausted Elements)) (Done (numbered w s side p k) []) (at_end w.next.elements) h (law.draws w s side p k h)

  made_at : (w : State K) (s : ℕ) (side : SideName) (p : Place) (c : VComponent K) (x : Scope K) (b : Bool) → at w.scopes s ≡ Some x
      → AllGood (if b then [] else run_deeds app (with_new_scope w s side p c x) w.next_scope)
      → P w
      → Leaves (if b then Cut w (IdsExhausted Scopes) else run app (with_new_scope w s side p c x) w.next_scope)
  made_at w s side p c x true e good h = law.leaves w h
  made_at w s side p c x false e good h = run_on (with_new_scope w s side p c x) w.next_scope good (law.makes w s side p c x e h)

  made_in_on : (w : State K) (s : ℕ) (side : SideName) (p : Place) (c : VComponent K) (o : Option (Scope K)) → at w.scopes s ≡ o
      → AllGood (elim o as (λ z. List (Deed K)) [ None ↦ [] | Some x ↦ if at_end w.next_scope then [] else run_deeds app (with_new_scope w s side p c x) w.next_scope ])
      → P w
      → Leaves (elim o as (λ z. Outcome K) [ None ↦ Done w [] | Some x ↦ made_in app w s side p c x ])
  made_in_on w s side p c None e good h = law.leaves w h
  made_in_on w s side p c (Some x) e good h = made_at w s side p c x (at_end w.next_scope) e good h

  pub made_on : (w : State K) (s : ℕ) (side : SideName) (p : Place) (c : VComponent K)
      → AllGood (elim (at w.scopes s) as (λ z. List (Deed K)) [ None ↦ [] | Some x ↦ if at_end w.next_scope then [] else run_deeds app (with_new_scope w s side p c x) w.next_scope ])
      → P w
      → Leaves (made app w s side p c)
  made_on w s side p c good h = made_in_on w s side p c (at w.scopes s) refl good h

  props_on : (w : State K) (t : ℕ) (c : VComponent K) (o : Option (Scope K)) → at w.scopes t ≡ o → may.feedable t → P w → P (changed_scope w t (λ x. record x { component = c }) o)
  props_on w t c None e may_feed h = h
  props_on w t c (Some x) e may_feed h = law.feeds w t c x e may_feed h

  handed_at : (w : State K) (t : ℕ) (c : VComponent K) (b : Bool) → AllGood (if b then [] else run_deeds app (with_props app w t c) t) → P (with_props app w t c)
      → Leaves (if b then Done (with_props app w t c) [] else run app (with_props app w t c) t)
  handed_at w t c true good h = law.leaves (with_props app w t c) h
  handed_at w t c false good h = run_on (with_props app w t c) t good h

  -- the child that a feed goes to may be handed a component
  abbrev pub MayFeed : Option ℕ → Type 0
  MayFeed None = Unit {0}
  MayFeed (Some t) = may.feedable t

  pub fed_on : (w : State K) (c : VComponent K) (o : Option ℕ) → MayFeed o → AllGood (elim o as (λ z. List (Deed K)) [ None ↦ [] | Some t ↦ if keeps app w t c then [] else run_deeds app (with_props app w t c) t ]) → P w
      → Leaves (elim o as (λ z. Outcome K) [ None ↦ Done w [] | Some t ↦ handed app w t c ])
  fed_on w c None may_feed good h = law.leaves w h
  fed_on w c (Some t) may_feed good h = handed_at w t c (keeps app w t c) good (props_on w t c (at w.scopes t) refl may_feed h)

  -- removals

  end_all_on : (ts : List ℕ) (w : State K) → P w → P (end_all w ts)
  end_all_on [] w h = h
  end_all_on (t ∷ ts) w h = end_all_on ts (end w t) (end_on app P Q bound may law w t (ends t) h)

  -- a scope may go wherever cells and contexts stand as they do here
  abbrev pub MayGo : State K → ℕ → Type 0
  MayGo w s = (v : State K) → v.cells ≡ w.cells → v.contexts ≡ w.contexts → may.causable v (GoesAway s)

  stopped_on : (w : State K) (s : ℕ) → P w → P (stopped w s)
  stopped_on w s h =
      let v : State K = end_all w (tasks_in s w.tasks) in
      changes (unmarked v s) s (λ x. record x { effects = [] }) (λ x. refl) (unmarked_on v s (end_all_on (tasks_in s w.tasks) w h))

  cleaned_at : (s : ℕ) (es : List K.Effect) (w : State K) (waiting : List (Command K)) (m : Meaning K Nothing) (o : Option CallFault)
      → (AllGood (clean_deeds app s es (with_next w m.next) (waiting ++ m.commands)) → P (with_next w m.next) → Ends (cleaned_in app true s es (with_next w m.next) (waiting ++ m.commands)))
      → Follows app bound w.next m.next
      → AllGood (elim o as (λ z. List (Deed K)) [ None ↦ clean_deeds app s es (with_next w m.next) (waiting ++ m.commands) | Some f ↦ [] ])
      → P w
      → Ends (elim o as (λ z. Outcome K) [ None ↦ cleaned_in app true s es (with_next w m.next) (waiting ++ m.commands) | Some f ↦ Cut (with_next w m.next) (fault_of f) ])
  cleaned_at s es w waiting m None go low good h = go good (law.nexts w m.next low h)
  cleaned_at s es w waiting m (Some f) go low good h = law.nexts w m.next low h

  cleaned_on : (s : ℕ) (es : List K.Effect) (w : State K) (waiting : List (Command K)) → may.removable s → MayGo w s → AllFresh app bound waiting → AllGood (clean_deeds app s es w waiting) → P w
      → Ends (cleaned_in app true s es w waiting)
  cleaned_on s [] w waiting free goes f good h = called (gone w s) s None waiting f good.0 (law.goes w s free (goes w refl refl) h)
  cleaned_on s (e ∷ es) w waiting free goes f good h =
      let world : World K = world_of w s None true in
      let m : Meaning K Nothing = app.effect e world in
      let drawn = draws.effects e world (law.low w h) in
      cleaned_at s es (called_once w) waiting m m.fault
      (λ g p. cleaned_on s es (with_next (called_once w) m.next) (waiting ++ m.commands) free (λ v cells contexts. goes v cells contexts) (fresh_both app bound waiting m.commands f drawn.0) g p)
      drawn.1 good (once_on w h)

  -- a removal
  pub removed_on : (w : State K) (s : ℕ) → may.removable s → MayGo w s → AllGood (removed_deeds app w s) → P w → Ends (removed app w s)
  removed_on w s free goes good h =
      let v : State K = stopped w s in
      let same : SameRows w v = stopped_rows w s in
      cleaned_on s (clean_ups (hooks_of v s) []) v [] free (λ u cells contexts. goes u (cells ∙ same.0) (contexts ∙ same.1)) tt good (stopped_on w s h)
