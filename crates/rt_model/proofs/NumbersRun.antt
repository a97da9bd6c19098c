-- What a run and the steps of a boundary leave standing.
use Rattle.std.proofs.Common.{ℕ, Bool, true, false, List, [], ◌∷◌, ◌++◌, ◌≡◌, refl, sym, subst}
use Rattle.std.specs.Prelude.{Option, Some, None, if◌then◌else◌}
use Rattle.rt_model.specs.Lists.{at, without, drop_number}
use Rattle.rt_model.specs.Tree.{Types, placeholder_tree, VComponent, Own, Root, Fragment, ErrorBoundary, SuspenseBoundary, Element, rendered, failed, suspended}
use Rattle.rt_model.specs.World.{before_render_kind, CallFault, Command, World, Meaning, Nothing, TaskStep, Application}
use Rattle.rt_model.specs.Laws.{IsNumbered, IsLawful}
use Rattle.rt_model.specs.State.{MainSide, ChildrenSide, FallbackSide, BadNode, RowStep, PatchChildren, MadeChildren, RunFallback, ShowFallback, ShowChildren, DropFallback, Resolve, Scope, TaskRow, State, Item, Draw, Outcome, Done, Cut, onward, is_live, change, is_held, hooks_of, world_of, effects_of}
use Rattle.rt_model.specs.Commands.{unqueued, commands}
use Rattle.rt_model.specs.Run.{fault_of, with_next, answer_fits, kept_call, unmarked, has_output, row_of, runs_fallback, row_items, body_of, acted, hooks_called, after_hooks, call_body, start_agenda, settled_answer, new_output, after_answer, boundary_run, run_as, run, called_once, called_where, is_own, answered_with}
use Rattle.rt_model.specs.Boundary.{tree_or_placeholder, children_of, counts_render, side_scopes, drop_items, counted_render, fallback_answered, called_back, row_step, boundary_step}
use Rattle.rt_model.specs.Removal.{clean_ups, stopped, cleaned, removed}
use Rattle.rt_model.specs.Replay.{polled_to, polled_at, polled, batch, effects_run}
use Rattle.rt_model.proofs.Among.{among_right}
use Rattle.rt_model.proofs.Parts.{answer_below, placeholder_fits, children_fit, ItemsFit, items_both, rows_fit, drop_items_fit}
use Rattle.rt_model.proofs.Stands.{Stands}
use Rattle.rt_model.proofs.Turns.{stay_stands, more_stands}
use Rattle.rt_model.proofs.SideFrames.{stay_trans, stay_rest, change_stay}
use Rattle.rt_model.proofs.SideRuns.{StayO, from_stay, onward_stay, unmarked_stay, kept_stay, hooks_stay, after_hooks_stay, settled_answer_stay, counted_stay, called_back_stay, removed_stay, polled_stay, effects_stay}
use Rattle.rt_model.proofs.SideChanges.{Leads, emptied_stands, agenda_leads}
use Rattle.rt_model.proofs.RunFrames.{body_numbered}

module _ {K : Types} where
  -- a change that leads to no work
  abbrev pub Idle : Outcome K → Type 0
  Idle (Done v work) = work ≡ []
  Idle (Cut v fault) = Unit {0}

  onward_idle : (o : Outcome K) (f : State K → Outcome K) → ((v : State K) → Idle (f v)) → Idle (onward o f)
  onward_idle (Done v work) f h = h v
  onward_idle (Cut v fault) f h = tt

  either_idle : (c : Bool) (x y : Outcome K) → Idle x → Idle y → Idle (if c then x else y)
  either_idle true x y h g = h
  either_idle false x y h g = g

  either_leads : (rest : List (Item K)) (c : Bool) (x y : Outcome K) → Leads rest x → Leads rest y → Leads rest (if c then x else y)
  either_leads rest true x y h g = h
  either_leads rest false x y h g = g

  -- such a change that leaves the sides
  pub stay_leads : (w : State K) (rest : List (Item K)) (o : Outcome K) → StayO w o → Idle o → Stands w rest → Leads rest o
  stay_leads w rest (Done v work) f i h = subst (λ (xs : List (Item K)). Stands v (xs ++ rest)) (sym i) (stay_stands w v rest f h)
  stay_leads w rest (Cut v fault) f i h = tt

  onward_leads : (w : State K) (rest : List (Item K)) (o : Outcome K) (f : State K → Outcome K) → StayO w o → Stands w rest → ((v : State K) → Stands v rest → Leads rest (f v)) → Leads rest (onward o f)
  onward_leads w rest (Done v work) f s h g = g v (stay_stands w v rest s h)
  onward_leads w rest (Cut v fault) f s h g = tt

  work_leads : (w : State K) (rest work : List (Item K)) → ItemsFit work → Stands w rest → Stands w (work ++ rest)
  work_leads w rest work items h = more_stands w rest (work ++ rest) (items_both work rest items h.items) (λ t a q l g. among_right work rest (Draw t a q l) g) h

module _ {K : Types} (app : Application K) (lawful : IsLawful K app) where
  output_leads : (w : State K) (rest : List (Item K)) (s : ℕ) (a : Element K) → answer_fits a ≡ true → Stands w rest → Leads rest (new_output app w s a)
  output_leads w rest s (rendered tree) f h = agenda_leads app w rest s MainSide tree h (answer_below (rendered tree) f)
  output_leads w rest s (failed e) f h = either_leads rest (has_output w s) (Done w []) (start_agenda app w s MainSide placeholder_tree) h (agenda_leads app w rest s MainSide placeholder_tree h placeholder_fits)
  output_leads w rest s (suspended origin t) f h = either_leads rest (has_output w s) (Done w []) (start_agenda app w s MainSide placeholder_tree) h (agenda_leads app w rest s MainSide placeholder_tree h placeholder_fits)

  answer_leads : (w : State K) (rest : List (Item K)) (s : ℕ) (a : Element K) → answer_fits a ≡ true → Stands w rest → Leads rest (after_answer app w s a)
  answer_leads w rest s a f h =
      onward_leads w rest (onward (settled_answer app w s a) (λ v. after_hooks app v s)) (λ v. new_output app v s a)
      (onward_stay w (settled_answer app w s a) (λ v. after_hooks app v s) (settled_answer_stay app lawful w s a) (λ v. after_hooks_stay app lawful v s))
      h
      (λ v g. output_leads v rest s a f g)

  fits_leads : (w : State K) (rest : List (Item K)) (s : ℕ) (world : World K) (then_on : State K → Element K → Outcome K) (m : Meaning K (Element K)) (c : Bool) → answer_fits m.answer ≡ c → IsNumbered w.next m.commands m.next
      → ((v : State K) (a : Element K) → answer_fits a ≡ true → Stands v rest → Leads rest (then_on v a))
      → Stands w rest
      → Leads rest (if c then then_on (commands app (kept_call w s world m) s None m.commands) m.answer else Cut (kept_call w s world m) (BadNode s))
  fits_leads w rest s world then_on m true f n g h =
      g (commands app (kept_call w s world m) s None m.commands) m.answer f (stay_stands w (commands app (kept_call w s world m) s None m.commands) rest (kept_stay app lawful w s world m n) h)
  fits_leads w rest s world then_on m false f n g h = tt

  answered_at : (w : State K) (rest : List (Item K)) (s : ℕ) (world : World K) (then_on : State K → Element K → Outcome K) (m : Meaning K (Element K)) (o : Option CallFault) → IsNumbered w.next m.commands m.next
      → ((v : State K) (a : Element K) → answer_fits a ≡ true → Stands v rest → Leads rest (then_on v a))
      → Stands w rest
      → Leads rest (elim o [
        | Some f ↦ Cut (with_next w m.next) (fault_of f)
        | None ↦
            if answer_fits m.answer
            then then_on (commands app (kept_call w s world m) s None m.commands) m.answer
            else Cut (kept_call w s world m) (BadNode s)
      ])
  answered_at w rest s world then_on m (Some f) n g h = tt
  answered_at w rest s world then_on m None n g h = fits_leads w rest s world then_on m (answer_fits m.answer) refl n g h

  own_leads : (w : State K) (rest : List (Item K)) (s : ℕ) (world : World K) (then_on : State K → Element K → Outcome K) (m : Meaning K (Element K)) (own : Bool) → IsNumbered w.next m.commands m.next
      → ((v : State K) (a : Element K) → answer_fits a ≡ true → Stands v rest → Leads rest (then_on v a))
      → Stands w rest
      → Leads rest (answered_with app (called_where own w) s world then_on m)
  own_leads w rest s world then_on m true n g h =
      answered_at (called_once w) rest s world then_on m m.fault n g (stay_stands w (called_once w) rest (stay_rest w (called_once w) refl refl refl) h)
  own_leads w rest s world then_on m false n g h = answered_at w rest s world then_on m m.fault n g h

  call_leads : (w : State K) (rest : List (Item K)) (s : ℕ) (c : VComponent K) (then_on : State K → Element K → Outcome K)
      → ((v : State K) (a : Element K) → answer_fits a ≡ true → Stands v rest → Leads rest (then_on v a))
      → Stands w rest
      → Leads rest (call_body app w s c then_on)
  call_leads w rest s c then_on g h =
      let world = world_of w s None true in own_leads w rest s world then_on (body_of app c world) (is_own c world) (body_numbered app lawful c world) g h

  boundary_leads : (w : State K) (rest : List (Item K)) (b : ℕ) (steps : List RowStep) → Stands w rest → Leads rest (boundary_run app w b steps)
  boundary_leads w rest b steps h =
      either_leads rest (runs_fallback steps) (Done w (row_items b steps)) (onward (after_hooks app w b) (λ v. Done v (row_items b steps)))
      (work_leads w rest (row_items b steps) (rows_fit app b steps) h)
      (onward_leads w rest (after_hooks app w b) (λ v. Done v (row_items b steps)) (after_hooks_stay app lawful w b) h (λ v g. work_leads v rest (row_items b steps) (rows_fit app b steps) g))

  run_as_leads : (w : State K) (rest : List (Item K)) (s : ℕ) (x : Scope K) (c : VComponent K) → Stands w rest → Leads rest (run_as app w s x c)
  run_as_leads w rest s x (SuspenseBoundary children fallback) h = boundary_leads w rest s (row_of x.shows (is_held x)) h
  run_as_leads w rest s x (Own component props) h = call_leads w rest s (Own component props) (λ v a. after_answer app v s a) (λ v a f g. answer_leads v rest s a f g) h
  run_as_leads w rest s x (Root component props) h = call_leads w rest s (Root component props) (λ v a. after_answer app v s a) (λ v a f g. answer_leads v rest s a f g) h
  run_as_leads w rest s x (Fragment children) h = call_leads w rest s (Fragment children) (λ v a. after_answer app v s a) (λ v a f g. answer_leads v rest s a f g) h
  run_as_leads w rest s x (ErrorBoundary children handler) h = call_leads w rest s (ErrorBoundary children handler) (λ v a. after_answer app v s a) (λ v a f g. answer_leads v rest s a f g) h

  run_at : (w : State K) (rest : List (Item K)) (s : ℕ) (o : Option (Scope K)) → Stands w rest → Leads rest (elim o [
    | None ↦ Done w []
    | Some x ↦ onward (hooks_called app before_render_kind (unmarked w s) s x.hooks) (λ v. run_as app v s x x.component)
  ])
  run_at w rest s None h = h
  run_at w rest s (Some x) h =
      onward_leads (unmarked w s) rest (hooks_called app before_render_kind (unmarked w s) s x.hooks) (λ v. run_as app v s x x.component)
      (hooks_stay app lawful before_render_kind (unmarked w s) s x.hooks)
      (stay_stands w (unmarked w s) rest (unmarked_stay w s) h)
      (λ v g. run_as_leads v rest s x x.component g)

  -- a run, before the rest of the work
  pub run_leads : (w : State K) (rest : List (Item K)) (s : ℕ) → Stands w rest → Leads rest (run app w s)
  run_leads w rest s h = run_at w rest s (at w.scopes s) h

  fallback_leads : (w : State K) (rest : List (Item K)) (b : ℕ) (c : VComponent K) (a : Element K) → answer_fits a ≡ true → Stands w rest → Leads rest (fallback_answered app w b c a)
  fallback_leads w rest b c a f h =
      onward_leads w rest (onward (counted_render app w b (counts_render c a)) (λ v. after_hooks app v b)) (λ v. start_agenda app v b FallbackSide (tree_or_placeholder a))
      (onward_stay w (counted_render app w b (counts_render c a)) (λ v. after_hooks app v b) (counted_stay app lawful w b (counts_render c a)) (λ v. after_hooks_stay app lawful v b))
      h
      (λ v g. agenda_leads app v rest b FallbackSide (tree_or_placeholder a) g (answer_below a f))

  acted_idle : (w : State K) (s : ℕ) (m : Meaning K Nothing) (o : Option CallFault) → Idle (elim o as (λ z. Outcome K) [ None ↦ Done (commands app (with_next w m.next) s None m.commands) [] | Some f ↦ Cut (with_next w m.next) (fault_of f) ])
  acted_idle w s m None = refl
  acted_idle w s m (Some f) = tt

  pub called_back_idle : (w : State K) (es : List (ℕ × K.Effect)) → Idle (called_back app w es)
  called_back_idle w [] = refl
  called_back_idle w (e ∷ es) =
      either_idle (is_live w e.0) (onward (acted app w e.0 e.1 false) (λ v. called_back app v es)) (called_back app w es)
      (onward_idle (acted app w e.0 e.1 false) (λ v. called_back app v es) (λ v. called_back_idle v es))
      (called_back_idle w es)

  row_leads : (w : State K) (rest : List (Item K)) (b : ℕ) (x : Scope K) (step : RowStep) → at w.scopes b ≡ Some x → Stands w rest → Leads rest (row_step app w b x step)
  row_leads w rest b x PatchChildren e h = agenda_leads app w rest b ChildrenSide (children_of x.component) h (children_fit x.component (h.parts b x e))
  row_leads w rest b x MadeChildren e h =
      work_leads w rest (row_items b (if is_held x then RunFallback ∷ ShowFallback ∷ [] else ShowChildren ∷ Resolve ∷ [])) (rows_fit app b (if is_held x then RunFallback ∷ ShowFallback ∷ [] else ShowChildren ∷ Resolve ∷ [])) h
  row_leads w rest b x RunFallback e h = call_leads w rest b x.component (λ v a. fallback_answered app v b x.component a) (λ v a f g. fallback_leads v rest b x.component a f g) h
  row_leads w rest b x ShowFallback e h =
      let v : State K = record w { resolved = drop_number w.resolved b } in
      stay_stands w (change v b (λ y. record y { shows = Some FallbackSide })) rest
      (stay_trans w v (change v b (λ y. record y { shows = Some FallbackSide })) (stay_rest w v refl refl refl) (change_stay v b (λ y. record y { shows = Some FallbackSide }) (λ y. refl)))
      h
  row_leads w rest b x ShowChildren e h =
      let v : State K = record w { last_calls = without w.last_calls b } in
      stay_stands w (change v b (λ y. record y { shows = Some ChildrenSide; reads = [] })) rest
      (stay_trans w v (change v b (λ y. record y { shows = Some ChildrenSide; reads = [] })) (stay_rest w v refl refl refl) (change_stay v b (λ y. record y { shows = Some ChildrenSide; reads = [] }) (λ y. refl)))
      h
  row_leads w rest b x DropFallback e h =
      let work : List (Item K) = drop_items b FallbackSide (side_scopes w x.fallback_side) in
      emptied_stands w rest (work ++ rest) b h (items_both work rest (drop_items_fit app b FallbackSide (side_scopes w x.fallback_side)) h.items) (λ t a q l g. among_right work rest (Draw t a q l) g)
  row_leads w rest b x Resolve e h =
      let v : State K = record w { resolved = w.resolved ++ b ∷ [] } in
      let u : State K = change v b (λ y. record y { callbacks = [] }) in
      stay_leads w rest (called_back app u x.callbacks)
      (from_stay w u (called_back app u x.callbacks) (stay_trans w v u (stay_rest w v refl refl refl) (change_stay v b (λ y. record y { callbacks = [] }) (λ y. refl))) (called_back_stay app lawful u x.callbacks))
      (called_back_idle u x.callbacks)
      h

  step_at : (w : State K) (rest : List (Item K)) (b : ℕ) (step : RowStep) (o : Option (Scope K)) → at w.scopes b ≡ o → Stands w rest → Leads rest (elim o [ None ↦ Done w [] | Some x ↦ row_step app w b x step ])
  step_at w rest b step None e h = h
  step_at w rest b step (Some x) e h = row_leads w rest b x step e h

  -- a step of a boundary's run
  pub step_leads : (w : State K) (rest : List (Item K)) (b : ℕ) (step : RowStep) → Stands w rest → Leads rest (boundary_step app w b step)
  step_leads w rest b step h = step_at w rest b step (at w.scopes b) refl h

  cleaned_idle_at : (s : ℕ) (es : List K.Effect) (w : State K) (waiting : List (Command K)) (m : Meaning K Nothing) (o : Option CallFault) → Idle (cleaned app s es (with_next w m.next) (waiting ++ m.commands))
      → Idle (elim o as (λ z. Outcome K) [ None ↦ cleaned app s es (with_next w m.next) (waiting ++ m.commands) | Some f ↦ Cut (with_next w m.next) (fault_of f) ])
  cleaned_idle_at s es w waiting m None h = h
  cleaned_idle_at s es w waiting m (Some f) h = tt

  cleaned_idle : (s : ℕ) (es : List K.Effect) (w : State K) (waiting : List (Command K)) → Idle (cleaned app s es w waiting)
  cleaned_idle s [] w waiting = refl
  cleaned_idle s (e ∷ es) w waiting =
      let m : Meaning K Nothing = app.effect e (world_of w s None true) in cleaned_idle_at s es (called_once w) waiting m m.fault (cleaned_idle s es (with_next (called_once w) m.next) (waiting ++ m.commands))

  -- a removal leads to no work
  pub removed_idle : (w : State K) (s : ℕ) → Idle (removed app w s)
  removed_idle w s = let v : State K = stopped w s in cleaned_idle s (clean_ups (hooks_of v s) []) v []

  -- a removal
  pub removed_leads : (w : State K) (rest : List (Item K)) (s : ℕ) → Stands w rest → Leads rest (removed app w s)
  removed_leads w rest s h = stay_leads w rest (removed app w s) (removed_stay app lawful w s) (removed_idle w s) h

  polled_idle_by : (w : State K) (t : ℕ) (x : TaskRow K) (m : Meaning K (TaskStep K)) (o : Option CallFault) → Idle (elim o as (λ z. Outcome K) [
    | None ↦ Done (polled_to app (with_next w m.next) t x m m.answer) []
    | Some f ↦ Cut (with_next w m.next) (fault_of f)
  ])
  polled_idle_by w t x m None = refl
  polled_idle_by w t x m (Some f) = tt

  pub polled_idle : (w : State K) (t : ℕ) (o : Option (TaskRow K)) → Idle (polled_at app w t o)
  polled_idle w t None = refl
  polled_idle w t (Some x) = let m : Meaning K (TaskStep K) = app.poll x.state (world_of w x.scope (Some t) false) in polled_idle_by (called_once w) t x m m.fault

  -- a poll
  pub polled_leads : (w : State K) (rest : List (Item K)) (t : ℕ) → Stands w rest → Leads rest (polled app w t)
  polled_leads w rest t h = stay_leads w rest (polled app w t) (polled_stay app lawful w t) (polled_idle (unqueued w t) t (at w.tasks t)) h

  batch_idle : (w : State K) (s : ℕ) (es : List K.Effect) → Idle (batch app w s es)
  batch_idle w s [] = refl
  batch_idle w s (e ∷ es) = onward_idle (acted app w s e false) (λ v. batch app v s es) (λ v. batch_idle v s es)

  -- effects
  pub effects_leads : (w : State K) (rest : List (Item K)) (s : ℕ) → Stands w rest → Leads rest (effects_run app w s)
  effects_leads w rest s h =
      stay_leads w rest (effects_run app w s) (effects_stay app lawful w s) (batch_idle (change w s (λ x. record x { effects = [] })) s (effects_of w s)) h
