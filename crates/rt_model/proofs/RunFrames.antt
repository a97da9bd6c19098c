-- What a run and the steps of a boundary leave as it was.
use Rattle.std.proofs.Common.{ℕ, Bool, true, false, List, [], ◌∷◌, ◌++◌, ◌≡◌, ◌≤◌, ◌<◌, ◌+◌, refl, sym, ◌∙◌, arith, subst}
use Rattle.std.specs.Prelude.{Option, Some, None, if◌then◌else◌, flat_map}
use Rattle.rt_model.specs.Lists.{at, without, drop_number}
use Rattle.rt_model.specs.Tree.{Types, CapturedError, Tree, placeholder_tree, VComponent, Own, Root, Fragment, ErrorBoundary, SuspenseBoundary, Element, rendered, failed, suspended, spots}
use Rattle.rt_model.specs.World.{Source, Error, Firsts, before_render_kind, CallFault, Hook, Command, Spawn, World, Meaning, Application}
use Rattle.rt_model.specs.Laws as laws
use Rattle.rt_model.specs.Laws.{CountUp, IsNumbered, IsLawful}
use Rattle.rt_model.specs.State.{SideName, MainSide, ChildrenSide, FallbackSide, BadNode, RowStep, PatchChildren, MadeChildren, RunFallback, ShowFallback, ShowChildren, DropFallback, Resolve, Side, Scope, State, Outcome, Done, Cut, onward, empty_side, side_of, with_side, change, is_held, world_of}
use Rattle.rt_model.specs.Commands.{commands}
use Rattle.rt_model.specs.Run.{fault_of, plain, error_tree, root_tree, children_tree, with_next, answer_fits, kept_call, spots_of, unmarked, has_output, row_of, runs_fallback, row_items, caught, body_of, acted, hooks_called, after_hooks, call_body, patched, start_agenda, settled_answer, new_output, after_answer, boundary_run, run_as, run, called_once, called_where, is_own, answered_with}
use Rattle.rt_model.specs.Boundary.{tree_or_placeholder, children_of, counts_render, counted_render, fallback_answered, called_back, row_step, boundary_step}
use Rattle.rt_model.specs.Lasting.{Rises}
use Rattle.rt_model.proofs.Tour.{AllFresh}
use Rattle.rt_model.proofs.TourCalls as tour
use Rattle.rt_model.proofs.TourCalls.{state_of, Goes, Calls}
use Rattle.rt_model.proofs.Frames.{shape, shape_steady, Same, same_refl, same_trans, same_rest, with_put, change_same, commands_same}

pub rises_refl : (f : Firsts) → Rises f f
rises_refl f =
    let p : f.tasks ≤ f.tasks = omega arith in
    let q : f.cells ≤ f.cells = omega arith in
    let r : f.contexts ≤ f.contexts = omega arith in
    let s : f.elements ≤ f.elements = omega arith in
    let t : f.errors ≤ f.errors = omega arith in
    record { tasks = p; cells = q; contexts = r; elements = s; errors = t }

pub rises_trans : (f g h : Firsts) → Rises f g → Rises g h → Rises f h
rises_trans f g h a b =
    let p : f.tasks ≤ h.tasks = omega (arith, a.tasks, b.tasks) in
    let q : f.cells ≤ h.cells = omega (arith, a.cells, b.cells) in
    let r : f.contexts ≤ h.contexts = omega (arith, a.contexts, b.contexts) in
    let s : f.elements ≤ h.elements = omega (arith, a.elements, b.elements) in
    let t : f.errors ≤ h.errors = omega (arith, a.errors, b.errors) in
    record { tasks = p; cells = q; contexts = r; elements = s; errors = t }

pub count_rises : (n : ℕ) (xs : List ℕ) (k : ℕ) → CountUp n xs k → n ≤ k
count_rises n [] k h = omega (arith, h)
count_rises n (x ∷ xs) k h = let more : n + 1 ≤ k = count_rises (n + 1) xs k h.1 in omega (arith, more)

module _ {K : Types} where
  pub numbered_rises : (f : Firsts) (cs : List (Command K)) (g : Firsts) → IsNumbered f cs g → Rises f g
  numbered_rises f cs g n =
      let s : f.elements ≤ g.elements = omega (arith, n.elements) in
      record {
        tasks = count_rises f.tasks (flat_map laws.new_task cs) g.tasks n.tasks;
        cells = count_rises f.cells (flat_map laws.new_cell cs) g.cells n.cells;
        contexts = count_rises f.contexts (flat_map laws.new_context cs) g.contexts n.contexts;
        elements = s;
        errors = n.errors;
      }

  -- the scopes with their parents and heights are the same, no ended task is there again, and no counter falls
  pub record Later (w v : State K) : Type 0 where
    pub shapes : (s : ℕ) → shape (at v.scopes s) ≡ shape (at w.scopes s)
    pub ended : (t : ℕ) → t < w.next.tasks → at w.tasks t ≡ None → at v.tasks t ≡ None
    pub rises : Rises w.next v.next
    pub next_scope : v.next_scope ≡ w.next_scope

  pub later_refl : (w : State K) → Later w w
  later_refl w = record { shapes = λ s. refl; ended = λ t l e. e; rises = rises_refl w.next; next_scope = refl }

  pub later_trans : (u v w : State K) → Later u v → Later v w → Later u w
  later_trans u v w p q =
      let below : (t : ℕ) → t < u.next.tasks → t < v.next.tasks = λ t l. omega (arith, l, p.rises.tasks) in
      record {
        shapes = λ s. q.shapes s ∙ p.shapes s;
        ended = λ t l e. q.ended t (below t l) (p.ended t l e);
        rises = rises_trans u.next v.next w.next p.rises q.rises;
        next_scope = q.next_scope ∙ p.next_scope;
      }

  -- next numbers rise, and then nothing but what commands may change does
  pub after_next : (w : State K) (n : Firsts) (v : State K) → Rises w.next n → Same w.next.tasks (with_next w n) v → Later w v
  after_next w n v r s =
      record { shapes = s.seen; ended = s.ended; rises = subst (λ (f : Firsts). Rises w.next f) (sym s.next) r; next_scope = s.next_scope }

  pub later_same : (w v : State K) → Same w.next.tasks w v → Later w v
  later_same w v s = after_next w w.next v (rises_refl w.next) s

  abbrev pub LaterO : State K → Outcome K → Type 0
  LaterO w o = Later w (state_of o)

  -- what is seen of a scope is its parent and height
  abbrev pub tasks_from : State K → ℕ
  tasks_from w = w.next.tasks

  pub later_goes : Goes shape Later tasks_from
  later_goes = record { after = later_trans; small = later_same }

  pub onward_later : (w : State K) (o : Outcome K) (f : State K → Outcome K) → LaterO w o → ((v : State K) → LaterO v (f v)) → LaterO w (onward o f)
  onward_later w o f h g = tour.onward_goes shape Later tasks_from shape_steady later_goes w o f h g

  pub later_either : (w : State K) (c : Bool) (x y : Outcome K) → LaterO w x → LaterO w y → LaterO w (if c then x else y)
  later_either w true x y h g = h
  later_either w false x y h g = g

  -- after a change, another outcome
  pub from_later : (w v : State K) (o : Outcome K) → Later w v → LaterO v o → LaterO w o
  from_later w v o h g = later_trans w v (state_of o) h g

  pub change_later : (w : State K) (s : ℕ) (f : Scope K → Scope K) → ((x : Scope K) → shape (Some (f x)) ≡ shape (Some x)) → Later w (change w s f)
  change_later w s f h = later_same w (change w s f) (change_same w.next.tasks w s f h)

  plain_numbered : (w : World K) (reads : List Source) (answer : Element K) → IsNumbered w.given.next (plain w reads answer).commands (plain w reads answer).next
  plain_numbered w reads answer =
      let none : w.given.next.errors ≤ w.given.next.errors = omega arith in
      record { cells = refl; contexts = refl; tasks = refl; elements = refl; errors = none }

  pub unmarked_later : (w : State K) (s : ℕ) → Later w (unmarked w s)
  unmarked_later w s = later_same w (unmarked w s) (same_rest w.next.tasks w (unmarked w s) refl refl refl refl)

  side_shape : (x : Scope K) (side : SideName) (a : Side K) → shape (Some (with_side x side a)) ≡ shape (Some x)
  side_shape x MainSide a = refl
  side_shape x ChildrenSide a = refl
  side_shape x FallbackSide a = refl

module _ {K : Types} (app : Application K) (lawful : IsLawful K app) where
  -- new tasks of a call are at least the world's next one
  pub fresh : (first k b : ℕ) (cs : List (Command K)) → b ≤ first → CountUp first (flat_map laws.new_task cs) k → AllFresh app b cs
  fresh first k b [] l h = tt
  fresh first k b (Spawn t a x y ∷ cs) l h =
      let above : b ≤ t = omega (arith, l, h.0) in
      let more : b ≤ first + 1 = omega (arith, l) in
      (above, fresh (first + 1) k b cs more h.1)
  fresh first k b (c ∷ cs) l h = (tt, fresh first k b cs l h)

  -- the commands of a call, after its next numbers
  pub called : {A : Type 0} (w : State K) (s : ℕ) (polled : Option ℕ) (m : Meaning K A) → IsNumbered w.next m.commands m.next → Later w (commands app (with_next w m.next) s polled m.commands)
  called w s polled m n =
      let least : w.next.tasks ≤ w.next.tasks = omega arith in
      after_next w m.next _ (numbered_rises w.next m.commands m.next n)
      (commands_same app w.next.tasks (with_next w m.next) s polled m.commands (fresh w.next.tasks m.next.tasks w.next.tasks m.commands least n.tasks))

  -- and after another change of one scope
  pub called_after : {A : Type 0} (w : State K) (s : ℕ) (polled : Option ℕ) (m : Meaning K A) (v : State K) → IsNumbered w.next m.commands m.next → Same w.next.tasks (with_next w m.next) v → Later w (commands app v s polled m.commands)
  called_after w s polled m v n h =
      let least : w.next.tasks ≤ w.next.tasks = omega arith in
      after_next w m.next _ (numbered_rises w.next m.commands m.next n)
      (same_trans w.next.tasks (with_next w m.next) v _ h
      (commands_same app w.next.tasks v s polled m.commands (fresh w.next.tasks m.next.tasks w.next.tasks m.commands least n.tasks)))

  pub next_later : {A : Type 0} (w : State K) (m : Meaning K A) → IsNumbered w.next m.commands m.next → Later w (with_next w m.next)
  next_later w m n = after_next w m.next (with_next w m.next) (numbered_rises w.next m.commands m.next n) (same_refl w.next.tasks (with_next w m.next))

  pub once_later : (w : State K) → Later w (called_once w)
  once_later w = later_same w (called_once w) (same_rest w.next.tasks w (called_once w) refl refl refl refl)

  pub later_calls : Calls shape Later tasks_from shape_steady later_goes app (λ f cs g. IsNumbered f cs g)
  later_calls = record { effects = lawful.effects_number; polls = lawful.polls_number; next = next_later; called = called }

  pub acted_later : (w : State K) (s : ℕ) (e : K.Effect) (rendering : Bool) → LaterO w (acted app w s e rendering)
  acted_later w s e rendering = tour.acted_goes shape Later tasks_from shape_steady later_goes app (λ f cs g. IsNumbered f cs g) later_calls w s e rendering

  pub hooks_later : (kind : ℕ) (w : State K) (s : ℕ) (hs : List (Hook K)) → LaterO w (hooks_called app kind w s hs)
  hooks_later kind w s hs = tour.hooks_goes shape Later tasks_from shape_steady later_goes app (λ f cs g. IsNumbered f cs g) later_calls kind w s hs

  pub after_hooks_later : (w : State K) (s : ℕ) → LaterO w (after_hooks app w s)
  after_hooks_later w s = tour.after_hooks_goes shape Later tasks_from shape_steady later_goes app (λ f cs g. IsNumbered f cs g) later_calls w s

  caught_numbered : (children : Element K) (handler : Option (K.Component × K.Props)) (w : World K) (o : Option CapturedError) → IsNumbered w.given.next (caught app children handler w o).commands (caught app children handler w o).next
  caught_numbered children handler w None = plain_numbered w (Error w.given.scope ∷ []) (rendered (children_tree children))
  caught_numbered children None w (Some e) = plain_numbered w (Error w.given.scope ∷ []) (rendered (error_tree e.text))
  caught_numbered children (Some h) w (Some e) = lawful.bodies_number h.0 h.1 w

  pub body_numbered : (c : VComponent K) (w : World K) → IsNumbered w.given.next (body_of app c w).commands (body_of app c w).next
  body_numbered (Own component props) w = lawful.bodies_number component props w
  body_numbered (Root component props) w = plain_numbered w [] (rendered (root_tree component props))
  body_numbered (Fragment children) w = plain_numbered w [] children
  body_numbered (ErrorBoundary children handler) w = caught_numbered children handler w (w.values.error w.given.scope)
  body_numbered (SuspenseBoundary children None) w = plain_numbered w [] (rendered placeholder_tree)
  body_numbered (SuspenseBoundary children (Some f)) w = lawful.bodies_number f.0 f.1 w

  pub kept_same : (w : State K) (s : ℕ) (world : World K) (m : Meaning K (Element K)) → Same w.next.tasks (with_next w m.next) (kept_call w s world m)
  kept_same w s world m =
      let v : State K = with_next w m.next in
      let u : State K = change v s (λ x. record x { reads = m.reads }) in
      same_trans w.next.tasks v u (kept_call w s world m) (change_same w.next.tasks v s (λ x. record x { reads = m.reads }) (λ x. refl)) (same_rest w.next.tasks u (kept_call w s world m) refl refl refl refl)

  fits_later : (w : State K) (s : ℕ) (world : World K) (then_on : State K → Element K → Outcome K) (m : Meaning K (Element K)) (c : Bool) → IsNumbered w.next m.commands m.next
      → ((v : State K) (a : Element K) → LaterO v (then_on v a))
      → LaterO w (if c then then_on (commands app (kept_call w s world m) s None m.commands) m.answer else Cut (kept_call w s world m) (BadNode s))
  fits_later w s world then_on m true n g =
      from_later w (commands app (kept_call w s world m) s None m.commands) (then_on (commands app (kept_call w s world m) s None m.commands) m.answer) (called_after w s None m (kept_call w s world m) n (kept_same w s world m)) (g _ m.answer)
  fits_later w s world then_on m false n g = after_next w m.next (kept_call w s world m) (numbered_rises w.next m.commands m.next n) (kept_same w s world m)

  answered_at : (w : State K) (s : ℕ) (world : World K) (then_on : State K → Element K → Outcome K) (m : Meaning K (Element K)) (o : Option CallFault) → IsNumbered w.next m.commands m.next
      → ((v : State K) (a : Element K) → LaterO v (then_on v a))
      → LaterO w (elim o [
        | Some f ↦ Cut (with_next w m.next) (fault_of f)
        | None ↦
            if answer_fits m.answer
            then then_on (commands app (kept_call w s world m) s None m.commands) m.answer
            else Cut (kept_call w s world m) (BadNode s)
      ])
  answered_at w s world then_on m (Some f) n g = next_later w m n
  answered_at w s world then_on m None n g = fits_later w s world then_on m (answer_fits m.answer) n g

  own_later : (w : State K) (s : ℕ) (world : World K) (then_on : State K → Element K → Outcome K) (m : Meaning K (Element K)) (own : Bool) → IsNumbered w.next m.commands m.next
      → ((v : State K) (a : Element K) → LaterO v (then_on v a))
      → LaterO w (answered_with app (called_where own w) s world then_on m)
  own_later w s world then_on m true n g =
      from_later w (called_once w) (answered_with app (called_once w) s world then_on m) (once_later w) (answered_at (called_once w) s world then_on m m.fault n g)
  own_later w s world then_on m false n g = answered_at w s world then_on m m.fault n g

  pub call_later : (w : State K) (s : ℕ) (c : VComponent K) (then_on : State K → Element K → Outcome K) → ((v : State K) (a : Element K) → LaterO v (then_on v a)) → LaterO w (call_body app w s c then_on)
  call_later w s c then_on g =
      let world = world_of w s None true in own_later w s world then_on (body_of app c world) (is_own c world) (body_numbered c world) g

  agenda_at : (w : State K) (s : ℕ) (side : SideName) (tree : Tree K) (o : Option (Scope K)) → at w.scopes s ≡ o
      → LaterO w (elim o [
        | None ↦ Done w []
        | Some x ↦ patched app w s side tree (spots_of (side_of x side).output) (spots [] tree) (side_of x side) x
      ])
  agenda_at w s side tree None h = later_refl w
  agenda_at w s side tree (Some x) h = later_same w _ (with_put w.next.tasks w s x _ h (side_shape x side _))

  pub agenda_later : (w : State K) (s : ℕ) (side : SideName) (tree : Tree K) → LaterO w (start_agenda app w s side tree)
  agenda_later w s side tree = agenda_at w s side tree (at w.scopes s) refl

  pub settled_later : (w : State K) (s : ℕ) (a : Element K) → LaterO w (settled_answer app w s a)
  settled_later w s a = tour.settled_answer_goes shape Later tasks_from shape_steady later_goes app w s a

  output_later : (w : State K) (s : ℕ) (a : Element K) → LaterO w (new_output app w s a)
  output_later w s (rendered tree) = agenda_later w s MainSide tree
  output_later w s (failed e) = later_either w (has_output w s) (Done w []) (start_agenda app w s MainSide placeholder_tree) (later_refl w) (agenda_later w s MainSide placeholder_tree)
  output_later w s (suspended origin t) = later_either w (has_output w s) (Done w []) (start_agenda app w s MainSide placeholder_tree) (later_refl w) (agenda_later w s MainSide placeholder_tree)

  answer_later : (w : State K) (s : ℕ) (a : Element K) → LaterO w (after_answer app w s a)
  answer_later w s a =
      onward_later w (onward (settled_answer app w s a) (λ v. after_hooks app v s)) (λ v. new_output app v s a)
      (onward_later w (settled_answer app w s a) (λ v. after_hooks app v s) (settled_later w s a) (λ v. after_hooks_later v s))
      (λ v. output_later v s a)

  boundary_later : (w : State K) (b : ℕ) (steps : List RowStep) → LaterO w (boundary_run app w b steps)
  boundary_later w b steps =
      later_either w (runs_fallback steps) (Done w (row_items b steps)) (onward (after_hooks app w b) (λ v. Done v (row_items b steps)))
      (later_refl w)
      (onward_later w (after_hooks app w b) (λ v. Done v (row_items b steps)) (after_hooks_later w b) (λ v. later_refl v))

  run_as_later : (w : State K) (s : ℕ) (x : Scope K) (c : VComponent K) → LaterO w (run_as app w s x c)
  run_as_later w s x (SuspenseBoundary children fallback) = boundary_later w s (row_of x.shows (is_held x))
  run_as_later w s x (Own component props) = call_later w s (Own component props) (λ v a. after_answer app v s a) (λ v a. answer_later v s a)
  run_as_later w s x (Root component props) = call_later w s (Root component props) (λ v a. after_answer app v s a) (λ v a. answer_later v s a)
  run_as_later w s x (Fragment children) = call_later w s (Fragment children) (λ v a. after_answer app v s a) (λ v a. answer_later v s a)
  run_as_later w s x (ErrorBoundary children handler) = call_later w s (ErrorBoundary children handler) (λ v a. after_answer app v s a) (λ v a. answer_later v s a)

  run_at : (w : State K) (s : ℕ) (o : Option (Scope K)) → LaterO w (elim o [
    | None ↦ Done w []
    | Some x ↦ onward (hooks_called app before_render_kind (unmarked w s) s x.hooks) (λ v. run_as app v s x x.component)
  ])
  run_at w s None = later_refl w
  run_at w s (Some x) =
      from_later w (unmarked w s) (onward (hooks_called app before_render_kind (unmarked w s) s x.hooks) (λ v. run_as app v s x x.component)) (unmarked_later w s)
      (onward_later (unmarked w s) (hooks_called app before_render_kind (unmarked w s) s x.hooks) (λ v. run_as app v s x x.component)
      (hooks_later before_render_kind (unmarked w s) s x.hooks) (λ v. run_as_later v s x x.component))

  pub run_later : (w : State K) (s : ℕ) → LaterO w (run app w s)
  run_later w s = run_at w s (at w.scopes s)

  pub counted_later : (w : State K) (b : ℕ) (c : Bool) → LaterO w (counted_render app w b c)
  counted_later w b c = tour.counted_goes shape Later tasks_from shape_steady later_goes app w b c

  fallback_later : (w : State K) (b : ℕ) (c : VComponent K) (a : Element K) → LaterO w (fallback_answered app w b c a)
  fallback_later w b c a =
      onward_later w (onward (counted_render app w b (counts_render c a)) (λ v. after_hooks app v b)) (λ v. start_agenda app v b FallbackSide (tree_or_placeholder a))
      (onward_later w (counted_render app w b (counts_render c a)) (λ v. after_hooks app v b) (counted_later w b (counts_render c a)) (λ v. after_hooks_later v b))
      (λ v. agenda_later v b FallbackSide (tree_or_placeholder a))

  pub called_back_later : (w : State K) (es : List (ℕ × K.Effect)) → LaterO w (called_back app w es)
  called_back_later w es = tour.called_back_goes shape Later tasks_from shape_steady later_goes app (λ f cs g. IsNumbered f cs g) later_calls w es

  row_later : (w : State K) (b : ℕ) (x : Scope K) (step : RowStep) → LaterO w (row_step app w b x step)
  row_later w b x PatchChildren = agenda_later w b ChildrenSide (children_of x.component)
  row_later w b x MadeChildren = later_refl w
  row_later w b x RunFallback = call_later w b x.component (λ v a. fallback_answered app v b x.component a) (λ v a. fallback_later v b x.component a)
  row_later w b x ShowFallback =
      let v : State K = record w { resolved = drop_number w.resolved b } in
      later_trans w v _ (later_same w v (same_rest w.next.tasks w v refl refl refl refl)) (change_later v b (λ y. record y { shows = Some FallbackSide }) (λ y. refl))
  row_later w b x ShowChildren =
      let v : State K = record w { last_calls = without w.last_calls b } in
      later_trans w v _ (later_same w v (same_rest w.next.tasks w v refl refl refl refl)) (change_later v b (λ y. record y { shows = Some ChildrenSide; reads = [] }) (λ y. refl))
  row_later w b x DropFallback = change_later w b (λ y. record y { fallback_side = empty_side }) (λ y. refl)
  row_later w b x Resolve =
      let v : State K = record w { resolved = w.resolved ++ b ∷ [] } in
      let u : State K = change v b (λ y. record y { callbacks = [] }) in
      from_later w u (called_back app u x.callbacks) (later_trans w v u (later_same w v (same_rest w.next.tasks w v refl refl refl refl)) (change_later v b (λ y. record y { callbacks = [] }) (λ y. refl)))
      (called_back_later u x.callbacks)

  boundary_at : (w : State K) (b : ℕ) (step : RowStep) (o : Option (Scope K)) → LaterO w (elim o [ None ↦ Done w [] | Some x ↦ row_step app w b x step ])
  boundary_at w b step None = later_refl w
  boundary_at w b step (Some x) = row_later w b x step

  pub step_later : (w : State K) (b : ℕ) (step : RowStep) → LaterO w (boundary_step app w b step)
  step_later w b step = boundary_at w b step (at w.scopes b)
