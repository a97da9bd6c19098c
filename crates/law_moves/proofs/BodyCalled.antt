-- What the call of a scope's body leaves of that scope, and what a run leaves of all others.
use Rattle.std.proofs.Common.{ℕ, Bool, true, false, List, [], ◌∷◌, ◌++◌, ◌≡◌, ◌≤◌, ◌⊎◌, refl, sym, ap, ◌∙◌, subst, arith, inl, inr}
use Rattle.std.specs.Prelude.{Option, Some, None, if◌then◌else◌}
use Rattle.rt_model.specs.Lists.{at, put, without, drop_number}
use Rattle.rt_model.specs.Tree.{Types, Tree, placeholder_tree, VComponent, Own, Root, Fragment, ErrorBoundary, SuspenseBoundary, Element, rendered, failed, suspended, spots}
use Rattle.rt_model.specs.World.{Source, Cell, Error, Context, CallFault, before_render_kind, Meaning, World, Application}
use Rattle.rt_model.specs.Laws.{SameAt, IsNumbered, IsLawful}
use Rattle.rt_model.specs.State.{SideName, MainSide, ChildrenSide, FallbackSide, RowStep, PatchChildren, MadeChildren, RunFallback, ShowFallback, ShowChildren, DropFallback, Resolve, BadNode, Side, Scope, LastCall, State, Item, Outcome, Done, Cut, onward, side_of, with_side, empty_side, change, changed_scope, is_held, world_of}
use Rattle.rt_model.specs.Commands.{commands}
use Rattle.rt_model.specs.Run.{fault_of, with_next, called_once, called_where, is_own, answer_fits, output_of, with_last_call, kept_call, spots_of, has_output, row_of, runs_fallback, row_items, body_of, hooks_called, after_hooks, answered_with, call_body, kept_numbers, kept_children, serves, drops_of, patched, start_agenda, settled_answer, new_output, after_answer, boundary_run, run_as, run, unmarked}
use Rattle.rt_model.specs.Boundary.{tree_or_placeholder, children_of, counts_render, counted_render, fallback_answered, row_step, boundary_step, called_back}
use Rattle.rt_model.proofs.Maps.{eq_same, at_put_here}
use Rattle.rt_model.proofs.RunFrames.{body_numbered}
use Rattle.law_moves.proofs.Lists.{serves_are, drops_are}
use Rattle.law_moves.specs.Heeds.{Marked}
use Rattle.law_moves.proofs.Told.{put_by, change_quiet, CalmO, onward_calm, from_calm, calm_o_to, calm_o_if}
use Rattle.law_moves.proofs.Calm.{error_of, context_of, there_of, Pending, pending_on, Calm, calm_then, calm_to, calm_refl, quiet_calm, quiet_rest, no_fall}
use Rattle.law_moves.proofs.CalmCommands.{commands_calm}
use Rattle.law_moves.proofs.Looks.{all_from, cells_rise, next_quiet, once_quiet, unmarked_calm}
use Rattle.law_moves.proofs.Ran.{hooks_calm, after_hooks_calm, answered_calm, fallback_calm, called_back_calm}
use Rattle.law_moves.proofs.Owed.{rows_of, rows_join, NoRows, Kept, kept_by, kept_then, now_of, Called, called_stays}
use Rattle.law_moves.proofs.Alone.{Alone, alone_calm, put_alone, change_alone, call_own, no_call_own, side_error, side_contexts, side_holders, Then, serve_rows, drop_rows}

module _ {K : Types} (app : Application K) where
  -- the tree becomes the output of a side
  module _ (w : State K) (s : ℕ) (a : SideName) (tree : Tree K) (x : Scope K) (live : at w.scopes s ≡ Some x) where
    abbrev pub new_side : Side K
    new_side =
        record {
          output = Some tree;
          numbers = kept_numbers (spots [] tree) (side_of x a).numbers;
          children = kept_children app (spots_of (side_of x a).output) (spots [] tree) (side_of x a).children;
        }

    abbrev pub with_tree : State K
    with_tree = record w { scopes = put w.scopes s (with_side x a new_side) }

    abbrev pub agenda_of : List (Item K)
    agenda_of = serves app s a (spots_of (side_of x a).output) (spots [] tree) ++ drops_of app s a (spots [] tree) (side_of x a).children (spots_of (side_of x a).output)

    pub agenda_is : start_agenda app w s a tree ≡ Done with_tree agenda_of
    agenda_is =
        ap
        (λ (o : Option (Scope K)). elim o as (λ z. Outcome K) [
          | None ↦ Done w []
          | Some y ↦ patched app w s a tree (spots_of (side_of y a).output) (spots [] tree) (side_of y a) y
        ])
        live

    pub tree_own : Alone s w with_tree
    tree_own = put_alone w s x (with_side x a new_side) live (side_error x a new_side) (side_contexts x a new_side) (side_holders x a new_side)

    pub tree_there : at with_tree.scopes s ≡ Some (with_side x a new_side)
    tree_there = at_put_here w.scopes s (with_side x a new_side) s (eq_same s)

    pub agenda_rows : NoRows agenda_of
    agenda_rows b =
        let old = spots_of (side_of x a).output in
        rows_join b (serves app s a old (spots [] tree)) (drops_of app s a (spots [] tree) (side_of x a).children old)
        ∙ ap (λ (xs : List RowStep). xs ++ rows_of b (drops_of app s a (spots [] tree) (side_of x a).children old)) (serve_rows b (serves app s a old (spots [] tree)) (serves_are app s a old (spots [] tree)))
        ∙ drop_rows b (drops_of app s a (spots [] tree) (side_of x a).children old) (drops_are app s a (spots [] tree) (side_of x a).children old)

  agenda_calm_at : (n : ℕ) (w : State K) (s : ℕ) (a : SideName) (tree : Tree K) (o : Option (Scope K)) → at w.scopes s ≡ o
      → CalmO (Some s) n w (elim o as (λ z. Outcome K) [
        | None ↦ Done w []
        | Some y ↦ patched app w s a tree (spots_of (side_of y a).output) (spots [] tree) (side_of y a) y
      ])
  agenda_calm_at n w s a tree None live = calm_refl (Some s) n w
  agenda_calm_at n w s a tree (Some x) live = alone_calm n s w (with_tree w s a tree x live) (tree_own w s a tree x live)

  pub agenda_calm : (n : ℕ) (w : State K) (s : ℕ) (a : SideName) (tree : Tree K) → CalmO (Some s) n w (start_agenda app w s a tree)
  agenda_calm n w s a tree = agenda_calm_at n w s a tree (at w.scopes s) refl

  output_calm : (n : ℕ) (w : State K) (s : ℕ) (answer : Element K) → CalmO (Some s) n w (new_output app w s answer)
  output_calm n w s (rendered tree) = agenda_calm n w s MainSide tree
  output_calm n w s (failed e) = calm_o_if (Some s) n w (has_output w s) (Done w []) (start_agenda app w s MainSide placeholder_tree) (calm_refl (Some s) n w) (agenda_calm n w s MainSide placeholder_tree)
  output_calm n w s (suspended origin t) =
      calm_o_if (Some s) n w (has_output w s) (Done w []) (start_agenda app w s MainSide placeholder_tree) (calm_refl (Some s) n w) (agenda_calm n w s MainSide placeholder_tree)

  -- what a call leaves of its scope: x is the record before it
  pub record CallAt (n : ℕ) (w : State K) (s : ℕ) (x : Scope K) (last : LastCall K) (z : State K) : Type 0 where
    pub scope : Scope K
    pub found : at z.scopes s ≡ Some scope
    pub call : at z.last_calls s ≡ Some last
    pub same : Kept x scope
    pub before : last.before ≡ x.main_side.output
    pub low : last.given.given.next.cells ≤ n
    pub risen : n ≤ z.next.cells
    pub called : Called app z scope last ⊎ Marked z s
    pub marks : Pending w s → Pending z s
    pub held : (is_held scope ≡ is_held x) ⊎ Marked z s

  -- calm changes keep that
  pub call_stays : (n : ℕ) (w : State K) (s : ℕ) (x : Scope K) (last : LastCall K) (z v : State K) → Calm None n z v → CallAt n w s x last z → CallAt n w s x last v
  call_stays n w s x last z v f c =
      let y = there_of (at v.scopes s) (at z.scopes s) c.scope (f.heeds.stays s refl) c.found in
      let first = c.risen in
      let rises = f.rises in
      let up : n ≤ v.next.cells = omega (arith, first, rises) in
      record {
        scope = y.0;
        found = y.1;
        call = f.heeds.calls s refl ∙ c.call;
        same = kept_then x c.scope y.0 c.same (kept_by c.scope y.0 y.2);
        before = c.before;
        low = c.low;
        risen = up;
        called = elim c.called [ inl d ↦ called_stays app None n z v s c.scope y.0 last f refl c.found y.2 c.low d | inr m ↦ inr (f.heeds.marks s c.scope refl c.found m) ];
        marks = λ m. pending_on None n z v s c.scope f refl c.found (c.marks m);
        held = held_again y.0 (f.heeds.held s c.scope y.0 refl c.found y.1) c.held;
      }
    where
      held_again : (y : Scope K) → (is_held y ≡ is_held c.scope) ⊎ Marked v s → (is_held c.scope ≡ is_held x) ⊎ Marked z s → (is_held y ≡ is_held x) ⊎ Marked v s
      held_again y (inr m) h = inr m
      held_again y (inl e) (inl d) = inl (e ∙ d)
      held_again y (inl e) (inr m) = inr (f.heeds.marks s c.scope refl c.found m)

module _ {K : Types} (app : Application K) (lawful : IsLawful K app) where
  -- others at a call

  kept_calm : (n : ℕ) (w : State K) (s : ℕ) (world : World K) (m : Meaning K (Element K)) → w.next.cells ≤ m.next.cells → Calm (Some s) n w (kept_call w s world m)
  kept_calm n w s world m up =
      let a : State K = with_next w m.next in
      let b : State K = change a s (λ x. record x { reads = m.reads }) in
      let last : LastCall K = record { given = world; aside = m.aside; answer = m.answer; before = output_of w s } in
      calm_then (Some s) n w a (kept_call w s world m) (quiet_calm (Some s) n w a (next_quiet w m.next up))
      (calm_then (Some s) n a b (kept_call w s world m)
      (alone_calm n s a b (change_alone a s (λ x. record x { reads = m.reads }) (λ x. refl) (λ x. refl) (λ x. refl)))
      (alone_calm n s b (kept_call w s world m) (call_own b s last)))

  fits_calm : (n : ℕ) (w : State K) (s : ℕ) (world : World K) (then_on : State K → Element K → Outcome K) (m : Meaning K (Element K)) (b : Bool) → n ≤ w.next.cells → IsNumbered w.next m.commands m.next
      → ((v : State K) (a : Element K) → n ≤ v.next.cells → CalmO (Some s) n v (then_on v a))
      → CalmO (Some s) n w (if b then then_on (commands app (kept_call w s world m) s None m.commands) m.answer else Cut (kept_call w s world m) (BadNode s))
  fits_calm n w s world then_on m true low numbered h =
      let u : State K = kept_call w s world m in
      let v : State K = commands app u s None m.commands in
      let f : Calm (Some s) n w v =
      calm_then (Some s) n w u v (kept_calm n w s world m (cells_rise w.next m.next m.commands numbered))
      (calm_to (Some s) n u v (commands_calm app lawful.tests_values n u s None m.commands (all_from n w.next m.next m.commands low numbered))) in
      let rises = f.rises in
      let more : n ≤ v.next.cells = omega (arith, low, rises) in
      from_calm (Some s) n w v (then_on v m.answer) f (h v m.answer more)
  fits_calm n w s world then_on m false low numbered h = tt

  fault_calm : (n : ℕ) (w : State K) (s : ℕ) (world : World K) (then_on : State K → Element K → Outcome K) (m : Meaning K (Element K)) (o : Option CallFault) → n ≤ w.next.cells → IsNumbered w.next m.commands m.next
      → ((v : State K) (a : Element K) → n ≤ v.next.cells → CalmO (Some s) n v (then_on v a))
      → CalmO (Some s) n w (elim o as (λ z. Outcome K) [
        | Some f ↦ Cut (with_next w m.next) (fault_of f)
        | None ↦ if answer_fits m.answer then then_on (commands app (kept_call w s world m) s None m.commands) m.answer else Cut (kept_call w s world m) (BadNode s)
      ])
  fault_calm n w s world then_on m (Some f) low numbered h = tt
  fault_calm n w s world then_on m None low numbered h = fits_calm n w s world then_on m (answer_fits m.answer) low numbered h

  where_calm : (n : ℕ) (w : State K) (s : ℕ) (world : World K) (then_on : State K → Element K → Outcome K) (m : Meaning K (Element K)) (own : Bool) → n ≤ w.next.cells → IsNumbered w.next m.commands m.next
      → ((v : State K) (a : Element K) → n ≤ v.next.cells → CalmO (Some s) n v (then_on v a))
      → CalmO (Some s) n w (answered_with app (called_where own w) s world then_on m)
  where_calm n w s world then_on m true low numbered h =
      let u : State K = called_once w in
      from_calm (Some s) n w u (answered_with app u s world then_on m) (quiet_calm (Some s) n w u (once_quiet w)) (fault_calm n u s world then_on m m.fault low numbered h)
  where_calm n w s world then_on m false low numbered h = fault_calm n w s world then_on m m.fault low numbered h

  pub call_calm : (n : ℕ) (w : State K) (s : ℕ) (c : VComponent K) (then_on : State K → Element K → Outcome K) → n ≤ w.next.cells
      → ((v : State K) (a : Element K) → n ≤ v.next.cells → CalmO (Some s) n v (then_on v a))
      → CalmO (Some s) n w (call_body app w s c then_on)
  call_calm n w s c then_on low h =
      let world : World K = world_of w s None true in
      where_calm n w s world then_on (body_of app c world) (is_own c world) low (body_numbered app lawful c world) h

  answer_calm : (n : ℕ) (w : State K) (s : ℕ) (a : Element K) → n ≤ w.next.cells → CalmO (Some s) n w (after_answer app w s a)
  answer_calm n w s a low =
      let first : Outcome K = onward (settled_answer app w s a) (λ v. after_hooks app v s) in
      onward_calm (Some s) n w first (λ v. new_output app v s a) low (calm_o_to (Some s) n w first (answered_calm app lawful n w s a low)) (λ v more. output_calm app n v s a)

  fallback_others : (n : ℕ) (w : State K) (b : ℕ) (c : VComponent K) (a : Element K) → n ≤ w.next.cells → CalmO (Some b) n w (fallback_answered app w b c a)
  fallback_others n w b c a low =
      let first : Outcome K = onward (counted_render app w b (counts_render c a)) (λ v. after_hooks app v b) in
      onward_calm (Some b) n w first (λ v. start_agenda app v b FallbackSide (tree_or_placeholder a)) low
      (calm_o_to (Some b) n w first (fallback_calm app lawful n w b (counts_render c a) low))
      (λ v more. agenda_calm app n v b FallbackSide (tree_or_placeholder a))

  boundary_calm : (n : ℕ) (w : State K) (b : ℕ) (steps : List RowStep) → n ≤ w.next.cells → CalmO None n w (boundary_run app w b steps)
  boundary_calm n w b steps low =
      calm_o_if None n w (runs_fallback steps) (Done w (row_items b steps)) (onward (after_hooks app w b) (λ v. Done v (row_items b steps))) (calm_refl None n w)
      (onward_calm None n w (after_hooks app w b) (λ v. Done v (row_items b steps)) low (after_hooks_calm app lawful n w b low) (λ v more. calm_refl None n v))

  run_as_calm : (n : ℕ) (w : State K) (s : ℕ) (x : Scope K) (c : VComponent K) → n ≤ w.next.cells → CalmO (Some s) n w (run_as app w s x c)
  run_as_calm n w s x (SuspenseBoundary children fallback) low =
      calm_o_to (Some s) n w (boundary_run app w s (row_of x.shows (is_held x))) (boundary_calm n w s (row_of x.shows (is_held x)) low)
  run_as_calm n w s x (Own component props) low = call_calm n w s (Own component props) (λ v a. after_answer app v s a) low (λ v a more. answer_calm n v s a more)
  run_as_calm n w s x (Root component props) low = call_calm n w s (Root component props) (λ v a. after_answer app v s a) low (λ v a more. answer_calm n v s a more)
  run_as_calm n w s x (Fragment children) low = call_calm n w s (Fragment children) (λ v a. after_answer app v s a) low (λ v a more. answer_calm n v s a more)
  run_as_calm n w s x (ErrorBoundary children handler) low = call_calm n w s (ErrorBoundary children handler) (λ v a. after_answer app v s a) low (λ v a more. answer_calm n v s a more)

  run_calm_at : (n : ℕ) (w : State K) (s : ℕ) (o : Option (Scope K)) → n ≤ w.next.cells
      → CalmO (Some s) n w (elim o as (λ z. Outcome K) [
        | None ↦ Done w []
        | Some x ↦ onward (hooks_called app before_render_kind (unmarked w s) s x.hooks) (λ v. run_as app v s x x.component)
      ])
  run_calm_at n w s None low = calm_refl (Some s) n w
  run_calm_at n w s (Some x) low =
      let u : State K = unmarked w s in
      let o : Outcome K = hooks_called app before_render_kind u s x.hooks in
      from_calm (Some s) n w u (onward o (λ v. run_as app v s x x.component)) (unmarked_calm n w s)
      (onward_calm (Some s) n u o (λ v. run_as app v s x x.component) low (calm_o_to (Some s) n u o (hooks_calm app lawful n before_render_kind u s x.hooks low)) (λ v more. run_as_calm n v s x x.component more))

  -- a run heeds all other scopes
  pub run_calm : (n : ℕ) (w : State K) (s : ℕ) → n ≤ w.next.cells → CalmO (Some s) n w (run app w s)
  run_calm n w s low = run_calm_at n w s (at w.scopes s) low

  -- a step of a boundary's run does too
  row_calm : (n : ℕ) (w : State K) (b : ℕ) (x : Scope K) (step : RowStep) → n ≤ w.next.cells → CalmO (Some b) n w (row_step app w b x step)
  row_calm n w b x PatchChildren low = agenda_calm app n w b ChildrenSide (children_of x.component)
  row_calm n w b x MadeChildren low = calm_refl (Some b) n w
  row_calm n w b x RunFallback low = call_calm n w b x.component (λ v a. fallback_answered app v b x.component a) low (λ v a more. fallback_others n v b x.component a more)
  row_calm n w b x ShowFallback low =
      let v : State K = record w { resolved = drop_number w.resolved b } in
      let u : State K = change v b (λ y. record y { shows = Some FallbackSide }) in
      calm_then (Some b) n w v u (quiet_calm (Some b) n w v (quiet_rest w v refl refl refl refl refl refl refl refl (no_fall w)))
      (alone_calm n b v u (change_alone v b (λ y. record y { shows = Some FallbackSide }) (λ y. refl) (λ y. refl) (λ y. refl)))
  row_calm n w b x ShowChildren low =
      let v : State K = record w { last_calls = without w.last_calls b } in
      let u : State K = change v b (λ y. record y { shows = Some ChildrenSide; reads = [] }) in
      calm_then (Some b) n w v u (alone_calm n b w v (no_call_own w b))
      (alone_calm n b v u (change_alone v b (λ y. record y { shows = Some ChildrenSide; reads = [] }) (λ y. refl) (λ y. refl) (λ y. refl)))
  row_calm n w b x DropFallback low =
      alone_calm n b w (change w b (λ y. record y { fallback_side = empty_side })) (change_alone w b (λ y. record y { fallback_side = empty_side }) (λ y. refl) (λ y. refl) (λ y. refl))
  row_calm n w b x Resolve low = calm_o_to (Some b) n w (row_step app w b x Resolve) (resolve_calm n w b x low)
    where
      resolve_calm : (n : ℕ) (w : State K) (b : ℕ) (x : Scope K) → n ≤ w.next.cells → CalmO None n w (row_step app w b x Resolve)
      resolve_calm n w b x low =
          let v : State K = record w { resolved = w.resolved ++ b ∷ [] } in
          let u : State K = change v b (λ y. record y { callbacks = [] }) in
          let f : Calm None n w u =
          calm_then None n w v u (quiet_calm None n w v (quiet_rest w v refl refl refl refl refl refl refl refl (no_fall w)))
          (quiet_calm None n v u (change_quiet v b (λ y. record y { callbacks = [] }) (λ y. refl))) in
          let rises = f.rises in
          let more : n ≤ u.next.cells = omega (arith, low, rises) in
          from_calm None n w u (called_back app u x.callbacks) f (called_back_calm app lawful n u x.callbacks more)

  step_calm_at : (n : ℕ) (w : State K) (b : ℕ) (step : RowStep) (o : Option (Scope K)) → n ≤ w.next.cells → CalmO (Some b) n w (elim o as (λ z. Outcome K) [ None ↦ Done w [] | Some x ↦ row_step app w b x step ])
  step_calm_at n w b step None low = calm_refl (Some b) n w
  step_calm_at n w b step (Some x) low = row_calm n w b x step low

  pub step_calm : (n : ℕ) (w : State K) (b : ℕ) (step : RowStep) → n ≤ w.next.cells → CalmO (Some b) n w (boundary_step app w b step)
  step_calm n w b step low = step_calm_at n w b step (at w.scopes b) low

  -- the scope itself at a call

  module _ (P : State K → List (Item K) → Type 0) (s : ℕ) (c : VComponent K) (then_on : State K → Element K → Outcome K) where
    -- where the call was kept and its commands are done
    kept_then_on : (w : State K) (x : Scope K) → at w.scopes s ≡ Some x → x.component ≡ c
        → ((last : LastCall K) (z : State K) → CallAt app w.next.cells w s x last z → Then P (then_on z last.answer))
        → (m : Meaning K (Element K)) → m ≡ body_of app c (world_of w s None true)
        → Then P (then_on (commands app (kept_call w s (world_of w s None true) m) s None m.commands) m.answer)
    kept_then_on w x live kind go m is =
        subst (λ (k : State K). Then P (then_on (commands app k s None m.commands) m.answer)) (sym kept) (go last z at_z)
      where
        world : World K
        world = world_of w s None true

        numbered : IsNumbered w.next m.commands m.next
        numbered = subst (λ (d : Meaning K (Element K)). IsNumbered w.next d.commands d.next) (sym is) (body_numbered app lawful c world)

        last : LastCall K
        last = record { given = world; aside = m.aside; answer = m.answer; before = output_of w s }

        y : Scope K
        y = record x { reads = m.reads }

        b : State K
        b = record (with_next w m.next) { scopes = put w.scopes s y }

        u : State K
        u = with_last_call b s last

        kept : kept_call w s world m ≡ u
        kept = ap (λ (o : Option (Scope K)). with_last_call (changed_scope (with_next w m.next) s (λ i. record i { reads = m.reads }) o) s last) live

        z : State K
        z = commands app u s None m.commands

        level : w.next.cells ≤ w.next.cells
        level = omega arith

        up : w.next.cells ≤ m.next.cells
        up = cells_rise w.next m.next m.commands numbered

        here : at u.scopes s ≡ Some y
        here = at_put_here w.scopes s y s (eq_same s)

        same_now : (i : Source) → SameAt world (now_of u last) i
        same_now (Cell n) = λ low. refl
        same_now (Error t) = sym (put_by (λ o. error_of o) w.scopes s x y live refl t)
        same_now (Context k t) = sym (put_by (λ o. context_of k o) w.scopes s x y live refl t)

        called : Called app u y last
        called =
            record {
              caller = c;
              alike = λ d. (ap (λ (e : VComponent K). (body_of app e d).answer) (sym kind), ap (λ (e : VComponent K). (body_of app e d).reads) (sym kind));
              stands =
                  record {
                    answer = ap (λ (d : Meaning K (Element K)). d.answer) is;
                    reads = ap (λ (d : Meaning K (Element K)). d.reads) is;
                    aside = ap (λ (d : Meaning K (Element K)). d.aside) is;
                  };
              low = up;
              fresh = λ i q. same_now i;
            }

        at_u : CallAt app w.next.cells w s x last u
        at_u =
            record {
              scope = y;
              found = here;
              call = at_put_here w.last_calls s last s (eq_same s);
              same = record { component = refl; shows = refl; main_output = refl; children_output = refl; fallback_output = refl };
              before = ap (λ (o : Option (Scope K)). elim o as (λ i. Option (Tree K)) [ None ↦ None | Some i ↦ i.main_side.output ]) live;
              low = level;
              risen = up;
              called = inl called;
              marks = λ h. h;
              held = inl refl;
            }

        at_z : CallAt app w.next.cells w s x last z
        at_z = call_stays app w.next.cells w s x last u z (commands_calm app lawful.tests_values w.next.cells u s None m.commands (all_from w.next.cells w.next m.next m.commands level numbered)) at_u

    fits_then : (w : State K) (x : Scope K) (m : Meaning K (Element K)) (b : Bool) → at w.scopes s ≡ Some x → x.component ≡ c
        → ((last : LastCall K) (z : State K) → CallAt app w.next.cells w s x last z → Then P (then_on z last.answer))
        → m ≡ body_of app c (world_of w s None true)
        → Then P (if b then then_on (commands app (kept_call w s (world_of w s None true) m) s None m.commands) m.answer else Cut (kept_call w s (world_of w s None true) m) (BadNode s))
    fits_then w x m true live kind go is = kept_then_on w x live kind go m is
    fits_then w x m false live kind go is = tt

    fault_then : (w : State K) (x : Scope K) (m : Meaning K (Element K)) (o : Option CallFault) → at w.scopes s ≡ Some x → x.component ≡ c
        → ((last : LastCall K) (z : State K) → CallAt app w.next.cells w s x last z → Then P (then_on z last.answer))
        → m ≡ body_of app c (world_of w s None true)
        → Then P (elim o as (λ z. Outcome K) [
          | Some f ↦ Cut (with_next w m.next) (fault_of f)
          | None ↦
              if answer_fits m.answer
              then then_on (commands app (kept_call w s (world_of w s None true) m) s None m.commands) m.answer
              else Cut (kept_call w s (world_of w s None true) m) (BadNode s)
        ])
    fault_then w x m (Some f) live kind go is = tt
    fault_then w x m None live kind go is = fits_then w x m (answer_fits m.answer) live kind go is

    where_then : (w : State K) (x : Scope K) (m : Meaning K (Element K)) (own : Bool) → at w.scopes s ≡ Some x → x.component ≡ c
        → ((u : State K) → at u.scopes s ≡ Some x → (Pending w s → Pending u s) → (last : LastCall K) (z : State K) → CallAt app u.next.cells u s x last z → Then P (then_on z last.answer))
        → m ≡ body_of app c (world_of w s None true)
        → Then P (answered_with app (called_where own w) s (world_of w s None true) then_on m)
    where_then w x m true live kind go is = fault_then (called_once w) x m m.fault live kind (λ last z d. go (called_once w) live (λ h. h) last z d) is
    where_then w x m false live kind go is = fault_then w x m m.fault live kind (λ last z d. go w live (λ h. h) last z d) is

    -- what follows a call is told how the call left its scope
    pub call_then : (w : State K) (x : Scope K) → at w.scopes s ≡ Some x → x.component ≡ c
        → ((u : State K) → at u.scopes s ≡ Some x → (Pending w s → Pending u s) → (last : LastCall K) (z : State K) → CallAt app u.next.cells u s x last z → Then P (then_on z last.answer))
        → Then P (call_body app w s c then_on)
    call_then w x live kind go = where_then w x (body_of app c (world_of w s None true)) (is_own c (world_of w s None true)) live kind go refl
