-- A run keeps what its body read.
use Rattle.std.proofs.Common.{ℕ, ◌+◌, Bool, true, false, List, [], ◌∷◌, ◌++◌, ◌≡◌, refl, sym, ap, ◌∙◌, subst}
use Rattle.std.specs.Prelude.{Option, Some, None, if◌then◌else◌}
use Rattle.rt_model.specs.Lists.{at, put}
use Rattle.rt_model.specs.Tree.{Types, Tree, placeholder_tree, VComponent, Own, Root, Fragment, ErrorBoundary, SuspenseBoundary, is_suspense_boundary, Element, rendered, failed, suspended, spots}
use Rattle.rt_model.specs.World.{Source, Renders, at_end, before_render_kind, after_render_kind, CallFault, Hook, HookValue, HookEffect, Command, World, Meaning, Nothing, Application}
use Rattle.rt_model.specs.State.{SideName, MainSide, ChildrenSide, FallbackSide, Mark, SuspendedTask, IdsExhausted, BadNode, Side, Scope, TaskRow, State, Item, Outcome, Done, Cut, onward, side_of, with_side, changed_scope, change, error_context, location, holds, hooks_of, renders_of, world_of}
use Rattle.rt_model.specs.Commands.{post, commands}
use Rattle.rt_model.specs.Run.{fault_of, with_next, called_once, called_where, is_own, answer_fits, kept_call, is_kind, spots_of, raised, joins, suspends_on, unmarked, has_output, body_of, acted, hook_called, hooks_called, after_hooks, call_body, patched, start_agenda, settled_answer, new_output, after_answer, run_as, run}
use Rattle.rt_model.proofs.Maps.{eq_same, at_put_here}
use Rattle.law_behavior.specs.Holding.{RunsKeepReads}
use Rattle.law_behavior.proofs.Frames.{Free, permits, Frame}
use Rattle.law_behavior.proofs.Enduring.{finely}
use Rattle.law_behavior.proofs.Commanded.{throws_anyway, throw_on, commands_on}
use Rattle.law_behavior.proofs.Steadfast.{fresh_anyway, all_allowed, Of, Other, of_others, of_change, Bears, of_endures}

module _ {K : Types} (app : Application K) (s : ℕ) (Q : List Source → Type 0) where
  -- the scope is live, and Q holds of what it read
  abbrev Reads : State K → Type 0
  Reads w = Of s (λ x. Q x.reads) w

  reads_bear : Bears s (λ (x : Scope K). Q x.reads) Free Free Free
  reads_bear =
      record {
        same = λ x y same q. subst (λ (xs : List Source). Q xs) (sym same.reads) q;
        hooks = λ x h q. q;
        joins = λ x t origin q. q;
        throws = λ x e none q. q;
        clears = λ x may q. q;
        feeds = λ x c may q. q;
        ends = λ x t may q. q;
      }

  reads_endure : Frame app (λ (w : State K). Reads w) (λ (w : State K). Reads w) 0 (permits Free Free Free (λ r. Other s r))
  reads_endure = finely (λ (w : State K). Reads w) 0 Free Free Free (λ r. Other s r) (of_endures s (λ (x : Scope K). Q x.reads) Free Free Free reads_bear) app

  commands_keep : (w : State K) (r : ℕ) (polled : Option ℕ) (cs : List (Command K)) → Reads w → Reads (commands app w r polled cs)
  commands_keep w r polled cs h =
      commands_on app (λ v. Reads v) (λ v. Reads v) 0 (permits Free Free Free (λ t. Other s t)) reads_endure w r polled cs (all_allowed app (λ v. Reads v) (λ v. Reads v) 0 Free (λ t. Other s t) reads_endure w r polled cs (fresh_anyway app cs)) h

  abbrev ReadsO : Outcome K → Type 0
  ReadsO (Done v work) = Reads v
  ReadsO (Cut v fault) = Unit {0}

  onward_keeps : (o : Outcome K) (f : State K → Outcome K) → ReadsO o → ((v : State K) → Reads v → ReadsO (f v)) → ReadsO (onward o f)
  onward_keeps (Done v work) f h g = g v h
  onward_keeps (Cut v fault) f h g = tt

  either_keeps : (x y : Outcome K) (b : Bool) → ReadsO x → ReadsO y → ReadsO (if b then x else y)
  either_keeps x y true f g = f
  either_keeps x y false f g = g

  acted_keeps : (w : State K) (r : ℕ) (e : K.Effect) (rendering : Bool) → Reads w → ReadsO (acted app w r e rendering)
  acted_keeps w r e rendering h =
      let m : Meaning K Nothing = app.effect e (world_of (called_once w) r None rendering) in
      on m m.fault
    where
      on : (m : Meaning K Nothing) (o : Option CallFault)
          → ReadsO (elim o as (λ z. Outcome K) [ None ↦ Done (commands app (with_next (called_once w) m.next) r None m.commands) [] | Some f ↦ Cut (with_next (called_once w) m.next) (fault_of f) ])
      on m None = commands_keep (with_next (called_once w) m.next) r None m.commands (of_others s (λ x. Q x.reads) w (with_next (called_once w) m.next) refl h)
      on m (Some f) = tt

  hook_keeps : (w : State K) (r : ℕ) (k : Hook K) → Reads w → ReadsO (hook_called app w r k)
  hook_keeps w r (HookValue k v) h = h
  hook_keeps w r (HookEffect k e) h = acted_keeps w r e true h

  hooks_keep : (kind : ℕ) (r : ℕ) (hs : List (Hook K)) (w : State K) → Reads w → ReadsO (hooks_called app kind w r hs)
  hooks_keep kind r [] w h = h
  hooks_keep kind r (k ∷ hs) w h =
      either_keeps (onward (hook_called app w r k) (λ v. hooks_called app kind v r hs)) (hooks_called app kind w r hs) (is_kind kind k)
      (onward_keeps (hook_called app w r k) (λ v. hooks_called app kind v r hs) (hook_keeps w r k h) (λ v g. hooks_keep kind r hs v g))
      (hooks_keep kind r hs w h)

  raised_keeps : (w : State K) (r : ℕ) → Reads w → ReadsO (raised w r)
  raised_keeps w r h =
      either_keeps (Cut w (IdsExhausted Renders)) (Done (change w r (λ x. record x { renders = x.renders + 1 })) []) (at_end (renders_of w r)) tt
      (of_change s (λ x. Q x.reads) w r (λ x. record x { renders = x.renders + 1 }) (λ x live q. q) h)

  joined_keeps : (w : State K) (origin t b : ℕ) (o : Option (Scope K)) → Reads w → Reads (elim o as (λ z. State K) [
    | None ↦ w
    | Some x ↦ if holds x t then w else post (change w b (λ y. record y { holders = y.holders ++ (t, origin) ∷ [] })) (Mark b)
  ])
  joined_keeps w origin t b None h = h
  joined_keeps w origin t b (Some x) h = either (holds x t)
    where
      either : (c : Bool) → Reads (if c then w else post (change w b (λ y. record y { holders = y.holders ++ (t, origin) ∷ [] })) (Mark b))
      either true = h
      either false =
          let u : State K = change w b (λ y. record y { holders = y.holders ++ (t, origin) ∷ [] }) in
          reads_endure.marks u b (of_change s (λ y. Q y.reads) w b (λ y. record y { holders = y.holders ++ (t, origin) ∷ [] }) (λ y live q. q) h)

  joins_keep : (w : State K) (origin t : ℕ) (o : Option (ℕ × SideName)) → Reads w → Reads (joins w origin t o)
  joins_keep w origin t None h = h
  joins_keep w origin t (Some (b, MainSide)) h = h
  joins_keep w origin t (Some (b, FallbackSide)) h = h
  joins_keep w origin t (Some (b, ChildrenSide)) h = joined_keeps w origin t b (at w.scopes b) h

  suspends_keep : (w : State K) (r origin t : ℕ) (o : Option (TaskRow K)) → Reads w → ReadsO (suspends_on w r origin t o)
  suspends_keep w r origin t None h = tt
  suspends_keep w r origin t (Some x) h =
      let v : State K = record w { tasks = put w.tasks t (record x { kind = SuspendedTask }) } in
      joins_keep v origin t (location w r) (of_others s (λ y. Q y.reads) w v refl h)

  settled_keeps : (w : State K) (r : ℕ) (answer : Element K) → Reads w → ReadsO (settled_answer app w r answer)
  settled_keeps w r (rendered tree) h = raised_keeps w r h
  settled_keeps w r (failed e) h = throw_on app (λ v. Reads v) (λ v. Reads v) 0 (permits Free Free Free (λ t. Other s t)) reads_endure w r e
      (throws_anyway app (λ v. Reads v) (λ v. Reads v) 0 (permits Free Free Free (λ t. Other s t)) reads_endure (λ v c. tt) w (error_context w r)) h
  settled_keeps w r (suspended origin t) h = suspends_keep w r origin t (at w.tasks t) h

  side_reads : (x : Scope K) (side : SideName) (a : Side K) → (with_side x side a).reads ≡ x.reads
  side_reads x MainSide a = refl
  side_reads x ChildrenSide a = refl
  side_reads x FallbackSide a = refl

  put_keeps : (w : State K) (r : ℕ) (x : Scope K) (side : SideName) (a : Side K) → at w.scopes r ≡ Some x → Reads w → Reads (record w { scopes = put w.scopes r (with_side x side a) })
  put_keeps w r x side a live h =
      subst (λ (v : State K). Reads v) (ap (λ (o : Option (Scope K)). changed_scope w r (λ y. with_side x side a) o) live)
      (
      of_change s (λ y. Q y.reads) w r (λ y. with_side x side a)
      (
      λ y there q.
      let found : Some x ≡ Some y = sym live ∙ there in
      let same : x ≡ y = cc in
      subst (λ (xs : List Source). Q xs) (sym (side_reads x side a ∙ ap (λ (z : Scope K). z.reads) same)) q
      ) h
      )

  agenda_keeps : (w : State K) (r : ℕ) (side : SideName) (tree : Tree K) → Reads w → ReadsO (start_agenda app w r side tree)
  agenda_keeps w r side tree h = on (at w.scopes r) refl
    where
      on : (o : Option (Scope K)) → at w.scopes r ≡ o → ReadsO (elim o as (λ z. Outcome K) [
        | None ↦ Done w []
        | Some x ↦ patched app w r side tree (spots_of (side_of x side).output) (spots [] tree) (side_of x side) x
      ])
      on None e = h
      on (Some x) e = put_keeps w r x side _ e h

  output_keeps : (w : State K) (r : ℕ) (answer : Element K) → Reads w → ReadsO (new_output app w r answer)
  output_keeps w r (rendered tree) h = agenda_keeps w r MainSide tree h
  output_keeps w r (failed e) h = either_keeps (Done w []) (start_agenda app w r MainSide placeholder_tree) (has_output w r) h (agenda_keeps w r MainSide placeholder_tree h)
  output_keeps w r (suspended origin t) h = either_keeps (Done w []) (start_agenda app w r MainSide placeholder_tree) (has_output w r) h (agenda_keeps w r MainSide placeholder_tree h)

  pub answer_keeps : (w : State K) (r : ℕ) (answer : Element K) → Reads w → ReadsO (after_answer app w r answer)
  answer_keeps w r answer h =
      onward_keeps (onward (settled_answer app w r answer) (λ v. after_hooks app v r)) (λ v. new_output app v r answer)
      (onward_keeps (settled_answer app w r answer) (λ v. after_hooks app v r) (settled_keeps w r answer h) (λ v g. hooks_keep after_render_kind r (hooks_of v r) v g))
      (λ v g. output_keeps v r answer g)

module _ {K : Types} (app : Application K) (s : ℕ) (c : VComponent K) (world : World K) where
  -- what the scope read is what its body reads in this world
  abbrev Kept : State K → Type 0
  Kept v = Of s (λ y. y.reads ≡ (body_of app c world).reads) v

  abbrev KeptO : Outcome K → Type 0
  KeptO (Done v work) = Kept v
  KeptO (Cut v fault) = Unit {0}

  abbrev Live : State K → Type 0
  Live w = Of s (λ x. Unit {0}) w

  with_world : (o : Outcome K) → ReadsO app s (λ xs. xs ≡ (body_of app c world).reads) o → KeptO o
  with_world (Done v work) h = h
  with_world (Cut v fault) h = tt

  -- the call's reads are kept with the scope
  call_kept : (w : State K) (m : Meaning K (Element K)) → Live w → Of s (λ y. y.reads ≡ m.reads) (kept_call w s world m)
  call_kept w m h =
      let u : State K = with_next w m.next in
      let row : Scope K = record (h.row) { reads = m.reads } in
      let v : State K = change u s (λ x. record x { reads = m.reads }) in
      let is : v ≡ record u { scopes = put w.scopes s row } = ap (λ (o : Option (Scope K)). changed_scope u s (λ x. record x { reads = m.reads }) o) h.there in
      of_others s (λ y. y.reads ≡ m.reads) v (kept_call w s world m) refl
      (record { row = row; there = ap (λ (z : State K). at z.scopes s) is ∙ at_put_here w.scopes s row s (eq_same s); holds = refl })

  answered_kept : (w : State K) (o : Option CallFault) → Live w
      → KeptO (elim o as (λ z. Outcome K) [
        | Some f ↦ Cut (with_next w (body_of app c world).next) (fault_of f)
        | None ↦
            if answer_fits (body_of app c world).answer
            then after_answer app (commands app (kept_call w s world (body_of app c world)) s None (body_of app c world).commands) s (body_of app c world).answer
            else Cut (kept_call w s world (body_of app c world)) (BadNode s)
      ])
  answered_kept w (Some f) h = tt
  answered_kept w None h = either (answer_fits (body_of app c world).answer)
    where
      either : (b : Bool) → KeptO (if b
          then after_answer app (commands app (kept_call w s world (body_of app c world)) s None (body_of app c world).commands) s (body_of app c world).answer
          else Cut (kept_call w s world (body_of app c world)) (BadNode s))
      either false = tt
      either true =
          let m : Meaning K (Element K) = body_of app c world in
          let v : State K = kept_call w s world m in
          let u : State K = commands app v s None m.commands in
          with_world (after_answer app u s m.answer)
          (answer_keeps app s (λ xs. xs ≡ m.reads) u s m.answer (commands_keep app s (λ xs. xs ≡ m.reads) v s None m.commands (call_kept w m h)))

module _ {K : Types} (app : Application K) (s : ℕ) (c : VComponent K) where
  body_kept : (w : State K) → Of s (λ (x : Scope K). Unit {0}) w → KeptO app s c (world_of w s None true) (call_body app w s c (λ v answer. after_answer app v s answer))
  body_kept w h =
      let world : World K = world_of w s None true in
      let v : State K = called_where (is_own c world) w in
      answered_kept app s c world v (body_of app c world).fault (counted (is_own c world))
    where
      counted : (b : Bool) → Of s (λ (x : Scope K). Unit {0}) (called_where b w)
      counted true = of_others s (λ x. Unit {0}) w (called_once w) refl h
      counted false = h

module _ {K : Types} (app : Application K) where
  run_as_kept : (w : State K) (s : ℕ) (x : Scope K) (c : VComponent K) → is_suspense_boundary c ≡ false → Of s (λ (y : Scope K). Unit {0}) w
      → KeptO app s c (world_of w s None true) (run_as app w s x c)
  run_as_kept w s x (SuspenseBoundary children fallback) plain h = cc
  run_as_kept w s x (Own component props) plain h = body_kept app s (Own component props) w h
  run_as_kept w s x (Root component props) plain h = body_kept app s (Root component props) w h
  run_as_kept w s x (Fragment children) plain h = body_kept app s (Fragment children) w h
  run_as_kept w s x (ErrorBoundary children handler) plain h = body_kept app s (ErrorBoundary children handler) w h

  -- the hooks before the run left a state, in whose world the body read that
  abbrev ReadAfter : State K → ℕ → Scope K → Outcome K → Type 0
  ReadAfter w s x (Done v work) =
      (u : State K) × (none : List (Item K)) × (hooks_called app before_render_kind (unmarked w s) s x.hooks ≡ Done u none)
      × Kept app s x.component (world_of u s None true) v
  ReadAfter w s x (Cut v fault) = Unit {0}

  run_kept : (w : State K) (s : ℕ) (x : Scope K) → at w.scopes s ≡ Some x → is_suspense_boundary x.component ≡ false → ReadAfter w s x (run app w s)
  run_kept w s x live plain =
      let hooks : Outcome K = hooks_called app before_render_kind (unmarked w s) s x.hooks in
      let begun : Of s (λ y. Unit {0}) (unmarked w s) = record { row = x; there = live; holds = tt } in
      subst (λ (o : Outcome K). ReadAfter w s x o)
      (sym (ap (λ (z : Option (Scope K)). elim z as (λ a. Outcome K) [
        | None ↦ Done w []
        | Some y ↦ onward (hooks_called app before_render_kind (unmarked w s) s y.hooks) (λ v. run_as app v s y y.component)
      ]) live))
      (on hooks refl (hooks_keep app s (λ xs. Unit {0}) before_render_kind s x.hooks (unmarked w s) begun))
    where
      told : (u : State K) (none : List (Item K)) → hooks_called app before_render_kind (unmarked w s) s x.hooks ≡ Done u none
          → (o : Outcome K) → KeptO app s x.component (world_of u s None true) o → ReadAfter w s x o
      told u none e (Done v work) h = (u, none, e, h)
      told u none e (Cut v fault) h = tt

      on : (o : Outcome K) → hooks_called app before_render_kind (unmarked w s) s x.hooks ≡ o → ReadsO app s (λ xs. Unit {0}) o
          → ReadAfter w s x (onward o (λ v. run_as app v s x x.component))
      on (Done u none) e h = told u none e (run_as app u s x x.component) (run_as_kept u s x x.component plain h)
      on (Cut v fault) e h = tt

pub runs_keep_reads : {K : Types} (app : Application K) → RunsKeepReads app
runs_keep_reads {K = K} app w v s x work live plain done =
    let kept : ReadAfter app w s x (Done v work) = subst (λ (o : Outcome K). ReadAfter app w s x o) done (run_kept app w s x live plain) in
    (kept.0, kept.1, kept.2, kept.3.row, kept.3.there, kept.3.holds)
