-- What a run and the steps of a boundary's run leave of their own scope, and the work that they open.
use Rattle.std.proofs.Common.{ℕ, Bool, true, false, List, [], ◌∷◌, ◌++◌, ◌≡◌, ◌⊎◌, inl, inr, refl, sym, ap, ◌∙◌, subst}
use Rattle.std.specs.Prelude.{Option, Some, None, if◌then◌else◌, is_some}
use Rattle.rt_model.specs.Lists.{at, put, without, drop_number}
use Rattle.rt_model.specs.Tree.{Types, VComponent, Own, Root, Fragment, ErrorBoundary, SuspenseBoundary, is_suspense_boundary, Tree, Element, rendered, failed, suspended, placeholder_tree, spots}
use Rattle.rt_model.specs.World.{before_render_kind, CallFault, World, Meaning, Application}
use Rattle.rt_model.specs.Laws.{IsLawful}
use Rattle.rt_model.specs.State.{SideName, MainSide, ChildrenSide, FallbackSide, BadNode, RowStep, PatchChildren, MadeChildren, RunFallback, ShowFallback, ShowChildren, DropFallback, Resolve, Side, Scope, State, Item, Outcome, Done, Cut, onward, empty_side, side_of, with_side, changed_scope, change, is_held, world_of}
use Rattle.rt_model.specs.Commands.{commands}
use Rattle.rt_model.specs.Run.{fault_of, with_next, called_where, is_own, answer_fits, kept_call, body_of, call_body, spots_of, kept_numbers, kept_children, serves, drops_of, patched, start_agenda, has_output, new_output, after_answer, settled_answer, after_hooks, row_of, row_items, runs_fallback, run_as, hooks_called, unmarked, run}
use Rattle.rt_model.specs.Boundary.{children_of, tree_or_placeholder, counts_render, counted_render, fallback_answered, called_back, drop_items, side_scopes, row_step, boundary_step}
use Rattle.rt_model.proofs.Maps.{eq_same, at_put_here}
use Rattle.rt_model.proofs.NumbersRun.{Idle, called_back_idle}
use Rattle.law_moves.specs.Frames.{Shown, shown}
use Rattle.law_moves.proofs.Commanded.{Level, level_trans, level_refl, level_rest, change_level, commands_level}
use Rattle.law_moves.proofs.Called.{LevelO, from_level, onward_level, unmarked_level, where_level, kept_level, hooks_level, after_hooks_level, settled_answer_level, counted_level, called_back_level}

module _ {K : Types} where
  -- a scope that shows what another one shows
  pub record Alike (o : Option (Scope K)) (x : Scope K) : Type 0 where
    pub old : Scope K
    pub found : o ≡ Some old
    pub component : old.component ≡ x.component
    pub parent : old.parent ≡ x.parent
    pub height : old.height ≡ x.height
    pub below : old.below ≡ x.below
    pub shows : old.shows ≡ x.shows
    pub sides : (a : SideName) → side_of old a ≡ side_of x a

  abbrev component_in : VComponent K → Option (Shown K) → VComponent K
  component_in c None = c
  component_in c (Some f) = f.0

  abbrev parent_in : Option (Shown K) → Option ℕ
  parent_in None = None
  parent_in (Some f) = f.1

  abbrev height_in : Option (Shown K) → ℕ
  height_in None = 0
  height_in (Some f) = f.2

  abbrev below_in : Option (Shown K) → SideName
  below_in None = MainSide
  below_in (Some f) = f.3

  abbrev shows_in : Option (Shown K) → Option SideName
  shows_in None = None
  shows_in (Some f) = f.4

  abbrev side_in : Side K → SideName → Option (Shown K) → Side K
  side_in e a None = e
  side_in e MainSide (Some f) = f.5
  side_in e ChildrenSide (Some f) = f.6
  side_in e FallbackSide (Some f) = f.7

  sides_alike : (y x : Scope K) → shown (Some y) ≡ shown (Some x) → (a : SideName) → side_of y a ≡ side_of x a
  sides_alike y x h MainSide = ap (λ o. side_in x.main_side MainSide o) h
  sides_alike y x h ChildrenSide = ap (λ o. side_in x.main_side ChildrenSide o) h
  sides_alike y x h FallbackSide = ap (λ o. side_in x.main_side FallbackSide o) h

  pub alike : (o : Option (Scope K)) (x : Scope K) → shown o ≡ shown (Some x) → Alike o x
  alike None x h = cc
  alike (Some y) x h =
      record {
        old = y;
        found = refl;
        component = ap (λ o. component_in x.component o) h;
        parent = ap (λ o. parent_in o) h;
        height = ap (λ o. height_in o) h;
        below = ap (λ o. below_in o) h;
        shows = ap (λ o. shows_in o) h;
        sides = sides_alike y x h;
      }

  -- what shows of a scope that is found
  pub found_alike : (o p : Option (Scope K)) (x : Scope K) → shown o ≡ shown p → p ≡ Some x → Alike o x
  found_alike o p x h e = alike o x (h ∙ ap (λ (z : Option (Scope K)). shown z) e)

  pub alike_found : (o p : Option (Scope K)) (x : Scope K) → shown o ≡ shown p → o ≡ Some x → Alike p x
  alike_found o p x h e = alike p x (sym h ∙ ap (λ (z : Option (Scope K)). shown z) e)

  -- two records that show the same
  pub record Matches (y z : Scope K) : Type 0 where
    pub component : y.component ≡ z.component
    pub parent : y.parent ≡ z.parent
    pub height : y.height ≡ z.height
    pub below : y.below ≡ z.below
    pub shows : y.shows ≡ z.shows
    pub sides : (a : SideName) → side_of y a ≡ side_of z a

  pub matches : (y z : Scope K) → shown (Some y) ≡ shown (Some z) → Matches y z
  matches y z h =
      record {
        component = ap (λ o. component_in z.component o) h;
        parent = ap (λ o. parent_in o) h;
        height = ap (λ o. height_in o) h;
        below = ap (λ o. below_in o) h;
        shows = ap (λ o. shows_in o) h;
        sides = sides_alike y z h;
      }

  -- what is found after a change, by what shows there
  pub after_of : (o : Option (Scope K)) (z y : Scope K) → shown o ≡ shown (Some z) → o ≡ Some y → Matches y z
  after_of o z y h e = matches y z (sym (ap (λ (i : Option (Scope K)). shown i) e) ∙ h)

  pub same_scope : (x y : Scope K) → Some x ≡ Some y → x ≡ y
  same_scope x y h = cc

  -- another side, in what shows
  abbrev put_shown : SideName → Side K → Option (Shown K) → Option (Shown K)
  put_shown a r None = None
  put_shown MainSide r (Some f) = Some (f.0, f.1, f.2, f.3, f.4, r, f.6, f.7)
  put_shown ChildrenSide r (Some f) = Some (f.0, f.1, f.2, f.3, f.4, f.5, r, f.7)
  put_shown FallbackSide r (Some f) = Some (f.0, f.1, f.2, f.3, f.4, f.5, f.6, r)

  side_put : (z : Scope K) (a : SideName) (r : Side K) → shown (Some (with_side z a r)) ≡ put_shown a r (shown (Some z))
  side_put z MainSide r = refl
  side_put z ChildrenSide r = refl
  side_put z FallbackSide r = refl

  with_shown : (z x : Scope K) (a : SideName) (r : Side K) → shown (Some z) ≡ shown (Some x) → shown (Some (with_side z a r)) ≡ shown (Some (with_side x a r))
  with_shown z x a r h = side_put z a r ∙ ap (λ (o : Option (Shown K)). put_shown a r o) h ∙ sym (side_put x a r)

  pub that_side : (x : Scope K) (a : SideName) (r : Side K) → side_of (with_side x a r) a ≡ r
  that_side x MainSide r = refl
  that_side x ChildrenSide r = refl
  that_side x FallbackSide r = refl

  pub other_side : (x : Scope K) (a b : SideName) (r : Side K) → (b ≡ a → ⊥) → side_of (with_side x a r) b ≡ side_of x b
  other_side x MainSide MainSide r n = absurd (n refl)
  other_side x MainSide ChildrenSide r n = refl
  other_side x MainSide FallbackSide r n = refl
  other_side x ChildrenSide MainSide r n = refl
  other_side x ChildrenSide ChildrenSide r n = absurd (n refl)
  other_side x ChildrenSide FallbackSide r n = refl
  other_side x FallbackSide MainSide r n = refl
  other_side x FallbackSide ChildrenSide r n = refl
  other_side x FallbackSide FallbackSide r n = absurd (n refl)

  pub side_shows : (x : Scope K) (a : SideName) (r : Side K) → (with_side x a r).shows ≡ x.shows
  side_shows x MainSide r = refl
  side_shows x ChildrenSide r = refl
  side_shows x FallbackSide r = refl

  pub change_there : (w : State K) (s : ℕ) (f : Scope K → Scope K) (x : Scope K) → at w.scopes s ≡ Some x → at (change w s f).scopes s ≡ Some (f x)
  change_there w s f x e =
      ap (λ (o : Option (Scope K)). at (changed_scope w s f o).scopes s) e ∙ at_put_here w.scopes s (f x) s (eq_same s)

module _ {K : Types} (app : Application K) where
  -- a side after a patch
  abbrev pub renewed : Side K → Tree K → Side K
  renewed was tree =
      record {
        output = Some tree;
        numbers = kept_numbers (spots [] tree) was.numbers;
        children = kept_children app (spots_of was.output) (spots [] tree) was.children;
      }

  -- the work of a patch
  abbrev pub agenda : ℕ → SideName → Side K → Tree K → List (Item K)
  agenda s a was tree = serves app s a (spots_of was.output) (spots [] tree) ++ drops_of app s a (spots [] tree) was.children (spots_of was.output)

  -- a side of a scope has another output
  pub record Patch (s : ℕ) (a : SideName) (x : Scope K) (v : State K) (work : List (Item K)) : Type 0 where
    pub tree : Tree K
    pub here : shown (at v.scopes s) ≡ shown (Some (with_side x a (renewed (side_of x a) tree)))
    pub opens : work ≡ agenda s a (side_of x a) tree

  patch_is : (u v : State K) (s : ℕ) (a : SideName) (tree : Tree K) (z x : Scope K) (work : List (Item K)) → shown (Some z) ≡ shown (Some x)
      → patched app u s a tree (spots_of (side_of z a).output) (spots [] tree) (side_of z a) z ≡ Done v work
      → Patch s a x v work
  patch_is u v s a tree z x work same e =
      let was : Side K = side_of z a in
      let r : Side K = renewed was tree in
      let w : State K = record u { scopes = put u.scopes s (with_side z a r) } in
      let state : w ≡ v = cc in
      let items : agenda s a was tree ≡ work = cc in
      record {
        tree = tree;
        here =
            ap (λ (y : State K). shown (at y.scopes s)) (sym state)
            ∙ ap (λ (o : Option (Scope K)). shown o) (at_put_here u.scopes s (with_side z a r) s (eq_same s))
            ∙ with_shown z x a r same
            ∙ ap (λ (i : Side K). shown (Some (with_side x a (renewed i tree)))) (sides_alike z x same a);
        opens = sym items ∙ ap (λ (i : Side K). agenda s a i tree) (sides_alike z x same a);
      }

  -- what a patch leaves, after a change that leaves what shows
  agenda_patch : (w u v : State K) (s : ℕ) (a : SideName) (tree : Tree K) (x : Scope K) (work : List (Item K)) → Level w u → at w.scopes s ≡ Some x → start_agenda app u s a tree ≡ Done v work → Patch s a x v work
  agenda_patch w u v s a tree x work level found e = at_scope (at u.scopes s) refl (level.shows s ∙ ap (λ (o : Option (Scope K)). shown o) found) e
    where
      at_scope : (o : Option (Scope K)) → at u.scopes s ≡ o → shown o ≡ shown (Some x)
          → elim o as (λ z. Outcome K) [ None ↦ Done u [] | Some z ↦ patched app u s a tree (spots_of (side_of z a).output) (spots [] tree) (side_of z a) z ] ≡ Done v work
          → Patch s a x v work
      at_scope None is same e = cc
      at_scope (Some z) is same e = patch_is u v s a tree z x work same e

  -- where a change isn't cut a side was patched
  abbrev PatchO : ℕ → SideName → Scope K → Outcome K → Type 0
  PatchO s a x (Done v work) = Patch s a x v work
  PatchO s a x (Cut v fault) = Unit {0}

  agenda_patch_o : (w u : State K) (s : ℕ) (a : SideName) (tree : Tree K) (x : Scope K) (o : Outcome K) → start_agenda app u s a tree ≡ o → Level w u → at w.scopes s ≡ Some x → PatchO s a x o
  agenda_patch_o w u s a tree x (Done v work) e level found = agenda_patch w u v s a tree x work level found e
  agenda_patch_o w u s a tree x (Cut v fault) e level found = tt

  -- a body that was called leaves a new output on the main side, or the one that was there
  abbrev pub Calls : State K → ℕ → Scope K → State K → List (Item K) → Type 0
  Calls w s x v work = Patch s MainSide x v work ⊎ ((work ≡ []) × Level w v × (is_some x.main_side.output ≡ true))

  abbrev CallsO : State K → ℕ → Scope K → Outcome K → Type 0
  CallsO w s x (Done v work) = Calls w s x v work
  CallsO w s x (Cut v fault) = Unit {0}

  patch_calls : (w : State K) (s : ℕ) (x : Scope K) (o : Outcome K) → PatchO s MainSide x o → CallsO w s x o
  patch_calls w s x (Done v work) h = inl h
  patch_calls w s x (Cut v fault) h = tt

  calls_if : (w : State K) (s : ℕ) (x : Scope K) (b : Bool) (i j : Outcome K) → (b ≡ true → CallsO w s x i) → (b ≡ false → CallsO w s x j) → CallsO w s x (if b then i else j)
  calls_if w s x true i j f g = f refl
  calls_if w s x false i j f g = g refl

  had_output : (w u : State K) (s : ℕ) (x : Scope K) → Level w u → at w.scopes s ≡ Some x → has_output u s ≡ true → is_some x.main_side.output ≡ true
  had_output w u s x level found h =
      let z = found_alike (at u.scopes s) (at w.scopes s) x (level.shows s) found in
      sym (ap (λ (i : Side K). is_some i.output) (z.sides MainSide))
      ∙ sym (ap (λ (o : Option (Scope K)). elim o as (λ i. Bool) [ None ↦ true | Some y ↦ is_some y.main_side.output ]) z.found)
      ∙ h

  output_calls : (w u : State K) (s : ℕ) (x : Scope K) (answer : Element K) → Level w u → at w.scopes s ≡ Some x → CallsO w s x (new_output app u s answer)
  output_calls w u s x (rendered tree) level found =
      patch_calls w s x (start_agenda app u s MainSide tree) (agenda_patch_o w u s MainSide tree x (start_agenda app u s MainSide tree) refl level found)
  output_calls w u s x (failed e) level found =
      calls_if w s x (has_output u s) (Done u []) (start_agenda app u s MainSide placeholder_tree) (λ q. inr (refl, level, had_output w u s x level found q))
      (
      λ q.
      patch_calls w s x (start_agenda app u s MainSide placeholder_tree) (agenda_patch_o w u s MainSide placeholder_tree x (start_agenda app u s MainSide placeholder_tree) refl level found)
      )
  output_calls w u s x (suspended origin t) level found =
      calls_if w s x (has_output u s) (Done u []) (start_agenda app u s MainSide placeholder_tree) (λ q. inr (refl, level, had_output w u s x level found q))
      (
      λ q.
      patch_calls w s x (start_agenda app u s MainSide placeholder_tree) (agenda_patch_o w u s MainSide placeholder_tree x (start_agenda app u s MainSide placeholder_tree) refl level found)
      )

  -- what holds after a change, whatever it did to the state, where it leaves what shows
  by_level : (Q : Outcome K → Type 0) (w u : State K) (o : Outcome K) (f : State K → Outcome K) → ((v : State K) (fault : _) → Q (Cut v fault)) → Level w u → LevelO u o → ((v : State K) → Level w v → Q (f v)) → Q (onward o f)
  by_level Q w u (Done v work) f cut level h g = g v (level_trans w u v level h)
  by_level Q w u (Cut v fault) f cut level h g = cut v fault

  answer_calls : (w u : State K) (s : ℕ) (x : Scope K) (answer : Element K) → Level w u → at w.scopes s ≡ Some x → CallsO w s x (after_answer app u s answer)
  answer_calls w u s x answer level found =
      by_level (λ o. CallsO w s x o) w u (onward (settled_answer app u s answer) (λ v. after_hooks app v s)) (λ v. new_output app v s answer) (λ v fault. tt) level
      (onward_level u (settled_answer app u s answer) (λ v. after_hooks app v s) (settled_answer_level app u s answer) (λ v. after_hooks_level app v s))
      (λ v h. output_calls w v s x answer h found)

  -- a call of a body, by what follows its answer
  call_did : (Q : Outcome K → Type 0) (w u : State K) (s : ℕ) (c : VComponent K) (go : State K → Element K → Outcome K) → ((v : State K) (fault : _) → Q (Cut v fault)) → Level w u
      → ((v : State K) (answer : Element K) → Level w v → Q (go v answer)) → Q (call_body app u s c go)
  call_did Q w u s c go cut level g =
      let world : World K = world_of u s None true in
      let called : State K = called_where (is_own c world) u in
      let m : Meaning K (Element K) = body_of app c world in
      at_fault called m.fault (level_trans w u called level (where_level (is_own c world) u))
    where
      fits : (v : State K) (b : Bool) → Level w v → Q (if b then go (commands app (kept_call v s (world_of u s None true) (body_of app c (world_of u s None true))) s None (body_of app c (world_of u s None true)).commands) (body_of app c (world_of u s None true)).answer else Cut (kept_call v s (world_of u s None true) (body_of app c (world_of u s None true))) (BadNode s))
      fits v true h =
          let m : Meaning K (Element K) = body_of app c (world_of u s None true) in
          let kept : State K = kept_call v s (world_of u s None true) m in
          let done : State K = commands app kept s None m.commands in
          g done m.answer (level_trans w v done h (level_trans v kept done (kept_level v s (world_of u s None true) m) (commands_level app kept s None m.commands)))
      fits v false h = cut (kept_call v s (world_of u s None true) (body_of app c (world_of u s None true))) (BadNode s)

      at_fault : (v : State K) (o : Option CallFault) → Level w v
          → Q (elim o as (λ z. Outcome K) [
            | Some f ↦ Cut (with_next v (body_of app c (world_of u s None true)).next) (fault_of f)
            | None ↦
                if answer_fits (body_of app c (world_of u s None true)).answer
                then go (commands app (kept_call v s (world_of u s None true) (body_of app c (world_of u s None true))) s None (body_of app c (world_of u s None true)).commands) (body_of app c (world_of u s None true)).answer
                else Cut (kept_call v s (world_of u s None true) (body_of app c (world_of u s None true))) (BadNode s)
          ])
      at_fault v (Some f) h = cut (with_next v (body_of app c (world_of u s None true)).next) (fault_of f)
      at_fault v None h = fits v (answer_fits (body_of app c (world_of u s None true)).answer) h

  -- a boundary's run opens its steps
  abbrev pub Rows : State K → ℕ → Scope K → State K → List (Item K) → Type 0
  Rows w s x v work = Level w v × (work ≡ row_items s (row_of x.shows (is_held x)))

  abbrev pub RunDid : State K → ℕ → Scope K → State K → List (Item K) → Type 0
  RunDid w s x v work = ((is_suspense_boundary x.component ≡ true) × Rows w s x v work) ⊎ ((is_suspense_boundary x.component ≡ false) × Calls w s x v work)

  abbrev RunDidO : State K → ℕ → Scope K → VComponent K → Outcome K → Type 0
  RunDidO w s x c (Done v work) = ((is_suspense_boundary c ≡ true) × Rows w s x v work) ⊎ ((is_suspense_boundary c ≡ false) × Calls w s x v work)
  RunDidO w s x c (Cut v fault) = Unit {0}

  calls_did : (w : State K) (s : ℕ) (x : Scope K) (c : VComponent K) (o : Outcome K) → is_suspense_boundary c ≡ false → CallsO w s x o → RunDidO w s x c o
  calls_did w s x c (Done v work) no_boundary h = inr (no_boundary, h)
  calls_did w s x c (Cut v fault) no_boundary h = tt

  own_did : (w u : State K) (s : ℕ) (x : Scope K) (c : VComponent K) → is_suspense_boundary c ≡ false → Level w u → at w.scopes s ≡ Some x → RunDidO w s x c (call_body app u s c (λ v answer. after_answer app v s answer))
  own_did w u s x c no_boundary level found =
      calls_did w s x c (call_body app u s c (λ v answer. after_answer app v s answer)) no_boundary
      (call_did (λ o. CallsO w s x o) w u s c (λ v answer. after_answer app v s answer) (λ v fault. tt) level (λ v answer h. answer_calls w v s x answer h found))

  rows_did : (w u : State K) (s : ℕ) (x : Scope K) (c : VComponent K) (b : Bool) → is_suspense_boundary c ≡ true → Level w u
      → RunDidO w s x c (if b then Done u (row_items s (row_of x.shows (is_held x))) else onward (after_hooks app u s) (λ v. Done v (row_items s (row_of x.shows (is_held x)))))
  rows_did w u s x c true boundary level = inl (boundary, (level, refl))
  rows_did w u s x c false boundary level =
      by_level (λ o. RunDidO w s x c o) w u (after_hooks app u s) (λ v. Done v (row_items s (row_of x.shows (is_held x)))) (λ v fault. tt) level (after_hooks_level app u s) (λ v h. inl (boundary, (h, refl)))

  run_as_did : (w u : State K) (s : ℕ) (x : Scope K) (c : VComponent K) → Level w u → at w.scopes s ≡ Some x → RunDidO w s x c (run_as app u s x c)
  run_as_did w u s x (SuspenseBoundary children fallback) level found = rows_did w u s x (SuspenseBoundary children fallback) (runs_fallback (row_of x.shows (is_held x))) refl level
  run_as_did w u s x (Own component props) level found = own_did w u s x (Own component props) refl level found
  run_as_did w u s x (Root component props) level found = own_did w u s x (Root component props) refl level found
  run_as_did w u s x (Fragment children) level found = own_did w u s x (Fragment children) refl level found
  run_as_did w u s x (ErrorBoundary children handler) level found = own_did w u s x (ErrorBoundary children handler) refl level found

  run_did_o : (w : State K) (s : ℕ) (x : Scope K) → at w.scopes s ≡ Some x
      → RunDidO w s x x.component (onward (hooks_called app before_render_kind (unmarked w s) s x.hooks) (λ v. run_as app v s x x.component))
  run_did_o w s x found =
      by_level (λ o. RunDidO w s x x.component o) w (unmarked w s) (hooks_called app before_render_kind (unmarked w s) s x.hooks) (λ v. run_as app v s x x.component) (λ v fault. tt)
      (unmarked_level w s) (hooks_level app before_render_kind (unmarked w s) s x.hooks) (λ v h. run_as_did w v s x x.component h found)

  -- what a run leaves of its scope, and the work that it opens
  pub run_did : (w v : State K) (s : ℕ) (x : Scope K) (work : List (Item K)) → at w.scopes s ≡ Some x → run app w s ≡ Done v work → RunDid w s x v work
  run_did w v s x work found e =
      let is : onward (hooks_called app before_render_kind (unmarked w s) s x.hooks) (λ u. run_as app u s x x.component) ≡ Done v work =
      sym
      (ap (λ (o : Option (Scope K)). elim o as (λ z. Outcome K) [
        | None ↦ Done w []
        | Some y ↦ onward (hooks_called app before_render_kind (unmarked w s) s y.hooks) (λ u. run_as app u s y y.component)
      ]) found)
      ∙ e in
      subst (λ (o : Outcome K). RunDidO w s x x.component o) is (run_did_o w s x found)

  -- what a step of a boundary's run leaves of the boundary, and the work that it opens
  abbrev pub StepDid : State K → ℕ → Scope K → RowStep → State K → List (Item K) → Type 0
  StepDid w b x PatchChildren v work = Patch b ChildrenSide x v work
  StepDid w b x MadeChildren v work =
      (shown (at v.scopes b) ≡ shown (Some x)) × (work ≡ row_items b (if is_held x then RunFallback ∷ ShowFallback ∷ [] else ShowChildren ∷ Resolve ∷ []))
  StepDid w b x RunFallback v work = Patch b FallbackSide x v work
  StepDid w b x ShowFallback v work = (shown (at v.scopes b) ≡ shown (Some (record x { shows = Some FallbackSide }))) × (work ≡ [])
  StepDid w b x ShowChildren v work = (shown (at v.scopes b) ≡ shown (Some (record x { shows = Some ChildrenSide }))) × (work ≡ [])
  StepDid w b x DropFallback v work = (shown (at v.scopes b) ≡ shown (Some (record x { fallback_side = empty_side }))) × ((ts : List ℕ) × (work ≡ drop_items b FallbackSide ts))
  StepDid w b x Resolve v work = (shown (at v.scopes b) ≡ shown (Some x)) × (work ≡ [])

  changed_did : (w u v : State K) (b : ℕ) (f g : Scope K → Scope K) (x : Scope K) (work left : List (Item K)) → at u.scopes b ≡ Some x → Done (change u b f) left ≡ Done v work → shown (Some (f x)) ≡ shown (Some (g x))
      → (shown (at v.scopes b) ≡ shown (Some (g x))) × (work ≡ left)
  changed_did w u v b f g x work left found e same =
      let state : change u b f ≡ v = cc in
      let items : left ≡ work = cc in
      (ap (λ (y : State K). shown (at y.scopes b)) (sym state) ∙ ap (λ (o : Option (Scope K)). shown o) (change_there u b f x found) ∙ same, sym items)

  fallback_did : (w : State K) (b : ℕ) (x : Scope K) → at w.scopes b ≡ Some x → PatchO b FallbackSide x (row_step app w b x RunFallback)
  fallback_did w b x found =
      call_did (λ o. PatchO b FallbackSide x o) w w b x.component (λ v answer. fallback_answered app v b x.component answer) (λ v fault. tt) (level_refl w)
      (
      λ v answer level.
      by_level (λ o. PatchO b FallbackSide x o) w v (onward (counted_render app v b (counts_render x.component answer)) (λ u. after_hooks app u b))
      (λ u. start_agenda app u b FallbackSide (tree_or_placeholder answer)) (λ u fault. tt) level
      (onward_level v (counted_render app v b (counts_render x.component answer)) (λ u. after_hooks app u b) (counted_level app v b (counts_render x.component answer)) (λ u. after_hooks_level app u b))
      (λ u h. agenda_patch_o w u b FallbackSide (tree_or_placeholder answer) x (start_agenda app u b FallbackSide (tree_or_placeholder answer)) refl h found)
      )

  module _ (lawful : IsLawful K app) where
    resolved_did : (w : State K) (b : ℕ) (x : Scope K) (o : Outcome K) (v : State K) (work : List (Item K)) → at w.scopes b ≡ Some x → LevelO w o → Idle o → o ≡ Done v work → (shown (at v.scopes b) ≡ shown (Some x)) × (work ≡ [])
    resolved_did w b x (Done u items) v work found level idle e =
        let state : u ≡ v = cc in
        let same : items ≡ work = cc in
        (ap (λ (y : State K). shown (at y.scopes b)) (sym state) ∙ level.shows b ∙ ap (λ (o : Option (Scope K)). shown o) found, sym same ∙ idle)
    resolved_did w b x (Cut u fault) v work found level idle e = cc

    step_did_at : (w v : State K) (b : ℕ) (x : Scope K) (step : RowStep) (work : List (Item K)) → at w.scopes b ≡ Some x → row_step app w b x step ≡ Done v work → StepDid w b x step v work
    step_did_at w v b x PatchChildren work found e = agenda_patch w w v b ChildrenSide (children_of x.component) x work (level_refl w) found e
    step_did_at w v b x MadeChildren work found e =
        let steps : List (Item K) = row_items b (if is_held x then RunFallback ∷ ShowFallback ∷ [] else ShowChildren ∷ Resolve ∷ []) in
        let state : w ≡ v = cc in
        let items : steps ≡ work = cc in
        (ap (λ (y : State K). shown (at y.scopes b)) (sym state) ∙ ap (λ (o : Option (Scope K)). shown o) found, sym items)
    step_did_at w v b x RunFallback work found e = subst (λ (o : Outcome K). PatchO b FallbackSide x o) e (fallback_did w b x found)
    step_did_at w v b x ShowFallback work found e =
        changed_did w (record w { resolved = drop_number w.resolved b }) v b (λ y. record y { shows = Some FallbackSide }) (λ y. record y { shows = Some FallbackSide }) x work [] found e refl
    step_did_at w v b x ShowChildren work found e =
        changed_did w (record w { last_calls = without w.last_calls b }) v b (λ y. record y { shows = Some ChildrenSide; reads = [] }) (λ y. record y { shows = Some ChildrenSide }) x work [] found e refl
    step_did_at w v b x DropFallback work found e =
        let ts : List ℕ = side_scopes w x.fallback_side in
        let done = changed_did w w v b (λ y. record y { fallback_side = empty_side }) (λ y. record y { fallback_side = empty_side }) x work (drop_items b FallbackSide ts) found e refl in
        (done.0, (ts, done.1))
    step_did_at w v b x Resolve work found e =
        let u : State K = record w { resolved = w.resolved ++ b ∷ [] } in
        let z : State K = change u b (λ y. record y { callbacks = [] }) in
        let level : Level w z = level_trans w u z (level_rest w u refl refl) (change_level u b (λ y. record y { callbacks = [] }) (λ y. refl)) in
        resolved_did w b x (called_back app z x.callbacks) v work found (from_level w z (called_back app z x.callbacks) level (called_back_level app z x.callbacks)) (called_back_idle app lawful z x.callbacks) e

    pub step_did : (w v : State K) (b : ℕ) (x : Scope K) (step : RowStep) (work : List (Item K)) → at w.scopes b ≡ Some x → boundary_step app w b step ≡ Done v work → StepDid w b x step v work
    step_did w v b x step work found e =
        step_did_at w v b x step work found (sym (ap (λ (o : Option (Scope K)). elim o as (λ z. Outcome K) [ None ↦ Done w [] | Some y ↦ row_step app w b y step ]) found) ∙ e)
