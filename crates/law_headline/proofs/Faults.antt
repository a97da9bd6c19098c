-- Where a fault cuts a change the sides of scopes are as they were before it, but for a scope that it made.
use Rattle.std.proofs.Common.{ℕ, ◌+◌, ◌≤◌, ◌<◌, Bool, true, false, List, [], ◌∷◌, ◌++◌, ◌≡◌, ◌⊎◌, inl, inr, refl, sym, ap, ◌∙◌, subst, arith, nat_eq}
use Rattle.std.specs.Prelude.{Option, Some, None, if◌then◌else◌}
use Rattle.std.proofs.lemmas.Bool.{eqb-true}
use Rattle.rt_model.specs.Lists.{at, put}
use Rattle.rt_model.specs.Tree.{Types, Tree, VComponent, Own, Root, Fragment, ErrorBoundary, SuspenseBoundary, Place, Element, rendered, failed, suspended, placeholder_tree, spots}
use Rattle.rt_model.specs.World.{Scopes, Elements, at_end, before_render_kind, CallFault, Command, World, Meaning, Nothing, Application}
use Rattle.rt_model.specs.State.{SideName, MainSide, ChildrenSide, FallbackSide, IdsExhausted, BadNode, RowStep, PatchChildren, MadeChildren, RunFallback, ShowFallback, ShowChildren, DropFallback, Resolve, Side, Scope, State, Item, Draw, Row, Feed, Make, Drop, Outcome, Done, Cut, onward, empty_side, side_of, new_scope, changed_scope, change, is_live, is_held, hooks_of, world_of}
use Rattle.rt_model.specs.Commands.{commands}
use Rattle.rt_model.specs.Run.{fault_of, with_next, called_once, called_where, is_own, answer_fits, kept_call, body_of, call_body, spots_of, patched, start_agenda, has_output, new_output, after_answer, settled_answer, after_hooks, row_of, row_items, runs_fallback, boundary_run, run_as, hooks_called, unmarked, run}
use Rattle.rt_model.specs.Boundary.{children_of, tree_or_placeholder, counts_render, counted_render, fallback_answered, called_back, row_step}
use Rattle.rt_model.specs.Removal.{clean_ups, stopped, cleaned, removed}
use Rattle.rt_model.specs.Replay.{numbered, with_child, with_new_scope, fed_child, keeps, made_in, with_props, handed, outcome_of}
use Rattle.rt_model.proofs.Maps.{by_test, at_put_here, at_put_other, at_put_none, at_append_here, at_append_none}
use Rattle.rt_model.proofs.Among.{Among, among_push}
use Rattle.law_moves.proofs.Twigs.{found_live, live_found}
use Rattle.law_moves.specs.Frames.{shown}
use Rattle.law_moves.proofs.Commanded.{Level, level_trans, level_rest, change_level, commands_level}
use Rattle.law_moves.proofs.Called.{LevelO, stopped_level, next_level, once_level, where_level, kept_level, hooks_level, after_hooks_level, settled_answer_level, counted_level, called_back_level, unmarked_level, onward_level}
use Rattle.law_headline.proofs.Did.{Alike, alike, same_scope}

module _ {K : Types} where
  -- no scope came, and each has the sides that it had
  abbrev pub SameSides : State K → State K → Type 0
  SameSides w v = (t : ℕ) (y : Scope K) → at v.scopes t ≡ Some y → (z : Scope K) × (at w.scopes t ≡ Some z) × ((a : SideName) → side_of y a ≡ side_of z a)

  same_trans : (u v w : State K) → SameSides u v → SameSides v w → SameSides u w
  same_trans u v w f g t y found = let z = g t y found in let x = f t z.0 z.1 in (x.0, x.1, λ a. z.2 a ∙ x.2 a)

  same_refl : (w : State K) → SameSides w w
  same_refl w t y found = (y, found, λ a. refl)

  level_same : (w v : State K) → Level w v → SameSides w v
  level_same w v h t y found =
      let x : Alike (at w.scopes t) y = alike (at w.scopes t) y (sym (h.shows t) ∙ ap (λ (o : Option (Scope K)). shown o) found) in
      (x.old, x.found, λ a. sym (x.sides a))

  -- so it is where a change is cut
  abbrev pub CutSame : State K → Outcome K → Type 0
  CutSame w (Done v work) = Unit {0}
  CutSame w (Cut v fault) = SameSides w v

  from_same : (w v : State K) (o : Outcome K) → SameSides w v → CutSame v o → CutSame w o
  from_same w v (Done u work) h g = tt
  from_same w v (Cut u fault) h g = same_trans w v u h g

  level_cut : (w : State K) (o : Outcome K) → LevelO w o → CutSame w o
  level_cut w (Done v work) h = tt
  level_cut w (Cut v fault) h = level_same w v h

  onward_cut : (w : State K) (o : Outcome K) (f : State K → Outcome K) → LevelO w o → ((v : State K) → CutSame v (f v)) → CutSame w (onward o f)
  onward_cut w (Done v work) f h g = from_same w v (f v) (level_same w v h) (g v)
  onward_cut w (Cut v fault) f h g = level_same w v h

  either_cut : (w : State K) (c : Bool) (x y : Outcome K) → CutSame w x → CutSame w y → CutSame w (if c then x else y)
  either_cut w true x y h g = h
  either_cut w false x y h g = g

  -- a scope changes in something else
  put_same : (w : State K) (s : ℕ) (x y : Scope K) → at w.scopes s ≡ Some x → ((a : SideName) → side_of y a ≡ side_of x a) → SameSides w (record w { scopes = put w.scopes s y })
  put_same w s x y here same t z found =
      by_test (nat_eq s t)
      (
      λ q.
      let is : y ≡ z = same_scope y z (sym (at_put_here w.scopes s y t q) ∙ found) in
      (x, ap (λ (n : ℕ). at w.scopes n) (sym (eqb-true s t q)) ∙ here, λ a. ap (λ (i : Scope K). side_of i a) (sym is) ∙ same a)
      )
      (λ q. (z, sym (at_put_other w.scopes s y t q) ∙ found, λ a. refl))

  changed_same : (w : State K) (s : ℕ) (f : Scope K → Scope K) (o : Option (Scope K)) → at w.scopes s ≡ o → ((x : Scope K) (a : SideName) → side_of (f x) a ≡ side_of x a) → SameSides w (changed_scope w s f o)
  changed_same w s f None here same = same_refl w
  changed_same w s f (Some x) here same = put_same w s x (f x) here (λ a. same x a)

  component_same_sides : (c : VComponent K) (x : Scope K) (a : SideName) → side_of (record x { component = c }) a ≡ side_of x a
  component_same_sides c x MainSide = refl
  component_same_sides c x ChildrenSide = refl
  component_same_sides c x FallbackSide = refl

module _ {K : Types} (app : Application K) where
  answered_cut : (w : State K) (s : ℕ) (world : World K) (go : State K → Element K → Outcome K) (m : Meaning K (Element K)) (o : Option CallFault) → ((v : State K) (answer : Element K) → CutSame v (go v answer))
      → CutSame w (elim o as (λ z. Outcome K) [
        | Some f ↦ Cut (with_next w m.next) (fault_of f)
        | None ↦ if answer_fits m.answer then go (commands app (kept_call w s world m) s None m.commands) m.answer else Cut (kept_call w s world m) (BadNode s)
      ])
  answered_cut w s world go m (Some f) g = level_same w (with_next w m.next) (next_level w m.next)
  answered_cut w s world go m None g =
      let u : State K = kept_call w s world m in
      let v : State K = commands app u s None m.commands in
      either_cut w (answer_fits m.answer) (go v m.answer) (Cut u (BadNode s))
      (from_same w v (go v m.answer) (level_same w v (level_trans w u v (kept_level w s world m) (commands_level app u s None m.commands))) (g v m.answer))
      (level_same w u (kept_level w s world m))

  call_cut : (w : State K) (s : ℕ) (c : VComponent K) (go : State K → Element K → Outcome K) → ((v : State K) (answer : Element K) → CutSame v (go v answer)) → CutSame w (call_body app w s c go)
  call_cut w s c go g =
      let world : World K = world_of w s None true in
      let u : State K = called_where (is_own c world) w in
      from_same w u (call_body app w s c go) (level_same w u (where_level (is_own c world) w)) (answered_cut u s world go (body_of app c world) (body_of app c world).fault g)

  -- a new output is never cut
  agenda_at : (w : State K) (s : ℕ) (side : SideName) (tree : Tree K) (o : Option (Scope K))
      → CutSame w (elim o as (λ z. Outcome K) [ None ↦ Done w [] | Some x ↦ patched app w s side tree (spots_of (side_of x side).output) (spots [] tree) (side_of x side) x ])
  agenda_at w s side tree None = tt
  agenda_at w s side tree (Some x) = tt

  agenda_cut : (w : State K) (s : ℕ) (side : SideName) (tree : Tree K) → CutSame w (start_agenda app w s side tree)
  agenda_cut w s side tree = agenda_at w s side tree (at w.scopes s)

  output_cut : (w : State K) (s : ℕ) (answer : Element K) → CutSame w (new_output app w s answer)
  output_cut w s (rendered tree) = agenda_cut w s MainSide tree
  output_cut w s (failed e) = either_cut w (has_output w s) (Done w []) (start_agenda app w s MainSide placeholder_tree) tt (agenda_cut w s MainSide placeholder_tree)
  output_cut w s (suspended origin t) = either_cut w (has_output w s) (Done w []) (start_agenda app w s MainSide placeholder_tree) tt (agenda_cut w s MainSide placeholder_tree)

  after_answer_cut : (w : State K) (s : ℕ) (answer : Element K) → CutSame w (after_answer app w s answer)
  after_answer_cut w s answer =
      onward_cut w (onward (settled_answer app w s answer) (λ v. after_hooks app v s)) (λ v. new_output app v s answer)
      (onward_level w (settled_answer app w s answer) (λ v. after_hooks app v s) (settled_answer_level app w s answer) (λ v. after_hooks_level app v s))
      (λ v. output_cut v s answer)

  boundary_cut : (w : State K) (b : ℕ) (steps : List RowStep) → CutSame w (boundary_run app w b steps)
  boundary_cut w b steps =
      either_cut w (runs_fallback steps) (Done w (row_items b steps)) (onward (after_hooks app w b) (λ v. Done v (row_items b steps))) tt
      (onward_cut w (after_hooks app w b) (λ v. Done v (row_items b steps)) (after_hooks_level app w b) (λ v. tt))

  run_as_cut : (w : State K) (s : ℕ) (x : Scope K) (c : VComponent K) → CutSame w (run_as app w s x c)
  run_as_cut w s x (SuspenseBoundary children fallback) = boundary_cut w s (row_of x.shows (is_held x))
  run_as_cut w s x (Own component props) = call_cut w s (Own component props) (λ v answer. after_answer app v s answer) (λ v answer. after_answer_cut v s answer)
  run_as_cut w s x (Root component props) = call_cut w s (Root component props) (λ v answer. after_answer app v s answer) (λ v answer. after_answer_cut v s answer)
  run_as_cut w s x (Fragment children) = call_cut w s (Fragment children) (λ v answer. after_answer app v s answer) (λ v answer. after_answer_cut v s answer)
  run_as_cut w s x (ErrorBoundary children handler) =
      call_cut w s (ErrorBoundary children handler) (λ v answer. after_answer app v s answer) (λ v answer. after_answer_cut v s answer)

  run_at : (w : State K) (s : ℕ) (o : Option (Scope K))
      → CutSame w (elim o as (λ z. Outcome K) [
        | None ↦ Done w []
        | Some x ↦ onward (hooks_called app before_render_kind (unmarked w s) s x.hooks) (λ v. run_as app v s x x.component)
      ])
  run_at w s None = tt
  run_at w s (Some x) =
      let u : State K = unmarked w s in
      let hooks : Outcome K = hooks_called app before_render_kind u s x.hooks in
      from_same w u (onward hooks (λ v. run_as app v s x x.component)) (level_same w u (unmarked_level w s))
      (onward_cut u hooks (λ v. run_as app v s x x.component) (hooks_level app before_render_kind u s x.hooks) (λ v. run_as_cut v s x x.component))

  run_cut : (w : State K) (s : ℕ) → CutSame w (run app w s)
  run_cut w s = run_at w s (at w.scopes s)

  -- the steps of a boundary's run
  row_cut : (w : State K) (b : ℕ) (x : Scope K) (step : RowStep) → CutSame w (row_step app w b x step)
  row_cut w b x PatchChildren = agenda_cut w b ChildrenSide (children_of x.component)
  row_cut w b x MadeChildren = tt
  row_cut w b x RunFallback =
      call_cut w b x.component (λ v answer. fallback_answered app v b x.component answer)
      (
      λ v answer.
      onward_cut v (onward (counted_render app v b (counts_render x.component answer)) (λ u. after_hooks app u b))
      (λ u. start_agenda app u b FallbackSide (tree_or_placeholder answer))
      (onward_level v (counted_render app v b (counts_render x.component answer)) (λ u. after_hooks app u b) (counted_level app v b (counts_render x.component answer)) (λ u. after_hooks_level app u b))
      (λ u. agenda_cut u b FallbackSide (tree_or_placeholder answer))
      )
  row_cut w b x ShowFallback = tt
  row_cut w b x ShowChildren = tt
  row_cut w b x DropFallback = tt
  row_cut w b x Resolve =
      let u : State K = record w { resolved = w.resolved ++ b ∷ [] } in
      let v : State K = change u b (λ y. record y { callbacks = [] }) in
      from_same w v (called_back app v x.callbacks)
      (level_same w v (level_trans w u v (level_rest w u refl refl) (change_level u b (λ y. record y { callbacks = [] }) (λ y. refl))))
      (level_cut v (called_back app v x.callbacks) (called_back_level app v x.callbacks))

  step_at : (w : State K) (b : ℕ) (step : RowStep) (o : Option (Scope K)) → CutSame w (elim o as (λ z. Outcome K) [ None ↦ Done w [] | Some x ↦ row_step app w b x step ])
  step_at w b step None = tt
  step_at w b step (Some x) = row_cut w b x step

  -- a child that is fed
  handed_cut : (w : State K) (t : ℕ) (c : VComponent K) → CutSame w (handed app w t c)
  handed_cut w t c =
      let v : State K = with_props app w t c in
      let fed : SameSides w v = changed_same w t (λ x. record x { component = c }) (at w.scopes t) refl (λ x a. component_same_sides c x a) in
      either_cut w (keeps app w t c) (Done v []) (run app v t) tt (from_same w v (run app v t) fed (run_cut v t))

  fed_at : (w : State K) (c : VComponent K) (o : Option ℕ) → CutSame w (elim o as (λ z. Outcome K) [ None ↦ Done w [] | Some t ↦ handed app w t c ])
  fed_at w c None = tt
  fed_at w c (Some t) = handed_cut w t c

  -- a removal
  cleaned_at : (s : ℕ) (es : List K.Effect) (w : State K) (waiting : List (Command K)) (m : Meaning K Nothing) (o : Option CallFault) → CutSame (with_next w m.next) (cleaned app s es (with_next w m.next) (waiting ++ m.commands))
      → CutSame w (elim o as (λ z. Outcome K) [ None ↦ cleaned app s es (with_next w m.next) (waiting ++ m.commands) | Some f ↦ Cut (with_next w m.next) (fault_of f) ])
  cleaned_at s es w waiting m None h = from_same w (with_next w m.next) (cleaned app s es (with_next w m.next) (waiting ++ m.commands)) (level_same w (with_next w m.next) (next_level w m.next)) h
  cleaned_at s es w waiting m (Some f) h = level_same w (with_next w m.next) (next_level w m.next)

  cleaned_cut : (s : ℕ) (es : List K.Effect) (w : State K) (waiting : List (Command K)) → CutSame w (cleaned app s es w waiting)
  cleaned_cut s [] w waiting = tt
  cleaned_cut s (e ∷ es) w waiting =
      let m : Meaning K Nothing = app.effect e (world_of w s None true) in
      from_same w (called_once w) (cleaned app s (e ∷ es) w waiting) (level_same w (called_once w) (once_level w))
      (cleaned_at s es (called_once w) waiting m m.fault (cleaned_cut s es (with_next (called_once w) m.next) (waiting ++ m.commands)))

  pub removed_cut : (w : State K) (t : ℕ) → CutSame w (removed app w t)
  removed_cut w t =
      let v : State K = stopped w t in
      from_same w v (removed app w t) (level_same w v (stopped_level w t)) (cleaned_cut t (clean_ups (hooks_of v t) []) v [])

  -- an item that makes no scope
  abbrev pub makes : Item K → Bool
  makes (Make s side p c) = true
  makes (Draw s side p k) = false
  makes (Row b step) = false
  makes (Feed s side p c) = false
  makes (Drop t s side) = false

  served_cut : (w : State K) (item : Item K) → makes item ≡ false → CutSame w (outcome_of app w item)
  served_cut w (Draw s side p k) h = either_cut w (at_end w.next.elements) (Cut w (IdsExhausted Elements)) (Done (numbered w s side p k) []) (same_refl w) tt
  served_cut w (Row b step) h = step_at w b step (at w.scopes b)
  served_cut w (Feed s side p c) h = fed_at w c (fed_child w s side p)
  served_cut w (Make s side p c) h = cc
  served_cut w (Drop t s side) h = tt

module _ {K : Types} where
  -- of one side of a scope: output and numbers stay, children with numbers from the limit on may come
  abbrev pub Grows : ℕ → Side K → Side K → Type 0
  Grows limit old new = (new.output ≡ old.output) × (new.numbers ≡ old.numbers) × ((e : Place × ℕ) → Among new.children e → Among old.children e ⊎ (limit ≤ e.1))

  -- at most one scope more stands than in a state, with a number from a limit on
  pub record OneMore (limit : ℕ) (w v : State K) : Type 0 where
    pub sides :
        (t : ℕ) (y : Scope K)
        → at v.scopes t ≡ Some y
        → ((a : SideName) → side_of y a ≡ empty_side)
        ⊎
        (
        (z : Scope K)
        × (at w.scopes t ≡ Some z)
        × ((a : SideName) → Grows limit (side_of z a) (side_of y a))
        )
    pub lives : (t : ℕ) → is_live v t ≡ true → t < limit → is_live w t ≡ true

  from_sides : (limit : ℕ) (w v : State K) → SameSides w v → OneMore limit w v
  from_sides limit w v h =
      record {
        sides =
            λ t y found.
            let z = h t y found in
            inr
            (z.0, z.1, λ a. (ap (λ (i : Side K). i.output) (z.2 a), ap (λ (i : Side K). i.numbers) (z.2 a), λ e g. inl (subst (λ (i : Side K). Among i.children e) (z.2 a) g)));
        lives = λ t live low. let y = found_live (at v.scopes t) live in let z = h t y.0 y.1 in live_found w t z.0 z.1;
      }

  one_then_same : (limit : ℕ) (w u v : State K) → OneMore limit w u → SameSides u v → OneMore limit w v
  one_then_same limit w u v f h =
      record {
        sides =
            λ t y found.
            let x = h t y found in
            elim (f.sides t x.0 x.1) [
              | inl empty ↦ inl (λ a. x.2 a ∙ empty a)
              | inr z ↦
                  inr (
                    z.0,
                    z.1,
                    λ a.
                        let told = z.2 a in
                        (ap (λ (i : Side K). i.output) (x.2 a) ∙ told.0, ap (λ (i : Side K). i.numbers) (x.2 a) ∙ told.1, λ e g. told.2 e (subst (λ (i : Side K). Among i.children e) (x.2 a) g)),
                  )
            ];
        lives = λ t live low. let y = found_live (at v.scopes t) live in let x = h t y.0 y.1 in f.lives t (live_found u t x.0 x.1) low;
      }

  grown : (n : ℕ) (p : Place) (side : Side K) → Grows n side (record side { children = side.children ++ (p, n) ∷ [] })
  grown n p side = (
    refl,
    refl,
    λ e g. elim (among_push side.children (p, n) e g) [ inl i ↦ inl i | inr j ↦ inr (let same : e.1 ≡ n = ap (λ (z : Place × ℕ). z.1) j in omega (arith, same)) ],
  )

  stays : (n : ℕ) (side : Side K) → Grows n side side
  stays n side = (refl, refl, λ e g. inl g)

  child_grows : (n : ℕ) (p : Place) (x : Scope K) (a d : SideName) → Grows n (side_of x d) (side_of (with_child a p n x) d)
  child_grows n p x MainSide MainSide = grown n p x.main_side
  child_grows n p x MainSide ChildrenSide = stays n x.children_side
  child_grows n p x MainSide FallbackSide = stays n x.fallback_side
  child_grows n p x ChildrenSide MainSide = stays n x.main_side
  child_grows n p x ChildrenSide ChildrenSide = grown n p x.children_side
  child_grows n p x ChildrenSide FallbackSide = stays n x.fallback_side
  child_grows n p x FallbackSide MainSide = stays n x.main_side
  child_grows n p x FallbackSide ChildrenSide = stays n x.children_side
  child_grows n p x FallbackSide FallbackSide = grown n p x.fallback_side

  new_empty : (c : VComponent K) (parent : Option ℕ) (height : ℕ) (below d : SideName) → side_of (new_scope c parent height below) d ≡ empty_side
  new_empty c parent height below MainSide = refl
  new_empty c parent height below ChildrenSide = refl
  new_empty c parent height below FallbackSide = refl

  -- a new scope joins its parent's children
  module _ (w : State K) (s : ℕ) (a : SideName) (p : Place) (c : VComponent K) (x : Scope K) (here : at w.scopes s ≡ Some x) (fresh : at w.scopes w.next_scope ≡ None) where
    abbrev held : Scope K
    held = with_child a p w.next_scope x

    abbrev new : Scope K
    new = new_scope c (Some s) (x.height + 1) a

    other_at : (t : ℕ) (y : Scope K) → nat_eq w.next_scope t ≡ false → at (with_new_scope w s a p c x).scopes t ≡ Some y → at (put w.scopes s held) t ≡ Some y
    other_at t y q found = sym (at_append_none (put w.scopes s held) w.next_scope new t q) ∙ found

    new_joins : OneMore w.next_scope w (with_new_scope w s a p c x)
    new_joins =
        record {
          sides =
              λ t y found.
              by_test (nat_eq w.next_scope t)
              (
              λ q.
              let none : at w.scopes t ≡ None = ap (λ (n : ℕ). at w.scopes n) (sym (eqb-true w.next_scope t q)) ∙ fresh in
              let is : new ≡ y = same_scope new y (sym (at_append_here (put w.scopes s held) w.next_scope new t q (at_put_none w.scopes s held x t here none)) ∙ found) in
              inl (λ d. ap (λ (i : Scope K). side_of i d) (sym is) ∙ new_empty c (Some s) (x.height + 1) a d)
              )
              (
              λ q.
              by_test (nat_eq s t)
              (
              λ r.
              let is : held ≡ y = same_scope held y (sym (at_put_here w.scopes s held t r) ∙ other_at t y q found) in
              inr
              (x, ap (λ (n : ℕ). at w.scopes n) (sym (eqb-true s t r)) ∙ here, λ d. subst (λ (i : Scope K). Grows w.next_scope (side_of x d) (side_of i d)) is (child_grows w.next_scope p x a d))
              )
              (λ r. inr (y, sym (at_put_other w.scopes s held t r) ∙ other_at t y q found, λ d. stays w.next_scope (side_of y d)))
              );
          lives =
              λ t live low.
              by_test (nat_eq w.next_scope t)
              (λ q. let same : w.next_scope ≡ t = eqb-true w.next_scope t q in absurd (omega (arith, same, low)))
              (
              λ q.
              let y = found_live (at (with_new_scope w s a p c x).scopes t) live in
              by_test (nat_eq s t)
              (λ r. live_found w t x (ap (λ (n : ℕ). at w.scopes n) (sym (eqb-true s t r)) ∙ here))
              (λ r. live_found w t y.0 (sym (at_put_other w.scopes s held t r) ∙ other_at t y.0 q y.1))
              );
        }

  -- where a change is cut at most one scope more stands
  abbrev pub CutMore : ℕ → State K → Outcome K → Type 0
  CutMore limit w (Done v work) = Unit {0}
  CutMore limit w (Cut v fault) = OneMore limit w v

  pub same_more : (limit : ℕ) (w : State K) (o : Outcome K) → CutSame w o → CutMore limit w o
  same_more limit w (Done v work) h = tt
  same_more limit w (Cut v fault) h = from_sides limit w v h

  after_more : (limit : ℕ) (w u : State K) (o : Outcome K) → OneMore limit w u → CutSame u o → CutMore limit w o
  after_more limit w u (Done v work) f h = tt
  after_more limit w u (Cut v fault) f h = one_then_same limit w u v f h

  either_more : (limit : ℕ) (w : State K) (b : Bool) (x y : Outcome K) → CutMore limit w x → CutMore limit w y → CutMore limit w (if b then x else y)
  either_more limit w true x y h g = h
  either_more limit w false x y h g = g

module _ {K : Types} (app : Application K) (w : State K) (fresh : at w.scopes w.next_scope ≡ None) where
  made_at : (s : ℕ) (a : SideName) (p : Place) (c : VComponent K) (o : Option (Scope K)) → at w.scopes s ≡ o
      → CutMore w.next_scope w (elim o as (λ z. Outcome K) [ None ↦ Done w [] | Some x ↦ made_in app w s a p c x ])
  made_at s a p c None here = tt
  made_at s a p c (Some x) here =
      let u : State K = with_new_scope w s a p c x in
      either_more w.next_scope w (at_end w.next_scope) (Cut w (IdsExhausted Scopes)) (run app u w.next_scope) (from_sides w.next_scope w w (same_refl w))
      (after_more w.next_scope w u (run app u w.next_scope) (new_joins w s a p c x here fresh) (run_cut app u w.next_scope))

  -- an item that is served
  pub outcome_cut : (item : Item K) → CutMore w.next_scope w (outcome_of app w item)
  outcome_cut (Make s a p c) = made_at s a p c (at w.scopes s) refl
  outcome_cut (Draw s a p k) = same_more w.next_scope w (outcome_of app w (Draw s a p k)) (served_cut app w (Draw s a p k) refl)
  outcome_cut (Row b step) = same_more w.next_scope w (outcome_of app w (Row b step)) (served_cut app w (Row b step) refl)
  outcome_cut (Feed s a p c) = same_more w.next_scope w (outcome_of app w (Feed s a p c)) (served_cut app w (Feed s a p c) refl)
  outcome_cut (Drop t s a) = tt
