-- What a run, an item that is served, and a removal leave as it was.
use Rattle.std.proofs.Common.{ℕ, ◌+◌, Bool, true, false, ◌||◌, List, [], ◌∷◌, ◌++◌, ◌≡◌, inl, inr, refl, sym, ap, ◌∙◌, subst, nat_eq}
use Rattle.std.specs.Prelude.{Option, Some, None, if◌then◌else◌}
use Rattle.std.proofs.lemmas.Bool.{eqb-true}
use Rattle.rt_lemmas.proofs.Bools.{neither}
use Rattle.rt_model.specs.Lists.{at, put, without, drop_number, has}
use Rattle.rt_model.specs.Tree.{Types, VComponent, Own, Root, Fragment, ErrorBoundary, SuspenseBoundary, Tree, Place, Kind, Element, rendered, failed, suspended, placeholder_tree, spots}
use Rattle.rt_model.specs.World.{Scopes, Elements, at_end, before_render_kind, CallFault, Command, World, Meaning, Nothing, Application}
use Rattle.rt_model.specs.State.{SideName, MainSide, ChildrenSide, FallbackSide, IdsExhausted, BadNode, RowStep, PatchChildren, MadeChildren, RunFallback, ShowFallback, ShowChildren, DropFallback, Resolve, Side, Scope, State, Item, Draw, Row, Feed, Make, Drop, Outcome, Done, Cut, onward, empty_side, side_of, with_side, new_scope, changed_scope, change, is_held, hooks_of, world_of}
use Rattle.rt_model.specs.Commands.{commands}
use Rattle.rt_model.specs.Run.{fault_of, with_next, called_once, called_where, is_own, answer_fits, kept_call, body_of, call_body, spots_of, patched, start_agenda, has_output, new_output, after_answer, settled_answer, after_hooks, row_of, row_items, runs_fallback, boundary_run, run_as, hooks_called, unmarked, run}
use Rattle.rt_model.specs.Boundary.{children_of, tree_or_placeholder, counts_render, counted_render, fallback_answered, called_back, row_step}
use Rattle.rt_model.specs.Removal.{clean_ups, without_scope, gone, stopped, cleaned, removed}
use Rattle.rt_model.specs.Replay.{numbered, draw_number, with_child, with_new_scope, fed_child, keeps, made_in, with_props, handed, outcome_of}
use Rattle.rt_model.proofs.Maps.{by_test, none_some, eq_same, at_put_here, at_put_other, at_put_none, at_append_here, at_append_none, at_without_other}
use Rattle.law_moves.specs.Frames.{Stand, Shown, those, stand, shown, Keeps, Leaves, served_by, made_by, Joins, JoinsO}
use Rattle.law_moves.proofs.Commanded.{Level, level_trans, level_refl, level_rest, change_level, commands_level}
use Rattle.law_moves.proofs.Called.{LevelO, stopped_level, told_level, next_level, once_level, where_level, kept_level, hooks_level, after_hooks_level, settled_answer_level, counted_level, called_back_level, unmarked_level, onward_level}

pub not_first : (s t : ℕ) (ns : List ℕ) → has (s ∷ ns) t ≡ false → nat_eq s t ≡ false
not_first s t ns h = (neither (nat_eq s t) (has ns t) h).0

pub not_later : (s t : ℕ) (ns : List ℕ) → has (s ∷ ns) t ≡ false → has ns t ≡ false
not_later s t ns h = (neither (nat_eq s t) (has ns t) h).1

pub no_member : (s t : ℕ) → nat_eq s t ≡ false → has (s ∷ []) t ≡ false
no_member s t h = ap (λ (b : Bool). b || false) h

module _ {K : Types} where
  abbrev stand_in : Option (Shown K) → Option Stand
  stand_in None = None
  stand_in (Some f) = Some (f.1, f.2, f.3)

  stand_shown : (o : Option (Scope K)) → stand o ≡ stand_in (shown o)
  stand_shown None = refl
  stand_shown (Some x) = refl

  -- what shows alike stands alike
  pub stand_by : (o p : Option (Scope K)) → shown o ≡ shown p → stand o ≡ stand p
  stand_by o p h = stand_shown o ∙ ap (λ (f : Option (Shown K)). stand_in f) h ∙ sym (stand_shown p)

  -- a change that leaves what shows
  pub level_keeps : (served moved : List ℕ) (w v : State K) → Level w v → Keeps served moved w v
  level_keeps served moved w v h =
      record { sides = λ t p. h.shows t; stands = λ t p. stand_by (at v.scopes t) (at w.scopes t) (h.shows t) }

  -- one change after another
  pub keeps_trans : (served moved : List ℕ) (u v w : State K) → Keeps served moved u v → Keeps served moved v w → Keeps served moved u w
  keeps_trans served moved u v w f g = record { sides = λ t p. g.sides t p ∙ f.sides t p; stands = λ t p. g.stands t p ∙ f.stands t p }

  keeps_refl : (served moved : List ℕ) (w : State K) → Keeps served moved w w
  keeps_refl served moved w = level_keeps served moved w w (level_refl w)

  -- more scopes are passed over
  keeps_wider : (served moved others more : List ℕ) (w v : State K) → ((t : ℕ) → has others t ≡ false → has served t ≡ false) → ((t : ℕ) → has more t ≡ false → has moved t ≡ false)
      → Keeps served moved w v
      → Keeps others more w v
  keeps_wider served moved others more w v f g h = record { sides = λ t p. h.sides t (f t p); stands = λ t p. h.stands t (g t p) }

  leaves_wider : (served moved others more : List ℕ) (w : State K) (o : Outcome K) → ((t : ℕ) → has others t ≡ false → has served t ≡ false) → ((t : ℕ) → has more t ≡ false → has moved t ≡ false)
      → Leaves served moved w o
      → Leaves others more w o
  leaves_wider served moved others more w (Done v work) f g h = keeps_wider served moved others more w v f g h
  leaves_wider served moved others more w (Cut v fault) f g h = keeps_wider served moved others more w v f g h

  level_leaves : (served moved : List ℕ) (w : State K) (o : Outcome K) → LevelO w o → Leaves served moved w o
  level_leaves served moved w (Done v work) h = level_keeps served moved w v h
  level_leaves served moved w (Cut v fault) h = level_keeps served moved w v h

  -- a change, then one that may be cut
  pub from_keeps : (served moved : List ℕ) (w v : State K) (o : Outcome K) → Keeps served moved w v → Leaves served moved v o → Leaves served moved w o
  from_keeps served moved w v (Done u work) h g = keeps_trans served moved w v u h g
  from_keeps served moved w v (Cut u fault) h g = keeps_trans served moved w v u h g

  onward_leaves : (served moved : List ℕ) (w : State K) (o : Outcome K) (f : State K → Outcome K) → LevelO w o → ((v : State K) → Leaves served moved v (f v)) → Leaves served moved w (onward o f)
  onward_leaves served moved w (Done v work) f h g = from_keeps served moved w v (f v) (level_keeps served moved w v h) (g v)
  onward_leaves served moved w (Cut v fault) f h g = level_keeps served moved w v h

  either_leaves : (served moved : List ℕ) (w : State K) (c : Bool) (x y : Outcome K) → Leaves served moved w x → Leaves served moved w y → Leaves served moved w (if c then x else y)
  either_leaves served moved w true x y h g = h
  either_leaves served moved w false x y h g = g

  -- one scope's record is another one that stands alike
  put_stand : (es : List (ℕ × Scope K)) (s : ℕ) (x y : Scope K) → at es s ≡ Some x → stand (Some y) ≡ stand (Some x) → (t : ℕ) → stand (at (put es s y) t) ≡ stand (at es t)
  put_stand es s x y here same t =
      by_test (nat_eq s t)
      (λ q. ap (λ (o : Option (Scope K)). stand o) (at_put_here es s y t q) ∙ same ∙ ap (λ (o : Option (Scope K)). stand o) (sym here ∙ ap (λ (k : ℕ). at es k) (eqb-true s t q)))
      (λ q. ap (λ (o : Option (Scope K)). stand o) (at_put_other es s y t q))

  pub put_keeps : (w : State K) (s : ℕ) (x y : Scope K) → at w.scopes s ≡ Some x → stand (Some y) ≡ stand (Some x) → Keeps (s ∷ []) [] w (record w { scopes = put w.scopes s y })
  put_keeps w s x y here same =
      record {
        sides = λ t p. ap (λ (o : Option (Scope K)). shown o) (at_put_other w.scopes s y t (not_first s t [] p));
        stands = λ t p. put_stand w.scopes s x y here same t;
      }

  changed_keeps : (w : State K) (s : ℕ) (f : Scope K → Scope K) (o : Option (Scope K)) → at w.scopes s ≡ o → ((x : Scope K) → stand (Some (f x)) ≡ stand (Some x)) → Keeps (s ∷ []) [] w (changed_scope w s f o)
  changed_keeps w s f None here same = keeps_refl (s ∷ []) [] w
  changed_keeps w s f (Some x) here same = put_keeps w s x (f x) here (same x)

  change_keeps : (w : State K) (s : ℕ) (f : Scope K → Scope K) → ((x : Scope K) → stand (Some (f x)) ≡ stand (Some x)) → Keeps (s ∷ []) [] w (change w s f)
  change_keeps w s f same = changed_keeps w s f (at w.scopes s) refl same

  -- other parts of the state change, and then one scope
  after_rest : (w v : State K) (s : ℕ) (f : Scope K → Scope K) → Level w v → ((x : Scope K) → stand (Some (f x)) ≡ stand (Some x)) → Keeps (s ∷ []) [] w (change v s f)
  after_rest w v s f h same = keeps_trans (s ∷ []) [] w v (change v s f) (level_keeps (s ∷ []) [] w v h) (change_keeps v s f same)

  side_stands : (x : Scope K) (side : SideName) (a : Side K) → stand (Some (with_side x side a)) ≡ stand (Some x)
  side_stands x MainSide a = refl
  side_stands x ChildrenSide a = refl
  side_stands x FallbackSide a = refl

  numbered_leaves : (w : State K) (s : ℕ) (side : SideName) (p : Place) (k : Kind) → Leaves (s ∷ []) [] w (draw_number w s side p k)
  numbered_leaves w s side p k =
      either_leaves (s ∷ []) [] w (at_end w.next.elements) (Cut w (IdsExhausted Elements)) (Done (numbered w s side p k) []) (keeps_refl (s ∷ []) [] w)
      (after_rest w (with_next w (record (w.next) { elements = w.next.elements + 1 })) s (λ x. with_side x side (record (side_of x side) { numbers = (side_of x side).numbers ++ (p, k, w.next.elements) ∷ [] }))
      (next_level w (record (w.next) { elements = w.next.elements + 1 }))
      (λ x. side_stands x side (record (side_of x side) { numbers = (side_of x side).numbers ++ (p, k, w.next.elements) ∷ [] })))

  -- a scope's record goes
  without_keeps : (w : State K) (s : ℕ) → Keeps (s ∷ []) (s ∷ []) w (without_scope w s)
  without_keeps w s =
      record {
        sides = λ t p. ap (λ (o : Option (Scope K)). shown o) (at_without_other w.scopes s t (not_first s t [] p));
        stands = λ t p. ap (λ (o : Option (Scope K)). stand o) (at_without_other w.scopes s t (not_first s t [] p));
      }

  gone_keeps : (w : State K) (s : ℕ) → Keeps (s ∷ []) (s ∷ []) w (gone w s)
  gone_keeps w s =
      keeps_trans (s ∷ []) (s ∷ []) w (without_scope w s) (gone w s) (without_keeps w s) (level_keeps (s ∷ []) (s ∷ []) (without_scope w s) (gone w s) (told_level w s))

  -- a scope joins the others below its parent
  new_keeps : (w : State K) (s : ℕ) (side : SideName) (p : Place) (c : VComponent K) (x : Scope K) → at w.scopes s ≡ Some x → Keeps (s ∷ w.next_scope ∷ []) (w.next_scope ∷ []) w (with_new_scope w s side p c x)
  new_keeps w s side p c x here =
      let held : Scope K = with_child side p w.next_scope x in
      let new : Scope K = new_scope c (Some s) (x.height + 1) side in
      record {
        sides =
            λ t q.
            ap (λ (o : Option (Scope K)). shown o)
            (at_append_none (put w.scopes s held) w.next_scope new t (not_first w.next_scope t [] (not_later s t (w.next_scope ∷ []) q))
            ∙ at_put_other w.scopes s held t (not_first s t (w.next_scope ∷ []) q));
        stands =
            λ t q.
            ap (λ (o : Option (Scope K)). stand o) (at_append_none (put w.scopes s held) w.next_scope new t (not_first w.next_scope t [] q))
            ∙ put_stand w.scopes s x held here (side_stands x side (record (side_of x side) { children = (side_of x side).children ++ (p, w.next_scope) ∷ [] })) t;
      }

module _ {K : Types} (app : Application K) where
  answered_leaves : (served moved : List ℕ) (w : State K) (s : ℕ) (world : World K) (go : State K → Element K → Outcome K) (m : Meaning K (Element K)) (o : Option CallFault) → ((v : State K) (answer : Element K) → Leaves served moved v (go v answer))
      → Leaves served moved w (elim o as (λ z. Outcome K) [
        | Some f ↦ Cut (with_next w m.next) (fault_of f)
        | None ↦ if answer_fits m.answer then go (commands app (kept_call w s world m) s None m.commands) m.answer else Cut (kept_call w s world m) (BadNode s)
      ])
  answered_leaves served moved w s world go m (Some f) g = level_keeps served moved w (with_next w m.next) (next_level w m.next)
  answered_leaves served moved w s world go m None g =
      let u : State K = kept_call w s world m in
      let v : State K = commands app u s None m.commands in
      either_leaves served moved w (answer_fits m.answer) (go v m.answer) (Cut u (BadNode s))
      (from_keeps served moved w v (go v m.answer) (level_keeps served moved w v (level_trans w u v (kept_level w s world m) (commands_level app u s None m.commands))) (g v m.answer))
      (level_keeps served moved w u (kept_level w s world m))

  -- a body's call and what follows it
  call_leaves : (served moved : List ℕ) (w : State K) (s : ℕ) (c : VComponent K) (go : State K → Element K → Outcome K) → ((v : State K) (answer : Element K) → Leaves served moved v (go v answer))
      → Leaves served moved w (call_body app w s c go)
  call_leaves served moved w s c go g =
      let world : World K = world_of w s None true in
      let u : State K = called_where (is_own c world) w in
      from_keeps served moved w u (call_body app w s c go) (level_keeps served moved w u (where_level (is_own c world) w))
      (answered_leaves served moved u s world go (body_of app c world) (body_of app c world).fault g)

  -- a side has another output
  agenda_at : (w : State K) (s : ℕ) (side : SideName) (tree : Tree K) (o : Option (Scope K)) → at w.scopes s ≡ o
      → Leaves (s ∷ []) [] w (elim o as (λ z. Outcome K) [ None ↦ Done w [] | Some x ↦ patched app w s side tree (spots_of (side_of x side).output) (spots [] tree) (side_of x side) x ])
  agenda_at w s side tree None here = keeps_refl (s ∷ []) [] w
  agenda_at w s side tree (Some x) here = put_keeps w s x _ here (side_stands x side _)

  agenda_leaves : (w : State K) (s : ℕ) (side : SideName) (tree : Tree K) → Leaves (s ∷ []) [] w (start_agenda app w s side tree)
  agenda_leaves w s side tree = agenda_at w s side tree (at w.scopes s) refl

  output_leaves : (w : State K) (s : ℕ) (answer : Element K) → Leaves (s ∷ []) [] w (new_output app w s answer)
  output_leaves w s (rendered tree) = agenda_leaves w s MainSide tree
  output_leaves w s (failed e) =
      either_leaves (s ∷ []) [] w (has_output w s) (Done w []) (start_agenda app w s MainSide placeholder_tree) (keeps_refl (s ∷ []) [] w) (agenda_leaves w s MainSide placeholder_tree)
  output_leaves w s (suspended origin t) =
      either_leaves (s ∷ []) [] w (has_output w s) (Done w []) (start_agenda app w s MainSide placeholder_tree) (keeps_refl (s ∷ []) [] w) (agenda_leaves w s MainSide placeholder_tree)

  after_answer_leaves : (w : State K) (s : ℕ) (answer : Element K) → Leaves (s ∷ []) [] w (after_answer app w s answer)
  after_answer_leaves w s answer =
      onward_leaves (s ∷ []) [] w (onward (settled_answer app w s answer) (λ v. after_hooks app v s)) (λ v. new_output app v s answer)
      (onward_level w (settled_answer app w s answer) (λ v. after_hooks app v s) (settled_answer_level app w s answer) (λ v. after_hooks_level app v s))
      (λ v. output_leaves v s answer)

  boundary_leaves : (w : State K) (b : ℕ) (steps : List RowStep) → Leaves (b ∷ []) [] w (boundary_run app w b steps)
  boundary_leaves w b steps =
      either_leaves (b ∷ []) [] w (runs_fallback steps) (Done w (row_items b steps)) (onward (after_hooks app w b) (λ v. Done v (row_items b steps)))
      (keeps_refl (b ∷ []) [] w)
      (onward_leaves (b ∷ []) [] w (after_hooks app w b) (λ v. Done v (row_items b steps)) (after_hooks_level app w b) (λ v. keeps_refl (b ∷ []) [] v))

  run_as_leaves : (w : State K) (s : ℕ) (x : Scope K) (c : VComponent K) → Leaves (s ∷ []) [] w (run_as app w s x c)
  run_as_leaves w s x (SuspenseBoundary children fallback) = boundary_leaves w s (row_of x.shows (is_held x))
  run_as_leaves w s x (Own component props) = call_leaves (s ∷ []) [] w s (Own component props) (λ v answer. after_answer app v s answer) (λ v answer. after_answer_leaves v s answer)
  run_as_leaves w s x (Root component props) = call_leaves (s ∷ []) [] w s (Root component props) (λ v answer. after_answer app v s answer) (λ v answer. after_answer_leaves v s answer)
  run_as_leaves w s x (Fragment children) = call_leaves (s ∷ []) [] w s (Fragment children) (λ v answer. after_answer app v s answer) (λ v answer. after_answer_leaves v s answer)
  run_as_leaves w s x (ErrorBoundary children handler) =
      call_leaves (s ∷ []) [] w s (ErrorBoundary children handler) (λ v answer. after_answer app v s answer) (λ v answer. after_answer_leaves v s answer)

  run_at : (w : State K) (s : ℕ) (o : Option (Scope K))
      → Leaves (s ∷ []) [] w (elim o as (λ z. Outcome K) [
        | None ↦ Done w []
        | Some x ↦ onward (hooks_called app before_render_kind (unmarked w s) s x.hooks) (λ v. run_as app v s x x.component)
      ])
  run_at w s None = keeps_refl (s ∷ []) [] w
  run_at w s (Some x) =
      let u : State K = unmarked w s in
      let hooks : Outcome K = hooks_called app before_render_kind u s x.hooks in
      from_keeps (s ∷ []) [] w u (onward hooks (λ v. run_as app v s x x.component)) (level_keeps (s ∷ []) [] w u (unmarked_level w s))
      (onward_leaves (s ∷ []) [] u hooks (λ v. run_as app v s x x.component) (hooks_level app before_render_kind u s x.hooks) (λ v. run_as_leaves v s x x.component))

  -- a run serves its own scope
  pub run_leaves : (w : State K) (s : ℕ) → Leaves (s ∷ []) [] w (run app w s)
  run_leaves w s = run_at w s (at w.scopes s)

  -- the steps of a boundary's run

  row_leaves : (w : State K) (b : ℕ) (x : Scope K) (step : RowStep) → Leaves (b ∷ []) [] w (row_step app w b x step)
  row_leaves w b x PatchChildren = agenda_leaves w b ChildrenSide (children_of x.component)
  row_leaves w b x MadeChildren = keeps_refl (b ∷ []) [] w
  row_leaves w b x RunFallback =
      call_leaves (b ∷ []) [] w b x.component (λ v answer. fallback_answered app v b x.component answer)
      (
      λ v answer.
      onward_leaves (b ∷ []) [] v (onward (counted_render app v b (counts_render x.component answer)) (λ u. after_hooks app u b))
      (λ u. start_agenda app u b FallbackSide (tree_or_placeholder answer))
      (onward_level v (counted_render app v b (counts_render x.component answer)) (λ u. after_hooks app u b) (counted_level app v b (counts_render x.component answer)) (λ u. after_hooks_level app u b))
      (λ u. agenda_leaves u b FallbackSide (tree_or_placeholder answer))
      )
  row_leaves w b x ShowFallback =
      after_rest w (record w { resolved = drop_number w.resolved b }) b (λ y. record y { shows = Some FallbackSide }) (level_rest w (record w { resolved = drop_number w.resolved b }) refl refl) (λ y. refl)
  row_leaves w b x ShowChildren =
      after_rest w (record w { last_calls = without w.last_calls b }) b (λ y. record y { shows = Some ChildrenSide; reads = [] }) (level_rest w (record w { last_calls = without w.last_calls b }) refl refl) (λ y. refl)
  row_leaves w b x DropFallback = change_keeps w b (λ y. record y { fallback_side = empty_side }) (λ y. refl)
  row_leaves w b x Resolve =
      let u : State K = record w { resolved = w.resolved ++ b ∷ [] } in
      let v : State K = change u b (λ y. record y { callbacks = [] }) in
      from_keeps (b ∷ []) [] w v (called_back app v x.callbacks)
      (level_keeps (b ∷ []) [] w v (level_trans w u v (level_rest w u refl refl) (change_level u b (λ y. record y { callbacks = [] }) (λ y. refl))))
      (level_leaves (b ∷ []) [] v (called_back app v x.callbacks) (called_back_level app v x.callbacks))

  step_at : (w : State K) (b : ℕ) (step : RowStep) (o : Option (Scope K)) → Leaves (b ∷ []) [] w (elim o as (λ z. Outcome K) [ None ↦ Done w [] | Some x ↦ row_step app w b x step ])
  step_at w b step None = keeps_refl (b ∷ []) [] w
  step_at w b step (Some x) = row_leaves w b x step

  -- what is fed, and what is made

  handed_leaves : (w : State K) (t : ℕ) (c : VComponent K) → Leaves (t ∷ []) [] w (handed app w t c)
  handed_leaves w t c =
      let v : State K = with_props app w t c in
      let fed : Keeps (t ∷ []) [] w v = change_keeps w t (λ x. record x { component = c }) (λ x. refl) in
      either_leaves (t ∷ []) [] w (keeps app w t c) (Done v []) (run app v t) fed (from_keeps (t ∷ []) [] w v (run app v t) fed (run_leaves v t))

  fed_at : (w : State K) (c : VComponent K) (o : Option ℕ) → Leaves (those o) [] w (elim o as (λ z. Outcome K) [ None ↦ Done w [] | Some t ↦ handed app w t c ])
  fed_at w c None = keeps_refl [] [] w
  fed_at w c (Some t) = handed_leaves w t c

  made_in_leaves : (w : State K) (s : ℕ) (side : SideName) (p : Place) (c : VComponent K) (x : Scope K) → at w.scopes s ≡ Some x
      → Leaves (s ∷ w.next_scope ∷ []) (w.next_scope ∷ []) w (made_in app w s side p c x)
  made_in_leaves w s side p c x here =
      let n : ℕ = w.next_scope in
      let u : State K = with_new_scope w s side p c x in
      either_leaves (s ∷ n ∷ []) (n ∷ []) w (at_end n) (Cut w (IdsExhausted Scopes)) (run app u n) (keeps_refl (s ∷ n ∷ []) (n ∷ []) w)
      (from_keeps (s ∷ n ∷ []) (n ∷ []) w u (run app u n) (new_keeps w s side p c x here)
      (leaves_wider (n ∷ []) [] (s ∷ n ∷ []) (n ∷ []) u (run app u n) (λ t q. not_later s t (n ∷ []) q) (λ t q. refl) (run_leaves u n)))

  made_at : (w : State K) (s : ℕ) (side : SideName) (p : Place) (c : VComponent K) (o : Option (Scope K)) → at w.scopes s ≡ o
      → Leaves (s ∷ w.next_scope ∷ []) (w.next_scope ∷ []) w (elim o as (λ z. Outcome K) [ None ↦ Done w [] | Some x ↦ made_in app w s side p c x ])
  made_at w s side p c None here = keeps_refl (s ∷ w.next_scope ∷ []) (w.next_scope ∷ []) w
  made_at w s side p c (Some x) here = made_in_leaves w s side p c x here

  -- an item that is served
  pub item_leaves : (w : State K) (item : Item K) → Leaves (served_by w item) (made_by w item) w (outcome_of app w item)
  item_leaves w (Draw s side p k) = numbered_leaves w s side p k
  item_leaves w (Row b step) = step_at w b step (at w.scopes b)
  item_leaves w (Feed s side p c) = fed_at w c (fed_child w s side p)
  item_leaves w (Make s side p c) = made_at w s side p c (at w.scopes s) refl
  item_leaves w (Drop t s side) = keeps_refl [] [] w

  -- removals

  cleaned_at : (s : ℕ) (es : List K.Effect) (w : State K) (waiting : List (Command K)) (m : Meaning K Nothing) (o : Option CallFault)
      → Leaves (s ∷ []) (s ∷ []) (with_next w m.next) (cleaned app s es (with_next w m.next) (waiting ++ m.commands))
      → Leaves (s ∷ []) (s ∷ []) w (elim o as (λ z. Outcome K) [ None ↦ cleaned app s es (with_next w m.next) (waiting ++ m.commands) | Some f ↦ Cut (with_next w m.next) (fault_of f) ])
  cleaned_at s es w waiting m None h =
      from_keeps (s ∷ []) (s ∷ []) w (with_next w m.next) (cleaned app s es (with_next w m.next) (waiting ++ m.commands)) (level_keeps (s ∷ []) (s ∷ []) w (with_next w m.next) (next_level w m.next)) h
  cleaned_at s es w waiting m (Some f) h = level_keeps (s ∷ []) (s ∷ []) w (with_next w m.next) (next_level w m.next)

  cleaned_leaves : (s : ℕ) (es : List K.Effect) (w : State K) (waiting : List (Command K)) → Leaves (s ∷ []) (s ∷ []) w (cleaned app s es w waiting)
  cleaned_leaves s [] w waiting =
      keeps_trans (s ∷ []) (s ∷ []) w (gone w s) (commands app (gone w s) s None waiting) (gone_keeps w s)
      (level_keeps (s ∷ []) (s ∷ []) (gone w s) (commands app (gone w s) s None waiting) (commands_level app (gone w s) s None waiting))
  cleaned_leaves s (e ∷ es) w waiting =
      let m : Meaning K Nothing = app.effect e (world_of w s None true) in
      from_keeps (s ∷ []) (s ∷ []) w (called_once w) (cleaned app s (e ∷ es) w waiting) (level_keeps (s ∷ []) (s ∷ []) w (called_once w) (once_level w))
      (cleaned_at s es (called_once w) waiting m m.fault (cleaned_leaves s es (with_next (called_once w) m.next) (waiting ++ m.commands)))

  -- a removal
  pub removal_leaves : (w : State K) (t : ℕ) → Leaves (t ∷ []) (t ∷ []) w (removed app w t)
  removal_leaves w t =
      let v : State K = stopped w t in
      from_keeps (t ∷ []) (t ∷ []) w v (removed app w t) (level_keeps (t ∷ []) (t ∷ []) w v (stopped_level w t)) (cleaned_leaves t (clean_ups (hooks_of v t) []) v [])

  -- a new scope and its parent

  joins_by : (w u v : State K) (s : ℕ) (side : SideName) (p : Place) (c : VComponent K) (x : Scope K) → Keeps (w.next_scope ∷ []) [] u v → nat_eq w.next_scope s ≡ false → Joins s side p c w x u → Joins s side p c w x v
  joins_by w u v s side p c x k apart h = (k.sides s (no_member w.next_scope s apart) ∙ h.0, k.stands w.next_scope refl ∙ h.1)

  joined_after : (w u : State K) (s : ℕ) (side : SideName) (p : Place) (c : VComponent K) (x : Scope K) (o : Outcome K) → Leaves (w.next_scope ∷ []) [] u o → nat_eq w.next_scope s ≡ false → Joins s side p c w x u
      → JoinsO s side p c w x o
  joined_after w u s side p c x (Done v work) k apart h = joins_by w u v s side p c x k apart h
  joined_after w u s side p c x (Cut v fault) k apart h = inr (joins_by w u v s side p c x k apart h)

  either_joins : (w : State K) (s : ℕ) (side : SideName) (p : Place) (c : VComponent K) (x : Scope K) (b : Bool) (o : Outcome K) → JoinsO s side p c w x o → JoinsO s side p c w x (if b then Cut w (IdsExhausted Scopes) else o)
  either_joins w s side p c x true o h = inl refl
  either_joins w s side p c x false o h = h

  -- a new scope joins its parent's children
  pub make_joins : (w : State K) (s : ℕ) (side : SideName) (p : Place) (c : VComponent K) (x : Scope K) → at w.scopes s ≡ Some x → at w.scopes w.next_scope ≡ None
      → JoinsO s side p c w x (outcome_of app w (Make s side p c))
  make_joins w s side p c x here none =
      let n : ℕ = w.next_scope in
      let held : Scope K = with_child side p n x in
      let new : Scope K = new_scope c (Some s) (x.height + 1) side in
      let u : State K = with_new_scope w s side p c x in
      let apart : nat_eq n s ≡ false =
      by_test (nat_eq n s) (λ q. none_some (sym (ap (λ (k : ℕ). at w.scopes k) (eqb-true n s q)) ∙ none) here) (λ q. q) in
      let joined : Joins s side p c w x u = (
        ap (λ (o : Option (Scope K)). shown o) (at_append_none (put w.scopes s held) n new s apart ∙ at_put_here w.scopes s held s (eq_same s)),
        ap (λ (o : Option (Scope K)). stand o) (at_append_here (put w.scopes s held) n new n (eq_same n) (at_put_none w.scopes s held x n here none)),
      ) in
      subst (λ (o : Option (Scope K)). JoinsO s side p c w x (elim o as (λ z. Outcome K) [ None ↦ Done w [] | Some y ↦ made_in app w s side p c y ])) (sym here)
      (either_joins w s side p c x (at_end n) (run app u n) (joined_after w u s side p c x (run app u n) (run_leaves u n) apart joined))
