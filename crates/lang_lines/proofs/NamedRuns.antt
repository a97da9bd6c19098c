-- What runs, removals and items that are served leave named.
use Rattle.std.proofs.Common.{ℕ, ◌+◌, Bool, true, false, List, [], ◌∷◌, ◌++◌, ◌≡◌, refl, sym, subst}
use Rattle.std.specs.Prelude.{Option, Some, None, if◌then◌else◌}
use Rattle.rt_model.specs.Lists.{at, put, without, drop_number}
use Rattle.rt_model.specs.Tree.{Types, CapturedError, Tree, placeholder_tree, VComponent, Own, Root, Fragment, ErrorBoundary, SuspenseBoundary, Element, rendered, failed, suspended, Place, Kind, Spot, node_at, component_at, spots}
use Rattle.rt_model.specs.World.{Scopes, Elements, Firsts, at_end, before_render_kind, CallFault, Command, World, Meaning, Application}
use Rattle.rt_model.specs.Laws.{IsNumbered, IsLawful}
use Rattle.rt_model.specs.State.{SideName, MainSide, ChildrenSide, FallbackSide, IdsExhausted, BadNode, RowStep, PatchChildren, MadeChildren, RunFallback, ShowFallback, ShowChildren, DropFallback, Resolve, Side, Scope, State, Item, Draw, Row, Feed, Make, Drop, Outcome, Done, Cut, onward, empty_side, side_of, with_side, new_scope, change, is_held, world_of}
use Rattle.rt_model.specs.Commands.{commands}
use Rattle.rt_model.specs.Run.{fault_of, child_at, with_next, called_once, called_where, is_own, answer_fits, kept_call, has_node, component_in, kept_numbers, kept_children, serves, drops_of, drop_at, is_fed, spots_of, patched, caught, body_of, call_body, start_agenda, has_output, new_output, after_answer, settled_answer, after_hooks, row_of, row_items, runs_fallback, boundary_run, run_as, hooks_called, unmarked, run}
use Rattle.rt_model.specs.Boundary.{children_of, tree_or_placeholder, counts_render, counted_render, fallback_answered, called_back, side_scopes, drop_items, row_step}
use Rattle.rt_model.specs.Removal.{removed}
use Rattle.rt_model.specs.Replay.{numbered, with_child, with_new_scope, fed_child, keeps, made_in, with_props, handed, outcome_of}
use Rattle.rt_model.proofs.SideFrames.{stay_trans, stay_rest, change_stay}
use Rattle.rt_model.proofs.SideRuns.{StayO, next_stay, unmarked_stay, kept_stay, removed_stay}
use Rattle.rt_model.proofs.RunFrames.{body_numbered}
use Rattle.rt_model.proofs.NumbersRun.{Idle, called_back_idle, removed_idle}
use Rattle.lang_lines.specs.Named.{NamedTree, NamedComponent, NamedElement, AnswersNamed}
use Rattle.lang_lines.proofs.NamedViews.{small_drawn, one_more_small, NamedSide, NamedScope}
use Rattle.lang_lines.proofs.NamedCuts.{StaysCut, onward_stays, call_stays, hooks_stays, after_hooks_stays, answer_stays, counted_stays, called_back_stays, removed_cut}
use Rattle.lang_lines.proofs.NamedStates.{drawn_on, placeholder_named, error_named, root_named, AllItems, items_both, NamedO, named_if, stay_named, at_rest_named, cut_named, onward_named, idle_named, work_named, put_scopes, change_scopes, side_named, empty_named, new_named, joined_scopes, AllSpots, tree_spotted, kept_small, rows_named, drops_named, drop_at_named, number_low, handed_side, without_first, children_named, or_placeholder_named, children_of_named, NamedAt}

module _ {K : Types} (app : Application K) (lawful : IsLawful K app) (answers : AnswersNamed app) where
  caught_named : (children : Element K) (handler : Option (K.Component × K.Props)) (w : World K) (o : Option CapturedError) → NamedElement children → NamedElement (caught app children handler w o).answer
  caught_named children handler w None h = children_named children h
  caught_named children None w (Some e) h = error_named K e.text
  caught_named children (Some f) w (Some e) h = answers f.0 f.1 w

  -- a component's body answers a tree with names
  body_named : (c : VComponent K) (w : World K) → NamedComponent c → NamedElement (body_of app c w).answer
  body_named (Own component props) w h = answers component props w
  body_named (Root component props) w h = root_named K component props
  body_named (Fragment children) w h = h
  body_named (ErrorBoundary children handler) w h = caught_named children handler w (w.values.error w.given.scope) h
  body_named (SuspenseBoundary children None) w h = placeholder_named K
  body_named (SuspenseBoundary children (Some f)) w h = answers f.0 f.1 w

  serves_named : (s : ℕ) (side : SideName) (old new : List (Spot K)) → AllSpots new → AllItems (serves app s side old new)
  serves_named s side old [] h = tt
  serves_named s side old (node_at p k ∷ new) h = either (has_node old p k) (serves_named s side old new h.1)
    where
      either : (b : Bool) → AllItems (serves app s side old new) → AllItems (if b then serves app s side old new else Draw s side p k ∷ serves app s side old new)
      either true later = later
      either false later = (tt, later)
  serves_named s side old (component_at p c ∷ new) h = either (is_fed app (component_in old p) (Some c)) (serves_named s side old new h.1)
    where
      either : (b : Bool) → AllItems (serves app s side old new) → AllItems (if b then Feed s side p c ∷ serves app s side old new else Make s side p c ∷ serves app s side old new)
      either true later = (h.0, later)
      either false later = (h.0, later)

  dropped_named : (s : ℕ) (side : SideName) (new : List (Spot K)) (children : List (Place × ℕ)) (old : List (Spot K)) → AllItems (drops_of app s side new children old)
  dropped_named s side new children [] = tt
  dropped_named s side new children (node_at p k ∷ old) = dropped_named s side new children old
  dropped_named s side new children (component_at p c ∷ old) = either (is_fed app (Some c) (component_in new p)) (dropped_named s side new children old)
    where
      either : (b : Bool) → AllItems (drops_of app s side new children old) → AllItems (if b then drops_of app s side new children old else drop_at s side (child_at children p) ++ drops_of app s side new children old)
      either true later = later
      either false later = items_both (drop_at s side (child_at children p)) (drops_of app s side new children old) (drop_at_named old s side (child_at children p)) later

  -- a side has a new output with names
  agenda_at : (w : State K) (rest : List (Item K)) (s : ℕ) (side : SideName) (tree : Tree K) (o : Option (Scope K)) → at w.scopes s ≡ o → NamedTree tree → NamedAt w rest
      → NamedO rest (elim o as (λ z. Outcome K) [ None ↦ Done w [] | Some x ↦ patched app w s side tree (spots_of (side_of x side).output) (spots [] tree) (side_of x side) x ])
  agenda_at w rest s side tree None e g h = h
  agenda_at w rest s side tree (Some x) e g h =
      let old : List (Spot K) = spots_of (side_of x side).output in
      let new : List (Spot K) = spots [] tree in
      let was : Side K = side_of x side in
      let is : Side K = record { output = Some tree; numbers = kept_numbers new was.numbers; children = kept_children app old new was.children } in
      let own : NamedScope x = h.scopes s x e in
      let now : NamedSide is = record { small = kept_small new was.numbers (own.sides side).small; output = g } in
      let work : List (Item K) = serves app s side old new ++ drops_of app s side new was.children old in
      record {
        low = h.low;
        scopes = put_scopes w s x (with_side x side is) e (side_named x side is own now) h.scopes;
        items =
            items_both work rest
            (items_both (serves app s side old new) (drops_of app s side new was.children old) (serves_named s side old new (tree_spotted [] tree g)) (dropped_named s side new was.children old))
            h.items;
      }

  agenda_named : (w : State K) (rest : List (Item K)) (s : ℕ) (side : SideName) (tree : Tree K) → NamedTree tree → NamedAt w rest → NamedO rest (start_agenda app w s side tree)
  agenda_named w rest s side tree g h = agenda_at w rest s side tree (at w.scopes s) refl g h

  output_named : (w : State K) (rest : List (Item K)) (s : ℕ) (a : Element K) → NamedElement a → NamedAt w rest → NamedO rest (new_output app w s a)
  output_named w rest s (rendered tree) g h = agenda_named w rest s MainSide tree g h
  output_named w rest s (failed e) g h = named_if rest (has_output w s) (Done w []) (start_agenda app w s MainSide placeholder_tree) h (agenda_named w rest s MainSide placeholder_tree (placeholder_named K) h)
  output_named w rest s (suspended origin t) g h = named_if rest (has_output w s) (Done w []) (start_agenda app w s MainSide placeholder_tree) h (agenda_named w rest s MainSide placeholder_tree (placeholder_named K) h)

  answer_named : (w : State K) (rest : List (Item K)) (s : ℕ) (a : Element K) → NamedElement a → NamedAt w rest → NamedO rest (after_answer app w s a)
  answer_named w rest s a g h =
      onward_named w rest (onward (settled_answer app w s a) (λ v. after_hooks app v s)) (λ v. new_output app v s a)
      (onward_stays w (settled_answer app w s a) (λ v. after_hooks app v s) (answer_stays app lawful w s a) (λ v. after_hooks_stays app lawful v s))
      h (λ v k. output_named v rest s a g k)

  fits_named : (w : State K) (rest : List (Item K)) (s : ℕ) (world : World K) (go : State K → Element K → Outcome K) (m : Meaning K (Element K)) (b : Bool) → IsNumbered w.next m.commands m.next → NamedElement m.answer
      → ((v : State K) (a : Element K) → NamedElement a → NamedAt v rest → NamedO rest (go v a))
      → NamedAt w rest
      → NamedO rest (if b then go (commands app (kept_call w s world m) s None m.commands) m.answer else Cut (kept_call w s world m) (BadNode s))
  fits_named w rest s world go m true n g each h =
      let v : State K = commands app (kept_call w s world m) s None m.commands in
      each v m.answer g (stay_named w v rest (kept_stay app lawful w s world m n) h)
  fits_named w rest s world go m false n g each h = cut_named w (kept_call w s world m) rest (call_stays app lawful w s world m n) h

  answered_named : (w : State K) (rest : List (Item K)) (s : ℕ) (world : World K) (go : State K → Element K → Outcome K) (m : Meaning K (Element K)) (o : Option CallFault) → IsNumbered w.next m.commands m.next → NamedElement m.answer
      → ((v : State K) (a : Element K) → NamedElement a → NamedAt v rest → NamedO rest (go v a))
      → NamedAt w rest
      → NamedO rest (elim o as (λ z. Outcome K) [
        | Some f ↦ Cut (with_next w m.next) (fault_of f)
        | None ↦ if answer_fits m.answer then go (commands app (kept_call w s world m) s None m.commands) m.answer else Cut (kept_call w s world m) (BadNode s)
      ])
  answered_named w rest s world go m (Some f) n g each h = cut_named w (with_next w m.next) rest (next_stay app lawful w m n) h
  answered_named w rest s world go m None n g each h = fits_named w rest s world go m (answer_fits m.answer) n g each h

  where_named : (b : Bool) (w : State K) (rest : List (Item K)) → NamedAt w rest → NamedAt (called_where b w) rest
  where_named true w rest h = stay_named w (called_once w) rest (stay_rest w (called_once w) refl refl refl) h
  where_named false w rest h = h

  where_numbered : (b : Bool) (w : State K) (cs : List (Command K)) (next : Firsts) → IsNumbered w.next cs next → IsNumbered (called_where b w).next cs next
  where_numbered true w cs next n = n
  where_numbered false w cs next n = n

  call_named : (w : State K) (rest : List (Item K)) (s : ℕ) (c : VComponent K) (go : State K → Element K → Outcome K) → NamedComponent c
      → ((v : State K) (a : Element K) → NamedElement a → NamedAt v rest → NamedO rest (go v a))
      → NamedAt w rest
      → NamedO rest (call_body app w s c go)
  call_named w rest s c go g each h =
      let world : World K = world_of w s None true in
      let m : Meaning K (Element K) = body_of app c world in
      answered_named (called_where (is_own c world) w) rest s world go m m.fault (where_numbered (is_own c world) w m.commands m.next (body_numbered app lawful c world)) (body_named c world g) each (where_named (is_own c world) w rest h)

  boundary_named : (w : State K) (rest : List (Item K)) (b : ℕ) (steps : List RowStep) → NamedAt w rest → NamedO rest (boundary_run app w b steps)
  boundary_named w rest b steps h =
      named_if rest (runs_fallback steps) (Done w (row_items b steps)) (onward (after_hooks app w b) (λ v. Done v (row_items b steps)))
      (work_named w rest (row_items b steps) (rows_named w b steps) h)
      (onward_named w rest (after_hooks app w b) (λ v. Done v (row_items b steps)) (after_hooks_stays app lawful w b) h (λ v k. work_named v rest (row_items b steps) (rows_named v b steps) k))

  run_as_named : (w : State K) (rest : List (Item K)) (s : ℕ) (x : Scope K) (c : VComponent K) → NamedComponent c → NamedAt w rest → NamedO rest (run_as app w s x c)
  run_as_named w rest s x (SuspenseBoundary children fallback) g h = boundary_named w rest s (row_of x.shows (is_held x)) h
  run_as_named w rest s x (Own component props) g h = call_named w rest s (Own component props) (λ v a. after_answer app v s a) g (λ v a f k. answer_named v rest s a f k) h
  run_as_named w rest s x (Root component props) g h = call_named w rest s (Root component props) (λ v a. after_answer app v s a) g (λ v a f k. answer_named v rest s a f k) h
  run_as_named w rest s x (Fragment children) g h = call_named w rest s (Fragment children) (λ v a. after_answer app v s a) g (λ v a f k. answer_named v rest s a f k) h
  run_as_named w rest s x (ErrorBoundary children handler) g h = call_named w rest s (ErrorBoundary children handler) (λ v a. after_answer app v s a) g (λ v a f k. answer_named v rest s a f k) h

  run_at : (w : State K) (rest : List (Item K)) (s : ℕ) (o : Option (Scope K)) → at w.scopes s ≡ o → NamedAt w rest
      → NamedO rest (elim o as (λ z. Outcome K) [ None ↦ Done w [] | Some x ↦ onward (hooks_called app before_render_kind (unmarked w s) s x.hooks) (λ v. run_as app v s x x.component) ])
  run_at w rest s None e h = h
  run_at w rest s (Some x) e h =
      let u : State K = unmarked w s in
      onward_named u rest (hooks_called app before_render_kind u s x.hooks) (λ v. run_as app v s x x.component)
      (hooks_stays app lawful before_render_kind u s x.hooks) (stay_named w u rest (unmarked_stay w s) h)
      (λ v k. run_as_named v rest s x x.component (h.scopes s x e).component k)

  -- a run, before the rest of the work
  pub run_named : (w : State K) (rest : List (Item K)) (s : ℕ) → NamedAt w rest → NamedO rest (run app w s)
  run_named w rest s h = run_at w rest s (at w.scopes s) refl h

  fallback_named : (w : State K) (rest : List (Item K)) (b : ℕ) (c : VComponent K) (a : Element K) → NamedElement a → NamedAt w rest → NamedO rest (fallback_answered app w b c a)
  fallback_named w rest b c a g h =
      onward_named w rest (onward (counted_render app w b (counts_render c a)) (λ v. after_hooks app v b)) (λ v. start_agenda app v b FallbackSide (tree_or_placeholder a))
      (onward_stays w (counted_render app w b (counts_render c a)) (λ v. after_hooks app v b) (counted_stays app lawful w b (counts_render c a)) (λ v. after_hooks_stays app lawful v b))
      h (λ v k. agenda_named v rest b FallbackSide (tree_or_placeholder a) (or_placeholder_named a g) k)

  row_named : (w : State K) (rest : List (Item K)) (b : ℕ) (x : Scope K) (step : RowStep) → at w.scopes b ≡ Some x → NamedAt w rest → NamedO rest (row_step app w b x step)
  row_named w rest b x PatchChildren e h = agenda_named w rest b ChildrenSide (children_of x.component) (children_of_named x.component (h.scopes b x e).component) h
  row_named w rest b x MadeChildren e h =
      let steps : List RowStep = if is_held x then RunFallback ∷ ShowFallback ∷ [] else ShowChildren ∷ Resolve ∷ [] in work_named w rest (row_items b steps) (rows_named w b steps) h
  row_named w rest b x RunFallback e h =
      call_named w rest b x.component (λ v a. fallback_answered app v b x.component a) (h.scopes b x e).component (λ v a g k. fallback_named v rest b x.component a g k) h
  row_named w rest b x ShowFallback e h =
      let v : State K = record w { resolved = drop_number w.resolved b } in
      stay_named w (change v b (λ y. record y { shows = Some FallbackSide })) rest
      (stay_trans w v (change v b (λ y. record y { shows = Some FallbackSide })) (stay_rest w v refl refl refl) (change_stay v b (λ y. record y { shows = Some FallbackSide }) (λ y. refl))) h
  row_named w rest b x ShowChildren e h =
      let v : State K = record w { last_calls = without w.last_calls b } in
      stay_named w (change v b (λ y. record y { shows = Some ChildrenSide; reads = [] })) rest
      (stay_trans w v (change v b (λ y. record y { shows = Some ChildrenSide; reads = [] })) (stay_rest w v refl refl refl) (change_stay v b (λ y. record y { shows = Some ChildrenSide; reads = [] }) (λ y. refl))) h
  row_named w rest b x DropFallback e h =
      let work : List (Item K) = drop_items b FallbackSide (side_scopes w x.fallback_side) in
      record {
        low = number_low w b (λ y. record y { fallback_side = empty_side }) (at w.scopes b) h.low;
        scopes = change_scopes w b (λ y. record y { fallback_side = empty_side }) (λ y k. side_named y FallbackSide empty_side k empty_named) h.scopes;
        items = items_both work rest (drops_named w b FallbackSide (side_scopes w x.fallback_side)) h.items;
      }
  row_named w rest b x Resolve e h =
      let v : State K = record w { resolved = w.resolved ++ b ∷ [] } in
      let u : State K = change v b (λ y. record y { callbacks = [] }) in
      idle_named u rest (called_back app u x.callbacks) (called_back_stays app lawful u x.callbacks) (called_back_idle app lawful u x.callbacks)
      (stay_named w u rest (stay_trans w v u (stay_rest w v refl refl refl) (change_stay v b (λ y. record y { callbacks = [] }) (λ y. refl))) h)

  step_at : (w : State K) (rest : List (Item K)) (b : ℕ) (step : RowStep) (o : Option (Scope K)) → at w.scopes b ≡ o → NamedAt w rest → NamedO rest (elim o as (λ z. Outcome K) [ None ↦ Done w [] | Some x ↦ row_step app w b x step ])
  step_at w rest b step None e h = h
  step_at w rest b step (Some x) e h = row_named w rest b x step e h

  -- items that are served

  number_named : (w : State K) (rest : List (Item K)) (s : ℕ) (side : SideName) (p : Place) (k : Kind) (b : Bool) → at_end w.next.elements ≡ b → NamedAt w rest
      → NamedO rest (if b then Cut w (IdsExhausted Elements) else Done (numbered w s side p k) [])
  number_named w rest s side p k true e h = at_rest_named w rest h
  number_named w rest s side p k false e h =
      let next : Firsts = record (w.next) { elements = w.next.elements + 1 } in
      let v : State K = with_next w next in
      let new : Place × Kind × ℕ = (p, k, w.next.elements) in
      record {
        low = number_low v s (λ x. with_side x side (record (side_of x side) { numbers = (side_of x side).numbers ++ new ∷ [] })) (at v.scopes s) (drawn_on w.next.elements h.low e);
        scopes =
            change_scopes v s (λ x. with_side x side (record (side_of x side) { numbers = (side_of x side).numbers ++ new ∷ [] }))
            (
            λ x g.
            side_named x side (record (side_of x side) { numbers = (side_of x side).numbers ++ new ∷ [] }) g
            (record { small = one_more_small (side_of x side).numbers new (g.sides side).small (small_drawn w.next.elements h.low); output = (g.sides side).output })
            )
            h.scopes;
        items = h.items;
      }

  props_named : (w : State K) (rest : List (Item K)) (t : ℕ) (c : VComponent K) → NamedComponent c → NamedAt w rest → NamedAt (with_props app w t c) rest
  props_named w rest t c g h =
      record {
        low = number_low w t (λ x. record x { component = c }) (at w.scopes t) h.low;
        scopes = change_scopes w t (λ x. record x { component = c }) (λ x k. record { component = g; sides = λ a. handed_side x c a (k.sides a) }) h.scopes;
        items = h.items;
      }

  handed_named : (w : State K) (rest : List (Item K)) (t : ℕ) (c : VComponent K) → NamedComponent c → NamedAt w rest → NamedO rest (handed app w t c)
  handed_named w rest t c g h =
      let v : State K = with_props app w t c in
      named_if rest (keeps app w t c) (Done v []) (run app v t) (props_named w rest t c g h) (run_named v rest t (props_named w rest t c g h))

  fed_at : (w : State K) (rest : List (Item K)) (c : VComponent K) (o : Option ℕ) → NamedComponent c → NamedAt w rest → NamedO rest (elim o as (λ z. Outcome K) [ None ↦ Done w [] | Some t ↦ handed app w t c ])
  fed_at w rest c None g h = h
  fed_at w rest c (Some t) g h = handed_named w rest t c g h

  made_at : (w : State K) (rest : List (Item K)) (s : ℕ) (side : SideName) (p : Place) (c : VComponent K) (o : Option (Scope K)) → at w.scopes s ≡ o → NamedComponent c → NamedAt w rest
      → NamedO rest (elim o as (λ z. Outcome K) [ None ↦ Done w [] | Some x ↦ made_in app w s side p c x ])
  made_at w rest s side p c None e g h = h
  made_at w rest s side p c (Some x) e g h =
      let y : Scope K = with_child side p w.next_scope x in
      let v : State K = record w { scopes = put w.scopes s y } in
      let new : Scope K = new_scope c (Some s) (x.height + 1) side in
      let own : NamedScope x = h.scopes s x e in
      let held : NamedScope y =
      side_named x side (record (side_of x side) { children = (side_of x side).children ++ (p, w.next_scope) ∷ [] }) own
      (record { small = (own.sides side).small; output = (own.sides side).output }) in
      let u : State K = with_new_scope w s side p c x in
      let made : NamedAt u rest = record {
        low = h.low;
        scopes = joined_scopes v w.next_scope new (new_named c (Some s) (x.height + 1) side g) (put_scopes w s x y e held h.scopes);
        items = h.items;
      } in
      named_if rest (at_end w.next_scope) (Cut w (IdsExhausted Scopes)) (run app u w.next_scope) (at_rest_named w rest h) (run_named u rest w.next_scope made)

  -- what serves an item
  pub item_named : (w : State K) (i : Item K) (rest : List (Item K)) → NamedAt w (i ∷ rest) → NamedO rest (outcome_of app w i)
  item_named w (Draw s side p k) rest h = number_named w rest s side p k (at_end w.next.elements) refl (without_first w (Draw s side p k) rest h)
  item_named w (Row b step) rest h = step_at w rest b step (at w.scopes b) refl (without_first w (Row b step) rest h)
  item_named w (Feed s side p c) rest h = fed_at w rest c (fed_child w s side p) h.items.0 (without_first w (Feed s side p c) rest h)
  item_named w (Make s side p c) rest h = made_at w rest s side p c (at w.scopes s) refl h.items.0 (without_first w (Make s side p c) rest h)
  item_named w (Drop t s side) rest h = without_first w (Drop t s side) rest h

  -- removals

  gone_named : (w : State K) (rest : List (Item K)) (o : Outcome K) → StayO w o → Idle o → StaysCut w o → NamedAt w rest → NamedO rest o
  gone_named w rest (Done v work) s i c h = subst (λ (xs : List (Item K)). NamedAt v (xs ++ rest)) (sym i) (stay_named w v rest s h)
  gone_named w rest (Cut v fault) s i c h = cut_named w v rest c h

  -- a removal
  pub removed_named : (w : State K) (rest : List (Item K)) (s : ℕ) → NamedAt w rest → NamedO rest (removed app w s)
  removed_named w rest s h = gone_named w rest (removed app w s) (removed_stay app lawful w s) (removed_idle app lawful w s) (removed_cut app lawful w s) h
