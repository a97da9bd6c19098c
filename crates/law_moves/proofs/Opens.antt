-- What a run opens: nothing, later steps of its own, or a patch of one side.
use Rattle.std.proofs.Common.{ℕ, ◌+◌, Bool, true, false, List, [], ◌∷◌, ◌++◌, ◌≡◌, ◌⊎◌, inl, inr, refl, sym, ap, ◌∙◌, subst}
use Rattle.std.specs.Prelude.{Option, Some, None, if◌then◌else◌}
use Rattle.std.specs.List.{AllByRecursion}
use Rattle.rt_model.specs.Lists.{at, without, drop_number}
use Rattle.rt_model.specs.Tree.{Types, Tree, placeholder_tree, VComponent, Own, Root, Fragment, ErrorBoundary, SuspenseBoundary, Element, rendered, failed, suspended}
use Rattle.rt_model.specs.World.{CallFault, before_render_kind, World, Meaning, Application}
use Rattle.rt_model.specs.Laws.{IsNumbered, IsLawful}
use Rattle.rt_model.specs.State.{SideName, MainSide, ChildrenSide, FallbackSide, RowStep, PatchChildren, MadeChildren, RunFallback, ShowFallback, ShowChildren, DropFallback, Resolve, Scope, State, Item, Outcome, Done, Cut, onward, is_held, change, world_of, BadNode}
use Rattle.rt_model.specs.Commands.{commands}
use Rattle.rt_model.specs.Run.{fault_of, with_next, called_once, called_where, is_own, answered_with, kept_call, answer_fits, has_output, row_of, runs_fallback, row_items, unmarked, hooks_called, after_hooks, body_of, call_body, start_agenda, settled_answer, new_output, after_answer, boundary_run, run_as, run}
use Rattle.rt_model.specs.Boundary.{tree_or_placeholder, children_of, counts_render, counted_render, fallback_answered, called_back, row_step}
use Rattle.rt_model.specs.Framed.{framed}
use Rattle.rt_model.proofs.Frames.{shape, same_rest}
use Rattle.rt_model.proofs.RunFrames.{Later, later_same, later_trans, LaterO, onward_later, from_later, change_later, unmarked_later, called_after, hooks_later, after_hooks_later, body_numbered, kept_same, settled_later, counted_later, called_back_later}
use Rattle.rt_model.proofs.StepFrames.{none_by_shape}
use Rattle.rt_model.proofs.SideFrames.{Stay, stay_trans, stay_rest, change_stay}
use Rattle.rt_model.proofs.SideRuns.{StayO, onward_stay, from_stay, unmarked_stay, kept_stay, hooks_stay, after_hooks_stay, settled_answer_stay, counted_stay, called_back_stay}
use Rattle.rt_model.proofs.NumbersRun.{Idle, called_back_idle}
use Rattle.law_moves.proofs.Twigs.{SameTwigs, same_framed}
use Rattle.law_moves.proofs.Woven.{owner}
use Rattle.law_moves.proofs.Patched.{IsRow}

module _ {K : Types} where
  framed_alike : (o p : Option (Scope K)) → shape o ≡ shape p → ((x : Scope K) → o ≡ Some x → framed p ≡ framed (Some x)) → framed o ≡ framed p
  framed_alike None p same h = ap (λ (z : Option (Scope K)). framed z) (sym (none_by_shape p (sym same)))
  framed_alike (Some x) p same h = sym (h x refl)

  -- where sides stay and scopes live on, the tree is the same
  pub calm_twigs : (w v : State K) → Stay w v → Later w v → SameTwigs w v
  calm_twigs w v stay later s =
      same_framed (at v.scopes s) (at w.scopes s) (framed_alike (at v.scopes s) (at w.scopes s) (later.shapes s) (λ x e. stay.frames s x e))

  pub twigs_trans : (u v w : State K) → SameTwigs u v → SameTwigs v w → SameTwigs u w
  twigs_trans u v w f g s = g s ∙ f s

  -- the rows of one scope's run
  abbrev pub OwnRows : ℕ → List (Item K) → Type 0
  OwnRows s work = AllByRecursion (λ (i : Item K). (owner i ≡ s) × IsRow i) work

rows_own : (K : Types) (s : ℕ) (steps : List RowStep) → OwnRows {K = K} s (row_items s steps)
rows_own K s [] = tt
rows_own K s (step ∷ steps) = ((refl, tt), rows_own K s steps)

module _ {K : Types} (app : Application K) where
  -- where a change isn't cut the tree is the same and later steps are open, or one side is patched
  abbrev pub Opens : State K → ℕ → Outcome K → Type 0
  Opens w s (Cut v fault) = Unit {0}
  Opens w s (Done v work) =
      (SameTwigs w v × OwnRows s work) ⊎ ((a : SideName) × (tree : Tree K) × (u : State K) × SameTwigs w u × (start_agenda app u s a tree ≡ Done v work))

  opens_after : (w u : State K) (s : ℕ) (o : Outcome K) → SameTwigs w u → Opens u s o → Opens w s o
  opens_after w u s (Cut v fault) same h = tt
  opens_after w u s (Done v work) same (inl h) = inl (twigs_trans w u v same h.0, h.1)
  opens_after w u s (Done v work) same (inr h) = inr (h.0, h.1, h.2, twigs_trans w u h.2 same h.3, h.4)

  opens_if : (w : State K) (s : ℕ) (b : Bool) (x y : Outcome K) → Opens w s x → Opens w s y → Opens w s (if b then x else y)
  opens_if w s true x y p q = p
  opens_if w s false x y p q = q

  opens_onward : (w : State K) (s : ℕ) (o : Outcome K) (f : State K → Outcome K) → StayO w o → LaterO w o → ((v : State K) → Opens v s (f v)) → Opens w s (onward o f)
  opens_onward w s (Done v work) f stay later h = opens_after w v s (f v) (calm_twigs w v stay later) (h v)
  opens_onward w s (Cut v fault) f stay later h = tt

  opens_agenda : (w : State K) (s : ℕ) (a : SideName) (tree : Tree K) (o : Outcome K) → start_agenda app w s a tree ≡ o → Opens w s o
  opens_agenda w s a tree (Done v work) e = inr (a, tree, w, (λ t. refl), e)
  opens_agenda w s a tree (Cut v fault) e = tt

  pub agenda_opens : (w : State K) (s : ℕ) (a : SideName) (tree : Tree K) → Opens w s (start_agenda app w s a tree)
  agenda_opens w s a tree = opens_agenda w s a tree (start_agenda app w s a tree) refl

  output_opens : (w : State K) (s : ℕ) (answer : Element K) → Opens w s (new_output app w s answer)
  output_opens w s (rendered tree) = agenda_opens w s MainSide tree
  output_opens w s (failed e) = opens_if w s (has_output w s) (Done w []) (start_agenda app w s MainSide placeholder_tree) (inl ((λ t. refl), tt)) (agenda_opens w s MainSide placeholder_tree)
  output_opens w s (suspended origin t) = opens_if w s (has_output w s) (Done w []) (start_agenda app w s MainSide placeholder_tree) (inl ((λ t2. refl), tt)) (agenda_opens w s MainSide placeholder_tree)

module _ {K : Types} (app : Application K) (lawful : IsLawful K app) where
  answer_opens : (w : State K) (s : ℕ) (answer : Element K) → Opens app w s (after_answer app w s answer)
  answer_opens w s answer =
      let first : Outcome K = onward (settled_answer app w s answer) (λ v. after_hooks app v s) in
      opens_onward app w s first (λ v. new_output app v s answer)
      (onward_stay w (settled_answer app w s answer) (λ v. after_hooks app v s) (settled_answer_stay app lawful w s answer) (λ v. after_hooks_stay app lawful v s))
      (onward_later w (settled_answer app w s answer) (λ v. after_hooks app v s) (settled_later app lawful w s answer) (λ v. after_hooks_later app lawful v s))
      (λ v. output_opens app v s answer)

  fits_opens : (w : State K) (s : ℕ) (world : World K) (then_on : State K → Element K → Outcome K) (m : Meaning K (Element K)) (b : Bool) → IsNumbered w.next m.commands m.next
      → ((v : State K) (a : Element K) → Opens app v s (then_on v a))
      → Opens app w s (if b then then_on (commands app (kept_call w s world m) s None m.commands) m.answer else Cut (kept_call w s world m) (BadNode s))
  fits_opens w s world then_on m true n h =
      let v : State K = commands app (kept_call w s world m) s None m.commands in
      opens_after app w v s (then_on v m.answer)
      (calm_twigs w v (kept_stay app lawful w s world m n) (called_after app lawful w s None m (kept_call w s world m) n (kept_same app lawful w s world m)))
      (h v m.answer)
  fits_opens w s world then_on m false n h = tt

  call_opens_at : (w : State K) (s : ℕ) (world : World K) (then_on : State K → Element K → Outcome K) (m : Meaning K (Element K)) (o : Option CallFault) → IsNumbered w.next m.commands m.next
      → ((v : State K) (a : Element K) → Opens app v s (then_on v a))
      → Opens app w s (elim o as (λ z. Outcome K) [
        | Some f ↦ Cut (with_next w m.next) (fault_of f)
        | None ↦ if answer_fits m.answer then then_on (commands app (kept_call w s world m) s None m.commands) m.answer else Cut (kept_call w s world m) (BadNode s)
      ])
  call_opens_at w s world then_on m (Some f) n h = tt
  call_opens_at w s world then_on m None n h = fits_opens w s world then_on m (answer_fits m.answer) n h

  own_opens : (w : State K) (s : ℕ) (world : World K) (then_on : State K → Element K → Outcome K) (m : Meaning K (Element K)) (own : Bool) → IsNumbered w.next m.commands m.next
      → ((v : State K) (a : Element K) → Opens app v s (then_on v a))
      → Opens app w s (answered_with app (called_where own w) s world then_on m)
  own_opens w s world then_on m true n h =
      let u : State K = called_once w in
      opens_after app w u s (answered_with app u s world then_on m) (λ t. refl) (call_opens_at u s world then_on m m.fault n h)
  own_opens w s world then_on m false n h = call_opens_at w s world then_on m m.fault n h

  call_opens : (w : State K) (s : ℕ) (c : VComponent K) (then_on : State K → Element K → Outcome K) → ((v : State K) (a : Element K) → Opens app v s (then_on v a)) → Opens app w s (call_body app w s c then_on)
  call_opens w s c then_on h =
      let world : World K = world_of w s None true in
      let m : Meaning K (Element K) = body_of app c world in
      own_opens w s world then_on m (is_own c world) (body_numbered app lawful c world) h

  boundary_opens : (w : State K) (b : ℕ) (steps : List RowStep) → Opens app w b (boundary_run app w b steps)
  boundary_opens w b steps =
      opens_if app w b (runs_fallback steps) (Done w (row_items b steps)) (onward (after_hooks app w b) (λ v. Done v (row_items b steps)))
      (inl ((λ t. refl), rows_own K b steps))
      (opens_onward app w b (after_hooks app w b) (λ v. Done v (row_items b steps)) (after_hooks_stay app lawful w b) (after_hooks_later app lawful w b)
      (λ v. inl ((λ t. refl), rows_own K b steps)))

  run_as_opens : (w : State K) (s : ℕ) (x : Scope K) (c : VComponent K) → Opens app w s (run_as app w s x c)
  run_as_opens w s x (SuspenseBoundary children fallback) = boundary_opens w s (row_of x.shows (is_held x))
  run_as_opens w s x (Own component props) = call_opens w s (Own component props) (λ v a. after_answer app v s a) (λ v a. answer_opens v s a)
  run_as_opens w s x (Root component props) = call_opens w s (Root component props) (λ v a. after_answer app v s a) (λ v a. answer_opens v s a)
  run_as_opens w s x (Fragment children) = call_opens w s (Fragment children) (λ v a. after_answer app v s a) (λ v a. answer_opens v s a)
  run_as_opens w s x (ErrorBoundary children handler) = call_opens w s (ErrorBoundary children handler) (λ v a. after_answer app v s a) (λ v a. answer_opens v s a)

  run_opens_at : (w : State K) (s : ℕ) (o : Option (Scope K))
      → Opens app w s (elim o as (λ z. Outcome K) [
        | None ↦ Done w []
        | Some x ↦ onward (hooks_called app before_render_kind (unmarked w s) s x.hooks) (λ v. run_as app v s x x.component)
      ])
  run_opens_at w s None = inl ((λ t. refl), tt)
  run_opens_at w s (Some x) =
      let u : State K = unmarked w s in
      let o : Outcome K = hooks_called app before_render_kind u s x.hooks in
      opens_after app w u s (onward o (λ v. run_as app v s x x.component)) (calm_twigs w u (unmarked_stay w s) (unmarked_later w s))
      (opens_onward app u s o (λ v. run_as app v s x x.component) (hooks_stay app lawful before_render_kind u s x.hooks) (hooks_later app lawful before_render_kind u s x.hooks) (λ v. run_as_opens v s x x.component))

  -- a run
  pub run_opens : (w : State K) (s : ℕ) → Opens app w s (run app w s)
  run_opens w s = run_opens_at w s (at w.scopes s)

  fallback_opens : (w : State K) (b : ℕ) (c : VComponent K) (a : Element K) → Opens app w b (fallback_answered app w b c a)
  fallback_opens w b c a =
      let first : Outcome K = onward (counted_render app w b (counts_render c a)) (λ v. after_hooks app v b) in
      opens_onward app w b first (λ v. start_agenda app v b FallbackSide (tree_or_placeholder a))
      (onward_stay w (counted_render app w b (counts_render c a)) (λ v. after_hooks app v b) (counted_stay app lawful w b (counts_render c a)) (λ v. after_hooks_stay app lawful v b))
      (onward_later w (counted_render app w b (counts_render c a)) (λ v. after_hooks app v b) (counted_later app lawful w b (counts_render c a)) (λ v. after_hooks_later app lawful v b))
      (λ v. agenda_opens app v b FallbackSide (tree_or_placeholder a))

  idle_opens : (w : State K) (s : ℕ) (o : Outcome K) → StayO w o → LaterO w o → Idle o → Opens app w s o
  idle_opens w s (Done v work) stay later idle = inl (calm_twigs w v stay later, subst (λ (xs : List (Item K)). OwnRows s xs) (sym idle) tt)
  idle_opens w s (Cut v fault) stay later idle = tt

  -- a step of a boundary's run that doesn't drop the fallback
  pub row_opens : (w : State K) (b : ℕ) (x : Scope K) (step : RowStep) → (step ≡ DropFallback → ⊥) → Opens app w b (row_step app w b x step)
  row_opens w b x PatchChildren n = agenda_opens app w b ChildrenSide (children_of x.component)
  row_opens w b x MadeChildren n = inl ((λ t. refl), rows_own K b (if is_held x then RunFallback ∷ ShowFallback ∷ [] else ShowChildren ∷ Resolve ∷ []))
  row_opens w b x RunFallback n = call_opens w b x.component (λ v a. fallback_answered app v b x.component a) (λ v a. fallback_opens v b x.component a)
  row_opens w b x ShowFallback n =
      let v : State K = record w { resolved = drop_number w.resolved b } in
      inl (
        calm_twigs w (change v b (λ y. record y { shows = Some FallbackSide })) (stay_trans w v (change v b (λ y. record y { shows = Some FallbackSide })) (stay_rest w v refl refl refl) (change_stay v b (λ y. record y { shows = Some FallbackSide }) (λ y. refl)))
            (later_trans w v (change v b (λ y. record y { shows = Some FallbackSide })) (later_same w v (same_rest w.next.tasks w v refl refl refl refl)) (change_later v b (λ y. record y { shows = Some FallbackSide }) (λ y. refl))),
        tt,
      )
  row_opens w b x ShowChildren n =
      let v : State K = record w { last_calls = without w.last_calls b } in
      inl (
        calm_twigs w (change v b (λ y. record y { shows = Some ChildrenSide; reads = [] })) (stay_trans w v (change v b (λ y. record y { shows = Some ChildrenSide; reads = [] })) (stay_rest w v refl refl refl) (change_stay v b (λ y. record y { shows = Some ChildrenSide; reads = [] }) (λ y. refl)))
            (later_trans w v (change v b (λ y. record y { shows = Some ChildrenSide; reads = [] })) (later_same w v (same_rest w.next.tasks w v refl refl refl refl)) (change_later v b (λ y. record y { shows = Some ChildrenSide; reads = [] }) (λ y. refl))),
        tt,
      )
  row_opens w b x DropFallback n = absurd (n refl)
  row_opens w b x Resolve n =
      let v : State K = record w { resolved = w.resolved ++ b ∷ [] } in
      let u : State K = change v b (λ y. record y { callbacks = [] }) in
      let stay : Stay w u = stay_trans w v u (stay_rest w v refl refl refl) (change_stay v b (λ y. record y { callbacks = [] }) (λ y. refl)) in
      let later : Later w u = later_trans w v u (later_same w v (same_rest w.next.tasks w v refl refl refl refl)) (change_later v b (λ y. record y { callbacks = [] }) (λ y. refl)) in
      idle_opens w b (called_back app u x.callbacks)
      (from_stay w u (called_back app u x.callbacks) stay (called_back_stay app lawful u x.callbacks))
      (from_later w u (called_back app u x.callbacks) later (called_back_later app lawful u x.callbacks))
      (called_back_idle app lawful u x.callbacks)
