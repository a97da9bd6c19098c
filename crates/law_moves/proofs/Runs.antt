-- What a run leaves of its own scope, and so of all scopes.
use Rattle.std.proofs.Common.{ℕ, Bool, true, false, List, [], ◌++◌, ◌≡◌, ◌≤◌, ◌⊎◌, refl, sym, ap, ◌∙◌, subst, nat_eq, arith, inl, inr}
use Rattle.std.proofs.lemmas.Bool.{eqb-true}
use Rattle.std.proofs.lemmas.List.{append-nil}
use Rattle.std.specs.Prelude.{Option, Some, None, if◌then◌else◌, is_some}
use Rattle.rt_model.specs.Lists.{at, or_else}
use Rattle.rt_model.specs.Tree.{Types, Tree, placeholder_tree, VComponent, Own, Root, Fragment, ErrorBoundary, SuspenseBoundary, is_suspense_boundary, Element, rendered, failed, suspended}
use Rattle.rt_model.specs.World.{Source, before_render_kind, Application}
use Rattle.rt_model.specs.Laws.{IsLawful}
use Rattle.rt_model.specs.State.{SideName, MainSide, ChildrenSide, FallbackSide, RowStep, Scope, LastCall, State, Item, Outcome, Done, onward, with_side, is_held}
use Rattle.rt_model.specs.Commands.{names_source}
use Rattle.rt_model.specs.Run.{call_body, has_output, row_of, runs_fallback, row_items, hooks_called, after_hooks, start_agenda, settled_answer, new_output, after_answer, boundary_run, run_as, run, unmarked}
use Rattle.rt_model.specs.Current.{stayed, KeepsAnswer}
use Rattle.rt_model.proofs.Maps.{by_test, pick_true, pick_false}
use Rattle.law_moves.specs.Heeds.{leavings, Marked, SameOf}
use Rattle.law_moves.proofs.Told.{CalmO}
use Rattle.law_moves.proofs.Calm.{there_of, reads_by, Pending, Calm, calm_then}
use Rattle.law_moves.proofs.Ran.{hooks_calm, after_hooks_calm, answered_calm}
use Rattle.law_moves.proofs.RunStages.{Stage, Making, Asking, FirstCalls, FirstTurns, OpensFirst, Waits, CallsAgain, PatchesHidden, Frees, TurnsBack, Rests, Patches, Covers, Hides, Clears, Resolves, shows_at, steps_at, unread_at}
use Rattle.law_moves.proofs.Owed.{rows_of, rows_join, rows_here, rows_there, NoRows, after_none, Kept, kept_by, still_at, alike_by, Called, called_again, BodyCurrent, AtStage, AtBody, OwesAs, ScopeOwes, Owes, owes_stays}
use Rattle.law_moves.proofs.Alone.{Alone, Then, then_if, then_onward}
use Rattle.law_moves.proofs.BodyCalled.{new_side, with_tree, agenda_is, tree_own, tree_there, agenda_rows, CallAt, call_stays, run_calm, call_then}

pub some_bool : (a b : Bool) → Some a ≡ Some b → a ≡ b
some_bool a b h = cc

module _ {K : Types} where
  found_tree : (o : Option (Tree K)) → is_some o ≡ true → (t : Tree K) × (o ≡ Some t)
  found_tree None h = cc
  found_tree (Some t) h = (t, refl)

  no_tree : (o : Option (Tree K)) → is_some o ≡ false → o ≡ None
  no_tree None h = refl
  no_tree (Some t) h = cc

module _ {K : Types} (app : Application K) where
  -- the call stands in another record with the same component and reads, where no source has changed
  pub called_put : (w v : State K) (x y : Scope K) (last : LastCall K) → Called app w x last → y.component ≡ x.component → y.reads ≡ x.reads → v.next.cells ≡ w.next.cells → ((i : Source) → SameOf w v i) → Called app v y last
  called_put w v x y last c kind reads level alike =
      let first = c.low in
      let low : last.given.given.next.cells ≤ v.next.cells = omega (arith, first, level) in
      called_again app w v x y last c (alike_by app c.caller x.component y.component c.alike kind) reads low
      (λ i q. still_at w v last i (c.fresh i (ap (λ (xs : List Source). names_source xs i) (sym reads) ∙ q)) (alike i))

  -- a body has run: its answer is the output, or the scope is pending
  abbrev pub BodyRan : ℕ → VComponent K → State K → List (Item K) → Type 0
  BodyRan s c v work = (y : Scope K) × (at v.scopes s ≡ Some y) × (y.component ≡ c) × (BodyCurrent app v s y ⊎ Pending v s) × NoRows work

  module _ (n : ℕ) (w : State K) (s : ℕ) (x : Scope K) (last : LastCall K) (v : State K) (d : CallAt app n w s x last v) where
    -- the answer's tree is the new output
    agenda_ran : (tree : Tree K) → KeepsAnswer last last.answer (Some tree) → Then (BodyRan s x.component) (start_agenda app v s MainSide tree)
    agenda_ran tree keeps =
        let u : State K = with_tree app v s MainSide tree d.scope d.found in
        let y : Scope K = with_side d.scope MainSide (new_side app v s MainSide tree d.scope d.found) in
        let own : Alone s v u = tree_own app v s MainSide tree d.scope d.found in
        subst (λ (o : Outcome K). Then (BodyRan s x.component) o) (sym (agenda_is app v s MainSide tree d.scope d.found)) (
          y,
          tree_there app v s MainSide tree d.scope d.found,
          d.same.component,
          elim d.called [
            | inl c ↦ inl (last, d.call, called_put v u d.scope y last c refl refl refl own.alike, keeps)
            | inr m ↦ inr (inl m)
          ],
          agenda_rows app v s MainSide tree d.scope d.found,
        )

    has_is : has_output v s ≡ is_some (d.scope).main_side.output
    has_is = ap (λ (o : Option (Scope K)). elim o as (λ z. Bool) [ None ↦ true | Some i ↦ is_some i.main_side.output ]) d.found

    before_is : last.before ≡ (d.scope).main_side.output
    before_is = d.before ∙ sym d.same.main_output

    -- the output stays, or is one placeholder
    stay_ran : ((o : Option (Tree K)) → o ≡ Some (stayed last) → KeepsAnswer last last.answer o)
        → Then (BodyRan s x.component) (if has_output v s then Done v [] else start_agenda app v s MainSide placeholder_tree)
    stay_ran keeps =
        by_test (has_output v s)
        (
        λ q.
        let tree = found_tree (d.scope).main_side.output (sym has_is ∙ q) in
        let same : (d.scope).main_side.output ≡ Some (stayed last) = tree.1 ∙ ap Some (sym (ap (λ (o : Option (Tree K)). or_else placeholder_tree o) (before_is ∙ tree.1))) in
        subst (λ (o : Outcome K). Then (BodyRan s x.component) o) (sym (pick_true (Done v []) (start_agenda app v s MainSide placeholder_tree) q)) (
          d.scope,
          d.found,
          d.same.component,
          elim d.called [ inl c ↦ inl (last, d.call, c, keeps (d.scope).main_side.output same) | inr m ↦ inr (inl m) ],
          λ b. refl,
        )
        )
        (
        λ q.
        let none : (d.scope).main_side.output ≡ None = no_tree (d.scope).main_side.output (sym has_is ∙ q) in
        let same : Some placeholder_tree ≡ Some (stayed last) = ap Some (sym (ap (λ (o : Option (Tree K)). or_else placeholder_tree o) (before_is ∙ none))) in
        subst (λ (o : Outcome K). Then (BodyRan s x.component) o) (sym (pick_false (Done v []) (start_agenda app v s MainSide placeholder_tree) q))
        (agenda_ran placeholder_tree (keeps (Some placeholder_tree) same))
        )

    pub output_ran : (a : Element K) → last.answer ≡ a → Then (BodyRan s x.component) (new_output app v s a)
    output_ran (rendered tree) e = agenda_ran tree (subst (λ (i : Element K). KeepsAnswer last i (Some tree)) (sym e) refl)
    output_ran (failed error) e = stay_ran (λ o same. subst (λ (i : Element K). KeepsAnswer last i o) (sym e) same)
    output_ran (suspended origin t) e = stay_ran (λ o same. subst (λ (i : Element K). KeepsAnswer last i o) (sym e) same)

  -- the run of a boundary has begun
  abbrev pub BoundaryRan : ℕ → Scope K → State K → List (Item K) → Type 0
  BoundaryRan s x v work =
      (y : Scope K) × (at v.scopes s ≡ Some y) × (leavings (Some y) ≡ leavings (Some x)) × ((is_held y ≡ is_held x) ⊎ Marked v s) × (work ≡ row_items s (row_of x.shows (is_held x)))

  -- where a run of a boundary may begin
  abbrev pub Starts : Scope K → Type 0
  Starts x = (x.shows ≡ None) ⊎ ((x.shows ≡ Some FallbackSide) ⊎ ((x.shows ≡ Some ChildrenSide) × (x.reads ≡ [])))

  pub starts_of : (w : State K) (s : ℕ) (x : Scope K) (rows : List RowStep) → rows ≡ [] → AtStage app w rows s x → Starts x
  starts_of w s x rows none h = by_stage h.stage h.shows (sym none ∙ h.steps) h.unread
    where
      by_stage : (g : Stage) → x.shows ≡ shows_at g → [] ≡ steps_at g → (unread_at g ≡ true → x.reads ≡ []) → Starts x
      by_stage Making shows steps unread = cc
      by_stage Asking shows steps unread = cc
      by_stage FirstCalls shows steps unread = cc
      by_stage FirstTurns shows steps unread = cc
      by_stage OpensFirst shows steps unread = cc
      by_stage Waits shows steps unread = inr (inl shows)
      by_stage CallsAgain shows steps unread = cc
      by_stage PatchesHidden shows steps unread = cc
      by_stage Frees shows steps unread = cc
      by_stage TurnsBack shows steps unread = cc
      by_stage Rests shows steps unread = inr (inr (shows, unread refl))
      by_stage Patches shows steps unread = cc
      by_stage Covers shows steps unread = cc
      by_stage Hides shows steps unread = cc
      by_stage Clears shows steps unread = cc
      by_stage Resolves shows steps unread = cc

  -- a run's first stage
  first_stage : (v : State K) (s : ℕ) (x y : Scope K) → y.shows ≡ x.shows → y.reads ≡ x.reads → (is_held y ≡ is_held x) ⊎ Marked v s → Starts x → (h : Bool) → is_held x ≡ h → AtStage app v (row_of x.shows h) s y
  first_stage v s x y shows reads held (inl none) h e =
      record {
        stage = Making;
        shows = shows ∙ none;
        steps = ap (λ (o : Option SideName). row_of o h) none;
        unread = λ q. let absurdity : false ≡ true = q in cc;
        owed = inl (record { patched = λ q. let absurdity : false ≡ true = q in cc; held = λ i q. let absurdity : None ≡ Some i = q in cc; called = λ q. let absurdity : false ≡ true = q in cc });
      }
  first_stage v s x y shows reads held (inr (inl fallback)) true e =
      record {
        stage = CallsAgain;
        shows = shows ∙ fallback;
        steps = ap (λ (o : Option SideName). row_of o true) fallback;
        unread = λ q. let absurdity : false ≡ true = q in cc;
        owed = elim held [ inl same ↦ inl (record { patched = λ q. let absurdity : false ≡ true = q in cc; held = λ i q. same ∙ e ∙ some_bool true i q; called = λ q. let absurdity : false ≡ true = q in cc }) | inr m ↦ inr (inl m) ];
      }
  first_stage v s x y shows reads held (inr (inl fallback)) false e =
      record {
        stage = Frees;
        shows = shows ∙ fallback;
        steps = ap (λ (o : Option SideName). row_of o false) fallback;
        unread = λ q. let absurdity : false ≡ true = q in cc;
        owed = elim held [ inl same ↦ inl (record { patched = λ q. let absurdity : false ≡ true = q in cc; held = λ i q. same ∙ e ∙ some_bool false i q; called = λ q. let absurdity : false ≡ true = q in cc }) | inr m ↦ inr (inl m) ];
      }
  first_stage v s x y shows reads held (inr (inr children)) true e =
      record {
        stage = Covers;
        shows = shows ∙ children.0;
        steps = ap (λ (o : Option SideName). row_of o true) children.0;
        unread = λ q. let absurdity : false ≡ true = q in cc;
        owed = elim held [ inl same ↦ inl (record { patched = λ q. let absurdity : false ≡ true = q in cc; held = λ i q. same ∙ e ∙ some_bool true i q; called = λ q. let absurdity : false ≡ true = q in cc }) | inr m ↦ inr (inl m) ];
      }
  first_stage v s x y shows reads held (inr (inr children)) false e =
      record {
        stage = Patches;
        shows = shows ∙ children.0;
        steps = ap (λ (o : Option SideName). row_of o false) children.0;
        unread = λ q. reads ∙ children.1;
        owed = elim held [ inl same ↦ inl (record { patched = λ q. let absurdity : false ≡ true = q in cc; held = λ i q. same ∙ e ∙ some_bool false i q; called = λ q. let absurdity : false ≡ true = q in cc }) | inr m ↦ inr (inl m) ];
      }

module _ {K : Types} (app : Application K) (lawful : IsLawful K app) where
  answer_ran : (n : ℕ) (w : State K) (s : ℕ) (x : Scope K) (last : LastCall K) (z : State K) → CallAt app n w s x last z → Then (BodyRan app s x.component) (after_answer app z s last.answer)
  answer_ran n w s x last z d =
      let a : Element K = last.answer in
      then_onward (BodyRan app s x.component) n z (onward (settled_answer app z s a) (λ v. after_hooks app v s)) (λ v. new_output app v s a) (answered_calm app lawful n z s a d.risen)
      (λ v calm. output_ran app n w s x last v (call_stays app n w s x last z v calm d) a refl)

  body_ran : (v : State K) (s : ℕ) (x : Scope K) (c : VComponent K) → at v.scopes s ≡ Some x → x.component ≡ c → Then (BodyRan app s c) (call_body app v s c (λ u a. after_answer app u s a))
  body_ran v s x c live kind =
      call_then app lawful (BodyRan app s c) s c (λ u a. after_answer app u s a) v x live kind
      (λ u found marks last z d. subst (λ (e : VComponent K). Then (BodyRan app s e) (after_answer app z s last.answer)) kind (answer_ran u.next.cells u s x last z d))

  as_ran : (v : State K) (s : ℕ) (x y : Scope K) (c : VComponent K) → at v.scopes s ≡ Some y → y.component ≡ c → is_suspense_boundary c ≡ false → Then (BodyRan app s c) (run_as app v s x c)
  as_ran v s x y (SuspenseBoundary children fallback) live kind false_is = let absurdity : true ≡ false = false_is in cc
  as_ran v s x y (Own component props) live kind false_is = body_ran v s y (Own component props) live kind
  as_ran v s x y (Root component props) live kind false_is = body_ran v s y (Root component props) live kind
  as_ran v s x y (Fragment children) live kind false_is = body_ran v s y (Fragment children) live kind
  as_ran v s x y (ErrorBoundary children handler) live kind false_is = body_ran v s y (ErrorBoundary children handler) live kind

  boundary_as : (v : State K) (s : ℕ) (x : Scope K) (c : VComponent K) → is_suspense_boundary c ≡ true → run_as app v s x c ≡ boundary_run app v s (row_of x.shows (is_held x))
  boundary_as v s x (SuspenseBoundary children fallback) true_is = refl
  boundary_as v s x (Own component props) true_is = let absurdity : false ≡ true = true_is in cc
  boundary_as v s x (Root component props) true_is = let absurdity : false ≡ true = true_is in cc
  boundary_as v s x (Fragment children) true_is = let absurdity : false ≡ true = true_is in cc
  boundary_as v s x (ErrorBoundary children handler) true_is = let absurdity : false ≡ true = true_is in cc

  module _ (w : State K) (s : ℕ) (x : Scope K) (live : at w.scopes s ≡ Some x) where
    abbrev quieted : State K
    quieted = unmarked w s

    abbrev hooked : Outcome K
    hooked = hooks_called app before_render_kind quieted s x.hooks

    run_is : run app w s ≡ onward hooked (λ v. run_as app v s x x.component)
    run_is =
        ap
        (λ (o : Option (Scope K)). elim o as (λ z. Outcome K) [
          | None ↦ Done w []
          | Some y ↦ onward (hooks_called app before_render_kind (unmarked w s) s y.hooks) (λ v. run_as app v s y y.component)
        ])
        live

    level : w.next.cells ≤ w.next.cells
    level = omega arith

    -- a body's run
    pub run_body : is_suspense_boundary x.component ≡ false → Then (BodyRan app s x.component) (run app w s)
    run_body false_is =
        subst (λ (o : Outcome K). Then (BodyRan app s x.component) o) (sym run_is)
        (then_onward (BodyRan app s x.component) w.next.cells quieted hooked (λ v. run_as app v s x x.component) (hooks_calm app lawful w.next.cells before_render_kind quieted s x.hooks level)
        (
        λ v calm.
        let y = there_of (at v.scopes s) (at quieted.scopes s) x (calm.heeds.stays s refl) live in
        as_ran v s x y.0 x.component y.1 (kept_by x y.0 y.2).component false_is
        ))

    begun_by : (v : State K) → Calm None w.next.cells quieted v → BoundaryRan app s x v (row_items s (row_of x.shows (is_held x)))
    begun_by v calm =
        let y = there_of (at v.scopes s) (at quieted.scopes s) x (calm.heeds.stays s refl) live in
        (y.0, y.1, y.2, calm.heeds.held s x y.0 refl live y.1, refl)

    -- a boundary's run
    pub run_boundary : is_suspense_boundary x.component ≡ true → Then (BoundaryRan app s x) (run app w s)
    run_boundary true_is =
        let P : State K → List (Item K) → Type 0 = BoundaryRan app s x in
        let steps : List RowStep = row_of x.shows (is_held x) in
        subst (λ (o : Outcome K). Then P o) (sym run_is)
        (then_onward P w.next.cells quieted hooked (λ v. run_as app v s x x.component) (hooks_calm app lawful w.next.cells before_render_kind quieted s x.hooks level)
        (
        λ v calm.
        let rises = calm.rises in
        let up : w.next.cells ≤ v.next.cells = omega (arith, rises) in
        subst (λ (o : Outcome K). Then P o) (sym (boundary_as v s x x.component true_is))
        (then_if P (runs_fallback steps) (Done v (row_items s steps)) (onward (after_hooks app v s) (λ u. Done u (row_items s steps)))
        (begun_by v calm)
        (then_onward P w.next.cells v (after_hooks app v s) (λ u. Done u (row_items s steps)) (after_hooks_calm app lawful w.next.cells v s up)
        (λ u more. begun_by u (calm_then None w.next.cells quieted v u calm more))))
        ))

  -- what is owed to all scopes but one
  abbrev pub OthersOwe : ℕ → State K → List (Item K) → Type 0
  OthersOwe s w work = (t : ℕ) (x : Scope K) → nat_eq s t ≡ false → at w.scopes t ≡ Some x → ScopeOwes app w (rows_of t work) t x

  -- calm changes keep it
  pub others_stay : (s : ℕ) (w v : State K) (work more : List (Item K)) → Calm (Some s) w.next.cells w v → ((t : ℕ) → nat_eq s t ≡ false → rows_of t more ≡ rows_of t work) → OthersOwe s w work → OthersOwe s v more
  others_stay s w v work more f rows h =
      λ t y q e.
      let x = there_of (at w.scopes t) (at v.scopes t) y (sym (f.heeds.stays t q)) e in
      subst (λ (steps : List RowStep). ScopeOwes app v steps t y) (sym (rows t q))
      (owes_stays app (Some s) w v f t x.0 y q x.1 e (sym x.2) (rows_of t work) (h t x.0 q x.1))

  -- all but one, and that one
  pub all_owe : (s : ℕ) (w : State K) (work : List (Item K)) (x : Scope K) → at w.scopes s ≡ Some x → OthersOwe s w work → ScopeOwes app w (rows_of s work) s x → Owes app w work
  all_owe s w work x live others own =
      λ t y e.
      by_test (nat_eq s t)
      (
      λ q.
      let same : s ≡ t = eqb-true s t q in
      let one : Some x ≡ Some y = sym live ∙ ap (λ (i : ℕ). at w.scopes i) same ∙ e in
      let scope : x ≡ y = cc in
      subst (λ (z : Scope K). ScopeOwes app w (rows_of t work) t z) scope (subst (λ (i : ℕ). ScopeOwes app w (rows_of i work) i x) same own)
      )
      (λ q. others t y q e)

  pub stay_all : (w v : State K) (work more : List (Item K)) → Calm None w.next.cells w v → ((t : ℕ) → rows_of t more ≡ rows_of t work) → Owes app w work → Owes app v more
  stay_all w v work more f rows h =
      λ t y e.
      let x = there_of (at w.scopes t) (at v.scopes t) y (sym (f.heeds.stays t refl)) e in
      subst (λ (steps : List RowStep). ScopeOwes app v steps t y) (sym (rows t))
      (owes_stays app None w v f t x.0 y refl x.1 e (sym x.2) (rows_of t work) (h t x.0 x.1))

  module _ (w : State K) (rest : List (Item K)) (s : ℕ) (x : Scope K) (live : at w.scopes s ≡ Some x) (none : rows_of s rest ≡ []) (others : OthersOwe s w rest) (v : State K) (work : List (Item K)) (is : run app w s ≡ Done v work) where
    heeded : Calm (Some s) w.next.cells w v
    heeded = subst (λ (o : Outcome K). CalmO (Some s) w.next.cells w o) is (run_calm app lawful w.next.cells w s level)
      where
        level : w.next.cells ≤ w.next.cells
        level = omega arith

    body_owes : is_suspense_boundary x.component ≡ false → Owes app v (work ++ rest)
    body_owes false_is =
        let ran : BodyRan app s x.component v work = subst (λ (o : Outcome K). Then (BodyRan app s x.component) o) is (run_body w s x live false_is) in
        let kind : is_suspense_boundary (ran.0).component ≡ false = ap (λ (c : VComponent K). is_suspense_boundary c) ran.2 ∙ false_is in
        let own : AtBody app v (rows_of s (work ++ rest)) s ran.0 = record { steps = after_none s work rest (ran.4 s) ∙ none; owed = ran.3 } in
        all_owe s v (work ++ rest) ran.0 ran.1
        (others_stay s w v rest (work ++ rest) heeded (λ t q. after_none t work rest (ran.4 t)) others)
        (subst (λ (b : Bool). OwesAs app b v (rows_of s (work ++ rest)) s ran.0) (sym kind) own)

    boundary_owes : is_suspense_boundary x.component ≡ true → Starts app x → Owes app v (work ++ rest)
    boundary_owes true_is starts =
        let ran : BoundaryRan app s x v work = subst (λ (o : Outcome K). Then (BoundaryRan app s x) o) is (run_boundary w s x live true_is) in
        let kept : Kept x ran.0 = kept_by x ran.0 ran.2 in
        let steps : List RowStep = row_of x.shows (is_held x) in
        let kind : is_suspense_boundary (ran.0).component ≡ true = ap (λ (c : VComponent K). is_suspense_boundary c) kept.component ∙ true_is in
        let first : AtStage app v steps s ran.0 = first_stage app v s x ran.0 kept.shows (reads_by x ran.0 ran.2) ran.3 starts (is_held x) refl in
        let rows : rows_of s (work ++ rest) ≡ steps =
        rows_join s work rest ∙ ap (λ (xs : List RowStep). rows_of s work ++ xs) none ∙ ap (λ (xs : List (Item K)). rows_of s xs ++ []) ran.4 ∙ ap (λ (xs : List RowStep). xs ++ []) (rows_here K s steps) ∙ append-nil steps in
        let away : (t : ℕ) → nat_eq s t ≡ false → rows_of t work ≡ [] = λ t q. ap (λ (xs : List (Item K)). rows_of t xs) ran.4 ∙ rows_there K t s steps q in
        all_owe s v (work ++ rest) ran.0 ran.1
        (others_stay s w v rest (work ++ rest) heeded (λ t q. after_none t work rest (away t q)) others)
        (subst (λ (b : Bool). OwesAs app b v (rows_of s (work ++ rest)) s ran.0) (sym kind) (subst (λ (i : List RowStep). AtStage app v i s ran.0) (sym rows) first))

    -- its component is the same
    pub run_component : (y : Scope K) × (at v.scopes s ≡ Some y) × (y.component ≡ x.component)
    run_component =
        by_test (is_suspense_boundary x.component)
        (
        λ true_is.
        let ran : BoundaryRan app s x v work = subst (λ (o : Outcome K). Then (BoundaryRan app s x) o) is (run_boundary w s x live true_is) in
        (ran.0, ran.1, (kept_by x ran.0 ran.2).component)
        )
        (
        λ false_is.
        let ran : BodyRan app s x.component v work = subst (λ (o : Outcome K). Then (BodyRan app s x.component) o) is (run_body w s x live false_is) in
        (ran.0, ran.1, ran.2)
        )

    -- so after a run what is owed is owed
    pub run_owes : (is_suspense_boundary x.component ≡ true → Starts app x) → Owes app v (work ++ rest)
    run_owes starts = by_test (is_suspense_boundary x.component) (λ q. boundary_owes q (starts q)) (λ q. body_owes q)
