-- What a step of a boundary's run leaves of the boundary, and so of all scopes.
use Rattle.std.proofs.Common.{ℕ, Bool, true, false, List, [], ◌∷◌, ◌++◌, ◌≡◌, ◌≤◌, ◌⊎◌, refl, sym, ap, ◌∙◌, subst, nat_eq, arith, inl, inr}
use Rattle.std.specs.Prelude.{Option, Some, None, if◌then◌else◌}
use Rattle.std.proofs.lemmas.List.{append-nil}
use Rattle.rt_model.specs.Lists.{at, put, without, drop_number}
use Rattle.rt_model.specs.Tree.{Types, Tree, VComponent, is_suspense_boundary, Element}
use Rattle.rt_model.specs.World.{Source, Cell, Error, Context, Application}
use Rattle.rt_model.specs.Laws.{IsLawful}
use Rattle.rt_model.specs.State.{ChildrenSide, FallbackSide, RowStep, PatchChildren, MadeChildren, RunFallback, ShowFallback, ShowChildren, DropFallback, Resolve, Scope, LastCall, State, Item, Row, Outcome, Done, Cut, onward, with_side, empty_side, change, changed_scope, is_held}
use Rattle.rt_model.specs.Run.{row_items, after_hooks, start_agenda}
use Rattle.rt_model.specs.Boundary.{tree_or_placeholder, children_of, counts_render, counted_render, fallback_answered, side_scopes, drop_items, row_step, boundary_step, called_back}
use Rattle.rt_model.proofs.Maps.{eq_same, at_put_here}
use Rattle.rt_model.proofs.NumbersRun.{Idle, called_back_idle}
use Rattle.law_moves.specs.Heeds.{Marked, SameOf}
use Rattle.law_moves.proofs.Told.{change_quiet, CalmO}
use Rattle.law_moves.proofs.Calm.{there_of, reads_by, Pending, Calm, calm_then, quiet_calm, quiet_rest, no_fall}
use Rattle.law_moves.proofs.Ran.{fallback_calm, called_back_calm}
use Rattle.law_moves.proofs.RunStages.{Stage, Asking, FirstCalls, OpensFirst, shows_at, patched_at, held_at, called_at, unread_at}
use Rattle.law_moves.proofs.Owed.{rows_of, rows_join, rows_first, rows_other, rows_here, rows_there, NoRows, after_none, Kept, kept_by, Called, FallbackCurrent, StageHolds, AtStage, OwesAs, Owes, stage_stays}
use Rattle.law_moves.proofs.Alone.{Alone, put_alone, Then, then_onward, dropped_rows}
use Rattle.law_moves.proofs.BodyCalled.{new_side, with_tree, agenda_of, agenda_is, tree_own, tree_there, agenda_rows, CallAt, call_stays, step_calm, call_then}
use Rattle.law_moves.proofs.Runs.{some_bool, called_put, OthersOwe, others_stay, all_owe}
use Rattle.law_moves.proofs.Stages.{Patching, patching, Calling, calling, Hiding, hiding, Showing, showing, Clearing, clearing, Resolving, resolving, asking}

module _ {K : Types} (app : Application K) where
  -- a step of boundary b is done: b's run is at a stage, and no step of another scope's run is opened
  abbrev pub StepRan : List (Item K) → ℕ → VComponent K → State K → List (Item K) → Type 0
  StepRan rest b c v work =
      (y : Scope K) × (at v.scopes b ≡ Some y) × (y.component ≡ c) × AtStage app v (rows_of b (work ++ rest)) b y × ((t : ℕ) → nat_eq b t ≡ false → rows_of t work ≡ [])

  -- what holds of a boundary holds of another record of it, but for what a step changes
  stage_put : (w v : State K) (b : ℕ) (x y : Scope K) (g h : Stage) → (Pending w b → Pending v b) → (patched_at h ≡ true → StageHolds app w b x g → y.children_side.output ≡ Some (children_of y.component))
      → is_held y ≡ is_held x → held_at h ≡ held_at g → (called_at h ≡ true → StageHolds app w b x g → FallbackCurrent app v b y)
      → StageHolds app w b x g ⊎ Pending w b
      → StageHolds app v b y h ⊎ Pending v b
  stage_put w v b x y g h marks patched held same called (inl d) =
      inl (record { patched = λ q. patched q d; held = λ i q. held ∙ d.held i (sym same ∙ q); called = λ q. called q d })
  stage_put w v b x y g h marks patched held same called (inr m) = inr (marks m)

  fallback_put : (w v : State K) (b : ℕ) (x y : Scope K) → at v.last_calls b ≡ at w.last_calls b → y.component ≡ x.component → y.reads ≡ x.reads → y.fallback_side.output ≡ x.fallback_side.output
      → v.next.cells ≡ w.next.cells → ((i : Source) → SameOf w v i) → FallbackCurrent app w b x
      → FallbackCurrent app v b y
  fallback_put w v b x y calls kind reads output level alike h = (h.0, calls ∙ h.1, called_put app w v x y h.0 h.2 kind reads level alike, output ∙ h.3)

  module _ (w : State K) (rest : List (Item K)) (b : ℕ) (x : Scope K) (live : at w.scopes b ≡ Some x) where
    patch_step : (g : Stage) → x.shows ≡ shows_at g → (unread_at g ≡ true → x.reads ≡ []) → StageHolds app w b x g ⊎ Pending w b → Patching g (rows_of b rest)
        → Then (StepRan rest b x.component) (row_step app w b x PatchChildren)
    patch_step g shows unread owed p =
        let tree : Tree K = children_of x.component in
        let v : State K = with_tree app w b ChildrenSide tree x live in
        let y : Scope K = with_side x ChildrenSide (new_side app w b ChildrenSide tree x live) in
        let own : Alone b w v = tree_own app w b ChildrenSide tree x live in
        let none : NoRows (agenda_of app w b ChildrenSide tree x live) = agenda_rows app w b ChildrenSide tree x live in
        subst (λ (o : Outcome K). Then (StepRan rest b x.component) o) (sym (agenda_is app w b ChildrenSide tree x live)) (
          y,
          tree_there app w b ChildrenSide tree x live,
          refl,
          record {
            stage = p.0;
            shows = shows ∙ sym p.2;
            steps = after_none b (agenda_of app w b ChildrenSide tree x live) rest (none b) ∙ sym p.1;
            unread = λ q. unread (sym p.3 ∙ q);
            owed =
                stage_put w v b x y g p.0 (λ m. m) (λ q d. refl) refl p.4
                (λ q d. fallback_put w v b x y refl refl refl refl refl own.alike (d.called (sym p.5 ∙ q)))
                owed;
          },
          λ t q. none t,
        )

    ask_step : (g : Stage) → x.shows ≡ shows_at g → StageHolds app w b x g ⊎ Pending w b → (g ≡ Asking) × ([] ≡ rows_of b rest) → Then (StepRan rest b x.component) (row_step app w b x MadeChildren)
    ask_step g shows owed p =
        ask (is_held x) refl (subst (λ (i : Stage). x.shows ≡ shows_at i) p.0 shows) (subst (λ (i : Stage). StageHolds app w b x i ⊎ Pending w b) p.0 owed)
      where
        turned : (steps : List RowStep) → rows_of {K = K} b (row_items b steps ++ rest) ≡ steps
        turned steps =
            rows_join {K = K} b (row_items b steps) rest
            ∙ ap (λ (xs : List RowStep). rows_of {K = K} b (row_items b steps) ++ xs) (sym p.1)
            ∙ ap (λ (xs : List RowStep). xs ++ []) (rows_here K b steps)
            ∙ append-nil steps

        held_there : (h : Bool) (i : Stage) → is_held x ≡ h → held_at i ≡ Some h → (patched_at i ≡ true) → called_at i ≡ false → StageHolds app w b x Asking ⊎ Pending w b → StageHolds app w b x i ⊎ Pending w b
        held_there h i is at_i patched called (inl d) =
            inl
            (record {
              patched = λ q. d.patched refl;
              held = λ j q. is ∙ some_bool h j (sym at_i ∙ q);
              called = λ q. let absurdity : true ≡ false = sym q ∙ called in cc;
            })
        held_there h i is at_i patched called (inr m) = inr m

        ask : (h : Bool) → is_held x ≡ h → x.shows ≡ None → StageHolds app w b x Asking ⊎ Pending w b
            → StepRan rest b x.component w (row_items b (if h then RunFallback ∷ ShowFallback ∷ [] else ShowChildren ∷ Resolve ∷ []))
        ask true is none owed = (
          x,
          live,
          refl,
          record {
            stage = FirstCalls;
            shows = none;
            steps = turned (RunFallback ∷ ShowFallback ∷ []);
            unread = λ q. let absurdity : false ≡ true = q in cc;
            owed = held_there true FirstCalls is refl refl refl owed;
          },
          λ t q. rows_there K t b (RunFallback ∷ ShowFallback ∷ []) q,
        )
        ask false is none owed = (
          x,
          live,
          refl,
          record {
            stage = OpensFirst;
            shows = none;
            steps = turned (ShowChildren ∷ Resolve ∷ []);
            unread = λ q. let absurdity : false ≡ true = q in cc;
            owed = held_there false OpensFirst is refl refl refl owed;
          },
          λ t q. rows_there K t b (ShowChildren ∷ Resolve ∷ []) q,
        )

    changed_is : (u : State K) (f : Scope K → Scope K) → at u.scopes b ≡ Some x → change u b f ≡ record u { scopes = put u.scopes b (f x) }
    changed_is u f e = ap (λ (o : Option (Scope K)). changed_scope u b f o) e

    hide_step : (g : Stage) → StageHolds app w b x g ⊎ Pending w b → Hiding g (rows_of b rest) → Then (StepRan rest b x.component) (row_step app w b x ShowFallback)
    hide_step g owed p =
        let u : State K = record w { resolved = drop_number w.resolved b } in
        let y : Scope K = record x { shows = Some FallbackSide } in
        let v : State K = record u { scopes = put u.scopes b y } in
        let own : Alone b u v = put_alone u b x y live refl refl refl in
        subst (λ (z : State K). StepRan rest b x.component z []) (sym (changed_is u (λ i. record i { shows = Some FallbackSide }) live)) (
          y,
          at_put_here u.scopes b y b (eq_same b),
          refl,
          record {
            stage = p.0;
            shows = sym p.2;
            steps = sym p.1;
            unread = λ q. let absurdity : false ≡ true = sym p.3 ∙ q in cc;
            owed =
                stage_put w v b x y g p.0 (λ m. m) (λ q d. d.patched (sym p.5 ∙ q)) refl p.4
                (λ q d. fallback_put w v b x y refl refl refl refl refl (λ i. source_through i (own.alike i)) (d.called (sym p.6 ∙ q)))
                owed;
          },
          λ t q. refl,
        )
      where
        source_through : (i : Source) → SameOf (record w { resolved = drop_number w.resolved b }) (record (record w { resolved = drop_number w.resolved b }) { scopes = put w.scopes b (record x { shows = Some FallbackSide }) }) i
            → SameOf w (record (record w { resolved = drop_number w.resolved b }) { scopes = put w.scopes b (record x { shows = Some FallbackSide }) }) i
        source_through (Cell m) h = h
        source_through (Error t) h = h
        source_through (Context k t) h = h

    show_step : (g : Stage) → StageHolds app w b x g ⊎ Pending w b → Showing g (rows_of b rest) → Then (StepRan rest b x.component) (row_step app w b x ShowChildren)
    show_step g owed p =
        let u : State K = record w { last_calls = without w.last_calls b } in
        let y : Scope K = record x { shows = Some ChildrenSide; reads = [] } in
        let v : State K = record u { scopes = put u.scopes b y } in
        subst (λ (z : State K). StepRan rest b x.component z []) (sym (changed_is u (λ i. record i { shows = Some ChildrenSide; reads = [] }) live)) (
          y,
          at_put_here u.scopes b y b (eq_same b),
          refl,
          record {
            stage = p.0;
            shows = sym p.2;
            steps = sym p.1;
            unread = λ q. refl;
            owed =
                stage_put w v b x y g p.0 (λ m. m) (λ q d. d.patched (sym p.4 ∙ q)) refl p.3
                (λ q d. let absurdity : true ≡ false = sym q ∙ p.5 in cc)
                owed;
          },
          λ t q. refl,
        )

    clear_step : (g : Stage) → x.shows ≡ shows_at g → (unread_at g ≡ true → x.reads ≡ []) → StageHolds app w b x g ⊎ Pending w b → Clearing g (rows_of b rest)
        → Then (StepRan rest b x.component) (row_step app w b x DropFallback)
    clear_step g shows unread owed p =
        let y : Scope K = record x { fallback_side = empty_side } in
        let v : State K = record w { scopes = put w.scopes b y } in
        let gone : List (Item K) = drop_items b FallbackSide (side_scopes w x.fallback_side) in
        subst (λ (z : State K). StepRan rest b x.component z gone) (sym (changed_is w (λ i. record i { fallback_side = empty_side }) live)) (
          y,
          at_put_here w.scopes b y b (eq_same b),
          refl,
          record {
            stage = p.0;
            shows = shows ∙ sym p.2;
            steps = after_none b gone rest (dropped_rows K b b FallbackSide (side_scopes w x.fallback_side)) ∙ sym p.1;
            unread = λ q. unread (sym p.3 ∙ q);
            owed =
                stage_put w v b x y g p.0 (λ m. m) (λ q d. d.patched (sym p.5 ∙ q)) refl p.4
                (λ q d. let absurdity : true ≡ false = sym q ∙ p.6 in cc)
                owed;
          },
          λ t q. dropped_rows K t b FallbackSide (side_scopes w x.fallback_side),
        )

module _ {K : Types} (app : Application K) (lawful : IsLawful K app) where
  -- the fallback was called, and the call stands at v
  called_stage : (n : ℕ) (w u : State K) (rest : List (Item K)) (b : ℕ) (x : Scope K) (last : LastCall K) (v : State K) (d : CallAt app n u b x last v) (g : Stage) → x.shows ≡ shows_at g → (Pending w b → Pending u b)
      → StageHolds app w b x g ⊎ Pending w b → Calling g (rows_of b rest)
      → Then (StepRan app rest b x.component) (start_agenda app v b FallbackSide (tree_or_placeholder last.answer))
  called_stage n w u rest b x last v d g shows marks owed p =
      let tree : Tree K = tree_or_placeholder last.answer in
      let z : State K = with_tree app v b FallbackSide tree d.scope d.found in
      let y : Scope K = with_side d.scope FallbackSide (new_side app v b FallbackSide tree d.scope d.found) in
      let none : NoRows (agenda_of app v b FallbackSide tree d.scope d.found) = agenda_rows app v b FallbackSide tree d.scope d.found in
      subst (λ (o : Outcome K). Then (StepRan app rest b x.component) o) (sym (agenda_is app v b FallbackSide tree d.scope d.found)) (
        y,
        tree_there app v b FallbackSide tree d.scope d.found,
        d.same.component,
        record {
          stage = p.0;
          shows = d.same.shows ∙ shows ∙ sym p.2;
          steps = after_none b (agenda_of app v b FallbackSide tree d.scope d.found) rest (none b) ∙ sym p.1;
          unread = λ q. let absurdity : false ≡ true = sym p.3 ∙ q in cc;
          owed = both owed d.called d.held;
        },
        λ t q. none t,
      )
    where
      both : StageHolds app w b x g ⊎ Pending w b → Called app v d.scope last ⊎ Marked v b → (is_held d.scope ≡ is_held x) ⊎ Marked v b
          → StageHolds app (with_tree app v b FallbackSide (tree_or_placeholder last.answer) d.scope d.found) b
          (with_side d.scope FallbackSide (new_side app v b FallbackSide (tree_or_placeholder last.answer) d.scope d.found)) p.0
          ⊎ Pending v b
      both (inr m) c h = inr (d.marks (marks m))
      both (inl s) (inr m) h = inr (inl m)
      both (inl s) (inl c) (inr m) = inr (inl m)
      both (inl s) (inl c) (inl h) =
          let tree : Tree K = tree_or_placeholder last.answer in
          let z : State K = with_tree app v b FallbackSide tree d.scope d.found in
          let y : Scope K = with_side d.scope FallbackSide (new_side app v b FallbackSide tree d.scope d.found) in
          let own : Alone b v z = tree_own app v b FallbackSide tree d.scope d.found in
          inl
          (record {
            patched = λ q. d.same.children_output ∙ s.patched (sym p.5 ∙ q) ∙ ap (λ (i : VComponent K). Some (children_of i)) (sym d.same.component);
            held = λ i q. h ∙ s.held i (sym p.4 ∙ q);
            called = λ q. (last, d.call, called_put app v z d.scope y last c refl refl refl own.alike, refl);
          })

  call_step : (w : State K) (rest : List (Item K)) (b : ℕ) (x : Scope K) → at w.scopes b ≡ Some x → (g : Stage) → x.shows ≡ shows_at g → StageHolds app w b x g ⊎ Pending w b → Calling g (rows_of b rest)
      → Then (StepRan app rest b x.component) (row_step app w b x RunFallback)
  call_step w rest b x live g shows owed p =
      call_then app lawful (StepRan app rest b x.component) b x.component (λ v a. fallback_answered app v b x.component a) w x live refl
      (
      λ u found marks last z d.
      let a : Element K = last.answer in
      let counts : Bool = counts_render x.component a in
      then_onward (StepRan app rest b x.component) u.next.cells z (onward (counted_render app z b counts) (λ v. after_hooks app v b)) (λ v. start_agenda app v b FallbackSide (tree_or_placeholder a))
      (fallback_calm app lawful u.next.cells z b counts d.risen)
      (λ v calm. called_stage u.next.cells w u rest b x last v (call_stays app u.next.cells u b x last z v calm d) g shows marks owed p)
      )

  quiet_stage : (w : State K) (b : ℕ) (x : Scope K) (g h : Stage) → held_at h ≡ held_at g → patched_at h ≡ patched_at g → called_at h ≡ called_at g → StageHolds app w b x g ⊎ Pending w b → StageHolds app w b x h ⊎ Pending w b
  quiet_stage w b x g h held patched called (inl d) =
      inl (record { patched = λ q. d.patched (sym patched ∙ q); held = λ i q. d.held i (sym held ∙ q); called = λ q. d.called (sym called ∙ q) })
  quiet_stage w b x g h held patched called (inr m) = inr m

  resolve_step : (w : State K) (rest : List (Item K)) (b : ℕ) (x : Scope K) → at w.scopes b ≡ Some x → (g : Stage) → x.shows ≡ shows_at g → (unread_at g ≡ true → x.reads ≡ []) → StageHolds app w b x g ⊎ Pending w b
      → Resolving g (rows_of b rest)
      → Then (StepRan app rest b x.component) (row_step app w b x Resolve)
  resolve_step w rest b x live g shows unread owed p =
      ended (called_back app u x.callbacks) (called_back_calm app lawful w.next.cells u x.callbacks more) (called_back_idle app lawful u x.callbacks)
    where
      v : State K
      v = record w { resolved = w.resolved ++ b ∷ [] }

      u : State K
      u = change v b (λ y. record y { callbacks = [] })

      f : Calm None w.next.cells w u
      f =
          calm_then None w.next.cells w v u (quiet_calm None w.next.cells w v (quiet_rest w v refl refl refl refl refl refl refl refl (no_fall w)))
          (quiet_calm None w.next.cells v u (change_quiet v b (λ y. record y { callbacks = [] }) (λ y. refl)))

      more : w.next.cells ≤ u.next.cells
      more = f.rises

      ended : (o : Outcome K) → CalmO None w.next.cells u o → Idle o → Then (StepRan app rest b x.component) o
      ended (Cut z fault) calm idle = tt
      ended (Done z work) calm idle =
          let all : Calm None w.next.cells w z = calm_then None w.next.cells w u z f calm in
          let y = there_of (at z.scopes b) (at w.scopes b) x (all.heeds.stays b refl) live in
          let kept : Kept x y.0 = kept_by x y.0 y.2 in
          let none : (t : ℕ) → rows_of t work ≡ [] = λ t. ap (λ (xs : List (Item K)). rows_of t xs) idle in (
            y.0,
            y.1,
            kept.component,
            record {
              stage = p.0;
              shows = kept.shows ∙ shows ∙ sym p.2;
              steps = after_none b work rest (none b) ∙ sym p.1;
              unread = λ q. reads_by x y.0 y.2 ∙ unread (sym p.3 ∙ q);
              owed = stage_stays app None w z all b x y.0 refl live y.1 y.2 p.0 (quiet_stage w b x g p.0 p.4 p.5 p.6 owed);
            },
            λ t q. none t,
          )

  -- each step, by what is left of the run
  step_ran : (w : State K) (rest : List (Item K)) (b : ℕ) (x : Scope K) (step : RowStep) → at w.scopes b ≡ Some x → AtStage app w (step ∷ rows_of b rest) b x → Then (StepRan app rest b x.component) (row_step app w b x step)
  step_ran w rest b x PatchChildren live h = patch_step app w rest b x live h.stage h.shows h.unread h.owed (patching h.stage (rows_of b rest) (sym h.steps))
  step_ran w rest b x MadeChildren live h = ask_step app w rest b x live h.stage h.shows h.owed (asking h.stage (rows_of b rest) (sym h.steps))
  step_ran w rest b x RunFallback live h = call_step w rest b x live h.stage h.shows h.owed (calling h.stage (rows_of b rest) (sym h.steps))
  step_ran w rest b x ShowFallback live h = hide_step app w rest b x live h.stage h.owed (hiding h.stage (rows_of b rest) (sym h.steps))
  step_ran w rest b x ShowChildren live h = show_step app w rest b x live h.stage h.owed (showing h.stage (rows_of b rest) (sym h.steps))
  step_ran w rest b x DropFallback live h = clear_step app w rest b x live h.stage h.shows h.unread h.owed (clearing h.stage (rows_of b rest) (sym h.steps))
  step_ran w rest b x Resolve live h = resolve_step w rest b x live h.stage h.shows h.unread h.owed (resolving h.stage (rows_of b rest) (sym h.steps))

  -- a scope with a step left is a boundary
  is_at_stage : (w : State K) (rest : List (Item K)) (b : ℕ) (x : Scope K) (step : RowStep) (kind : Bool) → OwesAs app kind w (rows_of b (Row b step ∷ rest)) b x → (kind ≡ true) × AtStage app w (step ∷ rows_of b rest) b x
  is_at_stage w rest b x step true h = (refl, subst (λ (i : List RowStep). AtStage app w i b x) (rows_first b step rest) h)
  is_at_stage w rest b x step false h = let absurdity : step ∷ rows_of b rest ≡ [] = sym (rows_first b step rest) ∙ h.steps in cc

  -- the boundary's component is the same
  pub step_component : (w : State K) (rest : List (Item K)) (b : ℕ) (x : Scope K) (step : RowStep) (v : State K) (work : List (Item K)) → at w.scopes b ≡ Some x → Owes app w (Row b step ∷ rest) → boundary_step app w b step ≡ Done v work
      → (y : Scope K) × (at v.scopes b ≡ Some y) × (y.component ≡ x.component)
  step_component w rest b x step v work live h is =
      let found = is_at_stage w rest b x step (is_suspense_boundary x.component) (h b x live) in
      let here : boundary_step app w b step ≡ row_step app w b x step = ap (λ (o : Option (Scope K)). elim o as (λ z. Outcome K) [ None ↦ Done w [] | Some i ↦ row_step app w b i step ]) live in
      let ran : StepRan app rest b x.component v work = subst (λ (o : Outcome K). Then (StepRan app rest b x.component) o) (sym here ∙ is) (step_ran w rest b x step live found.1) in
      (ran.0, ran.1, ran.2)

  -- so after a step what is owed is owed
  pub step_owes : (w : State K) (rest : List (Item K)) (b : ℕ) (x : Scope K) (step : RowStep) (v : State K) (work : List (Item K)) → at w.scopes b ≡ Some x → Owes app w (Row b step ∷ rest) → boundary_step app w b step ≡ Done v work
      → Owes app v (work ++ rest)
  step_owes w rest b x step v work live h is =
      let found = is_at_stage w rest b x step (is_suspense_boundary x.component) (h b x live) in
      let here : boundary_step app w b step ≡ row_step app w b x step = ap (λ (o : Option (Scope K)). elim o as (λ z. Outcome K) [ None ↦ Done w [] | Some i ↦ row_step app w b i step ]) live in
      let ran : StepRan app rest b x.component v work = subst (λ (o : Outcome K). Then (StepRan app rest b x.component) o) (sym here ∙ is) (step_ran w rest b x step live found.1) in
      let level : w.next.cells ≤ w.next.cells = omega arith in
      let heeded : Calm (Some b) w.next.cells w v = subst (λ (o : Outcome K). CalmO (Some b) w.next.cells w o) is (step_calm app lawful w.next.cells w b step level) in
      let kind : is_suspense_boundary (ran.0).component ≡ true = ap (λ (c : VComponent K). is_suspense_boundary c) ran.2 ∙ found.0 in
      let others : OthersOwe app lawful b w (Row b step ∷ rest) = λ t y q e. h t y e in
      all_owe app lawful b v (work ++ rest) ran.0 ran.1
      (others_stay app lawful b w v (Row b step ∷ rest) (work ++ rest) heeded (λ t q. after_none t work rest (ran.4 t q) ∙ sym (rows_other t b step rest q)) others)
      (subst (λ (i : Bool). OwesAs app i v (rows_of b (work ++ rest)) b ran.0) (sym kind) ran.3)
