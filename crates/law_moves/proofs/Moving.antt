-- Each move keeps what is owed, the kinds of children, and the order of holders and numbers: a run, a step, a scope that is made or goes.
use Rattle.std.proofs.Common.{ℕ, ◌+◌, ◌≤◌, Bool, true, false, List, [], ◌∷◌, ◌++◌, ◌≡◌, inl, inr, refl, sym, ap, ◌∙◌, subst, arith, nat_eq}
use Rattle.std.proofs.lemmas.Bool.{eqb-true}
use Rattle.std.specs.Prelude.{Option, Some, None, is_some, if◌then◌else◌}
use Rattle.rt_model.specs.Lists.{at, has}
use Rattle.rt_model.specs.Tree.{Types, Place, VComponent, is_suspense_boundary}
use Rattle.rt_model.specs.World.{Scopes, Elements, at_end, before_render_kind, Application}
use Rattle.rt_model.specs.Laws.{IsLawful}
use Rattle.rt_model.specs.State.{SideName, MainSide, FallbackSide, RowStep, PatchChildren, MadeChildren, RunFallback, ShowFallback, ShowChildren, DropFallback, Resolve, IdsExhausted, Scope, State, Item, Draw, Row, Feed, Make, Drop, Outcome, Done, Cut, onward, empty_side, new_scope, change, changed_scope, is_live}
use Rattle.rt_model.specs.Next.{next}
use Rattle.rt_model.specs.Run.{unmarked, hooks_called, run_as, run}
use Rattle.rt_model.specs.Boundary.{side_scopes, drop_items, row_step, boundary_step}
use Rattle.rt_model.specs.Removal.{next_removed, removed}
use Rattle.rt_model.specs.Replay.{Machine, ended_by, numbered, with_new_scope, made_in, outcome_of, dropped}
use Rattle.rt_model.specs.Framed.{TookOne}
use Rattle.rt_model.specs.Lasting.{IsRooted}
use Rattle.rt_model.proofs.Maps.{by_test, pick_true, pick_false}
use Rattle.rt_model.proofs.Stands.{Stands}
use Rattle.rt_model.proofs.TakesOne.{removal_takes_one}
use Rattle.law_moves.specs.Moves.{is_silent}
use Rattle.law_moves.proofs.Twigs.{SameTwigs, by_scope, found_live, live_found}
use Rattle.law_moves.proofs.Woven.{Woven, woven_whole}
use Rattle.law_moves.proofs.Patched.{Idle}
use Rattle.law_moves.proofs.Made.{at_child, made_idle}
use Rattle.law_moves.proofs.Opens.{Opens, run_opens, row_opens}
use Rattle.law_moves.proofs.Weaves.{put_side, numbered_twigs}
use Rattle.law_moves.proofs.Everywhere.{WovenOn, steps_idle}
use Rattle.law_moves.specs.Heeds.{is_past}
use Rattle.law_moves.proofs.Told.{CalmO}
use Rattle.law_moves.proofs.Calm.{live_by, Orderly, Calm, quiet_calm}
use Rattle.law_moves.proofs.Owed.{rows_of, OwesAs, ScopeOwes, Owes}
use Rattle.law_moves.proofs.Alone.{Alone, alone_calm, Then, then_if}
use Rattle.law_moves.proofs.BodyCalled.{run_calm, step_calm}
use Rattle.law_moves.proofs.Runs.{Starts, starts_of, OthersOwe, others_stay, stay_all, run_component, run_owes}
use Rattle.law_moves.proofs.Steps.{step_component, step_owes}
use Rattle.law_moves.specs.Sorts.{ComponentSort, sort_of}
use Rattle.law_moves.proofs.ChildKinds.{kind_of, kind_by, KindsBy, Kinds, kinds_alike, kinds_later, kinds_same, kinds_emptied, kinds_left, kinds_made}
use Rattle.law_moves.proofs.FedKinds.{kinds_opened}
use Rattle.law_moves.proofs.Removed.{removed_calm}
use Rattle.law_moves.proofs.Seen.{removed_unseen}
use Rattle.law_moves.proofs.Children.{new_alone, no_rows, others_own, then_is, numbered_quiet}

-- Q is known wherever a scope was passed over by a render
module _ {K : Types} (app : Application K) (lawful : IsLawful K app) (Q : Type 0) where
  -- what is seen is live, and what is queued hasn't ended
  pub record Scheduled (w : State K) : Type 0 where
    pub seen : (s : ℕ) → has w.seen s ≡ true → is_live w s ≡ true
    pub queued : (t : ℕ) → has w.queued t ≡ true → is_some (at w.tasks t) ≡ true
    pub passed : (s : ℕ) → has w.skipped s ≡ true → Q

  still_queued : (past : Option ℕ) (n : ℕ) (w v : State K) → Calm past n w v → Scheduled w → (t : ℕ) → has v.queued t ≡ true → is_some (at v.tasks t) ≡ true
  still_queued past n w v f h t q = elim (f.lists.queued t q) [ inl a ↦ a.1 (h.queued t a.0) | inr b ↦ b ]

  still_seen : (past : Option ℕ) (n : ℕ) (w v : State K) → Calm past n w v → Scheduled w → (s : ℕ) → is_past past s ≡ false → has v.seen s ≡ true → is_live v s ≡ true
  still_seen past n w v f h s p q = elim (f.lists.seen s p q) [ inl a ↦ live_by (at v.scopes s) (at w.scopes s) (f.heeds.stays s p) (h.seen s a) | inr b ↦ b ]

  pub calm_scheduled : (n : ℕ) (w v : State K) → Calm None n w v → Scheduled w → Scheduled v
  calm_scheduled n w v f h = record { seen = λ s q. still_seen None n w v f h s refl q; queued = λ t q. still_queued None n w v f h t q; passed = λ s q. h.passed s (f.lists.passed s q) }

  -- where one scope is passed over, it is live if it is seen
  pub but_scheduled : (n s : ℕ) (w v : State K) → Calm (Some s) n w v → (has v.seen s ≡ true → is_live v s ≡ true) → Scheduled w → Scheduled v
  but_scheduled n s w v f own h =
      record {
        seen =
            λ t q.
            by_test (nat_eq s t)
            (
            λ p.
            let same : s ≡ t = eqb-true s t p in
            subst (λ (k : ℕ). is_live v k ≡ true) same (own (ap (λ (k : ℕ). has v.seen k) same ∙ q))
            )
            (λ p. still_seen (Some s) n w v f h t p q);
        queued = λ t q. still_queued (Some s) n w v f h t q;
        passed = λ t q. h.passed t (f.lists.passed t q);
      }

  -- what holds of a state and its open work
  pub record Holding (w : State K) (work : List (Item K)) : Type 0 where
    pub owes : Owes app w work
    pub kinds : Kinds w work
    pub orderly : Orderly w
    pub scheduled : Scheduled w

  abbrev pub HoldingOn : Machine K → Type 0
  HoldingOn m = m.dead ≡ None → Holding m.state m.work

  abbrev pub HoldingO : List (Item K) → Outcome K → Type 0
  HoldingO rest o = Then (λ v work. Holding v (work ++ rest)) o

  pub ended : (m : Machine K) (item : Option (Item K)) (rest : List (Item K)) (o : Outcome K) → HoldingO rest o → HoldingOn (ended_by m item rest o)
  ended m item rest (Done v work) h = λ alive. h
  ended m item rest (Cut v fault) h = λ alive. let absurdity : Some fault ≡ None = alive in cc

  pub level : (w : State K) → w.next.cells ≤ w.next.cells
  level w = omega arith

  -- a calm change that leaves the tree
  pub calm_holding : (w v : State K) (work : List (Item K)) → Calm None w.next.cells w v → SameTwigs w v → Holding w work → Holding v work
  calm_holding w v work calm same h =
      record {
        owes = stay_all app lawful w v work work calm (λ t. refl) h.owes;
        kinds =
            kinds_alike (λ t. kind_of (at w.scopes t)) (λ t. kind_of (at v.scopes t)) v work (λ t. kind_by (at v.scopes t) (at w.scopes t) (calm.heeds.stays t refl))
            (kinds_same w v same (λ t. kind_of (at w.scopes t)) work h.kinds);
        orderly = calm.orderly h.orderly;
        scheduled = calm_scheduled w.next.cells w v calm h.scheduled;
      }

  -- the first item goes, where it is no step
  pub later_holding : (w : State K) (i : Item K) (rest : List (Item K)) → ((t : ℕ) → rows_of t (i ∷ rest) ≡ rows_of t rest) → Holding w (i ∷ rest) → Holding w rest
  later_holding w i rest rows h =
      record {
        owes = λ t x e. subst (λ (steps : List RowStep). ScopeOwes app w steps t x) (rows t) (h.owes t x e);
        kinds = kinds_later (λ t. kind_of (at w.scopes t)) w i rest h.kinds;
        orderly = h.orderly;
        scheduled = h.scheduled;
      }

  -- kinds stay where one scope alone changes, and keeps its own
  pub kinds_stay : (s : ℕ) (w v : State K) → Calm (Some s) w.next.cells w v → kind_of (at v.scopes s) ≡ kind_of (at w.scopes s) → (t : ℕ) → kind_of (at v.scopes t) ≡ kind_of (at w.scopes t)
  kinds_stay s w v calm own t =
      by_test (nat_eq s t)
      (
      λ q.
      ap (λ (i : ℕ). kind_of (at v.scopes i)) (sym (eqb-true s t q)) ∙ own ∙ ap (λ (i : ℕ). kind_of (at w.scopes i)) (eqb-true s t q)
      )
      (λ q. kind_by (at v.scopes t) (at w.scopes t) (calm.heeds.stays t q))

  own_kind : (w v : State K) (s : ℕ) (x y : Scope K) → at w.scopes s ≡ Some x → at v.scopes s ≡ Some y → y.component ≡ x.component → kind_of (at v.scopes s) ≡ kind_of (at w.scopes s)
  own_kind w v s x y e d same =
      ap (λ (o : Option (Scope K)). kind_of o) d ∙ ap (λ (c : VComponent K). Some (sort_of c)) same ∙ sym (ap (λ (o : Option (Scope K)). kind_of o) e)

  -- a run
  pub run_holding : (w : State K) (rest : List (Item K)) (s : ℕ) (x : Scope K) → at w.scopes s ≡ Some x → rows_of s rest ≡ [] → OthersOwe app lawful s w rest → (is_suspense_boundary x.component ≡ true → Starts app x) → Idle w s rest → Kinds w rest → Orderly w → Scheduled w
      → HoldingO rest (run app w s)
  run_holding w rest s x live none others starts idle kinds orderly scheduled =
      then_is (λ v work. Holding v (work ++ rest)) (run app w s)
      (
      λ v work is.
      let calm : Calm (Some s) w.next.cells w v = subst (λ (o : Outcome K). CalmO (Some s) w.next.cells w o) is (run_calm app lawful w.next.cells w s (level w)) in
      let y = run_component app lawful w rest s x live none others v work is in
      let opens : Opens app w s (Done v work) = subst (λ (o : Outcome K). Opens app w s o) is (run_opens app lawful w s) in
      record {
        owes = run_owes app lawful w rest s x live none others v work is starts;
        kinds =
            kinds_alike (λ t. kind_of (at w.scopes t)) (λ t. kind_of (at v.scopes t)) v (work ++ rest) (kinds_stay s w v calm (own_kind w v s x y.0 live y.1 y.2))
            (kinds_opened app lawful w s v work rest (λ t. kind_of (at w.scopes t)) opens (live_found w s x live) idle kinds);
        orderly = calm.orderly orderly;
        scheduled = but_scheduled w.next.cells s w v calm (λ q. ap (λ (o : Option (Scope K)). is_some o) y.1) scheduled;
      }
      )

  -- a scope that has no step left may be run
  pub starts_here : (w : State K) (rows : List RowStep) (s : ℕ) (x : Scope K) → rows ≡ [] → ScopeOwes app w rows s x → is_suspense_boundary x.component ≡ true → Starts app x
  starts_here w rows s x none h true_is = starts_of app w s x rows none (subst (λ (b : Bool). OwesAs app b w rows s x) true_is h)

  -- a run where no work is open, of a scope that may be gone
  pub run_alone : (w : State K) (s : ℕ) → Holding w [] → HoldingO [] (run app w s)
  run_alone w s h =
      by_scope (at w.scopes s)
      (
      λ none.
      subst
      (λ (o : Option (Scope K)). HoldingO [] (elim o as (λ z. Outcome K) [
        | None ↦ Done w []
        | Some x ↦ onward (hooks_called app before_render_kind (unmarked w s) s x.hooks) (λ v. run_as app v s x x.component)
      ]))
      (sym none) h
      )
      (λ x live. run_holding w [] s x live refl (λ t y q e. h.owes t y e) (starts_here w [] s x refl (h.owes s x live)) tt h.kinds h.orderly h.scheduled)

  -- a step of a boundary's run

  step_holding : (w : State K) (rest : List (Item K)) (b : ℕ) (x : Scope K) (step : RowStep) → at w.scopes b ≡ Some x → Idle w b rest → Holding w (Row b step ∷ rest)
      → ((k : ℕ → Option (ComponentSort K)) (v : State K) (work : List (Item K)) → boundary_step app w b step ≡ Done v work → KindsBy k w rest → KindsBy k v (work ++ rest))
      → HoldingO rest (boundary_step app w b step)
  step_holding w rest b x step live idle h opened =
      then_is (λ v work. Holding v (work ++ rest)) (boundary_step app w b step)
      (
      λ v work is.
      let calm : Calm (Some b) w.next.cells w v = subst (λ (o : Outcome K). CalmO (Some b) w.next.cells w o) is (step_calm app lawful w.next.cells w b step (level w)) in
      let y = step_component app lawful w rest b x step v work live h.owes is in
      record {
        owes = step_owes app lawful w rest b x step v work live h.owes is;
        kinds =
            kinds_alike (λ t. kind_of (at w.scopes t)) (λ t. kind_of (at v.scopes t)) v (work ++ rest) (kinds_stay b w v calm (own_kind w v b x y.0 live y.1 y.2))
            (opened (λ t. kind_of (at w.scopes t)) v work is (kinds_later (λ t. kind_of (at w.scopes t)) w (Row b step) rest h.kinds));
        orderly = calm.orderly h.orderly;
        scheduled = but_scheduled w.next.cells b w v calm (λ q. ap (λ (o : Option (Scope K)). is_some o) y.1) h.scheduled;
      }
      )

  step_found : (w : State K) (b : ℕ) (x : Scope K) (step : RowStep) → at w.scopes b ≡ Some x → boundary_step app w b step ≡ row_step app w b x step
  step_found w b x step live = ap (λ (o : Option (Scope K)). elim o as (λ z. Outcome K) [ None ↦ Done w [] | Some y ↦ row_step app w b y step ]) live

  step_opened : (w : State K) (rest : List (Item K)) (b : ℕ) (x : Scope K) (step : RowStep) → at w.scopes b ≡ Some x → Idle w b rest → (step ≡ DropFallback → ⊥) → (k : ℕ → Option (ComponentSort K)) (v : State K) (work : List (Item K))
      → boundary_step app w b step ≡ Done v work → KindsBy k w rest
      → KindsBy k v (work ++ rest)
  step_opened w rest b x step live idle other k v work is h =
      let opens : Opens app w b (Done v work) = subst (λ (o : Outcome K). Opens app w b o) (sym (step_found w b x step live) ∙ is) (row_opens app lawful w b x step other) in
      kinds_opened app lawful w b v work rest k opens (live_found w b x live) idle h

  clear_opened : (w : State K) (rest : List (Item K)) (b : ℕ) (x : Scope K) → at w.scopes b ≡ Some x → Idle w b rest → (k : ℕ → Option (ComponentSort K)) (v : State K) (work : List (Item K)) → boundary_step app w b DropFallback ≡ Done v work → KindsBy k w rest
      → KindsBy k v (work ++ rest)
  clear_opened w rest b x live idle k v work is h =
      let ts : List ℕ = side_scopes w x.fallback_side in
      let u : State K = put_side w b FallbackSide x empty_side live in
      let emptied : change w b (λ y. record y { fallback_side = empty_side }) ≡ u = ap (λ (o : Option (Scope K)). changed_scope w b (λ y. record y { fallback_side = empty_side }) o) live in
      let there : Done u (drop_items b FallbackSide ts) ≡ Done v work = ap (λ (z : State K). Done z (drop_items b FallbackSide ts)) (sym emptied) ∙ sym (step_found w b x DropFallback live) ∙ is in
      subst (λ (o : Outcome K). Then (λ z more. KindsBy k z (more ++ rest)) o) there (kinds_emptied w b x live k ts rest idle h)

  step_kinds : (w : State K) (rest : List (Item K)) (b : ℕ) (x : Scope K) (step : RowStep) → at w.scopes b ≡ Some x → Idle w b rest → (k : ℕ → Option (ComponentSort K)) (v : State K) (work : List (Item K)) → boundary_step app w b step ≡ Done v work → KindsBy k w rest
      → KindsBy k v (work ++ rest)
  step_kinds w rest b x DropFallback live idle k v work is h = clear_opened w rest b x live idle k v work is h
  step_kinds w rest b x PatchChildren live idle k v work is h = step_opened w rest b x PatchChildren live idle (λ e. cc) k v work is h
  step_kinds w rest b x MadeChildren live idle k v work is h = step_opened w rest b x MadeChildren live idle (λ e. cc) k v work is h
  step_kinds w rest b x RunFallback live idle k v work is h = step_opened w rest b x RunFallback live idle (λ e. cc) k v work is h
  step_kinds w rest b x ShowFallback live idle k v work is h = step_opened w rest b x ShowFallback live idle (λ e. cc) k v work is h
  step_kinds w rest b x ShowChildren live idle k v work is h = step_opened w rest b x ShowChildren live idle (λ e. cc) k v work is h
  step_kinds w rest b x Resolve live idle k v work is h = step_opened w rest b x Resolve live idle (λ e. cc) k v work is h

  -- an item that needs no entry

  pub silent_holds : (m : Machine K) (item : Item K) (rest : List (Item K)) → is_silent item ≡ true → Woven m.state (item ∷ rest) → Holding m.state (item ∷ rest) → HoldingOn (ended_by m (Some item) rest (outcome_of app m.state item))
  silent_holds m (Draw s a p k) rest silent woven h =
      let w : State K = m.state in
      let v : State K = numbered w s a p k in
      let o : Outcome K = outcome_of app w (Draw s a p k) in
      ended m (Some (Draw s a p k)) rest o
      (then_if (λ z work. Holding z (work ++ rest)) (at_end w.next.elements) (Cut w (IdsExhausted Elements)) (Done v []) tt
      (calm_holding w v rest (quiet_calm None w.next.cells w v (numbered_quiet w s a p k)) (numbered_twigs w s a p k) (later_holding w (Draw s a p k) rest (λ t. refl) h)))
  silent_holds m (Row b step) rest silent woven h =
      let w : State K = m.state in
      let there = found_live (at w.scopes b) woven.stack.0 in
      let idle : Idle w b rest = steps_idle w b step rest woven.stack.2 in
      ended m (Some (Row b step)) rest (boundary_step app w b step) (step_holding w rest b there.0 step there.1 idle h (step_kinds w rest b there.0 step there.1 idle))
  silent_holds m (Feed s a p c) rest silent woven h = cc
  silent_holds m (Make s a p c) rest silent woven h = cc
  silent_holds m (Drop t s a) rest silent woven h = cc

  -- a scope is made

  made_holding : (w : State K) (rest : List (Item K)) (s : ℕ) (a : SideName) (p : Place) (c : VComponent K) (x : Scope K) (b : Bool) → at w.scopes s ≡ Some x → IsRooted w → Stands w (Make s a p c ∷ rest) → Woven w (Make s a p c ∷ rest) → Holding w (Make s a p c ∷ rest)
      → HoldingO rest (if b then Cut w (IdsExhausted Scopes) else run app (with_new_scope w s a p c x) w.next_scope)
  made_holding w rest s a p c x true found r st woven h = tt
  made_holding w rest s a p c x false found r st woven h =
      let n : ℕ = w.next_scope in
      let least : n ≤ n = omega arith in
      let fresh : at w.scopes n ≡ None = r.drawn n least in
      let v : State K = with_new_scope w s a p c x in
      let new : Scope K = new_scope c (Some s) (x.height + 1) a in
      let alone : Alone n w v = new_alone w s a p c x found fresh in
      let calm : Calm (Some n) w.next.cells w v = alone_calm w.next.cells n w v alone in
      let others : OthersOwe app lawful n v rest = others_stay app lawful n w v (Make s a p c ∷ rest) rest calm (λ t q. refl) (λ t y q e. h.owes t y e) in
      run_holding v rest n new (at_child w s a p c x found fresh) (no_rows n rest (others_own w n rest fresh woven.stack.3)) others
      (λ true_is. inl (pick_true None (Some MainSide) true_is))
      (made_idle w s a p c x found fresh rest (woven_whole w (Make s a p c) rest tt woven))
      (kinds_made w s a p c x found fresh rest st h.kinds woven.stack.3)
      (calm.orderly h.orderly)
      (but_scheduled w.next.cells n w v calm (λ q. ap (λ (o : Option (Scope K)). is_some o) (at_child w s a p c x found fresh)) h.scheduled)

  pub make_holds : (m : Machine K) (rest : List (Item K)) (s : ℕ) (a : SideName) (p : Place) (c : VComponent K) → is_live m.state s ≡ true → IsRooted m.state → Stands m.state (Make s a p c ∷ rest) → Woven m.state (Make s a p c ∷ rest) → Holding m.state (Make s a p c ∷ rest)
      → HoldingOn (ended_by m (Some (Make s a p c)) rest (outcome_of app m.state (Make s a p c)))
  make_holds m rest s a p c live r st woven h =
      let w : State K = m.state in
      let there = found_live (at w.scopes s) live in
      let o : Outcome K = outcome_of app w (Make s a p c) in
      ended m (Some (Make s a p c)) rest o
      (subst (λ (z : Option (Scope K)). HoldingO rest (elim z as (λ i. Outcome K) [ None ↦ Done w [] | Some y ↦ made_in app w s a p c y ])) (sym there.1)
      (made_holding w rest s a p c there.0 (at_end w.next_scope) there.1 r st woven h))

  -- a removal

  gone_owes : (w v : State K) (l : ℕ) (work : List (Item K)) → Calm (Some l) w.next.cells w v → at v.scopes l ≡ None → Owes app w work → Owes app v work
  gone_owes w v l work calm none h =
      λ t y e.
      by_test (nat_eq l t)
      (λ q. let absurdity : None ≡ Some y = sym none ∙ ap (λ (i : ℕ). at v.scopes i) (eqb-true l t q) ∙ e in cc)
      (λ q. others_stay app lawful l w v work work calm (λ u z. refl) (λ u x z d. h u x d) t y q e)

  gone_holds : (m : Machine K) (item : Item K) (rest : List (Item K)) (l : ℕ) (o : Outcome K) → removed app m.state l ≡ o → Holding m.state rest → WovenOn (ended_by m (Some item) rest o) → HoldingOn (ended_by m (Some item) rest o)
  gone_holds m item rest l (Cut v fault) is h woven = λ alive. let absurdity : Some fault ≡ None = alive in cc
  gone_holds m item rest l (Done v work) is h woven =
      let w : State K = m.state in
      let took = removal_takes_one app lawful w v l work is in
      let one : TookOne w l v = took.1 in
      let calm : Calm (Some l) w.next.cells w v = subst (λ (o : Outcome K). CalmO (Some l) w.next.cells w o) is (removed_calm app lawful w.next.cells w l (level w)) in
      let unseen : has v.seen l ≡ false = subst (λ (o : Outcome K). Then (λ z more. has z.seen l ≡ false) o) is (removed_unseen app w l) in
      λ alive.
      let after : Woven v rest = subst (λ (xs : List (Item K)). Woven v (xs ++ rest)) took.0 (woven alive) in
      subst (λ (xs : List (Item K)). Holding v (xs ++ rest)) (sym took.0)
      (record {
        owes = gone_owes w v l rest calm one.gone h.owes;
        kinds = kinds_left w v l one rest after.stack h.kinds;
        orderly = calm.orderly h.orderly;
        scheduled = but_scheduled w.next.cells l w v calm (λ q. let absurdity : true ≡ false = sym q ∙ unseen in cc) h.scheduled;
      })

  pub drop_holds : (m : Machine K) (rest : List (Item K)) (top parent : ℕ) (a : SideName) → Holding m.state (Drop top parent a ∷ rest) → WovenOn (dropped app m (next_removed m.state top) top (Drop top parent a) rest)
      → HoldingOn (dropped app m (next_removed m.state top) top (Drop top parent a) rest)
  drop_holds m rest top parent a h woven =
      let item : Item K = Drop top parent a in
      let l : ℕ = next_removed m.state top in
      let o : Outcome K = removed app m.state l in
      let own : Machine K = ended_by m (Some item) rest o in
      let below : Machine K = ended_by m (Some item) (item ∷ rest) o in
      by_test (nat_eq l top)
      (
      λ q.
      subst (λ (x : Machine K). HoldingOn x) (sym (pick_true own below q))
      (gone_holds m item rest l o refl (later_holding m.state item rest (λ t. refl) h) (subst (λ (x : Machine K). WovenOn x) (pick_true own below q) woven))
      )
      (
      λ q.
      subst (λ (x : Machine K). HoldingOn x) (sym (pick_false own below q))
      (gone_holds m item (item ∷ rest) l o refl h (subst (λ (x : Machine K). WovenOn x) (pick_false own below q) woven))
      )
