-- What is owed to no scope is current.
use Rattle.std.proofs.Common.{ℕ, Bool, true, false, not, ◌&&◌, ◌||◌, List, [], ◌∷◌, ◌≡◌, ◌⊎◌, inl, inr, refl, sym, ap, ◌∙◌, subst, nat_eq}
use Rattle.std.proofs.lemmas.Bool.{eqb-true}
use Rattle.std.specs.Prelude.{Option, Some, None, is_some, if◌then◌else◌}
use Rattle.std.specs.List.{AllByRecursion, list_any}
use Rattle.rt_lemmas.proofs.Bools.{neither}
use Rattle.rt_lemmas.proofs.Options.{not_some as none_of, not_some as alive_of}
use Rattle.rt_model.specs.Lists.{at, has, drop_number, join}
use Rattle.rt_model.specs.Tree.{Types, VComponent, Own, Root, Fragment, ErrorBoundary, SuspenseBoundary, is_suspense_boundary, Element}
use Rattle.rt_model.specs.World.{Meaning, Application}
use Rattle.rt_model.specs.Laws.{IsLawful}
use Rattle.rt_model.specs.State.{SideName, FallbackSide, RowStep, Posted, Mark, Woken, Scope, LastCall, State, Item, Draw, Row, Feed, Make, Drop, is_live, is_side, is_held}
use Rattle.rt_model.specs.Commands.{same_posted}
use Rattle.rt_model.specs.Next.{Work, RerunScope, PollTask, is_before, scope_of_task, look_on, look, least, first_task, first_seen, chosen, found, paused, drop_then, drops, looked, or_effects, next_at_rest, next, owes}
use Rattle.rt_model.specs.Boundary.{tree_or_placeholder}
use Rattle.rt_model.specs.Replay.{Machine, waiting, fed_child, no_listener, no_work, is_quiet}
use Rattle.rt_model.specs.Told.{is_settled}
use Rattle.rt_model.specs.Current.{Repeats, KeepsAnswer, again, world_again, BodyIsCurrent, FallbackIsCurrent, ShownSideIsCurrent, BoundaryIsCurrent, CurrentAs, IsCurrent, AllCurrent}
use Rattle.rt_model.specs.Headline.{HeldIsShown, AllHeldShown}
use Rattle.rt_model.specs.Sentences.{is_marked, is_open, CurrentOrOwed}
use Rattle.rt_model.proofs.Maps.{by_test, eq_same, at_here, at_there, none_some}
use Rattle.rt_model.proofs.Conjunctions.{and-left, and-right}
use Rattle.rt_model.proofs.Members.{clash, or_left, or_right}
use Rattle.law_moves.specs.Heeds.{HasMark, Marked}
use Rattle.law_moves.specs.Settled.{OthersAreCurrentOrOwed, AllAreCurrentOrOwed, SettledAreCurrent, SettledShowHeld}
use Rattle.law_moves.proofs.Calm.{Pending, there_of, leavings_by, holders_of, Unique, Quiet}
use Rattle.law_moves.proofs.Again.{means_again}
use Rattle.law_moves.proofs.Looks.{look_quiet, drops_quiet}
use Rattle.law_moves.proofs.RunStages.{Stage, Making, Asking, FirstCalls, FirstTurns, OpensFirst, Waits, CallsAgain, PatchesHidden, Frees, TurnsBack, Rests, Patches, Covers, Hides, Clears, Resolves, shows_at, steps_at, unread_at}
use Rattle.law_moves.proofs.Owed.{rows_of, Called, BodyCurrent, FallbackCurrent, StageHolds, OwesAs, Owes}
use Rattle.law_moves.proofs.Moved.{reached_holds}
use Rattle.law_moves.proofs.Moving.{Holding}

posted_mark : (ps : List Posted) (s : ℕ) → HasMark ps s → list_any (λ p. same_posted p (Mark s)) ps ≡ true
posted_mark [] s h = absurd h
posted_mark (p ∷ ps) s (inl h) = or_left (same_posted p (Mark s)) (list_any (λ q. same_posted q (Mark s)) ps) (ap (λ (q : Posted). same_posted q (Mark s)) h ∙ eq_same s)
posted_mark (p ∷ ps) s (inr h) = or_right (same_posted p (Mark s)) (list_any (λ q. same_posted q (Mark s)) ps) (posted_mark ps s h)

pub no_least : (earlier : ℕ → ℕ → Bool) (xs : List ℕ) → least earlier xs ≡ None → xs ≡ []
no_least earlier [] h = refl
no_least earlier (x ∷ xs) h = cc

some_work : (b : Bool) (s t : ℕ) → (if b then Some (RerunScope s) else Some (PollTask t)) ≡ None → ⊥
some_work true s t h = cc
some_work false s t h = cc

module _ {K : Types} where
  pub marked_is : (w : State K) (s : ℕ) → Marked w s → is_marked w s ≡ true
  marked_is w s (inr h) = or_left (has w.seen s) (list_any (λ p. same_posted p (Mark s)) w.posted) h
  marked_is w s (inl h) = or_right (has w.seen s) (list_any (λ p. same_posted p (Mark s)) w.posted) (posted_mark w.posted s h)

  -- looks leave nothing posted

  posted_if : (b : Bool) (x y w : State K) → x.posted ≡ w.posted → y.posted ≡ w.posted → (if b then x else y).posted ≡ w.posted
  posted_if true x y w f g = f
  posted_if false x y w f g = g

  look_posted : (ps : List Posted) (w : State K) → (look_on ps w).posted ≡ w.posted
  look_posted [] w = refl
  look_posted (Mark s ∷ ps) w =
      look_posted ps (if is_live w s then record w { seen = join w.seen s } else w) ∙ posted_if (is_live w s) (record w { seen = join w.seen s }) w w refl refl
  look_posted (Woken t ∷ ps) w =
      look_posted ps (if is_some (at w.tasks t) then record w { queued = join w.queued t } else w) ∙ posted_if (is_some (at w.tasks t)) (record w { queued = join w.queued t }) w w refl refl

  drop_posted_by : (go : State K → State K) (w : State K) (o : Option ℕ) → ((v : State K) → (go v).posted ≡ v.posted) → (drop_then go w o).posted ≡ w.posted
  drop_posted_by go w None h = refl
  drop_posted_by go w (Some t) h = h (record w { queued = drop_number w.queued t })

  drops_posted : (qs : List ℕ) (w : State K) → (drops qs w).posted ≡ w.posted
  drops_posted [] w = refl
  drops_posted (q ∷ qs) w = drop_posted_by (λ v. drops qs v) w (paused w (found w)) (λ v. drops_posted qs v)

  -- where nothing comes up, nothing is seen

  nothing_up : (w : State K) (o : Option Work) → or_effects w o ≡ None → o ≡ None
  nothing_up w None h = refl
  nothing_up w (Some x) h = cc

  none_chosen : (w : State K) (t s : Option ℕ) → chosen w t s ≡ None → s ≡ None
  none_chosen w None None h = refl
  none_chosen w (Some t) None h = refl
  none_chosen w None (Some s) h = cc
  none_chosen w (Some t) (Some s) h = absurd (some_work (is_before w.scopes s (scope_of_task w t)) s t h)

  none_seen : (w : State K) → next_at_rest w ≡ None → w.seen ≡ []
  none_seen w h = no_least (λ s t. is_before w.scopes s t) w.seen (none_chosen w (first_task w) (first_seen w) (nothing_up w (found w) h))

  quiet_mark : (w v : State K) (s : ℕ) (x : Scope K) → Quiet w v → at w.scopes s ≡ Some x → Marked w s → (y : Scope K) × (at v.scopes s ≡ Some y) × Marked v s
  quiet_mark w v s x f live m =
      let y = there_of (at v.scopes s) (at w.scopes s) x (leavings_by (at v.scopes s) (at w.scopes s) (f.stand s)) live in
      (y.0, y.1, f.marks s x live m)

  unmarked_at : (w : State K) (s : ℕ) → w.posted ≡ [] → w.seen ≡ [] → Marked w s → ⊥
  unmarked_at w s p q (inl h) = subst (λ (ps : List Posted). HasMark ps s) p h
  unmarked_at w s p q (inr h) = clash (sym (ap (λ (xs : List ℕ). has xs s) q) ∙ h) refl

  by_look : (v : State K) (s : ℕ) (x : Scope K) (o : Option Work) → found v ≡ o → next_at_rest (looked v o) ≡ None → at v.scopes s ≡ Some x → Marked v s → ⊥
  by_look v s x (Some work) up none live m =
      let there : Some work ≡ None = sym (ap (λ (o : Option Work). or_effects v o) up) ∙ none in
      cc
  by_look v s x None up none live m =
      let u : State K = look v in
      let r : State K = drops u.queued u in
      let first = quiet_mark v u s x (look_quiet v) live m in
      let second = quiet_mark u r s first.0 (drops_quiet u.queued u) first.1 first.2 in
      let posted : r.posted ≡ [] = drops_posted u.queued u ∙ look_posted v.posted (record v { posted = [] }) in
      unmarked_at r s posted (none_seen r none) second.2

  -- where nothing is owed no live scope is marked
  nothing_owed : (w : State K) (s : ℕ) (x : Scope K) → next w ≡ None → at w.scopes s ≡ Some x → Marked w s → ⊥
  nothing_owed w s x none live m =
      let v : State K = drops w.queued w in
      let first = quiet_mark w v s x (drops_quiet w.queued w) live m in
      by_look v s first.0 (found v) refl none first.1 first.2

  -- what is found of each number is found of each entry
  pub each_entry : (Q : ℕ × Scope K → Type 0) (es : List (ℕ × Scope K)) → Unique es → ((s : ℕ) (x : Scope K) → at es s ≡ Some x → Q (s, x)) → AllByRecursion (λ (e : ℕ × Scope K). Q e) es
  each_entry Q [] unique h = tt
  each_entry Q (e ∷ es) unique h = (
    h e.0 e.1 (at_here e.0 e.1 es e.0 (eq_same e.0)),
    each_entry Q es unique.1
        (
        λ s x live.
        by_test (nat_eq e.0 s)
        (λ q. none_some unique.0 (ap (λ (k : ℕ). at es k) (eqb-true e.0 s q) ∙ live))
        (λ q. h s x (at_there e.0 e.1 es s q ∙ live))
        ),
  )

  -- what isn't on the open work has no step left
  pub closed_rows : (w : State K) (s : ℕ) (work : List (Item K)) → is_open w s work ≡ false → rows_of s work ≡ []
  closed_rows w s [] h = refl
  closed_rows w s (Draw t a p k ∷ work) h = closed_rows w s work h
  closed_rows w s (Make t a p c ∷ work) h = closed_rows w s work h
  closed_rows w s (Drop t u a ∷ work) h = closed_rows w s work (neither (nat_eq t s) (is_open w s work) h).1
  closed_rows w s (Row b step ∷ work) h =
      let apart = neither (nat_eq b s) (is_open w s work) h in
      ap (λ (i : Bool). if i then step ∷ rows_of s work else rows_of s work) apart.0 ∙ closed_rows w s work apart.1
  closed_rows w s (Feed t a p c ∷ work) h = closed_rows w s work (fed (fed_child w t a p) h)
    where
      fed : (o : Option ℕ) → elim o as (λ z. Bool) [ None ↦ is_open w s work | Some u ↦ nat_eq u s || is_open w s work ] ≡ false → is_open w s work ≡ false
      fed None g = g
      fed (Some u) g = (neither (nat_eq u s) (is_open w s work) g).1

module _ {K : Types} (app : Application K) (lawful : IsLawful K app) where
  -- a call that stands and whose reads are fresh gives the same again
  called_repeats : (w : State K) (x : Scope K) (last : LastCall K) → Called app w x last → Repeats x last (again app w x last)
  called_repeats w x last c =
      let same = means_again app lawful w x last c.caller c.stands c.fresh in
      let alike = c.alike (world_again w x last) in (
        c.stands.answer ∙ ap (λ (m : Meaning K (Element K)). m.answer) same ∙ alike.0,
        c.stands.reads ∙ ap (λ (m : Meaning K (Element K)). m.reads) same ∙ alike.1,
      )

  body_current : (w : State K) (s : ℕ) (x : Scope K) → BodyCurrent app w s x → BodyIsCurrent app w x (at w.last_calls s)
  body_current w s x h =
      let same = called_repeats w x h.0 h.2 in
      subst (λ (o : Option (LastCall K)). BodyIsCurrent app w x o) (sym h.1) (same, subst (λ (a : Element K). KeepsAnswer h.0 a x.main_side.output) same.0 h.3)

  fallback_current : (w : State K) (s : ℕ) (x : Scope K) → FallbackCurrent app w s x → FallbackIsCurrent app w x (at w.last_calls s)
  fallback_current w s x h =
      let same = called_repeats w x h.0 h.2 in
      subst (λ (o : Option (LastCall K)). FallbackIsCurrent app w x o) (sym h.1) (same, h.3 ∙ ap (λ (a : Element K). Some (tree_or_placeholder a)) same.0)

  stage_current : (w : State K) (s : ℕ) (x : Scope K) (g : Stage) → [] ≡ steps_at g → x.shows ≡ shows_at g → (unread_at g ≡ true → x.reads ≡ []) → StageHolds app w s x g → BoundaryIsCurrent app w x (at w.last_calls s)
  stage_current w s x Making steps shows unread d = cc
  stage_current w s x Asking steps shows unread d = cc
  stage_current w s x FirstCalls steps shows unread d = cc
  stage_current w s x FirstTurns steps shows unread d = cc
  stage_current w s x OpensFirst steps shows unread d = cc
  stage_current w s x Waits steps shows unread d =
      let held : is_held x ≡ true = d.held true refl in (
        d.patched refl,
        ap (λ (o : Option SideName). is_side o FallbackSide) shows ∙ sym held,
        subst (λ (h : Bool). ShownSideIsCurrent app w x (at w.last_calls s) h) (sym held) (fallback_current w s x (d.called refl)),
      )
  stage_current w s x CallsAgain steps shows unread d = cc
  stage_current w s x PatchesHidden steps shows unread d = cc
  stage_current w s x Frees steps shows unread d = cc
  stage_current w s x TurnsBack steps shows unread d = cc
  stage_current w s x Rests steps shows unread d =
      let held : is_held x ≡ false = d.held false refl in (
        d.patched refl,
        ap (λ (o : Option SideName). is_side o FallbackSide) shows ∙ sym held,
        subst (λ (h : Bool). ShownSideIsCurrent app w x (at w.last_calls s) h) (sym held) (unread refl),
      )
  stage_current w s x Patches steps shows unread d = cc
  stage_current w s x Covers steps shows unread d = cc
  stage_current w s x Hides steps shows unread d = cc
  stage_current w s x Clears steps shows unread d = cc
  stage_current w s x Resolves steps shows unread d = cc

  -- a scope without a step left is current, or a run of it is pending
  current_as : (w : State K) (rows : List RowStep) (s : ℕ) (x : Scope K) (c : VComponent K) → rows ≡ [] → OwesAs app (is_suspense_boundary c) w rows s x → CurrentAs app w x (at w.last_calls s) c ⊎ Pending w s
  current_as w rows s x (SuspenseBoundary children fallback) none h =
      elim h.owed [ inl d ↦ inl (stage_current w s x h.stage (sym none ∙ h.steps) h.shows h.unread d) | inr m ↦ inr m ]
  current_as w rows s x (Own component props) none h = elim h.owed [ inl d ↦ inl (body_current w s x d) | inr m ↦ inr m ]
  current_as w rows s x (Root component props) none h = elim h.owed [ inl d ↦ inl (body_current w s x d) | inr m ↦ inr m ]
  current_as w rows s x (Fragment children) none h = elim h.owed [ inl d ↦ inl (body_current w s x d) | inr m ↦ inr m ]
  current_as w rows s x (ErrorBoundary children handler) none h = elim h.owed [ inl d ↦ inl (body_current w s x d) | inr m ↦ inr m ]

  pub current_or_owed : (w : State K) (work : List (Item K)) → Owes app w work → (s : ℕ) (x : Scope K) → at w.scopes s ≡ Some x → rows_of s work ≡ [] → CurrentOrOwed app w s x
  current_or_owed w work h s x live none =
      elim (current_as w (rows_of s work) s x x.component none (h s x live)) [ inl c ↦ inl c | inr m ↦ inr (elim m [ inl k ↦ inl (marked_is w s k) | inr q ↦ inr q ]) ]

  held_shown : (w : State K) (x : Scope K) (last : Option (LastCall K)) (c : VComponent K) → CurrentAs app w x last c → is_suspense_boundary c ≡ true → is_side x.shows FallbackSide ≡ is_held x
  held_shown w x last (SuspenseBoundary children fallback) h true_is = h.1
  held_shown w x last (Own component props) h true_is = let absurdity : false ≡ true = true_is in cc
  held_shown w x last (Root component props) h true_is = let absurdity : false ≡ true = true_is in cc
  held_shown w x last (Fragment children) h true_is = let absurdity : false ≡ true = true_is in cc
  held_shown w x last (ErrorBoundary children handler) h true_is = let absurdity : false ≡ true = true_is in cc

  -- nothing is at work, nothing is owed
  pub settled_dead : (m : Machine K) → is_settled m ≡ true → m.dead ≡ None
  settled_dead m h =
      let quiet : is_quiet m ≡ true = and-left (is_quiet m) (not (owes m.state)) h in
      alive_of m.dead (and-left (not (is_some m.dead)) (no_work m.work) (and-left (not (is_some m.dead) && no_work m.work) (no_listener (waiting m)) quiet))

  idle_of : (work : List (Item K)) → no_work work ≡ true → work ≡ []
  idle_of [] h = refl
  idle_of (i ∷ rest) h = cc

  settled_idle : (m : Machine K) → is_settled m ≡ true → m.work ≡ []
  settled_idle m h =
      let quiet : is_quiet m ≡ true = and-left (is_quiet m) (not (owes m.state)) h in
      idle_of m.work (and-right (not (is_some m.dead)) (no_work m.work) (and-left (not (is_some m.dead) && no_work m.work) (no_listener (waiting m)) quiet))

  settled_next : (m : Machine K) → is_settled m ≡ true → next m.state ≡ None
  settled_next m h = none_of (next m.state) (and-right (is_quiet m) (not (owes m.state)) h)

  -- a settled state: each scope is current
  settled_each : (m : Machine K) → is_settled m ≡ true → Holding app lawful ⊥ m.state m.work → (s : ℕ) (x : Scope K) → at m.state.scopes s ≡ Some x → IsCurrent app m.state s x
  settled_each m settled h s x live =
      let w : State K = m.state in
      elim (current_as w (rows_of s m.work) s x x.component (ap (λ (work : List (Item K)). rows_of s work) (settled_idle m settled)) (h.owes s x live)) [
        | inl c ↦ c
        | inr k ↦ elim k [ inl mark ↦ absurd (nothing_owed w s x (settled_next m settled) live mark) | inr q ↦ absurd (h.scheduled.passed s q) ]
      ]

  held_each : (m : Machine K) → is_settled m ≡ true → Holding app lawful ⊥ m.state m.work → (s : ℕ) (x : Scope K) → at m.state.scopes s ≡ Some x → HeldIsShown m.state x
  held_each m settled h s x live = (
    λ true_is. held_shown m.state x (at m.state.last_calls s) x.component (settled_each m settled h s x live) true_is,
    subst (λ (o : Option (Scope K)). AllByRecursion (λ (d : ℕ × ℕ). is_some (at m.state.tasks d.0) ≡ true) (holders_of o)) live (h.orderly.holders s),
  )

  -- so all are
  pub holding_current : (m : Machine K) → is_settled m ≡ true → Holding app lawful ⊥ m.state m.work → AllCurrent app m.state
  holding_current m settled h =
      each_entry (λ (e : ℕ × Scope K). IsCurrent app m.state e.0 e.1) m.state.scopes h.orderly.unique (λ s x live. settled_each m settled h s x live)

  pub holding_shown : (m : Machine K) → is_settled m ≡ true → Holding app lawful ⊥ m.state m.work → AllHeldShown m.state
  holding_shown m settled h =
      each_entry (λ (e : ℕ × Scope K). HeldIsShown m.state e.1) m.state.scopes h.orderly.unique (λ s x live. held_each m settled h s x live)

pub settled_are_current : {K : Types} (app : Application K) → SettledAreCurrent app
settled_are_current app lawful limits props inputs m reached none built settled =
    holding_current app lawful m settled (reached_holds app lawful ⊥ limits props inputs m reached (inl none) built (settled_dead app lawful m settled))

pub settled_show_held : {K : Types} (app : Application K) → SettledShowHeld app
settled_show_held app lawful limits props inputs m reached none built settled =
    holding_shown app lawful m settled (reached_holds app lawful ⊥ limits props inputs m reached (inl none) built (settled_dead app lawful m settled))

pub others_are_current_or_owed : {K : Types} (app : Application K) → OthersAreCurrentOrOwed app
others_are_current_or_owed {K = K} app lawful limits props inputs m reached built alive =
    let h : Holding app lawful (Unit {0}) m.state m.work = reached_holds app lawful (Unit {0}) limits props inputs m reached (inr tt) built alive in
    each_entry (λ (e : ℕ × Scope K). is_open m.state e.0 m.work ≡ false → CurrentOrOwed app m.state e.0 e.1) m.state.scopes h.orderly.unique
    (λ s x live closed. current_or_owed app lawful m.state m.work h.owes s x live (closed_rows m.state s m.work closed))

pub all_are_current_or_owed : {K : Types} (app : Application K) → AllAreCurrentOrOwed app
all_are_current_or_owed {K = K} app lawful limits props inputs m reached built alive idle =
    let h : Holding app lawful (Unit {0}) m.state m.work = reached_holds app lawful (Unit {0}) limits props inputs m reached (inr tt) built alive in
    each_entry (λ (e : ℕ × Scope K). CurrentOrOwed app m.state e.0 e.1) m.state.scopes h.orderly.unique
    (λ s x live. current_or_owed app lawful m.state m.work h.owes s x live (ap (λ (work : List (Item K)). rows_of s work) idle))
