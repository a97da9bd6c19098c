-- Along an accepted log numbers are new, what is gone stays gone, and heights rise by one.
use Rattle.std.proofs.Common.{ℕ, zero, suc, Bool, true, false, List, [], ◌∷◌, ◌≡◌, ◌≤◌, ◌<◌, ◌+◌, refl, sym, ap, ◌∙◌, arith, subst, nat_eq}
use Rattle.std.specs.Prelude.{Option, Some, None, if◌then◌else◌, is_some}
use Rattle.std.specs.List.{AllByRecursion}
use Rattle.std.proofs.lemmas.Bool.{eqb-true}
use Rattle.rt_lemmas.proofs.Bools.{never as absurd_bool}
use Rattle.rt_model.specs.Lists.{at}
use Rattle.rt_model.specs.Tree.{Types, VComponent, Place, Root}
use Rattle.rt_model.specs.World.{Scopes, at_end, Application}
use Rattle.rt_model.specs.Laws.{IsLawful}
use Rattle.rt_model.specs.State.{SideName, MainSide, Fault, IdsExhausted, Scope, TaskRow, State, Item, Draw, Row, Feed, Make, Drop, Outcome, Done, Cut, new_scope, is_live}
use Rattle.rt_model.specs.Next.{Work, RerunScope, PollTask, RunEffects, at_rest, next_at_rest}
use Rattle.rt_model.specs.Run.{run}
use Rattle.rt_model.specs.Removal.{removed}
use Rattle.rt_model.specs.Heard.{Listener}
use Rattle.rt_model.specs.Replay.{Entry, Build, Taken, Heard, Rerun, Poll, Effects, Made, Fed, Kept, Removed, Input, Machine, ended_by, draws, rows_left, closed_at, closed, waiting, names_live, if_live, with_new_scope, fed_child, row_next, served, settled, keeps, due_feed, due_work, due_heard, due_item, due_any, due, made_in, change_by, step, is_due, replay_on, start}
use Rattle.rt_model.specs.Lasting.{Rises, Names, Polls, MadeFrom, IsRooted, Lasts}
use Rattle.rt_model.proofs.Maps.{by_test, none_some, at_here, at_there}
use Rattle.rt_model.proofs.Frames.{shape}
use Rattle.rt_model.proofs.TourCalls.{state_of}
use Rattle.rt_model.proofs.RunFrames.{rises_refl, rises_trans, run_later}
use Rattle.rt_model.proofs.StepFrames.{none_by_shape, Follows, IsGone, removed_gone}
use Rattle.rt_model.proofs.MachineFrames.{by_order, parent_or, settled_later, step_follows}
use Rattle.rt_model.proofs.OneLogOnly.{same_entry-true, fork}

pub inj_entry : {d e : Entry} → Some d ≡ Some e → d ≡ e
inj_entry h = cc

weaker : (n k : ℕ) (log : List Entry) → n ≤ k → MadeFrom k log → MadeFrom n log
weaker n k [] l h = tt
weaker n k (Made s ∷ log) l h = let more : n ≤ s = omega (arith, l, h.0) in (more, h.1)
weaker n k (Build ∷ log) l h = weaker n k log l h
weaker n k (Taken i ∷ log) l h = weaker n k log l h
weaker n k (Heard s ∷ log) l h = weaker n k log l h
weaker n k (Rerun s ∷ log) l h = weaker n k log l h
weaker n k (Poll t ∷ log) l h = weaker n k log l h
weaker n k (Effects s ∷ log) l h = weaker n k log l h
weaker n k (Fed s ∷ log) l h = weaker n k log l h
weaker n k (Kept s ∷ log) l h = weaker n k log l h
weaker n k (Removed s ∷ log) l h = weaker n k log l h

pub inj_machine : {K : Types} {m u : Machine K} → Some m ≡ Some u → m ≡ u
inj_machine h = cc

module _ {K : Types} where
  live_at : (w : State K) (d e : Entry) (b : Bool) → names_live w d ≡ b → (if b then Some d else None) ≡ Some e → (Some d ≡ Some e) × (names_live w e ≡ true)
  live_at w d e true q h = (h, ap (λ (x : Entry). names_live w x) (sym (inj_entry h)) ∙ q)
  live_at w d e false q h = cc

  pub live_of : (w : State K) (o : Option Entry) (e : Entry) → if_live w o ≡ Some e → (o ≡ Some e) × (names_live w e ≡ true)
  live_of w None e h = cc
  live_of w (Some d) e h = live_at w d e (names_live w d) refl h

  -- a scope that isn't there is not live
  dead_scope : {P : Type 0} (w : State K) (x s : ℕ) → x ≡ s → at w.scopes s ≡ None → is_live w x ≡ true → P
  dead_scope w x s e n l =
      let none : is_live w x ≡ false = ap (λ (i : ℕ). is_some (at w.scopes i)) e ∙ ap (λ (o : Option (Scope K)). is_some o) n in
      absurd_bool (sym none ∙ l)

  not_named : (w : State K) (e : Entry) (s : ℕ) → names_live w e ≡ true → ((t : ℕ) → e ≡ Made t → t ≡ w.next_scope) → s < w.next_scope → at w.scopes s ≡ None → Names e s → ⊥
  not_named w (Heard x) s l m b n h = dead_scope w x s h n l
  not_named w (Rerun x) s l m b n h = dead_scope w x s h n l
  not_named w (Effects x) s l m b n h = dead_scope w x s h n l
  not_named w (Fed x) s l m b n h = dead_scope w x s h n l
  not_named w (Kept x) s l m b n h = dead_scope w x s h n l
  not_named w (Removed x) s l m b n h = dead_scope w x s h n l
  not_named w (Made x) s l m b n h = let new : x ≡ w.next_scope = m x refl in absurd (omega (arith, new, h, b))
  not_named w Build s l m b n h = h
  not_named w (Taken k) s l m b n h = h
  not_named w (Poll t) s l m b n h = h

  not_polled : (w : State K) (e : Entry) (t : ℕ) → names_live w e ≡ true → at w.tasks t ≡ None → Polls e t → ⊥
  not_polled w (Poll u) t l n h =
      let none : is_some (at w.tasks u) ≡ false = ap (λ (i : ℕ). is_some (at w.tasks i)) h ∙ ap (λ (o : Option (TaskRow K)). is_some o) n in
      absurd_bool (sym none ∙ l)
  not_polled w Build t l n h = h
  not_polled w (Taken k) t l n h = h
  not_polled w (Heard s) t l n h = h
  not_polled w (Rerun s) t l n h = h
  not_polled w (Effects s) t l n h = h
  not_polled w (Made s) t l n h = h
  not_polled w (Fed s) t l n h = h
  not_polled w (Kept s) t l n h = h
  not_polled w (Removed s) t l n h = h

  live_low : (w : State K) (s : ℕ) (o : Option (Scope K)) → at w.scopes s ≡ o → IsRooted w → is_some o ≡ true → s < w.next_scope
  live_low w s None e r l = absurd_bool l
  live_low w s (Some x) e r l = by_order s w.next_scope (λ q. q) (λ q. none_some (r.drawn s q) e)

  -- a live scope has a number below the next one
  live_below : (w : State K) (s : ℕ) → IsRooted w → is_live w s ≡ true → s < w.next_scope
  live_below w s r l = live_low w s (at w.scopes s) refl r l

  -- what the first item of the work is where a make or a removal is due
  abbrev IsMake : State K → List (Item K) → ℕ → Type 0
  IsMake w (Make s side p c ∷ rest) t = (is_live w s ≡ true) × (t ≡ w.next_scope)
  IsMake w [] t = ⊥
  IsMake w (Draw s side p k ∷ rest) t = ⊥
  IsMake w (Row b step ∷ rest) t = ⊥
  IsMake w (Feed s side p c ∷ rest) t = ⊥
  IsMake w (Drop x s side ∷ rest) t = ⊥

  abbrev IsDrop : List (Item K) → Type 0
  IsDrop (Drop x s side ∷ rest) = Unit {0}
  IsDrop [] = ⊥
  IsDrop (Draw s side p k ∷ rest) = ⊥
  IsDrop (Row b step ∷ rest) = ⊥
  IsDrop (Feed s side p c ∷ rest) = ⊥
  IsDrop (Make s side p c ∷ rest) = ⊥

  make_at : (w : State K) (n t : ℕ) (b : Bool) → (if b then Some (Made n) else None) ≡ Some (Made t) → (b ≡ true) × (t ≡ n)
  make_at w n t true h = (refl, cc)
  make_at w n t false h = cc

  make_new : (w : State K) (work : List (Item K)) (t : ℕ) → IsMake w work t → t ≡ w.next_scope
  make_new w (Make s side p c ∷ rest) t h = h.1
  make_new w [] t h = absurd h
  make_new w (Draw s side p k ∷ rest) t h = absurd h
  make_new w (Row b step ∷ rest) t h = absurd h
  make_new w (Feed s side p c ∷ rest) t h = absurd h
  make_new w (Drop x s side ∷ rest) t h = absurd h

  ended_gone : (m : Machine K) (r : Option (Item K)) (rest : List (Item K)) (o : Outcome K) (t : ℕ) → IsGone t o → (ended_by m r rest o).dead ≡ None → at (ended_by m r rest o).state.scopes t ≡ None
  ended_gone m r rest (Done w work) t g d = g
  ended_gone m r rest (Cut w fault) t g d = cc

  ended_scope : (m : Machine K) (r : Option (Item K)) (rest : List (Item K)) (o : Outcome K) (n : ℕ) → n ≤ (state_of o).next_scope → n ≤ (ended_by m r rest o).state.next_scope
  ended_scope m r rest (Done w work) n h = h
  ended_scope m r rest (Cut w fault) n h = h

module _ {K : Types} (app : Application K) where
  pub due_is : (o : Option Entry) (e : Entry) → is_due app o e ≡ true → o ≡ Some e
  due_is None e h = cc
  due_is (Some d) e h = ap Some (same_entry-true d e h)

  no_make_work : (m : Machine K) (o : Option Work) (is : List (Input K)) (t : ℕ) → due_work app m o is ≡ Some (Made t) → ⊥
  no_make_work m (Some (RerunScope s)) is t h = cc
  no_make_work m (Some (PollTask u)) is t h = cc
  no_make_work m (Some (RunEffects s)) is t h = cc
  no_make_work m None [] t h = cc
  no_make_work m None (i ∷ is) t h = cc

  no_make_heard : (m : Machine K) (ls : List (Listener K)) (t : ℕ) → due_heard app m ls ≡ Some (Made t) → ⊥
  no_make_heard m [] t h = no_make_work m (next_at_rest (at_rest m.state)) m.inputs t h
  no_make_heard m (l ∷ ls) t h = cc

  no_make_feed : (t x : ℕ) (b : Bool) → Some (if b then Kept x else Fed x) ≡ Some (Made t) → ⊥
  no_make_feed t x true h = cc
  no_make_feed t x false h = cc

  no_make_fed : (w : State K) (c : VComponent K) (o : Option ℕ) (t : ℕ) → due_feed app w c o ≡ Some (Made t) → ⊥
  no_make_fed w c None t h = cc
  no_make_fed w c (Some x) t h = no_make_feed t x (keeps app w x c) h

  item_made : (m : Machine K) (work : List (Item K)) (t : ℕ) → due_item app m work ≡ Some (Made t) → IsMake m.state work t
  item_made m [] t h = no_make_heard m (waiting m) t h
  item_made m (Draw s side p k ∷ rest) t h = cc
  item_made m (Row b step ∷ rest) t h = cc
  item_made m (Make s side p c ∷ rest) t h = make_at m.state m.state.next_scope t (is_live m.state s) h
  item_made m (Feed s side p c ∷ rest) t h = no_make_fed m.state c (fed_child m.state s side p) t h
  item_made m (Drop x s side ∷ rest) t h = cc

  built_made : (m : Machine K) (b : Bool) (t : ℕ) → (if b then due_item app m m.work else Some Build) ≡ Some (Made t) → IsMake m.state m.work t
  built_made m true t h = item_made m m.work t h
  built_made m false t h = cc

  any_made : (m : Machine K) (d : Option Fault) (t : ℕ) → (elim d as (λ z. Option Entry) [ None ↦ (if m.built then due_item app m m.work else Some Build) | Some fault ↦ None ]) ≡ Some (Made t) → IsMake m.state m.work t
  any_made m None t h = built_made m m.built t h
  any_made m (Some fault) t h = cc

  no_drop_work : (m : Machine K) (o : Option Work) (is : List (Input K)) (t : ℕ) → due_work app m o is ≡ Some (Removed t) → ⊥
  no_drop_work m (Some (RerunScope s)) is t h = cc
  no_drop_work m (Some (PollTask u)) is t h = cc
  no_drop_work m (Some (RunEffects s)) is t h = cc
  no_drop_work m None [] t h = cc
  no_drop_work m None (i ∷ is) t h = cc

  no_drop_heard : (m : Machine K) (ls : List (Listener K)) (t : ℕ) → due_heard app m ls ≡ Some (Removed t) → ⊥
  no_drop_heard m [] t h = no_drop_work m (next_at_rest (at_rest m.state)) m.inputs t h
  no_drop_heard m (l ∷ ls) t h = cc

  no_drop_feed : (t x : ℕ) (b : Bool) → Some (if b then Kept x else Fed x) ≡ Some (Removed t) → ⊥
  no_drop_feed t x true h = cc
  no_drop_feed t x false h = cc

  no_drop_fed : (w : State K) (c : VComponent K) (o : Option ℕ) (t : ℕ) → due_feed app w c o ≡ Some (Removed t) → ⊥
  no_drop_fed w c None t h = cc
  no_drop_fed w c (Some x) t h = no_drop_feed t x (keeps app w x c) h

  no_drop_make : (n t : ℕ) (b : Bool) → (if b then Some (Made n) else None) ≡ Some (Removed t) → ⊥
  no_drop_make n t true h = cc
  no_drop_make n t false h = cc

  item_dropped : (m : Machine K) (work : List (Item K)) (t : ℕ) → due_item app m work ≡ Some (Removed t) → IsDrop work
  item_dropped m [] t h = no_drop_heard m (waiting m) t h
  item_dropped m (Draw s side p k ∷ rest) t h = cc
  item_dropped m (Row b step ∷ rest) t h = cc
  item_dropped m (Make s side p c ∷ rest) t h = no_drop_make m.state.next_scope t (is_live m.state s) h
  item_dropped m (Feed s side p c ∷ rest) t h = no_drop_fed m.state c (fed_child m.state s side p) t h
  item_dropped m (Drop x s side ∷ rest) t h = tt

  built_dropped : (m : Machine K) (b : Bool) (t : ℕ) → (if b then due_item app m m.work else Some Build) ≡ Some (Removed t) → IsDrop m.work
  built_dropped m true t h = item_dropped m m.work t h
  built_dropped m false t h = cc

  any_dropped : (m : Machine K) (d : Option Fault) (t : ℕ) → (elim d as (λ z. Option Entry) [ None ↦ (if m.built then due_item app m m.work else Some Build) | Some fault ↦ None ]) ≡ Some (Removed t) → IsDrop m.work
  any_dropped m None t h = built_dropped m m.built t h
  any_dropped m (Some fault) t h = cc

  any_alive : (m : Machine K) (d : Option Fault) (e : Entry) → (elim d as (λ z. Option Entry) [ None ↦ (if m.built then due_item app m m.work else Some Build) | Some fault ↦ None ]) ≡ Some e → d ≡ None
  any_alive m None e h = refl
  any_alive m (Some fault) e h = cc

  -- what a due entry says
  pub record Due (m : Machine K) (e : Entry) : Type 0 where
    pub alive : m.dead ≡ None
    pub live : names_live m.state e ≡ true
    pub made : (t : ℕ) → e ≡ Made t → IsMake m.state m.work t
    pub dropped : (t : ℕ) → e ≡ Removed t → IsDrop m.work

  due_says : (m : Machine K) (e : Entry) → is_due app (due app m) e ≡ true → Due m e
  due_says m e h =
      let d = live_of m.state (due_any app m) e (due_is (due app m) e h) in
      record {
        alive = any_alive m m.dead e d.0;
        live = d.1;
        made = λ t q. any_made m m.dead t (d.0 ∙ ap Some q);
        dropped = λ t q. any_dropped m m.dead t (d.0 ∙ ap Some q);
      }

  -- a replay that ended by a fault accepts nothing
  accepted_alive : (m u : Machine K) (e : Entry) (log : List Entry) → replay_on app (Some m) (e ∷ log) ≡ Some u → m.dead ≡ None
  accepted_alive m u e log h = (due_says m e (fork app (is_due app (due app m) e) (step app m e) log u h).0).alive

  dead_served : (n : ℕ) (m : Machine K) (f : Fault) → m.dead ≡ Some f → served app n m ≡ m
  dead_served zero m f h = ap (λ (o : Option Fault). elim o as (λ z. Machine K) [ None ↦ draws m.work m | Some fault ↦ m ]) h
  dead_served (suc n) m f h = ap (λ (o : Option Fault). elim o as (λ z. Machine K) [ None ↦ row_next app (λ u. served app n u) (draws m.work m) | Some fault ↦ m ]) h

  dead_closed : (m : Machine K) (f : Fault) → m.dead ≡ Some f → closed m ≡ m
  dead_closed m f h = ap (λ (o : Option Fault). elim o as (λ z. Machine K) [ None ↦ closed_at m m.work m.unit | Some fault ↦ m ]) h

  dead_settled : (m : Machine K) (f : Fault) → m.dead ≡ Some f → settled app m ≡ m
  dead_settled m f h = ap (λ (v : Machine K). closed v) (dead_served (rows_left m.work) m f h) ∙ dead_closed m f h

  alive_at : (m : Machine K) (o : Option Fault) → m.dead ≡ o → (settled app m).dead ≡ None → m.dead ≡ None
  alive_at m None q h = q
  alive_at m (Some f) q h = sym (ap (λ (v : Machine K). v.dead) (dead_settled m f q)) ∙ h

  settled_alive : (m : Machine K) → (settled app m).dead ≡ None → m.dead ≡ None
  settled_alive m h = alive_at m m.dead refl h

module _ {K : Types} (app : Application K) where
  pub only_root : (props : K.Props) (inputs : List (Input K)) (s : ℕ) (x : Scope K) → at (start app props inputs).state.scopes s ≡ Some x → (s ≡ 0) × (Some (new_scope (Root app.root props) None 0 MainSide) ≡ Some x)
  only_root props inputs s x e =
      by_test (nat_eq 0 s)
      (λ q. (sym (eqb-true 0 s q), sym (at_here 0 (new_scope (Root app.root props) None 0 MainSide) [] s q) ∙ e))
      (λ q. none_some (at_there 0 (new_scope (Root app.root props) None 0 MainSide) [] s q) e)

  pub start_rooted : (props : K.Props) (inputs : List (Input K)) → IsRooted (start app props inputs).state
  start_rooted props inputs =
      record {
        drawn = λ s l. let other : nat_eq 0 s ≡ false = grind (arith, l) in at_there 0 (new_scope (Root app.root props) None 0 MainSide) [] s other;
        parents = λ s p x e q. no_parent (only_root props inputs s x e).1 q;
        heights = λ s p x y e q f. no_parent (only_root props inputs s x e).1 q;
      }
    where
      no_parent : {P : Type 0} {x : Scope K} {p : ℕ} → Some (new_scope (Root app.root props) None 0 MainSide) ≡ Some x → x.parent ≡ Some p → P
      no_parent e q = none_some (sym (ap (λ (o : Option (Scope K)). parent_or o) e)) q

module _ {K : Types} (app : Application K) (lawful : IsLawful K app) where
  -- a make that isn't cut raises the next number
  made_raises_at : (m : Machine K) (r : Option (Item K)) (rest : List (Item K)) (s : ℕ) (side : SideName) (p : Place) (c : VComponent K) (x : Scope K) (end : Bool)
      → (ended_by m r rest (if end then Cut m.state (IdsExhausted Scopes) else run app (with_new_scope m.state s side p c x) m.state.next_scope)).dead ≡ None
      → m.state.next_scope + 1 ≤ (ended_by m r rest (if end then Cut m.state (IdsExhausted Scopes) else run app (with_new_scope m.state s side p c x) m.state.next_scope)).state.next_scope
  made_raises_at m r rest s side p c x true d = cc
  made_raises_at m r rest s side p c x false d =
      let v : State K = with_new_scope m.state s side p c x in
      let same : (state_of (run app v m.state.next_scope)).next_scope ≡ m.state.next_scope + 1 = (run_later app lawful v m.state.next_scope).next_scope in
      let least : m.state.next_scope + 1 ≤ (state_of (run app v m.state.next_scope)).next_scope = omega (arith, same) in
      ended_scope m r rest (run app v m.state.next_scope) (m.state.next_scope + 1) least

  made_raises_in : (m : Machine K) (r : Option (Item K)) (rest : List (Item K)) (s : ℕ) (side : SideName) (p : Place) (c : VComponent K) (o : Option (Scope K)) → is_some o ≡ true
      → (ended_by m r rest (elim o as (λ z. Outcome K) [ None ↦ Done m.state [] | Some x ↦ made_in app m.state s side p c x ])).dead ≡ None
      → m.state.next_scope + 1 ≤ (ended_by m r rest (elim o as (λ z. Outcome K) [ None ↦ Done m.state [] | Some x ↦ made_in app m.state s side p c x ])).state.next_scope
  made_raises_in m r rest s side p c None l d = absurd_bool l
  made_raises_in m r rest s side p c (Some x) l d = made_raises_at m r rest s side p c x (at_end m.state.next_scope) d

  make_raises : (m : Machine K) (work : List (Item K)) (t : ℕ) → IsMake m.state work t → (change_by app m work (Made t)).dead ≡ None → t + 1 ≤ (change_by app m work (Made t)).state.next_scope
  make_raises m (Make s side p c ∷ rest) t h d =
      let more : m.state.next_scope + 1 ≤ (change_by app m (Make s side p c ∷ rest) (Made t)).state.next_scope = made_raises_in m (Some (Make s side p c)) rest s side p c (at m.state.scopes s) h.0 d in
      omega (arith, more, h.1)
  make_raises m [] t h d = absurd h
  make_raises m (Draw s side p k ∷ rest) t h d = absurd h
  make_raises m (Row b step ∷ rest) t h d = absurd h
  make_raises m (Feed s side p c ∷ rest) t h d = absurd h
  make_raises m (Drop x s side ∷ rest) t h d = absurd h

  step_raises : (m : Machine K) (t : ℕ) → IsMake m.state m.work t → (step app m (Made t)).dead ≡ None → t + 1 ≤ (step app m (Made t)).state.next_scope
  step_raises m t h d =
      let v : Machine K = change_by app m m.work (Made t) in
      let before : t + 1 ≤ v.state.next_scope = make_raises m m.work t h (settled_alive app v d) in
      let same : (settled app v).state.next_scope ≡ v.state.next_scope = (settled_later app lawful v).next_scope in
      omega (arith, before, same)

  -- a removal that isn't cut takes the scope
  drop_gone_at : (m : Machine K) (t child : ℕ) (this : Item K) (rest : List (Item K)) (c : Bool)
      → (if c then ended_by m (Some this) rest (removed app m.state t) else ended_by m (Some this) (this ∷ rest) (removed app m.state t)).dead ≡ None
      → at (if c then ended_by m (Some this) rest (removed app m.state t) else ended_by m (Some this) (this ∷ rest) (removed app m.state t)).state.scopes t ≡ None
  drop_gone_at m t child this rest true d = ended_gone m (Some this) rest (removed app m.state t) t (removed_gone app lawful m.state t) d
  drop_gone_at m t child this rest false d = ended_gone m (Some this) (this ∷ rest) (removed app m.state t) t (removed_gone app lawful m.state t) d

  drop_gone : (m : Machine K) (work : List (Item K)) (t : ℕ) → IsDrop work → (change_by app m work (Removed t)).dead ≡ None → at (change_by app m work (Removed t)).state.scopes t ≡ None
  drop_gone m (Drop child s side ∷ rest) t h d = drop_gone_at m t child (Drop child s side) rest (nat_eq t child) d
  drop_gone m [] t h d = absurd h
  drop_gone m (Draw s side p k ∷ rest) t h d = absurd h
  drop_gone m (Row b step ∷ rest) t h d = absurd h
  drop_gone m (Feed s side p c ∷ rest) t h d = absurd h
  drop_gone m (Make s side p c ∷ rest) t h d = absurd h

  step_gone : (m : Machine K) (t : ℕ) → IsDrop m.work → (step app m (Removed t)).dead ≡ None → at (step app m (Removed t)).state.scopes t ≡ None
  step_gone m t h d =
      let v : Machine K = change_by app m m.work (Removed t) in
      none_by_shape (at (settled app v).state.scopes t)
      ((settled_later app lawful v).shapes t ∙ ap (λ (o : Option (Scope K)). shape o) (drop_gone m m.work t h (settled_alive app v d)))

  -- along a log

  pub gone_lasts : (s : ℕ) (m : Machine K) (log : List Entry) (u : Machine K) → s < m.state.next_scope → at m.state.scopes s ≡ None → replay_on app (Some m) log ≡ Some u → AllByRecursion (λ (e : Entry). Names e s → ⊥) log
  gone_lasts s m [] u l n h = tt
  gone_lasts s m (e ∷ log) u l n h =
      let a = fork app (is_due app (due app m) e) (step app m e) log u h in
      let d : Due app m e = due_says app m e a.0 in
      let f : Follows m.state (step app m e).state = step_follows app lawful m e in
      let below : s < (step app m e).state.next_scope = omega (arith, l, f.next_scope) in (
        not_named m.state e s d.live (λ t q. make_new m.state m.work t (d.made t q)) l n,
        gone_lasts s (step app m e) log u below (f.gone s l n) a.1,
      )

  pub ended_lasts : (t : ℕ) (m : Machine K) (log : List Entry) (u : Machine K) → t < m.state.next.tasks → at m.state.tasks t ≡ None → replay_on app (Some m) log ≡ Some u → AllByRecursion (λ (e : Entry). Polls e t → ⊥) log
  ended_lasts t m [] u l n h = tt
  ended_lasts t m (e ∷ log) u l n h =
      let a = fork app (is_due app (due app m) e) (step app m e) log u h in
      let d : Due app m e = due_says app m e a.0 in
      let f : Follows m.state (step app m e).state = step_follows app lawful m e in
      let below : t < (step app m e).state.next.tasks = omega (arith, l, f.rises.tasks) in
      (not_polled m.state e t d.live n, ended_lasts t (step app m e) log u below (f.ended t l n) a.1)

  pub rises_lasts : (m : Machine K) (log : List Entry) (u : Machine K) → replay_on app (Some m) log ≡ Some u → Rises m.state.next u.state.next
  rises_lasts m [] u h = subst (λ (v : Machine K). Rises m.state.next v.state.next) (inj_machine h) (rises_refl m.state.next)
  rises_lasts m (e ∷ log) u h =
      let a = fork app (is_due app (due app m) e) (step app m e) log u h in
      rises_trans m.state.next (step app m e).state.next u.state.next (step_follows app lawful m e).rises (rises_lasts (step app m e) log u a.1)

  pub rooted_lasts : (m : Machine K) (log : List Entry) (u : Machine K) → IsRooted m.state → replay_on app (Some m) log ≡ Some u → IsRooted u.state
  rooted_lasts m [] u r h = subst (λ (v : Machine K). IsRooted v.state) (inj_machine h) r
  rooted_lasts m (e ∷ log) u r h =
      let a = fork app (is_due app (due app m) e) (step app m e) log u h in
      rooted_lasts (step app m e) log u ((step_follows app lawful m e).rooted r) a.1

  removed_lasts : (s : ℕ) (m : Machine K) (rest : List Entry) (u : Machine K) → IsRooted m.state → replay_on app (Some m) (Removed s ∷ rest) ≡ Some u → AllByRecursion (λ (e : Entry). Names e s → ⊥) rest
  removed_lasts s m [] u r h = tt
  removed_lasts s m (e ∷ rest) u r h =
      let a = fork app (is_due app (due app m) (Removed s)) (step app m (Removed s)) (e ∷ rest) u h in
      let d : Due app m (Removed s) = due_says app m (Removed s) a.0 in
      let f : Follows m.state (step app m (Removed s)).state = step_follows app lawful m (Removed s) in
      let low : s < m.state.next_scope = live_below m.state s r d.live in
      let below : s < (step app m (Removed s)).state.next_scope = omega (arith, low, f.next_scope) in
      gone_lasts s (step app m (Removed s)) (e ∷ rest) u below
      (step_gone m s (d.dropped s refl) (accepted_alive app (step app m (Removed s)) u e rest a.1))
      a.1

  -- the numbers that are made
  made_rest : (n : ℕ) (m : Machine K) (log : List Entry) (u : Machine K) → replay_on app (Some m) log ≡ Some u → (m.dead ≡ None → n ≤ m.state.next_scope) → MadeFrom m.state.next_scope log → MadeFrom n log
  made_rest n m [] u h l q = tt
  made_rest n m (e ∷ log) u h l q = weaker n m.state.next_scope (e ∷ log) (l (accepted_alive app m u e log h)) q

  made_next : (m : Machine K) (e : Entry) (log : List Entry) → Due app m e → ((t : ℕ) → e ≡ Made t → MadeFrom (t + 1) log) → MadeFrom m.state.next_scope log → MadeFrom m.state.next_scope (e ∷ log)
  made_next m (Made t) log d f h =
      let new : t ≡ m.state.next_scope = make_new m.state m.work t (d.made t refl) in
      let least : m.state.next_scope ≤ t = omega (arith, new) in
      (least, f t refl)
  made_next m Build log d f h = h
  made_next m (Taken k) log d f h = h
  made_next m (Heard s) log d f h = h
  made_next m (Rerun s) log d f h = h
  made_next m (Poll t) log d f h = h
  made_next m (Effects s) log d f h = h
  made_next m (Fed s) log d f h = h
  made_next m (Kept s) log d f h = h
  made_next m (Removed s) log d f h = h

  pub made_lasts : (m : Machine K) (log : List Entry) (u : Machine K) → replay_on app (Some m) log ≡ Some u → MadeFrom m.state.next_scope log
  made_lasts m [] u h = tt
  made_lasts m (e ∷ log) u h =
      let a = fork app (is_due app (due app m) e) (step app m e) log u h in
      let d : Due app m e = due_says app m e a.0 in
      let rest : MadeFrom (step app m e).state.next_scope log = made_lasts (step app m e) log u a.1 in
      let f : Follows m.state (step app m e).state = step_follows app lawful m e in
      made_next m e log d
      (
      λ t q.
      made_rest (t + 1) (step app m e) log u a.1
      (subst (λ (x : Entry). (step app m x).dead ≡ None → t + 1 ≤ (step app m x).state.next_scope) (sym q) (λ alive. step_raises m t (d.made t q) alive))
      rest
      )
      (weaker m.state.next_scope (step app m e).state.next_scope log f.next_scope rest)

  pub logs_last : (props : K.Props) (inputs : List (Input K)) (log : List Entry) (m : Machine K) → replay_on app (Some (start app props inputs)) log ≡ Some m → Lasts app props inputs log m
  logs_last props inputs log m h =
      let r : IsRooted m.state = rooted_lasts (start app props inputs) log m (start_rooted app props inputs) h in
      record {
        rooted = r;
        made = made_lasts (start app props inputs) log m h;
        gone = λ s rest u l n q. gone_lasts s m rest u l n q;
        ended = λ t rest u l n q. ended_lasts t m rest u l n q;
        removed = λ s rest u q. removed_lasts s m rest u r q;
        rises = λ rest u q. rises_lasts m rest u q;
      }
