-- After every accepted log the state is well numbered.
use Rattle.std.proofs.Common.{ℕ, zero, suc, Bool, true, false, List, [], ◌∷◌, ◌≡◌, ◌<◌, ◌&&◌, ◌⊎◌, not, refl, sym, ap, ◌∙◌, subst, arith, nat_eq, inl, inr}
use Rattle.std.specs.Prelude.{Option, Some, None, if◌then◌else◌, is_some}
use Rattle.rt_lemmas.proofs.Bools.{first_of as drawn_number}
use Rattle.rt_lemmas.proofs.Options.{not_some as no_fault}
use Rattle.rt_model.specs.Lists.{at}
use Rattle.rt_model.specs.Tree.{Types, VComponent, Root, Place, same_place, node_at, spots}
use Rattle.rt_model.specs.World.{at_end, Scopes, CallFault, Event, Meaning, Application}
use Rattle.rt_model.specs.Laws.{IsNumbered, IsLawful}
use Rattle.rt_model.specs.State.{SideName, MainSide, ChildrenSide, FallbackSide, Fault, IdsExhausted, Side, Scope, State, Item, Draw, Row, Feed, Make, Drop, Outcome, Done, Cut, side_of, new_scope, empty_side, is_live, world_of}
use Rattle.rt_model.specs.Commands.{commands}
use Rattle.rt_model.specs.Next.{at_rest}
use Rattle.rt_model.specs.Run.{child_at, fault_of, with_next, called_once, run}
use Rattle.rt_model.proofs.SideFrames.{stay_rest}
use Rattle.rt_model.specs.Boundary.{boundary_step}
use Rattle.rt_model.specs.Removal.{removed}
use Rattle.rt_model.specs.Heard.{Listener}
use Rattle.rt_model.specs.Replay.{Entry, Build, Taken, Heard, Rerun, Poll, Effects, Made, Fed, Kept, Removed, Input, Machine, ended_by, draws, rows_left, waiting, then_looked, take_next, one_more_unit, with_new_scope, row_first, row_next, served, settled, fed_child, keeps, handed, outcome_of, due_feed, due_item, due_any, due, made_in, made, with_props, polled, effects_run, further, heard_event, heard_first, rested, change_by, step, is_due, replay_on, start, no_listener, no_work, is_quiet, if_quiet, replay}
use Rattle.rt_model.specs.Lasting.{IsRooted}
use Rattle.rt_model.proofs.Maps.{none_some, pick_true, pick_false, by_test}
use Rattle.rt_model.proofs.OneLogOnly.{fork}
use Rattle.rt_model.proofs.Conjunctions.{and-left, and-right}
use Rattle.rt_model.proofs.MachineFrames.{step_follows}
use Rattle.rt_model.proofs.LastsAlways.{inj_entry, inj_machine, live_of, due_is, start_rooted, only_root}
use Rattle.rt_model.proofs.Among.{Among, among_contained}
use Rattle.rt_model.proofs.SamePlaces.{same_place-true}
use Rattle.rt_model.proofs.Parts.{PartFits}
use Rattle.rt_model.proofs.SideRuns.{rest_stay, called_stay}
use Rattle.rt_model.proofs.Stands.{Stands}
use Rattle.rt_model.proofs.Turns.{inj_scope, stay_stands}
use Rattle.rt_model.proofs.SideChanges.{Leads, fed_stands, made_stands}
use Rattle.rt_model.proofs.NumbersRun.{run_leads, step_leads, removed_leads, polled_leads, effects_leads}
use Rattle.rt_model.proofs.Begun.{Begun, Good, ended_good, draws_good, row_done, feed_done, make_done, drop_done, closed_good, calm_trans, calm_good, then_looked_calm, take_next_calm}
use Rattle.rt_model.proofs.WellNumbered.{WellNumbered}

not_build : {b : Bool} (e : Entry) → (Build ≡ e → ⊥) → (b ≡ true) ⊎ (e ≡ Build) → b ≡ true
not_build e f (inl h) = h
not_build e f (inr h) = absurd (f (sym h))

module _ {K : Types} where
  -- the first item of the work is one that this entry serves
  abbrev pub Matches : List (Item K) → Entry → Type 0
  Matches [] e = Unit {0}
  Matches (Make s side p c ∷ rest) (Made t) = Unit {0}
  Matches (Feed s side p c ∷ rest) (Kept t) = Unit {0}
  Matches (Feed s side p c ∷ rest) (Fed t) = Unit {0}
  Matches (Drop t s side ∷ rest) (Removed u) = Unit {0}
  Matches _ _ = ⊥

  made_match : (s n : ℕ) (side : SideName) (p : Place) (c : VComponent K) (rest : List (Item K)) (e : Entry) (b : Bool) → (if b then Some (Made n) else None) ≡ Some e → Matches (Make s side p c ∷ rest) e
  made_match s n side p c rest e true h = subst (λ (x : Entry). Matches (Make s side p c ∷ rest) x) (inj_entry h) tt
  made_match s n side p c rest e false h = cc

  fed_match : (s t : ℕ) (side : SideName) (p : Place) (c : VComponent K) (rest : List (Item K)) (e : Entry) (b : Bool) → Some (if b then Kept t else Fed t) ≡ Some e → Matches (Feed s side p c ∷ rest) e
  fed_match s t side p c rest e true h = subst (λ (x : Entry). Matches (Feed s side p c ∷ rest) x) (inj_entry h) tt
  fed_match s t side p c rest e false h = subst (λ (x : Entry). Matches (Feed s side p c ∷ rest) x) (inj_entry h) tt

module _ {K : Types} (app : Application K) where
  feed_match : (w : State K) (s : ℕ) (side : SideName) (p : Place) (c : VComponent K) (rest : List (Item K)) (e : Entry) (o : Option ℕ) → due_feed app w c o ≡ Some e → Matches (Feed s side p c ∷ rest) e
  feed_match w s side p c rest e None h = cc
  feed_match w s side p c rest e (Some t) h = fed_match s t side p c rest e (keeps app w t c) h

  item_match : (m : Machine K) (work : List (Item K)) (e : Entry) → due_item app m work ≡ Some e → Matches work e
  item_match m [] e h = tt
  item_match m (Draw s side p k ∷ rest) e h = cc
  item_match m (Row b step ∷ rest) e h = cc
  item_match m (Make s side p c ∷ rest) e h = made_match s m.state.next_scope side p c rest e (is_live m.state s) h
  item_match m (Feed s side p c ∷ rest) e h = feed_match m.state s side p c rest e (fed_child m.state s side p) h
  item_match m (Drop t s side ∷ rest) e h = subst (λ (x : Entry). Matches (Drop t s side ∷ rest) x) (inj_entry h) tt

  -- before the build there is no work
  abbrev pub Awaits : Machine K → Type 0
  Awaits m = (m.built ≡ true) ⊎ (m.work ≡ [])

  absurd_bool : {P : Type 0} → false ≡ true → P
  absurd_bool h = cc

  built_match : (m : Machine K) (e : Entry) (b : Bool) → m.built ≡ b → Awaits m → (if b then due_item app m m.work else Some Build) ≡ Some e → Matches m.work e × ((m.built ≡ true) ⊎ (e ≡ Build))
  built_match m e true q a h = (item_match m m.work e h, inl q)
  built_match m e false q (inl a) h = absurd_bool (sym q ∙ a)
  built_match m e false q (inr a) h = (subst (λ (xs : List (Item K)). Matches xs e) (sym a) tt, inr (sym (inj_entry h)))

  any_match : (m : Machine K) (e : Entry) (d : Option Fault) → m.dead ≡ d → (m.dead ≡ None → Awaits m) → (elim d as (λ z. Option Entry) [ None ↦ (if m.built then due_item app m m.work else Some Build) | Some fault ↦ None ]) ≡ Some e
      → (m.dead ≡ None) × Matches m.work e × ((m.built ≡ true) ⊎ (e ≡ Build))
  any_match m e None q a h = let b = built_match m e m.built refl (a q) h in (q, b.0, b.1)
  any_match m e (Some fault) q a h = cc

  pub due_match : (m : Machine K) (e : Entry) → (m.dead ≡ None → Awaits m) → is_due app (due app m) e ≡ true → (m.dead ≡ None) × Matches m.work e × ((m.built ≡ true) ⊎ (e ≡ Build))
  due_match m e a h = any_match m e m.dead refl a (live_of m.state (due_any app m) e (due_is app (due app m) e h)).0

module _ {K : Types} (app : Application K) (lawful : IsLawful K app) where
  row_first_good : (go : Machine K → Machine K) → ((u : Machine K) → Good u → Good (go u)) → (m : Machine K) (work : List (Item K)) → m.built ≡ true → Stands m.state work → Good m → Good (row_first app go m work)
  row_first_good go f m [] b h g = g
  row_first_good go f m (Row i step ∷ rest) b h g =
      f (ended_by m (Some (Row i step)) rest (boundary_step app m.state i step))
      (ended_good m (Some (Row i step)) rest (boundary_step app m.state i step) b (step_leads app lawful m.state rest i step (row_done m.state rest i step h)))
  row_first_good go f m (Draw s side p k ∷ rest) b h g = g
  row_first_good go f m (Feed s side p c ∷ rest) b h g = g
  row_first_good go f m (Make s side p c ∷ rest) b h g = g
  row_first_good go f m (Drop t s side ∷ rest) b h g = g

  row_next_at : (go : Machine K → Machine K) → ((u : Machine K) → Good u → Good (go u)) → (m : Machine K) (o : Option Fault) → m.dead ≡ o → Good m → Good (elim o as (λ z. Machine K) [ None ↦ row_first app go m m.work | Some fault ↦ m ])
  row_next_at go f m None q g = let b : Begun m = g q in row_first_good go f m m.work b.built b.stands g
  row_next_at go f m (Some fault) q g = g

  row_next_good : (go : Machine K → Machine K) → ((u : Machine K) → Good u → Good (go u)) → (m : Machine K) → Good m → Good (row_next app go m)
  row_next_good go f m g = row_next_at go f m m.dead refl g

  served_at : (m : Machine K) (o : Option Fault) (f : Machine K → Machine K) → m.dead ≡ o → Good m → (Begun m → Good (f m)) → Good (elim o as (λ z. Machine K) [ None ↦ f m | Some fault ↦ m ])
  served_at m None f q g h = h (g q)
  served_at m (Some fault) f q g h = g

  served_good : (n : ℕ) (m : Machine K) → Good m → Good (served app n m)
  served_good zero m g = served_at m m.dead (λ u. draws u.work u) refl g (λ b. draws_good m.work m b.built b.stands)
  served_good (suc n) m g =
      served_at m m.dead (λ u. row_next app (λ v. served app n v) (draws u.work u)) refl g
      (λ b. row_next_good (λ v. served app n v) (λ u h. served_good n u h) (draws m.work m) (draws_good m.work m b.built b.stands))

  settled_good : (m : Machine K) → Good m → Good (settled app m)
  settled_good m g = closed_good (served app (rows_left m.work) m) (served_good (rows_left m.work) m g)

  made_in_leads : (w : State K) (rest : List (Item K)) (s : ℕ) (side : SideName) (p : Place) (c : VComponent K) (x : Scope K) (end : Bool) → at w.scopes s ≡ Some x → at w.scopes w.next_scope ≡ None → Stands w (Make s side p c ∷ rest)
      → Leads rest (if end then Cut w (IdsExhausted Scopes) else run app (with_new_scope w s side p c x) w.next_scope)
  made_in_leads w rest s side p c x true e n h = tt
  made_in_leads w rest s side p c x false e n h = run_leads app lawful (with_new_scope w s side p c x) rest w.next_scope (made_stands w rest s side p c x h e n)

  made_at_leads : (w : State K) (rest : List (Item K)) (s : ℕ) (side : SideName) (p : Place) (c : VComponent K) (o : Option (Scope K)) → at w.scopes s ≡ o → at w.scopes w.next_scope ≡ None → Stands w (Make s side p c ∷ rest)
      → Leads rest (elim o as (λ z. Outcome K) [ None ↦ Done w [] | Some x ↦ made_in app w s side p c x ])
  made_at_leads w rest s side p c None e n h = make_done w rest s side p c h
  made_at_leads w rest s side p c (Some x) e n h = made_in_leads w rest s side p c x (at_end w.next_scope) e n h

  made_leads : (w : State K) (rest : List (Item K)) (s : ℕ) (side : SideName) (p : Place) (c : VComponent K) → IsRooted w → Stands w (Make s side p c ∷ rest) → Leads rest (made app w s side p c)
  made_leads w rest s side p c r h = made_at_leads w rest s side p c (at w.scopes s) refl (r.drawn w.next_scope (omega arith)) h

  heard_at_good : (m : Machine K) (l : Listener K) (ls : List (Listener K)) (meaning : Meaning K (Event K)) (o : Option CallFault) → IsNumbered m.state.next meaning.commands meaning.next → Begun m
      → Good (elim o as (λ z. Machine K) [
        | None ↦
            then_looked
            (record m {
              state = commands app (with_next m.state meaning.next) l.origin None meaning.commands;
              event = Some meaning.answer;
              default_enabled = not meaning.answer.prevented;
              listeners = further app m meaning.answer ls;
            })
        | Some f ↦ record m { state = with_next m.state meaning.next; listeners = ls; dead = Some (fault_of f); refused = None }
      ])
  heard_at_good m l ls meaning None n b =
      let v : Machine K =
      record m {
        state = commands app (with_next m.state meaning.next) l.origin None meaning.commands;
        event = Some meaning.answer;
        default_enabled = not meaning.answer.prevented;
        listeners = further app m meaning.answer ls;
      } in
      calm_good m (then_looked v) (calm_trans m v (then_looked v) (record { work = refl; built = refl; stays = called_stay app lawful m.state l.origin None meaning n }) (then_looked_calm v)) b
  heard_at_good m l ls meaning (Some f) n b = λ d. none_some d refl

  heard_event_good : (m : Machine K) (l : Listener K) (ls : List (Listener K)) (o : Option (Event K)) → Begun m → Good (heard_event app m l ls o)
  heard_event_good m l ls None b = λ d. b
  heard_event_good m l ls (Some event) b =
      let meaning : Meaning K (Event K) = app.handle l.handler event (world_of m.state l.origin None false) in
      let u : Machine K = record m { state = called_once m.state } in
      heard_at_good u l ls meaning meaning.fault (lawful.handlers_number l.handler event (world_of m.state l.origin None false))
      (record { stands = stay_stands m.state u.state m.work (stay_rest m.state u.state refl refl refl) b.stands; built = b.built })

  heard_good : (m : Machine K) (ls : List (Listener K)) → Begun m → Good (heard_first app m ls)
  heard_good m [] b = λ d. b
  heard_good m (l ∷ ls) b = heard_event_good m l ls m.event b

  dropped_good : (m : Machine K) (t child s : ℕ) (side : SideName) (rest : List (Item K)) (c : Bool) → m.built ≡ true → Stands m.state (Drop child s side ∷ rest)
      → Good (if c then ended_by m (Some (Drop child s side)) rest (removed app m.state t) else ended_by m (Some (Drop child s side)) (Drop child s side ∷ rest) (removed app m.state t))
  dropped_good m t child s side rest true b h = ended_good m (Some (Drop child s side)) rest (removed app m.state t) b (removed_leads app lawful m.state rest t (drop_done m.state rest child s side h))
  dropped_good m t child s side rest false b h = ended_good m (Some (Drop child s side)) (Drop child s side ∷ rest) (removed app m.state t) b (removed_leads app lawful m.state (Drop child s side ∷ rest) t h)

  rested_stands : (m : Machine K) (work : List (Item K)) → Stands m.state work → Stands (at_rest m.state) work
  rested_stands m work h = stay_stands m.state (at_rest m.state) work (rest_stay m.state) h

  handed_leads : (w : State K) (rest : List (Item K)) (t : ℕ) (c : VComponent K) (keeps : Bool) → Stands w rest → PartFits c
      → Leads rest (if keeps then Done (with_props app w t c) [] else run app (with_props app w t c) t)
  handed_leads w rest t c true h f = fed_stands w rest t c h f
  handed_leads w rest t c false h f = run_leads app lawful (with_props app w t c) rest t (fed_stands w rest t c h f)

  fed_leads : (w : State K) (rest : List (Item K)) (c : VComponent K) (o : Option ℕ) → Stands w rest → PartFits c → Leads rest (elim o [ None ↦ Done w [] | Some t ↦ handed app w t c ])
  fed_leads w rest c None h f = h
  fed_leads w rest c (Some t) h f = handed_leads w rest t c (keeps app w t c) h f

  pub change_good : (m : Machine K) (work : List (Item K)) (e : Entry) → Matches work e → (m.built ≡ true) ⊎ (e ≡ Build) → IsRooted m.state → Stands m.state work → m.work ≡ work → Good (change_by app m work e)
  change_good m (Make s side p c ∷ rest) (Made t) a b r h q =
      ended_good m (Some (Make s side p c)) rest (made app m.state s side p c) (not_build (Made t) (λ i. cc) b) (made_leads m.state rest s side p c r h)
  change_good m (Feed s side p c ∷ rest) (Kept t) a b r h q =
      ended_good m (Some (Feed s side p c)) rest (outcome_of app m.state (Feed s side p c)) (not_build (Kept t) (λ i. cc) b)
      (fed_leads m.state rest c (fed_child m.state s side p) (feed_done m.state rest s side p c h) h.items.0)
  change_good m (Feed s side p c ∷ rest) (Fed t) a b r h q =
      ended_good m (Some (Feed s side p c)) rest (outcome_of app m.state (Feed s side p c)) (not_build (Fed t) (λ i. cc) b)
      (fed_leads m.state rest c (fed_child m.state s side p) (feed_done m.state rest s side p c h) h.items.0)
  change_good m (Drop child s side ∷ rest) (Removed t) a b r h q = dropped_good m t child s side rest (nat_eq t child) (not_build (Removed t) (λ i. cc) b) h
  change_good m [] Build a b r h q = ended_good (record m { built = true; unit = true }) None [] (run app m.state 0) refl (run_leads app lawful m.state [] 0 h)
  change_good m [] (Taken k) a b r h q =
      let v : Machine K = rested app m in
      let n : Machine K = take_next v v.inputs in
      calm_good m n (calm_trans m v n (record { work = refl; built = refl; stays = rest_stay m.state }) (take_next_calm v v.inputs))
      (record { stands = subst (λ (xs : List (Item K)). Stands m.state xs) (sym q) h; built = not_build (Taken k) (λ i. cc) b })
  change_good m [] (Heard s) a b r h q =
      heard_good m (waiting m) (record { stands = subst (λ (xs : List (Item K)). Stands m.state xs) (sym q) h; built = not_build (Heard s) (λ i. cc) b })
  change_good m [] (Rerun s) a b r h q =
      let v : Machine K = rested app m in
      ended_good (one_more_unit v) None [] (run app v.state s) (not_build (Rerun s) (λ i. cc) b) (run_leads app lawful v.state [] s (rested_stands m [] h))
  change_good m [] (Poll t) a b r h q =
      let v : Machine K = rested app m in
      ended_good (one_more_unit v) None [] (polled app v.state t) (not_build (Poll t) (λ i. cc) b) (polled_leads app lawful v.state [] t (rested_stands m [] h))
  change_good m [] (Effects s) a b r h q =
      let v : Machine K = rested app m in
      ended_good (one_more_unit v) None [] (effects_run app v.state s) (not_build (Effects s) (λ i. cc) b) (effects_leads app lawful v.state [] s (rested_stands m [] h))
  change_good m [] (Made t) a b r h q = λ d. record { stands = subst (λ (xs : List (Item K)). Stands m.state xs) (sym q) h; built = not_build (Made t) (λ i. cc) b }
  change_good m [] (Fed t) a b r h q = λ d. record { stands = subst (λ (xs : List (Item K)). Stands m.state xs) (sym q) h; built = not_build (Fed t) (λ i. cc) b }
  change_good m [] (Kept t) a b r h q = λ d. record { stands = subst (λ (xs : List (Item K)). Stands m.state xs) (sym q) h; built = not_build (Kept t) (λ i. cc) b }
  change_good m [] (Removed t) a b r h q = λ d. record { stands = subst (λ (xs : List (Item K)). Stands m.state xs) (sym q) h; built = not_build (Removed t) (λ i. cc) b }
  change_good m _ _ a b r h q = absurd a

  -- what stands before an entry
  pub record Sound (m : Machine K) : Type 0 where
    pub rooted : IsRooted m.state
    pub stands : m.dead ≡ None → Stands m.state m.work
    pub awaits : m.dead ≡ None → Awaits app m

  step_sound : (m : Machine K) (e : Entry) → Sound m → is_due app (due app m) e ≡ true → Sound (step app m e)
  step_sound m e h d =
      let a = due_match app m e h.awaits d in
      let v : Machine K = change_by app m m.work e in
      let g : Good (step app m e) = settled_good v (change_good m m.work e a.1 a.2 h.rooted (h.stands a.0) refl) in
      record { rooted = (step_follows app lawful m e).rooted h.rooted; stands = λ q. (g q).stands; awaits = λ q. inl (g q).built }

  sound_lasts : (m : Machine K) (log : List Entry) (u : Machine K) → Sound m → replay_on app (Some m) log ≡ Some u → Sound u
  sound_lasts m [] u h q = subst (λ (v : Machine K). Sound v) (inj_machine q) h
  sound_lasts m (e ∷ log) u h q =
      let a = fork app (is_due app (due app m) e) (step app m e) log u q in sound_lasts (step app m e) log u (step_sound m e h a.0) a.1

  root_empty : (props : K.Props) (a : SideName) → side_of (new_scope {K = K} (Root app.root props) None 0 MainSide) a ≡ empty_side
  root_empty props MainSide = refl
  root_empty props ChildrenSide = refl
  root_empty props FallbackSide = refl

  -- the start
  start_side : (props : K.Props) (inputs : List (Input K)) (s : ℕ) (x : Scope K) (a : SideName) → at (start app props inputs).state.scopes s ≡ Some x → side_of x a ≡ empty_side
  start_side props inputs s x a e = ap (λ (y : Scope K). side_of y a) (sym (inj_scope _ x (only_root app props inputs s x e).1)) ∙ root_empty props a

  start_stands : (props : K.Props) (inputs : List (Input K)) → Stands (start app props inputs).state []
  start_stands props inputs =
      let first : 0 < 1 = omega arith in
      record {
        first = first;
        range = λ s n x a p k e g. absurd (subst (λ (z : Side K). Among z.numbers (p, k, n)) (start_side props inputs s x a e) g);
        once = λ s t n x y a b p q k l e f g h. absurd (subst (λ (z : Side K). Among z.numbers (p, k, n)) (start_side props inputs s x a e) g);
        whole = λ s x a tree p k e o g. none_some (ap (λ (z : Side K). z.output) (start_side props inputs s x a e)) o;
        fit = λ s x a tree e o. none_some (ap (λ (z : Side K). z.output) (start_side props inputs s x a e)) o;
        parts = λ s x e. subst (λ (y : Scope K). PartFits y.component) (inj_scope _ x (only_root app props inputs s x e).1) (record { level = 0; fits = refl });
        items = tt;
        drawn = λ s t x a p e g. absurd (subst (λ (z : Side K). Among z.children (p, t)) (start_side props inputs s x a e) g);
        child = λ s t x y a p e g f. absurd (subst (λ (z : Side K). Among z.children (p, t)) (start_side props inputs s x a e) g);
        slot = λ s t x a p q e g h. absurd (subst (λ (z : Side K). Among z.children (p, t)) (start_side props inputs s x a e) g);
      }

  pub start_sound : (props : K.Props) (inputs : List (Input K)) → Sound (start app props inputs)
  start_sound props inputs = record { rooted = start_rooted app props inputs; stands = λ q. start_stands props inputs; awaits = λ q. inr refl }

-- a child that is found in a slot is among the children
pub child_among : (cs : List (Place × ℕ)) (p : Place) (t : ℕ) → child_at cs p ≡ Some t → Among cs (p, t)
child_among [] p t h = cc
child_among (e ∷ cs) p t h =
    by_test (same_place e.0 p)
    (λ q. inl (here e.0 e.1 (same_place-true e.0 p q) (found (sym (pick_true (Some e.1) (child_at cs p) q) ∙ h))))
    (λ q. inr (child_among cs p t (sym (pick_false (Some e.1) (child_at cs p) q) ∙ h)))
  where
    here : (q : Place) (n : ℕ) → q ≡ p → n ≡ t → ◌≡◌ {A = Place × ℕ} (q, n) (p, t)
    here q n a b = ap {B = Place × ℕ} (λ (z : Place). (z, n)) a ∙ ap {B = Place × ℕ} (λ (z : ℕ). (p, z)) b

    found : {n : ℕ} → Some n ≡ Some t → n ≡ t
    found q = cc

module _ {K : Types} where
  none_left : (work : List (Item K)) → no_work work ≡ true → work ≡ []
  none_left [] h = refl
  none_left (i ∷ rest) h = cc

  -- what stands beside no work is well numbered
  well_numbered : (w : State K) → IsRooted w → Stands w [] → WellNumbered w
  well_numbered w r h =
      record {
        positive = λ s n x a p k e g. (h.range s n x a p k e (among_contained (side_of x a).numbers (p, k, n) g)).0;
        once =
            λ s t n x y a b p q k l e f g i.
            h.once s t n x y a b p q k l e f (among_contained (side_of x a).numbers (p, k, n) g) (among_contained (side_of y b).numbers (q, l, n) i);
        whole = λ s x a tree p k e o g. drawn_number (h.whole s x a tree p k e o (among_contained (spots [] tree) (node_at p k) g));
        fit = h.fit;
        child =
            λ s t x y a p e g f.
            let c = h.child s t x y a p e (child_among (side_of x a).children p t g) f in
            (c.0, c.1, r.heights t s y x f c.0 e);
        slot = λ s t x a p q e g i. h.slot s t x a p q e (child_among (side_of x a).children p t g) (child_among (side_of x a).children q t i);
      }

  quiet_found : (m u : Machine K) (b : Bool) → is_quiet m ≡ b → (if b then Some m else None) ≡ Some u → (m ≡ u) × (is_quiet m ≡ true)
  quiet_found m u true q h = (inj_machine h, q)
  quiet_found m u false q h = cc

  quiet_of : (o : Option (Machine K)) (u : Machine K) → if_quiet o ≡ Some u → (o ≡ Some u) × (is_quiet u ≡ true)
  quiet_of None u h = cc
  quiet_of (Some m) u h =
      let q = quiet_found m u (is_quiet m) refl h in
      (ap Some q.0, ap (λ (v : Machine K). is_quiet v) (sym q.0) ∙ q.1)

-- after an accepted log the state is well numbered
pub replay_well_numbered : {K : Types} (app : Application K) → IsLawful K app → (props : K.Props) (inputs : List (Input K)) (log : List Entry) (m : Machine K) → replay app props inputs log ≡ Some m → WellNumbered m.state
replay_well_numbered {K = K} app lawful props inputs log m h =
    let q = quiet_of (replay_on app (Some (start app props inputs)) log) m h in
    let s : Sound app lawful m = sound_lasts app lawful (start app props inputs) log m (start_sound app lawful props inputs) q.0 in
    let idle : not (is_some m.dead) && no_work m.work ≡ true = and-left (not (is_some m.dead) && no_work m.work) (no_listener (waiting m)) q.1 in
    let alive : m.dead ≡ None = no_fault m.dead (and-left (not (is_some m.dead)) (no_work m.work) idle) in
    let empty : m.work ≡ [] = none_left m.work (and-right (not (is_some m.dead)) (no_work m.work) idle) in
    well_numbered m.state s.rooted (subst (λ (xs : List (Item K)). Stands m.state xs) empty (s.stands alive))
