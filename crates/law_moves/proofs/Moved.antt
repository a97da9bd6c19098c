-- What holds wherever moves lead, once the build has begun.
use Rattle.std.proofs.Common.{ℕ, ◌+◌, ◌<◌, Bool, true, false, List, [], ◌∷◌, ◌++◌, ◌≡◌, ◌⊎◌, inl, inr, refl, sym, ap, ◌∙◌, subst, nat_eq}
use Rattle.std.proofs.lemmas.Bool.{eqb-true}
use Rattle.std.specs.Prelude.{Option, Some, None, is_some, if◌then◌else◌}
use Rattle.std.specs.List.{AllByRecursion}
use Rattle.rt_model.specs.Lists.{at}
use Rattle.rt_model.specs.Tree.{Types, Place}
use Rattle.rt_model.specs.World.{Firsts, Application}
use Rattle.rt_model.specs.Laws.{IsLawful}
use Rattle.rt_model.specs.State.{Mark, SideName, Fault, Side, Scope, State, Item, Draw, Row, Feed, Make, Drop, Outcome, Done, Cut, change, is_live, effects_of}
use Rattle.rt_model.specs.Next.{Work, RerunScope, PollTask, RunEffects, look, drops, at_rest, next}
use Rattle.rt_model.specs.Run.{child_at, run}
use Rattle.rt_model.specs.Commands.{unqueued}
use Rattle.rt_model.specs.Removal.{next_removed}
use Rattle.rt_model.specs.Heard.{Listener}
use Rattle.rt_model.specs.Replay.{Entry, Build, Taken, Heard, Rerun, Poll, Effects, Removed, Input, Machine, mounted_state, if_live, waiting, take_next, one_more_unit, fed_child, keeps, due_item, due_heard, due_work, due, polled, effects_run, heard_event, heard_first, rested, change_by}
use Rattle.rt_model.specs.Causes.{Limits}
use Rattle.rt_model.specs.Lasting.{IsRooted}
use Rattle.rt_model.proofs.Maps.{by_test, eq_same, at_here, at_there}
use Rattle.rt_model.proofs.RunFrames.{Later, LaterO}
use Rattle.rt_model.proofs.MachineFrames.{mounted_later, rest_later, take_next_later, polled_later, effects_later, heard_event_later}
use Rattle.rt_model.proofs.SideFrames.{Stay}
use Rattle.rt_model.proofs.SideRuns.{StayO, rest_stay, mounted_stay, polled_stay, effects_stay}
use Rattle.rt_model.proofs.Stands.{Stands}
use Rattle.rt_model.proofs.NumbersRun.{Idle as IdleO, polled_idle}
use Rattle.rt_model.proofs.Begun.{take_next_calm}
use Rattle.law_moves.specs.Moves.{Move, Silent, Closed, Logged, IsSettled, AtWork, Moves, Leads}
use Rattle.law_moves.specs.Reached.{Part, ByMoves, ByAside, NonePassed, first_scope, start_at, Comes, Reached}
use Rattle.rt_model.specs.Rendering.{nothing_resolved}
use Rattle.law_moves.proofs.Passed.{rendering_holds, polling_holds}
use Rattle.rt_model.specs.Asides.{Aside, Asked, Marked, AllMarked, Looked, Thinned, Rested, Raised, Passed, Polling, Answered, Advanced, PassesNone, Allowed, aside_state}
use Rattle.law_moves.specs.Asides.{IsAside}
use Rattle.law_moves.proofs.Asides.{aside_stay, aside_later, asks, Beside, beside}
use Rattle.rt_model.specs.Sentences.{marked_now, all_marked_now}
use Rattle.law_moves.proofs.OneMoveOnly.{unsettled}
use Rattle.law_moves.proofs.Items.{due_at_work}
use Rattle.law_moves.proofs.Insides.{alive_before, live_due, made_due, fed_due, fed_change}
use Rattle.law_moves.proofs.Always.{take_work, heard_work}
use Rattle.law_moves.proofs.Twigs.{twig, twig_side, side_found, kids}
use Rattle.law_moves.proofs.Woven.{Woven}
use Rattle.law_moves.proofs.Opens.{calm_twigs}
use Rattle.law_moves.proofs.Everywhere.{WovenOn, batch_quiet, heard_stays, ReadyAt, work_state, move_ready, moves_ready, aside_ready, begun_ready}
use Rattle.law_moves.proofs.Begun.{first_sides}
use Rattle.law_moves.proofs.Told.{CalmO}
use Rattle.law_moves.proofs.Calm.{holders_of, Orderly, Calm, calm_refl, Quiet, quiet_refl, quiet_rest, quiet_then, quiet_calm, no_fall}
use Rattle.law_moves.proofs.Looks.{look_on_quiet, look_quiet, drops_quiet, rest_quiet, mounted_quiet, take_calm}
use Rattle.law_moves.proofs.Ran.{called_calm, polled_calm, advanced_calm, effects_calm, heard_calm}
use Rattle.law_moves.proofs.ChildKinds.{Kinds}
use Rattle.law_moves.proofs.Moving.{Scheduled, Holding, HoldingOn, HoldingO, ended, level, calm_holding, run_holding, run_alone, silent_holds, make_holds, drop_holds}
use Rattle.law_moves.proofs.Handed.{feed_holds}

-- Q is known wherever a scope was passed over by a render
module _ {K : Types} (app : Application K) (lawful : IsLawful K app) (Q : Type 0) where
  -- where no work is open

  pub calm_o_holding : (w : State K) (o : Outcome K) → CalmO None w.next.cells w o → StayO w o → LaterO w o → IdleO o → Holding app lawful Q w [] → HoldingO app lawful Q [] o
  calm_o_holding w (Cut v fault) f stay later idle h = tt
  calm_o_holding w (Done v work) f stay later idle h =
      subst (λ (xs : List (Item K)). Holding app lawful Q v (xs ++ [])) (sym idle) (calm_holding app lawful Q w v [] f (calm_twigs w v stay later) h)

  pub rest_holding : (w : State K) → Holding app lawful Q w [] → Holding app lawful Q (at_rest w) []
  rest_holding w h = calm_holding app lawful Q w (at_rest w) [] (quiet_calm None w.next.cells w (at_rest w) (rest_quiet w)) (calm_twigs w (at_rest w) (rest_stay w) (rest_later w)) h

  calm_on : (m u : Machine K) → u.work ≡ [] → Stay m.state u.state → Later m.state u.state → Calm None m.state.next.cells m.state u.state → Holding app lawful Q m.state [] → HoldingOn app lawful Q u
  calm_on m u none stay later calm h = λ alive. subst (λ (xs : List (Item K)). Holding app lawful Q u.state xs) (sym none) (calm_holding app lawful Q m.state u.state [] calm (calm_twigs m.state u.state stay later) h)

  owed_holds : (m : Machine K) (work : Option Work) (inputs : List (Input K)) (e : Entry) → m.work ≡ [] → Holding app lawful Q m.state [] → m.inputs ≡ inputs → if_live m.state (due_work app m work inputs) ≡ Some e → HoldingOn app lawful Q (change_by app m [] e)
  owed_holds m (Some (RerunScope s)) inputs e none h more due_is =
      let found = live_due app m.state (Rerun s) e due_is in
      let v : State K = at_rest m.state in
      subst (λ (x : Entry). HoldingOn app lawful Q (change_by app m [] x)) (sym found.0) (ended app lawful Q (one_more_unit (rested app m)) None [] (run app v s) (run_alone app lawful Q v s (rest_holding m.state h)))
  owed_holds m (Some (PollTask t)) inputs e none h more due_is =
      let found = live_due app m.state (Poll t) e due_is in
      let v : State K = at_rest m.state in
      subst (λ (x : Entry). HoldingOn app lawful Q (change_by app m [] x)) (sym found.0)
      (ended app lawful Q (one_more_unit (rested app m)) None [] (polled app v t)
      (calm_o_holding v (polled app v t) (polled_calm app lawful v.next.cells v t (level app lawful Q v)) (polled_stay app lawful v t) (polled_later app lawful v t) (polled_idle app lawful (unqueued v t) t (at v.tasks t)) (rest_holding m.state h)))
  owed_holds m (Some (RunEffects s)) inputs e none h more due_is =
      let found = live_due app m.state (Effects s) e due_is in
      let v : State K = at_rest m.state in
      subst (λ (x : Entry). HoldingOn app lawful Q (change_by app m [] x)) (sym found.0)
      (ended app lawful Q (one_more_unit (rested app m)) None [] (effects_run app v s)
      (calm_o_holding v (effects_run app v s) (effects_calm app lawful v.next.cells v s (level app lawful Q v)) (effects_stay app lawful v s) (effects_later app lawful v s)
      (batch_quiet app lawful (change v s (λ x. record x { effects = [] })) s (effects_of v s)) (rest_holding m.state h)))
  owed_holds m None [] e none h more due_is = cc
  owed_holds m None (input ∷ inputs) e none h more due_is =
      let found = live_due app m.state (Taken (m.taken + 1)) e due_is in
      let r : Machine K = rested app m in
      let u : Machine K = take_next r (input ∷ inputs) in
      let after : HoldingOn app lawful Q u =
      calm_on r u (take_work r (input ∷ inputs) ∙ none) (take_next_calm r (input ∷ inputs)).stays (take_next_later r (input ∷ inputs)) (take_calm r.state.next.cells r (input ∷ inputs)) (rest_holding m.state h) in
      subst (λ (x : Entry). HoldingOn app lawful Q (change_by app m [] x)) (sym found.0) (subst (λ (items : List (Input K)). HoldingOn app lawful Q (take_next r items)) (sym more) after)

  heard_holds : (m : Machine K) (listeners : List (Listener K)) (e : Entry) → m.work ≡ [] → Holding app lawful Q m.state [] → waiting m ≡ listeners → if_live m.state (due_heard app m listeners) ≡ Some e → HoldingOn app lawful Q (change_by app m [] e)
  heard_holds m [] e none h quiet due_is = owed_holds m (next m.state) m.inputs e none h refl due_is
  heard_holds m (first ∷ others) e none h heard due_is =
      let found = live_due app m.state (Heard first.origin) e due_is in
      let u : Machine K = heard_event app m first others m.event in
      let after : HoldingOn app lawful Q u =
      λ alive.
      (calm_on m u (heard_work app m first others m.event ∙ none) (heard_stays app lawful m first others m.event alive) (heard_event_later app lawful m first others m.event)
      (heard_calm app lawful m.state.next.cells m first others m.event (level app lawful Q m.state)) h) alive in
      subst (λ (x : Entry). HoldingOn app lawful Q (change_by app m [] x)) (sym found.0) (subst (λ (ls : List (Listener K)). HoldingOn app lawful Q (heard_first app m ls)) (sym heard) after)

  rest_holds : (m : Machine K) (e : Entry) (built : Bool) → m.work ≡ [] → Holding app lawful Q m.state [] → if_live m.state (if built then due_heard app m (waiting m) else Some Build) ≡ Some e → HoldingOn app lawful Q (change_by app m [] e)
  rest_holds m e true none h due_is = heard_holds m (waiting m) e none h refl due_is
  rest_holds m e false none h due_is =
      let found = live_due app m.state Build e due_is in
      subst (λ (x : Entry). HoldingOn app lawful Q (change_by app m [] x)) (sym found.0) (ended app lawful Q (record m { built = true; unit = true }) None [] (run app m.state 0) (run_alone app lawful Q m.state 0 h))

  -- an entry, by the open work
  logged_holds : (m : Machine K) (work : List (Item K)) (e : Entry) → m.work ≡ work → m.dead ≡ None → (m.work ≡ [] ⊎ AtWork m) → IsSettled m → due app m ≡ Some e → IsRooted m.state → Stands m.state work → Woven m.state work → Holding app lawful Q m.state work
      → WovenOn (change_by app m work e)
      → HoldingOn app lawful Q (change_by app m work e)
  logged_holds m [] e none alive state settled due_is r st woven h after =
      rest_holds m e m.built none h
      (
      sym
      (ap (λ (o : Option Fault). if_live m.state (elim o as (λ z. Option Entry) [ None ↦ (if m.built then due_item app m m.work else Some Build) | Some f ↦ None ])) alive
      ∙ ap (λ (items : List (Item K)). if_live m.state (if m.built then due_item app m items else Some Build)) none)
      ∙ due_is
      )
  logged_holds m (item ∷ rest) e first alive (inl none) settled due_is r st woven h after = let absurdity : item ∷ rest ≡ [] = sym first ∙ none in cc
  logged_holds m (Draw s a p k ∷ rest) e first alive (inr w) settled due_is r st woven h after = unsettled m (Draw s a p k ∷ rest) alive first refl settled
  logged_holds m (Row b step ∷ rest) e first alive (inr w) settled due_is r st woven h after = unsettled m (Row b step ∷ rest) alive first refl settled
  logged_holds m (Make s a p c ∷ rest) e first alive (inr w) settled due_is r st woven h after =
      let due_now : if_live m.state (due_item app m (Make s a p c ∷ rest)) ≡ Some e = sym (due_at_work app m (Make s a p c ∷ rest) w first) ∙ due_is in
      let found = made_due app m.state (is_live m.state s) m.state.next_scope e due_now in
      subst (λ (x : Entry). HoldingOn app lawful Q (change_by app m (Make s a p c ∷ rest) x)) (sym found.1) (make_holds app lawful Q m rest s a p c found.0 r st woven h)
  logged_holds m (Feed s a p c ∷ rest) e first alive (inr w) settled due_is r st woven h after =
      let due_now : if_live m.state (due_item app m (Feed s a p c ∷ rest)) ≡ Some e = sym (due_at_work app m (Feed s a p c ∷ rest) w first) ∙ due_is in
      let found = fed_due app m.state c (fed_child m.state s a p) e due_now in
      subst (λ (x : Machine K). HoldingOn app lawful Q x)
      (sym (fed_change app m s a p c rest found.0 (keeps app m.state found.0 c)) ∙ ap (λ (x : Entry). change_by app m (Feed s a p c ∷ rest) x) (sym found.2))
      (feed_holds app lawful Q m rest s a p c r st woven h)
  logged_holds m (Drop top parent a ∷ rest) e first alive (inr w) settled due_is r st woven h after =
      let due_now : if_live m.state (due_item app m (Drop top parent a ∷ rest)) ≡ Some e = sym (due_at_work app m (Drop top parent a ∷ rest) w first) ∙ due_is in
      let found = live_due app m.state (Removed (next_removed m.state top)) e due_now in
      subst (λ (x : Entry). HoldingOn app lawful Q (change_by app m (Drop top parent a ∷ rest) x)) (sym found.0)
      (drop_holds app lawful Q m rest top parent a h (subst (λ (x : Entry). WovenOn (change_by app m (Drop top parent a ∷ rest) x)) found.0 after))

  move_holds : (limits : Limits) (m u : Machine K) (move : Move) → Moves app limits m move u → ReadyAt app lawful m → ReadyAt app lawful u → m.dead ≡ None → Holding app lawful Q m.state m.work → HoldingOn app lawful Q u
  move_holds limits m u Silent move ready after alive h =
      let woven : Woven m.state (move.item ∷ move.later) = subst (λ (items : List (Item K)). Woven m.state items) move.next (ready.woven alive) in
      let now : Holding app lawful Q m.state (move.item ∷ move.later) = subst (λ (items : List (Item K)). Holding app lawful Q m.state items) move.next h in
      subst (λ (x : Machine K). HoldingOn app lawful Q x) (sym move.gives) (silent_holds app lawful Q m move.item move.later move.silent woven now)
  move_holds limits m u Closed move ready after alive h =
      let v : State K = mounted_state m.state in
      subst (λ (x : Machine K). HoldingOn app lawful Q x) (sym move.gives)
      (λ still. calm_holding app lawful Q m.state v m.work (quiet_calm None m.state.next.cells m.state v (mounted_quiet m.state)) (calm_twigs m.state v (mounted_stay m.state) (mounted_later m.state)) h)
  move_holds limits m u (Logged e) move ready after alive h =
      subst (λ (x : Machine K). HoldingOn app lawful Q x) (sym move.gives)
      (logged_holds m m.work e refl alive (work_state app lawful m m.work refl alive (ready.idle alive)) move.settled move.due_is ready.sound.rooted (ready.sound.stands alive) (ready.woven alive) h
      (subst (λ (x : Machine K). WovenOn x) move.gives after.woven))

  pub moves_hold : (limits : Limits) (m v : Machine K) (moves : List Move) → Leads app limits m moves v → ReadyAt app lawful m → HoldingOn app lawful Q m → HoldingOn app lawful Q v
  moves_hold limits m v [] leads ready h = subst (λ (x : Machine K). HoldingOn app lawful Q x) (sym leads) h
  moves_hold limits m v (move ∷ moves) leads ready h =
      let u : Machine K = leads.0 in
      let after : ReadyAt app lawful u = move_ready app lawful limits m u move leads.1 ready in
      moves_hold limits u v moves leads.2 after
      (λ alive. let here : m.dead ≡ None = alive_before app limits m u (move ∷ []) m.dead refl (u, leads.1, refl) alive in move_holds limits m u move leads.1 ready after here (h here) alive)

  -- the build

  module _ (props : K.Props) (firsts : Firsts) (contexts : List (ℕ × K.Value)) (above : 0 < firsts.elements) where
    abbrev root : Scope K
    root = first_scope app props contexts

    abbrev first : State K
    first = (start_at app props firsts contexts []).state

    first_here : at first.scopes 0 ≡ Some root
    first_here = at_here 0 root [] 0 (eq_same 0)

    first_other : (t : ℕ) → nat_eq 0 t ≡ false → at first.scopes t ≡ None
    first_other t q = at_there 0 root [] t q

    no_kids : (s : ℕ) (a : SideName) → kids first s a ≡ []
    no_kids s a =
        by_test (nat_eq 0 s)
        (
        λ q.
        ap (λ (i : ℕ). kids first i a) (sym (eqb-true 0 s q))
        ∙ ap (λ (z : Side K). z.children) (side_found first 0 a root first_here)
        ∙ ap (λ (z : Side K). z.children) (first_sides app props contexts a)
        )
        (λ q. ap (λ (o : Option (Scope K)). (twig_side a (twig o)).children) (first_other s q))

    first_kinds : Kinds first []
    first_kinds =
        record {
          kids_fit = λ s t a p c b e d q. let absurdity : None ≡ Some t = sym (ap (λ (xs : List (Place × ℕ)). child_at xs p) (no_kids s a)) ∙ e in cc;
          placed = tt;
        }

    no_holders : (t : ℕ) → holders_of (at first.scopes t) ≡ []
    no_holders t =
        by_test (nat_eq 0 t)
        (λ q. ap (λ (i : ℕ). holders_of (at first.scopes i)) (sym (eqb-true 0 t q)) ∙ ap (λ (o : Option (Scope K)). holders_of o) first_here)
        (λ q. ap (λ (o : Option (Scope K)). holders_of o) (first_other t q))

    first_orderly : Orderly first
    first_orderly =
        record {
          holders = λ t. subst (λ (hs : List (ℕ × ℕ)). AllByRecursion (λ (d : ℕ × ℕ). is_some (at first.tasks d.0) ≡ true) hs) (sym (no_holders t)) tt;
          unique = (refl, tt);
        }

    first_scheduled : Scheduled app lawful Q first
    first_scheduled = record { seen = λ s h. let absurdity : false ≡ true = h in cc; queued = λ t h. let absurdity : false ≡ true = h in cc; passed = λ s h. let absurdity : false ≡ true = h in cc }

    first_run : HoldingO app lawful Q [] (run app first 0)
    first_run =
        run_holding app lawful Q first [] 0 root first_here refl
        (λ t y q e. let absurdity : None ≡ Some y = sym (first_other t q) ∙ e in cc)
        (λ true_is. let absurdity : false ≡ true = true_is in cc)
        tt first_kinds first_orderly first_scheduled

    first_entry : (inputs : List (Input K)) (e : Entry) → due app (start_at app props firsts contexts inputs) ≡ Some e
        → HoldingOn app lawful Q (change_by app (start_at app props firsts contexts inputs) [] e)
    first_entry inputs e due_is =
        let m : Machine K = start_at app props firsts contexts inputs in
        let found = live_due app m.state Build e due_is in
        subst (λ (x : Entry). HoldingOn app lawful Q (change_by app m [] x)) (sym found.0) (ended app lawful Q (record m { built = true; unit = true }) None [] (run app first 0) first_run)

    -- after the first move from the start it holds
    pub begun_holds : (limits : Limits) (inputs : List (Input K)) (v : Machine K) (move : Move) (moves : List Move) → Leads app limits (start_at app props firsts contexts inputs) (move ∷ moves) v
        → HoldingOn app lawful Q v
    begun_holds limits inputs v Silent moves leads = let move = leads.1 in let absurdity : [] ≡ move.item ∷ move.later = move.next in cc
    begun_holds limits inputs v Closed moves leads = let move = leads.1 in let absurdity : false ≡ true = move.at_work in cc
    begun_holds limits inputs v (Logged e) moves leads =
        let m : Machine K = start_at app props firsts contexts inputs in
        let move = leads.1 in
        let u : Machine K = leads.0 in
        let after : ReadyAt app lawful u = move_ready app lawful limits m u (Logged e) move (begun_ready app lawful props firsts contexts inputs above) in
        let now : HoldingOn app lawful Q u = subst (λ (x : Machine K). HoldingOn app lawful Q x) (sym move.gives) (first_entry inputs e move.due_is) in
        moves_hold limits u v moves leads.2 after now

    -- from the start on: nothing has happened, or it holds
    from_start : (limits : Limits) (inputs : List (Input K)) (v : Machine K) (moves : List Move) → Leads app limits (start_at app props firsts contexts inputs) moves v
        → (v ≡ start_at app props firsts contexts inputs) ⊎ HoldingOn app lawful Q v
    from_start limits inputs v [] leads = inl leads
    from_start limits inputs v (move ∷ moves) leads = inr (begun_holds limits inputs v move moves leads)

  all_marked_quiet : (es : List (ℕ × Scope K)) (w : State K) → Quiet w (all_marked_now es w)
  all_marked_quiet [] w = quiet_refl w
  all_marked_quiet (e ∷ es) w = let v : State K = marked_now w e.0 in quiet_then w v (all_marked_now es v) (look_on_quiet (Mark e.0 ∷ []) w) (all_marked_quiet es v)

  -- a call that logs no entry heeds all scopes
  aside_calm : (w : State K) (a : Aside K) → PassesNone a → Allowed w a → Calm None w.next.cells w (aside_state app w a)
  aside_calm w (Asked s next cs) p h = called_calm app lawful w.next.cells w s None (asks app s (Asked s next cs)) (no_fall w) h
  aside_calm w (Marked s) p h = quiet_calm None w.next.cells w (marked_now w s) (look_on_quiet (Mark s ∷ []) w)
  aside_calm w AllMarked p h = quiet_calm None w.next.cells w (all_marked_now w.scopes w) (all_marked_quiet w.scopes w)
  aside_calm w Looked p h = quiet_calm None w.next.cells w (look w) (look_quiet w)
  aside_calm w Thinned p h = quiet_calm None w.next.cells w (drops w.queued w) (drops_quiet w.queued w)
  aside_calm w Rested p h = quiet_calm None w.next.cells w (at_rest w) (rest_quiet w)
  aside_calm w (Raised name payload element bubbles prevented) p h = calm_refl None w.next.cells w
  aside_calm w Passed p h = absurd p
  aside_calm w Polling p h = absurd p
  aside_calm w (Advanced t) p h = advanced_calm app lawful w.next.cells w t (no_fall w)
  aside_calm w Answered p h = quiet_calm None w.next.cells w (nothing_resolved w) (quiet_rest w (nothing_resolved w) refl refl refl refl refl refl refl refl (no_fall w))

  calm_holds : (w : State K) (work : List (Item K)) (a : Aside K) → PassesNone a → Allowed w a → Holding app lawful Q w work → Holding app lawful Q (aside_state app w a) work
  calm_holds w work a p h held =
      calm_holding app lawful Q w (aside_state app w a) work (aside_calm w a p h) (calm_twigs w (aside_state app w a) (aside_stay app lawful w a h) (aside_later app lawful w a h)) held

  state_holds : (w : State K) (work : List (Item K)) (a : Aside K) → PassesNone a ⊎ Q → Allowed w a → Holding app lawful Q w work → Holding app lawful Q (aside_state app w a) work
  state_holds w work (Asked s next cs) k h held = calm_holds w work (Asked s next cs) tt h held
  state_holds w work (Marked s) k h held = calm_holds w work (Marked s) tt h held
  state_holds w work AllMarked k h held = calm_holds w work AllMarked tt h held
  state_holds w work Looked k h held = calm_holds w work Looked tt h held
  state_holds w work Thinned k h held = calm_holds w work Thinned tt h held
  state_holds w work Rested k h held = calm_holds w work Rested tt h held
  state_holds w work (Raised name payload element bubbles prevented) k h held =
      calm_holds w work (Raised name payload element bubbles prevented) tt h held
  state_holds w work Passed (inl none) h held = absurd none
  state_holds w work Passed (inr known) h held = rendering_holds app lawful Q known w work held
  state_holds w work Polling (inl none) h held = absurd none
  state_holds w work Polling (inr known) h held = polling_holds app lawful Q known w work held
  state_holds w work Answered k h held = calm_holds w work Answered tt h held
  state_holds w work (Advanced t) k h held = calm_holds w work (Advanced t) tt h held

  aside_holds : (m u : Machine K) (a : Aside K) → PassesNone a ⊎ Q → IsAside app m a u → HoldingOn app lawful Q m → HoldingOn app lawful Q u
  aside_holds m u a k h held =
      let w : State K = m.state in
      let v : State K = aside_state app w a in
      let b : Beside app lawful m u v = beside app lawful m u a h in
      λ alive.
      subst (λ (xs : List (Item K)). Holding app lawful Q u.state xs) (sym b.work)
      (subst (λ (x : State K). Holding app lawful Q x m.work) (sym b.state)
      (state_holds w m.work a k h.allowed (held (sym b.dead ∙ alive))))

  -- on a program's way: nothing has happened yet, or it holds
  record OnWay (props : K.Props) (firsts : Firsts) (contexts : List (ℕ × K.Value)) (inputs : List (Input K)) (m : Machine K) : Type 0 where
    above : 0 < firsts.elements
    ready : ReadyAt app lawful m
    holds : (m ≡ start_at app props firsts contexts inputs) ⊎ HoldingOn app lawful Q m

  moved_way : (limits : Limits) (props : K.Props) (firsts : Firsts) (contexts : List (ℕ × K.Value)) (inputs : List (Input K)) (m v : Machine K) (moves : List Move) → Leads app limits m moves v → OnWay props firsts contexts inputs m → OnWay props firsts contexts inputs v
  moved_way limits props firsts contexts inputs m v moves leads h =
      record {
        above = h.above;
        ready = moves_ready app lawful limits m v moves leads h.ready;
        holds =
            elim h.holds [
              | inl same ↦ from_start props firsts contexts h.above limits inputs v moves (subst (λ (x : Machine K). Leads app limits x moves v) same leads)
              | inr held ↦ inr (moves_hold limits m v moves leads h.ready held)
            ];
      }

  aside_way : (props : K.Props) (firsts : Firsts) (contexts : List (ℕ × K.Value)) (inputs : List (Input K)) (m v : Machine K) (a : Aside K) → PassesNone a ⊎ Q → IsAside app m a v → OnWay props firsts contexts inputs m → OnWay props firsts contexts inputs v
  aside_way props firsts contexts inputs m v a k is h =
      record {
        above = h.above;
        ready = aside_ready app lawful m v a is h.ready;
        holds =
            elim h.holds [
              | inl same ↦ let absurdity : false ≡ true = sym (ap (λ (x : Machine K). x.built) same) ∙ is.built in cc
              | inr held ↦ inr (aside_holds m v a k is held)
            ];
      }

  this_one : (a : Aside K) (parts : List (Part K)) → NonePassed (ByAside a ∷ parts) ⊎ Q → (PassesNone a ⊎ Q) × (NonePassed parts ⊎ Q)
  this_one a parts (inl none) = (inl none.0, inl none.1)
  this_one a parts (inr known) = (inr known, inr known)

  parts_hold : (limits : Limits) (props : K.Props) (firsts : Firsts) (contexts : List (ℕ × K.Value)) (inputs : List (Input K)) (parts : List (Part K)) (m v : Machine K) → NonePassed parts ⊎ Q → Comes app limits m parts v → OnWay props firsts contexts inputs m → OnWay props firsts contexts inputs v
  parts_hold limits props firsts contexts inputs [] m v k comes h = subst (λ (x : Machine K). OnWay props firsts contexts inputs x) (sym comes) h
  parts_hold limits props firsts contexts inputs (ByMoves moves ∷ parts) m v k comes h =
      parts_hold limits props firsts contexts inputs parts comes.0 v k comes.2 (moved_way limits props firsts contexts inputs m comes.0 moves comes.1 h)
  parts_hold limits props firsts contexts inputs (ByAside a ∷ parts) m v k comes h =
      let both = this_one a parts k in
      parts_hold limits props firsts contexts inputs parts comes.0 v both.1 comes.2 (aside_way props firsts contexts inputs m comes.0 a both.0 comes.1 h)

  -- once the build has begun it holds wherever moves lead, and calls that log no entry, until a fault ends the run
  pub reached_holds : (limits : Limits) (props : K.Props) (inputs : List (Input K)) (m : Machine K) → (reached : Reached app limits props inputs m) → NonePassed reached.parts ⊎ Q → m.built ≡ true → m.dead ≡ None
      → Holding app lawful Q m.state m.work
  reached_holds limits props inputs m reached k built alive =
      let h : OnWay props reached.firsts reached.contexts inputs m =
      parts_hold limits props reached.firsts reached.contexts inputs reached.parts (start_at app props reached.firsts reached.contexts inputs) m k reached.comes
      (record { above = reached.above; ready = begun_ready app lawful props reached.firsts reached.contexts inputs reached.above; holds = inl refl }) in
      elim h.holds [
        | inl same ↦ let absurdity : false ≡ true = sym (ap (λ (x : Machine K). x.built) same) ∙ built in cc
        | inr held ↦ held alive
      ]
