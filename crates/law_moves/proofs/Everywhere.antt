-- Wherever moves lead the open work fits the tree, so what it names is there.
use Rattle.std.proofs.Common.{ℕ, ◌+◌, ◌<◌, Bool, true, false, not, List, [], ◌∷◌, ◌++◌, ◌≡◌, ◌⊎◌, inl, inr, refl, sym, ap, ◌∙◌, subst, arith, nat_eq}
use Rattle.std.specs.Prelude.{Option, Some, None, is_some, if◌then◌else◌}
use Rattle.std.specs.List.{AllByRecursion}
use Rattle.std.proofs.lemmas.Bool.{eqb-true}
use Rattle.rt_model.specs.Lists.{at}
use Rattle.rt_model.specs.Tree.{Types, Place, VComponent, component_at}
use Rattle.rt_model.specs.World.{Scopes, Elements, at_end, Firsts, CallFault, Event, World, Meaning, Application}
use Rattle.rt_model.specs.Laws.{IsNumbered, IsLawful}
use Rattle.rt_model.specs.State.{SideName, FallbackSide, RowStep, Fault, IdsExhausted, Side, Scope, State, Item, Draw, Row, Feed, Make, Drop, Outcome, Done, Cut, onward, side_of, empty_side, change, is_live, height_of, world_of, effects_of}
use Rattle.rt_model.specs.Commands.{commands, unqueued}
use Rattle.rt_model.specs.Next.{Work, RerunScope, PollTask, RunEffects, at_rest, next}
use Rattle.rt_model.specs.Run.{child_at, spots_of, fault_of, with_next, called_once, acted, run}
use Rattle.rt_model.specs.Boundary.{boundary_step}
use Rattle.rt_model.specs.Removal.{next_removed, removed}
use Rattle.rt_model.specs.Heard.{Listener}
use Rattle.rt_model.specs.Replay.{Entry, Build, Taken, Heard, Rerun, Poll, Effects, Removed, Input, Machine, ended_by, numbered, mounted_state, if_live, waiting, then_looked, take_next, one_more_unit, fed_child, keeps, due_item, due_heard, due_work, due, made_in, with_new_scope, with_props, handed, outcome_of, polled, batch, effects_run, further, heard_event, heard_first, rested, dropped, change_by}
use Rattle.rt_model.specs.Causes.{Limits}
use Rattle.rt_model.specs.Framed.{TookOne}
use Rattle.rt_model.specs.Lasting.{IsRooted}
use Rattle.rt_model.proofs.Maps.{by_test, pick_true, pick_false}
use Rattle.rt_model.proofs.Among.{Among}
use Rattle.rt_model.proofs.RunFrames.{Later, LaterO}
use Rattle.rt_model.proofs.MachineFrames.{mounted_later, rest_later, take_next_later, polled_later, effects_later, heard_event_later}
use Rattle.rt_model.proofs.SideFrames.{Stay, stay_trans, stay_rest, stay_refl}
use Rattle.rt_model.proofs.SideRuns.{StayO, rest_stay, mounted_stay, called_stay, polled_stay, effects_stay}
use Rattle.rt_model.proofs.Stands.{Stands}
use Rattle.rt_model.proofs.SideChanges.{made_stands}
use Rattle.rt_model.proofs.NumbersRun.{Idle as IdleO, polled_idle}
use Rattle.rt_model.proofs.NumbersStand.{Sound}
use Rattle.law_moves.proofs.Begun.{first_sides, begun_sound}
use Rattle.rt_model.proofs.Begun.{then_looked_calm, take_next_calm}
use Rattle.rt_model.proofs.TakesOne.{removal_takes_one}
use Rattle.law_moves.specs.Moves.{Move, Silent, Closed, Logged, is_silent, IsSettled, AtWork, Moves, Leads}
use Rattle.law_moves.specs.Reached.{first_scope, start_at, Reached}
use Rattle.rt_model.specs.Asides.{Aside as AsideCall, aside_state}
use Rattle.law_moves.specs.Asides.{IsAside}
use Rattle.law_moves.proofs.Asides.{aside_stay, aside_later, Beside, beside}
use Rattle.law_moves.proofs.Ways.{reached_keep}
use Rattle.law_moves.proofs.OneMoveOnly.{unsettled}
use Rattle.law_moves.proofs.Items.{due_at_work}
use Rattle.law_moves.proofs.Insides.{alive_before, live_due, made_due, fed_due, fed_change}
use Rattle.law_moves.proofs.Always.{Steady, Outlasts, at_work_where, take_work, heard_work, moves_last}
use Rattle.law_moves.proofs.Woods.{side_apart, move_sound, aside_sound}
use Rattle.law_moves.specs.Named.{Named}
use Rattle.law_moves.specs.Ready.{ReachedAreNamed}
use Rattle.law_moves.proofs.Twigs.{twig, twig_up, twig_side, twig_side_is, kids, SameTwigs, by_scope, up_height}
use Rattle.law_moves.proofs.Woven.{owner, After, Woven, Whole, whole_woven, idle_whole, woven_whole, goes_whole, woven_same, whole_same}
use Rattle.law_moves.proofs.Patched.{Aside, Idle}
use Rattle.law_moves.proofs.Made.{made_whole, made_idle}
use Rattle.law_moves.proofs.Taken.{empty_spots, LeafOf, leaf_found, below_went, itself_went}
use Rattle.law_moves.proofs.Opens.{calm_twigs}
use Rattle.law_moves.proofs.Weaves.{WholeO, Knows, knows_of, knows_same, idle_same, run_whole, step_whole, numbered_twigs, props_twigs}

module _ {K : Types} where
  -- where a change isn't cut the open work fits the tree
  abbrev pub WovenO : List (Item K) → Outcome K → Type 0
  WovenO rest (Done v work) = Woven v (work ++ rest)
  WovenO rest (Cut v fault) = Unit {0}

  whole_outcome : (rest : List (Item K)) (o : Outcome K) → WholeO rest o → WovenO rest o
  whole_outcome rest (Done v work) h = whole_woven v (work ++ rest) h
  whole_outcome rest (Cut v fault) h = tt

  -- the work of a machine fits its tree, unless a fault ended the run
  abbrev pub WovenOn : Machine K → Type 0
  WovenOn m = m.dead ≡ None → Woven m.state m.work

  ended_on : (m : Machine K) (item : Option (Item K)) (rest : List (Item K)) (o : Outcome K) → WovenO rest o → WovenOn (ended_by m item rest o)
  ended_on m item rest (Done v work) h = λ alive. h
  ended_on m item rest (Cut v fault) h = λ alive. let absurdity : Some fault ≡ None = alive in cc

  pub calm_whole : (w : State K) (rest : List (Item K)) (o : Outcome K) → StayO w o → LaterO w o → IdleO o → Whole w rest → WholeO rest o
  calm_whole w rest (Done v work) stay later idle h =
      subst (λ (xs : List (Item K)). Whole v (xs ++ rest)) (sym idle) (whole_same w v (calm_twigs w v stay later) rest h)
  calm_whole w rest (Cut v fault) stay later idle h = tt

  number_whole : (w v : State K) (rest : List (Item K)) (fault : Fault) (b : Bool) → Whole v rest → WholeO rest (if b then Cut w fault else Done v [])
  number_whole w v rest fault true h = tt
  number_whole w v rest fault false h = h

  -- behind a step come steps alone
  step_aside : (w : State K) (b : ℕ) (step : RowStep) (j : Item K) → After w (Row b step) j → Aside w b j
  step_aside w b step j (inl low) = inl low
  step_aside w b step (Row c other) (inr same) = inr (same.0, tt)
  step_aside w b step (Draw s a p k) (inr same) = absurd same.1
  step_aside w b step (Feed s a p c) (inr same) = absurd same.1
  step_aside w b step (Make s a p c) (inr same) = absurd same.1
  step_aside w b step (Drop t s a) (inr same) = absurd same.1

  pub steps_idle : (w : State K) (b : ℕ) (step : RowStep) (rest : List (Item K)) → AllByRecursion (λ (j : Item K). After w (Row b step) j) rest → Idle w b rest
  steps_idle w b step [] h = tt
  steps_idle w b step (j ∷ rest) h = (step_aside w b step j h.0, steps_idle w b step rest h.1)

  -- what comes behind a feed is less high than the child
  feed_aside : (w : State K) (s t : ℕ) (a : SideName) (p : Place) (c : VComponent K) (j : Item K) → height_of w.scopes t ≡ height_of w.scopes s + 1 → After w (Feed s a p c) j → Aside w t j
  feed_aside w s t a p c j step (inl low) = inl (omega (arith, low, step))
  feed_aside w s t a p c j step (inr same) = let level : height_of w.scopes (owner j) ≡ height_of w.scopes s = ap (λ (n : ℕ). height_of w.scopes n) same.0 in inl (omega (arith, level, step))

  pub feeds_idle : (w : State K) (s t : ℕ) (a : SideName) (p : Place) (c : VComponent K) (rest : List (Item K)) → height_of w.scopes t ≡ height_of w.scopes s + 1
      → AllByRecursion (λ (j : Item K). After w (Feed s a p c) j) rest
      → Idle w t rest
  feeds_idle w s t a p c [] step h = tt
  feeds_idle w s t a p c (j ∷ rest) step h = (feed_aside w s t a p c j step h.0, feeds_idle w s t a p c rest step h.1)

  fed_or : (a : SideName) (p : Place) (o : Option (Scope K)) → elim o as (λ z. Option ℕ) [ None ↦ None | Some x ↦ child_at (side_of x a).children p ] ≡ child_at (twig_side a (twig o)).children p
  fed_or a p None = refl
  fed_or a p (Some x) = sym (ap (λ (i : Side K). child_at i.children p) (twig_side_is x a))

  pub fed_kid : (w : State K) (s : ℕ) (a : SideName) (p : Place) → fed_child w s a p ≡ child_at (kids w s a) p
  fed_kid w s a p = fed_or a p (at w.scopes s)

module _ {K : Types} (app : Application K) (lawful : IsLawful K app) where
  -- an item that needs no entry
  silent_on : (m : Machine K) (item : Item K) (rest : List (Item K)) → is_silent item ≡ true → IsRooted m.state → Stands m.state (item ∷ rest) → Woven m.state (item ∷ rest)
      → WovenOn (ended_by m (Some item) rest (outcome_of app m.state item))
  silent_on m (Draw s side p k) rest silent r st h =
      let w : State K = m.state in
      let v : State K = numbered w s side p k in
      let now : Whole v rest = whole_same w v (numbered_twigs w s side p k) rest (goes_whole w (Draw s side p k) rest tt h) in
      let o : Outcome K = outcome_of app w (Draw s side p k) in
      ended_on m (Some (Draw s side p k)) rest o (whole_outcome rest o (number_whole w v rest (IdsExhausted Elements) (at_end w.next.elements) now))
  silent_on m (Row b step) rest silent r st h =
      let w : State K = m.state in
      let o : Outcome K = boundary_step app w b step in
      ended_on m (Some (Row b step)) rest o
      (whole_outcome rest o
      (step_whole app lawful w rest b step (knows_of w (Row b step ∷ rest) st) (goes_whole w (Row b step) rest tt h) (steps_idle w b step rest h.stack.2)
      (λ x found. side_apart w (Row b step ∷ rest) r st b x FallbackSide found)))
  silent_on m (Feed s side p c) rest silent r st h = cc
  silent_on m (Make s side p c) rest silent r st h = cc
  silent_on m (Drop t s side) rest silent r st h = cc

  made_outcome : (w : State K) (rest : List (Item K)) (s : ℕ) (a : SideName) (p : Place) (c : VComponent K) (x : Scope K) (b : Bool) → at w.scopes s ≡ Some x → IsRooted w → Stands w (Make s a p c ∷ rest) → Woven w (Make s a p c ∷ rest)
      → WholeO rest (if b then Cut w (IdsExhausted Scopes) else run app (with_new_scope w s a p c x) w.next_scope)
  made_outcome w rest s a p c x true found r st h = tt
  made_outcome w rest s a p c x false found r st h =
      let fresh : at w.scopes w.next_scope ≡ None = r.drawn w.next_scope (omega arith) in
      let v : State K = with_new_scope w s a p c x in
      let before : Whole w (Make s a p c ∷ rest) = woven_whole w (Make s a p c) rest tt h in
      run_whole app lawful v rest w.next_scope (knows_of v rest (made_stands w rest s a p c x st found fresh))
      (made_whole w s a p c x found fresh rest before)
      (made_idle w s a p c x found fresh rest before)

  make_on : (m : Machine K) (rest : List (Item K)) (s : ℕ) (a : SideName) (p : Place) (c : VComponent K) → is_live m.state s ≡ true → IsRooted m.state → Stands m.state (Make s a p c ∷ rest) → Woven m.state (Make s a p c ∷ rest)
      → WovenOn (ended_by m (Some (Make s a p c)) rest (outcome_of app m.state (Make s a p c)))
  make_on m rest s a p c live r st h =
      let w : State K = m.state in
      let o : Outcome K = outcome_of app w (Make s a p c) in
      ended_on m (Some (Make s a p c)) rest o
      (whole_outcome rest o
      (by_scope (at w.scopes s)
      (λ none. let absurdity : true ≡ false = sym live ∙ ap (λ (z : Option (Scope K)). is_some z) none in cc)
      (
      λ x found.
      subst (λ (z : Option (Scope K)). WholeO rest (elim z as (λ i. Outcome K) [ None ↦ Done w [] | Some y ↦ made_in app w s a p c y ])) (sym found)
      (made_outcome w rest s a p c x (at_end w.next_scope) found r st h)
      )))

  handed_outcome : (w : State K) (rest : List (Item K)) (t : ℕ) (c : VComponent K) (b : Bool) → Knows w → Whole w rest → Idle w t rest → WholeO rest (if b then Done (with_props app w t c) [] else run app (with_props app w t c) t)
  handed_outcome w rest t c true k h idle = whole_same w (with_props app w t c) (props_twigs app w t c) rest h
  handed_outcome w rest t c false k h idle =
      let v : State K = with_props app w t c in
      let same : SameTwigs w v = props_twigs app w t c in
      run_whole app lawful v rest t (knows_same w v same k) (whole_same w v same rest h) (idle_same w v t rest same idle)

  feed_on : (m : Machine K) (rest : List (Item K)) (s : ℕ) (a : SideName) (p : Place) (c : VComponent K) → IsRooted m.state → Stands m.state (Feed s a p c ∷ rest) → Woven m.state (Feed s a p c ∷ rest)
      → WovenOn (ended_by m (Some (Feed s a p c)) rest (outcome_of app m.state (Feed s a p c)))
  feed_on m rest s a p c r st h =
      let w : State K = m.state in
      let o : Outcome K = outcome_of app w (Feed s a p c) in
      let kid = h.stack.1 in
      let k : Knows w = knows_of w (Feed s a p c ∷ rest) st in
      let step : height_of w.scopes kid.0 ≡ height_of w.scopes s + 1 =
      up_height w (Feed s a p c ∷ rest) r st kid.0 s (k.parents s kid.0 a p kid.1 kid.2).0 h.stack.0 in
      ended_on m (Some (Feed s a p c)) rest o
      (whole_outcome rest o
      (subst (λ (z : Option ℕ). WholeO rest (elim z as (λ i. Outcome K) [ None ↦ Done w [] | Some t ↦ handed app w t c ])) (sym (fed_kid w s a p ∙ kid.1))
      (handed_outcome w rest kid.0 c (keeps app w kid.0 c) k (goes_whole w (Feed s a p c) rest tt h) (feeds_idle w s kid.0 a p c rest step h.stack.2))))

  -- a removal, by what is left where it isn't cut
  gone_on : (m : Machine K) (item : Item K) (rest : List (Item K)) (l : ℕ) (o : Outcome K) → removed app m.state l ≡ o → ((v : State K) → TookOne m.state l v → Woven v rest) → WovenOn (ended_by m (Some item) rest o)
  gone_on m item rest l (Done v work) is f =
      let took = removal_takes_one app lawful m.state v l work is in
      λ alive. subst (λ (xs : List (Item K)). Woven v (xs ++ rest)) (sym took.0) (f v took.1)
  gone_on m item rest l (Cut v fault) is f = λ alive. let absurdity : Some fault ≡ None = alive in cc

  drop_on : (m : Machine K) (rest : List (Item K)) (top parent : ℕ) (a : SideName) → IsRooted m.state → Stands m.state (Drop top parent a ∷ rest) → Woven m.state (Drop top parent a ∷ rest)
      → WovenOn (dropped app m (next_removed m.state top) top (Drop top parent a) rest)
  drop_on m rest top parent a r st h =
      let w : State K = m.state in
      let item : Item K = Drop top parent a in
      let l : ℕ = next_removed w top in
      let o : Outcome K = removed app w l in
      let leaf : LeafOf w top l = leaf_found w (item ∷ rest) r st top in
      by_test (nat_eq l top)
      (
      λ q.
      subst (λ (x : Machine K). WovenOn x) (sym (pick_true (ended_by m (Some item) rest o) (ended_by m (Some item) (item ∷ rest) o) q))
      (gone_on m item rest l o refl (λ v took. itself_went w (item ∷ rest) r st v l top parent a rest h leaf took (eqb-true l top q)))
      )
      (
      λ q.
      subst (λ (x : Machine K). WovenOn x) (sym (pick_false (ended_by m (Some item) rest o) (ended_by m (Some item) (item ∷ rest) o) q))
      (gone_on m item (item ∷ rest) l o refl (λ v took. below_went w (item ∷ rest) r st v l top parent a rest h leaf took q))
      )

  onward_quiet : (o : Outcome K) (f : State K → Outcome K) → ((v : State K) → IdleO (f v)) → IdleO (onward o f)
  onward_quiet (Done v work) f h = h v
  onward_quiet (Cut v fault) f h = tt

  pub batch_quiet : (w : State K) (s : ℕ) (es : List K.Effect) → IdleO (batch app w s es)
  batch_quiet w s [] = refl
  batch_quiet w s (e ∷ es) = onward_quiet (acted app w s e false) (λ v. batch app v s es) (λ v. batch_quiet v s es)

  -- the build or a unit has begun, and what its first call leads to is open
  pub begun_on : (m : Machine K) (o : Outcome K) → WholeO [] o → WovenOn (ended_by m None [] o)
  begun_on m o h = ended_on m None [] o (whole_outcome [] o h)

  -- the state as the test for what is next left it
  pub rested_whole : (w : State K) → Whole w [] → Whole (at_rest w) []
  rested_whole w h = whole_same w (at_rest w) (calm_twigs w (at_rest w) (rest_stay w) (rest_later w)) [] h

  pub rested_knows : (w : State K) → Knows w → Knows (at_rest w)
  rested_knows w k = knows_same w (at_rest w) (calm_twigs w (at_rest w) (rest_stay w) (rest_later w)) k

  -- a machine whose tree is the same and that has no open work
  calm_on : (m u : Machine K) → u.work ≡ [] → Stay m.state u.state → Later m.state u.state → Whole m.state [] → WovenOn u
  calm_on m u none stay later h =
      λ alive.
      subst (λ (xs : List (Item K)). Woven u.state xs) (sym none) (whole_woven u.state [] (whole_same m.state u.state (calm_twigs m.state u.state stay later) [] h))

  heard_stays_at : (m : Machine K) (l : Listener K) (ls : List (Listener K)) (meaning : Meaning K (Event K)) (o : Option CallFault) → IsNumbered m.state.next meaning.commands meaning.next
      → (elim o as (λ z. Machine K) [
        | None ↦
            then_looked
            (record m {
              state = commands app (with_next m.state meaning.next) l.origin None meaning.commands;
              event = Some meaning.answer;
              default_enabled = not meaning.answer.prevented;
              listeners = further app m meaning.answer ls;
            })
        | Some f ↦ record m { state = with_next m.state meaning.next; listeners = ls; dead = Some (fault_of f); refused = None }
      ]).dead ≡ None
      → Stay m.state (elim o as (λ z. Machine K) [
        | None ↦
            then_looked
            (record m {
              state = commands app (with_next m.state meaning.next) l.origin None meaning.commands;
              event = Some meaning.answer;
              default_enabled = not meaning.answer.prevented;
              listeners = further app m meaning.answer ls;
            })
        | Some f ↦ record m { state = with_next m.state meaning.next; listeners = ls; dead = Some (fault_of f); refused = None }
      ]).state
  heard_stays_at m l ls meaning None n alive =
      let v : Machine K = record m {
        state = commands app (with_next m.state meaning.next) l.origin None meaning.commands;
        event = Some meaning.answer;
        default_enabled = not meaning.answer.prevented;
        listeners = further app m meaning.answer ls;
      } in
      stay_trans m.state v.state (then_looked v).state (called_stay app lawful m.state l.origin None meaning n) (then_looked_calm v).stays
  heard_stays_at m l ls meaning (Some f) n alive = let absurdity : Some (fault_of f) ≡ None = alive in cc

  pub heard_stays : (m : Machine K) (l : Listener K) (ls : List (Listener K)) (o : Option (Event K)) → (heard_event app m l ls o).dead ≡ None → Stay m.state (heard_event app m l ls o).state
  heard_stays m l ls None alive = stay_refl m.state
  heard_stays m l ls (Some event) alive =
      let world : World K = world_of m.state l.origin None false in
      let meaning : Meaning K (Event K) = app.handle l.handler event world in
      let u : Machine K = record m { state = called_once m.state } in
      stay_trans m.state u.state (heard_event app m l ls (Some event)).state (stay_rest m.state u.state refl refl refl)
      (heard_stays_at u l ls meaning meaning.fault (lawful.handlers_number l.handler event world) alive)

  owed_on : (m : Machine K) (work : Option Work) (inputs : List (Input K)) (e : Entry) → m.work ≡ [] → Knows m.state → Whole m.state [] → m.inputs ≡ inputs
      → if_live m.state (due_work app m work inputs) ≡ Some e
      → WovenOn (change_by app m [] e)
  owed_on m (Some (RerunScope s)) inputs e none k h more due_is =
      let found = live_due app m.state (Rerun s) e due_is in
      let v : State K = at_rest m.state in
      subst (λ (x : Entry). WovenOn (change_by app m [] x)) (sym found.0)
      (begun_on (one_more_unit (rested app m)) (run app v s) (run_whole app lawful v [] s (rested_knows m.state k) (rested_whole m.state h) tt))
  owed_on m (Some (PollTask t)) inputs e none k h more due_is =
      let found = live_due app m.state (Poll t) e due_is in
      let v : State K = at_rest m.state in
      subst (λ (x : Entry). WovenOn (change_by app m [] x)) (sym found.0)
      (begun_on (one_more_unit (rested app m)) (polled app v t)
      (calm_whole v [] (polled app v t) (polled_stay app lawful v t) (polled_later app lawful v t) (polled_idle app lawful (unqueued v t) t (at v.tasks t)) (rested_whole m.state h)))
  owed_on m (Some (RunEffects s)) inputs e none k h more due_is =
      let found = live_due app m.state (Effects s) e due_is in
      let v : State K = at_rest m.state in
      subst (λ (x : Entry). WovenOn (change_by app m [] x)) (sym found.0)
      (begun_on (one_more_unit (rested app m)) (effects_run app v s)
      (calm_whole v [] (effects_run app v s) (effects_stay app lawful v s) (effects_later app lawful v s) (batch_quiet (change v s (λ x. record x { effects = [] })) s (effects_of v s)) (rested_whole m.state h)))
  owed_on m None [] e none k h more due_is = cc
  owed_on m None (input ∷ inputs) e none k h more due_is =
      let found = live_due app m.state (Taken (m.taken + 1)) e due_is in
      let r : Machine K = rested app m in
      let u : Machine K = take_next r (input ∷ inputs) in
      let after : WovenOn u = calm_on r u (take_work r (input ∷ inputs) ∙ none) (take_next_calm r (input ∷ inputs)).stays (take_next_later r (input ∷ inputs)) (rested_whole m.state h) in
      subst (λ (x : Entry). WovenOn (change_by app m [] x)) (sym found.0)
      (subst (λ (items : List (Input K)). WovenOn (take_next r items)) (sym more) after)

  heard_on : (m : Machine K) (listeners : List (Listener K)) (e : Entry) → m.work ≡ [] → Knows m.state → Whole m.state [] → waiting m ≡ listeners
      → if_live m.state (due_heard app m listeners) ≡ Some e
      → WovenOn (change_by app m [] e)
  heard_on m [] e none k h quiet due_is = owed_on m (next m.state) m.inputs e none k h refl due_is
  heard_on m (first ∷ others) e none k h heard due_is =
      let found = live_due app m.state (Heard first.origin) e due_is in
      let u : Machine K = heard_event app m first others m.event in
      let after : WovenOn u =
      λ alive. (calm_on m u (heard_work app m first others m.event ∙ none) (heard_stays m first others m.event alive) (heard_event_later app lawful m first others m.event) h) alive in
      subst (λ (x : Entry). WovenOn (change_by app m [] x)) (sym found.0)
      (subst (λ (ls : List (Listener K)). WovenOn (heard_first app m ls)) (sym heard) after)

  rest_on : (m : Machine K) (e : Entry) (built : Bool) → m.work ≡ [] → Knows m.state → Whole m.state []
      → if_live m.state (if built then due_heard app m (waiting m) else Some Build) ≡ Some e
      → WovenOn (change_by app m [] e)
  rest_on m e true none k h due_is = heard_on m (waiting m) e none k h refl due_is
  rest_on m e false none k h due_is =
      let found = live_due app m.state Build e due_is in
      subst (λ (x : Entry). WovenOn (change_by app m [] x)) (sym found.0)
      (begun_on (record m { built = true; unit = true }) (run app m.state 0) (run_whole app lawful m.state [] 0 k h tt))

  -- an entry, by the open work
  logged_on : (m : Machine K) (work : List (Item K)) (e : Entry) → m.work ≡ work → m.dead ≡ None → (m.work ≡ [] ⊎ AtWork m) → IsSettled m → due app m ≡ Some e
      → IsRooted m.state → Stands m.state work → Woven m.state work
      → WovenOn (change_by app m work e)
  logged_on m [] e none alive state settled due_is r st h =
      rest_on m e m.built none (knows_of m.state [] st) (idle_whole m.state h)
      (
      sym
      (ap (λ (o : Option Fault). if_live m.state (elim o as (λ z. Option Entry) [ None ↦ (if m.built then due_item app m m.work else Some Build) | Some fault ↦ None ])) alive
      ∙ ap (λ (items : List (Item K)). if_live m.state (if m.built then due_item app m items else Some Build)) none)
      ∙ due_is
      )
  logged_on m (item ∷ rest) e first alive (inl none) settled due_is r st h = let absurdity : item ∷ rest ≡ [] = sym first ∙ none in cc
  logged_on m (Draw s a p k ∷ rest) e first alive (inr w) settled due_is r st h = unsettled m (Draw s a p k ∷ rest) alive first refl settled
  logged_on m (Row b step ∷ rest) e first alive (inr w) settled due_is r st h = unsettled m (Row b step ∷ rest) alive first refl settled
  logged_on m (Make s a p c ∷ rest) e first alive (inr w) settled due_is r st h =
      let due_now : if_live m.state (due_item app m (Make s a p c ∷ rest)) ≡ Some e = sym (due_at_work app m (Make s a p c ∷ rest) w first) ∙ due_is in
      let found = made_due app m.state (is_live m.state s) m.state.next_scope e due_now in
      subst (λ (x : Entry). WovenOn (change_by app m (Make s a p c ∷ rest) x)) (sym found.1) (make_on m rest s a p c found.0 r st h)
  logged_on m (Feed s a p c ∷ rest) e first alive (inr w) settled due_is r st h =
      let due_now : if_live m.state (due_item app m (Feed s a p c ∷ rest)) ≡ Some e = sym (due_at_work app m (Feed s a p c ∷ rest) w first) ∙ due_is in
      let found = fed_due app m.state c (fed_child m.state s a p) e due_now in
      subst (λ (x : Machine K). WovenOn x)
      (sym (fed_change app m s a p c rest found.0 (keeps app m.state found.0 c)) ∙ ap (λ (x : Entry). change_by app m (Feed s a p c ∷ rest) x) (sym found.2))
      (feed_on m rest s a p c r st h)
  logged_on m (Drop top parent a ∷ rest) e first alive (inr w) settled due_is r st h =
      let due_now : if_live m.state (due_item app m (Drop top parent a ∷ rest)) ≡ Some e = sym (due_at_work app m (Drop top parent a ∷ rest) w first) ∙ due_is in
      let found = live_due app m.state (Removed (next_removed m.state top)) e due_now in
      subst (λ (x : Entry). WovenOn (change_by app m (Drop top parent a ∷ rest) x)) (sym found.0) (drop_on m rest top parent a r st h)

  -- work is open only while the build or a unit is at work, whatever else holds
  abbrev pub Anything : State K → List (Item K) → Type 0
  Anything w work = Unit {0}

  anything_lasts : Outlasts app Anything
  anything_lasts =
      record {
        inside =
            record {
              serves = λ w v item rest work ready p e. tt;
              drops = λ w v scope parent side rest work first live p e. tt;
              thins = λ w v scope top parent side rest work first other live p e. tt;
            };
        mounts = λ w p. tt;
        builds = λ w v work p e. tt;
        reruns = λ w v s work is live p e. tt;
        polls = λ w v t work is live p e. tt;
        effects = λ w v s work is live p e. tt;
        takes = λ m input more is p. tt;
        hears = λ m first others live p alive. tt;
      }

  -- what holds between moves
  pub record ReadyAt (m : Machine K) : Type 0 where
    pub sound : Sound app lawful m
    pub idle : m.dead ≡ None → Steady Anything m
    pub woven : WovenOn m

  pub work_state : (m : Machine K) (work : List (Item K)) → m.work ≡ work → m.dead ≡ None → Steady Anything m → (m.work ≡ []) ⊎ AtWork m
  work_state m [] first alive s = inl first
  work_state m (item ∷ rest) first alive s = inr (at_work_where Anything m item rest s alive first)

  move_woven : (limits : Limits) (m u : Machine K) (move : Move) → Moves app limits m move u → ReadyAt m → m.dead ≡ None → WovenOn u
  move_woven limits m u Silent h s alive =
      let st : Stands m.state (h.item ∷ h.later) = subst (λ (items : List (Item K)). Stands m.state items) h.next (s.sound.stands alive) in
      let now : Woven m.state (h.item ∷ h.later) = subst (λ (items : List (Item K)). Woven m.state items) h.next (s.woven alive) in
      subst (λ (x : Machine K). WovenOn x) (sym h.gives) (silent_on m h.item h.later h.silent s.sound.rooted st now)
  move_woven limits m u Closed h s alive =
      let v : State K = mounted_state m.state in
      subst (λ (x : Machine K). WovenOn x) (sym h.gives)
      (λ still. woven_same m.state v (calm_twigs m.state v (mounted_stay m.state) (mounted_later m.state)) m.work (s.woven alive))
  move_woven limits m u (Logged e) h s alive =
      subst (λ (x : Machine K). WovenOn x) (sym h.gives)
      (logged_on m m.work e refl alive (work_state m m.work refl alive (s.idle alive)) h.settled h.due_is s.sound.rooted (s.sound.stands alive) (s.woven alive))

  pub move_ready : (limits : Limits) (m u : Machine K) (move : Move) → Moves app limits m move u → ReadyAt m → ReadyAt u
  move_ready limits m u move h s =
      let before : u.dead ≡ None → m.dead ≡ None = λ alive. alive_before app limits m u (move ∷ []) m.dead refl (u, h, refl) alive in
      record {
        sound = move_sound app lawful limits m u move h s.sound;
        idle = λ alive. moves_last app Anything anything_lasts limits m u (move ∷ []) (u, h, refl) alive (s.idle (before alive));
        woven = λ alive. move_woven limits m u move h s (before alive) alive;
      }

  pub moves_ready : (limits : Limits) (m v : Machine K) (moves : List Move) → Leads app limits m moves v → ReadyAt m → ReadyAt v
  moves_ready limits m v [] leads s = subst (λ (x : Machine K). ReadyAt x) (sym leads) s
  moves_ready limits m v (move ∷ moves) leads s = moves_ready limits leads.0 v moves leads.2 (move_ready limits m leads.0 move leads.1 s)

  -- at its start a replay has one scope without a parent and without an output

  first_spots : (y : Scope K) (a : SideName) (b : Bool) → ((i : SideName) → side_of y i ≡ empty_side) → spots_of (twig_side a (twig (if b then Some y else None))).output ≡ []
  first_spots y a true empty = ap (λ (i : Side K). spots_of i.output) (twig_side_is y a) ∙ ap (λ (i : Side K). spots_of i.output) (empty a)
  first_spots y a false empty = empty_spots a

  first_up : (y : Scope K) (b : Bool) → y.parent ≡ None → twig_up (twig (if b then Some y else None)) ≡ None
  first_up y true e = e
  first_up y false e = refl

  begun_woven : (props : K.Props) (firsts : Firsts) (contexts : List (ℕ × K.Value)) (inputs : List (Input K)) → Woven (start_at app props firsts contexts inputs).state []
  begun_woven props firsts contexts inputs =
      let y : Scope K = first_scope app props contexts in
      record {
        stack = tt;
        attached = λ v p e. let absurdity : None ≡ Some p = sym (first_up y (nat_eq 0 v) refl) ∙ e in cc;
        filled = λ s a p c e. absurd (subst (λ xs. Among xs (component_at p c)) (first_spots y a (nat_eq 0 s) (first_sides app props contexts)) e);
      }

  pub begun_ready : (props : K.Props) (firsts : Firsts) (contexts : List (ℕ × K.Value)) (inputs : List (Input K)) → 0 < firsts.elements
      → ReadyAt (start_at app props firsts contexts inputs)
  begun_ready props firsts contexts inputs above =
      record {
        sound = begun_sound app props contexts firsts inputs lawful above;
        idle = λ alive. record { holds = tt; idle = λ q. refl };
        woven = λ alive. begun_woven props firsts contexts inputs;
      }

  -- a call that logs no entry leaves the tree as it was
  pub aside_ready : (m u : Machine K) (a : AsideCall K) → IsAside app m a u → ReadyAt m → ReadyAt u
  aside_ready m u a h s =
      let w : State K = m.state in
      let v : State K = aside_state app w a in
      let b : Beside app lawful m u v = beside app lawful m u a h in
      let none : u.work ≡ [] = b.work ∙ h.rest.idle in
      record {
        sound = aside_sound app lawful m u a h s.sound;
        idle = λ alive. record { holds = tt; idle = λ q. none };
        woven =
            λ alive.
            subst (λ (xs : List (Item K)). Woven u.state xs) (sym b.work)
            (subst (λ (x : State K). Woven x m.work) (sym b.state)
            (woven_same w v (calm_twigs w v (aside_stay app lawful w a h.allowed) (aside_later app lawful w a h.allowed)) m.work (s.woven (sym b.dead ∙ alive))));
      }

  pub reached_ready : (limits : Limits) (props : K.Props) (inputs : List (Input K)) (m : Machine K) → Reached app limits props inputs m → ReadyAt m
  reached_ready limits props inputs m reached =
      reached_keep app limits props inputs (λ (x : Machine K). ReadyAt x) (λ u v moves leads s. moves_ready limits u v moves leads s) (λ u v a h s. aside_ready u v a h s)
      (λ firsts contexts above. begun_ready props firsts contexts inputs above) m reached

  -- wherever moves lead the open work fits the tree of scopes
  pub reached_woven : (limits : Limits) (props : K.Props) (inputs : List (Input K)) (m : Machine K) → Reached app limits props inputs m → m.dead ≡ None → Woven m.state m.work
  reached_woven limits props inputs m reached alive = (reached_ready limits props inputs m reached).woven alive

pub named : {K : Types} (w : State K) (item : Item K) (rest : List (Item K)) → Woven w (item ∷ rest) → Named w item
named w (Draw s a p k) rest h = h.stack.0
named w (Row b step) rest h = h.stack.0
named w (Feed s a p c) rest h = (h.stack.0, (h.stack.1.0, fed_kid w s a p ∙ h.stack.1.1, h.stack.1.2))
named w (Make s a p c) rest h = h.stack.0
named w (Drop t s a) rest h = (h.stack.0, h.stack.1.0)

-- so what the first item names is there
pub reached_are_named : {K : Types} (app : Application K) → ReachedAreNamed app
reached_are_named app lawful limits props inputs m item rest reached alive first =
    named m.state item rest (subst (λ items. Woven m.state items) first (reached_woven app lawful limits props inputs m reached alive))
