-- What the calls of a move make has numbers below the next one behind it.
use Rattle.std.proofs.Common.{ℕ, ◌+◌, ◌≤◌, Bool, true, false, not, List, [], ◌∷◌, ◌++◌, ◌≡◌, refl, sym, ap, ◌∙◌, subst, nat_eq, arith}
use Rattle.std.specs.Prelude.{Option, Some, None, if◌then◌else◌}
use Rattle.rt_model.specs.Lists.{at, put}
use Rattle.rt_model.specs.Laws.{IsLawful}
use Rattle.rt_model.specs.Tree.{Types, Element}
use Rattle.rt_model.specs.World.{Scopes, at_end, CallFault, Firsts, Event, Command, Meaning, TaskStep, pending, ready, Nothing, Application}
use Rattle.rt_model.specs.State.{FallbackSide, SideName, Fault, IdsExhausted, RowStep, PatchChildren, MadeChildren, RunFallback, ShowFallback, ShowChildren, DropFallback, Resolve, Scope, TaskRow, State, Item, Draw, Row, Feed, Make, Drop, Outcome, Done, Cut, onward, is_live, change, hooks_of, effects_of, world_of}
use Rattle.rt_model.specs.Commands.{unqueued, commands}
use Rattle.rt_model.specs.Next.{Work, RerunScope, PollTask, RunEffects, look, at_rest, next}
use Rattle.rt_model.specs.Run.{fault_of, with_next, called_once, acted, after_hooks, start_agenda, run}
use Rattle.rt_model.specs.Boundary.{tree_or_placeholder, counts_render, counted_render, fallback_answered, called_back, row_step}
use Rattle.rt_model.specs.Removal.{clean_ups, gone, stopped, next_removed, cleaned, removed}
use Rattle.rt_model.specs.Heard.{Listener}
use Rattle.rt_model.specs.Replay.{Entry, Build, Taken, Heard, Rerun, Poll, Effects, Fed, Kept, Removed, Input, Machine, ended_by, if_live, waiting, looked_where_quiet, then_looked, one_more_unit, rested, fed_child, keeps, with_new_scope, with_props, made_in, due_item, due_heard, due_work, due, outcome_of, poll_meant, left_by_poll, polled_to, polled_at, polled, batch_then, effects_run, further, heard_event, heard_first, change_by}
use Rattle.rt_model.specs.Causes.{Limits}
use Rattle.rt_model.proofs.Tour.{all_fresh}
use Rattle.rt_model.proofs.TourCalls.{state_of}
use Rattle.rt_model.proofs.Frames.{commands_same, end_same}
use Rattle.rt_model.proofs.RunFrames.{LaterO, later_same, onward_later, numbered_rises, acted_later, after_hooks_later, agenda_later, counted_later, called_back_later}
use Rattle.rt_model.proofs.StepFrames.{look_same, gone_same}
use Rattle.law_moves.specs.Moves.{Move, Silent, Closed, Logged, Moves}
use Rattle.law_moves.proofs.Insides.{live_due, made_due, fed_due, fed_change}
use Rattle.law_behavior.specs.Deeds.{Deed, deeds_on, effect_deeds, after_deeds, run_deeds, callback_deeds, row_deeds, clean_deeds, removed_deeds, batch_deeds, poll_finds, poll_deeds, heard_deeds, first_deeds, item_deeds, work_deeds, entry_deeds, move_deeds}
use Rattle.law_minding.proofs.Counting.{Counting}
use Rattle.law_minding.proofs.Under.{AllLow, AllUnder, Ends, EndsO, low_both, under_both, numbered_low, first_ends, then_under, acted_under, after_under, body_under, run_under}

module _ {K : Types} (tally : Counting K) (bound : ℕ) (app : Application K) (lawful : IsLawful K app) where
  -- after the commands of a call the next number is that of the call
  commands_next : (w : State K) (s : ℕ) (polled : Option ℕ) (cs : List (Command K)) → tally.count (commands app w s polled cs).next ≡ tally.count w.next
  commands_next w s polled cs = ap (λ (f : Firsts). tally.count f) (commands_same app 0 w s polled cs (all_fresh app cs)).next

  look_next : (w : State K) → tally.count (look w).next ≡ tally.count w.next
  look_next w = ap (λ (f : Firsts). tally.count f) (look_same 0 w).next

  callbacks_under : (w : State K) (es : List (ℕ × K.Effect)) → EndsO tally bound (called_back app w es) → AllUnder tally bound (callback_deeds app w es)
  callbacks_under w [] l = tt
  callbacks_under w (e ∷ es) l = by (is_live w e.0) (λ v k. callbacks_under v es k) l
    where
      by : (b : Bool)
          → ((v : State K) → EndsO tally bound (called_back app v es) → AllUnder tally bound (callback_deeds app v es))
          → EndsO tally bound (if b then onward (acted app w e.0 e.1 false) (λ v. called_back app v es) else called_back app w es)
          → AllUnder tally bound (if b then effect_deeds app w e.0 e.1 false ++ deeds_on (acted app w e.0 e.1 false) (λ v. callback_deeds app v es) else callback_deeds app w es)
      by true go g =
          under_both tally bound (effect_deeds app w e.0 e.1 false) (deeds_on (acted app w e.0 e.1 false) (λ v. callback_deeds app v es))
          (acted_under tally bound app lawful w e.0 e.1 false (first_ends tally bound (acted app w e.0 e.1 false) (λ v. called_back app v es) (λ v. called_back_later app lawful v es) g))
          (then_under tally bound (acted app w e.0 e.1 false) (λ v. called_back app v es) (λ v. callback_deeds app v es) go g)
      by false go g = go w g

  row_under : (w : State K) (b : ℕ) (x : Scope K) (step : RowStep) → EndsO tally bound (row_step app w b x step) → AllUnder tally bound (row_deeds app w b x step)
  row_under w b x RunFallback l =
      body_under tally bound app lawful w b x.component (λ v answer. fallback_answered app v b x.component answer)
      (λ v answer. deeds_on (counted_render app v b (counts_render x.component answer)) (λ u. after_deeds app u b))
      (λ v answer. onward_later v (counted v answer) (λ u. start_agenda app u b FallbackSide (tree_or_placeholder answer)) (counted_on v answer) (λ u. agenda_later app lawful u b FallbackSide (tree_or_placeholder answer)))
      (
      λ v answer k.
      then_under tally bound (counted_render app v b (counts_render x.component answer)) (λ u. after_hooks app u b) (λ u. after_deeds app u b)
      (λ u j. after_under tally bound app lawful u b j)
      (first_ends tally bound (counted v answer) (λ u. start_agenda app u b FallbackSide (tree_or_placeholder answer)) (λ u. agenda_later app lawful u b FallbackSide (tree_or_placeholder answer)) k)
      )
      l
    where
      counted : State K → Element K → Outcome K
      counted v answer = onward (counted_render app v b (counts_render x.component answer)) (λ u. after_hooks app u b)

      counted_on : (v : State K) (answer : Element K) → LaterO v (counted v answer)
      counted_on v answer =
          onward_later v (counted_render app v b (counts_render x.component answer)) (λ u. after_hooks app u b)
          (counted_later app lawful v b (counts_render x.component answer)) (λ u. after_hooks_later app lawful u b)
  row_under w b x Resolve l = callbacks_under _ x.callbacks l
  row_under w b x PatchChildren l = tt
  row_under w b x MadeChildren l = tt
  row_under w b x ShowFallback l = tt
  row_under w b x ShowChildren l = tt
  row_under w b x DropFallback l = tt

  cleaned_rises : (s : ℕ) (es : List K.Effect) (w : State K) (waits : List (Command K)) → tally.count w.next ≤ tally.count (state_of (cleaned app s es w waits)).next
  cleaned_rises s [] w waits =
      let same : tally.count (commands app (gone w s) s None waits).next ≡ tally.count (gone w s).next = commands_next (gone w s) s None waits in
      let before : tally.count (gone w s).next ≡ tally.count w.next = ap (λ (f : Firsts). tally.count f) (gone_same 0 w s).next in
      omega (arith, same, before)
  cleaned_rises s (e ∷ es) w waits = by m.fault (λ v cs. cleaned_rises s es v cs)
    where
      m : Meaning K Nothing
      m = app.effect e (world_of w s None true)

      rises : tally.count w.next ≤ tally.count m.next
      rises = tally.rises w.next m.next (numbered_rises w.next m.commands m.next (lawful.effects_number e (world_of w s None true)))

      by : (o : Option CallFault)
          → ((v : State K) (cs : List (Command K)) → tally.count v.next ≤ tally.count (state_of (cleaned app s es v cs)).next)
          → tally.count w.next
          ≤ tally.count (state_of (elim o as (λ z. Outcome K) [
            | None ↦ cleaned app s es (with_next (called_once w) m.next) (waits ++ m.commands)
            | Some f ↦ Cut (with_next (called_once w) m.next) (fault_of f)
          ])).next
      by None go =
          let more : tally.count m.next ≤ tally.count (state_of (cleaned app s es (with_next (called_once w) m.next) (waits ++ m.commands))).next =
          go (with_next (called_once w) m.next) (waits ++ m.commands) in
          omega (arith, rises, more)
      by (Some f) go = rises

  clean_under : (s : ℕ) (es : List K.Effect) (w : State K) (waits : List (Command K)) → AllLow tally bound waits → EndsO tally bound (cleaned app s es w waits) → AllUnder tally bound (clean_deeds app s es w waits)
  clean_under s [] w waits h l = (h, tt)
  clean_under s (e ∷ es) w waits h l = by m.fault (λ v cs f k. clean_under s es v cs f k) l
    where
      m : Meaning K Nothing
      m = app.effect e (world_of w s None true)

      by : (o : Option CallFault)
          → ((v : State K) (cs : List (Command K)) → AllLow tally bound cs → EndsO tally bound (cleaned app s es v cs) → AllUnder tally bound (clean_deeds app s es v cs))
          → EndsO tally bound (elim o as (λ z. Outcome K) [
            | None ↦ cleaned app s es (with_next (called_once w) m.next) (waits ++ m.commands)
            | Some f ↦ Cut (with_next (called_once w) m.next) (fault_of f)
          ])
          → AllUnder tally bound (elim o as (λ z. List (Deed K)) [ None ↦ clean_deeds app s es (with_next (called_once w) m.next) (waits ++ m.commands) | Some f ↦ [] ])
      by None go k =
          let more = cleaned_rises s es (with_next (called_once w) m.next) (waits ++ m.commands) in
          let end : tally.count (state_of (cleaned app s es (with_next (called_once w) m.next) (waits ++ m.commands))).next ≤ bound = k in
          let low : tally.count m.next ≤ bound = omega (arith, more, end) in
          go (with_next (called_once w) m.next) (waits ++ m.commands)
          (low_both tally bound waits m.commands h (numbered_low tally bound w.next m.commands m.next (lawful.effects_number e (world_of w s None true)) low))
          k
      by (Some f) go k = tt

  removed_under : (w : State K) (s : ℕ) → EndsO tally bound (removed app w s) → AllUnder tally bound (removed_deeds app w s)
  removed_under w s l = clean_under s (clean_ups (hooks_of (stopped w s) s) []) (stopped w s) [] tt l

  batch_later : (w : State K) (s : ℕ) (es : List K.Effect) → LaterO w (batch_then app (λ v. look v) w s es)
  batch_later w s [] = later_same w (look w) (look_same w.next.tasks w)
  batch_later w s (e ∷ es) =
      onward_later w (acted app w s e false) (λ v. batch_then app (λ u. look u) v s es) (acted_later app lawful w s e false) (λ v. batch_later v s es)

  batch_under : (w : State K) (s : ℕ) (es : List K.Effect) → EndsO tally bound (batch_then app (λ v. look v) w s es) → AllUnder tally bound (batch_deeds app w s es)
  batch_under w s [] l = tt
  batch_under w s (e ∷ es) l =
      under_both tally bound (effect_deeds app w s e false) (deeds_on (acted app w s e false) (λ v. batch_deeds app v s es))
      (acted_under tally bound app lawful w s e false (first_ends tally bound (acted app w s e false) (λ v. batch_then app (λ u. look u) v s es) (λ v. batch_later v s es) l))
      (then_under tally bound (acted app w s e false) (λ v. batch_then app (λ u. look u) v s es) (λ v. batch_deeds app v s es) (λ v k. batch_under v s es k) l)

  -- a poll leaves the next number of its call
  poll_next : (w : State K) (t : ℕ) (x : TaskRow K) (m : Meaning K (TaskStep K)) (step : TaskStep K) → tally.count (polled_to app w t x m step).next ≡ tally.count w.next
  poll_next w t x m (pending a) =
      look_next (left_by_poll app w t x m (pending a)) ∙ commands_next (record w { tasks = put w.tasks t (record x { state = a }) }) x.scope (Some t) m.commands
  poll_next w t x m ready =
      look_next (left_by_poll app w t x m ready)
      ∙ ap (λ (f : Firsts). tally.count f) (end_same 0 (commands app w x.scope (Some t) m.commands) t).next
      ∙ commands_next w x.scope (Some t) m.commands

  poll_under : (w : State K) (t : ℕ) (o : Option (TaskRow K)) → EndsO tally bound (polled_at app w t o) → AllUnder tally bound (poll_deeds app w t o)
  poll_under w t None l = tt
  poll_under w t (Some x) l = by m.fault l
    where
      m : Meaning K (TaskStep K)
      m = poll_meant app w t x

      v : State K
      v = with_next (called_once w) m.next

      by : (o : Option CallFault)
          → EndsO tally bound (elim o as (λ z. Outcome K) [ None ↦ Done (polled_to app v t x m m.answer) [] | Some f ↦ Cut v (fault_of f) ])
          → AllUnder tally bound (elim o as (λ z. List (Deed K)) [
            | None ↦ record { state = poll_finds v t x m.answer; scope = x.scope; polled = Some t; wants = m.commands } ∷ []
            | Some f ↦ []
          ])
      by None k =
          let same : tally.count (polled_to app v t x m m.answer).next ≡ tally.count m.next = poll_next v t x m m.answer in
          let end : tally.count (polled_to app v t x m m.answer).next ≤ bound = k in
          let low : tally.count m.next ≤ bound = omega (arith, same, end) in
          (numbered_low tally bound w.next m.commands m.next (lawful.polls_number x.state (world_of w x.scope (Some t) false)) low, tt)
      by (Some f) k = tt

  quiet_next : (m : Machine K) (ls : List (Listener K)) → tally.count (looked_where_quiet m ls).state.next ≡ tally.count m.state.next
  quiet_next m [] = look_next m.state
  quiet_next m (l ∷ ls) = refl

  heard_under : (m : Machine K) (l : Listener K) (ls : List (Listener K)) (o : Option (Event K)) → Ends tally bound (heard_event app m l ls o).state → AllUnder tally bound (heard_deeds app m.state l o)
  heard_under m l ls None k = tt
  heard_under m l ls (Some event) k = by meaning.fault k
    where
      meaning : Meaning K (Event K)
      meaning = app.handle l.handler event (world_of m.state l.origin None false)

      v : State K
      v = with_next (called_once m.state) meaning.next

      after : Machine K
      after =
          record m {
            state = commands app v l.origin None meaning.commands;
            event = Some meaning.answer;
            default_enabled = not meaning.answer.prevented;
            listeners = further app (record m { state = called_once m.state }) meaning.answer ls;
          }

      faulted : CallFault → Machine K
      faulted f = record m { state = v; listeners = ls; dead = Some (fault_of f); refused = None }

      by : (o : Option CallFault)
          → Ends tally bound (elim o as (λ z. Machine K) [ None ↦ then_looked after | Some f ↦ faulted f ]).state
          → AllUnder tally bound (elim o as (λ z. List (Deed K)) [
            | None ↦ record { state = v; scope = l.origin; polled = None; wants = meaning.commands } ∷ []
            | Some f ↦ []
          ])
      by None g =
          let same : tally.count (then_looked after).state.next ≡ tally.count after.state.next = quiet_next after (waiting after) in
          let done_next : tally.count after.state.next ≡ tally.count meaning.next = commands_next v l.origin None meaning.commands in
          let end : tally.count (then_looked after).state.next ≤ bound = g in
          let low : tally.count meaning.next ≤ bound = omega (arith, same, done_next, end) in
          (numbered_low tally bound m.state.next meaning.commands meaning.next (lawful.handlers_number l.handler event (world_of m.state l.origin None false)) low, tt)
      by (Some f) g = tt

  first_under : (m : Machine K) (ls : List (Listener K)) → Ends tally bound (heard_first app m ls).state → AllUnder tally bound (first_deeds app m ls)
  first_under m [] k = tt
  first_under m (l ∷ ls) k = heard_under m l ls m.event k

  item_under : (w : State K) (item : Item K) → EndsO tally bound (outcome_of app w item) → AllUnder tally bound (item_deeds app w item)
  item_under w (Draw s side p k) l = tt
  item_under w (Row b step) l = by (at w.scopes b) l
    where
      by : (o : Option (Scope K)) → EndsO tally bound (elim o as (λ z. Outcome K) [ None ↦ Done w [] | Some x ↦ row_step app w b x step ])
          → AllUnder tally bound (elim o as (λ z. List (Deed K)) [ None ↦ [] | Some x ↦ row_deeds app w b x step ])
      by None k = tt
      by (Some x) k = row_under w b x step k
  item_under w (Feed s side p c) l = by (fed_child w s side p) l
    where
      fed : (t : ℕ) (b : Bool) → EndsO tally bound (if b then Done (with_props app w t c) [] else run app (with_props app w t c) t)
          → AllUnder tally bound (if b then [] else run_deeds app (with_props app w t c) t)
      fed t true k = tt
      fed t false k = run_under tally bound app lawful (with_props app w t c) t k

      by : (o : Option ℕ)
          → EndsO tally bound (elim o as (λ z. Outcome K) [
            | None ↦ Done w []
            | Some t ↦ if keeps app w t c then Done (with_props app w t c) [] else run app (with_props app w t c) t
          ])
          → AllUnder tally bound (elim o as (λ z. List (Deed K)) [ None ↦ [] | Some t ↦ if keeps app w t c then [] else run_deeds app (with_props app w t c) t ])
      by None k = tt
      by (Some t) k = fed t (keeps app w t c) k
  item_under w (Make s side p c) l = by (at w.scopes s) l
    where
      makes : (x : Scope K) (b : Bool)
          → EndsO tally bound (if b then Cut w (IdsExhausted Scopes) else run app (with_new_scope w s side p c x) w.next_scope)
          → AllUnder tally bound (if b then [] else run_deeds app (with_new_scope w s side p c x) w.next_scope)
      makes x true k = tt
      makes x false k = run_under tally bound app lawful (with_new_scope w s side p c x) w.next_scope k

      by : (o : Option (Scope K)) → EndsO tally bound (elim o as (λ z. Outcome K) [ None ↦ Done w [] | Some x ↦ made_in app w s side p c x ])
          → AllUnder tally bound (elim o as (λ z. List (Deed K)) [
            | None ↦ []
            | Some x ↦ if at_end w.next_scope then [] else run_deeds app (with_new_scope w s side p c x) w.next_scope
          ])
      by None k = tt
      by (Some x) k = makes x (at_end w.next_scope) k
  item_under w (Drop t s side) l = tt

  ended_ends : (m : Machine K) (item : Option (Item K)) (rest : List (Item K)) (o : Outcome K) → Ends tally bound (ended_by m item rest o).state → EndsO tally bound o
  ended_ends m item rest (Done v work) k = k
  ended_ends m item rest (Cut v fault) k = k

  -- entries, by what is due

  abbrev After : Machine K → Entry → Machine K → Type 0
  After m e u = Ends tally bound u.state → AllUnder tally bound (entry_deeds app m e)

  owed_by : (m : Machine K) (work : Option Work) (e : Entry) → if_live m.state (due_work app m work m.inputs) ≡ Some e → After m e (change_by app m [] e)
  owed_by m (Some (RerunScope r)) e due_is =
      let same : e ≡ Rerun r = (live_due app m.state (Rerun r) e due_is).0 in
      subst (λ (x : Entry). After m x (change_by app m [] x)) (sym same)
      (λ k. run_under tally bound app lawful (at_rest m.state) r (ended_ends (one_more_unit (rested app m)) None [] (run app (at_rest m.state) r) k))
  owed_by m (Some (PollTask r)) e due_is =
      let same : e ≡ Poll r = (live_due app m.state (Poll r) e due_is).0 in
      subst (λ (x : Entry). After m x (change_by app m [] x)) (sym same)
      (
      λ k.
      poll_under (unqueued (at_rest m.state) r) r (at (at_rest m.state).tasks r)
      (ended_ends (one_more_unit (rested app m)) None [] (polled app (at_rest m.state) r) k)
      )
  owed_by m (Some (RunEffects r)) e due_is =
      let same : e ≡ Effects r = (live_due app m.state (Effects r) e due_is).0 in
      subst (λ (x : Entry). After m x (change_by app m [] x)) (sym same)
      (
      λ k.
      batch_under (change (at_rest m.state) r (λ x. record x { effects = [] })) r (effects_of (at_rest m.state) r)
      (ended_ends (one_more_unit (rested app m)) None [] (effects_run app (at_rest m.state) r) k)
      )
  owed_by m None e due_is = on m.inputs refl
    where
      on : (inputs : List (Input K)) → m.inputs ≡ inputs → After m e (change_by app m [] e)
      on [] more =
          let none : None ≡ Some e = sym (ap (λ (is : List (Input K)). if_live m.state (due_work app m None is)) more) ∙ due_is in
          cc
      on (input ∷ inputs) more =
          let found : if_live m.state (Some (Taken (m.taken + 1))) ≡ Some e = sym (ap (λ (is : List (Input K)). if_live m.state (due_work app m None is)) more) ∙ due_is in
          let same : e ≡ Taken (m.taken + 1) = (live_due app m.state (Taken (m.taken + 1)) e found).0 in
          subst (λ (x : Entry). After m x (change_by app m [] x)) (sym same) (λ k. tt)

  heard_by_entry : (m : Machine K) (ls : List (Listener K)) (e : Entry) → if_live m.state (due_heard app m ls) ≡ Some e → After m e (change_by app m [] e)
  heard_by_entry m [] e due_is = owed_by m (next m.state) e due_is
  heard_by_entry m (l ∷ ls) e due_is =
      let same : e ≡ Heard l.origin = (live_due app m.state (Heard l.origin) e due_is).0 in
      subst (λ (x : Entry). After m x (change_by app m [] x)) (sym same) (λ k. first_under m (waiting m) k)

  feed_same : (m : Machine K) (t : ℕ) (b : Bool) → entry_deeds app m (if b then Kept t else Fed t) ≡ work_deeds app m.state m.work
  feed_same m t true = refl
  feed_same m t false = refl

  by_work : (m : Machine K) (item : Item K) (rest : List (Item K)) → m.work ≡ item ∷ rest → EndsO tally bound (outcome_of app m.state item) → AllUnder tally bound (work_deeds app m.state m.work)
  by_work m item rest first l =
      subst (λ (items : List (Item K)). AllUnder tally bound (work_deeds app m.state items)) (sym first) (item_under m.state item l)

  dropped_by : (m : Machine K) (r child parent : ℕ) (side : SideName) (rest : List (Item K)) (b : Bool)
      → After m (Removed r)
      (if b then ended_by m (Some (Drop child parent side)) rest (removed app m.state r) else ended_by m (Some (Drop child parent side)) (Drop child parent side ∷ rest) (removed app m.state r))
  dropped_by m r child parent side rest true = λ k. removed_under m.state r (ended_ends m (Some (Drop child parent side)) rest (removed app m.state r) k)
  dropped_by m r child parent side rest false =
      λ k. removed_under m.state r (ended_ends m (Some (Drop child parent side)) (Drop child parent side ∷ rest) (removed app m.state r) k)

  item_by : (m : Machine K) (work : List (Item K)) (e : Entry) → m.work ≡ work → if_live m.state (due_item app m work) ≡ Some e → After m e (change_by app m work e)
  item_by m [] e first due_is = heard_by_entry m (waiting m) e due_is
  item_by m (Draw s side p k ∷ rest) e first due_is = cc
  item_by m (Row b step ∷ rest) e first due_is = cc
  item_by m (Make s side p c ∷ rest) e first due_is =
      let found = made_due app m.state (is_live m.state s) m.state.next_scope e due_is in
      subst (λ (x : Entry). After m x (change_by app m (Make s side p c ∷ rest) x)) (sym found.1)
      (λ k. by_work m (Make s side p c) rest first (ended_ends m (Some (Make s side p c)) rest (outcome_of app m.state (Make s side p c)) k))
  item_by m (Feed s side p c ∷ rest) e first due_is =
      let found = fed_due app m.state c (fed_child m.state s side p) e due_is in
      let t : ℕ = found.0 in
      let b : Bool = keeps app m.state t c in
      subst (λ (x : Entry). After m x (change_by app m (Feed s side p c ∷ rest) x)) (sym found.2)
      (subst (λ (x : Machine K). After m (if b then Kept t else Fed t) x) (sym (fed_change app m s side p c rest t b))
      (
      λ k.
      subst (λ (ds : List (Deed K)). AllUnder tally bound ds) (sym (feed_same m t b))
      (by_work m (Feed s side p c) rest first (ended_ends m (Some (Feed s side p c)) rest (outcome_of app m.state (Feed s side p c)) k))
      ))
  item_by m (Drop child parent side ∷ rest) e first due_is =
      let r : ℕ = next_removed m.state child in
      let same : e ≡ Removed r = (live_due app m.state (Removed r) e due_is).0 in
      subst (λ (x : Entry). After m x (change_by app m (Drop child parent side ∷ rest) x)) (sym same) (dropped_by m r child parent side rest (nat_eq r child))

  build_by : (m : Machine K) (work : List (Item K)) → After m Build (change_by app m work Build)
  build_by m work =
      subst (λ (x : Machine K). After m Build x) (sym (is work))
      (λ k. run_under tally bound app lawful m.state 0 (ended_ends (record m { built = true; unit = true }) None [] (run app m.state 0) k))
    where
      is : (items : List (Item K)) → change_by app m items Build ≡ ended_by (record m { built = true; unit = true }) None [] (run app m.state 0)
      is [] = refl
      is (Draw s side p k ∷ rest) = refl
      is (Row b step ∷ rest) = refl
      is (Feed s side p c ∷ rest) = refl
      is (Make s side p c ∷ rest) = refl
      is (Drop t s side ∷ rest) = refl

  logged_by : (m : Machine K) (e : Entry) → due app m ≡ Some e → After m e (change_by app m m.work e)
  logged_by m e due_is = by m.dead due_is
    where
      built_by : (b : Bool) → if_live m.state (if b then due_item app m m.work else Some Build) ≡ Some e → After m e (change_by app m m.work e)
      built_by true h = item_by m m.work e refl h
      built_by false h =
          let same : e ≡ Build = (live_due app m.state Build e h).0 in subst (λ (x : Entry). After m x (change_by app m m.work x)) (sym same) (build_by m m.work)

      by : (o : Option Fault)
          → if_live m.state (elim o as (λ z. Option Entry) [ None ↦ (if m.built then due_item app m m.work else Some Build) | Some fault ↦ None ]) ≡ Some e
          → After m e (change_by app m m.work e)
      by None h = built_by m.built h
      by (Some fault) h = cc

  -- so it is of each move
  pub move_under : (limits : Limits) (m u : Machine K) (move : Move) → Moves app limits m move u → Ends tally bound u.state → AllUnder tally bound (move_deeds app m move)
  move_under limits m u Silent step k =
      by_work m step.item step.later step.next
      (ended_ends m (Some step.item) step.later (outcome_of app m.state step.item) (subst (λ (x : Machine K). Ends tally bound x.state) step.gives k))
  move_under limits m u Closed step k = tt
  move_under limits m u (Logged e) step k = logged_by m e step.due_is (subst (λ (x : Machine K). Ends tally bound x.state) step.gives k)
