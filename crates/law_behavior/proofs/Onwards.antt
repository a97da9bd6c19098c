-- What moves leave of such a fact.
use Rattle.std.proofs.Common.{ℕ, ◌+◌, Bool, true, false, List, [], ◌∷◌, ◌≡◌, not, refl, sym, ap, ◌∙◌, subst, nat_eq}
use Rattle.std.specs.Prelude.{Option, Some, None, if◌then◌else◌, is_some}
use Rattle.rt_model.specs.Lists.{at}
use Rattle.rt_model.specs.Tree.{Types, Place, VComponent}
use Rattle.rt_model.specs.World.{Cell, CallFault, Event, Command, World, Meaning, Application}
use Rattle.rt_model.specs.State.{SideName, Mark, Woken, Scope, Fault, State, Item, Draw, Row, Feed, Make, Drop, Outcome, Done, Cut, is_live, world_of}
use Rattle.rt_model.specs.Commands.{post, commands}
use Rattle.rt_model.specs.Next.{Work, RerunScope, PollTask, RunEffects, at_rest, next}
use Rattle.rt_model.specs.Run.{fault_of, with_next, called_once, run}
use Rattle.rt_model.specs.Removal.{next_removed, removed}
use Rattle.rt_model.specs.Heard.{Listener}
use Rattle.rt_model.specs.Replay.{Entry, Build, Taken, Heard, Rerun, Poll, Effects, Made, Fed, Kept, Removed, Post, MarkScope, WakeTask, AllDirty, Message, Input, EventAt, WakeOf, WriteOf, MarkOf, Drain, Machine, ended_by, if_live, waiting, post_all, post_message, post_messages, looked_where_quiet, then_looked, taken_in, take_next, one_more_unit, draw_number, fed_child, keeps, due_item, due_heard, due_work, due, outcome_of, polled, effects_run, further, heard_event, heard_first, rested, change_by}
use Rattle.rt_model.specs.Causes.{Limits}
use Rattle.rt_model.proofs.Tour.{AllFresh}
use Rattle.law_moves.specs.Moves.{Move, Silent, Closed, Logged, entries, is_silent, Leads}
use Rattle.law_moves.proofs.Insides.{live_due, made_due, fed_due, fed_change}
use Rattle.law_behavior.specs.Deeds.{Deed, heard_deeds, first_deeds, item_deeds, work_deeds, entry_deeds, move_deeds}
use Rattle.law_behavior.specs.Along.{removed_in, NoneRemoves}
use Rattle.law_behavior.proofs.Frames.{Cause, WakesTask, Tells, GoesAway, Permits, Frame, Called}
use Rattle.law_behavior.proofs.Commanded.{write_on, AllAllowed}
use Rattle.law_behavior.proofs.Calling.{AllDraw}
use Rattle.law_behavior.proofs.Lived.{AllGood, Ends, Leaves, leaves, called, once_on, run_on, step_on, number_on, made_on, MayFeed, fed_on, MayGo, removed_on}
use Rattle.law_behavior.proofs.Polled.{looks_on, rest_on, polled_on, effects_on}

module _ {K : Types} (app : Application K) (P Q : State K → Type 0) (bound : ℕ) (may : Permits K) (law : Frame app P Q bound may) (ends : (t : ℕ) → may.endable t) (bodies : Called app P bound)
    (Good : State K → ℕ → Option ℕ → List (Command K) → Type 0)
    (allows : (w : State K) (s : ℕ) (polled : Option ℕ) (cs : List (Command K)) → AllFresh app bound cs → Good w s polled cs → AllAllowed app P Q bound may law w s polled cs)
    (draws : AllDraw app bound) where
  -- the calls' commands are good
  abbrev GoodAll : List (Deed K) → Type 0
  GoodAll ds = AllGood app P Q bound may law ends bodies Good allows draws ds

  -- the change leaves what is left of the fact
  abbrev To : Outcome K → Type 0
  To o = Leaves app P Q bound may law ends bodies Good allows draws o

  all_left : (o : Outcome K) → Ends app P Q bound may law ends bodies Good allows draws o → To o
  all_left o h = leaves app P Q bound may law ends bodies Good allows draws o h

  to_machine : (m : Machine K) (item : Option (Item K)) (rest : List (Item K)) (o : Outcome K) → To o → Q (ended_by m item rest o).state
  to_machine m item rest (Done v work) h = h
  to_machine m item rest (Cut v fault) h = h

  -- messages and inputs

  post_all_on : (es : List (ℕ × Scope K)) (w : State K) → P w → P (post_all es w)
  post_all_on [] w h = h
  post_all_on (e ∷ es) w h = post_all_on es (post w (Mark e.0)) (law.marks w e.0 h)

  -- what messages wake may be woken
  abbrev pub MayPost : State K → Post → Type 0
  MayPost w (MarkScope s) = Unit {0}
  MayPost w (WakeTask t) = may.causable w (WakesTask t)
  MayPost w AllDirty = Unit {0}

  abbrev pub MayPostAll : State K → List Message → Type 0
  MayPostAll w [] = Unit {0}
  MayPostAll w (m ∷ ms) = MayPost w m.what × MayPostAll (post_message w m.what) ms

  message_on : (w : State K) (what : Post) → MayPost w what → P w → P (post_message w what)
  message_on w (MarkScope s) c h = law.marks w s h
  message_on w (WakeTask t) c h = law.wakes w t c h
  message_on w AllDirty c h = post_all_on w.scopes w h

  messages_on : (w : State K) (ms : List Message) → MayPostAll w ms → P w → P (post_messages w ms)
  messages_on w [] c h = h
  messages_on w (m ∷ ms) c h = messages_on (post_message w m.what) ms c.1 (message_on w m.what c.0 h)

  quiet_on : (m : Machine K) (ls : List (Listener K)) → P m.state → P (looked_where_quiet m ls).state
  quiet_on m [] h = looks_on app P Q bound may law ends bodies Good allows draws m.state h
  quiet_on m (l ∷ ls) h = h

  -- the next of these inputs may be taken in
  abbrev pub MayTake : List (Input K) → Type 0
  MayTake [] = Unit {0}
  MayTake (WriteOf n v ∷ more) = may.writable n
  MayTake (EventAt name payload element bubbles ∷ more) = Unit {0}
  MayTake (WakeOf t ∷ more) = Unit {0}
  MayTake (MarkOf s ∷ more) = Unit {0}
  MayTake (Drain messages ∷ more) = Unit {0}

  -- whom it wakes may be woken in a state
  abbrev pub MayWake : State K → List (Input K) → Type 0
  MayWake w [] = Unit {0}
  MayWake w (WriteOf n v ∷ more) = is_some (at w.cells n) ≡ true → may.causable w (Tells (Cell n))
  MayWake w (EventAt name payload element bubbles ∷ more) = Unit {0}
  MayWake w (WakeOf t ∷ more) = may.causable w (WakesTask t)
  MayWake w (MarkOf s ∷ more) = Unit {0}
  MayWake w (Drain messages ∷ more) = MayPostAll w messages

  taken_on : (m : Machine K) (input : Input K) (more : List (Input K)) → MayTake (input ∷ more) → MayWake m.state (input ∷ more) → P m.state → P (taken_in m input).state
  taken_on m (EventAt name payload element bubbles) more a c h = h
  taken_on m (WakeOf t) more a c h = law.wakes m.state t c h
  taken_on m (WriteOf n v) more a c h = write_on app P Q bound may law m.state n v a c h
  taken_on m (MarkOf s) more a c h = law.marks m.state s h
  taken_on m (Drain messages) more a c h = messages_on m.state messages c h

  take_on : (m : Machine K) (inputs : List (Input K)) → MayTake inputs → MayWake m.state inputs → P m.state → P (take_next m inputs).state
  take_on m [] a c h = h
  take_on m (input ∷ more) a c h =
      let u : Machine K = record m { inputs = more; taken = m.taken + 1; units = 0; default_enabled = true; listeners = [] } in
      let v : Machine K = taken_in u input in
      quiet_on v (waiting v) (taken_on u input more a c h)

  -- listeners

  hears_at : (m quiet : Machine K) (n : State K) (fault : Option CallFault) (ds : List (Deed K)) → P n → (GoodAll ds → P quiet.state)
      → GoodAll (elim fault as (λ z. List (Deed K)) [ None ↦ ds | Some f ↦ [] ])
      → (faulted : CallFault → Machine K)
      → ((f : CallFault) → (faulted f).state ≡ n)
      → P (elim fault as (λ z. Machine K) [ None ↦ then_looked quiet | Some f ↦ faulted f ]).state
  hears_at m quiet n None ds h go good faulted is = quiet_on quiet (waiting quiet) (go good)
  hears_at m quiet n (Some f) ds h go good faulted is = subst (λ (w : State K). P w) (sym (is f)) h

  hears_on : (m : Machine K) (l : Listener K) (ls : List (Listener K)) (o : Option (Event K)) → GoodAll (heard_deeds app m.state l o) → P m.state → P (heard_event app m l ls o).state
  hears_on m l ls None good h = h
  hears_on m l ls (Some event) good h =
      let world : World K = world_of m.state l.origin None false in
      let meaning : Meaning K (Event K) = app.handle l.handler event world in
      let drawn = draws.handlers l.handler event world (law.low m.state h) in
      let n : State K = with_next (called_once m.state) meaning.next in
      let numbers : P n = law.nexts (called_once m.state) meaning.next drawn.1 (once_on app P Q bound may law ends bodies Good allows draws m.state h) in
      let quiet : Machine K = record m {
        state = commands app n l.origin None meaning.commands;
        event = Some meaning.answer;
        default_enabled = not meaning.answer.prevented;
        listeners = further app m meaning.answer ls;
      } in
      hears_at m quiet n meaning.fault (record { state = n; scope = l.origin; polled = None; wants = meaning.commands } ∷ []) numbers
      (λ g. called app P Q bound may law ends bodies Good allows draws n l.origin None meaning.commands drawn.0 g.0 numbers)
      good
      (λ f. record m { state = n; listeners = ls; dead = Some (fault_of f); refused = None })
      (λ f. refl)

  first_on : (m : Machine K) (ls : List (Listener K)) → GoodAll (first_deeds app m ls) → P m.state → P (heard_first app m ls).state
  first_on m [] good h = h
  first_on m (l ∷ ls) good h = hears_on m l ls m.event good h

  -- an item may be served: what it feeds may be handed a component
  abbrev MayServe : State K → Item K → Type 0
  MayServe w (Draw s side p k) = Unit {0}
  MayServe w (Row b step) = Unit {0}
  MayServe w (Feed s side p c) = MayFeed app P Q bound may law ends bodies Good allows draws (fed_child w s side p)
  MayServe w (Make s side p c) = Unit {0}
  MayServe w (Drop t s side) = Unit {0}

  -- what comes without an entry feeds nothing
  silent_serves : (w : State K) (item : Item K) → is_silent item ≡ true → MayServe w item
  silent_serves w (Draw s side p k) h = tt
  silent_serves w (Row b step) h = tt
  silent_serves w (Feed s side p c) h = cc
  silent_serves w (Make s side p c) h = tt
  silent_serves w (Drop t s side) h = tt

  -- an item that is served
  item_on : (w : State K) (item : Item K) → MayServe w item → GoodAll (item_deeds app w item) → P w → To (outcome_of app w item)
  item_on w (Draw s side p k) serves good h = all_left (draw_number w s side p k) (number_on app P Q bound may law ends bodies Good allows draws w s side p k h)
  item_on w (Row b step) serves good h = step_on app P Q bound may law ends bodies Good allows draws w b step good h
  item_on w (Feed s side p c) serves good h = fed_on app P Q bound may law ends bodies Good allows draws w c (fed_child w s side p) serves good h
  item_on w (Make s side p c) serves good h = made_on app P Q bound may law ends bodies Good allows draws w s side p c good h
  item_on w (Drop t s side) serves good h = law.leaves w h

  -- an entry removes no scope that has to stay
  abbrev pub Sparing : List (Input K) → Entry → Type 0
  Sparing inputs Build = Unit {0}
  Sparing inputs (Taken k) = MayTake inputs
  Sparing inputs (Heard s) = Unit {0}
  Sparing inputs (Rerun s) = Unit {0}
  Sparing inputs (Poll t) = may.pollable t
  Sparing inputs (Effects s) = Unit {0}
  Sparing inputs (Made s) = Unit {0}
  Sparing inputs (Fed s) = may.feedable s
  Sparing inputs (Kept s) = may.feedable s
  Sparing inputs (Removed s) = may.removable s

  -- and what it wakes by itself may be woken: by the input that it takes, where nothing is at work, and by the scope that it removes
  abbrev pub Waking : Machine K → Entry → Type 0
  Waking m Build = Unit {0}
  Waking m (Taken k) = MayWake (at_rest m.state) m.inputs
  Waking m (Heard s) = Unit {0}
  Waking m (Rerun s) = Unit {0}
  Waking m (Poll t) = Unit {0}
  Waking m (Effects s) = Unit {0}
  Waking m (Made s) = Unit {0}
  Waking m (Fed s) = Unit {0}
  Waking m (Kept s) = Unit {0}
  Waking m (Removed s) = MayGo app P Q bound may law ends bodies Good allows draws m.state s

  -- where all that may wake tasks is allowed
  posts_anyway : ((w : State K) (c : Cause) → may.causable w c) → (w : State K) (ms : List Message) → MayPostAll w ms
  posts_anyway all w [] = tt
  posts_anyway all w (m ∷ ms) = (by m.what, posts_anyway all (post_message w m.what) ms)
    where
      by : (what : Post) → MayPost w what
      by (MarkScope s) = tt
      by (WakeTask t) = all w (WakesTask t)
      by AllDirty = tt

  takes_anyway : ((w : State K) (c : Cause) → may.causable w c) → (w : State K) (inputs : List (Input K)) → MayWake w inputs
  takes_anyway all w [] = tt
  takes_anyway all w (WriteOf n v ∷ more) = λ there. all w (Tells (Cell n))
  takes_anyway all w (EventAt name payload element bubbles ∷ more) = tt
  takes_anyway all w (WakeOf t ∷ more) = all w (WakesTask t)
  takes_anyway all w (MarkOf s ∷ more) = tt
  takes_anyway all w (Drain messages ∷ more) = posts_anyway all w messages

  pub waking_anyway : ((w : State K) (c : Cause) → may.causable w c) → (m : Machine K) (e : Entry) → Waking m e
  waking_anyway all m Build = tt
  waking_anyway all m (Taken k) = takes_anyway all (at_rest m.state) m.inputs
  waking_anyway all m (Heard s) = tt
  waking_anyway all m (Rerun s) = tt
  waking_anyway all m (Poll t) = tt
  waking_anyway all m (Effects s) = tt
  waking_anyway all m (Made s) = tt
  waking_anyway all m (Fed s) = tt
  waking_anyway all m (Kept s) = tt
  waking_anyway all m (Removed s) = λ v cells contexts. all v (GoesAway s)

  -- what is left of the fact holds after an entry whose calls are good and that spares what has to stay
  abbrev After : Machine K → Entry → Machine K → Type 0
  After m e u = GoodAll (entry_deeds app m e) → Sparing m.inputs e → Waking m e → P m.state → Q u.state

  owed_by : (m : Machine K) (work : Option Work) (e : Entry) → if_live m.state (due_work app m work m.inputs) ≡ Some e → After m e (change_by app m [] e)
  owed_by m (Some (RerunScope r)) e due_is =
      let same : e ≡ Rerun r = (live_due app m.state (Rerun r) e due_is).0 in
      subst (λ (x : Entry). After m x (change_by app m [] x)) (sym same)
      (
      λ good spared woken h.
      to_machine (one_more_unit (rested app m)) None [] (run app (at_rest m.state) r)
      (run_on app P Q bound may law ends bodies Good allows draws (at_rest m.state) r good (rest_on app P Q bound may law ends bodies Good allows draws m.state h))
      )
  owed_by m (Some (PollTask r)) e due_is =
      let same : e ≡ Poll r = (live_due app m.state (Poll r) e due_is).0 in
      subst (λ (x : Entry). After m x (change_by app m [] x)) (sym same)
      (
      λ good spared woken h.
      to_machine (one_more_unit (rested app m)) None [] (polled app (at_rest m.state) r)
      (all_left (polled app (at_rest m.state) r) (polled_on app P Q bound may law ends bodies Good allows draws (at_rest m.state) r spared good (rest_on app P Q bound may law ends bodies Good allows draws m.state h)))
      )
  owed_by m (Some (RunEffects r)) e due_is =
      let same : e ≡ Effects r = (live_due app m.state (Effects r) e due_is).0 in
      subst (λ (x : Entry). After m x (change_by app m [] x)) (sym same)
      (
      λ good spared woken h.
      to_machine (one_more_unit (rested app m)) None [] (effects_run app (at_rest m.state) r)
      (all_left (effects_run app (at_rest m.state) r) (effects_on app P Q bound may law ends bodies Good allows draws (at_rest m.state) r good (rest_on app P Q bound may law ends bodies Good allows draws m.state h)))
      )
  owed_by m None e due_is = on m.inputs refl
    where
      on : (inputs : List (Input K)) → m.inputs ≡ inputs → After m e (change_by app m [] e)
      on [] more =
          let none : None ≡ Some e = sym (ap (λ (is : List (Input K)). if_live m.state (due_work app m None is)) more) ∙ due_is in
          cc
      on (input ∷ inputs) more =
          let found : if_live m.state (Some (Taken (m.taken + 1))) ≡ Some e = sym (ap (λ (is : List (Input K)). if_live m.state (due_work app m None is)) more) ∙ due_is in
          let same : e ≡ Taken (m.taken + 1) = (live_due app m.state (Taken (m.taken + 1)) e found).0 in
          let r : Machine K = rested app m in
          subst (λ (x : Entry). After m x (change_by app m [] x)) (sym same)
          (λ good spared woken h. law.leaves (take_next r r.inputs).state (take_on r r.inputs spared woken (rest_on app P Q bound may law ends bodies Good allows draws m.state h)))

  heard_by_entry : (m : Machine K) (ls : List (Listener K)) (e : Entry) → waiting m ≡ ls → if_live m.state (due_heard app m ls) ≡ Some e → After m e (change_by app m [] e)
  heard_by_entry m [] e quiet due_is = owed_by m (next m.state) e due_is
  heard_by_entry m (l ∷ ls) e heard due_is =
      let same : e ≡ Heard l.origin = (live_due app m.state (Heard l.origin) e due_is).0 in
      subst (λ (x : Entry). After m x (change_by app m [] x)) (sym same) (λ good spared woken h. law.leaves (heard_first app m (waiting m)).state (first_on m (waiting m) good h))

  feed_goods : (m : Machine K) (t : ℕ) (b : Bool) → GoodAll (entry_deeds app m (if b then Kept t else Fed t)) → GoodAll (work_deeds app m.state m.work)
  feed_goods m t true good = good
  feed_goods m t false good = good

  feed_spared : (inputs : List (Input K)) (t : ℕ) (b : Bool) → Sparing inputs (if b then Kept t else Fed t) → may.feedable t
  feed_spared inputs t true spared = spared
  feed_spared inputs t false spared = spared

  fed_by : (m : Machine K) (s : ℕ) (side : SideName) (p : Place) (c : VComponent K) (rest : List (Item K)) (t : ℕ) (e : Entry) → m.work ≡ Feed s side p c ∷ rest
      → fed_child m.state s side p ≡ Some t
      → e ≡ (if keeps app m.state t c then Kept t else Fed t)
      → After m e (change_by app m (Feed s side p c ∷ rest) e)
  fed_by m s side p c rest t e first child same =
      let o : Outcome K = outcome_of app m.state (Feed s side p c) in
      subst (λ (x : Entry). After m x (change_by app m (Feed s side p c ∷ rest) x)) (sym same)
      (subst (λ (x : Machine K). After m (if keeps app m.state t c then Kept t else Fed t) x) (sym (fed_change app m s side p c rest t (keeps app m.state t c)))
      (
      λ good spared woken h.
      let goods : GoodAll (work_deeds app m.state m.work) = feed_goods m t (keeps app m.state t c) good in
      let feeds : MayServe m.state (Feed s side p c) =
      subst (λ (o : Option ℕ). MayFeed app P Q bound may law ends bodies Good allows draws o) (sym child) (feed_spared m.inputs t (keeps app m.state t c) spared) in
      to_machine m (Some (Feed s side p c)) rest o
      (item_on m.state (Feed s side p c) feeds (subst (λ (items : List (Item K)). GoodAll (work_deeds app m.state items)) first goods) h)
      ))

  dropped_by : (m : Machine K) (r top parent : ℕ) (side : SideName) (rest : List (Item K)) (b : Bool)
      → After m (Removed r) (if b then ended_by m (Some (Drop top parent side)) rest (removed app m.state r) else ended_by m (Some (Drop top parent side)) (Drop top parent side ∷ rest) (removed app m.state r))
  dropped_by m r top parent side rest true =
      λ good spared woken h. to_machine m (Some (Drop top parent side)) rest (removed app m.state r) (all_left (removed app m.state r) (removed_on app P Q bound may law ends bodies Good allows draws m.state r spared woken good h))
  dropped_by m r top parent side rest false =
      λ good spared woken h. to_machine m (Some (Drop top parent side)) (Drop top parent side ∷ rest) (removed app m.state r) (all_left (removed app m.state r) (removed_on app P Q bound may law ends bodies Good allows draws m.state r spared woken good h))

  item_by : (m : Machine K) (work : List (Item K)) (e : Entry) → m.work ≡ work → if_live m.state (due_item app m work) ≡ Some e → After m e (change_by app m work e)
  item_by m [] e first due_is = heard_by_entry m (waiting m) e refl due_is
  item_by m (Draw s side p k ∷ rest) e first due_is = cc
  item_by m (Row b step ∷ rest) e first due_is = cc
  item_by m (Make s side p c ∷ rest) e first due_is =
      let found = made_due app m.state (is_live m.state s) m.state.next_scope e due_is in
      subst (λ (x : Entry). After m x (change_by app m (Make s side p c ∷ rest) x)) (sym found.1)
      (
      λ good spared woken h.
      to_machine m (Some (Make s side p c)) rest (outcome_of app m.state (Make s side p c))
      (item_on m.state (Make s side p c) tt (subst (λ (items : List (Item K)). GoodAll (work_deeds app m.state items)) first good) h)
      )
  item_by m (Feed s side p c ∷ rest) e first due_is =
      let found = fed_due app m.state c (fed_child m.state s side p) e due_is in fed_by m s side p c rest found.0 e first found.1 found.2
  item_by m (Drop top parent side ∷ rest) e first due_is =
      let r : ℕ = next_removed m.state top in
      let same : e ≡ Removed r = (live_due app m.state (Removed r) e due_is).0 in
      subst (λ (x : Entry). After m x (change_by app m (Drop top parent side ∷ rest) x)) (sym same) (dropped_by m r top parent side rest (nat_eq r top))

  build_by : (m : Machine K) (work : List (Item K)) → After m Build (change_by app m work Build)
  build_by m work =
      subst (λ (x : Machine K). After m Build x) (sym (is work))
      (λ good spared woken h. to_machine (record m { built = true; unit = true }) None [] (run app m.state 0) (run_on app P Q bound may law ends bodies Good allows draws m.state 0 good h))
    where
      is : (items : List (Item K)) → change_by app m items Build ≡ ended_by (record m { built = true; unit = true }) None [] (run app m.state 0)
      is [] = refl
      is (Draw s side p k ∷ rest) = refl
      is (Row b step ∷ rest) = refl
      is (Feed s side p c ∷ rest) = refl
      is (Make s side p c ∷ rest) = refl
      is (Drop t s side ∷ rest) = refl

  logged_by : (m : Machine K) (e : Entry) → m.dead ≡ None → due app m ≡ Some e → After m e (change_by app m m.work e)
  logged_by m e alive due_is =
      built_by m.built
      (sym (ap (λ (o : Option Fault). if_live m.state (elim o as (λ z. Option Entry) [ None ↦ (if m.built then due_item app m m.work else Some Build) | Some fault ↦ None ])) alive) ∙ due_is)
    where
      built_by : (b : Bool) → if_live m.state (if b then due_item app m m.work else Some Build) ≡ Some e → After m e (change_by app m m.work e)
      built_by true h = item_by m m.work e refl h
      built_by false h =
          let same : e ≡ Build = (live_due app m.state Build e h).0 in subst (λ (x : Entry). After m x (change_by app m m.work x)) (sym same) (build_by m m.work)

  -- after a fault no entry is due
  dead_due : (m : Machine K) (e : Entry) (o : Option Fault) → m.dead ≡ o → due app m ≡ Some e → m.dead ≡ None
  dead_due m e None dead due_is = dead
  dead_due m e (Some fault) dead due_is =
      let none : None ≡ Some e =
      sym (ap (λ (o : Option Fault). if_live m.state (elim o as (λ z. Option Entry) [ None ↦ (if m.built then due_item app m m.work else Some Build) | Some f ↦ None ])) dead) ∙ due_is in
      cc

  -- the moves remove no scope that has to stay, and where they leave what is left of the fact the fact itself holds
  abbrev pub AllSparing : (limits : Limits) (m v : Machine K) (moves : List Move) → Leads app limits m moves v → Type 0
  AllSparing limits m v [] leads = Unit {0}
  AllSparing limits m v (Silent ∷ moves) leads = (Q (leads.0).state → P (leads.0).state) × AllSparing limits leads.0 v moves leads.2
  AllSparing limits m v (Closed ∷ moves) leads = AllSparing limits leads.0 v moves leads.2
  AllSparing limits m v (Logged e ∷ moves) leads = (Sparing m.inputs e × Waking m e) × (Q (leads.0).state → P (leads.0).state) × AllSparing limits leads.0 v moves leads.2

  -- the calls of the moves are good
  abbrev pub GoodOn : (limits : Limits) (m v : Machine K) (moves : List Move) → Leads app limits m moves v → Type 0
  GoodOn limits m v [] leads = Unit {0}
  GoodOn limits m v (move ∷ moves) leads = GoodAll (move_deeds app m move) × GoodOn limits leads.0 v moves leads.2

  -- so the fact holds after them
  pub moves_on : (limits : Limits) (m v : Machine K) (moves : List Move) (leads : Leads app limits m moves v) → GoodOn limits m v moves leads → AllSparing limits m v moves leads → P m.state → P v.state
  moves_on limits m v [] leads good spared h = subst (λ (x : Machine K). P x.state) (sym leads) h
  moves_on limits m v (Silent ∷ moves) leads good spared h =
      let move = leads.1 in
      let o : Outcome K = outcome_of app m.state move.item in
      let goods : GoodAll (item_deeds app m.state move.item) = subst (λ (items : List (Item K)). GoodAll (work_deeds app m.state items)) move.next good.0 in
      let now : Q (ended_by m (Some move.item) move.later o).state = to_machine m (Some move.item) move.later o (item_on m.state move.item (silent_serves m.state move.item move.silent) goods h) in
      moves_on limits leads.0 v moves leads.2 good.1 spared.1 (spared.0 (subst (λ (x : Machine K). Q x.state) (sym move.gives) now))
  moves_on limits m v (Closed ∷ moves) leads good spared h =
      let move = leads.1 in
      moves_on limits leads.0 v moves leads.2 good.1 spared (subst (λ (x : Machine K). P x.state) (sym move.gives) (law.mounts m.state h))
  moves_on limits m v (Logged e ∷ moves) leads good spared h =
      let move = leads.1 in
      let alive : m.dead ≡ None = dead_due m e m.dead refl move.due_is in
      let now : Q (change_by app m m.work e).state = logged_by m e alive move.due_is good.0 (spared.0).0 (spared.0).1 h in
      moves_on limits leads.0 v moves leads.2 good.1 spared.2 (spared.1 (subst (λ (x : Machine K). Q x.state) (sym move.gives) now))

  -- where nothing is asked of calls all are good
  pub good_anyway : ((w : State K) (s : ℕ) (polled : Option ℕ) (cs : List (Command K)) → Good w s polled cs) → (limits : Limits) (m v : Machine K) (moves : List Move) (leads : Leads app limits m moves v) → GoodOn limits m v moves leads
  good_anyway f limits m v [] leads = tt
  good_anyway f limits m v (move ∷ moves) leads = (all (move_deeds app m move), good_anyway f limits leads.0 v moves leads.2)
    where
      all : (ds : List (Deed K)) → GoodAll ds
      all [] = tt
      all (d ∷ ds) = (f d.state d.scope d.polled d.wants, all ds)

  -- what isn't the scope that has to stay may go
  pub spares_all : (b : ℕ) → ((s : ℕ) → nat_eq s b ≡ false → may.removable s) → ((n : ℕ) → may.writable n) → ((n : ℕ) → may.pollable n) → ((n : ℕ) → may.feedable n) → ((w : State K) (c : Cause) → may.causable w c) → ((w : State K) → Q w → P w)
      → (limits : Limits) (m v : Machine K) (moves : List Move) (leads : Leads app limits m moves v) → NoneRemoves b (entries moves) → AllSparing limits m v moves leads
  spares_all b f writes polls feeds wakes regains limits m v [] leads h = tt
  spares_all b f writes polls feeds wakes regains limits m v (Silent ∷ moves) leads h = (regains (leads.0).state, spares_all b f writes polls feeds wakes regains limits leads.0 v moves leads.2 h)
  spares_all b f writes polls feeds wakes regains limits m v (Closed ∷ moves) leads h = spares_all b f writes polls feeds wakes regains limits leads.0 v moves leads.2 h
  spares_all b f writes polls feeds wakes regains limits m v (Logged e ∷ moves) leads h = ((spared e h.0, waking_anyway wakes m e), regains (leads.0).state, spares_all b f writes polls feeds wakes regains limits leads.0 v moves leads.2 h.1)
    where
      taken : (inputs : List (Input K)) → MayTake inputs
      taken [] = tt
      taken (WriteOf n x ∷ more) = writes n
      taken (EventAt name payload element bubbles ∷ more) = tt
      taken (WakeOf t ∷ more) = tt
      taken (MarkOf s ∷ more) = tt
      taken (Drain messages ∷ more) = tt

      spared : (d : Entry) → removed_in b d ≡ false → Sparing m.inputs d
      spared (Removed s) q = f s q
      spared Build q = tt
      spared (Taken k) q = taken m.inputs
      spared (Heard s) q = tt
      spared (Rerun s) q = tt
      spared (Poll t) q = polls t
      spared (Effects s) q = tt
      spared (Made s) q = tt
      spared (Fed s) q = feeds s
      spared (Kept s) q = feeds s
