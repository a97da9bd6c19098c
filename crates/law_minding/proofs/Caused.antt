-- Between the starts of two polls of a task something woke it.
use Rattle.std.proofs.Common.{ℕ, ◌+◌, ◌≤◌, Bool, true, false, List, [], ◌∷◌, ◌≡◌, not, refl, sym, ap, ◌∙◌, subst, nat_eq, arith}
use Rattle.std.specs.Prelude.{Option, Some, None, if◌then◌else◌, is_some}
use Rattle.std.specs.List.{AllByRecursion}
use Rattle.rt_model.specs.Lists.{at, kept_by, has}
use Rattle.rt_model.specs.Laws.{IsLawful}
use Rattle.rt_model.specs.Tree.{Types, CapturedError}
use Rattle.rt_model.specs.World.{Cell, Error, Context, Command, Spawn, RemoveFuture, Wake, SetActive, Write, DropCell, NewCell, NewContext, Reset, ReadInto, Provide, Throw, ClearErrors, Application}
use Rattle.rt_model.specs.State.{Fault, Scope, CellRow, ContextRow, State, Item, Draw, Row, Feed, Make, Drop, Outcome, Done, Cut, is_live, error_context}
use Rattle.rt_model.specs.Commands.{unqueued, command}
use Rattle.rt_model.specs.Next.{Work, RerunScope, PollTask, RunEffects, at_rest, next}
use Rattle.rt_model.specs.Removal.{next_removed}
use Rattle.rt_model.specs.Heard.{Listener}
use Rattle.rt_model.specs.Replay.{Entry, Build, Taken, Heard, Rerun, Poll, Effects, Made, Fed, Kept, Removed, Post, MarkScope, WakeTask, AllDirty, Message, Input, EventAt, WakeOf, WriteOf, MarkOf, Drain, Machine, waiting, ended_by, post_message, one_more_unit, rested, if_live, fed_child, keeps, due_item, due_heard, due_work, due, polled}
use Rattle.rt_model.specs.Causes.{Limits}
use Rattle.rt_model.proofs.Maps.{by_test}
use Rattle.rt_model.proofs.Tour.{AllFresh}
use Rattle.law_moves.specs.Moves.{Move, Silent, Closed, Logged, Moves, Leads}
use Rattle.law_moves.proofs.Insides.{live_due, made_due, fed_due}
use Rattle.law_behavior.specs.Comes.{ComesToPoll}
use Rattle.law_behavior.specs.Wakes.{differs}
use Rattle.law_behavior.specs.Deeds.{Deed, poll_deeds, move_deeds}
use Rattle.law_behavior.proofs.Coming.{next_in_turn}
use Rattle.law_behavior.proofs.Commanded.{MayClear, MayThrow, MayTell, MayProvide, Allowed, Caused, AllAllowed}
use Rattle.law_behavior.proofs.Lived.{Ends}
use Rattle.law_behavior.proofs.Polled.{rest_on, poll_at}
use Rattle.law_behavior.proofs.Onwards.{MayTake, MayPost, MayPostAll, MayWake, Sparing, Waking, AllSparing, moves_on}
use Rattle.law_behavior.proofs.Steadfast.{lawful_draw}
use Rattle.law_minding.specs.Waking.{post_wakes, messages_wake, hears, is_empty, hears_throw, hears_clear, hears_provide, removal_wakes, input_wakes, entry_wakes, wakes, any_wakes, calls_wake, move_wakes, some_wakes, PollsAreCaused}
use Rattle.law_minding.proofs.Rested.{rest_leaves, poll_change}
use Rattle.law_minding.proofs.Hearing.{neither, other_false, has_middle}
use Rattle.law_minding.proofs.Unwoken.{Calm, starts_calm, others_wake, frame, called}

module _ {K : Types} (app : Application K) where
  -- a poll that is due comes next

  not_fed : {P : Type 0} (b : Bool) (t s : ℕ) → Poll t ≡ (if b then Kept s else Fed s) → P
  not_fed true t s h = cc
  not_fed false t s h = cc

  pub poll_next : (m : Machine K) (t : ℕ) → due app m ≡ Some (Poll t) → next m.state ≡ Some (PollTask t)
  poll_next m t h = by m.dead h
    where
      untaken : (inputs : List (Input K)) → if_live m.state (due_work app m None inputs) ≡ Some (Poll t) → next m.state ≡ Some (PollTask t)
      untaken [] g = let absurdity : None ≡ Some (Poll t) = g in cc
      untaken (input ∷ more) g = let no : Poll t ≡ Taken (m.taken + 1) = (live_due app m.state (Taken (m.taken + 1)) (Poll t) g).0 in cc

      unit : (o : Option Work) → next m.state ≡ o → if_live m.state (due_work app m o m.inputs) ≡ Some (Poll t) → next m.state ≡ Some (PollTask t)
      unit (Some (RerunScope s)) is g = let no : Poll t ≡ Rerun s = (live_due app m.state (Rerun s) (Poll t) g).0 in cc
      unit (Some (PollTask u)) is g =
          let same : Poll t ≡ Poll u = (live_due app m.state (Poll u) (Poll t) g).0 in
          let one : u ≡ t = cc in
          is ∙ ap (λ (n : ℕ). Some (PollTask n)) one
      unit (Some (RunEffects s)) is g = let no : Poll t ≡ Effects s = (live_due app m.state (Effects s) (Poll t) g).0 in cc
      unit None is g = untaken m.inputs g

      heard : (ls : List (Listener K)) → if_live m.state (due_heard app m ls) ≡ Some (Poll t) → next m.state ≡ Some (PollTask t)
      heard [] g = unit (next m.state) refl g
      heard (l ∷ ls) g = let no : Poll t ≡ Heard l.origin = (live_due app m.state (Heard l.origin) (Poll t) g).0 in cc

      items : (work : List (Item K)) → if_live m.state (due_item app m work) ≡ Some (Poll t) → next m.state ≡ Some (PollTask t)
      items [] g = heard (waiting m) g
      items (Draw s side p k ∷ rest) g = let absurdity : None ≡ Some (Poll t) = g in cc
      items (Row b step ∷ rest) g = let absurdity : None ≡ Some (Poll t) = g in cc
      items (Make s side p c ∷ rest) g = let no : Poll t ≡ Made m.state.next_scope = (made_due app m.state (is_live m.state s) m.state.next_scope (Poll t) g).1 in cc
      items (Feed s side p c ∷ rest) g =
          let found = fed_due app m.state c (fed_child m.state s side p) (Poll t) g in not_fed (keeps app m.state found.0 c) t found.0 found.2
      items (Drop top parent side ∷ rest) g =
          let r : ℕ = next_removed m.state top in
          let no : Poll t ≡ Removed r = (live_due app m.state (Removed r) (Poll t) g).0 in
          cc

      built : (b : Bool) → if_live m.state (if b then due_item app m m.work else Some Build) ≡ Some (Poll t) → next m.state ≡ Some (PollTask t)
      built true g = items m.work g
      built false g = let no : Poll t ≡ Build = (live_due app m.state Build (Poll t) g).0 in cc

      by : (o : Option Fault) → if_live m.state (elim o as (λ z. Option Entry) [ None ↦ (if m.built then due_item app m m.work else Some Build) | Some fault ↦ None ]) ≡ Some (Poll t) → next m.state ≡ Some (PollTask t)
      by None g = built m.built g
      by (Some fault) g = let absurdity : None ≡ Some (Poll t) = g in cc

module _ {K : Types} (app : Application K) (lawful : IsLawful K app) (t : ℕ) where
  -- calls that don't wake the task

  -- none of the commands of a call wakes the task
  abbrev pub Quiet : State K → ℕ → Option ℕ → List (Command K) → Type 0
  Quiet w s polled cs = any_wakes app t w s polled cs ≡ false

  thrown : (w : State K) (o : Option ℕ) → hears_throw t w o ≡ false → MayThrow app (λ w. Calm t w) (λ w. Calm t w) (t + 1) (others_wake t) (frame t app) w o
  thrown w None h = tt
  thrown w (Some b) h =
      λ x live none.
      other_false (is_empty (at w.scopes b)) (hears t w.contexts (Error b)) h
      (ap (λ (o : Option (Scope K)). is_empty o) live ∙ ap (λ (o : Option CapturedError). not (is_some o)) none)

  cleared : (w : State K) (o : Option ℕ) → hears_clear t w o ≡ false → MayTell app (λ w. Calm t w) (λ w. Calm t w) (t + 1) (others_wake t) (frame t app) w o
  cleared w None h = tt
  cleared w (Some b) h = h

  provided : (w : State K) (s k : ℕ) (v : K.Value) (o : Option (Scope K)) → hears_provide app t w s k v o ≡ false
      → MayProvide app (λ w. Calm t w) (λ w. Calm t w) (t + 1) (others_wake t) (frame t app) w s k v o
  provided w s k v None h = tt
  provided w s k v (Some x) h = λ other. other_false (differs app v (at x.contexts k)) (hears t w.contexts (Context k s)) h other

  caused : (w : State K) (s : ℕ) (c : Command K) → wakes app t w s c ≡ false → Caused app (λ w. Calm t w) (λ w. Calm t w) (t + 1) (others_wake t) (frame t app) w s c
  caused w s (Write n v) h = λ there. other_false (is_some (at w.cells n)) (hears t w.contexts (Cell n)) h there
  caused w s (DropCell n) h = λ there. other_false (is_some (at w.cells n)) (hears t w.contexts (Cell n)) h there
  caused w s (Wake u) h = h
  caused w s (SetActive u active) h = h
  caused w s (Provide root k v) h = provided w (if root then 0 else s) k v (at w.scopes (if root then 0 else s)) h
  caused w s (Throw e) h = thrown w (error_context w s) h
  caused w s ClearErrors h = cleared w (error_context w s) h
  caused w s c h = tt

  may_clear : (o : Option ℕ) → MayClear app (λ w. Calm t w) (λ w. Calm t w) (t + 1) (others_wake t) (frame t app) o
  may_clear None = tt
  may_clear (Some b) = tt

  allowed : (w : State K) (s : ℕ) (c : Command K) (cs : List (Command K)) → AllFresh app (t + 1) (c ∷ cs) → Allowed app (λ w. Calm t w) (λ w. Calm t w) (t + 1) (others_wake t) (frame t app) w s c
  allowed w s ClearErrors cs f = may_clear (error_context w s)
  allowed w s (Spawn u a forever isomorphic) cs f = (f.0, tt)
  allowed w s (RemoveFuture u) cs f = tt
  allowed w s (Write n v) cs f = tt
  allowed w s (DropCell n) cs f = tt
  allowed w s (NewCell n v) cs f = tt
  allowed w s (NewContext n target) cs f = tt
  allowed w s (Reset n) cs f = tt
  allowed w s (ReadInto n source) cs f = tt
  allowed w s c cs f = tt

  pub all_allowed : (w : State K) (s : ℕ) (polled : Option ℕ) (cs : List (Command K)) → AllFresh app (t + 1) cs → Quiet w s polled cs
      → AllAllowed app (λ w. Calm t w) (λ w. Calm t w) (t + 1) (others_wake t) (frame t app) w s polled cs
  all_allowed w s polled [] f h = tt
  all_allowed w s polled (c ∷ cs) f h =
      let both = neither (wakes app t w s c) (any_wakes app t (command app w s polled c) s polled cs) h in
      ((allowed w s c cs f, caused w s c both.0), all_allowed (command app w s polled c) s polled cs f.1 both.1)

  pub calls_quiet : (ds : List (Deed K)) → calls_wake app t ds ≡ false → AllByRecursion (λ (d : Deed K). Quiet d.state d.scope d.polled d.wants) ds
  calls_quiet [] h = tt
  calls_quiet (d ∷ ds) h =
      let both = neither (any_wakes app t d.state d.scope d.polled d.wants) (calls_wake app t ds) h in (both.0, calls_quiet ds both.1)

  -- entries that don't

  abbrev Takes : List (Input K) → Type 0
  Takes inputs =
      MayTake app (λ w. Calm t w) (λ w. Calm t w) (t + 1) (others_wake t) (frame t app) (λ u. tt) (called t app) (λ w s polled cs. Quiet w s polled cs) (λ w s polled cs f g. all_allowed w s polled cs f g) (lawful_draw app (t + 1) lawful) inputs

  abbrev Spares : List (Input K) → Entry → Type 0
  Spares inputs e =
      Sparing app (λ w. Calm t w) (λ w. Calm t w) (t + 1) (others_wake t) (frame t app) (λ u. tt) (called t app) (λ w s polled cs. Quiet w s polled cs) (λ w s polled cs f g. all_allowed w s polled cs f g) (lawful_draw app (t + 1) lawful) inputs e

  abbrev Wakes : Machine K → Entry → Type 0
  Wakes m e =
      Waking app (λ w. Calm t w) (λ w. Calm t w) (t + 1) (others_wake t) (frame t app) (λ u. tt) (called t app) (λ w s polled cs. Quiet w s polled cs) (λ w s polled cs f g. all_allowed w s polled cs f g) (lawful_draw app (t + 1) lawful) m e

  abbrev WakesIn : State K → List (Input K) → Type 0
  WakesIn w inputs =
      MayWake app (λ w. Calm t w) (λ w. Calm t w) (t + 1) (others_wake t) (frame t app) (λ u. tt) (called t app) (λ w s polled cs. Quiet w s polled cs) (λ w s polled cs f g. all_allowed w s polled cs f g) (lawful_draw app (t + 1) lawful) w inputs

  abbrev PostsIn : State K → List Message → Type 0
  PostsIn w ms =
      MayPostAll app (λ w. Calm t w) (λ w. Calm t w) (t + 1) (others_wake t) (frame t app) (λ u. tt) (called t app) (λ w s polled cs. Quiet w s polled cs) (λ w s polled cs f g. all_allowed w s polled cs f g) (lawful_draw app (t + 1) lawful) w ms

  abbrev PostsOne : State K → Post → Type 0
  PostsOne w what =
      MayPost app (λ w. Calm t w) (λ w. Calm t w) (t + 1) (others_wake t) (frame t app) (λ u. tt) (called t app) (λ w s polled cs. Quiet w s polled cs) (λ w s polled cs f g. all_allowed w s polled cs f g) (lawful_draw app (t + 1) lawful) w what

  may_take : (inputs : List (Input K)) → Takes inputs
  may_take [] = tt
  may_take (WriteOf n v ∷ more) = tt
  may_take (EventAt name payload element bubbles ∷ more) = tt
  may_take (WakeOf u ∷ more) = tt
  may_take (MarkOf s ∷ more) = tt
  may_take (Drain messages ∷ more) = tt

  entry_spares : (inputs : List (Input K)) (e : Entry) → Spares inputs e
  entry_spares inputs Build = tt
  entry_spares inputs (Taken k) = may_take inputs
  entry_spares inputs (Heard s) = tt
  entry_spares inputs (Rerun s) = tt
  entry_spares inputs (Poll u) = tt
  entry_spares inputs (Effects s) = tt
  entry_spares inputs (Made s) = tt
  entry_spares inputs (Fed s) = tt
  entry_spares inputs (Kept s) = tt
  entry_spares inputs (Removed s) = tt

  one_post : (w : State K) (what : Post) → post_wakes t what ≡ false → PostsOne w what
  one_post w (MarkScope s) h = tt
  one_post w (WakeTask u) h = h
  one_post w AllDirty h = tt

  all_posts : (w : State K) (ms : List Message) → messages_wake t ms ≡ false → PostsIn w ms
  all_posts w [] h = tt
  all_posts w (m ∷ ms) h =
      let both = neither (post_wakes t m.what) (messages_wake t ms) h in (one_post w m.what both.0, all_posts (post_message w m.what) ms both.1)

  input_quiet : (w : State K) (inputs : List (Input K)) → input_wakes t w inputs ≡ false → WakesIn w inputs
  input_quiet w [] h = tt
  input_quiet w (WriteOf n v ∷ more) h = λ there. other_false (is_some (at w.cells n)) (hears t w.contexts (Cell n)) h there
  input_quiet w (EventAt name payload element bubbles ∷ more) h = tt
  input_quiet w (WakeOf u ∷ more) h = h
  input_quiet w (MarkOf s ∷ more) h = tt
  input_quiet w (Drain messages ∷ more) h = all_posts w messages h

  entry_quiet : (m : Machine K) (e : Entry) → entry_wakes t m e ≡ false → Wakes m e
  entry_quiet m (Taken k) h = input_quiet (at_rest m.state) m.inputs h
  entry_quiet m (Removed s) h =
      λ v cells contexts.
      ap (λ (es : List (ℕ × CellRow K)). removal_wakes t es s (kept_by (λ e. not (nat_eq (e.1).scope s)) v.contexts)) cells
      ∙ ap (λ (es : List (ℕ × ContextRow K)). removal_wakes t m.state.cells s (kept_by (λ e. not (nat_eq (e.1).scope s)) es)) contexts
      ∙ h
  entry_quiet m Build h = tt
  entry_quiet m (Heard s) h = tt
  entry_quiet m (Rerun s) h = tt
  entry_quiet m (Poll u) h = tt
  entry_quiet m (Effects s) h = tt
  entry_quiet m (Made s) h = tt
  entry_quiet m (Fed s) h = tt
  entry_quiet m (Kept s) h = tt

  -- moves that don't wake it leave it unwoken

  abbrev Spared : (limits : Limits) (m u : Machine K) (move : Move) → Moves app limits m move u → Type 0
  Spared limits m u move step =
      AllSparing app (λ w. Calm t w) (λ w. Calm t w) (t + 1) (others_wake t) (frame t app) (λ u. tt) (called t app) (λ w s polled cs. Quiet w s polled cs) (λ w s polled cs f g. all_allowed w s polled cs f g) (lawful_draw app (t + 1) lawful) limits m u (move ∷ []) (u, step, refl)

  by_frame : (limits : Limits) (m u : Machine K) (move : Move) (step : Moves app limits m move u) → calls_wake app t (move_deeds app m move) ≡ false → Spared limits m u move step → Calm t m.state → Calm t u.state
  by_frame limits m u move step quiet spared h =
      moves_on app (λ w. Calm t w) (λ w. Calm t w) (t + 1) (others_wake t) (frame t app) (λ u. tt) (called t app) (λ w s polled cs. Quiet w s polled cs) (λ w s polled cs f g. all_allowed w s polled cs f g) (lawful_draw app (t + 1) lawful)
      limits m u (move ∷ []) (u, step, refl) (calls_quiet (move_deeds app m move) quiet, tt) spared h

  one_calm : (limits : Limits) (m u : Machine K) (move : Move) → Moves app limits m move u → move_wakes app t m move ≡ false → Calm t m.state → Calm t u.state
  one_calm limits m u Silent step quiet h = by_frame limits m u Silent step quiet (λ g. g, tt) h
  one_calm limits m u Closed step quiet h = by_frame limits m u Closed step refl tt h
  one_calm limits m u (Logged e) step quiet h =
      let both = neither (calls_wake app t (move_deeds app m (Logged e))) (entry_wakes t m e) quiet in
      by_frame limits m u (Logged e) step both.0 ((entry_spares m.inputs e, entry_quiet m e both.1), λ g. g, tt) h

  pub all_calm : (limits : Limits) (m v : Machine K) (moves : List Move) (leads : Leads app limits m moves v) → some_wakes app limits t m v moves leads ≡ false → Calm t m.state → Calm t v.state
  all_calm limits m v [] leads quiet h = subst (λ (z : Machine K). Calm t z.state) (sym leads) h
  all_calm limits m v (move ∷ moves) leads quiet h =
      let both = neither (move_wakes app t m move) (some_wakes app limits t leads.0 v moves leads.2) quiet in
      all_calm limits leads.0 v moves leads.2 both.1 (one_calm limits m leads.0 move leads.1 both.0 h)

  -- so it is from the start of a poll to its end

  abbrev Left : Outcome K → Type 0
  Left o =
      Ends app (λ w. Calm t w) (λ w. Calm t w) (t + 1) (others_wake t) (frame t app) (λ u. tt) (called t app) (λ w s polled cs. Quiet w s polled cs) (λ w s polled cs f g. all_allowed w s polled cs f g) (lawful_draw app (t + 1) lawful) o

  ended_calm : (m : Machine K) (o : Outcome K) → Left o → Calm t (ended_by m None [] o).state
  ended_calm m (Done v work) h = h
  ended_calm m (Cut v fault) h = h

  pub poll_calm : (limits : Limits) (m u : Machine K) → Moves app limits m (Logged (Poll t)) u → move_wakes app t m (Logged (Poll t)) ≡ false → t + 1 ≤ m.state.next.tasks → Calm t u.state
  poll_calm limits m u step quiet low =
      let w : State K = at_rest m.state in
      let v : State K = unqueued w t in
      let both = neither (calls_wake app t (move_deeds app m (Logged (Poll t)))) (entry_wakes t m (Poll t)) quiet in
      let rested_low : t + 1 ≤ w.next.tasks = subst (λ (n : ℕ). t + 1 ≤ n) (sym (ap (λ (z : State K). z.next.tasks) (rest_leaves m.state))) low in
      let left : Left (polled app w t) =
      poll_at app (λ w. Calm t w) (λ w. Calm t w) (t + 1) (others_wake t) (frame t app) (λ u. tt) (called t app) (λ w s polled cs. Quiet w s polled cs) (λ w s polled cs f g. all_allowed w s polled cs f g) (lawful_draw app (t + 1) lawful)
      v t (at w.tasks t) refl tt (calls_quiet (poll_deeds app v t (at w.tasks t)) both.0) (starts_calm t w rested_low) in
      subst (λ (z : Machine K). Calm t z.state) (sym (step.gives ∙ poll_change app t m m.work)) (ended_calm (one_more_unit (rested app m)) (polled app w t) left)

  -- who isn't woken isn't polled next
  pub not_next : (w : State K) → Calm t w → next w ≡ Some (PollTask t) → ⊥
  not_next w h up =
      let calm : Calm t (at_rest w) =
      rest_on app (λ w. Calm t w) (λ w. Calm t w) (t + 1) (others_wake t) (frame t app) (λ u. tt) (called t app) (λ w s polled cs. Quiet w s polled cs) (λ w s polled cs f g. all_allowed w s polled cs f g) (lawful_draw app (t + 1) lawful) w h in
      let turn : ComesToPoll (at_rest w) t = next_in_turn K w (PollTask t) up in
      let first = turn.first in
      calm.unqueued_yet (ap (λ (ns : List ℕ). has ns t) first.stands ∙ has_middle first.front first.back t)

pub polls_are_caused : {K : Types} (app : Application K) → PollsAreCaused app
polls_are_caused {K = K} app lawful limits m v u moves t leads drawn again =
    by_test (some_wakes app limits t m v (Logged (Poll t) ∷ moves) leads)
    (λ q. q)
    (
    λ q.
    let both = neither (move_wakes app t m (Logged (Poll t))) (some_wakes app limits t leads.0 v moves leads.2) q in
    let low : t + 1 ≤ m.state.next.tasks = omega (arith, drawn) in
    let calm : Calm t v.state = all_calm app lawful t limits leads.0 v moves leads.2 both.1 (poll_calm app lawful t limits m leads.0 leads.1 both.0 low) in
    absurd (not_next app lawful t v.state calm (poll_next app v t again.due_is))
    )
