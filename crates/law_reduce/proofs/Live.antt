-- What is gone stays gone, so what is live at the end of a way was removed by nothing on it.
use Rattle.std.proofs.Common.{ℕ, ◌<◌, Bool, true, false, List, [], ◌∷◌, ◌≡◌, refl, sym, ap, ◌∙◌, subst, nat_eq, arith}
use Rattle.std.proofs.lemmas.Bool.{eqb-true}
use Rattle.std.specs.Prelude.{Option, Some, None, if◌then◌else◌, is_some}
use Rattle.rt_model.specs.Lists.{at}
use Rattle.rt_model.specs.Tree.{Types, VComponent}
use Rattle.rt_model.specs.World.{Application}
use Rattle.rt_model.specs.Laws.{IsLawful}
use Rattle.rt_model.specs.State.{Fault, Scope, State, Item, Draw, Row, Feed, Make, Drop, Outcome, Done, Cut, is_live}
use Rattle.rt_model.specs.Next.{Work, RerunScope, PollTask, RunEffects, at_rest, next_at_rest}
use Rattle.rt_model.specs.Removal.{removed}
use Rattle.rt_model.specs.Heard.{Listener}
use Rattle.rt_model.specs.Replay.{Entry, Build, Taken, Heard, Rerun, Poll, Effects, Made, Fed, Kept, Removed, Input, Machine, ended_by, waiting, fed_child, keeps, due_feed, due_work, due_heard, due_item, due_any, due, is_due, change_by, step, replay_on, start}
use Rattle.rt_model.specs.Causes.{Limits}
use Rattle.rt_model.specs.Lasting.{IsRooted}
use Rattle.rt_model.specs.Told.{Told, telling, told_by, tell_reports}
use Rattle.rt_model.specs.Reports.{Report, logs_of, OneEach}
use Rattle.rt_model.proofs.Maps.{by_test, none_some}
use Rattle.rt_model.proofs.Members.{clash}
use Rattle.rt_model.proofs.OneLogOnly.{fork}
use Rattle.rt_model.proofs.StepFrames.{Follows, follows_trans, follows_refl, IsGone, removed_gone}
use Rattle.rt_model.proofs.MachineFrames.{by_order, step_follows}
use Rattle.rt_model.proofs.LastsAlways.{inj_machine, live_of, start_rooted, rooted_lasts}
use Rattle.rt_model.proofs.ToldReplayed.{first-of, log-replays}
use Rattle.law_moves.specs.Moves.{Move, Silent, Closed, Logged, entries, IsSettled, IsLogged, Leads}
use Rattle.law_moves.proofs.Insides.{alive_before}
use Rattle.law_moves.proofs.Limited.{some_limits}
use Rattle.law_moves.proofs.Woods.{reached_sound}
use Rattle.law_headline.proofs.Reports.{settled_after}
use Rattle.law_behavior.specs.Along.{removed_in, NoneRemoves}
use Rattle.law_minding.proofs.Numbers.{move_follows}
use Rattle.law_reduce.specs.Folds.{last_state}
use Rattle.law_reduce.specs.Elm.{NeverRemoved}
use Rattle.law_reduce.specs.Live.{LiveUnremoved, LiveStay, LiveNeverRemoved}
use Rattle.law_reduce.proofs.Led.{LedTo, led_start, led_on, Way, way_on}
use Rattle.law_reduce.proofs.OneReport.{settled_alive}
use Rattle.law_reduce.proofs.Reports.{AllSettled, none_told}

module _ {K : Types} (s : ℕ) where
  -- the scope was there, and isn't any more
  abbrev Out : State K → Type 0
  Out w = (s < w.next_scope) × (at w.scopes s ≡ None)

  out_after : (w v : State K) → Follows w v → Out w → Out v
  out_after w v f out = let below : s < v.next_scope = omega (arith, out.0, f.next_scope) in (below, f.gone s out.0 out.1)

  -- then it isn't live
  not_live : {P : Type 0} (w : State K) → Out w → is_live w s ≡ true → P
  not_live w out live = clash live (ap (λ (o : Option (Scope K)). is_some o) out.1)

  -- and else it is, where its number was drawn
  live_else : (w : State K) (o : Option (Scope K)) → at w.scopes s ≡ o → s < w.next_scope → (Out w → ⊥) → is_live w s ≡ true
  live_else w None e low there = absurd (there (low, e))
  live_else w (Some x) e low there = ap (λ (p : Option (Scope K)). is_some p) e

  -- a live scope has a number that was drawn
  drawn : (w : State K) (o : Option (Scope K)) → at w.scopes s ≡ o → IsRooted w → is_some o ≡ true → s < w.next_scope
  drawn w None e rooted live = clash live refl
  drawn w (Some x) e rooted live = by_order s w.next_scope (λ q. q) (λ q. none_some (rooted.drawn s q) e)

module _ {K : Types} (app : Application K) (m : Machine K) (s : ℕ) where
  -- no unit is a removal
  no_unit : (o : Option Work) (inputs : List (Input K)) → due_work app m o inputs ≡ Some (Removed s) → ⊥
  no_unit (Some (RerunScope t)) inputs h = cc
  no_unit (Some (PollTask t)) inputs h = cc
  no_unit (Some (RunEffects t)) inputs h = cc
  no_unit None [] h = cc
  no_unit None (input ∷ inputs) h = cc

  no_listener : (ls : List (Listener K)) → due_heard app m ls ≡ Some (Removed s) → ⊥
  no_listener [] h = no_unit (next_at_rest (at_rest m.state)) m.inputs h
  no_listener (l ∷ ls) h = cc

  no_make : (n : ℕ) (b : Bool) → (if b then Some (Made n) else None) ≡ Some (Removed s) → ⊥
  no_make n true h = cc
  no_make n false h = cc

  no_handing : (t : ℕ) (b : Bool) → Some (if b then Kept t else Fed t) ≡ Some (Removed s) → ⊥
  no_handing t true h = cc
  no_handing t false h = cc

  no_feed : (c : VComponent K) (o : Option ℕ) → due_feed app m.state c o ≡ Some (Removed s) → ⊥
  no_feed c None h = cc
  no_feed c (Some t) h = no_handing t (keeps app m.state t c) h

  -- a removal serves open work
  of_built : (b : Bool) → (if b then due_item app m m.work else Some Build) ≡ Some (Removed s) → due_item app m m.work ≡ Some (Removed s)
  of_built true h = h
  of_built false h = cc

  of_item : (o : Option Fault) → (elim o as (λ z. Option Entry) [ None ↦ (if m.built then due_item app m m.work else Some Build) | Some fault ↦ None ]) ≡ Some (Removed s)
      → due_item app m m.work ≡ Some (Removed s)
  of_item None h = of_built m.built h
  of_item (Some fault) h = cc

module _ {K : Types} (app : Application K) (lawful : IsLawful K app) (s : ℕ) where
  ended_out : (m : Machine K) (this : Option (Item K)) (rest : List (Item K)) (o : Outcome K) → IsGone s o → (ended_by m this rest o).dead ≡ None
      → at (ended_by m this rest o).state.scopes s ≡ None
  ended_out m this rest (Done w work) gone alive = gone
  ended_out m this rest (Cut w fault) gone alive = cc

  dropped_out : (m : Machine K) (item : Item K) (rest : List (Item K)) (b : Bool)
      → (if b then ended_by m (Some item) rest (removed app m.state s) else ended_by m (Some item) (item ∷ rest) (removed app m.state s)).dead ≡ None
      → at (if b then ended_by m (Some item) rest (removed app m.state s) else ended_by m (Some item) (item ∷ rest) (removed app m.state s)).state.scopes s ≡ None
  dropped_out m item rest true alive = ended_out m (Some item) rest (removed app m.state s) (removed_gone app lawful m.state s) alive
  dropped_out m item rest false alive = ended_out m (Some item) (item ∷ rest) (removed app m.state s) (removed_gone app lawful m.state s) alive

  item_out : (m : Machine K) (work : List (Item K)) → due_item app m work ≡ Some (Removed s) → (change_by app m work (Removed s)).dead ≡ None
      → at (change_by app m work (Removed s)).state.scopes s ≡ None
  item_out m [] due_is alive = absurd (no_listener app m s (waiting m) due_is)
  item_out m (Draw r side p k ∷ rest) due_is alive = cc
  item_out m (Row b row_step ∷ rest) due_is alive = cc
  item_out m (Make r side p c ∷ rest) due_is alive = absurd (no_make app m s m.state.next_scope (is_live m.state r) due_is)
  item_out m (Feed r side p c ∷ rest) due_is alive = absurd (no_feed app m s c (fed_child m.state r side p) due_is)
  item_out m (Drop top r side ∷ rest) due_is alive = dropped_out m (Drop top r side) rest (nat_eq s top) alive

  -- behind its removal a scope is gone
  removed_out : (limits : Limits) (m u : Machine K) → IsRooted m.state → IsLogged app limits m (Removed s) u → u.dead ≡ None → Out s u.state
  removed_out limits m u rooted logged alive =
      let found = live_of m.state (due_any app m) (Removed s) logged.due_is in
      let low : s < m.state.next_scope = drawn s m.state (at m.state.scopes s) refl rooted found.1 in
      let f : Follows m.state u.state = move_follows app lawful limits m u (Logged (Removed s)) logged in
      let below : s < u.state.next_scope = omega (arith, low, f.next_scope) in
      let here : (change_by app m m.work (Removed s)).dead ≡ None = ap (λ (x : Machine K). x.dead) (sym logged.gives) ∙ alive in
      let gone : at (change_by app m m.work (Removed s)).state.scopes s ≡ None = item_out m m.work (of_item app m s m.dead found.0) here in
      (below, subst (λ (x : Machine K). at x.state.scopes s ≡ None) (sym logged.gives) gone)

  out_on : (limits : Limits) (m v : Machine K) (moves : List Move) → Leads app limits m moves v → Out s m.state → Out s v.state
  out_on limits m v [] leads out = subst (λ (x : Machine K). Out s x.state) (sym leads) out
  out_on limits m v (move ∷ moves) leads out =
      out_on limits leads.0 v moves leads.2 (out_after s m.state (leads.0).state (move_follows app lawful limits m leads.0 move leads.1) out)

  entry_spares : (limits : Limits) (m u v : Machine K) (e : Entry) (moves : List Move) → IsRooted m.state → IsLogged app limits m e u → Leads app limits u moves v → v.dead ≡ None → is_live v.state s ≡ true
      → removed_in s e ≡ false
  entry_spares limits m u v (Removed r) moves rooted logged leads alive live =
      by_test (nat_eq r s)
      (
      λ q.
      let this : IsLogged app limits m (Removed s) u = subst (λ (n : ℕ). IsLogged app limits m (Removed n) u) (eqb-true r s q) logged in
      let out : Out s u.state = removed_out limits m u rooted this (alive_before app limits u v moves u.dead refl leads alive) in
      not_live s v.state (out_on limits u v moves leads out) live
      )
      (λ q. q)
  entry_spares limits m u v Build moves rooted logged leads alive live = refl
  entry_spares limits m u v (Taken n) moves rooted logged leads alive live = refl
  entry_spares limits m u v (Heard r) moves rooted logged leads alive live = refl
  entry_spares limits m u v (Rerun r) moves rooted logged leads alive live = refl
  entry_spares limits m u v (Poll t) moves rooted logged leads alive live = refl
  entry_spares limits m u v (Effects r) moves rooted logged leads alive live = refl
  entry_spares limits m u v (Made r) moves rooted logged leads alive live = refl
  entry_spares limits m u v (Fed r) moves rooted logged leads alive live = refl
  entry_spares limits m u v (Kept r) moves rooted logged leads alive live = refl

  unremoved : (limits : Limits) (m v : Machine K) (moves : List Move) → IsRooted m.state → Leads app limits m moves v → v.dead ≡ None → is_live v.state s ≡ true → NoneRemoves s (entries moves)
  unremoved limits m v [] rooted leads alive live = tt
  unremoved limits m v (Silent ∷ moves) rooted leads alive live =
      unremoved limits leads.0 v moves ((move_follows app lawful limits m leads.0 Silent leads.1).rooted rooted) leads.2 alive live
  unremoved limits m v (Closed ∷ moves) rooted leads alive live =
      unremoved limits leads.0 v moves ((move_follows app lawful limits m leads.0 Closed leads.1).rooted rooted) leads.2 alive live
  unremoved limits m v (Logged e ∷ moves) rooted leads alive live = (
    entry_spares limits m leads.0 v e moves rooted leads.1 leads.2 alive live,
    unremoved limits leads.0 v moves ((move_follows app lawful limits m leads.0 (Logged e) leads.1).rooted rooted) leads.2 alive live,
  )

pub live_unremoved : {K : Types} (app : Application K) → LiveUnremoved app
live_unremoved app lawful limits props inputs m v moves s reached leads alive live =
    unremoved app lawful s limits m v moves (reached_sound app lawful limits props inputs m reached).rooted leads alive live

-- report by report
module _ {K : Types} (app : Application K) (lawful : IsLawful K app) (s : ℕ) where
  log_follows : (m v : Machine K) (log : List Entry) → replay_on app (Some m) log ≡ Some v → Follows m.state v.state
  log_follows m v [] h = subst (λ (x : Machine K). Follows m.state x.state) (inj_machine h) (follows_refl m.state)
  log_follows m v (e ∷ log) h =
      let a = fork app (is_due app (due app m) e) (step app m e) log v h in
      follows_trans m.state (step app m e).state v.state (step_follows app lawful m e) (log_follows (step app m e) v log a.1)

  reports_out : (reports : List Report) (m : Machine K) (told : List (Told K)) → tell_reports app m (logs_of reports) ≡ Some told → Out s m.state → Out s (last_state m.state told)
  reports_out [] m told accepted out = subst (λ (rs : List (Told K)). Out s (last_state m.state rs)) (none_told told accepted) out
  reports_out (r ∷ rs) m told accepted out =
      let f = first-of app m r.log (logs_of rs) told accepted in
      let v : Machine K = (f.0).machine in
      let goes : replay_on app (Some m) r.log ≡ Some v = log-replays app r.log (telling m) f.0 f.2 in
      subst (λ (x : List (Told K)). Out s (last_state m.state x)) f.4
      (reports_out rs v f.1 f.3 (out_after s m.state v.state (log_follows m v r.log goes) out))

  reports_spare : (props : K.Props) (inputs : List (Input K)) (reports : List Report) (m : Machine K) (told : List (Told K))
      → LedTo app props inputs m
      → IsSettled m
      → s < m.state.next_scope
      → tell_reports app m (logs_of reports) ≡ Some told
      → AllSettled told
      → is_live (last_state m.state told) s ≡ true
      → NeverRemoved s reports
  reports_spare props inputs [] m told led still low accepted settled live = tt
  reports_spare props inputs (r ∷ rs) m told led still low accepted settled live =
      let f = first-of app m r.log (logs_of rs) told accepted in
      let v : Machine K = (f.0).machine in
      let ends : AllSettled (told_by f.0 ∷ f.1) = subst (λ (x : List (Told K)). AllSettled x) (sym f.4) settled in
      let goes : replay_on app (Some m) r.log ≡ Some v = log-replays app r.log (telling m) f.0 f.2 in
      let last : is_live (last_state v.state f.1) s ≡ true = ap (λ (x : List (Told K)). is_live (last_state m.state x) s) f.4 ∙ live in
      let after : Follows m.state v.state = log_follows m v r.log goes in
      let below : s < v.state.next_scope = omega (arith, low, after.next_scope) in
      let here : is_live v.state s ≡ true = live_else s v.state (at v.state.scopes s) refl below (λ out. not_live s (last_state v.state f.1) (reports_out rs v f.1 f.3 out) last) in
      let way : Way app props inputs m r.log v = way_on app props inputs m v r.log still led goes in
      let rooted : IsRooted m.state = rooted_lasts app lawful (start app props inputs) led.done m (start_rooted app props inputs) led.goes in
      let spared : NoneRemoves s (entries way.moves) = unremoved app lawful s way.limits m v way.moves rooted way.leads (settled_alive v ends.0) here in
      let found = some_limits app r.log m v goes in (
        subst (λ (es : List Entry). NoneRemoves s es) way.entries_are spared,
        reports_spare props inputs rs v f.1 (led_on app props inputs m v r.log led goes) (settled_after app found.0 r.log m v still found.1) below f.3 ends.1 last,
      )

module _ {K : Types} (app : Application K) (lawful : IsLawful K app) where
  each_live : (props : K.Props) (inputs : List (Input K)) (reports : List Report) (told : List (Told K))
      → OneEach inputs (logs_of reports)
      → tell_reports app (start app props inputs) (logs_of reports) ≡ Some told
      → AllSettled told
      → LiveStay reports told
  each_live props inputs [] told each accepted settled = absurd each
  each_live props inputs (r ∷ rs) told each accepted settled =
      let m : Machine K = start app props inputs in
      let f = first-of app m r.log (logs_of rs) told accepted in
      let v : Machine K = (f.0).machine in
      let ends : AllSettled (told_by f.0 ∷ f.1) = subst (λ (x : List (Told K)). AllSettled x) (sym f.4) settled in
      let goes : replay_on app (Some m) r.log ≡ Some v = log-replays app r.log (telling m) f.0 f.2 in
      let rooted : IsRooted v.state = rooted_lasts app lawful m r.log v (start_rooted app props inputs) goes in
      let found = some_limits app r.log m v goes in
      let still : IsSettled v = settled_after app found.0 r.log m v refl found.1 in
      subst (λ (x : List (Told K)). LiveStay (r ∷ rs) x) f.4
      (
      λ s first last.
      reports_spare app lawful s props inputs rs v f.1 (led_on app props inputs m v r.log (led_start app props inputs) goes) still
      (drawn s v.state (at v.state.scopes s) refl rooted first)
      f.3 ends.1 last
      )

pub live_never_removed : {K : Types} (app : Application K) → LiveNeverRemoved app
live_never_removed app lawful props inputs limits taken reports ran =
    each_live app lawful props inputs reports ran.told (ran.done).one_each (ran.recorded).accepted (ran.recorded).settled
