-- Nothing comes of an input that names what isn't there.
use Rattle.std.proofs.Common.{ℕ, ◌+◌, Bool, true, false, ◌&&◌, not, List, [], ◌∷◌, ◌++◌, ◌≡◌, refl, sym, ap, ◌∙◌, subst}
use Rattle.std.specs.Prelude.{Option, Some, None, if◌then◌else◌, is_some}
use Rattle.rt_model.specs.Lists.{at}
use Rattle.rt_model.specs.Tree.{Types}
use Rattle.rt_model.specs.World.{Application}
use Rattle.rt_model.specs.State.{Mark, Woken, Fault, TaskRow, CellRow, State, Item, is_live}
use Rattle.rt_model.specs.Commands.{post, written_at, write_cell}
use Rattle.rt_model.specs.Next.{Work, RerunScope, PollTask, RunEffects, least, is_before, with_effects, next, owes}
use Rattle.rt_model.specs.Heard.{Listener}
use Rattle.rt_model.specs.Replay.{Entry, Build, Taken, Heard, Rerun, Poll, Effects, Post, MarkScope, WakeTask, AllDirty, Message, Input, EventAt, WakeOf, WriteOf, MarkOf, Drain, Machine, if_live, waiting, post_message, post_messages, then_looked, taken_in, take_next, settled, due_work, due_heard, due_item, due, rested, is_due, step, accepts, change_by}
use Rattle.rt_model.specs.Told.{Telling, closed_unit, told_entry, tell_log}
use Rattle.rt_model.proofs.Maps.{by_test, pick_true, pick_false}
use Rattle.rt_model.specs.Caused.{caused, caused_until}
use Rattle.law_moves.specs.Moves.{moves_alone, AtRest}
use Rattle.law_moves.proofs.Settles.{settled_stays}
use Rattle.law_behavior.specs.Comes.{emptied, NothingLeft}
use Rattle.law_behavior.specs.Absent.{NamesNone, AllNameNone, NamesAbsent, NothingCame, AbsentChangesNothing}
use Rattle.law_behavior.proofs.Coming.{none_is_left}
use Rattle.law_behavior.proofs.Unfound.{unheard}

module _ {K : Types} where
  -- the machine in which an input finds nothing
  abbrev ready_for : Machine K → State K → List (Input K) → Machine K
  ready_for m w more = record m { state = w; inputs = more; taken = m.taken + 1; units = 0; default_enabled = true; listeners = [] }

  abbrev passed_event : Machine K → State K → List (Input K) → Input K → Machine K
  passed_event m w more (EventAt name payload element bubbles) =
      record (ready_for m w more) { event = Some (record { payload = payload; propagates = bubbles; prevented = false }); bubbles = bubbles }
  passed_event m w more _ = ready_for m w more

  gone_mark : (w : State K) (s : ℕ) → is_live w s ≡ false → post w (Mark s) ≡ w
  gone_mark w s h = pick_false (record w { posted = w.posted ++ Mark s ∷ [] }) w h

  gone_wake : (w : State K) (t : ℕ) → at w.tasks t ≡ None → post w (Woken t) ≡ w
  gone_wake w t h = pick_false (record w { posted = w.posted ++ Woken t ∷ [] }) w (ap (λ (o : Option (TaskRow K)). is_some o) h)

  gone_cell : (w : State K) (n : ℕ) (v : K.Value) → at w.cells n ≡ None → write_cell w n v ≡ w
  gone_cell w n v h = ap (λ (o : Option (CellRow K)). written_at w n v o) h

  gone_message : (w : State K) (what : Post) → NamesNone w what → post_message w what ≡ w
  gone_message w (MarkScope s) h = gone_mark w s h
  gone_message w (WakeTask t) h = gone_wake w t h
  gone_message w AllDirty h = absurd h

  gone_messages : (w : State K) (messages : List Message) → AllNameNone w messages → post_messages w messages ≡ w
  gone_messages w [] h = refl
  gone_messages w (message ∷ messages) h =
      ap (λ (v : State K). post_messages v messages) (gone_message w message.what h.0) ∙ gone_messages w messages h.1

  -- an input that finds nothing leaves the state alone, and nobody hears it
  passes_by : (m : Machine K) (w : State K) (more : List (Input K)) (input : Input K) → NamesAbsent w input → taken_in (ready_for m w more) input ≡ passed_event m w more input
  passes_by m w more (EventAt name payload element bubbles) h =
      ap (λ (ls : List (Listener K)). record (passed_event m w more (EventAt name payload element bubbles)) { listeners = ls }) (unheard w name element bubbles h)
  passes_by m w more (WakeOf t) h = ap (λ (v : State K). ready_for m v more) (gone_wake w t h)
  passes_by m w more (WriteOf n v) h = ap (λ (u : State K). ready_for m u more) (gone_cell w n v h)
  passes_by m w more (MarkOf s) h = ap (λ (v : State K). ready_for m v more) (gone_mark w s h)
  passes_by m w more (Drain messages) h = ap (λ (v : State K). ready_for m v more) (gone_messages w messages h)

  -- then a look finds nothing either
  looks_by : (m : Machine K) (w : State K) (more : List (Input K)) (input : Input K) → then_looked (passed_event m (emptied w) more input) ≡ passed_event m (emptied w) more input
  looks_by m w more (EventAt name payload element bubbles) = refl
  looks_by m w more (WakeOf t) = refl
  looks_by m w more (WriteOf n v) = refl
  looks_by m w more (MarkOf s) = refl
  looks_by m w more (Drain messages) = refl

  -- the state at rest names the same as the one before
  absent_at_rest : (w : State K) (input : Input K) → NamesAbsent w input → NamesAbsent (emptied w) input
  absent_at_rest w (EventAt name payload element bubbles) h = h
  absent_at_rest w (WakeOf t) h = h
  absent_at_rest w (WriteOf n v) h = h
  absent_at_rest w (MarkOf s) h = h
  absent_at_rest w (Drain messages) h = all messages h
    where
      each : (what : Post) → NamesNone w what → NamesNone (emptied w) what
      each (MarkScope s) g = g
      each (WakeTask t) g = g
      each AllDirty g = g

      all : (ms : List Message) → AllNameNone w ms → AllNameNone (emptied w) ms
      all [] g = tt
      all (message ∷ ms) g = (each message.what g.0, all ms g.1)

  pub record Passed (m : Machine K) (u : Machine K) : Type 0 where
    pub state : u.state ≡ emptied m.state
    pub work : u.work ≡ m.work
    pub dead : u.dead ≡ m.dead
    pub unit : u.unit ≡ m.unit
    pub units : u.units ≡ 0
    pub default_enabled : u.default_enabled ≡ true

  passed_is : (m : Machine K) (more : List (Input K)) (input : Input K) → Passed m (passed_event m (emptied m.state) more input)
  passed_is m more (EventAt name payload element bubbles) = record { state = refl; work = refl; dead = refl; unit = refl; units = refl; default_enabled = refl }
  passed_is m more (WakeOf t) = record { state = refl; work = refl; dead = refl; unit = refl; units = refl; default_enabled = refl }
  passed_is m more (WriteOf n v) = record { state = refl; work = refl; dead = refl; unit = refl; units = refl; default_enabled = refl }
  passed_is m more (MarkOf s) = record { state = refl; work = refl; dead = refl; unit = refl; units = refl; default_enabled = refl }
  passed_is m more (Drain messages) = record { state = refl; work = refl; dead = refl; unit = refl; units = refl; default_enabled = refl }

  take_passed : (app : Application K) (m : Machine K) (input : Input K) (more : List (Input K)) → next m.state ≡ None → NamesAbsent m.state input → Passed m (take_next (rested app m) (input ∷ more))
  take_passed app m input more none h =
      let left : NothingLeft m.state = none_is_left K m.state none in
      let at_ease : take_next (rested app m) (input ∷ more) ≡ then_looked (taken_in (ready_for m (emptied m.state) more) input) =
      ap (λ (w : State K). then_looked (taken_in (ready_for m w more) input)) left.rest in
      subst (λ (u : Machine K). Passed m u)
      (
      sym
      (
      at_ease
      ∙ ap (λ (u : Machine K). then_looked u) (passes_by m (emptied m.state) more input (absent_at_rest m.state input h))
      ∙ looks_by m m.state more input
      )
      )
      (passed_is m more input)

module _ {K : Types} (app : Application K) where
  not_taken : (d : Entry) (k : ℕ) → (is_due app (Some d) (Taken k) ≡ false) → (b : Bool) → is_due app (if b then Some d else None) (Taken k) ≡ false
  not_taken d k h true = h
  not_taken d k h false = refl

  -- an input is accepted only where nothing is owed
  work_none : (m : Machine K) (k : ℕ) (o : Option Work) → is_due app (if_live m.state (due_work app m o m.inputs)) (Taken k) ≡ true → o ≡ None
  work_none m k None h = refl
  work_none m k (Some (RerunScope s)) h = let no = not_taken (Rerun s) k refl (is_live m.state s) in cc
  work_none m k (Some (PollTask t)) h = let no = not_taken (Poll t) k refl (is_some (at m.state.tasks t)) in cc
  work_none m k (Some (RunEffects s)) h = let no = not_taken (Effects s) k refl (is_live m.state s) in cc

  heard_none : (m : Machine K) (k : ℕ) (ls : List (Listener K)) → is_due app (if_live m.state (due_heard app m ls)) (Taken k) ≡ true → next m.state ≡ None
  heard_none m k [] h = work_none m k (next m.state) h
  heard_none m k (l ∷ ls) h = let no = not_taken (Heard l.origin) k refl (is_live m.state l.origin) in cc

  built_none : (m : Machine K) (k : ℕ) (built : Bool) → is_due app (if_live m.state (if built then due_heard app m (waiting m) else Some Build)) (Taken k) ≡ true → next m.state ≡ None
  built_none m k true h = heard_none m k (waiting m) h
  built_none m k false h = cc

  due_none : (m : Machine K) (k : ℕ) → AtRest m → is_due app (due app m) (Taken k) ≡ true → next m.state ≡ None
  due_none m k rest h =
      built_none m k m.built
      (
      sym
      (ap (λ (o : Option Fault). is_due app (if_live m.state (elim o as (λ z. Option Entry) [ None ↦ (if m.built then due_item app m m.work else Some Build) | Some f ↦ None ])) (Taken k)) rest.alive
      ∙ ap (λ (items : List (Item K)). is_due app (if_live m.state (if m.built then due_item app m items else Some Build)) (Taken k)) rest.idle)
      ∙ h
      )

  accepted_due : (m u : Machine K) (e : Entry) → accepts app m e ≡ Some u → (is_due app (due app m) e ≡ true) × (step app m e ≡ u)
  accepted_due m u e h =
      by_test (is_due app (due app m) e)
      (λ q. let same : Some (step app m e) ≡ Some u = sym (pick_true (Some (step app m e)) None q) ∙ h in (q, cc))
      (λ q. let absurdity : None ≡ Some u = sym (pick_false (Some (step app m e)) None q) ∙ h in cc)

  rests_by : (m u : Machine K) → AtRest m → Passed m u → AtRest u
  rests_by m u rest p = record { alive = p.dead ∙ rest.alive; idle = p.work ∙ rest.idle; unit = p.unit ∙ rest.unit }

  -- a machine at rest settles as it is
  settles_still : (u : Machine K) → AtRest u → settled app u ≡ u
  settles_still u rest =
      settled_stays app u
      (
      ap (λ (o : Option Fault). moves_alone o u.work u.unit) rest.alive
      ∙ ap (λ (items : List (Item K)). moves_alone None items u.unit) rest.idle
      ∙ rest.unit
      )

  owes_none : (w : State K) → with_effects w.scopes ≡ [] → owes (emptied w) ≡ false
  owes_none w h =
      ap
      (λ (xs : List ℕ). is_some (elim (least (λ a b. is_before w.scopes a b) xs) as (λ z. Option Work) [ None ↦ None | Some s ↦ Some (RunEffects s) ]))
      h

  came : (m u : Machine K) → AtRest m → next m.state ≡ None → Passed m u → NothingCame m u
  came m u rest none p =
      let left : NothingLeft m.state = none_is_left K m.state none in
      record {
        state = p.state ∙ sym left.rest;
        owes_nothing = ap (λ (w : State K). owes w) p.state ∙ owes_none m.state left.effects;
        rests = rests_by m u rest p;
        no_units = p.units;
        default_enabled = p.default_enabled;
      }

  told_still : (t : Telling K) (u : Machine K) (k : ℕ) → accepts app t.machine (Taken k) ≡ Some u → t.machine.unit ≡ false → u.dead ≡ None
      → tell_log app (Some t) (Taken k ∷ []) ≡ Some (record t { machine = u })
  told_still t u k accepted quiet alive =
      ap (λ (o : Option (Telling K)). tell_log app o []) told
    where
      after : Telling K → Machine K → Bool → Option Fault → Telling K
      after t v at_work o =
          elim o as (λ z. Telling K) [
            | None ↦
                if at_work && not v.unit
                then record t { machine = v; edits = t.edits ++ caused app t.before v.state t.first }
                else record t { machine = v }
            | Some fault ↦ record t { machine = v; edits = t.edits ++ caused_until app t.before v.state v.refused t.first }
          ]

      told : told_entry app t (Taken k) ≡ Some (record t { machine = u })
      told =
          ap (λ (o : Option (Machine K)). elim o as (λ z. Option (Telling K)) [ None ↦ None | Some v ↦ Some (closed_unit app t t.machine.unit v) ]) accepted
          ∙ ap (λ (b : Bool). Some (closed_unit app t b u)) quiet
          ∙ ap (λ (o : Option Fault). Some (after t u false o)) alive

pub absent_changes_nothing : {K : Types} (app : Application K) → AbsentChangesNothing app
absent_changes_nothing {K = K} app m u k input more t rest inputs absent accepted same =
    let due_is = accepted_due app m u (Taken k) accepted in
    let none : next m.state ≡ None = due_none app m k rest due_is.0 in
    let v : Machine K = take_next (rested app m) (input ∷ more) in
    let passed : Passed m v = take_passed app m input more none absent in
    let taken : change_by app m m.work (Taken k) ≡ v =
    ap (λ (items : List (Item K)). change_by app m items (Taken k)) rest.idle ∙ ap (λ (is : List (Input K)). take_next (rested app m) is) inputs in
    let is : v ≡ u =
    sym (settles_still app v (rests_by app m v rest passed)) ∙ ap (λ (x : Machine K). settled app x) (sym taken) ∙ due_is.1 in
    let came_of : NothingCame m u = subst (λ (x : Machine K). NothingCame m x) is (came app m v rest none passed) in (
      came_of,
      told_still app t u k (ap (λ (x : Machine K). accepts app x (Taken k)) same ∙ accepted) (ap (λ (x : Machine K). x.unit) same ∙ rest.unit) (came_of.rests).alive,
    )
