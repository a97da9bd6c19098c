-- What each change keeps, all moves keep, and so it holds after each accepted log.
use Rattle.std.proofs.Common.{ℕ, ◌+◌, Bool, true, false, ◌&&◌, not, List, [], ◌∷◌, ◌≡◌, refl, sym, ap, ◌∙◌, subst}
use Rattle.std.specs.Prelude.{Option, Some, None, is_some, if◌then◌else◌}
use Rattle.std.proofs.lemmas.List.{append-nil}
use Rattle.rt_lemmas.proofs.Bools.{both_of as both_true}
use Rattle.rt_model.specs.Lists.{at}
use Rattle.rt_model.specs.Tree.{Types}
use Rattle.rt_model.specs.World.{CallFault, Event, Meaning, Application}
use Rattle.rt_model.specs.State.{Fault, State, Item, Outcome, Done, Cut, is_live, world_of}
use Rattle.rt_model.specs.Next.{Work, RerunScope, PollTask, RunEffects, at_rest, next}
use Rattle.rt_model.specs.Commands.{commands}
use Rattle.rt_model.specs.Run.{fault_of, with_next, called_once, run}
use Rattle.rt_model.specs.Heard.{Listener}
use Rattle.rt_model.specs.Replay.{Entry, Build, Taken, Heard, Rerun, Poll, Effects, Input, EventAt, WakeOf, WriteOf, MarkOf, Drain, Machine, ended_by, mounted_state, if_live, waiting, looked_where_quiet, then_looked, taken_in, take_next, one_more_unit, due_item, due_heard, due_work, due, polled, effects_run, further, heard_event, heard_first, rested, outcome_of, change_by}
use Rattle.rt_model.specs.Causes.{Limits, replay_within}
use Rattle.law_moves.specs.Moves.{Move, Silent, Closed, Logged, IsSettled, AtWork, Leads}
use Rattle.law_moves.proofs.Items.{due_at_work}
use Rattle.law_moves.proofs.Insides.{Lasts, alive_before, live_due, Holds, silent_holds, logged_holds}
use Rattle.law_moves.proofs.Logs.{logs_are_moves}

by_both : {Q : Type 0} (b c : Bool) → (b && c ≡ true → Q) → (b && c ≡ false → Q) → Q
by_both true true f g = f refl
by_both true false f g = g refl
by_both false c f g = g refl

module _ {K : Types} where
  -- a machine at which a fact of its state and its open work holds; work is open only while the build or a unit is at work
  pub record Steady (P : State K → List (Item K) → Type 0) (m : Machine K) : Type 0 where
    pub holds : P m.state m.work
    pub idle : m.built && m.unit ≡ false → m.work ≡ []

  -- where work is open the build or a unit is at work
  pub at_work_where : (P : State K → List (Item K) → Type 0) (m : Machine K) (item : Item K) (rest : List (Item K)) → Steady P m → m.dead ≡ None → m.work ≡ item ∷ rest → AtWork m
  at_work_where P m item rest s alive open_work =
      by_both m.built m.unit
      (λ q. let both = both_true m.built m.unit q in record { alive = alive; built = both.0; unit = both.1 })
      (λ q. let absurdity : item ∷ rest ≡ [] = sym open_work ∙ s.idle q in cc)

  from_at_work : (P : State K → List (Item K) → Type 0) (m : Machine K) → AtWork m → P m.state m.work → Steady P m
  from_at_work P m h p =
      let both : m.built && m.unit ≡ true = ap (λ (b : Bool). b && m.unit) h.built ∙ h.unit in
      record { holds = p; idle = λ q. let absurdity : true ≡ false = sym both ∙ q in cc }

  idle_machine : (P : State K → List (Item K) → Type 0) (m : Machine K) → m.work ≡ [] → P m.state [] → Steady P m
  idle_machine P m none p = record { holds = subst (λ (items : List (Item K)). P m.state items) (sym none) p; idle = λ q. none }

  -- inputs and listeners open no work

  looked_work : (m : Machine K) (ls : List (Listener K)) → (looked_where_quiet m ls).work ≡ m.work
  looked_work m [] = refl
  looked_work m (l ∷ ls) = refl

  taken_work : (m : Machine K) (input : Input K) → (taken_in m input).work ≡ m.work
  taken_work m (EventAt name payload element bubbles) = refl
  taken_work m (WakeOf t) = refl
  taken_work m (WriteOf n v) = refl
  taken_work m (MarkOf s) = refl
  taken_work m (Drain messages) = refl

  pub take_work : (m : Machine K) (inputs : List (Input K)) → (take_next m inputs).work ≡ m.work
  take_work m [] = refl
  take_work m (input ∷ more) =
      let u : Machine K = record m { inputs = more; taken = m.taken + 1; units = 0; default_enabled = true; listeners = [] } in
      looked_work (taken_in u input) (waiting (taken_in u input)) ∙ taken_work u input

module _ {K : Types} (app : Application K) where
  heard_work_at : (m quiet : Machine K) (fault : Option CallFault) (faulted : CallFault → Machine K) → quiet.work ≡ m.work → ((f : CallFault) → (faulted f).work ≡ m.work)
      → (elim fault as (λ z. Machine K) [ None ↦ then_looked quiet | Some f ↦ faulted f ]).work ≡ m.work
  heard_work_at m quiet None faulted p q = looked_work quiet (waiting quiet) ∙ p
  heard_work_at m quiet (Some f) faulted p q = q f

  pub heard_work : (m : Machine K) (l : Listener K) (ls : List (Listener K)) (o : Option (Event K)) → (heard_event app m l ls o).work ≡ m.work
  heard_work m l ls None = refl
  heard_work m l ls (Some event) =
      let meaning : Meaning K (Event K) = app.handle l.handler event (world_of m.state l.origin None false) in
      let quiet : Machine K = record m {
        state = commands app (with_next (called_once m.state) meaning.next) l.origin None meaning.commands;
        event = Some meaning.answer;
        default_enabled = not meaning.answer.prevented;
        listeners = further app m meaning.answer ls;
      } in
      heard_work_at m quiet meaning.fault (λ f. record m { state = with_next (called_once m.state) meaning.next; listeners = ls; dead = Some (fault_of f); refused = None }) refl (λ f. refl)

  -- a fact of the state and its open work that each change keeps
  pub record Outlasts (P : State K → List (Item K) → Type 0) : Type 0 where
    -- while work is served
    pub inside : Lasts app P
    -- the build or a unit ends
    pub mounts : (w : State K) → P w [] → P (mounted_state w) []
    -- the root runs for the first time
    pub builds : (w v : State K) (work : List (Item K)) → P w [] → run app w 0 ≡ Done v work → P v work
    -- a scope is rerun
    pub reruns : (w v : State K) (s : ℕ) (work : List (Item K)) → next w ≡ Some (RerunScope s) → is_live w s ≡ true → P w [] → run app (at_rest w) s ≡ Done v work → P v work
    -- a task is polled
    pub polls : (w v : State K) (t : ℕ) (work : List (Item K)) → next w ≡ Some (PollTask t) → is_some (at w.tasks t) ≡ true → P w [] → polled app (at_rest w) t ≡ Done v work → P v work
    -- a scope's effects are done
    pub effects : (w v : State K) (s : ℕ) (work : List (Item K)) → next w ≡ Some (RunEffects s) → is_live w s ≡ true → P w [] → effects_run app (at_rest w) s ≡ Done v work → P v work
    -- an input is taken in
    pub takes : (m : Machine K) (input : Input K) (more : List (Input K)) → next m.state ≡ None → P m.state [] → P (take_next (rested app m) (input ∷ more)).state []
    -- a listener is called
    pub hears : (m : Machine K) (first : Listener K) (others : List (Listener K)) → is_live m.state first.origin ≡ true → P m.state []
        → (heard_event app m first others m.event).dead ≡ None
        → P (heard_event app m first others m.event).state []

  module _ (P : State K → List (Item K) → Type 0) (law : Outlasts P) where
    -- a machine is steady, unless a fault ended the run
    abbrev SteadyOn : Machine K → Type 0
    SteadyOn u = u.dead ≡ None → Steady P u

    held_on : (u : Machine K) → Holds app P law.inside u → SteadyOn u
    held_on u held = λ alive. let now = held alive in from_at_work P u now.0 now.1

    -- the build or a unit has begun, and what its first call leads to is open
    begun : (m : Machine K) (o : Outcome K) → m.built && m.unit ≡ true → ((v : State K) (work : List (Item K)) → o ≡ Done v work → P v work) → SteadyOn (ended_by m None [] o)
    begun m (Done v work) at_work keeps =
        λ alive.
        record {
          holds = subst (λ (items : List (Item K)). P v items) (sym (append-nil work)) (keeps v work refl);
          idle = λ q. let absurdity : true ≡ false = sym at_work ∙ q in cc;
        }
    begun m (Cut v fault) at_work keeps = λ alive. let absurdity : Some fault ≡ None = alive in cc

    -- an entry of what is owed, else of the next input
    owed_on : (m : Machine K) (work : Option Work) (inputs : List (Input K)) (e : Entry) → m.built ≡ true → m.work ≡ [] → P m.state [] → next m.state ≡ work → m.inputs ≡ inputs
        → if_live m.state (due_work app m work inputs) ≡ Some e
        → SteadyOn (change_by app m [] e)
    owed_on m (Some (RerunScope s)) inputs e built none p is more due_is =
        let found = live_due app m.state (Rerun s) e due_is in
        subst (λ (x : Entry). SteadyOn (change_by app m [] x)) (sym found.0)
        (begun (one_more_unit (rested app m)) (run app (at_rest m.state) s) (ap (λ (b : Bool). b && true) built) (λ v work done. law.reruns m.state v s work is found.1 p done))
    owed_on m (Some (PollTask t)) inputs e built none p is more due_is =
        let found = live_due app m.state (Poll t) e due_is in
        subst (λ (x : Entry). SteadyOn (change_by app m [] x)) (sym found.0)
        (begun (one_more_unit (rested app m)) (polled app (at_rest m.state) t) (ap (λ (b : Bool). b && true) built) (λ v work done. law.polls m.state v t work is found.1 p done))
    owed_on m (Some (RunEffects s)) inputs e built none p is more due_is =
        let found = live_due app m.state (Effects s) e due_is in
        subst (λ (x : Entry). SteadyOn (change_by app m [] x)) (sym found.0)
        (begun (one_more_unit (rested app m)) (effects_run app (at_rest m.state) s) (ap (λ (b : Bool). b && true) built) (λ v work done. law.effects m.state v s work is found.1 p done))
    owed_on m None [] e built none p is more due_is = cc
    owed_on m None (input ∷ inputs) e built none p is more due_is =
        let found = live_due app m.state (Taken (m.taken + 1)) e due_is in
        let u : Machine K = take_next (rested app m) (input ∷ inputs) in
        let taken : SteadyOn u = λ alive. idle_machine P u (take_work (rested app m) (input ∷ inputs) ∙ none) (law.takes m input inputs is p) in
        subst (λ (x : Entry). SteadyOn (change_by app m [] x)) (sym found.0)
        (subst (λ (items : List (Input K)). SteadyOn (take_next (rested app m) items)) (sym more) taken)

    -- an entry of a listener that waits, else of what is owed
    heard_on : (m : Machine K) (listeners : List (Listener K)) (e : Entry) → m.built ≡ true → m.work ≡ [] → P m.state [] → waiting m ≡ listeners
        → if_live m.state (due_heard app m listeners) ≡ Some e
        → SteadyOn (change_by app m [] e)
    heard_on m [] e built none p quiet due_is = owed_on m (next m.state) m.inputs e built none p refl refl due_is
    heard_on m (first ∷ others) e built none p heard due_is =
        let found = live_due app m.state (Heard first.origin) e due_is in
        let u : Machine K = heard_event app m first others m.event in
        let after : SteadyOn u = λ alive. idle_machine P u (heard_work m first others m.event ∙ none) (law.hears m first others found.1 p alive) in
        subst (λ (x : Entry). SteadyOn (change_by app m [] x)) (sym found.0)
        (subst (λ (ls : List (Listener K)). SteadyOn (heard_first app m ls)) (sym heard) after)

    -- an entry where no work is open: the build first
    rest_on : (m : Machine K) (e : Entry) (built : Bool) → m.built ≡ built → m.work ≡ [] → P m.state []
        → if_live m.state (if built then due_heard app m (waiting m) else Some Build) ≡ Some e
        → SteadyOn (change_by app m [] e)
    rest_on m e true built none p due_is = heard_on m (waiting m) e built none p refl due_is
    rest_on m e false built none p due_is =
        let found = live_due app m.state Build e due_is in
        subst (λ (x : Entry). SteadyOn (change_by app m [] x)) (sym found.0)
        (begun (record m { built = true; unit = true }) (run app m.state 0) refl (λ v work done. law.builds m.state v work p done))

    logged_on : (m : Machine K) (work : List (Item K)) (e : Entry) → m.work ≡ work → m.dead ≡ None → Steady P m → IsSettled m → due app m ≡ Some e → SteadyOn (change_by app m work e)
    logged_on m [] e none alive s settled due_is =
        rest_on m e m.built refl none (subst (λ (items : List (Item K)). P m.state items) none s.holds)
        (
        sym
        (ap (λ (o : Option Fault). if_live m.state (elim o as (λ z. Option Entry) [ None ↦ (if m.built then due_item app m m.work else Some Build) | Some fault ↦ None ])) alive
        ∙ ap (λ (items : List (Item K)). if_live m.state (if m.built then due_item app m items else Some Build)) none)
        ∙ due_is
        )
    logged_on m (item ∷ rest) e open_work alive s settled due_is =
        let h : AtWork m = at_work_where P m item rest s alive open_work in
        held_on (change_by app m (item ∷ rest) e)
        (logged_holds app P law.inside m (item ∷ rest) e h open_work settled (sym (due_at_work app m (item ∷ rest) h open_work) ∙ due_is) s.holds)

    -- so all moves keep it, up to a machine that is alive
    pub moves_last : (limits : Limits) (m v : Machine K) (moves : List Move) → Leads app limits m moves v → v.dead ≡ None → Steady P m → Steady P v
    moves_last limits m v [] leads alive s = subst (λ (x : Machine K). Steady P x) (sym leads) s
    moves_last limits m v (Silent ∷ moves) leads alive s =
        let move = leads.1 in
        let h : AtWork m = at_work_where P m move.item move.later s move.alive move.next in
        let now : SteadyOn leads.0 =
        subst (λ (x : Machine K). SteadyOn x) (sym move.gives)
        (held_on (ended_by m (Some move.item) move.later (outcome_of app m.state move.item)) (silent_holds app P law.inside m move.item move.later move.silent h move.next s.holds)) in
        moves_last limits leads.0 v moves leads.2 alive (now (alive_before app limits leads.0 v moves (leads.0).dead refl leads.2 alive))
    moves_last limits m v (Closed ∷ moves) leads alive s =
        let move = leads.1 in
        let u : Machine K = record m { unit = false; state = mounted_state m.state } in
        let now : Steady P u = idle_machine P u move.idle (law.mounts m.state (subst (λ (items : List (Item K)). P m.state items) move.idle s.holds)) in
        moves_last limits leads.0 v moves leads.2 alive (subst (λ (x : Machine K). Steady P x) (sym move.gives) now)
    moves_last limits m v (Logged e ∷ moves) leads alive s =
        let move = leads.1 in
        let here : m.dead ≡ None = alive_before app limits m v (Logged e ∷ moves) m.dead refl leads alive in
        let now : SteadyOn leads.0 =
        subst (λ (x : Machine K). SteadyOn x) (sym move.gives) (logged_on m m.work e refl here s move.settled move.due_is) in
        moves_last limits leads.0 v moves leads.2 alive (now (alive_before app limits leads.0 v moves (leads.0).dead refl leads.2 alive))

    -- and it holds after each log that is accepted within limits
    pub logs_last : (limits : Limits) (m v : Machine K) (log : List Entry) → IsSettled m → Steady P m → replay_within app limits (Some m) log ≡ Some v → v.dead ≡ None → Steady P v
    logs_last limits m v log settled s accepted alive =
        let found = logs_are_moves app limits m v log settled accepted in
        moves_last limits m v found.0 found.1 alive s
