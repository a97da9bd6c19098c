-- The state that a poll of a memo or resource leads to.
use Rattle.std.proofs.Common.{ℕ, false, List, [], ◌∷◌, ◌≡◌, refl, sym, ap, ◌∙◌}
use Rattle.std.specs.Prelude.{Option, Some, None, if◌then◌else◌}
use Rattle.rt_model.specs.Lists.{at, put, drop_number}
use Rattle.rt_model.specs.Program.{done, begun, ended}
use Rattle.rt_model.specs.Tree.{Types}
use Rattle.rt_model.specs.World.{CallFault, World, Meaning, TaskStep, pending, Application}
use Rattle.rt_model.specs.State.{Fault, TaskRow, State, Item, Draw, Row, Feed, Make, Drop, Outcome, Done, Cut}
use Rattle.rt_model.specs.Commands.{unqueued, commands}
use Rattle.rt_model.specs.Next.{Work, look, drops, drop_then, looked, found, paused, at_rest}
use Rattle.rt_model.specs.Run.{fault_of, with_next, called_once}
use Rattle.rt_model.specs.Replay.{Entry, Build, Poll, Machine, ended_by, if_live, one_more_unit, rested, due_item, due, polled_to, polled_by, polled_at, polled, change_by}
use Rattle.rt_model.specs.Causes.{Limits}
use Rattle.law_moves.specs.Moves.{Move, Silent, Closed, Logged, Moves, Leads}
use Rattle.author_programs.specs.Came.{Came, came}
use Rattle.author_programs.specs.Sequence.{go_on}
use Rattle.author_programs.proofs.Goes.{exec-came}
use Rattle.author_programs.proofs.Steps.{on, at_done}
use Rattle.author_formulas.specs.Formulas.{Formulas}
use Rattle.author_formulas.specs.Memos.{MemoTask, memo_polled, PollsMemos}
use Rattle.law_minding.specs.Minding.{polled_world}
use Rattle.law_minding.proofs.Values.{look_alike}

module _ {K : Types} where
  -- the states are alike but for what is owed
  abbrev pub Alike : State K → State K → Type 0
  Alike w v = v ≡ record w { posted = v.posted; seen = v.seen; queued = v.queued }

  alike_then : (u v w : State K) → Alike u v → Alike v w → Alike u w
  alike_then u v w f g = g ∙ ap (λ (x : State K). record x { posted = w.posted; seen = w.seen; queued = w.queued }) f

  pub look_leaves : (w : State K) → Alike w (look w)
  look_leaves w = from (look_alike w.posted (record w { posted = [] }))
    where
      from : look w ≡ record w { posted = []; seen = (look w).seen; queued = (look w).queued } → Alike w (look w)
      from e = e ∙ sym (ap (λ (z : State K). record w { posted = z.posted; seen = (look w).seen; queued = (look w).queued }) e)

  drops_leave : (qs : List ℕ) (w : State K) → Alike w (drops qs w)
  drops_leave [] w = refl
  drops_leave (q ∷ qs) w = by (paused w (found w)) (λ v. drops_leave qs v)
    where
      by : (o : Option ℕ) → ((v : State K) → Alike v (drops qs v)) → Alike w (drop_then (λ v. drops qs v) w o)
      by None go = refl
      by (Some t) go =
          let v : State K = record w { queued = drop_number w.queued t } in
          alike_then w v (drops qs v) refl (go v)

  looked_leaves : (w : State K) (o : Option Work) → Alike w (looked w o)
  looked_leaves w (Some x) = refl
  looked_leaves w None = alike_then w (look w) (drops (look w).queued (look w)) (look_leaves w) (drops_leave (look w).queued (look w))

  pub rest_leaves : (w : State K) → Alike w (at_rest w)
  rest_leaves w =
      let v : State K = drops w.queued w in alike_then w v (looked v (found v)) (drops_leave w.queued w) (looked_leaves v (found v))

module _ {K : Types} (app : Application K) (t : ℕ) where
  -- what a poll's entry does
  pub poll_change : (m : Machine K) (work : List (Item K)) → change_by app m work (Poll t) ≡ ended_by (one_more_unit (rested app m)) None [] (polled app (at_rest m.state) t)
  poll_change m [] = refl
  poll_change m (Draw s side p k ∷ rest) = refl
  poll_change m (Row b step ∷ rest) = refl
  poll_change m (Feed s side p c ∷ rest) = refl
  poll_change m (Make s side p c ∷ rest) = refl
  poll_change m (Drop u s side ∷ rest) = refl

  module _ {F : Type 0} (a : Formulas K F) (state : MemoTask K.Value F → K.TaskState) (polls : PollsMemos a app state)
      (m u : Machine K) (limits : Limits) (step : Moves app limits m (Logged (Poll t)) u) (x : TaskRow K) (place : MemoTask K.Value F)
      (there : at (at_rest m.state).tasks t ≡ Some x) (stands : x.state ≡ state place) where
    -- the state that is polled, the world of the poll, and the poll
    abbrev pub before : State K
    before = unqueued (at_rest m.state) t

    abbrev pub world : World K
    world = polled_world before t x

    abbrev pub poll : Came K (MemoTask K.Value F)
    poll = came world (memo_polled a place) (begun false world.given.next)

    -- the state that its commands find, and the one that they leave
    abbrev pub finds : State K
    finds = record (with_next (called_once before) poll.call.next) { tasks = put before.tasks t (record x { state = state poll.answer }) }

    abbrev pub leaves : State K
    leaves = commands app finds x.scope (Some t) poll.call.commands

    abbrev meaning : Meaning K (TaskStep K)
    meaning = ended poll.call (pending (state poll.answer))

    pub is_meant : app.poll x.state world ≡ meaning
    is_meant =
        ap (λ (s : K.TaskState). app.poll s world) stands
        ∙ polls place world
        ∙ exec-came world (go_on (memo_polled a place) (λ n. done (pending (state n)))) (begun false world.given.next)
        ∙ ap (λ (d : Came K (TaskStep K)). ended d.call d.answer)
        (on world (memo_polled a place) (λ n. done (pending (state n))) (begun false world.given.next) ∙ at_done world (pending (state poll.answer)) poll.call)

    is_polled : polled app (at_rest m.state) t ≡ polled_by app (called_once before) t x meaning
    is_polled =
        ap (λ (o : Option (TaskRow K)). polled_at app before t o) there
        ∙ ap (λ (n : Meaning K (TaskStep K)). polled_by app (called_once before) t x n) is_meant

    -- by the fault that the poll met, if any
    abbrev outcome : Option CallFault → Outcome K
    outcome o =
        elim o as (λ z. Outcome K) [
          | None ↦ Done (polled_to app (with_next (called_once before) poll.call.next) t x meaning (pending (state poll.answer))) []
          | Some f ↦ Cut (with_next (called_once before) poll.call.next) (fault_of f)
        ]

    gives : u ≡ ended_by (one_more_unit (rested app m)) None [] (outcome poll.call.fault)
    gives =
        step.gives
        ∙ poll_change m m.work
        ∙ ap (λ (o : Outcome K). ended_by (one_more_unit (rested app m)) None [] o) is_polled

    pub polled_state : poll.call.fault ≡ None → u.state ≡ look leaves
    polled_state e =
        ap (λ (z : Machine K). z.state) gives
        ∙ ap (λ (o : Option CallFault). (ended_by (one_more_unit (rested app m)) None [] (outcome o)).state) e

    pub polled_faults : (f : CallFault) → poll.call.fault ≡ Some f → u.dead ≡ Some (fault_of f)
    polled_faults f e =
        ap (λ (z : Machine K). z.dead) gives
        ∙ ap (λ (o : Option CallFault). (ended_by (one_more_unit (rested app m)) None [] (outcome o)).dead) e

module _ {K : Types} (app : Application K) where
  -- who makes a move is alive
  alive_by : (m : Machine K) (e : Entry) (o : Option Fault) → m.dead ≡ o → due app m ≡ Some e → m.dead ≡ None
  alive_by m e None dead due_is = dead
  alive_by m e (Some fault) dead due_is =
      let none : None ≡ Some e =
      sym (ap (λ (o : Option Fault). if_live m.state (elim o as (λ z. Option Entry) [ None ↦ (if m.built then due_item app m m.work else Some Build) | Some f ↦ None ])) dead) ∙ due_is in
      cc

  -- so where a fault came nothing follows
  pub alive_before : (limits : Limits) (m v : Machine K) (moves : List Move) → Leads app limits m moves v → v.dead ≡ None → m.dead ≡ None
  alive_before limits m v [] leads alive = ap (λ (z : Machine K). z.dead) (sym leads) ∙ alive
  alive_before limits m v (Silent ∷ moves) leads alive = (leads.1).alive
  alive_before limits m v (Closed ∷ moves) leads alive = (leads.1).alive
  alive_before limits m v (Logged e ∷ moves) leads alive = alive_by m e m.dead refl (leads.1).due_is
