-- What an entry of a call on a built runtime is: no input is taken in and no listener waits, so a unit comes next or open work is served.
use Rattle.std.proofs.Common.{◌⊎◌, inl, inr, ℕ, Bool, true, false, List, [], ◌∷◌, ◌≡◌, refl, sym, ap, ◌∙◌, subst}
use Rattle.std.specs.Prelude.{Option, Some, None, if◌then◌else◌}
use Rattle.rt_model.specs.Lists.{first_of}
use Rattle.rt_model.specs.Tree.{Types, Place, VComponent}
use Rattle.rt_model.specs.World.{Application}
use Rattle.rt_model.specs.State.{SideName, Fault, Item, Draw, Row, Feed, Make, Drop, Outcome, Done, Cut, is_live}
use Rattle.rt_model.specs.Next.{Work, RerunScope, PollTask, RunEffects, at_rest, next}
use Rattle.rt_model.specs.Heard.{Listener}
use Rattle.rt_model.specs.Run.{run}
use Rattle.rt_model.specs.Removal.{next_removed}
use Rattle.rt_model.specs.Removal as removal
use Rattle.rt_model.specs.Lists.{kept_by}
use Rattle.rt_model.specs.Replay.{Entry, Build, Rerun, Poll, Effects, Fed, Kept, Removed, Input, Machine, ended_by, if_live, waiting, fed_child, keeps, due_item, due_heard, due_work, due, change_by, is_due, accepts, step, mounted_state, outcome_of, one_more_unit, rested, polled, effects_run}
use Rattle.rt_model.specs.Causes.{Limits, depth_refused, next_height, turns_refused, refusal, replay_within}
use Rattle.rt_model.specs.Bodies.{MakesFirst, FeedsFirst, MadeOrFed, OthersMadeOrFed}
use Rattle.rt_model.proofs.OneLogOnly.{same_entry-true}
use Rattle.law_moves.specs.Moves.{Move, Silent, Closed, Logged, serves_item, IsSettled, Moves, Leads}
use Rattle.law_moves.proofs.Insides.{live_due, made_due, fed_due, fed_change}
use Rattle.law_moves.proofs.Logs.{logs_are_moves}
use Rattle.law_headline.proofs.Reports.{settled_after}
use Rattle.law_behavior.proofs.Leading.{within_on}

-- the entry of a unit
abbrev pub unit_of : Work → Entry
unit_of (RerunScope s) = Rerun s
unit_of (PollTask t) = Poll t
unit_of (RunEffects s) = Effects s

first_none : (d later : Option Fault) → first_of d later ≡ None → d ≡ None
first_none None later h = refl
first_none (Some fault) later h = cc

module _ {K : Types} where
  -- a call is on its way: it is built, no input is left, and no listener waits
  pub record Calls (m : Machine K) : Type 0 where
    pub built : m.built ≡ true
    pub inputs : m.inputs ≡ []
    pub listeners : m.listeners ≡ []

  -- where nothing refuses no fault ended the run
  pub alive_where : (limits : Limits) (m : Machine K) → refusal limits m ≡ None → m.dead ≡ None
  alive_where limits m none = first_none m.dead (first_of (depth_refused limits (next_height m)) (turns_refused limits m)) none

  ended_calls : (m : Machine K) (item : Option (Item K)) (rest : List (Item K)) (o : Outcome K) → Calls m → Calls (ended_by m item rest o)
  ended_calls m item rest (Done v work) h = record { built = h.built; inputs = h.inputs; listeners = h.listeners }
  ended_calls m item rest (Cut v fault) h = record { built = h.built; inputs = h.inputs; listeners = h.listeners }

  calls_if : (b : Bool) (x y : Machine K) → Calls x → Calls y → Calls (if b then x else y)
  calls_if true x y f g = f
  calls_if false x y f g = g

module _ {K : Types} (app : Application K) where
  -- nothing is at work, and this unit comes next
  pub record Comes (m : Machine K) (e : Entry) : Type 0 where
    pub idle : m.work ≡ []
    pub work : Work
    pub next_is : next m.state ≡ Some work
    pub named : e ≡ unit_of work

  -- open work is served
  pub record Serves (m : Machine K) (e : Entry) : Type 0 where
    pub item : Item K
    pub later : List (Item K)
    pub first : m.work ≡ item ∷ later
    pub serves : serves_item e ≡ true
    pub by : MadeOrFed app m e
    pub calls : Calls (change_by app m m.work e)

  -- the one that is due is accepted
  pub due_of : (m u : Machine K) (e : Entry) → accepts app m e ≡ Some u → due app m ≡ Some e
  due_of m u e h = by (due app m) h
    where
      by : (o : Option Entry) → (if is_due app o e then Some (step app m e) else None) ≡ Some u → o ≡ Some e
      by None g = cc
      by (Some d) g = ap (λ (x : Entry). Some x) (same_entry-true d e (picked (is_due app (Some d) e) g))
        where
          picked : (b : Bool) → (if b then Some (step app m e) else None) ≡ Some u → b ≡ true
          picked true k = refl
          picked false k = cc

  due_there : (m : Machine K) → m.dead ≡ None → m.built ≡ true → due app m ≡ if_live m.state (due_item app m m.work)
  due_there m alive built =
      ap (λ (o : Option Fault). if_live m.state (elim o as (λ z. Option Entry)
      [ None ↦ (if m.built then due_item app m m.work else Some Build) | Some fault ↦ None ])) alive
      ∙ ap (λ (b : Bool). if_live m.state (if b then due_item app m m.work else Some Build)) built

  module _ (m : Machine K) (e : Entry) (h : Calls m) where
    none_waits : waiting m ≡ []
    none_waits = ap (λ (ls : List (Listener K)). kept_by (λ l. is_live m.state l.origin) ls) h.listeners

    unit_due : (o : Option Work) (inputs : List (Input K)) → m.work ≡ [] → next m.state ≡ o → inputs ≡ []
        → if_live m.state (due_work app m o inputs) ≡ Some e → Comes m e
    unit_due (Some (RerunScope s)) inputs idle is none g =
        record { idle = idle; work = RerunScope s; next_is = is; named = (live_due app m.state (Rerun s) e g).0 }
    unit_due (Some (PollTask t)) inputs idle is none g =
        record { idle = idle; work = PollTask t; next_is = is; named = (live_due app m.state (Poll t) e g).0 }
    unit_due (Some (RunEffects s)) inputs idle is none g =
        record { idle = idle; work = RunEffects s; next_is = is; named = (live_due app m.state (Effects s) e g).0 }
    unit_due None [] idle is none g = cc
    unit_due None (input ∷ inputs) idle is none g = cc

    -- what serves the first item, told of the work
    record ServesIt (work : List (Item K)) : Type 0 where
      serves : serves_item e ≡ true
      by : m.work ≡ work → MadeOrFed app m e
      calls : Calls (change_by app m work e)

    make_due : (s : ℕ) (side : SideName) (p : Place) (c : VComponent K) (rest : List (Item K))
        → if_live m.state (due_item app m (Make s side p c ∷ rest)) ≡ Some e → ServesIt (Make s side p c ∷ rest)
    make_due s side p c rest g =
        let found = made_due app m.state (is_live m.state s) m.state.next_scope e g in
        let item : Item K = Make s side p c in
        record {
          serves = ap (λ (x : Entry). serves_item x) found.1;
          by = λ is. subst (λ (x : Entry). MadeOrFed app m x) (sym found.1) (subst (λ (items : List (Item K)). MakesFirst app items) (sym is) tt);
          calls =
              subst (λ (x : Entry). Calls (change_by app m (item ∷ rest) x)) (sym found.1)
              (ended_calls m (Some item) rest (outcome_of app m.state item) h);
        }

    -- what feeds first where memoize refuses
    abbrev Feeds : VComponent K → ℕ → List (Item K) → Type 0
    Feeds c t items = keeps app m.state t c ≡ false → FeedsFirst app m.state t items

    feed_due : (s : ℕ) (side : SideName) (p : Place) (c : VComponent K) (rest : List (Item K))
        → if_live m.state (due_item app m (Feed s side p c ∷ rest)) ≡ Some e → ServesIt (Feed s side p c ∷ rest)
    feed_due s side p c rest g =
        let found = fed_due app m.state c (fed_child m.state s side p) e g in
        let item : Item K = Feed s side p c in
        let t : ℕ = found.0 in
        record {
          serves = ap (λ (x : Entry). serves_item x) found.2 ∙ either t (keeps app m.state t c);
          by =
              λ is.
              subst (λ (x : Entry). MadeOrFed app m x) (sym found.2)
              (fed_by t (keeps app m.state t c) refl (subst (λ (items : List (Item K)). Feeds c t items) (sym is) (λ q. (found.1, q))));
          calls =
              subst (λ (x : Entry). Calls (change_by app m (item ∷ rest) x)) (sym found.2)
              (subst (λ (y : Machine K). Calls y) (sym (fed_change app m s side p c rest t (keeps app m.state t c)))
              (ended_calls m (Some item) rest (outcome_of app m.state item) h));
        }
      where
        either : (t : ℕ) (b : Bool) → serves_item (if b then Kept t else Fed t) ≡ true
        either t true = refl
        either t false = refl

        fed_by : (t : ℕ) (b : Bool) → keeps app m.state t c ≡ b → Feeds c t m.work → MadeOrFed app m (if b then Kept t else Fed t)
        fed_by t true q f = tt
        fed_by t false q f = f q

    drop_due : (t s : ℕ) (side : SideName) (rest : List (Item K))
        → if_live m.state (due_item app m (Drop t s side ∷ rest)) ≡ Some e → ServesIt (Drop t s side ∷ rest)
    drop_due t s side rest g =
        let l : ℕ = next_removed m.state t in
        let item : Item K = Drop t s side in
        let found = live_due app m.state (Removed l) e g in
        record {
          serves = ap (λ (x : Entry). serves_item x) found.0;
          by = λ is. subst (λ (x : Entry). MadeOrFed app m x) (sym found.0) tt;
          calls =
              subst (λ (x : Entry). Calls (change_by app m (item ∷ rest) x)) (sym found.0)
              (calls_if _ _ _
              (ended_calls m (Some item) rest (removal.removed app m.state l) h)
              (ended_calls m (Some item) (item ∷ rest) (removal.removed app m.state l) h));
        }

    served : (item : Item K) (later : List (Item K)) → m.work ≡ item ∷ later → ServesIt (item ∷ later) → Serves m e
    served item later is g =
        record {
          item = item;
          later = later;
          first = is;
          serves = g.serves;
          by = g.by is;
          calls = subst (λ (items : List (Item K)). Calls (change_by app m items e)) (sym is) g.calls;
        }

    item_due : (work : List (Item K)) → m.work ≡ work → if_live m.state (due_item app m work) ≡ Some e → Comes m e ⊎ Serves m e
    item_due [] is g =
        let calm : if_live m.state (due_work app m (next m.state) m.inputs) ≡ Some e =
        sym (ap (λ (ls : List (Listener K)). if_live m.state (due_heard app m ls)) none_waits) ∙ g in
        inl (unit_due (next m.state) m.inputs is refl h.inputs calm)
    item_due (Draw s side p k ∷ rest) is g = cc
    item_due (Row b row_step ∷ rest) is g = cc
    item_due (Make s side p c ∷ rest) is g = inr (served (Make s side p c) rest is (make_due s side p c rest g))
    item_due (Feed s side p c ∷ rest) is g = inr (served (Feed s side p c) rest is (feed_due s side p c rest g))
    item_due (Drop t s side ∷ rest) is g = inr (served (Drop t s side) rest is (drop_due t s side rest g))

    -- an entry that is due
    pub due_is : m.dead ≡ None → due app m ≡ Some e → Comes m e ⊎ Serves m e
    due_is alive g = item_due m.work refl (sym (due_there m alive h.built) ∙ g)

  -- a unit begins from the state at rest
  began : (m : Machine K) (e : Entry) → Calls m → Comes m e → Calls (change_by app m m.work e)
  began m e h c =
      subst (λ (items : List (Item K)). Calls (change_by app m items e)) (sym c.idle)
      (subst (λ (x : Entry). Calls (change_by app m [] x)) (sym c.named) (by c.work))
    where
      by : (work : Work) → Calls (change_by app m [] (unit_of work))
      by (RerunScope s) = ended_calls (one_more_unit (rested app m)) None [] (run app (at_rest m.state) s) (record { built = h.built; inputs = h.inputs; listeners = h.listeners })
      by (PollTask t) = ended_calls (one_more_unit (rested app m)) None [] (polled app (at_rest m.state) t) (record { built = h.built; inputs = h.inputs; listeners = h.listeners })
      by (RunEffects s) = ended_calls (one_more_unit (rested app m)) None [] (effects_run app (at_rest m.state) s) (record { built = h.built; inputs = h.inputs; listeners = h.listeners })

  move_calls : (limits : Limits) (m u : Machine K) (move : Move) → Moves app limits m move u → Calls m → Calls u
  move_calls limits m u Silent move h =
      subst (λ (x : Machine K). Calls x) (sym move.gives) (ended_calls m (Some move.item) move.later (outcome_of app m.state move.item) h)
  move_calls limits m u Closed move h =
      subst (λ (x : Machine K). Calls x) (sym move.gives)
      (
      let z : Machine K = record m { unit = false; state = mounted_state m.state } in
      let same : Calls z = record { built = h.built; inputs = h.inputs; listeners = h.listeners } in
      same
      )
  move_calls limits m u (Logged e) move h =
      subst (λ (x : Machine K). Calls x) (sym move.gives)
      (elim (due_is m e h (alive_where limits m move.within) move.due_is) [ inl c ↦ began m e h c | inr s ↦ s.calls ])

  moves_call : (limits : Limits) (moves : List Move) (m v : Machine K) → Leads app limits m moves v → Calls m → Calls v
  moves_call limits [] m v leads h = subst (λ (x : Machine K). Calls x) (sym leads) h
  moves_call limits (move ∷ moves) m v leads h = moves_call limits moves leads.0 v leads.2 (move_calls limits m leads.0 move leads.1 h)

  -- along a log
  pub calls_on : (limits : Limits) (log : List Entry) (m v : Machine K) → IsSettled m → replay_within app limits (Some m) log ≡ Some v
      → Calls m → Calls v
  calls_on limits log m v settled go h =
      let found = logs_are_moves app limits m v log settled go in
      moves_call limits found.0 m v found.1 h

  -- one entry that is accepted within limits
  pub one_within : (limits : Limits) (m u : Machine K) (e : Entry) → refusal limits m ≡ None → accepts app m e ≡ Some u
      → replay_within app limits (Some m) (e ∷ []) ≡ Some u
  one_within limits m u e none accepted =
      ap (λ (o : Option Fault). replay_within app limits (elim o as (λ z. Option (Machine K))
      [ None ↦ accepts app m e | Some fault ↦ None ]) []) none
      ∙ ap (λ (o : Option (Machine K)). replay_within app limits o []) accepted

  -- every body that runs without being rerun is made or fed
  pub others_on : (limits : Limits) (log : List Entry) (m v : Machine K) → IsSettled m → Calls m
      → replay_within app limits (Some m) log ≡ Some v → OthersMadeOrFed app m log
  others_on limits [] m v settled h go = tt
  others_on limits (e ∷ log) m v settled h go =
      let on = within_on app limits m v e log go in
      let u : Machine K = on.1.0 in
      let one = one_within limits m u e on.0 on.1.1 in (
        elim (due_is m e h (alive_where limits m on.0) (due_of m u e on.1.1)) [
          | inl c ↦ subst (λ (x : Entry). MadeOrFed app m x) (sym c.named) (by m c.work)
          | inr s ↦ s.by
        ],
        λ z is.
            let same : u ≡ z = one_of u z (sym on.1.1 ∙ is) in
            subst (λ (x : Machine K). OthersMadeOrFed app x log) same
            (others_on limits log u v (settled_after app limits (e ∷ []) m u settled one) (calls_on limits (e ∷ []) m u settled one h) on.1.2),
      )
    where
      by : (m : Machine K) (work : Work) → MadeOrFed app m (unit_of work)
      by m (RerunScope s) = tt
      by m (PollTask t) = tt
      by m (RunEffects s) = tt

      one_of : (u z : Machine K) → Some u ≡ Some z → u ≡ z
      one_of u z h = cc
