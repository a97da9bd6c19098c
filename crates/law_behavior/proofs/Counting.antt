-- Units of a render while suspended, each replayed by itself, are units of that render, which counts them together.
use Rattle.std.proofs.Common.{inl, inr, ℕ, suc, ◌+◌, Bool, true, false, not, ◌&&◌, List, [], ◌∷◌, ◌++◌, ◌≡◌, refl, sym, ap, ◌∙◌}
use Rattle.std.specs.Prelude.{zero, nat_eq, Option, Some, None, option_map, is_some, if◌then◌else◌}
use Rattle.rt_model.specs.Lists.{first_of}
use Rattle.rt_model.specs.Tree.{Types}
use Rattle.rt_model.specs.World.{Application}
use Rattle.rt_model.specs.State.{Fault, OutOfTurns, State, Item, Draw, Row, Feed, Make, Drop, Outcome, Done, Cut}
use Rattle.rt_model.specs.Boundary.{boundary_step}
use Rattle.rt_model.specs.Heard.{Listener}
use Rattle.rt_model.specs.Removal as removal
use Rattle.rt_model.specs.Run.{run}
use Rattle.rt_model.specs.Next.{Work, RerunScope, PollTask, RunEffects, is_before, scope_of_task, at_rest, chosen, first_task, first_seen, next_at_rest}
use Rattle.rt_model.specs.Replay.{Entry, Build, Taken, Heard, Rerun, Poll, Effects, Made, Fed, Kept, Removed, Input, Machine, ended_by, draw_number, drawn_on, draws, rows_left, row_first, row_next, served, settled, closed, closed_at, waiting, is_quiet, no_work, no_listener, if_live, due_item, due_heard, due_work, due, change_by, dropped, outcome_of, polled, effects_run, one_more_unit, rested, is_due, step, accepts}
use Rattle.rt_model.specs.Causes.{Limits, depth_refused, next_height, turns_refused, refusal, replay_within}
use Rattle.rt_model.specs.Rendering.{rendering_rest, rendering_next, rendering_due, rendering_due_at, rendering_step_at, rendering_accepts, rendering_refusal, spent_where, goes_within, renders_within}
use Rattle.rt_model.specs.Rendering as rendering
use Rattle.rt_model.specs.Told.{opens}
use Rattle.rt_model.specs.Asides.{resting}
use Rattle.law_moves.proofs.Acceptance.{same_as_itself}
use Rattle.law_moves.specs.Moves.{serves_item, IsSettled}
use Rattle.law_headline.proofs.Reports.{settled_after}
use Rattle.law_behavior.specs.Doms.{NoneOpens, UnitsFollow}
use Rattle.law_behavior.proofs.Leading.{within_on}
use Rattle.law_behavior.proofs.Loops.{passed_comes_next}
use Rattle.law_behavior.proofs.CallEntries.{unit_of, Calls, Serves, alive_where, due_of, due_is, calls_on, one_within}

-- what is accepted, after another count
mapped : {A B : Type 0} (f : A → B) (b : Bool) (x u : A) → (if b then Some x else None) ≡ Some u → (if b then Some (f x) else None) ≡ Some (f u)
mapped f true x u h = ap (λ o. option_map f o) h
mapped f false x u h = cc

second_none : (d o p : Option Fault) → first_of d (first_of o p) ≡ None → o ≡ None
second_none None None p h = refl
second_none None (Some fault) p h = cc
second_none (Some fault) o p h = cc

module _ {K : Types} where
  -- the same machine after so many units
  abbrev pub over : ℕ → Machine K → Machine K
  over k m = record m { units = k }

  ended_over : (k : ℕ) (m : Machine K) (item : Option (Item K)) (rest : List (Item K)) (o : Outcome K)
      → ended_by (over k m) item rest o ≡ over k (ended_by m item rest o)
  ended_over k m item rest (Done v work) = refl
  ended_over k m item rest (Cut v fault) = refl

  draws_over : (k : ℕ) (work : List (Item K)) (m : Machine K) → draws work (over k m) ≡ over k (draws work m)
  draws_over k [] m = refl
  draws_over k (Draw s side p kind ∷ rest) m = by (λ u. draws_over k rest u) (draw_number m.state s side p kind)
    where
      by : ((u : Machine K) → draws rest (over k u) ≡ over k (draws rest u)) → (o : Outcome K)
          → drawn_on (λ u. draws rest u) (over k m) (Draw s side p kind) rest o
          ≡ over k (drawn_on (λ u. draws rest u) m (Draw s side p kind) rest o)
      by on (Done v work) = on (ended_by m (Some (Draw s side p kind)) rest (Done v work))
      by on (Cut v fault) = refl
  draws_over k (Row b row_step ∷ rest) m = refl
  draws_over k (Make s side p c ∷ rest) m = refl
  draws_over k (Feed s side p c ∷ rest) m = refl
  draws_over k (Drop t s side ∷ rest) m = refl

  closed_over : (k : ℕ) (m : Machine K) → closed (over k m) ≡ over k (closed m)
  closed_over k m = by m.dead
    where
      at : (work : List (Item K)) (unit : Bool) → closed_at (over k m) work unit ≡ over k (closed_at m work unit)
      at [] true = refl
      at [] false = refl
      at (item ∷ rest) unit = refl

      by : (o : Option Fault)
          → elim o as (λ z. Machine K) [ None ↦ closed_at (over k m) m.work m.unit | Some fault ↦ over k m ]
          ≡ over k (elim o as (λ z. Machine K) [ None ↦ closed_at m m.work m.unit | Some fault ↦ m ])
      by None = at m.work m.unit
      by (Some fault) = refl

module _ {K : Types} (app : Application K) where
  -- steps of boundaries
  module _ (k : ℕ) (go : Machine K → Machine K) (goes : (u : Machine K) → go (over k u) ≡ over k (go u)) where
    row_first_over : (m : Machine K) (work : List (Item K)) → row_first app go (over k m) work ≡ over k (row_first app go m work)
    row_first_over m [] = refl
    row_first_over m (Row b row_step ∷ rest) =
        let o : Outcome K = boundary_step app m.state b row_step in
        ap go (ended_over k m (Some (Row b row_step)) rest o) ∙ goes (ended_by m (Some (Row b row_step)) rest o)
    row_first_over m (Draw s side p kind ∷ rest) = refl
    row_first_over m (Make s side p c ∷ rest) = refl
    row_first_over m (Feed s side p c ∷ rest) = refl
    row_first_over m (Drop t s side ∷ rest) = refl

    row_next_over : (m : Machine K) → row_next app go (over k m) ≡ over k (row_next app go m)
    row_next_over m = by m.dead
      where
        by : (o : Option Fault)
            → elim o as (λ z. Machine K) [ None ↦ row_first app go (over k m) m.work | Some fault ↦ over k m ]
            ≡ over k (elim o as (λ z. Machine K) [ None ↦ row_first app go m m.work | Some fault ↦ m ])
        by None = row_first_over m m.work
        by (Some fault) = refl

  served_over : (n k : ℕ) (m : Machine K) → served app n (over k m) ≡ over k (served app n m)
  served_over zero k m = by m.dead
    where
      by : (o : Option Fault)
          → elim o as (λ z. Machine K) [ None ↦ draws m.work (over k m) | Some fault ↦ over k m ]
          ≡ over k (elim o as (λ z. Machine K) [ None ↦ draws m.work m | Some fault ↦ m ])
      by None = draws_over k m.work m
      by (Some fault) = refl
  served_over (suc n) k m = by (λ u. served_over n k u) m.dead
    where
      by : ((u : Machine K) → served app n (over k u) ≡ over k (served app n u)) → (o : Option Fault)
          → elim o as (λ z. Machine K) [ None ↦ row_next app (λ u. served app n u) (draws m.work (over k m)) | Some fault ↦ over k m ]
          ≡ over k (elim o as (λ z. Machine K) [ None ↦ row_next app (λ u. served app n u) (draws m.work m) | Some fault ↦ m ])
      by on None =
          ap (λ (x : Machine K). row_next app (λ u. served app n u) x) (draws_over k m.work m)
          ∙ row_next_over k (λ u. served app n u) on (draws m.work m)
      by on (Some fault) = refl

  pub settled_over : (k : ℕ) (m : Machine K) → settled app (over k m) ≡ over k (settled app m)
  settled_over k m =
      ap (λ (x : Machine K). closed x) (served_over (rows_left m.work) k m) ∙ closed_over k (served app (rows_left m.work) m)

  dropped_over : (k : ℕ) (m : Machine K) (t child : ℕ) (this : Item K) (rest : List (Item K))
      → dropped app (over k m) t child this rest ≡ over k (dropped app m t child this rest)
  dropped_over k m t child this rest = by (nat_eq t child)
    where
      o : Outcome K
      o = removal.removed app m.state t

      by : (b : Bool)
          → (if b then ended_by (over k m) (Some this) rest o else ended_by (over k m) (Some this) (this ∷ rest) o)
          ≡ over k (if b then ended_by m (Some this) rest o else ended_by m (Some this) (this ∷ rest) o)
      by true = ended_over k m (Some this) rest o
      by false = ended_over k m (Some this) (this ∷ rest) o

  -- an entry that serves open work counts no unit
  change_over : (k : ℕ) (m : Machine K) (work : List (Item K)) (e : Entry) → serves_item e ≡ true
      → change_by app (over k m) work e ≡ over k (change_by app m work e)
  change_over k m (Draw s side p kind ∷ rest) (Made l) serves = refl
  change_over k m (Draw s side p kind ∷ rest) (Fed l) serves = refl
  change_over k m (Draw s side p kind ∷ rest) (Kept l) serves = refl
  change_over k m (Draw s side p kind ∷ rest) (Removed l) serves = refl
  change_over k m (Row b row_step ∷ rest) (Made l) serves = refl
  change_over k m (Row b row_step ∷ rest) (Fed l) serves = refl
  change_over k m (Row b row_step ∷ rest) (Kept l) serves = refl
  change_over k m (Row b row_step ∷ rest) (Removed l) serves = refl
  change_over k m (Make s side p c ∷ rest) (Made l) serves = ended_over k m (Some (Make s side p c)) rest (outcome_of app m.state (Make s side p c))
  change_over k m (Make s side p c ∷ rest) (Fed l) serves = refl
  change_over k m (Make s side p c ∷ rest) (Kept l) serves = refl
  change_over k m (Make s side p c ∷ rest) (Removed l) serves = refl
  change_over k m (Feed s side p c ∷ rest) (Made l) serves = refl
  change_over k m (Feed s side p c ∷ rest) (Fed l) serves = ended_over k m (Some (Feed s side p c)) rest (outcome_of app m.state (Feed s side p c))
  change_over k m (Feed s side p c ∷ rest) (Kept l) serves = ended_over k m (Some (Feed s side p c)) rest (outcome_of app m.state (Feed s side p c))
  change_over k m (Feed s side p c ∷ rest) (Removed l) serves = refl
  change_over k m (Drop t s side ∷ rest) (Made l) serves = refl
  change_over k m (Drop t s side ∷ rest) (Fed l) serves = refl
  change_over k m (Drop t s side ∷ rest) (Kept l) serves = refl
  change_over k m (Drop t s side ∷ rest) (Removed l) serves = dropped_over k m l t (Drop t s side) rest
  change_over k m [] (Made l) serves = refl
  change_over k m [] (Fed l) serves = refl
  change_over k m [] (Kept l) serves = refl
  change_over k m [] (Removed l) serves = refl
  change_over k m work Build serves = cc
  change_over k m work (Taken l) serves = cc
  change_over k m work (Heard l) serves = cc
  change_over k m work (Rerun l) serves = cc
  change_over k m work (Poll l) serves = cc
  change_over k m work (Effects l) serves = cc

  -- and one that begins a unit is one more
  pub change_first : (k : ℕ) (m : Machine K) (work : Work)
      → change_by app (over k m) [] (unit_of work) ≡ over (k + 1) (change_by app m [] (unit_of work))
  change_first k m (RerunScope s) =
      ended_over (k + 1) (one_more_unit (rested app m)) None [] (run app (at_rest m.state) s)
  change_first k m (PollTask t) =
      ended_over (k + 1) (one_more_unit (rested app m)) None [] (polled app (at_rest m.state) t)
  change_first k m (RunEffects s) =
      ended_over (k + 1) (one_more_unit (rested app m)) None [] (effects_run app (at_rest m.state) s)

  -- what is due doesn't ask for the count
  due_over : (k : ℕ) (m : Machine K) → due app (over k m) ≡ due app m
  due_over k m =
      ap (λ (o : Option Entry). if_live m.state (elim m.dead as (λ z. Option Entry)
      [ None ↦ (if m.built then o else Some Build) | Some fault ↦ None ])) (item m.work)
    where
      unit : (o : Option Work) (inputs : List (Input K)) → due_work app (over k m) o inputs ≡ due_work app m o inputs
      unit (Some (RerunScope s)) inputs = refl
      unit (Some (PollTask t)) inputs = refl
      unit (Some (RunEffects s)) inputs = refl
      unit None [] = refl
      unit None (input ∷ inputs) = refl

      heard : (ls : List (Listener K)) → due_heard app (over k m) ls ≡ due_heard app m ls
      heard [] = unit (next_at_rest (at_rest m.state)) m.inputs
      heard (l ∷ ls) = refl

      item : (work : List (Item K)) → due_item app (over k m) work ≡ due_item app m work
      item [] = heard (waiting m)
      item (Draw s side p kind ∷ rest) = refl
      item (Row b row_step ∷ rest) = refl
      item (Make s side p c ∷ rest) = refl
      item (Feed s side p c ∷ rest) = refl
      item (Drop t s side ∷ rest) = refl

  module _ (limits : Limits) where
    -- one entry more that serves open work
    serve_over : (k : ℕ) (m u : Machine K) (e : Entry) → refusal limits m ≡ None → accepts app m e ≡ Some u → Serves app m e
        → (rendering_refusal app limits (over k m) ≡ None) × (rendering_accepts app (over k m) e ≡ Some (over k u))
    serve_over k m u e none accepted s = (calm, taken)
      where
        alive : m.dead ≡ None
        alive = alive_where limits m none

        deep : depth_refused limits (next_height m) ≡ None
        deep = second_none m.dead (depth_refused limits (next_height m)) (turns_refused limits m) none

        busy : is_quiet (over k m) ≡ false
        busy =
            ap (λ (o : Option Fault). not (is_some o) && no_work m.work && no_listener (waiting m)) alive
            ∙ ap (λ (items : List (Item K)). true && no_work items && no_listener (waiting m)) s.first

        calm : rendering_refusal app limits (over k m) ≡ None
        calm =
            ap (λ (o : Option Fault). first_of o (first_of (depth_refused limits (next_height m))
            (spent_where app limits (over k m) (rendering_next m.state)))) alive
            ∙ ap (λ (o : Option Fault). first_of o (spent_where app limits (over k m) (rendering_next m.state))) deep
            ∙ ap (λ (b : Bool). if b && nat_eq k limits.units && is_some (rendering_next m.state) then Some (OutOfTurns limits.units) else None) busy

        due_same : rendering_due app (over k m) ≡ due app m
        due_same =
            ap (λ (o : Option Fault). elim o as (λ z. Option Entry)
            [ None ↦ rendering_due_at app (over k m) m.work | Some fault ↦ None ]) alive
            ∙ ap (λ (items : List (Item K)). rendering_due_at app (over k m) items) s.first
            ∙ due_over k m

        step_same : rendering_step_at app (over k m) m.work e ≡ over k (step app m e)
        step_same =
            ap (λ (items : List (Item K)). rendering_step_at app (over k m) items e) s.first
            ∙ ap (λ (x : Machine K). settled app x) (change_over k m m.work e s.serves)
            ∙ settled_over k (change_by app m m.work e)

        taken : rendering_accepts app (over k m) e ≡ Some (over k u)
        taken =
            ap (λ (o : Option Entry). if is_due app o e then Some (rendering_step_at app (over k m) m.work e) else None) due_same
            ∙ ap (λ (x : Machine K). if is_due app (due app m) e then Some x else None) step_same
            ∙ mapped (λ (x : Machine K). over k x) (is_due app (due app m) e) (step app m e) u accepted

    -- along what is left of a unit
    serves_on : (k : ℕ) (log : List Entry) (m v : Machine K) → IsSettled m → Calls m → NoneOpens log
        → replay_within app limits (Some m) log ≡ Some v
        → renders_within app limits (Some (over k m)) log ≡ Some (over k v)
    serves_on k [] m v settled h shut go = ap (λ (o : Option (Machine K)). option_map (λ x. over k x) o) go
    serves_on k (e ∷ log) m v settled h shut go =
        let on = within_on app limits m v e log go in
        let u : Machine K = on.1.0 in
        let one = one_within app limits m u e on.0 on.1.1 in
        let both : (rendering_refusal app limits (over k m) ≡ None) × (rendering_accepts app (over k m) e ≡ Some (over k u)) =
        elim (due_is app m e h (alive_where limits m on.0) (due_of app m u e on.1.1)) [
          | inl c ↦ never k m u e c.work c.named shut.0
          | inr s ↦ serve_over k m u e on.0 on.1.1 s
        ] in
        ap (λ (o : Option Fault). goes_within app (λ x. rendering_refusal app limits x) (λ x d. rendering_accepts app x d)
        (elim o as (λ z. Option (Machine K)) [ None ↦ rendering_accepts app (over k m) e | Some fault ↦ None ]) log) both.0
        ∙ ap (λ (o : Option (Machine K)). goes_within app (λ x. rendering_refusal app limits x) (λ x d. rendering_accepts app x d) o log) both.1
        ∙ serves_on k log u v (settled_after app limits (e ∷ []) m u settled one) (calls_on app limits (e ∷ []) m u settled one h) shut.1 on.1.2
      where
        never : (k : ℕ) (m u : Machine K) (e : Entry) (work : Work) → e ≡ unit_of work → opens e ≡ false
            → (rendering_refusal app limits (over k m) ≡ None) × (rendering_accepts app (over k m) e ≡ Some (over k u))
        never k m u e work is shut = none work (sym shut ∙ ap (λ (x : Entry). opens x) is)
          where
            none : (work : Work) → false ≡ opens (unit_of work)
                → (rendering_refusal app limits (over k m) ≡ None) × (rendering_accepts app (over k m) e ≡ Some (over k u))
            none (RerunScope s) h = cc
            none (PollTask t) h = cc
            none (RunEffects s) h = cc

    -- what a render while suspended takes is no batch of effects
    entry_next : (x : State K) (work : Work) → rendering_next x ≡ Some work → rendering.entry_of (Some work) ≡ Some (unit_of work)
    entry_next x (RerunScope s) is = refl
    entry_next x (PollTask t) is = refl
    entry_next x (RunEffects s) is = by (first_task (rendering_rest x)) (first_seen (rendering_rest x)) is
      where
        pick : (b : Bool) (t v : ℕ) → (if b then Some (RerunScope v) else Some (PollTask t)) ≡ Some (RunEffects s)
            → rendering.entry_of (Some (RunEffects s)) ≡ Some (unit_of (RunEffects s))
        pick true t v h = cc
        pick false t v h = cc

        by : (o p : Option ℕ) → chosen (rendering_rest x) o p ≡ Some (RunEffects s)
            → rendering.entry_of (Some (RunEffects s)) ≡ Some (unit_of (RunEffects s))
        by None None h = cc
        by (Some t) None h = cc
        by None (Some v) h = cc
        by (Some t) (Some v) h =
            let y : State K = rendering_rest x in pick (is_before y.scopes v (scope_of_task y t)) t v h

    -- a unit begins
    first_over : (n : ℕ) (x : State K) (work : Work) (e : Entry) (u : Machine K)
        → nat_eq n limits.units ≡ false
        → rendering_next x ≡ Some work
        → refusal limits (resting (rendering_rest x)) ≡ None
        → accepts app (resting (rendering_rest x)) e ≡ Some u
        → (rendering_refusal app limits (over n (resting x)) ≡ None)
        × (rendering_accepts app (over n (resting x)) e ≡ Some (over (n + 1) u))
    first_over n x work e u few is none accepted = (calm, taken)
      where
        m : Machine K
        m = resting (rendering_rest x)

        named : e ≡ unit_of work
        named =
            elim (due_is app m e (record { built = refl; inputs = refl; listeners = refl }) refl (due_of app m u e accepted)) [
              | inl c ↦ c.named ∙ ap (λ (w : Work). unit_of w) (one c.work work (sym c.next_is ∙ (passed_comes_next x work is).1))
              | inr s ↦ empty s.item s.later s.first
            ]
          where
            one : (a b : Work) → Some a ≡ Some b → a ≡ b
            one a b h = cc

            empty : (item : Item K) (later : List (Item K)) → [] ≡ item ∷ later → e ≡ unit_of work
            empty item later h = cc

        calm : rendering_refusal app limits (over n (resting x)) ≡ None
        calm = ap (λ (b : Bool). if b && is_some (rendering_next x) then Some (OutOfTurns limits.units) else None) few

        due_same : rendering_due app (over n (resting x)) ≡ Some e
        due_same =
            ap (λ (o : Option Work). rendering.entry_of o) is ∙ entry_next x work is ∙ ap (λ (d : Entry). Some d) (sym named)

        step_same : rendering_step_at app (over n (resting x)) [] e ≡ over (n + 1) (step app m e)
        step_same =
            ap (λ (d : Entry). settled app (change_by app (over n m) [] d)) named
            ∙ ap (λ (y : Machine K). settled app y) (change_first n m work)
            ∙ settled_over (n + 1) (change_by app m [] (unit_of work))
            ∙ ap (λ (d : Entry). over (n + 1) (settled app (change_by app m [] d))) (sym named)

        there : step app m e ≡ u
        there = by (is_due app (due app m) e) accepted
          where
            by : (b : Bool) → (if b then Some (step app m e) else None) ≡ Some u → step app m e ≡ u
            by true h = cc
            by false h = cc

        taken : rendering_accepts app (over n (resting x)) e ≡ Some (over (n + 1) u)
        taken =
            ap (λ (o : Option Entry). if is_due app o e then Some (rendering_step_at app (over n (resting x)) [] e) else None) due_same
            ∙ ap (λ (b : Bool). if b then Some (rendering_step_at app (over n (resting x)) [] e) else None) (same_as_itself e)
            ∙ ap (λ (y : Machine K). Some y) (step_same ∙ ap (λ (y : Machine K). over (n + 1) y) there)

    -- logs behind one another
    goes_join : (log more : List Entry) (o : Option (Machine K))
        → renders_within app limits o (log ++ more) ≡ renders_within app limits (renders_within app limits o log) more
    goes_join log more None = refl
    goes_join [] more (Some m) = refl
    goes_join (e ∷ log) more (Some m) =
        goes_join log more
        (elim (rendering_refusal app limits m) as (λ z. Option (Machine K)) [ None ↦ rendering_accepts app m e | Some fault ↦ None ])

  pub units_follow : UnitsFollow app
  units_follow limits w x units log more e work u so few is shut go =
      let m : Machine K = resting (rendering_rest x) in
      let on = within_on app limits m u e more go in
      let v : Machine K = on.1.0 in
      let calls : Calls m = record { built = refl; inputs = refl; listeners = refl } in
      let one = one_within app limits m v e on.0 on.1.1 in
      let first = first_over limits units x work e v few is on.0 on.1.1 in
      goes_join limits log (e ∷ more) (Some (resting w))
      ∙ ap (λ (o : Option (Machine K)). renders_within app limits o (e ∷ more)) so
      ∙ ap (λ (o : Option Fault). renders_within app limits
      (elim o as (λ z. Option (Machine K)) [ None ↦ rendering_accepts app (over units (resting x)) e | Some fault ↦ None ]) more) first.0
      ∙ ap (λ (o : Option (Machine K)). renders_within app limits o more) first.1
      ∙ serves_on limits (units + 1) more v u (settled_after app limits (e ∷ []) m v refl one) (calls_on app limits (e ∷ []) m v refl one calls) shut on.1.2
