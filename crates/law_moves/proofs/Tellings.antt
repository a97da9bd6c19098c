-- What is told of moves: their last machine, and of a unit its edits.
use Rattle.std.proofs.Common.{nat_eq, Bool, true, false, ◌&&◌, ◌||◌, not, List, [], ◌∷◌, ◌++◌, ◌≡◌, refl, sym, ap, ◌∙◌, subst}
use Rattle.std.specs.Prelude.{Option, Some, None, is_some, if◌then◌else◌}
use Rattle.std.proofs.lemmas.List.{append-nil}
use Rattle.rt_model.specs.Lists.{first_of}
use Rattle.rt_model.specs.Tree.{Types}
use Rattle.rt_model.specs.World.{Application}
use Rattle.rt_model.specs.State.{Fault, State, Item, Feed, Make, Drop, Outcome, Done, Cut}
use Rattle.rt_model.specs.Removal.{removed}
use Rattle.rt_model.specs.Replay.{Entry, Build, Taken, Heard, Rerun, Poll, Effects, Made, Fed, Kept, Removed, Machine, ended_by, mounted_state, no_listener, no_work, is_quiet, waiting, settled, if_live, due_item, due, outcome_of, change_by, accepts}
use Rattle.rt_model.specs.Next.{owes}
use Rattle.rt_model.specs.Causes.{Limits, depth_refused, first_item, next_height, turns_refused, refusal, replay_within, edits_at_depth, edits_at_refusal}
use Rattle.rt_model.specs.Caused.{caused, caused_until}
use Rattle.rt_model.specs.Told.{Telling, opens, opened, closed_unit, told_entry, tell_log}
use Rattle.law_moves.specs.Moves.{Move, Silent, Closed, Logged, entries, serves_item, Inside, InOneUnit, busy, moves_alone, IsSettled, IsSilent, IsClosed, IsLogged, Moves, Leads}
use Rattle.law_moves.specs.Laws.{MovesAreTold}
use Rattle.law_moves.specs.Units.{ended_unit, with_unit, refused_item, unit_told, UnitIsTold, UnitEnds, UnitStops}
use Rattle.law_moves.proofs.Joins.{entries-append, Leads-append}
use Rattle.law_moves.proofs.Settles.{silent_settles, closed_settles, settled_stays}
use Rattle.law_moves.proofs.Beginnings.{one_too_many, loud_goes_on}
use Rattle.law_moves.proofs.Acceptance.{logged_accepted, accepted_within}

pub served_opens_none : (e : Entry) → serves_item e ≡ true → opens e ≡ false
served_opens_none Build h = cc
served_opens_none (Taken k) h = refl
served_opens_none (Heard s) h = refl
served_opens_none (Rerun s) h = cc
served_opens_none (Poll t) h = cc
served_opens_none (Effects s) h = cc
served_opens_none (Made s) h = refl
served_opens_none (Fed s) h = refl
served_opens_none (Kept s) h = refl
served_opens_none (Removed s) h = refl

module _ {K : Types} where
  ended_unit_same : (m : Machine K) (item : Option (Item K)) (rest : List (Item K)) (o : Outcome K) → (ended_by m item rest o).unit ≡ m.unit
  ended_unit_same m item rest (Done w work) = refl
  ended_unit_same m item rest (Cut w fault) = refl

  unit_if : (b : Bool) (x y : Machine K) (unit : Bool) → x.unit ≡ unit → y.unit ≡ unit → (if b then x else y).unit ≡ unit
  unit_if true x y unit p q = p
  unit_if false x y unit p q = q

module _ {K : Types} (app : Application K) where
  -- what is told at a machine, by its fault
  abbrev pub told_where : Telling K → Bool → Machine K → Option Fault → Telling K
  told_where t at_work m o =
      elim o as (λ z. Telling K) [
        | None ↦ if at_work && not m.unit then record t { machine = m; edits = t.edits ++ caused app t.before m.state t.first } else record t { machine = m }
        | Some fault ↦ record t { machine = m; edits = t.edits ++ caused_until app t.before m.state m.refused t.first }
      ]

module _ {K : Types} (app : Application K) (limits : Limits) where
  -- while work is served the unit goes on
  silent_unit : (m u : Machine K) → IsSilent app m u → u.unit ≡ m.unit
  silent_unit m u h = ap (λ (x : Machine K). x.unit) h.gives ∙ ended_unit_same m (Some h.item) h.later (outcome_of app m.state h.item)

  change_unit : (m : Machine K) (work : List (Item K)) (e : Entry) → serves_item e ≡ true → (change_by app m work e).unit ≡ m.unit
  change_unit m (Make s side p c ∷ rest) (Made t) h = ended_unit_same m (Some (Make s side p c)) rest (outcome_of app m.state (Make s side p c))
  change_unit m (Feed s side p c ∷ rest) (Kept t) h = ended_unit_same m (Some (Feed s side p c)) rest (outcome_of app m.state (Feed s side p c))
  change_unit m (Feed s side p c ∷ rest) (Fed t) h = ended_unit_same m (Some (Feed s side p c)) rest (outcome_of app m.state (Feed s side p c))
  change_unit m (Drop child s side ∷ rest) (Removed t) h =
      let item : Item K = Drop child s side in
      let o : Outcome K = removed app m.state t in
      unit_if (nat_eq t child) (ended_by m (Some item) rest o) (ended_by m (Some item) (item ∷ rest) o) m.unit
      (ended_unit_same m (Some item) rest o)
      (ended_unit_same m (Some item) (item ∷ rest) o)
  change_unit m _ Build h = cc
  change_unit m _ (Taken k) h = cc
  change_unit m _ (Heard s) h = cc
  change_unit m _ (Rerun s) h = cc
  change_unit m _ (Poll t) h = cc
  change_unit m _ (Effects s) h = cc
  change_unit m _ _ h = refl

  logged_unit : (m u : Machine K) (e : Entry) → serves_item e ≡ true → IsLogged app limits m e u → u.unit ≡ m.unit
  logged_unit m u e served h = ap (λ (x : Machine K). x.unit) h.gives ∙ change_unit m m.work e served

  -- so it is open as long as work is served
  inside_unit : (m v : Machine K) (moves : List Move) → Leads app limits m moves v → Inside moves → v.unit ≡ m.unit
  inside_unit m v [] h inside = ap (λ (x : Machine K). x.unit) h
  inside_unit m v (Silent ∷ moves) h inside = inside_unit h.0 v moves h.2 inside ∙ silent_unit m h.0 h.1
  inside_unit m v (Closed ∷ moves) h inside = absurd inside
  inside_unit m v (Logged e ∷ moves) h inside = inside_unit h.0 v moves h.2 inside.1 ∙ logged_unit m h.0 e inside.0 h.1

  due_alive_at : (w : State K) (o : Option Fault) (x : Option Entry) (e : Entry) → if_live w (elim o as (λ z. Option Entry) [ None ↦ x | Some fault ↦ None ]) ≡ Some e → o ≡ None
  due_alive_at w None x e h = refl
  due_alive_at w (Some fault) x e h = cc

  -- after a fault no entry is due
  due_alive : (m : Machine K) (e : Entry) → due app m ≡ Some e → m.dead ≡ None
  due_alive m e h = due_alive_at m.state m.dead (if m.built then due_item app m m.work else Some Build) e h

  -- of an open unit no edit is written yet
  open_told : (t : Telling K) (m : Machine K) → m.dead ≡ None → m.unit ≡ true → closed_unit app t true m ≡ record t { machine = m }
  open_told t m alive unit =
      ap (λ (o : Option Fault). told_where app t true m o) alive
      ∙ ap (λ (b : Bool). if not b then record t { machine = m; edits = t.edits ++ caused app t.before m.state t.first } else record t { machine = m }) unit

  machine_if : (b : Bool) (x y : Telling K) (m : Machine K) → x.machine ≡ m → y.machine ≡ m → (if b then x else y).machine ≡ m
  machine_if true x y m p q = p
  machine_if false x y m p q = q

  machine_where : (t : Telling K) (at_work : Bool) (m : Machine K) (o : Option Fault) → (told_where app t at_work m o).machine ≡ m
  machine_where t at_work m None =
      machine_if (at_work && not m.unit) (record t { machine = m; edits = t.edits ++ caused app t.before m.state t.first }) (record t { machine = m }) m refl refl
  machine_where t at_work m (Some fault) = refl

  -- what is told is of that machine
  pub told_machine : (t : Telling K) (at_work : Bool) (m : Machine K) → (closed_unit app t at_work m).machine ≡ m
  told_machine t at_work m = machine_where t at_work m m.dead

  -- what is told of an entry that is accepted
  abbrev told_on : Telling K → Entry → Option (Machine K) → Option (Telling K)
  told_on t e o = elim o as (λ z. Option (Telling K)) [ None ↦ None | Some m ↦ Some (closed_unit app (opened t e) (opens e || t.machine.unit) m) ]

  pub entry_told : (t : Telling K) (m u : Machine K) (e : Entry) → t.machine ≡ m → IsLogged app limits m e u → told_entry app t e ≡ told_on t e (Some (settled app u))
  entry_told t m u e is h = ap (λ (o : Option (Machine K)). told_on t e o) (ap (λ (x : Machine K). accepts app x e) is ∙ logged_accepted app limits m u e h)

  -- one more entry of an open unit
  inside_told : (t : Telling K) (m u : Machine K) (e : Entry) → m.unit ≡ true → serves_item e ≡ true → IsLogged app limits m e u
      → told_entry app (closed_unit app t true m) e ≡ Some (closed_unit app t true (settled app u))
  inside_told t m u e unit served h =
      let v : Machine K = settled app u in
      ap (λ (x : Telling K). told_entry app x e) (open_told t m (due_alive m e h.due_is) unit)
      ∙ entry_told (record t { machine = m }) m u e refl h
      ∙ ap (λ (b : Bool). Some (closed_unit app (if b then record t { machine = m; before = m.state; first = e } else record t { machine = m }) (b || m.unit) v)) (served_opens_none e served)
      ∙ ap (λ (b : Bool). Some (closed_unit app (record t { machine = m }) b v)) unit

  -- the first entry of a unit
  first_told : (t : Telling K) (m u : Machine K) (e : Entry) → t.machine ≡ m → opens e ≡ true → IsLogged app limits m e u → told_entry app t e ≡ Some (unit_told app t e (settled app u))
  first_told t m u e is first h =
      let begun : Telling K = record t { before = t.machine.state; first = e } in
      entry_told t m u e is h
      ∙ ap (λ (b : Bool). Some (closed_unit app (if b then begun else t) (b || t.machine.unit) (settled app u))) first

  -- the rest of a unit
  rest_told : (m v : Machine K) (moves : List Move) (t : Telling K) → m.unit ≡ true → Leads app limits m moves v → InOneUnit moves → IsSettled v
      → tell_log app (Some (closed_unit app t true (settled app m))) (entries moves) ≡ Some (closed_unit app t true v)
  rest_told m v [] t unit h inside s =
      ap (λ (x : Machine K). Some (closed_unit app t true x)) (ap (λ (x : Machine K). settled app x) (sym h) ∙ settled_stays app v s)
  rest_told m v (Silent ∷ moves) t unit h inside s =
      ap (λ (x : Machine K). tell_log app (Some (closed_unit app t true x)) (entries moves)) (silent_settles app m h.0 h.1)
      ∙ rest_told h.0 v moves t (silent_unit m h.0 h.1 ∙ unit) h.2 inside s
  rest_told m v (Closed ∷ []) t unit h inside s =
      ap (λ (x : Machine K). Some (closed_unit app t true x))
      (closed_settles app m h.0 h.1 ∙ ap (λ (x : Machine K). settled app x) (sym h.2) ∙ settled_stays app v s)
  rest_told m v (Closed ∷ move ∷ moves) t unit h inside s = cc
  rest_told m v (Logged e ∷ moves) t unit h inside s =
      ap (λ (x : Machine K). tell_log app (told_entry app (closed_unit app t true x) e) (entries moves)) (settled_stays app m h.1.settled)
      ∙ ap (λ (o : Option (Telling K)). tell_log app o (entries moves)) (inside_told t m h.0 e unit inside.0 h.1)
      ∙ rest_told h.0 v moves t (logged_unit m h.0 e inside.0 h.1 ∙ unit) h.2 inside.1 s

  told : (m v : Machine K) (moves : List Move) (t : Telling K) → Leads app limits m moves v → IsSettled v → t.machine ≡ settled app m
      → (last : Telling K) × (tell_log app (Some t) (entries moves) ≡ Some last) × (last.machine ≡ v)
  told m v [] t h s is = (t, refl, is ∙ ap (λ (x : Machine K). settled app x) (sym h) ∙ settled_stays app v s)
  told m v (Silent ∷ moves) t h s is = told h.0 v moves t h.2 s (is ∙ silent_settles app m h.0 h.1)
  told m v (Closed ∷ moves) t h s is = told h.0 v moves t h.2 s (is ∙ closed_settles app m h.0 h.1)
  told m v (Logged e ∷ moves) t h s is =
      let after : Machine K = settled app h.0 in
      let next : Telling K = closed_unit app (opened t e) (opens e || t.machine.unit) after in
      let one = entry_told t m h.0 e (is ∙ settled_stays app m h.1.settled) h.1 in
      let rest = told h.0 v moves next h.2 s (told_machine (opened t e) (opens e || t.machine.unit) after) in
      (rest.0, ap (λ (o : Option (Telling K)). tell_log app o (entries moves)) one ∙ rest.1, rest.2)

in_unit : (moves : List Move) → Inside moves → InOneUnit moves
in_unit [] h = tt
in_unit (Silent ∷ moves) h = in_unit moves h
in_unit (Closed ∷ moves) h = absurd h
in_unit (Logged e ∷ moves) h = (h.0, in_unit moves h.1)

in_unit_to_end : (moves : List Move) → Inside moves → InOneUnit (moves ++ Closed ∷ [])
in_unit_to_end [] h = refl
in_unit_to_end (Silent ∷ moves) h = in_unit_to_end moves h
in_unit_to_end (Closed ∷ moves) h = absurd h
in_unit_to_end (Logged e ∷ moves) h = (h.0, in_unit_to_end moves h.1)

module _ {K : Types} (app : Application K) where
  pub moves_are_told : MovesAreTold app
  moves_are_told limits m v moves t h s is = told app limits m v moves t h s is

  pub unit_is_told : UnitIsTold app
  unit_is_told limits m u v first moves t is opening h unit leads inside s =
      ap (λ (o : Option (Telling K)). tell_log app o (entries moves)) (first_told app limits t m u first is opening h)
      ∙ rest_told app limits u v moves (record t { before = t.machine.state; first = first }) unit leads inside s

  idle_settled : (o : Option Fault) → moves_alone {K = K} o [] false ≡ false
  idle_settled None = refl
  idle_settled (Some fault) = refl

  -- a unit is accepted and told, by its moves
  of_unit : (limits : Limits) (m u v : Machine K) (first : Entry) (log : List Entry) (moves : List Move) (t : Telling K)
      → t.machine ≡ m
      → opens first ≡ true
      → Moves app limits m (Logged first) u
      → u.unit ≡ true
      → Leads app limits u moves v
      → InOneUnit moves
      → IsSettled v
      → log ≡ entries moves
      → (replay_within app limits (Some m) (first ∷ log) ≡ Some v) × (tell_log app (Some t) (first ∷ log) ≡ Some (unit_told app t first v))
  of_unit limits m u v first log moves t is opening h unit leads inside s same = (
    ap (λ (x : Machine K). replay_within app limits (Some x) (first ∷ log)) (sym (settled_stays app m h.settled))
        ∙ ap (λ (more : List Entry). replay_within app limits (Some (settled app m)) (first ∷ more)) same
        ∙ accepted_within app limits m v (Logged first ∷ moves) (u, h, leads) s,
    ap (λ (more : List Entry). tell_log app (Some t) (first ∷ more)) same ∙ unit_is_told limits m u v first moves t is opening h unit leads inside s,
  )

  -- where the unit has ended its edits are written
  ended_told : (t : Telling K) (m u : Machine K) (w : State K) (first : Entry) → t.machine ≡ m → u.dead ≡ None
      → unit_told app t first (ended_unit u w) ≡ with_unit t first (ended_unit u w) (caused app m.state (mounted_state w) first)
  ended_told t m u w first is alive =
      ap (λ (o : Option Fault). told_where app (record t { before = t.machine.state; first = first }) true (ended_unit u w) o) alive
      ∙ ap (λ (x : Machine K). with_unit t first (ended_unit u w) (caused app x.state (mounted_state w) first)) is

  pub unit_ends : UnitEnds app
  unit_ends limits m u w first log t is opening h work goes =
      let done : Machine K = busy u w [] in
      let end : Machine K = ended_unit u w in
      let closes : IsClosed done end = record { alive = work.alive; idle = refl; at_work = work.unit; gives = refl } in
      let moves : List Move = goes.moves in
      let unit = of_unit limits m u end first log (moves ++ Closed ∷ []) t is opening h work.unit
      (Leads-append app limits moves (Closed ∷ []) u done end goes.leads (end, closes, refl))
      (in_unit_to_end moves goes.inside)
      (idle_settled u.dead)
      (goes.logged ∙ sym (entries-append moves (Closed ∷ []) ∙ append-nil (entries moves))) in
      (unit.0, unit.1 ∙ ap Some (ended_told t m u w first is work.alive))

  -- of an open unit a make that is too deep comes first where the machine is refused
  open_refused : (limits : Limits) (v : Machine K) (fault : Fault) → v.dead ≡ None → v.unit ≡ true → IsSettled v → refusal limits v ≡ Some fault
      → depth_refused limits (next_height v) ≡ Some fault
  open_refused limits v fault alive unit s refused =
      let settled : moves_alone None v.work true ≡ false =
      ap (λ (b : Bool). moves_alone None v.work b) (sym unit) ∙ ap (λ (o : Option Fault). moves_alone o v.work v.unit) (sym alive) ∙ s in
      let busy_now : is_quiet v ≡ false = at_work_not_quiet (not (is_some v.dead)) (no_listener (waiting v)) v.work settled in
      let turns : turns_refused limits v ≡ None =
      ap (λ (b : Bool). one_too_many limits v.built b (nat_eq v.units limits.units) (owes v.state)) busy_now
      ∙ loud_goes_on limits v.built (nat_eq v.units limits.units) (owes v.state) in
      first_cause (depth_refused limits (next_height v)) fault
      (
      ap (λ (o : Option Fault). first_of (depth_refused limits (next_height v)) o) (sym turns)
      ∙ ap (λ (o : Option Fault). first_of o (first_of (depth_refused limits (next_height v)) (turns_refused limits v))) (sym alive)
      ∙ refused
      )
    where
      at_work_not_quiet : (alive heard : Bool) (work : List (Item K)) → moves_alone None work true ≡ false → alive && no_work work && heard ≡ false
      at_work_not_quiet alive heard [] h = cc
      at_work_not_quiet true heard (item ∷ rest) h = refl
      at_work_not_quiet false heard (item ∷ rest) h = refl

      first_cause : (o : Option Fault) (fault : Fault) → first_of o None ≡ Some fault → o ≡ Some fault
      first_cause None fault h = h
      first_cause (Some f) fault h = h

  -- the edits of a unit that was refused, by the fault that ended it or by none
  refused_told : (limits : Limits) (t : Telling K) (first : Entry) (v : Machine K) (o : Option Fault) → v.dead ≡ o
      → (v.dead ≡ None → (v.unit ≡ true) × ((fault : Fault) × (depth_refused limits (next_height v) ≡ Some fault)))
      → edits_at_refusal app limits (unit_told app t first v) ≡ t.edits ++ caused_until app t.machine.state v.state (refused_item v) first
  refused_told limits t first v (Some fault) is deep =
      subst
      (λ (z : Option Fault). edits_at_refusal app limits (unit_told app t first (record v { dead = z })) ≡ t.edits ++ caused_until app t.machine.state v.state (refused_item (record v { dead = z })) first)
      (sym is) refl
  refused_told limits t first v None is deep =
      let open_now = deep is in
      subst
      (λ (z : Option Fault). edits_at_refusal app limits (unit_told app t first (record v { dead = z })) ≡ t.edits ++ caused_until app t.machine.state v.state (refused_item (record v { dead = z })) first)
      (sym is)
      (
      subst
      (λ (b : Bool). edits_at_refusal app limits (unit_told app t first (record v { dead = None; unit = b })) ≡ t.edits ++ caused_until app t.machine.state v.state (first_item v.work) first)
      (sym open_now.0)
      (ap (λ (o : Option Fault). edits_at_depth app (record t { machine = record v { dead = None; unit = true }; before = t.machine.state; first = first }) o) open_now.1.1)
      )

  pub unit_stops : UnitStops app
  unit_stops limits m u v first log fault t is opening h unit goes s refused =
      let moves : List Move = goes.moves in
      let both = of_unit limits m u v first log moves t is opening h unit goes.leads (in_unit moves goes.inside) s goes.logged in
      let still_open : v.unit ≡ true = inside_unit app limits u v moves goes.leads goes.inside ∙ unit in
      let edits = refused_told limits t first v v.dead refl (λ alive. (still_open, (fault, open_refused limits v fault alive still_open s refused))) in
      (both.0, both.1, edits ∙ ap (λ (x : Machine K). t.edits ++ caused_until app x.state v.state (refused_item v) first) is)
