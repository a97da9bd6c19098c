-- An accepted log is the entries of moves.
use Rattle.std.proofs.Common.{ℕ, zero, suc, ◌+◌, ◌≤◌, Bool, true, false, List, [], ◌∷◌, ◌++◌, ◌≡◌, refl, sym, ap, ◌∙◌, subst, arith}
use Rattle.std.specs.Prelude.{Option, Some, None, if◌then◌else◌}
use Rattle.rt_model.specs.Tree.{Types}
use Rattle.rt_model.specs.World.{Elements, at_end, Application}
use Rattle.rt_model.specs.State.{Fault, IdsExhausted, State, Item, Draw, Row, Feed, Make, Drop, Outcome, Done, Cut}
use Rattle.rt_model.specs.Boundary.{boundary_step}
use Rattle.rt_model.specs.Replay.{Entry, Machine, ended_by, numbered, rows_left, mounted_state, settled, due, outcome_of, change_by, step, is_due, accepts}
use Rattle.rt_model.specs.Causes.{Limits, refusal, replay_within}
use Rattle.rt_model.proofs.OneLogOnly.{same_entry-true}
use Rattle.law_moves.specs.Moves.{Move, Silent, Closed, Logged, entries, is_silent, moves_alone, busy, IsSettled, IsSilent, IsClosed, IsLogged, Leads}
use Rattle.law_moves.specs.Laws.{LogsAreMoves}
use Rattle.law_moves.proofs.Weights.{falls}
use Rattle.law_moves.proofs.Fuel.{fuel_suffices}
use Rattle.law_moves.proofs.Settles.{silent_settles, closed_settles, settled_stays}
use Rattle.law_moves.proofs.Joins.{entries-append, Leads-append}

module _ {K : Types} (app : Application K) (limits : Limits) where
  -- moves that leave no entry lead from one machine to another
  pub record Silently (m v : Machine K) : Type 0 where
    pub moves : List Move
    pub leads : Leads app limits m moves v
    pub none : entries moves ≡ []

  -- a machine settles by such moves
  abbrev pub Settles : Machine K → Type 0
  Settles m = Silently m (settled app m)

  already : (m : Machine K) → IsSettled m → Settles m
  already m h = record { moves = []; leads = settled_stays app m h; none = refl }

  after_silent : (m u : Machine K) → IsSilent app m u → Settles u → Settles m
  after_silent m u h rest =
      record {
        moves = Silent ∷ rest.moves;
        leads = (u, h, subst (λ (x : Machine K). Leads app limits u rest.moves x) (sym (silent_settles app m u h)) rest.leads);
        none = rest.none;
      }

  after_closed : (m u : Machine K) → IsClosed m u → Settles u → Settles m
  after_closed m u h rest =
      record {
        moves = Closed ∷ rest.moves;
        leads = (u, h, subst (λ (x : Machine K). Leads app limits u rest.moves x) (sym (closed_settles app m u h)) rest.leads);
        none = rest.none;
      }

  -- where a fault ended the run nothing is left to settle
  unless_dead : (m : Machine K) (o : Option Fault) → m.dead ≡ o → (m.dead ≡ None → Settles m) → Settles m
  unless_dead m None e h = h e
  unless_dead m (Some fault) e h = already m (ap (λ (z : Option Fault). moves_alone z m.work m.unit) e)

  idle_settles : (m : Machine K) (unit : Bool) → m.dead ≡ None → m.work ≡ [] → m.unit ≡ unit → Settles m
  idle_settles m true alive idle at_work =
      let u : Machine K = record m { unit = false; state = mounted_state m.state } in
      let quiet : IsSettled u =
      ap (λ (o : Option Fault). moves_alone o m.work false) alive ∙ ap (λ (items : List (Item K)). moves_alone None items false) idle in
      after_closed m u (record { alive = alive; idle = idle; at_work = at_work; gives = refl }) (already u quiet)
  idle_settles m false alive idle at_rest =
      already m
      (ap (λ (o : Option Fault). moves_alone o m.work m.unit) alive ∙ ap (λ (items : List (Item K)). moves_alone None items m.unit) idle ∙ at_rest)

  -- after a number the rest settles, or nothing is left to settle
  drawn_or_cut : (m : Machine K) (item : Item K) (later : List (Item K)) (v : State K) (fault : Fault) (b : Bool) → Settles (busy m v later) → Settles (ended_by m (Some item) later (if b then Cut m.state fault else Done v []))
  drawn_or_cut m item later v fault true rest = already (record m { work = later; dead = Some fault; refused = Some item }) refl
  drawn_or_cut m item later v fault false rest = rest

  needs_entry : (m : Machine K) (item : Item K) (later : List (Item K)) → m.dead ≡ None → m.work ≡ item ∷ later → is_silent item ≡ false → Settles m
  needs_entry m item later alive next h =
      already m
      (ap (λ (o : Option Fault). moves_alone o m.work m.unit) alive ∙ ap (λ (items : List (Item K)). moves_alone None items m.unit) next ∙ h)

  -- by the open work, where all that counts for less settles
  work_settles : (work : List (Item K)) (m : Machine K) → ((u : Machine K) → rows_left u.work + 1 ≤ rows_left work → Settles u) → m.work ≡ work → Settles m
  work_settles [] m h next = unless_dead m m.dead refl (λ alive. idle_settles m m.unit alive next refl)
  work_settles (Draw s side p k ∷ later) m h next =
      unless_dead m m.dead refl
      (
      λ alive.
      let item : Item K = Draw s side p k in
      let v : State K = numbered m.state s side p k in
      let o : Outcome K = outcome_of app m.state item in
      let after : IsSilent app m (ended_by m (Some item) later o) =
      record { item = item; later = later; silent = refl; alive = alive; next = next; gives = refl } in
      after_silent m (ended_by m (Some item) later o) after
      (drawn_or_cut m item later v (IdsExhausted Elements) (at_end m.state.next.elements) (work_settles later (busy m v later) h refl))
      )
  work_settles (Row b step ∷ later) m h next =
      unless_dead m m.dead refl
      (
      λ alive.
      let item : Item K = Row b step in
      let u : Machine K = ended_by m (Some item) later (boundary_step app m.state b step) in
      let after : IsSilent app m u = record { item = item; later = later; silent = refl; alive = alive; next = next; gives = refl } in
      after_silent m u after (h u (falls app m b step later))
      )
  work_settles (Feed s side p c ∷ later) m h next =
      unless_dead m m.dead refl (λ alive. needs_entry m (Feed s side p c) later alive next refl)
  work_settles (Make s side p c ∷ later) m h next =
      unless_dead m m.dead refl (λ alive. needs_entry m (Make s side p c) later alive next refl)
  work_settles (Drop t s side ∷ later) m h next =
      unless_dead m m.dead refl (λ alive. needs_entry m (Drop t s side) later alive next refl)

  settles_by : (n : ℕ) (m : Machine K) → rows_left m.work ≤ n → Settles m
  settles_by zero m few = work_settles m.work m (λ u less. absurd (omega (arith, few, less))) refl
  settles_by (suc n) m few = work_settles m.work m (λ u less. settles_by n u (omega (arith, few, less))) refl

  -- each machine settles by silent moves
  pub settles : (m : Machine K) → Settles m
  settles m = settles_by (rows_left m.work) m (omega arith)

  -- the moves of a log
  record Unfolds (m : Machine K) (log : List Entry) (v : Machine K) : Type 0 where
    moves : List Move
    leads : Leads app limits m moves v
    same : entries moves ≡ log

  due_is : (o : Option Entry) (e : Entry) → is_due app o e ≡ true → o ≡ Some e
  due_is None e h = cc
  due_is (Some d) e h = ap Some (same_entry-true d e h)

  accepted_if : (b : Bool) (x v : Machine K) (log : List Entry) → replay_within app limits (if b then Some x else None) log ≡ Some v → (b ≡ true) × (replay_within app limits (Some x) log ≡ Some v)
  accepted_if true x v log h = (refl, h)
  accepted_if false x v log h = cc

  not_refused : (o : Option Fault) (x : Option (Machine K)) (v : Machine K) (log : List Entry)
      → replay_within app limits (elim o as (λ z. Option (Machine K)) [ None ↦ x | Some fault ↦ None ]) log ≡ Some v
      → (o ≡ None) × (replay_within app limits x log ≡ Some v)
  not_refused None x v log h = (refl, h)
  not_refused (Some fault) x v log h = cc

  unfolds : (log : List Entry) (m v : Machine K) → IsSettled m → replay_within app limits (Some m) log ≡ Some v → Unfolds m log v
  unfolds [] m v s h =
      let end : v ≡ m = cc in
      record { moves = []; leads = end; same = refl }
  unfolds (e ∷ log) m v s h =
      let within = not_refused (refusal limits m) (accepts app m e) v log h in
      let due_now = accepted_if (is_due app (due app m) e) (step app m e) v log within.1 in
      let u : Machine K = change_by app m m.work e in
      let w : Machine K = settled app u in
      let logged : IsLogged app limits m e u = record { settled = s; within = within.0; due_is = due_is (due app m) e due_now.0; gives = refl } in
      let silent : Settles u = settles u in
      let quiet : IsSettled w = (fuel_suffices app (rows_left u.work) (rows_left u.work) u (omega arith) (omega arith)).1 in
      let rest : Unfolds w log v = unfolds log w v quiet due_now.1 in
      record {
        moves = Logged e ∷ (silent.moves ++ rest.moves);
        leads = (u, logged, Leads-append app limits silent.moves rest.moves u w v silent.leads rest.leads);
        same = ap (λ (more : List Entry). e ∷ more)
            (entries-append silent.moves rest.moves ∙ ap (λ (more : List Entry). more ++ entries rest.moves) silent.none ∙ rest.same);
      }

module _ {K : Types} (app : Application K) where
  pub logs_are_moves : LogsAreMoves app
  logs_are_moves limits m v log s h =
      let found = unfolds app limits log m v s h in
      (found.moves, found.leads, found.same)
