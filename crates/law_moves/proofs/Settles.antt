-- A silent move changes nothing of where a machine settles.
use Rattle.std.proofs.Common.{ℕ, zero, suc, ◌+◌, Bool, true, false, List, [], ◌∷◌, ◌≡◌, refl, sym, ap, ◌∙◌, subst, arith}
use Rattle.std.specs.Prelude.{Option, Some, None, if◌then◌else◌}
use Rattle.rt_model.specs.Tree.{Types}
use Rattle.rt_model.specs.World.{Elements, at_end, Application}
use Rattle.rt_model.specs.State.{Fault, IdsExhausted, RowStep, State, Item, Draw, Row, Feed, Make, Drop, Done, Cut}
use Rattle.rt_model.specs.Boundary.{boundary_step}
use Rattle.rt_model.specs.Replay.{Machine, ended_by, numbered, drawn_on, draws, step_weight, rows_left, mounted_state, closed, served, settled, outcome_of}
use Rattle.law_moves.specs.Moves.{is_silent, moves_alone, IsSettled, IsSilent, IsClosed}
use Rattle.law_moves.proofs.Weights.{counts, falls}
use Rattle.law_moves.proofs.Fuel.{then_rows, same_fuel}

module _ {K : Types} where
  -- what holds of a machine whose fault and work are written out holds of it
  written_out : (P : Machine K → Type 0) (m : Machine K) (o : Option Fault) (work : List (Item K)) → m.dead ≡ o → m.work ≡ work → P (record m { dead = o; work = work }) → P m
  written_out P m o work fault next h =
      subst (λ (z : Option Fault). P (record m { dead = z })) (sym fault)
      (subst (λ (items : List (Item K)). P (record m { dead = o; work = items })) (sym next) h)

module _ {K : Types} (app : Application K) where
  rows_alive : (n : ℕ) (m : Machine K) → served app n (record m { dead = None }) ≡ then_rows app n (draws m.work (record m { dead = None }))
  rows_alive zero m = refl
  rows_alive (suc n) m = refl

  rows_dead : (n : ℕ) (m : Machine K) (fault : Fault) → then_rows app n (record m { dead = Some fault }) ≡ record m { dead = Some fault }
  rows_dead zero m fault = refl
  rows_dead (suc n) m fault = refl

  -- after a fault nothing is served
  served_after : (n : ℕ) (m : Machine K) (fault : Fault) → served app n (record m { dead = Some fault }) ≡ record m { dead = Some fault }
  served_after zero m fault = refl
  served_after (suc n) m fault = refl

  -- a number that is drawn, or was the last, by the test for the counter's end
  draw_settles : (m : Machine K) (item : Item K) (later : List (Item K)) (v : State K) (b : Bool)
      → closed (then_rows app (rows_left later) (drawn_on (λ u. draws later u) (record m { dead = None; work = item ∷ later }) item later (if b then Cut m.state (IdsExhausted Elements) else Done v [])))
      ≡ settled app (ended_by (record m { dead = None; work = item ∷ later }) (Some item) later (if b then Cut m.state (IdsExhausted Elements) else Done v []))
  draw_settles m item later v true =
      let n : ℕ = rows_left later in
      let x : Machine K = record m { work = later; refused = Some item } in
      ap (λ (u : Machine K). closed u) (rows_dead n x (IdsExhausted Elements) ∙ sym (served_after n x (IdsExhausted Elements)))
  draw_settles m item later v false = ap (λ (u : Machine K). closed u) (sym (rows_alive (rows_left later) (record m { state = v; work = later })))

  row_settles : (fuel : ℕ) (m : Machine K) (b : ℕ) (step : RowStep) (later : List (Item K)) → fuel ≡ step_weight step + rows_left later
      → closed (served app fuel (record m { dead = None; work = Row b step ∷ later }))
      ≡ settled app (ended_by (record m { dead = None; work = Row b step ∷ later }) (Some (Row b step)) later (boundary_step app m.state b step))
  row_settles zero m b step later e = let one = counts step in absurd (omega (arith, e, one))
  row_settles (suc n) m b step later e =
      let x : Machine K = record m { dead = None; work = Row b step ∷ later } in
      let u : Machine K = ended_by x (Some (Row b step)) later (boundary_step app m.state b step) in
      let less = falls app x b step later in
      ap (λ (y : Machine K). closed y) (same_fuel app n (rows_left u.work) u (omega (arith, e, less)) (omega arith))

  item_settles : (m : Machine K) (item : Item K) (later : List (Item K)) → is_silent item ≡ true
      → settled app (record m { dead = None; work = item ∷ later })
      ≡ settled app (ended_by (record m { dead = None; work = item ∷ later }) (Some item) later (outcome_of app m.state item))
  item_settles m (Draw s side p k) later h =
      let item : Item K = Draw s side p k in
      ap (λ (u : Machine K). closed u) (rows_alive (rows_left later) (record m { work = item ∷ later }))
      ∙ draw_settles m item later (numbered m.state s side p k) (at_end m.state.next.elements)
  item_settles m (Row b step) later h = row_settles (step_weight step + rows_left later) m b step later refl
  item_settles m (Feed s side p c) later h = cc
  item_settles m (Make s side p c) later h = cc
  item_settles m (Drop t s side) later h = cc

  -- a silent item
  pub silent_settles : (m u : Machine K) → IsSilent app m u → settled app m ≡ settled app u
  silent_settles m u h =
      written_out (λ (x : Machine K). settled app x ≡ settled app (ended_by x (Some h.item) h.later (outcome_of app x.state h.item))) m None (h.item ∷ h.later) h.alive h.next
      (item_settles m h.item h.later h.silent)
      ∙ ap (λ (x : Machine K). settled app x) (sym h.gives)

  -- the end of a unit
  pub closed_settles : (m u : Machine K) → IsClosed m u → settled app m ≡ settled app u
  closed_settles m u h =
      written_out (λ (x : Machine K). settled app x ≡ settled app (record x { unit = false; state = mounted_state x.state })) m None [] h.alive h.idle
      (
      subst (λ (b : Bool). settled app (record m { dead = None; work = []; unit = b }) ≡ settled app (record m { dead = None; work = []; unit = false; state = mounted_state m.state }))
      (sym h.at_work) refl
      )
      ∙ ap (λ (x : Machine K). settled app x) (sym h.gives)

  stays_where : (n : ℕ) (m : Machine K) (o : Option Fault) (work : List (Item K)) (unit : Bool) → moves_alone o work unit ≡ false
      → closed (served app n (record m { dead = o; work = work; unit = unit })) ≡ record m { dead = o; work = work; unit = unit }
  stays_where zero m (Some fault) work unit h = refl
  stays_where (suc n) m (Some fault) work unit h = refl
  stays_where n m None [] true h = cc
  stays_where zero m None [] false h = refl
  stays_where (suc n) m None [] false h = refl
  stays_where n m None (Draw s side p k ∷ rest) unit h = cc
  stays_where n m None (Row b step ∷ rest) unit h = cc
  stays_where zero m None (Feed s side p c ∷ rest) unit h = refl
  stays_where (suc n) m None (Feed s side p c ∷ rest) unit h = refl
  stays_where zero m None (Make s side p c ∷ rest) unit h = refl
  stays_where (suc n) m None (Make s side p c ∷ rest) unit h = refl
  stays_where zero m None (Drop t s side ∷ rest) unit h = refl
  stays_where (suc n) m None (Drop t s side ∷ rest) unit h = refl

  -- what is settled stays as it is
  pub settled_stays : (m : Machine K) → IsSettled m → settled app m ≡ m
  settled_stays m h = stays_where (rows_left m.work) m m.dead m.work m.unit h
