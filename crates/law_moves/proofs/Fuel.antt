-- As many steps as the open work's rows suffice to serve all that is silent.
use Rattle.std.proofs.Common.{ℕ, zero, suc, ◌+◌, ◌≤◌, Bool, true, false, List, [], ◌∷◌, ◌≡◌, refl, sym, ap, ◌∙◌, arith}
use Rattle.std.specs.Prelude.{Option, Some, None, if◌then◌else◌}
use Rattle.rt_model.specs.Tree.{Types}
use Rattle.rt_model.specs.World.{Elements, at_end, Application}
use Rattle.rt_model.specs.State.{Fault, IdsExhausted, State, Item, Draw, Row, Feed, Make, Drop, Done, Cut}
use Rattle.rt_model.specs.Boundary.{boundary_step}
use Rattle.rt_model.specs.Replay.{Machine, ended_by, numbered, drawn_on, draws, rows_left, closed_at, closed, row_first, row_next, served}
use Rattle.law_moves.specs.Moves.{busy, moves_alone, IsSettled}
use Rattle.law_moves.specs.Laws.{FuelSuffices}
use Rattle.law_moves.proofs.Weights.{counts, falls}

module _ {K : Types} where
  -- a machine, or another one where a fault ended the run
  abbrev pub if_alive : Option Fault → Machine K → Machine K → Machine K
  if_alive o m other = elim o as (λ z. Machine K) [ None ↦ m | Some fault ↦ other ]

  pub alive_alike : (o : Option Fault) (m u other : Machine K) → (o ≡ None → m ≡ u) → if_alive o m other ≡ if_alive o u other
  alive_alike None m u other h = h refl
  alive_alike (Some fault) m u other h = refl

  pub alive_is : (o : Option Fault) (m other : Machine K) → (o ≡ None → m ≡ other) → if_alive o m other ≡ other
  alive_is None m other h = h refl
  alive_is (Some fault) m other h = refl

  -- the first item is a number
  abbrev draws_first : Option Fault → List (Item K) → Bool
  draws_first (Some fault) work = false
  draws_first None [] = false
  draws_first None (Draw s side p k ∷ rest) = true
  draws_first None (Row b step ∷ rest) = false
  draws_first None (Feed s side p c ∷ rest) = false
  draws_first None (Make s side p c ∷ rest) = false
  draws_first None (Drop t s side ∷ rest) = false

  -- no silent item comes first
  abbrev IsServed : Machine K → Type 0
  IsServed m = moves_alone m.dead m.work false ≡ false

  -- after draws: no number comes first, and no step came
  abbrev pub Drew : List (Item K) → Machine K → Type 0
  Drew work m = (draws_first m.dead m.work ≡ false) × (rows_left m.work ≤ rows_left work)

  drew_none : (m : Machine K) (work : List (Item K)) → m.work ≡ work → draws_first None work ≡ false → draws_first m.dead work ≡ false
  drew_none m work next h = at_fault m.dead work h
    where
      at_fault : (o : Option Fault) (work : List (Item K)) → draws_first None work ≡ false → draws_first o work ≡ false
      at_fault None work h = h
      at_fault (Some fault) work h = refl

  drew_on : (m : Machine K) (item : Item K) (rest : List (Item K)) (next : State K) (b : Bool) → Drew rest (draws rest (busy m next rest))
      → Drew rest (drawn_on (λ u. draws rest u) m item rest (if b then Cut m.state (IdsExhausted Elements) else Done next []))
  drew_on m item rest next true h = (refl, omega arith)
  drew_on m item rest next false h = h

  pub drew : (work : List (Item K)) (m : Machine K) → Drew work (draws work m)
  drew [] m = (drew_none (record m { work = [] }) [] refl refl, omega arith)
  drew (Draw s side p k ∷ rest) m =
      let next : State K = numbered m.state s side p k in
      drew_on m (Draw s side p k) rest next (at_end m.state.next.elements) (drew rest (busy m next rest))
  drew (Row b step ∷ rest) m = (drew_none (record m { work = Row b step ∷ rest }) (Row b step ∷ rest) refl refl, omega arith)
  drew (Feed s side p c ∷ rest) m = (drew_none (record m { work = Feed s side p c ∷ rest }) (Feed s side p c ∷ rest) refl refl, omega arith)
  drew (Make s side p c ∷ rest) m = (drew_none (record m { work = Make s side p c ∷ rest }) (Make s side p c ∷ rest) refl refl, omega arith)
  drew (Drop t s side ∷ rest) m = (drew_none (record m { work = Drop t s side ∷ rest }) (Drop t s side ∷ rest) refl refl, omega arith)

  served_none : (o : Option Fault) (work : List (Item K)) → draws_first o work ≡ false → rows_left work ≤ 0 → moves_alone o work false ≡ false
  served_none (Some fault) work h none = refl
  served_none None [] h none = refl
  served_none None (Draw s side p k ∷ rest) h none = cc
  served_none None (Row b step ∷ rest) h none = let one = counts step in absurd (omega (arith, none, one))
  served_none None (Feed s side p c ∷ rest) h none = refl
  served_none None (Make s side p c ∷ rest) h none = refl
  served_none None (Drop t s side ∷ rest) h none = refl

  served_where : (m : Machine K) (work : List (Item K)) → m.work ≡ work → moves_alone None work false ≡ false → IsServed m
  served_where m work next h = at_fault m.dead (ap (λ (items : List (Item K)). moves_alone None items false) next ∙ h)
    where
      at_fault : (o : Option Fault) → moves_alone None m.work false ≡ false → moves_alone o m.work false ≡ false
      at_fault None h = h
      at_fault (Some fault) h = refl

  served_dead : (m : Machine K) (fault : Fault) → m.dead ≡ Some fault → IsServed m
  served_dead m fault e = ap (λ (o : Option Fault). moves_alone o m.work false) e

  served_if_alive : (o : Option Fault) (m other : Machine K) → (o ≡ None → IsServed m) → ((fault : Fault) → o ≡ Some fault → IsServed other) → IsServed (if_alive o m other)
  served_if_alive None m other h g = h refl
  served_if_alive (Some fault) m other h g = g fault refl

  settled_where : (o : Option Fault) (work items : List (Item K)) (unit : Bool) → work ≡ items → moves_alone None items unit ≡ false → moves_alone o work unit ≡ false
  settled_where None work items unit next h = ap (λ (xs : List (Item K)). moves_alone None xs unit) next ∙ h
  settled_where (Some fault) work items unit next h = refl

  closing : (m : Machine K) (work : List (Item K)) (unit : Bool) → m.work ≡ work → m.unit ≡ unit → moves_alone None work false ≡ false → IsSettled (closed_at m work unit)
  closing m [] true next at_work h = settled_where m.dead m.work [] false next refl
  closing m [] false next at_work h = settled_where m.dead m.work [] m.unit next at_work
  closing m (item ∷ rest) unit next at_work h = settled_where m.dead m.work (item ∷ rest) m.unit next h

  closing_if_alive : (m : Machine K) (o : Option Fault) → m.dead ≡ o → moves_alone o m.work false ≡ false → IsSettled (if_alive o (closed_at m m.work m.unit) m)
  closing_if_alive m None e h = closing m m.work m.unit refl refl h
  closing_if_alive m (Some fault) e h = ap (λ (o : Option Fault). moves_alone o m.work m.unit) e

  -- what is served is settled once it is closed
  closes : (m : Machine K) → IsServed m → IsSettled (closed m)
  closes m h = closing_if_alive m m.dead refl h

module _ {K : Types} (app : Application K) where
  first_alike : (go hop : Machine K → Machine K) (m : Machine K) (work : List (Item K)) → ((u : Machine K) → rows_left u.work + 1 ≤ rows_left work → go u ≡ hop u) → row_first app go m work ≡ row_first app hop m work
  first_alike go hop m [] h = refl
  first_alike go hop m (Draw s side p k ∷ rest) h = refl
  first_alike go hop m (Row b step ∷ rest) h = h (ended_by m (Some (Row b step)) rest (boundary_step app m.state b step)) (falls app m b step rest)
  first_alike go hop m (Feed s side p c ∷ rest) h = refl
  first_alike go hop m (Make s side p c ∷ rest) h = refl
  first_alike go hop m (Drop t s side ∷ rest) h = refl

  next_alike : (go hop : Machine K → Machine K) (m : Machine K) → ((u : Machine K) → rows_left u.work + 1 ≤ rows_left m.work → go u ≡ hop u) → row_next app go m ≡ row_next app hop m
  next_alike go hop m h = alive_alike m.dead (row_first app go m m.work) (row_first app hop m m.work) m (λ e. first_alike go hop m m.work h)

  first_none : (go : Machine K → Machine K) (m : Machine K) (work : List (Item K)) → rows_left work ≤ 0 → row_first app go m work ≡ m
  first_none go m [] none = refl
  first_none go m (Draw s side p k ∷ rest) none = refl
  first_none go m (Row b step ∷ rest) none = let one = counts step in absurd (omega (arith, none, one))
  first_none go m (Feed s side p c ∷ rest) none = refl
  first_none go m (Make s side p c ∷ rest) none = refl
  first_none go m (Drop t s side ∷ rest) none = refl

  next_none : (go : Machine K → Machine K) (m : Machine K) → rows_left m.work ≤ 0 → row_next app go m ≡ m
  next_none go m none = alive_is m.dead (row_first app go m m.work) m (λ e. first_none go m m.work none)

  -- the steps of boundaries' runs once the numbers in front are drawn, at most n of them
  abbrev pub then_rows : ℕ → Machine K → Machine K
  then_rows zero m = m
  then_rows (suc n) m = row_next app (λ u. served app n u) m

  served_is : (n : ℕ) (m : Machine K) → served app n m ≡ if_alive m.dead (then_rows n (draws m.work m)) m
  served_is zero m = refl
  served_is (suc n) m = refl

  same_served : (n k : ℕ) (m : Machine K) → (rows_left (draws m.work m).work ≤ n → rows_left (draws m.work m).work ≤ k → then_rows n (draws m.work m) ≡ then_rows k (draws m.work m))
      → rows_left m.work ≤ n
      → rows_left m.work ≤ k
      → served app n m ≡ served app k m
  same_served n k m h a b =
      let few = (drew m.work m).1 in
      served_is n m
      ∙ alive_alike m.dead (then_rows n (draws m.work m)) (then_rows k (draws m.work m)) m (λ e. h (omega (arith, a, few)) (omega (arith, b, few)))
      ∙ sym (served_is k m)

  -- more steps than there are rows change nothing
  pub same_fuel : (n k : ℕ) (m : Machine K) → rows_left m.work ≤ n → rows_left m.work ≤ k → served app n m ≡ served app k m
  same_fuel zero zero m a b = refl
  same_fuel zero (suc k) m a b = same_served zero (suc k) m (λ c d. sym (next_none (λ u. served app k u) (draws m.work m) c)) a b
  same_fuel (suc n) zero m a b = same_served (suc n) zero m (λ c d. next_none (λ u. served app n u) (draws m.work m) d) a b
  same_fuel (suc n) (suc k) m a b =
      same_served (suc n) (suc k) m
      (
      λ c d.
      next_alike (λ u. served app n u) (λ u. served app k u) (draws m.work m)
      (λ u less. same_fuel n k u (omega (arith, c, less)) (omega (arith, d, less)))
      ) a b

  first_served : (go : Machine K → Machine K) (m : Machine K) (work : List (Item K)) → m.work ≡ work → draws_first None work ≡ false
      → ((u : Machine K) → rows_left u.work + 1 ≤ rows_left work → IsServed (go u))
      → IsServed (row_first app go m work)
  first_served go m [] next d h = served_where m [] next refl
  first_served go m (Draw s side p k ∷ rest) next d h = cc
  first_served go m (Row b step ∷ rest) next d h = h (ended_by m (Some (Row b step)) rest (boundary_step app m.state b step)) (falls app m b step rest)
  first_served go m (Feed s side p c ∷ rest) next d h = served_where m (Feed s side p c ∷ rest) next refl
  first_served go m (Make s side p c ∷ rest) next d h = served_where m (Make s side p c ∷ rest) next refl
  first_served go m (Drop t s side ∷ rest) next d h = served_where m (Drop t s side ∷ rest) next refl

  next_served : (go : Machine K → Machine K) (m : Machine K) → draws_first m.dead m.work ≡ false → ((u : Machine K) → rows_left u.work + 1 ≤ rows_left m.work → IsServed (go u)) → IsServed (row_next app go m)
  next_served go m d h =
      served_if_alive m.dead (row_first app go m m.work) m
      (λ e. first_served go m m.work refl (sym (ap (λ (o : Option Fault). draws_first o m.work) e) ∙ d) h)
      (λ fault e. served_dead m fault e)

  -- with as many steps as there are rows no silent item is left in front
  all_served : (n : ℕ) (m : Machine K) → rows_left m.work ≤ n → IsServed (served app n m)
  all_served zero m a =
      let x : Machine K = draws m.work m in
      let after = drew m.work m in
      let few = after.1 in
      served_if_alive m.dead x m (λ e. served_none x.dead x.work after.0 (omega (arith, a, few))) (λ fault e. served_dead m fault e)
  all_served (suc n) m a =
      let x : Machine K = draws m.work m in
      let after = drew m.work m in
      let few = after.1 in
      served_if_alive m.dead (row_next app (λ u. served app n u) x) m
      (λ e. next_served (λ u. served app n u) x after.0 (λ u less. all_served n u (omega (arith, a, few, less))))
      (λ fault e. served_dead m fault e)

  -- the fuel of a replay suffices
  pub fuel_suffices : FuelSuffices app
  fuel_suffices n k m a b = (same_fuel n k m a b, closes (served app n m) (all_served n m a))
