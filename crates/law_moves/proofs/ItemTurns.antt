-- One turn at an item of the open work.
use Rattle.std.proofs.Common.{ℕ, Bool, true, false, List, [], ◌∷◌, ◌++◌, ◌≡◌, refl, sym, ap, ◌∙◌, subst, nat_eq, append_assoc}
use Rattle.std.proofs.lemmas.List.{append-nil}
use Rattle.std.specs.Prelude.{Option, Some, None}
use Rattle.rt_model.specs.Tree.{Types}
use Rattle.rt_model.specs.World.{Application}
use Rattle.rt_model.specs.Laws.{IsLawful}
use Rattle.rt_model.specs.State.{SideName, Fault, State, Item, Draw, Row, Feed, Make, Drop, Outcome, Done, Cut, is_live}
use Rattle.rt_model.specs.Removal.{next_removed, removed}
use Rattle.rt_model.specs.Replay.{Entry, Removed, Input, Machine, ended_by, outcome_of, entry_of}
use Rattle.rt_model.specs.Document.{Edit}
use Rattle.rt_model.specs.Caused.{caused_until}
use Rattle.rt_model.specs.Causes.{Limits, first_item, depth_refused, height_at}
use Rattle.law_moves.specs.Moves.{Logged, busy, AtWork, IsLogged}
use Rattle.law_moves.specs.Words.{Served, Stopped, Goes, Stops}
use Rattle.law_moves.specs.Calls.{IsReady, left_of}
use Rattle.law_moves.specs.Reached.{Reached}
use Rattle.law_moves.specs.Units.{refused_item}
use Rattle.law_moves.proofs.Joins.{goes_one}
use Rattle.law_moves.proofs.Items.{is_end, due_at_work, item_did, too_deep, drop_logged}
use Rattle.law_moves.specs.Named.{Named}
use Rattle.law_moves.proofs.Everywhere.{reached_are_named}
use Rattle.law_moves.proofs.Served.{due_is_served}
use Rattle.law_moves.specs.Turn.{again, and_then, turn_of, entries_at}
use Rattle.law_moves.specs.Underway.{Works, Refused}
use Rattle.law_moves.proofs.Underway.{works_now, works_on, works_stop}
use Rattle.law_moves.proofs.Begins.{named_of as live_of}

-- a way down of no step, or of one
abbrev way_by : Bool → List ℕ
way_by true = []
way_by false = 0 ∷ []

way_end : (b : Bool) → b ≡ is_end (way_by b)
way_end true = refl
way_end false = refl

module _ {K : Types} where
  left_by : (b : Bool) (item : Item K) (work rest : List (Item K)) → work ++ left_of (way_by b) item rest ≡ (work ++ again b item) ++ rest
  left_by true item work rest = ap (λ (xs : List (Item K)). xs ++ rest) (sym (append-nil work))
  left_by false item work rest = sym (append_assoc work (item ∷ []) rest)

  -- the machine after a change that was done
  abbrev done_at : Machine K → List (Item K) → Outcome K → Machine K
  done_at m rest (Done w work) = busy m w (work ++ rest)
  done_at m rest (Cut w fault) = m

  -- the state after a change
  abbrev state_in : Outcome K → State K
  state_in (Done w work) = w
  state_in (Cut w fault) = w

  -- the fault of a change that was cut
  abbrev fault_in : Outcome K → Option Fault
  fault_in (Done w work) = None
  fault_in (Cut w fault) = Some fault

  drop_done : (m : Machine K) (b : Bool) (item : Item K) (rest : List (Item K)) (o : Outcome K) (v : State K) (work : List (Item K)) → and_then o (again b item) ≡ Done v work
      → ended_by m (Some item) (left_of (way_by b) item rest) o ≡ busy m v (work ++ rest)
  drop_done m b item rest (Done w items) v work h = ap (λ (xs : List (Item K)). busy m w xs) (left_by b item items rest) ∙ ap (λ (o : Outcome K). done_at m rest o) h
  drop_done m b item rest (Cut w fault) v work h = cc

  -- a drop that was cut
  abbrev cut_drop : Machine K → State K → Fault → Item K → List (Item K) → Machine K
  cut_drop m v fault item rest = record m { state = v; work = rest; dead = Some fault; refused = Some item }

  drop_cut : (m : Machine K) (more : List (Item K)) (item : Item K) (rest : List (Item K)) (o : Outcome K) (v : State K) (fault : Fault) → and_then o more ≡ Cut v fault
      → ended_by m (Some item) rest o ≡ cut_drop m v fault item rest
  drop_cut m more item rest (Done w items) v fault h = cc
  drop_cut m more item rest (Cut w other) v fault h =
      ap (λ (x : State K). record m { state = x; work = rest; dead = Some other; refused = Some item }) (ap state_in h)
      ∙ ap (λ (o : Option Fault). record m { state = v; work = rest; dead = o; refused = Some item }) (ap fault_in h)

  -- the item that is refused where no fault came yet
  first_refused : (m : Machine K) (item : Item K) (rest : List (Item K)) → AtWork m → m.work ≡ item ∷ rest → refused_item m ≡ Some item
  first_refused m item rest h next =
      ap (λ (o : Option Fault). elim o as (λ z. Option (Item K)) [ None ↦ first_item m.work | Some fault ↦ m.refused ]) h.alive
      ∙ ap (λ (items : List (Item K)). first_item items) next

module _ {K : Types} (app : Application K) (limits : Limits) where
  -- a machine that a cut change left, at this state, with the item that was refused
  record CutAt (v : State K) (item : Item K) (u : Machine K) : Type 0 where
    state : u.state ≡ v
    refused : refused_item u ≡ Some item

  item_served : (m : Machine K) (item : Item K) (rest : List (Item K)) (v : State K) (work : List (Item K))
      → AtWork m
      → m.work ≡ item ∷ rest
      → IsReady m.state item
      → depth_refused limits (height_at m.state (item ∷ [])) ≡ None
      → outcome_of app m.state item ≡ Done v work
      → Goes app limits m [] (entry_of app m.state item) (busy m v (work ++ rest))
  item_served m item rest v work h next ready room did =
      let done : State K → List (Item K) → Type 0 = λ w items. Done w items ≡ Done v work in
      let e = item_did app limits m [] (entry_of app m.state item) item rest done (λ u. Unit {0}) Served h next ready room refl (λ w f c. tt) (v, work, did, refl) in
      subst (λ (x : Machine K). Goes app limits m [] (entry_of app m.state item) x) (ap (λ (o : Outcome K). done_at m rest o) e.3) e.2

  item_cut : (m : Machine K) (item : Item K) (rest : List (Item K)) (v : State K) (fault : Fault)
      → AtWork m
      → m.work ≡ item ∷ rest
      → IsReady m.state item
      → depth_refused limits (height_at m.state (item ∷ [])) ≡ None
      → outcome_of app m.state item ≡ Cut v fault
      → Stops app limits m [] (entry_of app m.state item) (λ u. CutAt v item u) fault
  item_cut m item rest v fault h next ready room did =
      item_did app limits m [] (entry_of app m.state item) item rest (λ w items. Unit {0}) (λ u. CutAt v item u) (Stopped fault) h next ready room refl
      (λ w f c. record { state = ap state_in (sym c ∙ did); refused = refl })
      (v, did)

  -- of a drop one scope goes
  leaf_logged : (m : Machine K) (t s : ℕ) (side : SideName) (rest : List (Item K)) → AtWork m → m.work ≡ Drop t s side ∷ rest → is_live m.state (next_removed m.state t) ≡ true
      → IsLogged app limits m (Removed (next_removed m.state t)) (ended_by m (Some (Drop t s side)) (left_of (way_by (nat_eq (next_removed m.state t) t)) (Drop t s side) rest) (removed app m.state (next_removed m.state t)))
  leaf_logged m t s side rest h next live =
      let leaf : ℕ = next_removed m.state t in
      drop_logged app limits m leaf t s side rest (way_by (nat_eq leaf t)) h next refl live (way_end (nat_eq leaf t))

  drop_served : (m : Machine K) (t s : ℕ) (side : SideName) (rest : List (Item K)) (v : State K) (work : List (Item K)) → AtWork m → m.work ≡ Drop t s side ∷ rest → is_live m.state (next_removed m.state t) ≡ true
      → turn_of app m.state (Drop t s side) ≡ Done v work
      → Goes app limits m [] (entries_at app m.state (Drop t s side)) (busy m v (work ++ rest))
  drop_served m t s side rest v work h next live did =
      let leaf : ℕ = next_removed m.state t in
      let b : Bool = nat_eq leaf t in
      let item : Item K = Drop t s side in
      let moved : IsLogged app limits m (Removed leaf) (busy m v (work ++ rest)) =
      subst (λ (x : Machine K). IsLogged app limits m (Removed leaf) x) (drop_done m b item rest (removed app m.state leaf) v work did) (leaf_logged m t s side rest h next live) in
      goes_one app limits m (busy m v (work ++ rest)) (Logged (Removed leaf)) [] moved (refl, tt)

  drop_stops : (m : Machine K) (t s : ℕ) (side : SideName) (rest : List (Item K)) (v : State K) (fault : Fault) → AtWork m → m.work ≡ Drop t s side ∷ rest → is_live m.state (next_removed m.state t) ≡ true
      → turn_of app m.state (Drop t s side) ≡ Cut v fault
      → Stops app limits m [] (entries_at app m.state (Drop t s side)) (λ u. CutAt v (Drop t s side) u) fault
  drop_stops m t s side rest v fault h next live did =
      let leaf : ℕ = next_removed m.state t in
      let item : Item K = Drop t s side in
      let left : List (Item K) = left_of (way_by (nat_eq leaf t)) item rest in
      let u : Machine K = cut_drop m v fault item left in
      let moved : IsLogged app limits m (Removed leaf) u =
      subst (λ (x : Machine K). IsLogged app limits m (Removed leaf) x) (drop_cut m (again (nat_eq leaf t) item) item left (removed app m.state leaf) v fault did) (leaf_logged m t s side rest h next live) in
      record {
        machine = u;
        goes = goes_one app limits m u (Logged (Removed leaf)) [] moved (refl, tt);
        settled = refl;
        cause = refl;
        stopped = record { state = refl; refused = refl };
      }

module _ {K : Types} (app : Application K) (lawful : IsLawful K app) (limits : Limits) (props : K.Props) (inputs : List (Input K)) where
  leaf_live : (m : Machine K) (t s : ℕ) (side : SideName) (rest : List (Item K)) → Reached app limits props inputs m → AtWork m → m.work ≡ Drop t s side ∷ rest → is_live m.state (next_removed m.state t) ≡ true
  leaf_live m t s side rest reached h next =
      let item : Item K = Drop t s side in
      let leaf : ℕ = next_removed m.state t in
      let served = due_is_served app lawful limits props inputs m item rest reached h.alive next refl in
      live_of (is_live m.state leaf) (Removed leaf) served.0 (sym (due_at_work app m (item ∷ rest) h next) ∙ served.1)

  turn_goes : (m : Machine K) (item : Item K) (rest : List (Item K)) (v : State K) (work : List (Item K))
      → Reached app limits props inputs m
      → AtWork m
      → m.work ≡ item ∷ rest
      → Named m.state item
      → depth_refused limits (height_at m.state (item ∷ [])) ≡ None
      → turn_of app m.state item ≡ Done v work
      → Goes app limits m [] (entries_at app m.state item) (busy m v (work ++ rest))
  turn_goes m (Draw s side p k) rest v work reached h next named room did = item_served app limits m (Draw s side p k) rest v work h next tt room did
  turn_goes m (Row b step) rest v work reached h next named room did = item_served app limits m (Row b step) rest v work h next tt room did
  turn_goes m (Feed s side p c) rest v work reached h next named room did = item_served app limits m (Feed s side p c) rest v work h next named.1 room did
  turn_goes m (Make s side p c) rest v work reached h next named room did = item_served app limits m (Make s side p c) rest v work h next named room did
  turn_goes m (Drop t s side) rest v work reached h next named room did = drop_served app limits m t s side rest v work h next (leaf_live m t s side rest reached h next) did

  turn_stops : (m : Machine K) (item : Item K) (rest : List (Item K)) (v : State K) (fault : Fault)
      → Reached app limits props inputs m
      → AtWork m
      → m.work ≡ item ∷ rest
      → Named m.state item
      → depth_refused limits (height_at m.state (item ∷ [])) ≡ None
      → turn_of app m.state item ≡ Cut v fault
      → Stops app limits m [] (entries_at app m.state item) (λ u. CutAt app limits v item u) fault
  turn_stops m (Draw s side p k) rest v fault reached h next named room did = item_cut app limits m (Draw s side p k) rest v fault h next tt room did
  turn_stops m (Row b step) rest v fault reached h next named room did = item_cut app limits m (Row b step) rest v fault h next tt room did
  turn_stops m (Feed s side p c) rest v fault reached h next named room did = item_cut app limits m (Feed s side p c) rest v fault h next named.1 room did
  turn_stops m (Make s side p c) rest v fault reached h next named room did = item_cut app limits m (Make s side p c) rest v fault h next named room did
  turn_stops m (Drop t s side) rest v fault reached h next named room did = drop_stops app limits m t s side rest v fault h next (leaf_live m t s side rest reached h next) did

  -- an item is served
  pub works_turn : (from m : Machine K) (log : List Entry) (edits : List Edit) (w : State K) (first : Entry) (item : Item K) (rest : List (Item K)) (v : State K) (work : List (Item K))
      → Works app limits props inputs from log edits w first m
      → m.work ≡ item ∷ rest
      → depth_refused limits (height_at m.state (item ∷ [])) ≡ None
      → turn_of app m.state item ≡ Done v work
      → Works app limits props inputs from (log ++ entries_at app m.state item) edits w first (busy m v (work ++ rest))
  works_turn from m log edits w first item rest v work s next room did =
      let h : AtWork m = works_now app limits props inputs from m log edits w first s in
      let named : Named m.state item = reached_are_named app lawful limits props inputs m item rest s.reached h.alive next in
      works_on app limits props inputs from m log (entries_at app m.state item) edits w first v (work ++ rest) s (turn_goes m item rest v work s.reached h next named room did)

  -- an item's change is cut
  pub works_cut : (from m : Machine K) (log : List Entry) (edits : List Edit) (w : State K) (first : Entry) (item : Item K) (rest : List (Item K)) (v : State K) (fault : Fault)
      → Works app limits props inputs from log edits w first m
      → m.work ≡ item ∷ rest
      → depth_refused limits (height_at m.state (item ∷ [])) ≡ None
      → turn_of app m.state item ≡ Cut v fault
      → Refused app limits props inputs from (log ++ entries_at app m.state item) (edits ++ caused_until app w v (Some item) first) fault
  works_cut from m log edits w first item rest v fault s next room did =
      let h : AtWork m = works_now app limits props inputs from m log edits w first s in
      let named : Named m.state item = reached_are_named app lawful limits props inputs m item rest s.reached h.alive next in
      let es : List Entry = entries_at app m.state item in
      let stop = turn_stops m item rest v fault s.reached h next named room did in
      let u : Machine K = stop.machine in
      let refused : Refused app limits props inputs from (log ++ es) (edits ++ caused_until app w u.state (refused_item u) first) fault =
      works_stop app limits props inputs from m u log es edits w first fault s stop.goes stop.settled stop.cause in
      subst (λ (x : State K). Refused app limits props inputs from (log ++ es) (edits ++ caused_until app w x (Some item) first) fault) stop.stopped.state
      (subst (λ (o : Option (Item K)). Refused app limits props inputs from (log ++ es) (edits ++ caused_until app w u.state o first) fault) stop.stopped.refused refused)

  -- a make is too deep
  pub works_deep : (from m : Machine K) (log : List Entry) (edits : List Edit) (w : State K) (first : Entry) (item : Item K) (rest : List (Item K)) (fault : Fault)
      → Works app limits props inputs from log edits w first m
      → m.work ≡ item ∷ rest
      → depth_refused limits (height_at m.state (item ∷ [])) ≡ Some fault
      → Refused app limits props inputs from log (edits ++ caused_until app w m.state (Some item) first) fault
  works_deep from m log edits w first item rest fault s next deep =
      let h : AtWork m = works_now app limits props inputs from m log edits w first s in
      let stop = too_deep app limits m [] item rest fault (λ u. u ≡ m) h next deep refl in
      let u : Machine K = stop.machine in
      let refused : Refused app limits props inputs from (log ++ []) (edits ++ caused_until app w u.state (refused_item u) first) fault =
      works_stop app limits props inputs from m u log [] edits w first fault s stop.goes stop.settled stop.cause in
      let here : Refused app limits props inputs from (log ++ []) (edits ++ caused_until app w m.state (refused_item m) first) fault =
      subst (λ (x : Machine K). Refused app limits props inputs from (log ++ []) (edits ++ caused_until app w x.state (refused_item x) first) fault) stop.stopped refused in
      subst (λ (l : List Entry). Refused app limits props inputs from l (edits ++ caused_until app w m.state (Some item) first) fault) (append-nil log)
      (subst (λ (o : Option (Item K)). Refused app limits props inputs from (log ++ []) (edits ++ caused_until app w m.state o first) fault) (first_refused m item rest h next) here)
