-- An entry in which a fault ends the run: the edits that it adds carry what may come.
use Rattle.std.proofs.Common.{ℕ, ◌+◌, Bool, true, false, ◌||◌, not, List, [], ◌∷◌, ◌++◌, ◌≡◌, inl, inr, refl, sym, ap, ◌∙◌, subst}
use Rattle.std.specs.Prelude.{Option, Some, None, if◌then◌else◌}
use Rattle.rt_model.specs.Tree.{Types}
use Rattle.rt_model.specs.World.{Application, CallFault, Event, Meaning}
use Rattle.rt_model.specs.Laws.{IsLawful}
use Rattle.rt_model.specs.State.{Fault, State, Item, world_of}
use Rattle.rt_model.specs.Commands.{commands}
use Rattle.rt_model.specs.Run.{with_next, fault_of, called_once}
use Rattle.rt_model.specs.Replay.{Entry, Build, Taken, Heard, Rerun, Poll, Effects, Made, Fed, Kept, Removed, Input, EventAt, WakeOf, WriteOf, MarkOf, Drain, Machine, rested, is_due, due, waiting, looked_where_quiet, then_looked, taken_in, take_next, further, heard_event, heard_first, change_by, step}
use Rattle.rt_model.specs.Document.{Edit}
use Rattle.rt_model.specs.Heard.{Listener}
use Rattle.rt_model.specs.Caused.{caused_until}
use Rattle.rt_model.specs.Causes.{Limits, refusal, replay_within}
use Rattle.rt_model.specs.Told.{Telling, opens, opened, closed_unit, told_entry}
use Rattle.rt_model.specs.Sentences.{all_carried, AllMayCome}
use Rattle.rt_model.proofs.FaultsOnce.{open_gate}
use Rattle.rt_model.proofs.Maps.{by_test}
use Rattle.law_moves.specs.Moves.{Logged, serves_item, AtWork, IsLogged}
use Rattle.law_moves.specs.Reached.{Reached}
use Rattle.law_moves.proofs.Logs.{logs_are_moves}
use Rattle.law_moves.proofs.Tellings.{told_where, told_machine}
use Rattle.law_headline.proofs.Begins.{idle_settled, work_open, matches_serves, reached_on, idle, matches_entry, entry_aside}
use Rattle.law_headline.proofs.Rests.{Begins, begins, no_moves}
use Rattle.law_headline.proofs.Open.{serves_opens_none, OpenUnit, in_work}
use Rattle.law_headline.proofs.Cut.{by_rerun}
use Rattle.law_headline.proofs.Dying.{not_some, dead_stays, rerun_come, open_dies}
use Rattle.law_headline.proofs.EntriesCarry.{Between, within, told_due}

module _ {K : Types} where
  looked_dead : (m : Machine K) (ls : List (Listener K)) → (looked_where_quiet m ls).dead ≡ m.dead
  looked_dead m [] = refl
  looked_dead m (l ∷ ls) = refl

  taken_dead : (m : Machine K) (input : Input K) → (taken_in m input).dead ≡ m.dead
  taken_dead m (EventAt name payload element bubbles) = refl
  taken_dead m (WakeOf t) = refl
  taken_dead m (WriteOf n v) = refl
  taken_dead m (MarkOf s) = refl
  taken_dead m (Drain messages) = refl

  next_dead : (m : Machine K) (inputs : List (Input K)) → (take_next m inputs).dead ≡ m.dead
  next_dead m [] = refl
  next_dead m (input ∷ rest) =
      let x : Machine K = record m { inputs = rest; taken = m.taken + 1; units = 0; default_enabled = true; listeners = [] } in
      looked_dead (taken_in x input) (waiting (taken_in x input)) ∙ taken_dead x input

module _ {K : Types} (app : Application K) where
  -- the machine after a listener's call without a fault
  abbrev after_call : Machine K → Listener K → List (Listener K) → Meaning K (Event K) → Machine K
  after_call m l ls meaning =
      record m {
        state = commands app (with_next m.state meaning.next) l.origin None meaning.commands;
        event = Some meaning.answer;
        default_enabled = not meaning.answer.prevented;
        listeners = further app m meaning.answer ls;
      }

  -- the machine after a listener's call, by its fault
  abbrev heard_where : Machine K → Listener K → List (Listener K) → Meaning K (Event K) → Option CallFault → Machine K
  heard_where m l ls meaning o =
      elim o as (λ z. Machine K) [
        | None ↦ then_looked (after_call m l ls meaning)
        | Some f ↦ record m { state = with_next m.state meaning.next; listeners = ls; dead = Some (fault_of f); refused = None }
      ]

  -- where a listener's call or an input ends the run no item was refused
  heard_refuses : (m : Machine K) (l : Listener K) (ls : List (Listener K)) (meaning : Meaning K (Event K)) (o : Option CallFault) (fault : Fault) → m.dead ≡ None → (heard_where m l ls meaning o).dead ≡ Some fault
      → (heard_where m l ls meaning o).refused ≡ None
  heard_refuses m l ls meaning (Some f) fault alive dead = refl
  heard_refuses m l ls meaning None fault alive dead =
      let x : Machine K = after_call m l ls meaning in
      not_some fault (sym (looked_dead x (waiting x) ∙ alive) ∙ dead)

  event_refuses : (m : Machine K) (l : Listener K) (ls : List (Listener K)) (o : Option (Event K)) (fault : Fault) → m.dead ≡ None → (heard_event app m l ls o).dead ≡ Some fault → (heard_event app m l ls o).refused ≡ None
  event_refuses m l ls None fault alive dead = not_some fault (sym alive ∙ dead)
  event_refuses m l ls (Some event) fault alive dead =
      let x : Machine K = record m { state = called_once m.state } in
      let meaning : Meaning K (Event K) = app.handle l.handler event (world_of m.state l.origin None false) in
      heard_refuses x l ls meaning meaning.fault fault alive dead

  first_refuses : (m : Machine K) (ls : List (Listener K)) (fault : Fault) → m.dead ≡ None → (heard_first app m ls).dead ≡ Some fault → (heard_first app m ls).refused ≡ None
  first_refuses m [] fault alive dead = not_some fault (sym alive ∙ dead)
  first_refuses m (l ∷ ls) fault alive dead = event_refuses m l ls m.event fault alive dead

  aside_refuses : (m : Machine K) (e : Entry) (fault : Fault) → opens e ≡ false → m.dead ≡ None → (change_by app m [] e).dead ≡ Some fault → (change_by app m [] e).refused ≡ None
  aside_refuses m Build fault aside alive dead = cc
  aside_refuses m (Rerun s) fault aside alive dead = cc
  aside_refuses m (Poll t) fault aside alive dead = cc
  aside_refuses m (Effects s) fault aside alive dead = cc
  aside_refuses m (Taken k) fault aside alive dead = not_some fault (sym (next_dead (rested app m) (rested app m).inputs ∙ alive) ∙ dead)
  aside_refuses m (Heard s) fault aside alive dead = first_refuses m (waiting m) fault alive dead
  aside_refuses m (Made s) fault aside alive dead = not_some fault (sym alive ∙ dead)
  aside_refuses m (Fed s) fault aside alive dead = not_some fault (sym alive ∙ dead)
  aside_refuses m (Kept s) fault aside alive dead = not_some fault (sym alive ∙ dead)
  aside_refuses m (Removed s) fault aside alive dead = not_some fault (sym alive ∙ dead)

module _ {K : Types} (app : Application K) (lawful : IsLawful K app) (props : K.Props) (inputs : List (Input K)) (limits : Limits) where
  -- a fault ended the run in an entry, which adds these edits
  pub record Faulted (before : List Edit) (t u : Telling K) : Type 0 where
    pub edits : List Edit
    pub grown : u.edits ≡ t.edits ++ edits
    pub come : AllMayCome (all_carried (before ++ t.edits)) u.before edits

  faulted_by : (before : List Edit) (t u x : Telling K) (v : Machine K) → x.edits ≡ t.edits
      → u ≡ record x { machine = v; edits = x.edits ++ caused_until app x.before v.state v.refused x.first }
      → AllMayCome (all_carried (before ++ t.edits)) x.before (caused_until app x.before v.state v.refused x.first)
      → Faulted before t u
  faulted_by before t u x v edits same come =
      let more : List Edit = caused_until app x.before v.state v.refused x.first in
      record {
        edits = more;
        grown = ap (λ (y : Telling K). y.edits) same ∙ ap (λ (es : List Edit). es ++ more) edits;
        come = subst (λ (w : State K). AllMayCome (all_carried (before ++ t.edits)) w more) (sym (ap (λ (y : Telling K). y.before) same)) come;
      }

  module _ (before : List Edit) (t u : Telling K) (e : Entry) (so : Between app lawful props inputs limits before t) (none_refused : refusal limits t.machine ≡ None)
      (due_now : is_due app (due app t.machine) e ≡ true) (fault : Fault) (dead : (step app t.machine e).dead ≡ Some fault)
      (same : u ≡ closed_unit app (opened t e) (opens e || t.machine.unit) (step app t.machine e)) where
    abbrev m : Machine K
    m = t.machine

    abbrev v : Machine K
    v = step app t.machine e

    abbrev anew : Telling K
    anew = record t { before = t.machine.state; first = e }

    abbrev xs : List ℕ
    xs = all_carried (before ++ t.edits)

    b : Begins app limits m v e
    b =
        let found = logs_are_moves app limits m v (e ∷ []) so.settled (within app lawful props inputs limits before t u e so none_refused due_now) in
        begins app limits m v found.0 e so.settled found.1 found.2

    abbrev with_until : Telling K → Telling K
    with_until x = record x { machine = v; edits = x.edits ++ caused_until app x.before v.state v.refused x.first }

    told_as : (q : Bool) → opens e ≡ q → u ≡ with_until (if q then anew else t)
    told_as q is =
        same
        ∙ ap (λ (x : Option Fault). told_where app (opened t e) (opens e || m.unit) v x) dead
        ∙ ap (λ (x : Bool). with_until (if x then anew else t)) is

    -- the entry begins a unit
    opening : opens e ≡ true → m.unit ≡ false → Faulted before t u
    opening q rest =
        faulted_by before t u anew v refl (told_as true q)
        (by_rerun app xs m.state v.state e v.refused
        (
        λ s is.
        let logged : IsLogged app limits m (Rerun s) b.middle = subst (λ (d : Entry). IsLogged app limits m d b.middle) is b.logged in
        rerun_come app lawful props inputs limits m s so.reached so.alive rest logged.due_is b.middle v b.rest fault xs logged b.leads b.none dead so.low
        ))

    -- no unit is open, and none begins
    aside : opens e ≡ false → m.unit ≡ false → Faulted before t u
    aside q rest =
        faulted_by before t u t v refl (told_as false q)
        (subst (λ (r : Option (Item K)). AllMayCome xs t.before (caused_until app t.before v.state r t.first)) (sym (by_dead (b.middle).dead refl)) tt)
      where
        none : m.work ≡ []
        none = idle app lawful limits props inputs m so.reached so.alive rest

        by_dead : (o : Option Fault) → (b.middle).dead ≡ o → v.refused ≡ None
        by_dead (Some f) is =
            let gives : b.middle ≡ change_by app m [] e = (b.logged).gives ∙ ap (λ (items : List (Item K)). change_by app m items e) none in
            ap (λ (x : Machine K). x.refused) (dead_stays app limits b.middle v b.rest f is b.leads ∙ gives)
            ∙ aside_refuses app m e f q so.alive (ap (λ (x : Machine K). x.dead) (sym gives) ∙ is)
        by_dead None is =
            let after = entry_aside app lawful limits props inputs m b.middle e none rest q b.logged in
            let there : Reached app limits props inputs b.middle = reached_on app lawful limits props inputs m b.middle (Logged e ∷ []) so.reached (b.middle, b.logged, refl) in
            let end : v ≡ b.middle = no_moves app limits b.middle v b.rest (idle_settled b.middle (idle app lawful limits props inputs b.middle there is after.0) after.0) b.leads b.none in
            not_some fault (sym (ap (λ (x : Machine K). x.dead) end ∙ is) ∙ dead)

    -- a unit is open
    in_unit : OpenUnit app lawful props inputs limits xs t.before t.first m → Faulted before t u
    in_unit o =
        let work : AtWork m = in_work app lawful props inputs limits xs t.before t.first m o so.alive in
        let open_work : m.work ≡ [] → ⊥ = λ none. work_open m so.alive work.unit so.settled none in
        let serves : serves_item e ≡ true = matches_serves m.work e (matches_entry app lawful limits props inputs m b.middle e so.reached b.logged) open_work in
        faulted_by before t u t v refl (told_as false (serves_opens_none e serves))
        (open_dies app lawful props inputs limits xs t.before t.first m o so.alive b.middle v e b.rest fault serves b.logged b.leads b.none dead v.refused)

    faulted : Faulted before t u
    faulted = elim so.phase [ inl rest ↦ by_test (opens e) (λ q. opening q rest) (λ q. aside q rest) | inr o ↦ in_unit o ]

  pub entry_faulted : (before : List Edit) (more : List Entry) (t u : Telling K) (e : Entry) (last : Machine K) (fault : Fault) → Between app lawful props inputs limits before t
      → replay_within app limits (Some t.machine) (e ∷ more) ≡ Some last → told_entry app t e ≡ Some u → u.machine.dead ≡ Some fault → Faulted before t u
  entry_faulted before more t u e last fault so go told dead =
      let gate = open_gate app limits (refusal limits t.machine) (is_due app (due app t.machine) e) (step app t.machine e) more last go in
      let same : u ≡ closed_unit app (opened t e) (opens e || t.machine.unit) (step app t.machine e) = told_due app lawful props inputs limits t u e gate.1 told in
      let end : (step app t.machine e).dead ≡ Some fault =
      ap (λ (x : Machine K). x.dead) (sym (told_machine app limits (opened t e) (opens e || t.machine.unit) (step app t.machine e)))
      ∙ ap (λ (x : Telling K). x.machine.dead) (sym same)
      ∙ dead in
      faulted before t u e so gate.0 gate.1 fault end same
