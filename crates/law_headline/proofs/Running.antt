-- A rerun whose work is served: at each machine that is alive its state keeps what it has to of the one in which it began.
use Rattle.std.proofs.Common.{ℕ, Bool, true, false, List, [], ◌≡◌, refl, sym, ap, ◌∙◌, subst}
use Rattle.std.specs.Prelude.{Option, Some, None, if◌then◌else◌}
use Rattle.std.proofs.lemmas.List.{append-nil}
use Rattle.rt_model.specs.Tree.{Types}
use Rattle.rt_model.specs.World.{Application}
use Rattle.rt_model.specs.Laws.{IsLawful}
use Rattle.rt_model.specs.State.{State, Fault, Item, Outcome, Done, Cut, is_live}
use Rattle.rt_model.specs.Next.{at_rest}
use Rattle.rt_model.specs.Run.{run}
use Rattle.rt_model.specs.Replay.{Entry, Build, Rerun, Input, Machine, ended_by, one_more_unit, rested, due_item, due, change_by, names_live, if_live}
use Rattle.rt_model.specs.Causes.{Limits}
use Rattle.rt_model.specs.Caused.{caused_until}
use Rattle.rt_model.specs.Sentences.{AllMayCome}
use Rattle.law_moves.specs.Moves.{Move, Logged, Inside, IsLogged, AtWork, Leads}
use Rattle.law_moves.specs.Reached.{Reached}
use Rattle.law_moves.proofs.Insides.{alive_before, live_due}
use Rattle.law_moves.proofs.Everywhere.{ReadyAt, move_ready, moves_ready, reached_ready}
use Rattle.law_moves.proofs.Called.{rest_level}
use Rattle.law_headline.proofs.Steps.{Ready, ready_of, rested_ready, served_keep}
use Rattle.law_headline.proofs.Clothed.{Clothed, clothed_lasts}
use Rattle.law_headline.proofs.Nodes.{Settled}
use Rattle.law_headline.proofs.Settled.{settled_of}
use Rattle.law_headline.proofs.Making.{InUnit, unit_lasts}
use Rattle.law_headline.proofs.Units.{begun_since}
use Rattle.law_headline.proofs.Begins.{idle}
use Rattle.law_headline.proofs.Open.{OpenUnit}
use Rattle.law_headline.proofs.Midway.{Midway}
use Rattle.law_headline.proofs.Cut.{since_midway, until_may_come, by_rerun}

module _ {K : Types} (app : Application K) where
  -- an entry of a rerun is due once the build has begun, and its scope is live
  rerun_named : (m : Machine K) (s : ℕ) → m.dead ≡ None → due app m ≡ Some (Rerun s) → (m.built ≡ true) × (is_live m.state s ≡ true)
  rerun_named m s alive h = by_built m.built refl (sym (ap (λ (o : Option Fault). if_live m.state (elim o as (λ z. Option Entry) [ None ↦ (if m.built then due_item app m m.work else Some Build) | Some f ↦ None ])) alive) ∙ h)
    where
      by_item : (o : Option Entry) → if_live m.state o ≡ Some (Rerun s) → is_live m.state s ≡ true
      by_item None e = cc
      by_item (Some d) e =
          let found = live_due app m.state d (Rerun s) e in
          ap (λ (i : Entry). names_live m.state i) found.0 ∙ found.1

      by_built : (b : Bool) → m.built ≡ b → if_live m.state (if b then due_item app m m.work else Some Build) ≡ Some (Rerun s) → (m.built ≡ true) × (is_live m.state s ≡ true)
      by_built false is e = cc
      by_built true is e = (is, by_item (due_item app m m.work) e)

  done_of : (m : Machine K) (o : Outcome K) → (ended_by m None [] o).dead ≡ None → (v : State K) × (work : List (Item K)) × (o ≡ Done v work)
  done_of m (Done v work) e = (v, work, refl)
  done_of m (Cut v f) e = cc

module _ {K : Types} (app : Application K) (lawful : IsLawful K app) (props : K.Props) (inputs : List (Input K)) (limits : Limits) where
  module _ (from : Machine K) (s : ℕ) (reached : Reached app limits props inputs from) (alive : from.dead ≡ None) (unit : from.unit ≡ false) (due_is : due app from ≡ Some (Rerun s)) where
    none : from.work ≡ []
    none = idle app lawful limits props inputs from reached alive unit

    pub live : is_live from.state s ≡ true
    live = (rerun_named app from s alive due_is).1

    pub before : Settled from.state
    before = settled_of app lawful limits props inputs from reached alive (rerun_named app from s alive due_is).0 none

    -- what holds while its work is served
    abbrev pub Serving : State K → List (Item K) → Type 0
    Serving w work = InUnit app lawful from.state s before w work

    pub begins_serving : (begun : Machine K) → IsLogged app limits from (Rerun s) begun → begun.dead ≡ None → Serving begun.state begun.work
    begins_serving begun logged here =
        subst (λ (x : State K). Serving x begun.work) (sym state_is) (subst (λ (xs : List (Item K)). Serving ran.0 xs) (sym work_is) (clothed, begun_since app lawful from.state s ran.0 ran.1 now live ran.2))
      where
        gives : begun ≡ ended_by (one_more_unit (rested app from)) None [] (run app (at_rest from.state) s)
        gives = logged.gives ∙ ap (λ (xs : List (Item K)). change_by app from xs (Rerun s)) none

        ran : (u : State K) × (work : List (Item K)) × (run app (at_rest from.state) s ≡ Done u work)
        ran = done_of app (one_more_unit (rested app from)) (run app (at_rest from.state) s) (ap (λ (x : Machine K). x.dead) (sym gives) ∙ here)

        is : begun ≡ record (one_more_unit (rested app from)) { state = ran.0; work = ran.1 }
        is =
            gives ∙ ap (λ (o : Outcome K). ended_by (one_more_unit (rested app from)) None [] o) ran.2
            ∙ ap (λ (xs : List (Item K)). record (one_more_unit (rested app from)) { state = ran.0; work = xs }) (append-nil ran.1)

        state_is : begun.state ≡ ran.0
        state_is = ap (λ (x : Machine K). x.state) is

        work_is : begun.work ≡ ran.1
        work_is = ap (λ (x : Machine K). x.work) is

        ready : ReadyAt app lawful begun
        ready = move_ready app lawful limits from begun (Logged (Rerun s)) logged (reached_ready app lawful limits props inputs from reached)

        now : Ready ran.0 ran.1
        now = subst (λ (xs : List (Item K)). Ready ran.0 xs) work_is (subst (λ (x : State K). Ready x begun.work) state_is (ready_of app lawful begun ready here))

        clothed : Clothed ran.0 ran.1
        clothed =
            (clothed_lasts app lawful).runs (at_rest from.state) ran.0 s ran.1 (rested_ready from.state before.ready) now
            ((clothed_lasts app lawful).calms from.state (at_rest from.state) (rest_level from.state) before.clothed) ran.2

    pub goes_serving : (m u : Machine K) (moves : List Move) → ReadyAt app lawful m → AtWork m → Leads app limits m moves u → Inside moves → u.dead ≡ None → Serving m.state m.work → Serving u.state u.work × AtWork u
    goes_serving m u moves ready at_work leads inside here h =
        served_keep app lawful (λ w work. Serving w work) (unit_lasts app lawful from.state s before) limits m u moves at_work leads inside here ready h

    pub serving_midway : (m : Machine K) → ReadyAt app lawful m → m.dead ≡ None → Serving m.state m.work → Midway app from.state m.state
    serving_midway m ready here h = since_midway app lawful from.state m.state s m.work (ready_of app lawful m ready here) h.1

  -- the edits up to any item, of the unit that is open
  module _ (xs : List ℕ) (w : State K) (first : Entry) (m : Machine K) (o : OpenUnit app lawful props inputs limits xs w first m) (here : m.dead ≡ None) where
    pub ready_here : ReadyAt app lawful m
    ready_here =
        moves_ready app lawful limits o.begun m o.done o.leads (move_ready app lawful limits o.from o.begun (Logged first) o.logged (reached_ready app lawful limits props inputs o.from o.reached))

    pub open_serving : (s : ℕ) (logged : IsLogged app limits o.from (Rerun s) o.begun) → Serving o.from s o.reached o.alive o.unit logged.due_is m.state m.work × AtWork m
    open_serving s logged =
        let begun : (o.begun).dead ≡ None = alive_before app limits o.begun m o.done (o.begun).dead refl o.leads here in
        goes_serving o.from s o.reached o.alive o.unit logged.due_is o.begun m o.done
        (move_ready app lawful limits o.from o.begun (Logged (Rerun s)) logged (reached_ready app lawful limits props inputs o.from o.reached)) o.at_work o.leads o.inside here
        (begins_serving o.from s o.reached o.alive o.unit logged.due_is o.begun logged begun)

    pub open_come : (refused : Option (Item K)) → AllMayCome xs w (caused_until app w m.state refused first)
    open_come refused =
        subst (λ (x : State K). AllMayCome xs x (caused_until app x m.state refused first)) (sym o.before_is)
        (by_rerun app xs (o.from).state m.state first refused
        (
        λ s same.
        let logged : IsLogged app limits o.from (Rerun s) o.begun = subst (λ (d : Entry). IsLogged app limits o.from d o.begun) same o.logged in
        until_may_come app (o.from).state m.state (before o.from s o.reached o.alive o.unit logged.due_is)
        (serving_midway o.from s o.reached o.alive o.unit logged.due_is m ready_here here (open_serving s logged).0) xs o.low s (live o.from s o.reached o.alive o.unit logged.due_is) refused
        ))
