-- A rerun in which a fault ends the run: the last state keeps what it has to of the one in which the rerun began.
use Rattle.std.proofs.Common.{ℕ, ◌≤◌, Bool, true, false, List, [], ◌∷◌, ◌≡◌, refl, sym, ap, ◌∙◌, subst, arith, nat_eq, inl, inr}
use Rattle.std.specs.Prelude.{Option, Some, None, if◌then◌else◌}
use Rattle.rt_lemmas.proofs.Bools.{never as not_true}
pub use Rattle.rt_lemmas.proofs.Options.{none_is as not_some}
use Rattle.rt_model.specs.Lists.{at}
use Rattle.rt_model.specs.Tree.{Types, Tree, Place, Kind, component_at}
use Rattle.rt_model.specs.World.{Application}
use Rattle.rt_model.specs.Laws.{IsLawful}
use Rattle.rt_model.specs.State.{Side, State, Fault, Item, Feed, Make, Drop, Outcome, Done, Cut, empty_side, side_of}
use Rattle.rt_model.specs.Run.{spots_of, run}
use Rattle.rt_model.specs.Next.{at_rest}
use Rattle.rt_model.specs.Removal.{removed}
use Rattle.rt_model.specs.Replay.{Entry, Build, Taken, Heard, Rerun, Poll, Effects, Made, Fed, Kept, Removed, Input, Machine, ended_by, one_more_unit, rested, if_live, due_item, due, outcome_of, change_by}
use Rattle.rt_model.specs.Causes.{Limits}
use Rattle.rt_model.specs.Caused.{caused_until}
use Rattle.rt_model.specs.Sentences.{AllMayCome}
use Rattle.rt_model.proofs.Among.{Among}
use Rattle.law_moves.specs.Moves.{Move, Silent, Closed, Logged, entries, serves_item, Inside, IsLogged, AtWork, Moves, Leads}
use Rattle.law_moves.specs.Reached.{Reached}
use Rattle.law_moves.proofs.Everywhere.{ReadyAt, move_ready, reached_ready}
use Rattle.law_headline.proofs.Steps.{ready_of}
use Rattle.law_headline.proofs.Begins.{idle, unit_begins}
use Rattle.law_headline.proofs.Drawn.{Below}
use Rattle.law_headline.proofs.Midway.{Midway}
use Rattle.law_headline.proofs.Faults.{OneMore, CutMore, same_more, removed_cut, outcome_cut}
use Rattle.law_headline.proofs.Cut.{until_may_come, by_rerun}
use Rattle.law_headline.proofs.Open.{OpenUnit}
use Rattle.law_headline.proofs.Running.{Serving, live, before, begins_serving, goes_serving, serving_midway, ready_here, open_serving}

not_none : {A P : Type 0} (a : A) → Some a ≡ None → P
not_none a h = cc

not_bare : {A P : Type 0} (x : A) (xs : List A) → x ∷ xs ≡ [] → P
not_bare x xs h = cc

module _ {K : Types} where
  no_output : {P : Type 0} (side : Side K) (tree : Tree K) → side ≡ empty_side → side.output ≡ Some tree → P
  no_output side tree h g = not_some tree (sym (ap (λ (i : Side K). i.output) h) ∙ g)

module _ {K : Types} (app : Application K) where
  -- where at most one scope more stands
  pub more_midway : (first w v : State K) (limit : ℕ) → first.next_scope ≤ limit → OneMore limit w v → Midway app first w → Midway app first v
  more_midway first w v limit bound f h =
      record {
        fits =
            λ t y a tree found output.
            elim (f.sides t y found) [
              | inl empty ↦ no_output (side_of y a) tree (empty a) output
              | inr z ↦ (let g = z.2 a in h.fits t z.0 a tree z.1 (sym g.0 ∙ output))
            ];
        numbers =
            λ t y a p k n found there low.
            elim (f.sides t y found) [
              | inl empty ↦ absurd (subst (λ (i : Side K). Among i.numbers (p, k, n)) (empty a) there)
              | inr z ↦ (let g = z.2 a in h.numbers t z.0 a p k n z.1 (subst (λ (es : List (Place × Kind × ℕ)). Among es (p, k, n)) g.1 there) low)
            ];
        children =
            λ t y a p u found there live low.
            elim (f.sides t y found) [
              | inl empty ↦ absurd (subst (λ (i : Side K). Among i.children (p, u)) (empty a) there)
              | inr z ↦
                  (let g = z.2 a in
                  elim (g.2 (p, u) there) [
                    | inl e ↦ h.children t z.0 a p u z.1 e (f.lives u live (omega (arith, low, bound))) low
                    | inr more ↦ (let high : limit ≤ u = more in absurd (omega (arith, high, low, bound)))
                  ])
            ];
        feeds =
            λ t y x a p u c d found was there low i j.
            elim (f.sides t y found) [
              | inl empty ↦ absurd (subst (λ (s : Side K). Among s.children (p, u)) (empty a) there)
              | inr z ↦
                  (let g = z.2 a in
                  elim (g.2 (p, u) there) [
                    | inl e ↦ h.feeds t z.0 x a p u c d z.1 was e low (subst (λ (o : Option (Tree K)). Among (spots_of o) (component_at p c)) g.0 i) j
                    | inr more ↦ (let high : limit ≤ u = more in absurd (omega (arith, high, low, bound)))
                  ])
            ];
      }

  -- a machine that is dead stays as it is
  pub dead_stays : (limits : Limits) (m v : Machine K) (moves : List Move) (fault : Fault) → m.dead ≡ Some fault → Leads app limits m moves v → v ≡ m
  dead_stays limits m v [] fault dead leads = leads
  dead_stays limits m v (Silent ∷ moves) fault dead leads = not_none fault (sym dead ∙ leads.1.alive)
  dead_stays limits m v (Closed ∷ moves) fault dead leads = not_none fault (sym dead ∙ leads.1.alive)
  dead_stays limits m v (Logged e ∷ moves) fault dead leads =
      let none : due app m ≡ None =
      ap (λ (o : Option Fault). if_live m.state (elim o as (λ z. Option Entry) [ None ↦ (if m.built then due_item app m m.work else Some Build) | Some f ↦ None ])) dead in
      not_some e (sym none ∙ leads.1.due_is)

  module _ (first : State K) where
    -- the state in which a fault ended the run, if one did
    abbrev Ends : Machine K → Type 0
    Ends u = (fault : Fault) → u.dead ≡ Some fault → Midway app first u.state

    module _ (m : Machine K) (still : m.dead ≡ None) (mid : Midway app first m.state) (bound : first.next_scope ≤ m.state.next_scope) (fresh : at m.state.scopes m.state.next_scope ≡ None) where
      alive_ends : (u : Machine K) → u.dead ≡ m.dead → Ends u
      alive_ends u same fault dead = not_some fault (sym (same ∙ still) ∙ dead)

      ended_ends : (item : Option (Item K)) (rest : List (Item K)) (o : Outcome K) → CutMore m.state.next_scope m.state o → Ends (ended_by m item rest o)
      ended_ends item rest (Done v work) cut = alive_ends (ended_by m item rest (Done v work)) refl
      ended_ends item rest (Cut v f) cut = λ fault dead. more_midway first m.state v m.state.next_scope bound cut mid

      ends_if : (b : Bool) (x y : Machine K) → Ends x → Ends y → Ends (if b then x else y)
      ends_if true x y h g = h
      ends_if false x y h g = g

      change_ends : (work : List (Item K)) (e : Entry) → serves_item e ≡ true → Ends (change_by app m work e)
      change_ends (Make s side p c ∷ rest) (Made t) h = ended_ends (Some (Make s side p c)) rest (outcome_of app m.state (Make s side p c)) (outcome_cut app m.state fresh (Make s side p c))
      change_ends (Feed s side p c ∷ rest) (Kept t) h = ended_ends (Some (Feed s side p c)) rest (outcome_of app m.state (Feed s side p c)) (outcome_cut app m.state fresh (Feed s side p c))
      change_ends (Feed s side p c ∷ rest) (Fed t) h = ended_ends (Some (Feed s side p c)) rest (outcome_of app m.state (Feed s side p c)) (outcome_cut app m.state fresh (Feed s side p c))
      change_ends (Drop child s side ∷ rest) (Removed t) h =
          let item : Item K = Drop child s side in
          let o : Outcome K = removed app m.state t in
          let cut : CutMore m.state.next_scope m.state o = same_more m.state.next_scope m.state o (removed_cut app m.state t) in
          ends_if (nat_eq t child) (ended_by m (Some item) rest o) (ended_by m (Some item) (item ∷ rest) o) (ended_ends (Some item) rest o cut) (ended_ends (Some item) (item ∷ rest) o cut)
      change_ends _ Build h = not_true h
      change_ends _ (Taken k) h = not_true h
      change_ends _ (Heard s) h = not_true h
      change_ends _ (Rerun s) h = not_true h
      change_ends _ (Poll t) h = not_true h
      change_ends _ (Effects s) h = not_true h
      change_ends _ _ h = alive_ends m refl

module _ {K : Types} (app : Application K) (lawful : IsLawful K app) (props : K.Props) (inputs : List (Input K)) (limits : Limits) where
  module _ (from : Machine K) (s : ℕ) (reached : Reached app limits props inputs from) (alive : from.dead ≡ None) (unit : from.unit ≡ false) (due_is : due app from ≡ Some (Rerun s)) where
    abbrev Serves : State K → List (Item K) → Type 0
    Serves w work = Serving app lawful props inputs limits from s reached alive unit due_is w work

    -- one move that serves work
    move_ends : (m u : Machine K) (move : Move) → ReadyAt app lawful m → m.dead ≡ None → Serves m.state m.work → Moves app limits m move u → Inside (move ∷ []) → Ends app from.state u
    move_ends m u Closed ready still h step inside = absurd inside
    move_ends m u Silent ready still h step inside =
        let r = ready_of app lawful m ready still in
        subst (λ (x : Machine K). Ends app from.state x) (sym step.gives)
        (ended_ends app from.state m still (serving_midway app lawful props inputs limits from s reached alive unit due_is m ready still h) (h.1).scopes ((r.rooted).drawn m.state.next_scope (omega arith))
        (Some step.item) step.later (outcome_of app m.state step.item) (outcome_cut app m.state ((r.rooted).drawn m.state.next_scope (omega arith)) step.item))
    move_ends m u (Logged e) ready still h step inside =
        let r = ready_of app lawful m ready still in
        subst (λ (x : Machine K). Ends app from.state x) (sym step.gives)
        (change_ends app from.state m still (serving_midway app lawful props inputs limits from s reached alive unit due_is m ready still h) (h.1).scopes ((r.rooted).drawn m.state.next_scope (omega arith))
        m.work e inside.0)

    -- moves without an entry, up to the fault
    module _ (v : Machine K) (fault : Fault) (dead : v.dead ≡ Some fault) where
      abbrev Dies : Machine K → List Move → Type 0
      Dies m moves = AtWork m → ReadyAt app lawful m → Serves m.state m.work → Leads app limits m moves v → entries moves ≡ [] → Midway app from.state v.state

      not_alive : {P : Type 0} (m : Machine K) → m.dead ≡ None → v ≡ m → P
      not_alive m still same = not_some fault (sym (ap (λ (x : Machine K). x.dead) same ∙ still) ∙ dead)

      dead_midway : (m : Machine K) (moves : List Move) (f : Fault) → m.dead ≡ Some f → Leads app limits m moves v → Ends app from.state m → Midway app from.state v.state
      dead_midway m moves f is leads ends = subst (λ (x : Machine K). Midway app from.state x.state) (sym (dead_stays app limits m v moves f is leads)) (ends f is)

      -- where the unit has ended no fault comes any more
      over : (m : Machine K) (moves : List Move) → m.dead ≡ None → m.work ≡ [] → m.unit ≡ false → Leads app limits m moves v → entries moves ≡ [] → Midway app from.state v.state
      over m [] still none rest leads bare = not_alive m still leads
      over m (Silent ∷ moves) still none rest leads bare = not_bare leads.1.item leads.1.later (sym leads.1.next ∙ none)
      over m (Closed ∷ moves) still none rest leads bare = not_true (sym rest ∙ leads.1.at_work)
      over m (Logged e ∷ moves) still none rest leads bare = not_bare e (entries moves) bare

      after_move : (m u : Machine K) (move : Move) (moves : List Move) (o : Option Fault) → u.dead ≡ o → AtWork m → ReadyAt app lawful m → Serves m.state m.work → Moves app limits m move u → Inside (move ∷ [])
          → Leads app limits u moves v → entries moves ≡ [] → Dies u moves → Midway app from.state v.state
      after_move m u move moves None is h ready serves step inside leads bare go =
          let g = goes_serving app lawful props inputs limits from s reached alive unit due_is m u (move ∷ []) ready h (u, step, refl) inside is serves in
          go g.1 (move_ready app lawful limits m u move step ready) g.0 leads bare
      after_move m u move moves (Some f) is h ready serves step inside leads bare go = dead_midway u moves f is leads (move_ends m u move ready h.alive serves step inside)

      pub dies : (m : Machine K) (moves : List Move) → Dies m moves
      dies m [] h ready serves leads bare = not_alive m h.alive leads
      dies m (Silent ∷ moves) h ready serves leads bare =
          after_move m leads.0 Silent moves (leads.0).dead refl h ready serves leads.1 tt leads.2 bare (dies leads.0 moves)
      dies m (Closed ∷ moves) h ready serves leads bare =
          let gives = (leads.1).gives in
          over leads.0 moves (ap (λ (x : Machine K). x.dead) gives ∙ h.alive) (ap (λ (x : Machine K). x.work) gives ∙ (leads.1).idle) (ap (λ (x : Machine K). x.unit) gives) leads.2 bare
      dies m (Logged e ∷ moves) h ready serves leads bare = not_bare e (entries moves) bare

    -- the rerun's own entry, and moves without one after it: of its own call nothing is refused
    pub rerun_come : (begun v : Machine K) (moves : List Move) (fault : Fault) (xs : List ℕ) → IsLogged app limits from (Rerun s) begun → Leads app limits begun moves v → entries moves ≡ [] → v.dead ≡ Some fault
        → Below from.state.next.elements xs → AllMayCome xs from.state (caused_until app from.state v.state v.refused (Rerun s))
    rerun_come begun v moves fault xs logged leads bare dead low = by_dead begun.dead refl
      where
        none : from.work ≡ []
        none = idle app lawful limits props inputs from reached alive unit

        gives : begun ≡ ended_by (one_more_unit (rested app from)) None [] (run app (at_rest from.state) s)
        gives = logged.gives ∙ ap (λ (items : List (Item K)). change_by app from items (Rerun s)) none

        own_call : (o : Outcome K) (f : Fault) → (ended_by (one_more_unit (rested app from)) None [] o).dead ≡ Some f → (ended_by (one_more_unit (rested app from)) None [] o).refused ≡ None
        own_call (Done w work) f is = not_some f (sym alive ∙ is)
        own_call (Cut w g) f is = refl

        by_dead : (o : Option Fault) → begun.dead ≡ o → AllMayCome xs from.state (caused_until app from.state v.state v.refused (Rerun s))
        by_dead None is =
            let began = unit_begins app lawful limits props inputs from begun (Rerun s) reached none refl logged is in
            let mid : Midway app from.state v.state =
            dies v fault dead begun moves began.0 (move_ready app lawful limits from begun (Logged (Rerun s)) logged (reached_ready app lawful limits props inputs from reached))
            (begins_serving app lawful props inputs limits from s reached alive unit due_is begun logged is) leads bare in
            until_may_come app from.state v.state (before app lawful props inputs limits from s reached alive unit due_is) mid xs low s (live app lawful props inputs limits from s reached alive unit due_is) v.refused
        by_dead (Some f) is =
            let end : v ≡ begun = dead_stays app limits begun v moves f is leads in
            let nothing : v.refused ≡ None =
            ap (λ (x : Machine K). x.refused) (end ∙ gives) ∙ own_call (run app (at_rest from.state) s) f (ap (λ (x : Machine K). x.dead) (sym gives) ∙ is) in
            subst (λ (r : Option (Item K)). AllMayCome xs from.state (caused_until app from.state v.state r (Rerun s))) (sym nothing) tt

  -- of a unit that was open: one more entry, and moves without one after it
  module _ (xs : List ℕ) (w : State K) (first : Entry) (m : Machine K) (o : OpenUnit app lawful props inputs limits xs w first m) (here : m.dead ≡ None)
      (u v : Machine K) (e : Entry) (moves : List Move) (fault : Fault) (serves : serves_item e ≡ true) (logged : IsLogged app limits m e u) (leads : Leads app limits u moves v) (bare : entries moves ≡ [])
      (dead : v.dead ≡ Some fault) where
    pub open_dies : (refused : Option (Item K)) → AllMayCome xs w (caused_until app w v.state refused first)
    open_dies refused =
        subst (λ (x : State K). AllMayCome xs x (caused_until app x v.state refused first)) (sym o.before_is)
        (by_rerun app xs (o.from).state v.state first refused (λ s same. rerun_dies s (subst (λ (d : Entry). IsLogged app limits o.from d o.begun) same o.logged)))
      where
        rerun_dies : (s : ℕ) → IsLogged app limits o.from (Rerun s) o.begun → AllMayCome xs (o.from).state (caused_until app (o.from).state v.state refused (Rerun s))
        rerun_dies s begins =
            let serving = open_serving app lawful props inputs limits xs w first m o here s begins in
            let ready : ReadyAt app lawful m = ready_here app lawful props inputs limits xs w first m o here in
            let mid : Midway app (o.from).state v.state =
            after_move o.from s o.reached o.alive o.unit begins.due_is v fault dead m u (Logged e) moves u.dead refl serving.1 ready serving.0 logged (serves, tt) leads bare
            (dies o.from s o.reached o.alive o.unit begins.due_is v fault dead u moves) in
            until_may_come app (o.from).state v.state (before app lawful props inputs limits o.from s o.reached o.alive o.unit begins.due_is) mid xs o.low s
            (live app lawful props inputs limits o.from s o.reached o.alive o.unit begins.due_is) refused
