-- What each change keeps of states in which the open work fits the tree, all moves keep.
use Rattle.std.proofs.Common.{ℕ, ◌+◌, inl, inr, Bool, true, false, List, [], ◌∷◌, ◌++◌, ◌≡◌, ◌⊎◌, ◌<◌, refl, sym, ap, ◌∙◌, subst, nat_eq}
use Rattle.std.specs.Prelude.{Option, Some, None, if◌then◌else◌}
use Rattle.std.proofs.lemmas.Bool.{eqb-true}
use Rattle.std.proofs.lemmas.List.{append-nil}
use Rattle.rt_model.specs.Lists.{at}
use Rattle.rt_model.specs.Tree.{Types}
use Rattle.rt_model.specs.World.{Firsts, Application}
use Rattle.rt_model.specs.Laws.{IsLawful}
use Rattle.rt_model.specs.State.{SideName, Fault, State, Item, Draw, Row, Feed, Make, Drop, Outcome, Done, Cut, change, is_live, effects_of}
use Rattle.rt_model.specs.Commands.{unqueued}
use Rattle.rt_model.specs.Next.{Work, RerunScope, PollTask, RunEffects, at_rest, next}
use Rattle.rt_model.specs.Run.{run}
use Rattle.rt_model.specs.Removal.{next_removed, removed}
use Rattle.rt_model.specs.Heard.{Listener}
use Rattle.rt_model.specs.Lasting.{IsRooted}
use Rattle.rt_model.specs.Replay.{Entry, Build, Taken, Heard, Rerun, Poll, Effects, Removed, Input, Machine, ended_by, mounted_state, if_live, waiting, take_next, one_more_unit, fed_child, keeps, due_item, due_heard, due_work, polled, effects_run, heard_event, heard_first, rested, outcome_of, dropped, change_by}
use Rattle.rt_model.specs.Causes.{Limits}
use Rattle.rt_model.proofs.Maps.{by_test, pick_true, pick_false}
use Rattle.rt_model.proofs.SideRuns.{rest_stay}
use Rattle.rt_model.proofs.MachineFrames.{rest_later}
use Rattle.rt_model.proofs.StepFrames.{follows_later}
use Rattle.rt_model.proofs.NumbersRun.{Idle, polled_idle}
use Rattle.rt_model.proofs.Stands.{Stands}
use Rattle.rt_model.proofs.Turns.{stay_stands}
use Rattle.law_moves.specs.Moves.{Move, Silent, Closed, Logged, Inside, is_silent, IsSettled, AtWork, Moves, Leads}
use Rattle.law_moves.specs.Calls.{IsReady}
use Rattle.law_moves.specs.Reached.{Part, start_at, Comes, Reached}
use Rattle.rt_model.specs.Asides.{Aside, aside_state}
use Rattle.law_moves.specs.Asides.{IsAside}
use Rattle.law_moves.proofs.Asides.{Beside, beside}
use Rattle.law_moves.proofs.Ways.{comes_keep}
use Rattle.law_moves.proofs.OneMoveOnly.{unsettled}
use Rattle.law_moves.proofs.Items.{due_at_work}
use Rattle.law_moves.proofs.Insides.{alive_before, live_due, made_due, fed_due, fed_change, inside_lasts}
use Rattle.law_moves.proofs.Insides as insides
use Rattle.law_moves.proofs.Always.{take_work, heard_work}
use Rattle.law_moves.proofs.Woven.{Woven, woven_same}
use Rattle.law_moves.proofs.Opens.{calm_twigs}
use Rattle.law_moves.proofs.Everywhere.{ReadyAt, Anything, work_state, move_ready, moves_ready, aside_ready, begun_ready, batch_quiet}
use Rattle.law_moves.proofs.Commanded.{Level}
use Rattle.law_moves.proofs.Called.{LevelO, rest_level, mounted_level, polled_level, effects_level}
use Rattle.law_headline.proofs.Calm.{take_level, heard_level, aside_level}

module _ {K : Types} where
  -- numbers, heights and the open work fit the tree of scopes
  pub record Ready (w : State K) (work : List (Item K)) : Type 0 where
    pub rooted : IsRooted w
    pub stands : Stands w work
    pub woven : Woven w work

  -- the test for what is next leaves it so
  pub rested_ready : (w : State K) → Ready w [] → Ready (at_rest w) []
  rested_ready w r =
      record {
        rooted = (follows_later w (at_rest w) (rest_later w)).rooted r.rooted;
        stands = stay_stands w (at_rest w) [] (rest_stay w) r.stands;
        woven = woven_same w (at_rest w) (calm_twigs w (at_rest w) (rest_stay w) (rest_later w)) [] r.woven;
      }

module _ {K : Types} (app : Application K) (lawful : IsLawful K app) where
  pub ready_of : (m : Machine K) → ReadyAt app lawful m → m.dead ≡ None → Ready m.state m.work
  ready_of m r alive = record { rooted = r.sound.rooted; stands = r.sound.stands alive; woven = r.woven alive }

  -- a fact of the state and its open work that each change of an item keeps
  pub record Lasts (P : State K → List (Item K) → Type 0) : Type 0 where
    -- an item that isn't a drop is served
    pub serves : (w v : State K) (item : Item K) (rest work : List (Item K)) → Ready w (item ∷ rest) → Ready v (work ++ rest) → IsReady w item → P w (item ∷ rest)
        → outcome_of app w item ≡ Done v work → P v (work ++ rest)
    -- the scope that a drop names goes
    pub drops : (w v : State K) (scope parent : ℕ) (side : SideName) (rest work : List (Item K)) → Ready w (Drop scope parent side ∷ rest) → Ready v (work ++ rest)
        → next_removed w scope ≡ scope → is_live w scope ≡ true → P w (Drop scope parent side ∷ rest) → removed app w scope ≡ Done v work → P v (work ++ rest)
    -- a scope below it goes
    pub thins : (w v : State K) (scope top parent : ℕ) (side : SideName) (rest work : List (Item K)) → Ready w (Drop top parent side ∷ rest) → Ready v (work ++ Drop top parent side ∷ rest)
        → next_removed w top ≡ scope → nat_eq scope top ≡ false → is_live w scope ≡ true → P w (Drop top parent side ∷ rest) → removed app w scope ≡ Done v work
        → P v (work ++ Drop top parent side ∷ rest)

  module _ (P : State K → List (Item K) → Type 0) (law : Lasts P) where
    -- the fact holds, unless a fault ended the run
    abbrev pub Holds : Machine K → Type 0
    Holds u = u.dead ≡ None → P u.state u.work

    ended_holds : (m : Machine K) (item : Option (Item K)) (rest : List (Item K)) (o : Outcome K) → m.dead ≡ None → ReadyAt app lawful (ended_by m item rest o)
        → ((v : State K) (work : List (Item K)) → Ready v (work ++ rest) → o ≡ Done v work → P v (work ++ rest))
        → Holds (ended_by m item rest o)
    ended_holds m item rest (Done v work) still after keeps = λ alive. keeps v work (ready_of (ended_by m item rest (Done v work)) after alive) refl
    ended_holds m item rest (Cut v fault) still after keeps = λ alive. let absurdity : Some fault ≡ None = alive in cc

    -- the first item is served
    served_holds : (m : Machine K) (item : Item K) (rest : List (Item K)) → m.dead ≡ None → m.work ≡ item ∷ rest → Ready m.state (item ∷ rest)
        → ReadyAt app lawful (ended_by m (Some item) rest (outcome_of app m.state item)) → P m.state (item ∷ rest) → IsReady m.state item
        → Holds (ended_by m (Some item) rest (outcome_of app m.state item))
    served_holds m item rest still next before after p ready =
        ended_holds m (Some item) rest (outcome_of app m.state item) still after (λ v work now e. law.serves m.state v item rest work before now ready p e)

    silent_holds : (m : Machine K) (item : Item K) (rest : List (Item K)) → is_silent item ≡ true → m.dead ≡ None → m.work ≡ item ∷ rest → Ready m.state (item ∷ rest)
        → ReadyAt app lawful (ended_by m (Some item) rest (outcome_of app m.state item)) → P m.state (item ∷ rest)
        → Holds (ended_by m (Some item) rest (outcome_of app m.state item))
    silent_holds m (Draw s side q k) rest silent still next before after p = served_holds m (Draw s side q k) rest still next before after p tt
    silent_holds m (Row b step) rest silent still next before after p = served_holds m (Row b step) rest still next before after p tt
    silent_holds m (Feed s side q c) rest silent still next before after p = cc
    silent_holds m (Make s side q c) rest silent still next before after p = cc
    silent_holds m (Drop t s side) rest silent still next before after p = cc

    dropped_holds : (m : Machine K) (scope top parent : ℕ) (side : SideName) (rest : List (Item K)) → m.dead ≡ None → next_removed m.state top ≡ scope → is_live m.state scope ≡ true
        → Ready m.state (Drop top parent side ∷ rest) → ReadyAt app lawful (dropped app m scope top (Drop top parent side) rest) → P m.state (Drop top parent side ∷ rest)
        → Holds (dropped app m scope top (Drop top parent side) rest)
    dropped_holds m scope top parent side rest still first live before after p =
        let item : Item K = Drop top parent side in
        let o : Outcome K = removed app m.state scope in
        let own : Machine K = ended_by m (Some item) rest o in
        let below : Machine K = ended_by m (Some item) (item ∷ rest) o in
        by_test (nat_eq scope top)
        (
        λ q.
        let same : scope ≡ top = eqb-true scope top q in
        subst (λ (x : Machine K). Holds x) (sym (pick_true own below q))
        (ended_holds m (Some item) rest o still (subst (λ (x : Machine K). ReadyAt app lawful x) (pick_true own below q) after)
        (
        λ v work now e.
        law.drops m.state v scope parent side rest work (subst (λ (n : ℕ). Ready m.state (Drop n parent side ∷ rest)) (sym same) before) now
        (ap (λ (n : ℕ). next_removed m.state n) same ∙ first) live
        (subst (λ (n : ℕ). P m.state (Drop n parent side ∷ rest)) (sym same) p) e
        ))
        )
        (
        λ q.
        subst (λ (x : Machine K). Holds x) (sym (pick_false own below q))
        (ended_holds m (Some item) (item ∷ rest) o still (subst (λ (x : Machine K). ReadyAt app lawful x) (pick_false own below q) after)
        (λ v work now e. law.thins m.state v scope top parent side rest work before now first q live p e))
        )

    -- an entry of the first item
    logged_holds : (m : Machine K) (item : Item K) (rest : List (Item K)) (e : Entry) → AtWork m → m.work ≡ item ∷ rest → IsSettled m → if_live m.state (due_item app m (item ∷ rest)) ≡ Some e
        → Ready m.state (item ∷ rest) → ReadyAt app lawful (change_by app m (item ∷ rest) e) → P m.state (item ∷ rest)
        → Holds (change_by app m (item ∷ rest) e)
    logged_holds m (Draw s side q k) rest e h next settled due_is before after p = unsettled m (Draw s side q k ∷ rest) h.alive next refl settled
    logged_holds m (Row b step) rest e h next settled due_is before after p = unsettled m (Row b step ∷ rest) h.alive next refl settled
    logged_holds m (Make s side q c) rest e h next settled due_is before after p =
        let found = made_due app m.state (is_live m.state s) m.state.next_scope e due_is in
        subst (λ (x : Entry). Holds (change_by app m (Make s side q c ∷ rest) x)) (sym found.1)
        (served_holds m (Make s side q c) rest h.alive next before (subst (λ (x : Entry). ReadyAt app lawful (change_by app m (Make s side q c ∷ rest) x)) found.1 after) p found.0)
    logged_holds m (Feed s side q c) rest e h next settled due_is before after p =
        let found = fed_due app m.state c (fed_child m.state s side q) e due_is in
        let t : ℕ = found.0 in
        let is : change_by app m (Feed s side q c ∷ rest) e ≡ ended_by m (Some (Feed s side q c)) rest (outcome_of app m.state (Feed s side q c)) =
        ap (λ (x : Entry). change_by app m (Feed s side q c ∷ rest) x) found.2 ∙ fed_change app m s side q c rest t (keeps app m.state t c) in
        subst (λ (x : Machine K). Holds x) (sym is)
        (served_holds m (Feed s side q c) rest h.alive next before (subst (λ (x : Machine K). ReadyAt app lawful x) is after) p (t, found.1, found.3))
    logged_holds m (Drop top parent side) rest e h next settled due_is before after p =
        let found = live_due app m.state (Removed (next_removed m.state top)) e due_is in
        subst (λ (x : Entry). Holds (change_by app m (Drop top parent side ∷ rest) x)) (sym found.0)
        (dropped_holds m (next_removed m.state top) top parent side rest h.alive refl found.1 before
        (subst (λ (x : Entry). ReadyAt app lawful (change_by app m (Drop top parent side ∷ rest) x)) found.0 after) p)

    -- a move of a machine with open work
    pub work_holds : (limits : Limits) (m u : Machine K) (move : Move) (item : Item K) (rest : List (Item K)) → AtWork m → ReadyAt app lawful m → Moves app limits m move u → m.work ≡ item ∷ rest → P m.state m.work → Holds u
    work_holds limits m u Silent item rest h ready move next p =
        let here : Ready m.state (move.item ∷ move.later) = subst (λ (xs : List (Item K)). Ready m.state xs) move.next (ready_of m ready h.alive) in
        let after : ReadyAt app lawful u = move_ready app lawful limits m u Silent move ready in
        subst (λ (x : Machine K). Holds x) (sym move.gives)
        (silent_holds m move.item move.later move.silent h.alive move.next here (subst (λ (x : Machine K). ReadyAt app lawful x) move.gives after)
        (subst (λ (xs : List (Item K)). P m.state xs) move.next p))
    work_holds limits m u Closed item rest h ready move next p = let absurdity : item ∷ rest ≡ [] = sym next ∙ move.idle in cc
    work_holds limits m u (Logged e) item rest h ready move next p =
        let here : Ready m.state (item ∷ rest) = subst (λ (xs : List (Item K)). Ready m.state xs) next (ready_of m ready h.alive) in
        let after : ReadyAt app lawful u = move_ready app lawful limits m u (Logged e) move ready in
        let gives : u ≡ change_by app m (item ∷ rest) e = move.gives ∙ ap (λ (xs : List (Item K)). change_by app m xs e) next in
        subst (λ (x : Machine K). Holds x) (sym gives)
        (logged_holds m item rest e h next move.settled (sym (due_at_work app m (item ∷ rest) h next) ∙ move.due_is) here (subst (λ (x : Machine K). ReadyAt app lawful x) gives after)
        (subst (λ (xs : List (Item K)). P m.state xs) next p))

  -- and that the build, reruns, and changes that leave what shows keep
  pub record Outlasts (P : State K → List (Item K) → Type 0) : Type 0 where
    pub inside : Lasts P
    pub calms : (w v : State K) → Level w v → P w [] → P v []
    pub runs : (w v : State K) (s : ℕ) (work : List (Item K)) → Ready w [] → Ready v work → P w [] → run app w s ≡ Done v work → P v work

  module _ (P : State K → List (Item K) → Type 0) (law : Outlasts P) where
    abbrev Keeps : Machine K → Type 0
    Keeps u = u.dead ≡ None → P u.state u.work

    idle_keeps : (u : Machine K) → u.work ≡ [] → P u.state [] → Keeps u
    idle_keeps u none p = λ alive. subst (λ (xs : List (Item K)). P u.state xs) (sym none) p

    -- the build or a unit has begun, and what its first call leads to is open
    begun : (m : Machine K) (o : Outcome K) → ReadyAt app lawful (ended_by m None [] o) → ((v : State K) (work : List (Item K)) → Ready v work → o ≡ Done v work → P v work) → Keeps (ended_by m None [] o)
    begun m (Done v work) after keeps =
        λ alive.
        let now : Ready v (work ++ []) = ready_of (ended_by m None [] (Done v work)) after alive in
        subst (λ (xs : List (Item K)). P v xs) (sym (append-nil work)) (keeps v work (subst (λ (xs : List (Item K)). Ready v xs) (append-nil work) now) refl)
    begun m (Cut v fault) after keeps = λ alive. let absurdity : Some fault ≡ None = alive in cc

    calm_begun : (m : Machine K) (w : State K) (o : Outcome K) → LevelO w o → Idle o → P w [] → Keeps (ended_by m None [] o)
    calm_begun m w (Done v work) level none p = λ alive. subst (λ (xs : List (Item K)). P v xs) (sym (append-nil work ∙ none)) (law.calms w v level p)
    calm_begun m w (Cut v fault) level none p = λ alive. let absurdity : Some fault ≡ None = alive in cc

    rested_keeps : (w : State K) → P w [] → P (at_rest w) []
    rested_keeps w p = law.calms w (at_rest w) (rest_level w) p

    -- an entry of what is owed, else of the next input
    owed_on : (m : Machine K) (work : Option Work) (inputs : List (Input K)) (e : Entry) → m.work ≡ [] → Ready m.state [] → P m.state [] → m.inputs ≡ inputs
        → if_live m.state (due_work app m work inputs) ≡ Some e → ReadyAt app lawful (change_by app m [] e)
        → Keeps (change_by app m [] e)
    owed_on m (Some (RerunScope s)) inputs e none r p more due_is after =
        let found = live_due app m.state (Rerun s) e due_is in
        subst (λ (x : Entry). Keeps (change_by app m [] x)) (sym found.0)
        (begun (one_more_unit (rested app m)) (run app (at_rest m.state) s) (subst (λ (x : Entry). ReadyAt app lawful (change_by app m [] x)) found.0 after)
        (λ v work now done. law.runs (at_rest m.state) v s work (rested_ready m.state r) now (rested_keeps m.state p) done))
    owed_on m (Some (PollTask t)) inputs e none r p more due_is after =
        let found = live_due app m.state (Poll t) e due_is in
        let w : State K = at_rest m.state in
        subst (λ (x : Entry). Keeps (change_by app m [] x)) (sym found.0)
        (calm_begun (one_more_unit (rested app m)) w (polled app w t) (polled_level app w t) (polled_idle app lawful (unqueued w t) t (at w.tasks t)) (rested_keeps m.state p))
    owed_on m (Some (RunEffects s)) inputs e none r p more due_is after =
        let found = live_due app m.state (Effects s) e due_is in
        let w : State K = at_rest m.state in
        subst (λ (x : Entry). Keeps (change_by app m [] x)) (sym found.0)
        (calm_begun (one_more_unit (rested app m)) w (effects_run app w s) (effects_level app w s) (batch_quiet app lawful (change w s (λ x. record x { effects = [] })) s (effects_of w s)) (rested_keeps m.state p))
    owed_on m None [] e none r p more due_is after = cc
    owed_on m None (input ∷ inputs) e none r p more due_is after =
        let found = live_due app m.state (Taken (m.taken + 1)) e due_is in
        let w : Machine K = rested app m in
        let u : Machine K = take_next w (input ∷ inputs) in
        let taken : Keeps u = idle_keeps u (take_work w (input ∷ inputs) ∙ none) (law.calms w.state u.state (take_level w (input ∷ inputs)) (rested_keeps m.state p)) in
        subst (λ (x : Entry). Keeps (change_by app m [] x)) (sym found.0) (subst (λ (items : List (Input K)). Keeps (take_next w items)) (sym more) taken)

    -- an entry of a listener that waits, else of what is owed
    heard_on : (m : Machine K) (listeners : List (Listener K)) (e : Entry) → m.work ≡ [] → Ready m.state [] → P m.state [] → waiting m ≡ listeners
        → if_live m.state (due_heard app m listeners) ≡ Some e → ReadyAt app lawful (change_by app m [] e)
        → Keeps (change_by app m [] e)
    heard_on m [] e none r p quiet due_is after = owed_on m (next m.state) m.inputs e none r p refl due_is after
    heard_on m (first ∷ others) e none r p heard due_is after =
        let found = live_due app m.state (Heard first.origin) e due_is in
        let u : Machine K = heard_event app m first others m.event in
        let now : Keeps u = idle_keeps u (heard_work app m first others m.event ∙ none) (law.calms m.state u.state (heard_level app m first others m.event) p) in
        subst (λ (x : Entry). Keeps (change_by app m [] x)) (sym found.0)
        (subst (λ (ls : List (Listener K)). Keeps (heard_first app m ls)) (sym heard) now)

    -- an entry where no work is open: the build first
    rest_on : (m : Machine K) (e : Entry) (built : Bool) → m.work ≡ [] → Ready m.state [] → P m.state []
        → if_live m.state (if built then due_heard app m (waiting m) else Some Build) ≡ Some e → ReadyAt app lawful (change_by app m [] e)
        → Keeps (change_by app m [] e)
    rest_on m e true none r p due_is after = heard_on m (waiting m) e none r p refl due_is after
    rest_on m e false none r p due_is after =
        let found = live_due app m.state Build e due_is in
        subst (λ (x : Entry). Keeps (change_by app m [] x)) (sym found.0)
        (begun (record m { built = true; unit = true }) (run app m.state 0) (subst (λ (x : Entry). ReadyAt app lawful (change_by app m [] x)) found.0 after)
        (λ v work now done. law.runs m.state v 0 work r now p done))

    logged_on : (limits : Limits) (m u : Machine K) (work : List (Item K)) (e : Entry) → m.work ≡ work → m.dead ≡ None → ReadyAt app lawful m → Moves app limits m (Logged e) u → P m.state m.work → Keeps u
    logged_on limits m u [] e none alive ready move p =
        let here : Ready m.state [] = subst (λ (xs : List (Item K)). Ready m.state xs) none (ready_of m ready alive) in
        let after : ReadyAt app lawful u = move_ready app lawful limits m u (Logged e) move ready in
        let gives : u ≡ change_by app m [] e = move.gives ∙ ap (λ (xs : List (Item K)). change_by app m xs e) none in
        subst (λ (x : Machine K). Keeps x) (sym gives)
        (rest_on m e m.built none here (subst (λ (xs : List (Item K)). P m.state xs) none p)
        (
        sym
        (ap (λ (o : Option Fault). if_live m.state (elim o as (λ z. Option Entry) [ None ↦ (if m.built then due_item app m m.work else Some Build) | Some fault ↦ None ])) alive
        ∙ ap (λ (items : List (Item K)). if_live m.state (if m.built then due_item app m items else Some Build)) none)
        ∙ move.due_is
        )
        (subst (λ (x : Machine K). ReadyAt app lawful x) gives after))
    logged_on limits m u (item ∷ rest) e first alive ready move p =
        elim (work_state app lawful m (item ∷ rest) first alive (ready.idle alive)) [
          | inl none ↦ let absurdity : item ∷ rest ≡ [] = sym first ∙ none in cc
          | inr h ↦ work_holds P law.inside limits m u (Logged e) item rest h ready move first p
        ]

    -- one move keeps it, where no fault ended the run
    move_keeps : (limits : Limits) (m u : Machine K) (move : Move) → m.dead ≡ None → ReadyAt app lawful m → Moves app limits m move u → P m.state m.work → Keeps u
    move_keeps limits m u Silent alive ready move p =
        elim (work_state app lawful m (move.item ∷ move.later) move.next alive (ready.idle alive)) [
          | inl none ↦ let absurdity : move.item ∷ move.later ≡ [] = sym move.next ∙ none in cc
          | inr h ↦ work_holds P law.inside limits m u Silent move.item move.later h ready move move.next p
        ]
    move_keeps limits m u Closed alive ready move p =
        let v : Machine K = record m { unit = false; state = mounted_state m.state } in
        subst (λ (x : Machine K). Keeps x) (sym move.gives)
        (idle_keeps v move.idle (law.calms m.state (mounted_state m.state) (mounted_level m.state) (subst (λ (xs : List (Item K)). P m.state xs) move.idle p)))
    move_keeps limits m u (Logged e) alive ready move p = logged_on limits m u m.work e refl alive ready move p

    pub moves_keep : (limits : Limits) (m v : Machine K) (moves : List Move) → Leads app limits m moves v → v.dead ≡ None → ReadyAt app lawful m → P m.state m.work → P v.state v.work
    moves_keep limits m v [] leads alive ready p = subst (λ (x : Machine K). P x.state x.work) (sym leads) p
    moves_keep limits m v (move ∷ moves) leads alive ready p =
        let here : m.dead ≡ None = alive_before app limits m v (move ∷ moves) m.dead refl leads alive in
        let there : (leads.0).dead ≡ None = alive_before app limits leads.0 v moves (leads.0).dead refl leads.2 alive in
        moves_keep limits leads.0 v moves leads.2 alive (move_ready app lawful limits m leads.0 move leads.1 ready) (move_keeps limits m leads.0 move here ready leads.1 p there)

    -- a call that logs no entry keeps it
    aside_keeps : (m u : Machine K) (a : Aside K) → IsAside app m a u → P m.state m.work → P u.state u.work
    aside_keeps m u a h p =
        let w : State K = m.state in
        let v : State K = aside_state app w a in
        let b : Beside app lawful m u v = beside app lawful m u a h in
        let none : u.work ≡ [] = b.work ∙ h.rest.idle in
        subst (λ (xs : List (Item K)). P u.state xs) (sym none)
        (subst (λ (x : State K). P x []) (sym b.state) (law.calms w v (aside_level app w a) (subst (λ (xs : List (Item K)). P w xs) h.rest.idle p)))

    -- on a program's way: it holds, until a fault ends the run
    record OnWay (m : Machine K) : Type 0 where
      ready : ReadyAt app lawful m
      holds : m.dead ≡ None → P m.state m.work

    moved_way : (limits : Limits) (m v : Machine K) (moves : List Move) → Leads app limits m moves v → OnWay m → OnWay v
    moved_way limits m v moves leads h =
        record {
          ready = moves_ready app lawful limits m v moves leads h.ready;
          holds = λ alive. moves_keep limits m v moves leads alive h.ready (h.holds (alive_before app limits m v moves m.dead refl leads alive));
        }

    aside_way : (m v : Machine K) (a : Aside K) → IsAside app m a v → OnWay m → OnWay v
    aside_way m v a is h =
        record {
          ready = aside_ready app lawful m v a is h.ready;
          holds = λ alive. aside_keeps m v a is (h.holds ((is.rest).alive));
        }

    -- so it holds wherever moves lead from a start at which it holds
    pub reached_keep : (limits : Limits) (props : K.Props) (inputs : List (Input K)) (m : Machine K) → (reached : Reached app limits props inputs m)
        → m.dead ≡ None
        → P (start_at app props reached.firsts reached.contexts inputs).state []
        → P m.state m.work
    reached_keep limits props inputs m reached alive p =
        let h : OnWay m =
        comes_keep app limits (λ (x : Machine K). OnWay x) (λ u v moves leads s. moved_way limits u v moves leads s) (λ u v a is s. aside_way u v a is s)
        reached.parts (start_at app props reached.firsts reached.contexts inputs) m reached.comes
        (record { ready = begun_ready app lawful props reached.firsts reached.contexts inputs reached.above; holds = λ lives. p }) in
        h.holds alive

    -- once the build has begun it holds, where it holds after the build's first run
    module _ (limits : Limits) (props : K.Props) (firsts : Firsts) (contexts : List (ℕ × K.Value)) (inputs : List (Input K)) (above : 0 < firsts.elements)
        (first : (v : State K) (work : List (Item K)) → Ready v work → run app (start_at app props firsts contexts inputs).state 0 ≡ Done v work → P v work) where
      abbrev begin : Machine K
      begin = start_at app props firsts contexts inputs

      ready : ReadyAt app lawful begin
      ready = begun_ready app lawful props firsts contexts inputs above

      by_moves : (m : Machine K) (moves : List Move) → Leads app limits begin moves m → (m ≡ begin) ⊎ (m.dead ≡ None → P m.state m.work)
      by_moves m [] leads = inl leads
      by_moves m (Silent ∷ moves) leads = let absurdity : [] ≡ (leads.1).item ∷ (leads.1).later = (leads.1).next in cc
      by_moves m (Closed ∷ moves) leads = let absurdity : false ≡ true = (leads.1).at_work in cc
      by_moves m (Logged e ∷ moves) leads =
          inr
          (
          λ alive.
          let is : Some Build ≡ Some e = (leads.1).due_is in
          let same : Build ≡ e = cc in
          let gives : leads.0 ≡ ended_by (record begin { built = true; unit = true }) None [] (run app begin.state 0) = (leads.1).gives ∙ ap (λ (x : Entry). change_by app begin [] x) (sym same) in
          let there : (leads.0).dead ≡ None = alive_before app limits leads.0 m moves (leads.0).dead refl leads.2 alive in
          let after : ReadyAt app lawful leads.0 = move_ready app lawful limits begin leads.0 (Logged e) leads.1 ready in
          let now : Keeps leads.0 =
          subst (λ (x : Machine K). Keeps x) (sym gives)
          (begun (record begin { built = true; unit = true }) (run app begin.state 0) (subst (λ (x : Machine K). ReadyAt app lawful x) gives after) (λ v work r done. first v work r done)) in
          moves_keep limits leads.0 m moves leads.2 alive after (now there)
          )

      record BuiltWay (m : Machine K) : Type 0 where
        set : ReadyAt app lawful m
        is : (m ≡ begin) ⊎ (m.dead ≡ None → P m.state m.work)

      moved_built : (m v : Machine K) (moves : List Move) → Leads app limits m moves v → BuiltWay m → BuiltWay v
      moved_built m v moves leads h =
          record {
            set = moves_ready app lawful limits m v moves leads h.set;
            is =
                elim h.is [
                  | inl same ↦ by_moves v moves (subst (λ (x : Machine K). Leads app limits x moves v) same leads)
                  | inr held ↦ inr (λ alive. moves_keep limits m v moves leads alive h.set (held (alive_before app limits m v moves m.dead refl leads alive)))
                ];
          }

      aside_built : (m v : Machine K) (a : Aside K) → IsAside app m a v → BuiltWay m → BuiltWay v
      aside_built m v a is h =
          record {
            set = aside_ready app lawful m v a is h.set;
            is =
                elim h.is [
                  | inl same ↦ let absurdity : false ≡ true = sym (ap (λ (x : Machine K). x.built) same) ∙ is.built in cc
                  | inr held ↦ inr (λ alive. aside_keeps m v a is (held ((is.rest).alive)))
                ];
          }

      way_built : (m : Machine K) (parts : List (Part K)) → Comes app limits begin parts m → BuiltWay m
      way_built m parts comes =
          comes_keep app limits (λ (x : Machine K). BuiltWay x) (λ u v moves leads s. moved_built u v moves leads s) (λ u v a is s. aside_built u v a is s)
          parts begin m comes (record { set = ready; is = inl refl })

    pub built_keep : (limits : Limits) (props : K.Props) (inputs : List (Input K)) (m : Machine K) → (reached : Reached app limits props inputs m)
        → m.dead ≡ None
        → m.built ≡ true
        → ((v : State K) (work : List (Item K)) → Ready v work
        → run app (start_at app props reached.firsts reached.contexts inputs).state 0 ≡ Done v work
        → P v work)
        → P m.state m.work
    built_keep limits props inputs m reached alive built first =
        elim (way_built limits props reached.firsts reached.contexts inputs reached.above first m reached.parts reached.comes).is [
          | inl same ↦ let absurdity : true ≡ false = sym built ∙ ap (λ (x : Machine K). x.built) same in cc
          | inr held ↦ held alive
        ]

  -- moves that serve work keep what each change of an item keeps
  module _ (P : State K → List (Item K) → Type 0) (law : Lasts P) where
    inside_at_work : (limits : Limits) (m u : Machine K) (move : Move) → AtWork m → Moves app limits m move u → Inside (move ∷ []) → u.dead ≡ None → AtWork u
    inside_at_work limits m u move h step inside alive =
        (inside_lasts app (Anything app lawful) anything_inside limits m u (move ∷ []) h (u, step, refl) inside alive tt).0
      where
        anything_inside : insides.Lasts app (Anything app lawful)
        anything_inside =
            record {
              serves = λ w v item rest work ready p e. tt;
              drops = λ w v scope parent side rest work first live p e. tt;
              thins = λ w v scope top parent side rest work first other live p e. tt;
            }

    inside_first : (move : Move) (moves : List Move) → Inside (move ∷ moves) → Inside (move ∷ []) × Inside moves
    inside_first Silent moves h = (tt, h)
    inside_first Closed moves h = absurd h
    inside_first (Logged e) moves h = ((h.0, tt), h.1)

    inside_keeps : (limits : Limits) (m u : Machine K) (move : Move) (work : List (Item K)) → m.work ≡ work → AtWork m → ReadyAt app lawful m → Moves app limits m move u → Inside (move ∷ []) → u.dead ≡ None → P m.state m.work → P u.state u.work
    inside_keeps limits m u move (item ∷ rest) first h ready step inside alive p = work_holds P law limits m u move item rest h ready step first p alive
    inside_keeps limits m u Silent [] first h ready step inside alive p = let absurdity : step.item ∷ step.later ≡ [] = sym step.next ∙ first in cc
    inside_keeps limits m u Closed [] first h ready step inside alive p = absurd inside
    inside_keeps limits m u (Logged e) [] first h ready step inside alive p = unsettled m [] h.alive first h.unit step.settled

    pub served_keep : (limits : Limits) (m v : Machine K) (moves : List Move) → AtWork m → Leads app limits m moves v → Inside moves → v.dead ≡ None → ReadyAt app lawful m → P m.state m.work
        → P v.state v.work × AtWork v
    served_keep limits m v [] h leads inside alive ready p = subst (λ (x : Machine K). P x.state x.work × AtWork x) (sym leads) (p, h)
    served_keep limits m v (move ∷ moves) h leads inside alive ready p =
        let there : (leads.0).dead ≡ None = alive_before app limits leads.0 v moves (leads.0).dead refl leads.2 alive in
        let parts = inside_first move moves inside in
        served_keep limits leads.0 v moves (inside_at_work limits m leads.0 move h leads.1 parts.0 there) leads.2 parts.1 alive (move_ready app lawful limits m leads.0 move leads.1 ready)
        (inside_keeps limits m leads.0 move m.work refl h ready leads.1 parts.0 there p)
