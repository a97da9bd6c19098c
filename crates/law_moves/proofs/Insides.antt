-- What each change of an item keeps, all moves that serve work keep.
use Rattle.std.proofs.Common.{ℕ, Bool, true, false, List, [], ◌∷◌, ◌++◌, ◌≡◌, refl, sym, ap, ◌∙◌, subst, nat_eq}
use Rattle.std.specs.Prelude.{Option, Some, None, if◌then◌else◌}
use Rattle.std.proofs.lemmas.Bool.{eqb-true}
use Rattle.rt_model.specs.Tree.{Types, Place, VComponent}
use Rattle.rt_model.specs.World.{Application}
use Rattle.rt_model.specs.State.{SideName, Fault, State, Item, Draw, Row, Feed, Make, Drop, Outcome, Done, Cut, is_live}
use Rattle.rt_model.specs.Removal.{next_removed, removed}
use Rattle.rt_model.specs.Replay.{Entry, Build, Made, Fed, Kept, Removed, Machine, ended_by, names_live, if_live, fed_child, keeps, due_feed, due_item, due, outcome_of, dropped, change_by}
use Rattle.rt_model.specs.Causes.{Limits}
use Rattle.rt_model.proofs.Maps.{by_test, pick_true, pick_false}
use Rattle.law_moves.specs.Moves.{Move, Silent, Closed, Logged, Inside, is_silent, IsSettled, AtWork, Leads}
use Rattle.law_moves.specs.Calls.{IsReady}
use Rattle.law_moves.proofs.OneMoveOnly.{unsettled}
use Rattle.law_moves.proofs.Items.{due_at_work}

module _ {K : Types} (app : Application K) where
  -- a fact of the state and its open work that each change of an item keeps
  pub record Lasts (P : State K → List (Item K) → Type 0) : Type 0 where
    -- an item that isn't a drop is served
    pub serves : (w v : State K) (item : Item K) (rest work : List (Item K)) → IsReady w item → P w (item ∷ rest) → outcome_of app w item ≡ Done v work → P v (work ++ rest)
    -- the scope that a drop names goes
    pub drops : (w v : State K) (scope parent : ℕ) (side : SideName) (rest work : List (Item K)) → next_removed w scope ≡ scope → is_live w scope ≡ true
        → P w (Drop scope parent side ∷ rest) → removed app w scope ≡ Done v work → P v (work ++ rest)
    -- a scope below it goes
    pub thins : (w v : State K) (scope top parent : ℕ) (side : SideName) (rest work : List (Item K)) → next_removed w top ≡ scope → nat_eq scope top ≡ false → is_live w scope ≡ true
        → P w (Drop top parent side ∷ rest) → removed app w scope ≡ Done v work → P v (work ++ Drop top parent side ∷ rest)

  -- after a fault no move comes
  dead_ends : (limits : Limits) (m u : Machine K) (moves : List Move) (fault : Fault) → m.dead ≡ Some fault → Leads app limits m moves u → u.dead ≡ Some fault
  dead_ends limits m u [] fault dead leads = ap (λ (x : Machine K). x.dead) leads ∙ dead
  dead_ends limits m u (Silent ∷ moves) fault dead leads = let absurdity : Some fault ≡ None = sym dead ∙ leads.1.alive in cc
  dead_ends limits m u (Closed ∷ moves) fault dead leads = let absurdity : Some fault ≡ None = sym dead ∙ leads.1.alive in cc
  dead_ends limits m u (Logged e ∷ moves) fault dead leads =
      let none : due app m ≡ None =
      ap (λ (o : Option Fault). if_live m.state (elim o as (λ z. Option Entry) [ None ↦ (if m.built then due_item app m m.work else Some Build) | Some f ↦ None ])) dead in
      let absurdity : None ≡ Some e = sym none ∙ leads.1.due_is in
      cc

  -- so where moves lead to a machine that is alive, each one on the way is
  pub alive_before : (limits : Limits) (m u : Machine K) (moves : List Move) (o : Option Fault) → m.dead ≡ o → Leads app limits m moves u → u.dead ≡ None → m.dead ≡ None
  alive_before limits m u moves None is leads alive = is
  alive_before limits m u moves (Some fault) is leads alive =
      let absurdity : Some fault ≡ None = sym (dead_ends limits m u moves fault is leads) ∙ alive in
      cc

  -- an entry that is due names what is there
  pub live_due : (w : State K) (d e : Entry) → if_live w (Some d) ≡ Some e → (e ≡ d) × (names_live w d ≡ true)
  live_due w d e h =
      by_test (names_live w d)
      (λ q. let same : Some d ≡ Some e = sym (pick_true (Some d) None q) ∙ h in (cc, q))
      (λ q. let absurdity : None ≡ Some e = sym (pick_false (Some d) None q) ∙ h in cc)

  -- the entry of a make
  pub made_due : (w : State K) (live : Bool) (n : ℕ) (e : Entry) → if_live w (if live then Some (Made n) else None) ≡ Some e → (live ≡ true) × (e ≡ Made n)
  made_due w true n e h = (refl, cc)
  made_due w false n e h = cc

  -- the entry of a feed
  pub fed_due : (w : State K) (c : VComponent K) (o : Option ℕ) (e : Entry) → if_live w (due_feed app w c o) ≡ Some e
      → (t : ℕ) × (o ≡ Some t) × (e ≡ (if keeps app w t c then Kept t else Fed t)) × (is_live w t ≡ true)
  fed_due w c None e h = cc
  fed_due w c (Some t) e h =
      let found = live_due w (if keeps app w t c then Kept t else Fed t) e h in
      (t, refl, found.0, names (keeps app w t c) found.1)
    where
      names : (b : Bool) → names_live w (if b then Kept t else Fed t) ≡ true → is_live w t ≡ true
      names true q = q
      names false q = q

  pub fed_change : (m : Machine K) (s : ℕ) (side : SideName) (p : Place) (c : VComponent K) (rest : List (Item K)) (t : ℕ) (b : Bool)
      → change_by app m (Feed s side p c ∷ rest) (if b then Kept t else Fed t) ≡ ended_by m (Some (Feed s side p c)) rest (outcome_of app m.state (Feed s side p c))
  fed_change m s side p c rest t true = refl
  fed_change m s side p c rest t false = refl

  module _ (P : State K → List (Item K) → Type 0) (law : Lasts P) where
    -- a machine is at work and the fact holds there, unless a fault ended the run
    abbrev pub Holds : Machine K → Type 0
    Holds u = u.dead ≡ None → AtWork u × P u.state u.work

    ended_holds : (m : Machine K) (item : Option (Item K)) (rest : List (Item K)) (o : Outcome K) → AtWork m
        → ((v : State K) (work : List (Item K)) → o ≡ Done v work → P v (work ++ rest))
        → Holds (ended_by m item rest o)
    ended_holds m item rest (Done v work) h keeps = λ alive. (record { alive = alive; built = h.built; unit = h.unit }, keeps v work refl)
    ended_holds m item rest (Cut v fault) h keeps = λ alive. let absurdity : Some fault ≡ None = alive in cc

    -- the first item is served
    pub served_holds : (m : Machine K) (item : Item K) (rest : List (Item K)) → AtWork m → m.work ≡ item ∷ rest → P m.state m.work → IsReady m.state item
        → Holds (ended_by m (Some item) rest (outcome_of app m.state item))
    served_holds m item rest h next p ready =
        let here : P m.state (item ∷ rest) = subst (λ (items : List (Item K)). P m.state items) next p in
        ended_holds m (Some item) rest (outcome_of app m.state item) h (λ v work e. law.serves m.state v item rest work ready here e)

    pub silent_holds : (m : Machine K) (item : Item K) (rest : List (Item K)) → is_silent item ≡ true → AtWork m → m.work ≡ item ∷ rest → P m.state m.work
        → Holds (ended_by m (Some item) rest (outcome_of app m.state item))
    silent_holds m (Draw s side q k) rest silent h next p = served_holds m (Draw s side q k) rest h next p tt
    silent_holds m (Row b step) rest silent h next p = served_holds m (Row b step) rest h next p tt
    silent_holds m (Feed s side q c) rest silent h next p = cc
    silent_holds m (Make s side q c) rest silent h next p = cc
    silent_holds m (Drop t s side) rest silent h next p = cc

    dropped_holds : (m : Machine K) (scope top parent : ℕ) (side : SideName) (rest : List (Item K)) → AtWork m → next_removed m.state top ≡ scope → is_live m.state scope ≡ true
        → P m.state (Drop top parent side ∷ rest)
        → Holds (dropped app m scope top (Drop top parent side) rest)
    dropped_holds m scope top parent side rest h first live p =
        let item : Item K = Drop top parent side in
        let o : Outcome K = removed app m.state scope in
        let own : Machine K = ended_by m (Some item) rest o in
        let below : Machine K = ended_by m (Some item) (item ∷ rest) o in
        by_test (nat_eq scope top)
        (
        λ q.
        let same : scope ≡ top = eqb-true scope top q in
        subst (λ (x : Machine K). Holds x) (sym (pick_true own below q))
        (ended_holds m (Some item) rest o h
        (
        λ v work e.
        law.drops m.state v scope parent side rest work (ap (λ (n : ℕ). next_removed m.state n) same ∙ first) live
        (subst (λ (n : ℕ). P m.state (Drop n parent side ∷ rest)) (sym same) p) e
        ))
        )
        (
        λ q.
        subst (λ (x : Machine K). Holds x) (sym (pick_false own below q))
        (ended_holds m (Some item) (item ∷ rest) o h (λ v work e. law.thins m.state v scope top parent side rest work first q live p e))
        )

    -- an entry of the first item
    pub logged_holds : (m : Machine K) (work : List (Item K)) (e : Entry) → AtWork m → m.work ≡ work → IsSettled m → if_live m.state (due_item app m work) ≡ Some e → P m.state m.work
        → Holds (change_by app m work e)
    logged_holds m [] e h next settled due_is p = unsettled m [] h.alive next h.unit settled
    logged_holds m (Draw s side q k ∷ rest) e h next settled due_is p = unsettled m (Draw s side q k ∷ rest) h.alive next refl settled
    logged_holds m (Row b step ∷ rest) e h next settled due_is p = unsettled m (Row b step ∷ rest) h.alive next refl settled
    logged_holds m (Make s side q c ∷ rest) e h next settled due_is p =
        let found = made_due m.state (is_live m.state s) m.state.next_scope e due_is in
        subst (λ (x : Entry). Holds (change_by app m (Make s side q c ∷ rest) x)) (sym found.1) (served_holds m (Make s side q c) rest h next p found.0)
    logged_holds m (Feed s side q c ∷ rest) e h next settled due_is p =
        let found = fed_due m.state c (fed_child m.state s side q) e due_is in
        let t : ℕ = found.0 in
        subst (λ (x : Machine K). Holds x)
        (sym (fed_change m s side q c rest t (keeps app m.state t c)) ∙ ap (λ (x : Entry). change_by app m (Feed s side q c ∷ rest) x) (sym found.2))
        (served_holds m (Feed s side q c) rest h next p (t, found.1, found.3))
    logged_holds m (Drop top parent side ∷ rest) e h next settled due_is p =
        let found = live_due m.state (Removed (next_removed m.state top)) e due_is in
        subst (λ (x : Entry). Holds (change_by app m (Drop top parent side ∷ rest) x)) (sym found.0)
        (dropped_holds m (next_removed m.state top) top parent side rest h refl found.1 (subst (λ (items : List (Item K)). P m.state items) next p))

    -- from a machine at work, moves that serve work keep the fact up to a machine that is alive, and it is at work
    pub inside_lasts : (limits : Limits) (m u : Machine K) (moves : List Move) → AtWork m → Leads app limits m moves u → Inside moves → u.dead ≡ None → P m.state m.work
        → AtWork u × P u.state u.work
    inside_lasts limits m u [] h leads inside alive p = subst (λ (x : Machine K). AtWork x × P x.state x.work) (sym leads) (h, p)
    inside_lasts limits m u (Silent ∷ moves) h leads inside alive p =
        let move = leads.1 in
        let held : Holds leads.0 = subst (λ (x : Machine K). Holds x) (sym move.gives) (silent_holds m move.item move.later move.silent h move.next p) in
        let now = held (alive_before limits leads.0 u moves (leads.0).dead refl leads.2 alive) in
        inside_lasts limits leads.0 u moves now.0 leads.2 inside alive now.1
    inside_lasts limits m u (Closed ∷ moves) h leads inside alive p = absurd inside
    inside_lasts limits m u (Logged e ∷ moves) h leads inside alive p =
        let move = leads.1 in
        let due_is : if_live m.state (due_item app m m.work) ≡ Some e = sym (due_at_work app m m.work h refl) ∙ move.due_is in
        let held : Holds leads.0 = subst (λ (x : Machine K). Holds x) (sym move.gives) (logged_holds m m.work e h refl move.settled due_is p) in
        let now = held (alive_before limits leads.0 u moves (leads.0).dead refl leads.2 alive) in
        inside_lasts limits leads.0 u moves now.0 leads.2 inside.1 alive now.1
