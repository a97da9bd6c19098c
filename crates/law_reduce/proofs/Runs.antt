-- Along moves that run a page's scope: from its run on its last call was given the hooks that it has.
use Rattle.std.proofs.Common.{ℕ, Bool, true, false, ◌||◌, List, [], ◌∷◌, ◌≡◌, inl, inr, refl, sym, subst}
use Rattle.std.specs.Prelude.{Option, Some, None, length}
use Rattle.rt_model.specs.Lists.{at}
use Rattle.rt_model.specs.Tree.{Types, Own}
use Rattle.rt_model.specs.World.{Command, Application}
use Rattle.rt_model.specs.State.{LastCall, State}
use Rattle.rt_model.specs.Laws.{IsLawful}
use Rattle.rt_model.specs.Replay.{Entry, Build, Taken, Heard, Rerun, Poll, Effects, Made, Fed, Kept, Removed, Input, EventAt, WakeOf, WriteOf, MarkOf, Drain, Machine}
use Rattle.rt_model.specs.Causes.{Limits}
use Rattle.rt_model.specs.Told.{count_entries}
use Rattle.rt_model.specs.Reports.{is_opening}
use Rattle.rt_model.proofs.Maps.{by_test}
use Rattle.rt_model.proofs.Tour.{AllFresh}
use Rattle.law_moves.specs.Moves.{Move, Silent, Closed, Logged, entries, Moves, Leads}
use Rattle.law_moves.specs.Reached.{Reached}
use Rattle.law_moves.specs.Sorts.{FedFit}
use Rattle.law_moves.proofs.Insides.{alive_before}
use Rattle.law_moves.proofs.Ways.{reached_moved}
use Rattle.law_behavior.specs.Along.{removed_in, NoneRemoves}
use Rattle.law_behavior.specs.Owed.{runs_in}
use Rattle.law_behavior.proofs.Frames.{Free, permits}
use Rattle.law_behavior.proofs.Commanded.{AllAllowed}
use Rattle.law_behavior.proofs.Onwards.{MayTake, Sparing, waking_anyway, AllSparing, moves_on, good_anyway}
use Rattle.law_behavior.proofs.Steadfast.{Other, draw_anyway, all_allowed}
use Rattle.law_lasting.specs.ComponentsLast.{fed_in, NoneFeeds, component_of, ComponentsLast}
use Rattle.author_programs.specs.Cells.{Keeping}
use Rattle.author_programs.specs.Pages.{Pages, meaning_of_pages}
use Rattle.author_programs.specs.Shows.{KeepAll}
use Rattle.law_reduce.specs.Reads.{NoneRuns}
use Rattle.law_reduce.specs.Runs.{some_runs, RunsAreGiven}
use Rattle.law_reduce.proofs.Calm.{none_opens}
use Rattle.law_reduce.proofs.Calling.{Page_is, Told, page_frame, page_called}
use Rattle.law_reduce.proofs.Hooked.{both_last}
use Rattle.law_reduce.proofs.Handing.{Fits, Comes, logged_by}

-- one or the other
pub neither_first : (b c : Bool) → b || c ≡ true → b ≡ false → c ≡ true
neither_first true c h q = cc
neither_first false c h q = h

module _ {K : Types} (k : Keeping K.Value) (a : Pages K) (lawful : IsLawful K (meaning_of_pages k a)) (s : ℕ) (own : List ℕ) (c : K.Component) (same : (q : K.Props) → length (a.page c q).cells ≡ length own) where
  abbrev app : Application K
  app = meaning_of_pages k a

  abbrev Here : State K → Type 0
  Here w = Page_is k a s own c w

  abbrev So : State K → Type 0
  So w = Told k a s own c w

  abbrev Exactly : K.Props → State K → Type 0
  Exactly p w = component_of w s ≡ Some (Own c p)

  abbrev CameOf : Machine K → Entry → Machine K → Type 0
  CameOf m e u = Comes k a lawful s own c same m e u

  -- a move that doesn't remove the scope and hands it nothing leaves it that page's

  freely : (w : State K) (r : ℕ) (polled : Option ℕ) (cs : List (Command K)) → AllFresh app 0 cs → Unit {0}
      → AllAllowed app (λ v. Here v) (λ v. Here v) 0 (permits Free Free (λ t. Other s t) (λ t. Other s t)) (page_frame k a s own c) w r polled cs
  freely w r polled cs f g = all_allowed app (λ v. Here v) (λ v. Here v) 0 (λ t. Other s t) (λ t. Other s t) (page_frame k a s own c) w r polled cs f

  may_take : (inputs : List (Input K))
      → MayTake app (λ w. Here w) (λ w. Here w) 0 (permits Free Free (λ t. Other s t) (λ t. Other s t)) (page_frame k a s own c) (λ t. tt) (page_called k a s own c) (λ w r polled cs. Unit {0}) (λ w r polled cs f g. freely w r polled cs f g) (draw_anyway app) inputs
  may_take [] = tt
  may_take (WriteOf n v ∷ more) = tt
  may_take (EventAt name payload element bubbles ∷ more) = tt
  may_take (WakeOf t ∷ more) = tt
  may_take (MarkOf r ∷ more) = tt
  may_take (Drain messages ∷ more) = tt

  entry_leaves : (inputs : List (Input K)) (e : Entry) → removed_in s e ≡ false → fed_in s e ≡ false
      → Sparing app (λ w. Here w) (λ w. Here w) 0 (permits Free Free (λ t. Other s t) (λ t. Other s t)) (page_frame k a s own c) (λ t. tt) (page_called k a s own c) (λ w r polled cs. Unit {0}) (λ w r polled cs f g. freely w r polled cs f g) (draw_anyway app) inputs e
  entry_leaves inputs (Removed r) q h = q
  entry_leaves inputs Build q h = tt
  entry_leaves inputs (Taken n) q h = may_take inputs
  entry_leaves inputs (Heard r) q h = tt
  entry_leaves inputs (Rerun r) q h = tt
  entry_leaves inputs (Poll t) q h = tt
  entry_leaves inputs (Effects r) q h = tt
  entry_leaves inputs (Made r) q h = tt
  entry_leaves inputs (Fed r) q h = h
  entry_leaves inputs (Kept r) q h = h

  sparing : (limits : Limits) (m u : Machine K) (move : Move) (leads : Leads app limits m (move ∷ []) u) → NoneRemoves s (entries (move ∷ [])) → NoneFeeds s (entries (move ∷ []))
      → AllSparing app (λ w. Here w) (λ w. Here w) 0 (permits Free Free (λ t. Other s t) (λ t. Other s t)) (page_frame k a s own c) (λ t. tt) (page_called k a s own c) (λ w r polled cs. Unit {0}) (λ w r polled cs f g. freely w r polled cs f g) (draw_anyway app) limits m u (move ∷ []) leads
  sparing limits m u Silent leads stays unfed = (λ q. q, tt)
  sparing limits m u Closed leads stays unfed = tt
  sparing limits m u (Logged e) leads stays unfed = (
    (entry_leaves m.inputs e stays.0 unfed.0, waking_anyway app (λ w. Here w) (λ w. Here w) 0 (permits Free Free (λ t. Other s t) (λ t. Other s t)) (page_frame k a s own c) (λ t. tt) (page_called k a s own c) (λ w r polled cs. Unit {0}) (λ w r polled cs f g. freely w r polled cs f g) (draw_anyway app) (λ w c. tt) m e),
    λ q. q,
    tt,
  )

  move_leaves : (limits : Limits) (m u : Machine K) (move : Move) → Moves app limits m move u → NoneRemoves s (entries (move ∷ [])) → NoneFeeds s (entries (move ∷ [])) → Here m.state → Here u.state
  move_leaves limits m u move leads stays unfed h =
      moves_on app (λ w. Here w) (λ w. Here w) 0 (permits Free Free (λ t. Other s t) (λ t. Other s t)) (page_frame k a s own c) (λ t. tt) (page_called k a s own c) (λ w r polled cs. Unit {0}) (λ w r polled cs f g. freely w r polled cs f g) (draw_anyway app)
      limits m u (move ∷ []) (u, leads, refl)
      (
      good_anyway app (λ w. Here w) (λ w. Here w) 0 (permits Free Free (λ t. Other s t) (λ t. Other s t)) (page_frame k a s own c) (λ t. tt) (page_called k a s own c) (λ w r polled cs. Unit {0}) (λ w r polled cs f g. freely w r polled cs f g) (draw_anyway app)
      (λ w r polled cs. tt) limits m u (move ∷ []) (u, leads, refl)
      )
      (sparing limits m u move (u, leads, refl) stays unfed)
      h

  -- along moves from a machine that is reached
  module _ (fed : FedFit app) (lasts : ComponentsLast app) (limits : Limits) (props : K.Props) (inputs : List (Input K)) where
    abbrev Known : Machine K → Type 0
    Known m = Reached app limits props inputs m

    known_on : (m u : Machine K) (move : Move) → Moves app limits m move u → Known m → Known u
    known_on m u move leads known = reached_moved app limits props inputs m u (move ∷ []) known (u, leads, refl)

    fits_there : (m : Machine K) → Known m → m.dead ≡ None → m.built ≡ true → Fits m
    fits_there m known alive built = λ r t y side q d later work child there. fed lawful limits props inputs m known built alive r t y side q d later work child there

    came_of : (m u : Machine K) (e : Entry) → Moves app limits m (Logged e) u → Known m → m.dead ≡ None → is_opening e ≡ false → Here m.state → CameOf m e u
    came_of m u e move known alive opens h =
        subst (λ (x : Machine K). CameOf m e x) (sym move.gives) (logged_by k a lawful s own c same m e move.due_is opens (λ built. fits_there m known alive built) h)

    logged_leaves : (m u : Machine K) (e : Entry) → Moves app limits m (Logged e) u → Known m → m.dead ≡ None → is_opening e ≡ false → removed_in s e ≡ false → Here m.state → Here u.state
    logged_leaves m u e move known alive opens stays h =
        by_test (fed_in s e)
        (λ q. (came_of m u e move known alive opens h).handed q)
        (λ q. move_leaves limits m u (Logged e) move (stays, tt) (q, tt) h)

    -- it is that page's after them
    pub here_last : (m v : Machine K) (moves : List Move) → Leads app limits m moves v → Known m → v.dead ≡ None → count_entries is_opening (entries moves) ≡ 0 → NoneRemoves s (entries moves) → Here m.state → Here v.state
    here_last m v [] leads known alive none stays h = subst (λ (x : Machine K). Here x.state) (sym leads) h
    here_last m v (Silent ∷ moves) leads known alive none stays h =
        here_last leads.0 v moves leads.2 (known_on m leads.0 Silent leads.1 known) alive none stays (move_leaves limits m leads.0 Silent leads.1 tt tt h)
    here_last m v (Closed ∷ moves) leads known alive none stays h =
        here_last leads.0 v moves leads.2 (known_on m leads.0 Closed leads.1 known) alive none stays (move_leaves limits m leads.0 Closed leads.1 tt tt h)
    here_last m v (Logged e ∷ moves) leads known alive none stays h =
        let opens = none_opens (is_opening e) (count_entries is_opening (entries moves)) none in
        let living : m.dead ≡ None = alive_before app limits m v (Logged e ∷ moves) m.dead refl leads alive in
        here_last leads.0 v moves leads.2 (known_on m leads.0 (Logged e) leads.1 known) alive opens.1 stays.1 (logged_leaves m leads.0 e leads.1 known living opens.0 stays.0 h)

    -- where none of them runs it, it has the props that it had
    pub unrun_last : (p : K.Props) (m v : Machine K) (moves : List Move) → Leads app limits m moves v → Known m → v.dead ≡ None → count_entries is_opening (entries moves) ≡ 0 → NoneRemoves s (entries moves) → NoneRuns s (entries moves)
        → Here m.state → Exactly p m.state → Exactly p v.state
    unrun_last p m v [] leads known alive none stays unrun h exactly = subst (λ (x : Machine K). Exactly p x.state) (sym leads) exactly
    unrun_last p m v (Silent ∷ moves) leads known alive none stays unrun h exactly =
        unrun_last p leads.0 v moves leads.2 (known_on m leads.0 Silent leads.1 known) alive none stays unrun (move_leaves limits m leads.0 Silent leads.1 tt tt h)
        (lasts limits m leads.0 (Silent ∷ []) s (Own c p) (leads.0, leads.1, refl) tt tt exactly)
    unrun_last p m v (Closed ∷ moves) leads known alive none stays unrun h exactly =
        unrun_last p leads.0 v moves leads.2 (known_on m leads.0 Closed leads.1 known) alive none stays unrun (move_leaves limits m leads.0 Closed leads.1 tt tt h)
        (lasts limits m leads.0 (Closed ∷ []) s (Own c p) (leads.0, leads.1, refl) tt tt exactly)
    unrun_last p m v (Logged e ∷ moves) leads known alive none stays unrun h exactly =
        let u : Machine K = leads.0 in
        let opens = none_opens (is_opening e) (count_entries is_opening (entries moves)) none in
        let living : m.dead ≡ None = alive_before app limits m v (Logged e ∷ moves) m.dead refl leads alive in
        unrun_last p u v moves leads.2 (known_on m u (Logged e) leads.1 known) alive opens.1 stays.1 unrun.1 (logged_leaves m u e leads.1 known living opens.0 stays.0 h)
        (by_test (fed_in s e)
        (λ q. (came_of m u e leads.1 known living opens.0 h).kept q unrun.0 p exactly)
        (λ q. lasts limits m u (Logged e ∷ []) s (Own c p) (u, leads.1, refl) (stays.0, tt) (q, tt) exactly))

    -- where one of them runs it
    after_moves : (m v : Machine K) (moves : List Move) → Leads app limits m moves v → Known m → v.dead ≡ None
        → count_entries is_opening (entries moves) ≡ 0
        → NoneRemoves s (entries moves)
        → some_runs s (entries moves) ≡ true
        → Here m.state
        → So v.state
    after_moves m v [] leads known alive none stays runs h = let absurdity : false ≡ true = runs in cc
    after_moves m v (Silent ∷ moves) leads known alive none stays runs h =
        after_moves leads.0 v moves leads.2 (known_on m leads.0 Silent leads.1 known) alive none stays runs (move_leaves limits m leads.0 Silent leads.1 tt tt h)
    after_moves m v (Closed ∷ moves) leads known alive none stays runs h =
        after_moves leads.0 v moves leads.2 (known_on m leads.0 Closed leads.1 known) alive none stays runs (move_leaves limits m leads.0 Closed leads.1 tt tt h)
    after_moves m v (Logged e ∷ moves) leads known alive none stays runs h =
        let opens = none_opens (is_opening e) (count_entries is_opening (entries moves)) none in
        let u : Machine K = leads.0 in
        let living : m.dead ≡ None = alive_before app limits m v (Logged e ∷ moves) m.dead refl leads alive in
        by_test (runs_in s e)
        (
        λ q.
        let there : u.dead ≡ None = alive_before app limits u v moves u.dead refl leads.2 alive in
        both_last k s own None [] app limits u v moves leads.2 stays.1 ((came_of m u e leads.1 known living opens.0 h).ran q there)
        )
        (
        λ q.
        after_moves u v moves leads.2 (known_on m u (Logged e) leads.1 known) alive opens.1 stays.1 (neither_first (runs_in s e) (some_runs s (entries moves)) runs q)
        (logged_leaves m u e leads.1 known living opens.0 stays.0 h)
        )

    -- so its last call was given hooks that keep its cells
    pub run_is_given : (m v : Machine K) (moves : List Move) → Leads app limits m moves v → Known m → v.dead ≡ None
        → count_entries is_opening (entries moves) ≡ 0
        → NoneRemoves s (entries moves)
        → some_runs s (entries moves) ≡ true
        → Here m.state
        → (last : LastCall K)
        → at v.state.last_calls s ≡ Some last
        → KeepAll k last.given.given.hooks 0 own
    run_is_given m v moves leads known alive none stays runs h last e =
        elim ((after_moves m v moves leads known alive none stays runs h).1 last e) [ inl old ↦ impossible old.0 | inr kept ↦ kept ]
      where
        impossible : None ≡ Some last → KeepAll k last.given.given.hooks 0 own
        impossible none_is = cc

pub runs_are_given : (K : Types) → ((k : Keeping K.Value) (a : Pages K) → FedFit (meaning_of_pages k a)) → ((k : Keeping K.Value) (a : Pages K) → ComponentsLast (meaning_of_pages k a)) → RunsAreGiven K
runs_are_given K fed lasts k a lawful limits props inputs m v moves s x c p own known leads alive none stays there page keeps same runs last e =
    let begins : Page_is k a s own c m.state = record { row = x; there = there; holds = (keeps, p, page) } in
    run_is_given k a lawful s own c same (fed k a) (lasts k a) limits props inputs m v moves leads known alive none stays runs begins last e
