-- Who nobody else touches goes on to stand along moves.
use Rattle.std.proofs.Common.{ℕ, ◌+◌, ◌≤◌, ◌<◌, Bool, true, false, List, [], ◌∷◌, ◌≡◌, inl, inr, refl, sym, ap, ◌∙◌, subst, nat_eq, arith}
use Rattle.std.specs.Prelude.{Option, Some, None, ◌⊎◌, is_some}
use Rattle.std.specs.List.{AllByRecursion}
use Rattle.std.proofs.lemmas.Bool.{eqb-true}
use Rattle.rt_model.specs.Lists.{at}
use Rattle.rt_model.specs.Laws.{SameAt, IsLawful}
use Rattle.rt_model.specs.Program.{begun}
use Rattle.rt_model.specs.Tree.{Types}
use Rattle.rt_model.specs.World.{Source, Cell, Error, Context, Command, Write, DropCell, NewCell, NewContext, Reset, ReadInto, Firsts, World, Application}
use Rattle.rt_model.specs.State.{CellRow, TaskRow, values_of}
use Rattle.rt_model.specs.Next.{is_active, next}
use Rattle.rt_model.specs.Replay.{Entry, Poll, Removed, Machine, due_any}
use Rattle.rt_model.specs.Causes.{Limits}
use Rattle.rt_model.specs.Lasting.{Rises}
use Rattle.rt_model.proofs.Maps.{by_test, pick_true, pick_false, eq_same}
use Rattle.rt_model.proofs.Members.{clash}
use Rattle.rt_model.proofs.MachineFrames.{change_follows}
use Rattle.rt_model.proofs.LastsAlways.{live_of}
use Rattle.law_moves.specs.Moves.{Move, Silent, Closed, Logged, Moves, Leads}
use Rattle.law_behavior.specs.Along.{removed_in}
use Rattle.law_behavior.specs.Deeds.{Deed, move_deeds}
use Rattle.law_behavior.specs.Owed.{WakesArePolled}
use Rattle.law_lasting.specs.CellsLast.{TakenLeaves}
use Rattle.author_formulas.specs.Looking.{StandAlike}
use Rattle.author_formulas.specs.Formulas.{Formulas, FormulasLook, value_of}
use Rattle.author_formulas.specs.Memos.{MemoTask, fresh, memo, resource, cell_of, context_of, formula_of, PollsMemos}
use Rattle.author_formulas.specs.Polls.{computed}
use Rattle.author_formulas.proofs.Deciding.{looking_decides}
use Rattle.law_minding.specs.Minding.{polled_world}
use Rattle.law_minding.specs.Held.{Since, OtherThan, move_polls, move_removes, next_poll_world, Spares, after_poll, after_move, MoveSpares, HeldOn, held_to, Holds, IsFresh, IsKept}
use Rattle.law_minding.proofs.Minding.{agree, begun_anew, none_owes_poll}
use Rattle.law_minding.proofs.Values.{apart}
use Rattle.law_minding.proofs.Entries.{removes, polls_it}
use Rattle.law_minding.proofs.Since.{sees, Minding, Here, Minded}
use Rattle.law_minding.proofs.Leaving.{Leaves, MoveLeaves}
use Rattle.law_minding.proofs.Moved.{move_minds}
use Rattle.law_minding.proofs.Numbers.{NewFrom, AllNew, move_new, move_rises}
use Rattle.law_minding.proofs.Ending.{goes_with_scope}
use Rattle.law_minding.proofs.Fitting.{HeldFor}
use Rattle.law_minding.proofs.Rested.{alive_before}
use Rattle.law_minding.proofs.Holding.{Stage, memo_stage, resource_stage}
use Rattle.law_minding.proofs.Firsts.{fresh_stage}

module _
    {K : Types} {F : Type 0} (a : Formulas K F) (app : Application K) (state : MemoTask K.Value F → K.TaskState)
    (lawful : IsLawful K app) (looks : FormulasLook a) (polls : PollsMemos a app state) (limits : Limits) (t cell scope owner : ℕ) where
  abbrev Stands : Since K F → Machine K → Type 0
  Stands h m = Stage a state t cell scope owner h m

  -- who stood there stands there yet, or has ended
  module _ (h : Since K F) (m u : Machine K) (stage : Stage a state t cell scope owner h m) where
    abbrev MindedAt : Machine K → Type 0
    MindedAt v =
        Minded h.last t stage.context cell scope stage.held (state h.place) true stage.reads stage.target stage.home v.state

    pub onward : Rises m.state.next u.state.next → MindedAt u → Stands h u
    onward rises minded =
        record {
          context = stage.context;
          held = stage.held;
          reads = stage.reads;
          target = stage.target;
          home = stage.home;
          fits = stage.fits;
          owner_is = stage.owner_is;
          minded = minded;
          drawn = omega (arith, stage.drawn, rises.cells);
          numbered = omega (arith, stage.numbered, rises.contexts);
          outset = stage.outset;
          read = stage.read;
        }

    abbrev LeavesIt : Command K → Type 0
    LeavesIt c =
        Leaves h.last t stage.context cell scope stage.held true c

    other_number : (n : ℕ) → OtherThan (context_of h.place) n → nat_eq n stage.context ≡ false
    other_number n s = subst (λ (o : Option ℕ). OtherThan o n) stage.fits.its s

    other_cell : (n : ℕ) → nat_eq n (cell_of h.place) ≡ false → nat_eq n cell ≡ false
    other_cell n s = ap (λ (k : ℕ). nat_eq n k) (sym stage.fits.keeps) ∙ s

    leaves_it : (c : Command K) → Spares h.place c → NewFrom {K = K} h.last.given.next.cells (stage.context + 1) c → LeavesIt c
    leaves_it (Write n v) s k = other_cell n s
    leaves_it (DropCell n) s k = other_cell n s
    leaves_it (Reset n) s k = λ once. other_number n s
    leaves_it (ReadInto n source) s k = λ once. other_number n s
    leaves_it (NewContext n target) s k = λ once. apart stage.context n k
    leaves_it (NewCell n v) s k = k
    leaves_it c s k = tt

    pub all_leave : (cs : List (Command K)) → AllByRecursion (λ (c : Command K). Spares h.place c) cs
        → AllNew {K = K} h.last.given.next.cells (stage.context + 1) cs
        → AllByRecursion (λ (c : Command K). LeavesIt c) cs
    all_leave [] s k = tt
    all_leave (c ∷ cs) s k = (leaves_it c s.0 k.0, all_leave cs s.1 k.1)

    pub deeds_leave : (ds : List (Deed K)) → AllByRecursion (λ (d : Deed K). AllByRecursion (λ (c : Command K). Spares h.place c) d.wants) ds
        → AllByRecursion (λ (d : Deed K). AllNew {K = K} h.last.given.next.cells (stage.context + 1) d.wants) ds
        → AllByRecursion (λ (d : Deed K). AllByRecursion (λ (c : Command K). LeavesIt c) d.wants) ds
    deeds_leave [] s k = tt
    deeds_leave (d ∷ ds) s k = (all_leave d.wants s.0 k.0, deeds_leave ds s.1 k.1)

    -- a move that is no poll of the task, that spares it, and that doesn't remove its scope
    module _ (move : Move) (step : Moves app limits m move u) (none : move_polls t move ≡ false) (spares : MoveSpares a app m t owner h.place move) where
      rises : Rises m.state.next u.state.next
      rises = move_rises app lawful limits m u move step

      deeds : AllByRecursion (λ (d : Deed K). AllByRecursion (λ (c : Command K). LeavesIt c) d.wants) (move_deeds app m move)
      deeds =
          deeds_leave (move_deeds app m move) (spares none).0
          (move_new h.last.given.next.cells (stage.context + 1) app lawful m move (stage.drawn, stage.numbered))

      taken : TakenLeaves cell m.inputs move
      taken = subst (λ (k : ℕ). TakenLeaves k m.inputs move) stage.fits.keeps (spares none).1

      owner_stays : move_removes stage.held.owner move ≡ false
      owner_stays = ap (λ (k : ℕ). move_removes k move) stage.owner_is ∙ (spares none).2

      by_frame : MoveLeaves h.last t stage.context cell scope stage.held true m.inputs move
          → Stands h u
      by_frame leaves =
          onward rises
          (move_minds h.last t stage.context cell scope stage.held (state h.place) true stage.reads stage.target stage.home app lawful.tests_values lawful
          limits m u move step deeds leaves stage.minded)

    -- at the removal of its scope the task ends
    ends_here : (e : Entry) → Moves app limits m (Logged e) u → removed_in scope e ≡ true → Stands h u
    ends_here e step gone_scope =
        let removal = removes scope e gone_scope in
        let removed : Moves app limits m (Logged (Removed removal.0)) u = subst (λ (d : Entry). Moves app limits m (Logged d) u) removal.1 step in
        onward rise
        (record {
          low = omega (arith, low, rise.tasks);
          stands = inl (by removal.0 removed removal.2 (stage.minded).stands);
        })
      where
        rise : Rises m.state.next u.state.next
        rise = move_rises app lawful limits m u (Logged e) step

        low : t + 1 ≤ m.state.next.tasks
        low = (stage.minded).low

        by : (r : ℕ) → Moves app limits m (Logged (Removed r)) u → nat_eq r scope ≡ true
            → (at m.state.tasks t ≡ None) ⊎ Here h.last t stage.context cell scope stage.held (state h.place) true stage.reads stage.target stage.home m.state
            → at u.state.tasks t ≡ None
        by r removed own (inl gone) =
            let below : t < m.state.next.tasks = omega (arith, low) in
            subst (λ (z : Machine K). at z.state.tasks t ≡ None) (sym removed.gives) ((change_follows app lawful m m.work (Removed r)).ended t below gone)
        by r removed own (inr here) =
            goes_with_scope t app lawful r m here.row here.is (ap (λ (s : ℕ). nat_eq s r) (here.scope_is ∙ sym (eqb-true r scope own)) ∙ eq_same r) low limits u removed

    -- each move that is no poll of it
    pub other_move : (move : Move) → Moves app limits m move u → move_polls t move ≡ false → MoveSpares a app m t owner h.place move → Stands h u
    other_move Silent step none spares = by_frame Silent step none spares tt
    other_move Closed step none spares = by_frame Closed step none spares tt
    other_move (Logged e) step none spares =
        by_test (removed_in scope e)
        (λ q. ends_here e step q)
        (
        λ q.
        by_frame (Logged e) step none spares (none, q, owner_stays (Logged e) step none spares, taken (Logged e) step none spares)
        )

  -- the poll of it
  pub own_poll : (h : Since K F) (m u : Machine K) → Moves app limits m (Logged (Poll t)) u → u.dead ≡ None → Stands h m
      → Stands (after_poll a (next_poll_world m t scope) t h.place) u
  own_poll h m u step alive stage = by (stage.minded).stands
    where
      low : t + 1 ≤ m.state.next.tasks
      low = (stage.minded).low

      by : (at m.state.tasks t ≡ None) ⊎ Here h.last t stage.context cell scope stage.held (state h.place) true stage.reads stage.target stage.home m.state
          → Stands (after_poll a (next_poll_world m t scope) t h.place) u
      by (inl gone) =
          let live : is_some (at m.state.tasks t) ≡ true = (live_of m.state (due_any app m) (Poll t) step.due_is).1 in
          clash live (ap (λ (o : Option (TaskRow K)). is_some o) gone)
      by (inr here) =
          subst (λ (o : ℕ). Stage a state t cell scope o (after_poll a (next_poll_world m t scope) t h.place) u) stage.owner_is
          (subst
          (λ (s : ℕ). Stage a state t cell s stage.held.owner (after_poll a (next_poll_world m t s) t h.place) u) here.scope_is
          (at_place h.place refl))
        where
          x : TaskRow K
          x = here.row

          lives : is_some (at m.state.scopes x.scope) ≡ true
          lives = ap (λ (s : ℕ). is_some (at m.state.scopes s)) here.scope_is ∙ here.lives

          home : stage.reads.scope ≡ x.scope
          home = stage.home ∙ sym here.scope_is

          at_place : (p : MemoTask K.Value F) → h.place ≡ p → Stage a state t cell x.scope stage.held.owner (after_poll a (next_poll_world m t x.scope) t p) u
          at_place (fresh c f loads) e =
              let none : None ≡ Some stage.context = sym (ap (λ (p : MemoTask K.Value F). context_of p) e) ∙ stage.fits.its in cc
          at_place (memo c n f) e =
              let cell_is : c ≡ cell = sym (ap (λ (p : MemoTask K.Value F). cell_of p) e) ∙ stage.fits.keeps in
              let found : Some n ≡ Some stage.context = sym (ap (λ (p : MemoTask K.Value F). context_of p) e) ∙ stage.fits.its in
              let context_is : n ≡ stage.context = cc in
              subst (λ (k : ℕ). Stage a state t k x.scope stage.held.owner (after_poll a (next_poll_world m t x.scope) t (memo c n f)) u) cell_is
              (memo_stage a app state lawful looks polls m u limits t step x here.is low n c f stage.held stage.reads lives
              (subst (λ (k : ℕ). at m.state.cells k ≡ Some stage.held) (sym cell_is) here.holds)
              (subst (λ (k : ℕ). at m.state.contexts k ≡ Some stage.reads) (sym context_is) (here.context refl))
              stage.target
              home
              (subst (λ (k : ℕ). k + 1 ≤ m.state.next.contexts) (sym context_is) stage.numbered)
              (here.state_is ∙ ap (λ (p : MemoTask K.Value F). state p) e))
          at_place (resource c n f key number is_done) e =
              let cell_is : c ≡ cell = sym (ap (λ (p : MemoTask K.Value F). cell_of p) e) ∙ stage.fits.keeps in
              let found : Some n ≡ Some stage.context = sym (ap (λ (p : MemoTask K.Value F). context_of p) e) ∙ stage.fits.its in
              let context_is : n ≡ stage.context = cc in
              subst (λ (k : ℕ). Stage a state t k x.scope stage.held.owner (after_poll a (next_poll_world m t x.scope) t (resource c n f key number is_done)) u) cell_is
              (resource_stage a app state lawful looks polls m u limits t step x here.is low n c f stage.held stage.reads lives
              (subst (λ (k : ℕ). at m.state.cells k ≡ Some stage.held) (sym cell_is) here.holds)
              (subst (λ (k : ℕ). at m.state.contexts k ≡ Some stage.reads) (sym context_is) (here.context refl))
              stage.target
              home
              (subst (λ (k : ℕ). k + 1 ≤ m.state.next.contexts) (sym context_is) stage.numbered)
              key
              number
              is_done
              (here.state_is ∙ ap (λ (p : MemoTask K.Value F). state p) e)
              (held_for is_done
              (subst (λ (p : MemoTask K.Value F). Holds a p (computed a h.last h.call (formula_of h.place)).answer stage.held.value) e stage.fits.holds)))
            where
              held_for : (b : Bool) → Holds a (resource c n f key number b) (computed a h.last h.call (formula_of h.place)).answer stage.held.value
                  → HeldFor a f key number b stage.held.value
              held_for true g = g.1
              held_for false g = g.1

  -- one move
  next_stage : (h : Since K F) (m u : Machine K) (move : Move) → Moves app limits m move u → u.dead ≡ None → MoveSpares a app m t owner h.place move
      → Stands h m
      → Stands (after_move a m t scope move h) u
  next_stage h m u move step alive spares stage =
      by_test (move_polls t move)
      (
      λ q.
      subst (λ (z : Since K F). Stands z u) (sym (pick_true (after_poll a (next_poll_world m t scope) t h.place) h q)) (polled move step q)
      )
      (
      λ q.
      subst (λ (z : Since K F). Stands z u) (sym (pick_false (after_poll a (next_poll_world m t scope) t h.place) h q))
      (other_move h m u stage move step q spares)
      )
    where
      polled : (d : Move) → Moves app limits m d u → move_polls t d ≡ true → Stands (after_poll a (next_poll_world m t scope) t h.place) u
      polled Silent s q = clash q refl
      polled Closed s q = clash q refl
      polled (Logged e) s q = own_poll h m u (subst (λ (d : Entry). Moves app limits m (Logged d) u) (polls_it t e q) s) alive stage

  -- and all of them
  pub stands_on : (h : Since K F) (m v : Machine K) (moves : List Move) (leads : Leads app limits m moves v)
      → HeldOn a app limits t scope owner h m v moves leads
      → v.dead ≡ None
      → Stands h m
      → Stands (held_to a app limits t scope h m v moves leads) v
  stands_on h m v [] leads held alive stage = subst (λ (z : Machine K). Stands h z) (sym leads) stage
  stands_on h m v (move ∷ moves) leads held alive stage =
      stands_on (after_move a m t scope move h) leads.0 v moves leads.2 held.1 alive
      (next_stage h m leads.0 move leads.1 (alive_before app limits leads.0 v moves leads.2 alive) held.0 stage)

  -- where nothing is owed the formula comes to the same now
  pub stage_keeps : (h : Since K F) (v : Machine K) → Stands h v → WakesArePolled app → v.dead ≡ None → next v.state ≡ None → is_active v.state t ≡ true
      → (task : TaskRow K)
      → at v.state.tasks t ≡ Some task
      → StandAlike h.last (polled_world v.state t task)
      → IsKept a v.state t task h
  stage_keeps h v stage woken alive none active task there alike = by (stage.minded).stands
    where
      now : World K
      now = polled_world v.state t task

      f : F
      f = formula_of h.place

      see : (i : Source)
          → SameAt h.last (sees h.last t stage.context cell scope stage.held (state h.place) true stage.reads stage.target stage.home v.state) i
          → SameAt h.last now i
      see (Cell n) g = g
      see (Error s) g = g
      see (Context k s) g = g

      firsts : Firsts
      firsts = record (now.given.next) { cells = h.last.given.next.cells }

      same : Minding h.last t stage.context cell scope stage.held (state h.place) true stage.reads stage.target stage.home v.state
          → (computed a h.last h.call f).answer ≡ value_of a now h.last.given.next.cells f
      same (inl owes) = clash active (none_owes_poll app woken v t alive none owes)
      same (inr current) =
          looking_decides K K.Value h.last now (a.computes f) h.call (begun false firsts)
          (looks.looks f)
          stage.outset
          (begun_anew h.last firsts refl)
          alike
          (agree h.last now stage.reads.sources (computed a h.last h.call f).call.aside (λ i e. see i (current.1 i e)) stage.read)

      by : (at v.state.tasks t ≡ None) ⊎ Here h.last t stage.context cell scope stage.held (state h.place) true stage.reads stage.target stage.home v.state
          → IsKept a v.state t task h
      by (inl gone) = let absurdity : None ≡ Some task = sym gone ∙ there in cc
      by (inr here) = (
        stage.held.value,
        ap (λ (k : ℕ). (values_of v.state).cell k) stage.fits.keeps
            ∙ ap (λ (o : Option (CellRow K)). elim o as (λ z. Option K.Value) [ None ↦ None | Some c ↦ Some c.value ]) here.holds,
        subst (λ (x : K.Value). Holds a h.place x stage.held.value) (same here.minds) stage.fits.holds,
      )

-- the first poll
pub first_stands : {K : Types} {F : Type 0} (a : Formulas K F) (app : Application K) (state : MemoTask K.Value F → K.TaskState)
    → IsLawful K app
    → FormulasLook a
    → PollsMemos a app state
    → (limits : Limits) (t cell scope owner : ℕ) (m v : Machine K) (moves : List Move) (leads : Leads app limits m (Logged (Poll t) ∷ moves) v)
    → (f : F) (loads : Bool)
    → IsFresh state m.state t cell scope owner f loads
    → is_some (at m.state.scopes scope) ≡ true
    → at m.state.contexts m.state.next.contexts ≡ None
    → v.dead ≡ None
    → Stage a state t cell scope owner (after_poll a (next_poll_world m t scope) t (fresh cell f loads)) leads.0
first_stands a app state lawful looks polls limits t cell scope owner m v moves leads f loads start home free alive =
    subst (λ (o : ℕ). Stage a state t cell scope o (after_poll a (next_poll_world m t scope) t (fresh cell f loads)) leads.0) start.owner_is
    (subst (λ (s : ℕ). Stage a state t cell s start.row.owner (after_poll a (next_poll_world m t s) t (fresh cell f loads)) leads.0) start.scope_is
    (fresh_stage a app state lawful looks polls m leads.0 limits t leads.1 start.task start.task_is (omega (arith, start.drawn)) cell f loads start.state_is
    start.row
    (ap (λ (s : ℕ). is_some (at m.state.scopes s)) start.scope_is ∙ home)
    start.row_is
    free
    (alive_before app limits leads.0 v moves leads.2 alive)))
