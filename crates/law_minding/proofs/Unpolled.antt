-- A task that wasn't polled yet stands as it stood, and is owed its first poll.
use Rattle.std.proofs.Common.{ℕ, ◌+◌, ◌≤◌, ◌<◌, Bool, true, false, List, [], ◌∷◌, ◌≡◌, inl, inr, refl, sym, ap, ◌∙◌, subst, nat_eq, arith}
use Rattle.std.specs.Prelude.{Option, None, ◌⊎◌, is_some}
use Rattle.std.specs.List.{AllByRecursion}
use Rattle.std.proofs.lemmas.Bool.{eqb-true}
use Rattle.rt_model.specs.Lists.{at}
use Rattle.rt_model.specs.Laws.{IsLawful}
use Rattle.rt_model.specs.Tree.{Types}
use Rattle.rt_model.specs.World.{TaskTarget, Command, Write, DropCell, NewCell, NewContext, Reset, ReadInto, World, Application}
use Rattle.rt_model.specs.State.{CellRow, ContextRow, TaskRow, State, world_of}
use Rattle.rt_model.specs.Next.{next}
use Rattle.rt_model.specs.Replay.{Entry, Removed, Machine}
use Rattle.rt_model.specs.Causes.{Limits}
use Rattle.rt_model.specs.Lasting.{Rises}
use Rattle.rt_model.proofs.Maps.{by_test, eq_same}
use Rattle.rt_model.proofs.MachineFrames.{change_follows}
use Rattle.law_moves.specs.Moves.{Move, Silent, Closed, Logged, Moves, Leads}
use Rattle.law_behavior.specs.Along.{removed_in}
use Rattle.law_behavior.specs.Deeds.{Deed, move_deeds}
use Rattle.law_behavior.specs.Owed.{WakesArePolled, OwesPoll}
use Rattle.author_formulas.specs.Formulas.{Formulas}
use Rattle.author_formulas.specs.Memos.{MemoTask, fresh}
use Rattle.law_minding.specs.Held.{move_polls, MoveSpares, Spares}
use Rattle.law_minding.specs.Unpolled.{StandsFresh, UnpolledOn, FreshStay, FreshIsOwed}
use Rattle.law_minding.proofs.Minding.{none_owes_poll}
use Rattle.law_minding.proofs.Entries.{removes}
use Rattle.law_minding.proofs.Since.{Minding, Here, Minded}
use Rattle.law_minding.proofs.Leaving.{Leaves, MoveLeaves}
use Rattle.law_minding.proofs.Moved.{move_minds}
use Rattle.law_minding.proofs.Numbers.{NewFrom, AllNew, AllOf, move_new, move_rises}
use Rattle.law_minding.proofs.Ending.{goes_with_scope}

module _
    {K : Types} {F : Type 0} (a : Formulas K F) (app : Application K) (lawful : IsLawful K app) (limits : Limits)
    (t cell scope : ℕ) (f : F) (loads : Bool) (place : K.TaskState) (held : CellRow K) (last : World K) where
  -- where it stands
  abbrev task_then : MemoTask K.Value F
  task_then = fresh cell f loads

  -- no context is spoken of yet
  abbrev reads : ContextRow K
  reads = record { scope = scope; target = TaskTarget t; sources = [] }

  abbrev Is : State K → Type 0
  Is w = Minded last t 0 cell scope held place false reads refl refl w

  abbrev LeavesIt : Command K → Type 0
  LeavesIt c = Leaves last t 0 cell scope held false c

  leaves_it : (c : Command K) → Spares task_then c → NewFrom {K = K} last.given.next.cells 0 c → LeavesIt c
  leaves_it (Write n v) s k = s
  leaves_it (DropCell n) s k = s
  leaves_it (Reset n) s k = λ once. cc
  leaves_it (ReadInto n source) s k = λ once. cc
  leaves_it (NewContext n target) s k = λ once. cc
  leaves_it (NewCell n v) s k = k
  leaves_it c s k = tt

  all_leave : (cs : List (Command K)) → AllByRecursion (λ (c : Command K). Spares task_then c) cs
      → AllNew {K = K} last.given.next.cells 0 cs
      → AllByRecursion (λ (c : Command K). LeavesIt c) cs
  all_leave [] s k = tt
  all_leave (c ∷ cs) s k = (leaves_it c s.0 k.0, all_leave cs s.1 k.1)

  pub deeds_leave : (ds : List (Deed K)) → AllByRecursion (λ (d : Deed K). AllByRecursion (λ (c : Command K). Spares task_then c) d.wants) ds
      → AllOf {K = K} last.given.next.cells 0 ds
      → AllByRecursion (λ (d : Deed K). AllByRecursion (λ (c : Command K). LeavesIt c) d.wants) ds
  deeds_leave [] s k = tt
  deeds_leave (d ∷ ds) s k = (all_leave d.wants s.0 k.0, deeds_leave ds s.1 k.1)

  module _ (m u : Machine K) (low_cells : last.given.next.cells ≤ m.state.next.cells) (is : Is m.state) where
    ends_here : (e : Entry) → Moves app limits m (Logged e) u → removed_in scope e ≡ true → Is u.state
    ends_here e step gone_scope =
        let removal = removes scope e gone_scope in
        let removed : Moves app limits m (Logged (Removed removal.0)) u = subst (λ (d : Entry). Moves app limits m (Logged d) u) removal.1 step in
        record { low = omega (arith, low, rise.tasks); stands = inl (by removal.0 removed removal.2 is.stands) }
      where
        rise : Rises m.state.next u.state.next
        rise = move_rises app lawful limits m u (Logged e) step

        low : t + 1 ≤ m.state.next.tasks
        low = is.low

        by : (r : ℕ) → Moves app limits m (Logged (Removed r)) u → nat_eq r scope ≡ true
            → (at m.state.tasks t ≡ None) ⊎ Here last t 0 cell scope held place false reads refl refl m.state
            → at u.state.tasks t ≡ None
        by r removed own (inl gone) =
            let below : t < m.state.next.tasks = omega (arith, low) in
            subst (λ (z : Machine K). at z.state.tasks t ≡ None) (sym removed.gives) ((change_follows app lawful m m.work (Removed r)).ended t below gone)
        by r removed own (inr here) =
            goes_with_scope t app lawful r m here.row here.is (ap (λ (s : ℕ). nat_eq s r) (here.scope_is ∙ sym (eqb-true r scope own)) ∙ eq_same r) low limits u removed

    module _ (move : Move) (step : Moves app limits m move u) (none : move_polls t move ≡ false)
        (spares : MoveSpares a app m t held.owner task_then move) where
      by_frame : MoveLeaves last t 0 cell scope held false m.inputs move → Is u.state
      by_frame leaves =
          move_minds last t 0 cell scope held place false reads refl refl app lawful.tests_values lawful limits m u move step
          (deeds_leave (move_deeds app m move) (spares none).0 (move_new last.given.next.cells 0 app lawful m move (low_cells, omega arith)))
          leaves
          is

    pub one_stays : (move : Move) → Moves app limits m move u → move_polls t move ≡ false → MoveSpares a app m t held.owner task_then move → Is u.state
    one_stays Silent step none spares = by_frame Silent step none spares tt
    one_stays Closed step none spares = by_frame Closed step none spares tt
    one_stays (Logged e) step none spares =
        by_test (removed_in scope e)
        (λ q. ends_here e step q)
        (λ q. by_frame (Logged e) step none spares (none, q, (spares none).2, (spares none).1))

  pub all_stay : (m v : Machine K) (moves : List Move) (leads : Leads app limits m moves v) → UnpolledOn a app limits t held.owner task_then m v moves leads
      → last.given.next.cells ≤ m.state.next.cells
      → Is m.state
      → Is v.state
  all_stay m v [] leads calm low is = subst (λ (z : Machine K). Is z.state) (sym leads) is
  all_stay m v (move ∷ moves) leads calm low is =
      let rises = move_rises app lawful limits m leads.0 move leads.1 in
      all_stay leads.0 v moves leads.2 calm.2 (omega (arith, low, rises.cells)) (one_stays m leads.0 low is move leads.1 calm.0 calm.1)

pub fresh_stay : {K : Types} {F : Type 0} (a : Formulas K F) (app : Application K) (state : MemoTask K.Value F → K.TaskState) → FreshStay a app state
fresh_stay {K = K} a app state lawful limits m v moves t cell scope held f loads leads start calm there = by end.stands
  where
    last : World K
    last = world_of m.state 0 None false

    place : K.TaskState
    place = state (fresh cell f loads)

    none_lower : (n : ℕ) → n ≤ n
    none_lower n = omega arith

    end : Minded last t 0 cell scope held place false (record { scope = scope; target = TaskTarget t; sources = [] }) refl refl v.state
    end =
        all_stay a app lawful limits t cell scope f loads place held last m v moves leads calm (none_lower m.state.next.cells)
        (record {
          low = omega (arith, start.drawn);
          stands =
              inr
              (record {
                row = start.task;
                is = start.task_is;
                scope_is = start.scope_is;
                state_is = start.state_is;
                lives = start.lives;
                holds = start.row_is;
                context = λ once. cc;
                minds = inl start.owed;
              });
        })

    by : (at v.state.tasks t ≡ None) ⊎ Here last t 0 cell scope held place false (record { scope = scope; target = TaskTarget t; sources = [] }) refl refl v.state
        → StandsFresh state v.state t cell scope held f loads
    by (inl gone) =
        let absurdity : false ≡ true = sym (ap (λ (o : Option (TaskRow K)). is_some o) gone) ∙ there in
        cc
    by (inr here) =
        record {
          task = here.row;
          task_is = here.is;
          state_is = here.state_is;
          scope_is = here.scope_is;
          lives = here.lives;
          row_is = here.holds;
          drawn = omega (arith, end.low);
          owed = owes here.minds;
        }
      where
        owes : Minding last t 0 cell scope held place false (record { scope = scope; target = TaskTarget t; sources = [] }) refl refl v.state → OwesPoll v.state t
        owes (inl owed) = owed
        owes (inr h) = let absurdity : false ≡ true = h.0 in cc

pub fresh_is_owed : {K : Types} {F : Type 0} (app : Application K) (state : MemoTask K.Value F → K.TaskState) → WakesArePolled app → FreshIsOwed app state
fresh_is_owed app state woken m t cell scope held f loads start alive none = none_owes_poll app woken m t alive none start.owed
