-- From a task that stands fresh on.
use Rattle.std.proofs.Common.{true, not, ◌∷◌, ◌++◌, ◌≡◌, refl}
use Rattle.std.specs.Prelude.{None, is_some}
use Rattle.rt_model.specs.Lists.{at}
use Rattle.rt_model.specs.Tree.{Types}
use Rattle.rt_model.specs.World.{Application}
use Rattle.rt_model.specs.Next.{next, owes}
use Rattle.rt_model.specs.Replay.{Poll, Machine, due_any, is_quiet, start}
use Rattle.rt_model.proofs.Conjunctions.{and-left, and-right}
use Rattle.rt_model.proofs.LastsAlways.{live_of}
use Rattle.law_moves.specs.Moves.{IsSettled}
use Rattle.law_moves.proofs.Joins.{Leads-append}
use Rattle.law_moves.proofs.Logs.{logs_are_moves}
use Rattle.law_moves.proofs.Ways.{start_reached, reached_moved}
use Rattle.law_headline.proofs.Reports.{settled_after}
use Rattle.law_behavior.proofs.Leading.{quiet_alive}
use Rattle.law_behavior.specs.Owed.{WakesArePolled}
use Rattle.author_formulas.specs.Formulas.{Formulas}
use Rattle.author_formulas.specs.Memos.{MemoTask}
use Rattle.law_minding.specs.Held.{IsFresh}
use Rattle.law_minding.specs.Unpolled.{StandsFresh, FreshAreKept}
use Rattle.law_minding.proofs.Opened.{next_is_free}
use Rattle.law_minding.proofs.Level.{held_are_kept}
use Rattle.law_minding.proofs.Logged.{begins_with, none_next}
use Rattle.law_minding.proofs.Unpolled.{fresh_stay}

pub fresh_are_kept : {K : Types} {F : Type 0} (a : Formulas K F) (app : Application K) (state : MemoTask K.Value F → K.TaskState)
    → WakesArePolled app
    → FreshAreKept a app state
fresh_are_kept {K = K} a app state woken lawful looks polls limits props inputs m u v before between log t cell scope held f loads begun waited then_on settled fresh =
    let from : Machine K = start app props inputs in
    let led = logs_are_moves app limits from m before refl begun in
    let waits : IsSettled m = settled_after app limits before from m refl begun in
    let first = logs_are_moves app limits m u between waits waited in
    let still : IsSettled u = settled_after app limits between m u waits waited in
    let so_far = Leads-append app limits led.0 first.0 from m u led.1 first.1 in
    let reached = reached_moved app limits props inputs from u (led.0 ++ first.0) (start_reached app limits props inputs) so_far in
    let free : at u.state.contexts u.state.next.contexts ≡ None = next_is_free app lawful limits props inputs u (led.0 ++ first.0) so_far in
    let found = logs_are_moves app limits u v (Poll t ∷ log) still then_on in
    let polled = begins_with app limits u v found.0 (Poll t) log still found.1 found.2 in
    let live : is_some (at u.state.tasks t) ≡ true = (live_of u.state (due_any app u) (Poll t) (polled.1).1.due_is).1 in
    let quiet : is_quiet v ≡ true = and-left (is_quiet v) (not (owes v.state)) settled in
    let none : next v.state ≡ None = none_next (next v.state) (and-right (is_quiet v) (not (owes v.state)) settled) in (
      first.0,
      first.1,
      first.2,
      polled.0,
      polled.1,
      polled.2,
      λ calm kept active task there.
          let stands : StandsFresh state u.state t cell scope held f loads = fresh_stay a app state lawful limits m u first.0 t cell scope held f loads first.1 fresh calm live in
          let is : IsFresh state u.state t cell scope held.owner f loads =
          record {
            task = stands.task;
            task_is = stands.task_is;
            state_is = stands.state_is;
            scope_is = stands.scope_is;
            row = held;
            row_is = stands.row_is;
            owner_is = refl;
            drawn = stands.drawn;
          } in
          held_are_kept a app state woken lawful looks polls limits props inputs u v polled.0 t cell scope held.owner f loads polled.1 reached is stands.lives
          free kept (quiet_alive v quiet) none active task there,
    )
